-- A number in a field of fixed width (gABI, 'Data Representation').
use Rattle.std.specs.Prelude.{ℕ, List}
use Rattle.std.specs.Int.{bytes_low_first, bytes_high_first}
use Rattle.dw_fields.specs.declared.byte_order.Order.{Order}
use Rattle.dw_fields.specs.declared.byte_order.Order.TheVariants.{Little, Big}
use Rattle.elf_sections.specs.declared.class_layout.ClassLayout.{ClassLayout}
use Rattle.elf_sections.specs.Layouts.{word_size}

-- the n bytes of a field, the lowest first (ELFDATA2LSB) or the highest (ELFDATA2MSB); of a number that is
-- too large, the lowest n bytes
unfoldable pub field : Order → ℕ → ℕ → List ℕ
field Little n x = bytes_low_first 0 n x
field Big n x = bytes_high_first n x

-- an address, an offset or a size
unfoldable pub word_field : ClassLayout → ℕ → List ℕ
word_field layout x = field layout.order (word_size layout) x
