-- The headers of a file of either class and byte order (gABI, chapter 4, 'ELF Header' and 'Sections').
use Rattle.std.specs.Prelude.{ℕ, ◌+◌, Bool, if◌then◌else◌, List, [], ◌∷◌, ◌++◌}
use Rattle.dw_fields.specs.declared.byte_order.Order.{Order}
use Rattle.dw_fields.specs.declared.byte_order.Order.TheVariants.{Little, Big}
use Rattle.elf_sections.specs.declared.class_layout.ClassLayout.{ClassLayout}
use Rattle.elf_sections.specs.Headers.{file_header_size, section_header_size}
use Rattle.elf_builder.specs.Fields.{field, word_field}

-- EI_CLASS: 2 of 64-bit files, 1 of 32-bit files
unfoldable pub class_number : Bool → ℕ
class_number wide = if wide then 2 else 1

-- EI_DATA
unfoldable pub encoding_number : Order → ℕ
encoding_number Little = 1
encoding_number Big = 2

-- e_ident: the magic number, the class, the byte order, version 1, nine zero bytes
unfoldable pub identification : ClassLayout → List ℕ
identification layout = 127 ∷ 69 ∷ 76 ∷ 70 ∷ class_number layout.wide ∷ encoding_number layout.order ∷ 1 ∷ 0 ∷ 0 ∷ 0 ∷ 0 ∷ 0 ∷ 0 ∷ 0 ∷ 0 ∷ 0 ∷ []

-- e_type 2 (executable), e_machine 62 (x86-64), e_version 1, e_entry, e_phoff, e_shoff
unfoldable pub front : ClassLayout → ℕ → List ℕ
front layout headers = field layout.order 2 2 ++ field layout.order 2 62 ++ field layout.order 4 1 ++ word_field layout 0 ++ word_field layout 0 ++ word_field layout headers

-- e_flags, e_ehsize, e_phentsize, e_phnum, e_shentsize, e_shnum, e_shstrndx
unfoldable pub back : ClassLayout → ℕ → List ℕ
back layout given = field layout.order 4 0 ++ field layout.order 2 (file_header_size layout) ++ field layout.order 2 0 ++ field layout.order 2 0 ++ field layout.order 2 (section_header_size layout) ++ field layout.order 2 (given + 2) ++ field layout.order 2 (given + 1)

-- the file's header: its section headers stand at the place `headers`, and besides the given
-- sections there are the empty section 0 and, last, that of the names
unfoldable pub file_header_bytes : ClassLayout → ℕ → ℕ → List ℕ
file_header_bytes layout headers given = identification layout ++ front layout headers ++ back layout given

-- sh_name, sh_type, sh_flags, sh_addr, sh_offset, sh_size, sh_link, sh_info, sh_addralign, sh_entsize
unfoldable pub section_header : ClassLayout → ℕ → ℕ → ℕ → ℕ → List ℕ
section_header layout name kind place size = field layout.order 4 name ++ field layout.order 4 kind ++ word_field layout 0 ++ word_field layout 0 ++ word_field layout place ++ word_field layout size ++ field layout.order 4 0 ++ field layout.order 4 0 ++ word_field layout 1 ++ word_field layout 0
