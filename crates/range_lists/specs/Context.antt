-- What the entries of a list depend on besides its bytes: the sections, the unit's version, the bytes
-- of an address, and the unit's bases.
use Rattle.std.specs.Prelude.{ℕ, Bool, ◌==◌}
use Rattle.elf_sections.specs.Shapes.{SectionsView, sections_view}
use Rattle.form_values.specs.declared.raw.Bases.{Bases}
use Rattle.range_lists.specs.declared.context.UnitContext.{UnitContext}

pub record Context : Type 0 where
  pub sections : SectionsView
  pub version : ℕ
  pub size : ℕ
  pub bases : Bases

abbrev pub context : SectionsView → ℕ → ℕ → Bases → Context
context sections version size bases =
    record { sections = sections; version = version; size = size; bases = bases }

abbrev pub context_view : UnitContext → Context
context_view u =
    context (sections_view u.sections.now) u.header.now.version u.header.now.address_size
    u.bases.now

-- The lists of a unit of version 4 are pairs of addresses, in sections of their own (DWARF 4, sections
-- 2.6.2 and 2.17.3). Those of a later one have kinds.
unfoldable pub has_pairs : ℕ → Bool
has_pairs version = version == 4
