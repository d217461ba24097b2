-- What was given to the builder: the file's class and byte order, and the sections.
use Rattle.std.specs.Prelude.{ℕ, List}
use Rattle.elf_sections.specs.declared.class_layout.ClassLayout.{ClassLayout}
use Rattle.elf_builder.specs.declared.sections.GivenSection.{GivenSection}

-- a section as it was given: its name and its bytes
pub record Given : Type 0 where
  pub name : List ℕ
  pub bytes : List ℕ

-- what contracts see of a section that the builder keeps
abbrev pub given : GivenSection → Given
given s = record { name = s.name.items; bytes = s.bytes.items }

-- a file before it is made: its class and byte order, and its sections in the order of adding
pub record GivenFile : Type 0 where
  pub layout : ClassLayout
  pub sections : List Given
