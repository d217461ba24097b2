-- The file of the given sections: our own choice of a shape that the gABI allows.
use Rattle.std.specs.Prelude.{ℕ, ◌+◌, List, [], ◌∷◌, ◌++◌, length, replicate, codes}
use Rattle.elf_sections.specs.declared.class_layout.ClassLayout.{ClassLayout}
use Rattle.elf_sections.specs.Headers.{file_header_size, section_header_size}
use Rattle.elf_builder.specs.Given.{Given, GivenFile}
use Rattle.elf_builder.specs.Headers.{file_header_bytes, section_header}

-- the bytes of the sections, in order and without gaps
unfoldable pub given_contents : List Given → List ℕ
given_contents [] = []
given_contents (s ∷ sections) = s.bytes ++ given_contents sections

-- each name with a zero byte
unfoldable pub ended_names : List Given → List ℕ
ended_names [] = []
ended_names (s ∷ sections) = (s.name ++ 0 ∷ []) ++ ended_names sections

-- a zero byte, which is the empty name, and each name with a zero byte
unfoldable pub given_names : List Given → List ℕ
given_names sections = 0 ∷ ended_names sections

-- the name of the section of the names, with its zero byte
unfoldable pub own_name : List ℕ
own_name = codes ".shstrtab" ++ 0 ∷ []

-- the header of section 0, which says nothing
unfoldable pub no_header : ClassLayout → List ℕ
no_header layout = replicate (section_header_size layout) 0

-- the headers of the sections, the first of which has its name at `name` among the names and its
-- bytes at `place` in the file; their type is 1 (SHT_PROGBITS)
unfoldable pub given_headers : ClassLayout → ℕ → ℕ → List Given → List ℕ
given_headers layout name place [] = []
given_headers layout name place (s ∷ sections) =
    section_header layout name 1 place (length s.bytes)
    ++ given_headers layout (name + length s.name + 1) (place + length s.bytes) sections

-- the names of all sections, the last of which is that of the names themselves
abbrev pub all_names : List Given → List ℕ
all_names sections = given_names sections ++ own_name

-- what stands between the file's header and the section headers: the bytes of the sections, and
-- behind them the names
abbrev pub parts_of : List Given → List ℕ
parts_of sections = given_contents sections ++ all_names sections

-- the file's header, the bytes and the names, and the section headers: that of section 0, one for
-- each given section, and one of type 3 (SHT_STRTAB) for the names
unfoldable pub elf_file_of : GivenFile → List ℕ
elf_file_of file =
    file_header_bytes file.layout (file_header_size file.layout + length (parts_of file.sections)) (length file.sections)
    ++ parts_of file.sections
    ++ no_header file.layout
    ++ given_headers file.layout 1 (file_header_size file.layout) file.sections
    ++ section_header file.layout (length (given_names file.sections)) 3 (file_header_size file.layout + length (given_contents file.sections)) (length (all_names file.sections))
