-- The file that is generated for a number of units: a little-endian 64-bit file of five sections. All numbers in it
-- are little-endian. It is a choice of our own; DWARF 5 says what its bytes mean.
use Rattle.std.specs.Prelude.{ℕ, ◌+◌, ◌*◌, ◌/◌, ◌%◌, true, List, [], ◌∷◌, ◌++◌, codes}
use Rattle.std.specs.Int.{bytes_low_first}
use Rattle.std.specs.List.{flat_map, range_with_len}
use Rattle.dw_fields.specs.declared.byte_order.Order.TheVariants.{Little}
use Rattle.elf_builder.specs.File.{elf_file_of}
use Rattle.elf_builder.specs.Given.{GivenFile}

-- numbers of two, four and eight bytes
unfoldable pub two : ℕ → List ℕ
two x = bytes_low_first 0 2 x

unfoldable pub four : ℕ → List ℕ
four x = bytes_low_first 0 4 x

unfoldable pub eight : ℕ → List ℕ
eight x = bytes_low_first 0 8 x

-- The table of declarations (DWARF 5 section 7.5.3), of 55 bytes. Code 1 is a compilation unit with children: name
-- (line_strp), producer (strp), low_pc (addr), high_pc (data4), ranges (sec_offset).
unfoldable pub unit_declaration : List ℕ
unit_declaration = 0x01 ∷ 0x11 ∷ 0x01 ∷ 0x03 ∷ 0x1f ∷ 0x25 ∷ 0x0e ∷ 0x11 ∷ 0x01 ∷ 0x12 ∷ 0x06 ∷ 0x55 ∷ 0x17 ∷ 0x00 ∷ 0x00 ∷ []

-- code 2 is a base type: name (strp), byte_size (data1), encoding (data1)
unfoldable pub type_declaration : List ℕ
type_declaration = 0x02 ∷ 0x24 ∷ 0x00 ∷ 0x03 ∷ 0x0e ∷ 0x0b ∷ 0x0b ∷ 0x3e ∷ 0x0b ∷ 0x00 ∷ 0x00 ∷ []

-- code 3 is a subprogram: name (strp), external (flag_present), decl_line (data1), type (ref4), low_pc (addr), high_pc
-- (data4)
unfoldable pub function_declaration : List ℕ
function_declaration =
    0x03 ∷ 0x2e ∷ 0x00 ∷ 0x03 ∷ 0x0e ∷ 0x3f ∷ 0x19 ∷ 0x3b ∷ 0x0b ∷ 0x49 ∷ 0x13 ∷ 0x11 ∷ 0x01 ∷ 0x12 ∷ 0x06 ∷ 0x00 ∷ 0x00 ∷ []

-- code 4 is a variable: name (strp), decl_line (data1), type (ref4)
unfoldable pub variable_declaration : List ℕ
variable_declaration = 0x04 ∷ 0x34 ∷ 0x00 ∷ 0x03 ∷ 0x0e ∷ 0x3b ∷ 0x0b ∷ 0x49 ∷ 0x13 ∷ 0x00 ∷ 0x00 ∷ []

-- the four declarations, and the code 0 that ends the table
unfoldable pub table : List ℕ
table = unit_declaration ++ type_declaration ++ function_declaration ++ variable_declaration ++ 0 ∷ []

-- one table for each ten units
abbrev pub table_count : ℕ → ℕ
table_count units = (units + 9) / 10

-- where the table of a unit begins
abbrev pub table_place : ℕ → ℕ
table_place unit = 55 * (unit / 10)

-- the address at which a unit begins
abbrev pub low_address : ℕ → ℕ
low_address unit = 0x400000 + 0x1000 * unit

-- a unit's header (DWARF 5 section 7.5.1.1): its length, version 5, type 1 (compile), addresses of 8 bytes, its table
unfoldable pub unit_head : ℕ → List ℕ
unit_head unit = four 139 ++ two 5 ++ (1 ∷ 8 ∷ []) ++ four (table_place unit)

-- its root: the name of the unit, the producer, the addresses and the list of ranges
unfoldable pub root : ℕ → List ℕ
root unit = (1 ∷ []) ++ four (8 * unit) ++ four 0 ++ eight (low_address unit) ++ four 4096 ++ four (12 + 12 * unit)

-- the type that its functions and its variable have
unfoldable pub base_type : List ℕ
base_type = (2 ∷ []) ++ four 4 ++ (4 ∷ 5 ∷ [])

-- the function with this number, from 0 to 3
unfoldable pub function : ℕ → ℕ → List ℕ
function unit k = (3 ∷ []) ++ four (8 + 3 * k) ++ ((10 + k) ∷ []) ++ four 0x25 ++ eight (low_address unit + 0x100 * k) ++ four 256

unfoldable pub variable : List ℕ
variable = (4 ∷ []) ++ four 20 ++ (20 ∷ []) ++ four 0x25

-- the four functions
unfoldable pub functions : ℕ → List ℕ
functions unit = function unit 0 ++ function unit 1 ++ function unit 2 ++ function unit 3

-- a unit, of 143 bytes: its header, and its seven entries with the code 0 behind the root's children
unfoldable pub unit_bytes : ℕ → List ℕ
unit_bytes unit = unit_head unit ++ root unit ++ base_type ++ functions unit ++ variable ++ 0 ∷ []

-- the texts that all units share, each with its zero byte: they begin at 0, 4, 8, 11, 14, 17 and 20
unfoldable pub texts : List ℕ
texts =
    (codes "gen" ++ 0 ∷ []) ++ (codes "int" ++ 0 ∷ []) ++ (codes "f0" ++ 0 ∷ []) ++ (codes "f1" ++ 0 ∷ [])
    ++ (codes "f2" ++ 0 ∷ []) ++ (codes "f3" ++ 0 ∷ []) ++ (codes "v" ++ 0 ∷ [])

-- a decimal digit
abbrev pub digit : ℕ → ℕ
digit n = 48 + n % 10

-- the name of a unit, with its number in four digits
unfoldable pub unit_name : ℕ → List ℕ
unit_name unit = codes "u" ++ (digit (unit / 1000) ∷ digit (unit / 100) ∷ digit (unit / 10) ∷ digit unit ∷ []) ++ codes ".c"

-- the same with its zero byte: 8 bytes
unfoldable pub ended_name : ℕ → List ℕ
ended_name unit = unit_name unit ++ 0 ∷ []

-- the range list of a unit (DWARF 5 section 2.17.3): DW_RLE_start_length, 4096 bytes from its low address on, and the
-- end of the list
unfoldable pub unit_ranges : ℕ → List ℕ
unit_ranges unit = (7 ∷ []) ++ eight (low_address unit) ++ (0x80 ∷ 0x20 ∷ 0x00 ∷ [])

-- the header of the range lists (DWARF 5 section 7.28): version 5, addresses of 8 bytes, no offsets
unfoldable pub ranges_head : ℕ → List ℕ
ranges_head units = four (8 + 12 * units) ++ (5 ∷ 0 ∷ 8 ∷ 0 ∷ 0 ∷ 0 ∷ 0 ∷ 0 ∷ [])

-- of each of so many what stands there, one behind the other
abbrev pub pieces : (ℕ → List ℕ) → ℕ → List ℕ
pieces piece count = flat_map piece (range_with_len 0 count)

unfoldable pub declarations : ℕ → List ℕ
declarations units = pieces (λ t. table) (table_count units)

unfoldable pub info : ℕ → List ℕ
info units = pieces unit_bytes units

unfoldable pub names : ℕ → List ℕ
names units = pieces ended_name units

unfoldable pub range_lists : ℕ → List ℕ
range_lists units = ranges_head units ++ pieces unit_ranges units

-- the file before it is made
abbrev pub generated : ℕ → GivenFile
generated units = record {
  layout = record { order = Little; wide = true };
  sections =
      record { name = codes ".debug_abbrev"; bytes = declarations units }
      ∷ record { name = codes ".debug_info"; bytes = info units }
      ∷ record { name = codes ".debug_str"; bytes = texts }
      ∷ record { name = codes ".debug_line_str"; bytes = names units }
      ∷ record { name = codes ".debug_rnglists"; bytes = range_lists units }
      ∷ [];
}

-- the file of so many units
unfoldable pub generated_file : ℕ → List ℕ
generated_file units = elf_file_of (generated units)
