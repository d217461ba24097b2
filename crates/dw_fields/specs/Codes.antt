-- The causes of faults and their numbers.
use Rattle.std.specs.Prelude.{ℕ, Bool, ◌==◌, if◌then◌else◌}
use Rattle.dw_fields.specs.declared.fault_code.Code.{Code}
use Rattle.dw_fields.specs.declared.fault_code.Code.TheVariants.{LengthReserved, UnitTruncated, UnitVersion, UnitType, AddressSize, AbbrevOutside, UnitLimit, CodeMissing, DeclTruncated, LebTooLarge, ChildrenByte, UnknownForm, Truncated, TextOutside, TextUnended, IndexOutside, NoBase, IndirectForm, NoSection, LineVersion, LineRange, MaxOps, LineTruncated, LineForm, ExtendedLength, ListKind, ListTruncated, ListUnended}
use Rattle.dw_fields.specs.declared.fault_code.Fault.{Fault}

-- the number that the program prints for a cause
abbrev pub code_number : Code → ℕ
code_number LengthReserved = 20
code_number UnitTruncated = 21
code_number UnitVersion = 22
code_number UnitType = 23
code_number AddressSize = 24
code_number AbbrevOutside = 25
code_number UnitLimit = 26
code_number CodeMissing = 30
code_number DeclTruncated = 31
code_number LebTooLarge = 32
code_number ChildrenByte = 33
code_number UnknownForm = 40
code_number Truncated = 41
code_number TextOutside = 42
code_number TextUnended = 43
code_number IndexOutside = 44
code_number NoBase = 45
code_number IndirectForm = 46
code_number NoSection = 47
code_number LineVersion = 50
code_number LineRange = 51
code_number MaxOps = 52
code_number LineTruncated = 53
code_number LineForm = 54
code_number ExtendedLength = 55
code_number ListKind = 60
code_number ListTruncated = 61
code_number ListUnended = 62

abbrev pub fault : Code → ℕ → Fault
fault code place = record { code = code; place = place }

abbrev pub is_same_code : Code → Code → Bool
is_same_code a b = code_number a == code_number b

-- a fault of the cause `from` gets the cause `to`, at its place
abbrev pub renamed_fault : Code → Code → Fault → Fault
renamed_fault from to f = if is_same_code f.code from then fault to f.place else f
