-- The words in which refusals show themselves to a library user.
use Rattle.std.specs.Prelude.{ℕ, false, List, ◌++◌, codes}
use Rattle.std.specs.Fmt.{digits}
use Rattle.dw_fields.specs.declared.fault_code.Code.{Code}
use Rattle.dw_fields.specs.declared.fault_code.Code.TheVariants.{LengthReserved, UnitTruncated, UnitVersion, UnitType, AddressSize, AbbrevOutside, UnitLimit, CodeMissing, DeclTruncated, LebTooLarge, ChildrenByte, UnknownForm, Truncated, TextOutside, TextUnended, IndexOutside, NoBase, IndirectForm, NoSection, LineVersion, LineRange, MaxOps, LineTruncated, LineForm, ExtendedLength, ListKind, ListTruncated, ListUnended}
use Rattle.dw_fields.specs.declared.fault_code.Fault.{Fault}

-- what was wrong
abbrev pub code_message : Code → List ℕ
code_message LengthReserved = codes "reserved value of an initial length"
code_message UnitTruncated =
    codes "unit past the end of its section, or header field past the end of the unit"
code_message UnitVersion = codes "unit of a version that is not read"
code_message UnitType = codes "unknown unit type"
code_message AddressSize = codes "address size other than 2, 4 or 8"
code_message AbbrevOutside = codes "declarations past the end of .debug_abbrev"
code_message UnitLimit = codes "more units than are read"
code_message CodeMissing = codes "entry with a code that is not declared"
code_message DeclTruncated = codes "declaration past the end of .debug_abbrev"
code_message LebTooLarge = codes "LEB128 number outside 64 bits"
code_message ChildrenByte = codes "children byte other than 0 or 1"
code_message UnknownForm = codes "unknown attribute form"
code_message Truncated = codes "field past the end of what it stands in"
code_message TextOutside = codes "text past the end of its section"
code_message TextUnended = codes "text without a zero byte behind it"
code_message IndexOutside = codes "index past the end of its section"
code_message NoBase = codes "index in a unit that has no base for it"
code_message IndirectForm = codes "indirect form naming a form that cannot stand there"
code_message NoSection = codes "value in a section that is absent"
code_message LineVersion = codes "line program of a version that is not read"
code_message LineRange = codes "line range or opcode base of 0"
code_message MaxOps = codes "maximum of 0 operations per instruction"
code_message LineTruncated = codes "field past the end of its line program"
code_message LineForm = codes "form that cannot stand in a file or directory entry"
code_message ExtendedLength = codes "extended opcode of a length that does not fit it"
code_message ListKind = codes "unknown kind of list entry"
code_message ListTruncated = codes "list entry past the end of its section"
code_message ListUnended = codes "list without an end in its section"

-- what was wrong, and where
abbrev pub fault_message : Fault → List ℕ
fault_message f = code_message f.code ++ codes " at offset 0x" ++ digits 16 false f.place
