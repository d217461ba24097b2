-- Entry formats of directories and files: DWARF 5, sections 6.2.4 and 6.2.4.1. Which forms a value may
-- have is a rule of our own: a value takes at least one byte, and needs no unit.
use Rattle.std.specs.Prelude.{ℕ, Bool, not, ◌==◌, ◌&&◌, ◌||◌, nat_lt, Ok, if◌then◌else◌}
use Rattle.dw_fields.specs.declared.fault_code.Code.TheVariants.{LineForm}
use Rattle.dw_fields.specs.Codes.{fault}
use Rattle.dw_fields.specs.Span.{at}
use Rattle.dw_fields.specs.Reading.{Reader, ◌>>=◌, ◌>>◌, refuse, uleb_at}
use Rattle.dw_numbers.specs.declared.form.TheConstants as forms
use Rattle.line_programs.specs.declared.formats.Format.{Format}
use Rattle.line_programs.specs.Front.{in_header}

-- string, strp, line_strp
unfoldable pub is_path_form : ℕ → Bool
is_path_form form = (form == forms.STRING) || (form == forms.STRP) || (form == forms.LINE_STRP)

-- data1, data2, data4, data8, udata
unfoldable pub is_index_form : ℕ → Bool
is_index_form form =
    (form == forms.DATA1) || (form == forms.DATA2) || (form == forms.DATA4) || (form == forms.DATA8)
    || (form == forms.UDATA)

-- Every form of the standard but flag_present, which takes no byte, indirect and implicit_const. There
-- is no form 2.
unfoldable pub is_profile_form : ℕ → Bool
is_profile_form form =
    nat_lt 0 form && nat_lt form 0x2d && not (form == 0x02) && not (form == forms.INDIRECT)
    && not (form == forms.FLAG_PRESENT) && not (form == forms.IMPLICIT_CONST)

-- Which forms the content types 1 (path) and 2 (directory index) may have, and any other.
unfoldable pub is_accepted : ℕ → ℕ → Bool
is_accepted content form =
    if content == 1 then is_path_form form
    else (if content == 2 then is_index_form form else is_profile_form form)

-- A content type and its form, which is judged at once.
unfoldable pub format_at : Reader Format
format_at s = do
  content ← in_header (uleb_at s)
  form ← in_header (uleb_at (at s content.1))
  refuse (not (is_accepted content.0 form.0)) (fault LineForm content.1)
  Ok (record { content = content.0; form = form.0 }, form.1)
