-- How tags, attributes and forms are printed.
use Rattle.std.specs.Prelude.{ℕ, List}
use Rattle.dw_names.specs.Named.{named_or_hex}
use Rattle.dw_names.specs.Tags.{tag_name}
use Rattle.dw_names.specs.Attributes.{attribute_name}
use Rattle.dw_names.specs.Forms.{form_name}

unfoldable pub tag_text : ℕ → List ℕ
tag_text tag = named_or_hex (tag_name tag) tag

unfoldable pub attribute_text : ℕ → List ℕ
attribute_text attribute = named_or_hex (attribute_name attribute) attribute

unfoldable pub form_text : ℕ → List ℕ
form_text form = named_or_hex (form_name form) form
