use Rattle.std.proofs.Common.{◌≡◌, ◌≤◌, ◌∙◌, length, sym, refl, arith}
use Rattle.string_tables.specs.StringTables.{end_from}
use Rattle.string_tables.proofs.Ends.{text_none, text_some}
use Rattle.string_tables.proofs.string_table.StringTable.text_at.Goals as goal

pub returns-then-end-self : goal.returns-then-end-self
returns-then-end-self c =
    let end : c.end_of-end.result ≡ end_from c.self.inside.bytes.now c.args.place = rw c.self.view_is c.end_of-end.ensures.end in
    rw (← c.self.view_is) (text_none c.self.inside.bytes.now c.args.place c.if-place-self.false (sym end ∙ c.if-end-self.true))

pub returns : goal.returns
returns c =
    let end : c.end_of-end.result ≡ end_from c.self.inside.bytes.now c.args.place = rw c.self.view_is c.end_of-end.ensures.end in
    let most : c.end_of-end.result ≤ length c.self.inside.bytes.now = rw c.self.view_is c.end_of-end.ensures.most in
    rw (← c.self.view_is) (text_some c.self.inside.bytes.now _ c.args.place c.if-place-self.false (omega (arith, end, most, c.if-end-self.false)) (rw end refl))
