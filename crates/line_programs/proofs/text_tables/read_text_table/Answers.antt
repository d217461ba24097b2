use Rattle.std.proofs.Common.{rules, ◌+◌, ◌-◌, map, Ok, Err, sym, ap, ◌∙◌, arith}
use Rattle.std.specs.Prelude.{option_map}
use Rattle.std.proofs.lemmas.List.{map_push}
use Rattle.dw_fields.specs.declared.fault_code.Code.TheVariants.{LineTruncated}
use Rattle.dw_fields.specs.Codes.{fault}
use Rattle.dw_fields.specs.Span.{Span}
use Rattle.line_programs.specs.Shapes.{name_view}
use Rattle.line_programs.specs.TextTables.{text_entry_at}
use Rattle.line_programs.proofs.Lists.{at_again}
use Rattle.line_programs.proofs.Entries.{entries_end, entries_fail, entries_next, entries_stop}
use Rattle.line_programs.proofs.text_tables.read_text_table.Goals as goal

pub returns-in_err-found : goal.returns-in_err-found
returns-in_err-found c =
    let refused = sym c.entries.invariant.read
    ∙ entries_fail (text_entry_at c.args.table) (c.left-left.result - c.entries._turn) (c.left-left.result - (c.entries._turn + 1)) c.entries.cut (map name_view c.entries.names.items)
    c.in_err-found.field-0.0 (omega arith) c.in_err-found.ensures in
    search rules

pub returns-in_default : goal.returns-in_default
returns-in_default c = (
  sym c.entries.invariant.read
      ∙ entries_end (text_entry_at c.args.table) (c.left-left.result - c.entries._turn) (c.left-left.result - (c.entries._turn + 1)) c.entries.cut (map name_view c.entries.names.items)
      c.read_text_entry.new.cut.place (omega arith)
      (c.in_ok-found.ensures.0 ∙ ap (λ found. Ok (option_map name_view found, c.read_text_entry.new.cut.place)) c.in_default.is),
  at_again c.args.cut.now c.entries.cut c.read_text_entry.new.cut c.entries.invariant.stands c.in_ok-found.ensures.1,
)

pub returns : goal.returns
returns c =
    sym c.entries.invariant.read
    ∙ entries_stop (text_entry_at c.args.table) (c.left-left.result - c.entries._turn) c.entries.cut (map name_view c.entries.names.items) (omega arith)
    ∙ ap (λ place. Err (fault LineTruncated place)) (ap (λ (s : Span). s.end) c.entries.invariant.stands ∙ sym c.end-end.ensures.value)
    ∙ ap (λ refusal. Err refusal) (sym c.at.ensures)

pub entries-preserved : goal.entries-preserved
entries-preserved c = record {
  stands = at_again c.args.cut.now c.entries.cut c.read_text_entry.new.cut c.entries.invariant.stands c.in_ok-found.ensures.1;
  turns = c.entries.invariant.turns;
  read = entries_next (text_entry_at c.args.table) (c.left-left.result - c.entries._turn) (c.left-left.result - (c.entries._turn + 1)) c.entries.cut c.read_text_entry.new.cut
      (map name_view c.entries.names.items) (map name_view c.push-in-entries.new.self.items) (name_view c.in-Some.name) _ (omega arith)
      (c.in_ok-found.ensures.0 ∙ ap (λ found. Ok (option_map name_view found, c.read_text_entry.new.cut.place)) c.in-Some.is) c.in_ok-found.ensures.1
      (ap (map name_view) c.in_ok-push-2.ensures.items ∙ map_push name_view c.entries.names.items c.in-Some.name) c.entries.invariant.read;
}
