use Rattle.std.proofs.Common.{rules, ◌+◌, ◌-◌, map, sym, ap, ◌∙◌, arith}
use Rattle.std.proofs.lemmas.List.{map_push}
use Rattle.dw_fields.specs.Times.{times, with_front}
use Rattle.line_programs.specs.Shapes.{name_view}
use Rattle.line_programs.specs.Names.{name_at}
use Rattle.line_programs.specs.Tables.{names_at}
use Rattle.line_programs.proofs.Lists.{at_again, turn_next, turn_refused}
use Rattle.line_programs.proofs.tables.read_names.Goals as goal

pub returns-in_err-name-clause-entries : goal.returns-in_err-name-clause-entries
unfolding names_at
returns-in_err-name-clause-entries c =
    let refused = turn_refused (name_at c.entries.texts c.args.widths c.args.formats.now) (c.args.count - c.entries._turn) (c.args.count - (c.entries._turn + 1)) c.entries.cut
    (map name_view c.entries.names.items) c.in_err-name.field-0.0 _ (omega arith) c.in_err-name.ensures.entry c.entries.invariant.read in
    search rules

pub entries-preserved : goal.entries-preserved
entries-preserved c = record {
  stands = at_again c.args.cut.now c.entries.cut c.read_name.new.cut c.entries.invariant.stands c.in_ok-name.ensures.entry.1;
  same = c.in_ok-name.ensures.texts ∙ c.entries.invariant.same;
  read = ap (λ t. with_front (map name_view c.push.new.self.items) (times (c.args.count - (c.entries._turn + 1)) (name_at t c.args.widths c.args.formats.now) c.read_name.new.cut)) c.in_ok-name.ensures.texts
      ∙ turn_next (name_at c.entries.texts c.args.widths c.args.formats.now) (c.args.count - c.entries._turn) (c.args.count - (c.entries._turn + 1)) c.entries.cut c.read_name.new.cut
      (map name_view c.entries.names.items) (map name_view c.push.new.self.items) (name_view c.in_ok-name.name) _ (omega arith) c.in_ok-name.ensures.entry.0 c.in_ok-name.ensures.entry.1
      (ap (map name_view) c.in_ok-push.ensures.items ∙ map_push name_view c.entries.names.items c.in_ok-name.name) c.entries.invariant.read;
}
