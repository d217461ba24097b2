use Rattle.std.proofs.Common.{[], refl, rules}
use Rattle.std.proofs.lemmas.Bool.{ne_eqb}
use Rattle.entry_tree.proofs.KeyLaws.{GainsOnly-one}
use Rattle.entry_tree.proofs.TakenLaws.{entry_taken, known_entry, zero_taken}
use Rattle.entry_tree.proofs.cursor.read_entry.Goals as goal

pub returns-then-code-eq0-clause-entry : goal.returns-then-code-eq0-clause-entry
returns-then-code-eq0-clause-entry g c =
    let nothing : g.S.EntrySink.took c.args.sink.now c.args.sink.now [] = search rules in
    zero_taken (g.S.EntrySink.took c.args.sink.now c.args.sink.now) g.K.AttrNames.keeps _ _ _ c.args.depth c.saturating_sub.result c.args.cut.now c.uleb.new.self c.in_ok-code.code _ _ _
    c.in_ok-code.ensures.field.0 c.in_ok-code.ensures.field.1 c.if-code-eq0.true c.saturating_sub.ensures nothing

pub returns-clause-entry : goal.returns-clause-entry
returns-clause-entry g c =
    entry_taken c.read_coded.result (λ passed. passed.depth) (g.S.EntrySink.took c.args.sink.now c.read_coded.new.sink) g.K.AttrNames.keeps _ _ _
    c.args.depth c.place-place.result c.args.cut.now c.uleb.new.self c.read_coded.new.cut c.in_ok-code.code _ _ _ _
    c.place-place.ensures.value c.in_ok-code.ensures.field.0 c.in_ok-code.ensures.field.1 (ne_eqb _ _ c.if-code-eq0.false)
    c.read_coded.ensures.entry c.read_coded.ensures.placed c.read_coded.ensures.noted

pub returns-clause-placed : goal.returns-clause-placed
returns-clause-placed g c =
    GainsOnly-one _ _ _ _ _ (λ found. record { code = c.in_ok-code.code; small = found.0; is = refl; found = found.1 }) c.read_coded.ensures.placed

pub returns-clause-known : goal.returns-clause-known
returns-clause-known g c =
    known_entry g.K.AttrNames.keeps _ _ _ c.args.depth c.args.cut.now c.in_ok-code.code c.uleb.new.self.place _ _
    c.in_ok-code.ensures.field.0 (ne_eqb _ _ c.if-code-eq0.false) c.read_coded.ensures.known
