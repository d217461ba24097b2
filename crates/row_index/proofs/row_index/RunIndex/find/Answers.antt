use Rattle.std.proofs.Common.{arith, map, sym, ◌∙◌}
use Rattle.row_index.proofs.Leads.{leads, run_led, told_led, within_led}
use Rattle.row_index.proofs.row_index.RunIndex.find.Goals as goal

pub index-requires : goal.index-requires
index-requires c =
    let led = leads (map (λ u. u.items) c.args.units.now) c.args.self.now.runs.items c.args.address _ c.requires.runs_stand (sym c.in-Some.is ∙ c.first.ensures ∙ c.requires.first c.args.address) in
    omega (arith, within_led _ _ _ _ led, c.args.self.now.runs.ok.0)

pub row_of-requires : goal.row_of-requires
row_of-requires c =
    let led = leads (map (λ u. u.items) c.args.units.now) c.args.self.now.runs.items c.args.address _ c.requires.runs_stand (sym c.in-Some.is ∙ c.first.ensures ∙ c.requires.first c.args.address) in
    run_led _ _ _ _ _ _ led c.index.ensures

pub returns-in-Some : goal.returns-in-Some
returns-in-Some c =
    let led = leads (map (λ u. u.items) c.args.units.now) c.args.self.now.runs.items c.args.address _ c.requires.runs_stand (sym c.in-Some.is ∙ c.first.ensures ∙ c.requires.first c.args.address) in
    c.row_of.ensures ∙ sym (told_led _ _ _ _ _ _ led c.index.ensures) ∙ c.requires.told c.args.address

pub returns-in-None : goal.returns-in-None
returns-in-None c =
    let led = leads (map (λ u. u.items) c.args.units.now) c.args.self.now.runs.items c.args.address _ c.requires.runs_stand (sym c.in-None.is ∙ c.first.ensures ∙ c.requires.first c.args.address) in
    sym led ∙ c.requires.told c.args.address
