use Rattle.std.proofs.Common.{sym, ap, ◌∙◌}
use Rattle.std.specs.Str.{bytes_eq}
use Rattle.std.specs.String.{string_bytes}
use Rattle.visit_queries.proofs.Places.{counted_from_zero, place_here, place_next, place_nowhere}
use Rattle.visit_queries.proofs.named.place_named.Goals as goal

pub loop-place-init : goal.loop-place-init
loop-place-init g c = counted_from_zero _

pub returns-then-eq : goal.returns-then-eq
returns-then-eq g c =
    sym (place_here c.args.name.now (λ v. string_bytes v.name) c.args.visitors.now c.loop-place.place c.index-visitors-place.result c.loop-place-test.true
    (sym (c.if-eq.ensures ∙ ap (λ t. bytes_eq t c.args.name.now) (c.as_str.ensures.value ∙ ap (λ v. string_bytes v.name) c.index-visitors-place.is))))
    ∙ c.loop-place.invariant

pub loop-place-preserved : goal.loop-place-preserved
loop-place-preserved g c =
    place_next c.args.name.now (λ v. string_bytes v.name) c.args.visitors.now c.loop-place.place c.index-visitors-place.result c.loop-place-test.true
    (sym (c.if-eq.ensures ∙ ap (λ t. bytes_eq t c.args.name.now) (c.as_str.ensures.value ∙ ap (λ v. string_bytes v.name) c.index-visitors-place.is)))
    ∙ c.loop-place.invariant

pub returns : goal.returns
returns g c = sym (place_nowhere c.args.name.now (λ v. string_bytes v.name) c.args.visitors.now c.loop-place.place c.loop-place-test.false) ∙ c.loop-place.invariant
