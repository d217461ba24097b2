use Rattle.std.proofs.Common.{ap, arith, ◌∙◌, map}
use Rattle.std.specs.String.{string_bytes}
use Rattle.visit_queries.specs.Named.{place_named}
use Rattle.visit_queries.proofs.Places.{named_found, named_none, place_inside}
use Rattle.visit_queries.proofs.named.pick.Goals as goal

pub swap_remove-requires : goal.swap_remove-requires
swap_remove-requires g c = let inside = place_inside c.args.name.now (λ v. string_bytes v.name) c.as_slice.result.now c.in-Some.place c.in-Some.ensures in omega (arith, inside, c.as_slice.ensures.len)

pub returns-in-Some : goal.returns-in-Some
returns-in-Some g c =
    named_found _ c.args.name.now c.args.visitors.items c.in-Some.place c.swap_remove.result c.swap_remove.ensures.value
    (c.in-Some.ensures ∙ ap (λ vs. place_named c.args.name.now (map (λ v. string_bytes v.name) vs)) c.as_slice.ensures.value)

pub returns : goal.returns
returns g c =
    named_none _ c.args.name.now c.args.visitors.items
    (c.in-None.ensures ∙ ap (λ vs. place_named c.args.name.now (map (λ v. string_bytes v.name) vs)) c.as_slice.ensures.value)
