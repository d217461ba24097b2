use Rattle.std.proofs.Common.{◌≡◌, map, drop}
use Rattle.std.specs.String.{string_bytes}
use Rattle.visit_queries.specs.Named.{place_named}
use Rattle.visit_queries.proofs.Places.{counted_from}
use Rattle.visit_queries.proofs.named.place_named.Given as goal

abbrev pub invariant-loop-place : goal.invariant-loop-place
invariant-loop-place g l =
    counted_from l.place (place_named l.name (map (λ v. string_bytes v.name) (drop l.place l.visitors)))
    ≡ place_named l.name (map (λ v. string_bytes v.name) l.visitors)
