-- Contexts of lists that a test found equal.
use Rattle.std.specs.Prelude.{◌≡◌, refl, ℕ, ◌==◌, ◌&&◌, Bool, true, false, Option, Some, None}
use Rattle.std.specs.Option.{option_eq}
use Rattle.std.proofs.Common.{ap}
use Rattle.std.proofs.lemmas.Bool.{eqb-true, false≢true}
use Rattle.form_values.specs.declared.raw.Bases.{Bases}
use Rattle.unit_text.specs.declared.last_lists.ListContext.{ListContext}

both : (a b : Bool) → (a && b) ≡ true → (a ≡ true) × (b ≡ true)
both true true t = (refl, refl)
both true false t = absurd (false≢true t)
both false true t = absurd (false≢true t)
both false false t = absurd (false≢true t)

same_option : (a b : Option ℕ) → option_eq (λ x y. x == y) a b ≡ true → a ≡ b
same_option None None t = refl
same_option None (Some y) t = absurd (false≢true t)
same_option (Some x) None t = absurd (false≢true t)
same_option (Some x) (Some y) t = ap (λ n. Some n) (eqb-true x y t)

abbrev bases_eq : Bases → Bases → Bool
bases_eq a b =
    option_eq (λ x y. x == y) a.text b.text && (option_eq (λ x y. x == y) a.address b.address
    && (option_eq (λ x y. x == y) a.ranges b.ranges && option_eq (λ x y. x == y) a.locations b.locations))

same_bases : (a b : Bases) → bases_eq a b ≡ true → a ≡ b
same_bases a b t =
    let text = both _ _ t in
    let address = both _ _ text.1 in
    let lists = both _ _ address.1 in
    let e1 = same_option a.text b.text text.0 in
    let e2 = same_option a.address b.address address.0 in
    let e3 = same_option a.ranges b.ranges lists.0 in
    let e4 = same_option a.locations b.locations lists.1 in
    λ i. record { text = e1 i; address = e2 i; ranges = e3 i; locations = e4 i }

-- what the derived `==` answers is true of equal contexts alone
pub same_context : (a b : ListContext)
    → ((a.offset == b.offset) && ((a.version == b.version) && ((a.address_size == b.address_size) && (bases_eq a.bases b.bases && option_eq (λ x y. x == y) a.low_pc b.low_pc)))) ≡ true → a ≡ b
same_context a b t =
    let offset = both _ _ t in
    let version = both _ _ offset.1 in
    let size = both _ _ version.1 in
    let facts = both _ _ size.1 in
    let e1 = eqb-true a.offset b.offset offset.0 in
    let e2 = eqb-true a.version b.version version.0 in
    let e3 = eqb-true a.address_size b.address_size size.0 in
    let e4 = same_bases a.bases b.bases facts.0 in
    let e5 = same_option a.low_pc b.low_pc facts.1 in
    λ i. record { offset = e1 i; version = e2 i; address_size = e3 i; bases = e4 i; low_pc = e5 i }
