use Rattle.std.proofs.Common.{◌∙◌, ◌++◌, ap, [], codes, map, unwrap_or, List, ℕ, Bor, Option}
use Rattle.clap.specs.Words.{found_of}
use Rattle.clap.proofs.WalkLemmas.{raw_values-rows}
use Rattle.dw_words.proofs.given.rest_in.Goals as goal

pub returns-in_ok-extend_from_slice-in-Some : goal.returns-in_ok-extend_from_slice-in-Some
returns-in_ok-extend_from_slice-in-Some c =
    let appended = (c.in_ok-extend_from_slice-in-Some).ensures.items ∙ ap (λ words. words ++ c.in-Some.words.now) c.new-rest.ensures.items in
    ap (map (λ (word : Bor (List ℕ)). word.now)) appended
    ∙ ap (λ (o : Option (List (List ℕ))). unwrap_or o []) (c.in-Some.ensures ∙ raw_values-rows (found_of c.args.matches.now) (codes "rest"))

pub returns-in-None : goal.returns-in-None
returns-in-None c =
    ap (map (λ (word : Bor (List ℕ)). word.now)) c.new-rest.ensures.items
    ∙ ap (λ (o : Option (List (List ℕ))). unwrap_or o []) (c.in-None.ensures ∙ raw_values-rows (found_of c.args.matches.now) (codes "rest"))
