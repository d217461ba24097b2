-- What the calls of `clap` answer, in the words of specs/GivenWords.antt.
use Rattle.std.proofs.Common.{◌≡◌, ◌∙◌, ◌≢◌, true, sym, ap, subst, inl, inr, List, [], ◌∷◌, map, Option, None, String, string_bytes}
use Rattle.std.proofs.lemmas.Str.{IsUtf8-string_bytes}
use Rattle.clap.specs.Words.{App, HasKind, HasMatchesOf, IsAmong, Kinds, Row, Text, fault_of, found_of, is_simple, is_simple_and_free, kind_of, matches_of, rows_of}
use Rattle.clap.specs.declared.error.Error.{Error}
use Rattle.clap.specs.declared.error.kind.ErrorKind.{ErrorKind}
use Rattle.clap.specs.declared.error.kind.ErrorKind.TheVariants as kind
use Rattle.clap.specs.declared.parser.matches.ArgMatches.{ArgMatches}
use Rattle.dw_words.specs.GivenWords.{Meaning, meaning}
use Rattle.dw_words.specs.Parser.{MatchesMean, words_app}
use Rattle.dw_words.proofs.WordsRead.{AreTexts, Reads, is_fit, is_simple_app, parse_reads}

pub are_texts : {Z : Type 0} (words : List (String Z)) → AreTexts (map string_bytes words)
are_texts [] = tt
are_texts (word ∷ words) = (IsUtf8-string_bytes word, are_texts words)

pub parse_means : (a : App) (words : List Text) (m : ArgMatches) → a ≡ words_app → AreTexts words → HasMatchesOf a words m → (is_simple_and_free a ≡ true → fault_of a words ≡ []) → MatchesMean (rows_of (found_of m)) (meaning words)
parse_means a words m e texts has kinds =
    let none : fault_of words_app words ≡ [] = subst (λ b. fault_of b words ≡ []) e (kinds (ap is_simple_and_free e ∙ is_fit)) in
    let rows : rows_of (found_of m) ≡ matches_of words_app words = (has (ap is_simple e ∙ is_simple_app)).0 ∙ ap (λ b. matches_of b words) e in
    subst (λ rs. MatchesMean rs (meaning words)) (sym rows) (subst (λ ks. Reads ks (matches_of words_app words) (meaning words)) none (parse_reads words texts))

no_meaning : (k : ErrorKind) (kinds : Kinds) (rows : List Row) (m : Option Meaning) → Reads kinds rows m → IsAmong k kinds → m ≡ None
no_meaning k [] rows m reads among = absurd among
no_meaning k (x ∷ kinds) rows m reads among = reads

pub parse_fails : (a : App) (words : List Text) (error : Error) → a ≡ words_app → AreTexts words → (is_simple_and_free a ≡ true → HasKind (fault_of a words) error) → kind_of error ≢ kind.OutOfMemory → meaning words ≡ None
parse_fails a words error e texts kinds other =
    let has : HasKind (fault_of words_app words) error = subst (λ b. HasKind (fault_of b words) error) e (kinds (ap is_simple_and_free e ∙ is_fit)) in
    elim has [
      | inl memory ↦ absurd (other memory)
      | inr among ↦ no_meaning (kind_of error) (fault_of words_app words) (matches_of words_app words) (meaning words) (parse_reads words texts) among
    ]
