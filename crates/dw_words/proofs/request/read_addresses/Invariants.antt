use Rattle.std.proofs.Common.{◌≡◌, map, drop}
use Rattle.dw_words.specs.Requests.{addresses_of}
use Rattle.dw_words.proofs.AddressLemmas.{behind_read}
use Rattle.dw_words.proofs.request.read_addresses.Given as goal

abbrev pub invariant-loop-word : goal.invariant-loop-word
invariant-loop-word l =
    addresses_of (map (λ word. word.now) l.words) ≡ behind_read l.addresses.items (addresses_of (map (λ word. word.now) (drop l.word-index l.words)))
