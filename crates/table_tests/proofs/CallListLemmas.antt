-- Three calls in a list.
use Rattle.std.proofs.Common.{◌≡◌, ℕ, ◌+◌, true, List, [], ◌∷◌, length, Option, Result, Ok, Err, arith}
use Rattle.map_core.specs.declared.view.View.{View}
use Rattle.map_core.specs.History.{is_in}
use Rattle.map_core.specs.Calls.{own, SamePass, FindsAt, JoinsAt, CallAt, CallsInOrder, no_calls, call_then, finds, joins, placed_by, taken_in, own_count, HoldCallsOnce}
use Rattle.share_map.specs.declared.answers.Full.{Full}
use Rattle.share_map.specs.declared.answers.Kept.{Kept}
use Rattle.share_map.specs.declared.answers.Kept.TheVariants.{Placed, Found}
use Rattle.share_map.specs.Answers.{Inserts}
use Rattle.table_tests.specs.CallLists.{insert_call, placed_count}

module _ (fits : ℕ → ℕ → Type 0) (capacity key value : ℕ) where
  insert_at : (v w : View) (r : Result Kept Full) → SamePass v w → Inserts fits capacity key value v w r → CallAt fits capacity (insert_call key value r) v w
  insert_at v w (Ok Placed) same at = (same, at.0)
  insert_at v w (Ok (Found x)) same at = (same, at)
  insert_at v w (Err e) same at = (same, at)

  counts : (r : Result Kept Full) (k : ℕ) (answer : Option ℕ) (u v w : View) → length (own w) ≡ length (own v) + (own_count (taken_in (insert_call key value r ∷ finds k answer ∷ joins u ∷ [])) + length (placed_by v.number (insert_call key value r ∷ finds k answer ∷ joins u ∷ [])))
      → length (own w) ≡ length (own v) + (length (own u) + placed_count r)
  counts (Ok Placed) k answer u v w e = let a : ℕ = length (own w) in let b : ℕ = length (own v) in let d : ℕ = length (own u) in let e' : a ≡ b + ((d + 0) + 1) = e in let goal : a ≡ b + (d + 1) = omega arith in goal
  counts (Ok (Found x)) k answer u v w e = let a : ℕ = length (own w) in let b : ℕ = length (own v) in let d : ℕ = length (own u) in let e' : a ≡ b + ((d + 0) + 0) = e in let goal : a ≡ b + (d + 0) = omega arith in goal
  counts (Err x) k answer u v w e = let a : ℕ = length (own w) in let b : ℕ = length (own v) in let d : ℕ = length (own u) in let e' : a ≡ b + ((d + 0) + 0) = e in let goal : a ≡ b + (d + 0) = omega arith in goal

  pub three_calls : ((cs : List Rattle.map_core.specs.Calls.Call) (v w : View) (calls : CallsInOrder fits capacity cs v w) → is_in v.number v.numbers ≡ true → HoldCallsOnce capacity fits cs v w calls)
      → (r : Result Kept Full) (k : ℕ) (answer : Option ℕ) (v x y u w : View) → is_in v.number v.numbers ≡ true
      → SamePass v x → Inserts fits capacity key value v x r → SamePass x y → FindsAt fits x y k answer → JoinsAt fits y u w
      → length (own w) ≡ length (own v) + (length (own u) + placed_count r)
  three_calls law r k answer v x y u w own_in same at same' find join =
      counts r k answer u v w (law (insert_call key value r ∷ finds k answer ∷ joins u ∷ []) v w
      (call_then (insert_call key value r) (finds k answer ∷ joins u ∷ []) v x w (insert_at v x r same at)
      (call_then (finds k answer) (joins u ∷ []) x y w (same', find) (call_then (joins u) [] y w w join (no_calls w)))) own_in).all
