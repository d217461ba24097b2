-- Laws of the operands that are passed over.
use Rattle.std.proofs.Common.{◌≡◌, ℕ, suc, Ok, Err, refl, sym, ap, ◌∙◌}
use Rattle.dw_fields.specs.declared.fault_code.Fault.{Fault}
use Rattle.dw_fields.specs.Span.{Span, at}
use Rattle.dw_fields.specs.Reading.{uleb_at}
use Rattle.line_machine.specs.declared.operations.Operation.TheVariants as ops
use Rattle.line_machine.specs.Operations.{passed_over}

-- one more is passed
pub passed_next : (m n : ℕ) (s next : Span) (operand : ℕ) → m ≡ suc n → uleb_at s ≡ Ok (operand, next.place) → next ≡ at s next.place → passed_over n next ≡ passed_over m s
unfolding passed_over
passed_next m n s next operand more e q = ap (passed_over n) q ∙ sym (rw (more, e) refl)

-- one that can't be read is the answer
pub passed_fails : (m n : ℕ) (s : Span) (f : Fault) → m ≡ suc n → uleb_at s ≡ Err f → passed_over m s ≡ Err f
unfolding passed_over
passed_fails m n s f more e = rw (more, e) refl

-- none is left
pub passed_none : (m : ℕ) (s : Span) → m ≡ 0 → passed_over m s ≡ Ok (ops.Nothing, s.place)
unfolding passed_over
passed_none m s none = rw none refl

-- a cut that went on is the same part at another place
pub at_again : (first here next : Span) → here ≡ at first here.place → next ≡ at here next.place → next ≡ at first next.place
at_again first here next p q = q ∙ ap (λ s. at s next.place) p
