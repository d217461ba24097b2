use Rattle.std.proofs.Common.{◌≡◌, ◌+◌, ◌%◌, false, set, arith, length-set}
use Rattle.std.proofs.lemmas.List.{set_comm, drop-set}
use Rattle.std.specs.Fmt.{digit_glyph}
use Rattle.dw_text.proofs.Fill.{pair_at}
use Rattle.dw_text.proofs.digits.fill_pair.Goals as goal

pub returns : goal.returns
returns c =
    let p = pair_at c.args.byte c.ranges.byte.fits in
    let at = c.args.place in
    let into = c.args.into.now in
    let low = digit_glyph false (c.args.byte % 16) in
    let e : at + 1 + 1 ≡ at + 2 = omega arith in
    rw (p.0, p.1, set_comm into at (at + 1) _ _ (λ x. omega arith), drop-set (set into (at + 1) low) at _ (omega (arith, length-set into (at + 1) low)), drop-set into (at + 1) _ (omega arith), e)
