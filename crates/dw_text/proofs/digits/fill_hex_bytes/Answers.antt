use Rattle.std.proofs.Common.{◌≡◌, ◌+◌, ◌-◌, ◌/◌, ◌%◌, ◌∷◌, ◌++◌, refl, false, sym, ap, ◌∙◌, drop, get_or, length, arith}
use Rattle.std.specs.Fmt.{digit_glyph}
use Rattle.dw_text.specs.Bytes.{hex_bytes}
use Rattle.dw_text.proofs.Laws.{hex_bytes_at, hex_bytes_end}
use Rattle.dw_text.proofs.digits.fill_hex_bytes.Goals as goal

pub loop-left-init : goal.loop-left-init
loop-left-init c = record {
  within = omega arith;
  place = refl;
  text = ap (λ t. t ++ drop c.args.end c.args.into.now) (sym (hex_bytes_end c.args.bytes.now (length c.args.bytes.now) (omega arith)));
}

pub loop-left-preserved : goal.loop-left-preserved
loop-left-preserved c =
    let l = c.loop-left in
    let bytes = c.args.bytes.now in
    let byte = get_or bytes (l.left - 1) 0 in
    let at : l.first - 2 + 2 ≡ l.first = omega (arith, l.invariant.place) in
    let e : l.left ≡ l.left - 1 + 1 = omega arith in
    record {
      within = omega arith;
      place = omega (arith, l.invariant.place);
      text = c.fill_pair.ensures
          ∙ ap (λ j. digit_glyph false (byte / 16) ∷ digit_glyph false (byte % 16) ∷ drop j l.into) at
          ∙ ap (λ t. digit_glyph false (byte / 16) ∷ digit_glyph false (byte % 16) ∷ t) l.invariant.text
          ∙ ap (λ j. digit_glyph false (byte / 16) ∷ digit_glyph false (byte % 16) ∷ (hex_bytes (drop j bytes) ++ drop c.args.end c.args.into.now)) e
          ∙ ap (λ t. t ++ drop c.args.end c.args.into.now) (sym (hex_bytes_at bytes (l.left - 1) (omega arith)));
    }
