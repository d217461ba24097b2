use Rattle.std.proofs.Common.{◌≡◌, ◌-◌, ◌*ℤ◌, ◌+ℤ◌, ◌%◌, pos, get_or, drop, arith}
use Rattle.std.proofs.lemmas.Int.{ints}
use Rattle.dw_fields.specs.Leb.{signed_leb_sum}
use Rattle.dw_fields.proofs.LebSums.{signed_leb_back, signed_leb_too_large, signed_leb_too_small}
use Rattle.dw_fields.proofs.leb128.long_signed_value.Goals as goal
use Rattle.dw_fields.proofs.leb128.long_signed_value.Goals.{then-value-ge72057594037927936-via-then-value-ge72057594037927936, then-value-ge72057594037927936-via-else-value-ge72057594037927936+then-value-ltminus72057594037927936}

pub returns-then-value-ge72057594037927936 : goal.returns-then-value-ge72057594037927936
returns-then-value-ge72057594037927936 c =
    elim c.then-value-ge72057594037927936.branch [
      | then-value-ge72057594037927936-via-then-value-ge72057594037927936 w ↦
          signed_leb_too_large c.args.groups.now c.groups.left (c.groups.left - 1) c.groups.value (omega arith) (omega arith) (omega (arith, ints)) (omega (arith, ints))
      | then-value-ge72057594037927936-via-else-value-ge72057594037927936+then-value-ltminus72057594037927936 w ↦
          signed_leb_too_small c.args.groups.now c.groups.left (c.groups.left - 1) c.groups.value (omega arith) (omega arith) (omega (arith, ints)) (omega (arith, ints))
    ]

pub groups-preserved : goal.groups-preserved
groups-preserved c =
    let s : signed_leb_sum (drop (c.groups.left - 1) c.args.groups.now) ≡ c.groups.value *ℤ pos 128 +ℤ pos (get_or c.args.groups.now (c.groups.left - 1) 0 % 128)
    = signed_leb_back c.args.groups.now c.groups.left (c.groups.left - 1) c.groups.value (omega arith) (omega arith) (omega (arith, ints)) in
    (omega arith, omega (arith, ints))
