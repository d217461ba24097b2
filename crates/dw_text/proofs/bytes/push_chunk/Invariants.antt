use Rattle.std.proofs.Common.{◌≡◌, length, take, drop, ◌*◌, ◌++◌}
use Rattle.dw_text.specs.Bytes.{hex_bytes}
use Rattle.dw_text.proofs.bytes.push_chunk.Given as goal

abbrev pub invariant-loop-byte : goal.invariant-loop-byte
invariant-loop-byte l = record {
  long : length l.digits ≡ 64;
  place : l.filled ≡ 2 * l.byte-index;
  text : take l.filled l.digits ++ hex_bytes (drop l.byte-index l.bytes) ≡ hex_bytes l.bytes;
}
