use Rattle.std.proofs.Common.{◌≡◌, ◌*◌, length}
use Rattle.transcript_text.proofs.HexPairs.{IsWritten}
use Rattle.transcript_text.proofs.frames.write_hex.Given as goal

abbrev pub invariant-loop-i : goal.invariant-loop-i
invariant-loop-i l = IsWritten l.bytes l.digits l.i × (length l.digits ≡ 2 * length l.bytes) × (l.i-end ≡ length l.bytes)
