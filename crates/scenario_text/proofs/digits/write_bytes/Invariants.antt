use Rattle.std.proofs.Common.{◌≡◌, ◌*◌, length}
use Rattle.scenario_text.proofs.Pairs.{IsRead}
use Rattle.scenario_text.proofs.digits.write_bytes.Given as goal

abbrev pub invariant-loop-i : goal.invariant-loop-i
invariant-loop-i l = IsRead l.digits l.out l.i l.all × (length l.digits ≡ 2 * length l.out) × (l.i-end ≡ length l.out)
