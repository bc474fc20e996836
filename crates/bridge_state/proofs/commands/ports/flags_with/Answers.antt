use Rattle.std.proofs.Common.{◌-◌, ◌<◌, ◌≤◌, bit_and, bit_or, arith}
use Rattle.std.proofs.lemmas.Bool.{false≢true}
use Rattle.std.proofs.lemmas.Nat.{or_lt, and_le_l}
use Rattle.bridge_state.proofs.commands.ports.flags_with.Goals as goal
use Rattle.bridge_state.proofs.commands.ports.flags_with.Goals.{then-on, else-on}

pub unreachable-requires : goal.unreachable-requires
unreachable-requires c =
    elim c.if-on.branch [
      | then-on w ↦
          let both : bit_or c.args.flags w.bits.result < 64 = or_lt 6 c.args.flags w.bits.result c.requires (omega (arith, w.bits.ensures.value, w.bits.ensures.below)) in
          false≢true (c.in-None.ensures.found.1 (omega (arith, w.bits-is)))
      | else-on w ↦
          let less : bit_and c.args.flags (63 - w.bits-else-on.result) ≤ c.args.flags = and_le_l c.args.flags (63 - w.bits-else-on.result) in
          false≢true (c.in-None.ensures.found.1 (omega (arith, c.requires, w.bits-is)))
    ]
