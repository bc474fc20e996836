use Rattle.std.proofs.Common.{◌≡◌, ◌+◌, ◌++◌, length}
use Rattle.scenario_runner.proofs.demo.Tally.add_sent.Given as goal

abbrev pub invariant-ports : goal.invariant-ports
invariant-ports l = record {
  splits : l.fn.ports ≡ l.yielded ++ l.iterator';
  chip : l.self.chip ≡ l.fn.self.chip;
  soft : l.self.soft ≡ l.fn.self.soft;
  tx : l.self.tx ≡ l.fn.self.tx + length l.yielded;
  overrun : l.self.overrun ≡ l.fn.self.overrun;
}
