use Rattle.std.proofs.Common.{◌≡◌, ◌∙◌, ℕ, List, ◌+◌, ◌++◌, length, ap, arith, append-nil}
use Rattle.scenario_runner.proofs.Counting.{adds_sent}
use Rattle.scenario_runner.proofs.demo.Tally.add_sent.Goals as goal

pub returns : goal.returns
returns c =
    let all = c.ports.invariant in
    let ports = all.splits ∙ ap (λ (l : List ℕ). c.ports.yielded ++ l) c.in-None.ensures.steps.0 ∙ append-nil c.ports.yielded in
    let tx : c.ports.self.tx ≡ c.args.self.now.tx + length c.args.ports = omega (arith, all.tx, ap length ports) in
    adds_sent _ _ c.args.ports all.chip all.soft tx all.overrun
