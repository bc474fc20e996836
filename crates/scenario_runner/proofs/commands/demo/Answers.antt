use Rattle.std.proofs.Common.{◌∙◌}
use Rattle.run_status.proofs.Ends.{writes, writes_nothing}
use Rattle.scenario_runner.proofs.commands.demo.Goals as goal

pub returns-in-Ok-clause-outcome : goal.returns-in-Ok-clause-outcome
returns-in-Ok-clause-outcome g c = λ left.
    let ends = rw (c.as_bytes.ensures.value ∙ c.in-Ok.ensures) at c.put_last.ensures in
    writes _ _ _ left _ ends.status ends.whole (λ e. ends.front e (λ e. absurd (cc)))

pub returns-in-Err-clause-outcome : goal.returns-in-Err-clause-outcome
returns-in-Err-clause-outcome g c = λ left.
    let ends = c.end_without_memory.ensures in
    writes_nothing _ _ _ left _ ends.status ends.whole ends.front
