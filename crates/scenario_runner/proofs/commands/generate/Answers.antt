use Rattle.std.proofs.Common.{◌++◌, List, ℕ, ap, ◌∙◌}
use Rattle.scenario_generator.specs.Generating.{text_left}
use Rattle.scenario_runner.proofs.Generating.{all_broke, all_put, together_first}
use Rattle.run_status.proofs.Ends.{writes, writes_front, writes_nothing}
use Rattle.scenario_runner.proofs.commands.generate.Goals as goal

pub returns-in-Ok-put_frames-clause-outcome : goal.returns-in-Ok-put_frames-clause-outcome
returns-in-Ok-put_frames-clause-outcome g c = λ left.
    let opening = rw c.in-Ok.ensures.empty at c.append_opening.ensures.text in
    let whole = ap (λ (b : List ℕ). b ++ text_left c.new-frames.result) opening ∙ c.new-frames.ensures.text in
    let together = c.in-Ok-put_frames.ensures.puts.goes_on _ _ (together_first _ _ _ _ whole) in
    writes _ _ _ left _ c.end_with.ensures.status (λ n. all_put _ _ _ _ _ _ _ together c.append_end.ensures.text (c.end_with.ensures.whole n))
    (λ e. all_broke _ _ _ _ _ _ _ together c.append_end.ensures.text (c.end_with.ensures.front e (λ e. absurd (cc))))

pub returns-clause-outcome : goal.returns-clause-outcome
returns-clause-outcome g c = λ left.
    let opening = rw c.in-Ok.ensures.empty at c.append_opening.ensures.text in
    let whole = ap (λ (b : List ℕ). b ++ text_left c.new-frames.result) opening ∙ c.new-frames.ensures.text in
    let breaks = c.in-Err.ensures.breaks _ _ (together_first _ _ _ _ whole) in
    writes_front _ _ _ _ left breaks.1 breaks.2

pub returns-in_default-clause-outcome : goal.returns-in_default-clause-outcome
returns-in_default-clause-outcome g c = λ left.
    let ends = c.end_without_memory.ensures in
    writes_nothing _ _ _ left _ ends.status ends.whole ends.front
