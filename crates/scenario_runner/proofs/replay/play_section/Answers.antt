use Rattle.std.proofs.Common.{Err, ap, ◌∙◌}
use Rattle.std.proofs.lemmas.Result.{err_from_is_err_and}
use Rattle.br_model.specs.Table.Limits.{most_bytes}
use Rattle.scenario_runner.proofs.Doing.{flushed, plays_on, section_breaks, section_halts_in, section_stops}
use Rattle.run_status.proofs.Writing.{grows_by, grows_on, grows_none}
use Rattle.scenario_runner.proofs.replay.play_section.Goals as goal

pub returns-in_err-steps-clause-plays : goal.returns-in_err-steps-clause-plays
returns-in_err-steps-clause-plays g c = λ left before all w at.
    let moved = flushed before _ _ _ _ all w c.in_ok-flush.ensures.all c.in_ok-flush.ensures.empty in
    let err = err_from_is_err_and c.from_residual-in_err-steps.result c.from_residual-in_err-steps.ensures.1 in
    section_stops left _ before _ c.read_section.new.reader _ _ all moved c.in_err-steps.field-0.0 _ (err.1 ∙ ap Err err.2) (c.in_err-steps.ensures.sections most_bytes left all at)

pub returns-in_ok-do_steps-in-Steps-clause-plays : goal.returns-in_ok-do_steps-in-Steps-clause-plays
returns-in_ok-do_steps-in-Steps-clause-plays g c = λ left before all w at.
    let moved = flushed before _ _ _ _ all w c.in_ok-flush.ensures.all c.in_ok-flush.ensures.empty in
    plays_on left _ before _ c.read_section.new.reader _ _ all moved _ c.in-Steps.steps.items _ _
    (rw c.in-Steps.is at (c.in_ok-steps.ensures.sections most_bytes left all at)) c.in_ok-do_steps-in-Steps.ensures.does

pub returns-in-End-clause-plays : goal.returns-in-End-clause-plays
returns-in-End-clause-plays g c = λ left before all w at.
    let moved = flushed before _ _ _ _ all w c.in_ok-flush.ensures.all c.in_ok-flush.ensures.empty in
    (all, moved, rw c.in-End.is at (c.in_ok-steps.ensures.sections most_bytes left all at))

pub returns-in_err-flush-clause-plays : goal.returns-in_err-flush-clause-plays
returns-in_err-flush-clause-plays g c = λ left before all w at.
    let err = err_from_is_err_and c.from_residual.result c.from_residual.ensures.1 in
    section_breaks left _ before _ _ _ _ all w _ _ _ _ _ _ at c.in_err-flush.ensures.prefix (err.1 ∙ ap Err err.2)

pub returns-in_err-do_steps-in-Steps-clause-plays : goal.returns-in_err-do_steps-in-Steps-clause-plays
returns-in_err-do_steps-in-Steps-clause-plays g c = λ left before all w at.
    let moved = flushed before _ _ _ _ all w c.in_ok-flush.ensures.all c.in_ok-flush.ensures.empty in
    let err = err_from_is_err_and c.from_residual-in_err-do_steps-in-Steps.result c.from_residual-in_err-do_steps-in-Steps.ensures.1 in
    section_halts_in left _ before _ c.read_section.new.reader _ _ all moved _ c.in-Steps.steps.items _ _ _ _ (err.1 ∙ ap Err err.2)
    (rw c.in-Steps.is at (c.in_ok-steps.ensures.sections most_bytes left all at)) c.in_err-do_steps-in-Steps.ensures.halts

pub returns-in_err-flush-clause-grows : goal.returns-in_err-flush-clause-grows
returns-in_err-flush-clause-grows g c = grows_by _ _ _ _ (grows_none _) c.in_err-flush.ensures.prefix.2

pub returns-in_err-steps-clause-grows : goal.returns-in_err-steps-clause-grows
returns-in_err-steps-clause-grows g c = grows_by _ _ _ _ (grows_none _) c.in_ok-flush.ensures.all

pub returns-in_err-do_steps-in-Steps-clause-grows : goal.returns-in_err-do_steps-in-Steps-clause-grows
returns-in_err-do_steps-in-Steps-clause-grows g c = grows_on _ _ _ (grows_by _ _ _ _ (grows_none _) c.in_ok-flush.ensures.all) c.do_steps.ensures.grows

pub returns-in_ok-do_steps-in-Steps-clause-grows : goal.returns-in_ok-do_steps-in-Steps-clause-grows
returns-in_ok-do_steps-in-Steps-clause-grows g c = grows_on _ _ _ (grows_by _ _ _ _ (grows_none _) c.in_ok-flush.ensures.all) c.do_steps.ensures.grows

pub returns-in-End-clause-grows : goal.returns-in-End-clause-grows
returns-in-End-clause-grows g c = grows_by _ _ _ _ (grows_none _) c.in_ok-flush.ensures.all
