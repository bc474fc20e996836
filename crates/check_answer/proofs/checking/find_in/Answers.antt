use Rattle.std.proofs.Common.{List, ℕ, Err, ap, ◌∙◌, subst}
use Rattle.run_io.specs.Causes.{Rose}
use Rattle.std.proofs.lemmas.Result.{err_from_is_err_and}
use Rattle.check_answer.specs.Checking.{IsFound, SeesBadOr}
use Rattle.check_answer.proofs.CheckEnds.{caused_stopped, ends_failed, ends_found, ends_full, ends_stopped, lacks_memory, said_found, said_stopped}
use Rattle.check_answer.proofs.checking.find_in.Goals as goal

pub returns-in-Ended-clause-checks : goal.returns-in-Ended-clause-checks
returns-in-Ended-clause-checks g c =
    let t = c.in_ok-taken.ensures.takes in
    let cause = rw c.in-Ended.is at t.cause in
    ends_found _ _ _ _ t.consumed c.in_ok-find_whole-in-Ended.field-0 cause.1 cause.0
    (subst (λ (b : List ℕ). IsFound b c.in_ok-find_whole-in-Ended.field-0) c.as_slice-bytes.ensures.value c.in_ok-find_whole-in-Ended.ensures)

pub returns-in-Ended-clause-said : goal.returns-in-Ended-clause-said
returns-in-Ended-clause-said g c = said_found _ _ c.in_ok-find_whole-in-Ended.ensures

pub returns-in-Full-clause-checks : goal.returns-in-Full-clause-checks
returns-in-Full-clause-checks g c =
    let t = c.in_ok-taken.ensures.takes in
    let cause = rw c.in-Full.is at t.cause in
    let failed = Rose (g.S.Source.faults c.args.source.now) (g.S.Source.faults c.take_all.new.source) in
    ends_stopped failed _ _ _ t.consumed _ _ t.within (ends_full failed _ _ _ t.consumed cause)
    (subst (λ (b : List ℕ). SeesBadOr b _ c.find_bad.result) c.as_slice-bytes.ensures.value c.find_bad.ensures)

pub returns-in-Full-clause-said : goal.returns-in-Full-clause-said
returns-in-Full-clause-said g c = said_stopped _ _ _ c.find_bad.ensures

pub returns-clause-checks : goal.returns-clause-checks
returns-clause-checks g c =
    let t = c.in_ok-taken.ensures.takes in
    let cause = rw c.in-ReadFault.is at t.cause in
    ends_stopped _ _ _ _ t.consumed _ _ t.within (ends_failed _ _ _ _ t.consumed cause.1 cause.0)
    (subst (λ (b : List ℕ). SeesBadOr b _ c.find_bad-in-ReadFault.result) c.as_slice-bytes.ensures.value c.find_bad-in-ReadFault.ensures)

pub returns-clause-said : goal.returns-clause-said
returns-clause-said g c = said_stopped _ _ _ c.find_bad-in-ReadFault.ensures

pub returns-in-Full-clause-cause : goal.returns-in-Full-clause-cause
returns-in-Full-clause-cause g c = caused_stopped _ _ _ _ _ c.find_bad.ensures (λ e. absurd (cc))

pub returns-clause-cause : goal.returns-clause-cause
returns-clause-cause g c =
    let cause = rw c.in-ReadFault.is at c.in_ok-taken.ensures.takes.cause in
    caused_stopped _ _ _ _ _ c.find_bad-in-ReadFault.ensures (λ e. cause.1)

pub returns-in_err-taken-clause-checks : goal.returns-in_err-taken-clause-checks
returns-in_err-taken-clause-checks g c =
    let err = err_from_is_err_and c.from_residual.result c.from_residual.ensures.1 in
    let t = c.in_err-taken.ensures.takes in
    lacks_memory _ _ _ t.input t.consumed _ (err.1 ∙ ap Err err.2)

pub returns-in_err-find_whole-in-Ended-clause-checks : goal.returns-in_err-find_whole-in-Ended-clause-checks
returns-in_err-find_whole-in-Ended-clause-checks g c =
    let err = err_from_is_err_and c.from_residual-in_err-find_whole-in-Ended.result c.from_residual-in_err-find_whole-in-Ended.ensures.1 in
    lacks_memory _ _ _ _ c.in_ok-taken.ensures.takes.consumed _ (err.1 ∙ ap Err err.2)
