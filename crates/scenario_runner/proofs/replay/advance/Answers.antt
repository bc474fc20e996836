use Rattle.std.proofs.Common.{List, ℕ, [], ◌∷◌, ◌++◌, Err, ap, ◌∙◌, refl, arith, length-append}
use Rattle.std.proofs.lemmas.List.{append-nil}
use Rattle.std.proofs.lemmas.Result.{err_from_is_err_and}
use Rattle.scenario_runner.proofs.Steps.{long, closed, stopped, filled, lacking, taken_line, lessens}
use Rattle.scenario_runner.proofs.replay.advance.Goals as goal

pub returns-in_ok-take-in-Ok-Some-clause-advances : goal.returns-in_ok-take-in-Ok-Some-clause-advances
returns-in_ok-take-in-Ok-Some-clause-advances g c = λ limit left written p.
    let next = c.next.follows.holds-at-none in
    let line = rw (c.in-Ok-Some.is, c.in-Ok-Some.field-0-is, c.if-got.true) at next.line in
    let reads = rw (c.in-Ok-Some.is, c.in-Ok-Some.field-0-is, c.if-got.true) at next.calls.reads in
    let sound = rw c.in-Ok-Some.is at next.calls.ok in
    taken_line left _ _ limit _ _ _ _ written _ _ _ p reads next.calls.within sound line.feedless c.in_ok-take-in-Ok-Some.ensures.lines c.in_ok-take-in-Ok-Some.field-0
    c.in_ok-take-in-Ok-Some.ensures.takes

pub returns-in_ok-take-in-Ok-Some-clause-less : goal.returns-in_ok-take-in-Ok-Some-clause-less
returns-in_ok-take-in-Ok-Some-clause-less g c =
    let next = c.next.follows.holds-at-none in
    let lessened = rw (c.in-Ok-Some.is, c.in-Ok-Some.field-0-is, c.if-got.true) at next.calls.lessened in
    lessens _ _ (omega (arith, lessened, length-append c.in-Ok-Some.got.bytes.now (10 ∷ []))) c.in_ok-take-in-Ok-Some.field-0

pub returns-else-got-clause-advances : goal.returns-else-got-clause-advances
returns-else-got-clause-advances g c = λ limit left written p.
    let next = c.next.follows.holds-at-none in
    let line = rw (c.in-Ok-Some.is, c.in-Ok-Some.field-0-is, c.if-got.false) at next.line in
    let reads = rw (c.in-Ok-Some.is, c.in-Ok-Some.field-0-is, c.if-got.false, append-nil c.in-Ok-Some.got.bytes.now) at next.calls.reads in
    closed left _ _ limit _ _ _ _ p _ c.close.result reads next.calls.within (line.last refl).1 line.feedless line.short c.close.ensures

pub returns-in-Ok-None-clause-advances : goal.returns-in-Ok-None-clause-advances
returns-in-Ok-None-clause-advances g c = λ limit left written p.
    let next = c.next.follows.holds-at-none in
    let at = rw (c.in-Ok-None.is, c.in-Ok-None.field-0-is) at next.line in
    let reads = rw (c.in-Ok-None.is, c.in-Ok-None.field-0-is) at next.calls.reads in
    closed left _ _ limit _ _ _ _ p [] c.close-in-Ok-None.result reads next.calls.within at refl (omega arith) c.close-in-Ok-None.ensures

pub returns-in-Err-LineTooLong-clause-advances : goal.returns-in-Err-LineTooLong-clause-advances
returns-in-Err-LineTooLong-clause-advances g c = λ limit left written p.
    let next = c.next.follows.holds-at-none in
    let cause = rw (c.in-Err-LineTooLong.is, c.in-Err-LineTooLong.field-0-is) at (next.cause c.requires.sound) in
    let reads = rw c.in-Err-LineTooLong.is at next.calls.reads in
    rw c.bad.ensures (long left _ _ limit _ _ _ _ p reads next.calls.within cause)

pub returns-in-Err-ReadFault-clause-advances : goal.returns-in-Err-ReadFault-clause-advances
returns-in-Err-ReadFault-clause-advances g c = λ limit left written p.
    let next = c.next.follows.holds-at-none in
    let cause = rw (c.in-Err-ReadFault.is, c.in-Err-ReadFault.field-0-is) at (next.cause c.requires.sound) in
    let reads = rw c.in-Err-ReadFault.is at next.calls.reads in
    stopped left _ _ limit _ _ _ _ p reads next.calls.within cause.1

pub returns-in-Err-TooLong-clause-advances : goal.returns-in-Err-TooLong-clause-advances
returns-in-Err-TooLong-clause-advances g c = λ limit left written p.
    let next = c.next.follows.holds-at-none in
    let cause = rw (c.in-Err-TooLong.is, c.in-Err-TooLong.field-0-is) at (next.cause c.requires.sound) in
    let reads = rw c.in-Err-TooLong.is at next.calls.reads in
    filled left _ _ limit _ _ _ _ p reads next.calls.within cause

pub returns-in_err-take-in-Ok-Some-clause-advances : goal.returns-in_err-take-in-Ok-Some-clause-advances
returns-in_err-take-in-Ok-Some-clause-advances g c = λ limit left written p.
    let next = c.next.follows.holds-at-none in
    let reads = rw (c.in-Ok-Some.is, c.in-Ok-Some.field-0-is, c.if-got.true) at next.calls.reads in
    let err = err_from_is_err_and c.from_residual.result c.from_residual.ensures.1 in
    lacking left _ _ limit _ _ _ _ p _ _ _ _ reads next.calls.within (ap (λ (b : List ℕ). written ++ b) c.in_err-take-in-Ok-Some.ensures.err) (err.1 ∙ ap Err err.2)

pub returns-in-Err-NoMemory-clause-advances : goal.returns-in-Err-NoMemory-clause-advances
returns-in-Err-NoMemory-clause-advances g c = λ limit left written p.
    let next = c.next.follows.holds-at-none in
    let reads = rw c.in-Err-NoMemory.is at next.calls.reads in
    lacking left _ _ limit _ _ _ _ p c.args.session.now [] _ _ reads next.calls.within refl refl
