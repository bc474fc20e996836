use Rattle.std.proofs.Common.{[], Err, ap, ◌∙◌, refl, arith}
use Rattle.std.proofs.lemmas.Result.{err_from_is_err_and}
use Rattle.scenario_runner.proofs.Sections.{come_by_line, cut_off, filled, lacking, stopped, taken_section}
use Rattle.scenario_runner.proofs.replay.read_section.Goals as goal

pub returns-in_ok-captured-in-Ok-clause-sections : goal.returns-in_ok-captured-in-Ok-clause-sections
returns-in_ok-captured-in-Ok-clause-sections g c = λ limit left text p.
    let taken = c.take.follows.holds-at-none in
    let reads = rw c.in-Ok.is at taken.calls.reads in
    let piece = rw c.in-Ok.is at taken.piece in
    let sound = rw c.in-Ok.is at taken.calls.ok in
    taken_section left _ _ limit _ _ c.args.session.now text c.args.length p c.in-Ok.got.bytes.now reads taken.calls.within
    (piece.full c.if-got.true) c.in_ok-captured-in-Ok.field-0 sound c.in_ok-captured-in-Ok.ensures

pub returns-in_ok-captured-in-Ok-clause-by_line : goal.returns-in_ok-captured-in-Ok-clause-by_line
returns-in_ok-captured-in-Ok-clause-by_line g c = come_by_line c.args.session.now.reader c.in-Ok.got.bytes.now c.in_ok-captured-in-Ok.field-0 c.in_ok-captured-in-Ok.ensures

pub returns-in_ok-captured-in-Ok-clause-less : goal.returns-in_ok-captured-in-Ok-clause-less
returns-in_ok-captured-in-Ok-clause-less g c =
    let taken = c.take.follows.holds-at-none in
    omega (arith, taken.calls.lessened)

pub returns-else-got-clause-sections : goal.returns-else-got-clause-sections
returns-else-got-clause-sections g c = λ limit left text p.
    let taken = c.take.follows.holds-at-none in
    let reads = rw c.in-Ok.is at taken.calls.reads in
    let piece = rw c.in-Ok.is at taken.piece in
    let last = piece.last c.if-got.false in
    rw c.bad_section.ensures (cut_off left _ _ limit _ _ c.args.session.now text c.args.length p c.in-Ok.got.bytes.now reads taken.calls.within last.1 last.0)

pub returns-in-Err-ReadFault-clause-sections : goal.returns-in-Err-ReadFault-clause-sections
returns-in-Err-ReadFault-clause-sections g c = λ limit left text p.
    let taken = c.take.follows.holds-at-none in
    let cause = rw (c.in-Err-ReadFault.is, c.in-Err-ReadFault.field-0-is) at (taken.cause c.requires.sound) in
    let reads = rw c.in-Err-ReadFault.is at taken.calls.reads in
    stopped left _ _ limit _ _ c.args.session.now text c.args.length p reads taken.calls.within cause.1 cause.2

pub returns-in-Err-TooLong-clause-sections : goal.returns-in-Err-TooLong-clause-sections
returns-in-Err-TooLong-clause-sections g c = λ limit left text p.
    let taken = c.take.follows.holds-at-none in
    let cause = rw (c.in-Err-TooLong.is, c.in-Err-TooLong.field-0-is) at (taken.cause c.requires.sound) in
    let reads = rw c.in-Err-TooLong.is at taken.calls.reads in
    filled left _ _ limit _ _ c.args.session.now text c.args.length p reads taken.calls.within cause.0 cause.1

pub returns-in_err-captured-in-Ok-clause-sections : goal.returns-in_err-captured-in-Ok-clause-sections
returns-in_err-captured-in-Ok-clause-sections g c = λ limit left text p.
    let taken = c.take.follows.holds-at-none in
    let reads = rw c.in-Ok.is at taken.calls.reads in
    let err = err_from_is_err_and c.from_residual.result c.from_residual.ensures.1 in
    lacking left _ _ limit _ _ c.args.session.now text c.args.length p _ _ reads taken.calls.within (err.1 ∙ ap Err err.2)

pub returns-in-Err-NoMemory-clause-sections : goal.returns-in-Err-NoMemory-clause-sections
returns-in-Err-NoMemory-clause-sections g c = λ limit left text p.
    let taken = c.take.follows.holds-at-none in
    let reads = rw c.in-Err-NoMemory.is at taken.calls.reads in
    lacking left _ _ limit _ _ c.args.session.now text c.args.length p [] _ reads taken.calls.within refl
