use Rattle.std.proofs.Common.{sym, ◌∙◌, arith}
use Rattle.br_model.specs.Program.LiveRun.{is_frame}
use Rattle.live_book.proofs.Places.{place_behind, place_here, place_none}
use Rattle.live_book.proofs.parts.before_frame.Goals as goal

pub loop-place-init : goal.loop-place-init
loop-place-init c = place_none is_frame c.args.steps.now

pub loop-place-preserved : goal.loop-place-preserved
loop-place-preserved c =
    sym (place_behind is_frame c.args.steps.now c.loop-place.place c.index-steps-place.result (omega arith) c.index-steps-place.is (sym c.is_frame.ensures ∙ c.if-is_frame.false))
    ∙ c.loop-place.invariant

pub returns-then-is_frame-clause-value : goal.returns-then-is_frame-clause-value
returns-then-is_frame-clause-value c =
    sym (place_here is_frame c.args.steps.now c.loop-place.place c.index-steps-place.result (omega arith) c.index-steps-place.is (sym c.is_frame.ensures ∙ c.if-is_frame.true))
    ∙ c.loop-place.invariant
