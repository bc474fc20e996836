use Rattle.std.proofs.Common.{arith, ap}
use Rattle.lemmas.proofs.Endings.{OnErr_from}
use Rattle.scenario_generator.specs.Generating.{At}
use Rattle.scenario_runner.proofs.Generating.{together_breaks, together_more}
use Rattle.scenario_runner.proofs.commands.put_frames.Goals as goal

pub loop-output-init : goal.loop-output-init
loop-output-init g c = record { room = c.requires.room; goes_on = λ before whole t. t; later = omega arith }

pub append_frame-requires-clause-room : goal.append_frame-requires-clause-room
append_frame-requires-clause-room g c =
    omega (arith, c.in_ok-put_if_full.ensures.small, c.in_ok-put_if_full.ensures.room, c.loop-output.invariant.room.room)

pub loop-output-smaller : goal.loop-output-smaller
loop-output-smaller g c = omega (arith, ap (λ (f : At). f.left) c.append_frame.ensures.next, c.left.ensures, c.loop-output-test.true)

pub loop-output-preserved : goal.loop-output-preserved
loop-output-preserved g c =
    let so_far = c.loop-output.invariant in
    let put = c.in_ok-put_if_full.ensures in record {
      room = record {
        most = omega (arith, put.small, c.append_frame.ensures.len);
        room = omega (arith, so_far.room.room, put.room, c.append_frame.ensures.capacity);
      };
      goes_on = λ before whole t. together_more before _ _ _ _ _ _ whole _ _ (so_far.goes_on before whole t) put.moved c.append_frame.ensures.text c.append_frame.ensures.rest;
      later = omega (arith, so_far.later, c.put_if_full.ensures.cause.later);
    }

pub returns-clause-puts : goal.returns-clause-puts
returns-clause-puts g c = record { none = omega (arith, c.left.ensures, c.loop-output-test.false); goes_on = c.loop-output.invariant.goes_on }

pub returns-clause-room : goal.returns-clause-room
returns-clause-room g c = c.loop-output.invariant.room

pub returns-in_err-put_if_full-clause-breaks : goal.returns-in_err-put_if_full-clause-breaks
returns-in_err-put_if_full-clause-breaks g c =
    OnErr_from c.from_residual.result (λ before whole t. together_breaks before _ _ _ whole _ (c.loop-output.invariant.goes_on before whole t) c.in_err-put_if_full.ensures.breaks)
