use Rattle.std.proofs.Common.{◌+◌, ◌≤◌, length, refl, sym, ap, ◌∙◌, arith}
use Rattle.run_io.specs.Reading.{Reading}
use Rattle.run_io.specs.contracts.lines.LineReader.{the_view}
use Rattle.run_io.proofs.ReadSteps.{handed_view}
use Rattle.run_io.proofs.Pieces.{range_later, length_range, handed_range}
use Rattle.run_io.proofs.lines.LineReader.hand_out.Goals as goal

pub invariant_of-self : goal.invariant_of-self
invariant_of-self c =
    let r = c.self.inside in
    let held = ap (λ (v : Reading). length v.held) (sym c.self.view_is) ∙ length_range r.buffer.items r.start r.end c.self.invariant.within in
    let within : r.start + c.args.span.past ≤ r.end = omega (arith, held, c.requires.past, c.self.invariant.ordered) in record {
      ordered = within;
      within = c.self.invariant.within;
      limit = c.self.invariant.limit;
      line = rw (c.deref.ensures.value, range_later r.buffer.items r.start r.end c.args.span.past within) at c.line_after-self-inside.ensures;
      room = c.self.invariant.room;
    }

pub returns : goal.returns
returns c =
    let r = c.self.inside in
    let is = ap (λ (v : Reading). v.held) (sym c.self.view_is) in
    let held = ap length is ∙ length_range r.buffer.items r.start r.end c.self.invariant.within in
    let within : r.start + c.args.span.past ≤ r.end = omega (arith, held, c.requires.past, c.self.invariant.ordered) in
    let shorter : r.start + c.args.span.len ≤ r.end = omega (arith, c.requires.len, within) in (
      (refl, λ _. tt, handed_view c.args.self.now (the_view r) _ c.args.span.past c.self.view_is (range_later r.buffer.items r.start r.end c.args.span.past within)),
      record {
        bytes = handed_range r.buffer.items c.deref-2.result.now c.args.self.now.held r.start r.end c.args.span.len c.deref-2.ensures.value is shorter;
        whole = refl;
        rests = tt;
      },
    )
