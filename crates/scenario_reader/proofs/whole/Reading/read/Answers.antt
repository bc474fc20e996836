use Rattle.std.proofs.Common.{◌∷◌, ◌++◌, length, ap, subst, arith, length-append}
use Rattle.scenario_reader.specs.declared.whole.Went.{Went}
use Rattle.scenario_reader.specs.Passing.{Goes, IsLeft}
use Rattle.scenario_reader.proofs.Passing.{goes_to_end, line_ends, line_on}
use Rattle.scenario_reader.proofs.whole.Reading.read.Goals as goal

pub loop-line-preserved : goal.loop-line-preserved
loop-line-preserved c =
    let line = c.in-Some.line.bytes.now in
    let behind = c.in-Some.line.behind.now in
    let joined = c.in-Some.ensures.joined in
    let left = subst (λ (w : Went). IsLeft behind w) c.in-On.is c.in_ok-behind.ensures.left in record {
      few = omega (arith, c.loop-line.invariant.few, c.in_ok-behind.ensures.lines, left, ap length joined, length-append line (10 ∷ behind));
      goes = λ check s h.
          line_on check s _ _ _ _ _ c.loop-line.rest.now line behind c.in-On.behind.now (c.loop-line.invariant.goes check s h) joined
          (λ t stands. subst (λ (w : Went). Goes check t (line ++ 10 ∷ behind) c.line.new.self.reader c.line.new.self.steps.items w) c.in-On.is (c.in_ok-behind.ensures.goes check t stands));
    }

pub returns-in-Ends : goal.returns-in-Ends
returns-in-Ends c = λ check s h.
    let line = c.in-Some.line.bytes.now in
    let behind = c.in-Some.line.behind.now in
    line_ends check s _ _ _ _ _ c.loop-line.rest.now line behind c.in-Ends.end (c.loop-line.invariant.goes check s h) c.in-Some.ensures.joined
    (λ t stands. subst (λ (w : Went). Goes check t (line ++ 10 ∷ behind) c.line.new.self.reader c.line.new.self.steps.items w) c.in-Ends.is (c.in_ok-behind.ensures.goes check t stands))

pub returns : goal.returns
returns c = λ check s h.
    let on = c.loop-line.invariant.goes check s h in
    goes_to_end check s _ _ _ _ _ c.loop-line.rest.now c.close.result on (c.close.ensures check on.scenario on.stands)
