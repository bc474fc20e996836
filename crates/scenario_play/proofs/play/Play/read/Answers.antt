use Rattle.std.proofs.Common.{[], ◌∷◌, ◌++◌, false, List, ℕ, length, sym, ap, subst, arith, length-append, string_bytes}
use Rattle.br_model.specs.Text.Scenario.{opened, read}
use Rattle.scenario_play.specs.declared.play.Went.{Went}
use Rattle.scenario_play.specs.Playing.{Goes, IsLeft, IsOver, closing, played}
use Rattle.scenario_play.proofs.Lines.{line_on, stays_at, whole_over}
use Rattle.scenario_play.proofs.Steps.{steady_by}
use Rattle.scenario_play.proofs.play.Play.read.Goals as goal

pub loop-front-init : goal.loop-front-init
loop-front-init g c = record {
  few = omega (arith, c.requires.few, c.requires.first.follows.lines);
  goes = stays_at (opened false) c.args.bytes.now (played c.args.self.now (g.W.Stage.stands c.args.stage.now) (string_bytes c.args.text.now)) c.requires.first c.requires.fits;
}

pub line-requires-clause-steady : goal.line-requires-clause-steady
line-requires-clause-steady g c = let on = c.loop-front.invariant.goes in steady_by [] on.scenario _ on.stands

pub line-requires-clause-fits : goal.line-requires-clause-fits
line-requires-clause-fits g c = c.loop-front.invariant.goes.fits

pub loop-front-preserved : goal.loop-front-preserved
loop-front-preserved g c =
    let front = c.in-Some.ensures in
    let line = c.in-Some.front.line.now in
    let behind = c.in-Some.front.behind.now in
    let on = c.loop-front.invariant.goes in
    let left = subst (λ (w : Went). IsLeft behind w) c.in-On.is c.in_ok-behind.ensures.left in record {
      few = omega (arith, c.loop-front.invariant.few, c.in_ok-behind.ensures.lines, left, ap length front.joined, length-append line (10 ∷ behind));
      goes = line_on (opened false) c.args.bytes.now c.loop-front.rest.now line behind (played c.loop-front.self (g.W.Stage.stands c.loop-front.stage) (string_bytes c.loop-front.text)) (played c.line.new.self (g.W.Stage.stands c.line.new.stage) (string_bytes c.line.new.text)) c.in-On.behind.now on front.joined
          (subst (λ (w : Went). Goes on.scenario (line ++ 10 ∷ behind) (played c.line.new.self (g.W.Stage.stands c.line.new.stage) (string_bytes c.line.new.text)) w) c.in-On.is (c.in_ok-behind.ensures.goes on.scenario on.stands));
    }

pub returns-in-Ends : goal.returns-in-Ends
returns-in-Ends g c =
    let front = c.in-Some.ensures in
    let line = c.in-Some.front.line.now in
    let behind = c.in-Some.front.behind.now in
    let on = c.loop-front.invariant.goes in
    let new = (played c.line.new.self (g.W.Stage.stands c.line.new.stage) (string_bytes c.line.new.text)) in
    whole_over c.args.bytes.now c.loop-front.rest.now (played c.loop-front.self (g.W.Stage.stands c.loop-front.stage) (string_bytes c.loop-front.text)) new.stage new.text c.in-Ends.last on
    (subst (λ (b : List ℕ). IsOver [] (closing (read 0 on.scenario b)) new.stage new.text c.in-Ends.last) (sym front.joined)
    (subst (λ (w : Went). Goes on.scenario (line ++ 10 ∷ behind) (played c.line.new.self (g.W.Stage.stands c.line.new.stage) (string_bytes c.line.new.text)) w) c.in-Ends.is (c.in_ok-behind.ensures.goes on.scenario on.stands)))

pub returns : goal.returns
returns g c =
    let on = c.loop-front.invariant.goes in
    whole_over c.args.bytes.now c.loop-front.rest.now (played c.loop-front.self (g.W.Stage.stands c.loop-front.stage) (string_bytes c.loop-front.text)) _ _ _ on (c.close.ensures on.scenario (string_bytes c.loop-front.text) on.stands)
