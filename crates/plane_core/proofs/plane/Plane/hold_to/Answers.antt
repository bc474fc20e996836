use Rattle.std.proofs.Common.{[], ◌∷◌, ◌++◌, refl, ap, ◌∙◌}
use Rattle.br_model.specs.declared.steps.Step.TheVariants.{Hold}
use Rattle.plane_core.proofs.Calling.{holds_one, stands_held, steps_so}
use Rattle.plane_core.proofs.plane.Plane.hold_to.Goals as goal

pub invariant_of-self-2 : goal.invariant_of-self-2
invariant_of-self-2 c =
    stands_held c.self.inside.sides c.self.inside.frames c.hold.new.self c.self.inside.steps c.in_ok-step.step c.published-floor.result
    c.in_ok-step.ensures c.published-floor.ensures c.in_ok-hold.ensures.ok c.self.invariant

pub returns-clause-ok : goal.returns-clause-ok
returns-clause-ok c =
    let s = c.self.inside.sides in
    let q = c.self.inside.frames in
    let m = c.in_ok-step.step in
    record {
      lines = c.hold_line-line.result ∷ [];
      so = steps_so c.args.self.now s s q c.hold.new.self c.self.inside.steps m Hold _ _ c.self.view_is c.in_ok-step.ensures
          (holds_one s q c.hold.new.self m c.published-floor.result c.hold_line-line.result c.published-floor.ensures c.in_ok-hold.ensures.ok c.hold_line-line.ensures.line) refl refl;
      added = c.push_reserved.ensures.lines ∙ ap (λ ls. ls ++ c.hold_line-line.result ∷ []) c.in_ok-reserve.ensures.lines;
    }
