use Rattle.std.proofs.Common.{[], ◌∷◌, ◌++◌, refl, sym, ap, ◌∙◌}
use Rattle.lemmas.proofs.Endings.{some_is}
use Rattle.br_model.specs.Plane.Chip.{chip_in}
use Rattle.br_model.specs.declared.steps.Refusal.TheVariants.{NothingPending}
use Rattle.br_model.specs.declared.steps.Step.TheVariants.{Turn}
use Rattle.br_model.specs.declared.transcript.Line.TheVariants.{Done, Refused}
use Rattle.plane_core.specs.Sides.{SidesState}
use Rattle.plane_core.proofs.Calling.{stands_after, steps_so, turns_none, turns_one}
use Rattle.plane_core.proofs.Turning.{there}
use Rattle.plane_core.proofs.plane.Plane.turn_next.Goals as goal

pub next_update-requires : goal.next_update-requires
next_update-requires c = there c.args.self.now c.self.inside.sides c.self.inside.frames c.self.inside.steps c.args.dom c.self.view_is c.self.invariant c.requires

pub turn-requires-clause-chip : goal.turn-requires-clause-chip
turn-requires-clause-chip c = there c.args.self.now c.self.inside.sides c.self.inside.frames c.self.inside.steps c.args.dom c.self.view_is c.self.invariant c.requires

pub returns-in_default-clause-ok : goal.returns-in_default-clause-ok
returns-in_default-clause-ok c =
    let s = c.self.inside.sides in
    let q = c.self.inside.frames in
    let n = c.self.inside.steps in
    let m = c.in_ok-step.step in
    let x = some_is (chip_in s.chips c.args.dom) (there c.args.self.now s q n c.args.dom c.self.view_is c.self.invariant c.requires) in
    record {
      lines = Refused m NothingPending ∷ [];
      so = steps_so c.args.self.now s s q q n m (Turn c.args.dom) _ _ c.self.view_is c.in_ok-step.ensures
          (turns_none s q c.args.dom m x.0 x.1 (sym (c.next_update.ensures x.0 x.1) ∙ c.in_default.is)) refl refl;
      added = c.in_ok-push.ensures.ok;
    }

pub invariant_of-self-2 : goal.invariant_of-self-2
invariant_of-self-2 c =
    let s = c.self.inside.sides in
    let q = c.self.inside.frames in
    let n = c.self.inside.steps in
    let m = c.in_ok-step.step in
    let x = some_is (chip_in s.chips c.args.dom) (there c.args.self.now s q n c.args.dom c.self.view_is c.self.invariant c.requires) in
    stands_after s c.turn.new.self q q n m (Turn c.args.dom) (Done m 0 ∷ []) c.in_ok-step.ensures
    (turns_one s c.turn.new.self q c.args.dom m x.0 c.in-Some.update x.1 (sym (c.next_update.ensures x.0 x.1) ∙ c.in-Some.is) (c.in_ok-turn.ensures.ok x.0 x.1)) c.self.invariant

pub returns-clause-ok : goal.returns-clause-ok
returns-clause-ok c =
    let s = c.self.inside.sides in
    let q = c.self.inside.frames in
    let n = c.self.inside.steps in
    let m = c.in_ok-step.step in
    let x = some_is (chip_in s.chips c.args.dom) (there c.args.self.now s q n c.args.dom c.self.view_is c.self.invariant c.requires) in
    let after = c.in_ok-turn.ensures.ok x.0 x.1 in
    record {
      lines = Done m 0 ∷ [];
      so = steps_so c.args.self.now s c.turn.new.self q q n m (Turn c.args.dom) _ _ c.self.view_is c.in_ok-step.ensures
          (turns_one s c.turn.new.self q c.args.dom m x.0 c.in-Some.update x.1 (sym (c.next_update.ensures x.0 x.1) ∙ c.in-Some.is) after) refl (ap (λ (t : SidesState). t.board) after);
      added = c.push_reserved.ensures.lines ∙ ap (λ ls. ls ++ Done m 0 ∷ []) c.in_ok-reserve.ensures.lines;
    }
