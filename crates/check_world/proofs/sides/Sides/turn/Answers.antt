use Rattle.std.proofs.Common.{◌∷◌, [], sym, ◌∙◌}
use Rattle.lemmas.proofs.Endings.{some_is}
use Rattle.br_model.specs.declared.steps.Refusal.TheVariants.{NothingPending}
use Rattle.br_model.specs.declared.transcript.Line.TheVariants.{Done, Refused}
use Rattle.br_model.specs.Plane.Chip.{chip_in}
use Rattle.check_world.proofs.Turning.{turns_none, turns_one}
use Rattle.check_world.proofs.sides.Sides.turn.Goals as goal

pub apply-requires-clause-next : goal.apply-requires-clause-next
apply-requires-clause-next c x at = sym (c.next_update.ensures x at) ∙ c.in-Some.is

pub returns-in_default : goal.returns-in_default
returns-in_default c =
    let s = c.args.self.now in
    let x = some_is (chip_in s.chips c.args.d) c.requires in
    record {
      lines = Refused c.args.step NothingPending ∷ [];
      so = λ q. turns_none s q c.args.d c.args.step x.0 x.1 (sym (c.next_update.ensures x.0 x.1) ∙ c.in_default.is);
      added = c.in_ok-push.ensures.ok;
    }

pub returns : goal.returns
returns c =
    let s = c.args.self.now in
    let x = some_is (chip_in s.chips c.args.d) c.requires in
    record {
      lines = Done c.args.step 0 ∷ [];
      so = λ q. turns_one s c.apply.new.self q c.args.d c.args.step x.0 c.in-Some.update x.1 (sym (c.next_update.ensures x.0 x.1) ∙ c.in-Some.is) (c.in_ok-apply.ensures x.0 x.1);
      added = c.in_ok-push-2.ensures.ok;
    }
