use Rattle.std.proofs.Common.{◌∙◌, ap}
use Rattle.br_model.specs.Table.Domains.{has_chip}
use Rattle.br_model.specs.Table.Setup.{Setup}
use Rattle.br_model.specs.declared.steps.Step.TheVariants.{Turn}
use Rattle.br_model.proofs.Plane.Still.{turn-history}
use Rattle.plane_record.specs.Pasts.{world_of}
use Rattle.plane_lock.proofs.Settling.{keeps}
use Rattle.plane_lock.proofs.locked.Locked.turn.Goals as goal

pub turn_next-requires : goal.turn_next-requires
turn_next-requires g c = ap (λ (s : Setup). has_chip s.domains c.args.d) c.self.invariant.1 ∙ c.requires

pub invariant_of-self : goal.invariant_of-self
invariant_of-self g c =
    keeps c.turn_next.result c.self.inside.ran c.turn_next.new.self (Turn c.args.d) g.N.Name.board g.N.Name.own c.self.inside.posters.items c.turn_next.ensures.ok c.turn_next.ensures.err
    (turn-history (world_of c.self.inside.ran) c.args.d) c.self.invariant
