use Rattle.std.proofs.Common.{subst}
use Rattle.br_model.specs.Table.Domains.{Domains}
use Rattle.forward_rules.specs.Decided.{Decides}
use Rattle.check_world.proofs.CutChanges.{are_chips, decides_for, there_at}
use Rattle.check_world.proofs.sides.Sides.decide.Goals as goal

pub at-requires : goal.at-requires
at-requires c =
    let x = c.self.inside in
    there_at x.cuts c.args.self.now.chips c.args.d (are_chips x.bridge x.published x.counts.items x.cuts c.args.self.now c.self.view_is) c.requires

pub returns : goal.returns
returns c chip found =
    let x = c.self.inside in
    let y = c.at.result.now in
    decides_for x.bridge x.published x.counts.items x.cuts c.args.self.now c.self.view_is x.updates x.point c.args.d chip y c.args.port c.args.head.now c.args.message.now c.decide.result
    c.self.invariant found c.at.ensures
    (subst (λ (d : Domains). Decides d y.table c.args.port c.args.head.now c.args.message.now c.decide.result) c.domains.ensures c.decide.ensures)
