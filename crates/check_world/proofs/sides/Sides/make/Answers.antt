use Rattle.std.proofs.Common.{List, [], sym, subst}
use Rattle.check_world.specs.Cuts.{AreCuts, CutState}
use Rattle.check_world.proofs.Making.{first_stand}
use Rattle.check_world.proofs.sides.Sides.make.Goals as goal

pub invariant_of-result : goal.invariant_of-result
invariant_of-result c =
    first_stand _ _ _ _ (record { domains = c.args.domains; own = c.args.own }) c.in_ok-make.ensures
    (subst (λ (states : List CutState). AreCuts c.args.domains [] states) (sym c.cuts.view_is) c.in_ok-cuts.ensures.stand) c.in_ok-make-2.ensures
    c.in_ok-make-3.ensures
