use Rattle.std.proofs.Common.{◌*◌, subst}
use Rattle.port_sets.specs.Numbers.{IsSetBelow}
use Rattle.port_sets.specs.Words.{is_set}
use Rattle.port_sets.proofs.Numbers.{IsSetBelow-numbers_below, IsStrictlyIncreasing-set, All-set_below, length-set_le}
use Rattle.port_sets.proofs.PortSet.members_ascend.Goals as goal

pub returns : goal.returns
returns g c =
    let set : IsSetBelow (64 * g.row.W) c.args.self.now = subst (IsSetBelow (64 * g.row.W)) c.self.view_is (IsSetBelow-numbers_below (is_set c.self.inside.words) (64 * g.row.W)) in
    record { ordered = set; ascending = IsStrictlyIncreasing-set _ _ set; below = All-set_below _ _ set; few = length-set_le _ _ set }
