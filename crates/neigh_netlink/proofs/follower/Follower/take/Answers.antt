use Rattle.neigh_netlink.proofs.Followers.{was-bad, went-on}
use Rattle.neigh_netlink.proofs.follower.Follower.take.Goals as goal

pub returns-in-Ok-clause-takes : goal.returns-in-Ok-clause-takes
returns-in-Ok-clause-takes c =
    let n = c.self.inside.lines in
    went-on _ n _ _ _ c.self.view_is c.in-Ok.last c.end_if.result (c.in-Ok.ensures n) c.end_if.ensures

pub returns-in-Err-clause-takes : goal.returns-in-Err-clause-takes
returns-in-Err-clause-takes c =
    let n = c.self.inside.lines in
    was-bad _ n _ _ _ c.self.view_is c.in-Err.why c.bad.result (c.in-Err.ensures n) c.bad.ensures
