use Rattle.std.proofs.Common.{◌∙◌, String}
use Rattle.std.specs.declared.alloc.Global.{Global}
use Rattle.neigh_netlink.specs.declared.follower.FollowEnd.{FollowEnd}
use Rattle.capture_runner.proofs.Outcomes.{calm_follow, follow_ends, follow_stops}
use Rattle.run_status.proofs.Ends.{calm_stops, read_stopped}
use Rattle.capture_runner.proofs.follow.follow.Goals as goal

pub returns-in-Ok-clause-outcome : goal.returns-in-Ok-clause-outcome
returns-in-Ok-clause-outcome g c =
    let ends = rw c.as_bytes.ensures.value at c.put_last.ensures in
    follow_ends _ _ _ _ _ _ (c.in-Ok.end, c.in-Ok.text) c.in-Ok.ensures.yields (λ n. ends.status n ∙ c.status_of.ensures) ends.whole
    (λ e. ends.front e (calm_follow _ _ c.status_of.ensures))

pub returns-in-Err-clause-outcome : goal.returns-in-Err-clause-outcome
returns-in-Err-clause-outcome g c =
    let ends = rw c.line.ensures at c.put_last-in-Err.ensures in
    follow_stops _ _ _ _ _ _ c.in-Err.stop c.in-Err.ensures.yields (read_stopped (FollowEnd × String Global) _ _ c.in-Err.stop c.in-Err.ensures.cause)
    (λ n. ends.status n ∙ c.status.ensures) ends.whole (λ e. ends.front e (calm_stops _ _ c.status.ensures))
