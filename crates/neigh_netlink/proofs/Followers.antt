-- What a follower does.
use Rattle.std.proofs.Common.{◌≡◌, ℕ, ◌+◌, Bool, true, false, Option, None, Some, Result, Ok, Err, refl, sym, ap, ◌∙◌}
use Rattle.std.specs.Prelude.{if◌then◌else◌}
use Rattle.neigh_netlink.specs.declared.follow.LineFault.{LineFault}
use Rattle.neigh_netlink.specs.declared.follow.Said.{Said}
use Rattle.neigh_netlink.specs.Follow.{Ending, Following, Going, Bad, takes}
use Rattle.neigh_netlink.specs.Lines.{after_line}
use Rattle.neigh_netlink.specs.Neighbours.{Neighbours}
use Rattle.neigh_netlink.specs.declared.follower.FollowEnd.{FollowEnd}
use Rattle.neigh_netlink.specs.declared.follower.FollowEnd.TheVariants as lasts
use Rattle.neigh_netlink.specs.MessageLines.{ended_by, ending_of}

module _ (f : Following) (n : ℕ) (t u : Neighbours) (says : Result Said LineFault) (is : record { lines = n; table = t; ending = Going } ≡ f) where
  abbrev Takes : Following → Type 0
  Takes g = takes (record { lines = n; table = t; ending = Going }) says ≡ g

  -- a line was taken, and may be the last one
  pub went-on : (last : Bool) (o : Option FollowEnd) → Takes (after_line n (Ok last) u) → o ≡ (if last then Some lasts.Ended else None)
      → takes f says ≡ ended_by (record { lines = n + 1; table = u; ending = Going }) o
  went-on last o h e =
      ap (λ (g : Following). takes g says) (sym is) ∙ h ∙ by last ∙ ap (ended_by (record { lines = n + 1; table = u; ending = Going })) (sym e)
    where
      by : (last : Bool) → after_line n (Ok last) u ≡ ended_by (record { lines = n + 1; table = u; ending = Going }) (if last then Some lasts.Ended else None)
      by true = refl
      by false = refl

  -- a line was bad
  pub was-bad : (why : LineFault) (end : FollowEnd) → Takes (after_line n (Err why) u) → Bad (n + 1) why ≡ ending_of end
      → takes f says ≡ ended_by (record { lines = n; table = u; ending = Going }) (Some end)
  was-bad why end h e =
      ap (λ (g : Following). takes g says) (sym is) ∙ h ∙ ap (λ (d : Ending). record { lines = n; table = u; ending = d }) e
