-- What is told of lines of messages in memory.
use Rattle.std.specs.Prelude.{◌≡◌, ℕ, Bool, true, false, List, string_bytes}
use Rattle.neigh_netlink.specs.Follow.{Ending, Going, Ended, Bad, followed, follows}
use Rattle.neigh_netlink.specs.Neighbours.{Neighbours}
use Rattle.neigh_netlink.specs.MessageLines.{ending_of}
use Rattle.neigh_netlink.specs.declared.follower.FollowEnd.{FollowEnd}
use Rattle.whole_texts.specs.declared.replaying.Told.{Told}

-- The lines end so, and this is their table.
pub record EndsSo (bytes : List ℕ) (t : Neighbours) (end : FollowEnd) : Type 0 where
  pub ends : (follows bytes).ending ≡ ending_of end
  pub table : (follows bytes).table ≡ t

-- by the line `end`
abbrev pub lines_end_well : Ending → Bool
lines_end_well Going = false
lines_end_well Ended = true
lines_end_well (Bad n why) = false

-- The text is what `follow` writes, and this says whether the lines end well.
pub record TellsTable (bytes : List ℕ) (x : Told) : Type 0 where
  pub text : string_bytes x.text ≡ followed bytes
  pub well : x.well ≡ lines_end_well (follows bytes).ending
