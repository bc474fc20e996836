-- Lines of messages that `follow` reads, and how they end.
-- Source: this profile.
use Rattle.std.specs.List.{fold}
use Rattle.std.specs.declared.option.Option.{Option}
use Rattle.std.specs.declared.option.Option.TheVariants.{None, Some}
use Rattle.br_model.specs.Program.Outcomes.{Lines}
use Rattle.neigh_netlink.specs.declared.follow.LineFault.{LineFault}
use Rattle.neigh_netlink.specs.declared.follower.FollowEnd.{FollowEnd}
use Rattle.neigh_netlink.specs.declared.follower.FollowEnd.TheVariants as lasts
use Rattle.neigh_netlink.specs.Follow.{Ending, Following, Going, Ended, Bad, follows, opened, reads}

-- how the lines end, in the words of their definition
abbrev pub ending_of : FollowEnd → Ending
ending_of lasts.Ended = Ended
ending_of (lasts.Bad n why) = Bad n why

-- lines that went on, if they don't end so
abbrev pub ended_by : Following → Option FollowEnd → Following
ended_by f None = f
ended_by f (Some end) = record f { ending = ending_of end }

-- lines of messages
abbrev pub message_lines : Lines Ending LineFault
message_lines = record {
  whole = λ bytes. (follows bytes).ending;
  so_far = λ bytes. (fold reads opened bytes).following.ending;
  going = Going;
  ended = Ended;
  bad = Bad;
}
