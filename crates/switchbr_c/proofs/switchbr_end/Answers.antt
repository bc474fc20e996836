use Rattle.switchbr_c.proofs.Sessions.{ends, ends_none}
use Rattle.switchbr_c.proofs.switchbr_end.Goals as goal

pub returns : goal.returns
returns c = ends _ _ _ c.in-Some.ensures.taken.0 c.in-Some.ensures.none

pub returns-in_default : goal.returns-in_default
returns-in_default c = ends_none _ _ c.in_default.ensures.taken c.in_default.ensures.none
