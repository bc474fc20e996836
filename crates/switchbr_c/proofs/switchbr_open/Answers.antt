use Rattle.std.proofs.Common.{subst, sym}
use Rattle.whole_texts.specs.Sessions.{IsSound}
use Rattle.switchbr_c.proofs.Sessions.{opens}
use Rattle.switchbr_c.proofs.switchbr_open.Goals as goal

pub put-requires : goal.put-requires
put-requires c = subst IsSound (sym c.in-Ok-new.ensures.ok) c.in-Ok.ensures.sound

pub returns : goal.returns
returns c = opens _ _ _ c.put.ensures c.in-Ok-new.ensures.ok c.in-Ok.ensures.at
