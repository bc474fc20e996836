use Rattle.std.proofs.Common.{◌∙◌, arith}
use Rattle.switchbr_c.proofs.Giving.{tells_so}
use Rattle.switchbr_c.proofs.give_listing.Goals as goal

pub returns-in-Ok : goal.returns-in-Ok
returns-in-Ok c = tells_so _ _ _ _ _ _ _ _ _ _ c.in-Ok.ensures.well (c.as_bytes.ensures.value ∙ c.in-Ok.ensures.text) (c.give.ensures.tells _ _ (omega arith))
