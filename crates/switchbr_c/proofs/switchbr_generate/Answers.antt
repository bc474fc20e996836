use Rattle.std.proofs.Common.{◌∙◌, arith, refl}
use Rattle.switchbr_c.proofs.Giving.{tells_so}
use Rattle.switchbr_c.proofs.switchbr_generate.Goals as goal

pub returns-in-Ok : goal.returns-in-Ok
returns-in-Ok c = tells_so _ _ _ _ _ _ _ _ _ _ refl (c.as_slice.ensures ∙ c.in-Ok.ensures) (c.give.ensures.tells _ _ (omega arith))
