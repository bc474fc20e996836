use Rattle.std.proofs.Common.{refl, arith}
use Rattle.switchbr_c.proofs.Asking.{gave_answer, well_given}
use Rattle.switchbr_c.proofs.Giving.{tells_so}
use Rattle.switchbr_c.proofs.give_answer.Goals as goal

pub returns-in-Ok-clause-tells : goal.returns-in-Ok-clause-tells
returns-in-Ok-clause-tells c =
    gave_answer _ c.in-Ok.text _ _ _ _ c.in-Ok.is (tells_so _ _ _ _ _ _ _ _ _ _ refl c.as_bytes.ensures.value (c.give.ensures.tells 0 0 (omega arith)))

pub returns-in-Ok-clause-others : goal.returns-in-Ok-clause-others
returns-in-Ok-clause-others c = well_given _ (λ three. let told = c.give.ensures.tells 0 0 (omega arith) in (told.bad_line three).0) c.give.ensures.others
