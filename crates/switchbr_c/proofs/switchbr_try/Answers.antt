use Rattle.std.proofs.Common.{refl, subst, sym, arith}
use Rattle.whole_texts.specs.Sessions.{IsSound}
use Rattle.switchbr_c.proofs.Giving.{tells_so}
use Rattle.switchbr_c.proofs.Trials.{no_trial, tries_not, tries_told}
use Rattle.switchbr_c.proofs.switchbr_try.Goals as goal

pub returns-in_default : goal.returns-in_default
returns-in_default c = no_trial _ _ _ _ _ _ _ c.in_default.ensures.taken (refl, (c.in_default.ensures.none, (refl, refl)))

pub try_line-answer-requires : goal.try_line-answer-requires
try_line-answer-requires c = subst IsSound (sym c.deref.ensures) c.in-Some.ensures.taken.1

pub returns-in-Ok : goal.returns-in-Ok
returns-in-Ok c =
    tries_told _ _ _ _ _ _ _ _ _ c.in-Some.ensures.taken.0 c.deref.ensures _ c.in-Ok.told c.try_line-answer.ensures c.in-Ok.is c.put.ensures
    (tells_so _ _ _ _ _ _ _ _ _ _ refl c.as_bytes.ensures.value (c.give.ensures.tells 0 0 (omega arith))) c.give.ensures.others

pub returns-in-Err : goal.returns-in-Err
returns-in-Err c =
    tries_not _ _ _ _ _ _ _ _ _ c.in-Some.ensures.taken.0 c.deref.ensures _ c.in-Err.fault c.try_line-answer.ensures c.in-Err.is c.put.ensures (refl, refl) c.status_of.ensures
