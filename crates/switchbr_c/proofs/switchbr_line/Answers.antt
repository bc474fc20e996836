use Rattle.std.proofs.Common.{refl, subst, sym}
use Rattle.whole_texts.specs.Sessions.{IsSound}
use Rattle.switchbr_c.proofs.Sessions.{may_settle, no_line, passes_line}
use Rattle.switchbr_c.proofs.switchbr_line.Goals as goal

pub returns-in_default : goal.returns-in_default
returns-in_default c = no_line _ _ _ _ _ _ _ c.in_default.ensures.taken (refl, (c.in_default.ensures.none, (refl, refl)))

pub line-answer-requires : goal.line-answer-requires
line-answer-requires c = subst IsSound (sym c.deref_mut.ensures.value) c.in-Some.ensures.taken.1

pub settle-requires-clause-sound : goal.settle-requires-clause-sound
settle-requires-clause-sound c = may_settle _ _ _ _ _ _ _ c.deref_mut.ensures.value c.in-Some.ensures.taken.1 c.line-answer.ensures

pub returns : goal.returns
returns c = passes_line _ _ _ _ _ _ _ _ c.in-Some.ensures.taken.0 c.deref_mut.ensures.value _ _ _ c.line-answer.ensures c.settle.ensures
