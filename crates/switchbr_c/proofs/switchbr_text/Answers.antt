use Rattle.std.proofs.Common.{refl, subst, sym}
use Rattle.whole_texts.specs.Sessions.{IsSound}
use Rattle.switchbr_c.proofs.Sessions.{gives_text, no_text}
use Rattle.switchbr_c.proofs.switchbr_text.Goals as goal

pub returns-in_default : goal.returns-in_default
returns-in_default c = no_text _ _ _ _ _ _ c.in_default.ensures.taken (refl, (c.in_default.ensures.none, (refl, refl)))

pub tell-status-requires : goal.tell-status-requires
tell-status-requires c = subst IsSound (sym c.deref_mut.ensures.value) c.in-Some.ensures.taken.1

pub returns : goal.returns
returns c = gives_text _ _ _ _ _ _ _ _ c.in-Some.ensures.taken.0 c.deref_mut.ensures.value _ c.put.ensures c.tell-status.ensures.gives
