use Rattle.std.proofs.Common.{Err, refl, subst}
use Rattle.switchbr_c.specs.Sessions.{MaySettle}
use Rattle.switchbr_c.proofs.Sessions.{settles, settles_given}
use Rattle.switchbr_c.proofs.settle.Goals as goal

pub returns-in-Ok : goal.returns-in-Ok
returns-in-Ok c = settles_given _ _ _ _ _ _ _ _ _ _ c.in-Ok.is c.deref_mut.ensures.value c.put.ensures c.tell-status.ensures.gives

pub refuse-requires-clause-sound : goal.refuse-requires-clause-sound
refuse-requires-clause-sound c = subst (MaySettle c.args.session.value) c.in-Err.is c.requires.sound

pub returns-in-Err : goal.returns-in-Err
returns-in-Err c = settles _ _ _ _ _ _ _ (Err c.in-Err.fault) c.in-Err.is (c.refuse.ensures, (refl, refl))
