use Rattle.std.proofs.Common.{refl}
use Rattle.whole_texts.specs.declared.session.SessionFault.TheVariants.{Ended, Misplaced, NoMemory, TooLong}
use Rattle.switchbr_c.proofs.Sessions.{refuses_by}
use Rattle.switchbr_c.proofs.refuse.Goals as goal

pub returns-in-Ended : goal.returns-in-Ended
returns-in-Ended c = refuses_by _ _ Ended _ _ c.in-Ended.is (refl, c.put.ensures)

pub returns-in-Misplaced : goal.returns-in-Misplaced
returns-in-Misplaced c = refuses_by _ _ Misplaced _ _ c.in-Misplaced.is (refl, c.put-in-Misplaced.ensures)

pub returns-in-TooLong : goal.returns-in-TooLong
returns-in-TooLong c = refuses_by _ _ TooLong _ _ c.in-TooLong.is (refl, c.put-in-TooLong.ensures)

pub returns-in-NoMemory : goal.returns-in-NoMemory
returns-in-NoMemory c = refuses_by _ _ NoMemory _ _ c.in-NoMemory.is (refl, c.requires.none)
