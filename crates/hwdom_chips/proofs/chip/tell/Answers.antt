use Rattle.std.proofs.Common.{subst}
use Rattle.chip_driver.specs.Drives.{Drives, IsTaken}
use Rattle.hwdom_chips.proofs.Telling.{asked, told}
use Rattle.hwdom_chips.proofs.chip.tell.Goals as goal

pub deliver-requires : goal.deliver-requires
deliver-requires c = asked c.args.edition c.args.change.now c.notice_of.result c.notice_of.ensures.change (IsTaken c.args.driver.now) c.requires

pub returns-clause-told : goal.returns-clause-told
returns-clause-told c domains t stands =
    subst (Drives domains c.deliver.new.d) (told c.args.edition c.args.change.now c.notice_of.result c.notice_of.ensures.change t) (c.deliver.ensures.told domains t stands)
