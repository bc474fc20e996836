-- What is told of an object that isn't deferred, and of an attribute.
use Rattle.std.proofs.Common.{◌≡◌, false, cond, None, Some, refl, ap}
use Rattle.br_model.specs.declared.domains.Edition.{Edition}
use Rattle.br_model.specs.Table.Change.{deferred}
use Rattle.switchdev_notify.specs.declared.notice.Object.{Object}
use Rattle.switchdev_notify.specs.declared.notice.Attribute.{Attribute}
use Rattle.switchdev_notify.specs.declared.notice.Attribute.TheVariants.{Stp}
use Rattle.switchdev_notify.specs.declared.notice.Notice.TheVariants.{ObjAdd, ObjDel, Attr}
use Rattle.switchdev_notify.specs.Notices.{change_added, change_removed, change_of_attribute, told_in}

pub told_added : (edition : Edition) (o : Object) → deferred edition (change_added o) ≡ false → told_in edition (ObjAdd o) ≡ Some (change_added o)
told_added edition o now = ap (λ b. cond b None (Some (change_added o))) now

pub told_removed : (edition : Edition) (o : Object) → deferred edition (change_removed o) ≡ false → told_in edition (ObjDel o) ≡ Some (change_removed o)
told_removed edition o now = ap (λ b. cond b None (Some (change_removed o))) now

pub told_attribute : (edition : Edition) (a : Attribute) → told_in edition (Attr a) ≡ Some (change_of_attribute a)
told_attribute edition (Stp on) = refl
told_attribute edition a = refl
