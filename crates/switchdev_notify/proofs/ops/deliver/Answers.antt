use Rattle.std.proofs.Common.{sym, ap, ◌∙◌}
use Rattle.switchdev_notify.specs.Notices.{change_added, change_removed, change_of_attribute, told_in}
use Rattle.switchdev_notify.proofs.Told.{told_added, told_removed, told_attribute}
use Rattle.switchdev_notify.proofs.ops.deliver.Goals as goal

pub obj_add-requires : goal.obj_add-requires
obj_add-requires g c =
    let o = c.in-ObjAdd.object in
    c.requires (change_added o) (ap (told_in c.args.edition) c.in-ObjAdd.is ∙ told_added c.args.edition o (sym c.is_deferred.ensures.added ∙ c.if-not-is_deferred.true))

pub obj_del-requires : goal.obj_del-requires
obj_del-requires g c =
    let o = c.in-ObjDel.object in
    c.requires (change_removed o) (ap (told_in c.args.edition) c.in-ObjDel.is ∙ told_removed c.args.edition o (sym c.is_deferred-in-ObjDel.ensures.removed ∙ c.if-not-is_deferred-2.true))

pub attr_set-requires : goal.attr_set-requires
attr_set-requires g c = c.requires (change_of_attribute c.in-Attr.attribute) (ap (told_in c.args.edition) c.in-Attr.is ∙ told_attribute c.args.edition c.in-Attr.attribute)
