use Rattle.std.proofs.Common.{◌≡◌, Some, sym, ap, subst, ◌∙◌}
use Rattle.std.specs.declared.option.Option.{Option}
use Rattle.br_model.specs.declared.change.Change.{Change}
use Rattle.br_model.specs.Table.Limits.{fits}
use Rattle.br_model.specs.Table.Table.{Table, apply}
use Rattle.switchdev_notify.specs.Notices.{after_told, told_in}
use Rattle.switchdev_notify.specs.declared.notice.Notice.{Notice}
use Rattle.chip_driver.specs.Drives.{Driven, Drives}
use Rattle.table_tests.specs.Alike.{AreAlike}
use Rattle.table_tests.proofs.Staying.{stay, told-now}
use Rattle.table_tests.proofs.tests.alike.both.Both.accept.Goals as goal

pub invariant_of-self-then-fits : goal.invariant_of-self-then-fits
invariant_of-self-then-fits g c =
    let domains = c.self.inside.domains in
    let old = c.self.inside.soft.value in
    let change = c.args.change.now in
    let edition = c.edition-edition.result in
    let fit = ap (λ (t : Table). fits t change) (sym c.deref.ensures) ∙ (sym c.fits.ensures ∙ c.if-fits.true) in
    let told : told_in edition c.notice_of.result ≡ Some change = ap (λ (n : Notice). told_in edition n) c.notice_of.ensures.value
    ∙ told-now edition change (sym c.is_deferred.ensures ∙ c.if-is_deferred.false) in
    let before = subst (λ (driver : Driven). Drives domains driver old) (sym c.deref_mut.ensures.value) c.self.invariant.stands in
    let after : Drives domains c.deliver.new.d (apply old change) = subst (λ (o : Option Change). Drives domains c.deliver.new.d (after_told old o)) told (c.deliver.ensures.told domains old before) in
    subst (AreAlike domains c.deliver.new.d) (sym (c.apply.ensures ∙ ap (λ (t : Table). apply t change) c.deref_mut-then-fits.ensures.value))
    (stay domains c.self.inside.driver.value c.deliver.new.d old change c.self.invariant fit after)
