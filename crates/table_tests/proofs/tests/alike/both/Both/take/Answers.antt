use Rattle.std.proofs.Common.{sym, ap, subst, ◌∙◌}
use Rattle.br_model.specs.Table.Limits.{fits}
use Rattle.br_model.specs.Table.Table.{Table, apply}
use Rattle.chip_driver.specs.Drives.{Driven, Drives, IsTaken}
use Rattle.table_tests.specs.Alike.{AreAlike}
use Rattle.table_tests.proofs.Staying.{takes, stay}
use Rattle.table_tests.proofs.tests.alike.both.Both.take.Goals as goal

pub give-requires-clause-taken : goal.give-requires-clause-taken
give-requires-clause-taken g c =
    let change = c.args.change.now in
    let fit = ap (λ (t : Table). fits t change) (sym c.deref.ensures) ∙ (sym c.fits.ensures ∙ c.if-fits.true) in
    subst (λ (driver : Driven). IsTaken driver change) (sym c.deref_mut.ensures.value)
    (takes c.self.inside.domains c.self.inside.driver.value c.self.inside.soft.value change c.self.invariant fit)

pub invariant_of-self : goal.invariant_of-self
invariant_of-self g c =
    let domains = c.self.inside.domains in
    let old = c.self.inside.soft.value in
    let change = c.args.change.now in
    let fit = ap (λ (t : Table). fits t change) (sym c.deref.ensures) ∙ (sym c.fits.ensures ∙ c.if-fits.true) in
    let before = subst (λ (driver : Driven). Drives domains driver old) (sym c.deref_mut.ensures.value) c.self.invariant.stands in
    subst (AreAlike domains c.give.new.driver) (sym (c.apply.ensures ∙ ap (λ (t : Table). apply t change) c.deref_mut-then-fits.ensures.value))
    (stay domains c.self.inside.driver.value c.give.new.driver old change c.self.invariant fit (c.give.ensures domains old before))
