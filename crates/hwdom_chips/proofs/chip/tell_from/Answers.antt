use Rattle.std.proofs.Common.{List, take, if◌then◌else◌, refl, sym, ap, ◌∙◌, subst, arith}
use Rattle.std.proofs.lemmas.List.{take_all}
use Rattle.br_model.specs.declared.change.Change.{Change}
use Rattle.br_model.specs.Table.Change.{deferred}
use Rattle.br_model.specs.Table.Cut.{cut}
use Rattle.br_model.specs.Table.Table.{apply, table}
use Rattle.chip_driver.specs.Drives.{Drives, IsTaken}
use Rattle.hwdom_chips.proofs.Following.{taken_now, more_deferred, table_more}
use Rattle.hwdom_chips.proofs.chip.tell_from.Goals as goal

pub loop-place-init : goal.loop-place-init
loop-place-init c = (refl, λ domains k n before. (n, before), refl)

pub tell-requires : goal.tell-requires
tell-requires c now =
    let e = c.args.edition in
    let stands = c.requires.stands in
    let here = c.loop-place.invariant.1 stands.domains stands.count stands.applied stands.rows in
    let d = c.index-history-place.result in
    subst (IsTaken c.loop-place.driver) (sym c.index-history-place.is)
    (taken_now e stands.domains c.loop-place.driver (take c.loop-place.place c.args.history.now) stands.count _ here.1
    (c.requires.history.fit c.loop-place.place d c.loop-place-test.true) (ap (deferred e) (sym c.index-history-place.is) ∙ now))

pub loop-place-preserved : goal.loop-place-preserved
loop-place-preserved c = (
  c.tell.ensures.dom ∙ c.loop-place.invariant.0,
  λ domains k n before.
      let e = c.args.edition in
      let here = c.loop-place.invariant.1 domains k n before in
      let h = c.args.history.now in
      let d = c.index-history-place.result in
      let t = table (cut e (take c.loop-place.place h) k) in (
        more_deferred e h c.loop-place.place d k c.loop-place-test.true here.0,
        subst (Drives domains c.tell.new.driver) (sym (table_more e h c.loop-place.place d k c.loop-place-test.true here.0))
            (subst (λ (x : Change). Drives domains c.tell.new.driver (if deferred e x then t else apply t x)) c.index-history-place.is (c.tell.ensures.told domains t here.1)),
      ),
  c.tell.ensures.count ∙ c.loop-place.invariant.2,
)

pub returns-clause-told : goal.returns-clause-told
returns-clause-told c domains k n before =
    subst (λ (cs : List Change). Drives domains c.loop-place.driver (table (cut c.args.edition cs k)))
    (take_all c.loop-place.place c.args.history.now (omega (arith, c.loop-place-test.false))) (c.loop-place.invariant.1 domains k n before).1

pub returns-clause-dom : goal.returns-clause-dom
returns-clause-dom c = c.loop-place.invariant.0

pub returns-clause-count : goal.returns-clause-count
returns-clause-count c = c.loop-place.invariant.2
