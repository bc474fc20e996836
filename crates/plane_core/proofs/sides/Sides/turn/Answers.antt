use Rattle.std.proofs.Common.{◌≡◌, sym, ap, subst}
use Rattle.std.proofs.lemmas.Option.{slice_get_within}
use Rattle.std.proofs.lemmas.Result.{on_ok_weaker, on_err_weaker}
use Rattle.lemmas.proofs.Endings.{on_either}
use Rattle.br_model.specs.Plane.Chip.{Chip, applies}
use Rattle.br_model.specs.Table.Domains.{Domains}
use Rattle.br_model.specs.Table.Table.{Table, apply}
use Rattle.br_model.proofs.Table.Cuts.{updates-named}
use Rattle.br_model.proofs.Table.Counts.{count_below}
use Rattle.chip_driver.specs.Drives.{Drives}
use Rattle.hwdom_chips.specs.Chips.{ChipState, IsChip}
use Rattle.plane_core.specs.Sides.{SidesState}
use Rattle.plane_core.proofs.Changing.{both_ok, changed, chip_here, next_here, sides_with, there_at, turned_chip, turned_dom, unchanged}
use Rattle.hwdom_chips.proofs.Following.{queued_next, taken_next}
use Rattle.plane_core.proofs.sides.Sides.turn.Goals as goal

pub place-place-requires : goal.place-place-requires
place-place-requires c = there_at c.self.inside.chips c.args.self.now.chips c.args.d (ap (λ (s : SidesState). s.chips) c.self.view_is) c.requires.chip

pub at_mut-requires : goal.at_mut-requires
at_mut-requires c = slice_get_within c.self.inside.chips c.place-place.result c.place-place.ensures.0 c.place-place.ensures.2

pub turn-requires-clause-taken : goal.turn-requires-clause-taken
turn-requires-clause-taken c =
    let b = c.self.inside.bridge in
    let e = b.setup.domains.edition in
    let old = c.at_mut.result.now in
    let was = chip_here b c.self.inside.chips c.self.inside.updates c.self.inside.board c.self.invariant c.place-place.result old old c.at_mut.ensures.value in
    let next = next_here b c.self.inside.chips c.self.inside.updates c.self.inside.board c.self.invariant c.place-place.result old old c.at_mut.ensures.value c.args.self.now c.args.d
    c.args.update.now c.self.view_is c.place-place.ensures c.requires.next in
    taken_next e b.setup.domains old.driver b.history old.chip.count c.args.update.now.change was.rows c.history-history.ensures.within
    (updates-named e b.history old.chip.count c.args.update.now next).1

pub turn-requires-clause-queued : goal.turn-requires-clause-queued
turn-requires-clause-queued c =
    let b = c.self.inside.bridge in
    let e = b.setup.domains.edition in
    let old = c.at_mut.result.now in
    let next = next_here b c.self.inside.chips c.self.inside.updates c.self.inside.board c.self.invariant c.place-place.result old old c.at_mut.ensures.value c.args.self.now c.args.d
    c.args.update.now c.self.view_is c.place-place.ensures c.requires.next in
    queued_next e b.history old.chip.count c.args.update.now.change (updates-named e b.history old.chip.count c.args.update.now next).1

pub turn-requires-clause-next : goal.turn-requires-clause-next
turn-requires-clause-next c =
    let b = c.self.inside.bridge in
    let e = b.setup.domains.edition in
    let old = c.at_mut.result.now in
    let next = next_here b c.self.inside.chips c.self.inside.updates c.self.inside.board c.self.invariant c.place-place.result old old c.at_mut.ensures.value c.args.self.now c.args.d
    c.args.update.now c.self.view_is c.place-place.ensures c.requires.next in
    (updates-named e b.history old.chip.count c.args.update.now next).0

pub turn-requires-clause-count : goal.turn-requires-clause-count
turn-requires-clause-count c =
    let b = c.self.inside.bridge in
    let e = b.setup.domains.edition in
    let old = c.at_mut.result.now in
    let next = next_here b c.self.inside.chips c.self.inside.updates c.self.inside.board c.self.invariant c.place-place.result old old c.at_mut.ensures.value c.args.self.now c.args.d
    c.args.update.now c.self.view_is c.place-place.ensures c.requires.next in
    count_below e b.history old.chip.count c.args.update.now.change c.history-history.ensures.within (updates-named e b.history old.chip.count c.args.update.now next).1

module _ (c : goal.After-self-1) where
  abbrev old : ChipState
  old = c.at_mut.result.now

  abbrev new : ChipState
  new = c.turn.new.self

  abbrev IsTurned : Type 0
  IsTurned = (new.chip ≡ applies old.chip c.args.update.now.change)
      × (((domains : Domains) (t : Table) → Drives domains old.driver t → Drives domains new.driver (apply t c.args.update.now.change))
      × (new.driver.dom ≡ old.driver.dom))

  abbrev IsKept : Type 0
  IsKept = (new.chip.dom ≡ old.chip.dom) × IsChip c.self.inside.bridge.setup.domains c.self.inside.bridge.history new

  was : IsChip c.self.inside.bridge.setup.domains c.self.inside.bridge.history old
  was = chip_here c.self.inside.bridge c.self.inside.chips c.self.inside.updates c.self.inside.board c.self.invariant c.place-place.result old new c.at_mut.ensures.value

  turned : IsTurned → IsKept
  turned is = (
    turned_dom old.chip new.chip c.args.update.now.change is.0,
    turned_chip c.self.inside.bridge.setup.domains c.self.inside.bridge.history old new c.args.update.now was
        (next_here c.self.inside.bridge c.self.inside.chips c.self.inside.updates c.self.inside.board c.self.invariant c.place-place.result old new c.at_mut.ensures.value
        c.args.self.now c.args.d c.args.update.now c.self.view_is c.place-place.ensures c.requires.next)
        is.0 is.1.0 is.1.1,
  )

  back : new ≡ old → IsKept
  back is = (ap (λ (s : ChipState). s.chip.dom) is, subst (IsChip c.self.inside.bridge.setup.domains c.self.inside.bridge.history) (sym is) was)

pub invariant_of-self : goal.invariant_of-self
invariant_of-self c =
    let kept : IsKept c = on_either c.turn.result (both_ok _ _ c.turn.result c.turn.ensures.ok (both_ok _ _ c.turn.result c.turn.ensures.rows c.turn.ensures.dom)) c.turn.ensures.err (turned c)
    (back c) in
    sides_with c.self.inside.bridge c.self.inside.chips c.self.inside.updates c.self.inside.board c.self.invariant c.place-place.result (old c) (new c) c.at_mut.ensures.value kept.0 kept.1

pub returns-clause-ok : goal.returns-clause-ok
returns-clause-ok c =
    on_ok_weaker c.turn.result (λ is x at.
    changed c.self.inside.bridge c.self.inside.chips c.self.inside.updates c.self.inside.board c.self.invariant c.place-place.result (old c) (new c) c.at_mut.ensures.value
    c.args.self.now c.args.d x (λ (y : Chip). applies y c.args.update.now.change) c.self.view_is c.place-place.ensures at (turned_dom (old c).chip (new c).chip c.args.update.now.change is) is)
    c.turn.ensures.ok

pub returns-clause-err : goal.returns-clause-err
returns-clause-err c =
    on_err_weaker c.turn.result
    (unchanged c.self.inside.bridge c.self.inside.chips c.self.inside.updates c.self.inside.board c.self.invariant c.place-place.result (old c)
    (new c) c.at_mut.ensures.value c.args.self.now c.self.view_is) c.turn.ensures.err
