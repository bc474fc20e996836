use Rattle.std.proofs.Common.{◌≡◌, Option, sym, ap, ap₂, ◌∙◌, subst}
use Rattle.std.proofs.lemmas.Option.{slice_get_within}
use Rattle.std.proofs.lemmas.Result.{on_ok_weaker, on_err_weaker}
use Rattle.lemmas.proofs.Endings.{on_either}
use Rattle.br_model.specs.Control.Learning.{Address}
use Rattle.br_model.specs.Plane.Chip.{Chip, hits_entry, offers, put_chip}
use Rattle.br_model.proofs.Plane.Noting.{kept_note}
use Rattle.hwdom_chips.specs.Chips.{ChipState, IsChip}
use Rattle.plane_core.specs.Sides.{SidesState}
use Rattle.plane_core.proofs.Changing.{changed, chip_here, kept_chip, sides_with, there_at, unchanged}
use Rattle.plane_core.proofs.sides.Sides.note.Goals as goal

pub place-place-requires : goal.place-place-requires
place-place-requires c = there_at c.self.inside.chips c.args.self.now.chips c.args.d (ap (λ (s : SidesState). s.chips) c.self.view_is) c.requires

pub at_mut-requires : goal.at_mut-requires
at_mut-requires c = slice_get_within c.self.inside.chips c.place-place.result c.place-place.ensures.0 c.place-place.ensures.2

module _ (c : goal.After-self-1) where
  abbrev old : ChipState
  old = c.at_mut.result.now

  abbrev new : ChipState
  new = c.note.new.self

  -- with what the frame leaves
  abbrev notes : Chip → Chip
  notes x = hits_entry c.hit.result (offers c.args.port c.report.result x)

  abbrev IsKept : Type 0
  IsKept = (new.chip.dom ≡ old.chip.dom) × IsChip c.self.inside.bridge.setup.domains c.self.inside.bridge.history new

  was : IsChip c.self.inside.bridge.setup.domains c.self.inside.bridge.history old
  was = chip_here c.self.inside.bridge c.self.inside.chips c.self.inside.updates c.self.inside.board c.self.invariant c.place-place.result old new c.at_mut.ensures.value

  noted : new ≡ record old { chip = notes old.chip } → IsKept
  noted is =
      let keeps = kept_note c.args.port c.report.result c.hit.result old.chip in
      let dom = ap (λ (s : ChipState). s.chip.dom) is ∙ keeps.0 in
      (dom, kept_chip c.self.inside.bridge.setup.domains c.self.inside.bridge.history old new was (ap (λ (s : ChipState). s.driver) is) dom (ap (λ (s : ChipState). s.chip.count) is ∙ keeps.1))

  back : new ≡ old → IsKept
  back is = (ap (λ (s : ChipState). s.chip.dom) is, subst (IsChip c.self.inside.bridge.setup.domains c.self.inside.bridge.history) (sym is) was)

pub invariant_of-self : goal.invariant_of-self
invariant_of-self c =
    let kept = on_either c.note.result c.note.ensures.ok c.note.ensures.err (noted c) (back c) in
    sides_with c.self.inside.bridge c.self.inside.chips c.self.inside.updates c.self.inside.board c.self.invariant c.place-place.result (old c) (new c) c.at_mut.ensures.value kept.0 kept.1

pub returns-clause-ok : goal.returns-clause-ok
returns-clause-ok c =
    on_ok_weaker c.note.result (λ is x at.
    changed c.self.inside.bridge c.self.inside.chips c.self.inside.updates c.self.inside.board c.self.invariant c.place-place.result (old c) (new c) c.at_mut.ensures.value
    c.args.self.now c.args.d x (notes c) c.self.view_is c.place-place.ensures at (noted c is).0 (ap (λ (s : ChipState). s.chip) is)
    ∙ ap₂ (λ (hit report : Option Address). record c.args.self.now { chips = put_chip c.args.self.now.chips (hits_entry hit (offers c.args.port report x)) }) c.hit.ensures c.report.ensures)
    c.note.ensures.ok

pub returns-clause-err : goal.returns-clause-err
returns-clause-err c =
    on_err_weaker c.note.result
    (unchanged c.self.inside.bridge c.self.inside.chips c.self.inside.updates c.self.inside.board c.self.invariant c.place-place.result (old c)
    (new c) c.at_mut.ensures.value c.args.self.now c.self.view_is) c.note.ensures.err
