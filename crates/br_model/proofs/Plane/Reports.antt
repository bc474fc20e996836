-- The oldest report of a chip, or none.
use Rattle.std.proofs.Common.{◌≡◌, ℕ, drop, slice_get, None, Some, ap, ◌∙◌}
use Rattle.lemmas.proofs.Lists.{first_of_all, nil_from_no_first}
use Rattle.br_model.specs.declared.steps.Event.TheVariants.{Told}
use Rattle.br_model.specs.declared.steps.Refusal.TheVariants.{NothingReported}
use Rattle.br_model.specs.Control.Learning.{Triple}
use Rattle.br_model.specs.Plane.Chip.{Chip}
use Rattle.br_model.specs.Plane.ChipSteps.{reports, tells}
use Rattle.br_model.specs.Plane.World.{World, answered, chip_at, reacts, refused, with_chip}

module _ (w : World) (dom : ℕ) (c : Chip) (found : chip_at w dom ≡ Some c) where
  pub reports_none : None ≡ slice_get c.reports 0 → reports w (chip_at w dom) ≡ refused w NothingReported
  reports_none none = ap (reports w) found ∙ ap (tells w c) (nil_from_no_first c.reports none)

  pub reports_first : (x : Triple) → Some x ≡ slice_get c.reports 0
      → reports w (chip_at w dom) ≡ answered w (with_chip w (record c { reports = drop 1 c.reports })) (reacts w (Told x.0 x.1 x.2))
  reports_first x some = ap (reports w) found ∙ ap (tells w c) (first_of_all c.reports x some)
