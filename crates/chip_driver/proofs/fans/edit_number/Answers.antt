use Rattle.std.proofs.Common.{◌+◌, ◌*◌, ◌/◌, ◌%◌, ◌&&◌, sym, ap, ap₂, ◌∙◌}
use Rattle.std.specs.Prelude.{◌==◌}
use Rattle.chip_driver.specs.Renewing.{edited}
use Rattle.chip_driver.proofs.Steps.{split}
use Rattle.chip_driver.proofs.Renewing.{renewed_one}
use Rattle.chip_driver.proofs.fans.edit_number.Goals as goal

pub returns-in-Some : goal.returns-in-Some
returns-in-Some c =
    renewed_one (λ w. (w / 64 == c.args.i) && (w % 64 == c.args.n)) c.in-Some.v c.args.fan (edited c.args.edit.now) _ _ c.edit_fan.ensures
    (λ w in_range.
    sym (split w c.args.i c.args.n c.requires.number) ∙ ap₂ (λ i n. w == 64 * i + n) (sym c.from.ensures) (sym c.from-2.ensures) ∙ ap (λ v. w == v) (sym c.in-Some.ensures.value))
