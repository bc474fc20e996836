use Rattle.std.proofs.Common.{Some, refl, sym, ap, ◌∙◌}
use Rattle.std.specs.Prelude.{◌==◌}
use Rattle.std.specs.Option.{option_eq}
use Rattle.std.proofs.lemmas.Bool.{ne_eqb}
use Rattle.chip_driver.proofs.making.host_is_elsewhere.Goals as goal

pub returns : goal.returns
returns c =
    ap (λ o. option_eq (λ x y. x == y) o (Some c.args.dom)) (sym c.of-domain.ensures.value ∙ c.of-domain.ensures.host refl)
    ∙ ne_eqb 0 c.args.dom (λ same. c.requires (sym same))
