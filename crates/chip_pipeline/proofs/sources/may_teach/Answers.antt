use Rattle.std.proofs.Common.{◌≡◌, true, ◌&&◌, ◌||◌, sym, ap, ap₂, ◌∙◌}
use Rattle.br_model.specs.Forward.Admission.{forwarding, is_forwarding, is_in_state, learning, member}
use Rattle.br_model.specs.Control.Learning.{learning_flag}
use Rattle.br_model.specs.Forward.Targets.{has_flag}
use Rattle.chip_tables.specs.declared.rows.PortRow.{PortRow}
use Rattle.chip_tables.specs.Flags.{row_has_flag, row_is_in}
use Rattle.chip_pipeline.proofs.Reading.{flag-is, forwards-is, learns-is, member-is}
use Rattle.chip_pipeline.proofs.Truth.{all-known}
use Rattle.chip_pipeline.proofs.sources.may_teach.Goals as goal

pub returns-then-sees : goal.returns-then-sees
returns-then-sees c d dom t stands =
    let p = c.args.port in
    let low = c.number-number.ensures.below in
    let sees : ((is_in_state t p learning || is_forwarding t p) && has_flag t p learning_flag) ≡ true =
    sym
    (c.sees.ensures
    ∙ ap (λ (r : PortRow). (row_is_in r learning || row_is_in r forwarding) && row_has_flag r learning_flag) c.requires.row
    ∙ ap₂ ◌&&◌ (ap₂ ◌||◌ (learns-is d dom t c.args.tables.now stands p low) (forwards-is d dom t c.args.tables.now stands p low)) (flag-is d dom t c.args.tables.now stands p learning_flag low))
    ∙ c.if-sees.true in
    c.is_member-is_member.ensures
    ∙ member-is d dom t c.args.tables.now stands c.args.vid p c.requires.range low
    ∙ all-known (is_in_state t p learning || is_forwarding t p) (has_flag t p learning_flag) (member t p c.args.vid) sees
