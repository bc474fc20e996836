use Rattle.std.proofs.Common.{ℕ, ◌/◌, ◌%◌, ◌&&◌, ◌||◌, List, ap, sym, ◌∙◌, [], ◌∷◌, ◌++◌}
use Rattle.std.specs.Prelude.{◌==◌}
use Rattle.port_sets.specs.Numbers.{has_number}
use Rattle.chip_driver.specs.Settled.{same_fan}
use Rattle.chip_driver.specs.Renewing.{edited}
use Rattle.chip_driver.proofs.Refreshing.{both_touched}
use Rattle.chip_driver.proofs.Renewing.{edited_twice, renewed_both}
use Rattle.chip_driver.proofs.Seen.{in_blocks, next_in_blocks}
use Rattle.chip_driver.proofs.fans.edit_all.Goals as goal

pub loop-i-preserved : goal.loop-i-preserved
loop-i-preserved c =
    let blocks = c.args.joined.now in
    let p = c.args.port in
    let i = c.in-Some.i in
    let seen = c.loop-i.yielded in
    let fan = c.args.fan in
    let edit = c.args.edit.now in
    renewed_both (λ w k. in_blocks blocks p seen w && same_fan k fan) (λ w k. ((w / 64 == i) && has_number c.block.result (w % 64)) && same_fan k fan)
    (λ w k. in_blocks blocks p (seen ++ i ∷ []) w && same_fan k fan) (λ k. edited edit) _ _ _ (edited_twice edit) c.loop-i.invariant c.edit_block.ensures
    (λ w in_range k. both_touched (in_blocks blocks p seen w) ((w / 64 == i) && has_number c.block.result (w % 64)) (in_blocks blocks p (seen ++ i ∷ []) w) (same_fan k fan)
    (next_in_blocks blocks p i seen w ∙ ap (λ (b : List ℕ). ((w / 64 == i) && has_number b (w % 64)) || in_blocks blocks p seen w) (sym c.block.ensures)))
