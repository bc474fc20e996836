use Rattle.std.proofs.Common.{◌/◌, ◌%◌, ◌&&◌, [], ◌∷◌, ◌++◌}
use Rattle.std.specs.Prelude.{◌==◌}
use Rattle.chip_driver.specs.Settled.{same_fan}
use Rattle.chip_driver.specs.Renewing.{edited}
use Rattle.chip_driver.proofs.Refreshing.{both_touched}
use Rattle.chip_driver.proofs.Renewing.{edited_twice, renewed_both}
use Rattle.chip_driver.proofs.Seen.{in_block, next_in_block}
use Rattle.chip_driver.proofs.fans.edit_block.Goals as goal

pub loop-n-preserved : goal.loop-n-preserved
loop-n-preserved c =
    let i = c.args.i in
    let n = c.in-Some.n in
    let seen = c.loop-n.yielded in
    let fan = c.args.fan in
    let edit = c.args.edit.now in
    renewed_both (λ w k. in_block i seen w && same_fan k fan) (λ w k. ((w / 64 == i) && (w % 64 == n)) && same_fan k fan)
    (λ w k. in_block i (seen ++ n ∷ []) w && same_fan k fan) (λ k. edited edit) _ _ _ (edited_twice edit)
    c.loop-n.invariant c.edit_number.ensures
    (λ w in_range k. both_touched (in_block i seen w) ((w / 64 == i) && (w % 64 == n)) (in_block i (seen ++ n ∷ []) w) (same_fan k fan) (next_in_block i n seen w))
