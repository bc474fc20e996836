use Rattle.std.proofs.Common.{◌≡◌, ◌++◌, take, map}
use Rattle.br_model.specs.declared.change.Change.TheVariants.{VlanDel}
use Rattle.bridge_state.proofs.commands.drops.drop_vlans.Given as goal

abbrev pub invariant-loop-vid : goal.invariant-loop-vid
invariant-loop-vid l = l.changes.items ≡ l.initial.changes.items ++ map (λ v. VlanDel l.port v) (take l.vid-index l.vids)
