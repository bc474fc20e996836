use Rattle.std.proofs.Common.{ℕ, List, ◌++◌, map, ap, ◌∙◌}
use Rattle.std.proofs.lemmas.List.{take_all}
use Rattle.br_model.specs.declared.change.Change.{Change}
use Rattle.br_model.specs.declared.change.Change.TheVariants.{VlanDel}
use Rattle.bridge_state.proofs.Drops.{vlans-at}
use Rattle.bridge_state.proofs.commands.drops.drop_vlans.Goals as goal

pub returns : goal.returns
returns c =
    let all = take_all c.loop-vid.vid-index c.as_slice-vids.result.now c.loop-vid-test.false ∙ c.as_slice-vids.ensures ∙ c.in_ok-vids.ensures in
    c.loop-vid.invariant
    ∙ ap (λ (l : List Change). c.args.changes.now.items ++ l) (ap (λ (vs : List ℕ). map (λ v. VlanDel c.args.port v) vs) all ∙ vlans-at c.args.port c.args.state.now.ports.vlans)
