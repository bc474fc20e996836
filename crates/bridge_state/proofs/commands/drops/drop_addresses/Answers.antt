use Rattle.std.proofs.Common.{List, ◌++◌, ap, ◌∙◌}
use Rattle.std.proofs.lemmas.List.{take_all}
use Rattle.br_model.specs.declared.change.Change.{Change}
use Rattle.br_model.specs.Control.Learning.{Address}
use Rattle.bridge_state.specs.Dropping.{is_meant}
use Rattle.bridge_state.proofs.Drops.{deletions, deletions-at}
use Rattle.bridge_state.proofs.commands.drops.drop_addresses.Goals as goal

pub returns : goal.returns
returns c =
    let among = is_meant c.args.vlan in
    let all = take_all c.loop-vid.vid-index c.as_slice-keys.result.now c.loop-vid-test.false ∙ c.as_slice-keys.ensures ∙ c.in_ok-keys.ensures in
    c.loop-vid.invariant
    ∙ ap (λ (l : List Change). c.args.changes.now.items ++ l) (ap (λ (ks : List Address). deletions among ks) all ∙ deletions-at among c.args.port c.args.state.now.addresses.addr)
