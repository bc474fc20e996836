use Rattle.std.proofs.Common.{List, ◌++◌, ap, ◌∙◌}
use Rattle.std.proofs.lemmas.List.{take_all}
use Rattle.br_model.specs.declared.change.Change.{Change}
use Rattle.br_model.specs.Table.GroupPairs.{GroupPair}
use Rattle.bridge_state.specs.Dropping.{is_meant}
use Rattle.bridge_state.proofs.Drops.{partings, partings-at}
use Rattle.bridge_state.proofs.commands.drops.drop_groups.Goals as goal

pub returns : goal.returns
returns c =
    let among = is_meant c.args.vlan in
    let all = take_all c.loop-vid.vid-index c.as_slice-pairs.result.now c.loop-vid-test.false ∙ c.as_slice-pairs.ensures ∙ c.in_ok-pairs.ensures in
    c.loop-vid.invariant
    ∙ ap (λ (l : List Change). c.args.changes.now.items ++ l) (ap (λ (ms : List GroupPair). partings among c.args.port ms) all ∙ partings-at among c.args.port c.args.state.now.ports.groups)
