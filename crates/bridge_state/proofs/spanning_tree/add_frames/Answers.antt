use Rattle.std.proofs.Common.{ℕ, [], ◌∷◌, ◌++◌, List, Option, length, ap, sym, ◌∙◌, append_assoc, arith}
use Rattle.std.proofs.lemmas.List.{append-nil, map-append}
use Rattle.std.specs.List.{flat_map, filter_map}
use Rattle.std.specs.Option.{option_map}
use Rattle.br_model.specs.declared.bpdu.BpduMsg.{BpduMsg}
use Rattle.br_model.specs.declared.bpdu.BpduMsg.TheVariants.{Tcn}
use Rattle.br_model.specs.declared.transcript.Line.{Line}
use Rattle.br_model.specs.Plane.World.{control_line, control_lines}
use Rattle.br_model.specs.Tree.Step.{message, sent}
use Rattle.port_sets.proofs.Building.{yielded_members}
use Rattle.bridge_state.specs.Following.{config_lines}
use Rattle.bridge_state.proofs.Following.{fewer_seen}
use Rattle.bridge_state.proofs.Reactions.{frames_of}
use Rattle.bridge_state.proofs.spanning_tree.add_frames.Goals as goal

pub add_config-requires-clause-rows : goal.add_config-requires-clause-rows
add_config-requires-clause-rows c =
    let fewer = fewer_seen c.args.out.now.config _ _ _ c.loop-number.yielded _ _ (c.into_iter-number-iterator.ensures.into_iter_gives
    ∙ c.iter-number-items.ensures.members) c.loop-number.yielded_by c.in-Some.is c.next.ensures.steps in
    omega (arith, fewer, c.iter-number-items.ensures.few, ap (λ (l : List ℕ). length l) c.iter-number-items.ensures.members, c.loop-number.invariant.rows)

pub add_config-requires-clause-bytes : goal.add_config-requires-clause-bytes
add_config-requires-clause-bytes c =
    let fewer = fewer_seen c.args.out.now.config _ _ _ c.loop-number.yielded _ _ (c.into_iter-number-iterator.ensures.into_iter_gives
    ∙ c.iter-number-items.ensures.members) c.loop-number.yielded_by c.in-Some.is c.next.ensures.steps in
    omega (arith, fewer, c.iter-number-items.ensures.few, ap (λ (l : List ℕ). length l) c.iter-number-items.ensures.members, c.loop-number.invariant.bytes)

pub returns-in_default-clause-lines : goal.returns-in_default-clause-lines
returns-in_default-clause-lines c =
    let before = c.args.lines.now.lines in
    let own = c.args.own in
    let tree = c.args.tree.now in
    let out = c.args.out.now in
    let all = yielded_members out.config _ _ _ c.loop-number.yielded _ (c.into_iter-number-iterator.ensures.into_iter_gives
    ∙ c.iter-number-items.ensures.members) c.loop-number.yielded_by c.in-None.is c.next.ensures.steps in
    let configs = filter_map (λ p. option_map (λ m. (p, m)) (message tree p)) out.config in
    c.loop-number.invariant.lines
    ∙ ap (λ (ports : List ℕ). before ++ flat_map (config_lines own tree) ports) all
    ∙ ap (λ (l : List Line). before ++ l) (frames_of own tree out.config)
    ∙ ap (λ (ms : List (ℕ × BpduMsg)). before ++ control_lines own ms) (sym (append-nil configs))
    ∙ ap (λ (o : Option ℕ). before ++ control_lines own (sent (record { tree = tree; config = out.config; tcn = o }))) (sym c.in_default.is)

pub returns-in-Some-tcn-clause-lines : goal.returns-in-Some-tcn-clause-lines
returns-in-Some-tcn-clause-lines c =
    let before = c.args.lines.now.lines in
    let own = c.args.own in
    let tree = c.args.tree.now in
    let out = c.args.out.now in
    let all = yielded_members out.config _ _ _ c.loop-number.yielded _ (c.into_iter-number-iterator.ensures.into_iter_gives
    ∙ c.iter-number-items.ensures.members) c.loop-number.yielded_by c.in-None.is c.next.ensures.steps in
    let configs = filter_map (λ p. option_map (λ m. (p, m)) (message tree p)) out.config in
    let last : ℕ × BpduMsg = (c.in-Some-tcn.port, Tcn) in
    c.add_frame.ensures.lines
    ∙ ap (λ (l : List Line). l ++ control_line own last ∷ []) (c.loop-number.invariant.lines ∙ ap (λ (ports : List ℕ). before ++ flat_map (config_lines own tree) ports) all
    ∙ ap (λ (l : List Line). before ++ l) (frames_of own tree out.config))
    ∙ append_assoc before (control_lines own configs) (control_line own last ∷ [])
    ∙ ap (λ (l : List Line). before ++ l) (sym (map-append (control_line own) configs (last ∷ [])))
    ∙ ap (λ (o : Option ℕ). before ++ control_lines own (sent (record { tree = tree; config = out.config; tcn = o }))) (sym c.in-Some-tcn.is)
