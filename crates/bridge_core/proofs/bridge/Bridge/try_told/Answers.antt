use Rattle.std.proofs.Common.{List, ◌++◌, map, sym, ap, subst, ◌∙◌}
use Rattle.br_model.specs.declared.change.Change.{Change}
use Rattle.br_model.specs.Table.Limits.{all_fit}
use Rattle.br_model.specs.Plane.World.{control_lines}
use Rattle.br_model.specs.Table.Table.{table}
use Rattle.br_model.specs.Theorems.TreeLaws.{knows_states}
use Rattle.br_model.specs.Tree.Step.{tree_step, moved, sent}
use Rattle.stp_core.specs.declared.tree.TreeOut.{TreeOut}
use Rattle.bridge_core.specs.Answers.{Makes}
use Rattle.bridge_state.specs.Following.{state_change}
use Rattle.bridge_core.specs.Kept.{Controlled}
use Rattle.bridge_state.specs.Plans.{prepared}
use Rattle.bridge_core.proofs.Accepting.{all_changes_fit, told_reacts, told_refused}
use Rattle.bridge_core.proofs.bridge.Bridge.try_told.Goals as goal

pub make_changes-answer-requires-clause-fits : goal.make_changes-answer-requires-clause-fits
make_changes-answer-requires-clause-fits c =
    let old = c.args.self.now in
    let p = c.args.plan in
    let begin = c.copy-tree.ensures ∙ c.deref.ensures ∙ ap (λ (b : Controlled). b.control.tree) c.self.view_is in
    let tree = c.act-out.ensures.tree ∙ (λ i. (tree_step (begin i) p.clock.now c.args.event.now).tree) in
    let goes = ap (λ (o : TreeOut). o.moved) c.act-out.ensures.out ∙ (λ i. moved (begin i) (tree_step (begin i) p.clock.now c.args.event.now).tree) in
    let made = c.deref-2.ensures.value ∙ c.add_states.ensures.states ∙ (λ i. c.in_ok-reserve.ensures.items i ++ map (state_change (tree i)) (goes i)) in
    ap (λ (l : List Change). all_fit (table old.history) l) made
    ∙ all_changes_fit (table old.history) old.control p c.requires.sound c.args.event.now (ap knows_states (sym tree) ∙ c.act-out.ensures.known)

pub returns-then-is_err-clause-carries_out : goal.returns-then-is_err-clause-carries_out
returns-then-is_err-clause-carries_out c =
    let old = c.args.self.now in
    let p = c.args.plan in
    let begin = c.copy-tree.ensures ∙ c.deref.ensures ∙ ap (λ (b : Controlled). b.control.tree) c.self.view_is in
    let tree = c.act-out.ensures.tree ∙ (λ i. (tree_step (begin i) p.clock.now c.args.event.now).tree) in
    let goes = ap (λ (o : TreeOut). o.moved) c.act-out.ensures.out ∙ (λ i. moved (begin i) (tree_step (begin i) p.clock.now c.args.event.now).tree) in
    let made = c.deref-2.ensures.value ∙ c.add_states.ensures.states ∙ (λ i. c.in_ok-reserve.ensures.items i ++ map (state_change (tree i)) (goes i)) in
    told_refused old p c.requires.sound _ _ c.args.event.now c.requires.told (ap knows_states (sym tree) ∙ c.act-out.ensures.known) _ c.make_changes-answer.result
    (sym c.is_err.ensures.value ∙ c.if-is_err.true)
    (subst (λ (l : List Change). Makes old c.make_changes-answer.new.self (prepared old.control p) l c.make_changes-answer.result) made c.make_changes-answer.ensures)
    c.in_ok-reserve_frames.ensures.lines

pub returns-clause-carries_out : goal.returns-clause-carries_out
returns-clause-carries_out c =
    let old = c.args.self.now in
    let p = c.args.plan in
    let begin = c.copy-tree.ensures ∙ c.deref.ensures ∙ ap (λ (b : Controlled). b.control.tree) c.self.view_is in
    let tree = c.act-out.ensures.tree ∙ (λ i. (tree_step (begin i) p.clock.now c.args.event.now).tree) in
    let goes = ap (λ (o : TreeOut). o.moved) c.act-out.ensures.out ∙ (λ i. moved (begin i) (tree_step (begin i) p.clock.now c.args.event.now).tree) in
    let made = c.deref-2.ensures.value ∙ c.add_states.ensures.states ∙ (λ i. c.in_ok-reserve.ensures.items i ++ map (state_change (tree i)) (goes i)) in
    let config = ap (λ (o : TreeOut). o.config) c.act-out.ensures.out ∙ (λ i. (tree_step (begin i) p.clock.now c.args.event.now).config) in
    let tcn = ap (λ (o : TreeOut). o.tcn) c.act-out.ensures.out ∙ (λ i. (tree_step (begin i) p.clock.now c.args.event.now).tcn) in
    let own = ap (λ (b : Controlled). b.setup.own) c.self.view_is in
    let lines = c.add_frames.ensures.lines ∙ (λ i. c.in_ok-reserve_frames.ensures.lines i ++ control_lines (own i) (sent (record { tree = tree i; config = config i; tcn = tcn i }))) in
    told_reacts old p c.requires.sound _ _ c.args.event.now c.requires.told (ap knows_states (sym tree) ∙ c.act-out.ensures.known) _ _ c.make_changes-answer.result
    (sym c.is_err.ensures.value ∙ c.if-is_err.false)
    (subst (λ (l : List Change). Makes old c.make_changes-answer.new.self (prepared old.control p) l c.make_changes-answer.result) made c.make_changes-answer.ensures)
    (λ i. record {
      setup = ap (λ (b : Controlled). b.setup) c.self-2.view_is i;
      history = ap (λ (b : Controlled). b.history) c.self-2.view_is i;
      control = record (ap (λ (b : Controlled). b.control) c.self-2.view_is i) { tree = tree i };
    })
    lines
