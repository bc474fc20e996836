use Rattle.std.proofs.Common.{ℕ, ◌≡◌, ◌+◌, ◌-◌, ◌<◌, ◌≤◌, ◌^◌, true, List, ◌++◌, fold, length, map, refl, sym, ap, subst, ◌∙◌, arith, take, drop, length-append}
use Rattle.std.specs.declared.result.Result.TheVariants.{Ok}
use Rattle.std.proofs.lemmas.Bool.{le-leb}
use Rattle.std.proofs.lemmas.List.{append_assoc}
use Rattle.br_model.specs.declared.change.Change.{Change}
use Rattle.br_model.specs.Control.Control.{Control, keeps_up}
use Rattle.br_model.specs.Control.TreeReaction.{states}
use Rattle.br_model.specs.Plane.World.{control_lines}
use Rattle.br_model.specs.Table.Limits.{all_fit, most_changes}
use Rattle.br_model.specs.Table.Table.{table, apply}
use Rattle.br_model.specs.Theorems.TreeLaws.{knows_states}
use Rattle.br_model.specs.Tree.Sending.{Acted}
use Rattle.br_model.specs.Tree.Step.{tree_step, sent}
use Rattle.br_model.specs.Tree.Tree.{Tree}
use Rattle.stp_core.specs.Settling.{out_of}
use Rattle.bridge_state.specs.declared.plan.Plan.{Plan}
use Rattle.bridge_state.specs.Following.{acted_by, state_change}
use Rattle.bridge_core.specs.Kept.{Controlled}
use Rattle.bridge_state.specs.Plans.{prepared, renewed_at}
use Rattle.bridge_state.specs.Standing.{clocked, control_of, table_of}
use Rattle.bridge_core.proofs.Accepting.{all_changes, all_changes_fit, told_reacts}
use Rattle.bridge_state.proofs.Fitting.{grown}
use Rattle.bridge_state.proofs.Following.{all_beside, renewed_beside, with_tree}
use Rattle.bridge_state.proofs.Hearing.{behind}
use Rattle.bridge_state.proofs.Reactions.{same_clock, renewed_clock}
use Rattle.bridge_core.proofs.bridge.Bridge.accept_told.Goals.{After-deref-4}
use Rattle.bridge_core.proofs.bridge.Bridge.accept_told.Goals as goal

-- Once the tree has acted, and the state is prepared.

module _ (c : After-deref-4) where
  abbrev old : Controlled
  old = c.args.self.now

  abbrev p : Plan
  p = c.args.plan

  abbrev acted : Acted
  acted = tree_step old.control.tree p.clock.now c.args.event.now

  abbrev whole : List Change
  whole = all_changes (table old.history) old.control p c.requires.sound c.args.event.now

  history_is : c.self.inside.history.items ≡ old.history
  history_is = ap (λ (b : Controlled). b.history) c.self.view_is

  begin : c.deref_mut.result.now ≡ old.control.tree
  begin = c.deref_mut.ensures.value ∙ ap (λ (b : Controlled). b.control.tree) c.self.view_is

  out_is : c.act-out.result ≡ out_of old.control.tree acted
  out_is = c.act-out.ensures.out ∙ ap (λ (t : Tree). out_of t (tree_step t p.clock.now c.args.event.now)) begin

  tree_is : c.act-out.new.self ≡ acted.tree
  tree_is = c.act-out.ensures.tree ∙ ap (λ (t : Tree). (tree_step t p.clock.now c.args.event.now).tree) begin

  -- the plan's changes first
  planned : c.append.new.history.items ≡ old.history ++ p.changes.items
  planned = c.append.ensures.items ∙ (λ i. (c.in_ok-reserve.ensures.items ∙ history_is) i ++ c.deref.ensures.value i)

  -- and those of the tree's states behind them
  made : c.add_states.new.changes.items ≡ old.history ++ whole
  made = c.add_states.ensures.states
      ∙ (λ i. planned i ++ map (state_change ((c.deref-2.ensures ∙ tree_is) i)) (out_is i).moved)
      ∙ append_assoc old.history p.changes.items (states old.control.tree acted.tree)

  from_is : c.len-from.result ≡ length old.history
  from_is = c.len-from.ensures ∙ c.reserve.new.self.ok.0 ∙ ap (λ (l : List Change). length l) (c.in_ok-reserve.ensures.items ∙ history_is)

  followed : take (length c.deref-4.result.now - c.len-from.result) (drop c.len-from.result c.deref-4.result.now) ≡ whole
  followed = behind old.history whole c.deref-4.result.now c.len-from.result (length c.deref-4.result.now) (c.deref-4.ensures.value ∙ made) from_is refl

  known : knows_states acted.tree ≡ true
  known = ap knows_states (sym tree_is) ∙ c.act-out.ensures.known

  fit : all_fit (table old.history) whole ≡ true
  fit = all_changes_fit (table old.history) old.control p c.requires.sound c.args.event.now known

  few : length old.history + length whole ≤ most_changes
  few = omega (
    arith,
    c.add_states.ensures.few,
    ap (λ (l : List Change). length l) made,
    length-append old.history whole,
    ap (λ (l : List Change). length l) planned,
    length-append old.history p.changes.items,
    c.if-most-len.false,
    c.len-most.ensures,
    c.len.ensures,
    ap (λ (l : List Change). length l) history_is,
    c.self.invariant.1,
    p.changes.ok.0,
    c.self.inside.history.ok.0,
  )

pub follow-requires-clause-fits : goal.follow-requires-clause-fits
follow-requires-clause-fits c =
    let d = (goal.at.follow-requires-clause-fits c).After-deref-4 in
    (λ i. all_fit ((c.prepare.ensures.table ∙ c.self.invariant.0 ∙ ap table (history_is d)) i) (followed d i)) ∙ fit d

pub invariant_of-self-2 : goal.invariant_of-self-2
invariant_of-self-2 c =
    let d = (goal.at.invariant_of-self-2 c).After-deref-4 in
    let before = c.self.inside.history.items in
    let g = grown before (whole d) c.add_states.new.changes.items (table_of c.follow.new.self) (made d ∙ ap (λ (h : List Change). h ++ whole d) (sym (history_is d)))
    (c.follow.ensures.table ∙ (λ i. fold apply ((c.prepare.ensures.table ∙ c.self.invariant.0) i) (followed d i)))
    (subst (λ (h : List Change). length h + length (whole d) ≤ most_changes) (sym (history_is d)) (few d))
    c.self.invariant.2 (ap (λ (h : List Change). all_fit (table h) (whole d)) (history_is d) ∙ fit d)
    in
    let now = ap (λ (x : Control). x.now) c.follow.ensures.control ∙ ap (λ (l : List Change). (fold keeps_up (control_of c.prepare.new.self) l).now) (followed d)
    ∙ same_clock _ (whole d) ∙ ap (λ (x : Control). x.now) c.prepare.ensures.control ∙ renewed_clock _ c.args.plan.renewed in
    (g.0, g.1, g.2, subst (λ (n : ℕ). n < 2 ^ 53) (sym now) c.requires.sound.early, c.follow.ensures.tied)

pub returns-clause-carries_out : goal.returns-clause-carries_out
returns-clause-carries_out c =
    let d = (goal.at.returns-clause-carries_out c).After-deref-4 in
    let old = c.args.self.now in
    let p = c.args.plan in
    let view = c.self.view_is in
    let own = ap (λ (b : Controlled). b.setup.own) view in
    let lines = c.add_frames.ensures.lines ∙ (λ i. c.in_ok-reserve_frames.ensures.lines i ++ control_lines (own i) (sent (acted_by ((c.deref-3.ensures ∙ tree_is d) i) (out_is d i)))) in
    let mid : Controlled = record old { history = old.history ++ whole d; control = fold keeps_up (prepared old.control p) (whole d) } in
    let control : control_of c.follow.new.self ≡ with_tree (acted d).tree mid.control =
    c.follow.ensures.control
    ∙ (λ i. fold keeps_up ((c.prepare.ensures.control ∙ (λ j. renewed_at (clocked p.clock (with_tree (tree_is d j) (ap (λ (b : Controlled). b.control) view j))) p.renewed)) i) (followed d i))
    ∙ ap (λ (x : Control). fold keeps_up x (whole d)) (renewed_beside (acted d).tree (clocked p.clock old.control) p.renewed)
    ∙ all_beside (acted d).tree (prepared old.control p) (whole d)
    in
    told_reacts old p c.requires.sound _ _ c.args.event.now c.requires.told (known d) mid _ (Ok tt) refl
    (le-leb _ _ (few d), refl)
    (λ i. record { setup = ap (λ (b : Controlled). b.setup) view i; history = made d i; control = control i })
    lines
