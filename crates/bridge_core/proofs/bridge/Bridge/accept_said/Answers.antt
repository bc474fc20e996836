use Rattle.std.proofs.Common.{◌≡◌, ◌+◌, ◌<◌, ◌≤◌, ◌^◌, ℕ, List, [], ◌++◌, fold, length, refl, sym, ap, subst, ◌∙◌, arith, length-append}
use Rattle.std.specs.declared.result.Result.TheVariants.{Ok}
use Rattle.std.proofs.lemmas.List.{append_assoc}
use Rattle.br_model.specs.declared.change.Change.{Change}
use Rattle.br_model.specs.Control.Control.{Control, keeps_up}
use Rattle.br_model.specs.Control.Course.{Course}
use Rattle.br_model.specs.Table.Limits.{all_fit, most_changes}
use Rattle.br_model.specs.Control.Snooping.{fastleave, said}
use Rattle.br_model.specs.Table.Table.{Table, table, start, apply}
use Rattle.br_model.specs.Forward.Targets.{has_flag}
use Rattle.bridge_state.specs.declared.plan.Plan.{Plan}
use Rattle.bridge_state.specs.declared.snooping.Speaker.{Speaker}
use Rattle.bridge_state.specs.Hearing.{Hears}
use Rattle.bridge_core.specs.Kept.{Controlled}
use Rattle.bridge_state.specs.Plans.{renewed_at}
use Rattle.bridge_state.specs.Standing.{clocked, course_of, table_of, control_of}
use Rattle.bridge_state.proofs.Fitting.{grown}
use Rattle.bridge_core.proofs.Saying.{hears, heard_now, learned, leaves_so, reacts, refused, tied_as}
use Rattle.bridge_core.proofs.bridge.Bridge.accept_said.Goals.{In_ok-has_room_for, After-follow, After-drop-plan-2}
use Rattle.bridge_core.proofs.bridge.Bridge.accept_said.Goals as goal

-- Before anything is done.

module _ (c : In_ok-has_room_for) where
  abbrev old : Controlled
  old = c.args.self.now

  abbrev p : Plan
  p = c.args.plan

  abbrev s : Speaker
  s = c.args.speaker.now

  begins : Hears s old.control.ends (learned old p)
  begins = hears old p s c.requires.addresses c.requires.clock c.requires.leaves (tied_as c.self.inside.state _ old c.self.view_is c.self.invariant.0 c.self.invariant.4)

-- Once the plan is followed.

module _ (c : After-follow) where
  abbrev learnt : Course
  learnt = learned c.args.self.now c.args.plan

  followed : c.deref.result.now ≡ c.args.plan.changes.items
  followed = c.deref.ensures.value

  tables : table_of c.follow.new.self ≡ learnt.table
  tables = c.follow.ensures.table ∙ (λ i. fold apply ((c.prepare.ensures.table ∙ c.self.invariant.0 ∙ ap (λ (b : Controlled). table b.history) c.self.view_is) i) (followed i))

  controls : control_of c.follow.new.self ≡ learnt.control
  controls = c.follow.ensures.control
      ∙ (λ i. fold keeps_up ((c.prepare.ensures.control ∙ ap (λ (b : Controlled). renewed_at (clocked c.args.plan.clock b.control) c.args.plan.renewed) c.self.view_is) i) (followed i))

  now : (control_of c.follow.new.self).now ≡ c.args.speaker.now.moment
  now = ap (λ (k : Control). k.now) controls ∙ heard_now c.args.self.now c.args.plan c.args.speaker.now c.requires.addresses c.requires.clock c.requires.leaves

-- Once the message is heard.

module _ (c : After-drop-plan-2) where
  abbrev start_of : In_ok-has_room_for
  start_of = (goal.at.returns c).In_ok-has_room_for

  abbrev mid : After-follow
  mid = (goal.at.returns c).After-follow

  abbrev plan : List Change
  plan = c.args.plan.changes.items

  abbrev says : Course → Course
  says = said c.args.speaker.now.port c.args.speaker.now.vid c.args.bytes.now c.args.message.now

  abbrev added : List Change
  added = c.hear.ensures.adds.0

  is : says (learnt mid) ≡ course_of c.hear.new.self (plan ++ added) []
  is = sym (λ i. says (record { table = tables mid i; control = controls mid i; changes = plan; messages = [] })) ∙ c.hear.ensures.adds.2 plan []

  view : c.self.inside.history.items ≡ c.args.self.now.history
  view = ap (λ (b : Controlled). b.history) c.self.view_is

  planned : c.append.new.history.items ≡ c.args.self.now.history ++ plan
  planned = c.append.ensures.items ∙ (λ i. (c.in_ok-reserve.ensures.items ∙ view) i ++ c.deref-2.ensures.value i)

  grows : c.hear.new.changes.items ≡ c.args.self.now.history ++ (plan ++ added)
  grows = c.hear.ensures.adds.1 ∙ ap (λ (l : List Change). l ++ added) planned ∙ append_assoc c.args.self.now.history plan added

  few : length c.args.self.now.history + length (plan ++ added) ≤ most_changes
  few =
      let long = ap (λ (r : Course). length r.changes) is in
      let room = c.in_ok-has_room_for.ensures.yes c.if-not-branch.false (learnt mid) (begins start_of) (sym (c.len-planned.ensures ∙ c.args.plan.changes.ok.0)) (omega (
        arith,
        long,
        length-append plan added,
        c.hear.ensures.count,
        ap (λ (l : List Change). length l) c.hear.ensures.adds.1,
        length-append c.append.new.history.items added,
        c.len-planned.ensures,
        c.args.plan.changes.ok.0,
      ))
      in
      omega (arith, room, long)

pub returns-then-not-branch : goal.returns-then-not-branch
returns-then-not-branch c lines =
    let d = (goal.at.returns-then-not-branch c).In_ok-has_room_for in
    let many = c.in_ok-has_room_for.ensures.no c.if-not-branch.true (learned (old d) (p d)) (begins d) (sym (c.len-planned.ensures ∙ (p d).changes.ok.0)) in (
      refused (old d) (p d) c.requires.sound c.requires.untold (said (s d).port (s d).vid c.args.bytes.now c.args.message.now) many,
      refl,
      refl,
    )

pub overflow_add-planned : goal.overflow_add-planned
overflow_add-planned c = omega (arith, c.most_changes.ensures.few, c.len-planned.ensures, c.args.plan.changes.small)

pub hear-requires-clause-speaker : goal.hear-requires-clause-speaker
hear-requires-clause-speaker c =
    let d = (goal.at.hear-requires-clause-speaker c).After-follow in
    record {
      now = sym (now d);
      leaves = ap (λ (t : Table). has_flag t c.args.speaker.now.port fastleave) (tables d)
          ∙ leaves_so c.args.self.now c.args.plan c.args.speaker.now c.requires.addresses c.requires.clock c.requires.leaves;
    }

pub hear-requires-clause-early : goal.hear-requires-clause-early
hear-requires-clause-early c =
    subst (λ (n : ℕ). n < 2 ^ 53) (c.requires.clock ∙ sym (now (goal.at.hear-requires-clause-early c).After-follow)) c.requires.sound.early

pub invariant_of-self-2 : goal.invariant_of-self-2
invariant_of-self-2 c =
    let d = c in
    let old = c.args.self.now.history in
    let p = c.args.plan.changes.items in
    let g = grown old p c.append.new.history.items (table_of c.follow.new.self) (planned d) (tables (mid d))
    (omega (arith, few d, length-append p (added d)))
    (ap (all_fit start) (sym (view d)) ∙ c.self.invariant.2) c.requires.sound.fits
    in (
      sym (c.hear.ensures.table start (sym g.0)),
      omega (arith, few d, ap (λ (l : List Change). length l) (grows d), length-append old (p ++ added d)),
      c.hear.ensures.fits start (sym g.0) g.2,
      subst (λ (n : ℕ). n < 2 ^ 53) (c.requires.clock ∙ sym (c.hear.ensures.now ∙ now (mid d))) c.requires.sound.early,
      c.hear.ensures.tied,
    )

pub returns : goal.returns
returns c lines =
    let d = c in
    reacts c.args.self.now c.args.plan c.requires.sound c.requires.untold (says d) (course_of c.hear.new.self (c.args.plan.changes.items ++ added d) []) (is d) refl (few d) _
    (λ i. record { setup = ap (λ (b : Controlled). b.setup) c.self.view_is i; history = grows d i; control = control_of c.hear.new.self })
    lines (Ok tt) refl
