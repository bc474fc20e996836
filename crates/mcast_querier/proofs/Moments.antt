-- What a step leaves of the last moment: it stays, or goes on to the one that the step names.
use Rattle.std.proofs.Common.{◌≡◌, ℕ, ◌+◌, ◌≤◌, Bool, true, false, cond, List, [], ◌∷◌, ◌++◌, Option, None, Some, refl, sym, ◌∙◌, subst, arith, nat_lt}
use Rattle.std.specs.List.{list_any}
use Rattle.std.specs.declared.result.Result.{Result}
use Rattle.std.specs.declared.result.Result.TheVariants.{Ok, Err}
use Rattle.std.proofs.lemmas.List.Folds.{list_any-append}
use Rattle.br_model.specs.declared.change.Change.{Change}
use Rattle.br_model.specs.declared.change.Change.TheVariants as changes
use Rattle.br_model.specs.declared.frame.Head.{Head}
use Rattle.br_model.specs.declared.steps.Command.{Command}
use Rattle.br_model.specs.declared.steps.Event.{Event}
use Rattle.br_model.specs.declared.steps.Event.TheVariants.{Cmd, Moment, Sight, Told, Forget}
use Rattle.br_model.specs.declared.steps.Refusal.{Refusal}
use Rattle.br_model.specs.declared.steps.Refusal.TheVariants.{Backward, HistoryFull}
use Rattle.br_model.specs.declared.tree.TreeEvent.{TreeEvent}
use Rattle.br_model.specs.declared.tree.TreeEvent.TheVariants as tree_events
use Rattle.br_model.specs.Control.Ageing.{expired, forgets, forgotten}
use Rattle.br_model.specs.Control.Commands.{command, sets, tells}
use Rattle.br_model.specs.Control.Control.{Control, keeps_up, renewed}
use Rattle.br_model.specs.Control.Course.{Course, from, makes, makes_all}
use Rattle.br_model.specs.Control.Ends.{endings}
use Rattle.br_model.specs.Control.Learning.{Address, is_renewed, teach, taught, reported}
use Rattle.br_model.specs.Control.Reaction.{Reaction, happens, commanded, passes_to, at_moment, ages, ends, has_room, in_room, react, sees, learns_of, learns, renews}
use Rattle.br_model.specs.Control.Snooping.{snoops}
use Rattle.br_model.specs.Control.TreeReaction.{tells_tree, heard, states}
use Rattle.br_model.specs.Table.DomainPorts.{is_in_domain}
use Rattle.br_model.specs.Table.Domains.{software}
use Rattle.br_model.specs.Table.Limits.{fits}
use Rattle.br_model.specs.Table.Setup.{Setup}
use Rattle.br_model.specs.Table.Table.{apply, table}
use Rattle.br_model.specs.Tree.Step.{tree_step, sent}
use Rattle.std.proofs.Common.{length}
use Rattle.std.proofs.Math.Bool.{or-true}
use Rattle.br_model.specs.declared.steps.Step.{Step}
use Rattle.br_model.specs.declared.transcript.Line.{Line}
use Rattle.br_model.specs.declared.transcript.Line.TheVariants.{Done}
use Rattle.br_model.specs.Plane.LineTraits.{is_done}
use Rattle.br_model.specs.Plane.Serving.{posts, lets_go}
use Rattle.br_model.specs.Plane.Steps.{world_step}
use Rattle.br_model.specs.Plane.Traits.{traits}
use Rattle.br_model.specs.Plane.World.{World, Waiting, Stepped, answered, control_lines, reacts}
use Rattle.br_model.proofs.Plane.StepEnds.{Ends, does-ends, ends_answered, ends_applied, ends_entered, ends_held, ends_idle, ends_published, ends_refused, ends_sent, ends_unread}
use Rattle.br_model.proofs.Plane.StepEnds.{by_command, by_moment, by_post, by_report, by_serve, by_sweep}
use Rattle.br_model.proofs.Control.ReactionSteps.{IsKept}
use Rattle.br_model.proofs.Control.SnoopSteps.{snoops-keeps}
use Rattle.br_model.proofs.Control.Clocks.{sets-now}

-- what a reaction leaves of the moment

keeps_up-now : (k : Control) (c : Change) → (keeps_up k c).now ≡ k.now
keeps_up-now k (changes.AddrDel vid mac) = refl
keeps_up-now k c = refl

abbrev At : ℕ → Course → Type 0
At n r = r.control.now ≡ n

module _ (n : ℕ) where
  makes-at : (r : Course) (c : Change) → At n r → At n (makes r c)
  makes-at r c p =
      elim (fits r.table c) as (λ b. At n (cond b (record r { table = apply r.table c; control = keeps_up r.control c; changes = r.changes ++ c ∷ [] }) r)) [
        | true ↦ keeps_up-now r.control c ∙ p
        | false ↦ p
      ]

  all-at : (r : Course) (cs : List Change) → At n r → At n (makes_all r cs)
  all-at r [] p = p
  all-at r (c ∷ cs) p = all-at (makes r c) cs (makes-at r c p)

  told-at : (r : Course) (o : Option TreeEvent) → At n r → At n (tells_tree o r)
  told-at r None p = p
  told-at r (Some event) p =
      let a = tree_step r.control.tree r.control.now event in
      all-at (record r { control = record r.control { tree = a.tree }; messages = r.messages ++ sent a }) (states r.control.tree a.tree) p

  commanded-at : (r : Course) (c : Command) (answer : Result (List Change) Refusal) → At n r → IsKept (At n) (commanded r c answer)
  commanded-at r c (Err why) p = tt
  commanded-at r c (Ok made) p =
      let set = record r { control = sets r.control c } in
      told-at (makes_all set made) (tells r.table c) (all-at set made (sets-now r.control c ∙ p))

  learns-at : (r : Course) (port : ℕ) (o : Option Address) → At n r → At n (learns port o r)
  learns-at r port None p = p
  learns-at r port (Some key) p =
      all-at (renews key port r) (taught r.table key port)
      (elim (is_renewed r.table key port) as (λ b. At n (cond b (record r { control = renewed r.control key }) r)) [ true ↦ p | false ↦ p ])

  learns_of-at : (setup : Setup) (r : Course) (port : ℕ) (head : Head) → At n r → At n (learns_of setup port head r)
  learns_of-at setup r port head p =
      elim (is_in_domain setup.domains software port) as (λ b. At n (cond b (learns port (teach r.table port head) r) r)) [ true ↦ learns-at r port (teach r.table port head) p | false ↦ p ]

  snoops-at : (port : ℕ) (bytes : List ℕ) (head : Head) (r : Course) → At n r → At n (snoops port bytes head r)
  snoops-at = snoops-keeps (At n) (λ r c _ p. makes-at r c p) (λ r m end there p. p) (λ r six known p. p) (λ r port there p. p)

  sees-at : (setup : Setup) (r : Course) (port : ℕ) (bytes : List ℕ) (head : Head) → At n r → At n (sees setup port bytes head r)
  sees-at setup r port bytes head p =
      let learned = learns_of setup port head r in
      told-at (snoops port bytes head learned) (heard r.table port bytes head) (snoops-at port bytes head learned (learns_of-at setup r port head p))

passes-at : (r : Course) (now : ℕ) → IsKept (At now) (passes_to now r)
passes-at r now =
    let later = at_moment now r in
    let aged = ages later in
    elim (nat_lt now r.control.now) as (λ b. IsKept (At now) (cond b (Err Backward) (Ok (tells_tree (Some tree_events.Moment) (ends aged))))) [
      | true ↦ tt
      | false ↦ told-at now (ends aged) (Some tree_events.Moment)
          (all-at now aged (endings aged.control.now aged.control.ends) (all-at now later (forgets (expired r.table later.control)) refl))
    ]

-- the moment behind an event that is accepted
abbrev pub moment_behind : ℕ → Event → ℕ
moment_behind n (Cmd c) = n
moment_behind n (Moment now) = now
moment_behind n (Sight port bytes head) = n
moment_behind n (Told vid mac port) = n
moment_behind n (Forget triples) = n

happens-at : (setup : Setup) (r : Course) (e : Event) → IsKept (At (moment_behind r.control.now e)) (happens setup r e)
happens-at setup r (Cmd c) = commanded-at r.control.now r c (command r.table c) refl
happens-at setup r (Moment now) = passes-at r now
happens-at setup r (Sight port bytes head) = sees-at r.control.now setup r port bytes head refl
happens-at setup r (Told vid mac port) = all-at r.control.now r (reported r.table (vid, mac) port) refl
happens-at setup r (Forget triples) = all-at r.control.now r (forgets (forgotten r.table triples)) refl

-- A moment that is accepted isn't before the last one.
passes-on : (r : Course) (now : ℕ) → IsKept (λ s. r.control.now ≤ now) (passes_to now r)
passes-on r now =
    (elim (nat_lt now r.control.now) as (λ b. nat_lt now r.control.now ≡ b
    → IsKept (λ s. r.control.now ≤ now) (cond b (Err Backward) (Ok (tells_tree (Some tree_events.Moment) (ends (ages (at_moment now r))))))) [
      | true ↦ λ e. tt
      | false ↦ λ e. at_most e
    ]) refl
  where
    at_most : nat_lt now r.control.now ≡ false → r.control.now ≤ now
    at_most h = grind arith

-- what holds of the control state that is accepted, if one is
abbrev Leaves : (Control → Type 0) → Result Reaction Refusal → Type 0
Leaves P (Err why) = Unit {0}
Leaves P (Ok r) = P r.control

in_room-leaves : (P : Control → Type 0) (h : List Change) (answer : Result Course Refusal) → IsKept (λ r. P r.control) answer → Leaves P (in_room h answer)
in_room-leaves P h (Err why) p = tt
in_room-leaves P h (Ok r) p =
    elim (has_room h r.changes) as (λ b. Leaves P (cond b (Ok (record { changes = r.changes; control = r.control; messages = r.messages })) (Err HistoryFull))) [
      | true ↦ p
      | false ↦ tt
    ]

pub react-leaves : (setup : Setup) (h : List Change) (control : Control) (e : Event) → Leaves (λ k. k.now ≡ moment_behind control.now e) (react setup h control e)
unfolding react
react-leaves setup h control e =
    in_room-leaves (λ k. k.now ≡ moment_behind control.now e) h (happens setup (from (table h) control) e) (happens-at setup (from (table h) control) e)

react-on : (setup : Setup) (h : List Change) (control : Control) (now : ℕ) → Leaves (λ k. control.now ≤ now) (react setup h control (Moment now))
unfolding react
react-on setup h control now = in_room-leaves (λ k. control.now ≤ now) h (happens setup (from (table h) control) (Moment now)) (passes-on (from (table h) control) now)

-- what a step leaves of it

answered-same : (before after : World) (answer : Result Reaction Refusal) → Leaves (λ k. k.now ≡ before.control.now) answer → (answered before after answer).0.control.now ≡ before.control.now
answered-same before after (Err why) p = refl
answered-same before after (Ok r) p = p

posts-same : (w : World) (f : Waiting) (point : ℕ) → (posts w f point).0.control.now ≡ w.control.now
posts-same w f point = answered-same w w (reacts w (Sight f.port f.bytes f.head)) (react-leaves w.setup w.history w.control (Sight f.port f.bytes f.head))

-- What is so of the last moment before and after a step that names this one or none, by whether a line says that it was done.
abbrev pub PassesBy : Option ℕ → Bool → ℕ → ℕ → Type 0
PassesBy None done before after = after ≡ before
PassesBy (Some moment) true before after = (before ≤ moment) × (after ≡ moment)
PassesBy (Some moment) false before after = after ≡ before

-- a moment comes, or is refused
passes : (w v : World) (moment : ℕ) (answer : Result Reaction Refusal) → Leaves (λ k. k.now ≡ moment) answer → Leaves (λ k. w.control.now ≤ moment) answer
    → PassesBy (Some moment) (list_any is_done (answered w v answer).1) w.control.now (answered w v answer).0.control.now
passes w v moment (Err why) p on = refl
passes w v moment (Ok r) p on = subst (λ b. PassesBy (Some moment) b w.control.now r.control.now) (sym (is_told (control_lines v.setup.own r.messages))) (on, p)
  where
    is_told : (ls : List Line) → list_any is_done (ls ++ Done v.steps (length r.changes) ∷ []) ≡ true
    is_told ls = list_any-append is_done ls (Done v.steps (length r.changes) ∷ []) ∙ or-true (list_any is_done ls)

-- nothing passes where nothing is done
none-passes : (o : Option ℕ) (n : ℕ) → PassesBy o false n n
none-passes None n = refl
none-passes (Some moment) n = refl

ends-passes : (w : World) {step : Step} {y : Stepped} → Ends w step y → PassesBy (traits step).moment (list_any is_done y.1) w.control.now y.0.control.now
ends-passes w {step} (ends_refused why) = none-passes (traits step).moment w.control.now
ends-passes w (ends_unread port bytes why is) = refl
ends-passes w (ends_entered port bytes n) = refl
ends-passes w (ends_held f later is) = refl
ends-passes w (ends_sent f held waiting point (by_serve g later is)) = posts-same (record w { waiting = later }) f point
ends-passes w (ends_sent f held waiting point (by_post id named h at is names decided)) = posts-same (lets_go w h.waiting.id) f point
ends-passes w (ends_applied dom c d at is) = refl
ends-passes w (ends_idle dom) = refl
ends-passes w (ends_answered chips e (by_command c)) = answered-same w w (reacts w e) (react-leaves w.setup w.history w.control e)
ends-passes w (ends_answered chips e (by_moment moment)) = passes w w moment (reacts w e) (react-leaves w.setup w.history w.control e) (react-on w.setup w.history w.control moment)
ends-passes w (ends_answered chips e (by_report dom c x later at is)) = answered-same w (record w { chips = chips }) (reacts w e) (react-leaves w.setup w.history w.control e)
ends-passes w (ends_answered chips e (by_sweep dom c at)) = answered-same w (record w { chips = chips }) (reacts w e) (react-leaves w.setup w.history w.control e)
ends-passes w ends_published = refl

pub step-passes : (w : World) (step : Step) → PassesBy (traits step).moment (list_any is_done (world_step w step).1) w.control.now (world_step w step).0.control.now
step-passes w step = let u = record w { steps = w.steps + 1 } in ends-passes u (does-ends u step)
