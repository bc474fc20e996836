-- What a plan comes to, once it is known to fit.
use Rattle.std.proofs.Common.{◌≡◌, ℕ, Bool, true, false, if◌then◌else◌, List, [], ◌∷◌, ◌++◌, map, fold, None, Some, is_err, length, ◌≤◌, refl, sym, ap, subst, ◌∙◌, arith}
use Rattle.std.proofs.lemmas.Bool.{le-leb}
use Rattle.std.proofs.lemmas.List.{append-nil}
use Rattle.std.proofs.lemmas.List.Sums.{fold-append}
use Rattle.std.specs.declared.result.Result.{Result}
use Rattle.std.specs.declared.result.Result.TheVariants.{Ok, Err}
use Rattle.br_model.specs.declared.change.Change.{Change}
use Rattle.br_model.specs.declared.steps.Refusal.{Refusal}
use Rattle.br_model.specs.declared.steps.Refusal.TheVariants.{HistoryFull}
use Rattle.br_model.specs.declared.transcript.Line.{Line}
use Rattle.br_model.specs.declared.tree.TreeEvent.{TreeEvent}
use Rattle.br_model.specs.Control.Control.{Control, keeps_up}
use Rattle.br_model.specs.Control.Course.{Course, from, makes_all}
use Rattle.br_model.specs.Table.Limits.{all_fit, most_changes}
use Rattle.br_model.specs.Plane.World.{control_lines}
use Rattle.br_model.specs.Control.Reaction.{Reaction, has_room, in_room}
use Rattle.br_model.specs.Table.Table.{Table, table, apply}
use Rattle.br_model.specs.Tree.Tree.{Tree, state_at}
use Rattle.br_model.specs.Theorems.TreeLaws.{knows_states}
use Rattle.br_model.specs.Control.TreeReaction.{states, tells_tree}
use Rattle.br_model.specs.Tree.Sending.{Acted}
use Rattle.br_model.specs.Tree.Step.{tree_step, moved, sent}
use Rattle.br_model.proofs.Trees.Kept.{known-at}
use Rattle.bridge_state.specs.declared.faults.EventFault.{EventFault}
use Rattle.bridge_state.specs.declared.faults.EventFault.TheVariants.{Refused, NoMemory}
use Rattle.bridge_state.specs.declared.plan.Plan.{Plan}
use Rattle.bridge_core.specs.Answers.{CarriesQuietly, Makes, Reacts}
use Rattle.bridge_state.specs.Following.{state_change}
use Rattle.bridge_core.specs.Kept.{Controlled}
use Rattle.bridge_state.specs.Plans.{IsSound, planned, prepared}
use Rattle.bridge_state.specs.Standing.{clocked}
use Rattle.bridge_state.proofs.Fitting.{made_all, all_fit_any, always-map, fit_behind}
use Rattle.bridge_state.proofs.Reactions.{same_clock, same_tree, renewed_clock, renewed_tree}

-- the states of a tree fit any table
pub states_fit : (t : Table) (tree : Tree) (ports : List ℕ) → knows_states tree ≡ true → all_fit t (map (state_change tree) ports) ≡ true
states_fit t tree ports known =
    all_fit_any t (map (state_change tree) ports) (always-map (state_change tree) ports (λ p. le-leb (state_at tree p) 4 (known-at tree p known)))

-- and leave the control state
still : (c : Control) (tree : Tree) (ports : List ℕ) → fold keeps_up c (map (state_change tree) ports) ≡ c
still c tree [] = refl
still c tree (p ∷ ports) = still c tree ports

module _ (t : Table) (c : Control) (p : Plan) (sound : IsSound t p) where
  abbrev pub base : Course
  base = record { table = t; control = prepared c p; changes = []; messages = [] }

  -- a plan of which the spanning tree is told nothing
  pub untold : p.tree_event ≡ None → planned t c p
      ≡ record { table = fold apply t p.changes.items; control = fold keeps_up (prepared c p) p.changes.items; changes = p.changes.items; messages = [] }
  untold is = (λ i. tells_tree (is i) (made_all base p.changes.items sound.fits i))

  module _ (event : TreeEvent) where
    abbrev pub acts : Acted
    acts = tree_step c.tree p.clock.now event

    abbrev pub all_changes : List Change
    all_changes = p.changes.items ++ states c.tree acts.tree

    pub all_changes_fit : knows_states acts.tree ≡ true → all_fit t all_changes ≡ true
    all_changes_fit known =
        fit_behind t p.changes.items (states c.tree acts.tree) sound.fits (states_fit (fold apply t p.changes.items) acts.tree (moved c.tree acts.tree) known)

    -- a plan of which it is told this
    pub told_so : p.tree_event ≡ Some event → knows_states acts.tree ≡ true → planned t c p
        ≡ record { table = fold apply t all_changes; control = record (fold keeps_up (prepared c p) all_changes) { tree = acts.tree }; changes = all_changes; messages = sent acts }
    told_so is known =
        let cs = p.changes.items in
        let ss = states c.tree acts.tree in
        let mid : Course = record { table = fold apply t cs; control = fold keeps_up (prepared c p) cs; changes = cs; messages = [] } in
        let tree : mid.control.tree ≡ c.tree = same_tree (prepared c p) cs ∙ renewed_tree (clocked p.clock c) p.renewed in
        let now : mid.control.now ≡ p.clock.now = same_clock (prepared c p) cs ∙ renewed_clock (clocked p.clock c) p.renewed in
        let next : Course = record mid { control = record mid.control { tree = acts.tree }; messages = sent acts } in
        (λ i. tells_tree (is i) (made_all base cs sound.fits i))
        ∙ (λ i. makes_all (record mid {
          control = record mid.control { tree = (tree_step (tree i) (now i) event).tree };
          messages = sent (tree_step (tree i) (now i) event);
        }) (states (tree i) (tree_step (tree i) (now i) event).tree))
        ∙ made_all next ss (states_fit next.table acts.tree (moved c.tree acts.tree) known)
        ∙ (λ i. record {
          table = sym (fold-append apply t cs ss) i;
          control = (
              still next.control acts.tree (moved c.tree acts.tree)
              ∙ ap (λ (x : Control). record x { tree = acts.tree }) (sym (fold-append keeps_up (prepared c p) cs ss ∙ still mid.control acts.tree (moved c.tree acts.tree)))
              ) i;
          changes = all_changes;
          messages = sent acts;
        })

-- what becomes of a bridge that makes the changes of a plan

module _ (old : Controlled) (p : Plan) (sound : IsSound (table old.history) p) (before after : List Line) where
  -- the answer of a course, by whether there is room for its changes
  abbrev answered : Course → Bool → Result Reaction Refusal
  answered x room = if room then Ok (record { changes = x.changes; control = x.control; messages = x.messages }) else Err HistoryFull

  -- the plan's course is this one, and there is this answer to whether there is room
  answer_of : (planned_as x : Course) (room : Bool) → planned_as ≡ x → has_room old.history x.changes ≡ room → in_room old.history (Ok planned_as) ≡ answered x room
  answer_of planned_as x room is e = ap (λ (x : Course). in_room old.history (Ok x)) is ∙ ap (answered x) e

  pub quiet_reacts : (new : Controlled) (r : Result (Unit {0}) EventFault) → p.tree_event ≡ None → Makes old new (prepared old.control p) p.changes.items r → after ≡ before
      → Reacts old new before after r (in_room old.history (Ok (planned (table old.history) old.control p)))
  quiet_reacts new (Ok done) quiet makes says = (
    record { changes = p.changes.items; control = fold keeps_up (prepared old.control p) p.changes.items; messages = [] },
    answer_of _ _ true (untold (table old.history) old.control p sound quiet) makes.0,
    makes.1,
    says ∙ sym (append-nil before),
  )
  quiet_reacts new (Err (Refused why)) quiet makes says = (
    answer_of _ _ false (untold (table old.history) old.control p sound quiet) makes.0 ∙ sym (ap refuses makes.1),
    makes.2,
    says,
  )
    where
      refuses : Refusal → Result Reaction Refusal
      refuses why = Err why
  quiet_reacts new (Err NoMemory) quiet makes says = (makes, says)

  module _ (event : TreeEvent) (is : p.tree_event ≡ Some event) (known : knows_states (acts (table old.history) old.control p sound event).tree ≡ true) where
    abbrev pub whole : List Change
    whole = all_changes (table old.history) old.control p sound event

    abbrev pub acted : Acted
    acted = acts (table old.history) old.control p sound event

    pub told_reacts : (mid new : Controlled) (r : Result (Unit {0}) EventFault) → is_err r ≡ false → Makes old mid (prepared old.control p) whole r
        → new ≡ record mid { control = record mid.control { tree = acted.tree } } → after ≡ before ++ control_lines old.setup.own (sent acted)
        → Reacts old new before after r (in_room old.history (Ok (planned (table old.history) old.control p)))
    told_reacts mid new (Ok done) e makes goes says = (
      record { changes = whole; control = record (fold keeps_up (prepared old.control p) whole) { tree = acted.tree }; messages = sent acted },
      answer_of _ _ true (told_so (table old.history) old.control p sound event is known) makes.0,
      goes ∙ ap (λ (m : Controlled). record m { control = record m.control { tree = acted.tree } }) makes.1,
      says,
    )
    told_reacts mid new (Err why) e makes goes says = absurd (cc)

    pub told_refused : (new : Controlled) (r : Result (Unit {0}) EventFault) → is_err r ≡ true → Makes old new (prepared old.control p) whole r → after ≡ before
        → Reacts old new before after r (in_room old.history (Ok (planned (table old.history) old.control p)))
    told_refused new (Ok done) e makes says = absurd (cc)
    told_refused new (Err (Refused why)) e makes says = (
      answer_of _ _ false (told_so (table old.history) old.control p sound event is known) makes.0 ∙ sym (ap refuses makes.1),
      makes.2,
      says,
    )
      where
        refuses : Refusal → Result Reaction Refusal
        refuses why = Err why
    told_refused new (Err NoMemory) e makes says = (makes, says)

-- a course of which no message goes out

module _ (old new : Controlled) (x : Course) (c : Control) (cs : List Change) (changes : x.changes ≡ cs) (control : x.control ≡ fold keeps_up c cs) (silent : x.messages ≡ []) where
  comes : (room : Bool) → has_room old.history cs ≡ room
      → in_room old.history (Ok x) ≡ (if room then Ok (record { changes = x.changes; control = x.control; messages = x.messages }) else Err HistoryFull)
  comes room e = ap (λ b. if b then Ok (record { changes = x.changes; control = x.control; messages = x.messages }) else Err HistoryFull) (ap (has_room old.history) changes ∙ e)

  -- who made its changes carried it out
  pub carried_out : (r : Result (Unit {0}) EventFault) → Makes old new c cs r → CarriesQuietly old new r x
  carried_out (Ok done) makes lines = (
    record { changes = x.changes; control = x.control; messages = x.messages },
    comes true makes.0,
    makes.1 ∙ (λ i. record old { history = old.history ++ sym changes i; control = sym control i }),
    sym (append-nil lines) ∙ ap (λ ms. lines ++ control_lines old.setup.own ms) (sym silent),
  )
  carried_out (Err (Refused why)) makes lines = (comes false makes.0 ∙ sym (ap refuses makes.1), makes.2, refl)
    where
      refuses : Refusal → Result Reaction Refusal
      refuses why = Err why
  carried_out (Err NoMemory) makes lines = (makes, refl)

-- where it makes no change
pub carried_still : (old new : Controlled) (x : Course) (c : Control) → length old.history ≤ most_changes → from (table old.history) c ≡ x → new ≡ record old { control = c }
    → CarriesQuietly old new (Ok tt) x
carried_still old new x c few is goes =
    carried_out old new x c [] (ap (λ (r : Course). r.changes) (sym is)) (ap (λ (r : Course). r.control) (sym is)) (ap (λ (r : Course). r.messages) (sym is)) (Ok tt)
    (le-leb _ _ (omega (arith, few)), goes ∙ (λ i. record old { history = sym (append-nil old.history) i; control = c }))

-- by another name
pub carried_as : (old new : Controlled) (r : Result (Unit {0}) EventFault) (x y : Course) → x ≡ y → CarriesQuietly old new r x → CarriesQuietly old new r y
carried_as old new r x y is carried = subst (λ (z : Course). CarriesQuietly old new r z) is carried

-- one change
pub carried_one : (old new : Controlled) (d : Change) (x : Course) → all_fit (table old.history) (d ∷ []) ≡ true → makes_all (from (table old.history) old.control) (d ∷ []) ≡ x
    → (r : Result (Unit {0}) EventFault) → Makes old new old.control (d ∷ []) r → CarriesQuietly old new r x
carried_one old new d x fit is r makes =
    let all = sym is ∙ made_all (from (table old.history) old.control) (d ∷ []) fit in
    carried_out old new x old.control (d ∷ []) (ap (λ (y : Course). y.changes) all) (ap (λ (y : Course). y.control) all) (ap (λ (y : Course). y.messages) all) r makes
