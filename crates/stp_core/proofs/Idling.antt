-- A moment at which nothing is due changes nothing.
use Rattle.std.proofs.Common.{◌⊎◌, inl, inr, ◌≡◌, ℕ, ◌==◌, ◌+◌, Bool, true, false, cond, not, ◌&&◌, ◌||◌, List, [], ◌∷◌, Option, None, Some, refl, sym, ap, ap₂, ◌∙◌, arith}
use Rattle.std.specs.List.{filter, list_any}
use Rattle.std.specs.Option.{is_some, option_map_or}
use Rattle.std.proofs.lemmas.Bool.{or_parts, cases_Bool}
use Rattle.std.proofs.lemmas.Bool.Decides.{nat_tests}
use Rattle.lemmas.proofs.Tests.{and-false}
use Rattle.br_model.specs.declared.tree.Stamped.{Stamped}
use Rattle.br_model.specs.declared.tree.TreePort.{TreePort}
use Rattle.br_model.specs.Tree.Tree.{Tree, each, numbers}
use Rattle.br_model.specs.Tree.Vectors.{root_of, is_root, is_designated, is_active, without_kept, roles}
use Rattle.br_model.specs.Tree.Timers.{forward_delay, is_aged_out, is_tcn_due, forgets}
use Rattle.br_model.specs.Tree.States.{blocking, learning, enters, by_role, is_open, is_due, is_blocked_by_roles, is_opened_by_time, states_follow, states_move}
use Rattle.br_model.specs.Tree.Sending.{quiet, union, is_put_off, transmit, generate, drops_put_off, sends_put_off, notify, detected_if}
use Rattle.br_model.specs.declared.tree.TreeEvent.TheVariants.{Moment}
use Rattle.br_model.specs.Tree.Step.{tree_step, settled, roles_taken, hands_over, detects, greets_as_root, states_due, change_due, tcn_due, hello_due}
use Rattle.stp_core.specs.declared.vectors.Election.{Election}
use Rattle.stp_core.specs.Due.{election_of, is_any_due, is_due_at, is_timer_due, is_change_over, says_hello, is_age_over, is_delay_over, is_unsettled, keeps_beside_role, stands_beside_role}

-- Ports at which a test fails

module _ (d : ℕ × TreePort → Bool) where
  each-same : (f : ℕ × TreePort → TreePort) → ((e : ℕ × TreePort) → d e ≡ false → f e ≡ e.1)
      → (es : List (ℕ × TreePort)) → list_any d es ≡ false → each f es ≡ es
  each-same f stays [] none = refl
  each-same f stays (e ∷ es) none =
      let parts = or_parts (d e) (list_any d es) none in
      λ i. (e.0, stays e parts.0 i) ∷ each-same f stays es parts.1 i

  any-none : (q : ℕ × TreePort → Bool) → ((e : ℕ × TreePort) → d e ≡ false → q e ≡ false)
      → (es : List (ℕ × TreePort)) → list_any d es ≡ false → list_any q es ≡ false
  any-none q fails [] none = refl
  any-none q fails (e ∷ es) none =
      let parts = or_parts (d e) (list_any d es) none in
      ap₂ (λ a b. a || b) (fails e parts.0) (any-none q fails es parts.1)

  filter-none : (q : ℕ × TreePort → Bool) → ((e : ℕ × TreePort) → d e ≡ false → q e ≡ false)
      → (es : List (ℕ × TreePort)) → list_any d es ≡ false → filter q es ≡ []
  filter-none q fails [] none = refl
  filter-none q fails (e ∷ es) none =
      let parts = or_parts (d e) (list_any d es) none in
      ap (λ b. cond b (e ∷ filter q es) (filter q es)) (fails e parts.0) ∙ filter-none q fails es parts.1

each_unchanged : (es : List (ℕ × TreePort)) → each (λ e. e.1) es ≡ es
each_unchanged [] = refl
each_unchanged (e ∷ es) = λ i. (e.0, e.1) ∷ each_unchanged es i

filter_false : (es : List (ℕ × TreePort)) → filter (λ _. false) es ≡ []
filter_false [] = refl
filter_false (e ∷ es) = filter_false es

-- One port

forgotten : (b : Bool) (x : TreePort) → (b && is_some x.kept) ≡ false → without_kept b x ≡ x
forgotten false x h = refl
forgotten true x h = λ i. record x { kept = sym (none x.kept h) i }
  where
    none : (o : Option Stamped) → is_some o ≡ false → o ≡ None
    none None h = refl
    none (Some k) h = absurd (cc)

stands : (active : Bool) (now : ℕ) (x : TreePort) → cond active (x.state == blocking) (not (x.state == blocking)) ≡ false → by_role active now x ≡ x
stands true now x h = ap (λ b. cond b (enters 1 now x) x) h
stands false now x h = by (x.state == blocking) h
  where
    by : (b : Bool) → not b ≡ false → cond b x (enters blocking now x) ≡ x
    by true h = refl
    by false h = absurd (cc)

closed : (active : Bool) (x : TreePort) → cond active (x.state == blocking) (not (x.state == blocking)) ≡ false → (is_open x && not active) ≡ false
closed true x h = and-false (is_open x)
closed false x h = grind (arith, nat_tests)

-- who was the root and is it becomes nothing
same_before : (b : Bool) → (not b && b) ≡ false
same_before true = refl
same_before false = refl

same_after : (b : Bool) → (b && not b) ≡ false
same_after true = refl
same_after false = refl

-- what doesn't happen at a port where nothing is due
rests : (el : Election) (delay now : ℕ) (e : ℕ × TreePort) → is_due_at el delay now e ≡ false
    → (keeps_beside_role el e ≡ false) × (stands_beside_role el e ≡ false) × (is_age_over now e.1 ≡ false) × (is_delay_over delay now e.1 ≡ false)
    × (is_put_off now e.1 ≡ false)
rests el delay now e h =
    let either = or_parts (is_unsettled el e) ((is_age_over now e.1 || is_delay_over delay now e.1) || is_put_off now e.1) h in
    let role = or_parts (keeps_beside_role el e) (stands_beside_role el e) either.0 in
    let timers = or_parts (is_age_over now e.1 || is_delay_over delay now e.1) (is_put_off now e.1) either.1 in
    let others = or_parts (is_age_over now e.1) (is_delay_over delay now e.1) timers.0 in
    (role.0, role.1, others.0, others.1, timers.1)

module _ (t : Tree) (now : ℕ) (ports : list_any (is_due_at (election_of t) (forward_delay t) now) t.ports ≡ false) where
  due : ℕ × TreePort → Bool
  due e = is_due_at (election_of t) (forward_delay t) now e

  no_kept : (e : ℕ × TreePort) → due e ≡ false → keeps_beside_role (election_of t) e ≡ false
  unfolding due
  no_kept e h = (rests (election_of t) (forward_delay t) now e h).0

  no_change : (e : ℕ × TreePort) → due e ≡ false → stands_beside_role (election_of t) e ≡ false
  unfolding due
  no_change e h = (rests (election_of t) (forward_delay t) now e h).1

  no_age : (e : ℕ × TreePort) → due e ≡ false → is_age_over now e.1 ≡ false
  unfolding due
  no_age e h = (rests (election_of t) (forward_delay t) now e h).2

  no_move : (e : ℕ × TreePort) → due e ≡ false → is_delay_over (forward_delay t) now e.1 ≡ false
  unfolding due
  no_move e h = (rests (election_of t) (forward_delay t) now e h).3

  no_message : (e : ℕ × TreePort) → due e ≡ false → is_put_off now e.1 ≡ false
  unfolding due
  no_message e h = (rests (election_of t) (forward_delay t) now e h).4

  ports_same : (f : ℕ × TreePort → TreePort) → ((e : ℕ × TreePort) → due e ≡ false → f e ≡ e.1) → each f t.ports ≡ t.ports
  unfolding due
  ports_same f stays = each-same due f stays t.ports ports

  forgets_none : forgets now t ≡ t
  unfolding forgets
  forgets_none = λ i. record t {
    ports = ports_same (λ e. cond (option_map_or (is_aged_out now) e.1.kept false) (record e.1 { kept = None }) e.1)
        (λ e h. ap (λ b. cond b (record e.1 { kept = None }) e.1) (no_age e h)) i;
  }

  roles_same : roles t ≡ t
  unfolding roles
  roles_same = λ i. record t {
    ports = ports_same (λ e. without_kept (is_designated t e) e.1) (λ e h. forgotten (is_designated t e) e.1 (no_kept e h)) i;
  }

  states_same : states_follow now t ≡ t
  unfolding states_follow
  states_same = λ i. record t {
    ports = ports_same (λ e. by_role (is_active t e) now e.1) (λ e h. stands (is_active t e) now e.1 (no_change e h)) i;
  }

  none_blocked : is_blocked_by_roles t ≡ false
  unfolding due
  none_blocked = any-none due (λ e. is_open e.1 && not (is_active t e)) (λ e h. closed (is_active t e) e.1 (no_change e h)) t.ports ports

  hands_same : hands_over t now t ≡ t
  hands_same =
      ap (λ b. cond b (record t { notified = None; hello = now }) (cond (is_root t && not (is_root t)) (record t { change_end = None }) t)) (same_before (is_root t))
      ∙ ap (λ b. cond b (record t { change_end = None }) t) (same_after (is_root t))

  detects_none : detects false t t ≡ false
  detects_none = ap₂ (λ a b. a || (b || false)) none_blocked (same_before (is_root t))

  settled_same : settled false t now t ≡ quiet t
  unfolding settled
  settled_same =
      ap (roles_taken false t now) roles_same
      ∙ ap (λ u. greets_as_root t now (detected_if (detects false t t) now (quiet (hands_over t now u)))) states_same
      ∙ ap (λ u. greets_as_root t now (detected_if (detects false t t) now (quiet u))) hands_same
      ∙ ap (λ b. greets_as_root t now (detected_if b now (quiet t))) detects_none
      ∙ ap (λ b. cond b (generate now (quiet t)) (quiet t)) (same_before (is_root t))

  none_opened : is_opened_by_time now t ≡ false
  unfolding due
  none_opened =
      ap (λ b. b && list_any (is_designated t) t.ports)
      (any-none due (λ e. e.1.state == learning && is_due t now e.1) (λ e h. ap (λ b. e.1.state == learning && b) (no_move e h) ∙ and-false (e.1.state == learning)) t.ports ports)

  moves_none : states_move now t ≡ t
  unfolding states_move
  moves_none = λ i. record t {
    ports = ports_same (λ e. cond (is_due t now e.1) (enters (e.1.state + 1) now e.1) e.1)
        (λ e h. ap (λ b. cond b (enters (e.1.state + 1) now e.1) e.1) (no_move e h)) i;
  }

  states_due_same : states_due now (quiet t) ≡ quiet t
  states_due_same =
      ap (λ b. detected_if b now (record (quiet t) { tree = states_move now t })) none_opened ∙ ap quiet moves_none

  put_off_none : drops_put_off now t ≡ t
  unfolding drops_put_off
  put_off_none = λ i. record t {
    ports = ports_same (λ e. cond (is_put_off now e.1 && not (is_designated t e)) (record e.1 { put_off = false; owed = false }) e.1)
        (λ e h. ap (λ b. cond (b && not (is_designated t e)) (record e.1 { put_off = false; owed = false }) e.1) (no_message e h)) i;
  }

  transmits_none : transmit [] now (quiet t) ≡ quiet t
  unfolding transmit
  transmits_none = λ i. record (quiet t) {
    tree = record t { ports = each_unchanged t.ports i };
    config = ap (λ (es : List (ℕ × TreePort)). union [] (numbers es)) (filter_false t.ports) i;
  }

  sends_none : sends_put_off now (quiet t) ≡ quiet t
  unfolding due
  sends_none =
      ap (λ u. transmit (numbers (filter (λ e. is_put_off now e.1) u.ports)) now (quiet u)) put_off_none
      ∙ ap (λ (es : List (ℕ × TreePort)). transmit (numbers es) now (quiet t)) (filter-none due (λ e. is_put_off now e.1) no_message t.ports ports)
      ∙ transmits_none

  module _ (timers : is_timer_due now t ≡ false) where
    no_timer : (is_change_over now t ≡ false) × (is_tcn_due now t ≡ false) × (says_hello now t ≡ false)
    no_timer =
        let either = or_parts (is_change_over now t || is_tcn_due now t) (says_hello now t) timers in
        let others = or_parts (is_change_over now t) (is_tcn_due now t) either.0 in
        (others.0, others.1, either.1)

    change_same : change_due now (quiet t) ≡ quiet t
    change_same = ap (λ b. quiet (cond b (record t { change_end = None }) t)) no_timer.0

    tcn_same : tcn_due now (quiet t) ≡ quiet t
    tcn_same = ap (λ b. cond b (notify now (root_of t).port (quiet t)) (quiet t)) no_timer.1

    hello_same : hello_due now (quiet t) ≡ quiet t
    hello_same = ap (λ b. cond b (generate now (record (quiet t) { tree = record t { hello = now } })) (quiet t)) no_timer.2

    idle_on : t.on ≡ true → tree_step t now Moment ≡ quiet t
    unfolding tree_step
    idle_on on =
        ap (λ b. cond b (sends_put_off now (hello_due now (tcn_due now (change_due now (states_due now (settled false t now (forgets now t))))))) (quiet t)) on
        ∙ ap (λ u. sends_put_off now (hello_due now (tcn_due now (change_due now (states_due now (settled false t now u)))))) forgets_none
        ∙ ap (λ a. sends_put_off now (hello_due now (tcn_due now (change_due now (states_due now a))))) settled_same
        ∙ ap (λ a. sends_put_off now (hello_due now (tcn_due now (change_due now a)))) states_due_same
        ∙ ap (λ a. sends_put_off now (hello_due now (tcn_due now a))) change_same
        ∙ ap (λ a. sends_put_off now (hello_due now a)) tcn_same
        ∙ ap (λ a. sends_put_off now a) hello_same
        ∙ sends_none

pub idle : (t : Tree) (now : ℕ) → is_any_due t now ≡ false → tree_step t now Moment ≡ quiet t
unfolding is_any_due tree_step
idle t now none = by (cases_Bool t.on)
  where
    off : t.on ≡ false → tree_step t now Moment ≡ quiet t
    off is = ap (λ b. cond b (sends_put_off now (hello_due now (tcn_due now (change_due now (states_due now (settled false t now (forgets now t))))))) (quiet t)) is

    by : (t.on ≡ true) ⊎ (t.on ≡ false) → tree_step t now Moment ≡ quiet t
    by (inl on) =
        let parts = or_parts (is_timer_due now t) (list_any (is_due_at (election_of t) (forward_delay t) now) t.ports)
        (sym (ap (λ b. b && (is_timer_due now t || list_any (is_due_at (election_of t) (forward_delay t) now) t.ports)) on) ∙ none) in
        idle_on t now parts.1 parts.0 on
    by (inr is) = off is
