-- What no event of the spanning tree breaks: the bridge's address, the states that are known, the messages that went out.
use Rattle.std.proofs.Common.{◌≡◌, ℕ, ◌+◌, ◌/◌, ◌%◌, ◌≤◌, ◌==◌, nat_le, nat_lt, Bool, true, false, cond, not, ◌&&◌}
use Rattle.std.proofs.Common.{◌||◌, List, [], ◌∷◌, get_or, Option, None, Some, refl, sym, ap, ap₂, subst, ◌∙◌, arith}
use Rattle.std.specs.List.{All, filter, list_all}
use Rattle.std.specs.Option.{IsSome, is_some, option_map, option_map_or, option_and_then}
use Rattle.std.specs.declared.cmp.Ordering.{Ordering}
use Rattle.std.specs.declared.cmp.Ordering.TheVariants.{Less, Equal, Greater}
use Rattle.std.specs.Ordering.{nat_cmp, eq_by_cmp}
use Rattle.std.specs.FinMap.Entries.{by_order}
use Rattle.std.proofs.lemmas.Bool.{and_parts, cond_both, leb-true, le-leb}
use Rattle.std.proofs.lemmas.Bool.Decides.{nat_tests}
use Rattle.std.proofs.lemmas.List.Elements.{All-nil, All-cons, All-head, All-tail, All-map, All-weaker, All-filter, filter_passes}
use Rattle.std.proofs.lemmas.Map.Views.{All-insert_key}
use Rattle.lemmas.proofs.Orders.{eq_by_cmp-itself, eq_by_cmp-true}
use Rattle.br_model.specs.declared.bpdu.BpduMsg.{BpduMsg}
use Rattle.br_model.specs.declared.bpdu.BpduMsg.TheVariants.{Config, Tcn}
use Rattle.br_model.specs.declared.tree.ConfigMsg.{ConfigMsg}
use Rattle.br_model.specs.declared.tree.Stamped.{Stamped}
use Rattle.br_model.specs.declared.tree.TreeEvent.{TreeEvent}
use Rattle.br_model.specs.declared.tree.TreeEvent.TheVariants.{Switch, Up, Down, Message, Moment, Cost, PortPriority, Priority}
use Rattle.br_model.specs.declared.tree.TreePort.{TreePort}
use Rattle.br_model.specs.Data.Maps.{get, put, without, has}
use Rattle.br_model.specs.Table.Table.{disabled}
use Rattle.br_model.specs.Forward.Admission.{forwarding}
use Rattle.br_model.specs.Tree.Tree.{Tree, bpdu_of, first_tree, numbers, port_at, state_at, each, at_port, fresh}
use Rattle.br_model.specs.Tree.Vectors.{root_of, root_kept, is_root, is_root_port, is_designated, is_active, designated_ports, without_kept, roles, keeps}
use Rattle.br_model.specs.Tree.Timers.{times, is_aged_out, is_held, is_hello_due, is_tcn_due, forgets}
use Rattle.br_model.specs.Tree.States.{blocking, listening, learning, enters, by_role, is_due, states_follow, states_move, is_opened_by_time}
use Rattle.br_model.specs.Tree.Sending.{Acted, quiet, age_at, message_at, goes_out, transmitted, union, transmit}
use Rattle.br_model.specs.Tree.Sending.{generate, is_put_off, drops_put_off, sends_put_off, notify, detected_at, detected, detected_if}
use Rattle.br_model.specs.Tree.Step.{settled, becomes_root, stops_being_root, hands_over, detects, follows, restarted, on_at, off_at, switched, config_received, tcn_received}
use Rattle.br_model.specs.Tree.Step.{received_at, received, with_kept, acknowledged, passed_on, with_owed, states_due, change_due, tcn_due, hello_due, moment, tree_step, message}
use Rattle.br_model.specs.Theorems.TreeLaws.{knows_states, HaveSent}

-- Ports, one after another

abbrev all_known : List (ℕ × TreePort) → Bool
all_known es = list_all (λ e. nat_le e.1.state blocking) es

-- a state that was known is so, and a message that went out last is there
abbrev IsOnward : TreePort → TreePort → Type 0
IsOnward x y = record { state : x.state ≤ 4 → y.state ≤ 4; last : IsSome x.last → IsSome y.last }

stays : (x : TreePort) → IsOnward x x
stays x = record { state = λ h. h; last = λ h. h }

known-each : (f : ℕ × TreePort → TreePort) → ((e : ℕ × TreePort) → e.1.state ≤ 4 → (f e).state ≤ 4)
    → (es : List (ℕ × TreePort)) → all_known es ≡ true → all_known (each f es) ≡ true
known-each f keeps [] h = refl
known-each f keeps (e ∷ es) h =
    let parts = and_parts (nat_le e.1.state blocking) (all_known es) h in
    ap₂ (λ a b. a && b) (le-leb (f e).state 4 (keeps e (leb-true e.1.state 4 parts.0))) (known-each f keeps es parts.1)

known-filter : (p : ℕ × TreePort → Bool) (es : List (ℕ × TreePort)) → all_known es ≡ true
    → all_known (filter p es) ≡ true
known-filter p [] h = refl
known-filter p (e ∷ es) h =
    let parts = and_parts (nat_le e.1.state blocking) (all_known es) h in
    let rest = known-filter p es parts.1 in
    cond_both (p e) (e ∷ filter p es) (filter p es) (λ (l : List (ℕ × TreePort)). all_known l ≡ true)
    (λ _. ap₂ (λ a b. a && b) parts.0 rest) (λ _. rest)

known-put : (p : ℕ) (x : TreePort) → x.state ≤ 4 → (es : List (ℕ × TreePort)) → all_known es ≡ true
    → all_known (put nat_cmp es p x) ≡ true
known-put p x low [] h = ap (λ b. b && true) (le-leb x.state 4 low)
known-put p x low (e ∷ es) h =
    let parts = and_parts (nat_le e.1.state blocking) (all_known es) h in
    by (nat_cmp p e.0) (le-leb x.state 4 low) parts (known-put p x low es parts.1)
  where
    by : (r : Ordering) → nat_le x.state blocking ≡ true → (nat_le e.1.state blocking ≡ true) × (all_known es ≡ true)
        → all_known (put nat_cmp es p x) ≡ true
        → all_known (by_order r ((p, x) ∷ e ∷ es) ((e.0, x) ∷ es) (e ∷ put nat_cmp es p x)) ≡ true
    by Less new old rest = ap₂ (λ a b. a && b) new (ap₂ (λ a b. a && b) old.0 old.1)
    by Equal new old rest = ap₂ (λ a b. a && b) new old.1
    by Greater new old rest = ap₂ (λ a b. a && b) old.0 rest

-- the state of a port that is up, or that isn't
pub known-at : (t : Tree) (p : ℕ) → knows_states t ≡ true → state_at t p ≤ 4
known-at t p h = by t.ports h
  where
    by : (es : List (ℕ × TreePort)) → all_known es ≡ true → option_map_or (λ x. x.state) (get nat_cmp es p) disabled ≤ 4
    by [] h = omega arith
    by (e ∷ es) h =
        let parts = and_parts (nat_le e.1.state blocking) (all_known es) h in
        cond_both (eq_by_cmp nat_cmp p e.0) (Some e.1) (get nat_cmp es p) (λ o. option_map_or (λ x. x.state) o disabled ≤ 4)
        (λ _. leb-true e.1.state 4 parts.0) (λ _. by es parts.1)

-- Messages that went out

abbrev message_in : Option TreePort → Option BpduMsg
message_in o = option_map (λ s. bpdu_of s.message) (option_and_then (λ x. x.last) o)

message-last : (x : TreePort) → is_some (message_in (Some x)) ≡ is_some x.last
message-last x = by x.last
  where
    by : (o : Option Stamped) → is_some (option_map (λ (s : Stamped). bpdu_of s.message) o) ≡ is_some o
    by None = refl
    by (Some s) = refl

numbers-each : (f : ℕ × TreePort → TreePort) (es : List (ℕ × TreePort)) → numbers (each f es) ≡ numbers es
numbers-each f [] = refl
numbers-each f (e ∷ es) = ap (λ ns. e.0 ∷ ns) (numbers-each f es)

-- what stands at a port after a change at each
get-each : (f : ℕ × TreePort → TreePort) (p : ℕ) (es : List (ℕ × TreePort)) → get nat_cmp (each f es) p ≡ option_map (λ x. f (p, x)) (get nat_cmp es p)
get-each f p [] = refl
get-each f p (e ∷ es) =
    ap (λ o. cond (eq_by_cmp nat_cmp p e.0) (Some (f e)) o) (get-each f p es) ∙ by (eq_by_cmp nat_cmp p e.0) refl
  where
    by : (b : Bool) → eq_by_cmp nat_cmp p e.0 ≡ b
        → cond b (Some (f e)) (option_map (λ x. f (p, x)) (get nat_cmp es p)) ≡ option_map (λ x. f (p, x)) (cond b (Some e.1) (get nat_cmp es p))
    by true same = ap (λ n. Some (f (n, e.1))) (sym (eq_by_cmp-true p e.0 same))
    by false other = refl

sent-each : (f : ℕ × TreePort → TreePort) → ((e : ℕ × TreePort) → IsSome e.1.last → IsSome (f e).last)
    → (p : ℕ) (es : List (ℕ × TreePort)) → IsSome (message_in (get nat_cmp es p)) → IsSome (message_in (get nat_cmp (each f es) p))
sent-each f keeps p es h = subst (λ o. IsSome (message_in o)) (sym (get-each f p es)) (by (get nat_cmp es p) h)
  where
    by : (o : Option TreePort) → IsSome (message_in o) → IsSome (message_in (option_map (λ x. f (p, x)) o))
    by None h = h
    by (Some x) h = message-last (f (p, x)) ∙ keeps (p, x) (sym (message-last x) ∙ h)

-- each port that is up is found
are-found : (es : List (ℕ × TreePort)) → All (λ (e : ℕ × TreePort). IsSome (get nat_cmp es e.0)) es
are-found [] = All-nil (λ (e : ℕ × TreePort). IsSome {T = TreePort} (get nat_cmp [] e.0))
are-found (e ∷ es) =
    All-cons (λ (d : ℕ × TreePort). IsSome (get nat_cmp (e ∷ es) d.0)) e es
    (ap (λ b. is_some (cond b (Some e.1) (get nat_cmp es e.0))) (eq_by_cmp-itself e.0))
    (All-weaker (λ (d : ℕ × TreePort). IsSome (get nat_cmp es d.0)) (λ (d : ℕ × TreePort). IsSome (get nat_cmp (e ∷ es) d.0))
    (λ d h. cond_both (eq_by_cmp nat_cmp d.0 e.0) (Some e.1) (get nat_cmp es d.0) IsSome (λ _. refl) (λ _. h))
    es (are-found es))

All-union : (P : ℕ → Type 0) (ps s : List ℕ) → All P s → All P ps → All P (union s ps)
All-union P [] s old new = old
All-union P (p ∷ ps) s old new =
    All-union P ps _ (All-insert_key nat_cmp p P s old (All-head P p ps new)) (All-tail P p ps new)

-- a port that is held has sent, one that isn't sends unless its message is too old
module _ (t : Tree) (now : ℕ) where
  has_sent : (p : ℕ) (x : TreePort) → nat_lt (age_at now (root_kept t)) (times t).max ≡ true → IsSome (transmitted t now (p, x)).last
  has_sent p x young = by (is_held now x) refl
    where
      held : (o : Option Stamped) → option_map_or (λ s. nat_lt now (s.moment + 1000)) o false ≡ true → IsSome o
      held None h = absurd (cc)
      held (Some s) h = refl

      by : (b : Bool) → is_held now x ≡ b
          → IsSome
          (cond b (record x { put_off = true })
          (cond (not b && nat_lt (age_at now (root_kept t)) (times t).max) (record x { last = Some (record { message = message_at t now (p, x); moment = now }); put_off = false; owed = false })
          (record x { put_off = false }))).last
      by true h = held x.last h
      by false h =
          ap (λ b. is_some (cond b (record x { last = Some (record { message = message_at t now (p, x); moment = now }); put_off = false; owed = false }) (record x { put_off = false })).last) young

  onward_transmitted : (e : ℕ × TreePort) → IsOnward e.1 (transmitted t now e)
  onward_transmitted e =
      cond_both (is_held now e.1) (record e.1 { put_off = true }) _ (IsOnward e.1) (λ _. record { state = λ h. h; last = λ h. h })
      (λ _. cond_both (goes_out t now e) (record e.1 { last = Some (record { message = message_at t now e; moment = now }); put_off = false; owed = false }) (record e.1 { put_off = false })
      (IsOnward e.1)
      (λ _. record { state = λ h. h; last = λ h. refl }) (λ _. record { state = λ h. h; last = λ h. h }))

-- What holds after an event that began with the first tree

abbrev IsSound : Tree → Acted → Type 0
IsSound t a = record {
  own : a.tree.own ≡ t.own;
  states : knows_states t ≡ true → knows_states a.tree ≡ true;
  sent : HaveSent a.tree a.config;
  ports : numbers a.tree.ports ≡ numbers t.ports;
}

module _ (t : Tree) (now : ℕ) where
  begins : (u : Tree) → u.own ≡ t.own → (knows_states t ≡ true → knows_states u ≡ true) → numbers u.ports ≡ numbers t.ports → IsSound t (quiet u)
  begins u own states ports = record { own = own; states = states; sent = All-nil (λ p. IsSome (message u p)); ports = ports }

  sound-each : (f : ℕ × TreePort → TreePort) → ((e : ℕ × TreePort) → IsOnward e.1 (f e)) → (a : Acted) → IsSound t a
      → IsSound t (record a { tree = record a.tree { ports = each f a.tree.ports } })
  sound-each f onward a s = record {
    own = s.own;
    states = λ h. known-each f (λ e. (onward e).state) a.tree.ports (s.states h);
    sent = All-weaker (λ p. IsSome (message a.tree p)) (λ p. IsSome (message_in (get nat_cmp (each f a.tree.ports) p)))
        (λ p h. sent-each f (λ e. (onward e).last) p a.tree.ports h) a.config s.sent;
    ports = numbers-each f a.tree.ports ∙ s.ports;
  }

  -- Messages

  module _ (ps : List ℕ) (a : Acted) where
    abbrev sends : ℕ × TreePort → TreePort
    sends e = cond (has nat_cmp ps e.0) (transmitted a.tree now e) e.1

    abbrev is_sent : ℕ × TreePort → Bool
    is_sent e = has nat_cmp ps e.0 && goes_out a.tree now e

    abbrev has_sent_at : ℕ → Type 0
    has_sent_at p = IsSome (message_in (get nat_cmp (each sends a.tree.ports) p))

    sent_there : (e : ℕ × TreePort) → is_sent e ≡ true → IsSome (get nat_cmp a.tree.ports e.0) → has_sent_at e.0
    sent_there e chosen found = subst (λ o. IsSome (message_in o)) (sym (get-each sends e.0 a.tree.ports)) (by (get nat_cmp a.tree.ports e.0) found)
      where
        by : (o : Option TreePort) → IsSome o → IsSome (message_in (option_map (λ x. sends (e.0, x)) o))
        by None h = absurd (cc)
        by (Some x) h =
            let parts = and_parts (has nat_cmp ps e.0) (goes_out a.tree now e) chosen in
            let young = (and_parts (not (is_held now e.1)) (nat_lt (age_at now (root_kept a.tree)) (times a.tree).max) parts.1).1 in
            message-last (sends (e.0, x))
            ∙ ap (λ b. is_some (cond b (transmitted a.tree now (e.0, x)) x).last) parts.0
            ∙ has_sent a.tree now e.0 x young

    sent_all : All has_sent_at (numbers (filter is_sent a.tree.ports))
    sent_all =
        All-map has_sent_at (λ (e : ℕ × TreePort). e.0) (filter is_sent a.tree.ports)
        (λ k d low.
        sent_there (get_or (filter is_sent a.tree.ports) k d) (filter_passes is_sent a.tree.ports k d low)
        (All-filter is_sent (λ (e : ℕ × TreePort). IsSome (get nat_cmp a.tree.ports e.0)) a.tree.ports (are-found a.tree.ports) k d low))

    sound-transmit : IsSound t a → IsSound t (transmit ps now a)
    unfolding transmit
    sound-transmit s =
        let before = sound-each sends
        (λ e. cond_both (has nat_cmp ps e.0) (transmitted a.tree now e) e.1 (IsOnward e.1) (λ _. onward_transmitted a.tree now e) (λ _. stays e.1)) a s in
        record {
          own = before.own;
          states = before.states;
          sent = All-union has_sent_at (numbers (filter is_sent a.tree.ports)) a.config before.sent sent_all;
          ports = before.ports;
        }

  sound-generate : (a : Acted) → IsSound t a → IsSound t (generate now a)
  sound-generate a s = sound-transmit (designated_ports a.tree) a s

  sound-sends_put_off : (a : Acted) → IsSound t a → IsSound t (sends_put_off now a)
  unfolding drops_put_off
  sound-sends_put_off a s =
      sound-transmit _ _
      (sound-each (λ e. cond (is_put_off now e.1 && not (is_designated a.tree e)) (record e.1 { put_off = false; owed = false }) e.1)
      (λ e. cond_both (is_put_off now e.1 && not (is_designated a.tree e)) (record e.1 { put_off = false; owed = false }) e.1 (IsOnward e.1) (λ _. record { state = λ h. h; last = λ h. h })
      (λ _. stays e.1)) a s)

  -- Topology changes

  sound-detected_at : (o : Option ℕ) (a : Acted) → IsSound t a → IsSound t (detected_at now o a)
  sound-detected_at None a s = record { own = s.own; states = s.states; sent = s.sent; ports = s.ports }
  sound-detected_at (Some p) a s = record { own = s.own; states = s.states; sent = s.sent; ports = s.ports }

  sound-notify : (o : Option ℕ) (a : Acted) → IsSound t a → IsSound t (notify now o a)
  sound-notify None a s = s
  sound-notify (Some p) a s = record { own = s.own; states = s.states; sent = s.sent; ports = s.ports }

  sound-detected_if : (b : Bool) (a : Acted) → IsSound t a → IsSound t (detected_if b now a)
  sound-detected_if b a s = cond_both b (detected now a) a (IsSound t) (λ _. sound-detected_at (root_of a.tree).port a s) (λ _. s)

  -- Roles and states

  sound-roles : (u : Tree) → IsSound t (quiet u) → IsSound t (quiet (roles u))
  unfolding roles
  sound-roles u s =
      sound-each (λ e. without_kept (is_designated u e) e.1)
      (λ e. cond_both (is_designated u e) (record e.1 { kept = None }) e.1 (IsOnward e.1) (λ _. record { state = λ h. h; last = λ h. h }) (λ _. stays e.1)) (quiet u) s

  onward_enters : (state : ℕ) (x : TreePort) → state ≤ 4 → IsOnward x (enters state now x)
  onward_enters state x low = record { state = λ _. low; last = λ h. h }

  sound-states_follow : (u : Tree) → IsSound t (quiet u) → IsSound t (quiet (states_follow now u))
  unfolding states_follow
  sound-states_follow u s =
      sound-each (λ e. by_role (is_active u e) now e.1)
      (λ e. cond_both (is_active u e) (cond (e.1.state == blocking) (enters listening now e.1) e.1) (cond (e.1.state == blocking) e.1 (enters blocking now e.1)) (IsOnward e.1)
      (λ _. cond_both (e.1.state == blocking) (enters listening now e.1) e.1 (IsOnward e.1) (λ _. onward_enters listening e.1 (omega arith)) (λ _. stays e.1))
      (λ _. cond_both (e.1.state == blocking) e.1 (enters blocking now e.1) (IsOnward e.1) (λ _. stays e.1) (λ _. onward_enters blocking e.1 (omega arith))))
      (quiet u) s

  low_if_due : (u : Tree) (x : TreePort) → is_due u now x ≡ true → x.state + 1 ≤ 4
  low_if_due u x due = low (and_parts (x.state == listening || x.state == learning) _ due).0
    where
      low : (x.state == listening || x.state == learning) ≡ true → x.state + 1 ≤ 4
      low h = grind (arith, nat_tests)

  sound-states_due : (a : Acted) → IsSound t a → IsSound t (states_due now a)
  unfolding states_move
  sound-states_due a s =
      sound-detected_if (is_opened_by_time now a.tree) _
      (sound-each (λ e. cond (is_due a.tree now e.1) (enters (e.1.state + 1) now e.1) e.1)
      (λ e. cond_both (is_due a.tree now e.1) (enters (e.1.state + 1) now e.1) e.1 (IsOnward e.1) (λ due. onward_enters (e.1.state + 1) e.1 (low_if_due a.tree e.1 due)) (λ _. stays e.1)) a s)

  sound-hands_over : (before u : Tree) → IsSound t (quiet u) → IsSound t (quiet (hands_over before now u))
  sound-hands_over before u s =
      cond_both (becomes_root before u) (record u { notified = None; hello = now }) (cond (stops_being_root before u) (record u { change_end = None }) u) (λ v. IsSound t (quiet v))
      (λ _. record { own = s.own; states = s.states; sent = s.sent; ports = s.ports })
      (λ _. cond_both (stops_being_root before u) (record u { change_end = None }) u (λ v. IsSound t (quiet v)) (λ _. record { own = s.own; states = s.states; sent = s.sent; ports = s.ports }) (λ _. s))

  sound-settled : (kept : Bool) (before u : Tree) → IsSound t (quiet u) → IsSound t (settled kept before now u)
  unfolding settled
  sound-settled kept before u s =
      let moved = sound-detected_if (detects kept before (roles u)) _ (sound-hands_over before _ (sound-states_follow _ (sound-roles u s))) in
      cond_both (becomes_root before _) (generate now _) _ (IsSound t) (λ _. sound-generate _ moved) (λ _. moved)

  sound-follows : (before u : Tree) → IsSound t (quiet u) → IsSound t (follows before now u)
  sound-follows before u s = cond_both u.on (settled false before now u) (quiet u) (IsSound t) (λ _. sound-settled false before u s) (λ _. s)

  -- Events

  itself-sound : IsSound t (quiet t)
  itself-sound = begins t refl (λ h. h) refl

  sound-at_port : (p : ℕ) (f : TreePort → TreePort) → ((x : TreePort) → IsOnward x (f x)) → (a : Acted) → IsSound t a
      → IsSound t (record a { tree = record a.tree { ports = at_port p f a.tree.ports } })
  sound-at_port p f onward a s =
      sound-each (λ e. cond (e.0 == p) (f e.1) e.1) (λ e. cond_both (e.0 == p) (f e.1) e.1 (IsOnward e.1) (λ _. onward e.1) (λ _. stays e.1)) a s

  sound-switched : (on : Bool) → IsSound t (switched t now on)
  sound-switched true =
      sound-generate _
      (sound-states_follow _ (sound-roles _ (begins (on_at now t) refl (λ h. known-each (λ e. restarted blocking now e.1) (λ e _. omega arith) t.ports h) (numbers-each (λ e. restarted blocking now e.1) t.ports))))
  sound-switched false =
      begins (off_at now t) refl (λ h. known-each (λ e. restarted forwarding now e.1) (λ e _. omega arith) t.ports h) (numbers-each (λ e. restarted forwarding now e.1) t.ports)

  sound-acknowledged : (flags : ℕ) (a : Acted) → IsSound t a → IsSound t (acknowledged flags a)
  sound-acknowledged flags a s =
      cond_both (flags / 128 % 2 == 1) (record a { tree = record a.tree { notified = None } }) a (IsSound t)
      (λ _. record { own = s.own; states = s.states; sent = s.sent; ports = s.ports }) (λ _. s)

  sound-config_received : (e : ℕ × TreePort) (m : ConfigMsg) → IsSound t (config_received t now e m)
  sound-config_received e m =
      cond_both (nat_le m.max m.age) (quiet t) _ (IsSound t) (λ _. itself-sound)
      (λ _. cond_both (keeps t e m) (passed_on now e.0 m (settled true t now (with_kept t now e.0 m))) _ (IsSound t) (λ _. passes)
      (λ _. cond_both (is_designated t e) (transmit (e.0 ∷ []) now (quiet t)) (quiet t) (IsSound t) (λ _. sound-transmit (e.0 ∷ []) (quiet t) itself-sound) (λ _. itself-sound)))
    where
      kept : IsSound t (settled true t now (with_kept t now e.0 m))
      kept =
          sound-settled true t _
          (sound-at_port e.0 (λ x. record x { kept = Some (record { message = m; moment = now }) }) (λ x. record { state = λ h. h; last = λ h. h }) (quiet t) itself-sound)

      passes : IsSound t (passed_on now e.0 m (settled true t now (with_kept t now e.0 m)))
      passes =
          cond_both (is_root_port _ e.0) (acknowledged m.flags (generate now _)) _ (IsSound t) (λ _. sound-acknowledged m.flags _ (sound-generate _ kept)) (λ _. kept)

  sound-tcn_received : (e : ℕ × TreePort) → IsSound t (tcn_received t now e)
  sound-tcn_received e =
      cond_both (is_designated t e) (transmit (e.0 ∷ []) now (with_owed e.0 (detected now (quiet t)))) (quiet t) (IsSound t)
      (λ _. sound-transmit (e.0 ∷ []) _
      (sound-at_port e.0 (λ x. record x { owed = true }) (λ x. record { state = λ h. h; last = λ h. h }) (detected now (quiet t))
      (sound-detected_at (root_of t).port (quiet t) itself-sound)))
      (λ _. itself-sound)

  sound-received : (p : ℕ) (m : BpduMsg) → IsSound t (received t now p m)
  sound-received p m = by (port_at t p) m
    where
      by : (o : Option TreePort) (m : BpduMsg) → IsSound t (option_map_or (λ x. received_at t now (p, x) m) o (quiet t))
      by None m = itself-sound
      by (Some x) (Config flags root cost bridge port age max hello delay) = sound-config_received (p, x) _
      by (Some x) Tcn = sound-tcn_received (p, x)

  sound-change_due : (a : Acted) → IsSound t a → IsSound t (change_due now a)
  sound-change_due a s =
      cond_both (option_map_or (λ m. nat_le m now) a.tree.change_end false) (record a.tree { change_end = None }) a.tree (λ u. IsSound t (record a { tree = u }))
      (λ _. record { own = s.own; states = s.states; sent = s.sent; ports = s.ports }) (λ _. s)

  sound-tcn_due : (a : Acted) → IsSound t a → IsSound t (tcn_due now a)
  sound-tcn_due a s =
      cond_both (is_tcn_due now a.tree) (notify now (root_of a.tree).port a) a (IsSound t) (λ _. sound-notify (root_of a.tree).port a s) (λ _. s)

  sound-hello_due : (a : Acted) → IsSound t a → IsSound t (hello_due now a)
  sound-hello_due a s =
      cond_both (is_root a.tree && is_hello_due now a.tree) (generate now (record a { tree = record a.tree { hello = now } })) a (IsSound t)
      (λ _. sound-generate _ (record { own = s.own; states = s.states; sent = s.sent; ports = s.ports })) (λ _. s)

  sound-forgets : IsSound t (quiet (forgets now t))
  unfolding forgets
  sound-forgets =
      sound-each (λ e. cond (option_map_or (is_aged_out now) e.1.kept false) (record e.1 { kept = None }) e.1)
      (λ e. cond_both (option_map_or (is_aged_out now) e.1.kept false) (record e.1 { kept = None }) e.1 (IsOnward e.1) (λ _. record { state = λ h. h; last = λ h. h }) (λ _. stays e.1))
      (quiet t) itself-sound

  sound-moment : IsSound t (moment t now)
  sound-moment =
      let moved = states_due now (settled false t now (forgets now t)) in
      cond_both t.on (sends_put_off now _) (quiet t) (IsSound t)
      (λ _. sound-sends_put_off _ (sound-hello_due _ (sound-tcn_due (change_due now moved) (sound-change_due moved (sound-states_due _ (sound-settled false t _ sound-forgets))))))
      (λ _. itself-sound)

-- the tree with the port that the event brings, or without the one that it takes
abbrev pub at_first : Tree → ℕ → TreeEvent → Tree
at_first t now (Up p) = record t { ports = put nat_cmp t.ports p (fresh (cond t.on blocking forwarding) now) }
at_first t now (Down p) = record t { ports = without nat_cmp t.ports p }
at_first t now event = t

sound : (t : Tree) (now : ℕ) (event : TreeEvent) → IsSound (at_first t now event) (tree_step t now event)
unfolding tree_step
sound t now (Switch on) = sound-switched t now on
sound t now (Up p) = let u = at_first t now (Up p) in sound-follows u now t u (itself-sound u now)
sound t now (Down p) = let u = at_first t now (Down p) in sound-follows u now t u (itself-sound u now)
sound t now (Message p m) = sound-received t now p m
sound t now Moment = sound-moment t now
sound t now (Cost p n) = sound-follows t now t _ (sound-at_port t now p (λ x. record x { cost = n }) (λ x. record { state = λ h. h; last = λ h. h }) (quiet t) (itself-sound t now))
sound t now (PortPriority p n) = sound-follows t now t _ (sound-at_port t now p (λ x. record x { priority = n }) (λ x. record { state = λ h. h; last = λ h. h }) (quiet t) (itself-sound t now))
sound t now (Priority n) = sound-follows t now t _ (begins t now (record t { priority = n }) refl (λ h. h) refl)

first-own : (t : Tree) (now : ℕ) (event : TreeEvent) → (at_first t now event).own ≡ t.own
first-own t now (Up p) = refl
first-own t now event = refl

first-known : (t : Tree) (now : ℕ) (event : TreeEvent) → knows_states t ≡ true → knows_states (at_first t now event) ≡ true
first-known t now (Up p) h =
    known-put p (fresh (cond t.on blocking forwarding) now) (cond_both t.on blocking forwarding (λ n. n ≤ 4) (λ _. omega arith) (λ _. omega arith)) t.ports h
first-known t now (Down p) h = known-filter (λ e. not (eq_by_cmp nat_cmp p e.0)) t.ports h
first-known t now event h = h

-- but for the one that comes or goes the ports stay
pub ports-kept : (t : Tree) (now : ℕ) (event : TreeEvent) → numbers (tree_step t now event).tree.ports ≡ numbers (at_first t now event).ports
ports-kept t now event = (sound t now event).ports

pub known-first : (own : ℕ) → knows_states (first_tree own) ≡ true
known-first own = refl

pub known-kept : (t : Tree) (now : ℕ) (event : TreeEvent) → knows_states t ≡ true → knows_states (tree_step t now event).tree ≡ true
known-kept t now event known = (sound t now event).states (first-known t now event known)

pub messages-sent : (t : Tree) (now : ℕ) (event : TreeEvent) → HaveSent (tree_step t now event).tree (tree_step t now event).config
messages-sent t now event = (sound t now event).sent

pub own-kept : (t : Tree) (now : ℕ) (event : TreeEvent) → (tree_step t now event).tree.own ≡ t.own
own-kept t now event = (sound t now event).own ∙ first-own t now event
