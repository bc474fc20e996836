-- What steps that have lines change: VLANs and ports that there are, and entries of stations, of which just the host's own are local.
use Rattle.std.proofs.Common.{◌≡◌, ℕ, ◌+◌, ◌^◌, ◌==◌, nat_lt, nat_le, Bool, true, false, not, cond, ◌&&◌, ◌||◌, Some, None, Option, Result, Ok, Err, IfOk, IfSome, Less, Equal, Greater, List}
use Rattle.std.proofs.Common.{[], ◌∷◌, ◌++◌, map, min, refl, sym, ap, ◌∙◌, arith}
use Rattle.std.specs.Prelude.{if◌then◌else◌}
use Rattle.std.specs.Cmp.{first_so, second_so, unsigned_tied}
use Rattle.std.specs.List.{filter, fold, list_all}
use Rattle.std.specs.Option.{is_none, is_some, option_eq, option_map, option_map_or}
use Rattle.std.specs.Ordering.{nat_cmp, eq_by_cmp, match_ordering}
use Rattle.std.specs.FinMap.Entries.{find-put, find-where_key}
use Rattle.std.proofs.lemmas.Bool.{and_from, eqb-true, leb-true, ne_eqb}
use Rattle.std.proofs.lemmas.List.Folds.{list_all-append}
use Rattle.std.proofs.lemmas.Option.{same_Some}
use Rattle.br_model.specs.declared.change.Change.{Change}
use Rattle.br_model.specs.declared.change.Change.TheVariants.{PortUp, PortDown, SetFlags, SetState, VlanAdd, VlanDel, GroupJoin, GroupPart, Router, Querier, Snoop, Stp, AddrPut, AddrDel}
use Rattle.br_model.specs.declared.change.Kind.{Kind}
use Rattle.br_model.specs.declared.change.Kind.TheVariants.{Local, Static, Learned, Extern}
use Rattle.br_model.specs.declared.frame.Act.{Act}
use Rattle.br_model.specs.declared.frame.Act.TheVariants.{Join, Part, Nothing}
use Rattle.br_model.specs.declared.frame.Head.{Head}
use Rattle.br_model.specs.declared.frame.McastMsg.{McastMsg}
use Rattle.br_model.specs.declared.frame.McastMsg.TheVariants.{Plain, Payload, Query, Report, Leave, Records, Unrecognized}
use Rattle.br_model.specs.declared.group.Group.{Group}
use Rattle.br_model.specs.declared.steps.Command.{Command}
use Rattle.br_model.specs.declared.steps.Command.TheVariants as commands
use Rattle.br_model.specs.declared.steps.Event.{Event}
use Rattle.br_model.specs.declared.steps.Event.TheVariants as events
use Rattle.br_model.specs.declared.steps.Refusal.{Refusal}
use Rattle.br_model.specs.declared.steps.Refusal.TheVariants.{PortIsUp, PortNotUp, NotMember, Exists, Absent, FdbFull, GroupsFull, HistoryFull, Backward, NotAGroup}
use Rattle.br_model.specs.declared.steps.Step.TheVariants.{Cmd}
use Rattle.br_model.specs.declared.tree.TreeEvent.{TreeEvent}
use Rattle.br_model.specs.declared.tree.TreeEvent.TheVariants as tree_events
use Rattle.br_model.specs.Control.Ageing.{expired, forgets, forgotten}
use Rattle.br_model.specs.Control.Commands.{command, sets, tells}
use Rattle.br_model.specs.Control.Commands.Groups.{group_of, is_a_group, is_joined, is_snooping}
use Rattle.br_model.specs.Control.Commands.Ports.{comes_up, drops_addresses, drops_groups, drops_router, drops_vlans, flags_of, flags_with, goes_down, is_down, sets_flags}
use Rattle.br_model.specs.Control.Commands.SpanningTree.{is_switched}
use Rattle.br_model.specs.Control.Commands.Vlans.{leaves_vlan}
use Rattle.br_model.specs.Control.Control.{Control, ends_with, keeps_up, renewed}
use Rattle.br_model.specs.Control.Course.{Course, from, makes, makes_all}
use Rattle.br_model.specs.Control.Ends.{due, due_members, endings, leave_time, member_time, queries, routes}
use Rattle.br_model.specs.Control.Learning.{Address, is_learned_at, is_news, is_renewed, is_reserved, learning_flag, may_teach, taught, teach, teach_in, reported}
use Rattle.br_model.specs.Control.Reaction.{Reaction, ages, at_moment, commanded, ends, happens, has_room as history_has_room, in_room, learns, learns_of, passes_to, react, renews}
use Rattle.br_model.specs.Control.Snooping.{acted, end_at, fastleave, joins, leaves, leaves_from, querier_heard, router_heard, said, snoops, snoops_in, until}
use Rattle.br_model.specs.Control.TreeReaction.{heard, states, tells_tree}
use Rattle.br_model.specs.Data.Maps.{pair_cmp, get, has, joined}
use Rattle.br_model.specs.Data.Numbers.{is_multicast}
use Rattle.br_model.specs.Forward.Admission.{admit, has_valid_source, is_in_state, is_up, learning, forwarding, member, vlan_of}
use Rattle.br_model.specs.Forward.Targets.{has_flag, knows_querier}
use Rattle.br_model.specs.Table.DomainPorts.{is_in_domain}
use Rattle.br_model.specs.Table.Domains.{host, last_port, software}
use Rattle.br_model.specs.Table.GroupPairs.{has_room}
use Rattle.br_model.specs.Table.Groups.{Membership, is_link_local, membership_cmp}
use Rattle.br_model.specs.Table.Limits.{fits}
use Rattle.br_model.specs.Table.Setup.{Setup}
use Rattle.br_model.specs.Table.Table.{Table, apply, default_vlan, ip_version, start, table}
use Rattle.br_model.specs.Text.CommandForms.{fdb_add_local}
use Rattle.br_model.specs.Text.Declarations.{are_declared}
use Rattle.br_model.specs.Text.Forms.{fills}
use Rattle.br_model.specs.Text.LineForms.{behind_cmd}
use Rattle.br_model.specs.Text.Operands.{is_device, is_station}
use Rattle.br_model.specs.Text.Roster.{Entry, has_number}
use Rattle.br_model.specs.Text.ScenarioText.{fits_in, has_line}
use Rattle.br_model.specs.Tree.Step.{moved, sent, tree_step}
use Rattle.br_model.specs.Tree.Tree.{state_at}
use Rattle.br_model.specs.Wire.Messages.{message}
use Rattle.br_model.specs.Wire.Records.{acts}
use Rattle.br_model.proofs.Data.PairKeys.{pair_total, same_cmp}
use Rattle.br_model.proofs.Control.ReactionSteps.{IsKept}
use Rattle.br_model.proofs.Text.WrittenNames.{fits as fits-beside}
use Rattle.neigh_netlink.specs.Messages.{fits_port, is_local}
use Rattle.neigh_netlink.specs.Neighbours.{Key}
use Rattle.neigh_netlink.specs.Offloaded.{is_of_key}
use Rattle.neigh_netlink.proofs.LastUpdates.{get-apply, puts}
use Rattle.neigh_netlink.proofs.Mapped.{same-key}

abbrev pub is_vid : ℕ → Bool
is_vid v = nat_le 1 v && nat_le v 4094

-- a port that isn't the host's
abbrev pub is_port : ℕ → Bool
is_port p = not (p == host) && nat_le p last_port

abbrev pub is_entry : Key → ℕ × Kind → Bool
is_entry k e = is_vid k.0 && (nat_le e.0 last_port && (is_station k.1 && fits_port e.1 e.0))

abbrev pub is_fine : Change → Bool
is_fine (PortUp port) = is_port port
is_fine (VlanAdd port vid untagged pvid) = is_vid vid
is_fine (AddrPut vid mac port kind) = is_entry (vid, mac) (port, kind)
is_fine c = true

abbrev pub AllFine : List Change → Type 0
AllFine cs = list_all is_fine cs ≡ true

-- Lists.

pub filter-all : {X : Type 0} (p q : X → Bool) (xs : List X) → list_all p xs ≡ true → list_all p (filter q xs) ≡ true
filter-all p q [] h = refl
filter-all p q (x ∷ xs) h =
    let rest = filter-all p q xs (second_so (p x) _ h) in
    elim (q x) as (λ b. list_all p (cond b (x ∷ filter q xs) (filter q xs)) ≡ true) [ true ↦ and_from _ _ (first_so (p x) _ h) rest | false ↦ rest ]

map-fine : {X : Type 0} (f : X → Change) (xs : List X) → ((x : X) → is_fine (f x) ≡ true) → AllFine (map f xs)
map-fine f [] h = refl
map-fine f (x ∷ xs) h = and_from _ _ (h x) (map-fine f xs h)

pub both-fine : (xs ys : List Change) → AllFine xs → AllFine ys → AllFine (xs ++ ys)
both-fine xs ys h k = list_all-append is_fine xs ys ∙ and_from _ _ h k

joined-ports : (s : List ℕ) (p : ℕ) → list_all is_port s ≡ true → is_port p ≡ true → list_all is_port (joined nat_cmp s p) ≡ true
joined-ports [] p all h = and_from _ _ h refl
joined-ports (x ∷ s) p all h =
    elim (nat_cmp p x) as (λ r. list_all is_port (match_ordering r (p ∷ x ∷ s) (x ∷ s) (x ∷ joined nat_cmp s p)) ≡ true) [
      | Less ↦ and_from _ _ h all
      | Equal ↦ all
      | Greater ↦ and_from _ _ (first_so (is_port x) _ all) (joined-ports s p (second_so (is_port x) _ all) h)
    ]

port-in : (s : List ℕ) (p : ℕ) → list_all is_port s ≡ true → has nat_cmp s p ≡ true → is_port p ≡ true
port-in [] p all there = absurd (cc)
port-in (x ∷ s) p all there = by (eq_by_cmp nat_cmp p x) refl there (port-in s p (second_so (is_port x) _ all))
  where
    by : (b : Bool) → eq_by_cmp nat_cmp p x ≡ b → (b || has nat_cmp s p) ≡ true → (has nat_cmp s p ≡ true → is_port p ≡ true) → is_port p ≡ true
    by true same h later = ap (λ n. is_port n) (eqb-true p x (sym (unsigned_tied p x) ∙ same)) ∙ first_so (is_port x) _ all
    by false other h later = later h

-- Tables.

pub record IsFine (t : Table) : Type 0 where
  pub up : list_all is_port t.up ≡ true
  pub vlans : (v p : ℕ) → member t p v ≡ true → is_vid v ≡ true
  pub addr : (k : Key) (e : ℕ × Kind) → get pair_cmp t.addr k ≡ Some e → is_entry k e ≡ true

first-vlan : (v p : ℕ) → member start p v ≡ true → is_vid v ≡ true
first-vlan v p there = by (eq_by_cmp pair_cmp (v, p) (default_vlan, host)) refl there
  where
    by : (b : Bool) → eq_by_cmp pair_cmp (v, p) (default_vlan, host) ≡ b → is_some (cond b (Some true) None) ≡ true → is_vid v ≡ true
    by true same h = ap (λ (k : Key). is_vid k.0) (same-key (v, p) (default_vlan, host) same)
    by false other h = absurd (cc)

first-entry : (k : Key) (e : ℕ × Kind) → get pair_cmp start.addr k ≡ Some e → is_entry k e ≡ true
first-entry k e there = absurd (cc)

pub start-fine : IsFine start
start-fine = record { up = refl; vlans = first-vlan; addr = first-entry }

apply-up : (t : Table) (c : Change) → list_all is_port t.up ≡ true → is_fine c ≡ true → list_all is_port (apply t c).up ≡ true
apply-up t (PortUp p) all h = joined-ports t.up p all h
apply-up t (PortDown p) all h = filter-all is_port (λ q. not (eq_by_cmp nat_cmp p q)) t.up all
apply-up t c all h = all

apply-vlans : (t : Table) (c : Change) → ((v p : ℕ) → member t p v ≡ true → is_vid v ≡ true) → is_fine c ≡ true → (v p : ℕ) → member (apply t c) p v ≡ true → is_vid v ≡ true
apply-vlans t (VlanAdd q w untagged pvid) all h v p there =
    by (eq_by_cmp pair_cmp (v, p) (w, q)) refl (ap is_some (sym (find-put pair_cmp pair_total (v, p) (w, q) untagged t.vlans)) ∙ there)
  where
    by : (b : Bool) → eq_by_cmp pair_cmp (v, p) (w, q) ≡ b → is_some (cond b (Some untagged) (get pair_cmp t.vlans (v, p))) ≡ true → is_vid v ≡ true
    by true same is = ap (λ (k : Key). is_vid k.0) (same-key (v, p) (w, q) same) ∙ h
    by false other is = all v p is
apply-vlans t (VlanDel q w) all h v p there =
    by (not (eq_by_cmp pair_cmp (w, q) (v, p)))
    (ap is_some (sym (find-where_key pair_cmp (λ r. not (eq_by_cmp pair_cmp (w, q) r)) (v, p)
    (λ x tie. ap (λ r. not (eq_by_cmp pair_cmp (w, q) r)) (sym (same_cmp (v, p) x tie))) t.vlans)) ∙ there)
  where
    by : (b : Bool) → is_some (cond b (get pair_cmp t.vlans (v, p)) None) ≡ true → is_vid v ≡ true
    by true is = all v p is
    by false is = absurd (cc)
apply-vlans t c all h v p there = all v p there

put-fine : (c : Change) (k : Key) (e : ℕ × Kind) → is_of_key k c ≡ true → puts c ≡ Some e → is_fine c ≡ true → is_entry k e ≡ true
put-fine (AddrPut v a p kind) k e its is h =
    ap (λ (q : Key). is_entry q e) (same-key k (v, a) its) ∙ ap (λ (x : ℕ × Kind). is_entry (v, a) x) (sym (same_Some (p, kind) e is)) ∙ h
put-fine (AddrDel v a) k e its is h = absurd (cc)
put-fine c k e its is h = absurd (cc)

apply-addr : (t : Table) (c : Change) → ((k : Key) (e : ℕ × Kind) → get pair_cmp t.addr k ≡ Some e → is_entry k e ≡ true) → is_fine c ≡ true
    → (k : Key) (e : ℕ × Kind) → get pair_cmp (apply t c).addr k ≡ Some e → is_entry k e ≡ true
apply-addr t c all h k e there = by (is_of_key k c) refl (sym (get-apply t c k) ∙ there)
  where
    by : (b : Bool) → is_of_key k c ≡ b → cond b (puts c) (get pair_cmp t.addr k) ≡ Some e → is_entry k e ≡ true
    by true its is = put-fine c k e its is h
    by false other is = all k e is

pub apply-fine : (t : Table) (c : Change) → IsFine t → is_fine c ≡ true → IsFine (apply t c)
apply-fine t c f h = record { up = apply-up t c f.up h; vlans = apply-vlans t c f.vlans h; addr = apply-addr t c f.addr h }

pub all-apply : (t : Table) (cs : List Change) → IsFine t → AllFine cs → IsFine (fold apply t cs)
all-apply t [] f h = f
all-apply t (c ∷ cs) f h = all-apply (apply t c) cs (apply-fine t c f (first_so (is_fine c) _ h)) (second_so (is_fine c) _ h)

-- A reaction on its way.

abbrev On : Course → Type 0
On r = IsFine r.table × AllFine r.changes

makes-fine : (r : Course) (c : Change) → is_fine c ≡ true → On r → On (makes r c)
makes-fine r c h on =
    elim (fits r.table c) as (λ b. On (cond b (record r { table = apply r.table c; control = keeps_up r.control c; changes = r.changes ++ c ∷ [] }) r)) [
      | true ↦ (apply-fine r.table c on.0 h, both-fine r.changes (c ∷ []) on.1 (and_from _ _ h refl))
      | false ↦ on
    ]

makes_all-fine : (r : Course) (cs : List Change) → AllFine cs → On r → On (makes_all r cs)
makes_all-fine r [] h on = on
makes_all-fine r (c ∷ cs) h on = makes_all-fine (makes r c) cs (second_so (is_fine c) _ h) (makes-fine r c (first_so (is_fine c) _ h) on)

told-fine : (r : Course) (o : Option TreeEvent) → On r → On (tells_tree o r)
told-fine r None on = on
told-fine r (Some event) on =
    let a = tree_step r.control.tree r.control.now event in
    makes_all-fine (record r { control = record r.control { tree = a.tree }; messages = r.messages ++ sent a }) (states r.control.tree a.tree)
    (map-fine (λ (port : ℕ). SetState port (state_at a.tree port)) (moved r.control.tree a.tree) (λ port. refl)) on

-- Commands.

abbrev Answers : Result (List Change) Refusal → Type 0
Answers r = IfOk r AllFine

unless : (b : Bool) (why : Refusal) (x : Result (List Change) Refusal) → Answers x → Answers (if b then Err why else x)
unless true why x h = tt
unless false why x h = h

addresses-fine : (t : Table) (among : ℕ → Bool) (port : ℕ) → AllFine (drops_addresses t among port)
addresses-fine t among port = map-fine (λ (e : Key × (ℕ × Kind)). AddrDel e.0.0 e.0.1) (filter (λ e. e.1.0 == port && among e.0.0) t.addr) (λ e. refl)

groups-fine : (t : Table) (among : ℕ → Bool) (port : ℕ) → AllFine (drops_groups t among port)
groups-fine t among port = map-fine (λ (m : Membership). GroupPart port m.0 m.1) (filter (λ m. m.2 == port && among m.0) t.groups) (λ m. refl)

down-fine : (t : Table) (port : ℕ) → AllFine (goes_down t port)
down-fine t port =
    let router : AllFine (drops_router t port) =
    elim (has nat_cmp t.routers port) as (λ b. AllFine (cond b (Router port false ∷ []) [])) [ true ↦ refl | false ↦ refl ] in
    let vlans : AllFine (drops_vlans t port) = map-fine (λ (e : Key × Bool). VlanDel port e.0.0) (filter (λ e. e.0.1 == port) t.vlans) (λ e. refl) in
    both-fine (drops_addresses t (λ vid. true) port) (drops_groups t (λ vid. true) port ++ (drops_vlans t port ++ (drops_router t port ++ PortDown port ∷ [])))
    (addresses-fine t (λ vid. true) port)
    (both-fine (drops_groups t (λ vid. true) port) (drops_vlans t port ++ (drops_router t port ++ PortDown port ∷ [])) (groups-fine t (λ vid. true) port)
    (both-fine (drops_vlans t port) (drops_router t port ++ PortDown port ∷ []) vlans (both-fine (drops_router t port) (PortDown port ∷ []) router refl)))

leaves-vlan-fine : (t : Table) (port vid : ℕ) → AllFine (leaves_vlan t port vid)
leaves-vlan-fine t port vid =
    both-fine (drops_addresses t (λ v. v == vid) port) (drops_groups t (λ v. v == vid) port ++ VlanDel port vid ∷ []) (addresses-fine t (λ v. v == vid) port)
    (both-fine (drops_groups t (λ v. v == vid) port) (VlanDel port vid ∷ []) (groups-fine t (λ v. v == vid) port) refl)

either-fine : (b : Bool) (xs ys : List Change) → AllFine xs → AllFine ys → AllFine (if b then xs else ys)
either-fine true xs ys h k = h
either-fine false xs ys h k = k

entry-from : (vid a port : ℕ) (kind : Kind) → is_local kind ≡ false → is_vid vid ≡ true → is_station a ≡ true → is_port port ≡ true → is_entry (vid, a) (port, kind) ≡ true
entry-from vid a port kind other v s p =
    and_from _ _ v (and_from _ _ (second_so (not (port == host)) _ p)
    (and_from _ _ s (ap (λ b. if b then port == host else not (port == host)) other ∙ first_so (not (port == host)) _ p)))

not-host : (p : ℕ) → nat_le 1 p ≡ true → not (p == host) ≡ true
not-host p low = ap not (ne_eqb p 0 (λ e. omega (arith, leb-true 1 p low, e)))

declared-port : (ports : List Entry) (port : ℕ) → are_declared ports ≡ true → has_number ports port ≡ true → is_port port ≡ true
declared-port [] port all there = absurd (cc)
declared-port (e ∷ ports) port all there = by (e.port == port) refl there (declared-port ports port (fits-beside e ports all).rest)
  where
    by : (b : Bool) → (e.port == port) ≡ b → (b || has_number ports port) ≡ true → (has_number ports port ≡ true → is_port port ≡ true) → is_port port ≡ true
    by true is h later =
        ap (λ n. is_port n) (sym (eqb-true e.port port is)) ∙ and_from _ _ (not-host e.port (fits-beside e ports all).low) (fits-beside e ports all).high
    by false is h later = later h

module _ (ports : List Entry) (all : are_declared ports ≡ true) where
  vid-of : (port vid : ℕ) (untagged pvid : Bool) → has_line ports (Cmd (commands.VlanAdd port vid untagged pvid)) ≡ true → is_vid vid ≡ true
  vid-of port vid false false h = first_so (is_vid vid) (is_device ports port && true) h
  vid-of port vid false true h = first_so (is_vid vid) (is_device ports port && true) h
  vid-of port vid true false h = first_so (is_vid vid) (is_device ports port && true) h
  vid-of port vid true true h = first_so (is_vid vid) (is_device ports port && true) h

  named-entry : (vid a port : ℕ) (kind : Kind) → is_local kind ≡ false → (is_station a && (has_number ports port && (is_vid vid && true))) ≡ true → is_entry (vid, a) (port, kind) ≡ true
  named-entry vid a port kind other h =
      let named = second_so (is_station a) (has_number ports port && (is_vid vid && true)) h in
      entry-from vid a port kind other (first_so (is_vid vid) true (second_so (has_number ports port) (is_vid vid && true) named))
      (first_so (is_station a) (has_number ports port && (is_vid vid && true)) h)
      (declared-port ports port all (first_so (has_number ports port) (is_vid vid && true) named))

  entry-of : (vid a port : ℕ) (kind : Kind) → has_line ports (Cmd (commands.FdbAdd vid a port kind)) ≡ true → is_entry (vid, a) (port, kind) ≡ true
  entry-of vid a port Local h = by (port == host) refl h
    where
      by : (b : Bool) → (port == host) ≡ b → fits_in ports (option_map behind_cmd (if b then Some (fills fdb_add_local a vid) else None)) ≡ true
          → is_entry (vid, a) (port, Local) ≡ true
      by true is g =
          and_from _ _ (first_so (is_vid vid) true (second_so (is_station a) (is_vid vid && true) g))
          (and_from _ _ (ap (λ (p : ℕ). nat_le p last_port) (eqb-true port host is)) (and_from _ _ (first_so (is_station a) (is_vid vid && true) g) is))
      by false is g = absurd (cc)
  entry-of vid a port Static h = named-entry vid a port Static refl h
  entry-of vid a port Learned h = absurd (cc)
  entry-of vid a port Extern h = named-entry vid a port Extern refl h

  command-fine : (t : Table) (c : Command) → has_line ports (Cmd c) ≡ true → Answers (command t c)
  command-fine t (commands.PortUp port) h =
      unless (is_up t port) PortIsUp (Ok (comes_up port)) (and_from _ _ (declared-port ports port all (first_so (has_number ports port) true h)) refl)
  command-fine t (commands.PortDown port) h = unless (is_down t port) PortNotUp (Ok (goes_down t port)) (down-fine t port)
  command-fine t (commands.Link port flag on) h =
      let old = flags_of t port in
      let new = flags_with on old flag in
      unless (is_down t port) PortNotUp (Ok (sets_flags port old new)) (either-fine (old == new) [] (SetFlags port new ∷ []) refl refl)
  command-fine t (commands.Cost port n) h = unless (is_down t port) PortNotUp (Ok []) refl
  command-fine t (commands.PortPriority port n) h = unless (is_down t port) PortNotUp (Ok []) refl
  command-fine t (commands.VlanAdd port vid untagged pvid) h =
      let done : Result (List Change) Refusal = Ok (VlanAdd port vid untagged pvid ∷ []) in
      unless (is_down t port) PortNotUp (if member t port vid then Err Exists else done)
      (unless (member t port vid) Exists done (and_from _ _ (vid-of port vid untagged pvid h) refl))
  command-fine t (commands.VlanDel port vid) h =
      let done : Result (List Change) Refusal = Ok (leaves_vlan t port vid) in
      unless (is_down t port) PortNotUp (if not (member t port vid) then Err Absent else done)
      (unless (not (member t port vid)) Absent done (leaves-vlan-fine t port vid))
  command-fine t (commands.FdbAdd vid mac port kind) h =
      let c = AddrPut vid mac port kind in
      let done : Result (List Change) Refusal = Ok (c ∷ []) in
      let full : Result (List Change) Refusal = if not (fits t c) then Err FdbFull else done in
      let exists : Result (List Change) Refusal = if is_some (get pair_cmp t.addr (vid, mac)) then Err Exists else full in
      unless (is_down t port) PortNotUp (if not (member t port vid) then Err NotMember else exists)
      (unless (not (member t port vid)) NotMember exists
      (unless (is_some (get pair_cmp t.addr (vid, mac))) Exists full
      (unless (not (fits t c)) FdbFull done (and_from _ _ (entry-of vid mac port kind h) refl))))
  command-fine t (commands.FdbDel vid mac) h = unless (is_none (get pair_cmp t.addr (vid, mac))) Absent (Ok (AddrDel vid mac ∷ [])) refl
  command-fine t (commands.MdbAdd port vid address) h =
      let c = GroupJoin port vid (group_of address) in
      let done : Result (List Change) Refusal = Ok (c ∷ []) in
      let full : Result (List Change) Refusal = if not (fits t c) then Err GroupsFull else done in
      let exists : Result (List Change) Refusal = if is_joined t port vid (group_of address) then Err Exists else full in
      let outside : Result (List Change) Refusal = if not (member t port vid) then Err NotMember else exists in
      unless (is_down t port) PortNotUp (if not (is_a_group address) then Err NotAGroup else outside)
      (unless (not (is_a_group address)) NotAGroup outside
      (unless (not (member t port vid)) NotMember exists
      (unless (is_joined t port vid (group_of address)) Exists full
      (unless (not (fits t c)) GroupsFull done refl))))
  command-fine t (commands.MdbDel port vid address) h =
      let done : Result (List Change) Refusal = Ok (GroupPart port vid (group_of address) ∷ []) in
      let absent : Result (List Change) Refusal = if not (is_joined t port vid (group_of address)) then Err Absent else done in
      unless (is_down t port) PortNotUp (if not (is_a_group address) then Err NotAGroup else absent)
      (unless (not (is_a_group address)) NotAGroup absent (unless (not (is_joined t port vid (group_of address))) Absent done refl))
  command-fine t (commands.Stp on) h = either-fine (is_switched t on) [] (Stp on ∷ []) refl refl
  command-fine t (commands.Priority n) h = refl
  command-fine t (commands.Ageing seconds) h = refl
  command-fine t (commands.Snooping on) h = either-fine (is_snooping t on) [] (Snoop on ∷ []) refl refl

-- What a frame teaches.

neither : (a b : Bool) → not a ≡ true → not b ≡ true → not (a || b) ≡ true
neither true b h k = absurd (cc)
neither false b h k = k

-- a station's address, at a port that may teach it
abbrev pub Teaches : Table → ℕ → Address → Type 0
Teaches t port key = (is_station key.1 ≡ true) × (may_teach t port key.0 ≡ true)

module _ (t : Table) (port : ℕ) (head : Head) (small : nat_lt head.src (2 ^ 48) ≡ true) where
  source-is : has_valid_source head ≡ true → is_station head.src ≡ true
  source-is valid =
      and_from _ _ small (neither (is_multicast head.src) (head.src == 0) (first_so (not (is_multicast head.src)) _ valid) (second_so (not (is_multicast head.src)) _ valid))

  teach-in : (o : Option ℕ) → is_station head.src ≡ true → IfSome (teach_in t port o head.src) (Teaches t port)
  teach-in None s = tt
  teach-in (Some vid) s = by (may_teach t port vid) refl
    where
      by : (b : Bool) → may_teach t port vid ≡ b → IfSome (if b then Some (vid, head.src) else None) (Teaches t port)
      by true may = (s, may)
      by false may = tt

  pub teach-so : IfSome (teach t port head) (Teaches t port)
  teach-so = by (not (is_reserved t head) && has_valid_source head) refl
    where
      by : (b : Bool) → (not (is_reserved t head) && has_valid_source head) ≡ b → IfSome (if b then teach_in t port (vlan_of t port head) head.src else None) (Teaches t port)
      by true is = teach-in (vlan_of t port head) (source-is (second_so (not (is_reserved t head)) _ is))
      by false is = tt

is-up : (a x y : Bool) → ((a && x) || (a && y)) ≡ true → a ≡ true
is-up true x y h = refl
is-up false x y h = h

taught-entry : (t : Table) (port : ℕ) (key : Address) (kind : Kind) → is_local kind ≡ false → IsFine t → Teaches t port key → is_entry (key.0, key.1) (port, kind) ≡ true
taught-entry t port key kind other f teaches =
    let in_state : Bool = is_in_state t port learning || is_in_state t port forwarding in
    let flagged = second_so in_state (has_flag t port learning_flag && member t port key.0) teaches.1 in
    let at : ℕ → Bool = λ s. option_eq (λ x y. x == y) (get nat_cmp t.state port) (Some s) in
    let up = is-up (is_up t port) (at learning) (at forwarding) (first_so in_state (has_flag t port learning_flag && member t port key.0) teaches.1) in
    entry-from key.0 key.1 port kind other (f.vlans key.0 port (second_so (has_flag t port learning_flag) (member t port key.0) flagged)) teaches.0 (port-in t.up port f.up up)

either : (b : Bool) (x y : Course) → On x → On y → On (if b then x else y)
either true x y h k = h
either false x y h k = k

learns-fine : (port : ℕ) (o : Option Address) (r : Course) → IfSome o (Teaches r.table port) → On r → On (learns port o r)
learns-fine port None r teaches on = on
learns-fine port (Some key) r teaches on =
    makes_all-fine (renews key port r) (taught r.table key port)
    (either-fine (is_news r.table key port) (AddrPut key.0 key.1 port Learned ∷ []) [] (and_from _ _ (taught-entry r.table port key Learned refl on.0 teaches) refl) refl)
    (either (is_renewed r.table key port) (record r { control = renewed r.control key }) r on on)

learns_of-fine : (setup : Setup) (port : ℕ) (head : Head) (r : Course) → nat_lt head.src (2 ^ 48) ≡ true → On r → On (learns_of setup port head r)
learns_of-fine setup port head r small on =
    either (is_in_domain setup.domains software port) (learns port (teach r.table port head) r) r
    (learns-fine port (teach r.table port head) r (teach-so r.table port head small) on) on

reported-fine : (t : Table) (key : Address) (port : ℕ) → IsFine t → is_station key.1 ≡ true → AllFine (reported t key port)
reported-fine t key port f station = by (may_teach t port key.0) (is_news t key port || is_learned_at t key port) refl
  where
    by : (b c : Bool) → may_teach t port key.0 ≡ b → AllFine (if b && c then AddrPut key.0 key.1 port Extern ∷ [] else [])
    by true true may = and_from _ _ (taught-entry t port key Extern refl f (station, may)) refl
    by true false may = refl
    by false c may = refl

-- Snooping, which changes no entry.

at-end : (o : Option ℕ) (f : ℕ → Course) (r : Course) → ((end : ℕ) → On (f end)) → On r → On (option_map_or f o r)
at-end None f r h on = on
at-end (Some end) f r h on = h end

joins-fine : (port vid : ℕ) (group : Group) (r : Course) → On r → On (joins port vid group r)
joins-fine port vid group r on =
    let m : Membership = (vid, group, port) in
    let end : ℕ = r.control.now + member_time in
    let longer : Course = option_map_or (λ old. until end m r) (end_at r m) r in
    let made : Course = until end m (makes r (GroupJoin port vid group)) in
    let either-way : Course = if has membership_cmp r.table.groups m then longer else made in
    either (is_link_local group) r (if not (has_room r.table.groups vid group) then r else either-way) on
    (either (not (has_room r.table.groups vid group)) r either-way on
    (either (has membership_cmp r.table.groups m) longer made (at-end (end_at r m) (λ old. until end m r) r (λ old. on) on) (makes-fine r (GroupJoin port vid group) refl on)))

leaves-fine : (port vid : ℕ) (group : Group) (r : Course) → On r → On (leaves port vid group r)
leaves-fine port vid group r on =
    at-end (end_at r (vid, group, port)) (λ end. leaves_from port vid group end r) r
    (λ end. either (has_flag r.table port fastleave) (makes r (GroupPart port vid group)) (until (min end (r.control.now + leave_time)) (vid, group, port) r)
    (makes-fine r (GroupPart port vid group) refl on) on)
    on

acted-fine : (port vid : ℕ) (r : Course) (a : Act) → On r → On (acted port vid r a)
acted-fine port vid r (Join group) on = joins-fine port vid group r on
acted-fine port vid r (Part group) on = leaves-fine port vid group r on
acted-fine port vid r Nothing on = on

all-acted : (port vid : ℕ) (r : Course) (xs : List Act) → On r → On (fold (acted port vid) r xs)
all-acted port vid r [] on = on
all-acted port vid r (a ∷ later) on = all-acted port vid (acted port vid r a) later (acted-fine port vid r a on)

querier-fine : (six : Bool) (r : Course) → On r → On (querier_heard six r)
querier-fine six r on =
    either (knows_querier r.table six) (record r { control = ends_with r.control (queries true r.control.ends r.control.now six) }) (makes r (Querier six true))
    on (makes-fine r (Querier six true) refl on)

router-fine : (port : ℕ) (r : Course) → On r → On (router_heard port r)
router-fine port r on =
    either (has nat_cmp r.table.routers port) (record r { control = ends_with r.control (routes true r.control.ends r.control.now port) }) (makes r (Router port true))
    on (makes-fine r (Router port true) refl on)

said-fine : (port vid : ℕ) (bytes : List ℕ) (m : McastMsg) (r : Course) → On r → On (said port vid bytes m r)
said-fine port vid bytes Plain r on = on
said-fine port vid bytes (Payload group) r on = on
said-fine port vid bytes (Query six counted) r on =
    either counted (router_heard port (querier_heard six r)) r (router-fine port (querier_heard six r) (querier-fine six r on)) on
said-fine port vid bytes (Report group) r on = joins-fine port vid group r on
said-fine port vid bytes (Leave group) r on = leaves-fine port vid group r on
said-fine port vid bytes (Records six first count) r on = all-acted port vid r (acts bytes six first count) on
said-fine port vid bytes Unrecognized r on = on

snoops-fine : (port : ℕ) (o : Option ℕ) (bytes : List ℕ) (head : Head) (r : Course) → On r → On (snoops_in port o bytes head r)
snoops-fine port None bytes head r on = on
snoops-fine port (Some vid) bytes head r on =
    either r.table.snoop (said port vid bytes (message bytes head) r) r (said-fine port vid bytes (message bytes head) r on) on

-- Events.

abbrev pub Comes : List Entry → Event → Type 0
Comes ports (events.Cmd c) = has_line ports (Cmd c) ≡ true
Comes ports (events.Moment now) = Unit {0}
Comes ports (events.Sight port bytes head) = nat_lt head.src (2 ^ 48) ≡ true
Comes ports (events.Told vid mac port) = is_station mac ≡ true
Comes ports (events.Forget triples) = Unit {0}

forgets-fine : (keys : List Address) → AllFine (forgets keys)
forgets-fine keys = map-fine (λ (k : Address). AddrDel k.0 k.1) keys (λ k. refl)

endings-fine : (r : Course) → AllFine (endings r.control.now r.control.ends)
endings-fine r =
    let now : ℕ = r.control.now in
    let e = r.control.ends in
    let parts : List Change = map (λ (m : Membership). GroupPart m.2 m.0 m.1) (due_members now e.groups) in
    let routers : List Change = map (λ (port : ℕ). Router port false) (due now e.routers) in
    let queriers : List Change = map (λ (version : ℕ). Querier (version == ip_version true) false) (due now e.queriers) in
    both-fine parts (routers ++ queriers) (map-fine (λ (m : Membership). GroupPart m.2 m.0 m.1) (due_members now e.groups) (λ m. refl))
    (both-fine routers queriers (map-fine (λ (port : ℕ). Router port false) (due now e.routers) (λ port. refl))
    (map-fine (λ (version : ℕ). Querier (version == ip_version true) false) (due now e.queriers) (λ version. refl)))

passes-fine : (r : Course) (now : ℕ) → On r → IsKept On (passes_to now r)
passes-fine r now on = by (nat_lt now r.control.now)
  where
    aged : On (ages (at_moment now r))
    aged = makes_all-fine (at_moment now r) (forgets (expired r.table (at_moment now r).control)) (forgets-fine (expired r.table (at_moment now r).control)) on

    ended : On (ends (ages (at_moment now r)))
    ended = makes_all-fine (ages (at_moment now r)) (endings (ages (at_moment now r)).control.now (ages (at_moment now r)).control.ends) (endings-fine (ages (at_moment now r))) aged

    by : (b : Bool) → IsKept On (if b then Err Backward else Ok (tells_tree (Some tree_events.Moment) (ends (ages (at_moment now r)))))
    by true = tt
    by false = told-fine (ends (ages (at_moment now r))) (Some tree_events.Moment) ended

commanded-fine : (r : Course) (c : Command) (answer : Result (List Change) Refusal) → Answers answer → On r → IsKept On (commanded r c answer)
commanded-fine r c (Err why) h on = tt
commanded-fine r c (Ok changes) h on =
    let set : Course = record r { control = sets r.control c } in
    told-fine (makes_all set changes) (tells r.table c) (makes_all-fine set changes h on)

happens-fine : (ports : List Entry) → are_declared ports ≡ true → (setup : Setup) (r : Course) (e : Event) → Comes ports e → On r → IsKept On (happens setup r e)
happens-fine ports all setup r (events.Cmd c) comes on = commanded-fine r c (command r.table c) (command-fine ports all r.table c comes) on
happens-fine ports all setup r (events.Moment now) comes on = passes-fine r now on
happens-fine ports all setup r (events.Sight port bytes head) comes on =
    let learned : Course = learns_of setup port head r in
    told-fine (snoops port bytes head learned) (heard r.table port bytes head)
    (snoops-fine port (admit learned.table port head) bytes head learned (learns_of-fine setup port head r comes on))
happens-fine ports all setup r (events.Told vid mac port) comes on = makes_all-fine r (reported r.table (vid, mac) port) (reported-fine r.table (vid, mac) port on.0 comes) on
happens-fine ports all setup r (events.Forget triples) comes on = makes_all-fine r (forgets (forgotten r.table triples)) (forgets-fine (forgotten r.table triples)) on

abbrev pub Leaves : Result Reaction Refusal → Type 0
Leaves answer = IfOk answer (λ r. AllFine r.changes)

pub react-fine : (ports : List Entry) → are_declared ports ≡ true → (setup : Setup) (h : List Change) (control : Control) (e : Event) → Comes ports e → AllFine h
    → Leaves (react setup h control e)
unfolding react
react-fine ports all setup h control e comes fine =
    by (happens setup (from (table h) control) e) (happens-fine ports all setup (from (table h) control) e comes (all-apply start h start-fine fine, refl))
  where
    roomy : (r : Course) (b : Bool) → On r → Leaves (if b then Ok (record { changes = r.changes; control = r.control; messages = r.messages }) else Err HistoryFull)
    roomy r true on = on.1
    roomy r false on = tt

    by : (answer : Result Course Refusal) → IsKept On answer → Leaves (in_room h answer)
    by (Err why) on = tt
    by (Ok r) on = roomy r (history_has_room h r.changes) on
