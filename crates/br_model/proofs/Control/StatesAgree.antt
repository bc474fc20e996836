-- The table's states follow the spanning tree's on every course.
use Rattle.std.proofs.Common.{◌≡◌, ℕ, ◌≤◌, ◌==◌, nat_lt, Bool, Option, None, Some, true, false, cond, not, ◌&&◌, ◌||◌, List, [], ◌∷◌, ◌++◌, map, refl, sym, ap, ◌∙◌, subst}
use Rattle.std.proofs.lemmas.Bool.{and_from, and_parts, eqb-true, le-leb}
use Rattle.lemmas.proofs.Orders.{eq_by_cmp-true}
use Rattle.lemmas.proofs.Tests.{and-false}
use Rattle.std.proofs.lemmas.Cmp.{nat_cmp_total}
use Rattle.std.proofs.lemmas.List.{append-nil}
use Rattle.std.proofs.lemmas.List.Folds.{list_all-append}
use Rattle.std.specs.FinMap.Entries.{find-put, find-where_key, is_some-find}
use Rattle.std.specs.List.{filter, list_all, list_any}
use Rattle.std.specs.Option.{is_some, is_none, option_map, option_map_or}
use Rattle.std.specs.Ordering.{is_eq, nat_cmp, eq_by_cmp}
use Rattle.std.specs.declared.cmp.Ordering.TheVariants.{Equal}
use Rattle.std.specs.declared.result.Result.{Result}
use Rattle.std.specs.declared.result.Result.TheVariants.{Ok, Err}
use Rattle.br_model.specs.declared.change.Change.{Change}
use Rattle.br_model.specs.declared.change.Change.TheVariants as changes
use Rattle.br_model.specs.declared.bpdu.BpduMsg.{BpduMsg}
use Rattle.br_model.specs.declared.frame.Head.{Head}
use Rattle.br_model.specs.declared.steps.Command.{Command}
use Rattle.br_model.specs.declared.steps.Command.TheVariants as commands
use Rattle.br_model.specs.declared.steps.Event.{Event}
use Rattle.br_model.specs.declared.steps.Event.TheVariants.{Cmd, Moment, Sight, Told, Forget}
use Rattle.br_model.specs.declared.steps.Refusal.{Refusal}
use Rattle.br_model.specs.declared.steps.Refusal.TheVariants as refusals
use Rattle.br_model.specs.declared.steps.Step.{Step}
use Rattle.br_model.specs.declared.tree.TreeEvent.{TreeEvent}
use Rattle.br_model.specs.declared.tree.TreeEvent.TheVariants as tree_events
use Rattle.br_model.specs.declared.tree.TreePort.{TreePort}
use Rattle.br_model.specs.Control.Ageing.{expired, forgets, forgotten}
use Rattle.br_model.specs.Control.Commands.{command, sets, tells}
use Rattle.br_model.specs.Control.Commands.Addresses.{fdb_add, fdb_del}
use Rattle.br_model.specs.Control.Commands.Groups.{mdb_add, mdb_del, snooping, is_snooping, is_a_group, is_joined, group_of}
use Rattle.br_model.specs.Control.Commands.Ports.{comes_up, drops_addresses, drops_groups, drops_vlans, drops_router, flags_of, flags_with, goes_down, is_down, link, port_up, port_down}
use Rattle.br_model.specs.Control.Commands.SpanningTree.{is_switched, stp, rank}
use Rattle.br_model.specs.Control.Commands.Vlans.{vlan_add, vlan_del}
use Rattle.br_model.specs.Control.Control.{Control, keeps_up, renewed}
use Rattle.br_model.specs.Control.Ends.{Ends, endings, due, due_members}
use Rattle.br_model.specs.Control.Learning.{Address, is_renewed, teach, taught, reported, is_news, is_learned_at, may_teach}
use Rattle.br_model.specs.Control.Snooping.{snoops}
use Rattle.br_model.specs.Forward.Admission.{member}
use Rattle.br_model.specs.Forward.Targets.{to_tree}
use Rattle.br_model.specs.Table.DomainPorts.{is_in_domain}
use Rattle.br_model.specs.Table.Domains.{software}
use Rattle.br_model.specs.Wire.Bpdus.{bpdu}
use Rattle.br_model.specs.Control.Course.{Course, from, makes, makes_all}
use Rattle.br_model.specs.Control.Reaction.{Reaction, has_room, in_room, happens, react, commanded, passes_to, at_moment, ages, ends, sees, learns_of, learns, renews}
use Rattle.br_model.specs.Control.TreeReaction.{tells_tree}
use Rattle.br_model.specs.Data.Maps.{pair_cmp, get, has, joined, parted}
use Rattle.br_model.specs.Forward.Admission.{is_up}
use Rattle.br_model.specs.Plane.Runs.{run}
use Rattle.br_model.specs.Table.Limits.{fits}
use Rattle.br_model.specs.Table.Setup.{Setup}
use Rattle.br_model.specs.Table.Table.{Table, start, apply, table, ip_version}
use Rattle.br_model.specs.Theorems.StatesAgree.{StatesAgree}
use Rattle.br_model.specs.Theorems.TreeLaws.{knows_states}
use Rattle.br_model.specs.Tree.Step.{tree_step, moved, sent}
use Rattle.br_model.specs.Tree.Tree.{Tree, first_tree, fresh, numbers, state_at}
use Rattle.br_model.specs.Tree.States.{blocking}
use Rattle.br_model.specs.Forward.Admission.{forwarding}
use Rattle.br_model.proofs.Control.Aside.{is_aside}
use Rattle.br_model.proofs.Control.ReactionSteps.{IsKept, happens-keeps, makes-table}
use Rattle.br_model.proofs.Control.SnoopSteps.{snoops-keeps}
use Rattle.br_model.proofs.Data.KeySets.{keys-put, keys-without}
use Rattle.br_model.proofs.Plane.Reacting.{run-keeps}
use Rattle.br_model.proofs.Trees.Kept.{at_first, ports-kept, known-kept, known-at}

-- Lists of states that are set

makes-fitting : (r : Course) (c : Change) → fits r.table c ≡ true → makes r c ≡ record r { table = apply r.table c; control = keeps_up r.control c; changes = r.changes ++ c ∷ [] }
makes-fitting r c fit = ap (λ b. cond b (record r { table = apply r.table c; control = keeps_up r.control c; changes = r.changes ++ c ∷ [] }) r) fit

-- what stands where the states of these ports are set
record AreSet (f : ℕ → ℕ) (ps : List ℕ) (r y : Course) : Type 0 where
  up : y.table.up ≡ r.table.up
  tree : y.control.tree ≡ r.control.tree
  state : (q : ℕ) → get nat_cmp y.table.state q ≡ cond (list_any (eq_by_cmp nat_cmp q) ps) (Some (f q)) (get nat_cmp r.table.state q)

are-set : (f : ℕ → ℕ) → ((p : ℕ) → f p ≤ 4) → (ps : List ℕ) (r : Course) → AreSet f ps r (makes_all r (map (λ p. changes.SetState p (f p)) ps))
are-set f low [] r = record { up = refl; tree = refl; state = λ q. refl }
are-set f low (p ∷ ps) r =
    let c = changes.SetState p (f p) in
    let one : Course = record r { table = apply r.table c; control = keeps_up r.control c; changes = r.changes ++ c ∷ [] } in
    let rest = are-set f low ps one in
    subst (λ (s : Course). AreSet f (p ∷ ps) r (makes_all s (map (λ p. changes.SetState p (f p)) ps))) (sym (makes-fitting r c (le-leb (f p) 4 (low p))))
    (record {
      up = rest.up;
      tree = rest.tree;
      state = λ q.
          rest.state q ∙ ap (λ o. cond (list_any (eq_by_cmp nat_cmp q) ps) (Some (f q)) o) (find-put nat_cmp nat_cmp_total q p (f p) r.table.state)
          ∙ here q (eq_by_cmp nat_cmp q p) refl (list_any (eq_by_cmp nat_cmp q) ps) (get nat_cmp r.table.state q);
    })
  where
    here : (q : ℕ) (b : Bool) → eq_by_cmp nat_cmp q p ≡ b → (later : Bool) (o : Option ℕ) → cond later (Some (f q)) (cond b (Some (f p)) o) ≡ cond (b || later) (Some (f q)) o
    here q true is true o = refl
    here q true is false o = ap (λ n. Some (f n)) (sym (eq_by_cmp-true q p is))
    here q false is true o = refl
    here q false is false o = refl

-- a port is among those that pass just where it is one and passes
any-passes : (g : ℕ → Bool) (q : ℕ) (ps : List ℕ) → list_any (eq_by_cmp nat_cmp q) (filter g ps) ≡ (list_any (eq_by_cmp nat_cmp q) ps && g q)
any-passes g q [] = refl
any-passes g q (p ∷ ps) = by (g p) refl (eq_by_cmp nat_cmp q p) refl (any-passes g q ps)
  where
    by : (b : Bool) → g p ≡ b → (e : Bool) → eq_by_cmp nat_cmp q p ≡ e → list_any (eq_by_cmp nat_cmp q) (filter g ps) ≡ (list_any (eq_by_cmp nat_cmp q) ps && g q)
        → list_any (eq_by_cmp nat_cmp q) (cond b (p ∷ filter g ps) (filter g ps)) ≡ ((e || list_any (eq_by_cmp nat_cmp q) ps) && g q)
    by true passes true is rest = ap (λ e. e || list_any (eq_by_cmp nat_cmp q) (filter g ps)) is ∙ sym (ap g (eq_by_cmp-true q p is) ∙ passes)
    by true passes false is rest = ap (λ e. e || list_any (eq_by_cmp nat_cmp q) (filter g ps)) is ∙ rest
    by false passes true is rest = rest ∙ ap (λ b. list_any (eq_by_cmp nat_cmp q) ps && b) fails ∙ and-false (list_any (eq_by_cmp nat_cmp q) ps) ∙ sym fails
      where
        fails : g q ≡ false
        fails = ap g (eq_by_cmp-true q p is) ∙ passes
    by false passes false is rest = rest

-- Before the spanning tree is told an event: the table has the ports that the event leaves, in the states of the tree.
record Awaits (t : Table) (tree : Tree) (now : ℕ) (event : TreeEvent) : Type 0 where
  up : t.up ≡ numbers (at_first tree now event).ports
  states : (q : ℕ) → get nat_cmp t.state q ≡ option_map (λ (x : TreePort). state_at tree q) (get nat_cmp (at_first tree now event).ports q)
  known : knows_states tree ≡ true

there : (q : ℕ) (es : List (ℕ × TreePort)) → list_any (eq_by_cmp nat_cmp q) (numbers es) ≡ is_some (get nat_cmp es q)
there q es = sym (is_some-find nat_cmp q es)

told-agrees : (r : Course) (event : TreeEvent) → Awaits r.table r.control.tree r.control.now event → StatesAgree (tells_tree (Some event) r).table (tells_tree (Some event) r).control.tree
told-agrees r event waits =
    let before = r.control.tree in
    let a = tree_step before r.control.now event in
    let after = a.tree in
    let first = at_first before r.control.now event in
    let same : numbers after.ports ≡ numbers first.ports = ports-kept before r.control.now event in
    let known : knows_states after ≡ true = known-kept before r.control.now event waits.known in
    let begun : Course = record r { control = record r.control { tree = after }; messages = r.messages ++ sent a } in
    let are = are-set (state_at after) (λ p. known-at after p known) (moved before after) begun in
    let is-there : (q : ℕ) → is_some (get nat_cmp first.ports q) ≡ is_some (get nat_cmp after.ports q) =
    (λ q. sym (there q first.ports) ∙ ap (list_any (eq_by_cmp nat_cmp q)) (sym same) ∙ there q after.ports) in
    record {
      up = are.up ∙ waits.up ∙ sym same ∙ ap (λ (u : Tree). numbers u.ports) (sym are.tree);
      states = λ q.
          are.state q
          ∙ ap (λ b. cond b (Some (state_at after q)) (get nat_cmp r.table.state q))
          (any-passes (λ p. not (state_at before p == state_at after p)) q (numbers after.ports) ∙ ap (λ b. b && not (state_at before q == state_at after q)) (there q after.ports))
          ∙ ap (λ o. cond (is_some (get nat_cmp after.ports q) && not (state_at before q == state_at after q)) (Some (state_at after q)) o) (waits.states q)
          ∙ by q (state_at before q) (get nat_cmp first.ports q) (get nat_cmp after.ports q) (is-there q)
          ∙ ap (λ (u : Tree). option_map (λ (x : TreePort). x.state) (get nat_cmp u.ports q)) (sym are.tree);
      known = ap knows_states are.tree ∙ known;
    }
  where
    by : (q old : ℕ) (first after : Option TreePort) → is_some first ≡ is_some after
        → cond (is_some after && not (old == option_map_or (λ x. x.state) after 0)) (Some (option_map_or (λ x. x.state) after 0)) (option_map (λ x. old) first)
        ≡ option_map (λ x. x.state) after
    by q old None None is = refl
    by q old (Some x) (Some y) is =
        (elim (old == y.state) as (λ b. (old == y.state) ≡ b → cond (not b) (Some y.state) (Some old) ≡ Some y.state) [
          | true ↦ λ e. ap (λ n. Some n) (eqb-true old y.state e)
          | false ↦ λ e. refl
        ]) refl
    by q old None (Some y) is = absurd (cc (is))
    by q old (Some x) None is = absurd (cc (is))

-- An event that brings no port and takes none

own-state : (o : Option TreePort) → option_map (λ x. x.state) o ≡ option_map (λ (y : TreePort). option_map_or (λ x. x.state) o 0) o
own-state None = refl
own-state (Some x) = refl

told-rest : (r : Course) (event : TreeEvent) → at_first r.control.tree r.control.now event ≡ r.control.tree → StatesAgree r.table r.control.tree
    → StatesAgree (tells_tree (Some event) r).table (tells_tree (Some event) r).control.tree
told-rest r event same a =
    told-agrees r event
    (record {
      up = a.up ∙ ap (λ (u : Tree). numbers u.ports) (sym same);
      states = λ q.
          a.states q ∙ own-state (get nat_cmp r.control.tree.ports q)
          ∙ ap (λ (u : Tree). option_map (λ (x : TreePort). state_at r.control.tree q) (get nat_cmp u.ports q)) (sym same);
      known = a.known;
    })

-- Changes that no port comes or goes by

abbrev Agree : Course → Type 0
Agree r = StatesAgree r.table r.control.tree

agree-elsewhere : (t u : Table) (tree v : Tree) → StatesAgree t tree → u.up ≡ t.up → u.state ≡ t.state → v ≡ tree → StatesAgree u v
agree-elsewhere t u tree v a up state same = record {
  up = up ∙ a.up ∙ ap (λ (w : Tree). numbers w.ports) (sym same);
  states = λ q. ap (λ (m : List (ℕ × ℕ)). get nat_cmp m q) state ∙ a.states q ∙ ap (λ (w : Tree). option_map (λ (x : TreePort). x.state) (get nat_cmp w.ports q)) (sym same);
  known = ap knows_states same ∙ a.known;
}

aside-up : (t : Table) (c : Change) → is_aside c ≡ true → (apply t c).up ≡ t.up
aside-up t (changes.PortUp p) h = absurd (cc (h))
aside-up t (changes.PortDown p) h = absurd (cc (h))
aside-up t (changes.SetState p n) h = absurd (cc (h))
aside-up t c h = refl

aside-state : (t : Table) (c : Change) → is_aside c ≡ true → (apply t c).state ≡ t.state
aside-state t (changes.PortUp p) h = absurd (cc (h))
aside-state t (changes.PortDown p) h = absurd (cc (h))
aside-state t (changes.SetState p n) h = absurd (cc (h))
aside-state t c h = refl

keeps-tree : (k : Control) (c : Change) → (keeps_up k c).tree ≡ k.tree
keeps-tree k (changes.PortUp p) = refl
keeps-tree k c = refl

makes-agree : (r : Course) (c : Change) → is_aside c ≡ true → Agree r → Agree (makes r c)
makes-agree r c aside a =
    elim (fits r.table c) as (λ b. Agree (cond b (record r { table = apply r.table c; control = keeps_up r.control c; changes = r.changes ++ c ∷ [] }) r)) [
      | true ↦ agree-elsewhere r.table (apply r.table c) r.control.tree (keeps_up r.control c).tree a (aside-up r.table c aside) (aside-state r.table c aside) (keeps-tree r.control c)
      | false ↦ a
    ]

all-agree : (r : Course) (cs : List Change) → list_all is_aside cs ≡ true → Agree r → Agree (makes_all r cs)
all-agree r [] aside a = a
all-agree r (c ∷ cs) aside a =
    let both = and_parts (is_aside c) (list_all is_aside cs) aside in all-agree (makes r c) cs both.1 (makes-agree r c both.0 a)

made-aside : {X : Type 0} (f : X → Change) → ((x : X) → is_aside (f x) ≡ true) → (xs : List X) → list_all is_aside (map f xs) ≡ true
made-aside f each [] = refl
made-aside f each (x ∷ xs) = and_from (is_aside (f x)) (list_all is_aside (map f xs)) (each x) (made-aside f each xs)

both-aside : (xs ys : List Change) → list_all is_aside xs ≡ true → list_all is_aside ys ≡ true → list_all is_aside (xs ++ ys) ≡ true
both-aside xs ys first later = list_all-append is_aside xs ys ∙ and_from (list_all is_aside xs) (list_all is_aside ys) first later

chosen-aside : (b : Bool) (xs ys : List Change) → list_all is_aside xs ≡ true → list_all is_aside ys ≡ true → list_all is_aside (cond b xs ys) ≡ true
chosen-aside true xs ys first later = first
chosen-aside false xs ys first later = later

drops_addresses-aside : (t : Table) (among : ℕ → Bool) (port : ℕ) → list_all is_aside (drops_addresses t among port) ≡ true
drops_addresses-aside t among port = made-aside _ (λ e. refl) (filter (λ e. e.1.0 == port && among e.0.0) t.addr)

drops_groups-aside : (t : Table) (among : ℕ → Bool) (port : ℕ) → list_all is_aside (drops_groups t among port) ≡ true
drops_groups-aside t among port = made-aside _ (λ m. refl) (filter (λ m. m.2 == port && among m.0) t.groups)

-- Commands

abbrev Aside : Result (List Change) Refusal → Type 0
Aside (Err why) = Unit {0}
Aside (Ok cs) = list_all is_aside cs ≡ true

unless : (b : Bool) (why : Refusal) (answer : Result (List Change) Refusal) → Aside answer → Aside (cond b (Err why) answer)
unless true why answer aside = tt
unless false why answer aside = aside

sets-tree : (k : Control) (c : Command) → (sets k c).tree ≡ k.tree
sets-tree k (commands.Ageing seconds) = refl
sets-tree k c = refl

commanded-agrees : (r : Course) (c : Command) (answer : Result (List Change) Refusal) → Aside answer → ((x : Course) → Agree x → Agree (tells_tree (tells r.table c) x)) → Agree r
    → IsKept Agree (commanded r c answer)
commanded-agrees r c (Err why) aside told a = tt
commanded-agrees r c (Ok cs) aside told a =
    told _ (all-agree (record r { control = sets r.control c }) cs aside (agree-elsewhere r.table r.table r.control.tree (sets r.control c).tree a refl refl (sets-tree r.control c)))

-- A port comes up.

none-disabled : (o : Option TreePort) → is_some o ≡ false → option_map_or (λ x. x.state) o 0 ≡ 0
none-disabled None h = refl
none-disabled (Some x) h = absurd (cc (h))

module _ (r : Course) (port : ℕ) (a : Agree r) where
  comes-agree : is_up r.table port ≡ false → Agree (tells_tree (Some (tree_events.Up port)) (makes_all r (comes_up port)))
  comes-agree down =
      let tree = r.control.tree in
      let none : is_some (get nat_cmp tree.ports port) ≡ false = sym (there port tree.ports) ∙ ap (list_any (eq_by_cmp nat_cmp port)) (sym a.up) ∙ down in
      let new = fresh (cond tree.on blocking forwarding) r.control.now in
      told-agrees (makes_all r (comes_up port)) (tree_events.Up port)
      (record {
        up = ap (λ (l : List ℕ). joined nat_cmp l port) a.up ∙ sym (keys-put nat_cmp tree.ports port new);
        states = λ q.
            find-put nat_cmp nat_cmp_total q port 0 r.table.state
            ∙ (elim (eq_by_cmp nat_cmp q port) as
            (λ b. eq_by_cmp nat_cmp q port ≡ b
            → cond b (Some 0) (get nat_cmp r.table.state q) ≡ option_map (λ (x : TreePort). state_at tree q) (cond b (Some new) (get nat_cmp tree.ports q))) [
              | true ↦ λ is. ap (λ n. Some n) (sym (none-disabled (get nat_cmp tree.ports q) (ap (λ p. is_some (get nat_cmp tree.ports p)) (eq_by_cmp-true q port is) ∙ none)))
              | false ↦ λ is. a.states q ∙ own-state (get nat_cmp tree.ports q)
            ]) refl
            ∙ ap (option_map (λ (x : TreePort). state_at tree q)) (sym (find-put nat_cmp nat_cmp_total q port new tree.ports));
        known = a.known;
      })

  up-agrees : IsKept Agree (commanded r (commands.PortUp port) (port_up r.table port))
  up-agrees =
      (elim (is_up r.table port) as (λ b. is_up r.table port ≡ b → IsKept Agree (commanded r (commands.PortUp port) (cond b (Err refusals.PortIsUp) (Ok (comes_up port))))) [
        | true ↦ λ is. tt
        | false ↦ λ is. comes-agree is
      ]) refl

-- A port goes down, behind all that it has.

behind : (Q : Course → Type 0) (xs ys : List Change) → list_all is_aside xs ≡ true → ((s : Course) → Agree s → Q (makes_all s ys)) → (s : Course) → Agree s → Q (makes_all s (xs ++ ys))
behind Q [] ys aside last s a = last s a
behind Q (x ∷ xs) ys aside last s a =
    let both = and_parts (is_aside x) (list_all is_aside xs) aside in behind Q xs ys both.1 last (makes s x) (makes-agree s x both.0 a)

goes-agree : (port : ℕ) (s : Course) → Agree s → Agree (tells_tree (Some (tree_events.Down port)) (makes_all s (changes.PortDown port ∷ [])))
goes-agree port s a =
    let tree = s.control.tree in
    let other : ℕ → Bool = (λ k. not (eq_by_cmp nat_cmp port k)) in
    let ties : (q x : ℕ) → nat_cmp q x ≡ Equal → other x ≡ other q = (λ q x e. ap other (sym (eq_by_cmp-true q x (ap is_eq e)))) in
    told-agrees (makes_all s (changes.PortDown port ∷ [])) (tree_events.Down port)
    (record {
      up = ap (λ (l : List ℕ). parted nat_cmp l port) a.up ∙ sym (keys-without nat_cmp tree.ports port);
      states = λ q.
          find-where_key nat_cmp other q (ties q) s.table.state
          ∙ (elim (other q) as (λ b. cond b (get nat_cmp s.table.state q) None ≡ option_map (λ (x : TreePort). state_at tree q) (cond b (get nat_cmp tree.ports q) None)) [
            | true ↦ a.states q ∙ own-state (get nat_cmp tree.ports q)
            | false ↦ refl
          ])
          ∙ ap (option_map (λ (x : TreePort). state_at tree q)) (sym (find-where_key nat_cmp other q (ties q) tree.ports));
      known = a.known;
    })

down-agrees : (r : Course) (port : ℕ) → Agree r → IsKept Agree (commanded r (commands.PortDown port) (port_down r.table port))
down-agrees r port a =
    let t = r.table in
    let last = changes.PortDown port ∷ [] in
    let Q : Course → Type 0 = (λ s. Agree (tells_tree (Some (tree_events.Down port)) s)) in
    elim (is_down t port) as (λ b. IsKept Agree (commanded r (commands.PortDown port) (cond b (Err refusals.PortNotUp) (Ok (goes_down t port))))) [
      | true ↦ tt
      | false ↦
          behind Q (drops_addresses t (λ vid. true) port) _ (drops_addresses-aside t (λ vid. true) port)
          (behind Q (drops_groups t (λ vid. true) port) _ (drops_groups-aside t (λ vid. true) port)
          (behind Q (drops_vlans t port) _ (made-aside _ (λ e. refl) (filter (λ e. e.0.1 == port) t.vlans))
          (behind Q (drops_router t port) last (chosen-aside (has nat_cmp t.routers port) (changes.Router port false ∷ []) [] refl refl)
          (goes-agree port)))) r a
    ]

command-agrees : (r : Course) (c : Command) → Agree r → IsKept Agree (commanded r c (command r.table c))
command-agrees r (commands.PortUp port) a = up-agrees r port a
command-agrees r (commands.PortDown port) a = down-agrees r port a
command-agrees r (commands.Link port flag on) a =
    commanded-agrees r (commands.Link port flag on) (link r.table port flag on)
    (unless (is_down r.table port) _ _ (chosen-aside (flags_of r.table port == flags_with on (flags_of r.table port) flag) [] _ refl refl)) (λ x a. a) a
command-agrees r (commands.Cost port n) a =
    commanded-agrees r (commands.Cost port n) (rank r.table port) (unless (is_down r.table port) _ _ refl) (λ x a. told-rest x (tree_events.Cost port n) refl a) a
command-agrees r (commands.PortPriority port n) a =
    commanded-agrees r (commands.PortPriority port n) (rank r.table port) (unless (is_down r.table port) _ _ refl) (λ x a. told-rest x (tree_events.PortPriority port n) refl a) a
command-agrees r (commands.VlanAdd port vid untagged pvid) a =
    commanded-agrees r (commands.VlanAdd port vid untagged pvid) (vlan_add r.table port vid untagged pvid)
    (unless (is_down r.table port) _ _ (unless (member r.table port vid) _ _ refl)) (λ x a. a) a
command-agrees r (commands.VlanDel port vid) a =
    commanded-agrees r (commands.VlanDel port vid) (vlan_del r.table port vid)
    (unless (is_down r.table port) _ _ (unless (not (member r.table port vid)) _ _
    (both-aside (drops_addresses r.table (λ v. v == vid) port) _ (drops_addresses-aside r.table (λ v. v == vid) port)
    (both-aside (drops_groups r.table (λ v. v == vid) port) (changes.VlanDel port vid ∷ []) (drops_groups-aside r.table (λ v. v == vid) port) refl)))) (λ x a. a) a
command-agrees r (commands.FdbAdd vid mac port kind) a =
    commanded-agrees r (commands.FdbAdd vid mac port kind) (fdb_add r.table vid mac port kind)
    (unless (is_down r.table port) _ _ (unless (not (member r.table port vid)) _ _ (unless (is_some (get pair_cmp r.table.addr (vid, mac))) _ _
    (unless (not (fits r.table (changes.AddrPut vid mac port kind))) _ _ refl)))) (λ x a. a) a
command-agrees r (commands.FdbDel vid mac) a =
    commanded-agrees r (commands.FdbDel vid mac) (fdb_del r.table vid mac) (unless (is_none (get pair_cmp r.table.addr (vid, mac))) _ _ refl) (λ x a. a) a
command-agrees r (commands.MdbAdd port vid group) a =
    commanded-agrees r (commands.MdbAdd port vid group) (mdb_add r.table port vid group)
    (unless (is_down r.table port) _ _ (unless (not (is_a_group group)) _ _ (unless (not (member r.table port vid)) _ _
    (unless (is_joined r.table port vid (group_of group)) _ _ (unless (not (fits r.table (changes.GroupJoin port vid (group_of group)))) _ _ refl))))) (λ x a. a) a
command-agrees r (commands.MdbDel port vid group) a =
    commanded-agrees r (commands.MdbDel port vid group) (mdb_del r.table port vid group)
    (unless (is_down r.table port) _ _ (unless (not (is_a_group group)) _ _ (unless (not (is_joined r.table port vid (group_of group))) _ _ refl))) (λ x a. a) a
command-agrees r (commands.Stp on) a =
    commanded-agrees r (commands.Stp on) (stp r.table on) (chosen-aside (is_switched r.table on) [] (changes.Stp on ∷ []) refl refl)
    (λ x a. elim (is_switched r.table on) as (λ b. Agree (tells_tree (cond b None (Some (tree_events.Switch on))) x)) [ true ↦ a | false ↦ told-rest x (tree_events.Switch on) refl a ]) a
command-agrees r (commands.Priority n) a = commanded-agrees r (commands.Priority n) (Ok []) refl (λ x a. told-rest x (tree_events.Priority n) refl a) a
command-agrees r (commands.Ageing seconds) a = commanded-agrees r (commands.Ageing seconds) (Ok []) refl (λ x a. a) a
command-agrees r (commands.Snooping on) a =
    commanded-agrees r (commands.Snooping on) (snooping r.table on) (chosen-aside (is_snooping r.table on) [] (changes.Snoop on ∷ []) refl refl) (λ x a. a) a

-- Other events

endings-aside : (now : ℕ) (e : Ends) → list_all is_aside (endings now e) ≡ true
endings-aside now e =
    let members : List Change = map (λ m. changes.GroupPart m.2 m.0 m.1) (due_members now e.groups) in
    let routers : List Change = map (λ port. changes.Router port false) (due now e.routers) in
    let queriers : List Change = map (λ version. changes.Querier (version == ip_version true) false) (due now e.queriers) in
    both-aside members (routers ++ queriers) (made-aside (λ m. changes.GroupPart m.2 m.0 m.1) (λ m. refl) (due_members now e.groups))
    (both-aside routers queriers (made-aside (λ port. changes.Router port false) (λ p. refl) (due now e.routers))
    (made-aside (λ version. changes.Querier (version == ip_version true) false) (λ v. refl) (due now e.queriers)))

passes-agree : (r : Course) (now : ℕ) → Agree r → IsKept Agree (passes_to now r)
passes-agree r now a =
    let later = at_moment now r in
    let aged = ages later in
    let e = aged.control.ends in
    let n = aged.control.now in
    elim (nat_lt now r.control.now) as (λ b. IsKept Agree (cond b (Err refusals.Backward) (Ok (tells_tree (Some tree_events.Moment) (ends aged))))) [
      | true ↦ tt
      | false ↦
          told-rest (ends aged) tree_events.Moment refl
          (all-agree aged (endings n e)
          (endings-aside n e)
          (all-agree later (forgets (expired r.table later.control)) (made-aside _ (λ k. refl) (expired r.table later.control)) a))
    ]

learns-agree : (r : Course) (port : ℕ) (o : Option Address) → Agree r → Agree (learns port o r)
learns-agree r port None a = a
learns-agree r port (Some key) a =
    all-agree (renews key port r) (taught r.table key port) (chosen-aside (is_news r.table key port) _ [] refl refl)
    (elim (is_renewed r.table key port) as (λ b. Agree (cond b (record r { control = renewed r.control key }) r)) [ true ↦ a | false ↦ a ])

learns_of-agree : (setup : Setup) (r : Course) (port : ℕ) (head : Head) → Agree r → Agree (learns_of setup port head r)
learns_of-agree setup r port head a =
    elim (is_in_domain setup.domains software port) as (λ b. Agree (cond b (learns port (teach r.table port head) r) r)) [ true ↦ learns-agree r port (teach r.table port head) a | false ↦ a ]

read-agrees : (r : Course) (port : ℕ) (o : Option BpduMsg) → Agree r → Agree (tells_tree (option_map (λ m. tree_events.Message port m) o) r)
read-agrees r port None a = a
read-agrees r port (Some m) a = told-rest r (tree_events.Message port m) refl a

sees-agree : (setup : Setup) (r : Course) (port : ℕ) (bytes : List ℕ) (head : Head) → Agree r → Agree (sees setup port bytes head r)
sees-agree setup r port bytes head a =
    let learned = learns_of setup port head r in
    let snooped = snoops port bytes head learned in
    let now = snoops-keeps Agree makes-agree (λ r m end there a. a) (λ r six known a. a) (λ r port there a. a) port bytes head learned (learns_of-agree setup r port head a) in
    elim (to_tree r.table port head) as (λ b. Agree (tells_tree (cond b (option_map (λ m. tree_events.Message port m) (bpdu bytes)) None) snooped)) [
      | true ↦ read-agrees snooped port (bpdu bytes) now
      | false ↦ now
    ]

happens-agree : (setup : Setup) (r : Course) (e : Event) → Agree r → IsKept Agree (happens setup r e)
happens-agree setup r (Cmd c) a = command-agrees r c a
happens-agree setup r (Moment now) a = passes-agree r now a
happens-agree setup r (Sight port bytes head) a = sees-agree setup r port bytes head a
happens-agree setup r (Told vid mac port) a =
    all-agree r (reported r.table (vid, mac) port)
    (chosen-aside (may_teach r.table port vid && (is_news r.table (vid, mac) port || is_learned_at r.table (vid, mac) port)) _ [] refl refl) a
happens-agree setup r (Forget triples) a = all-agree r (forgets (forgotten r.table triples)) (made-aside _ (λ k. refl) (forgotten r.table triples)) a

-- A reaction behind a history
module _ (h : List Change) where
  abbrev IsTable : Course → Type 0
  IsTable r = r.table ≡ table (h ++ r.changes)

  happens-table : (setup : Setup) (r : Course) (e : Event) → IsTable r → IsKept IsTable (happens setup r e)
  happens-table =
      happens-keeps IsTable (makes-table h) (λ r k messages _ _ is. is) (λ r key port known is. is)
      (snoops-keeps IsTable (λ r c _ is. makes-table h r c is) (λ r m end there is. is) (λ r six known is. is) (λ r port there is. is))

  abbrev Leaves : Result Reaction Refusal → Type 0
  Leaves (Err why) = Unit {0}
  Leaves (Ok r) = StatesAgree (table (h ++ r.changes)) r.control.tree

  in_room-leaves : (answer : Result Course Refusal) → IsKept IsTable answer → IsKept Agree answer → Leaves (in_room h answer)
  in_room-leaves (Err why) is a = tt
  in_room-leaves (Ok r) is a =
      elim (has_room h r.changes) as (λ b. Leaves (cond b (Ok (record { changes = r.changes; control = r.control; messages = r.messages })) (Err refusals.HistoryFull))) [
        | true ↦ subst (λ t. StatesAgree t r.control.tree) is a
        | false ↦ tt
      ]

  pub react-agrees : (setup : Setup) (control : Control) (e : Event) (r : Reaction) → StatesAgree (table h) control.tree → react setup h control e ≡ Ok r
      → StatesAgree (table (h ++ r.changes)) r.control.tree
  unfolding react
  react-agrees setup control e r a is =
      let begun = from (table h) control in
      subst Leaves is
      (in_room-leaves (happens setup begun e) (happens-table setup begun e (sym (ap table (append-nil h)))) (happens-agree setup begun e a))

pub agree-start : (own : ℕ) → StatesAgree start (first_tree own)
agree-start own = record { up = refl; states = λ port. refl; known = refl }

pub run-agrees : (setup : Setup) (steps : List Step) → StatesAgree (table (run setup steps).0.history) (run setup steps).0.control.tree
run-agrees setup steps =
    run-keeps (λ h k. StatesAgree (table h) k.tree) (λ w e r q is. react-agrees w.history w.setup w.control e r q is) setup steps (agree-start setup.own)

-- a port that is up has the tree's state
pub up-state : (t : Table) (tree : Tree) (port : ℕ) → StatesAgree t tree → is_up t port ≡ true → get nat_cmp t.state port ≡ Some (state_at tree port)
up-state t tree port a is = a.states port ∙ by (get nat_cmp tree.ports port) (sym (there port tree.ports) ∙ ap (list_any (eq_by_cmp nat_cmp port)) (sym a.up) ∙ is)
  where
    by : (o : Option TreePort) → is_some o ≡ true → option_map (λ x. x.state) o ≡ Some (option_map_or (λ x. x.state) o 0)
    by None h = absurd (cc (h))
    by (Some x) h = refl

pub run-each : (setup : Setup) (steps : List Step) (port : ℕ) → is_up (table (run setup steps).0.history) port ≡ true
    → get nat_cmp (table (run setup steps).0.history).state port ≡ Some (state_at (run setup steps).0.control.tree port)
run-each setup steps port is = up-state (table (run setup steps).0.history) (run setup steps).0.control.tree port (run-agrees setup steps) is
