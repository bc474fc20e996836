-- What events come to, once their changes are known to fit.
use Rattle.std.proofs.Common.{arith, ◌≡◌, ℕ, ◌<◌, ◌^◌, Bool, true, false, not, ◌&&◌, ◌||◌, if◌then◌else◌, ◌==◌, is_some, List}
use Rattle.std.proofs.Common.{[], ◌∷◌, ◌++◌, map, fold, Option, Some, None, option_map, refl, sym, ap, subst, ◌∙◌}
use Rattle.std.specs.Prelude.{IfSome, IsSome}
use Rattle.std.specs.List.{filter, filter_map, flat_map, cons_option, list_all}
use Rattle.std.specs.Option.{option_map_or}
use Rattle.std.specs.Ordering.{nat_cmp}
use Rattle.std.proofs.lemmas.List.{append-nil}
use Rattle.std.specs.declared.result.Result.{Result}
use Rattle.std.specs.declared.result.Result.TheVariants.{Ok, Err}
use Rattle.std.proofs.lemmas.Bool.{and_from}
use Rattle.lemmas.proofs.Numbers.{eqb-itself}
use Rattle.br_model.specs.declared.bpdu.BpduMsg.{BpduMsg}
use Rattle.br_model.specs.declared.change.Change.{Change}
use Rattle.br_model.specs.declared.change.Change.TheVariants as changes
use Rattle.br_model.specs.declared.change.Kind.{Kind}
use Rattle.br_model.specs.declared.change.Kind.TheVariants.{Learned, Extern}
use Rattle.br_model.specs.declared.frame.Head.{Head}
use Rattle.br_model.specs.declared.steps.Command.{Command}
use Rattle.br_model.specs.declared.steps.Command.TheVariants.{PortDown, VlanDel}
use Rattle.br_model.specs.declared.steps.Refusal.{Refusal}
use Rattle.br_model.specs.declared.steps.Refusal.TheVariants as refusals
use Rattle.br_model.specs.declared.transcript.Line.{Line}
use Rattle.br_model.specs.declared.tree.TreeEvent.{TreeEvent}
use Rattle.br_model.specs.declared.tree.TreeEvent.TheVariants.{Message, Moment}
use Rattle.br_model.specs.Forward.Admission.{is_up, vlan_of, has_valid_source}
use Rattle.br_model.specs.Control.Ageing.{forgets}
use Rattle.br_model.specs.Wire.Bpdus.{bpdu}
use Rattle.br_model.specs.Control.Commands.{command}
use Rattle.br_model.specs.Control.Commands.Ports.{goes_down, drops_addresses, drops_groups, drops_vlans}
use Rattle.br_model.specs.Control.Commands.Vlans.{leaves_vlan}
use Rattle.br_model.specs.Control.Control.{Control, keeps_up, renewed}
use Rattle.br_model.specs.Control.Course.{Course, from, makes_all}
use Rattle.br_model.specs.Table.Groups.{Membership}
use Rattle.br_model.specs.Control.Learning.{Address, is_news, is_renewed, is_dynamic, is_learned_at, may_teach, taught, teach, teach_in, reported}
use Rattle.br_model.specs.Table.Limits.{fits, all_fit}
use Rattle.br_model.specs.Data.Maps.{pair_cmp, get, has}
use Rattle.br_model.specs.Plane.World.{control_line, control_lines}
use Rattle.br_model.specs.Control.Reaction.{learns}
use Rattle.br_model.specs.Table.Table.{Table, apply}
use Rattle.br_model.specs.Forward.Targets.{bridge_group_address, is_for_the_host, pause_address}
use Rattle.br_model.specs.Tree.Tree.{Tree, numbers, state_at}
use Rattle.br_model.specs.Control.TreeReaction.{follows, heard, tells_tree}
use Rattle.br_model.specs.Tree.Sending.{quiet}
use Rattle.br_model.specs.Tree.Step.{tree_step, message}
use Rattle.bridge_state.specs.declared.learning.Lesson.{Lesson}
use Rattle.bridge_state.specs.declared.learning.Lesson.TheVariants.{Known, Renewed, News}
use Rattle.bridge_state.specs.declared.plan.Plan.{Plan}
use Rattle.bridge_state.specs.Following.{state_change, config_lines, line_of}
use Rattle.bridge_state.specs.Lessons.{lesson_of, is_taken}
use Rattle.bridge_state.specs.Plans.{Plans, renewed_at}
use Rattle.bridge_state.specs.Standing.{clocked}
use Rattle.bridge_state.proofs.Fitting.{all_fit_any, always_fits, always-append, always-map}

-- the changes of a command fit

abbrev Answer : Type 0
Answer = Result (List Change) Refusal

abbrev done : List Change → Answer
done cs = Ok cs

same_changes : (cs ds : List Change) → done cs ≡ done ds → cs ≡ ds
same_changes cs ds e = cc

abbrev refuses : Refusal → Answer
refuses why = Err why

refused : {A : Type 0} (why : Refusal) (cs : List Change) → refuses why ≡ done cs → A
refused why cs e = absurd (cc)

-- what an answer with a test before it comes to
tested : (b : Bool) (why : Refusal) (rest : Answer) (cs : List Change) → (if b then refuses why else rest) ≡ done cs → (b ≡ false) × (rest ≡ done cs)
tested true why rest cs e = refused why cs e
tested false why rest cs e = (refl, e)

fit_along : (t : Table) (cs ds : List Change) → all_fit t cs ≡ true → done cs ≡ done ds → all_fit t ds ≡ true
fit_along t cs ds h e = ap (all_fit t) (sym (same_changes cs ds e)) ∙ h

deletes : (t : Table) (among : ℕ → Bool) (port : ℕ) → list_all always_fits (drops_addresses t among port) ≡ true
deletes t among port = always-map (λ (e : Address × (ℕ × Kind)). changes.AddrDel e.0.0 e.0.1) (filter (λ e. e.1.0 == port && among e.0.0) t.addr) (λ e. refl)

parts : (t : Table) (among : ℕ → Bool) (port : ℕ) → list_all always_fits (drops_groups t among port) ≡ true
parts t among port = always-map (λ (m : Membership). changes.GroupPart port m.0 m.1) (filter (λ m. m.2 == port && among m.0) t.groups) (λ m. refl)

drops_down : (t : Table) (port : ℕ) → list_all always_fits (goes_down t port) ≡ true
drops_down t port =
    let vlans = always-map (λ (e : (ℕ × ℕ) × Bool). changes.VlanDel port e.0.0) (filter (λ e. e.0.1 == port) t.vlans) (λ e. refl) in
    always-append (drops_addresses t (λ vid. true) port) _ (deletes t (λ vid. true) port)
    (always-append (drops_groups t (λ vid. true) port) _ (parts t (λ vid. true) port) (always-append (drops_vlans t port) _ vlans (router (has nat_cmp t.routers port))))
  where
    router : (b : Bool) → list_all always_fits ((if b then changes.Router port false ∷ [] else []) ++ changes.PortDown port ∷ []) ≡ true
    router true = refl
    router false = refl

drops_vlan : (t : Table) (port vid : ℕ) → list_all always_fits (leaves_vlan t port vid) ≡ true
drops_vlan t port vid =
    always-append (drops_addresses t (λ v. v == vid) port) _ (deletes t (λ v. v == vid) port)
    (always-append (drops_groups t (λ v. v == vid) port) _ (parts t (λ v. v == vid) port) refl)

pub fit_command : (t : Table) (asked : Command) (cs : List Change) → command t asked ≡ Ok cs → all_fit t cs ≡ true
fit_command t (PortDown port) cs e = fit_along t _ cs (all_fit_any t (goes_down t port) (drops_down t port)) (tested _ refusals.PortNotUp _ cs e).1
fit_command t (VlanDel port vid) cs e = fit_along t _ cs (all_fit_any t (leaves_vlan t port vid) (drops_vlan t port vid)) (tested _ refusals.Absent _ cs (tested _ refusals.PortNotUp _ cs e).1).1
fit_command t asked cs e = grind arith

-- the deletions of a moment fit
pub fit_forgets : (t : Table) (keys : List Address) → all_fit t (forgets keys) ≡ true
fit_forgets t keys = all_fit_any t (forgets keys) (always-map (λ (k : Address). changes.AddrDel k.0 k.1) keys (λ k. refl))

-- A plan that changes the table alone.
pub makes : (t : Table) (c : Control) (p : Plan) (r : Course) (cs : List Change) → p.clock.now < 2 ^ 53 → clocked p.clock c ≡ c → p.renewed ≡ None → p.changes.items ≡ cs → p.tree_event ≡ None
    → all_fit t cs ≡ true → makes_all (from t c) cs ≡ r → Plans t c (Ok p) (Ok r)
makes t c p r cs early clock renewed is told fit comes = (
  ap (λ (x : Course). yes x) (sym comes) ∙ sym (λ i. yes (tells_tree (told i) (makes_all (record { table = t; control = renewed_at (clock i) (renewed i); changes = []; messages = [] }) (is i)))),
  record {
    early = early;
    there = subst (λ (o : Option Address). IfSome o (λ key. IsSome (get pair_cmp t.addr key))) (sym renewed) tt;
    fits = ap (all_fit t) is ∙ fit;
  },
)
  where
    yes : Course → Result Course Refusal
    yes x = Ok x

-- a change that is offered where the test holds is made where it fits too
offered : (t : Table) (c : Control) (d : Change) (test : Bool) → (test && fits t d) ≡ true → makes_all (from t c) (d ∷ []) ≡ makes_all (from t c) (if test then d ∷ [] else [])
offered t c d true e = refl
offered t c d false e = absurd (cc)

offered-fits : (t : Table) (d : Change) (test : Bool) → (test && fits t d) ≡ true → all_fit t (d ∷ []) ≡ true
offered-fits t d true e = and_from _ _ e refl
offered-fits t d false e = absurd (cc)

declined : (t : Table) (c : Control) (d : Change) (test : Bool) → (test && fits t d) ≡ false → from t c ≡ makes_all (from t c) (if test then d ∷ [] else [])
declined t c d true e = sym (ap (λ b. if b then record (from t c) { table = apply t d; control = keeps_up c d; changes = d ∷ [] } else from t c) e)
declined t c d false e = refl

-- a report that is taken, and one that isn't

abbrev pub report_of : Address → ℕ → Change
report_of key port = changes.AddrPut key.0 key.1 port Extern

abbrev is_offered : Table → Address → ℕ → Bool
is_offered t key port = may_teach t port key.0 && (is_news t key port || is_learned_at t key port)

pub fits_report : (t : Table) (key : Address) (port : ℕ) → is_taken t key port ≡ true → all_fit t (report_of key port ∷ []) ≡ true
fits_report t key port e = offered-fits t (report_of key port) (is_offered t key port) e

pub report_taken : (t : Table) (c : Control) (key : Address) (port : ℕ) → is_taken t key port ≡ true → makes_all (from t c) (report_of key port ∷ []) ≡ makes_all (from t c) (reported t key port)
report_taken t c key port e = offered t c (report_of key port) (is_offered t key port) e

pub report_left : (t : Table) (c : Control) (key : Address) (port : ℕ) → is_taken t key port ≡ false → from t c ≡ makes_all (from t c) (reported t key port)
report_left t c key port e = declined t c (report_of key port) (is_offered t key port) e

-- what an address behind a port comes to

abbrev pub put_of : Address → ℕ → Change
put_of key port = changes.AddrPut key.0 key.1 port Learned

-- the tests of the lesson, by the answer
abbrev Tests : Bool → Bool → Lesson → Type 0
Tests renew news Known = (renew ≡ false) × (news ≡ false)
Tests renew news Renewed = renew ≡ true
Tests renew news News = (renew ≡ false) × (news ≡ true)

by_tests : (renew news : Bool) → Tests renew news (if renew then Renewed else if news then News else Known)
by_tests true news = refl
by_tests false true = (refl, refl)
by_tests false false = (refl, refl)

module _ (t : Table) (c : Control) (key : Address) (port : ℕ) where
  tests_of : (l : Lesson) → l ≡ lesson_of t key port → Tests (is_renewed t key port) (is_news t key port && fits t (put_of key port)) l
  tests_of l e =
      subst (λ (x : Lesson). Tests (is_renewed t key port) (is_news t key port && fits t (put_of key port)) x) (sym e)
      (by_tests (is_renewed t key port) (is_news t key port && fits t (put_of key port)))

  -- where nothing is renewed
  unrenewed : is_renewed t key port ≡ false → learns port (Some key) (from t c) ≡ makes_all (from t c) (taught t key port)
  unrenewed e = ap (λ b. makes_all (if b then record (from t c) { control = renewed c key } else from t c) (taught t key port)) e

  pub learns_known : Known ≡ lesson_of t key port → from t c ≡ learns port (Some key) (from t c)
  learns_known e =
      let is = tests_of Known e in
      declined t c (put_of key port) (is_news t key port) is.1 ∙ sym (unrenewed is.0)

  pub fits_news : News ≡ lesson_of t key port → all_fit t (put_of key port ∷ []) ≡ true
  fits_news e = offered-fits t (put_of key port) (is_news t key port) (tests_of News e).1

  pub learns_news : News ≡ lesson_of t key port → makes_all (from t c) (put_of key port ∷ []) ≡ learns port (Some key) (from t c)
  learns_news e =
      let is = tests_of News e in
      offered t c (put_of key port) (is_news t key port) is.1 ∙ sym (unrenewed is.0)

  -- what is renewed is no news
  no_news : (o : Option (ℕ × Kind)) → option_map_or (λ e. is_dynamic e.1 && e.0 == port) o false ≡ true → option_map_or (λ e. is_dynamic e.1 && not (e.0 == port)) o true ≡ false
  no_news None e = absurd (cc)
  no_news (Some x) e = by (is_dynamic x.1) (x.0 == port) e
    where
      by : (d s : Bool) → (d && s) ≡ true → (d && not s) ≡ false
      by true true e = refl
      by true false e = absurd (cc)
      by false s e = absurd (cc)

  pub learns_renewed : Renewed ≡ lesson_of t key port → learns port (Some key) (from t c) ≡ record (from t c) { control = renewed c key }
  learns_renewed e =
      let is = tests_of Renewed e in
      ap (λ b. makes_all (if b then record (from t c) { control = renewed c key } else from t c) (taught t key port)) is
      ∙ ap (λ b. makes_all (record (from t c) { control = renewed c key }) (if b then put_of key port ∷ [] else [])) (no_news (get pair_cmp t.addr key) is)

  -- what is renewed is there
  pub is_there : Renewed ≡ lesson_of t key port → is_some (get pair_cmp t.addr key) ≡ true
  is_there e = by (get pair_cmp t.addr key) (tests_of Renewed e)
    where
      by : (o : Option (ℕ × Kind)) → option_map_or (λ e. is_dynamic e.1 && e.0 == port) o false ≡ true → is_some o ≡ true
      by None e = absurd (cc)
      by (Some x) e = refl

-- the spanning tree

-- a frame that it reads teaches nothing
pub heard_alone : (t : Table) (port : ℕ) (bytes : List ℕ) (head : Head) (event : TreeEvent) → heard t port bytes head ≡ Some event → teach t port head ≡ None
heard_alone t port bytes head event e =
    by (head.dst == bridge_group_address) (t.stp) (is_up t port && has_valid_source head) e
  where
    by : (at on may : Bool) → (if at && (on && may) then option_map (λ m. Message port m) (bpdu bytes) else None) ≡ Some event
        → (if not (head.dst == pause_address || (is_for_the_host head.dst || (at && on))) && has_valid_source head then teach_in t port (vlan_of t port head) head.src else None) ≡ None
    by false on may h = absurd (cc)
    by true false may h = absurd (cc)
    by true true false h = absurd (cc)
    by true true true h = reserved (head.dst == pause_address) (is_for_the_host head.dst)
      where
        reserved : (p q : Bool) → (if not (p || (q || true)) && has_valid_source head then teach_in t port (vlan_of t port head) head.src else None) ≡ None
        reserved true q = refl
        reserved false true = refl
        reserved false false = refl

-- no port has another state than itself
unmoved : (t : Tree) (ps : List ℕ) → filter (λ p. not (state_at t p == state_at t p)) ps ≡ []
unmoved t [] = refl
unmoved t (p ∷ ps) = ap (λ b. if not b then p ∷ filter (λ q. not (state_at t q == state_at t q)) ps else filter (λ q. not (state_at t q == state_at t q)) ps) (eqb-itself (state_at t p)) ∙ unmoved t ps

-- where nothing is due, nothing comes of telling the moment
pub told_idle : (r : Course) → tree_step r.control.tree r.control.now Moment ≡ quiet r.control.tree → r ≡ tells_tree (Some Moment) r
told_idle r idle =
    sym (
    ap (follows r) idle
    ∙ (λ i. makes_all (record r { messages = append-nil r.messages i }) (map (state_change r.control.tree) (unmoved r.control.tree (numbers r.control.tree.ports) i)))
    )

-- neither the moment nor the spanning tree changes with the table
same : (c : Control) (cs : List Change) → ((fold keeps_up c cs).now ≡ c.now) × ((fold keeps_up c cs).tree ≡ c.tree)
same c [] = (refl, refl)
same c (d ∷ ds) =
    let later = same (keeps_up c d) ds in
    let here = one c d in
    (later.0 ∙ here.0, later.1 ∙ here.1)
  where
    one : (c : Control) (d : Change) → ((keeps_up c d).now ≡ c.now) × ((keeps_up c d).tree ≡ c.tree)
    one c (changes.AddrPut vid mac port kind) = (refl, refl)
    one c d = (refl, refl)

pub same_clock : (c : Control) (cs : List Change) → (fold keeps_up c cs).now ≡ c.now
same_clock c cs = (same c cs).0

pub same_tree : (c : Control) (cs : List Change) → (fold keeps_up c cs).tree ≡ c.tree
same_tree c cs = (same c cs).1

-- the lines of the messages that went out on these ports
pub frames_of : (own : ℕ) (t : Tree) (ports : List ℕ)
    → flat_map (config_lines own t) ports ≡ control_lines own (filter_map (λ p. option_map (λ m. (p, m)) (message t p)) ports)
frames_of own t [] = refl
frames_of own t (p ∷ ports) = by (message t p) (frames_of own t ports)
  where
    by : (o : Option BpduMsg) → flat_map (config_lines own t) ports ≡ control_lines own (filter_map (λ p. option_map (λ m. (p, m)) (message t p)) ports)
        → line_of own p o ++ flat_map (config_lines own t) ports
        ≡ control_lines own (cons_option (option_map (λ m. (p, m)) o) (filter_map (λ p. option_map (λ m. (p, m)) (message t p)) ports))
    by None ih = ih
    by (Some m) ih = ap (λ (l : List Line). control_line own (p, m) ∷ l) ih

-- to renew an entry changes neither the moment nor the spanning tree
pub renewed_clock : (c : Control) (o : Option Address) → (renewed_at c o).now ≡ c.now
renewed_clock c None = refl
renewed_clock c (Some key) = refl

pub renewed_tree : (c : Control) (o : Option Address) → (renewed_at c o).tree ≡ c.tree
renewed_tree c None = refl
renewed_tree c (Some key) = refl

pub renewed_ends : (c : Control) (o : Option Address) → (renewed_at c o).ends ≡ c.ends
renewed_ends c None = refl
renewed_ends c (Some key) = refl
