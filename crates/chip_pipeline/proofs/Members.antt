-- The members of a group, and the rows of groups.
use Rattle.std.proofs.Common.{◌≡◌, ◌⊎◌, inl, inr, ℕ, Bool, true, false, not, ◌&&◌, ◌||◌, cond, None, Some, List, [], ◌∷◌, ◌++◌, map, refl, sym, ap, ap₂, ◌∙◌}
use Rattle.std.specs.Prelude.{◌==◌}
use Rattle.std.specs.List.{filter, list_any, range_with_len}
use Rattle.std.specs.Ordering.{nat_cmp, eq_by_cmp, is_eq, ordering_then, match_ordering}
use Rattle.std.specs.declared.cmp.Ordering.{Ordering}
use Rattle.std.specs.declared.cmp.Ordering.TheVariants.{Less, Equal, Greater}
use Rattle.std.specs.Cmp.{unsigned_tied}
use Rattle.std.proofs.lemmas.List.Folds.{list_any-append}
use Rattle.std.proofs.lemmas.Bool.{or_parts}
use Rattle.lemmas.proofs.Orders.{is_eq-then}
use Rattle.lemmas.proofs.Numbers.{eqb-sym}
use Rattle.lemmas.proofs.Tests.{and_assoc, or_twice, or_swap}
use Rattle.br_model.specs.declared.group.Group.{Group}
use Rattle.br_model.specs.declared.group.Group.TheVariants.{V4, V6}
use Rattle.br_model.specs.declared.frame.McastMsg.{McastMsg}
use Rattle.br_model.specs.declared.frame.McastMsg.TheVariants.{Plain, Payload, Query, Report, Leave, Records, Unrecognized}
use Rattle.br_model.specs.Forward.Admission.{member}
use Rattle.br_model.specs.Forward.Class.{is_snooped}
use Rattle.br_model.specs.Table.Domains.{Domains, port_places}
use Rattle.br_model.specs.Forward.Eligible.{may}
use Rattle.br_model.specs.Table.GroupPairs.{GroupPair, group_pair_cmp, group_pairs}
use Rattle.br_model.specs.Table.Groups.{Membership, group_cmp, is_link_local, is_six, membership_cmp}
use Rattle.br_model.specs.Data.Maps.{has, joined}
use Rattle.br_model.specs.Table.Table.{Table}
use Rattle.br_model.specs.Forward.Targets.{knows_querier, members_of, multicast_flood, snooped_targets}
use Rattle.br_model.proofs.Table.GroupOrders.{equal_pairs}
use Rattle.port_sets.specs.Numbers.{has_number}
use Rattle.port_sets.proofs.Numbers.{same_below}
use Rattle.chip_tables.specs.declared.rows.FanRow.{FanRow}
use Rattle.chip_tables.specs.Rows.{Rows, router_at}
use Rattle.chip_tables.specs.Stands.{IsVid, Stands, fan, fan_wanted, is_free, is_grouped, is_open, is_own, is_routed, ports_where, some_port}
use Rattle.chip_pipeline.specs.Ways.{Leads, group_wanted}
use Rattle.chip_pipeline.proofs.Leading.{needs-member}
use Rattle.chip_pipeline.proofs.Sets.{member-of}

-- ---- keys

numbers-turn : (m n : ℕ) → is_eq (nat_cmp m n) ≡ is_eq (nat_cmp n m)
numbers-turn m n = unsigned_tied m n ∙ eqb-sym m n ∙ sym (unsigned_tied n m)

groups-turn : (g h : Group) → is_eq (group_cmp g h) ≡ is_eq (group_cmp h g)
groups-turn (V4 m) (V4 n) = numbers-turn m n
groups-turn (V4 m) (V6 n) = refl
groups-turn (V6 m) (V4 n) = refl
groups-turn (V6 m) (V6 n) = numbers-turn m n

-- a membership is one of the group in the VLAN, of the port
of-group : (vid q : ℕ) (group : Group) (m : Membership) → eq_by_cmp membership_cmp (vid, group, q) m ≡ ((m.0 == vid && is_eq (group_cmp m.1 group)) && eq_by_cmp nat_cmp q m.2)
of-group vid q group m =
    is_eq-then (nat_cmp vid m.0) (ordering_then (group_cmp group m.1) (nat_cmp q m.2))
    ∙ ap₂ (λ a b. a && b) (unsigned_tied vid m.0 ∙ eqb-sym vid m.0) (is_eq-then (group_cmp group m.1) (nat_cmp q m.2) ∙ ap (λ b. b && is_eq (nat_cmp q m.2)) (groups-turn group m.1))
    ∙ and_assoc (m.0 == vid) (is_eq (group_cmp m.1 group)) (is_eq (nat_cmp q m.2))

pub grouped-is : (vid q : ℕ) (group : Group) (ms : List Membership)
    → has membership_cmp ms (vid, group, q) ≡ has nat_cmp (map (λ m. m.2) (filter (λ m. m.0 == vid && is_eq (group_cmp m.1 group)) ms)) q
grouped-is vid q group [] = refl
grouped-is vid q group (m ∷ ms) =
    ap₂ (λ a b. a || b) (of-group vid q group m) (grouped-is vid q group ms) ∙ step (m.0 == vid && is_eq (group_cmp m.1 group))
  where
    step : (b : Bool) → ((b && eq_by_cmp nat_cmp q m.2) || has nat_cmp (map (λ k. k.2) (filter (λ k. k.0 == vid && is_eq (group_cmp k.1 group)) ms)) q)
        ≡ has nat_cmp (map (λ k. k.2) (cond b (m ∷ filter (λ k. k.0 == vid && is_eq (group_cmp k.1 group)) ms) (filter (λ k. k.0 == vid && is_eq (group_cmp k.1 group)) ms))) q
    step true = refl
    step false = refl

-- ---- the pairs that have members

has-joined : (s : List GroupPair) (k q : GroupPair) → has group_pair_cmp (joined group_pair_cmp s k) q ≡ (eq_by_cmp group_pair_cmp q k || has group_pair_cmp s q)
has-joined [] k q = refl
has-joined (x ∷ xs) k q = step (has-joined xs k q) (group_pair_cmp k x) refl
  where
    step : has group_pair_cmp (joined group_pair_cmp xs k) q ≡ (eq_by_cmp group_pair_cmp q k || has group_pair_cmp xs q) → (r : Ordering) → group_pair_cmp k x ≡ r
        → has group_pair_cmp (match_ordering r (k ∷ x ∷ xs) (x ∷ xs) (x ∷ joined group_pair_cmp xs k)) q ≡ (eq_by_cmp group_pair_cmp q k || (eq_by_cmp group_pair_cmp q x || has group_pair_cmp xs q))
    step rest Less is = refl
    step rest Equal is = or_twice (eq_by_cmp group_pair_cmp q x) (has group_pair_cmp xs q)
        ∙ ap (λ n. eq_by_cmp group_pair_cmp q n || (eq_by_cmp group_pair_cmp q x || has group_pair_cmp xs q)) (sym (equal_pairs k x is))
    step rest Greater is = ap (λ b. eq_by_cmp group_pair_cmp q x || b) rest ∙ or_swap (eq_by_cmp group_pair_cmp q x) (eq_by_cmp group_pair_cmp q k) (has group_pair_cmp xs q)

-- a group without a pair has no member
pub no-pair : (vid q : ℕ) (group : Group) (ms : List Membership) → has group_pair_cmp (group_pairs ms) (vid, group) ≡ false → has membership_cmp ms (vid, group, q) ≡ false
no-pair vid q group [] none = refl
no-pair vid q group (m ∷ ms) none =
    let no = or_parts (eq_by_cmp group_pair_cmp (vid, group) (m.0, m.1)) (has group_pair_cmp (group_pairs ms) (vid, group)) (sym (has-joined (group_pairs ms) (m.0, m.1) (vid, group)) ∙ none) in
    ap₂ (λ a b. a || b) (apart (nat_cmp vid m.0) (group_cmp group m.1) (nat_cmp q m.2) no.0) (no-pair vid q group ms no.1)
  where
    apart : (a b c : Ordering) → is_eq (ordering_then a b) ≡ false → is_eq (ordering_then a (ordering_then b c)) ≡ false
    apart Less b c h = refl
    apart Equal Less c h = refl
    apart Equal Equal c h = absurd (cc)
    apart Equal Greater c h = refl
    apart Greater b c h = refl

-- ---- the row to members and routers

any_or : (p q : ℕ → Bool) (xs : List ℕ) → list_any (λ x. p x || q x) xs ≡ (list_any p xs || list_any q xs)
any_or p q [] = refl
any_or p q (x ∷ xs) = ap (λ b. (p x || q x) || b) (any_or p q xs) ∙ turn (p x) (q x) (list_any p xs) (list_any q xs)
  where
    turn : (a b c e : Bool) → ((a || b) || (c || e)) ≡ ((a || c) || (b || e))
    turn true b c e = refl
    turn false true true e = refl
    turn false true false e = refl
    turn false false c e = refl

same_any : (p q : ℕ → Bool) (xs : List ℕ) → ((x : ℕ) → p x ≡ q x) → list_any p xs ≡ list_any q xs
same_any p q [] h = refl
same_any p q (x ∷ xs) h = ap₂ (λ a b. a || b) (h x) (same_any p q xs h)

some-or : (own p q f : ℕ → Bool) → some_port (λ x. not (own x) && ((p x || q x) && f x)) ≡ (some_port (λ x. not (own x) && (p x && f x)) || some_port (λ x. not (own x) && (q x && f x)))
unfolding some_port
some-or own p q f = any_from own p q f 0 port_places
  where
    spread : (o a b c : Bool) → (not o && ((a || b) && c)) ≡ ((not o && (a && c)) || (not o && (b && c)))
    spread true a b c = refl
    spread false true true true = refl
    spread false true true false = refl
    spread false true false true = refl
    spread false true false false = refl
    spread false false b c = refl

    any_from : (own p q f : ℕ → Bool) (a n : ℕ)
        → list_any (λ x. not (own x) && ((p x || q x) && f x))
        (range_with_len a n) ≡ (list_any (λ x. not (own x) && (p x && f x)) (range_with_len a n) || list_any (λ x. not (own x) && (q x && f x)) (range_with_len a n))
    any_from own p q f a n = same_any _ _ (range_with_len a n) (λ x. spread (own x) (p x) (q x) (f x))
        ∙ any_or (λ x. not (own x) && (p x && f x)) (λ x. not (own x) && (q x && f x)) (range_with_len a n)

fan-both : (own target other eligible free : ℕ → Bool) (a b both : FanRow) → a ≡ fan own target eligible free → b ≡ fan own other eligible free
    → both.ports ≡ ports_where (λ q. has_number a.ports q || has_number b.ports q) → both.isolated ≡ (a.isolated || b.isolated) → both.plain ≡ (a.plain || b.plain)
    → both ≡ fan own (λ q. target q || other q) eligible free
fan-both own target other eligible free a b both is_a is_b ports isolated plain =
    λ i. record {
      ports =
          (ports
          ∙ same_below _ _ port_places (λ q low.
          ap₂ (λ x y. x || y) (member-of (λ m. own m && target m) a.ports q (ap (λ (r : FanRow). r.ports) is_a) low)
          (member-of (λ m. own m && other m) b.ports q (ap (λ (r : FanRow). r.ports) is_b) low)
          ∙ gather (own q) (target q) (other q))) i;
      isolated = (isolated ∙ ap₂ (λ (x y : FanRow). x.isolated || y.isolated) is_a is_b ∙ sym (some-or own target other free)) i;
      plain = (plain ∙ ap₂ (λ (x y : FanRow). x.plain || y.plain) is_a is_b ∙ sym (some-or own target other eligible)) i;
    }
  where
    gather : (o a b : Bool) → ((o && a) || (o && b)) ≡ (o && (a || b))
    gather true a b = refl
    gather false a b = refl

-- routers are asked for as members
routed : (g r m y : Bool) → y ≡ (m && y) → ((g || (r && m)) && y) ≡ ((g || r) && y)
routed true r m y e = refl
routed false true true y e = refl
routed false true false y e = sym e
routed false false m y e = refl

goals-are : (t : Table) (vid q : ℕ) (group : Group) → has nat_cmp (members_of t vid group ++ t.routers) q ≡ (is_grouped t vid group q || has nat_cmp t.routers q)
goals-are t vid q group = list_any-append (eq_by_cmp nat_cmp q) (members_of t vid group) t.routers ∙ ap (λ b. b || has nat_cmp t.routers q) (sym (grouped-is vid q group t.groups))

pub members-lead : (d : Domains) (dom : ℕ) (rows : Rows) (t : Table) (p vid : ℕ) (group : Group) (members routers row : FanRow) → Stands d dom rows t → IsVid vid
    → Some members ≡ group_wanted d dom t vid group → routers ≡ router_at rows vid
    → row.ports ≡ ports_where (λ q. has_number members.ports q || has_number routers.ports q) → row.isolated ≡ (members.isolated || routers.isolated) → row.plain ≡ (members.plain || routers.plain)
    → Leads d dom t p vid row (members_of t vid group ++ t.routers)
members-lead d dom rows t p vid group members routers row stands range found is ports isolated plain = record {
  target = λ q. is_grouped t vid group q || is_routed t vid q;
  wanted =
      fan-both (is_own d dom) (is_grouped t vid group) (is_routed t vid) (is_open t vid) (is_free t vid) members routers row (one (has group_pair_cmp (group_pairs t.groups) (vid, group)) found)
      (is ∙ stands.routers vid range) ports isolated plain;
  same = λ q low. routed (is_grouped t vid group q) (has nat_cmp t.routers q) (member t q vid) (may t p q vid) (needs-member t p q vid) ∙ ap (λ b. b && may t p q vid) (sym (goals-are t vid q group));
}
  where
    one : (b : Bool) → Some members ≡ cond b (Some (fan_wanted d dom t vid (is_grouped t vid group))) None → members ≡ fan_wanted d dom t vid (is_grouped t vid group)
    one true h = cc
    one false h = absurd (cc)

pub routers-lead : (d : Domains) (dom : ℕ) (rows : Rows) (t : Table) (p vid : ℕ) (group : Group) (row : FanRow) → Stands d dom rows t → IsVid vid → None ≡ group_wanted d dom t vid group
    → row ≡ router_at rows vid
    → Leads d dom t p vid row (members_of t vid group ++ t.routers)
routers-lead d dom rows t p vid group row stands range none is = record {
  target = is_routed t vid;
  wanted = is ∙ stands.routers vid range;
  same = λ q low.
      routed false (has nat_cmp t.routers q) (member t q vid) (may t p q vid) (needs-member t p q vid)
      ∙ ap (λ b. (b || has nat_cmp t.routers q) && may t p q vid) (sym (no-pair vid q group t.groups (empty (has group_pair_cmp (group_pairs t.groups) (vid, group)) none)))
      ∙ ap (λ b. b && may t p q vid) (sym (goals-are t vid q group));
}
  where
    empty : (b : Bool) → None ≡ cond b (Some (fan_wanted d dom t vid (is_grouped t vid group))) None → b ≡ false
    empty true h = absurd (cc)
    empty false h = refl

-- ---- where messages go

-- the targets of a message to a group
abbrev pub goals : Table → ℕ → McastMsg → List ℕ
goals t vid msg = cond t.snoop (snooped_targets t vid msg) (multicast_flood t)

-- whether packets to the group go to its members
abbrev pub to_members : Table → Group → Bool
to_members t group = t.snoop && (not (is_link_local group) && knows_querier t (is_six group))

pub members-goals : (t : Table) (vid : ℕ) (group : Group) → to_members t group ≡ true → goals t vid (Payload group) ≡ members_of t vid group ++ t.routers
members-goals t vid group h = by t.snoop (is_link_local group) (knows_querier t (is_six group)) h
  where
    by : (s l k : Bool) → (s && (not l && k)) ≡ true → cond s (cond (l || not k) (multicast_flood t) (members_of t vid group ++ t.routers)) (multicast_flood t) ≡ members_of t vid group ++ t.routers
    by true true k e = absurd (cc)
    by true false true e = refl
    by true false false e = absurd (cc)
    by false l k e = absurd (cc)

pub flood-goals : (t : Table) (vid : ℕ) (group : Group) → to_members t group ≡ false → goals t vid (Payload group) ≡ multicast_flood t
flood-goals t vid group h = by t.snoop (is_link_local group) (knows_querier t (is_six group)) h
  where
    by : (s l k : Bool) → (s && (not l && k)) ≡ false → cond s (cond (l || not k) (multicast_flood t) (members_of t vid group ++ t.routers)) (multicast_flood t) ≡ multicast_flood t
    by true true k e = refl
    by true false true e = absurd (cc)
    by true false false e = refl
    by false l k e = refl

snooped : (s : Bool) (xs : List ℕ) {ys : List ℕ} → (s && true) ≡ false → cond s xs ys ≡ ys
snooped true xs h = absurd (cc)
snooped false xs h = refl

plain : (s : Bool) {ys : List ℕ} → cond s ys ys ≡ ys
plain true = refl
plain false = refl

-- any other message that isn't caught is flooded
pub flooded : (t : Table) (vid : ℕ) (msg : McastMsg) → (t.snoop && is_snooped msg) ≡ false
    → (msg ≡ Plain) ⊎ (((x : Bool) × (y : Bool) × (msg ≡ Query x
    y)) ⊎ (((g : Group) × (msg ≡ Report g)) ⊎ (((g : Group) × (msg ≡ Leave g)) ⊎ (((x : Bool) × (y : ℕ) × (z : ℕ) × (msg ≡ Records x y z)) ⊎ (msg ≡ Unrecognized)))))
    → goals t vid msg ≡ multicast_flood t
flooded t vid Plain none is = plain t.snoop
flooded t vid (Payload g) none is = elim is [
  | inl e ↦ absurd (cc)
  | inr rest ↦ elim rest [
    | inl e ↦ absurd (cc (e.2))
    | inr rest2 ↦ elim rest2 [
      | inl e ↦ absurd (cc (e.1))
      | inr rest3 ↦ elim rest3 [
        | inl e ↦ absurd (cc (e.1))
        | inr rest4 ↦ elim rest4 [
          | inl e ↦ absurd (cc (e.3))
          | inr e ↦ absurd (cc)
        ]
      ]
    ]
  ]
]
flooded t vid (Query x y) none is = snooped t.snoop _ none
flooded t vid (Report g) none is = snooped t.snoop _ none
flooded t vid (Leave g) none is = snooped t.snoop _ none
flooded t vid (Records x y z) none is = snooped t.snoop _ none
flooded t vid Unrecognized none is = snooped t.snoop _ none

-- a row leads where equal targets are
pub lead-alike : (d : Domains) (dom : ℕ) (t : Table) (p vid : ℕ) (row : FanRow) (xs ys : List ℕ) → Leads d dom t p vid row xs → ys ≡ xs → Leads d dom t p vid row ys
lead-alike d dom t p vid row xs ys leads is =
    record { target = leads.target; wanted = leads.wanted; same = λ q low. leads.same q low ∙ ap (λ (zs : List ℕ). has nat_cmp zs q && may t p q vid) (sym is) }
