-- What questions find in the sections.
use Rattle.std.proofs.Common.{◌≡◌, ℕ, zero, suc, ◌+◌, ◌<◌, Bool, true, false, cond, ◌&&◌, ◌||◌, Option, Some, None, List, [], ◌∷◌, ◌++◌, length, map, take, drop, get_or, refl, sym, ap, ◌∙◌, arith}
use Rattle.std.specs.Prelude.{◌==◌, nat_lt, is_some, slice_get}
use Rattle.std.specs.List.{filter, list_all}
use Rattle.std.specs.Ordering.{nat_cmp, is_eq, is_lt, eq_by_cmp, match_ordering, ordering_reverse}
use Rattle.std.specs.declared.cmp.Ordering.TheVariants.{Less}
use Rattle.std.specs.Cmp.{tied_itself, first_so, second_so, nat_cmp_total, unsigned_ties}
use Rattle.std.specs.FinMap.Entries.{below_all, is_some-find}
use Rattle.std.proofs.lemmas.List.{take-append-drop, take_more, append_assoc, append-nil, map-append, length-map}
use Rattle.std.proofs.lemmas.Bool.{eqb-true, ltb-true}
use Rattle.std.proofs.lemmas.List.Elements.{filter-append}
use Rattle.lemmas.proofs.Orders.{is_lt-true, is_gt-true}
use Rattle.br_model.specs.declared.group.Group.{Group}
use Rattle.br_model.specs.Table.GroupPairs.{GroupPair, group_pair_cmp, group_pairs, has_room, max_pairs}
use Rattle.br_model.specs.Table.Groups.{Membership, group_cmp}
use Rattle.br_model.specs.Data.Maps.{get, has, joined, is_ascending}
use Rattle.br_model.specs.Control.Ends.{due_members, is_over, keys}
use Rattle.mdb_snoop.specs.Database.{ports_in, pairs_of_port}
use Rattle.mdb_snoop.specs.Places.{Section, Sections, section, flat, all_below, all_above, has_some, is_fit, IsSound, IsAt, IsGap}
use Rattle.port_sets.specs.Numbers.{has_number}
use Rattle.mdb_snoop.proofs.Flat.{at_port, flat-append}
use Rattle.mdb_snoop.proofs.Mapped.{tied_back}
use Rattle.mdb_snoop.proofs.Search.{is_at}
use Rattle.br_model.proofs.Table.GroupOrders.{pair_total, is_of_pair}

-- the ports of a group in a VLAN

ports-append : (v : ℕ) (g : Group) (xs ys : List (Membership × Option ℕ)) → ports_in (keys (xs ++ ys)) v g ≡ ports_in (keys xs) v g ++ ports_in (keys ys) v g
ports-append v g xs ys =
    let test : Membership → Bool = λ m. m.0 == v && is_eq (group_cmp m.1 g) in
    ap (λ l. map (λ m. m.2) (filter test l)) (map-append (λ x. x.0) xs ys)
    ∙ ap (λ l. map (λ m. m.2) l) (filter-append test (keys xs) (keys ys))
    ∙ map-append (λ m. m.2) (filter test (keys xs)) (filter test (keys ys))

ports-section : (k j : GroupPair) (ms : List (ℕ × Option ℕ)) (b : Bool) → is_eq (group_pair_cmp k j) ≡ b → ports_in (keys (section j ms)) k.0 k.1 ≡ cond b (keys ms) []
ports-section k j [] true is = refl
ports-section k j [] false is = refl
ports-section k j (e ∷ ms) true is =
    let rest : List Membership = filter (λ m. m.0 == k.0 && is_eq (group_cmp m.1 k.1)) (keys (section j ms)) in
    ap (λ b. map (λ m. m.2) (cond b (at_port j e.0 ∷ rest) rest)) (is_of_pair k j ∙ is) ∙ ap (λ l. e.0 ∷ l) (ports-section k j ms true is)
ports-section k j (e ∷ ms) false is =
    let rest : List Membership = filter (λ m. m.0 == k.0 && is_eq (group_cmp m.1 k.1)) (keys (section j ms)) in
    ap (λ b. map (λ m. m.2) (cond b (at_port j e.0 ∷ rest) rest)) (is_of_pair k j ∙ is) ∙ ports-section k j ms false is

ports-below : (k : GroupPair) (ss : Sections) → all_below group_pair_cmp k ss ≡ true → ports_in (keys (flat ss)) k.0 k.1 ≡ []
ports-below k [] h = refl
ports-below k (s ∷ ss) h =
    ports-append k.0 k.1 (section s.0 s.1) (flat ss)
    ∙ ap (λ l. l ++ ports_in (keys (flat ss)) k.0 k.1) (ports-section k s.0 s.1 false (ap is_eq (is_gt-true _ (first_so _ _ h))))
    ∙ ports-below k ss (second_so _ _ h)

ports-above : (k : GroupPair) (ss : Sections) → all_above group_pair_cmp k ss ≡ true → ports_in (keys (flat ss)) k.0 k.1 ≡ []
ports-above k [] h = refl
ports-above k (s ∷ ss) h =
    ports-append k.0 k.1 (section s.0 s.1) (flat ss)
    ∙ ap (λ l. l ++ ports_in (keys (flat ss)) k.0 k.1) (ports-section k s.0 s.1 false (ap is_eq (is_lt-true _ (first_so _ _ h))))
    ∙ ports-above k ss (second_so _ _ h)

pub ports-at : (ss : Sections) (k : GroupPair) (i : ℕ) (at : IsAt ss k i) → keys at.members ≡ ports_in (keys (flat ss)) k.0 k.1
ports-at ss k i at =
    let front = take i ss in
    let back = drop (i + 1) ss in
    sym (
    ap (λ l. ports_in (keys l) k.0 k.1) (ap flat at.splits ∙ flat-append front ((k, at.members) ∷ back))
    ∙ ports-append k.0 k.1 (flat front) (section k at.members ++ flat back)
    ∙ ap (λ l. l ++ ports_in (keys (section k at.members ++ flat back)) k.0 k.1) (ports-below k front at.before)
    ∙ ports-append k.0 k.1 (section k at.members) (flat back)
    ∙ ap (λ l. l ++ ports_in (keys (flat back)) k.0 k.1) (ports-section k k at.members true (ap is_eq (tied_itself pair_total k)))
    ∙ ap (λ l. keys at.members ++ l) (ports-above k back at.after)
    ∙ append-nil (keys at.members)
    )

pub ports-gap : (ss : Sections) (k : GroupPair) (i : ℕ) → IsGap ss k i → [] ≡ ports_in (keys (flat ss)) k.0 k.1
ports-gap ss k i gap =
    sym (
    ap (λ l. ports_in (keys l) k.0 k.1) (ap flat (sym (take-append-drop i ss)) ∙ flat-append (take i ss) (drop i ss))
    ∙ ports-append k.0 k.1 (flat (take i ss)) (flat (drop i ss))
    ∙ ap (λ l. l ++ ports_in (keys (flat (drop i ss))) k.0 k.1) (ports-below k (take i ss) gap.before)
    ∙ ports-above k (drop i ss) gap.after
    )

-- the groups of a port

pairs-append : (p : ℕ) (xs ys : List (Membership × Option ℕ)) → pairs_of_port (keys (xs ++ ys)) p ≡ pairs_of_port (keys xs) p ++ pairs_of_port (keys ys) p
pairs-append p xs ys =
    let test : Membership → Bool = λ m. m.2 == p in
    ap (λ l. map (λ m. (m.0, m.1)) (filter test l)) (map-append (λ x. x.0) xs ys)
    ∙ ap (λ l. map (λ m. (m.0, m.1)) l) (filter-append test (keys xs) (keys ys))
    ∙ map-append (λ m. (m.0, m.1)) (filter test (keys xs)) (filter test (keys ys))

apart : (p q : ℕ) → nat_cmp p q ≡ Less → (q == p) ≡ false
apart p q less = unsigned_ties q p ∙ ap is_eq (nat_cmp_total.antisymm q p) ∙ ap (λ r. is_eq (ordering_reverse r)) less

pairs-none : (k : GroupPair) (p : ℕ) (ms : List (ℕ × Option ℕ)) → below_all nat_cmp p ms ≡ true → pairs_of_port (keys (section k ms)) p ≡ []
pairs-none k p [] h = refl
pairs-none k p (e ∷ ms) h =
    let rest : List Membership = filter (λ m. m.2 == p) (keys (section k ms)) in
    ap (λ b. map (λ m. (m.0, m.1)) (cond b (at_port k e.0 ∷ rest) rest)) (apart p e.0 (is_lt-true _ (first_so _ _ h))) ∙ pairs-none k p ms (second_so _ _ h)

pairs-section : (k : GroupPair) (p : ℕ) (ms : List (ℕ × Option ℕ)) → is_ascending nat_cmp ms ≡ true → pairs_of_port (keys (section k ms)) p ≡ cond (is_some (get nat_cmp ms p)) (k ∷ []) []
pairs-section k p [] h = refl
pairs-section k p (e ∷ ms) h = by (pairs-section k p ms (second_so _ _ h)) (e.0 == p) refl
  where
    rest : List Membership
    rest = filter (λ m. m.2 == p) (keys (section k ms))

    by : map (λ m. (m.0, m.1)) rest ≡ cond (is_some (get nat_cmp ms p)) (k ∷ []) [] → (b : Bool) → (e.0 == p) ≡ b
        → map (λ m. (m.0, m.1)) (cond (e.0 == p) (at_port k e.0 ∷ rest) rest) ≡ cond (is_some (cond (eq_by_cmp nat_cmp p e.0) (Some e.1) (get nat_cmp ms p))) (k ∷ []) []
    by ih true is =
        let none : map (λ m. (m.0, m.1)) rest ≡ [] = pairs-none k p ms (ap (λ q. below_all nat_cmp q ms) (sym (eqb-true e.0 p is)) ∙ first_so _ _ h) in
        rw (is, tied_back e.0 p true is) (ap (λ l. k ∷ l) none)
    by ih false is = rw (is, tied_back e.0 p false is) ih

pub pairs-flat : (p : ℕ) (ss : Sections) → list_all (λ s. is_fit s.1) ss ≡ true → keys (filter (λ s. is_some (get nat_cmp s.1 p)) ss) ≡ pairs_of_port (keys (flat ss)) p
pairs-flat p [] h = refl
pairs-flat p (s ∷ ss) h =
    by (pairs-flat p ss (second_so _ _ h)) (is_some (get nat_cmp s.1 p))
    ∙ ap (λ l. l ++ pairs_of_port (keys (flat ss)) p) (sym (pairs-section s.0 p s.1 (second_so _ _ (first_so _ _ h))))
    ∙ sym (pairs-append p (section s.0 s.1) (flat ss))
  where
    left : Sections
    left = filter (λ s. is_some (get nat_cmp s.1 p)) ss

    by : keys left ≡ pairs_of_port (keys (flat ss)) p → (b : Bool) → keys (cond b (s ∷ left) left) ≡ cond b (s.0 ∷ []) [] ++ pairs_of_port (keys (flat ss)) p
    by ih true = ap (λ l. s.0 ∷ l) ih
    by ih false = ih

-- what ends

pub due-append : (now : ℕ) (xs ys : List (Membership × Option ℕ)) → due_members now (xs ++ ys) ≡ due_members now xs ++ due_members now ys
due-append now xs ys =
    ap keys (filter-append (λ x. is_over now x.1) xs ys) ∙ map-append (λ x. x.0) (filter (λ x. is_over now x.1) xs) (filter (λ x. is_over now x.1) ys)

pub due-section : (now : ℕ) (k : GroupPair) (ms : List (ℕ × Option ℕ)) → due_members now (section k ms) ≡ map (λ p. at_port k p) (due_members now ms)
due-section now k [] = refl
due-section now k (e ∷ ms) = by (due-section now k ms) (is_over now e.1)
  where
    left : List (ℕ × Option ℕ)
    left = filter (λ x. is_over now x.1) ms

    ended : List (Membership × Option ℕ)
    ended = filter (λ x. is_over now x.1) (section k ms)

    by : keys ended ≡ map (λ p. at_port k p) (keys left) → (b : Bool) → keys (cond b ((at_port k e.0, e.1) ∷ ended) ended) ≡ map (λ p. at_port k p) (keys (cond b (e ∷ left) left))
    by ih true = ap (λ l. at_port k e.0 ∷ l) ih
    by ih false = ih

-- the pairs of VLAN and group

above_keys : (k : GroupPair) (ss : Sections) → below_all group_pair_cmp k ss ≡ true → list_all (λ j. is_lt (group_pair_cmp k j)) (keys ss) ≡ true
above_keys k [] h = refl
above_keys k (s ∷ ss) h = ap (λ b. b && list_all (λ j. is_lt (group_pair_cmp k j)) (keys ss)) (first_so _ _ h) ∙ above_keys k ss (second_so _ _ h)

joined-first : (k : GroupPair) (js : List GroupPair) → list_all (λ j. is_lt (group_pair_cmp k j)) js ≡ true → joined group_pair_cmp js k ≡ k ∷ js
joined-first k [] h = refl
joined-first k (j ∷ js) h = ap (λ r. match_ordering r (k ∷ j ∷ js) (j ∷ js) (j ∷ joined group_pair_cmp js k)) (is_lt-true _ (first_so _ _ h))

pairs-one : (k : GroupPair) (e : ℕ × Option ℕ) (ms : List (ℕ × Option ℕ)) (rest : List (Membership × Option ℕ)) → list_all (λ j. is_lt (group_pair_cmp k j)) (group_pairs (keys rest)) ≡ true
    → group_pairs (keys (section k (e ∷ ms) ++ rest)) ≡ k ∷ group_pairs (keys rest)
pairs-one k e [] rest h = joined-first k (group_pairs (keys rest)) h
pairs-one k e (f ∷ ms) rest h =
    ap (λ l. joined group_pair_cmp l k) (pairs-one k f ms rest h)
    ∙ ap (λ r. match_ordering r (k ∷ k ∷ group_pairs (keys rest)) (k ∷ group_pairs (keys rest)) (k ∷ joined group_pair_cmp (group_pairs (keys rest)) k)) (tied_itself pair_total k)

pairs-first : (k : GroupPair) (ms : List (ℕ × Option ℕ)) (rest : List (Membership × Option ℕ)) (ks : List GroupPair) → has_some ms ≡ true → group_pairs (keys rest) ≡ ks
    → list_all (λ j. is_lt (group_pair_cmp k j)) ks ≡ true
    → group_pairs (keys (section k ms ++ rest)) ≡ k ∷ ks
pairs-first k [] rest ks some is h = absurd (cc (some))
pairs-first k (e ∷ ms) rest ks some is h = pairs-one k e ms rest (ap (list_all (λ j. is_lt (group_pair_cmp k j))) is ∙ h) ∙ ap (λ l. k ∷ l) is

pub pairs-all : (ss : Sections) → is_ascending group_pair_cmp ss ≡ true → list_all (λ s. is_fit s.1) ss ≡ true → group_pairs (keys (flat ss)) ≡ keys ss
pairs-all [] h f = refl
pairs-all (s ∷ ss) h f =
    pairs-first s.0 s.1 (flat ss) (keys ss) (first_so _ _ (first_so _ _ f)) (pairs-all ss (second_so _ _ h) (second_so _ _ f)) (above_keys s.0 ss (first_so _ _ h))

pub room-is : (ss : Sections) (v : ℕ) (g : Group) → IsSound ss → has_room (keys (flat ss)) v g ≡ (is_some (get group_pair_cmp ss (v, g)) || nat_lt (length ss) max_pairs)
room-is ss v g sound =
    ap (λ l. has group_pair_cmp l (v, g) || nat_lt (length l) max_pairs) (pairs-all ss sound.ascending sound.fit)
    ∙ ap (λ b. b || nat_lt (length (keys ss)) max_pairs) (sym (is_some-find group_pair_cmp (v, g) ss))
    ∙ ap (λ n. is_some (get group_pair_cmp ss (v, g)) || nat_lt n max_pairs) (length-map ss (λ s. s.0))

pub room-for : (ss : Sections) (v : ℕ) (g : Group) → IsSound ss → has_room (keys (flat ss)) v g ≡ true → get group_pair_cmp ss (v, g) ≡ None → length ss < max_pairs
room-for ss v g sound room none =
    ltb-true (length ss) max_pairs (sym (ap (λ o. is_some o || nat_lt (length ss) max_pairs) none) ∙ sym (room-is ss v g sound) ∙ room)

-- a list that grows member by member
pub push-next : (f : ℕ → Membership) (p : ℕ) (seen : List ℕ) (start out new : List Membership) → out ≡ start ++ map f seen → new ≡ out ++ f p ∷ [] → new ≡ start ++ map f (seen ++ p ∷ [])
push-next f p seen start out new is then_is =
    then_is
    ∙ ap (λ l. l ++ f p ∷ []) is
    ∙ append_assoc start (map f seen) (f p ∷ [])
    ∙ ap (λ l. start ++ l) (sym (map-append f seen (p ∷ [])))

-- the sections so far, with the next one
pub due-next : (now i : ℕ) (ss : Sections) (d s : Section) (ended new : List Membership) → i < length ss → s ≡ get_or ss i d → ended ≡ due_members now (flat (take i ss))
    → new ≡ ended ++ due_members now (section s.0 s.1) → new ≡ due_members now (flat (take (i + 1) ss))
due-next now i ss d s ended new within is so_far then_is =
    then_is
    ∙ ap (λ l. l ++ due_members now (section s.0 s.1)) so_far
    ∙ sym (due-append now (flat (take i ss)) (section s.0 s.1))
    ∙ ap (due_members now) (ap (λ l. flat (take i ss) ++ l) (sym (append-nil (section s.0 s.1))) ∙ sym (flat-append (take i ss) (s ∷ [])))
    ∙ ap (λ l. due_members now (flat l)) (sym (take_more ss i d within ∙ ap (λ x. take i ss ++ x ∷ []) (sym is)))

pub pairs-count : (ss : Sections) → IsSound ss → length ss ≡ length (group_pairs (keys (flat ss)))
pairs-count ss sound = sym (length-map ss (λ s. s.0)) ∙ ap length (sym (pairs-all ss sound.ascending sound.fit))

-- a member at the place of a key

has-keys : (ms : List (ℕ × Option ℕ)) (p : ℕ) → is_some (get nat_cmp ms p) ≡ has_number (keys ms) p
has-keys [] p = refl
has-keys (e ∷ ms) p = by (has-keys ms p) (eq_by_cmp nat_cmp p e.0) ∙ ap (λ b. b || has_number (keys ms) p) (sym (unsigned_ties p e.0))
  where
    by : is_some (get nat_cmp ms p) ≡ has_number (keys ms) p → (b : Bool) → is_some (cond b (Some e.1) (get nat_cmp ms p)) ≡ (b || has_number (keys ms) p)
    by ih true = refl
    by ih false = ih

key_there : (ss : Sections) (i : ℕ) (k : GroupPair) (d : Section) → slice_get (keys ss) i ≡ Some k → (i < length ss) × (slice_get ss i ≡ Some (get_or ss i d)) × ((get_or ss i d).0 ≡ k)
key_there [] i k d is = absurd (cc (is))
key_there (s ∷ ss) zero k d is = (omega arith, refl, cc)
key_there (s ∷ ss) (suc i) k d is =
    let rest = key_there ss i k d is in
    (omega (arith, rest.0), rest.1, rest.2)

pub member-there : (ss : Sections) (i p v : ℕ) (g : Group) (b : Bool) → IsSound ss → slice_get (group_pairs (keys (flat ss))) i ≡ Some (v, g)
    → ((s : Section) → slice_get ss i ≡ Some s → b ≡ is_some (get nat_cmp s.1 p)) → b ≡ has_number (ports_in (keys (flat ss)) v g) p
member-there ss i p v g b sound is reads =
    let k : GroupPair = (v, g) in
    let d : Section = (k, []) in
    let there = key_there ss i k d (ap (λ ks. slice_get ks i) (sym (pairs-all ss sound.ascending sound.fit)) ∙ is) in
    let at = is_at ss k i d (get_or ss i d) sound.ascending there.0 refl (ap (group_pair_cmp k) there.2 ∙ tied_itself pair_total k) in
    reads (get_or ss i d) there.1
    ∙ ap (λ s. is_some (get nat_cmp s.1 p)) (at.reads d)
    ∙ has-keys at.members p
    ∙ ap (λ l. has_number l p) (ports-at ss k i at)
