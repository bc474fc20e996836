-- Of how many groups each port is a member, through a join and a part.
use Rattle.std.proofs.Common.{◌≡◌, ℕ, suc, ◌+◌, ◌-◌, ◌<◌, ◌≤◌, Bool, true, false, cond, not, Option, Some, None, List, [], ◌∷◌, length, map, get_or, set, replicate, refl, sym, ap, subst, ◌∙◌, arith}
use Rattle.std.specs.Prelude.{◌==◌, ◌&&◌, ◌||◌, is_some}
use Rattle.std.specs.List.{filter}
use Rattle.std.specs.Ordering.{nat_cmp, is_eq, eq_by_cmp}
use Rattle.std.specs.declared.cmp.Ordering.{Ordering}
use Rattle.std.specs.declared.cmp.Ordering.TheVariants.{Less, Equal, Greater}
use Rattle.std.specs.Cmp.{first_so, second_so}
use Rattle.std.specs.FinMap.Entries.{by_order}
use Rattle.std.proofs.Math.ListN.{length-set}
use Rattle.std.proofs.lemmas.Bool.{eqb-true, eq-eqb}
use Rattle.br_model.specs.Table.Domains.{port_places}
use Rattle.br_model.specs.declared.group.Group.{Group}
use Rattle.br_model.specs.Table.GroupPairs.{GroupPair, max_pairs}
use Rattle.br_model.specs.Table.Groups.{Membership, membership_cmp, group_cmp}
use Rattle.br_model.specs.Data.Maps.{get, put, without, is_ascending}
use Rattle.br_model.specs.Control.Ends.{keys}
use Rattle.br_model.proofs.Table.GroupOrders.{membership_total}
use Rattle.br_model.proofs.Table.GroupPairs.{equal_members}
use Rattle.port_sets.specs.Numbers.{has_number}
use Rattle.mdb_snoop.specs.Counts.{AreCounts}
use Rattle.mdb_snoop.specs.Database.{pairs_of_port, ports_in}
use Rattle.mdb_snoop.specs.Places.{Sections, flat, has_some, IsSound}
use Rattle.mdb_snoop.proofs.Cuts.{get_above, above_from}
use Rattle.mdb_snoop.proofs.Questions.{pairs-flat}
use Rattle.std.specs.Ordering.{nat_cmp}
use Rattle.lemmas.proofs.Orders.{is_eq-true}
use Rattle.lemmas.proofs.Lists.{get_or-zeros, get_or-set_as}

abbrev Members : Type 0
Members = List (Membership × Option ℕ)

abbrev one : ℕ → Membership → ℕ
one p k = cond (k.2 == p) 1 0

abbrev count : ℕ → Members → ℕ
count p m = length (pairs_of_port (keys m) p)

count-first : (p : ℕ) (e : Membership × Option ℕ) (m : Members) → count p (e ∷ m) ≡ one p e.0 + count p m
count-first p e m = by (e.0.2 == p)
  where
    rest : List Membership
    rest = filter (λ x. x.2 == p) (keys m)

    by : (b : Bool) → length {A = GroupPair} (map (λ (x : Membership). (x.0, x.1)) (cond b (e.0 ∷ rest) rest)) ≡ cond b 1 0 + length {A = GroupPair} (map (λ (x : Membership). (x.0, x.1)) rest)
    by true = omega arith
    by false = omega arith

count-put : (p : ℕ) (m : Members) (k : Membership) (x : Option ℕ) → is_ascending membership_cmp m ≡ true
    → count p (put membership_cmp m k x) ≡ cond (is_some (get membership_cmp m k)) 0 (one p k) + count p m
count-put p [] k x h = count-first p (k, x) []
count-put p (e ∷ m) k x h = by (count-put p m k x (second_so _ _ h)) (membership_cmp k e.0) refl
  where
    by : count p (put membership_cmp m k x) ≡ cond (is_some (get membership_cmp m k)) 0 (one p k) + count p m → (r : Ordering) → membership_cmp k e.0 ≡ r
        → count p (by_order r ((k, x) ∷ e ∷ m) ((e.0, x) ∷ m) (e ∷ put membership_cmp m k x))
        ≡ cond (is_some (cond (is_eq r) (Some e.1) (get membership_cmp m k))) 0 (one p k) + count p (e ∷ m)
    by rest Less is =
        let none : get membership_cmp m k ≡ None = get_above membership_cmp k m (above_from membership_cmp k e.0 (λ y more. membership_total.trans k e.0 y is more) m (first_so _ _ h)) in
        count-first p (k, x) (e ∷ m) ∙ ap (λ o. cond (is_some o) 0 (one p k) + count p (e ∷ m)) (sym none)
    by rest Equal is = (let before = count-first p e m in let after = count-first p (e.0, x) m in omega arith)
    by rest Greater is =
        let before = count-first p e m in
        let after = count-first p e (put membership_cmp m k x) in
        omega arith

count-without : (p : ℕ) (m : Members) (k : Membership) → is_ascending membership_cmp m ≡ true
    → count p (without membership_cmp m k) + cond (is_some (get membership_cmp m k)) (one p k) 0 ≡ count p m
count-without p [] k h = refl
count-without p (e ∷ m) k h = by (count-without p m k (second_so _ _ h)) (eq_by_cmp membership_cmp k e.0) refl
  where
    by : count p (without membership_cmp m k) + cond (is_some (get membership_cmp m k)) (one p k) 0 ≡ count p m → (b : Bool) → eq_by_cmp membership_cmp k e.0 ≡ b
        → count p (cond (not b) (e ∷ without membership_cmp m k) (without membership_cmp m k)) + cond (is_some (cond b (Some e.1) (get membership_cmp m k))) (one p k) 0 ≡ count p (e ∷ m)
    by rest true is =
        let same : k ≡ e.0 = equal_members k e.0 (is_eq-true _ is) in
        let none : get membership_cmp m k ≡ None = ap (get membership_cmp m) same ∙ get_above membership_cmp e.0 m (above_from membership_cmp e.0 e.0 (λ y more. more) m (first_so _ _ h)) in
        let gone : cond (is_some (get membership_cmp m k)) (one p k) 0 ≡ 0 = ap (λ o. cond (is_some o) (one p k) 0) none in
        let port : one p k ≡ one p e.0 = ap (one p) same in
        let before = count-first p e m in
        omega arith
    by rest false is =
        let before = count-first p e m in
        let after = count-first p e (without membership_cmp m k) in
        omega arith

-- at the beginning

pub counted-none : (counts : List ℕ) → counts ≡ replicate port_places 0 → AreCounts counts []
counted-none counts is = record {
  sized = ap length is;
  counted = λ p. ap (λ (l : List ℕ). get_or l p 0) is ∙ get_or-zeros port_places p;
}

not_true : (s : Bool) → true ≡ not s → s ≡ false
not_true true h = absurd (cc (h))
not_true false h = refl

not_false : (s : Bool) → false ≡ not s → s ≡ true
not_false true h = refl
not_false false h = absurd (cc (h))

module _ (counts : List ℕ) (m after : Members) (k : Membership) (are : AreCounts counts (keys m)) (sorted : is_ascending membership_cmp m ≡ true) where
  itself : one k.2 k ≡ 1
  itself = ap (λ b. cond b 1 0) (eq-eqb k.2 k.2 refl)

  pub counted-join : (new : List ℕ) (x : Option ℕ) (b : Bool) → after ≡ put membership_cmp m k x → b ≡ not (is_some (get membership_cmp m k))
      → new ≡ cond b (set counts k.2 (get_or counts k.2 0 + 1)) counts → k.2 < port_places → AreCounts new (keys after)
  counted-join new x b put_is new_is is low = subst (λ l. AreCounts l (keys after)) (sym is) (by b new_is)
    where
      grows : (p : ℕ) → count p after ≡ cond (is_some (get membership_cmp m k)) 0 (one p k) + count p m
      grows p = ap (count p) put_is ∙ count-put p m k x sorted

      by : (c : Bool) → c ≡ not (is_some (get membership_cmp m k)) → AreCounts (cond c (set counts k.2 (get_or counts k.2 0 + 1)) counts) (keys after)
      by true is_new =
          let absent : is_some (get membership_cmp m k) ≡ false = not_true _ is_new in
          record {
            sized = length-set counts k.2 (get_or counts k.2 0 + 1) ∙ are.sized;
            counted = λ p.
                get_or-set_as counts k.2 (get_or counts k.2 0 + 1) p (λ q. count q after) (subst (λ n. k.2 < n) (sym are.sized) low)
                (let more = grows k.2 in let new = ap (λ s. cond s 0 (one k.2 k)) absent in let all = are.counted k.2 in let self = itself in omega arith)
                (λ apart. (let more = grows p in let new = ap (λ s. cond s 0 (one p k)) absent in let all = are.counted p in let other : one p k ≡ 0 = ap (λ c. cond c 1 0) apart in omega arith));
          }
      by false is_old =
          let present : is_some (get membership_cmp m k) ≡ true = not_false _ is_old in
          record {
            sized = are.sized;
            counted = λ p. (let more = grows p in let old = ap (λ s. cond s 0 (one p k)) present in let all = are.counted p in omega arith);
          }

  pub counted-part : (new : List ℕ) (b : Bool) → after ≡ without membership_cmp m k → b ≡ is_some (get membership_cmp m k)
      → new ≡ cond b (set counts k.2 (get_or counts k.2 0 - 1)) counts → k.2 < port_places → AreCounts new (keys after)
  counted-part new b without_is was is low = subst (λ l. AreCounts l (keys after)) (sym is) (by b was)
    where
      shrinks : (p : ℕ) → count p after + cond (is_some (get membership_cmp m k)) (one p k) 0 ≡ count p m
      shrinks p = ap (λ l. count p l + cond (is_some (get membership_cmp m k)) (one p k) 0) without_is ∙ count-without p m k sorted

      by : (c : Bool) → c ≡ is_some (get membership_cmp m k) → AreCounts (cond c (set counts k.2 (get_or counts k.2 0 - 1)) counts) (keys after)
      by true present = record {
        sized = length-set counts k.2 (get_or counts k.2 0 - 1) ∙ are.sized;
        counted = λ p.
            get_or-set_as counts k.2 (get_or counts k.2 0 - 1) p (λ q. count q after) (subst (λ n. k.2 < n) (sym are.sized) low)
            (let less = shrinks k.2 in let old = ap (λ s. cond s (one k.2 k) 0) (sym present) in let all = are.counted k.2 in let self = itself in omega arith)
            (λ apart. (let less = shrinks p in let old = ap (λ s. cond s (one p k) 0) (sym present) in let all = are.counted p in let other : one p k ≡ 0 = ap (λ c. cond c 1 0) apart in omega arith));
      }
      by false absent = record {
        sized = are.sized;
        counted = λ p. (let less = shrinks p in let new = ap (λ s. cond s (one p k) 0) (sym absent) in let all = are.counted p in omega arith);
      }

  pub some-counted : (b : Bool) → b ≡ is_some (get membership_cmp m k) → b ≡ true → 0 < get_or counts k.2 0
  some-counted b was is =
      let left = count-without k.2 m k sorted in
      let old = ap (λ s. cond s (one k.2 k) 0) (sym was ∙ is) in
      let all = are.counted k.2 in
      let self = itself in
      omega arith

-- no more than there are pairs

filter-most : {X : Type 0} (t : X → Bool) (xs : List X) → length (filter t xs) ≤ length xs
filter-most t [] = omega arith
filter-most t (x ∷ xs) = by (filter-most t xs) (t x)
  where
    by : length (filter t xs) ≤ length xs → (b : Bool) → length (cond b (x ∷ filter t xs) (filter t xs)) ≤ length (x ∷ xs)
    by rest true = omega arith
    by rest false = omega arith

length-keys : {K X : Type 0} (m : List (K × X)) → length (keys m) ≡ length m
length-keys [] = refl
length-keys (e ∷ m) = ap suc (length-keys m)

pub few-counted : (ss : Sections) → IsSound ss → (counts : List ℕ) → AreCounts counts (keys (flat ss)) → (p : ℕ) → get_or counts p 0 ≤ max_pairs
few-counted ss sound counts are p =
    let those : Sections = filter (λ s. is_some (get nat_cmp s.1 p)) ss in
    let number : get_or counts p 0 ≡ length those = are.counted p ∙ ap length (sym (pairs-flat p ss sound.fit)) ∙ length-keys those in
    let most : length those ≤ length ss = filter-most (λ s. is_some (get nat_cmp s.1 p)) ss in
    let few = sound.few in
    subst (λ n. n ≤ max_pairs) (sym number) (omega arith)

-- a port that is a member of none

not_zero : (n : ℕ) → (suc n == 0) ≡ false
not_zero n =
    elim (suc n == 0) as (λ b. (suc n == 0) ≡ b → b ≡ false) [
      | true ↦ λ e. (let same = eqb-true (suc n) 0 e in absurd (omega arith))
      | false ↦ λ _. refl
    ] refl

some-length : {X : Type 0} (l : List X) → not (length l == 0) ≡ has_some l
some-length [] = refl
some-length (x ∷ l) = ap not (not_zero (length l))

pub is-member : (counts : List ℕ) (members : List Membership) (p : ℕ) → AreCounts counts members → not (get_or counts p 0 == 0) ≡ has_some (pairs_of_port members p)
is-member counts members p are = ap (λ n. not (n == 0)) (are.counted p) ∙ some-length (pairs_of_port members p)

pub no_member : (members : List Membership) (p v : ℕ) (g : Group) → has_some (pairs_of_port members p) ≡ false → has_number (ports_in members v g) p ≡ false
no_member [] p v g h = refl
no_member (m ∷ members) p v g h = by (no_member members p v g) (m.2 == p) refl h (m.0 == v && is_eq (group_cmp m.1 g))
  where
    those : List Membership
    those = filter (λ x. x.2 == p) members

    here : List Membership
    here = filter (λ x. x.0 == v && is_eq (group_cmp x.1 g)) members

    apart : (m.2 == p) ≡ false → (p == m.2) ≡ false
    apart is = elim (p == m.2) as (λ b. (p == m.2) ≡ b → b ≡ false) [
      | true ↦ λ same. (let back = eq-eqb m.2 p (sym (eqb-true p m.2 same)) in absurd (cc))
      | false ↦ λ _. refl
    ] refl

    by : (has_some (pairs_of_port members p) ≡ false → has_number (ports_in members v g) p ≡ false) → (b : Bool) → (m.2 == p) ≡ b
        → has_some {X = GroupPair} (map (λ (x : Membership). (x.0, x.1)) (cond b (m ∷ those) those)) ≡ false → (t : Bool)
        → has_number (map (λ (x : Membership). x.2) (cond t (m ∷ here) here)) p ≡ false
    by rest true is none t = absurd (cc (none))
    by rest false is none true = ap (λ b. b || has_number (map (λ (x : Membership). x.2) here) p) (apart is) ∙ rest none
    by rest false is none false = rest none
