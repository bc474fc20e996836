-- What sections keep, when one of them changes, comes or goes.
use Rattle.std.proofs.Common.{◌≡◌, ℕ, suc, ◌+◌, ◌<◌, ◌≤◌, true, false, not, cond, Option, Some, None, List, [], ◌∷◌, ◌++◌, length, take, drop, refl, sym, ap, ◌∙◌, arith, length-append, subst}
use Rattle.std.specs.Prelude.{is_some, min}
use Rattle.std.specs.List.{list_all}
use Rattle.std.specs.Ordering.{nat_cmp, is_eq}
use Rattle.std.specs.declared.cmp.Ordering.{Ordering}
use Rattle.std.specs.declared.cmp.Ordering.TheVariants.{Less, Equal, Greater}
use Rattle.std.specs.Cmp.{tied_itself, first_so, second_so, nat_cmp_total}
use Rattle.std.specs.FinMap.Entries.{by_order, is_some-find}
use Rattle.std.proofs.lemmas.List.{take-append-drop}
use Rattle.std.proofs.lemmas.List.Folds.{list_all-append}
use Rattle.std.proofs.lemmas.Bool.{and_from}
use Rattle.std.proofs.Math.Nat.{add-suc}
use Rattle.br_model.specs.Table.GroupPairs.{GroupPair, group_pair_cmp, max_pairs}
use Rattle.br_model.specs.Table.Groups.{Membership, membership_cmp}
use Rattle.br_model.specs.Data.Maps.{get, has, put, without, is_ascending}
use Rattle.br_model.proofs.Data.KeySets.{keys-put_there, ascending-put, ascending-without}
use Rattle.br_model.specs.Control.Ends.{Ends, end_of, keys, lasts}
use Rattle.mdb_snoop.specs.Database.{joined_until, ending_soon, ended_sooner, end_joined, memberships}
use Rattle.mdb_snoop.specs.Places.{Sections, flat, has_some, is_fit, IsSound, IsAt, IsGap}
use Rattle.mdb_snoop.proofs.Cuts.{put_front, put_above, without_front, without_above}
use Rattle.mdb_snoop.proofs.Flat.{with_at, with_before, without_at, flat-ascends}
use Rattle.br_model.proofs.Table.GroupOrders.{pair_total, membership_total}

-- members

some-put : (ms : List (ℕ × Option ℕ)) (p : ℕ) (x : Option ℕ) → has_some (put nat_cmp ms p x) ≡ true
some-put [] p x = refl
some-put (e ∷ ms) p x = by (nat_cmp p e.0)
  where
    by : (r : Ordering) → has_some (by_order r ((p, x) ∷ e ∷ ms) ((e.0, x) ∷ ms) (e ∷ put nat_cmp ms p x)) ≡ true
    by Less = refl
    by Equal = refl
    by Greater = refl

fit-put : (ms : List (ℕ × Option ℕ)) (p : ℕ) (x : Option ℕ) → is_fit ms ≡ true → is_fit (put nat_cmp ms p x) ≡ true
fit-put ms p x h = and_from _ _ (some-put ms p x) (ascending-put nat_cmp nat_cmp_total ms p x (second_so _ _ h))

pub fit-joined : (ms : List (ℕ × Option ℕ)) (p : ℕ) (end : Option ℕ) → is_fit ms ≡ true → is_fit (joined_until nat_cmp ms p end) ≡ true
fit-joined ms p end h = fit-put ms p (end_joined (get nat_cmp ms p) end) h

pub fit-soon : (ms : List (ℕ × Option ℕ)) (p end : ℕ) → is_fit ms ≡ true → is_fit (ending_soon nat_cmp ms p end) ≡ true
fit-soon ms p end h = by (end_of (get nat_cmp ms p))
  where
    by : (o : Option ℕ) → is_fit (ended_sooner nat_cmp ms p end o) ≡ true
    by None = h
    by (Some old) = fit-put ms p _ h

pub fit-without : (ms : List (ℕ × Option ℕ)) (p : ℕ) → is_fit ms ≡ true → has_some (without nat_cmp ms p) ≡ true → is_fit (without nat_cmp ms p) ≡ true
fit-without ms p h some = and_from _ _ some (ascending-without nat_cmp ms p (second_so _ _ h))

-- sections

fits-append : (xs ys : Sections) → list_all (λ s. is_fit s.1) xs ≡ true → list_all (λ s. is_fit s.1) ys ≡ true → list_all (λ s. is_fit s.1) (xs ++ ys) ≡ true
fits-append xs ys h k = list_all-append (λ s. is_fit s.1) xs ys ∙ and_from _ _ h k

fits-parts : (xs ys : Sections) → list_all (λ s. is_fit s.1) (xs ++ ys) ≡ true → (list_all (λ s. is_fit s.1) xs ≡ true) × (list_all (λ s. is_fit s.1) ys ≡ true)
fits-parts xs ys h =
    let both = sym (list_all-append (λ s. is_fit s.1) xs ys) ∙ h in
    (first_so _ _ both, second_so _ _ both)

module _ (ss : Sections) (k : GroupPair) (i : ℕ) (sound : IsSound ss) where
  module _ (at : IsAt ss k i) where
    parts : (list_all (λ s. is_fit s.1) (take i ss) ≡ true) × (list_all (λ s. is_fit s.1) ((k, at.members) ∷ drop (i + 1) ss) ≡ true)
    parts = fits-parts (take i ss) ((k, at.members) ∷ drop (i + 1) ss) (ap (list_all (λ s. is_fit s.1)) (sym at.splits) ∙ sound.fit)

    -- the members at the key
    pub fit-at : is_fit at.members ≡ true
    fit-at = first_so _ _ parts.1

    put_is : (ns : List (ℕ × Option ℕ)) → put group_pair_cmp ss k ns ≡ with_at ss k i ns
    put_is ns =
        ap (λ l. put group_pair_cmp l k ns) at.splits
        ∙ put_front group_pair_cmp k ns (take i ss) ((k, at.members) ∷ drop (i + 1) ss) at.before
        ∙ ap (λ r. take i ss ++ by_order r ((k, ns) ∷ (k, at.members) ∷ drop (i + 1) ss) ((k, ns) ∷ drop (i + 1) ss) ((k, at.members) ∷ put group_pair_cmp (drop (i + 1) ss) k ns))
        (tied_itself pair_total k)

    without_is : without group_pair_cmp ss k ≡ without_at ss i
    without_is =
        ap (λ l. without group_pair_cmp l k) at.splits
        ∙ without_front group_pair_cmp k (take i ss) ((k, at.members) ∷ drop (i + 1) ss) at.before
        ∙ ap (λ r. take i ss ++ cond (not (is_eq r)) ((k, at.members) ∷ without group_pair_cmp (drop (i + 1) ss) k) (without group_pair_cmp (drop (i + 1) ss) k)) (tied_itself pair_total k)
        ∙ ap (λ l. take i ss ++ l) (without_above group_pair_cmp k (drop (i + 1) ss) at.after)

    pub sound-with : (ns : List (ℕ × Option ℕ)) → is_fit ns ≡ true → IsSound (with_at ss k i ns)
    sound-with ns h = record {
      ascending = ap (is_ascending group_pair_cmp) (sym (put_is ns)) ∙ ascending-put group_pair_cmp pair_total ss k ns sound.ascending;
      fit = fits-append (take i ss) ((k, ns) ∷ drop (i + 1) ss) parts.0 (and_from _ _ h (second_so _ _ parts.1));
      few = subst (λ n. n ≤ max_pairs) (ap length at.splits ∙ length-append (take i ss) ((k, at.members) ∷ drop (i + 1) ss) ∙ sym (length-append (take i ss) ((k, ns) ∷ drop (i + 1) ss))) sound.few;
    }

    pub sound-without : IsSound (without_at ss i)
    sound-without = record {
      ascending = ap (is_ascending group_pair_cmp) (sym without_is) ∙ ascending-without group_pair_cmp ss k sound.ascending;
      fit = fits-append (take i ss) (drop (i + 1) ss) parts.0 (second_so _ _ parts.1);
      few =
          let whole : length ss ≡ suc (length (take i ss) + length (drop (i + 1) ss)) = ap length at.splits ∙ length-append (take i ss) ((k, at.members) ∷ drop (i + 1) ss)
          ∙ add-suc (length (take i ss)) (length (drop (i + 1) ss)) in
          omega (arith, whole, length-append (take i ss) (drop (i + 1) ss), sound.few);
    }

  module _ (gap : IsGap ss k i) where
    put_gap_is : (ns : List (ℕ × Option ℕ)) → put group_pair_cmp ss k ns ≡ with_before ss k i ns
    put_gap_is ns =
        ap (λ l. put group_pair_cmp l k ns) (sym (take-append-drop i ss))
        ∙ put_front group_pair_cmp k ns (take i ss) (drop i ss) gap.before
        ∙ ap (λ l. take i ss ++ l) (put_above group_pair_cmp k ns (drop i ss) gap.after)

    pub sound-before : (ns : List (ℕ × Option ℕ)) → is_fit ns ≡ true → length ss < max_pairs → IsSound (with_before ss k i ns)
    sound-before ns h room = record {
      ascending = ap (is_ascending group_pair_cmp) (sym (put_gap_is ns)) ∙ ascending-put group_pair_cmp pair_total ss k ns sound.ascending;
      fit =
          let cut = fits-parts (take i ss) (drop i ss) (ap (list_all (λ s. is_fit s.1)) (take-append-drop i ss) ∙ sound.fit) in
          fits-append (take i ss) ((k, ns) ∷ drop i ss) cut.0 (and_from _ _ h cut.1);
      few =
          let whole : length ss ≡ length (take i ss) + length (drop i ss) = ap length (sym (take-append-drop i ss)) ∙ length-append (take i ss) (drop i ss) in
          let more : length (with_before ss k i ns) ≡ suc (length (take i ss) + length (drop i ss)) = length-append (take i ss) ((k, ns) ∷ drop i ss)
          ∙ add-suc (length (take i ss)) (length (drop i ss)) in
          omega (arith, whole, more, room);
    }

-- the whole

pub groups-ascend : (ss : Sections) → IsSound ss → is_ascending membership_cmp (flat ss) ≡ true
groups-ascend ss sound = flat-ascends ss sound.ascending sound.fit

-- a sooner end takes no membership out
pub soon-keys : (m : List (Membership × Option ℕ)) (k : Membership) (end : ℕ) → is_ascending membership_cmp m ≡ true → keys (ending_soon membership_cmp m k end) ≡ keys m
soon-keys m k end h = by (get membership_cmp m k) refl
  where
    by : (o : Option (Option ℕ)) → get membership_cmp m k ≡ o → keys (ended_sooner membership_cmp m k end (end_of o)) ≡ keys m
    by None is = refl
    by (Some None) is = refl
    by (Some (Some old)) is = keys-put_there membership_cmp membership_total m k (Some (min old end)) h (ap is_some is)

put-twice : {X : Type 0} (m : List (Membership × X)) (k : Membership) (x y : X) → put membership_cmp (put membership_cmp m k x) k y ≡ put membership_cmp m k y
put-twice [] k x y = ap (λ r. by_order r ((k, y) ∷ (k, x) ∷ []) ((k, y) ∷ []) ((k, x) ∷ (k, y) ∷ [])) (tied_itself membership_total k)
put-twice {X} (e ∷ m) k x y = by (put-twice m k x y) (membership_cmp k e.0) refl
  where
    by : put membership_cmp (put membership_cmp m k x) k y ≡ put membership_cmp m k y → (r : Ordering) → membership_cmp k e.0 ≡ r
        → put membership_cmp (by_order r ((k, x) ∷ e ∷ m) ((e.0, x) ∷ m) (e ∷ put membership_cmp m k x)) k y ≡ by_order r ((k, y) ∷ e ∷ m) ((e.0, y) ∷ m) (e ∷ put membership_cmp m k y)
    by rest Less is = ap (λ r. by_order r ((k, y) ∷ (k, x) ∷ e ∷ m) ((k, y) ∷ e ∷ m) ((k, x) ∷ put membership_cmp (e ∷ m) k y)) (tied_itself membership_total k)
    by rest Equal is = ap (λ r. by_order r ((k, y) ∷ (e.0, x) ∷ m) ((e.0, y) ∷ m) ((e.0, x) ∷ put membership_cmp m k y)) is
    by rest Greater is =
        ap (λ r. by_order r ((k, y) ∷ e ∷ put membership_cmp m k x) ((e.0, y) ∷ put membership_cmp m k x) (e ∷ put membership_cmp (put membership_cmp m k x) k y)) is
        ∙ ap (λ l. e ∷ l) rest

-- a membership that is new is made without end, and then gets its end
pub made : (e : Ends) (k : Membership) (end : Option ℕ) (moment : ℕ) → end ≡ Some moment → has membership_cmp (memberships e) k ≡ false
    → record e { groups = joined_until membership_cmp e.groups k end } ≡ lasts (lasts e k None) k (Some moment)
made e k end moment is new =
    ap (λ o. record e { groups = joined_until membership_cmp e.groups k o }) is
    ∙ ap (λ o. record e { groups = put membership_cmp e.groups k (end_joined o (Some moment)) }) (absent (get membership_cmp e.groups k) (is_some-find membership_cmp k e.groups ∙ new))
    ∙ ap (λ l. record e { groups = l }) (sym (put-twice e.groups k None (Some moment)))
  where
    absent : (o : Option (Option ℕ)) → is_some o ≡ false → o ≡ None
    absent None h = refl
    absent (Some end) h = absurd (cc (h))
