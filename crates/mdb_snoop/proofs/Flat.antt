-- All members, one section behind another: what is done to a section is done to the whole.
use Rattle.std.proofs.Common.{◌≡◌, ℕ, ◌+◌, Bool, true, false, not, cond, ◌&&◌, Option, Some, None, List, [], ◌∷◌, ◌++◌, take, drop, refl, sym, ap, ◌∙◌}
use Rattle.std.specs.List.{list_all}
use Rattle.std.specs.Ordering.{nat_cmp, ordering_then, is_lt, is_gt, is_eq, eq_by_cmp}
use Rattle.std.specs.declared.cmp.Ordering.{Ordering}
use Rattle.std.specs.declared.cmp.Ordering.TheVariants.{Less, Equal, Greater}
use Rattle.std.specs.Cmp.{tied_itself, first_so, second_so}
use Rattle.std.specs.FinMap.Entries.{by_order, below_all}
use Rattle.std.proofs.lemmas.List.{take-append-drop, append_assoc}
use Rattle.std.proofs.lemmas.List.Folds.{list_all-append}
use Rattle.lemmas.proofs.Orders.{is_lt-true, is_gt-true}
use Rattle.br_model.specs.Table.GroupPairs.{GroupPair, group_pair_cmp}
use Rattle.br_model.specs.Table.Groups.{Membership, membership_cmp}
use Rattle.br_model.specs.Data.Maps.{get, put, without, is_ascending}
use Rattle.br_model.specs.Control.Ends.{end_of}
use Rattle.mdb_snoop.specs.Database.{joined_until, ending_soon, ended_sooner, end_joined}
use Rattle.mdb_snoop.specs.Places.{Sections, section, flat, all_below, all_above, is_fit, IsAt, IsGap}
use Rattle.mdb_snoop.proofs.Cuts.{below_first, get_front, get_above, put_front, put_above, without_front, without_above}
use Rattle.br_model.proofs.Table.GroupOrders.{pair_total, by_pair}

abbrev pub at_port : GroupPair → ℕ → Membership
at_port k p = (k.0, k.1, p)

-- one section

same : (k : GroupPair) (p q : ℕ) → membership_cmp (at_port k p) (at_port k q) ≡ nat_cmp p q
same k p q = by_pair k k p q ∙ ap (λ r. ordering_then r (nat_cmp p q)) (tied_itself pair_total k)

abbrev Above : Membership → List (Membership × Option ℕ) → Type 0
Above m rest = all_above membership_cmp m rest ≡ true

section_get : (k : GroupPair) (p : ℕ) (ms : List (ℕ × Option ℕ)) (rest : List (Membership × Option ℕ)) → Above (at_port k p) rest
    → get membership_cmp (section k ms ++ rest) (at_port k p) ≡ get nat_cmp ms p
section_get k p [] rest h = get_above membership_cmp (at_port k p) rest h
section_get k p (e ∷ ms) rest h =
    ap (λ r. cond (is_eq r) (Some e.1) (get membership_cmp (section k ms ++ rest) (at_port k p))) (same k p e.0)
    ∙ ap (λ o. cond (eq_by_cmp nat_cmp p e.0) (Some e.1) o) (section_get k p ms rest h)

section_put : (k : GroupPair) (p : ℕ) (x : Option ℕ) (ms : List (ℕ × Option ℕ)) (rest : List (Membership × Option ℕ)) → Above (at_port k p) rest
    → put membership_cmp (section k ms ++ rest) (at_port k p) x ≡ section k (put nat_cmp ms p x) ++ rest
section_put k p x [] rest h = put_above membership_cmp (at_port k p) x rest h
section_put k p x (e ∷ ms) rest h =
    ap (λ r. by_order r ((at_port k p, x) ∷ (at_port k e.0, e.1) ∷ (section k ms ++ rest)) ((at_port k e.0, x) ∷ (section k ms ++ rest))
    ((at_port k e.0, e.1) ∷ put membership_cmp (section k ms ++ rest) (at_port k p) x)) (same k p e.0)
    ∙ by (section_put k p x ms rest h) (nat_cmp p e.0)
  where
    by : put membership_cmp (section k ms ++ rest) (at_port k p) x ≡ section k (put nat_cmp ms p x) ++ rest → (r : Ordering)
        → by_order r ((at_port k p, x) ∷ (at_port k e.0, e.1) ∷ (section k ms ++ rest)) ((at_port k e.0, x) ∷ (section k ms ++ rest))
        ((at_port k e.0, e.1) ∷ put membership_cmp (section k ms ++ rest) (at_port k p) x)
        ≡ section k (by_order r ((p, x) ∷ e ∷ ms) ((e.0, x) ∷ ms) (e ∷ put nat_cmp ms p x)) ++ rest
    by rest_is Less = refl
    by rest_is Equal = refl
    by rest_is Greater = ap (λ f. (at_port k e.0, e.1) ∷ f) rest_is

section_without : (k : GroupPair) (p : ℕ) (ms : List (ℕ × Option ℕ)) (rest : List (Membership × Option ℕ)) → Above (at_port k p) rest
    → without membership_cmp (section k ms ++ rest) (at_port k p) ≡ section k (without nat_cmp ms p) ++ rest
section_without k p [] rest h = without_above membership_cmp (at_port k p) rest h
section_without k p (e ∷ ms) rest h =
    ap (λ r. cond (not (is_eq r)) ((at_port k e.0, e.1) ∷ left) left) (same k p e.0) ∙ by (section_without k p ms rest h) (eq_by_cmp nat_cmp p e.0)
  where
    left : List (Membership × Option ℕ)
    left = without membership_cmp (section k ms ++ rest) (at_port k p)

    by : left ≡ section k (without nat_cmp ms p) ++ rest → (b : Bool)
        → cond (not b) ((at_port k e.0, e.1) ∷ left) left ≡ section k (cond (not b) (e ∷ without nat_cmp ms p) (without nat_cmp ms p)) ++ rest
    by rest_is true = rest_is
    by rest_is false = ap (λ f. (at_port k e.0, e.1) ∷ f) rest_is

section_below : (k j : GroupPair) (p : ℕ) (ms : List (ℕ × Option ℕ)) → group_pair_cmp k j ≡ Greater → all_below membership_cmp (at_port k p) (section j ms) ≡ true
section_below k j p [] more = refl
section_below k j p (e ∷ ms) more =
    ap (λ r. is_gt r && all_below membership_cmp (at_port k p) (section j ms)) (by_pair k j p e.0 ∙ ap (λ r. ordering_then r (nat_cmp p e.0)) more)
    ∙ section_below k j p ms more

section_above : (k j : GroupPair) (p : ℕ) (ms : List (ℕ × Option ℕ)) → group_pair_cmp k j ≡ Less → all_above membership_cmp (at_port k p) (section j ms) ≡ true
section_above k j p [] less = refl
section_above k j p (e ∷ ms) less =
    ap (λ r. is_lt r && all_above membership_cmp (at_port k p) (section j ms)) (by_pair k j p e.0 ∙ ap (λ r. ordering_then r (nat_cmp p e.0)) less)
    ∙ section_above k j p ms less

-- all sections

pub flat-append : (xs ys : Sections) → flat (xs ++ ys) ≡ flat xs ++ flat ys
flat-append [] ys = refl
flat-append (s ∷ xs) ys = ap (λ f. section s.0 s.1 ++ f) (flat-append xs ys) ∙ sym (append_assoc (section s.0 s.1) (flat xs) (flat ys))

flat_below : (k : GroupPair) (p : ℕ) (ss : Sections) → all_below group_pair_cmp k ss ≡ true → all_below membership_cmp (at_port k p) (flat ss) ≡ true
flat_below k p [] h = refl
flat_below k p (s ∷ ss) h =
    list_all-append (λ e. is_gt (membership_cmp (at_port k p) e.0)) (section s.0 s.1) (flat ss)
    ∙ ap (λ b. b && all_below membership_cmp (at_port k p) (flat ss)) (section_below k s.0 p s.1 (is_gt-true _ (first_so _ _ h)))
    ∙ flat_below k p ss (second_so _ _ h)

flat_above : (k : GroupPair) (p : ℕ) (ss : Sections) → all_above group_pair_cmp k ss ≡ true → all_above membership_cmp (at_port k p) (flat ss) ≡ true
flat_above k p [] h = refl
flat_above k p (s ∷ ss) h =
    list_all-append (λ e. is_lt (membership_cmp (at_port k p) e.0)) (section s.0 s.1) (flat ss)
    ∙ ap (λ b. b && all_above membership_cmp (at_port k p) (flat ss)) (section_above k s.0 p s.1 (is_lt-true _ (first_so _ _ h)))
    ∙ flat_above k p ss (second_so _ _ h)

below_section : (k : GroupPair) (p : ℕ) (ms : List (ℕ × Option ℕ)) (rest : List (Membership × Option ℕ)) → below_all nat_cmp p ms ≡ true
    → below_all membership_cmp (at_port k p) rest ≡ true → below_all membership_cmp (at_port k p) (section k ms ++ rest) ≡ true
below_section k p [] rest h low = low
below_section k p (e ∷ ms) rest h low =
    ap (λ r. is_lt r && below_all membership_cmp (at_port k p) (section k ms ++ rest)) (same k p e.0)
    ∙ ap (λ b. b && below_all membership_cmp (at_port k p) (section k ms ++ rest)) (first_so _ _ h)
    ∙ below_section k p ms rest (second_so _ _ h) low

section-ascends : (k : GroupPair) (ms : List (ℕ × Option ℕ)) (rest : List (Membership × Option ℕ)) → is_ascending nat_cmp ms ≡ true
    → ((p : ℕ) → below_all membership_cmp (at_port k p) rest ≡ true) → is_ascending membership_cmp rest ≡ true → is_ascending membership_cmp (section k ms ++ rest) ≡ true
section-ascends k [] rest h low up = up
section-ascends k (e ∷ ms) rest h low up =
    ap (λ b. b && is_ascending membership_cmp (section k ms ++ rest)) (below_section k e.0 ms rest (first_so _ _ h) (low e.0))
    ∙ section-ascends k ms rest (second_so _ _ h) low up

above_first : (k : GroupPair) (ss : Sections) → below_all group_pair_cmp k ss ≡ true → all_above group_pair_cmp k ss ≡ true
above_first k [] h = refl
above_first k (s ∷ ss) h = ap (λ b. b && all_above group_pair_cmp k ss) (first_so _ _ h) ∙ above_first k ss (second_so _ _ h)

-- the whole ascends
pub flat-ascends : (ss : Sections) → is_ascending group_pair_cmp ss ≡ true → list_all (λ s. is_fit s.1) ss ≡ true → is_ascending membership_cmp (flat ss) ≡ true
flat-ascends [] h fit = refl
flat-ascends (s ∷ ss) h fit =
    section-ascends s.0 s.1 (flat ss) (second_so _ _ (first_so _ _ fit))
    (λ p. below_first membership_cmp (at_port s.0 p) (flat ss) (flat_above s.0 p ss (above_first s.0 ss (first_so _ _ h))))
    (flat-ascends ss (second_so _ _ h) (second_so _ _ fit))

-- the sections with these members at the place i
abbrev pub with_at : Sections → GroupPair → ℕ → List (ℕ × Option ℕ) → Sections
with_at ss k i ms = take i ss ++ (k, ms) ∷ drop (i + 1) ss

-- the sections with these members before the place i
abbrev pub with_before : Sections → GroupPair → ℕ → List (ℕ × Option ℕ) → Sections
with_before ss k i ms = take i ss ++ (k, ms) ∷ drop i ss

abbrev pub without_at : Sections → ℕ → Sections
without_at ss i = take i ss ++ drop (i + 1) ss

flat_with : (ss : Sections) (k : GroupPair) (i : ℕ) (ms : List (ℕ × Option ℕ)) → flat (with_at ss k i ms) ≡ flat (take i ss) ++ (section k ms ++ flat (drop (i + 1) ss))
flat_with ss k i ms = flat-append (take i ss) ((k, ms) ∷ drop (i + 1) ss)

module _ (ss : Sections) (k : GroupPair) (i p : ℕ) where
  -- where the key stands
  module _ (at : IsAt ss k i) where
    flat_is : flat ss ≡ flat (take i ss) ++ (section k at.members ++ flat (drop (i + 1) ss))
    flat_is = ap flat at.splits ∙ flat_with ss k i at.members

    front : all_below membership_cmp (at_port k p) (flat (take i ss)) ≡ true
    front = flat_below k p (take i ss) at.before

    back : Above (at_port k p) (flat (drop (i + 1) ss))
    back = flat_above k p (drop (i + 1) ss) at.after

    pub get-at : get membership_cmp (flat ss) (at_port k p) ≡ get nat_cmp at.members p
    get-at =
        ap (λ l. get membership_cmp l (at_port k p)) flat_is
        ∙ get_front membership_cmp (at_port k p) (flat (take i ss)) (section k at.members ++ flat (drop (i + 1) ss)) front
        ∙ section_get k p at.members (flat (drop (i + 1) ss)) back

    pub put-at : (x : Option ℕ) → flat (with_at ss k i (put nat_cmp at.members p x)) ≡ put membership_cmp (flat ss) (at_port k p) x
    put-at x =
        flat_with ss k i (put nat_cmp at.members p x)
        ∙ sym (
        ap (λ l. put membership_cmp l (at_port k p) x) flat_is
        ∙ put_front membership_cmp (at_port k p) x (flat (take i ss)) (section k at.members ++ flat (drop (i + 1) ss)) front
        ∙ ap (λ l. flat (take i ss) ++ l) (section_put k p x at.members (flat (drop (i + 1) ss)) back)
        )

    pub without-at : flat (with_at ss k i (without nat_cmp at.members p)) ≡ without membership_cmp (flat ss) (at_port k p)
    without-at =
        flat_with ss k i (without nat_cmp at.members p)
        ∙ sym (
        ap (λ l. without membership_cmp l (at_port k p)) flat_is
        ∙ without_front membership_cmp (at_port k p) (flat (take i ss)) (section k at.members ++ flat (drop (i + 1) ss)) front
        ∙ ap (λ l. flat (take i ss) ++ l) (section_without k p at.members (flat (drop (i + 1) ss)) back)
        )

    pub join-at : (end : Option ℕ) → flat (with_at ss k i (joined_until nat_cmp at.members p end)) ≡ joined_until membership_cmp (flat ss) (at_port k p) end
    join-at end = put-at (end_joined (get nat_cmp at.members p) end) ∙ ap (λ o. put membership_cmp (flat ss) (at_port k p) (end_joined o end)) (sym get-at)

    pub soon-at : (end : ℕ) → flat (with_at ss k i (ending_soon nat_cmp at.members p end)) ≡ ending_soon membership_cmp (flat ss) (at_port k p) end
    soon-at end = by (end_of (get nat_cmp at.members p)) ∙ ap (λ o. ended_sooner membership_cmp (flat ss) (at_port k p) end (end_of o)) (sym get-at)
      where
        by : (o : Option ℕ) → flat (with_at ss k i (ended_sooner nat_cmp at.members p end o)) ≡ ended_sooner membership_cmp (flat ss) (at_port k p) end o
        by None = ap flat (sym at.splits)
        by (Some old) = put-at _

    -- a section without members is none
    pub nothing-at : flat (without_at ss i) ≡ flat (with_at ss k i [])
    nothing-at = flat-append (take i ss) (drop (i + 1) ss) ∙ sym (flat_with ss k i [])

  -- where it would go
  module _ (gap : IsGap ss k i) where
    flat_cut : flat ss ≡ flat (take i ss) ++ flat (drop i ss)
    flat_cut = ap flat (sym (take-append-drop i ss)) ∙ flat-append (take i ss) (drop i ss)

    front_of : all_below membership_cmp (at_port k p) (flat (take i ss)) ≡ true
    front_of = flat_below k p (take i ss) gap.before

    back_of : Above (at_port k p) (flat (drop i ss))
    back_of = flat_above k p (drop i ss) gap.after

    pub get-gap : get membership_cmp (flat ss) (at_port k p) ≡ None
    get-gap =
        ap (λ l. get membership_cmp l (at_port k p)) flat_cut
        ∙ get_front membership_cmp (at_port k p) (flat (take i ss)) (flat (drop i ss)) front_of
        ∙ get_above membership_cmp (at_port k p) (flat (drop i ss)) back_of

    pub without-gap : flat ss ≡ without membership_cmp (flat ss) (at_port k p)
    without-gap =
        flat_cut
        ∙ sym (
        ap (λ l. without membership_cmp l (at_port k p)) flat_cut
        ∙ without_front membership_cmp (at_port k p) (flat (take i ss)) (flat (drop i ss)) front_of
        ∙ ap (λ l. flat (take i ss) ++ l) (without_above membership_cmp (at_port k p) (flat (drop i ss)) back_of)
        )

    pub join-gap : (end : Option ℕ) → flat (with_before ss k i ((p, end) ∷ [])) ≡ joined_until membership_cmp (flat ss) (at_port k p) end
    join-gap end =
        flat-append (take i ss) ((k, (p, end) ∷ []) ∷ drop i ss)
        ∙ sym (
        ap (λ o. put membership_cmp (flat ss) (at_port k p) (end_joined o end)) get-gap
        ∙ ap (λ l. put membership_cmp l (at_port k p) end) flat_cut
        ∙ put_front membership_cmp (at_port k p) end (flat (take i ss)) (flat (drop i ss)) front_of
        ∙ ap (λ l. flat (take i ss) ++ l) (put_above membership_cmp (at_port k p) end (flat (drop i ss)) back_of)
        )

    pub soon-gap : (end : ℕ) → flat ss ≡ ending_soon membership_cmp (flat ss) (at_port k p) end
    soon-gap end = ap (λ o. ended_sooner membership_cmp (flat ss) (at_port k p) end (end_of o)) (sym get-gap)
