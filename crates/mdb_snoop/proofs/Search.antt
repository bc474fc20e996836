-- Where a key stands among the sections.
use Rattle.std.proofs.Common.{◌≡◌, ℕ, ◌+◌, ◌<◌, true, false, refl, [], cond, Some, None, List, ◌∷◌, ◌++◌, length, take, drop, get_or, set, Option, sym, ap, ◌∙◌}
use Rattle.std.specs.Ordering.{nat_cmp, is_eq}
use Rattle.std.specs.declared.cmp.Ordering.TheVariants.{Equal}
use Rattle.std.specs.Cmp.{tied_itself}
use Rattle.std.proofs.lemmas.List.{take-append-drop, get_or_default}
use Rattle.br_model.specs.Table.GroupPairs.{GroupPair, group_pair_cmp}
use Rattle.br_model.specs.Table.Groups.{membership_cmp}
use Rattle.br_model.specs.Data.Maps.{get, without, is_ascending}
use Rattle.mdb_snoop.specs.Places.{Section, Sections, flat, has_some, IsAt, IsGap, all_below, all_above}
use Rattle.mdb_snoop.proofs.Cuts.{cut, set-splits, before_place, after_place, get_front, get_above}
use Rattle.mdb_snoop.proofs.Flat.{with_at, without_at, at_port, nothing-at, without-at}
use Rattle.br_model.proofs.Table.GroupOrders.{pair_total, equal_pairs}

-- the key is what stands at i
pub is_at : (ss : Sections) (k : GroupPair) (i : ℕ) (d e : Section) → is_ascending group_pair_cmp ss ≡ true → i < length ss → e ≡ get_or ss i d → group_pair_cmp k e.0 ≡ Equal → IsAt ss k i
is_at ss k i d e sorted within is same =
    let key : k ≡ e.0 = equal_pairs k e.0 same in
    let entry : e ≡ (k, e.1) = ap (λ j. (j, e.1)) (sym key) in
    record {
      members = e.1;
      reads = λ x. get_or_default ss i x d within ∙ sym is ∙ entry;
      splits = cut group_pair_cmp ss i d within ∙ ap (λ x. take i ss ++ x ∷ drop (i + 1) ss) (sym is ∙ entry);
      within = within;
      before = ap (λ j. all_below group_pair_cmp j (take i ss)) key ∙ before_place group_pair_cmp pair_total ss i d e sorted within is;
      after = ap (λ j. all_above group_pair_cmp j (drop (i + 1) ss)) key ∙ after_place group_pair_cmp pair_total ss i d e sorted within is;
    }

pub present : (ss : Sections) (k : GroupPair) (i : ℕ) (at : IsAt ss k i) → get group_pair_cmp ss k ≡ Some at.members
present ss k i at =
    ap (λ l. get group_pair_cmp l k) at.splits
    ∙ get_front group_pair_cmp k (take i ss) ((k, at.members) ∷ drop (i + 1) ss) at.before
    ∙ ap (λ r. cond (is_eq r) (Some at.members) (get group_pair_cmp (drop (i + 1) ss) k)) (tied_itself pair_total k)

pub absent : (ss : Sections) (k : GroupPair) (i : ℕ) → IsGap ss k i → get group_pair_cmp ss k ≡ None
absent ss k i gap =
    ap (λ l. get group_pair_cmp l k) (sym (take-append-drop i ss))
    ∙ get_front group_pair_cmp k (take i ss) (drop i ss) gap.before
    ∙ get_above group_pair_cmp k (drop i ss) gap.after

-- other members at the place
pub written : (ss new : Sections) (k : GroupPair) (i : ℕ) (at : IsAt ss k i) (f : List (ℕ × Option ℕ) → List (ℕ × Option ℕ))
    → ((d : Section) → new ≡ set ss i ((get_or ss i d).0, f (get_or ss i d).1)) → new ≡ with_at ss k i (f at.members)
written ss new k i at f is =
    let d : Section = (k, at.members) in
    is d ∙ set-splits ss i _ at.within ∙ ap (λ s. take i ss ++ (s.0, f s.1) ∷ drop (i + 1) ss) (at.reads d)

nothing : (ms : List (ℕ × Option ℕ)) → has_some ms ≡ false → ms ≡ []
nothing [] e = refl
nothing (m ∷ ms) e = absurd (cc (e))

-- the last member leaves, and the section goes
pub left_out : (ss new : Sections) (k : GroupPair) (i p : ℕ) (at : IsAt ss k i) → has_some (without nat_cmp at.members p) ≡ false → new ≡ without_at ss i
    → flat new ≡ without membership_cmp (flat ss) (at_port k p)
left_out ss new k i p at last is =
    ap flat is ∙ nothing-at ss k i p at ∙ ap (λ ms. flat (with_at ss k i ms)) (sym (nothing _ last)) ∙ without-at ss k i p at
