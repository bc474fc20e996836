-- Which changes are made, and which are left out.
use Rattle.std.proofs.Common.{◌≡◌, ℕ, ◌<◌, ◌≤◌, nat_lt, nat_le, Bool, ◌||◌, cond, ◌⊎◌, Option, None, Some, true, false, List, [], ◌∷◌, map, length, refl, ap, arith, inl, inr}
use Rattle.std.proofs.lemmas.Bool.{or_parts}
use Rattle.std.proofs.lemmas.Bool.Decides.{nat_tests}
use Rattle.std.proofs.lemmas.List.Elements.{All-nil, All-cons}
use Rattle.std.specs.List.{All}
use Rattle.std.specs.Option.{is_some}
use Rattle.br_model.specs.declared.change.Change.{Change}
use Rattle.br_model.specs.declared.change.Change.TheVariants.{SetState, GroupJoin, AddrPut}
use Rattle.br_model.specs.declared.change.Kind.{Kind}
use Rattle.br_model.specs.declared.steps.Step.{Step}
use Rattle.br_model.specs.declared.tree.TreeEvent.{TreeEvent}
use Rattle.br_model.specs.Control.Course.{Course, makes}
use Rattle.br_model.specs.Control.TreeReaction.{states}
use Rattle.br_model.specs.Data.Maps.{pair_cmp, get, has}
use Rattle.br_model.specs.Plane.Runs.{run}
use Rattle.br_model.specs.Table.GroupPairs.{group_pair_cmp, group_pairs, max_pairs}
use Rattle.br_model.specs.Table.Limits.{fits, most_addresses}
use Rattle.br_model.specs.Table.Setup.{Setup}
use Rattle.br_model.specs.Table.Table.{Table}
use Rattle.br_model.specs.Theorems.StatesAgree.{IsBeyond, IsUnknown, with_change}
use Rattle.br_model.specs.Theorems.TreeLaws.{knows_states}
use Rattle.br_model.specs.Tree.Step.{tree_step, moved}
use Rattle.br_model.specs.Tree.Tree.{Tree, state_at}
use Rattle.br_model.proofs.Control.StatesAgree.{run-agrees}
use Rattle.br_model.proofs.Trees.Kept.{known-at, known-kept}

pub tree-known : (tree : Tree) (now : ℕ) (event : TreeEvent) → knows_states tree ≡ true → All (λ c. ¬ IsUnknown c) (states tree (tree_step tree now event).tree)
tree-known tree now event known = each (tree_step tree now event).tree (known-kept tree now event known) (moved tree (tree_step tree now event).tree)
  where
    each : (after : Tree) → knows_states after ≡ true → (ps : List ℕ) → All (λ c. ¬ IsUnknown c) (map (λ p. SetState p (state_at after p)) ps)
    each after known [] = All-nil (λ c. ¬ IsUnknown c)
    each after known (p ∷ ps) =
        let low : state_at after p ≤ 4 = known-at after p known in
        All-cons (λ c. ¬ IsUnknown c) (SetState p (state_at after p)) (map (λ p. SetState p (state_at after p)) ps) (λ high. omega (arith, low, high))
        (each after known ps)

pub run-known : (setup : Setup) (steps : List Step) (now : ℕ) (event : TreeEvent)
    → All (λ c. ¬ IsUnknown c) (states (run setup steps).0.control.tree (tree_step (run setup steps).0.control.tree now event).tree)
run-known setup steps now event = tree-known (run setup steps).0.control.tree now event (run-agrees setup steps).known

above : (n m : ℕ) → nat_le n m ≡ false → m < n
above n m e = grind (arith, nat_tests)

not-within : (n m : ℕ) → m < n → nat_le n m ≡ false
not-within n m e = grind (arith, nat_tests)

at-least : (n m : ℕ) → nat_lt n m ≡ false → m ≤ n
at-least n m e = grind (arith, nat_tests)

not-below : (n m : ℕ) → m ≤ n → nat_lt n m ≡ false
not-below n m e = grind (arith, nat_tests)

neither : (a b : Bool) → a ≡ false → b ≡ false → (a || b) ≡ false
neither false false e f = refl
neither true b e f = absurd (cc (e))
neither false true e f = absurd (cc (f))

nothing-there : (o : Option (ℕ × Kind)) → is_some o ≡ false → o ≡ None
nothing-there None e = refl
nothing-there (Some x) e = absurd (cc (e))

unfit : (t : Table) (c : Change) → fits t c ≡ false → IsBeyond t c ⊎ IsUnknown c
unfit t (SetState port state) e = inr (above state 4 e)
unfit t (GroupJoin port vid group) e =
    let both = or_parts (has group_pair_cmp (group_pairs t.groups) (vid, group)) (nat_lt (length (group_pairs t.groups)) max_pairs) e in
    inl (both.0, at-least (length (group_pairs t.groups)) max_pairs both.1)
unfit t (AddrPut vid mac port kind) e =
    let both = or_parts (is_some (get pair_cmp t.addr (vid, mac))) (nat_lt (length t.addr) most_addresses) e in
    inl (nothing-there (get pair_cmp t.addr (vid, mac)) both.0, at-least (length t.addr) most_addresses both.1)
unfit t c e = absurd (cc (e))

beyond-unfit : (t : Table) (c : Change) → IsBeyond t c → fits t c ≡ false
beyond-unfit t (GroupJoin port vid group) x =
    neither (has group_pair_cmp (group_pairs t.groups) (vid, group)) (nat_lt (length (group_pairs t.groups)) max_pairs) x.0
    (not-below (length (group_pairs t.groups)) max_pairs x.1)
beyond-unfit t (AddrPut vid mac port kind) x =
    neither (is_some (get pair_cmp t.addr (vid, mac))) (nat_lt (length t.addr) most_addresses) (ap is_some x.0) (not-below (length t.addr) most_addresses x.1)
beyond-unfit t c x = absurd x

unknown-unfit : (t : Table) (c : Change) → IsUnknown c → fits t c ≡ false
unknown-unfit t (SetState port state) x = not-within state 4 x
unknown-unfit t c x = absurd x

pub is-made : (r : Course) (c : Change) → (¬ IsBeyond r.table c) → (¬ IsUnknown c) → makes r c ≡ with_change r c
is-made r c room known =
    (elim (fits r.table c) as (λ b. fits r.table c ≡ b → cond b (with_change r c) r ≡ with_change r c) [
      | true ↦ λ e. refl
      | false ↦ λ e. elim (unfit r.table c e) [ inl x ↦ absurd (room x) | inr x ↦ absurd (known x) ]
    ]) refl

left-unfit : (r : Course) (c : Change) → fits r.table c ≡ false → makes r c ≡ r
left-unfit r c e = ap (λ b. cond b (with_change r c) r) e

pub beyond-left : (r : Course) (c : Change) → IsBeyond r.table c → makes r c ≡ r
beyond-left r c x = left-unfit r c (beyond-unfit r.table c x)

pub unknown-left : (r : Course) (c : Change) → IsUnknown c → makes r c ≡ r
unknown-left r c x = left-unfit r c (unknown-unfit r.table c x)
