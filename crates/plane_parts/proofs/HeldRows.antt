-- Held frames, which stand under their own ids in the order of these.
use Rattle.std.proofs.Common.{◌≡◌, ℕ, ◌≤◌, ◌==◌, nat_lt, Bool, true, false, not, cond, ◌&&◌, List, [], ◌∷◌, ◌++◌, length, refl, sym, ap, ◌∙◌, arith}
use Rattle.std.specs.List.{list_all, filter, find}
use Rattle.std.specs.Ordering.{nat_cmp}
use Rattle.std.specs.declared.cmp.Ordering.TheVariants.{Greater}
use Rattle.std.specs.Map.{lookup, remove_entry}
use Rattle.std.specs.BTreeMap.{is_at, insert_entry}
use Rattle.std.specs.Cmp.{first_so, second_so}
use Rattle.std.proofs.lemmas.Bool.{eqb-true}
use Rattle.br_model.specs.Plane.World.{Holding}
use Rattle.plane_parts.specs.Queued.{ascends, held_ids, held_in, under_ids}

is_at_id : (id k : ℕ) → is_at (nat_cmp id) k ≡ (k == id)
is_at_id id k = grind arith

pub found : (id : ℕ) (held : List Holding) → lookup (is_at (nat_cmp id)) (under_ids held) ≡ find (λ h. h.waiting.id == id) held
found id [] = refl
found id (h ∷ held) = rw (is_at_id id h.waiting.id, found id held) refl

pub held_under : (held : List Holding) → held_in (under_ids held) ≡ held
held_under [] = refl
held_under (h ∷ held) = ap (λ hs. h ∷ hs) (held_under held)

-- whether it has another id
others : ℕ → Holding → Bool
others id h = not (h.waiting.id == id)

-- no later frame has an earlier one's id
all_others : (id : ℕ) (held : List Holding) (ys : List ℕ) → list_all (λ m. nat_lt id m) (held_ids held ++ ys) ≡ true
    → filter (λ h. not (h.waiting.id == id)) held ≡ held
all_others id [] ys below = refl
all_others id (h ∷ held) ys below = rw (apart id h.waiting.id (first_so _ _ below)) (ap (λ hs. h ∷ hs) (all_others id held ys (second_so _ _ below)))
  where
    apart : (id k : ℕ) → nat_lt id k ≡ true → (k == id) ≡ false
    apart id k less = grind arith

pub remaining : (id : ℕ) (held : List Holding) (ys : List ℕ) → ascends (held_ids held ++ ys) ≡ true
    → remove_entry (is_at (nat_cmp id)) (under_ids held) ≡ under_ids (filter (λ h. not (h.waiting.id == id)) held)
remaining id [] ys up = refl
remaining id (h ∷ held) ys up =
    rw (is_at_id id h.waiting.id)
    (elim (h.waiting.id == id) as (λ b. (h.waiting.id == id) ≡ b
    → cond b (under_ids held) ((h.waiting.id, h) ∷ remove_entry (is_at (nat_cmp id)) (under_ids held)) ≡ under_ids
    (cond (not b) (h ∷ filter (λ k. not (k.waiting.id == id)) held) (filter (λ k. not (k.waiting.id == id)) held))) [
      | true ↦ λ e. ap under_ids (sym (all_others id held ys (rw (sym (eqb-true h.waiting.id id e)) (first_so _ _ up))))
      | false ↦ λ e. ap (λ es. (h.waiting.id, h) ∷ es) (remaining id held ys (second_so _ _ up))
    ] refl)

below_filter : (p : ℕ → Bool) (t : Holding → Bool) (held : List Holding) (ys : List ℕ) → list_all p (held_ids held ++ ys) ≡ true → list_all p (held_ids (filter t held) ++ ys) ≡ true
below_filter p t [] ys h = h
below_filter p t (x ∷ held) ys h = elim (t x) as (λ b. list_all p (held_ids (cond b (x ∷ filter t held) (filter t held)) ++ ys) ≡ true) [
  | true ↦ ap (λ b. b && list_all p (held_ids (filter t held) ++ ys)) (first_so _ _ h) ∙ below_filter p t held ys (second_so _ _ h)
  | false ↦ below_filter p t held ys (second_so _ _ h)
]

pub ascends_filter : (t : Holding → Bool) (held : List Holding) (ys : List ℕ) → ascends (held_ids held ++ ys) ≡ true → ascends (held_ids (filter t held) ++ ys) ≡ true
ascends_filter t [] ys up = up
ascends_filter t (x ∷ held) ys up = elim (t x) as (λ b. ascends (held_ids (cond b (x ∷ filter t held) (filter t held)) ++ ys) ≡ true) [
  | true ↦ ap (λ b. b && ascends (held_ids (filter t held) ++ ys)) (below_filter _ t held ys (first_so _ _ up)) ∙ ascends_filter t held ys (second_so _ _ up)
  | false ↦ ascends_filter t held ys (second_so _ _ up)
]

pub fewer : (t : Holding → Bool) (held : List Holding) → length (filter t held) ≤ length held
fewer t [] = grind arith
fewer t (x ∷ held) = let less : length (filter t held) ≤ length held = fewer t held in elim (t x) as (λ b. length (cond b (x ∷ filter t held) (filter t held)) ≤ length (x ∷ held)) [
  | true ↦ grind arith
  | false ↦ grind arith
]

-- a frame with a later id is held behind the others
pub appended : (h : Holding) (held : List Holding) (ys : List ℕ) → ascends (held_ids held ++ h.waiting.id ∷ ys) ≡ true
    → insert_entry nat_cmp (under_ids held) h.waiting.id h ≡ under_ids (held ++ h ∷ [])
appended h [] ys up = refl
appended h (k ∷ held) ys up = rw (is_greater k.waiting.id h.waiting.id (at_seam (held_ids held) (first_so _ _ up))) (ap (λ es. (k.waiting.id, k) ∷ es) (appended h held ys (second_so _ _ up)))
  where
    is_greater : (m n : ℕ) → nat_lt m n ≡ true → nat_cmp n m ≡ Greater
    is_greater m n less = grind arith

    at_seam : (xs : List ℕ) → list_all (λ m. nat_lt k.waiting.id m) (xs ++ h.waiting.id ∷ ys) ≡ true → nat_lt k.waiting.id h.waiting.id ≡ true
    at_seam [] below = first_so _ _ below
    at_seam (x ∷ xs) below = at_seam xs (second_so _ _ below)
