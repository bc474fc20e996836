-- The VLANs of the sets and numbers that loops have seen.
use Rattle.std.proofs.Common.{◌≡◌, ◌≢◌, ℕ, ◌/◌, ◌%◌, ◌<◌, Bool, true, false, ◌&&◌, ◌||◌, ⊎_elim, List, [], ◌∷◌, ◌++◌, ◌↔◌, refl, sym, ap, ◌∙◌, arith}
use Rattle.std.specs.Prelude.{◌==◌}
use Rattle.std.proofs.lemmas.Bool.Decides.{eqb_tells}
use Rattle.std.proofs.lemmas.List.Folds.{list_any-append}
use Rattle.lemmas.proofs.Tests.{and-false}
use Rattle.port_sets.specs.Numbers.{has_number}
use Rattle.vlan_groups.specs.Joined.{block_at, has_vlan}

-- those of set i with the numbers seen
abbrev pub in_block : ℕ → List ℕ → ℕ → Bool
in_block i seen w = (w / 64 == i) && has_number seen (w % 64)

-- those of a port in the sets seen
abbrev pub in_blocks : List (List ℕ) → ℕ → List ℕ → ℕ → Bool
in_blocks blocks p seen w = has_number seen (w / 64) && has_vlan blocks p w

pub none_in_block : (i w : ℕ) → in_block i [] w ≡ false
none_in_block i w = and-false (w / 64 == i)

one_more : (e h q : Bool) → (e && (h || (q || false))) ≡ ((e && q) || (e && h))
one_more false h q = refl
one_more true true true = refl
one_more true true false = refl
one_more true false true = refl
one_more true false false = refl

pub next_in_block : (i n : ℕ) (seen : List ℕ) (w : ℕ) → in_block i (seen ++ n ∷ []) w ≡ (((w / 64 == i) && (w % 64 == n)) || in_block i seen w)
next_in_block i n seen w = ap (λ b. (w / 64 == i) && b) (list_any-append (λ k. w % 64 == k) seen (n ∷ [])) ∙ one_more (w / 64 == i) (has_number seen (w % 64)) (w % 64 == n)

pub next_in_blocks : (blocks : List (List ℕ)) (p i : ℕ) (seen : List ℕ) (w : ℕ)
    → in_blocks blocks p (seen ++ i ∷ []) w ≡ (((w / 64 == i) && has_number (block_at blocks p i) (w % 64)) || in_blocks blocks p seen w)
next_in_blocks blocks p i seen w =
    ap (λ b. b && has_vlan blocks p w) (list_any-append (λ k. w / 64 == k) seen (i ∷ []))
    ∙ ⊎_elim
    (λ (here : ((w / 64 == i) ≡ true) × (w / 64 ≡ i)).
    more (has_number seen (w / 64)) (w / 64 == i) (has_vlan blocks p w)
    ∙ ap (λ k. ((w / 64 == i) && has_number (block_at blocks p k) (w % 64)) || in_blocks blocks p seen w) here.1)
    (λ (other : ((w / 64 == i) ≡ false) × (w / 64 ≢ i)).
    more (has_number seen (w / 64)) (w / 64 == i) (has_vlan blocks p w)
    ∙ ap (λ b. (b && has_vlan blocks p w) || in_blocks blocks p seen w) other.0
    ∙ ap (λ b. (b && has_number (block_at blocks p i) (w % 64)) || in_blocks blocks p seen w) (sym other.0))
    (eqb_tells (w / 64) i)
  where
    more : (h q x : Bool) → ((h || (q || false)) && x) ≡ ((q && x) || (h && x))
    more true true true = refl
    more true true false = refl
    more true false true = refl
    more true false false = refl
    more false true true = refl
    more false true false = refl
    more false false x = refl

-- the sets seen were all but empty ones
pub all_in_blocks : (blocks : List (List ℕ)) (p : ℕ) (used : List ℕ) → ((i : ℕ) → i < 64 → (has_number used i ≡ false) ↔ (block_at blocks p i ≡ []))
    → (w : ℕ) → w < 4096 → has_vlan blocks p w ≡ in_blocks blocks p used w
all_in_blocks blocks p used others w low = by (has_number used (w / 64)) (λ none. ap (λ (b : List ℕ). has_number b (w % 64)) ((others (w / 64) (omega arith)).0 none))
  where
    by : (b : Bool) → (b ≡ false → has_vlan blocks p w ≡ false) → has_vlan blocks p w ≡ (b && has_vlan blocks p w)
    by true h = refl
    by false h = h refl
