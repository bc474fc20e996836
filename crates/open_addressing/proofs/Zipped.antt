-- Keys with their values as cells.
use Rattle.std.proofs.Common.{◌≡◌, ◌≢◌, ℕ, zero, suc, ◌<◌, ◌≤◌, Bool, true, false, cond, Option, None, Some, List}
use Rattle.std.proofs.Common.{[], ◌∷◌, filter_map, map, length, replicate, get_or, set, refl, sym, ap, ◌∙◌, arith}
use Rattle.std.specs.List.{cons_option}
use Rattle.std.proofs.lemmas.List.{get_or-map, length-map, map-set}
use Rattle.lists.specs.Padded.{padded}
use Rattle.lists.proofs.Filling.{length-padded, padded-none, map-padded}
use Rattle.open_addressing.specs.Zipped.{cell_of, cells_of, key_of, value_of, pair_cell}
use Rattle.open_addressing.specs.Finite.{key_with, key_if}

module _ {V : Type 0} where
  pub within-keys : (ks : List ℕ) (vs : List V) (i : ℕ) → i < length (cells_of ks vs) → i < length ks
  within-keys [] vs i h = absurd (omega arith)
  within-keys (k ∷ ks) [] i h = absurd (omega arith)
  within-keys (k ∷ ks) (v ∷ vs) zero h = omega arith
  within-keys (k ∷ ks) (v ∷ vs) (suc i) h = let r = within-keys ks vs i (omega arith) in omega arith

  pub within-values : (ks : List ℕ) (vs : List V) (i : ℕ) → i < length (cells_of ks vs) → i < length vs
  within-values [] vs i h = absurd (omega arith)
  within-values (k ∷ ks) [] i h = absurd (omega arith)
  within-values (k ∷ ks) (v ∷ vs) zero h = omega arith
  within-values (k ∷ ks) (v ∷ vs) (suc i) h = let r = within-values ks vs i (omega arith) in omega arith

  pub cell_is : (ks : List ℕ) (vs : List V) (i : ℕ) (d : V) → i < length (cells_of ks vs) → get_or (cells_of ks vs) i None ≡ cell_of (get_or ks i 0) (get_or vs i d)
  cell_is [] vs i d h = absurd (omega arith)
  cell_is (k ∷ ks) [] i d h = absurd (omega arith)
  cell_is (k ∷ ks) (v ∷ vs) zero d h = refl
  cell_is (k ∷ ks) (v ∷ vs) (suc i) d h = cell_is ks vs i d (omega arith)

  pub key_is : (ks : List ℕ) (vs : List V) (i : ℕ) → i < length (cells_of ks vs) → key_of (get_or (cells_of ks vs) i None) ≡ get_or ks i 0
  key_is [] vs i h = absurd (omega arith)
  key_is (k ∷ ks) [] i h = absurd (omega arith)
  key_is (zero ∷ ks) (v ∷ vs) zero h = refl
  key_is (suc k ∷ ks) (v ∷ vs) zero h = refl
  key_is (k ∷ ks) (v ∷ vs) (suc i) h = key_is ks vs i (omega arith)

  pub cells_of-clear : (ks : List ℕ) (vs : List V) (i : ℕ) → cells_of (set ks i 0) vs ≡ set (cells_of ks vs) i None
  cells_of-clear [] vs i = refl
  cells_of-clear (k ∷ ks) [] zero = refl
  cells_of-clear (k ∷ ks) [] (suc i) = refl
  cells_of-clear (k ∷ ks) (v ∷ vs) zero = refl
  cells_of-clear (k ∷ ks) (v ∷ vs) (suc i) = ap (λ (cs : List (Option (ℕ × V))). cell_of k v ∷ cs) (cells_of-clear ks vs i)

  pub cells_of-set : (ks : List ℕ) (vs : List V) (i k : ℕ) (v : V) → cells_of (set ks i k) (set vs i v) ≡ set (cells_of ks vs) i (cell_of k v)
  cells_of-set [] vs i q w = refl
  cells_of-set (k ∷ ks) [] zero q w = refl
  cells_of-set (k ∷ ks) [] (suc i) q w = refl
  cells_of-set (k ∷ ks) (v ∷ vs) zero q w = refl
  cells_of-set (k ∷ ks) (v ∷ vs) (suc i) q w = ap (λ (cs : List (Option (ℕ × V))). cell_of k v ∷ cs) (cells_of-set ks vs i q w)

  pub key_of-cell : (k : ℕ) (v : V) → key_of (cell_of k v) ≡ k
  key_of-cell zero v = refl
  key_of-cell (suc k) v = refl

  pub value_of-cell : (k : ℕ) (v : V) → k ≢ 0 → value_of (cell_of k v) ≡ Some v
  value_of-cell zero v some = absurd (some refl)
  value_of-cell (suc k) v some = refl

  pub cells_of-make : (n : ℕ) (vs : List V) → length vs ≡ n → cells_of (replicate n 0) vs ≡ replicate n None
  cells_of-make zero vs long = refl
  cells_of-make (suc n) [] long = absurd (omega arith)
  cells_of-make (suc n) (v ∷ vs) long = ap (λ (cs : List (Option (ℕ × V))). None ∷ cs) (cells_of-make n vs (omega arith))

  pub value_is : (ks : List ℕ) (vs : List V) (i : ℕ) (v : V) → i < length (cells_of ks vs) → key_of (get_or (cells_of ks vs) i None) ≢ 0 → v ≡ get_or vs i v
      → value_of (get_or (cells_of ks vs) i None) ≡ Some v
  value_is ks vs i v h some is =
      ap value_of (cell_is ks vs i v h) ∙ value_of-cell (get_or ks i 0) (get_or vs i v) (λ e. some (key_is ks vs i h ∙ e)) ∙ ap Some (sym is)

  -- the key of a cell, if its value passes

  key_with-some : (p : V → Bool) (k : ℕ) (v : V) → k ≢ 0 → p v ≡ true → Some k ≡ key_with p k v
  key_with-some p zero v some e = absurd (some refl)
  key_with-some p (suc k) v some e = sym (ap (λ b. cond b (Some (suc k)) None) e)

  key_with-none : (p : V → Bool) (k : ℕ) (v : V) → p v ≡ false → None ≡ key_with p k v
  key_with-none p zero v e = refl
  key_with-none p (suc k) v e = sym (ap (λ b. cond b (Some (suc k)) None) e)

  key_if-cell : (p : V → Bool) (k : ℕ) (v : V) → key_if p (cell_of k v) ≡ key_with p k v
  key_if-cell p zero v = refl
  key_if-cell p (suc k) v = refl

  pub key_if-yes : (p : V → Bool) (k : ℕ) (v : V) → k ≢ 0 → p v ≡ true → Some k ≡ key_if p (cell_of k v)
  key_if-yes p k v some e = key_with-some p k v some e ∙ sym (key_if-cell p k v)

  pub key_if-no : (p : V → Bool) (k : ℕ) (v : V) → p v ≡ false → None ≡ key_if p (cell_of k v)
  key_if-no p k v e = key_with-none p k v e ∙ sym (key_if-cell p k v)

  pub key_if-empty : (p : V → Bool) (k : ℕ) (v : V) → k ≡ 0 → None ≡ key_if p (cell_of k v)
  key_if-empty p k v none = ap (λ q. key_if p (cell_of q v)) (sym none)

  -- a pair as a cell

  pub pair-at : (es : List (ℕ × V)) (i : ℕ) (e : ℕ × V) → i < length es → e ≡ get_or es i e → get_or (map pair_cell es) i None ≡ cell_of e.0 e.1
  pair-at es i e h is = get_or-map pair_cell es i e None h ∙ ap pair_cell (sym is)

  -- the cells of pairs that are filled up with those of the key 0

  pub pairs-padded : (n : ℕ) (es : List (ℕ × V)) (v : V) → map pair_cell (padded (0, v) n es) ≡ padded None n (map pair_cell es)
  pairs-padded n es v = map-padded pair_cell (0, v) n es

  pub padded-read : (n : ℕ) (es : List (ℕ × V)) (i : ℕ) (v : V) (e : ℕ × V) → i < length (map pair_cell (padded (0, v) n es)) → e ≡ get_or (padded (0, v) n es) i (0, v)
      → get_or (map pair_cell (padded (0, v) n es)) i None ≡ pair_cell e
  padded-read n es i v e h is = get_or-map pair_cell (padded (0, v) n es) i (0, v) None (let long = length-map (padded (0, v) n es) pair_cell in omega arith) ∙ ap pair_cell (sym is)

  pub padded-within : (n : ℕ) (es : List (ℕ × V)) (i : ℕ) (v : V) → i < length (map pair_cell (padded (0, v) n es)) → i < n
  padded-within n es i v h = (let long = length-map (padded (0, v) n es) pair_cell in let all = length-padded (0, v) n es in omega arith)

  pub padded-write : (n : ℕ) (old new : List (ℕ × V)) (i : ℕ) (v : V) (e : ℕ × V) → padded (0, v) n new ≡ set (padded (0, v) n old) i e
      → map pair_cell (padded (0, v) n new) ≡ set (map pair_cell (padded (0, v) n old)) i (pair_cell e)
  padded-write n old new i v e is = ap (map pair_cell) is ∙ map-set pair_cell (padded (0, v) n old) i e

  pub padded-make : (n : ℕ) (es : List (ℕ × V)) (v : V) → es ≡ [] → map pair_cell (padded (0, v) n es) ≡ replicate n None
  padded-make n es v none = ap (λ (xs : List (ℕ × V)). map pair_cell (padded (0, v) n xs)) none ∙ pairs-padded n [] v ∙ padded-none None n

-- what goes over cells, and passes by those that hold none, passes by those behind
module _ {V R : Type 0} (over : List (Option (ℕ × V)) → R) (step : Option (ℕ × V) → R → R)
    (steps : (c : Option (ℕ × V)) (cs : List (Option (ℕ × V))) → over (c ∷ cs) ≡ step c (over cs)) (by : (r : R) → step None r ≡ r) where
  over-blank : (n : ℕ) → over (padded None n []) ≡ over []
  unfolding padded
  over-blank zero = refl
  over-blank (suc n) = steps None (padded None n []) ∙ by (over (padded None n [])) ∙ over-blank n

  pub over-padded : (n : ℕ) (cs : List (Option (ℕ × V))) → length cs ≤ n → over (padded None n cs) ≡ over cs
  unfolding padded
  over-padded zero [] h = refl
  over-padded zero (c ∷ cs) h = absurd (omega arith)
  over-padded (suc n) [] h = over-blank (suc n)
  over-padded (suc n) (c ∷ cs) h = steps c (padded None n cs) ∙ ap (step c) (over-padded n cs (omega arith)) ∙ sym (steps c cs)

pub keys-padded : {V : Type 0} (p : V → Bool) (n : ℕ) (es : List (ℕ × V)) (v : V) → length es ≤ n
    → filter_map (key_if p) (map pair_cell (padded (0, v) n es)) ≡ filter_map (key_if p) (map pair_cell es)
keys-padded p n es v h =
    ap (filter_map (key_if p)) (pairs-padded n es v)
    ∙ over-padded (filter_map (key_if p)) (λ c ks. cons_option (key_if p c) ks) (λ c cs. refl) (λ ks. refl) n (map pair_cell es) (let long = length-map es pair_cell in omega arith)
