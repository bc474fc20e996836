-- Ports that are kept in a list with a place for each: what a change at places does to the entries.
use Rattle.std.proofs.Common.{◌≡◌, ℕ, zero, suc, ◌+◌, ◌<◌, ◌≤◌, ◌==◌, nat_lt, ◌&&◌, ◌||◌, ◌⊎◌, inl, inr, Bool, true, false, cond, not}
use Rattle.std.proofs.Common.{List, [], ◌∷◌, ◌++◌, length, map, set, take, get_or, Option, None, Some, refl, sym, ap, ap₂, ◌∙◌, arith}
use Rattle.std.specs.List.{All, filter, list_any, range_with_len}
use Rattle.std.proofs.lemmas.List.Elements.{All-cons, All-nil}
use Rattle.std.specs.Prelude.{IsTrue, ◌↔◌}
use Rattle.std.specs.Option.{option_map, option_map_or}
use Rattle.std.specs.Ordering.{nat_cmp, is_eq}
use Rattle.std.specs.FinMap.Entries.{by_order}
use Rattle.std.proofs.lemmas.List.Folds.{list_any-append}
use Rattle.std.proofs.lemmas.List.{get_or-set_same, get_or-set_other, length-set}
use Rattle.std.proofs.lemmas.Bool.{cases_eq, eq-eqb, ne_eqb, lt-ltb, le-ltb, and_right, or_parts, cases_Bool, cases_lt, false≢true}
use Rattle.lemmas.proofs.Orders.{nat_cmp-itself as same, nat_cmp-lt as below, nat_cmp-gt}
use Rattle.lemmas.proofs.Numbers.{ltb-later}
use Rattle.lemmas.proofs.Tests.{or-false}
use Rattle.br_model.specs.Table.Domains.{port_places}
use Rattle.br_model.specs.declared.tree.TreePort.{TreePort}
use Rattle.br_model.specs.Data.Maps.{get, put, without}
use Rattle.br_model.specs.Tree.Tree.{each, numbers}
use Rattle.port_sets.specs.Numbers.{numbers_below, has_number, IsSetBelow}
use Rattle.port_sets.specs.WordsOfMembers.{has-below}
use Rattle.stp_core.specs.Places.{AreEmptyFrom, entries_at}

-- how a port compares with those before and after it

module _ {X : Type 0} where
  abbrev pub entry_at : ℕ → Option X → List (ℕ × X)
  entry_at n None = []
  entry_at n (Some x) = (n, x) ∷ []

  entries-cons : (n : ℕ) (o : Option X) (os : List (Option X)) → entries_at n (o ∷ os) ≡ entry_at n o ++ entries_at (n + 1) os
  entries-cons n None os = refl
  entries-cons n (Some x) os = refl

  -- the entries of one place more
  pub entries-more : (n i : ℕ) (ps : List (Option X)) → i < length ps → entries_at n (take (suc i) ps) ≡ entries_at n (take i ps) ++ entry_at (n + i) (get_or ps i None)
  entries-more n i [] h = absurd (omega arith)
  entries-more n zero (None ∷ ps) h = refl
  entries-more n zero (Some x ∷ ps) h = let e : n ≡ n + 0 = omega arith in ap (λ (m : ℕ). (m, x) ∷ []) e
  entries-more n (suc i) (None ∷ ps) h =
      let e : (n + 1) + i ≡ n + suc i = omega arith in
      entries-more (n + 1) i ps (omega arith) ∙ ap (λ m. entries_at (n + 1) (take i ps) ++ entry_at m (get_or ps i None)) e
  entries-more n (suc i) (Some x ∷ ps) h =
      let e : (n + 1) + i ≡ n + suc i = omega arith in
      ap (λ (es : List (ℕ × X)). (n, x) ∷ es) (entries-more (n + 1) i ps (omega arith) ∙ ap (λ m. entries_at (n + 1) (take i ps) ++ entry_at m (get_or ps i None)) e)

  none-here : (n : ℕ) (ps : List (Option X)) → AreEmptyFrom 0 ps → entries_at n ps ≡ []
  none-here n [] h = refl
  none-here n (None ∷ ps) h = none-here (n + 1) ps (λ k low. h (suc k) (omega arith))
  none-here n (Some x ∷ ps) h = absurd (let e : Some x ≡ None = h 0 (omega arith) in cc)

  -- the entries of the places before empty ones are all
  pub entries-before : (n i : ℕ) (ps : List (Option X)) → AreEmptyFrom i ps → entries_at n (take i ps) ≡ entries_at n ps
  entries-before n zero ps h = sym (none-here n ps h)
  entries-before n (suc i) [] h = refl
  entries-before n (suc i) (None ∷ ps) h = entries-before (n + 1) i ps (λ k low. h (suc k) (omega arith))
  entries-before n (suc i) (Some x ∷ ps) h = ap (λ (es : List (ℕ × X)). (n, x) ∷ es) (entries-before (n + 1) i ps (λ k low. h (suc k) (omega arith)))

  -- the numbers of places before empty ones
  pub numbers-before : (m n : ℕ) (ps : List (Option X)) → ((k : ℕ) → m < n + k → get_or ps k None ≡ None) → All (λ p. p ≤ m) (map (λ e. e.0) (entries_at n ps))
  numbers-before m n [] h = All-nil (λ p. p ≤ m)
  numbers-before m n (None ∷ ps) h = numbers-before m (n + 1) ps (λ k up. h (suc k) (omega arith))
  numbers-before m n (Some x ∷ ps) h =
      All-cons (λ p. p ≤ m) n (map (λ e. e.0) (entries_at (n + 1) ps)) (low (cases_lt m n)) (numbers-before m (n + 1) ps (λ k up. h (suc k) (omega arith)))
    where
      low : (m < n) ⊎ (n ≤ m) → n ≤ m
      low (inl up) = absurd (let e : Some x ≡ None = h 0 (omega arith) in cc)
      low (inr few) = few

  -- what stands at a port

  get-before : (p n : ℕ) (os : List (Option X)) → p < n → get nat_cmp (entries_at n os) p ≡ None
  get-before p n [] h = refl
  get-before p n (None ∷ os) h = get-before p (n + 1) os (omega arith)
  get-before p n (Some x ∷ os) h = ap (λ r. cond (is_eq r) (Some x) (get nat_cmp (entries_at (n + 1) os) p)) (below p n h) ∙ get-before p (n + 1) os (omega arith)

  pub get-entries : (p n i : ℕ) (os : List (Option X)) → p ≡ n + i → get nat_cmp (entries_at n os) p ≡ get_or os i None
  get-entries p n i [] h = refl
  get-entries p n zero (None ∷ os) h = get-before p (n + 1) os (omega arith)
  get-entries p n zero (Some x ∷ os) h =
      let e : p ≡ n = omega arith in
      ap (λ r. cond (is_eq r) (Some x) (get nat_cmp (entries_at (n + 1) os) p)) (ap (λ m. nat_cmp p m) (sym e) ∙ same p)
  get-entries p n (suc i) (None ∷ os) h = get-entries p (n + 1) i os (omega arith)
  get-entries p n (suc i) (Some x ∷ os) h =
      ap (λ r. cond (is_eq r) (Some x) (get nat_cmp (entries_at (n + 1) os) p)) (nat_cmp-gt p n (omega arith)) ∙ get-entries p (n + 1) i os (omega arith)

  -- a port that comes up

  put-before : (p n : ℕ) (x : X) (os : List (Option X)) → p < n → put nat_cmp (entries_at n os) p x ≡ (p, x) ∷ entries_at n os
  put-before p n x [] h = refl
  put-before p n x (None ∷ os) h = put-before p (n + 1) x os (omega arith)
  put-before p n x (Some y ∷ os) h =
      ap (λ r. by_order r ((p, x) ∷ (n, y) ∷ entries_at (n + 1) os) ((n, x) ∷ entries_at (n + 1) os) ((n, y) ∷ put nat_cmp (entries_at (n + 1) os) p x)) (below p n h)

  pub put-entries : (p n i : ℕ) (x : X) (os : List (Option X)) → p ≡ n + i → i < length os → put nat_cmp (entries_at n os) p x ≡ entries_at n (set os i (Some x))
  put-entries p n i x [] h low = absurd (omega arith)
  put-entries p n zero x (None ∷ os) h low =
      let e : p ≡ n = omega arith in
      put-before p (n + 1) x os (omega arith) ∙ ap (λ (m : ℕ). (m, x) ∷ entries_at (n + 1) os) e
  put-entries p n zero x (Some y ∷ os) h low =
      let e : p ≡ n = omega arith in
      ap (λ r. by_order r ((p, x) ∷ (n, y) ∷ entries_at (n + 1) os) ((n, x) ∷ entries_at (n + 1) os) ((n, y) ∷ put nat_cmp (entries_at (n + 1) os) p x)) (ap (λ m. nat_cmp p m) (sym e) ∙ same p)
  put-entries p n (suc i) x (None ∷ os) h low = put-entries p (n + 1) i x os (omega arith) (omega arith)
  put-entries p n (suc i) x (Some y ∷ os) h low =
      ap (λ r. by_order r ((p, x) ∷ (n, y) ∷ entries_at (n + 1) os) ((n, x) ∷ entries_at (n + 1) os) ((n, y) ∷ put nat_cmp (entries_at (n + 1) os) p x)) (nat_cmp-gt p n (omega arith))
      ∙ ap (λ (es : List (ℕ × X)). (n, y) ∷ es) (put-entries p (n + 1) i x os (omega arith) (omega arith))

  -- a port that goes down

  without-before : (p n : ℕ) (os : List (Option X)) → p < n → without nat_cmp (entries_at n os) p ≡ entries_at n os
  without-before p n [] h = refl
  without-before p n (None ∷ os) h = without-before p (n + 1) os (omega arith)
  without-before p n (Some y ∷ os) h =
      ap (λ r. cond (not (is_eq r)) ((n, y) ∷ without nat_cmp (entries_at (n + 1) os) p) (without nat_cmp (entries_at (n + 1) os) p)) (below p n h)
      ∙ ap (λ (es : List (ℕ × X)). (n, y) ∷ es) (without-before p (n + 1) os (omega arith))

  pub without-entries : (p n i : ℕ) (os : List (Option X)) → p ≡ n + i → without nat_cmp (entries_at n os) p ≡ entries_at n (set os i None)
  without-entries p n i [] h = refl
  without-entries p n zero (None ∷ os) h = without-before p (n + 1) os (omega arith)
  without-entries p n zero (Some y ∷ os) h =
      let e : p ≡ n = omega arith in
      ap (λ r. cond (not (is_eq r)) ((n, y) ∷ without nat_cmp (entries_at (n + 1) os) p) (without nat_cmp (entries_at (n + 1) os) p)) (ap (λ m. nat_cmp p m) (sym e) ∙ same p)
      ∙ without-before p (n + 1) os (omega arith)
  without-entries p n (suc i) (None ∷ os) h = without-entries p (n + 1) i os (omega arith)
  without-entries p n (suc i) (Some y ∷ os) h =
      ap (λ r. cond (not (is_eq r)) ((n, y) ∷ without nat_cmp (entries_at (n + 1) os) p) (without nat_cmp (entries_at (n + 1) os) p)) (nat_cmp-gt p n (omega arith))
      ∙ ap (λ (es : List (ℕ × X)). (n, y) ∷ es) (without-entries p (n + 1) i os (omega arith))

  -- the ports that pass a test, by their numbers
  pub numbers-filter : (t : ℕ × X → Bool) (q : ℕ → Bool) (n : ℕ) (os : List (Option X))
      → ((k m : ℕ) → m ≡ n + k → k < length os → q m ≡ option_map_or (λ x. t (m, x)) (get_or os k None) false)
      → map (λ e. e.0) (filter t (entries_at n os)) ≡ filter q (range_with_len n (length os))
  numbers-filter t q n [] h = refl
  numbers-filter t q n (None ∷ os) h =
      numbers-filter t q (n + 1) os (λ k m e low. h (suc k) m (omega arith) (omega arith))
      ∙ ap (λ b. cond b (n ∷ filter q (range_with_len (n + 1) (length os))) (filter q (range_with_len (n + 1) (length os)))) (sym (h 0 n (omega arith) (omega arith)))
  numbers-filter t q n (Some x ∷ os) h =
      let rest = numbers-filter t q (n + 1) os (λ k m e low. h (suc k) m (omega arith) (omega arith)) in
      chosen (t (n, x)) (filter t (entries_at (n + 1) os))
      ∙ ap (λ (ms : List ℕ). cond (t (n, x)) (n ∷ ms) ms) rest
      ∙ ap (λ b. cond b (n ∷ filter q (range_with_len (n + 1) (length os))) (filter q (range_with_len (n + 1) (length os)))) (sym (h 0 n (omega arith) (omega arith)))
    where
      chosen : (b : Bool) (es : List (ℕ × X)) → map (λ e. e.0) (cond b ((n, x) ∷ es) es) ≡ cond b (n ∷ map (λ e. e.0) es) (map (λ e. e.0) es)
      chosen true es = refl
      chosen false es = refl

-- a change at each port that is up
pub entries-each : (f : ℕ × TreePort → TreePort) (n : ℕ) (old new : List (Option TreePort)) → length new ≡ length old
    → ((k m : ℕ) → m ≡ n + k → k < length old → get_or new k None ≡ option_map (λ x. f (m, x)) (get_or old k None))
    → entries_at n new ≡ each f (entries_at n old)
entries-each f n [] [] same h = refl
entries-each f n [] (o ∷ os) same h = absurd (omega arith)
entries-each f n (o ∷ os) [] same h = absurd (omega arith)
entries-each f n (o ∷ os) (w ∷ ws) same h =
    entries-cons n w ws
    ∙ ap₂ (λ (a b : List (ℕ × TreePort)). a ++ b) (ap (entry_at n) (h 0 n (omega arith) (omega arith)))
    (entries-each f (n + 1) os ws (omega arith) (λ k m e low. h (suc k) m (omega arith) (omega arith)))
    ∙ by o
  where
    by : (o : Option TreePort) → entry_at n (option_map (λ x. f (n, x)) o) ++ each f (entries_at (n + 1) os) ≡ each f (entries_at n (o ∷ os))
    by None = refl
    by (Some x) = refl

unchanged : (o : Option TreePort) → option_map (λ x. x) o ≡ o
unchanged None = refl
unchanged (Some x) = refl

-- a change at one port
pub entries-at_port : (g : ℕ × TreePort → TreePort) (p : ℕ) (os : List (Option TreePort))
    → entries_at 0 (set os p (option_map (λ x. g (p, x)) (get_or os p None))) ≡ each (λ e. cond (e.0 == p) (g e) e.1) (entries_at 0 os)
entries-at_port g p os =
    entries-each (λ e. cond (e.0 == p) (g e) e.1) 0 os (set os p (option_map (λ x. g (p, x)) (get_or os p None)))
    (length-set os p (option_map (λ x. g (p, x)) (get_or os p None)))
    (λ k m e low. by k m (omega arith) low (cases_eq k p))
  where
    by : (k m : ℕ) → m ≡ k → k < length os → (k ≡ p) ⊎ (k ≡ p → ⊥)
        → get_or (set os p (option_map (λ x. g (p, x)) (get_or os p None))) k None ≡ option_map (λ x. cond (m == p) (g (m, x)) x) (get_or os k None)
    by k m e low (inl here) =
        ap (λ j. get_or (set os p (option_map (λ x. g (p, x)) (get_or os p None))) j None) here
        ∙ get_or-set_same os p (option_map (λ x. g (p, x)) (get_or os p None)) None (omega arith)
        ∙ sym (ap (λ j. option_map (λ x. g (j, x)) (get_or os p None)) (e ∙ here))
        ∙ sym (ap₂ (λ b j. option_map (λ x. cond b (g (m, x)) x) (get_or os j None)) (eq-eqb m p (e ∙ here)) here)
    by k m e low (inr apart) =
        get_or-set_other os p k (option_map (λ x. g (p, x)) (get_or os p None)) None apart
        ∙ sym (ap (λ b. option_map (λ x. cond b (g (m, x)) x) (get_or os k None)) (ne_eqb m p (λ same. apart (sym e ∙ same))) ∙ unchanged (get_or os k None))

-- A pass over the places: those below i are changed.

module _ (f : ℕ × TreePort → TreePort) (old : List (Option TreePort)) where
  abbrev pub Passed : List (Option TreePort) → ℕ → Type 0
  Passed ps i = (k : ℕ) → get_or ps k None ≡ cond (nat_lt k i) (option_map (λ x. f (k, x)) (get_or old k None)) (get_or old k None)

  pub passed-none : Passed old 0
  passed-none k = sym (ap (λ b. cond b (option_map (λ x. f (k, x)) (get_or old k None)) (get_or old k None)) (le-ltb k 0 (omega arith)))

  -- one place more
  pub passed-more : (ps new : List (Option TreePort)) (i : ℕ) → i < length ps → Passed ps i
      → new ≡ set ps i (option_map (λ x. f (i, x)) (get_or ps i None))
      → Passed new (i + 1)
  passed-more ps new i low before is k = ap (λ l. get_or l k None) is ∙ by (cases_eq k i)
    where
      by : (k ≡ i) ⊎ (k ≡ i → ⊥) → get_or (set ps i (option_map (λ x. f (i, x)) (get_or ps i None))) k None
          ≡ cond (nat_lt k (i + 1)) (option_map (λ x. f (k, x)) (get_or old k None)) (get_or old k None)
      by (inl here) =
          let this : get_or ps i None ≡ get_or old i None = before i ∙ ap (λ b. cond b (option_map (λ x. f (i, x)) (get_or old i None)) (get_or old i None)) (le-ltb i i (omega arith)) in
          ap (λ j. get_or (set ps i (option_map (λ x. f (i, x)) (get_or ps i None))) j None) here
          ∙ get_or-set_same ps i (option_map (λ x. f (i, x)) (get_or ps i None)) None low
          ∙ ap (λ o. option_map (λ x. f (i, x)) o) this
          ∙ sym (ap (λ j. option_map (λ x. f (j, x)) (get_or old j None)) here)
          ∙ sym (ap (λ b. cond b (option_map (λ x. f (k, x)) (get_or old k None)) (get_or old k None)) (lt-ltb k (i + 1) (omega arith)))
      by (inr apart) =
          get_or-set_other ps i k (option_map (λ x. f (i, x)) (get_or ps i None)) None apart
          ∙ before k
          ∙ ap (λ b. cond b (option_map (λ x. f (k, x)) (get_or old k None)) (get_or old k None)) (ltb-later k i apart)

  nothing : (k n : ℕ) → n ≤ k → AreEmptyFrom n old → (b : Bool) → cond b (option_map (λ x. f (k, x)) (get_or old k None)) (get_or old k None) ≡ None
  nothing k n up empty true = ap (option_map (λ (x : TreePort). f (k, x))) (empty k up)
  nothing k n up empty false = empty k up

  -- all places, where those behind are empty
  pub passed-all : (ps : List (Option TreePort)) → length ps ≡ length old → (n i : ℕ) → n ≤ i → AreEmptyFrom n old → Passed ps i → entries_at 0 ps ≡ each f (entries_at 0 old)
  passed-all ps size n i high empty all =
      entries-each f 0 old ps size
      (λ k m e low. all k ∙ by k (cases_lt k n) ∙ ap (λ j. option_map (λ x. f (j, x)) (get_or old k None)) (let g : k ≡ m = omega arith in g))
    where
      by : (k : ℕ) → (k < n) ⊎ (n ≤ k)
          → cond (nat_lt k i) (option_map (λ x. f (k, x)) (get_or old k None)) (get_or old k None) ≡ option_map (λ x. f (k, x)) (get_or old k None)
      by k (inl low) = ap (λ b. cond b (option_map (λ x. f (k, x)) (get_or old k None)) (get_or old k None)) (lt-ltb k i (omega arith))
      by k (inr up) = nothing k n up empty (nat_lt k i) ∙ sym (nothing k n up empty true)

  -- those behind stay empty
  pub passed-empty : (ps : List (Option TreePort)) (n i : ℕ) → AreEmptyFrom n old → Passed ps i → AreEmptyFrom n ps
  passed-empty ps n i empty all k up = all k ∙ nothing k n up empty (nat_lt k i)

-- A pass that collects: the members are the ports below i that pass.

module _ (t : ℕ × TreePort → Bool) (ps : List (Option TreePort)) where
  abbrev pub passes_at : ℕ → Bool
  passes_at k = option_map_or (λ x. t (k, x)) (get_or ps k None) false

  abbrev pub Found : List ℕ → ℕ → Type 0
  Found s i = (k : ℕ) → k < port_places → has_number s k ≡ (nat_lt k i && passes_at k)

  pub found-none : (s : List ℕ) → s ≡ [] → Found s 0
  found-none s none k below = ap (λ (l : List ℕ). has_number l k) none ∙ sym (ap (λ b. b && passes_at k) (le-ltb k 0 (omega arith)))

  pub found-other : (s : List ℕ) (i : ℕ) → Found s i → passes_at i ≡ false → Found s (i + 1)
  found-other s i before fails k below = before k below ∙ by (cases_eq k i)
    where
      by : (k ≡ i) ⊎ (k ≡ i → ⊥) → (nat_lt k i && passes_at k) ≡ (nat_lt k (i + 1) && passes_at k)
      by (inl here) =
          let none : passes_at k ≡ false = ap passes_at here ∙ fails in
          and_right (nat_lt k i) (passes_at k) none ∙ sym (and_right (nat_lt k (i + 1)) (passes_at k) none)
      by (inr apart) = ap (λ b. b && passes_at k) (ltb-later k i apart)

  pub found-more : (s new : List ℕ) (i : ℕ) → Found s i → passes_at i ≡ true
      → new ≡ numbers_below port_places (λ m. (m == i) || has_number s m)
      → Found new (i + 1)
  found-more s new i before passes is k below =
      ap (λ (l : List ℕ). has_number l k) is ∙ has-below (λ m. (m == i) || has_number s m) port_places k below ∙ by (cases_eq k i)
    where
      by : (k ≡ i) ⊎ (k ≡ i → ⊥) → ((k == i) || has_number s k) ≡ (nat_lt k (i + 1) && passes_at k)
      by (inl here) =
          ap (λ b. b || has_number s k) (eq-eqb k i here)
          ∙ sym (ap₂ (λ a b. a && b) (lt-ltb k (i + 1) (omega arith)) (ap passes_at here ∙ passes))
      by (inr apart) =
          ap (λ b. b || has_number s k) (ne_eqb k i apart) ∙ before k below ∙ ap (λ b. b && passes_at k) (ltb-later k i apart)

  pub found-all : (s : List ℕ) (n i : ℕ) → n ≤ i → length ps ≡ port_places → AreEmptyFrom n ps → IsSetBelow port_places s → Found s i → s ≡ numbers (filter t (entries_at 0 ps))
  unfolding numbers_below
  found-all s n i high size empty set all =
      set
      ∙ ap (λ m. filter (has_number s) (range_with_len 0 m)) (sym size)
      ∙ sym (numbers-filter t (has_number s) 0 ps (λ k m e low. at k m (omega arith) (omega arith)))
    where
      by : (m : ℕ) → (m < n) ⊎ (n ≤ m) → (nat_lt m i && passes_at m) ≡ passes_at m
      by m (inl low) = ap (λ b. b && passes_at m) (lt-ltb m i (omega arith))
      by m (inr up) =
          let none : passes_at m ≡ false = ap (λ (o : Option TreePort). option_map_or (λ x. t (m, x)) o false) (empty m up) in
          and_right (nat_lt m i) (passes_at m) none ∙ sym none

      at : (k m : ℕ) → k ≡ m → m < port_places → has_number s m ≡ option_map_or (λ x. t (m, x)) (get_or ps k None) false
      at k m e low =
          all m low ∙ by m (cases_lt m n) ∙ ap (λ j. option_map_or (λ x. t (m, x)) (get_or ps j None) false) (sym e)

-- whether some port passes

any_at : (t : ℕ × TreePort → Bool) (n : ℕ) (o : Option TreePort) → list_any t (entry_at n o) ≡ option_map_or (λ x. t (n, x)) o false
any_at t n None = refl
any_at t n (Some x) = or-false (t (n, x))

-- with the ports of one place more
pub any-more : (t : ℕ × TreePort → Bool) (i : ℕ) (ps : List (Option TreePort)) → i < length ps
    → list_any t (entries_at 0 (take (i + 1) ps))
    ≡ (list_any t (entries_at 0 (take i ps)) || option_map_or (λ x. t (i, x)) (get_or ps i None) false)
any-more t i ps h =
    let e : 0 + i ≡ i = omega arith in
    ap (λ n. list_any t (entries_at 0 (take n ps))) (let f : i + 1 ≡ suc i = omega arith in f)
    ∙ ap (list_any t) (entries-more 0 i ps h ∙ ap (λ n. entries_at 0 (take i ps) ++ entry_at n (get_or ps i None)) e)
    ∙ list_any-append t (entries_at 0 (take i ps)) (entry_at i (get_or ps i None))
    ∙ ap (λ b. list_any t (entries_at 0 (take i ps)) || b) (any_at t i (get_or ps i None))

any-false : (t : ℕ × TreePort → Bool) (es : List (ℕ × TreePort)) → list_any t es ≡ false → numbers (filter t es) ≡ []
any-false t [] h = refl
any-false t (e ∷ es) h =
    let parts = or_parts (t e) (list_any t es) h in
    ap (λ b. numbers (cond b (e ∷ filter t es) (filter t es))) parts.0 ∙ any-false t es parts.1

none-any : (t : ℕ × TreePort → Bool) (es : List (ℕ × TreePort)) → numbers (filter t es) ≡ [] → list_any t es ≡ false
none-any t [] h = refl
none-any t (e ∷ es) h = by (λ none. none-any t es none) (t e) refl h
  where
    by : (numbers (filter t es) ≡ [] → list_any t es ≡ false) → (b : Bool) → t e ≡ b
        → numbers (cond b (e ∷ filter t es) (filter t es)) ≡ [] → (t e || list_any t es) ≡ false
    by rest true is h = absurd (cc)
    by rest false is h = ap (λ b. b || list_any t es) is ∙ rest h

pub any-by : (t : ℕ × TreePort → Bool) (es : List (ℕ × TreePort)) (b : Bool) → (IsTrue b ↔ (numbers (filter t es) ≡ [])) → not b ≡ list_any t es
any-by t es true h = sym (none-any t es (h.0 refl))
any-by t es false h = by (cases_Bool (list_any t es))
  where
    by : (list_any t es ≡ true) ⊎ (list_any t es ≡ false) → true ≡ list_any t es
    by (inl some) = sym some
    by (inr none) = absurd (false≢true (h.1 (any-false t es none)))

-- a filter of the ports by number
pub numbers-kept : (t : ℕ × TreePort → Bool) (q : ℕ → Bool) (n : ℕ) (os : List (Option TreePort))
    → ((k m : ℕ) (x : TreePort) → m ≡ n + k → get_or os k None ≡ Some x → t (m, x) ≡ q m)
    → numbers (filter t (entries_at n os)) ≡ filter q (numbers (entries_at n os))
numbers-kept t q n [] h = refl
numbers-kept t q n (None ∷ os) h = numbers-kept t q (n + 1) os (λ k m x e is. h (suc k) m x (omega arith) is)
numbers-kept t q n (Some x ∷ os) h =
    ap (λ b. numbers (cond b ((n, x) ∷ filter t (entries_at (n + 1) os)) (filter t (entries_at (n + 1) os)))) (h 0 n x (omega arith) refl)
    ∙ chosen (q n) (filter t (entries_at (n + 1) os))
    ∙ ap (λ (ms : List ℕ). cond (q n) (n ∷ ms) ms) (numbers-kept t q (n + 1) os (λ k m y e is. h (suc k) m y (omega arith) is))
  where
    chosen : (b : Bool) (es : List (ℕ × TreePort)) → numbers (cond b ((n, x) ∷ es) es) ≡ cond b (n ∷ numbers es) (numbers es)
    chosen true es = refl
    chosen false es = refl
