-- A finite map's cells, as they change.
use Rattle.std.proofs.Common.{◌≡◌, ◌≢◌, ℕ, zero, suc, ◌+◌, ◌-◌, ◌<◌, ◌≤◌, Bool, true, false, eqb, not, cond, Option, None, Some, List}
use Rattle.std.proofs.Common.{length, get_or, set, count_by, find, replicate, is_some, refl, sym, ap, subst, ◌∙◌, ⊎_elim, inl, inr, ◌⊎◌, arith}
use Rattle.std.proofs.lemmas.Bool.{eqb-true, ne_eqb, eq-eqb}
use Rattle.std.proofs.lemmas.List.{get_or_default, length-set, length-replicate}
use Rattle.std.proofs.lemmas.List.Sums.{sum_by-cons}
use Rattle.lemmas.proofs.Tests.{by_test}
use Rattle.open_addressing.specs.Hashed.{key_in}
use Rattle.open_addressing.specs.Zipped.{key_of, value_of, cell_of}
use Rattle.open_addressing.specs.Lookups.{has, IsApart, is_used}
use Rattle.open_addressing.specs.Finite.{in_cell, value_at, AreCells}
use Rattle.open_addressing.proofs.Lookups.{found, find-at, find-none, find-set, found-none, count-set, count-pos}
use Rattle.open_addressing.proofs.Zipped.{key_of-cell, value_of-cell}

is_some_key : (k : ℕ) → k ≢ 0 → not (eqb k 0) ≡ true
is_some_key k some = ap not (ne_eqb k 0 some)

module _ {V : Type 0} where
  absent-count : (cells : List (Option (ℕ × V))) (q : ℕ) → ((i : ℕ) → i < length cells → key_in key_of None cells i ≢ q) → count_by (has key_of q) cells ≡ 0
  absent-count cells q none =
      elim (find (has key_of q) cells) as (λ o. find (has key_of q) cells ≡ o → count_by (has key_of q) cells ≡ 0) [
        | None ↦ λ is. found-none (has key_of q) cells is
        | Some c ↦ λ is.
            let f = found (has key_of q) cells c is in
            let at : get_or cells f.0.0 None ≡ c = sym (get_or_default cells f.0.0 c None f.0.1) ∙ f.0.2 in
            absurd (none f.0.0 f.0.1 (ap key_of at ∙ eqb-true (key_of c) q f.1))
      ] refl

  -- what stands in the cell of a key
  pub value-found : (cells : List (Option (ℕ × V))) → IsApart key_of cells → (q i : ℕ) → q ≢ 0 → i < length cells → key_in key_of None cells i ≡ q → value_at cells q ≡ value_of (get_or cells i None)
  value-found cells apart q i some h is = ap in_cell (find-at (has key_of q) cells i None h (apart q some) (eq-eqb _ q is))

  pub value-absent : (cells : List (Option (ℕ × V))) (q : ℕ) → ((i : ℕ) → i < length cells → key_in key_of None cells i ≢ q) → value_at cells q ≡ None
  value-absent cells q none = ap in_cell (find-none (has key_of q) cells (absent-count cells q none))

  -- no key stands twice after a write of a key that stood there or nowhere
  apart-write : (cells : List (Option (ℕ × V))) (i : ℕ) (c : Option (ℕ × V)) → IsApart key_of cells → i < length cells
      → (key_in key_of None cells i ≡ key_of c) ⊎ ((x : ℕ) → x < length cells → key_in key_of None cells x ≢ key_of c) → IsApart key_of (set cells i c)
  apart-write cells i c apart h from q some =
      let all = count-set (has key_of q) cells i c None h in
      let one = apart q some in
      by_test (has key_of q c)
      (λ yes.
      let at_c : cond {A = ℕ} (has key_of q c) 1 0 ≡ 1 = ap (λ b. cond {A = ℕ} b 1 0) yes in
      let is : key_of c ≡ q = eqb-true (key_of c) q yes in
      ⊎_elim
      (λ (same : key_in key_of None cells i ≡ key_of c).
      let was : cond {A = ℕ} (has key_of q (get_or cells i None)) 1 0 ≡ 1 = ap (λ b. cond {A = ℕ} b 1 0) (eq-eqb _ q (same ∙ is)) in
      omega arith)
      (λ (none : (x : ℕ) → x < length cells → key_in key_of None cells x ≢ key_of c).
      let zero_q = absent-count cells q (λ x xn e. none x xn (e ∙ sym is)) in
      omega arith)
      from)
      (λ no. (let at_c : cond {A = ℕ} (has key_of q c) 1 0 ≡ 0 = ap (λ b. cond {A = ℕ} b 1 0) no in omega arith))

  -- what stands at a key after a write over an empty cell or the same key
  value-write : (cells : List (Option (ℕ × V))) (i : ℕ) (c : Option (ℕ × V)) → IsApart key_of cells → IsApart key_of (set cells i c) → i < length cells
      → (key_in key_of None cells i ≡ key_of c) ⊎ (key_in key_of None cells i ≡ 0) → (q : ℕ) → q ≢ 0
      → value_at (set cells i c) q ≡ cond (eqb (key_of c) q) (value_of c) (value_at cells q)
  value-write cells i c apart apart' h over q some =
      let e = find-set (has key_of q) cells i c None h (apart q some) (apart' q some) in
      by_test (has key_of q c)
      (λ yes. ap in_cell (e ∙ ap (λ b. cond b (Some c) (cond (has key_of q (get_or cells i None)) None (find (has key_of q) cells))) yes) ∙ sym (ap (λ b. cond b (value_of c) (value_at cells q)) yes))
      (λ no.
      let other : has key_of q (get_or cells i None) ≡ false = ⊎_elim
      (λ (same : key_in key_of None cells i ≡ key_of c). ap (λ k. eqb k q) same ∙ no)
      (λ (empty : key_in key_of None cells i ≡ 0). ap (λ k. eqb k q) empty ∙ ne_eqb 0 q (λ z. some (sym z))) over in
      ap in_cell (e ∙ ap (λ b. cond b (Some c) (cond (has key_of q (get_or cells i None)) None (find (has key_of q) cells))) no ∙ ap (λ b. cond b None (find (has key_of q) cells)) other)
      ∙ sym (ap (λ b. cond b (value_of c) (value_at cells q)) no))

  apart-clear : (cells : List (Option (ℕ × V))) (i : ℕ) → IsApart key_of cells → i < length cells → IsApart key_of (set cells i None)
  apart-clear cells i apart h q some =
      let all = count-set (has key_of q) cells i None None h in
      let one = apart q some in
      let none : cond {A = ℕ} (eqb 0 q) 1 0 ≡ 0 = ap (λ b. cond {A = ℕ} b 1 0) (ne_eqb 0 q (λ z. some (sym z))) in
      omega arith

  value-clear : (cells : List (Option (ℕ × V))) (i : ℕ) → IsApart key_of cells → i < length cells → (q : ℕ) → q ≢ 0
      → value_at (set cells i None) q ≡ cond (eqb (key_in key_of None cells i) q) None (value_at cells q)
  value-clear cells i apart h q some =
      let e = find-set (has key_of q) cells i None None h (apart q some) (apart-clear cells i apart h q some) in
      let none : has (key_of {V = V}) q None ≡ false = ne_eqb 0 q (λ z. some (sym z)) in
      let old : Bool = has key_of q (get_or cells i None) in
      ap in_cell (e ∙ ap (λ b. cond b (Some None) (cond old None (find (has key_of q) cells))) none)
      ∙ by_test old
      (λ yes. ap (λ b. in_cell (cond b None (find (has key_of q) cells))) yes ∙ sym (ap (λ b. cond b None (value_at cells q)) yes))
      (λ no. ap (λ b. in_cell (cond b None (find (has key_of q) cells))) no ∙ sym (ap (λ b. cond b None (value_at cells q)) no))

  module _ (used room : ℕ) (cells : List (Option (ℕ × V))) (sound : AreCells used room cells) where
    -- a value is written over that of its key
    cells-over : (i : ℕ) (c : Option (ℕ × V)) → i < length cells → key_in key_of None cells i ≡ key_of c
        → AreCells used room (set cells i c) × ((q : ℕ) → q ≢ 0 → value_at (set cells i c) q ≡ cond (eqb (key_of c) q) (value_of c) (value_at cells q))
    cells-over i c h same =
        let apart' = apart-write cells i c sound.apart h (inl same) in
        let all = count-set (is_used key_of) cells i c None h in
        let both : cond {A = ℕ} (is_used key_of (get_or cells i None)) 1 0 ≡ cond {A = ℕ} (is_used key_of c) 1 0 = ap (λ k. cond {A = ℕ} (not (eqb k 0)) 1 0) same in
        let long = length-set cells i c in (
          record {
            apart = apart';
            counted = omega (arith, sound.counted);
            within = sound.within;
            sized = omega (arith, sound.sized);
          },
          value-write cells i c sound.apart apart' h (inl same),
        )

    -- a new key is put into an empty cell
    cells-new : (i : ℕ) (c : Option (ℕ × V)) → i < length cells → key_of c ≢ 0 → key_in key_of None cells i ≡ 0 → ((x : ℕ) → x < length cells → key_in key_of None cells x ≢ key_of c)
        → used < room → AreCells (used + 1) room (set cells i c) × ((q : ℕ) → q ≢ 0 → value_at (set cells i c) q ≡ cond (eqb (key_of c) q) (value_of c) (value_at cells q))
    cells-new i c h some empty none roomy =
        let apart' = apart-write cells i c sound.apart h (inr none) in
        let all = count-set (is_used key_of) cells i c None h in
        let before : cond {A = ℕ} (is_used key_of (get_or cells i None)) 1 0 ≡ 0 = ap (λ k. cond {A = ℕ} (not (eqb k 0)) 1 0) empty in
        let after : cond {A = ℕ} (is_used key_of c) 1 0 ≡ 1 = ap (λ b. cond {A = ℕ} b 1 0) (is_some_key (key_of c) some) in
        let long = length-set cells i c in (
          record {
            apart = apart';
            counted = omega (arith, sound.counted);
            within = omega arith;
            sized = omega (arith, sound.sized);
          },
          value-write cells i c sound.apart apart' h (inr empty),
        )

    -- a key is taken out
    pub cells-out : (i used' : ℕ) → i < length cells → key_in key_of None cells i ≢ 0 → used' ≡ used - 1
        → AreCells used' room (set cells i None) × ((q : ℕ) → q ≢ 0 → value_at (set cells i None) q ≡ cond (eqb (key_in key_of None cells i) q) None (value_at cells q))
    cells-out i used' h some less =
        let some_one = count-pos (is_used key_of) cells i None h (is_some_key (key_in key_of None cells i) some) in
        let all = count-set (is_used key_of) cells i None None h in
        let before : cond {A = ℕ} (is_used key_of (get_or cells i None)) 1 0 ≡ 1 = ap (λ b. cond {A = ℕ} b 1 0) (is_some_key (key_in key_of None cells i) some) in
        let long = length-set cells i None in (
          record {
            apart = apart-clear cells i sound.apart h;
            counted = omega (arith, sound.counted);
            within = omega (arith, sound.within);
            sized = omega (arith, sound.sized);
          },
          value-clear cells i sound.apart h,
        )

    pub used-pos : (i : ℕ) → i < length cells → key_in key_of None cells i ≢ 0 → 0 < used
    used-pos i h some =
        let one = count-pos (is_used key_of) cells i None h (is_some_key (key_in key_of None cells i) some) in
        omega (arith, sound.counted)

    pub put-over : (i k : ℕ) (v : V) (new : List (Option (ℕ × V))) → i < length cells → k ≢ 0 → key_in key_of None cells i ≡ k → new ≡ set cells i (cell_of k v)
        → AreCells used room new × ((q : ℕ) → q ≢ 0 → value_at new q ≡ cond (eqb k q) (Some v) (value_at cells q))
    put-over i k v new h some same is =
        let key = key_of-cell k v in
        let r = cells-over i (cell_of k v) h (same ∙ sym key) in (
          subst (AreCells used room) (sym is) r.0,
          λ q qs. ap (λ (cs : List (Option (ℕ × V))). value_at cs q) is ∙ r.1 q qs ∙ (λ t. cond (eqb (key t) q) (value_of-cell k v some t) (value_at cells q)),
        )

    pub put-new : (i k : ℕ) (v : V) (new : List (Option (ℕ × V))) → i < length cells → k ≢ 0 → key_in key_of None cells i ≡ 0 → ((x : ℕ) → x < length cells → key_in key_of None cells x ≢ k)
        → used < room → new ≡ set cells i (cell_of k v)
        → AreCells (used + 1) room new × ((q : ℕ) → q ≢ 0 → value_at new q ≡ cond (eqb k q) (Some v) (value_at cells q))
    put-new i k v new h some empty none roomy is =
        let key = key_of-cell k v in
        let r = cells-new i (cell_of k v) h (λ e. some (sym key ∙ e)) empty (λ x xn e. none x xn (e ∙ key)) roomy in (
          subst (AreCells (used + 1) room) (sym is) r.0,
          λ q qs. ap (λ (cs : List (Option (ℕ × V))). value_at cs q) is ∙ r.1 q qs ∙ (λ t. cond (eqb (key t) q) (value_of-cell k v some t) (value_at cells q)),
        )

  pub value-make : (n q : ℕ) → value_at {V = V} (replicate n None) q ≡ None
  value-make zero q = refl
  value-make (suc n) q =
      by_test (eqb 0 q)
      (λ yes. ap (λ b. in_cell {V = V} (cond b (Some None) (find (has key_of q) (replicate n None)))) yes)
      (λ no. ap (λ b. in_cell {V = V} (cond b (Some None) (find (has key_of q) (replicate n None)))) no ∙ value-make n q)

  -- nothing is taken out at a key that is not there
  pub value-kept : (cells : List (Option (ℕ × V))) (k q : ℕ) → value_at cells k ≡ None → value_at cells q ≡ cond (eqb k q) None (value_at cells q)
  value-kept cells k q none =
      by_test (eqb k q)
      (λ yes. ap (value_at cells) (sym (eqb-true k q yes)) ∙ none ∙ sym (ap (λ b. cond b None (value_at cells q)) yes))
      (λ no. sym (ap (λ b. cond b None (value_at cells q)) no))

  pub is_some-found : (c : Option (ℕ × V)) → key_of c ≢ 0 → is_some (value_of c) ≡ true
  is_some-found None some = absurd (some refl)
  is_some-found (Some e) some = refl

  -- cells that hold nothing
  pub cells-none : (room count : ℕ) (cells : List (Option (ℕ × V))) → room ≤ count → cells ≡ replicate count None → AreCells 0 room cells
  cells-none room count cells roomy is =
      let none : (p : Option (ℕ × V) → Bool) → p None ≡ false → count_by p cells ≡ 0 = λ p no. ap (count_by p) is ∙ blank p no count in
      record {
        apart = λ q some. (let n = none (has key_of q) (ne_eqb 0 q (λ z. some (sym z))) in omega arith);
        counted = none (is_used key_of) (ap not (eq-eqb 0 0 refl));
        within = omega arith;
        sized = (let long = ap length is ∙ length-replicate count None in omega arith);
      }
    where
      blank : (p : Option (ℕ × V) → Bool) → p None ≡ false → (n : ℕ) → count_by p (replicate n None) ≡ 0
      blank p off zero = refl
      blank p off (suc n) =
          let all = sum_by-cons (λ c. cond {A = ℕ} (p c) 1 0) None (replicate n None) in
          let here : cond {A = ℕ} (p None) 1 0 ≡ 0 = ap (λ b. cond {A = ℕ} b 1 0) off in
          let rest = blank p off n in
          omega arith
