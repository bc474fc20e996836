-- Numbers of pairs are in the order of the pairs, so that entries by number follow those by pair.
use Rattle.std.proofs.Common.{◌≡◌, ℕ, suc, ◌+◌, ◌*◌, ◌/◌, ◌%◌, ◌^◌, ◌<◌, ◌≤◌, true, false, not, cond, ◌&&◌, Some, List, [], ◌∷◌, length, refl, sym, ap, ◌∙◌, ⊎_elim, arith}
use Rattle.std.specs.Ordering.{is_eq, is_lt, eq_by_cmp, nat_cmp, ordering_then}
use Rattle.std.specs.declared.cmp.Ordering.TheVariants.{Less, Equal, Greater}
use Rattle.std.specs.Cmp.{nat_cmp_is}
use Rattle.std.proofs.lemmas.Bool.{cases_eq, cases_lt}
use Rattle.std.proofs.lemmas.Nat.{div-mul-add, mod-mul-add}
use Rattle.std.proofs.Math.Nat.{mul-le-mul_right, mod-lt, div-add-mod}
use Rattle.std.specs.FinMap.Entries as entries
use Rattle.std.specs.FinMap.Entries.{by_order}
use Rattle.open_addressing.specs.Pairs.{Pair, pair_cmp, packed, unpacked, by_pair, at_pair, put_pair, without_pair}

-- numbers of two digits are in the order of the first and then the second
pub digits_order : (w v m a b : ℕ) → m < w → b < w → ordering_then (nat_cmp v a) (nat_cmp m b) ≡ nat_cmp (v * w + m) (a * w + b)
digits_order w v m a b mw bw =
    ⊎_elim
    (λ (h : v < a).
    let up : suc v * w ≤ a * w = mul-le-mul_right w h in
    let first : suc v * w ≡ v * w + w = omega arith in
    ap (λ r. ordering_then r (nat_cmp m b)) (sym (nat_cmp_is v a Less h)) ∙ nat_cmp_is (v * w + m) (a * w + b) Less (omega arith))
    (λ (h : a ≤ v).
    ⊎_elim
    (λ (same : v ≡ a).
    let left : nat_cmp v a ≡ Equal = sym (nat_cmp_is v a Equal same) in
    ap (λ r. ordering_then r (nat_cmp m b)) left
    ∙ ⊎_elim
    (λ (l : m < b). sym (nat_cmp_is m b Less l) ∙ nat_cmp_is (v * w + m) (a * w + b) Less (let e : v * w ≡ a * w = ap (λ x. x * w) same in omega arith))
    (λ (l : b ≤ m).
    ⊎_elim
    (λ (e : m ≡ b). sym (nat_cmp_is m b Equal e) ∙ nat_cmp_is (v * w + m) (a * w + b) Equal (λ i. same i * w + e i))
    (λ (n : m ≡ b → ⊥). sym (nat_cmp_is m b Greater (omega arith)) ∙ nat_cmp_is (v * w + m) (a * w + b) Greater (let e : v * w ≡ a * w = ap (λ x. x * w) same in omega arith))
    (cases_eq m b))
    (cases_lt m b))
    (λ (n : v ≡ a → ⊥).
    let above : a < v = omega arith in
    let up : suc a * w ≤ v * w = mul-le-mul_right w above in
    let first : suc a * w ≡ a * w + w = omega arith in
    ap (λ r. ordering_then r (nat_cmp m b)) (sym (nat_cmp_is v a Greater above)) ∙ nat_cmp_is (v * w + m) (a * w + b) Greater (omega arith))
    (cases_eq v a))
    (cases_lt v a)

pub whole : (w q : ℕ) → (q / w) * w + q % w ≡ q
whole w q = let e = div-add-mod q w in omega arith

pub cmp_unpacked : (k : Pair) (q : ℕ) → k.1 < 2 ^ 48 → pair_cmp k (unpacked q) ≡ nat_cmp (packed k) q
unfolding packed unpacked
cmp_unpacked k q fits =
    let w : ℕ = 2 ^ 48 in
    digits_order w k.0 k.1 (q / w) (q % w) fits (mod-lt q (omega arith)) ∙ ap (nat_cmp (k.0 * w + k.1)) (whole w q)

pub low-lt : (q : ℕ) → (unpacked q).1 < 2 ^ 48
unfolding unpacked
low-lt q = mod-lt q (omega arith)

pub packed-unpacked : (q : ℕ) → packed (unpacked q) ≡ q
unfolding packed unpacked
packed-unpacked q = whole (2 ^ 48) q

pub unpacked-packed : (k : Pair) → k.1 < 2 ^ 48 → unpacked (packed k) ≡ k
unfolding packed unpacked
unpacked-packed k fits = λ i. (div-mul-add k.0 (2 ^ 48) k.1 fits i, mod-mul-add k.0 (2 ^ 48) k.1 fits i)

cmp_both : (p q : ℕ) → pair_cmp (unpacked p) (unpacked q) ≡ nat_cmp p q
cmp_both p q = cmp_unpacked (unpacked p) q (low-lt p) ∙ ap (λ n. nat_cmp n q) (packed-unpacked p)

module _ {V : Type 0} (k : Pair) (fits : k.1 < 2 ^ 48) where
  pub get-by_pair : (es : List (ℕ × V)) → at_pair (by_pair es) k ≡ entries.find nat_cmp (packed k) es
  get-by_pair [] = refl
  get-by_pair (e ∷ es) = λ i. cond (is_eq (cmp_unpacked k e.0 fits i)) (Some e.1) (get-by_pair es i)

  pub put-by_pair : (x : V) (es : List (ℕ × V)) → put_pair (by_pair es) k x ≡ by_pair (entries.put nat_cmp (packed k) x es)
  put-by_pair x [] = ap (λ (q : Pair). (q, x) ∷ []) (sym (unpacked-packed k fits))
  put-by_pair x (e ∷ es) =
      ap (λ r. by_order r ((k, x) ∷ by_pair (e ∷ es)) ((unpacked e.0, x) ∷ by_pair es) ((unpacked e.0, e.1) ∷ put_pair (by_pair es) k x)) (cmp_unpacked k e.0 fits)
      ∙ elim (nat_cmp (packed k) e.0) as (λ r. by_order r ((k, x) ∷ by_pair (e ∷ es)) ((unpacked e.0, x) ∷ by_pair es) ((unpacked e.0, e.1) ∷ put_pair (by_pair es) k x)
      ≡ by_pair (by_order r ((packed k, x) ∷ e ∷ es) ((e.0, x) ∷ es) (e ∷ entries.put nat_cmp (packed k) x es))) [
        | Less ↦ ap (λ (q : Pair). (q, x) ∷ by_pair (e ∷ es)) (sym (unpacked-packed k fits))
        | Equal ↦ refl
        | Greater ↦ ap (λ (f : List (Pair × V)). (unpacked e.0, e.1) ∷ f) (put-by_pair x es)
      ]

  pub without-by_pair : (es : List (ℕ × V)) → without_pair (by_pair es) k ≡ by_pair (entries.where_key nat_cmp (λ q. not (eq_by_cmp nat_cmp (packed k) q)) es)
  without-by_pair [] = refl
  without-by_pair (e ∷ es) =
      let rest : List (Pair × V) = without_pair (by_pair es) k in
      let left : List (ℕ × V) = entries.where_key nat_cmp (λ q. not (eq_by_cmp nat_cmp (packed k) q)) es in
      ap (λ r. cond (not (is_eq r)) ((unpacked e.0, e.1) ∷ rest) rest) (cmp_unpacked k e.0 fits)
      ∙ elim (is_eq (nat_cmp (packed k) e.0)) as (λ b. cond (not b) ((unpacked e.0, e.1) ∷ rest) rest ≡ by_pair (cond (not b) (e ∷ left) left)) [
        | true ↦ without-by_pair es
        | false ↦ ap (λ (f : List (Pair × V)). (unpacked e.0, e.1) ∷ f) (without-by_pair es)
      ]

below-by_pair : {V : Type 0} (x : ℕ) (es : List (ℕ × V)) → entries.below_all pair_cmp (unpacked x) (by_pair es) ≡ entries.below_all nat_cmp x es
below-by_pair x [] = refl
below-by_pair x (e ∷ es) = λ i. is_lt (cmp_both x e.0 i) && below-by_pair x es i

pub ascending-by_pair : {V : Type 0} (es : List (ℕ × V)) → entries.is_sorted pair_cmp (by_pair es) ≡ entries.is_sorted nat_cmp es
ascending-by_pair [] = refl
ascending-by_pair (e ∷ es) = λ i. below-by_pair e.0 es i && ascending-by_pair es i

pub length-by_pair : {V : Type 0} (es : List (ℕ × V)) → length (by_pair es) ≡ length es
length-by_pair [] = refl
length-by_pair (e ∷ es) = ap suc (length-by_pair es)
