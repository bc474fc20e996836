-- Domains that are kept in a list with a place for each port.
use Rattle.std.proofs.Common.{◌≡◌, ℕ, zero, suc, ◌+◌, ◌<◌, cond, List, [], ◌∷◌, length, get_or, set, Option, None, Some, refl, sym, ap, ◌∙◌, arith}
use Rattle.std.specs.declared.cmp.Ordering.TheVariants.{Less, Equal, Greater}
use Rattle.std.specs.Ordering.{nat_cmp}
use Rattle.std.specs.Cmp.{nat_cmp_is}
use Rattle.std.specs.FinMap.Entries.{by_order}
use Rattle.lemmas.proofs.Orders.{eq_by_cmp-ne, eq_by_cmp-eq}
use Rattle.br_model.specs.Table.Domains.{entries_from}
use Rattle.br_model.specs.Data.Maps.{get, put}

before : (n q : ℕ) (places : List (Option ℕ)) → q < n → get nat_cmp (entries_from n places) q ≡ None
before n q [] h = refl
before n q (None ∷ places) h = before (n + 1) q places (omega arith)
before n q (Some d ∷ places) h =
    ap (λ b. cond b (Some d) (get nat_cmp (entries_from (n + 1) places) q)) (eq_by_cmp-ne q n (λ e. omega arith))
    ∙ before (n + 1) q places (omega arith)

-- the entry of the k-th place
pub get-entries : (n k : ℕ) (places : List (Option ℕ)) → get nat_cmp (entries_from n places) (n + k) ≡ get_or places k None
get-entries n zero [] = refl
get-entries n (suc k) [] = refl
get-entries n zero (None ∷ places) = before (n + 1) (n + 0) places (omega arith)
get-entries n zero (Some d ∷ places) = ap (λ b. cond b (Some d) (get nat_cmp (entries_from (n + 1) places) (n + 0))) (eq_by_cmp-eq (n + 0) n (omega arith))
get-entries n (suc k) (None ∷ places) =
    let e : n + suc k ≡ (n + 1) + k = omega arith in
    ap (λ q. get nat_cmp (entries_from (n + 1) places) q) e ∙ get-entries (n + 1) k places
get-entries n (suc k) (Some d ∷ places) =
    let e : n + suc k ≡ (n + 1) + k = omega arith in
    ap (λ b. cond b (Some d) (get nat_cmp (entries_from (n + 1) places) (n + suc k))) (eq_by_cmp-ne (n + suc k) n (λ x. omega arith))
    ∙ ap (λ q. get nat_cmp (entries_from (n + 1) places) q) e ∙ get-entries (n + 1) k places

-- a key below all goes first
put_first : (n q d : ℕ) (places : List (Option ℕ)) → q < n → put nat_cmp (entries_from n places) q d ≡ (q, d) ∷ entries_from n places
put_first n q d [] h = refl
put_first n q d (None ∷ places) h = put_first (n + 1) q d places (omega arith)
put_first n q d (Some c ∷ places) h =
    ap (λ r. by_order r ((q, d) ∷ (n, c) ∷ entries_from (n + 1) places) ((n, d) ∷ entries_from (n + 1) places) ((n, c) ∷ put nat_cmp (entries_from (n + 1) places) q d))
    (sym (nat_cmp_is q n Less h))

-- a new entry at the k-th place
pub entries-set : (n k d : ℕ) (places : List (Option ℕ)) → k < length places → entries_from n (set places k (Some d)) ≡ put nat_cmp (entries_from n places) (n + k) d
entries-set n k d [] h = absurd (omega arith)
entries-set n zero d (None ∷ places) h =
    let e : n + 0 ≡ n = omega arith in
    sym (ap (λ q. put nat_cmp (entries_from (n + 1) places) q d) e ∙ put_first (n + 1) n d places (omega arith))
entries-set n zero d (Some c ∷ places) h =
    ap (λ r. by_order r ((n + 0, d) ∷ (n, c) ∷ entries_from (n + 1) places) ((n, d) ∷ entries_from (n + 1) places) ((n, c) ∷ put nat_cmp (entries_from (n + 1) places) (n + 0) d))
    (nat_cmp_is (n + 0) n Equal (omega arith))
entries-set n (suc k) d (None ∷ places) h =
    let e : n + suc k ≡ (n + 1) + k = omega arith in
    entries-set (n + 1) k d places (omega arith) ∙ ap (λ q. put nat_cmp (entries_from (n + 1) places) q d) (sym e)
entries-set n (suc k) d (Some c ∷ places) h =
    let e : n + suc k ≡ (n + 1) + k = omega arith in
    ap (λ (es : List (ℕ × ℕ)). (n, c) ∷ es) (entries-set (n + 1) k d places (omega arith) ∙ ap (λ q. put nat_cmp (entries_from (n + 1) places) q d) (sym e))
    ∙ ap (λ r. by_order r ((n + suc k, d) ∷ (n, c) ∷ entries_from (n + 1) places) ((n, d) ∷ entries_from (n + 1) places) ((n, c) ∷ put nat_cmp (entries_from (n + 1) places) (n + suc k) d))
    (nat_cmp_is (n + suc k) n Greater (omega arith))
