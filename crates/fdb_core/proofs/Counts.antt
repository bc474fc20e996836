-- The numbers of entries at ports, through a put and a take.
use Rattle.std.proofs.Common.{◌≡◌, ℕ, ◌+◌, ◌≤◌, true, false, cond, not, Some, List, [], ◌∷◌, length, filter, map, refl, ap, arith}
use Rattle.std.specs.Ordering.{is_eq, eq_by_cmp, nat_cmp}
use Rattle.std.specs.declared.cmp.Ordering.TheVariants.{Less, Equal, Greater}
use Rattle.std.specs.Cmp.{second_so}
use Rattle.std.specs.FinMap.Entries.{find, put, where_key, by_order, below_all, is_sorted}
use Rattle.open_addressing.specs.Finite.{keys_where}
use Rattle.fdb_core.specs.declared.entries.Entry.{Entry}
use Rattle.fdb_core.specs.Fdb.{is_at_port}
use Rattle.fdb_core.specs.Counts.{one_at, one_if, count_at}
use Rattle.fdb_core.proofs.Lookups.{find_past, lowest}

module _ (port : ℕ) where
  -- not_so more than there are
  pub count-most : (es : List (ℕ × Entry)) → count_at port es ≤ length es
  count-most [] = omega arith
  count-most (e ∷ es) =
      let rest = count-most es in
      let one : one_at port e.1 ≤ 1 = elim (is_at_port port e.1) as (λ b. cond b 1 0 ≤ 1) [ true ↦ omega arith | false ↦ omega arith ] in
      omega arith

  count-none : (es : List (ℕ × Entry)) → count_at port es ≡ 0 → filter (λ e. is_at_port port e.1) es ≡ []
  count-none [] h = refl
  count-none (e ∷ es) h =
      elim (is_at_port port e.1) as (λ b. cond b 1 0 + count_at port es ≡ 0
      → cond b (e ∷ filter (λ (x : ℕ × Entry). is_at_port port x.1) es) (filter (λ (x : ℕ × Entry). is_at_port port x.1) es) ≡ []) [
        | true ↦ λ some. absurd (omega arith)
        | false ↦ λ none. count-none es (omega arith)
      ] h

  pub no_keys : (es : List (ℕ × Entry)) → count_at port es ≡ 0 → keys_where (is_at_port port) es ≡ []
  no_keys es h = ap (map (λ (e : ℕ × Entry). e.0)) (count-none es h)

  pub count-put : (k : ℕ) (x : Entry) (es : List (ℕ × Entry)) → is_sorted nat_cmp es ≡ true → count_at port (put nat_cmp k x es) + one_if port (find nat_cmp k es) ≡ one_at port x + count_at port es
  count-put k x [] h = omega arith
  count-put k x (e ∷ es) h =
      elim (nat_cmp k e.0) as (λ r. nat_cmp k e.0 ≡ r
      → count_at port (by_order r ((k, x) ∷ e ∷ es) ((e.0, x) ∷ es) (e ∷ put nat_cmp k x es)) + one_if port
      (cond (is_eq r) (Some e.1) (find nat_cmp k es)) ≡ one_at port x + (one_at port e.1 + count_at port es)) [
        | Less ↦ λ is. (let none : one_if port (find nat_cmp k es) ≡ 0 = ap (one_if port) (lowest k e es is h) in omega arith)
        | Equal ↦ λ is. omega arith
        | Greater ↦ λ is. (let rest = count-put k x es (second_so (below_all nat_cmp e.0 es) (is_sorted nat_cmp es) h) in omega arith)
      ] refl

  pub count-without : (k : ℕ) (es : List (ℕ × Entry)) → is_sorted nat_cmp es ≡ true
      → count_at port (where_key nat_cmp (λ q. not (eq_by_cmp nat_cmp k q)) es) + one_if port (find nat_cmp k es) ≡ count_at port es
  count-without k [] h = refl
  count-without k (e ∷ es) h =
      let rest = count-without k es (second_so (below_all nat_cmp e.0 es) (is_sorted nat_cmp es) h) in
      elim (eq_by_cmp nat_cmp k e.0) as (λ b. eq_by_cmp nat_cmp k e.0 ≡ b
      → count_at port (cond (not b) (e ∷ where_key nat_cmp (λ q. not (eq_by_cmp nat_cmp k q)) es) (where_key nat_cmp (λ q. not (eq_by_cmp nat_cmp k q)) es)) + one_if port
      (cond b (Some e.1) (find nat_cmp k es)) ≡ one_at port e.1 + count_at port es) [
        | true ↦ λ so. (let none : one_if port (find nat_cmp k es) ≡ 0 = ap (one_if port) (find_past k e es h so) in omega arith)
        | false ↦ λ not_so. omega arith
      ] refl

  -- who is found is counted
  pub count-found : (k : ℕ) (es : List (ℕ × Entry)) → is_sorted nat_cmp es ≡ true → one_if port (find nat_cmp k es) ≤ count_at port es
  count-found k es h = (let left = count-without k es h in omega arith)
