-- The entries that cells hold: look-ups, puts and takes.
use Rattle.std.proofs.Common.{◌≡◌, ◌≢◌, ℕ, zero, suc, ◌+◌, Bool, true, false, T, eqb, not, cond, Option, None, Some, List, [], ◌∷◌, length, count_by, replicate, is_some, refl, sym, ap, ◌∙◌, arith}
use Rattle.std.specs.Ordering.{eq_by_cmp, nat_cmp}
use Rattle.std.specs.Cmp.{unsigned_tied}
use Rattle.std.proofs.lemmas.Bool.{ne_eqb, eq-eqb}
use Rattle.std.proofs.lemmas.Cmp.{nat_cmp_total}
use Rattle.std.proofs.lemmas.List.Sums.{sum_by-cons}
use Rattle.std.proofs.lemmas.Map.Lookups.{exact_unsigned}
use Rattle.std.specs.FinMap.Entries.{find, put, where_key, is_sorted, find-put, find-where_key, same_entries, is_sorted-put, is_sorted-where_key, length-put}
use Rattle.lemmas.proofs.Orders.{eq_by_cmp-turned}
use Rattle.lemmas.proofs.Tests.{by_test}
use Rattle.open_addressing.specs.Zipped.{key_of}
use Rattle.open_addressing.specs.Lookups.{has, IsApart, is_used}
use Rattle.open_addressing.specs.Finite.{with_cell, entries_of, in_cell, value_at}
use Rattle.open_addressing.proofs.Lookups.{find-none}

module _ {V : Type 0} where
  pub sorted-entries_of : (cs : List (Option (ℕ × V))) → T (is_sorted nat_cmp (entries_of cs))
  sorted-entries_of [] = tt
  sorted-entries_of (None ∷ cs) = sorted-entries_of cs
  sorted-entries_of (Some e ∷ cs) =
      elim e.0 as (λ k. T (is_sorted nat_cmp (with_cell k e.1 (entries_of cs)))) [
        | zero ↦ sorted-entries_of cs
        | suc k ↦ is_sorted-put nat_cmp nat_cmp_total (suc k) e.1 (entries_of cs) (sorted-entries_of cs)
      ]

  value-first : (q k : ℕ) (v : V) (cs : List (Option (ℕ × V))) → value_at (Some (k, v) ∷ cs) q ≡ cond (eqb k q) (Some v) (value_at cs q)
  value-first q k v cs = elim (eqb k q) as (λ b. in_cell (cond b (Some (Some (k, v))) (Rattle.std.specs.List.find (has key_of q) cs)) ≡ cond b (Some v) (value_at cs q)) [ true ↦ refl | false ↦ refl ]

  value-empty : (q : ℕ) (cs : List (Option (ℕ × V))) → q ≢ 0 → value_at (None ∷ cs) q ≡ value_at cs q
  value-empty q cs some = ap (λ b. in_cell (cond b (Some None) (Rattle.std.specs.List.find (has key_of q) cs))) (ne_eqb 0 q (λ z. some (sym z)))

  find-with : (q k : ℕ) (v : V) (cs : List (Option (ℕ × V))) → q ≢ 0 → find nat_cmp q (entries_of cs) ≡ value_at cs q
      → find nat_cmp q (with_cell k v (entries_of cs)) ≡ cond (eqb k q) (Some v) (value_at cs q)
  find-with q zero v cs some rest = rest ∙ sym (ap (λ b. cond b (Some v) (value_at cs q)) (ne_eqb 0 q (λ z. some (sym z))))
  find-with q (suc k) v cs some rest =
      find-put nat_cmp nat_cmp_total q (suc k) v (entries_of cs) ∙ (λ i. cond (eq_by_cmp-turned q (suc k) i) (Some v) (rest i))

  pub find-entries_of : (cs : List (Option (ℕ × V))) (q : ℕ) → q ≢ 0 → find nat_cmp q (entries_of cs) ≡ value_at cs q
  find-entries_of [] q some = refl
  find-entries_of (None ∷ cs) q some = find-entries_of cs q some ∙ sym (value-empty q cs some)
  find-entries_of (Some e ∷ cs) q some = find-with q e.0 e.1 cs some (find-entries_of cs q some) ∙ sym (value-first q e.0 e.1 cs)

  pub find-zero : (cs : List (Option (ℕ × V))) → find nat_cmp 0 (entries_of cs) ≡ None
  find-zero [] = refl
  find-zero (None ∷ cs) = find-zero cs
  find-zero (Some e ∷ cs) =
      elim e.0 as (λ k. find nat_cmp 0 (with_cell k e.1 (entries_of cs)) ≡ None) [
        | zero ↦ find-zero cs
        | suc k ↦ find-put nat_cmp nat_cmp_total 0 (suc k) e.1 (entries_of cs) ∙ (λ i. cond ((eq_by_cmp-turned 0 (suc k) ∙ ne_eqb (suc k) 0 (λ e. omega arith)) i) (Some e.1) (find-zero cs i))
      ]

  -- entries in order with the same look-ups are the cells' entries
  same_table : (cs : List (Option (ℕ × V))) (es : List (ℕ × V)) → T (is_sorted nat_cmp es) → find nat_cmp 0 es ≡ None → ((q : ℕ) → q ≢ 0 → value_at cs q ≡ find nat_cmp q es) → entries_of cs ≡ es
  same_table cs es sorted none same =
      same_entries nat_cmp nat_cmp_total exact_unsigned (entries_of cs) es (sorted-entries_of cs) sorted
      (λ q. elim q as (λ q. find nat_cmp q (entries_of cs) ≡ find nat_cmp q es) [
        | zero ↦ find-zero cs ∙ sym none
        | suc k ↦ find-entries_of cs (suc k) (λ e. omega arith) ∙ same (suc k) (λ e. omega arith)
      ])

  pub entries-put : (old new : List (Option (ℕ × V))) (k : ℕ) (v : V) → k ≢ 0 → ((q : ℕ) → q ≢ 0 → value_at new q ≡ cond (eqb k q) (Some v) (value_at old q))
      → entries_of new ≡ put nat_cmp k v (entries_of old)
  entries-put old new k v some same =
      same_table new (put nat_cmp k v (entries_of old)) (is_sorted-put nat_cmp nat_cmp_total k v (entries_of old) (sorted-entries_of old))
      (find-put nat_cmp nat_cmp_total 0 k v (entries_of old) ∙ (λ i. cond ((eq_by_cmp-turned 0 k ∙ ne_eqb k 0 some) i) (Some v) (find-zero old i)))
      (λ q qs. same q qs ∙ sym (find-put nat_cmp nat_cmp_total q k v (entries_of old) ∙ (λ i. cond (eq_by_cmp-turned q k i) (Some v) (find-entries_of old q qs i))))

  pub value-none : (cs : List (Option (ℕ × V))) (q : ℕ) → count_by (has key_of q) cs ≡ 0 → value_at cs q ≡ None
  value-none cs q none = ap in_cell (find-none (has key_of q) cs none)

  pub apart-tail : (c : Option (ℕ × V)) (cs : List (Option (ℕ × V))) → IsApart key_of (c ∷ cs) → IsApart key_of cs
  apart-tail c cs apart q qs = let all = sum_by-cons (λ x. cond (has key_of q x) 1 0) c cs in let one = apart q qs in omega arith

  -- a key stands in no other cell
  pub alone : (k : ℕ) (v : V) (cs : List (Option (ℕ × V))) → IsApart key_of (Some (suc k, v) ∷ cs) → find nat_cmp (suc k) (entries_of cs) ≡ None
  alone k v cs apart =
      let q : ℕ = suc k in
      let qs : q ≢ 0 = λ e. omega arith in
      let all = sum_by-cons (λ (x : Option (ℕ × V)). cond (has key_of q x) 1 0) (Some (q, v)) cs in
      let one = apart q qs in
      let here : cond {A = ℕ} (eqb q q) 1 0 ≡ 1 = ap (λ b. cond {A = ℕ} b 1 0) (eq-eqb q q refl) in
      find-entries_of cs q qs ∙ value-none cs q (omega arith)

  turned : (b : Bool) (x : Option V) → cond (not b) x None ≡ cond b None x
  turned true x = refl
  turned false x = refl

  find-without : (k q : ℕ) (es : List (ℕ × V)) → find nat_cmp q (where_key nat_cmp (λ x. not (eq_by_cmp nat_cmp k x)) es) ≡ cond (eqb k q) None (find nat_cmp q es)
  find-without k q es =
      find-where_key nat_cmp (λ x. not (eq_by_cmp nat_cmp k x)) q (λ x tied. ap (λ y. not (eq_by_cmp nat_cmp k y)) (sym (exact_unsigned q x tied))) es
      ∙ turned (eq_by_cmp nat_cmp k q) (find nat_cmp q es) ∙ ap (λ b. cond b None (find nat_cmp q es)) (unsigned_tied k q)

  pub entries-without : (old new : List (Option (ℕ × V))) (k : ℕ) → ((q : ℕ) → q ≢ 0 → value_at new q ≡ cond (eqb k q) None (value_at old q))
      → entries_of new ≡ where_key nat_cmp (λ x. not (eq_by_cmp nat_cmp k x)) (entries_of old)
  entries-without old new k same =
      same_table new (where_key nat_cmp (λ x. not (eq_by_cmp nat_cmp k x)) (entries_of old)) (is_sorted-where_key nat_cmp (λ x. not (eq_by_cmp nat_cmp k x)) (entries_of old) (sorted-entries_of old))
      (find-without k 0 (entries_of old) ∙ ap (cond (eqb k 0) None) (find-zero old) ∙ by_test (eqb k 0) (λ y. ap (λ b. cond b None None) y) (λ n. ap (λ b. cond b None None) n))
      (λ q qs. same q qs ∙ sym (find-without k q (entries_of old) ∙ ap (cond (eqb k q) None) (find-entries_of old q qs)))

  length-with : (k : ℕ) (v : V) (cs : List (Option (ℕ × V))) → IsApart key_of (Some (k, v) ∷ cs) → length (entries_of cs) ≡ count_by (is_used key_of) cs
      → length (with_cell k v (entries_of cs)) ≡ count_by (is_used key_of) (Some (k, v) ∷ cs)
  length-with zero v cs apart rest =
      let all = sum_by-cons (λ (x : Option (ℕ × V)). cond (is_used key_of x) 1 0) (Some (0, v)) cs in
      let none : cond {A = ℕ} (not (eqb 0 0)) 1 0 ≡ 0 = ap (λ b. cond {A = ℕ} (not b) 1 0) (eq-eqb 0 0 refl) in
      omega arith
  length-with (suc k) v cs apart rest =
      let all = sum_by-cons (λ (x : Option (ℕ × V)). cond (is_used key_of x) 1 0) (Some (suc k, v)) cs in
      let one : cond {A = ℕ} (not (eqb (suc k) 0)) 1 0 ≡ 1 = ap (λ b. cond {A = ℕ} (not b) 1 0) (ne_eqb (suc k) 0 (λ e. omega arith)) in
      let longer : length (put nat_cmp (suc k) v (entries_of cs)) ≡ length (entries_of cs) + 1 =
      length-put nat_cmp nat_cmp_total (suc k) v (entries_of cs) (sorted-entries_of cs)
      ∙ ap (λ (o : Option V). cond (is_some o) (length (entries_of cs)) (length (entries_of cs) + 1)) (alone k v cs apart) in
      omega arith

  pub length-entries_of : (cs : List (Option (ℕ × V))) → IsApart key_of cs → length (entries_of cs) ≡ count_by (is_used key_of) cs
  length-entries_of [] apart = refl
  length-entries_of (None ∷ cs) apart =
      let rest = length-entries_of cs (apart-tail None cs apart) in
      let all = sum_by-cons (λ (x : Option (ℕ × V)). cond (is_used key_of x) 1 0) None cs in
      let none : cond {A = ℕ} (not (eqb 0 0)) 1 0 ≡ 0 = ap (λ b. cond {A = ℕ} (not b) 1 0) (eq-eqb 0 0 refl) in
      omega arith
  length-entries_of (Some e ∷ cs) apart = length-with e.0 e.1 cs apart (length-entries_of cs (apart-tail (Some e) cs apart))

  entries-make : (n : ℕ) → entries_of {V = V} (replicate n None) ≡ []
  entries-make zero = refl
  entries-make (suc n) = entries-make n

  pub entries-made : (cs : List (Option (ℕ × V))) (n : ℕ) → cs ≡ replicate n None → entries_of cs ≡ []
  entries-made cs n is = ap entries_of is ∙ entries-make n
