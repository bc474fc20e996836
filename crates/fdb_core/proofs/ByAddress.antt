-- What keys' numbers are, and the keys of entries that pass.
use Rattle.std.proofs.Common.{◌≡◌, ℕ, zero, suc, ◌/◌, ◌^◌, ◌<◌, ◌≤◌, Bool, true, false, cond, ◌&&◌, IsTrue, List, [], ◌∷◌, length, get_or, map, filter, nat_le, refl, sym, ap, subst, arith}
use Rattle.std.specs.List.{list_all}
use Rattle.std.specs.Ordering.{nat_cmp}
use Rattle.std.specs.declared.cmp.Ordering.TheVariants.{Less, Equal, Greater}
use Rattle.std.specs.Cmp.{first_so, second_so}
use Rattle.std.proofs.lemmas.Bool.{le-leb, leb-true, and_from}
use Rattle.std.specs.FinMap.Entries as entries
use Rattle.std.specs.FinMap.Entries.{by_order}
use Rattle.fdb_core.specs.declared.entries.Entry.{Entry}
use Rattle.open_addressing.specs.Pairs.{packed, unpacked}
use Rattle.fdb_core.specs.Packing.{is_key, AreKeys, by_address}
use Rattle.open_addressing.specs.Finite.{keys_where as numbers_where}
use Rattle.fdb_core.specs.Fdb.{keys_where}
use Rattle.open_addressing.proofs.Pairs.{unpacked-packed}

abbrev pub Key : Type 0
Key = ℕ × ℕ

module _ (p : ℕ → Bool) where
  all-put : (k : ℕ) (x : Entry) (es : List (ℕ × Entry)) → p k ≡ true → list_all (λ e. p e.0) es ≡ true → list_all (λ e. p e.0) (entries.put nat_cmp k x es) ≡ true
  all-put k x [] here all = and_from _ _ here refl
  all-put k x (e ∷ es) here all =
      let first = first_so (p e.0) (list_all (λ (f : ℕ × Entry). p f.0) es) all in
      let rest = second_so (p e.0) (list_all (λ (f : ℕ × Entry). p f.0) es) all in
      elim (nat_cmp k e.0) as (λ r. list_all (λ (f : ℕ × Entry). p f.0) (by_order r ((k, x) ∷ e ∷ es) ((e.0, x) ∷ es) (e ∷ entries.put nat_cmp k x es)) ≡ true) [
        | Less ↦ and_from _ _ here all
        | Equal ↦ all
        | Greater ↦ and_from _ _ first (all-put k x es here rest)
      ]

  all-filter : (t : ℕ × Entry → Bool) (es : List (ℕ × Entry)) → list_all (λ e. p e.0) es ≡ true → list_all (λ e. p e.0) (filter t es) ≡ true
  all-filter t [] all = refl
  all-filter t (e ∷ es) all =
      let first = first_so (p e.0) (list_all (λ (f : ℕ × Entry). p f.0) es) all in
      let rest = all-filter t es (second_so (p e.0) (list_all (λ (f : ℕ × Entry). p f.0) es) all) in
      elim (t e) as (λ b. list_all (λ (f : ℕ × Entry). p f.0) (cond b (e ∷ filter t es) (filter t es)) ≡ true) [
        | true ↦ and_from _ _ first rest
        | false ↦ rest
      ]

  all-keys : (es : List (ℕ × Entry)) → list_all (λ e. p e.0) es ≡ true → list_all p (map (λ (e : ℕ × Entry). e.0) es) ≡ true
  all-keys [] all = refl
  all-keys (e ∷ es) all =
      and_from _ _ (first_so (p e.0) (list_all (λ (f : ℕ × Entry). p f.0) es) all) (all-keys es (second_so (p e.0) (list_all (λ (f : ℕ × Entry). p f.0) es) all))

pub keys-put : (k : ℕ) (x : Entry) (es : List (ℕ × Entry)) → IsTrue (is_key k) → AreKeys es → AreKeys (entries.put nat_cmp k x es)
keys-put k x es here all = all-put is_key k x es here all

pub keys-filter : (t : ℕ × Entry → Bool) (es : List (ℕ × Entry)) → AreKeys es → AreKeys (filter t es)
keys-filter t es all = all-filter is_key t es all

pub keys-where : (t : Entry → Bool) (es : List (ℕ × Entry)) → AreKeys es → IsTrue (list_all is_key (numbers_where t es))
keys-where t es all = all-keys is_key (filter (λ e. t e.1) es) (all-filter is_key (λ e. t e.1) es all)

-- the keys of the entries that pass
pub keys_where-by_address : (t : Entry → Bool) (es : List (ℕ × Entry)) → map unpacked (numbers_where t es) ≡ keys_where t (by_address es)
keys_where-by_address t [] = refl
keys_where-by_address t (e ∷ es) =
    let rest = keys_where-by_address t es in
    elim (t e.1) as (λ b. map unpacked (map (λ (f : ℕ × Entry). f.0) (cond b (e ∷ filter (λ (f : ℕ × Entry). t f.1) es) (filter (λ (f : ℕ × Entry). t f.1) es)))
    ≡ map (λ (f : Key × Entry). f.0) (cond b ((unpacked e.0, e.1) ∷ filter (λ (f : Key × Entry). t f.1) (by_address es)) (filter (λ (f : Key × Entry). t f.1) (by_address es)))) [
      | true ↦ ap (λ (ks : List Key). unpacked e.0 ∷ ks) rest
      | false ↦ rest
    ]

pub key-packed : (k : Key) → k.1 < 2 ^ 48 → 1 ≤ k.0 → k.0 ≤ 4094 → IsTrue (is_key (packed k))
key-packed k fits low high =
    subst (λ (q : Key). (nat_le 1 q.0 && nat_le q.0 4094) ≡ true) (sym (unpacked-packed k fits)) (and_from _ _ (le-leb 1 k.0 low) (le-leb k.0 4094 high))

pub key-range : (n : ℕ) → is_key n ≡ true → (1 ≤ n / 2 ^ 48) × (n / 2 ^ 48 ≤ 4094)
unfolding unpacked
key-range n h = (leb-true 1 (n / 2 ^ 48) (first_so _ _ h), leb-true (n / 2 ^ 48) 4094 (second_so _ _ h))

pub key-some : (n : ℕ) → is_key n ≡ true → n ≡ 0 → ⊥
key-some n h zero_is = (let low = (key-range n h).0 in omega arith)

pub all-at : (ns : List ℕ) (i d : ℕ) → list_all is_key ns ≡ true → i < length ns → is_key (get_or ns i d) ≡ true
all-at [] i d all h = absurd (omega arith)
all-at (n ∷ ns) zero d all h = first_so _ _ all
all-at (n ∷ ns) (suc i) d all h = all-at ns i d (second_so _ _ all) (omega arith)
