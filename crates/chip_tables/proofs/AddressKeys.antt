-- The keys at places are those of the entries, in another order.
use Rattle.std.proofs.Common.{◌≡◌, ℕ, zero, suc, true, cond, Option, None, Some, List, [], ◌∷◌, map, filter_map, IsPermutation, refl, sym, ap, subst, ◌∙◌}
use Rattle.std.specs.List.{cons_option}
use Rattle.std.specs.List.Sorted.{IsStrictlySortedBy}
use Rattle.std.specs.Ordering.{nat_cmp, is_eq}
use Rattle.std.specs.declared.cmp.Ordering.TheVariants.{Less, Equal, Greater}
use Rattle.std.specs.FinMap.Entries as entries
use Rattle.std.specs.FinMap.Entries.{by_order}
use Rattle.std.proofs.lemmas.List.Sorted.{IsPermutation-refl, IsPermutation-trans, IsPermutation-sym, IsPermutation-cons, IsPermutation-middle, IsPermutation-map}
use Rattle.lemmas.proofs.Tests.{true_from_T}
use Rattle.br_model.specs.Data.Maps.{pair_cmp}
use Rattle.br_model.proofs.Data.KeySets.{keys-ascend}
use Rattle.open_addressing.specs.Finite.{entries_of, key_if}
use Rattle.open_addressing.specs.Lookups.{IsApart}
use Rattle.open_addressing.specs.Pairs.{unpacked, by_pair}
use Rattle.open_addressing.specs.Zipped.{cell_of, key_of}
use Rattle.open_addressing.proofs.Entries.{sorted-entries_of, apart-tail, alone}
use Rattle.open_addressing.proofs.Pairs.{ascending-by_pair}
use Rattle.chip_tables.specs.declared.rows.AddressRow.{AddressRow}
use Rattle.chip_tables.specs.AddressCells.{address_cells, place_in, places_of}

abbrev Key : Type 0
Key = ℕ × ℕ

abbrev Entries : Type 0
Entries = List (ℕ × AddressRow)

abbrev Cells : Type 0
Cells = List (Option (ℕ × AddressRow))

abbrev firsts : Entries → List ℕ
firsts es = map (λ e. e.0) es

abbrev numbers : Cells → List ℕ
numbers cs = filter_map (key_if (λ _. true)) cs

number-first : (n : ℕ) (r : AddressRow) (ks : List Key) (ns : List ℕ) → ks ≡ map unpacked ns
    → cons_option (place_in (cell_of n r)) ks ≡ map unpacked (cons_option (key_if (λ _. true) (cell_of n r)) ns)
number-first zero r ks ns e = e
number-first (suc n) r ks ns e = ap (λ (l : List Key). unpacked (suc n) ∷ l) e

-- the keys at places are those of the cells' numbers
places-numbers : (rows : List ℕ) → filter_map (λ place. place) (places_of (address_cells rows)) ≡ map unpacked (numbers (address_cells rows))
places-numbers [] = refl
places-numbers (r ∷ rs) = number-first _ _ _ _ (places-numbers rs)

-- a new key stands somewhere among the others
put-moved : (k : ℕ) (x : AddressRow) (es : Entries) → entries.find nat_cmp k es ≡ None → IsPermutation (k ∷ firsts es) (firsts (entries.put nat_cmp k x es))
put-moved k x [] none = IsPermutation-refl (k ∷ [])
put-moved k x (e ∷ es) none =
    elim (nat_cmp k e.0) as (λ r. cond (is_eq r) (Some e.1) (entries.find nat_cmp k es) ≡ None
    → IsPermutation (k ∷ e.0 ∷ firsts es) (firsts (by_order r ((k, x) ∷ e ∷ es) ((e.0, x) ∷ es) (e ∷ entries.put nat_cmp k x es)))) [
      | Less ↦ λ h. IsPermutation-refl (k ∷ e.0 ∷ firsts es)
      | Equal ↦ λ h. absurd (cc)
      | Greater ↦ λ h.
          IsPermutation-trans (k ∷ e.0 ∷ firsts es) (e.0 ∷ k ∷ firsts es) (e.0 ∷ firsts (entries.put nat_cmp k x es))
          (IsPermutation-sym (e.0 ∷ k ∷ firsts es) (k ∷ e.0 ∷ firsts es) (IsPermutation-middle (e.0 ∷ []) k (firsts es)))
          (IsPermutation-cons e.0 (k ∷ firsts es) (firsts (entries.put nat_cmp k x es)) (put-moved k x es h))
    ] none

cell-moved : (n : ℕ) (r : AddressRow) (cs : Cells) → IsApart key_of (Some (n, r) ∷ cs) → IsPermutation (numbers cs) (firsts (entries_of cs))
    → IsPermutation (numbers (Some (n, r) ∷ cs)) (firsts (entries_of (Some (n, r) ∷ cs)))
cell-moved zero r cs apart rest = rest
cell-moved (suc n) r cs apart rest =
    IsPermutation-trans (suc n ∷ numbers cs) (suc n ∷ firsts (entries_of cs)) (firsts (entries.put nat_cmp (suc n) r (entries_of cs)))
    (IsPermutation-cons (suc n) (numbers cs) (firsts (entries_of cs)) rest) (put-moved (suc n) r (entries_of cs) (alone n r cs apart))

-- the numbers in cells are the keys of the entries in another order
cells-moved : (cs : Cells) → IsApart key_of cs → IsPermutation (numbers cs) (firsts (entries_of cs))
cells-moved [] apart = IsPermutation-refl []
cells-moved (None ∷ cs) apart = cells-moved cs (apart-tail None cs apart)
cells-moved (Some e ∷ cs) apart = cell-moved e.0 e.1 cs apart (cells-moved cs (apart-tail (Some e) cs apart))

keys-of : (es : Entries) → map unpacked (firsts es) ≡ map (λ e. e.0) (by_pair es)
keys-of [] = refl
keys-of (e ∷ es) = ap (λ (l : List Key). unpacked e.0 ∷ l) (keys-of es)

pub keys-moved : (rows : List ℕ) (es : Entries) → entries_of (address_cells rows) ≡ es → IsApart key_of (address_cells rows)
    → IsPermutation (filter_map (λ place. place) (places_of (address_cells rows))) (map (λ e. e.0) (by_pair es))
keys-moved rows es listed apart =
    let ns : List ℕ = numbers (address_cells rows) in
    let moved : IsPermutation ns (firsts es) = subst (λ (xs : Entries). IsPermutation ns (firsts xs)) listed (cells-moved (address_cells rows) apart) in
    subst (λ (ks : List Key). IsPermutation ks (map (λ e. e.0) (by_pair es))) (sym (places-numbers rows))
    (subst (λ (ks : List Key). IsPermutation (map unpacked ns) ks) (keys-of es) (IsPermutation-map unpacked ns (firsts es) moved))

pub keys-rise : (rows : List ℕ) (es : Entries) → entries_of (address_cells rows) ≡ es → IsStrictlySortedBy pair_cmp (map (λ e. e.0) (by_pair es))
keys-rise rows es listed =
    keys-ascend pair_cmp (by_pair es) (ascending-by_pair es ∙ ap (λ (l : Entries). entries.is_sorted nat_cmp l) (sym listed) ∙ true_from_T _ (sorted-entries_of (address_cells rows)))
