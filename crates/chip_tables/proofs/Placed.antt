-- Keys in use and their places.
use Rattle.std.proofs.Common.{◌≡◌, ◌≢◌, ℕ, zero, suc, ◌^◌, ◌<◌, true, cond, Option, None, Some, List, [], ◌∷◌, length, get_or, set, is_some, find, refl, sym, ap, subst, ◌∙◌, ⊎_elim, arith}
use Rattle.std.specs.Prelude.{slice_get, filter_map, map, IsPermutation}
use Rattle.std.specs.List.Sorted.{IsStrictlySortedBy}
use Rattle.std.specs.Ordering.{nat_cmp, is_eq}
use Rattle.std.specs.declared.cmp.Ordering.TheVariants.{Less, Equal, Greater}
use Rattle.std.specs.FinMap.Entries as entries
use Rattle.std.specs.FinMap.Entries.{by_order}
use Rattle.std.proofs.lemmas.Bool.{cases_eq, eqb-true, eq-eqb, ne_eqb}
use Rattle.std.proofs.lemmas.List.{get_or_default, get_or-set_other, length-set, length-map}
use Rattle.br_model.specs.Data.Maps.{pair_cmp, get}
use Rattle.br_model.proofs.Data.PairKeys.{same_cmp}
use Rattle.open_addressing.specs.Finite.{entries_of, in_cell, value_at}
use Rattle.open_addressing.specs.Lookups.{has, IsApart}
use Rattle.open_addressing.specs.Pairs.{unpacked, packed as pair, by_pair}
use Rattle.open_addressing.specs.Zipped.{cell_of, key_of, value_of}
use Rattle.open_addressing.proofs.Entries.{find-entries_of, find-zero}
use Rattle.open_addressing.proofs.Finite.{value-found, is_some-found}
use Rattle.open_addressing.proofs.Lookups.{found, count-set, count-pos}
use Rattle.open_addressing.proofs.Zipped.{key_of-cell, value_of-cell}
use Rattle.open_addressing.proofs.Pairs.{get-by_pair, packed-unpacked, low-lt, unpacked-packed}
use Rattle.chip_tables.specs.declared.rows.AddressRow.{AddressRow}
use Rattle.chip_tables.specs.Rows.{Rows, key_of as number_of, address_of, extern_if, extern_at, address_rows, IsPlaced}
use Rattle.chip_tables.specs.AddressCells.{ordered, address_cell, address_cells, place_in, places_of, extern_in}
use Rattle.chip_tables.proofs.AddressKeys.{keys-moved, keys-rise}
use Rattle.chip_tables.proofs.AddressRows.{cell-at, place-at}

abbrev Cells : Type 0
Cells = List (Option (ℕ × AddressRow))

-- a new key makes the entries one more
pub length-new : {X : Type 0} (k : ℕ) (x : X) (es : List (ℕ × X)) → entries.find nat_cmp k es ≡ None → length (entries.put nat_cmp k x es) ≡ suc (length es)
length-new k x [] none = refl
length-new {X} k x (e ∷ es) none =
    elim (nat_cmp k e.0) as (λ r. cond (is_eq r) (Some e.1) (entries.find nat_cmp k es) ≡ None
    → length (by_order r ((k, x) ∷ e ∷ es) ((e.0, x) ∷ es) (e ∷ entries.put nat_cmp k x es)) ≡ suc (suc (length es))) [
      | Less ↦ λ h. refl
      | Equal ↦ λ h. absurd (cc)
      | Greater ↦ λ h. ap suc (length-new k x es h)
    ] none

cell-key : (n : ℕ) (r : AddressRow) (k : ℕ × ℕ) → Some (place_in (cell_of n r)) ≡ Some (Some k) → (key_of (cell_of n r) ≢ 0) × (unpacked (key_of (cell_of n r)) ≡ k)
cell-key zero r k e = absurd (cc)
cell-key (suc n) r k e = (λ z. omega arith, cc)

-- what stands at a place is the key of its cell
pub place-key : (rows : List ℕ) (i : ℕ) (k : ℕ × ℕ) → slice_get (places_of (address_cells rows)) i ≡ Some (Some k)
    → (i < length (address_cells rows)) × (key_of (get_or (address_cells rows) i None) ≢ 0) × (unpacked (key_of (get_or (address_cells rows) i None)) ≡ k)
place-key [] i k e = absurd (cc)
place-key (r ∷ rs) zero k e = let c = cell-key _ _ k e in (omega arith, c.0, c.1)
place-key (r ∷ rs) (suc i) k e = let c = place-key rs i k e in (omega (arith, c.0), c.1, c.2)

place-of : (cs : Cells) (i : ℕ) (c : Option (ℕ × AddressRow)) → i < length cs → get_or cs i None ≡ c → slice_get (places_of cs) i ≡ Some (place_in c)
place-of [] i c h e = absurd (omega arith)
place-of (x ∷ cs) zero c h e = ap (λ y. Some (place_in y)) e
place-of (x ∷ cs) (suc i) c h e = place-of cs i c (omega arith) e

place-used : (c : Option (ℕ × AddressRow)) (q : ℕ) → key_of c ≡ q → q ≢ 0 → place_in c ≡ Some (unpacked q)
place-used None q e some = absurd (some (sym e))
place-used (Some x) q e some = ap (λ n. Some (unpacked n)) e

-- one key, one place
alone : (cs : Cells) → IsApart key_of cs → (i j q : ℕ) → q ≢ 0 → i < length cs → j < length cs → key_of (get_or cs i None) ≡ q → key_of (get_or cs j None) ≡ q → i ≡ j
alone cs apart i j q some hi hj ei ej =
    ⊎_elim
    (λ (same : i ≡ j). same)
    (λ (other : i ≡ j → ⊥).
    let one = apart q some in
    let all = count-set (has key_of q) cs i None None hi in
    let was : cond {A = ℕ} (has key_of q (get_or cs i None)) 1 0 ≡ 1 = ap (λ b. cond {A = ℕ} b 1 0) (eq-eqb _ q ei) in
    let left : get_or (set cs i None) j None ≡ get_or cs j None = get_or-set_other cs i j None None (λ e. other (sym e)) in
    let more = count-pos (has key_of q) (set cs i None) j None (omega (arith, length-set cs i None)) (eq-eqb _ q (ap key_of left ∙ ej)) in
    let none : cond {A = ℕ} (has (key_of {V = AddressRow}) q None) 1 0 ≡ 0 = ap (λ b. cond {A = ℕ} b 1 0) (ne_eqb 0 q (λ z. some (sym z))) in
    absurd (omega arith))
    (cases_eq i j)

not_none : (o : Option AddressRow) → o ≡ None → is_some o ≡ true → ⊥
not_none None e h = absurd (cc)
not_none (Some r) e h = absurd (cc)

-- a key that is found stands in a cell
found-at : (cs : Cells) (q : ℕ) → is_some (value_at cs q) ≡ true → (i : ℕ) × (i < length cs) × (key_of (get_or cs i None) ≡ q)
found-at cs q is =
    elim (find (has key_of q) cs) as (λ o. find (has key_of q) cs ≡ o → is_some (in_cell o) ≡ true → (i : ℕ) × (i < length cs) × (key_of (get_or cs i None) ≡ q)) [
      | None ↦ λ e h. absurd (cc)
      | Some c ↦ λ e h.
          let f = found (has key_of q) cs c e in
          let at : get_or cs f.0.0 None ≡ c = sym (get_or_default cs f.0.0 c None f.0.1) ∙ f.0.2 in
          (f.0.0, f.0.1, ap key_of at ∙ eqb-true (key_of c) q f.1)
    ] refl is

-- an address that is found has 48 bits
found-fits : (k : ℕ × ℕ) (es : List (ℕ × AddressRow)) → is_some (get pair_cmp (by_pair es) k) ≡ true → k.1 < 2 ^ 48
found-fits k [] is = absurd (cc)
found-fits k (e ∷ es) is =
    elim (pair_cmp k (unpacked e.0)) as (λ r. pair_cmp k (unpacked e.0) ≡ r → is_some (cond (is_eq r) (Some e.1) (get pair_cmp (by_pair es) k)) ≡ true → k.1 < 2 ^ 48) [
      | Less ↦ λ o h. found-fits k es h
      | Equal ↦ λ o h. subst (λ (q : ℕ × ℕ). q.1 < 2 ^ 48) (sym (same_cmp k (unpacked e.0) o)) (low-lt e.0)
      | Greater ↦ λ o h. found-fits k es h
    ] refl is

-- what stands in the map at the key of a cell
value-at : (rows : List ℕ) (es : List (ℕ × AddressRow)) → entries_of (address_cells rows) ≡ es → IsApart key_of (address_cells rows) → (i : ℕ) → i < length (address_cells rows)
    → key_of (get_or (address_cells rows) i None) ≢ 0 → get pair_cmp (by_pair es) (unpacked (key_of (get_or (address_cells rows) i None))) ≡ value_of (get_or (address_cells rows) i None)
value-at rows es listed apart i within some =
    let cs : Cells = address_cells rows in
    let q : ℕ = key_of (get_or cs i None) in
    get-by_pair (unpacked q) (low-lt q) es ∙ ap (λ n. entries.find nat_cmp n es) (packed-unpacked q) ∙ ap (entries.find nat_cmp q) (sym listed)
    ∙ find-entries_of cs q some ∙ value-found cs apart q i some within refl

extern-own : (n : ℕ) (r : AddressRow) (t : Rows) → (n ≢ 0 → get pair_cmp t.addresses (unpacked n) ≡ Some r) → extern_in (cell_of n r) ≡ extern_at t (place_in (cell_of n r))
extern-own zero r t own = refl
extern-own (suc n) r t own = ap (extern_if (unpacked (suc n))) (sym (own (λ none. omega arith)))

-- the entry at a place is that of its cell
pub extern-placed : (rows : List ℕ) (es : List (ℕ × AddressRow)) → entries_of (address_cells rows) ≡ es → IsApart key_of (address_cells rows)
    → (t : Rows) → t.addresses ≡ by_pair es → t.places ≡ places_of (address_cells rows) → (i : ℕ) → i < length rows → (place : Option (ℕ × ℕ)) → slice_get t.places i ≡ Some place
    → extern_in (get_or (address_cells rows) i None) ≡ extern_at t place
extern-placed rows es listed apart t addresses places i within place at =
    let cs : Cells = address_cells rows in
    let row : ℕ = get_or rows i 0 in
    let n : ℕ = ordered (number_of row) in
    let cell : address_cell row ≡ get_or cs i None = cell-at rows i row within refl in
    let key : key_of (get_or cs i None) ≡ n = ap key_of (sym cell) ∙ key_of-cell n (address_of row) in
    let inside : i < length cs = omega (arith, length-map rows address_cell) in
    let own : n ≢ 0 → get pair_cmp t.addresses (unpacked n) ≡ Some (address_of row) = λ some.
    ap (λ (xs : List ((ℕ × ℕ) × AddressRow)). get pair_cmp xs (unpacked n)) addresses ∙ ap (λ m. get pair_cmp (by_pair es) (unpacked m)) (sym key)
    ∙ value-at rows es listed apart i inside (λ none. some (sym key ∙ none)) ∙ ap value_of (sym cell) ∙ value_of-cell n (address_of row) some in
    let here : Some (place_in (address_cell row)) ≡ Some place = sym (place-at rows i row within refl) ∙ ap (λ (ps : List (Option (ℕ × ℕ))). slice_get ps i) (sym places) ∙ at in
    ap extern_in (sym cell) ∙ extern-own n (address_of row) t own ∙ ap (extern_at t) (cc (here))

pub is_placed : (rows : List ℕ) (es : List (ℕ × AddressRow)) → length rows ≡ address_rows → entries_of (address_cells rows) ≡ es → IsApart key_of (address_cells rows)
    → (t : Rows) → t.addresses ≡ by_pair es → t.places ≡ places_of (address_cells rows) → IsPlaced t
is_placed rows es long listed apart t addresses places =
    let cs : Cells = address_cells rows in
    record {
      moved = subst (λ (ks : List (ℕ × ℕ)). IsPermutation ks (map (λ e. e.0) t.addresses)) (ap (filter_map (λ place. place)) (sym places))
          (subst (λ (xs : List ((ℕ × ℕ) × AddressRow)). IsPermutation (filter_map (λ place. place) (places_of cs)) (map (λ e. e.0) xs)) (sym addresses) (keys-moved rows es listed apart));
      ascending = subst (λ (xs : List ((ℕ × ℕ) × AddressRow)). IsStrictlySortedBy pair_cmp (map (λ e. e.0) xs)) (sym addresses) (keys-rise rows es listed);
      sized = ap length places ∙ length-map cs place_in ∙ length-map rows address_cell ∙ long;
      used = λ i k e.
          (let p = place-key rows i k (ap (λ (ps : List (Option (ℕ × ℕ))). slice_get ps i) (sym places) ∙ e) in
          let q : ℕ = key_of (get_or cs i None) in
          ap is_some (ap (λ (xs : List ((ℕ × ℕ) × AddressRow)). get pair_cmp xs k) addresses ∙ ap (get pair_cmp (by_pair es)) (sym p.2) ∙ value-at rows es listed apart i p.0 p.1)
          ∙ is_some-found (get_or cs i None) p.1);
      placed = λ v m is.
          (let k : ℕ × ℕ = (v, m) in
          let q : ℕ = pair k in
          let there : is_some (get pair_cmp (by_pair es) k) ≡ true = ap (λ (xs : List ((ℕ × ℕ) × AddressRow)). is_some (get pair_cmp xs k)) (sym addresses) ∙ is in
          let fits : m < 2 ^ 48 = found-fits k es there in
          let at : is_some (entries.find nat_cmp q (entries_of cs)) ≡ true =
          ap is_some (ap (entries.find nat_cmp q) listed ∙ sym (get-by_pair k fits es)) ∙ there in
          let some : q ≢ 0 = λ none. not_none (entries.find nat_cmp q (entries_of cs)) (ap (λ n. entries.find nat_cmp n (entries_of cs)) none ∙ find-zero cs) at in
          let f = found-at cs q (ap is_some (sym (find-entries_of cs q some)) ∙ at) in (
            f.0,
            ap (λ (ps : List (Option (ℕ × ℕ))). slice_get ps f.0) places ∙ place-of cs f.0 (get_or cs f.0 None) f.1 refl
                ∙ ap Some (place-used (get_or cs f.0 None) q f.2 some ∙ ap Some (unpacked-packed k fits)),
          ));
      once = λ i j k ei ej.
          (let p = place-key rows i k (ap (λ (ps : List (Option (ℕ × ℕ))). slice_get ps i) (sym places) ∙ ei) in
          let r = place-key rows j k (ap (λ (ps : List (Option (ℕ × ℕ))). slice_get ps j) (sym places) ∙ ej) in
          let q : ℕ = key_of (get_or cs i None) in
          let same : key_of (get_or cs j None) ≡ q = sym (packed-unpacked _) ∙ ap pair (r.2 ∙ sym p.2) ∙ packed-unpacked q in
          alone cs apart i j q p.1 p.0 r.0 refl same);
    }
