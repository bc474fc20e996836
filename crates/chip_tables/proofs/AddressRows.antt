-- Address rows as cells, as they change.
use Rattle.std.proofs.Common.{◌≡◌, ◌≢◌, ℕ, zero, suc, ◌+◌, ◌*◌, ◌/◌, ◌%◌, ◌^◌, ◌<◌, ◌≤◌, ◌&&◌, ◌||◌, Option, None}
use Rattle.std.proofs.Common.{Some, List, [], ◌∷◌, length, get_or, set, replicate, nat_le, refl, sym, ap, subst, ◌∙◌, arith}
use Rattle.std.specs.Prelude.{◌==◌, slice_get}
use Rattle.std.specs.List.{All}
use Rattle.std.proofs.lemmas.Bool.{le-leb}
use Rattle.std.proofs.lemmas.List.{map-set, length-set, get_or-map, length-replicate}
use Rattle.std.proofs.lemmas.List.Elements.{All-set, All-replicate}
use Rattle.std.proofs.lemmas.Nat.{div-mul-add, mod-mul-add}
use Rattle.lemmas.proofs.Tests.{or-true}
use Rattle.lemmas.proofs.Lists.{map-replicate}
use Rattle.open_addressing.specs.Pairs.{unpacked, packed as pair}
use Rattle.open_addressing.specs.Zipped.{cell_of}
use Rattle.open_addressing.specs.Zipped as zipped
use Rattle.open_addressing.proofs.Pairs.{unpacked-packed}
use Rattle.open_addressing.proofs.Zipped.{value_of-cell, key_of-cell}
use Rattle.chip_tables.specs.declared.rows.AddressRow.{AddressRow}
use Rattle.chip_tables.specs.Rows.{key_of, address_of, packed}
use Rattle.chip_tables.specs.Blank.{no_key}
use Rattle.chip_tables.specs.AddressCells.{ordered, address_cell, address_cells, IsKept, place_in, places_of}

turn : (v m : ℕ) → v + 4096 * m ≡ m * 4096 + v
turn v m = omega arith

low : (v m : ℕ) → v < 4096 → packed v m % 4096 ≡ v
unfolding packed
low v m small = ap (λ x. x % 4096) (turn v m) ∙ mod-mul-add m 4096 v small

high : (v m : ℕ) → v < 4096 → packed v m / 4096 ≡ m
unfolding packed
high v m small = ap (λ x. x / 4096) (turn v m) ∙ div-mul-add m 4096 v small

pub ordered-packed : (v m : ℕ) → v < 4096 → ordered (packed v m) ≡ pair (v, m)
unfolding ordered pair
ordered-packed v m small = λ i. low v m small i * 2 ^ 48 + high v m small i

ordered-zero : ordered 0 ≡ 0
unfolding ordered
ordered-zero = refl

pub ordered-some : (k : ℕ) → k ≢ 0 → ordered k ≢ 0
unfolding ordered
ordered-some k some none = some (omega arith)

pub blank_cell : address_cell 0 ≡ None
blank_cell = ap (λ k. cell_of (ordered k) (address_of 0)) no_key ∙ ap (λ n. cell_of n (address_of 0)) ordered-zero

pub cell-written : (row v m : ℕ) (r : AddressRow) → key_of row ≡ packed v m → address_of row ≡ r → v < 4096 → address_cell row ≡ cell_of (pair (v, m)) r
cell-written row v m r key is small = λ i. cell_of ((ap ordered key ∙ ordered-packed v m small) i) (is i)

pub cells-set : (rows new : List ℕ) (i row : ℕ) (c : Option (ℕ × AddressRow)) → new ≡ set rows i row → address_cell row ≡ c → address_cells new ≡ set (address_cells rows) i c
cells-set rows new i row c is e = ap address_cells is ∙ map-set address_cell rows i row ∙ ap (set (address_cells rows) i) e

pub cell-at : (rows : List ℕ) (i row : ℕ) → i < length rows → row ≡ get_or rows i 0 → address_cell row ≡ get_or (address_cells rows) i None
cell-at rows i row h is = ap address_cell is ∙ sym (get_or-map address_cell rows i 0 None h)

pub kept_blank : IsKept 0
kept_blank = ap (λ k. k == 0 || (nat_le 1 (k % 4096) && nat_le (k % 4096) 4094)) no_key

pub kept-written : (row v m : ℕ) → key_of row ≡ packed v m → 1 ≤ v → v ≤ 4094 → IsKept row
kept-written row v m key one most =
    let is : key_of row % 4096 ≡ v = ap (λ k. k % 4096) key ∙ low v m (omega arith) in
    ap (λ x. key_of row == 0 || (nat_le 1 x && nat_le x 4094)) is ∙ (λ i. key_of row == 0 || (le-leb 1 v one i && le-leb v 4094 most i)) ∙ or-true (key_of row == 0)

pub kept-set : (rows new : List ℕ) (i row : ℕ) → new ≡ set rows i row → IsKept row → All IsKept rows → All IsKept new
kept-set rows new i row is here all = subst (λ (xs : List ℕ). All IsKept xs) (sym is) (All-set IsKept rows i row here all)

pub sized-set : (rows new : List ℕ) (i row n : ℕ) → new ≡ set rows i row → length rows ≡ n → length new ≡ n
sized-set rows new i row n is long = ap length is ∙ length-set rows i row ∙ long

pub made-sized : (n : ℕ) (rows : List ℕ) → rows ≡ replicate n 0 → length rows ≡ n
made-sized n rows is = ap length is ∙ length-replicate n 0

pub made-kept : (n : ℕ) (rows : List ℕ) → rows ≡ replicate n 0 → All IsKept rows
made-kept n rows is = subst (λ (xs : List ℕ). All IsKept xs) (sym is) (All-replicate IsKept n 0 kept_blank)

pub made-cells : (n : ℕ) (rows : List ℕ) → rows ≡ replicate n 0 → address_cells rows ≡ replicate n None
made-cells n rows is = ap address_cells is ∙ map-replicate address_cell n 0 ∙ ap (replicate n) blank_cell

-- the value in a used cell
pub cell-value : (rows : List ℕ) (i row : ℕ) → i < length rows → row ≡ get_or rows i 0 → zipped.key_of (get_or (address_cells rows) i None) ≢ 0
    → zipped.value_of (get_or (address_cells rows) i None) ≡ Some (address_of row)
cell-value rows i row h is some =
    let at = cell-at rows i row h is in
    ap zipped.value_of (sym at) ∙ value_of-cell (ordered (key_of row)) (address_of row) (λ none. some (ap zipped.key_of (sym at) ∙ key_of-cell (ordered (key_of row)) (address_of row) ∙ none))

-- the number of the key in a cell
pub cell-key : (rows : List ℕ) (i row : ℕ) → i < length rows → row ≡ get_or rows i 0 → ordered (key_of row) ≡ zipped.key_of (get_or (address_cells rows) i None)
cell-key rows i row h is = sym (key_of-cell (ordered (key_of row)) (address_of row)) ∙ ap zipped.key_of (cell-at rows i row h is)

-- the key at a place
pub place-at : (rows : List ℕ) (i row : ℕ) → i < length rows → row ≡ get_or rows i 0 → slice_get (places_of (address_cells rows)) i ≡ Some (place_in (address_cell row))
place-at [] i row h is = absurd (omega arith)
place-at (r ∷ rs) zero row h is = ap (λ x. Some (place_in (address_cell x))) (sym is)
place-at (r ∷ rs) (suc i) row h is = place-at rs i row (omega arith) is

-- a place where no row was written
pub place-blank : (rows : List ℕ) (i : ℕ) → i < length rows → 0 ≡ get_or rows i 0 → slice_get (places_of (address_cells rows)) i ≡ Some None
place-blank rows i h is = place-at rows i 0 h is ∙ ap (λ c. Some (place_in c)) blank_cell

pub place-none : (row : ℕ) → key_of row ≡ 0 → place_in (address_cell row) ≡ None
place-none row none = ap (λ n. place_in (cell_of n (address_of row))) (ap ordered none ∙ ordered-zero)

place-used : (n : ℕ) (r : AddressRow) → n ≢ 0 → place_in (cell_of n r) ≡ Some (unpacked n)
place-used zero r some = absurd (some refl)
place-used (suc n) r some = refl

unpacked-ordered : (k : ℕ) → k < 2 ^ 60 → unpacked (ordered k) ≡ (k % 4096, k / 4096)
unfolding ordered pair
unpacked-ordered k small = unpacked-packed (k % 4096, k / 4096) (omega arith)

pub place-some : (row k v m : ℕ) → k ≡ key_of row → k ≢ 0 → k < 2 ^ 60 → v ≡ k % 4096 → m ≡ k / 4096 → place_in (address_cell row) ≡ Some (v, m)
place-some row k v m is some small low_is high_is =
    ap (λ n. place_in (cell_of (ordered n) (address_of row))) (sym is) ∙ place-used (ordered k) (address_of row) (ordered-some k some)
    ∙ ap Some (unpacked-ordered k small ∙ (λ i. (sym low_is i, sym high_is i)))
