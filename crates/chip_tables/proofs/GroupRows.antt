-- Group rows as cells, and the numbers of their keys.
use Rattle.std.proofs.Common.{◌≡◌, ◌≢◌, ℕ, zero, suc, ◌+◌, ◌*◌, ◌/◌, ◌%◌, ◌^◌, ◌<◌, ◌≤◌, ◌&&◌, None, Some, List, length, get_or, set, map, replicate, refl, sym, ap, ◌∙◌, arith}
use Rattle.std.specs.Prelude.{◌==◌, nat_lt}
use Rattle.std.specs.Ordering.{nat_cmp, ordering_then}
use Rattle.std.proofs.lemmas.Bool.{cases_eq, cases_lt, eq-eqb, ne_eqb, lt-ltb, le-ltb}
use Rattle.std.proofs.lemmas.List.{map-set, length-map, get_or-map, length-replicate}
use Rattle.std.proofs.lemmas.Nat.{div-mul-add, mod-mul-add}
use Rattle.std.proofs.Math.Nat.{mod-lt}
use Rattle.std.proofs.Common.{⊎_elim}
use Rattle.lemmas.proofs.Orders.{then_assoc}
use Rattle.lemmas.proofs.Lists.{map-replicate}
use Rattle.br_model.specs.declared.group.Group.{Group}
use Rattle.br_model.specs.declared.group.Group.TheVariants.{V4, V6}
use Rattle.br_model.specs.Table.GroupPairs.{GroupPair, group_pair_cmp}
use Rattle.br_model.specs.Table.Groups.{group_cmp}
use Rattle.chip_regs.specs.Rows.{field, with_field}
use Rattle.chip_regs.proofs.Fields.{field-zero}
use Rattle.open_addressing.specs.Zipped.{cell_of, cells_of, key_of, value_of}
use Rattle.open_addressing.proofs.Pairs.{digits_order, whole}
use Rattle.open_addressing.proofs.Zipped.{within-keys, within-values, key_is, value_is, cells_of-clear, cells_of-set, cells_of-make}
use Rattle.chip_tables.specs.declared.rows.FanRow.{FanRow}
use Rattle.chip_tables.specs.Rows.{fan_of}
use Rattle.chip_tables.specs.GroupCells.{version_bit, address_bits, numbered, head_of, number_of, group_from, pair_from, bits_in, group_key_of, group_cells, folded, group_hash}
use Rattle.chip_tables.proofs.Packing.{wrote, keep}

-- ---- numbers

head-numbered : (h b : ℕ) → b < 2 ^ 128 → numbered h b / 2 ^ 128 ≡ h
unfolding numbered
head-numbered h b small = div-mul-add h (2 ^ 128) b small

bits-numbered : (h b : ℕ) → b < 2 ^ 128 → numbered h b % 2 ^ 128 ≡ b
unfolding numbered
bits-numbered h b small = mod-mul-add h (2 ^ 128) b small

pub hash-numbered : (h b : ℕ) → b < 2 ^ 128 → group_hash (numbered h b) ≡ Rattle.open_addressing.specs.Hashed.mix (folded h b)
unfolding group_hash
hash-numbered h b small = λ i. Rattle.open_addressing.specs.Hashed.mix (folded (head-numbered h b small i) (bits-numbered h b small i))

pub numbered-same : (g h b d : ℕ) → b < 2 ^ 128 → d < 2 ^ 128 → (numbered g b == numbered h d) ≡ ((g == h) && (b == d))
numbered-same g h b d sb sd =
    ⊎_elim
    (λ (e : g ≡ h).
    ⊎_elim
    (λ (f : b ≡ d). eq-eqb _ _ (λ i. numbered (e i) (f i)) ∙ sym (λ i. eq-eqb g h e i && eq-eqb b d f i))
    (λ (n : b ≡ d → ⊥). ne_eqb _ _ (λ s. n (sym (bits-numbered g b sb) ∙ ap (λ x. x % 2 ^ 128) s ∙ bits-numbered h d sd)) ∙ sym (λ i. eq-eqb g h e i && ne_eqb b d n i))
    (cases_eq b d))
    (λ (n : g ≡ h → ⊥). ne_eqb _ _ (λ s. n (sym (head-numbered g b sb) ∙ ap (λ x. x / 2 ^ 128) s ∙ head-numbered h d sd)) ∙ sym (ap (λ x. x && (b == d)) (ne_eqb g h n)))
    (cases_eq g h)

numbered-zero : numbered 0 0 ≡ 0
unfolding numbered
numbered-zero = refl

pub numbered-some : (h b : ℕ) → 0 < h → numbered h b ≢ 0
unfolding numbered
numbered-some h b some none = absurd (omega arith)

-- ---- order

by-version : (g : Group) (t b : ℕ) → t < 2 → group_cmp g (group_from t b) ≡ ordering_then (nat_cmp (version_bit g) t) (nat_cmp (address_bits g) b)
by-version (V4 n) zero b h = refl
by-version (V4 n) (suc zero) b h = refl
by-version (V4 n) (suc (suc t)) b h = absurd (omega arith)
by-version (V6 n) zero b h = refl
by-version (V6 n) (suc zero) b h = refl
by-version (V6 n) (suc (suc t)) b h = absurd (omega arith)

version-small : (g : Group) → version_bit g < 2
version-small (V4 n) = omega arith
version-small (V6 n) = omega arith

pub group-order : (k : GroupPair) → address_bits k.1 < 2 ^ 128 → (q : ℕ) → group_pair_cmp k (pair_from q) ≡ nat_cmp (number_of k) q
unfolding numbered pair_from
group-order k small q =
    let w : ℕ = 2 ^ 128 in
    let h : ℕ = q / w in
    let half : h % 2 < 2 = mod-lt h (omega arith) in
    ap (ordering_then (nat_cmp k.0 (h / 2))) (by-version k.1 (h % 2) (q % w) half)
    ∙ then_assoc (nat_cmp k.0 (h / 2)) (nat_cmp (version_bit k.1) (h % 2)) (nat_cmp (address_bits k.1) (q % w))
    ∙ ap (λ r. ordering_then r (nat_cmp (address_bits k.1) (q % w))) (digits_order 2 k.0 (version_bit k.1) (h / 2) (h % 2) (version-small k.1) half
    ∙ ap (nat_cmp (k.0 * 2 + version_bit k.1)) (whole 2 h))
    ∙ digits_order w (head_of k) (address_bits k.1) h (q % w) small (mod-lt q (omega arith)) ∙ ap (nat_cmp (head_of k * w + address_bits k.1)) (whole w q)

group-back : (g : Group) → group_from (version_bit g) (address_bits g) ≡ g
group-back (V4 n) = refl
group-back (V6 n) = refl

pub pair-back : (k : GroupPair) → address_bits k.1 < 2 ^ 128 → pair_from (number_of k) ≡ k
unfolding pair_from
pair-back k small =
    let h : numbered (head_of k) (address_bits k.1) / 2 ^ 128 ≡ head_of k = head-numbered (head_of k) (address_bits k.1) small in
    let vid : numbered (head_of k) (address_bits k.1) / 2 ^ 128 / 2 ≡ k.0 = ap (λ x. x / 2) h ∙ div-mul-add k.0 2 (version_bit k.1) (version-small k.1) in
    let version : numbered (head_of k) (address_bits k.1) / 2 ^ 128 % 2 ≡ version_bit k.1 = ap (λ x. x % 2) h ∙ mod-mul-add k.0 2 (version_bit k.1) (version-small k.1) in
    λ i. (vid i, ((λ j. group_from (version j) (bits-numbered (head_of k) (address_bits k.1) small j)) ∙ group-back k.1) i)

-- ---- rows

zero_key : group_key_of 0 ≡ 0
zero_key = (λ i. numbered (field-zero 0 12 i * 2 + field-zero 12 1 i) (field-zero 14 64 i * 2 ^ 64 + field-zero 78 64 i)) ∙ numbered-zero

pub bits-small : (row : ℕ) → bits_in row < 2 ^ 128
bits-small row =
    let a = Rattle.chip_regs.proofs.Fields.field-lt row 14 64 in
    let b = Rattle.chip_regs.proofs.Fields.field-lt row 78 64 in
    omega arith

pub within-key : (keys rows : List ℕ) (i : ℕ) → i < length (group_cells keys rows) → i < length keys
within-key keys rows i h = let a = within-keys (map group_key_of keys) (map fan_of rows) i h in omega (arith, length-map keys group_key_of)

pub within-row : (keys rows : List ℕ) (i : ℕ) → i < length (group_cells keys rows) → i < length rows
within-row keys rows i h = let a = within-values (map group_key_of keys) (map fan_of rows) i h in omega (arith, length-map rows fan_of)

-- the number of the key in a cell
pub group-key-at : (keys rows : List ℕ) (i row : ℕ) → i < length (group_cells keys rows) → row ≡ get_or keys i 0 → key_of (get_or (group_cells keys rows) i None) ≡ group_key_of row
group-key-at keys rows i row h is =
    key_is (map group_key_of keys) (map fan_of rows) i h ∙ get_or-map group_key_of keys i 0 0 (within-key keys rows i h) ∙ ap group_key_of (sym is)

pub group-value-at : (keys rows : List ℕ) (i row : ℕ) → i < length (group_cells keys rows) → row ≡ get_or rows i 0 → key_of (get_or (group_cells keys rows) i None) ≢ 0
    → value_of (get_or (group_cells keys rows) i None) ≡ Some (fan_of row)
group-value-at keys rows i row h is some =
    value_is (map group_key_of keys) (map fan_of rows) i (fan_of row) h some (sym (get_or-map fan_of rows i 0 (fan_of row) (within-row keys rows i h) ∙ ap fan_of (sym is)))

pub groups-clear : (keys keys' rows : List ℕ) (i : ℕ) → keys' ≡ set keys i 0 → group_cells keys' rows ≡ set (group_cells keys rows) i None
groups-clear keys keys' rows i is =
    ap (λ (ks : List ℕ). cells_of ks (map fan_of rows)) (ap (map group_key_of) is ∙ map-set group_key_of keys i 0 ∙ ap (set (map group_key_of keys) i) zero_key)
    ∙ cells_of-clear (map group_key_of keys) (map fan_of rows) i

pub groups-put : (keys keys' rows rows' : List ℕ) (i key row n : ℕ) (r : FanRow) → keys' ≡ set keys i key → rows' ≡ set rows i row → group_key_of key ≡ n → fan_of row ≡ r
    → group_cells keys' rows' ≡ set (group_cells keys rows) i (cell_of n r)
groups-put keys keys' rows rows' i key row n r ki ri kn rr =
    (λ t. cells_of ((ap (map group_key_of) ki ∙ map-set group_key_of keys i key ∙ ap (set (map group_key_of keys) i) kn) t)
    ((ap (map fan_of) ri ∙ map-set fan_of rows i row ∙ ap (set (map fan_of rows) i) rr) t))
    ∙ cells_of-set (map group_key_of keys) (map fan_of rows) i n r

pub groups-made : (n : ℕ) (keys rows : List ℕ) → keys ≡ replicate n 0 → rows ≡ replicate n 0 → group_cells keys rows ≡ replicate n None
groups-made n keys rows ki ri =
    ap (λ (ks : List ℕ). cells_of ks (map fan_of rows)) (ap (map group_key_of) ki ∙ map-replicate group_key_of n 0 ∙ ap (replicate n) zero_key)
    ∙ cells_of-make n (map fan_of rows) (length-map rows fan_of ∙ ap length ri ∙ length-replicate n 0)

-- a key row reads as it was packed
pub group-key-packed : (r0 r1 r2 r3 r4 r5 v s h l n b : ℕ) (g : Group) → r1 ≡ with_field r0 0 12 v → r2 ≡ with_field r1 12 1 s → r3 ≡ with_field r2 13 1 1 → r4 ≡ with_field r3 14 64 h
    → r5 ≡ with_field r4 78 64 l
    → v < 4096 → s < 2 → h < 2 ^ 64 → l < 2 ^ 64 → v ≡ n → s ≡ version_bit g → b ≡ address_bits g → b ≡ h * 2 ^ 64 + l → group_key_of r5 ≡ number_of (n, g)
group-key-packed r0 r1 r2 r3 r4 r5 v s h l n b g e1 e2 e3 e4 e5 fv fs fh fl vn sg bg halves =
    let vid : field r5 0 12 ≡ v = keep r4 r5 78 64 l 0 12 v e5 (omega arith)
    (keep r3 r4 14 64 h 0 12 v e4 (omega arith) (keep r2 r3 13 1 1 0 12 v e3 (omega arith) (keep r1 r2 12 1 s 0 12 v e2 (omega arith) (wrote r0 r1 0 12 v e1 fv)))) in
    let six : field r5 12 1 ≡ s = keep r4 r5 78 64 l 12 1 s e5 (omega arith) (keep r3 r4 14 64 h 12 1 s e4 (omega arith) (keep r2 r3 13 1 1 12 1 s e3 (omega arith) (wrote r1 r2 12 1 s e2 fs))) in
    let high : field r5 14 64 ≡ h = keep r4 r5 78 64 l 14 64 h e5 (omega arith) (wrote r3 r4 14 64 h e4 fh) in
    let low : field r5 78 64 ≡ l = wrote r4 r5 78 64 l e5 fl in
    λ i. numbered ((vid ∙ vn) i * 2 + (six ∙ sg) i) (((λ j. high j * 2 ^ 64 + low j) ∙ sym halves ∙ bg) i)

pub holds-then : (k n g h b d : ℕ) → k ≡ numbered g b → n ≡ numbered h d → b < 2 ^ 128 → d < 2 ^ 128 → g ≡ h → (b == d) ≡ (k == n)
holds-then k n g h b d ki ni sb sd same = sym ((λ i. ki i == ni i) ∙ numbered-same g h b d sb sd ∙ ap (λ x. x && (b == d)) (eq-eqb g h same))

pub holds-else : (k n g h b d : ℕ) → k ≡ numbered g b → n ≡ numbered h d → b < 2 ^ 128 → d < 2 ^ 128 → g ≢ h → (g == h) ≡ (k == n)
holds-else k n g h b d ki ni sb sd other = ne_eqb g h other ∙ sym ((λ i. ki i == ni i) ∙ numbered-same g h b d sb sd ∙ ap (λ x. x && (b == d)) (ne_eqb g h other))

-- keys are in the order of their heads, and then of their addresses

pub below-then : (k n g h b d : ℕ) → k ≡ numbered g b → n ≡ numbered h d → g ≡ h → nat_lt b d ≡ nat_lt k n
unfolding numbered
below-then k n g h b d ki ni same =
    ⊎_elim
    (λ (lt : b < d). lt-ltb b d lt ∙ sym (lt-ltb k n (omega (arith, ki, ni, same))))
    (λ (ge : d ≤ b). le-ltb b d ge ∙ sym (le-ltb k n (omega (arith, ki, ni, same))))
    (cases_lt b d)

pub below-else : (k n g h b d : ℕ) → k ≡ numbered g b → n ≡ numbered h d → b < 2 ^ 128 → d < 2 ^ 128 → g ≢ h → nat_lt g h ≡ nat_lt k n
unfolding numbered
below-else k n g h b d ki ni sb sd other =
    ⊎_elim
    (λ (lt : g < h). lt-ltb g h lt ∙ sym (lt-ltb k n (omega (arith, ki, ni))))
    (λ (ge : h ≤ g). le-ltb g h ge ∙ sym (le-ltb k n (omega (arith, ki, ni))))
    (cases_lt g h)
