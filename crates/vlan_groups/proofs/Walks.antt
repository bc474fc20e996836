-- The VLANs of a port, as its blocks that aren't empty give them.
use Rattle.std.proofs.Common.{◌≡◌, ℕ, zero, suc, ◌+◌, ◌*◌, ◌/◌, ◌%◌, ◌<◌, ◌≤◌, Bool, true, false, ◌&&◌, cond, inl, inr, List, [], ◌∷◌, ◌++◌, map, refl, sym, ap, ap₂, ◌∙◌, arith, append_assoc, ◌↔◌}
use Rattle.std.specs.List.{filter, flat_map, range_with_len}
use Rattle.std.proofs.Math.Bool.{and-false}
use Rattle.std.proofs.lemmas.Bool.{cases_Bool}
use Rattle.std.proofs.lemmas.Nat.{div-mul-add, mod-mul-add}
use Rattle.std.proofs.lemmas.List.{map-append, append-nil}
use Rattle.std.proofs.lemmas.List.Elements.{filter-append}
use Rattle.port_sets.specs.Numbers.{numbers_below, has_number, IsSetBelow}
use Rattle.port_sets.proofs.Numbers.{numbers_below-filter}
use Rattle.vlan_groups.specs.Joined.{block_at, has_vlan, is_vlan, vids_in}

-- the VLANs of the port
abbrev pub is_joined : List (List ℕ) → ℕ → ℕ → Bool
is_joined blocks p v = is_vlan v && has_vlan blocks p v

-- those of them in block i
abbrev pub block_vids : List (List ℕ) → ℕ → ℕ → List ℕ
block_vids blocks p i = filter (is_joined blocks p) (range_with_len (64 * i) 64)

-- ---- in a block

-- the numbers that pass, moved up
moved : (base a len : ℕ) (passes has test : ℕ → Bool) → ((m : ℕ) → a ≤ m → m < a + len → test (base + m) ≡ (passes (base + m) && has m))
    → filter passes (map (λ n. base + n) (filter has (range_with_len a len))) ≡ filter test (range_with_len (base + a) len)
moved base a zero passes has test h = refl
moved base a (suc len) passes has test h =
    let e : base + (a + 1) ≡ (base + a) + 1 = omega arith in
    let rest : filter passes (map (λ n. base + n) (filter has (range_with_len (a + 1) len))) ≡ filter test (range_with_len ((base + a) + 1) len) =
    moved base (a + 1) len passes has test (λ m low high. h m (omega arith) (omega arith)) ∙ ap (λ s. filter test (range_with_len s len)) e in
    by (has a) (passes (base + a)) rest
    ∙ ap (λ b. cond b ((base + a) ∷ filter test (range_with_len ((base + a) + 1) len)) (filter test (range_with_len ((base + a) + 1) len))) (sym (h a (omega arith) (omega arith)))
  where
    by : (there pass : Bool) → filter passes (map (λ n. base + n) (filter has (range_with_len (a + 1) len))) ≡ filter test (range_with_len ((base + a) + 1) len)
        → filter passes (map (λ n. base + n) (cond there (a ∷ filter has (range_with_len (a + 1) len)) (filter has (range_with_len (a + 1) len))))
        ≡ cond (passes (base + a) && there) ((base + a) ∷ filter test (range_with_len ((base + a) + 1) len)) (filter test (range_with_len ((base + a) + 1) len))
    by true pass e = ap (λ (f : List ℕ). cond (passes (base + a)) ((base + a) ∷ f) f) e
        ∙ ap (λ b. cond b ((base + a) ∷ filter test (range_with_len ((base + a) + 1) len)) (filter test (range_with_len ((base + a) + 1) len))) (same (passes (base + a)))
      where
        same : (b : Bool) → b ≡ (b && true)
        same true = refl
        same false = refl
    by false pass e = e ∙ ap (λ b. cond b ((base + a) ∷ filter test (range_with_len ((base + a) + 1) len)) (filter test (range_with_len ((base + a) + 1) len))) (sym (and-false (passes (base + a))))

-- whether a port has a number of block i
at-block : (blocks : List (List ℕ)) (p i n : ℕ) → n < 64 → has_vlan blocks p (64 * i + n) ≡ has_number (block_at blocks p i) n
at-block blocks p i n low =
    let place : 64 * i + n ≡ i * 64 + n = omega arith in
    ap (has_vlan blocks p) place
    ∙ ap₂ (λ j m. has_number (block_at blocks p j) m) (div-mul-add i 64 n low) (mod-mul-add i 64 n low)

-- what a block adds
pub vids-block : (blocks : List (List ℕ)) (p i : ℕ) (block : List ℕ) → IsSetBelow 64 block → block ≡ block_at blocks p i → vids_in i block ≡ block_vids blocks p i
vids-block blocks p i block set is =
    ap (λ (ns : List ℕ). filter is_vlan (map (λ n. 64 * i + n) ns)) (set ∙ numbers_below-filter (has_number block) 64)
    ∙ moved (64 * i) 0 64 is_vlan (has_number block) (is_joined blocks p)
    (λ m low high. ap (λ b. is_vlan (64 * i + m) && b) (at-block blocks p i m high ∙ ap (λ (ns : List ℕ). has_number ns m) (sym is)))
    ∙ ap (λ s. filter (is_joined blocks p) (range_with_len s 64)) (let e : 64 * i + 0 ≡ 64 * i = omega arith in e)

none_from : (test : ℕ → Bool) (a len : ℕ) → ((m : ℕ) → a ≤ m → m < a + len → test m ≡ false) → filter test (range_with_len a len) ≡ []
none_from test a zero h = refl
none_from test a (suc len) h =
    ap (λ b. cond b (a ∷ filter test (range_with_len (a + 1) len)) (filter test (range_with_len (a + 1) len))) (h a (omega arith) (omega arith))
    ∙ none_from test (a + 1) len (λ m low high. h m (omega arith) (omega arith))

none-block : (blocks : List (List ℕ)) (p i : ℕ) → block_at blocks p i ≡ [] → block_vids blocks p i ≡ []
none-block blocks p i empty =
    none_from (is_joined blocks p) (64 * i) 64
    (λ m low high. ap (λ b. is_vlan m && b) (nothing m low high) ∙ and-false (is_vlan m))
  where
    nothing : (m : ℕ) → 64 * i ≤ m → m < 64 * i + 64 → has_vlan blocks p m ≡ false
    nothing m low high =
        let at : m / 64 ≡ i = omega arith in
        ap (λ j. has_number (block_at blocks p j) (m % 64)) at ∙ ap (λ (ns : List ℕ). has_number ns (m % 64)) empty

-- one number more of a block
pub next-vid : (i n : ℕ) (seen : List ℕ) → vids_in i (seen ++ n ∷ []) ≡ vids_in i seen ++ cond (is_vlan (64 * i + n)) ((64 * i + n) ∷ []) []
next-vid i n seen = ap (filter is_vlan) (map-append (λ m. 64 * i + m) seen (n ∷ [])) ∙ filter-append is_vlan (map (λ m. 64 * i + m) seen) ((64 * i + n) ∷ [])

-- ---- over blocks

-- the numbers of parts that follow one another
joined_parts : (test : ℕ → Bool) (size a count : ℕ) → flat_map (λ i. filter test (range_with_len (size * i) size)) (range_with_len a count) ≡ filter test (range_with_len (size * a) (size * count))
joined_parts test size a zero = ap (λ n. filter test (range_with_len (size * a) n)) (let e : 0 ≡ size * 0 = omega arith in e)
joined_parts test size a (suc count) =
    ap (λ (ys : List ℕ). filter test (range_with_len (size * a) size) ++ ys) (joined_parts test size (a + 1) count
    ∙ ap (λ s. filter test (range_with_len s (size * count))) (let e : size * (a + 1) ≡ size * a + size = omega arith in e))
    ∙ sym (filter-append test (range_with_len (size * a) size) (range_with_len (size * a + size) (size * count)))
    ∙ ap (filter test) (sym (cut (size * a) size (size * count)))
    ∙ ap (λ n. filter test (range_with_len (size * a) n)) (let e : size + size * count ≡ size * suc count = omega arith in e)
  where
    cut : (from n m : ℕ) → range_with_len from (n + m) ≡ range_with_len from n ++ range_with_len (from + n) m
    cut from zero m = ap₂ range_with_len (let e : from ≡ from + 0 = omega arith in e) (let e : 0 + m ≡ m = omega arith in e)
    cut from (suc n) m =
        let e : suc n + m ≡ suc (n + m) = omega arith in
        let f : (from + 1) + n ≡ from + suc n = omega arith in
        ap (range_with_len from) e ∙ ap (λ (xs : List ℕ). from ∷ xs) (cut (from + 1) n m ∙ ap (λ s. range_with_len (from + 1) n ++ range_with_len s m) f)

-- what gives nothing can be left out
without_empty : (f : ℕ → List ℕ) (kept : ℕ → Bool) (a count : ℕ) → ((i : ℕ) → a ≤ i → i < a + count → kept i ≡ false → f i ≡ [])
    → flat_map f (filter kept (range_with_len a count)) ≡ flat_map f (range_with_len a count)
without_empty f kept a zero h = refl
without_empty f kept a (suc count) h =
    let rest : flat_map f (filter kept (range_with_len (a + 1) count)) ≡ flat_map f (range_with_len (a + 1) count) = without_empty f kept (a + 1) count
    (λ i low high. h i (omega arith) (omega arith)) in
    elim (cases_Bool (kept a)) [
      | inl e ↦ ap (λ b. flat_map f (cond b (a ∷ filter kept (range_with_len (a + 1) count)) (filter kept (range_with_len (a + 1) count)))) e ∙ ap (λ (ys : List ℕ). f a ++ ys) rest
      | inr e ↦
          ap (λ b. flat_map f (cond b (a ∷ filter kept (range_with_len (a + 1) count)) (filter kept (range_with_len (a + 1) count)))) e
          ∙ rest
          ∙ ap (λ (ys : List ℕ). ys ++ flat_map f (range_with_len (a + 1) count)) (sym (h a (omega arith) (omega arith) e))
    ]

-- the blocks that aren't empty have all
all_blocks : (blocks : List (List ℕ)) (p count most : ℕ) (used : List ℕ) → 64 * count ≡ most → IsSetBelow count used
    → ((i : ℕ) → i < count → (has_number used i ≡ false) ↔ (block_at blocks p i ≡ []))
    → flat_map (block_vids blocks p) used ≡ numbers_below most (is_joined blocks p)
all_blocks blocks p count most used sized set others =
    ap (flat_map (block_vids blocks p)) (set ∙ numbers_below-filter (has_number used) count)
    ∙ without_empty (block_vids blocks p) (has_number used) 0 count (λ i low high none. none-block blocks p i ((others i (omega arith)).0 none))
    ∙ joined_parts (is_joined blocks p) 64 0 count
    ∙ ap (λ n. filter (is_joined blocks p) (range_with_len 0 n)) sized
    ∙ sym (numbers_below-filter (is_joined blocks p) most)

pub used_blocks : (blocks : List (List ℕ)) (p : ℕ) (used : List ℕ) → IsSetBelow 64 used → ((i : ℕ) → i < 64 → (has_number used i ≡ false) ↔ (block_at blocks p i ≡ []))
    → flat_map (block_vids blocks p) used ≡ numbers_below 4096 (is_joined blocks p)
used_blocks blocks p used set others = all_blocks blocks p 64 4096 used refl set others

-- one block more
pub next-block : (blocks : List (List ℕ)) (p i : ℕ) (seen : List ℕ) → flat_map (block_vids blocks p) (seen ++ i ∷ []) ≡ flat_map (block_vids blocks p) seen ++ block_vids blocks p i
next-block blocks p i [] = append-nil (block_vids blocks p i)
next-block blocks p i (j ∷ seen) =
    ap (λ (ys : List ℕ). block_vids blocks p j ++ ys) (next-block blocks p i seen)
    ∙ sym (append_assoc (block_vids blocks p j) (flat_map (block_vids blocks p) seen) (block_vids blocks p i))
