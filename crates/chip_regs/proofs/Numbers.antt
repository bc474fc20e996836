-- Numbers of bytes, and what a window of them says of a field.
use Rattle.std.proofs.Common.{◌≡◌, ℕ, zero, suc, ◌+◌, ◌-◌, ◌*◌, ◌/◌, ◌%◌, ◌^◌, ◌<◌, ◌≤◌, List, [], ◌∷◌, length, replicate, get_or, set, refl, sym, ap, subst, ◌∙◌, arith, pow-add, bit_or, bit_and}
use Rattle.std.proofs.lemmas.Nat.{div-mul-add, mod-mul-add, mod-pow-add, pow_pos, shr-shr}
use Rattle.std.proofs.Math.Pow.{mod-mod-pow, pow_mono}
use Rattle.std.proofs.Math.Nat.{mod-lt, mod-add-div', mod-eq_of_lt, div-lt_iff_lt-mul, mul-le-mul_right, div-mul-le_self, le-mul_of_pos_right}
use Rattle.std.specs.Int.Bits.{or_shifted_r}
use Rattle.std.proofs.lemmas.Nat.{or_shifted, and_mask}
use Rattle.std.specs.List.{All}
use Rattle.std.proofs.lemmas.List.Elements.{All-head, All-tail}
use Rattle.chip_regs.specs.Rows.{number, field, with_field}
use Rattle.chip_regs.specs.Windows.{written}

-- the bytes are bytes
abbrev pub Bytes : List ℕ → Type 0
Bytes [] = Unit {0}
Bytes (b ∷ bs) = (b < 256) × Bytes bs

-- ---- quotients and remainders by powers of two

-- what is left of a window
pub window-field : (m s w d : ℕ) → m % 2 ^ (d + w + s) / 2 ^ s % 2 ^ w ≡ m / 2 ^ s % 2 ^ w
window-field m s w d =
    let a : m % 2 ^ (d + w + s) ≡ (m / 2 ^ s % 2 ^ (d + w)) * 2 ^ s + m % 2 ^ s = mod-pow-add m (d + w) s in
    ap (λ x. x / 2 ^ s % 2 ^ w) a
    ∙ ap (λ x. x % 2 ^ w) (div-mul-add (m / 2 ^ s % 2 ^ (d + w)) (2 ^ s) (m % 2 ^ s) (mod-lt m (pow_pos s)))
    ∙ mod-mod-pow (m / 2 ^ s) d w

-- one byte first
first_byte : (b r k : ℕ) → b < 256 → (b + 256 * r) / 2 ^ (8 + k) ≡ r / 2 ^ k
first_byte b r k h =
    let turn : b + 256 * r ≡ r * 2 ^ 8 + b = omega arith in
    ap (λ x. x / 2 ^ (8 + k)) turn ∙ sym (shr-shr (r * 2 ^ 8 + b) 8 k) ∙ ap (λ x. x / 2 ^ k) (div-mul-add r (2 ^ 8) b h)

first_low : (b r k : ℕ) → b < 256 → (b + 256 * r) % 2 ^ (8 + k) ≡ b + 256 * (r % 2 ^ k)
first_low b r k h =
    let turn : b + 256 * r ≡ r * 2 ^ 8 + b = omega arith in
    let swap : 8 + k ≡ k + 8 = omega arith in
    let split : (r * 2 ^ 8 + b) % 2 ^ (k + 8) ≡ ((r * 2 ^ 8 + b) / 2 ^ 8 % 2 ^ k) * 2 ^ 8 + (r * 2 ^ 8 + b) % 2 ^ 8 = mod-pow-add (r * 2 ^ 8 + b) k 8 in
    let high : (r * 2 ^ 8 + b) / 2 ^ 8 ≡ r = div-mul-add r (2 ^ 8) b h in
    let low : (r * 2 ^ 8 + b) % 2 ^ 8 ≡ b = mod-mul-add r (2 ^ 8) b h in
    ap (λ x. x % 2 ^ (8 + k)) turn ∙ ap (λ x. (r * 2 ^ 8 + b) % 2 ^ x) swap ∙ split ∙ (λ i. (high i % 2 ^ k) * 2 ^ 8 + low i) ∙ omega arith

-- a byte is eight bits of the number
pub byte_is : (bs : List ℕ) (i d : ℕ) → Bytes bs → i < length bs → get_or bs i d ≡ number bs / 2 ^ (8 * i) % 2 ^ 8
byte_is [] i d all h = absurd (omega arith)
byte_is (b ∷ bs) zero d all h =
    let whole : (b + 256 * number bs) / 2 ^ 0 ≡ number bs * 2 ^ 8 + b = omega arith in
    sym (ap (λ x. x % 2 ^ 8) whole ∙ mod-mul-add (number bs) (2 ^ 8) b all.0)
byte_is (b ∷ bs) (suc i) d all h =
    let next : 8 * suc i ≡ 8 + 8 * i = omega arith in
    byte_is bs i d all.1 (omega arith) ∙ sym (ap (λ x. (b + 256 * number bs) / 2 ^ x % 2 ^ 8) next ∙ ap (λ x. x % 2 ^ 8) (first_byte b (number bs) (8 * i) all.0))

pub number-lt : (bs : List ℕ) → Bytes bs → number bs < 2 ^ (8 * length bs)
number-lt [] all = omega arith
number-lt (b ∷ bs) all =
    let next : 8 * suc (length bs) ≡ 8 + 8 * length bs = omega arith in
    let power : 2 ^ (8 + 8 * length bs) ≡ 2 ^ 8 * 2 ^ (8 * length bs) = pow-add 2 8 (8 * length bs) in
    let rest = number-lt bs all.1 in
    subst (λ x. b + 256 * number bs < 2 ^ x) (sym next) (subst (λ x. b + 256 * number bs < x) (sym power) (omega (arith, all.0)))

-- one byte more of a window
pub window-more : (m v b i : ℕ) → v ≡ m % 2 ^ (8 * i) → b ≡ m / 2 ^ (8 * i) % 2 ^ 8 → b * 2 ^ (8 * i) + v ≡ m % 2 ^ (8 * (i + 1))
window-more m v b i low byte =
    let next : 8 * (i + 1) ≡ 8 + 8 * i = omega arith in
    (λ t. byte t * 2 ^ (8 * i) + low t) ∙ sym (ap (λ x. m % 2 ^ x) next ∙ mod-pow-add m 8 (8 * i))

-- ---- writing

-- no byte is written yet
pub written-none : (bs : List ℕ) (first v : ℕ) → written bs first 0 v ≡ bs
written-none [] first v = refl
written-none (b ∷ bs) zero v = refl
written-none (b ∷ bs) (suc first) v = ap (λ (x : List ℕ). b ∷ x) (written-none bs first v)

pub length-written : (bs : List ℕ) (first k v : ℕ) → length (written bs first k v) ≡ length bs
length-written [] first k v = refl
length-written (b ∷ bs) zero zero v = refl
length-written (b ∷ bs) zero (suc k) v = ap suc (length-written bs zero k (v / 256))
length-written (b ∷ bs) (suc first) k v = ap suc (length-written bs first k v)

pub bytes-written : (bs : List ℕ) (first k v : ℕ) → Bytes bs → Bytes (written bs first k v)
bytes-written [] first k v all = tt
bytes-written (b ∷ bs) zero zero v all = all
bytes-written (b ∷ bs) zero (suc k) v all = (mod-lt v (omega arith), bytes-written bs zero k (v / 256) all.1)
bytes-written (b ∷ bs) (suc first) k v all = (all.0, bytes-written bs first k v all.1)

-- one byte more
written-at : (bs : List ℕ) (first k p v : ℕ) → p ≡ first + k → p < length bs → written bs first (suc k) v ≡ set (written bs first k v) p (v / 2 ^ (8 * k) % 256)
written-at [] first k p v is h = absurd (omega arith)
written-at (b ∷ bs) zero zero zero v is h = (let one : v / 2 ^ (8 * 0) ≡ v = omega arith in ap (λ (x : List ℕ). v % 256 ∷ x) (written-none bs 0 (v / 256)) ∙ ap (λ x. x % 256 ∷ bs) (sym one))
written-at (b ∷ bs) zero zero (suc p) v is h = absurd (omega arith)
written-at (b ∷ bs) zero (suc k) zero v is h = absurd (omega arith)
written-at (b ∷ bs) zero (suc k) (suc p) v is h =
    let next : 8 * suc k ≡ 8 + 8 * k = omega arith in
    let same : v / 256 / 2 ^ (8 * k) ≡ v / 2 ^ (8 * suc k) = shr-shr v 8 (8 * k) ∙ ap (λ x. v / 2 ^ x) (sym next) in
    ap (λ (x : List ℕ). v % 256 ∷ x) (written-at bs zero k p (v / 256) (omega arith) (omega arith) ∙ ap (λ x. set (written bs 0 k (v / 256)) p (x % 256)) same)
written-at (b ∷ bs) (suc first) k zero v is h = absurd (omega arith)
written-at (b ∷ bs) (suc first) k (suc p) v is h = ap (λ (x : List ℕ). b ∷ x) (written-at bs first k p v (omega arith) (omega arith))

pub written-more : (bs : List ℕ) (first k v : ℕ) → first + k < length bs → written bs first (k + 1) v ≡ set (written bs first k v) (first + k) (v / 2 ^ (8 * k) % 256)
written-more bs first k v h = ap (λ n. written bs first n v) (let e : k + 1 ≡ suc k = omega arith in e) ∙ written-at bs first k (first + k) v refl h

scale : (x p b m : ℕ) → x * (2 ^ 8 * p) + (b + 256 * m) ≡ b + 256 * (x * p + m)
scale x p b m = omega arith

-- a field behind one byte more
with_field-next : (b r at w n : ℕ) → b < 256 → with_field (b + 256 * r) (8 + at) w n ≡ b + 256 * with_field r at w n
unfolding with_field
with_field-next b r at w n h =
    let sum : 8 + at + w ≡ 8 + (at + w) = omega arith in
    let high : (b + 256 * r) / 2 ^ (8 + at + w) ≡ r / 2 ^ (at + w) = ap (λ x. (b + 256 * r) / 2 ^ x) sum ∙ first_byte b r (at + w) h in
    (λ i. (high i * 2 ^ w + n) * pow-add 2 8 at i + first_low b r at h i) ∙ scale (r / 2 ^ (at + w) * 2 ^ w + n) (2 ^ at) b (r % 2 ^ at)

with_field-front : (n w x : ℕ) → with_field n 0 w x ≡ n / 2 ^ w * 2 ^ w + x
unfolding with_field
with_field-front n w x = ap (λ k. (n / 2 ^ k * 2 ^ w + x) * 2 ^ 0 + n % 2 ^ 0) (let e : 0 + w ≡ w = omega arith in e) ∙ omega arith

front_byte : (h p l v : ℕ) → v % 2 ^ 8 + 256 * (h * p + l) ≡ h * (2 ^ 8 * p) + (l * 2 ^ 8 + v % 2 ^ 8)
front_byte h p l v = omega arith

-- the number of what is written
pub number-written : (bs : List ℕ) (first k v : ℕ) → Bytes bs → first + k ≤ length bs → number (written bs first k v) ≡ with_field (number bs) (8 * first) (8 * k) (v % 2 ^ (8 * k))
number-written [] zero zero v all h = sym (with_field-front 0 0 (v % 2 ^ 0) ∙ omega arith)
number-written [] zero (suc k) v all h = absurd (omega arith)
number-written [] (suc first) k v all h = absurd (omega arith)
number-written (b ∷ bs) zero zero v all h = sym (with_field-front (b + 256 * number bs) 0 (v % 2 ^ 0) ∙ omega arith)
number-written (b ∷ bs) zero (suc k) v all h =
    let r : ℕ = number bs in
    let c : ℕ = 8 * k in
    let next : 8 * suc k ≡ 8 + 8 * k = omega arith in
    let rest : number (written bs 0 k (v / 2 ^ 8)) ≡ r / 2 ^ c * 2 ^ c + v / 2 ^ 8 % 2 ^ c = number-written bs 0 k (v / 2 ^ 8) all.1 (omega arith) ∙ with_field-front r c (v / 2 ^ 8 % 2 ^ c) in
    let low : v % 2 ^ (8 + c) ≡ (v / 2 ^ 8 % 2 ^ c) * 2 ^ 8 + v % 2 ^ 8 = ap (λ x. v % 2 ^ x) (let e : 8 + c ≡ c + 8 = omega arith in e) ∙ mod-pow-add v c 8 in
    ap (λ x. v % 2 ^ 8 + 256 * x) rest ∙ front_byte (r / 2 ^ c) (2 ^ c) (v / 2 ^ 8 % 2 ^ c) v
    ∙ sym (ap (λ x. with_field (b + 256 * r) 0 x (v % 2 ^ x)) next ∙ with_field-front (b + 256 * r) (8 + c) (v % 2 ^ (8 + c)) ∙ (λ i. first_byte b r c all.0 i * pow-add 2 8 c i + low i))
number-written (b ∷ bs) (suc first) k v all h =
    let next : 8 * suc first ≡ 8 + 8 * first = omega arith in
    ap (λ x. b + 256 * x) (number-written bs first k v all.1 (omega arith))
    ∙ sym (ap (λ x. with_field (b + 256 * number bs) x (8 * k) (v % 2 ^ (8 * k))) next ∙ with_field-next b (number bs) (8 * first) (8 * k) (v % 2 ^ (8 * k)) all.0)

-- the number of a row of which one byte is written
pub number-set : (bs : List ℕ) (i v : ℕ) → Bytes bs → i < length bs → number (set bs i v) ≡ with_field (number bs) (8 * i) 8 v
number-set [] i v all h = absurd (omega arith)
number-set (b ∷ bs) zero v all h =
    let r : ℕ = number bs in
    let small : b < 256 = all.0 in
    let turn : b + 256 * r ≡ r * 2 ^ 8 + b = omega arith in
    let high : (b + 256 * r) / 2 ^ 8 ≡ r = ap (λ x. x / 2 ^ 8) turn ∙ div-mul-add r (2 ^ 8) b small in
    let back : r * 2 ^ 8 + v ≡ v + 256 * r = omega arith in
    sym (with_field-front (b + 256 * r) 8 v ∙ ap (λ x. x * 2 ^ 8 + v) high ∙ back)
number-set (b ∷ bs) (suc i) v all h =
    let next : 8 * suc i ≡ 8 + 8 * i = omega arith in
    ap (λ x. b + 256 * x) (number-set bs i v all.1 (omega arith))
    ∙ sym (ap (λ x. with_field (b + 256 * number bs) x 8 v) next ∙ with_field-next b (number bs) (8 * i) 8 v all.0)

-- ---- a field of a window, written

-- the high bits of a window stand below those of the row
upper : (m c d e : ℕ) → c ≡ d + e → m / 2 ^ e ≡ m / 2 ^ c * 2 ^ d + m % 2 ^ c / 2 ^ e
upper m c d e is = subst (λ k. m / 2 ^ e ≡ m / 2 ^ k * 2 ^ d + m % 2 ^ k / 2 ^ e) (sym is)
    (let x : ℕ = m / 2 ^ e in
    let within : m % 2 ^ (d + e) / 2 ^ e ≡ x % 2 ^ d = ap (λ y. y / 2 ^ e) (mod-pow-add m d e) ∙ div-mul-add (x % 2 ^ d) (2 ^ e) (m % 2 ^ e) (mod-lt m (pow_pos e)) in
    let over : m / 2 ^ (d + e) ≡ x / 2 ^ d = ap (λ y. m / 2 ^ y) (let s : d + e ≡ e + d = omega arith in s) ∙ sym (shr-shr m e d) in
    sym ((λ i. over i * 2 ^ d + within i) ∙ omega arith ∙ mod-add-div' x (2 ^ d)))

join : (h d q c n a b m l : ℕ) → ((h * d + q) * c + n) * (a * b) + (m * a + l) ≡ (h * (d * c * b) + ((q * c + n) * b + m)) * a + l
join h d q c n a b m l = omega arith

-- the window from bit f on, of d + w + s bits, with the field of w bits from bit s on written, and put back
pub window-set : (row f s w d n : ℕ) → with_field row f (d + w + s) (with_field (row / 2 ^ f % 2 ^ (d + w + s)) s w n) ≡ with_field row (f + s) w n
unfolding with_field
window-set row f s w d n =
    let m : ℕ = row / 2 ^ f in
    let c : ℕ = d + w + s in
    let wn : ℕ = m % 2 ^ c in
    let h : ℕ = row / 2 ^ (f + c) in
    let q : ℕ = wn / 2 ^ (s + w) in
    let back : d + w + s ≡ d + (s + w) = omega arith in
    let low_m : wn % 2 ^ s ≡ m % 2 ^ s = mod-mod-pow m (d + w) s in
    let h_is : m / 2 ^ c ≡ h = shr-shr row f c in
    let high : row / 2 ^ (f + s + w) ≡ h * 2 ^ d + q =
    ap (λ x. row / 2 ^ x) (let e : f + s + w ≡ f + (s + w) = omega arith in e) ∙ sym (shr-shr row f (s + w)) ∙ upper m c d (s + w) back ∙ ap (λ x. x * 2 ^ d + q) h_is in
    let low : row % 2 ^ (f + s) ≡ (m % 2 ^ s) * 2 ^ f + row % 2 ^ f = ap (λ x. row % 2 ^ x) (let e : f + s ≡ s + f = omega arith in e) ∙ mod-pow-add row s f in
    sym ((λ i. (high i * 2 ^ w + n) * pow-add 2 f s i + low i) ∙ join h (2 ^ d) q (2 ^ w) n (2 ^ f) (2 ^ s) (m % 2 ^ s) (row % 2 ^ f)
    ∙ (λ i. (h * (sym (pow-add 2 (d + w) s ∙ ap (λ x. x * 2 ^ s) (pow-add 2 d w)) i) + ((q * 2 ^ w + n) * 2 ^ s + sym low_m i)) * 2 ^ f + row % 2 ^ f))

pub number-zeros : (n : ℕ) → number (replicate n 0) ≡ 0
number-zeros zero = refl
number-zeros (suc n) = ap (λ x. 0 + 256 * x) (number-zeros n)

pub bytes-from : (bs : List ℕ) → All (λ b. b < 256) bs → Bytes bs
bytes-from [] all = tt
bytes-from (b ∷ bs) all = (All-head (λ x. x < 256) b bs all, bytes-from bs (All-tail (λ x. x < 256) b bs all))

pub bytes-all : (bs : List ℕ) → Bytes bs → All (λ b. b < 256) bs
bytes-all bs are k d h = go bs k d are h
  where
    go : (bs : List ℕ) (k d : ℕ) → Bytes bs → k < length bs → get_or bs k d < 256
    go [] k d are h = absurd (omega arith)
    go (b ∷ bs) zero d are h = are.0
    go (b ∷ bs) (suc k) d are h = go bs k d are.1 (omega arith)

-- a shift of a byte
pub shifted_byte : (b i : ℕ) → b < 2 ^ 8 → i < 9 → b * 2 ^ (8 * i) % 2 ^ 128 ≡ b * 2 ^ (8 * i)
shifted_byte b i h k =
    let power : 2 ^ (8 + 8 * i) ≡ 2 ^ 8 * 2 ^ (8 * i) = pow-add 2 8 (8 * i) in
    let few : 8 + 8 * i ≤ 128 = omega arith in
    let bound : 2 ^ (8 + 8 * i) ≤ 2 ^ 128 = pow_mono few in
    let product : suc b * 2 ^ (8 * i) ≤ 2 ^ 8 * 2 ^ (8 * i) = mul-le-mul_right (2 ^ (8 * i)) h in
    let pos : 0 < 2 ^ (8 * i) = pow_pos (8 * i) in
    mod-eq_of_lt (omega arith)

-- a byte is joined to a window
pub joined_byte : (m v b i : ℕ) → v ≡ m % 2 ^ (8 * i) → b ≡ m / 2 ^ (8 * i) % 2 ^ 8 → i < 9 → bit_or v (b * 2 ^ (8 * i) % 2 ^ 128) ≡ m % 2 ^ (8 * (i + 1))
joined_byte m v b i low byte h =
    let small : b < 2 ^ 8 = subst (λ x. x < 2 ^ 8) (sym byte) (mod-lt (m / 2 ^ (8 * i)) (omega arith)) in
    let below : v < 2 ^ (8 * i) = subst (λ x. x < 2 ^ (8 * i)) (sym low) (mod-lt m (pow_pos (8 * i))) in
    ap (bit_or v) (shifted_byte b i small h) ∙ or_shifted_r b (8 * i) v below ∙ window-more m v b i low byte

-- what `get` reads in a window
pub get_is : (row at w c shift : ℕ) → shift ≡ at % 8 → shift + w ≤ c → row / 2 ^ (8 * (at / 8)) % 2 ^ c / 2 ^ shift % 2 ^ w ≡ field row at w
unfolding field
get_is row at w c shift is fits =
    let d : ℕ = c - w - shift in
    let whole : c ≡ d + w + shift = omega arith in
    let place : 8 * (at / 8) + shift ≡ at = omega arith in
    let m : ℕ = row / 2 ^ (8 * (at / 8)) in
    ap (λ x. m % 2 ^ x / 2 ^ shift % 2 ^ w) whole ∙ window-field m shift w d ∙ ap (λ x. x % 2 ^ w) (shr-shr row (8 * (at / 8)) shift ∙ ap (λ x. row / 2 ^ x) place)

-- what `set` writes into a window
pub set_is : (row at w c shift n : ℕ) → shift ≡ at % 8 → shift + w ≤ c → with_field row (8 * (at / 8)) c (with_field (row / 2 ^ (8 * (at / 8)) % 2 ^ c) shift w n) ≡ with_field row at w n
set_is row at w c shift n is fits =
    let d : ℕ = c - w - shift in
    let whole : c ≡ d + w + shift = omega arith in
    let place : 8 * (at / 8) + shift ≡ at = omega arith in
    let f : ℕ = 8 * (at / 8) in
    ap (λ x. with_field row f x (with_field (row / 2 ^ f % 2 ^ x) shift w n)) whole ∙ window-set row f shift w d n ∙ ap (λ x. with_field row x w n) place

pub mask_is : (n w : ℕ) → w ≤ 64 → bit_and n (1 * 2 ^ w % 2 ^ 128 - 1) ≡ n % 2 ^ w
mask_is n w few =
    let within : w ≤ 64 = few in
    let bound : 2 ^ w ≤ 2 ^ 64 = pow_mono within in
    let one : 1 * 2 ^ w % 2 ^ 128 ≡ 2 ^ w = ap (λ x. x % 2 ^ 128) (let e : 1 * 2 ^ w ≡ 2 ^ w = omega arith in e) ∙ mod-eq_of_lt (omega arith) in
    ap (λ x. bit_and n (x - 1)) one ∙ and_mask n w

pub with_field-lt : (n s w v d : ℕ) → n < 2 ^ (d + (s + w)) → v < 2 ^ w → with_field n s w v < 2 ^ (d + (s + w))
unfolding with_field
with_field-lt n s w v d fits small =
    let h : ℕ = n / 2 ^ (s + w) in
    let p : ℕ = 2 ^ s in
    let q : ℕ = 2 ^ w in
    let pq : 2 ^ (s + w) ≡ p * q = pow-add 2 s w in
    let whole : 2 ^ (d + (s + w)) ≡ 2 ^ d * 2 ^ (s + w) = pow-add 2 d (s + w) in
    let high : h < 2 ^ d = (div-lt_iff_lt-mul (pow_pos (s + w))).1 (subst (λ x. n < x) whole fits) in
    let low : n % p < p = mod-lt n (pow_pos s) in
    let one : suc v * p ≤ q * p = mul-le-mul_right p small in
    let two : suc h * (p * q) ≤ 2 ^ d * (p * q) = mul-le-mul_right (p * q) high in
    let all : 2 ^ (d + (s + w)) ≡ 2 ^ d * (p * q) = whole ∙ ap (λ x. 2 ^ d * x) pq in
    subst (λ x. (h * q + v) * p + n % p < x) (sym all) (omega arith)

-- what the shifts and masks of a field's writing make
pub window-with : (n s w v : ℕ) → n < 2 ^ 72 → s < 8 → w ≤ 64 → v < 2 ^ w
    → bit_or (bit_or (n / 2 ^ (s + w) * 2 ^ w % 2 ^ 128) v * 2 ^ s % 2 ^ 128) (bit_and n (1 * 2 ^ s % 2 ^ 128 - 1)) ≡ with_field n s w v
unfolding with_field
window-with n s w v fits near few small =
    let h : ℕ = n / 2 ^ (s + w) in
    let p : ℕ = 2 ^ s in
    let q : ℕ = 2 ^ w in
    let pq : 2 ^ (s + w) ≡ p * q = pow-add 2 s w in
    let below : h * 2 ^ (s + w) ≤ n = div-mul-le_self n (2 ^ (s + w)) in
    let below' : h * (p * q) ≤ n = subst (λ x. h * x ≤ n) pq below in
    let more : h * q ≤ h * q * p = le-mul_of_pos_right (h * q) (pow_pos s) in
    let one : suc v * p ≤ q * p = mul-le-mul_right p small in
    let short : s + w ≤ 71 = omega arith in
    let bound : 2 ^ (s + w) ≤ 2 ^ 71 = pow_mono short in
    let bound' : p * q ≤ 2 ^ 71 = subst (λ x. x ≤ 2 ^ 71) pq bound in
    let first : h * q % 2 ^ 128 ≡ h * q = mod-eq_of_lt (omega arith) in
    let second : (h * q + v) * p % 2 ^ 128 ≡ (h * q + v) * p = mod-eq_of_lt (omega arith) in
    (λ i. bit_or (bit_or (first i) v * p % 2 ^ 128) (mask_is n s (omega arith) i))
    ∙ ap (λ x. bit_or (x * p % 2 ^ 128) (n % p)) (or_shifted h w v small)
    ∙ ap (λ x. bit_or x (n % p)) second
    ∙ or_shifted (h * q + v) s (n % p) (mod-lt n (pow_pos s))
