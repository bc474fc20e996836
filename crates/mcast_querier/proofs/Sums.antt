-- Words with their checksum sum to all one bits: a one's complement sum is the plain one, less a multiple of 65,535.
use Rattle.std.proofs.Common.{◌≡◌, ℕ, zero, suc, ◌+◌, ◌-◌, ◌*◌, ◌/◌, ◌%◌, ◌<◌, ◌≤◌, Bool, true, false, List, [], ◌∷◌, ◌++◌, refl, ap, ◌∙◌, subst, arith, nat_eq}
use Rattle.std.specs.Prelude.{nat_lt, ◌&&◌}
use Rattle.std.specs.Int.{byte_at}
use Rattle.std.specs.List.{fold, list_all}
use Rattle.br_model.specs.Wire.Checksum.{is_summed, ones_add, sixteens}
use Rattle.mcast_querier.specs.Queries.{checksum}
use Rattle.mcast_querier.proofs.Bytes.{is_byte}

abbrev total : List ℕ → ℕ
total [] = 0
total (w ∷ ws) = w + total ws

-- each is a word of 16 bits
abbrev pub Fit : List ℕ → Type 0
Fit [] = Unit {0}
Fit (w ∷ ws) = (w ≤ 65535) × Fit ws

-- the one's complement sum of what sums to so much
record Adds (whole sum : ℕ) : Type 0 where
  carries : ℕ
  is : sum + 65535 * carries ≡ whole
  fits : sum ≤ 65535
  some : 0 < whole → 0 < sum

some_is_left : (s w whole : ℕ) → (0 < whole → 0 < s) → 0 < whole + w → 0 < ones_add s w
some_is_left zero zero whole h p = absurd (omega (arith, h (omega (arith, p))))
some_is_left zero (suc w) whole h p = omega arith
some_is_left (suc s) w whole h p = omega arith

one_more : (s w whole : ℕ) → Adds whole s → w ≤ 65535 → Adds (whole + w) (ones_add s w)
one_more s w whole a fits = record {
  carries = a.carries + (s + w) / 65536;
  is = let is = a.is in omega (arith, is);
  fits = let at_most = a.fits in omega (arith, at_most, fits);
  some = some_is_left s w whole a.some;
}

adds : (ws : List ℕ) (s whole : ℕ) → Adds whole s → Fit ws → Adds (whole + total ws) (fold ones_add s ws)
adds [] s whole a fit = subst (λ n. Adds n s) (let e : whole ≡ whole + 0 = omega arith in e) a
adds (w ∷ ws) s whole a fit =
    subst (λ n. Adds n (fold ones_add (ones_add s w) ws)) (let e : whole + w + total ws ≡ whole + (w + total ws) = omega arith in e)
    (adds ws (ones_add s w) (whole + w) (one_more s w whole a fit.0) fit.1)

nothing : Adds 0 0
nothing = record { carries = 0; is = refl; fits = omega arith; some = λ p. p }

total_at : (us vs : List ℕ) (w : ℕ) → total (us ++ w ∷ vs) ≡ total us + (w + total vs)
total_at [] vs w = omega arith
total_at (u ∷ us) vs w = let e = total_at us vs w in omega (arith, e)

fit_at : (us vs : List ℕ) (w : ℕ) → Fit us → Fit vs → w ≤ 65535 → Fit (us ++ w ∷ vs)
fit_at [] vs w f g h = (h, g)
fit_at (u ∷ us) vs w f g h = (f.0, fit_at us vs w f.1 g h)

sum_of : (ws : List ℕ) → Fit ws → Adds (0 + total ws) (fold ones_add 0 ws)
sum_of ws fit = adds ws 0 0 nothing fit

all_ones : (t u s r k m : ℕ) → s + 65535 * k ≡ 0 + t → r + 65535 * m ≡ 0 + u → u ≡ t + (65535 - s) → s ≤ 65535 → r ≤ 65535 → 0 < r → r ≡ 65535
all_ones t u s r k m a b e f g p = omega (arith, a, b, e, f, g, p)

pub sums : (us vs : List ℕ) → Fit us → Fit vs → fold ones_add 0 (us ++ (65535 - fold ones_add 0 (us ++ 0 ∷ vs)) ∷ vs) ≡ 65535
sums us vs f g =
    let s = fold ones_add 0 (us ++ 0 ∷ vs) in
    let before = sum_of (us ++ 0 ∷ vs) (fit_at us vs 0 f g (omega arith)) in
    let after = sum_of (us ++ (65535 - s) ∷ vs) (fit_at us vs (65535 - s) f g (omega arith)) in
    let more : total (us ++ (65535 - s) ∷ vs) ≡ total (us ++ 0 ∷ vs) + (65535 - s) =
    (let x = total_at us vs 0 in let y = total_at us vs (65535 - s) in omega (arith, x, y)) in
    let is = before.is in
    let fits = before.fits in
    let there : 0 < 0 + total (us ++ (65535 - s) ∷ vs) = omega (arith, more, is, fits) in
    all_ones (total (us ++ 0 ∷ vs)) (total (us ++ (65535 - s) ∷ vs)) s _ before.carries after.carries is after.is more fits after.fits (after.some there)

-- bytes

fits_word : (b c : ℕ) → b < 256 → c < 256 → 256 * b + c ≤ 65535
fits_word b c h k = omega (arith, h, k)

fits_last : (b : ℕ) → b < 256 → 256 * b ≤ 65535
fits_last b h = omega (arith, h)

first_is : (b : ℕ) (rest : Bool) → (is_byte b && rest) ≡ true → b < 256
first_is b rest h = by (nat_lt b 256) refl h
  where
    strictly : nat_lt b 256 ≡ true → b < 256
    strictly e = grind arith

    by : (x : Bool) → nat_lt b 256 ≡ x → (x && rest) ≡ true → b < 256
    by true e h = strictly e
    by false e h = absurd (cc (h))

rest_is : (x rest : Bool) → (x && rest) ≡ true → rest ≡ true
rest_is true rest h = h
rest_is false rest h = absurd (cc (h))

words_fit : (bytes : List ℕ) → list_all is_byte bytes ≡ true → Fit (sixteens bytes)
words_fit [] h = tt
words_fit (b ∷ []) h = (fits_last b (first_is b true h), tt)
words_fit (b ∷ c ∷ bytes) h =
    let behind = rest_is (is_byte b) _ h in
    (fits_word b c (first_is b _ h) (first_is c _ behind), words_fit bytes (rest_is (is_byte c) _ behind))

fit_before : (us vs : List ℕ) (w : ℕ) → Fit (us ++ w ∷ vs) → Fit us
fit_before [] vs w f = tt
fit_before (u ∷ us) vs w f = (f.0, fit_before us vs w f.1)

fit_behind : (us vs : List ℕ) (w : ℕ) → Fit (us ++ w ∷ vs) → Fit vs
fit_behind [] vs w f = f.1
fit_behind (u ∷ us) vs w f = fit_behind us vs w f.1

two_bytes : (c s : ℕ) → c ≡ 65535 - s → 256 * byte_at 1 c + byte_at 0 c ≡ c
two_bytes c s e = both c (let small : c ≤ 65535 = omega (arith, e) in small)
  where
    both : (c : ℕ) → c ≤ 65535 → 256 * (c / 256 % 256) + c % 256 ≡ c
    both c h = omega (arith, h)

-- Bytes that hold the checksum of the same bytes with zeros in its place sum to all one bits.
pub summed : (bytes zeroed us vs : List ℕ) (c : ℕ) → sixteens bytes ≡ us ++ (256 * byte_at 1 c + byte_at 0 c) ∷ vs → sixteens zeroed ≡ us ++ 0 ∷ vs
    → c ≡ checksum zeroed → list_all is_byte zeroed ≡ true → is_summed bytes ≡ true
unfolding checksum
summed bytes zeroed us vs c words zeros is small =
    let fit : Fit (us ++ 0 ∷ vs) = subst Fit zeros (words_fit zeroed small) in
    let sum_is : c ≡ 65535 - fold ones_add 0 (us ++ 0 ∷ vs) = is ∙ ap (λ ws. 65535 - fold ones_add 0 ws) zeros in
    let word_is : 256 * byte_at 1 c + byte_at 0 c ≡ 65535 - fold ones_add 0 (us ++ 0 ∷ vs) = two_bytes c _ sum_is ∙ sum_is in
    let ones : fold ones_add 0 (sixteens bytes) ≡ 65535 =
    ap (fold ones_add 0) words ∙ ap (λ w. fold ones_add 0 (us ++ w ∷ vs)) word_is ∙ sums us vs (fit_before us vs 0 fit) (fit_behind us vs 0 fit) in
    ap (λ s. nat_eq s 65535) ones
