-- The digits of a number by those that its hundred share.
use Rattle.std.proofs.Common.{◌≡◌, ℕ, ◌+◌, ◌-◌, ◌*◌, ◌/◌, ◌%◌, ◌^◌, ◌<◌, ◌≤◌, ◌==◌, ◌&&◌, true, List, ◌∷◌, ◌++◌, length, take, drop, get_or, refl, ap, sym, ◌∙◌, append_assoc, length-append, arith}
use Rattle.std.proofs.Math.Seq.{drop-append_seam}
use lib.Lanes.{put_chunk}
use Rattle.std.proofs.lemmas.Bool.{agree_below, agree_below_at, and_parts, eqb-true}
use Rattle.std.proofs.lemmas.Fmt.{length-decimal-le}
use Rattle.std.proofs.lemmas.List.{drop-append-le, drop-drop, length-drop, length-take}
use Rattle.std.proofs.lemmas.Simd.{put_chunk_is}
use Rattle.std.specs.Fmt.{decimal}
use Rattle.itoa.proofs.Decimal.{decimal_pair, pair}
use Rattle.transcript_text.specs.declared.digits.TheConstants.{PAIRS}

-- the table, at each of its places
agree : agree_below (λ n. (get_or PAIRS (2 * n) 0 == 48 + n / 10) && (get_or PAIRS (2 * n + 1) 0 == 48 + n % 10)) (λ n. true) 100 ≡ true
agree = refl

pub pair_at : (n : ℕ) → n < 100 → (get_or PAIRS (2 * n) 0 ≡ 48 + n / 10) × (get_or PAIRS (2 * n + 1) 0 ≡ 48 + n % 10)
pair_at n h =
    let parts = and_parts _ _ (agree_below_at (λ n. (get_or PAIRS (2 * n) 0 == 48 + n / 10) && (get_or PAIRS (2 * n + 1) 0 == 48 + n % 10)) (λ n. true) 100 n agree h) in
    (eqb-true _ _ parts.0, eqb-true _ _ parts.1)

-- how many a hundred can share
pub few : (n : ℕ) → n < 2 ^ 32 → length (decimal (n / 100)) ≤ 8
few n small =
    let eight : n / 100 < 10 ^ 8 = omega arith in
    let fits : n / 100 < 2 ^ 64 = omega arith in
    length-decimal-le 8 (n / 100) (omega arith) eight fits

-- a number of the hundred
pub near : (n first : ℕ) → 100 ≤ first → first % 100 ≡ 0 → first ≤ n → n < first + 100 → n < 2 ^ 32 → decimal n ≡ decimal (first / 100) ++ pair (n - first)
near n first least whole from below small =
    let same : n / 100 ≡ first / 100 = omega arith in
    let last : n % 100 ≡ n - first = omega arith in
    rw (decimal_pair n (omega arith) (omega arith), same, last)

-- it ends where its last two digits end
pub ends : (shared : List ℕ) (begins from between end n first : ℕ) → 100 ≤ first → first % 100 ≡ 0 → first ≤ n → n < first + 100 → n < 2 ^ 32
    → length shared ≡ 8 → from ≤ 8 → drop from shared ≡ decimal (first / 100) → between + 2 ≡ end → begins + 8 ≡ between
    → begins + from + length (decimal n) ≡ end
ends shared begins from between end n first least whole at below small eight within is last front =
    let long : length (decimal n) ≡ length (decimal (first / 100)) + 2 = ap length (near n first least whole at below small) ∙ length-append (decimal (first / 100)) (pair (n - first)) in
    omega (arith, long, ap length is, length-drop from shared, eight, within, last, front)

-- what its hundred share stands before its last two digits
pub put : (old mid new shared : List ℕ) (begins from between end n first : ℕ) → 100 ≤ first → first % 100 ≡ 0 → first ≤ n → n < first + 100 → n < 2 ^ 32
    → from ≤ length shared → drop from shared ≡ decimal (first / 100) → between + 2 ≡ end
    → drop between mid ≡ (48 + (n - first) / 10) ∷ (48 + (n - first) % 10) ∷ drop (between + 2) old → drop begins new ≡ shared ++ drop between mid
    → drop (begins + from) new ≡ decimal n ++ drop end old
put old mid new shared begins from between end n first least whole at below small within is last back front =
    let two : drop between mid ≡ pair (n - first) ++ drop end old = back ∙ ap (λ k. pair (n - first) ++ drop k old) last in
    sym (drop-drop from begins new) ∙ ap (drop from) front ∙ drop-append-le from shared (drop between mid) within
    ∙ ap (λ l. l ++ drop between mid) is ∙ ap (λ l. decimal (first / 100) ++ l) two
    ∙ sym (append_assoc (decimal (first / 100)) (pair (n - first)) (drop end old)) ∙ ap (λ l. l ++ drop end old) (sym (near n first least whole at below small))

-- a word that one store puts at a place
pub stored : (old word : List ℕ) (from end : ℕ) → from + length word ≡ end → end ≤ length old → drop from (put_chunk from old word) ≡ word ++ drop end old
stored old word from end at inside =
    let front : List ℕ = take from old in
    let sized : length front ≡ from = omega (arith, length-take from old) in
    ap (drop from) (put_chunk_is from old word (omega arith))
    ∙ ap (λ k. drop k (front ++ (word ++ drop (length word) (drop from old)))) (sym sized) ∙ drop-append_seam front (word ++ drop (length word) (drop from old))
    ∙ ap (λ l. word ++ l) (drop-drop (length word) from old ∙ ap (λ k. drop k old) at)
