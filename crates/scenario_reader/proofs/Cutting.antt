-- The first line of bytes.
use Rattle.std.proofs.Common.{◌≡◌, ℕ, zero, suc, ◌+◌, ◌-◌, ◌≤◌, true, List, ◌∷◌, ◌++◌, None, Some, length, take, drop, get_or, refl, sym, ◌∙◌, ap, subst, arith, add-one, length-drop}
use Rattle.std.proofs.Math.Seq.{drop-cons}
use Rattle.std.proofs.lemmas.Bool.{eqb-true, and_from}
use Rattle.std.proofs.lemmas.List.{take-append-drop, take_all}
use Rattle.std.proofs.lemmas.List.Folds.{list_all_more}
use Rattle.lemmas.proofs.Tests.{not_from_ne_true}
use Rattle.br_model.specs.Theorems.WholeLines.{is_line, is_no_feed}
use Rattle.memchr.specs.Find.{IsFirstByte, Nowhere, Passes, is_byte}

pub nowhere : (xs : List ℕ) (n : ℕ) → n ≤ length xs → Nowhere (Passes (is_byte 10) xs) 0 n → is_line (take n xs) ≡ true
nowhere xs zero within h = refl
nowhere xs (suc n) within h =
    let before : is_line (take n xs) ≡ true = nowhere xs n (omega arith) (λ k low high. h k low (omega arith)) in
    let here : is_no_feed (get_or xs n 0) ≡ true = not_from_ne_true _ (h n (omega arith) (omega arith)) in
    let more : is_line (take (n + 1) xs) ≡ true = list_all_more is_no_feed xs n 0 (omega arith) ∙ and_from _ _ before here in
    subst (λ k. is_line (take k xs) ≡ true) (add-one n) more

-- without a line feed
pub no_feed : (xs : List ℕ) → IsFirstByte (is_byte 10) xs None → is_line xs ≡ true
no_feed xs h = subst (λ (l : List ℕ). is_line l ≡ true) (take_all (length xs) xs (omega arith)) (nowhere xs (length xs) (omega arith) h)

-- in front of the first one
pub feedless : (xs : List ℕ) (n : ℕ) → IsFirstByte (is_byte 10) xs (Some n) → is_line (take n xs) ≡ true
feedless xs n h = nowhere xs n (omega (arith, h.0.high)) h.0.before

pub parted : (xs : List ℕ) (n : ℕ) → IsFirstByte (is_byte 10) xs (Some n) → xs ≡ take n xs ++ 10 ∷ take (length xs - (n + 1)) (drop (n + 1) xs)
parted xs n h =
    let behind : take (length xs - (n + 1)) (drop (n + 1) xs) ≡ drop (n + 1) xs = take_all _ _ (omega (arith, length-drop (n + 1) xs)) in
    sym (take-append-drop n xs)
    ∙ ap (λ (l : List ℕ). take n xs ++ l) (
    drop-cons xs n 0 h.0.high ∙ ap (λ b. b ∷ drop (suc n) xs) (eqb-true _ _ h.1) ∙ ap (λ k. 10 ∷ drop k xs) (sym (add-one n)) ∙ ap (λ (l : List ℕ). 10 ∷ l) (sym behind)
    )
