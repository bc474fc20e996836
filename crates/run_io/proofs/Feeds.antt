-- Bytes without a line feed, and the first line feed of bytes.
use Rattle.std.proofs.Common.{◌≡◌, ℕ, zero, suc, ◌+◌, ◌-◌, ◌≤◌, List, ◌++◌, take, drop, length, get_or, arith, refl, sym, ◌∙◌, ap, subst, true, Option, None, Some, length-drop, add-one, take-add}
use Rattle.std.specs.Cmp.{first_so, second_so}
use Rattle.std.specs.List.{list_all}
use Rattle.std.proofs.lemmas.Bool.{eqb-true, and_from}
use Rattle.std.proofs.lemmas.List.{take-append-drop, length-take-le, take-append-le, take_all, get_or-drop, drop-take}
use Rattle.std.proofs.lemmas.List.Folds.{list_all-append, list_all_more}
use Rattle.lemmas.proofs.Tests.{not_from_ne_true}
use Rattle.memchr.specs.Find.{IsFirstByte, Nowhere, Passes, is_byte}
use Rattle.run_io.specs.Finding.{IsFirstFeed}
use Rattle.run_io.specs.Reading.{HasNoFeed, is_no_feed}

pub feedless_append : (xs ys : List ℕ) → HasNoFeed xs → HasNoFeed ys → HasNoFeed (xs ++ ys)
feedless_append xs ys h k = list_all-append is_no_feed xs ys ∙ and_from _ _ h k

pub feedless_prefix : (n : ℕ) (xs : List ℕ) → HasNoFeed xs → HasNoFeed (take n xs)
feedless_prefix n xs h = first_so _ _ (sym (list_all-append is_no_feed (take n xs) (drop n xs)) ∙ ap (list_all is_no_feed) (take-append-drop n xs) ∙ h)

pub feedless_rest : (n : ℕ) (xs : List ℕ) → HasNoFeed xs → HasNoFeed (drop n xs)
feedless_rest n xs h = second_so _ _ (sym (list_all-append is_no_feed (take n xs) (drop n xs)) ∙ ap (list_all is_no_feed) (take-append-drop n xs) ∙ h)

-- a shorter prefix
pub feedless_shorter : (m n : ℕ) (xs : List ℕ) → m ≤ n → n ≤ length xs → HasNoFeed (take n xs) → HasNoFeed (take m xs)
feedless_shorter m n xs less within h =
    let fits : m ≤ length (take n xs) = omega (arith, length-take-le n xs within) in
    let same : take m xs ≡ take m (take n xs) = ap (take m) (sym (take-append-drop n xs)) ∙ take-append-le m (take n xs) (drop n xs) fits in
    subst HasNoFeed (sym same) (feedless_prefix m (take n xs) h)

-- ---- the search

nowhere_feedless : (xs : List ℕ) (n : ℕ) → n ≤ length xs → Nowhere (Passes (is_byte 10) xs) 0 n → HasNoFeed (take n xs)
nowhere_feedless xs zero within h = refl
nowhere_feedless xs (suc n) within h =
    let before : HasNoFeed (take n xs) = nowhere_feedless xs n (omega arith) (λ k low high. h k low (omega arith)) in
    let here : is_no_feed (get_or xs n 0) ≡ true = not_from_ne_true _ (h n (omega arith) (omega arith)) in
    let more : HasNoFeed (take (n + 1) xs) = list_all_more is_no_feed xs n 0 (omega arith) ∙ and_from _ _ before here in
    subst (λ k. HasNoFeed (take k xs)) (add-one n) more

pub first_feed_found : (xs : List ℕ) (r : Option ℕ) → IsFirstByte (is_byte 10) xs r → IsFirstFeed xs r
first_feed_found xs None h = subst HasNoFeed (take_all (length xs) xs (omega arith)) (nowhere_feedless xs (length xs) (omega arith) h)
first_feed_found xs (Some k) h = (h.0.high, eqb-true _ _ h.1, nowhere_feedless xs k (omega (arith, h.0.high)) h.0.before)

-- ---- where the first line feed is once bytes are gone, or more came

pub feed_nearer : (xs : List ℕ) (past n : ℕ) → past ≤ n → IsFirstFeed xs (Some n) → IsFirstFeed (drop past xs) (Some (n - past))
feed_nearer xs past n less h =
    let there : past + (n - past) ≡ n = omega arith in
    let same : take (n - past) (drop past xs) ≡ drop past (take n xs) = sym (drop-take past (n - past) xs) ∙ ap (λ k. drop past (take k xs)) there in (
      omega (arith, length-drop past xs, h.0),
      get_or-drop past xs (n - past) 0 ∙ ap (λ k. get_or xs k 0) there ∙ h.1,
      subst HasNoFeed (sym same) (feedless_rest past (take n xs) h.2),
    )

pub feed_farther : (xs : List ℕ) (held r : ℕ) → held ≤ length xs → HasNoFeed (take held xs) → IsFirstFeed (drop held xs) (Some r) → IsFirstFeed xs (Some (held + r))
feed_farther xs held r within front h =
    let joined : take (held + r) xs ≡ take held xs ++ take r (drop held xs) = take-add held r xs in (
      omega (arith, length-drop held xs, h.0),
      sym (get_or-drop held xs r 0) ∙ h.1,
      subst HasNoFeed (sym joined) (feedless_append (take held xs) (take r (drop held xs)) front h.2),
    )

pub feedless_both : (xs : List ℕ) (held : ℕ) → HasNoFeed (take held xs) → HasNoFeed (drop held xs) → HasNoFeed xs
feedless_both xs held front rest = subst HasNoFeed (take-append-drop held xs) (feedless_append (take held xs) (drop held xs) front rest)
