-- Texts without a line feed.
use Rattle.std.proofs.Common.{◌≡◌, ℕ, ◌^◌, ◌<◌, Bool, true, List, [], ◌∷◌, ◌++◌, refl, ◌∙◌, arith}
use Rattle.std.specs.Cmp.{first_so, second_so}
use Rattle.std.specs.Fmt.{decimal}
use Rattle.std.specs.List.{list_all}
use Rattle.std.proofs.lemmas.Bool.{and_from}
use Rattle.std.proofs.lemmas.List.Folds.{list_all-append}
use Rattle.br_model.specs.Data.Digits.{hex_digit, is_digit}
use Rattle.br_model.specs.Theorems.WholeLines.{is_line, is_no_feed}
use Rattle.br_model.proofs.Text.WrittenNumbers.{decimal_digits}

pub digit_feedless : (c : ℕ) → is_digit c ≡ true → is_no_feed c ≡ true
digit_feedless c h = grind arith

pub hex_digit_feedless : (n : ℕ) → n < 16 → is_no_feed (hex_digit n) ≡ true
hex_digit_feedless n h = grind arith

pub all_lines : (test : ℕ → Bool) (w : List ℕ) → ((c : ℕ) → test c ≡ true → is_no_feed c ≡ true) → list_all test w ≡ true → is_line w ≡ true
all_lines test [] each h = refl
all_lines test (c ∷ w) each h = and_from _ _ (each c (first_so _ _ h)) (all_lines test w each (second_so _ _ h))

pub decimal_feedless : (n : ℕ) → n < 2 ^ 64 → is_line (decimal n) ≡ true
decimal_feedless n h = all_lines is_digit (decimal n) digit_feedless (decimal_digits n h)

pub lines_joined : (a b : List ℕ) → is_line a ≡ true → is_line b ≡ true → is_line (a ++ b) ≡ true
lines_joined a b h k = list_all-append is_no_feed a b ∙ and_from _ _ h k
