-- Bytes, line by line.
use Rattle.std.proofs.Common.{◌≡◌, ℕ, true, if◌then◌else◌, List, [], ◌∷◌, ◌++◌, refl, ap, ◌∙◌}
use Rattle.std.specs.Cmp.{first_so, second_so}
use Rattle.std.proofs.lemmas.Bool.{not-true}
use Rattle.br_model.specs.Theorems.WholeLines.{is_line, is_no_feed}
use Rattle.timings.specs.Inputs.{Cut, cut_lines, in_first, with_byte}

byte-more : (byte : ℕ) (c : Cut) → is_no_feed byte ≡ true → with_byte byte c ≡ in_first byte c.0 c.1
byte-more byte c h = ap (λ b. if b then ([] ∷ c.0, c.1) else in_first byte c.0 c.1) (not-true _ h)

-- a line is first
pub first-line : (line behind : List ℕ) → is_line line ≡ true → cut_lines (line ++ 10 ∷ behind) ≡ (line ∷ (cut_lines behind).0, (cut_lines behind).1)
first-line [] behind h = refl
first-line (b ∷ line) behind h =
    ap (with_byte b) (first-line line behind (second_so _ _ h)) ∙ byte-more b (line ∷ (cut_lines behind).0, (cut_lines behind).1) (first_so _ _ h)

-- there is no line feed
pub no-line : (bytes : List ℕ) → is_line bytes ≡ true → cut_lines bytes ≡ ([], bytes)
no-line [] h = refl
no-line (b ∷ bytes) h = ap (with_byte b) (no-line bytes (second_so _ _ h)) ∙ byte-more b ([], bytes) (first_so _ _ h)
