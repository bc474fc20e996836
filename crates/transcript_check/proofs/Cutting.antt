-- The first line of bytes, and their lines.
use Rattle.std.proofs.Common.{◌≡◌, ℕ, suc, ◌+◌, ◌==◌, Bool, true, false, if◌then◌else◌, List, [], ◌∷◌, ◌++◌, length, refl, sym, ◌∙◌, ap, arith, cond, length-append}
use Rattle.std.proofs.lemmas.Bool.{not-true}
use Rattle.std.proofs.lemmas.List.{take_rest as behind}
use Rattle.std.proofs.lemmas.List.Sums.{sum_by-cons}
use Rattle.std.specs.Cmp.{first_so, second_so}
use Rattle.std.specs.List.{count_by}
use Rattle.br_model.specs.Program.Checks.{in_first, lines_in}
use Rattle.br_model.specs.Theorems.WholeLines.{is_line}
use Rattle.br_model.proofs.Program.Differences.{HasLine, has_line}
use Rattle.transcript_check.specs.Lines.{CutsFirst, IsFront, is_whole, lines_by}
use Rattle.transcript_check.specs.declared.lines.Parts.{Parts}

-- where the first line feed is

-- lines

-- a line and its line feed
pub line_first : (line later : List ℕ) → is_line line ≡ true → lines_in (line ++ 10 ∷ later) ≡ line ∷ lines_in later
line_first [] later h = refl
line_first (b ∷ line) later h =
    ap (λ t. if t then [] ∷ lines_in (line ++ 10 ∷ later) else in_first b (lines_in (line ++ 10 ∷ later))) (not-true _ (first_so _ _ h))
    ∙ ap (in_first b) (line_first line later (second_so _ _ h))

alone : (b : ℕ) (line : List ℕ) → in_first b (lines_by line line []) ≡ (b ∷ line) ∷ []
alone b [] = refl
alone b (c ∷ line) = refl

-- a line without one
pub line_last : (line : List ℕ) → is_line line ≡ true → lines_in line ≡ lines_by line line []
line_last [] h = refl
line_last (b ∷ line) h =
    ap (λ t. if t then [] ∷ lines_in line else in_first b (lines_in line)) (not-true _ (first_so _ _ h))
    ∙ ap (in_first b) (line_last line (second_so _ _ h))
    ∙ alone b line

-- texts of whole lines

in_first_by : (b : ℕ) (lines more : List (List ℕ)) → HasLine lines → in_first b (lines ++ more) ≡ in_first b lines ++ more
in_first_by b lines more h =
    ap (λ (ls : List (List ℕ)). in_first b (ls ++ more)) h.is ∙ ap (λ (ls : List (List ℕ)). in_first b ls ++ more) (sym h.is)

-- the lines of a text of whole lines, and then those of another
pub whole_lines : (xs ys : List ℕ) → is_whole xs ≡ true → lines_in (xs ++ ys) ≡ lines_in xs ++ lines_in ys
whole_lines [] ys h = refl
whole_lines (b ∷ []) ys h =
    ap (λ t. if t then [] ∷ lines_in ys else in_first b (lines_in ys)) h ∙ ap (λ t. (if t then [] ∷ [] else (b ∷ []) ∷ []) ++ lines_in ys) (sym h)
whole_lines (b ∷ c ∷ xs) ys h = ap (λ (ls : List (List ℕ)). if b == 10 then [] ∷ ls else in_first b ls) (whole_lines (c ∷ xs) ys h) ∙ by_feed (b == 10)
  where
    by_feed : (t : Bool) → (if t then [] ∷ (lines_in (c ∷ xs) ++ lines_in ys) else in_first b (lines_in (c ∷ xs) ++ lines_in ys))
        ≡ (if t then [] ∷ lines_in (c ∷ xs) else in_first b (lines_in (c ∷ xs))) ++ lines_in ys
    by_feed true = refl
    by_feed false = in_first_by b (lines_in (c ∷ xs)) (lines_in ys) (has_line c xs)

pub whole_append : (xs ys : List ℕ) → is_whole xs ≡ true → is_whole ys ≡ true → is_whole (xs ++ ys) ≡ true
whole_append [] ys h k = k
whole_append (b ∷ []) [] h k = h
whole_append (b ∷ []) (y ∷ ys) h k = k
whole_append (b ∷ c ∷ xs) ys h k = whole_append (c ∷ xs) ys h k

-- as many lines as line feeds
in_first_size : (b : ℕ) (lines : List (List ℕ)) → HasLine lines → length (in_first b lines) ≡ length lines
in_first_size b lines h = ap (λ (ls : List (List ℕ)). length (in_first b ls)) h.is ∙ ap (λ (ls : List (List ℕ)). length ls) (sym h.is)

more_feeds : (b : ℕ) (lines : List (List ℕ)) (n : ℕ) → HasLine lines → n ≡ length lines → (t : Bool)
    → cond t 1 0 + n ≡ length (if t then [] ∷ lines else in_first b lines)
more_feeds b lines n h is true = omega (arith, is)
more_feeds b lines n h is false = omega (arith, is, in_first_size b lines h)

counted : (b : ℕ) (xs : List ℕ) → count_by (λ b. b == 10) (b ∷ xs) ≡ cond (b == 10) 1 0 + count_by (λ b. b == 10) xs
counted b xs = sum_by-cons (λ b. cond (b == 10) 1 0) b xs

pub feeds_are : (xs : List ℕ) → is_whole xs ≡ true → count_by (λ b. b == 10) xs ≡ length (lines_in xs)
feeds_are [] h = refl
feeds_are (b ∷ []) h = counted b [] ∙ ap (λ t. cond t 1 0 + 0) h ∙ ap (λ t. length (if t then [] ∷ [] else (b ∷ []) ∷ [])) (sym h)
feeds_are (b ∷ c ∷ xs) h =
    counted b (c ∷ xs) ∙ more_feeds b (lines_in (c ∷ xs)) (count_by (λ b. b == 10) (c ∷ xs)) (has_line c xs) (feeds_are (c ∷ xs) h) (b == 10)

-- the first line, with or without its line feed

by_line : (bytes line later : List ℕ) (n : ℕ) → length bytes ≡ suc n → lines_by bytes line later ≡ line ∷ lines_in later
by_line [] line later n h = absurd (omega (arith, h))
by_line (b ∷ bytes) line later n h = refl

pub first_with : (bytes : List ℕ) (parts : Parts) → IsFront bytes parts → CutsFirst bytes parts
first_with bytes parts f = record {
  lines = ap lines_in f.joined ∙ line_first parts.line.now parts.behind.now f.feedless ∙ sym (by_line bytes parts.line.now parts.behind.now (length parts.line.now + length parts.behind.now) size);
  none = λ is. absurd (omega (arith, size, ap length is));
  shorter = λ some. omega (arith, size);
}
  where
    size : length bytes ≡ suc (length parts.line.now + length parts.behind.now)
    size = ap length f.joined ∙ omega (arith, length-append parts.line.now (10 ∷ parts.behind.now))

pub first_without : (bytes : List ℕ) (parts : Parts) → is_line bytes ≡ true → parts.line.now ≡ bytes → parts.behind.now ≡ [] → CutsFirst bytes parts
first_without bytes parts h line behind = record {
  lines = line_last bytes h ∙ ap (λ (l : List ℕ). lines_by bytes l []) (sym line) ∙ ap (lines_by bytes parts.line.now) (sym behind);
  none = λ is. line ∙ is;
  shorter = λ some. omega (arith, some, ap length behind);
}
