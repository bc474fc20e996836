-- Lines that are alike on both sides are passed.
use Rattle.std.proofs.Common.{◌≡◌, ℕ, ◌+◌, ◌-◌, ◌<◌, true, false, if◌then◌else◌, List, [], ◌∷◌, ◌++◌, None, Some, length, take, drop, refl, sym, ◌∙◌, ap, arith}
use Rattle.std.specs.Str.{bytes_eq}
use Rattle.std.proofs.lemmas.List.{take_rest as behind}
use Rattle.br_model.specs.Program.Checks.{difference_from, lines_in}
use Rattle.br_model.proofs.Text.Words.{equal}
use Rattle.br_model.proofs.Program.Differences.{HasLine, has_line}
use Rattle.transcript_check.specs.Comparing.{Standing, differs_at, difference_at, EndsThere, first_of, GoesOn, Differs}
use Rattle.transcript_check.specs.Lines.{is_whole}
use Rattle.transcript_check.proofs.Cutting.{whole_lines}

-- the same lines on both sides
same_front : (n : ℕ) (lines more rest : List (List ℕ)) → difference_from n (lines ++ more) (lines ++ rest) ≡ difference_from (n + length lines) more rest
same_front n [] more rest = ap (λ k. difference_from k more rest) (omega arith)
same_front n (x ∷ lines) more rest =
    ap (λ t. if t then difference_from (n + 1) (lines ++ more) (lines ++ rest) else Some (record { line = n; expected = x; found = x })) (equal x x refl)
    ∙ same_front (n + 1) lines more rest
    ∙ ap (λ k. difference_from k more rest) (omega arith)

-- whole lines that stand in front
pub passed : (n : ℕ) (text later : List ℕ) → is_whole text ≡ true
    → GoesOn (record { line = n; rest = text ++ later }) (record { line = n + length (lines_in text); rest = later }) (lines_in text)
passed n text later h more =
    ap (difference_from n (lines_in text ++ more)) (whole_lines text later h) ∙ same_front n (lines_in text) more (lines_in later)

-- a line

-- the next line is this one
pub passes : (s : Standing) (line behind : List ℕ) → lines_in s.rest ≡ line ∷ lines_in behind
    → GoesOn s (record { line = s.line + 1; rest = behind }) (line ∷ [])
passes s line behind is more =
    ap (difference_from s.line (line ∷ more)) is
    ∙ ap (λ t. if t then difference_from (s.line + 1) more (lines_in behind) else Some (record { line = s.line; expected = line; found = line })) (equal line line refl)

-- there is none
pub none_left : (s : Standing) (line : List ℕ) → lines_in s.rest ≡ [] → Differs s (line ∷ []) (difference_at s line)
none_left s line is more =
    ap (difference_from s.line (line ∷ more)) is
    ∙ ap (λ (l : List (List ℕ)). Some (record { line = s.line; expected = line; found = first_of l })) (sym is)

-- it is another one
pub differs : (s : Standing) (line next behind : List ℕ) → lines_in s.rest ≡ next ∷ lines_in behind → bytes_eq line next ≡ false
    → Differs s (line ∷ []) (difference_at s line)
differs s line next behind is h more =
    ap (difference_from s.line (line ∷ more)) is
    ∙ ap (λ t. if t then difference_from (s.line + 1) more (lines_in behind) else Some (record { line = s.line; expected = line; found = next })) h
    ∙ ap (λ (l : List (List ℕ)). Some (record { line = s.line; expected = line; found = first_of l })) (sym is)

pub passed_at : (n count : ℕ) (text rest : List ℕ) → is_whole text ≡ true → rest ≡ text ++ drop (length text) rest → count ≡ length (lines_in text)
    → GoesOn (record { line = n; rest = rest }) (record { line = n + count; rest = take (length rest - length text) (drop (length text) rest) }) (lines_in text)
passed_at n count text rest h is counted more =
    ap (λ (l : List ℕ). differs_at (record { line = n; rest = l }) (lines_in text ++ more)) is
    ∙ passed n text (drop (length text) rest) h more
    ∙ ap (λ k. differs_at (record { line = n + k; rest = drop (length text) rest }) more) (sym counted)
    ∙ ap (λ (l : List ℕ). differs_at (record { line = n + count; rest = l }) more) (sym (behind rest (length text)))

-- nothing more is told

without : (n : ℕ) (lines : List (List ℕ)) → HasLine lines → difference_from n [] lines ≡ Some (record { line = n; expected = []; found = first_of lines })
without n lines h =
    ap (difference_from n []) h.is ∙ ap (λ (l : List (List ℕ)). Some (record { line = n; expected = []; found = first_of l })) (sym h.is)

by_rest : (n : ℕ) (rest : List ℕ) → 0 < length rest → difference_from n [] (lines_in rest) ≡ Some (difference_at (record { line = n; rest = rest }) [])
by_rest n [] h = absurd (omega arith)
by_rest n (b ∷ rest) h = without n (lines_in (b ∷ rest)) (has_line b rest)

by_none : (n : ℕ) (rest : List ℕ) → length rest ≡ 0 → difference_from n [] (lines_in rest) ≡ None
by_none n [] h = refl
by_none n (b ∷ rest) h = absurd (omega (arith, h))

pub ends_empty : (s : Standing) → length s.rest ≡ 0 → EndsThere s None
ends_empty s h = by_none s.line s.rest h

pub ends_with : (s : Standing) → 0 < length s.rest → EndsThere s (Some (difference_at s []))
ends_with s h = by_rest s.line s.rest h
