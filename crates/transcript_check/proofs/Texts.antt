-- The text of a transcript's lines is one of whole lines.
use Rattle.std.proofs.Common.{◌≡◌, ℕ, ◌==◌, Bool, true, false, List, [], ◌∷◌, ◌++◌, refl}
use Rattle.br_model.specs.declared.transcript.Line.{Line}
use Rattle.br_model.specs.Text.Transcript.{line_text, line_words, text, with_feed}
use Rattle.transcript_check.specs.Lines.{is_whole}
use Rattle.transcript_check.proofs.Cutting.{whole_append}

-- whether a text ends with a line feed
abbrev ends : List ℕ → Bool
ends [] = false
ends (b ∷ []) = b == 10
ends (b ∷ c ∷ text) = ends (c ∷ text)

one_more : (b : ℕ) (text : List ℕ) → ends text ≡ true → ends (b ∷ text) ≡ true
one_more b [] h = absurd (cc)
one_more b (c ∷ text) h = h

many_more : (xs text : List ℕ) → ends text ≡ true → ends (xs ++ text) ≡ true
many_more [] text h = h
many_more (x ∷ xs) text h = one_more x (xs ++ text) (many_more xs text h)

whole : (text : List ℕ) → ends text ≡ true → is_whole text ≡ true
whole [] h = refl
whole (b ∷ []) h = h
whole (b ∷ c ∷ text) h = whole (c ∷ text) h

words_end : (ws : List (List ℕ)) → ends (with_feed ws) ≡ true
words_end [] = refl
words_end (w ∷ []) = many_more w (10 ∷ []) refl
words_end (w ∷ v ∷ ws) = many_more w (32 ∷ with_feed (v ∷ ws)) (one_more 32 (with_feed (v ∷ ws)) (words_end (v ∷ ws)))

pub whole_line : (l : Line) → is_whole (line_text l) ≡ true
whole_line l = whole (line_text l) (words_end (line_words l))

pub whole_text : (ls : List Line) → is_whole (text ls) ≡ true
whole_text [] = refl
whole_text (l ∷ ls) = whole_append (line_text l) (text ls) (whole_line l) (whole_text ls)
