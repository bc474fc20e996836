-- What a line says, by its words; one with more words than any form is of no form.
use Rattle.std.proofs.Common.{◌≡◌, ℕ, ◌+◌, ◌-◌, ◌<◌, ◌≤◌, nat_lt, Bool, true, false, cond, List, [], ◌∷◌, length, map}
use Rattle.std.proofs.Common.{slice_index, slice_index_or, codes, inl, inr, Some, None, Result, Ok, Err, refl, ap, sym, ◌∙◌, arith}
use Rattle.std.specs.Borrow.{Bor}
use Rattle.std.specs.List.{list_all}
use Rattle.std.specs.Str.{bytes_eq}
use Rattle.std.proofs.lemmas.Bool.{and_parts, and_left, ltb-true, ne_eqb}
use Rattle.std.proofs.Math.ListN.{get_or-map}
use Rattle.std.proofs.lemmas.List.{length-map}
use Rattle.br_model.specs.declared.scenario.LineWhy.{LineWhy}
use Rattle.br_model.specs.declared.scenario.LineWhy.TheVariants as why
use Rattle.br_model.specs.declared.scenario.Said.{Said}
use Rattle.br_model.specs.declared.scenario.Said.TheVariants.{Blank}
use Rattle.br_model.specs.Text.CommandForms.{commands}
use Rattle.br_model.specs.Text.Forms.{Row, pick, said, line, fits}
use Rattle.br_model.specs.Text.LineForms.{lines, commanded, words_say, all_say, line_says}
use Rattle.br_model.specs.Text.Roster.{Roster}
use Rattle.br_model.specs.Text.Words.{Word, words, is_comment}
use Rattle.bridge_command.specs.Seen.{word, OrNoMemory}

-- whether each row has fewer words
abbrev are_below : {A : Type 0} → ℕ → List (Row A) → Bool
are_below n rows = list_all (λ r. nat_lt (length r.shape) n) rows

none_fits : {A : Type 0} (rows : List (Row A)) (m n : ℕ) (w : ℕ → Word) → are_below m rows ≡ true → m ≤ n → pick rows n w ≡ None
none_fits [] m n w h long = refl
none_fits (r ∷ rows) m n w h long =
    let parts = and_parts (nat_lt (length r.shape) m) (are_below m rows) h in
    let short : length r.shape < m = ltb-true (length r.shape) m parts.0 in
    ap (λ b. cond b (Some r) (pick rows n w)) (and_left _ (fits r.shape 0 w) (ne_eqb n (length r.shape) (λ e. omega arith))) ∙ none_fits rows m n w parts.1 long

line_long : {A : Type 0} (rows : List (Row A)) (roster : Roster) (m n : ℕ) (w : ℕ → Word) → are_below m rows ≡ true → m ≤ n → line rows roster n w ≡ Err why.Word
line_long rows roster m n w h long = ap (λ o. said roster o w) (none_fits rows m n w h long)

words_long : (roster : Roster) (n : ℕ) (w : ℕ → Word) → 12 < n → words_say roster n w ≡ Err why.Word
words_long roster n w long =
    by (bytes_eq (w 0) (codes "cmd")) _ _ (ap commanded (line_long commands roster 12 (n - 1) (λ i. w (i + 1)) refl (omega arith))) (line_long lines roster 12 n w refl (omega arith))
  where
    by : (b : Bool) (x y : Result Said LineWhy) → x ≡ Err why.Word → y ≡ Err why.Word → cond b x y ≡ Err why.Word
    by true x y p q = p
    by false x y p q = q

pub too_many : (roster : Roster) (ws : List Word) → 12 < length ws → all_say roster ws ≡ Err why.Word
too_many roster [] long = absurd (omega arith)
too_many roster (w ∷ ws) long = words_long roster (length (w ∷ ws)) (λ i. slice_index_or (w ∷ ws) i []) long

-- words behind references
seen : (roster : Roster) (ws : List (Bor Word)) → 0 < length ws → all_say roster (map (λ w. w.now) ws) ≡ words_say roster (length ws) (word ws)
seen roster [] some = absurd (omega arith)
seen roster (w ∷ ws) some =
    let n : length (map (λ (b : Bor Word). b.now) (w ∷ ws)) ≡ length (w ∷ ws) = length-map (w ∷ ws) (λ b. b.now) in
    let at : (i : ℕ) → slice_index_or (map (λ (b : Bor Word). b.now) (w ∷ ws)) i [] ≡ word (w ∷ ws) i =
    λ i. get_or-map (λ (b : Bor Word). b.now) (w ∷ ws) i (record { ref_ptr = (0, 0); now = [] }) in
    λ j. words_say roster (n j) (λ i. at i j)

not_comment : (line : List ℕ) → (slice_index line 0 ≡ 35 → ⊥) → is_comment line ≡ false
not_comment [] h = refl
not_comment (c ∷ cs) h = ne_eqb c 35 h

-- what the words say is what the line says

pub by_words : (roster : Roster) (line : List ℕ) (answer : Result Said LineWhy) → (slice_index line 0 ≡ 35 → ⊥) → OrNoMemory answer (all_say roster (words line))
    → OrNoMemory answer (line_says roster line)
unfolding line_says
by_words roster line answer first (inl h) = inl h
by_words roster line answer first (inr h) = inr (h ∙ sym (ap (λ b. cond b (Ok Blank) (all_say roster (words line))) (not_comment line first)))

pub line_of : (roster : Roster) (line : List ℕ) (ws : List (Bor Word)) (answer : Result Said LineWhy) → map (λ w. w.now) ws ≡ words line → 0 < length ws
    → OrNoMemory answer (words_say roster (length ws) (word ws)) → OrNoMemory answer (all_say roster (words line))
line_of roster line ws answer are some (inl h) = inl h
line_of roster line ws answer are some (inr h) = inr (h ∙ sym (seen roster ws some) ∙ ap (all_say roster) are)
