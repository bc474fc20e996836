-- What rows tell is what their lines tell.
use Rattle.std.proofs.Common.{◌≡◌, ℕ, ◌+◌, ◌<◌, ◌≤◌, ◌&&◌, Bool, true, false, List, [], ◌∷◌, length, drop, get_or, refl, sym, ap, ◌∙◌}
use Rattle.std.proofs.Math.Bool.{and-true}
use Rattle.std.proofs.Math.ListN.{drop_of_length-le}
use Rattle.std.specs.List.{fold, list_all}
use Rattle.std.proofs.lemmas.List.Folds.{list_all-append}
use Rattle.std.proofs.lemmas.List.Sums.{fold-append}
use Rattle.lemmas.proofs.Lists.{drop_item}
use Rattle.br_model.specs.declared.transcript.Line.{Line}
use Rattle.transcript_lines.specs.declared.row.Row.{Row}
use Rattle.transcript_lines.specs.declared.row.Row.TheVariants.{One, Sent, Ctl}
use Rattle.transcript_lines.specs.Rows.{at, expand, expand_row, row_answer, sent_lines}
use Rattle.live_book.specs.Reading.{is_end_published, is_published, refused_after, refused_by}

sent_published : (may : ℕ → Bool) (id : ℕ) (ports untagged plain tagged : List ℕ) → list_all (is_published may) (sent_lines id ports untagged plain tagged) ≡ true
sent_published may id [] untagged plain tagged = refl
sent_published may id (port ∷ ports) untagged plain tagged = sent_published may id ports untagged plain tagged

pub row_published : (may : ℕ → Bool) (arena : List ℕ) (row : Row) → list_all (is_published may) (expand_row arena row) ≡ is_end_published may (row_answer row)
row_published may arena (One line) = and-true (is_published may line)
row_published may arena (Sent id ports untagged plain tagged) = sent_published may id ports untagged (at arena plain) (at arena tagged)
row_published may arena (Ctl port bytes) = refl

sent_after : (is_report : ℕ → Bool) (before : Bool) (id : ℕ) (ports untagged plain tagged : List ℕ) → fold (refused_after is_report) before (sent_lines id ports untagged plain tagged) ≡ before
sent_after is_report before id [] untagged plain tagged = refl
sent_after is_report before id (port ∷ ports) untagged plain tagged = sent_after is_report before id ports untagged plain tagged

pub row_after : (is_report : ℕ → Bool) (before : Bool) (arena : List ℕ) (row : Row) → fold (refused_after is_report) before (expand_row arena row) ≡ refused_by is_report before (row_answer row)
row_after is_report before arena (One line) = refl
row_after is_report before arena (Sent id ports untagged plain tagged) = sent_after is_report before id ports untagged (at arena plain) (at arena tagged)
row_after is_report before arena (Ctl port bytes) = refl

module _ (arena : List ℕ) (rows : List Row) (i : ℕ) (row : Row) (h : i < length rows) (e : row ≡ get_or rows i row) where
  pub all_at_row : (p : Line → Bool) → list_all p (expand arena (drop i rows)) ≡ (list_all p (expand_row arena row) && list_all p (expand arena (drop (i + 1) rows)))
  all_at_row p = ap (λ l. list_all p (expand arena l)) (drop_item rows i row h e) ∙ list_all-append p (expand_row arena row) (expand arena (drop (i + 1) rows))

  pub fold_at_row : (f : Bool → Line → Bool) (b : Bool) → fold f b (expand arena (drop i rows)) ≡ fold f (fold f b (expand_row arena row)) (expand arena (drop (i + 1) rows))
  fold_at_row f b = ap (λ l. fold f b (expand arena l)) (drop_item rows i row h e) ∙ fold-append f b (expand_row arena row) (expand arena (drop (i + 1) rows))

-- a walk over a list whose items have to pass
module _ {X : Type 0} (p : X → Bool) (xs : List X) (i : ℕ) (x : X) (h : i < length xs) (e : x ≡ get_or xs i x) (so_far : list_all p (drop i xs) ≡ list_all p xs) where
  at_item : (b : Bool) → p x ≡ b → (b && list_all p (drop (i + 1) xs)) ≡ list_all p xs
  at_item b is = sym (ap (list_all p) (drop_item xs i x h e) ∙ ap (λ b. b && list_all p (drop (i + 1) xs)) is) ∙ so_far

  pub passes : p x ≡ true → list_all p (drop (i + 1) xs) ≡ list_all p xs
  passes is = at_item true is

  pub fails : p x ≡ false → false ≡ list_all p xs
  fails is = at_item false is

pub all_past : {X : Type 0} (p : X → Bool) (xs : List X) (i : ℕ) → length xs ≤ i → list_all p (drop i xs) ≡ list_all p xs → true ≡ list_all p xs
all_past p xs i h so_far = sym (ap (list_all p) (drop_of_length-le xs h)) ∙ so_far

-- and over rows whose lines have to pass
module _ (p : Line → Bool) (arena : List ℕ) (rows : List Row) (i : ℕ) (row : Row) (h : i < length rows) (e : row ≡ get_or rows i row)
    (so_far : list_all p (expand arena (drop i rows)) ≡ list_all p (expand arena rows)) where
  at_lines : (b : Bool) → list_all p (expand_row arena row) ≡ b → (b && list_all p (expand arena (drop (i + 1) rows))) ≡ list_all p (expand arena rows)
  at_lines b is = sym (all_at_row arena rows i row h e p ∙ ap (λ b. b && list_all p (expand arena (drop (i + 1) rows))) is) ∙ so_far

  pub row_passes : list_all p (expand_row arena row) ≡ true → list_all p (expand arena (drop (i + 1) rows)) ≡ list_all p (expand arena rows)
  row_passes is = at_lines true is

  pub row_fails : list_all p (expand_row arena row) ≡ false → false ≡ list_all p (expand arena rows)
  row_fails is = at_lines false is

pub rows_past : (p : Line → Bool) (arena : List ℕ) (rows : List Row) (i : ℕ) → length rows ≤ i → list_all p (expand arena (drop i rows)) ≡ list_all p (expand arena rows)
    → true ≡ list_all p (expand arena rows)
rows_past p arena rows i h so_far = sym (ap (λ l. list_all p (expand arena l)) (drop_of_length-le rows h)) ∙ so_far

pub fold_past : (f : Bool → Line → Bool) (b : Bool) (arena : List ℕ) (rows : List Row) (i : ℕ) → length rows ≤ i → fold f b (expand arena (drop i rows)) ≡ b
fold_past f b arena rows i h = ap (λ l. fold f b (expand arena l)) (drop_of_length-le rows h)
