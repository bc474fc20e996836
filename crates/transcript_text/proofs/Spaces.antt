-- What stands between the spaces of a line.
use Rattle.std.proofs.Common.{◌≡◌, ℕ, ◌<◌, ◌==◌, Bool, List, [], ◌∷◌, ◌++◌, length, sym, ◌∙◌, ap, append_assoc, arith, Option, Some, None, IfNone, OnSome, Result, Ok, Err, MatchResult}
use Rattle.std.proofs.lemmas.List.{length-append}
use Rattle.std.proofs.lemmas.List.Splits.{slice_split_first, slice_split_none, length-slice_split}
use Rattle.std.proofs.lemmas.List.Sums.{fails_before_first}
use Rattle.std.specs.Result.{result_ok}
use Rattle.std.specs.List.{slice_split, position_or_len, before_first, after_first}
use Rattle.br_model.specs.Text.Words.{Word}

abbrev pub is_space : ℕ → Bool
is_space c = c == 32

abbrev pub parts : List ℕ → List Word
parts line = slice_split is_space line

only_one : (rest : List ℕ) → position_or_len is_space rest ≡ length rest → parts rest ≡ rest ∷ []
only_one rest h = slice_split_none is_space rest (λ k d below. fails_before_first is_space rest k d (omega arith))

-- one word more was found
pub goes_on : (found more : List Word) (word after rest : List ℕ) (all : List Word) → more ≡ found ++ word ∷ [] → word ≡ before_first is_space rest → after ≡ after_first is_space rest
    → position_or_len is_space rest < length rest → found ++ parts rest ≡ all → more ++ parts after ≡ all
goes_on found more word after rest all e w a h before =
    ap (λ ws. ws ++ parts after) e
    ∙ append_assoc found (word ∷ []) (parts after)
    ∙ (λ j. found ++ (w j ∷ parts (a j)))
    ∙ ap (λ ws. found ++ ws) (sym (slice_split_first is_space rest 0 h))
    ∙ before

-- the last word was found
pub is_all : (found more : List Word) (rest : List ℕ) (all : List Word) → more ≡ found ++ rest ∷ [] → position_or_len is_space rest ≡ length rest → found ++ parts rest ≡ all → more ≡ all
is_all found more rest all e h before = e ∙ ap (λ ws. found ++ ws) (sym (only_one rest h)) ∙ before

-- there are more words than those that were found
pub too_many : (found : List Word) (rest : List ℕ) (all : List Word) (n : ℕ) → length found ≡ n → found ++ parts rest ≡ all → n < length all
too_many found rest all n full before =
    let a : length (found ++ parts rest) ≡ length all = ap length before in
    omega (arith, length-append found (parts rest), length-slice_split is_space rest)

pub some_then : {A P Q : Type 0} (answer : Option A) → OnSome answer P → (P → Q) → OnSome answer Q
some_then None p f = tt
some_then (Some x) p f = f p

pub refused : {A E R : Type 0} (P : A → Type 0) (N : Type 0) (Q : E → Type 0) (r : Result A E) (o : Option A) → o ≡ result_ok r → MatchResult r P (λ e. N × Q e) → (N → R) → IfNone o R
refused P N Q (Ok x) None e h f = cc
refused P N Q (Ok x) (Some y) e h f = tt
refused P N Q (Err e) None e' h f = f h.0
refused P N Q (Err e) (Some y) e' h f = tt
