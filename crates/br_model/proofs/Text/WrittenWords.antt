-- Words that stand in a line with spaces between them are its words.
use Rattle.std.proofs.Common.{◌≡◌, ℕ, ◌==◌, Bool, true, false, not, ◌&&◌, if◌then◌else◌, cond, List, [], ◌∷◌, ◌++◌, map, refl, ◌∙◌, ap}
use Rattle.std.specs.Char.{is_ascii}
use Rattle.std.specs.Cmp.{first_so, second_so}
use Rattle.std.specs.List.{filter, list_all, onto_first, slice_split}
use Rattle.std.proofs.lemmas.Bool.{not-true, and_from}
use Rattle.br_model.specs.Text.Words.{Word, is_word, joined, readable, replacement, words}

-- a byte that can stand in a word
abbrev pub is_letter : ℕ → Bool
is_letter c = not (c == 32) && is_ascii c

abbrev pub letters : Word → Bool
letters w = list_all is_letter w

abbrev space : ℕ → Bool
space c = c == 32

no_space : (c : ℕ) → is_letter c ≡ true → space c ≡ false
no_space c h = not-true _ (first_so _ _ h)

split_word : (w rest : List ℕ) → letters w ≡ true → slice_split space (w ++ 32 ∷ rest) ≡ w ∷ slice_split space rest
split_word [] rest h = refl
split_word (c ∷ w) rest h =
    ap (λ (b : Bool). cond b ([] ∷ slice_split space (w ++ 32 ∷ rest)) (onto_first c (slice_split space (w ++ 32 ∷ rest)))) (no_space c (first_so _ _ h))
    ∙ ap (onto_first c) (split_word w rest (second_so _ _ h))

split_last : (w : List ℕ) → letters w ≡ true → slice_split space w ≡ w ∷ []
split_last [] h = refl
split_last (c ∷ w) h =
    ap (λ (b : Bool). cond b ([] ∷ slice_split space w) (onto_first c (slice_split space w))) (no_space c (first_so _ _ h))
    ∙ ap (onto_first c) (split_last w (second_so _ _ h))

all_ascii : (w : List ℕ) → letters w ≡ true → list_all is_ascii w ≡ true
all_ascii [] h = refl
all_ascii (c ∷ w) h = and_from _ _ (second_so _ _ (first_so _ _ h)) (all_ascii w (second_so _ _ h))

reads_as : (w : List ℕ) → letters w ≡ true → readable w ≡ w
reads_as w h = ap (λ (b : Bool). if b then w else replacement) (all_ascii w h)

-- a word and a space in front
pub words_more : (w rest : List ℕ) → is_word w ≡ true → letters w ≡ true → words (w ++ 32 ∷ rest) ≡ w ∷ words rest
words_more w rest some h =
    ap (λ (parts : List Word). map readable (filter is_word parts)) (split_word w rest h)
    ∙ ap (λ (b : Bool). map readable (cond b (w ∷ filter is_word (slice_split space rest)) (filter is_word (slice_split space rest)))) some
    ∙ ap (λ (v : Word). v ∷ words rest) (reads_as w h)

-- the last word
pub words_last : (w : List ℕ) → is_word w ≡ true → letters w ≡ true → words w ≡ w ∷ []
words_last w some h =
    ap (λ (parts : List Word). map readable (filter is_word parts)) (split_last w h)
    ∙ ap (λ (b : Bool). map readable (cond b (w ∷ []) [])) some
    ∙ ap (λ (v : Word). v ∷ []) (reads_as w h)

-- words joined by spaces

abbrev pub is_proper : Word → Bool
is_proper w = is_word w && letters w

pub words_joined : (ws : List Word) → list_all is_proper ws ≡ true → words (joined ws) ≡ ws
words_joined [] h = refl
words_joined (w ∷ []) h =
    let proper : is_proper w ≡ true = first_so _ _ h in
    words_last w (first_so (is_word w) (letters w) proper) (second_so (is_word w) (letters w) proper)
words_joined (w ∷ v ∷ ws) h =
    let proper : is_proper w ≡ true = first_so (is_proper w) (list_all is_proper (v ∷ ws)) h in
    words_more w (joined (v ∷ ws)) (first_so (is_word w) (letters w) proper) (second_so (is_word w) (letters w) proper)
    ∙ ap (λ (us : List Word). w ∷ us) (words_joined (v ∷ ws) (second_so (is_proper w) (list_all is_proper (v ∷ ws)) h))
