-- The words of a line, as it is cut at its spaces.
use Rattle.std.proofs.Common.{◌≡◌, true≢false, ℕ, zero, suc, ◌-◌, ◌<◌, ◌≤◌, ◌==◌, Bool, true, false, not, cond, List, [], ◌∷◌}
use Rattle.std.proofs.Common.{◌++◌, length, take, drop, map, slice_index, Option, Some, None, IfNone, refl, ap, sym, ◌∙◌, add-one, append_assoc, arith}
use Rattle.std.specs.Char.{is_ascii}
use Rattle.std.specs.List.{filter, list_all, slice_split, onto_first}
use Rattle.std.specs.Option.{is_some}
use Rattle.std.specs.Str.{IsAscii, IsNotAscii}
use Rattle.std.proofs.lemmas.Bool.{and_from, and_left, and_right, lt-ltb, le-ltb, false_from_ne_true}
use Rattle.std.proofs.lemmas.List.{length-append, length-drop, drop-drop}
use Rattle.std.proofs.Math.Seq.{take-length}
use Rattle.memchr.specs.Find.{IsFirstByte, is_byte}
use Rattle.br_model.specs.Text.Words.{Word, is_word, readable, replacement, words}
use Rattle.scenario_text.specs.Parts.{words_among}

-- one word

ascii_all : (bs : List ℕ) → IsAscii bs → list_all is_ascii bs ≡ true
ascii_all [] h = refl
ascii_all (b ∷ bs) h = and_from _ _ (lt-ltb b 128 (h 0)) (ascii_all bs (λ i. h (suc i)))

not_ascii_all : (bs : List ℕ) (i : ℕ) → 128 ≤ slice_index bs i → list_all is_ascii bs ≡ false
not_ascii_all [] i h = absurd (omega arith)
not_ascii_all (b ∷ bs) zero h = and_left _ _ (le-ltb b 128 h)
not_ascii_all (b ∷ bs) (suc i) h = and_right _ _ (not_ascii_all bs i h)

pub readable_text : (bs text : List ℕ) → IsAscii bs → text ≡ bs → text ≡ readable bs
readable_text bs text h e = e ∙ sym (ap (λ t. cond t bs replacement) (ascii_all bs h))

pub unreadable : (bs : List ℕ) → IsNotAscii bs → replacement ≡ readable bs
unreadable bs h = sym (ap (λ t. cond t bs replacement) (not_ascii_all bs h.0 h.1))

-- the first of several

abbrev is_space : ℕ → Bool
is_space c = c == 32

split_at : (rest : List ℕ) (end : ℕ) → end < length rest → ((k : ℕ) → k < end → is_space (slice_index rest k) ≡ true → ⊥) → is_space (slice_index rest end) ≡ true
    → slice_split is_space rest ≡ take end rest ∷ slice_split is_space (drop (suc end) rest)
split_at [] end h before at = absurd (omega arith)
split_at (x ∷ xs) zero h before at = ap (λ b. cond b ([] ∷ slice_split is_space xs) (onto_first x (slice_split is_space xs))) at
split_at (x ∷ xs) (suc end) h before at =
    let first : is_space x ≡ false = false_from_ne_true _ (before 0 (omega arith)) in
    ap (λ b. cond b ([] ∷ slice_split is_space xs) (onto_first x (slice_split is_space xs))) first
    ∙ ap (onto_first x) (split_at xs end (omega arith) (λ k below. before (suc k) (omega arith)) at)

split_none : (rest : List ℕ) → ((k : ℕ) → k < length rest → is_space (slice_index rest k) ≡ true → ⊥) → slice_split is_space rest ≡ rest ∷ []
split_none [] none = refl
split_none (x ∷ xs) none =
    let first : is_space x ≡ false = false_from_ne_true _ (none 0 (omega arith)) in
    ap (λ b. cond b ([] ∷ slice_split is_space xs) (onto_first x (slice_split is_space xs))) first
    ∙ ap (onto_first x) (split_none xs (λ k below. none (suc k) (omega arith)))

among : (part : Word) (parts : List Word) → words_among (part ∷ parts) ≡ words_among (part ∷ []) ++ words_among parts
among part parts = by (is_word part)
  where
    by : (b : Bool) → map readable (cond b (part ∷ filter is_word parts) (filter is_word parts)) ≡ map readable (cond b (part ∷ []) []) ++ map readable (filter is_word parts)
    by true = refl
    by false = refl

tail : (xs : List ℕ) → take (length xs - 1) (drop 1 xs) ≡ drop 1 xs
tail xs = ap (λ n. take n (drop 1 xs)) (sym (length-drop 1 xs)) ∙ take-length (drop 1 xs)

after_space : (rest after : List ℕ) (end : ℕ) → after ≡ drop end rest → take (length after - 1) (drop 1 after) ≡ drop (suc end) rest
after_space rest after end e = tail after ∙ ap (drop 1) e ∙ drop-drop 1 end rest ∙ ap (λ n. drop n rest) (add-one end)

-- the words of what stands before the first space, and of the rest
words_at : (rest part after : List ℕ) (end : ℕ) → IsFirstByte (is_byte 32) rest (Some end) → part ≡ take end rest → after ≡ drop end rest
    → words rest ≡ words_among (part ∷ []) ++ words (take (length after - 1) (drop 1 after))
words_at rest part after end h is then =
    ap words_among (split_at rest end h.0.high (λ k below. h.0.before k (omega arith) below) h.1)
    ∙ among (take end rest) (slice_split is_space (drop (suc end) rest))
    ∙ (λ j. words_among (sym is j ∷ []) ++ words (sym (after_space rest after end then) j))

-- a word stands before the first space
pub cut_at : (rest part after : List ℕ) (end : ℕ) → IsFirstByte (is_byte 32) rest (Some end) → part ≡ take end rest → after ≡ drop end rest → (end ≡ 0 → ⊥)
    → words rest ≡ readable part ∷ words (take (length after - 1) (drop 1 after))
cut_at rest part after end h is then some =
    words_at rest part after end h is then
    ∙ ap (λ b. map readable (cond b (part ∷ []) []) ++ words (take (length after - 1) (drop 1 after))) (ap is_word is ∙ some_word rest end h.0.high some)
  where
    some_word : (rest : List ℕ) (end : ℕ) → end < length rest → (end ≡ 0 → ⊥) → is_word (take end rest) ≡ true
    some_word [] end h some = absurd (omega arith)
    some_word (c ∷ cs) zero h some = absurd (some refl)
    some_word (c ∷ cs) (suc end) h some = refl

-- one word more was found
pub goes_on : (found more : List Word) (rest part after : List ℕ) (end : ℕ) (all : List Word) → IsFirstByte (is_byte 32) rest (Some end) → part ≡ take end rest → after ≡ drop end rest
    → found ++ words rest ≡ all → more ≡ found ++ words_among (part ∷ []) → more ++ words (take (length after - 1) (drop 1 after)) ≡ all
goes_on found more rest part after end all h is then before e =
    let next : List Word = words (take (length after - 1) (drop 1 after)) in
    ap (λ ws. ws ++ next) e ∙ append_assoc found (words_among (part ∷ [])) next ∙ ap (λ ws. found ++ ws) (sym (words_at rest part after end h is then)) ∙ before

-- no space
words_none : (rest : List ℕ) → IsFirstByte (is_byte 32) rest None → words rest ≡ words_among (rest ∷ [])
words_none rest h = ap words_among (split_none rest (λ k below. h k (omega arith) below))

-- a word stands alone
pub one_word : (text : List ℕ) → IsFirstByte (is_byte 32) text None → (length text ≡ 0 → ⊥) → words text ≡ readable text ∷ []
one_word [] h some = absurd (some refl)
one_word (c ∷ cs) h some = words_none (c ∷ cs) h

pub some_if : (text : List ℕ) (is : Bool) → is ≡ (length text == 0) → is ≡ false → length text ≡ 0 → ⊥
some_if [] is e t none = true≢false (sym e ∙ t)
some_if (c ∷ cs) is e t none = absurd (omega (arith, none))

pub one_word_if : (text : List ℕ) (end : Option ℕ) (is : Bool) → IsFirstByte (is_byte 32) text end → is_some end ≡ not is → (length text ≡ 0 → ⊥) → is ≡ true → words text ≡ readable text ∷ []
one_word_if text None is h e some t = one_word text h some
one_word_if text (Some n) is h e some t = absurd (true≢false (e ∙ ap not t))

-- the last word was found
pub is_all : (found more : List Word) (rest : List ℕ) (all : List Word) → IsFirstByte (is_byte 32) rest None → found ++ words rest ≡ all → more ≡ found ++ words_among (rest ∷ []) → more ≡ all
is_all found more rest all h before e = e ∙ ap (λ ws. found ++ ws) (sym (words_none rest h)) ∙ before

-- a part of the words is no longer than all
longer : (found part rest all : List Word) (n : ℕ) → found ++ (part ++ rest) ≡ all → n < length (found ++ part) → n < length all
longer found part rest all n e h =
    let a : length (found ++ (part ++ rest)) ≡ length all = ap length e in
    omega (arith, length-append found part, length-append part rest, length-append found (part ++ rest))

none : {A P : Type 0} (answer : Option A) → P → IfNone answer P
none None p = p
none (Some x) p = tt

pub too_many : {A : Type 0} (answer : Option A) (found : List Word) (rest part after : List ℕ) (end : ℕ) (all : List Word) (n : ℕ) → IsFirstByte (is_byte 32) rest (Some end)
    → part ≡ take end rest → after ≡ drop end rest
    → found ++ words rest ≡ all → n < length (found ++ words_among (part ∷ [])) → IfNone answer (n < length all)
too_many answer found rest part after end all n h is then before long =
    none answer (longer found (words_among (part ∷ [])) (words (take (length after - 1) (drop 1 after))) all n (ap (λ ws. found ++ ws) (sym (words_at rest part after end h is then)) ∙ before) long)

pub too_many_last : (found : List Word) (rest : List ℕ) (all : List Word) (n : ℕ) → IsFirstByte (is_byte 32) rest None → found ++ words rest ≡ all
    → n < length (found ++ words_among (rest ∷ [])) → n < length all
too_many_last found rest all n h before long =
    let e : found ++ words_among (rest ∷ []) ≡ all = is_all found (found ++ words_among (rest ∷ [])) rest all h before refl in
    let a : length (found ++ words_among (rest ∷ [])) ≡ length all = ap length e in
    omega arith
