-- A line's text is its words, joined by spaces.
use Rattle.std.proofs.Common.{◌≡◌, ℕ, zero, suc, ◌^◌, ◌<◌, ◌≤◌, true, false, List, [], ◌∷◌, ◌++◌, length, refl, sym, ◌∙◌, ap, append_assoc, subst, lit<, arith}
use Rattle.std.specs.Cmp.{first_so, second_so}
use Rattle.std.specs.Fmt.{decimal}
use Rattle.std.specs.List.{All, list_all, join_with_byte}
use Rattle.std.specs.Str.{IsAscii}
use Rattle.std.proofs.lemmas.List.Splits.{slice_split_at, slice_split_none}
use Rattle.std.proofs.lemmas.Bool.{and_from}
use Rattle.br_model.specs.declared.frame.Class.{Class}
use Rattle.br_model.specs.declared.frame.Class.TheVariants as classes
use Rattle.br_model.specs.declared.frame.FrameFault.{FrameFault}
use Rattle.br_model.specs.declared.frame.FrameFault.TheVariants as faults
use Rattle.br_model.specs.declared.steps.Refusal.{Refusal}
use Rattle.br_model.specs.declared.transcript.Line.{Line}
use Rattle.br_model.specs.declared.transcript.Line.TheVariants.{Chip, Unread, Soft, Held, Tx, Ctl, Overrun, Done, Refused, End}
use Rattle.br_model.specs.Control.Refusals.{refusal_number}
use Rattle.br_model.specs.Data.Digits.{hex_of}
use Rattle.br_model.specs.Text.Transcript.{line_text, line_words, with_feed, class_word, fault_word}
use Rattle.br_model.specs.Text.Words.{Word, is_word}
use Rattle.br_model.proofs.Control.Refusals.{each_number}
use Rattle.br_model.proofs.Text.WrittenNumbers.{decimal_proper, hex_proper}
use Rattle.br_model.proofs.Text.WrittenWords.{is_letter, letters, is_proper}
use Rattle.transcript_text.specs.Lines.{is_number, is_port, is_frame, is_line}
use Rattle.transcript_text.proofs.Spaces.{is_space, parts}

abbrev pub joined : List Word → List ℕ
joined ws = join_with_byte 32 ws

feed_behind : (ws : List Word) → with_feed ws ≡ joined ws ++ 10 ∷ []
feed_behind [] = refl
feed_behind (w ∷ []) = refl
feed_behind (w ∷ v ∷ ws) = ap (λ (text : List ℕ). w ++ 32 ∷ text) (feed_behind (v ∷ ws)) ∙ sym (append_assoc w (32 ∷ joined (v ∷ ws)) (10 ∷ []))

pub text_is : (l : Line) → line_text l ≡ joined (line_words l) ++ 10 ∷ []
text_is l = feed_behind (line_words l)

-- no word of a line is empty, or has a space or another byte above 0x7F

number_proper : (n : ℕ) → is_number n ≡ true → is_proper (decimal n) ≡ true
number_proper n h = let fits : n < 2 ^ 64 = below n h in decimal_proper n fits
  where
    below : (n : ℕ) → is_number n ≡ true → n < 2 ^ 64
    below n h = let small : n < 2 ^ 32 = grind arith in omega arith

pub port_small : (n : ℕ) → is_port n ≡ true → is_number n ≡ true
port_small n h = grind arith

frame_proper : (bytes : List ℕ) → is_frame bytes ≡ true → is_proper (hex_of bytes) ≡ true
frame_proper [] h = cc
frame_proper (b ∷ bytes) h = hex_proper (b ∷ bytes) refl h

class_proper : (class : Class) → is_proper (class_word class) ≡ true
class_proper classes.Drop = refl
class_proper classes.Trap = refl
class_proper classes.Copy = refl
class_proper classes.Forward = refl

fault_proper : (why : FrameFault) → is_proper (fault_word why) ≡ true
fault_proper faults.Short = refl
fault_proper faults.Long = refl
fault_proper faults.TagShort = refl

pub refusal_small : (why : Refusal) → is_number (refusal_number why) ≡ true
refusal_small why = each_number is_number why refl

pub line_proper : (l : Line) → is_line l ≡ true → list_all is_proper (line_words l) ≡ true
line_proper (Chip id changes applied class) h =
    let rest = second_so (is_number id) _ h in
    and_from _ _ (number_proper id (first_so _ _ h))
    (and_from _ _ (number_proper changes (first_so _ _ rest)) (and_from _ _ (number_proper applied (second_so (is_number changes) _ rest)) (and_from _ _ (class_proper class) refl)))
line_proper (Unread id why) h = and_from _ _ (number_proper id h) (and_from _ _ (fault_proper why) refl)
line_proper (Soft id point) h = and_from _ _ (number_proper id (first_so _ _ h)) (and_from _ _ (number_proper point (second_so (is_number id) _ h)) refl)
line_proper (Held id floor) h = and_from _ _ (number_proper id (first_so _ _ h)) (and_from _ _ (number_proper floor (second_so (is_number id) _ h)) refl)
line_proper (Tx id port bytes) h =
    let rest = second_so (is_number id) _ h in
    and_from _ _ (number_proper id (first_so _ _ h))
    (and_from _ _ (number_proper port (port_small port (first_so _ _ rest))) (and_from _ _ (frame_proper bytes (second_so (is_port port) _ rest)) refl))
line_proper (Ctl port bytes) h = and_from _ _ (number_proper port (port_small port (first_so _ _ h))) (and_from _ _ (frame_proper bytes (second_so (is_port port) _ h)) refl)
line_proper (Overrun id) h = and_from _ _ (number_proper id h) refl
line_proper (Done step changes) h = and_from _ _ (number_proper step (first_so _ _ h)) (and_from _ _ (number_proper changes (second_so (is_number step) _ h)) refl)
line_proper (Refused step why) h = and_from _ _ (number_proper step h) (and_from _ _ (number_proper (refusal_number why) (refusal_small why)) refl)
line_proper (End steps changes pending waiting) h =
    let rest = second_so (is_number steps) _ h in
    let last = second_so (is_number changes) _ rest in
    and_from _ _ (number_proper steps (first_so _ _ h))
    (and_from _ _ (number_proper changes (first_so _ _ rest))
    (and_from _ _ (number_proper pending (first_so _ _ last)) (and_from _ _ (number_proper waiting (second_so (is_number pending) _ last)) refl)))

-- such words are what stands between the spaces

no_space : (w : Word) → letters w ≡ true → All (λ c. is_space c ≡ false) w
no_space [] h k d below = absurd (omega arith)
no_space (c ∷ w) h zero d below = other c (first_so _ _ h)
  where
    other : (c : ℕ) → is_letter c ≡ true → is_space c ≡ false
    other c h = grind arith
no_space (c ∷ w) h (suc k) d below = no_space w (second_so _ _ h) k d (omega arith)

pub parts_joined : (w : Word) (ws : List Word) → list_all is_proper (w ∷ ws) ≡ true → parts (joined (w ∷ ws)) ≡ w ∷ ws
parts_joined w [] h = slice_split_none is_space w (no_space w (second_so (is_word w) (letters w) (first_so _ _ h)))
parts_joined w (v ∷ ws) h =
    slice_split_at is_space w 32 (joined (v ∷ ws)) (no_space w (second_so (is_word w) (letters w) (first_so (is_proper w) (list_all is_proper (v ∷ ws)) h))) refl
    ∙ ap (λ (us : List Word). w ∷ us) (parts_joined v ws (second_so (is_proper w) (list_all is_proper (v ∷ ws)) h))

word_ascii : (w : Word) → letters w ≡ true → IsAscii w
word_ascii [] h k = omega arith
word_ascii (c ∷ w) h zero = small c (first_so _ _ h)
  where
    small : (c : ℕ) → is_letter c ≡ true → c < 128
    small c h = grind arith
word_ascii (c ∷ w) h (suc k) = word_ascii w (second_so _ _ h) k

behind : (w rest : List ℕ) → IsAscii w → IsAscii rest → IsAscii (w ++ 32 ∷ rest)
behind [] rest a b zero = lit< tt
behind [] rest a b (suc k) = b k
behind (c ∷ w) rest a b zero = a 0
behind (c ∷ w) rest a b (suc k) = behind w rest (λ i. a (suc i)) b k

pub joined_ascii : (w : Word) (ws : List Word) → list_all is_proper (w ∷ ws) ≡ true → IsAscii (joined (w ∷ ws))
joined_ascii w [] h = word_ascii w (second_so (is_word w) (letters w) (first_so _ _ h))
joined_ascii w (v ∷ ws) h =
    behind w (joined (v ∷ ws)) (word_ascii w (second_so (is_word w) (letters w) (first_so (is_proper w) (list_all is_proper (v ∷ ws)) h)))
    (joined_ascii v ws (second_so (is_proper w) (list_all is_proper (v ∷ ws)) h))

-- the same of all words of a line

pub some_words : (l : Line) → (w : Word) × (ws : List Word) × (line_words l ≡ w ∷ ws)
some_words (Chip id changes applied class) = (_, _, refl)
some_words l = (_, _, refl)

pub line_parts : (l : Line) → is_line l ≡ true → parts (joined (line_words l)) ≡ line_words l
line_parts l h =
    let s = some_words l in
    ap (λ (ws : List Word). parts (joined ws)) s.2 ∙ parts_joined s.0 s.1 (ap (list_all is_proper) (sym s.2) ∙ line_proper l h) ∙ sym s.2

pub line_ascii : (l : Line) → is_line l ≡ true → IsAscii (joined (line_words l))
line_ascii l h =
    let s = some_words l in
    let P : List Word → Type 0 = λ ws. IsAscii (joined ws) in
    subst P (sym s.2) (joined_ascii s.0 s.1 (ap (list_all is_proper) (sym s.2) ∙ line_proper l h))

pub few_words : (l : Line) → length (line_words l) ≤ 6
few_words (Chip id changes applied class) = omega arith
few_words l = omega arith
