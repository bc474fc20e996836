-- Lines in their plainest spelling.
use Rattle.std.proofs.Common.{◌≡◌, ℕ, ◌-◌, ◌==◌, ◌≤◌, nat_le, Bool, true, false, not, ◌&&◌, if◌then◌else◌, cond, List, [], ◌∷◌, ◌++◌}
use Rattle.std.proofs.Common.{length, take, drop, map, get_or, codes, Option, Some, None, unwrap_or, Ok, Err, refl, ap, sym, ◌∙◌, arith}
use Rattle.std.specs.Char.{is_ascii}
use Rattle.std.specs.Cmp.{first_so, second_so}
use Rattle.std.specs.List.{filter, list_all, slice_split, onto_first}
use Rattle.std.proofs.lemmas.Bool.{and_from, not-true}
use Rattle.std.proofs.lemmas.List.{take_all}
use Rattle.br_model.specs.declared.scenario.LineWhy.TheVariants as why
use Rattle.br_model.specs.declared.scenario.Said.TheVariants.{Does}
use Rattle.br_model.specs.declared.steps.Step.TheVariants.{Rx, Serve, Turn, Report, Publish}
use Rattle.br_model.specs.Data.Digits.{nibble, byte_of, in_front, bytes_from_hex, is_digit, is_decimal, decimal_from, digits_value}
use Rattle.br_model.specs.Table.Domains.{first_chip_domain, last_port}
use Rattle.br_model.specs.Text.CommandForms.{step}
use Rattle.br_model.specs.Text.Forms.{after}
use Rattle.br_model.specs.Text.LineForms.{all_say}
use Rattle.br_model.specs.Text.Operands.{number, chip_domain, port_number, hex, bytes_of, found, unless}
use Rattle.br_model.specs.Text.Roster.{Roster, has_number}
use Rattle.br_model.specs.Text.Words.{Word, words, is_word, readable, replacement}
use Rattle.scenario_text.specs.Parts.{is_plain, Numbered, enters}

abbrev is_space : ℕ → Bool
is_space c = c == 32

-- a word before a space, and one alone

no_space : (c : ℕ) → is_plain c ≡ true → is_space c ≡ false
no_space c h = not-true _ (first_so _ _ h)

pub split_plain : (w rest : List ℕ) → list_all is_plain w ≡ true → slice_split is_space (w ++ 32 ∷ rest) ≡ w ∷ slice_split is_space rest
split_plain [] rest h = refl
split_plain (c ∷ cs) rest h =
    ap (λ b. cond b ([] ∷ slice_split is_space (cs ++ 32 ∷ rest)) (onto_first c (slice_split is_space (cs ++ 32 ∷ rest)))) (no_space c (first_so _ _ h))
    ∙ ap (onto_first c) (split_plain cs rest (second_so _ _ h))

pub split_alone : (w : List ℕ) → list_all is_plain w ≡ true → slice_split is_space w ≡ w ∷ []
split_alone [] h = refl
split_alone (c ∷ cs) h =
    ap (λ b. cond b ([] ∷ slice_split is_space cs) (onto_first c (slice_split is_space cs))) (no_space c (first_so _ _ h))
    ∙ ap (onto_first c) (split_alone cs (second_so _ _ h))

ascii_all : (w : List ℕ) → list_all is_plain w ≡ true → list_all is_ascii w ≡ true
ascii_all [] h = refl
ascii_all (c ∷ cs) h = and_from _ _ (second_so _ _ (first_so _ _ h)) (ascii_all cs (second_so _ _ h))

pub readable_plain : (w : List ℕ) → list_all is_plain w ≡ true → readable w ≡ w
readable_plain w h = ap (λ b. cond b w replacement) (ascii_all w h)

three_words : (w digits : Word) → list_all is_plain w ≡ true → is_word w ≡ true → list_all is_plain digits ≡ true → is_word digits ≡ true
    → words (enters (w ++ 32 ∷ digits)) ≡ codes "rx" ∷ w ∷ digits ∷ []
three_words w digits pw ww pd wd =
    ap (λ parts. map readable (filter is_word parts))
    (split_plain (codes "rx") (w ++ 32 ∷ digits) refl ∙ ap (λ ps. codes "rx" ∷ ps) (split_plain w digits pw ∙ ap (λ ps. w ∷ ps) (split_alone digits pd)))
    ∙ ap (λ b. codes "rx" ∷ map readable (cond b (w ∷ filter is_word (digits ∷ [])) (filter is_word (digits ∷ [])))) ww
    ∙ ap (λ b. codes "rx" ∷ (readable w ∷ map readable (cond b (digits ∷ []) []))) wd
    ∙ ap (λ v. codes "rx" ∷ v ∷ readable digits ∷ []) (readable_plain w pw)
    ∙ ap (λ v. codes "rx" ∷ w ∷ v ∷ []) (readable_plain digits pd)

-- digits of bytes are plain

digit_plain : (c x : ℕ) → nibble c ≡ Some x → is_plain c ≡ true
digit_plain c x h = grind arith

pub hex_plain : (digits bytes : List ℕ) → bytes_from_hex digits ≡ Some bytes → list_all is_plain digits ≡ true
hex_plain [] bytes h = refl
hex_plain (c ∷ []) bytes h = absurd (cc)
hex_plain (c ∷ d ∷ cs) bytes h = by (λ more. hex_plain cs more) (nibble c) (nibble d) (bytes_from_hex cs) refl refl refl h
  where
    by : ((more : List ℕ) → bytes_from_hex cs ≡ Some more → list_all is_plain cs ≡ true) → (high low : Option ℕ) (rest : Option (List ℕ)) → nibble c ≡ high → nibble d ≡ low
        → bytes_from_hex cs ≡ rest → in_front (byte_of high low) rest ≡ Some bytes
        → list_all is_plain (c ∷ d ∷ cs) ≡ true
    by others None low rest i j k e = absurd (cc)
    by others (Some x) None rest i j k e = absurd (cc)
    by others (Some x) (Some y) None i j k e = absurd (cc)
    by others (Some x) (Some y) (Some more) i j k e = and_from _ _ (digit_plain c x i) (and_from _ _ (digit_plain d y j) (others more k))

some_digits : (digits bytes : List ℕ) → bytes_from_hex digits ≡ Some bytes → is_word bytes ≡ true → is_word digits ≡ true
some_digits [] bytes h some = absurd (cc)
some_digits (c ∷ cs) bytes h some = refl

-- the operands

hexed : (digits bytes : List ℕ) → bytes_from_hex digits ≡ Some bytes → is_word bytes ≡ true → hex digits ≡ Ok bytes
unfolding hex
hexed digits [] e h = absurd (cc)
hexed digits (b ∷ bs) e h = ap bytes_of e

rx_says : (r : Roster) (w digits : Word) (port : ℕ) (bytes : List ℕ) → step r.place ≡ true → port_number r.ports w ≡ Ok port → hex digits ≡ Ok bytes
    → all_say r (codes "rx" ∷ w ∷ digits ∷ []) ≡ Ok (Does (Rx port bytes))
rx_says r w digits port bytes place number spelled =
    ap (λ b. if b then after (port_number r.ports w) (λ p. after (hex digits) (λ bs. Ok (Does (Rx p bs)))) else Err why.Place) place
    ∙ ap (λ o. after o (λ p. after (hex digits) (λ bs. Ok (Does (Rx p bs))))) number
    ∙ ap (λ o. after o (λ bs. Ok (Does (Rx port bs)))) spelled

not_empty : (bytes : List ℕ) → (length bytes ≡ 0 → ⊥) → is_word bytes ≡ true
not_empty [] h = absurd (h refl)
not_empty (b ∷ bs) h = refl

-- a number is a plain word

pub digits_plain : (w : Word) → list_all is_digit w ≡ true → list_all is_plain w ≡ true
digits_plain [] h = refl
digits_plain (c ∷ cs) h = and_from _ _ (plain c (first_so _ _ h)) (digits_plain cs (second_so _ _ h))
  where
    plain : (c : ℕ) → is_digit c ≡ true → is_plain c ≡ true
    plain c h = grind arith

pub is_some_word : (w : Word) → is_decimal w ≡ true → is_word w ≡ true
is_some_word [] h = absurd (cc)
is_some_word (c ∷ cs) h = refl

is_spelled : (w : Word) (n : ℕ) → decimal_from w ≡ Some n → is_decimal w ≡ true
is_spelled w n h = by (is_decimal w) h
  where
    by : (b : Bool) → (if b then Some (digits_value w) else None) ≡ Some n → b ≡ true
    by true e = refl
    by false e = absurd (cc)

known_number : (r : Roster) (w : Word) (number port : ℕ) → decimal_from w ≡ Some number → Some port ≡ (if nat_le number last_port && has_number r.ports number then Some number else None)
    → port_number r.ports w ≡ Ok port
unfolding port_number
known_number r w number port spells known =
    ap (λ o. unless why.Port (λ n. not (nat_le n last_port && has_number r.ports n)) (found why.Number o)) spells ∙ by (nat_le number last_port && has_number r.ports number) known
  where
    by : (b : Bool) → Some port ≡ (if b then Some number else None) → (if not b then Err why.Port else Ok number) ≡ Ok port
    by true e = sym (ap (λ o. Ok (unwrap_or o number)) e)
    by false e = absurd (cc)

pub entered : (r : Roster) (entry rest : List ℕ) (number port : ℕ) (bytes : List ℕ) → step r.place ≡ true → Numbered entry number rest
    → Some port ≡ (if nat_le number last_port && has_number r.ports number then Some number else None) → bytes_from_hex rest ≡ Some bytes → (length bytes ≡ 0 → ⊥)
    → all_say r (words (enters entry)) ≡ Ok (Does (Rx port bytes))
entered r entry rest number port bytes place s known spelled none =
    let some : is_word bytes ≡ true = not_empty bytes none in
    let number_is : is_decimal s.word ≡ true = is_spelled s.word number s.spells in
    let plain : list_all is_plain s.word ≡ true = digits_plain s.word (first_so _ _ (second_so _ _ number_is)) in
    ap (λ e. all_say r (words (enters e))) s.text_is
    ∙ ap (all_say r) (three_words s.word rest plain (is_some_word s.word number_is) (hex_plain rest bytes spelled) (some_digits rest bytes spelled some))
    ∙ rx_says r s.word rest port bytes place (known_number r s.word number port s.spells known) (hexed rest bytes spelled some)

-- words of one digit to three

front_two : (xs : List ℕ) → 2 ≤ length xs → xs ≡ get_or xs 0 0 ∷ get_or xs 1 0 ∷ take (length xs - 2) (drop 2 xs)
front_two [] h = absurd (omega arith)
front_two (x ∷ []) h = absurd (omega arith)
front_two (x ∷ y ∷ xs) h = ap (λ ys. x ∷ y ∷ ys) (sym (take_all (length (x ∷ y ∷ xs) - 2) xs (omega arith)))

front_three : (xs : List ℕ) → 3 ≤ length xs → xs ≡ get_or xs 0 0 ∷ get_or xs 1 0 ∷ get_or xs 2 0 ∷ take (length xs - 3) (drop 3 xs)
front_three [] h = absurd (omega arith)
front_three (x ∷ []) h = absurd (omega arith)
front_three (x ∷ y ∷ []) h = absurd (omega arith)
front_three (x ∷ y ∷ z ∷ xs) h = ap (λ ys. x ∷ y ∷ z ∷ ys) (sym (take_all (length (x ∷ y ∷ z ∷ xs) - 3) xs (omega arith)))

front_four : (xs : List ℕ) → 4 ≤ length xs → xs ≡ get_or xs 0 0 ∷ get_or xs 1 0 ∷ get_or xs 2 0 ∷ get_or xs 3 0 ∷ take (length xs - 4) (drop 4 xs)
front_four [] h = absurd (omega arith)
front_four (x ∷ []) h = absurd (omega arith)
front_four (x ∷ y ∷ []) h = absurd (omega arith)
front_four (x ∷ y ∷ z ∷ []) h = absurd (omega arith)
front_four (w ∷ x ∷ y ∷ z ∷ xs) h = ap (λ ys. w ∷ x ∷ y ∷ z ∷ ys) (sym (take_all (length (w ∷ x ∷ y ∷ z ∷ xs) - 4) xs (omega arith)))

pub one_digit : (text : List ℕ) (n : ℕ) → 2 ≤ length text → get_or text 1 0 ≡ 32 → decimal_from (get_or text 0 0 ∷ []) ≡ Some n → Numbered text n (take (length text - 2) (drop 2 text))
one_digit text n long space spells = record {
  word = get_or text 0 0 ∷ [];
  text_is = front_two text long ∙ ap (λ s. get_or text 0 0 ∷ s ∷ take (length text - 2) (drop 2 text)) space;
  spells = spells;
}

pub two_digits : (text : List ℕ) (n : ℕ) → 3 ≤ length text → get_or text 2 0 ≡ 32 → decimal_from (get_or text 0 0 ∷ get_or text 1 0 ∷ []) ≡ Some n
    → Numbered text n (take (length text - 3) (drop 3 text))
two_digits text n long space spells = record {
  word = get_or text 0 0 ∷ get_or text 1 0 ∷ [];
  text_is = front_three text long ∙ ap (λ s. get_or text 0 0 ∷ get_or text 1 0 ∷ s ∷ take (length text - 3) (drop 3 text)) space;
  spells = spells;
}

pub three_digits : (text : List ℕ) (n : ℕ) → 4 ≤ length text → get_or text 3 0 ≡ 32 → decimal_from (get_or text 0 0 ∷ get_or text 1 0 ∷ get_or text 2 0 ∷ []) ≡ Some n
    → Numbered text n (take (length text - 4) (drop 4 text))
three_digits text n long space spells = record {
  word = get_or text 0 0 ∷ get_or text 1 0 ∷ get_or text 2 0 ∷ [];
  text_is = front_four text long ∙ ap (λ s. get_or text 0 0 ∷ get_or text 1 0 ∷ get_or text 2 0 ∷ s ∷ take (length text - 4) (drop 4 text)) space;
  spells = spells;
}

front_five : (xs : List ℕ) → 5 ≤ length xs → xs ≡ get_or xs 0 0 ∷ get_or xs 1 0 ∷ get_or xs 2 0 ∷ get_or xs 3 0 ∷ get_or xs 4 0 ∷ take (length xs - 5) (drop 5 xs)
front_five [] h = absurd (omega arith)
front_five (x ∷ []) h = absurd (omega arith)
front_five (x ∷ y ∷ []) h = absurd (omega arith)
front_five (x ∷ y ∷ z ∷ []) h = absurd (omega arith)
front_five (w ∷ x ∷ y ∷ z ∷ []) h = absurd (omega arith)
front_five (v ∷ w ∷ x ∷ y ∷ z ∷ xs) h = ap (λ ys. v ∷ w ∷ x ∷ y ∷ z ∷ ys) (sym (take_all (length (v ∷ w ∷ x ∷ y ∷ z ∷ xs) - 5) xs (omega arith)))

pub four_digits : (text : List ℕ) (n : ℕ) → 5 ≤ length text → get_or text 4 0 ≡ 32 → decimal_from (get_or text 0 0 ∷ get_or text 1 0 ∷ get_or text 2 0 ∷ get_or text 3 0 ∷ []) ≡ Some n
    → Numbered text n (take (length text - 5) (drop 5 text))
four_digits text n long space spells = record {
  word = get_or text 0 0 ∷ get_or text 1 0 ∷ get_or text 2 0 ∷ get_or text 3 0 ∷ [];
  text_is = front_five text long ∙ ap (λ s. get_or text 0 0 ∷ get_or text 1 0 ∷ get_or text 2 0 ∷ get_or text 3 0 ∷ s ∷ take (length text - 5) (drop 5 text)) space;
  spells = spells;
}

-- a number stands in front of other words
pub number_first : (text rest : List ℕ) (n : ℕ) → (s : Numbered text n rest) → words text ≡ s.word ∷ words rest
number_first text rest n s =
    let is : is_decimal s.word ≡ true = is_spelled s.word n s.spells in
    let plain : list_all is_plain s.word ≡ true = digits_plain s.word (first_so _ _ (second_so _ _ is)) in
    ap words s.text_is
    ∙ ap (λ parts. map readable (filter is_word parts)) (split_plain s.word rest plain)
    ∙ ap (λ b. map readable (cond b (s.word ∷ filter is_word (slice_split is_space rest)) (filter is_word (slice_split is_space rest)))) (is_some_word s.word is)
    ∙ ap (λ w. w ∷ words rest) (readable_plain s.word plain)

-- lines that are one text

pub serve_says : (r : Roster) (line : List ℕ) → step r.place ≡ true → line ≡ codes "serve" → all_say r (words line) ≡ Ok (Does Serve)
serve_says r line place e = ap (λ l. all_say r (words l)) e ∙ ap (λ b. if b then Ok (Does Serve) else Err why.Place) place

pub publish_says : (r : Roster) (line : List ℕ) → step r.place ≡ true → line ≡ codes "publish" → all_say r (words line) ≡ Ok (Does Publish)
publish_says r line place e = ap (λ l. all_say r (words l)) e ∙ ap (λ b. if b then Ok (Does Publish) else Err why.Place) place

pub turn_says : (r : Roster) (line : List ℕ) → step r.place ≡ true → line ≡ codes "turn 1" → all_say r (words line) ≡ Ok (Does (Turn first_chip_domain))
unfolding number chip_domain
turn_says r line place e = ap (λ l. all_say r (words l)) e ∙ ap (λ b. if b then Ok (Does (Turn first_chip_domain)) else Err why.Place) place

pub report_says : (r : Roster) (line : List ℕ) → step r.place ≡ true → line ≡ codes "report 1" → all_say r (words line) ≡ Ok (Does (Report first_chip_domain))
unfolding number chip_domain
report_says r line place e = ap (λ l. all_say r (words l)) e ∙ ap (λ b. if b then Ok (Does (Report first_chip_domain)) else Err why.Place) place

pub rx_line : (line : List ℕ) → 3 ≤ length line → get_or line 0 0 ≡ 114 → get_or line 1 0 ≡ 120 → get_or line 2 0 ≡ 32 → line ≡ enters (take (length line - 3) (drop 3 line))
rx_line line long r x space =
    front_three line long ∙ ap (λ a. a ∷ get_or line 1 0 ∷ get_or line 2 0 ∷ take (length line - 3) (drop 3 line)) r
    ∙ ap (λ b. 114 ∷ b ∷ get_or line 2 0 ∷ take (length line - 3) (drop 3 line)) x
    ∙ ap (λ c. 114 ∷ 120 ∷ c ∷ take (length line - 3) (drop 3 line)) space
