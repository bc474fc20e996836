-- IP addresses are read back from their text.
use Rattle.std.proofs.Common.{◌≡◌, ℕ, ◌+◌, ◌*◌, ◌/◌, ◌%◌, ◌^◌, ◌<◌, ◌==◌, nat_le, Bool, true, not, cond, if◌then◌else◌, List, [], ◌∷◌, ◌++◌, refl, ◌∙◌, ap, arith, Option, None, Some}
use Rattle.std.specs.Cmp.{first_so, second_so}
use Rattle.std.specs.Fmt.{decimal}
use Rattle.std.specs.List.{fold, list_all, onto_first, slice_split}
use Rattle.std.specs.Option.{option_map}
use Rattle.std.specs.declared.result.Result.TheVariants.{Ok}
use Rattle.std.proofs.lemmas.Bool.{not-true, lt-ltb, ltb-true, and_from}
use Rattle.std.proofs.lemmas.List.Folds.{list_all-append}
use Rattle.lemmas.proofs.Numbers.{eqb-itself}
use Rattle.br_model.specs.declared.group.Ip.{Ip}
use Rattle.br_model.specs.declared.group.Ip.TheVariants.{V4, V6}
use Rattle.br_model.specs.declared.scenario.LineWhy.TheVariants.{Address}
use Rattle.br_model.specs.Data.Digits.{is_digit, hex_digit, in_front, up_to}
use Rattle.br_model.specs.Text.IpWords.{octet, four_digits, each, in_parts, address_four, address_six, four_or_six}
use Rattle.br_model.specs.Data.Numbers.{number}
use Rattle.br_model.specs.Text.Operands.{group, found}
use Rattle.br_model.specs.Text.Spelling.{byte_at, dotted, digits_at, groups_of_four, ip_text}
use Rattle.br_model.specs.Text.Words.{Word, is_word}
use Rattle.br_model.specs.Text.Operands.{is_ip}
use Rattle.br_model.proofs.Text.WrittenAddresses.{byte_below, step, top}
use Rattle.br_model.proofs.Text.WrittenNumbers.{decimal_digits, decimal_letters, decimal_proper, decimal_read, hex_digit_letter, hex_read}
use Rattle.br_model.proofs.Text.WrittenWords.{is_letter, letters, is_proper}

-- words between separators

abbrev Splits : ℕ → List ℕ → List Word
Splits s word = slice_split (λ c. c == s) word

-- no byte of the word is the separator
abbrev lacks : ℕ → Word → Bool
lacks s w = list_all (λ c. not (c == s)) w

part_first : (s : ℕ) (w rest : List ℕ) → lacks s w ≡ true → Splits s (w ++ s ∷ rest) ≡ w ∷ Splits s rest
part_first s [] rest h = ap (λ (b : Bool). cond b ([] ∷ Splits s rest) (onto_first s (Splits s rest))) (eqb-itself s)
part_first s (c ∷ w) rest h =
    ap (λ (b : Bool). cond b ([] ∷ Splits s (w ++ s ∷ rest)) (onto_first c (Splits s (w ++ s ∷ rest)))) (not-true _ (first_so _ _ h))
    ∙ ap (onto_first c) (part_first s w rest (second_so _ _ h))

part_last : (s : ℕ) (w : List ℕ) → lacks s w ≡ true → Splits s w ≡ w ∷ []
part_last s [] h = refl
part_last s (c ∷ w) h =
    ap (λ (b : Bool). cond b ([] ∷ Splits s w) (onto_first c (Splits s w))) (not-true _ (first_so _ _ h))
    ∙ ap (onto_first c) (part_last s w (second_so _ _ h))

weaker : (P Q : ℕ → Bool) → ((c : ℕ) → P c ≡ true → Q c ≡ true) → (w : List ℕ) → list_all P w ≡ true → list_all Q w ≡ true
weaker P Q to [] h = refl
weaker P Q to (c ∷ w) h = and_from _ _ (to c (first_so _ _ h)) (weaker P Q to w (second_so _ _ h))

-- version 4

small : (b : ℕ) → b < 256 → b < 2 ^ 64
small b h = omega arith

no_dot : (b : ℕ) → b < 256 → lacks 46 (decimal b) ≡ true
no_dot b h = weaker is_digit (λ c. not (c == 46)) digit (decimal b) (decimal_digits b (small b h))
  where
    digit : (c : ℕ) → is_digit c ≡ true → not (c == 46) ≡ true
    digit c h = grind arith

octet_read : (b : ℕ) → b < 256 → octet (decimal b) ≡ Some b
octet_read b h =
    ap (up_to 255) (decimal_read b (small b h)) ∙ ap (λ (x : Bool). if x then Some b else None) (within b h)
  where
    within : (b : ℕ) → b < 256 → nat_le b 255 ≡ true
    within b h = grind arith

four_parts : (a b c d : ℕ) → a < 256 → b < 256 → c < 256 → d < 256
    → Splits 46 (decimal a ++ (46 ∷ decimal b ++ (46 ∷ decimal c ++ (46 ∷ decimal d)))) ≡ decimal a ∷ decimal b ∷ decimal c ∷ decimal d ∷ []
four_parts a b c d h i j k =
    part_first 46 (decimal a) (decimal b ++ (46 ∷ decimal c ++ (46 ∷ decimal d))) (no_dot a h)
    ∙ ap (λ (ws : List Word). decimal a ∷ ws) (part_first 46 (decimal b) (decimal c ++ (46 ∷ decimal d)) (no_dot b i))
    ∙ ap (λ (ws : List Word). decimal a ∷ decimal b ∷ ws) (part_first 46 (decimal c) (decimal d) (no_dot c j))
    ∙ ap (λ (ws : List Word). decimal a ∷ decimal b ∷ decimal c ∷ ws) (part_last 46 (decimal d) (no_dot d k))

octets_read : (a b c d : ℕ) → a < 256 → b < 256 → c < 256 → d < 256
    → each octet (decimal a ∷ decimal b ∷ decimal c ∷ decimal d ∷ []) ≡ Some (a ∷ b ∷ c ∷ d ∷ [])
octets_read a b c d h i j k =
    ap (λ (x : Option ℕ). in_front x (in_front (octet (decimal b)) (in_front (octet (decimal c)) (in_front (octet (decimal d)) (Some []))))) (octet_read a h)
    ∙ ap (λ (x : Option ℕ). in_front (Some a) (in_front x (in_front (octet (decimal c)) (in_front (octet (decimal d)) (Some []))))) (octet_read b i)
    ∙ ap (λ (x : Option ℕ). in_front (Some a) (in_front (Some b) (in_front x (in_front (octet (decimal d)) (Some []))))) (octet_read c j)
    ∙ ap (λ (x : Option ℕ). in_front (Some a) (in_front (Some b) (in_front (Some c) (in_front x (Some []))))) (octet_read d k)

four_spelled : (n : ℕ) → n < 2 ^ 32
    → 256 * (256 * (256 * (256 * 0 + byte_at n 24) + byte_at n 16) + byte_at n 8) + byte_at n 0 ≡ n
four_spelled n h =
    let one : n / 1 ≡ n = omega arith in
    ap (λ (m : ℕ). 256 * (256 * (256 * m + byte_at n 16) + byte_at n 8) + byte_at n 0) (top n (2 ^ 24) (omega arith) h)
    ∙ ap (λ (m : ℕ). 256 * (256 * m + byte_at n 8) + byte_at n 0) (step n (2 ^ 16) (2 ^ 24) refl)
    ∙ ap (λ (m : ℕ). 256 * m + byte_at n 0) (step n (2 ^ 8) (2 ^ 16) refl)
    ∙ step n (2 ^ 0) (2 ^ 8) refl
    ∙ one

dotted_read : (n : ℕ) → n < 2 ^ 32 → address_four (dotted n) ≡ Some n
dotted_read n h =
    ap (in_parts 4 (2 ^ 8) octet) (four_parts (byte_at n 24) (byte_at n 16) (byte_at n 8) (byte_at n 0) (byte_below n 24) (byte_below n 16) (byte_below n 8) (byte_below n 0))
    ∙ ap (option_map (fold (λ m digit. 2 ^ 8 * m + digit) 0))
    (octets_read (byte_at n 24) (byte_at n 16) (byte_at n 8) (byte_at n 0) (byte_below n 24) (byte_below n 16) (byte_below n 8) (byte_below n 0))
    ∙ ap Some (four_spelled n h)

four_read : (n : ℕ) → n < 2 ^ 32 → group (dotted n) ≡ Ok (V4 n)
unfolding group
four_read n h = ap (λ (x : Option ℕ). found Address (four_or_six x (address_six (dotted n)))) (dotted_read n h)

decimal_more : (b : ℕ) (rest : Word) → b < 256 → letters rest ≡ true → letters (decimal b ++ rest) ≡ true
decimal_more b rest h l = list_all-append is_letter (decimal b) rest ∙ and_from _ _ (decimal_letters b (small b h)) l

dotted_letters : (n : ℕ) → letters (dotted n) ≡ true
dotted_letters n =
    decimal_more (byte_at n 24) _ (byte_below n 24) (
    decimal_more (byte_at n 16) _ (byte_below n 16) (
    decimal_more (byte_at n 8) _ (byte_below n 8) (
    decimal_letters (byte_at n 0) (small (byte_at n 0) (byte_below n 0)))))

word_more : (w rest : Word) → is_word w ≡ true → is_word (w ++ rest) ≡ true
word_more [] rest h = absurd (cc)
word_more (c ∷ w) rest h = refl

dotted_word : (n : ℕ) → is_word (dotted n) ≡ true
dotted_word n = word_more (decimal (byte_at n 24)) _ (first_so _ _ (decimal_proper (byte_at n 24) (small (byte_at n 24) (byte_below n 24))))

-- version 6

-- what holds of each digit holds of two bytes' four
digits_all : (P : ℕ → Bool) → ((d : ℕ) → d < 16 → P (hex_digit d) ≡ true) → (n bits : ℕ) (rest : Word) → list_all P rest ≡ true
    → list_all P (digits_at n bits ++ rest) ≡ true
digits_all P each n bits rest h =
    and_from _ _ (each (byte_at n (bits + 8) / 16) (high (byte_at n (bits + 8)) (byte_below n (bits + 8)))) (
    and_from _ _ (each (byte_at n (bits + 8) % 16) (low (byte_at n (bits + 8)))) (
    and_from _ _ (each (byte_at n bits / 16) (high (byte_at n bits) (byte_below n bits))) (
    and_from _ _ (each (byte_at n bits % 16) (low (byte_at n bits))) h)))
  where
    high : (b : ℕ) → b < 256 → b / 16 < 16
    high b h = omega arith

    low : (b : ℕ) → b % 16 < 16
    low b = omega arith

-- the last groups of an address
abbrev last_two : ℕ → Word
last_two n = digits_at n 16 ++ (58 ∷ digits_at n 0)

abbrev last_three : ℕ → Word
last_three n = digits_at n 32 ++ (58 ∷ last_two n)

abbrev last_four : ℕ → Word
last_four n = digits_at n 48 ++ (58 ∷ last_three n)

abbrev last_five : ℕ → Word
last_five n = digits_at n 64 ++ (58 ∷ last_four n)

abbrev last_six : ℕ → Word
last_six n = digits_at n 80 ++ (58 ∷ last_five n)

abbrev last_seven : ℕ → Word
last_seven n = digits_at n 96 ++ (58 ∷ last_six n)

-- and, where it holds of a colon, of the whole address
groups_all : (P : ℕ → Bool) → ((d : ℕ) → d < 16 → P (hex_digit d) ≡ true) → P 58 ≡ true → (n : ℕ) → list_all P (groups_of_four n) ≡ true
groups_all P each colon n =
    digits_all P each n 112 (58 ∷ last_seven n) (and_from _ _ colon (
    digits_all P each n 96 (58 ∷ last_six n) (and_from _ _ colon (
    digits_all P each n 80 (58 ∷ last_five n) (and_from _ _ colon (
    digits_all P each n 64 (58 ∷ last_four n) (and_from _ _ colon (
    digits_all P each n 48 (58 ∷ last_three n) (and_from _ _ colon (
    digits_all P each n 32 (58 ∷ last_two n) (and_from _ _ colon (
    digits_all P each n 16 (58 ∷ digits_at n 0) (and_from _ _ colon (
    digits_all P each n 0 [] refl))))))))))))))

no_colon : (n bits : ℕ) → lacks 58 (digits_at n bits) ≡ true
no_colon n bits = digits_all (λ c. not (c == 58)) digit n bits [] refl
  where
    digit : (d : ℕ) → d < 16 → not (hex_digit d == 58) ≡ true
    digit d h = grind arith

no_dots : (n : ℕ) → lacks 46 (groups_of_four n) ≡ true
no_dots n = groups_all (λ c. not (c == 46)) digit refl n
  where
    digit : (d : ℕ) → d < 16 → not (hex_digit d == 46) ≡ true
    digit d h = grind arith

not_four : (n : ℕ) → address_four (groups_of_four n) ≡ None
not_four n = ap (in_parts 4 (2 ^ 8) octet) (part_last 46 (groups_of_four n) (no_dots n))

eight_parts : (n : ℕ) → Splits 58 (groups_of_four n)
    ≡ digits_at n 112 ∷ digits_at n 96 ∷ digits_at n 80 ∷ digits_at n 64 ∷ digits_at n 48 ∷ digits_at n 32 ∷ digits_at n 16 ∷ digits_at n 0 ∷ []
eight_parts n =
    part_first 58 (digits_at n 112) (last_seven n) (no_colon n 112)
    ∙ ap (λ (ws : List Word). digits_at n 112 ∷ ws) (part_first 58 (digits_at n 96) (last_six n) (no_colon n 96))
    ∙ ap (λ (ws : List Word). digits_at n 112 ∷ digits_at n 96 ∷ ws) (part_first 58 (digits_at n 80) (last_five n) (no_colon n 80))
    ∙ ap (λ (ws : List Word). digits_at n 112 ∷ digits_at n 96 ∷ digits_at n 80 ∷ ws) (part_first 58 (digits_at n 64) (last_four n) (no_colon n 64))
    ∙ ap (λ (ws : List Word). digits_at n 112 ∷ digits_at n 96 ∷ digits_at n 80 ∷ digits_at n 64 ∷ ws) (part_first 58 (digits_at n 48) (last_three n) (no_colon n 48))
    ∙ ap (λ (ws : List Word). digits_at n 112 ∷ digits_at n 96 ∷ digits_at n 80 ∷ digits_at n 64 ∷ digits_at n 48 ∷ ws) (part_first 58 (digits_at n 32) (last_two n) (no_colon n 32))
    ∙ ap (λ (ws : List Word). digits_at n 112 ∷ digits_at n 96 ∷ digits_at n 80 ∷ digits_at n 64 ∷ digits_at n 48 ∷ digits_at n 32 ∷ ws)
    (part_first 58 (digits_at n 16) (digits_at n 0) (no_colon n 16))
    ∙ ap (λ (ws : List Word). digits_at n 112 ∷ digits_at n 96 ∷ digits_at n 80 ∷ digits_at n 64 ∷ digits_at n 48 ∷ digits_at n 32 ∷ digits_at n 16 ∷ ws) (part_last 58 (digits_at n 0) (no_colon n 0))

-- the number of the two bytes that stand so many bits above the lowest
abbrev two_bytes : ℕ → ℕ → ℕ
two_bytes n bits = number (byte_at n (bits + 8) ∷ byte_at n bits ∷ [])

digits_read : (n bits : ℕ) → four_digits (digits_at n bits) ≡ Some (two_bytes n bits)
digits_read n bits =
    ap (option_map number) (hex_read (byte_at n (bits + 8) ∷ byte_at n bits ∷ []) (and_from _ _ (lt-ltb _ 256 (byte_below n (bits + 8))) (and_from _ _ (lt-ltb _ 256 (byte_below n bits)) refl)))

abbrev more : ℕ → ℕ → Option (List ℕ) → Option (List ℕ)
more n bits o = in_front (four_digits (digits_at n bits)) o

read_more : (n bits : ℕ) (o : Option (List ℕ)) (ms : List ℕ) → o ≡ Some ms → more n bits o ≡ Some (two_bytes n bits ∷ ms)
read_more n bits o ms h = ap (more n bits) h ∙ ap (λ (x : Option ℕ). in_front x (Some ms)) (digits_read n bits)

eight_read : (n : ℕ)
    → each four_digits (digits_at n 112 ∷ digits_at n 96 ∷ digits_at n 80 ∷ digits_at n 64 ∷ digits_at n 48 ∷ digits_at n 32 ∷ digits_at n 16 ∷ digits_at n 0 ∷ [])
    ≡ Some (two_bytes n 112 ∷ two_bytes n 96 ∷ two_bytes n 80 ∷ two_bytes n 64 ∷ two_bytes n 48 ∷ two_bytes n 32 ∷ two_bytes n 16 ∷ two_bytes n 0 ∷ [])
eight_read n =
    read_more n 112 _ _ (read_more n 96 _ _ (read_more n 80 _ _ (read_more n 64 _ _ (read_more n 48 _ _ (read_more n 32 _ _ (read_more n 16 _ _ (read_more n 0 _ _ refl)))))))

-- the digits from one place on, and two bytes more
two_more : (n p q r : ℕ) → p * 256 ≡ q → q * 256 ≡ r → 2 ^ 16 * (n / r) + (256 * (256 * 0 + n / q % 256) + n / p % 256) ≡ n / p
two_more n p q r h i =
    apart (n / r) (n / q % 256) (n / p % 256) ∙ ap (λ (m : ℕ). 256 * m + n / p % 256) (step n q r i) ∙ step n p q h
  where
    apart : (m a b : ℕ) → 2 ^ 16 * m + (256 * (256 * 0 + a) + b) ≡ 256 * (256 * m + a) + b
    apart m a b = omega arith

highest : (n : ℕ) → n < 2 ^ 128 → 2 ^ 16 * 0 + two_bytes n 112 ≡ n / 2 ^ 112
highest n h =
    ap (λ (m : ℕ). 2 ^ 16 * 0 + (256 * m + byte_at n 112)) (top n (2 ^ 120) (omega arith) h)
    ∙ ap (λ (m : ℕ). 2 ^ 16 * 0 + m) (step n (2 ^ 112) (2 ^ 120) refl)
    ∙ none (n / 2 ^ 112)
  where
    none : (m : ℕ) → 2 ^ 16 * 0 + m ≡ m
    none m = omega arith

abbrev spells : ℕ → ℕ → ℕ
spells m digit = 2 ^ 16 * m + digit

eight_spelled : (n : ℕ) → n < 2 ^ 128
    → fold spells 0 (two_bytes n 112 ∷ two_bytes n 96 ∷ two_bytes n 80 ∷ two_bytes n 64 ∷ two_bytes n 48 ∷ two_bytes n 32 ∷ two_bytes n 16 ∷ two_bytes n 0 ∷ []) ≡ n
eight_spelled n h =
    let one : n / 1 ≡ n = omega arith in
    ap (λ (m : ℕ). fold spells m (two_bytes n 96 ∷ two_bytes n 80 ∷ two_bytes n 64 ∷ two_bytes n 48 ∷ two_bytes n 32 ∷ two_bytes n 16 ∷ two_bytes n 0 ∷ [])) (highest n h)
    ∙ ap (λ (m : ℕ). fold spells m (two_bytes n 80 ∷ two_bytes n 64 ∷ two_bytes n 48 ∷ two_bytes n 32 ∷ two_bytes n 16 ∷ two_bytes n 0 ∷ [])) (two_more n (2 ^ 96) (2 ^ 104) (2 ^ 112) refl refl)
    ∙ ap (λ (m : ℕ). fold spells m (two_bytes n 64 ∷ two_bytes n 48 ∷ two_bytes n 32 ∷ two_bytes n 16 ∷ two_bytes n 0 ∷ [])) (two_more n (2 ^ 80) (2 ^ 88) (2 ^ 96) refl refl)
    ∙ ap (λ (m : ℕ). fold spells m (two_bytes n 48 ∷ two_bytes n 32 ∷ two_bytes n 16 ∷ two_bytes n 0 ∷ [])) (two_more n (2 ^ 64) (2 ^ 72) (2 ^ 80) refl refl)
    ∙ ap (λ (m : ℕ). fold spells m (two_bytes n 32 ∷ two_bytes n 16 ∷ two_bytes n 0 ∷ [])) (two_more n (2 ^ 48) (2 ^ 56) (2 ^ 64) refl refl)
    ∙ ap (λ (m : ℕ). fold spells m (two_bytes n 16 ∷ two_bytes n 0 ∷ [])) (two_more n (2 ^ 32) (2 ^ 40) (2 ^ 48) refl refl)
    ∙ ap (λ (m : ℕ). fold spells m (two_bytes n 0 ∷ [])) (two_more n (2 ^ 16) (2 ^ 24) (2 ^ 32) refl refl)
    ∙ two_more n (2 ^ 0) (2 ^ 8) (2 ^ 16) refl refl
    ∙ one

groups_read : (n : ℕ) → n < 2 ^ 128 → address_six (groups_of_four n) ≡ Some n
groups_read n h =
    ap (in_parts 8 (2 ^ 16) four_digits) (eight_parts n) ∙ ap (option_map (fold spells 0)) (eight_read n) ∙ ap Some (eight_spelled n h)

six_read : (n : ℕ) → n < 2 ^ 128 → group (groups_of_four n) ≡ Ok (V6 n)
unfolding group
six_read n h =
    ap (λ (x : Option ℕ). found Address (four_or_six x (address_six (groups_of_four n)))) (not_four n)
    ∙ ap (λ (x : Option ℕ). found Address (four_or_six None x)) (groups_read n h)

-- either

pub ip_read : (address : Ip) → is_ip address ≡ true → group (ip_text address) ≡ Ok address
ip_read (V4 n) h = four_read n (ltb-true n (2 ^ 32) h)
ip_read (V6 n) h = six_read n (ltb-true n (2 ^ 128) h)

pub ip_proper : (address : Ip) → is_proper (ip_text address) ≡ true
ip_proper (V4 n) = and_from _ _ (dotted_word n) (dotted_letters n)
ip_proper (V6 n) = groups_all is_letter hex_digit_letter refl n
