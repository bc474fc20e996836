-- Digits: decimal numbers, hexadecimal bytes and addresses as words spell them.
-- Source: this profile; addresses are spelled as iproute2 spells them, with colons.
use Rattle.std.specs.Prelude.{ℕ, ◌+◌, ◌-◌, ◌*◌, ◌/◌, ◌%◌, ◌==◌, nat_lt, nat_le, Bool, false, not, ◌&&◌, ◌||◌, if◌then◌else◌, List, [], ◌∷◌, length}
use Rattle.std.specs.List.{flat_map, fold, list_all}
use Rattle.std.specs.declared.option.Option.{Option}
use Rattle.std.specs.declared.option.Option.TheVariants.{None, Some}
use Rattle.br_model.specs.Data.Numbers.{number, is_multicast}

-- decimal numbers

abbrev pub is_digit : ℕ → Bool
is_digit c = nat_le 48 c && nat_le c 57

abbrev pub digits_value : List ℕ → ℕ
digits_value word = fold (λ n c. 10 * n + (c - 48)) 0 word

abbrev pub begins_with_zero : List ℕ → Bool
begins_with_zero [] = false
begins_with_zero (c ∷ cs) = c == 48

-- digits alone; the first of several isn't 0
abbrev pub is_decimal : List ℕ → Bool
is_decimal word = nat_lt 0 (length word) && (list_all is_digit word && (length word == 1 || not (begins_with_zero word)))

-- the number that the word spells
abbrev pub decimal_from : List ℕ → Option ℕ
decimal_from word = if is_decimal word then Some (digits_value word) else None

abbrev pub up_to : ℕ → Option ℕ → Option ℕ
up_to most None = None
up_to most (Some n) = if nat_le n most then Some n else None

-- the number up to this one that the word spells
abbrev pub number_up_to : ℕ → List ℕ → Option ℕ
number_up_to most word = up_to most (decimal_from word)

-- hexadecimal bytes

abbrev pub hex_digit : ℕ → ℕ
hex_digit n = if nat_lt n 10 then 48 + n else 87 + n

-- two digits in lower case for each byte
abbrev pub hex_of : List ℕ → List ℕ
hex_of bytes = flat_map (λ b. hex_digit (b / 16) ∷ hex_digit (b % 16) ∷ []) bytes

-- what a digit of either case stands for
abbrev pub nibble : ℕ → Option ℕ
nibble c =
    if nat_le 48 c && nat_le c 57 then Some (c - 48) else
    if nat_le 65 c && nat_le c 70 then Some (c - 55) else
    if nat_le 97 c && nat_le c 102 then Some (c - 87) else
    None

abbrev pub byte_of : Option ℕ → Option ℕ → Option ℕ
byte_of None low = None
byte_of (Some high) None = None
byte_of (Some high) (Some low) = Some (16 * high + low)

abbrev pub in_front : Option ℕ → Option (List ℕ) → Option (List ℕ)
in_front None bytes = None
in_front (Some b) None = None
in_front (Some b) (Some bytes) = Some (b ∷ bytes)

-- the bytes that an even number of digits spell
abbrev pub bytes_from_hex : List ℕ → Option (List ℕ)
bytes_from_hex [] = Some []
bytes_from_hex (c ∷ []) = None
bytes_from_hex (c ∷ d ∷ cs) = in_front (byte_of (nibble c) (nibble d)) (bytes_from_hex cs)

-- addresses

-- an address of one station: no group, and not all zeros
abbrev pub station : List ℕ → Option ℕ
station bytes = let address = number bytes in if is_multicast address || address == 0 then None else Some address
