-- IP addresses, as words spell them: dotted decimal, and eight groups of four hexadecimal digits joined by colons, none left out.
-- Source: RFC 4632 section 3.1 (dotted decimal) and RFC 4291 section 2.2, form 1; that no form is shortened is this profile's.
use Rattle.std.specs.Prelude.{ℕ, ◌+◌, ◌*◌, ◌^◌, ◌==◌, if◌then◌else◌, List, [], ◌∷◌, length}
use Rattle.std.specs.List.{fold, slice_split}
use Rattle.std.specs.declared.option.Option.{Option}
use Rattle.std.specs.declared.option.Option.TheVariants.{None, Some}
use Rattle.std.specs.Option.{option_map}
use Rattle.br_model.specs.declared.group.Ip.{Ip}
use Rattle.br_model.specs.declared.group.Ip.TheVariants.{V4, V6}
use Rattle.br_model.specs.Data.Digits.{number_up_to, bytes_from_hex, in_front}
use Rattle.br_model.specs.Data.Numbers.{number}
use Rattle.br_model.specs.Text.Words.{Word}

-- a decimal number up to 255
abbrev pub octet : Word → Option ℕ
octet word = number_up_to 255 word

-- four hexadecimal digits
abbrev pub four_digits : Word → Option ℕ
four_digits word = if length word == 4 then option_map number (bytes_from_hex word) else None

-- the numbers that words spell, where each spells one
abbrev pub each : (Word → Option ℕ) → List Word → Option (List ℕ)
each part [] = Some []
each part (w ∷ ws) = in_front (part w) (each part ws)

-- the number that so many parts spell together, each a digit of this base, the first one highest
abbrev pub in_parts : ℕ → ℕ → (Word → Option ℕ) → List Word → Option ℕ
in_parts count base part words = if length words == count then option_map (fold (λ n digit. base * n + digit) 0) (each part words) else None

abbrev pub address_four : Word → Option ℕ
address_four word = in_parts 4 (2 ^ 8) octet (slice_split (λ c. c == 46) word)

abbrev pub address_six : Word → Option ℕ
address_six word = in_parts 8 (2 ^ 16) four_digits (slice_split (λ c. c == 58) word)

-- of version 4, else of version 6
abbrev pub four_or_six : Option ℕ → Option ℕ → Option Ip
four_or_six (Some n) six = Some (V4 n)
four_or_six None six = option_map (λ n. V6 n) six

-- the address that the word spells
abbrev pub address : Word → Option Ip
address word = four_or_six (address_four word) (address_six word)
