-- The words of a line.
-- Source: this profile.
use Rattle.std.specs.Prelude.{ℕ, ◌==◌, Bool, true, false, if◌then◌else◌, List, [], ◌∷◌, ◌++◌, map}
use Rattle.std.specs.Char.{is_ascii}
use Rattle.std.specs.List.{filter, list_all, slice_split}

abbrev pub Word : Type 0
Word = List ℕ

abbrev pub is_word : Word → Bool
is_word [] = false
is_word (c ∷ cs) = true

-- U+FFFD
abbrev pub replacement : Word
replacement = 0xEF ∷ 0xBF ∷ 0xBD ∷ []

-- No form has a byte above 0x7F, and no operand can have one: a word with such bytes, UTF-8 or not, counts as this character.
abbrev pub readable : Word → Word
readable word = if list_all is_ascii word then word else replacement

-- what stands between the spaces
abbrev pub words : List ℕ → List Word
words line = map readable (filter is_word (slice_split (λ c. c == 32) line))

-- words with a space between each two
abbrev pub joined : List Word → List ℕ
joined [] = []
joined (w ∷ []) = w
joined (w ∷ v ∷ ws) = w ++ 32 ∷ joined (v ∷ ws)

-- the line's first byte is `#`
abbrev pub is_comment : List ℕ → Bool
is_comment [] = false
is_comment (c ∷ cs) = c == 35
