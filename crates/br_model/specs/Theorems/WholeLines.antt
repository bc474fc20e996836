-- Lines without line feeds, and the text that they make.
-- Source: this profile.
use Rattle.std.specs.Prelude.{ℕ, ◌==◌, Bool, not, if◌then◌else◌, List, [], ◌∷◌, ◌++◌}
use Rattle.std.specs.List.{list_all, flat_map}

abbrev pub is_no_feed : ℕ → Bool
is_no_feed b = not (b == 10)

-- no line feed
abbrev pub is_line : List ℕ → Bool
is_line line = list_all is_no_feed line

-- each line with its line feed
abbrev pub lines_text : List (List ℕ) → List ℕ
lines_text lines = flat_map (λ line. line ++ 10 ∷ []) lines

-- the text, with a line feed where its last line lacks it
abbrev pub with_feed : List ℕ → List ℕ
with_feed [] = []
with_feed (b ∷ []) = if b == 10 then b ∷ [] else b ∷ 10 ∷ []
with_feed (b ∷ c ∷ text) = b ∷ with_feed (c ∷ text)
