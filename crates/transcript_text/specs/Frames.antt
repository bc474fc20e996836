-- The end of a line that tells a frame.
use Rattle.std.specs.Prelude.{ℕ, List, [], ◌∷◌, ◌++◌}
use Rattle.br_model.specs.Data.Digits.{hex_of}

-- the digits and the line feed
abbrev pub frame_end : List ℕ → List ℕ
frame_end bytes = hex_of bytes ++ 10 ∷ []
