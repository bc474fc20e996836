-- The flags of a port, by their names.
-- Source: iproute2's `bridge link` (learning, flood, mcast_flood, bcast_flood, isolated, fastleave).
use Rattle.std.specs.Prelude.{ℕ, ◌==◌, if◌then◌else◌, List, [], ◌∷◌, codes}
use Rattle.std.specs.declared.option.Option.{Option}
use Rattle.std.specs.declared.option.Option.TheVariants.{None, Some}
use Rattle.std.specs.Str.{bytes_eq}
use Rattle.br_model.specs.Text.Words.{Word}

-- each with its bit
abbrev pub flags : List (Word × ℕ)
flags =
    (codes "learning", 1) ∷
    (codes "flood", 2) ∷
    (codes "mcast_flood", 4) ∷
    (codes "bcast_flood", 8) ∷
    (codes "isolated", 16) ∷
    (codes "fastleave", 32) ∷
    []

-- the bit of the flag
abbrev pub flag_named : List (Word × ℕ) → Word → Option ℕ
flag_named [] word = None
flag_named (f ∷ fs) word = if bytes_eq word f.0 then Some f.1 else flag_named fs word

-- the name of the flag with this bit
abbrev pub name_of_flag : List (Word × ℕ) → ℕ → Word
name_of_flag [] flag = []
name_of_flag (f ∷ fs) flag = if f.1 == flag then f.0 else name_of_flag fs flag
