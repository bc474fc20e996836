-- What goes to a sink, which had taken `before` and has taken `after`.
use Rattle.std.specs.Prelude.{◌≡◌, ℕ, ◌<◌, List, ◌++◌, length, take}
use Rattle.std.specs.declared.option.Option.{Option}
use Rattle.std.specs.Io.KnownBytes.{Appends}

-- the first bytes of what was held went to the sink, and the others are held
pub record Moves (before after : Option (List ℕ)) (old new : List ℕ) : Type 0 where
  pub moved : List ℕ
  pub wrote : Appends before after moved
  pub held : old ≡ moved ++ new

-- a front of it went to the sink, and not all of it
abbrev pub Breaks : Option (List ℕ) → Option (List ℕ) → List ℕ → Type 0
Breaks before after text = (n : ℕ) × (n < length text) × Appends before after (take n text)

-- something may have gone to the sink
abbrev pub Grows : Option (List ℕ) → Option (List ℕ) → Type 0
Grows before after = (more : List ℕ) × Appends before after more

-- what was written since then, and what is held
pub record Written (before after : Option (List ℕ)) (text all : List ℕ) : Type 0 where
  pub gone : List ℕ
  pub wrote : Appends before after gone
  pub together : all ≡ gone ++ text
