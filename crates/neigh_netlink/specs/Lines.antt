-- The words of a line, one after another, and what a line leaves of a table.
use Rattle.std.specs.Prelude.{ℕ, ◌+◌, ◌==◌, Bool, true, false, not, if◌then◌else◌, List, [], ◌∷◌}
use Rattle.std.specs.declared.option.Option.{Option}
use Rattle.std.specs.declared.option.Option.TheVariants.{None, Some}
use Rattle.std.specs.declared.result.Result.{Result}
use Rattle.std.specs.declared.result.Result.TheVariants.{Ok, Err}
use Rattle.br_model.specs.Text.Words.{Word}
use Rattle.neigh_netlink.specs.declared.follow.LineFault.{LineFault}
use Rattle.neigh_netlink.specs.Follow.{Following, Going, Ended, Bad, words}
use Rattle.neigh_netlink.specs.Neighbours.{Neighbours}

abbrev pub is_no_space : ℕ → Bool
is_no_space c = not (c == 32)

abbrev pub begins_with_space : List ℕ → Bool
begins_with_space [] = false
begins_with_space (c ∷ cs) = c == 32

-- whether a word ends where this is behind it
abbrev pub is_cut : List ℕ → Bool
is_cut [] = true
is_cut (c ∷ cs) = c == 32

-- the first word, and those of what is behind it
abbrev pub with_first : Option (List ℕ × List ℕ) → List Word
with_first None = []
with_first (Some p) = p.0 ∷ words p.1

-- behind so many lines and one more, which is the last one or not, or bad
abbrev pub after_line : ℕ → Result Bool LineFault → Neighbours → Following
after_line n (Ok last) t = record { lines = n + 1; table = t; ending = if last then Ended else Going }
after_line n (Err why) t = record { lines = n; table = t; ending = Bad (n + 1) why }
