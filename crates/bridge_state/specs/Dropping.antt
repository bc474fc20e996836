-- In which VLANs something goes.
use Rattle.std.specs.Prelude.{ℕ, ◌==◌, Bool, true}
use Rattle.std.specs.declared.option.Option.{Option}
use Rattle.std.specs.declared.option.Option.TheVariants.{None, Some}

-- whether the VLAN is the one that is meant; none stands for all
abbrev pub is_meant : Option ℕ → ℕ → Bool
is_meant None vid = true
is_meant (Some only) vid = vid == only
