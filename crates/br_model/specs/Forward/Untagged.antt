-- The ports by which a frame leaves without a tag.
-- Source: IEEE 802.1Q-2018 section 8.8.2 (the untagged set of a VLAN).
use Rattle.std.specs.Prelude.{ℕ, List, []}
use Rattle.std.specs.List.{filter}
use Rattle.std.specs.declared.option.Option.{Option}
use Rattle.std.specs.declared.option.Option.TheVariants.{None, Some}
use Rattle.br_model.specs.Forward.Eligible.{untagged}
use Rattle.br_model.specs.Table.Table.{Table}

-- the ports among these that the VLAN's frames leave without a tag
abbrev pub untagged_among : Table → Option ℕ → List ℕ → List ℕ
untagged_among t None ports = []
untagged_among t (Some vid) ports = filter (λ q. untagged t q vid) ports
