-- What the lines before the first step say.
-- Source: this profile.
use Rattle.std.specs.Prelude.{ℕ, ◌+◌, Bool, List, [], length}
use Rattle.br_model.specs.declared.scenario.Place.TheVariants.{Declarations}
use Rattle.br_model.specs.Text.Roster.{Entry, Roster}
use Rattle.br_model.specs.Text.Scenario.{Scenario, Going}

-- behind so many lines, the last of them those of these ports
abbrev pub behind_ports : ℕ → Bool → Roster → List Entry → Scenario
behind_ports n check roster ports = record {
  lines = n;
  roster = record { place = Declarations; check = check; edition = roster.edition; own = roster.own; ports = ports };
  steps = [];
  ending = Going;
}

-- the same ports, edition and address of the bridge, and no step yet
abbrev pub behind_head : Bool → Roster → Scenario
behind_head check roster = behind_ports (2 + length roster.ports) check roster roster.ports
