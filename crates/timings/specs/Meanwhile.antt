-- What may happen between the end of a run and a frame that enters then, and the rows that tell of it.
-- Source: this profile.
use Rattle.std.specs.Prelude.{◌≡◌, ℕ, nat_le, true, Bool, ◌||◌, List, ◌++◌, map, is_some}
use Rattle.std.specs.List.{filter, last_or, list_all}
use Rattle.std.specs.declared.option.Option.{Option}
use Rattle.std.specs.declared.option.Option.TheVariants.{None, Some}
use Rattle.br_model.specs.declared.frame.Head.{Head}
use Rattle.br_model.specs.declared.steps.Step.{Step}
use Rattle.br_model.specs.Plane.Chip.{Chip}
use Rattle.br_model.specs.Plane.Entering.{chip_of}
use Rattle.br_model.specs.Plane.Runs.{run}
use Rattle.br_model.specs.Plane.Traits.{traits}
use Rattle.br_model.specs.Plane.World.{table_of_chip}
use Rattle.br_model.specs.Table.Domains.{domain_of}
use Rattle.br_model.specs.Table.Setup.{Setup}
use Rattle.timings.specs.Outcomes.{Deed, deed_by, soft_ports}

-- whether the step is a turn or a publication
abbrev pub is_turn_or_publication : Step → Bool
is_turn_or_publication s = is_some (traits s).turn || (traits s).publishes

abbrev pub is_meanwhile : List Step → Bool
is_meanwhile steps = list_all is_turn_or_publication steps

-- what the rows say of a number: the last one that isn't behind it
abbrev pub value_at : {A : Type 0} → List (ℕ × A) → ℕ → Option A
value_at rows n = last_or None (map (λ r. r.1) (filter (λ r. nat_le r.0 n) rows))

-- Turns and publications after which the chip of the port has applied as many updates as the row says, and does what it says.
pub record ChipComesTo (setup : Setup) (before : List Step) (port : ℕ) (bytes : List ℕ) (head : Head) (r : ℕ × Deed) : Type 0 where
  pub meanwhile : List Step
  pub between : is_meanwhile meanwhile ≡ true
  pub chip : Chip
  pub on_chip : chip_of (run setup (before ++ meanwhile)).0 (domain_of setup.domains port) ≡ Some chip
  pub count : chip.count ≡ r.0
  pub deed : deed_by (run setup (before ++ meanwhile)).0 (table_of_chip (run setup (before ++ meanwhile)).0 chip) port bytes head ≡ r.1

-- and after which so many changes are published as the row says, and software sends by the ports that it says
pub record SoftwareComesTo (setup : Setup) (before : List Step) (port : ℕ) (bytes : List ℕ) (head : Head) (mark : Option ℕ) (r : ℕ × List ℕ) : Type 0 where
  pub meanwhile : List Step
  pub between : is_meanwhile meanwhile ≡ true
  pub published : (run setup (before ++ meanwhile)).0.published ≡ r.0
  pub ports : soft_ports (run setup (before ++ meanwhile)).0 port bytes head mark r.0 ≡ r.1
