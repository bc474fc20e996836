-- What a line gives once it is read.
-- Source: this profile.
use Rattle.std.specs.Prelude.{◌≡◌, ℕ, nat_le, Bool, true, ◌&&◌, if◌then◌else◌, List}
use Rattle.std.specs.declared.result.Result.{Result}
use Rattle.std.specs.declared.result.Result.TheVariants.{Ok, Err}
use Rattle.br_model.specs.declared.scenario.Item.{Item}
use Rattle.br_model.specs.declared.scenario.Item.TheVariants as items
use Rattle.br_model.specs.declared.scenario.LineWhy.{LineWhy}
use Rattle.br_model.specs.declared.scenario.LineWhy.TheVariants as why
use Rattle.br_model.specs.declared.scenario.Place.{Place}
use Rattle.br_model.specs.declared.scenario.Said.{Said}
use Rattle.br_model.specs.declared.scenario.Said.TheVariants.{Blank, Opens, Bridge, Declares, Does, Captures, Ends}
use Rattle.br_model.specs.Text.Forms.{after}
use Rattle.br_model.specs.Text.LineForms.{line_says, opening, header, declaration, comes_by_line}
use Rattle.br_model.specs.Text.Operands.{new_port, new_name, longest_section}
use Rattle.br_model.specs.Text.Roster.{Roster, chips_of}
use Rattle.br_model.specs.Text.Scenario.{declared}
use Rattle.br_model.specs.Text.Declarations.{fits_beside}
use Rattle.br_model.specs.Text.Words.{Word}

abbrev pub item_of : Said → Item
item_of Blank = items.Blank
item_of (Opens edition) = items.Scenario edition
item_of (Bridge mac) = items.Bridge mac
item_of (Declares port name dom) = items.Declared port
item_of (Does step) = items.Step step
item_of (Captures n) = items.Capture n
item_of Ends = items.End

-- what the declaration of a port says, by its number, its name and its domain, which may be none
abbrev pub declares : Roster → Word → Word → Result ℕ LineWhy → Result Said LineWhy
declares r number name dom =
    if declaration r.place
    then after (new_port r.ports number) (λ port. after (new_name r.ports name) (λ given. after dom (λ d. Ok (Declares port given d))))
    else Err why.Place

-- A line was read: what it says gave the item, and took the roster on.
pub record Reads (before after : Roster) (line : List ℕ) (item : Item) : Type 0 where
  pub said : Said
  pub says : line_says before line ≡ Ok said
  pub gives : item ≡ item_of said
  pub takes : after ≡ declared before said

-- whether the first line, the bridge's address, and the declaration of a port may stand there: another item, whatever the place
abbrev pub comes_in_place : Place → Item → Bool
comes_in_place place items.Blank = true
comes_in_place place (items.Scenario edition) = opening place
comes_in_place place (items.Bridge mac) = header place
comes_in_place place (items.Declared port) = declaration place
comes_in_place place (items.Step step) = true
comes_in_place place (items.Capture n) = true
comes_in_place place items.End = true

-- whether a step is one that a line can give behind what the scenario has said, and a section as long as a line can say
abbrev pub is_in_range : Roster → Item → Bool
is_in_range roster items.Blank = true
is_in_range roster (items.Scenario edition) = true
is_in_range roster (items.Bridge mac) = true
is_in_range roster (items.Declared port) = true
is_in_range roster (items.Step step) = comes_by_line roster.check (chips_of roster.ports) step
is_in_range roster (items.Capture n) = nat_le n longest_section
is_in_range roster items.End = true

-- the same of what a line says; and the port fits beside the declared ones
abbrev pub fits_roster : Roster → Said → Bool
fits_roster roster Blank = true
fits_roster roster (Opens edition) = opening roster.place
fits_roster roster (Bridge mac) = header roster.place
fits_roster roster (Declares port name dom) = declaration roster.place && fits_beside roster.ports (record { name = name; port = port; dom = dom })
fits_roster roster (Does step) = comes_by_line roster.check (chips_of roster.ports) step
fits_roster roster (Captures n) = nat_le n longest_section
fits_roster roster Ends = true
