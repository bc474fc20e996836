-- What is told of a scenario in memory.
use Rattle.std.specs.Prelude.{◌≡◌, ℕ, Bool, true, false, List, string_bytes}
use Rattle.br_model.specs.Text.Scenario.{Ending, Going, Ended, Bad, scenario}
use Rattle.whole_texts.specs.declared.replaying.Told.{Told}

-- by its line `end`
abbrev pub ends_well : Ending → Bool
ends_well Going = false
ends_well Ended = true
ends_well (Bad n why) = false

-- The text is what is answered to the scenario, and this says whether that ends well.
pub record TellsWhole (answer : List ℕ → List ℕ) (bytes : List ℕ) (x : Told) : Type 0 where
  pub text : string_bytes x.text ≡ answer bytes
  pub well : x.well ≡ ends_well (scenario bytes).ending
