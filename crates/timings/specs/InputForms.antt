-- The lines of what `explain` and `outcomes` read: those of a scenario, and those of the section behind its line `end`; a row a form,
-- and which of them stand in which part.
-- Source: this profile.
use Rattle.std.specs.Prelude.{ℕ, Bool, true, false, ◌&&◌, List, [], ◌∷◌, ◌++◌, map, codes}
use Rattle.std.specs.List.{list_any}
use Rattle.std.specs.Str.{bytes_eq}
use Rattle.br_model.specs.declared.scenario.Said.{Said}
use Rattle.br_model.specs.declared.steps.Command.{Command}
use Rattle.br_model.specs.Table.Limits.{most_changes}
use Rattle.br_model.specs.Text.CommandForms.{commands, step}
use Rattle.br_model.specs.Text.Forms.{Token, Fixed, Has, Row, Makes, operands_from, tokens}
use Rattle.br_model.specs.Text.LineForms.{lines}
use Rattle.br_model.specs.Text.Operands.{Operand, Number, Chip, PortNumber, Hex}
use Rattle.br_model.specs.Text.Words.{Word}

-- A form that stands in this part, and one that stands nowhere in it.

abbrev pub here : {A : Type 0} → (shape : List Token) → Makes A (operands_from 0 shape) → Row A
here shape says = record { shape = shape; place = λ roster. true; says = says }

abbrev pub nowhere : {A : Type 0} → Row A → Row A
nowhere r = record r { place = λ roster. false }

-- what a function makes of what a form says
abbrev pub behind : {A B : Type 0} → (A → B) → (ps : List (Operand × ℕ)) → Makes A ps → Makes B ps
behind f [] says = f says
behind f (p ∷ ps) says = λ value. behind f ps (says value)

-- `explain` reads an observation.

pub data Tells : Type 0 where
  -- what the line says in a scenario
  Says : Said → Tells
  -- by here the chip of the domain has applied its first updates, so many or all there are
  Bounds : ℕ → ℕ → Tells
  -- the second section begins
  Begins : Tells
  -- nobody looks at the port
  Blind : ℕ → Tells
  -- what became of the frame isn't known
  Ignores : ℕ → Tells
  -- the frame left by the port with these bytes
  Saw : ℕ → ℕ → List ℕ → Tells
  Closes : Tells

-- the scenario; behind its line `end`; and the second section before its first line `ignore` or `saw`, then before its first line
-- `saw`, and from there on
pub data Part : Type 0 where
  First : Part
  Between : Part
  Blinds : Part
  Unknown : Part
  Sighted : Part

-- the first words of a scenario's lines that stand in an observation; `cmd` is another
abbrev pub observed_words : List Word
observed_words = codes "scenario" ∷ codes "bridge" ∷ codes "port" ∷ codes "rx" ∷ codes "now" ∷ codes "end" ∷ []

abbrev pub begins_with : List Word → List Token → Bool
begins_with firsts [] = false
begins_with firsts (Fixed w ∷ ts) = list_any (bytes_eq w) firsts
begins_with firsts (Has o ∷ ts) = false

abbrev pub in_observation : Row Said → Row Tells
in_observation r = record {
  shape = r.shape;
  place = λ roster. begins_with observed_words r.shape && r.place roster;
  says = behind Says (operands_from 0 r.shape) r.says;
}

abbrev pub scenario_rows : List (Row Tells)
scenario_rows = map in_observation lines

-- `applied CHIP COUNT`, where a step may stand
abbrev pub applied : Row Tells
applied = record {
  shape = Fixed (codes "applied") ∷ Has Chip ∷ Has (Number 0 most_changes) ∷ [];
  place = λ roster. step roster.place;
  says = λ dom n. Bounds dom n;
}

abbrev pub seen : Row Tells
seen = here (tokens (codes "seen 1")) Begins

abbrev pub blind : Row Tells
blind = here (tokens (codes "blind PORT")) (λ port. Blind port)

-- `ignore ID` and `saw ID PORT HEX`, of frames with these ids

abbrev pub ignore : ℕ → ℕ → Row Tells
ignore low high = here (Fixed (codes "ignore") ∷ Has (Number low high) ∷ []) (λ id. Ignores id)

abbrev pub saw : ℕ → ℕ → Row Tells
saw low high = here (Fixed (codes "saw") ∷ Has (Number low high) ∷ Has PortNumber ∷ Has Hex ∷ []) (λ id port bytes. Saw id port bytes)

abbrev pub closes : Row Tells
closes = here (tokens (codes "end")) Closes

-- What stands in a part, where the line of this kind before had this id, and there are so many frames. Ids don't descend.
abbrev pub standing : Part → ℕ → ℕ → List (Row Tells)
standing First id frames = scenario_rows ++ applied ∷ []
standing Between id frames = seen ∷ []
standing Blinds id frames = blind ∷ ignore 1 frames ∷ saw 1 frames ∷ closes ∷ []
standing Unknown id frames = ignore id frames ∷ saw 1 frames ∷ closes ∷ []
standing Sighted id frames = saw id frames ∷ closes ∷ []

abbrev pub observation_rows : List (Row Tells)
observation_rows = scenario_rows ++ applied ∷ seen ∷ blind ∷ ignore 0 0 ∷ saw 0 0 ∷ []

-- All other forms are known, but out of their place.
abbrev pub rows_in : Part → ℕ → ℕ → List (Row Tells)
rows_in part id frames = standing part id frames ++ map nowhere observation_rows

-- the commands behind `cmd`
abbrev pub commands_in : Part → List (Row Command)
commands_in First = commands
commands_in Between = map nowhere commands
commands_in Blinds = map nowhere commands
commands_in Unknown = map nowhere commands
commands_in Sighted = map nowhere commands

-- `outcomes` reads a scenario, and behind it its probes.

pub data Asks : Type 0 where
  -- nothing: the line is skipped
  Skips : Asks
  -- the second section begins
  Begun : Asks
  -- what would a frame of these bytes do at the port
  Probes : ℕ → List ℕ → Asks
  Finishes : Asks

abbrev pub probes : Row Asks
probes = here (tokens (codes "probes 1")) Begun

abbrev pub probe : Row Asks
probe = here (tokens (codes "rx PORT HEX")) (λ port bytes. Probes port bytes)

abbrev pub finishes : Row Asks
finishes = here (tokens (codes "end")) Finishes

-- of a scenario's forms, which stand nowhere here, no matter what they say
abbrev pub is_known : Row Said → Row Asks
is_known r = record { shape = r.shape; place = λ roster. false; says = behind (λ said. Skips) (operands_from 0 r.shape) r.says }

-- before the section's first line, and behind it
abbrev pub asking : Bool → List (Row Asks)
asking false = probes ∷ []
asking true = probe ∷ finishes ∷ []

abbrev pub question_rows : Bool → List (Row Asks)
question_rows opened = asking opened ++ (nowhere probes ∷ map is_known lines)
