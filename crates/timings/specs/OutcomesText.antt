-- What `outcomes` says.
-- Source: this profile.
use Rattle.std.specs.Prelude.{ℕ, ◌+◌, List, [], ◌∷◌, ◌++◌, map, codes}
use Rattle.std.specs.Fmt.{decimal}
use Rattle.std.specs.List.{flat_map}
use Rattle.std.specs.declared.option.Option.{Option}
use Rattle.std.specs.declared.option.Option.TheVariants.{None, Some}
use Rattle.br_model.specs.declared.frame.Class.{Class}
use Rattle.br_model.specs.Plane.World.{World}
use Rattle.br_model.specs.Program.Runs.{run_of}
use Rattle.br_model.specs.Text.Scenario.{Ending, Going, Ended, Bad, scenario}
use Rattle.br_model.specs.Text.Transcript.{bad_text, class_word, with_feed}
use Rattle.br_model.specs.Text.Words.{Word}
use Rattle.timings.specs.Inputs.{Question, question}
use Rattle.timings.specs.Outcomes.{Row, Unread, ByChip, BySoftware, outcomes}
use Rattle.timings.specs.Replies.{Reply, Positive, BadLine}

abbrev pub port_words : List ℕ → List Word
port_words [] = codes "-" ∷ []
port_words (port ∷ ports) = map decimal (port ∷ ports)

abbrev pub soft_word : Option Class → Word
soft_word None = codes "soft"
soft_word (Some class) = class_word class

abbrev pub row_words : Row → List Word
row_words Unread = codes "unread" ∷ []
row_words (ByChip dom count class ports) = codes "chip" ∷ decimal dom ∷ decimal count ∷ class_word class ∷ port_words ports
row_words (BySoftware point class ports) = codes "soft" ∷ decimal point ∷ soft_word class ∷ port_words ports

-- of the probe with this number
abbrev pub row_text : ℕ → Row → List ℕ
row_text n row = with_feed (codes "out" ∷ decimal n ∷ row_words row)

-- the rows of probes, of which the first has this number
abbrev pub rows_from : World → ℕ → List (ℕ × List ℕ) → List ℕ
rows_from w n [] = []
rows_from w n (p ∷ probes) = flat_map (row_text n) (outcomes w p.0 p.1) ++ rows_from w (n + 1) probes

abbrev pub outcomes_text : World → List (ℕ × List ℕ) → List ℕ
outcomes_text w probes = codes "outcomes 1" ++ (10 ∷ (rows_from w 1 probes ++ (codes "end" ++ 10 ∷ [])))

abbrev pub outcomes_at : Ending → World → Question → Reply
outcomes_at Going w q = record { text = []; verdict = BadLine }
outcomes_at Ended w q = record { text = outcomes_text w q.probes; verdict = Positive }
outcomes_at (Bad n why) w q = record { text = bad_text n why; verdict = BadLine }

-- what `outcomes` says of its input
unfoldable pub outcomes_of : List ℕ → Reply
outcomes_of bytes = let q = question bytes in outcomes_at q.ending (run_of (scenario bytes)).0 q
