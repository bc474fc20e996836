-- What `explain` says.
-- Source: this profile.
use Rattle.std.specs.Prelude.{ℕ, ◌-◌, Bool, if◌then◌else◌, List, [], ◌∷◌, ◌++◌, codes, get_or}
use Rattle.std.specs.Fmt.{decimal}
use Rattle.std.specs.List.{flat_map}
use Rattle.br_model.specs.declared.steps.Step.{Step}
use Rattle.br_model.specs.Data.Digits.{hex_of}
use Rattle.br_model.specs.Plane.Entering.{chip_of}
use Rattle.br_model.specs.Plane.Sending.{Sent}
use Rattle.br_model.specs.Plane.World.{Stepped, World, first_world}
use Rattle.br_model.specs.Program.Runs.{setup_of}
use Rattle.br_model.specs.Table.Domains.{domain_of}
use Rattle.br_model.specs.Text.Head.{edition_line, port_line}
use Rattle.br_model.specs.Text.Scenario.{Ending, Going, Ended, Bad}
use Rattle.br_model.specs.Text.ScenarioText.{step_text}
use Rattle.br_model.specs.Text.Spelling.{mac_text}
use Rattle.br_model.specs.Text.Transcript.{bad_text, with_feed}
use Rattle.br_model.specs.Text.Words.{Word}
use Rattle.timings.specs.Answers.{By, by_timing, timing_steps, would}
use Rattle.timings.specs.Explained.{Sights, Timing, seen_of_frame}
use Rattle.timings.specs.Greedy.{Answer, Yes, No, explain}
use Rattle.timings.specs.Inputs.{Observation, entering, observation}
use Rattle.timings.specs.Replies.{Reply, Positive, Negative, BadLine}

-- A timing was found.

abbrev pub by_text : By → List ℕ
by_text b = with_feed (codes "by" ∷ decimal b.id ∷ decimal b.dom ∷ decimal b.count ∷ decimal b.updates ∷ [])

abbrev pub bridge_line : Bool → ℕ → List ℕ
bridge_line said own = if said then with_feed (codes "bridge" ∷ mac_text own ∷ []) else []

-- the lines of the observation before its first step
abbrev pub opening_text : Observation → List ℕ
opening_text o = edition_line o.roster.edition ++ (bridge_line o.bridge o.roster.own ++ flat_map port_line o.roster.ports)

-- a scenario of these steps
abbrev pub scenario_text : Observation → List Step → List ℕ
scenario_text o steps = opening_text o ++ (flat_map (step_text o.roster.ports) steps ++ (codes "end" ++ 10 ∷ []))

abbrev pub yes_text : Observation → Stepped → Timing → List ℕ
yes_text o x t =
    codes "yes" ++ (10 ∷ (flat_map by_text (by_timing o.sights x t) ++ scenario_text o (timing_steps x t)))

-- None was found for the frame with an id.

abbrev pub sent_words : ℕ × List ℕ → List Word
sent_words x = decimal x.0 ∷ hex_of x.1 ∷ []

abbrev pub saw_text : ℕ → ℕ × List ℕ → List ℕ
saw_text id x = with_feed (codes "saw" ∷ decimal id ∷ sent_words x)

abbrev pub would_line : ℕ → List Word → List ℕ
would_line count words = with_feed (codes "would" ∷ decimal count ∷ words)

abbrev pub would_text : ℕ × Sent → List ℕ
would_text (count, []) = would_line count (codes "-" ∷ [])
would_text (count, x ∷ later) = flat_map (λ y. would_line count (sent_words y)) (x ∷ later)

abbrev pub no_text : Sights → World → ℕ → ℕ × List ℕ → List ℕ
no_text s w id p =
    codes "no " ++ (decimal id ++ (10 ∷ (flat_map (saw_text id) (seen_of_frame s id)
    ++ flat_map would_text (would s w p.0 p.1 (chip_of w (domain_of w.setup.domains p.0))))))

abbrev pub answer_of : Observation → Stepped → Answer → Reply
answer_of o x (Yes t) = record { text = yes_text o x t; verdict = Positive }
answer_of o x (No id y) = record { text = no_text o.sights y.0 id (get_or (entering o.marks) (id - 1) (0, [])); verdict = Negative }

abbrev pub explain_at : Ending → Observation → Reply
explain_at Going o = record { text = []; verdict = BadLine }
explain_at Ended o = let setup = setup_of o.roster in answer_of o (first_world setup, []) (explain setup o.sights o.marks)
explain_at (Bad n why) o = record { text = bad_text n why; verdict = BadLine }

-- what `explain` says of its input
unfoldable pub explain_of : List ℕ → Reply
explain_of bytes = let o = observation bytes in explain_at o.ending o
