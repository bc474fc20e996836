-- What is written of what was said of a run.
use Rattle.std.specs.Prelude.{ℕ, List, [], ◌∷◌, ◌++◌, codes}
use Rattle.br_model.specs.Program.Runs.{setup_of}
use Rattle.br_model.specs.Text.Scenario.{Ending, Going, Ended, Bad, scenario}
use Rattle.br_model.specs.Text.Transcript.{bad_text}
use Rattle.run_world.specs.declared.voice.Voice.{Voice}
use Rattle.run_world.specs.Voices.{lines_of}

-- with a last line, where the scenario ends well
abbrev pub answer_at : Ending → List ℕ → List ℕ
answer_at Going lines = []
answer_at Ended lines = lines ++ (codes "end" ++ 10 ∷ [])
answer_at (Bad n why) lines = bad_text n why

-- what is written for the bytes of a scenario
unfoldable pub answer_by : Voice → List ℕ → List ℕ
answer_by voice bytes = let s = scenario bytes in answer_at s.ending (lines_of voice (setup_of s.roster) s.steps)
