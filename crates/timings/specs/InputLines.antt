-- How the inputs of `explain` and `outcomes` end, whole and as far as they have been read.
-- Source: this profile.
use Rattle.std.specs.Prelude.{ℕ, nat_lt, false, if◌then◌else◌, List, length}
use Rattle.std.specs.List.{fold}
use Rattle.br_model.specs.declared.scenario.LineWhy.{LineWhy}
use Rattle.br_model.specs.declared.scenario.LineWhy.TheVariants.{Long}
use Rattle.br_model.specs.Program.Outcomes.{Lines}
use Rattle.br_model.specs.Text.Scenario.{Ending, Going, Ended, Bad, Scenario, longest_line, opened, read}
use Rattle.timings.specs.Inputs.{Question, bad_ask, cut_lines, first_question, observation, observation_so_far, question, takes_ask}

abbrev pub observation_lines : Lines Ending LineWhy
observation_lines = record {
  whole = λ bytes. (observation bytes).ending;
  so_far = λ bytes. (observation_so_far bytes).ending;
  going = Going;
  ended = Ended;
  bad = Bad;
}

-- a line that may not come to its end is too long already
abbrev pub ask_begins_at : Ending → Question → List ℕ → Question
ask_begins_at Going q rest = if nat_lt longest_line (length rest) then bad_ask q Long else q
ask_begins_at Ended q rest = q
ask_begins_at (Bad n why) q rest = q

abbrev pub asked_so_far : Scenario → List ℕ → Question
asked_so_far s bytes =
    let c = cut_lines bytes in let q = fold (takes_ask s.roster) (first_question s) c.0 in ask_begins_at q.ending q c.1

-- behind the scenario, as far as it is read
abbrev pub question_so_far_at : Ending → Scenario → List ℕ → Question
question_so_far_at Going s behind = first_question s
question_so_far_at Ended s behind = asked_so_far s behind
question_so_far_at (Bad n why) s behind = record (first_question s) { ending = Bad n why }

unfoldable pub question_so_far : List ℕ → Question
question_so_far bytes = let p = read 0 (opened false) bytes in question_so_far_at p.scenario.ending p.scenario p.behind

abbrev pub question_lines : Lines Ending LineWhy
question_lines = record {
  whole = λ bytes. (question bytes).ending;
  so_far = λ bytes. (question_so_far bytes).ending;
  going = Going;
  ended = Ended;
  bad = Bad;
}
