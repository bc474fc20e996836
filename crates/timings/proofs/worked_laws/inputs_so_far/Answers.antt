use Rattle.timings.proofs.Worked.{observation-ends, observation-goes-on, question-ends, question-goes-on}
use Rattle.timings.proofs.worked_laws.inputs_so_far.Goals as goal

pub returns : goal.returns
returns c = record {
  observation_goes_on = observation-goes-on;
  observation_ends = observation-ends;
  question_goes_on = question-goes-on;
  question_ends = question-ends;
}
