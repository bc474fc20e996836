use Rattle.br_model.proofs.Control.StatesAgree.{agree-start, react-agrees, run-agrees, run-each}
use Rattle.br_model.proofs.state_laws.states_agree.Goals as goal

pub returns : goal.returns
returns c = record { first = agree-start; kept = react-agrees; run = run-agrees; each = run-each }
