use Rattle.br_model.proofs.Control.StampsTied.{stamped-start, stamped-apply, react-stamped, run-stamped, run-each}
use Rattle.br_model.proofs.stamp_laws.stamps_are_tied.Goals as goal

pub returns : goal.returns
returns c = record { first = stamped-start; changed = stamped-apply; kept = react-stamped; run = run-stamped; each = run-each }
