use Rattle.std.proofs.Common.{◌≡◌, length}
use Rattle.br_model.specs.Table.Domains.{port_places}
use Rattle.stp_core.proofs.Reading.{Known}
use Rattle.stp_core.proofs.places.states_of.Given as goal

-- the states of the ports below p are there
abbrev pub invariant-loop-p : goal.invariant-loop-p
invariant-loop-p l = record { known : Known l.places l.states l.p; size : length l.states ≡ port_places }
