use Rattle.std.proofs.Common.{◌≡◌, length}
use Rattle.br_model.specs.Table.Domains.{port_places}
use Rattle.stp_core.proofs.PlaceLaws.{Passed}
use Rattle.stp_core.proofs.places.change_each.Given as goal

-- the places below p are changed, the others are as they were
abbrev pub invariant-loop-p : goal.invariant-loop-p
invariant-loop-p g l = record { sized : length l.places ≡ port_places; passed : Passed (g.R.Rule.changed l.rule) l.initial.places l.places l.p }
