use Rattle.std.proofs.Common.{List, [], ◌∷◌, ◌++◌, true, refl, sym, subst, arith}
use Rattle.br_model.specs.declared.change.Change.{Change}
use Rattle.br_model.specs.declared.change.Change.TheVariants.{PortUp, SetState, VlanAdd}
use Rattle.br_model.specs.Table.Limits.{AreWithin}
use Rattle.br_model.proofs.Table.Within.{within_of}
use Rattle.live_tests.proofs.tests.seats.append_port.Goals as goal

pub append-requires : goal.append-requires
append-requires c =
    let changes : List Change = PortUp c.args.port ∷ SetState c.args.port 3 ∷ VlanAdd c.args.port 1 true true ∷ [] in
    subst (λ (l : List Change). AreWithin (l ++ changes)) (sym c.requires) (within_of changes (omega arith) refl)
