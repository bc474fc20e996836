use Rattle.std.proofs.Common.{subst}
use Rattle.br_model.specs.Table.Limits.{AreWithin}
use Rattle.br_model.proofs.Table.Within.{within_of}
use Rattle.bridge_core.specs.Kept.{Controlled}
use Rattle.bridge_core.proofs.bridge.Bridge.history.Goals as goal

pub returns-clause-within : goal.returns-clause-within
returns-clause-within c =
    subst (λ (b : Controlled). AreWithin b.history) c.self.view_is (within_of c.self.inside.history.items c.self.invariant.1 c.self.invariant.2)
