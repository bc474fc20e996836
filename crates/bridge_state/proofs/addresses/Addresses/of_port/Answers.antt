use Rattle.std.proofs.Common.{◌≡◌, List, IfOk, ap, subst, ◌∙◌}
use Rattle.br_model.specs.Control.Learning.{Address}
use Rattle.bridge_state.specs.Entries.{Entries, keys_at}
use Rattle.bridge_state.proofs.Moments.{at_port}
use Rattle.bridge_state.proofs.addresses.Addresses.of_port.Goals as goal

pub returns : goal.returns
returns c =
    subst (λ (ks : List Address). IfOk c.entries_of_port.result (λ l. l ≡ ks))
    (at_port c.args.port c.self.inside.fdb.entries ∙ ap (λ (s : Entries). keys_at c.args.port s.addr) c.self.view_is) c.entries_of_port.ensures
