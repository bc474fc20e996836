use Rattle.std.proofs.Common.{◌∙◌, ap}
use Rattle.br_model.specs.Control.Ends.{keys}
use Rattle.mdb_snoop.proofs.mdb.Mdb.routers.Goals as goal

pub returns : goal.returns
returns c = c.ports.ensures ∙ ap (λ d. keys d.routers) c.self.view_is
