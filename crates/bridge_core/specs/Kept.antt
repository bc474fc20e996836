-- What a control plane stands for.
use Rattle.std.specs.Prelude.{List}
use Rattle.br_model.specs.declared.change.Change.{Change}
use Rattle.br_model.specs.Control.Control.{Control}
use Rattle.br_model.specs.Table.Setup.{Setup}

pub record Controlled : Type 0 where
  pub setup : Setup
  pub history : List Change
  pub control : Control
