use Rattle.std.proofs.Common.{◌∙◌}
use Rattle.br_model.specs.Table.Cut.{cut}
use Rattle.br_model.specs.Table.Table.{table}
use Rattle.br_model.specs.Wire.Messages.{message}
use Rattle.timings.proofs.Reading.{cut-read, read-trapped, unread-still}
use Rattle.timings.proofs.laws.what_is_read.Goals as goal

pub returns : goal.returns
returns c = record {
  trapped = λ domains edition history k port bytes head e.
      read-trapped domains (table (cut edition history k)) port head (message bytes head) (cut-read edition history k port head (message bytes head) ∙ e);
  still = unread-still;
}
