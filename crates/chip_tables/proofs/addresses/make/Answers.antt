use Rattle.std.proofs.Common.{[], sym, ap, ◌∙◌}
use Rattle.std.proofs.lemmas.Result.{IfOk-weaker}
use Rattle.br_model.specs.Table.Limits.{most_addresses}
use Rattle.open_addressing.specs.Finite.{Table}
use Rattle.chip_tables.specs.declared.rows.AddressRow.{AddressRow}
use Rattle.chip_tables.proofs.addresses.make.Goals as goal

pub returns : goal.returns
returns c =
    IfOk-weaker c.of.result _ _
    (λ (m : Table AddressRow) e. e ∙ ap (λ cells. record { entries = []; room = most_addresses; cells = cells }) (sym (ap (λ (t : Table AddressRow). t.cells) e))) c.of.ensures
