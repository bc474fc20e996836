use Rattle.std.proofs.Common.{take, fold, ap, ◌∙◌}
use Rattle.br_model.specs.declared.change.Change.{Change}
use Rattle.br_model.specs.Table.Limits.{fits}
use Rattle.br_model.specs.Table.Table.{Table, apply}
use Rattle.bridge_state.specs.Standing.{table_of}
use Rattle.br_model.proofs.Table.Within.{fits_at}
use Rattle.bridge_state.proofs.state.State.place_all.Goals as goal

pub place-requires : goal.place-requires
place-requires c =
    ap (λ (t : Table). fits t c.change-item.result) c.loop-change.invariant.table
    ∙ ap (λ (x : Change). fits (fold apply (table_of c.args.self.now) (take c.loop-change.change-index c.args.changes.now)) x) c.change-item.is
    ∙ fits_at (table_of c.args.self.now) c.args.changes.now c.loop-change.change-index c.change-item.result c.requires c.loop-change-test.true
