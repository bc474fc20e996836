use Rattle.std.proofs.Common.{fold, take, sym, ap, ◌∙◌}
use Rattle.std.proofs.lemmas.List.Sums.{fold_more}
use Rattle.std.proofs.lemmas.Option.{get_or_from_slice_get, slice_get_within}
use Rattle.br_model.specs.Table.Table.{Table}
use Rattle.table_publish.specs.Content.{taken}
use Rattle.table_publish.specs.declared.content.Published.{Published}
use Rattle.table_publish.proofs.content.PublishedAbsorbOperation.absorb_first.Goals as goal

pub loop-i-preserved : goal.loop-i-preserved
loop-i-preserved c =
    let before = c.args.self.now in
    let list = c.args.operation.now.changes.list in
    let i = c.loop-i.i in
    let change = c.get.result in
    let next = fold_more taken before.tables list i change (slice_get_within list i change c.get.ensures)
    ∙ ap (taken (fold taken before.tables (take i list))) (get_or_from_slice_get list i change change c.get.ensures) in
    ap (λ (t : Table). record c.loop-i.self { tables = t }) c.take_in.ensures
    ∙ ap (λ (s : Published). record s { tables = taken s.tables change }) c.loop-i.invariant
    ∙ ap (λ (t : Table). record before { tables = t }) (sym next)
