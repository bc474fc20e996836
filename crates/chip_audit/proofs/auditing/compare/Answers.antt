use Rattle.std.proofs.Common.{◌∙◌}
use Rattle.br_model.specs.Plane.World.{table_of_chip}
use Rattle.chip_audit.proofs.Marking.{all-stale}
use Rattle.chip_audit.proofs.Waiting.{waits}
use Rattle.chip_audit.proofs.auditing.compare.Goals as goal

pub entries-requires-clause-rows : goal.entries-requires-clause-rows
entries-requires-clause-rows c = λ x at. c.deref.ensures.value ∙ c.in_ok-rows.ensures (table_of_chip c.args.plane.now.world x) (c.tables.ensures x at).addresses

pub returns : goal.returns
returns c = λ x at.
    let w = c.args.plane.now.world in
    let t = table_of_chip w x in
    let rows = c.deref-2.ensures.value ∙ c.in_ok-rows.ensures t (c.tables.ensures x at).addresses in
    let entries = c.in_ok-entries.ensures x at in
    let stale = all-stale w.setup.domains.edition w.history x.count _ _ _ t entries rows c.in_ok-stale.ensures in
    let waiting = waits w c.args.dom x c.pending-waiting.result at c.pending-waiting.ensures in
    c.of.ensures ∙ (λ i. record { entries = entries i; stale = stale i; waiting = waiting i })
