use Rattle.std.proofs.Common.{◌∷◌, [], ◌++◌, List, take, sym, ap, ◌∙◌, subst}
use Rattle.std.proofs.lemmas.List.{take_more, take_all}
use Rattle.std.proofs.lemmas.Grind.{flat_map-append}
use Rattle.std.specs.List.{flat_map}
use Rattle.br_model.specs.declared.transcript.Line.{Line}
use Rattle.mcast_querier.specs.Querier.{Act}
use Rattle.mcast_querier.specs.Runs.{heard_in}
use Rattle.transcript_lines.specs.declared.row.Row.{Row}
use Rattle.transcript_lines.specs.Rows.{expand, expand_row}
use Rattle.transcript_lines.proofs.RowLaws.{expand-append}
use Rattle.run_world.specs.Hearing.{Hears}
use Rattle.run_world.proofs.Hearing.{hears_more, hears_none}
use Rattle.run_world.proofs.entered.Entered.hear_all.Goals as goal

pub loop-row-init : goal.loop-row-init
loop-row-init c = λ askers keeps. hears_none _

pub loop-row-preserved : goal.loop-row-preserved
loop-row-preserved c = λ askers keeps.
    let rows : List Row = c.parts.result.0.now in
    let arena = c.parts.result.1.now in
    let hears = λ (l : List Line). flat_map (heard_in askers c.args.now) l in
    let next = take_more rows c.loop-row.row-index c.row-item.result c.loop-row-test.true ∙ ap (λ (x : Row). take c.loop-row.row-index rows ++ x ∷ []) (sym c.row-item.is) in
    let acts = ap (λ (l : List Row). hears (expand arena l)) next ∙ ap hears (expand-append arena (take c.loop-row.row-index rows) c.row-item.result)
    ∙ flat_map-append (heard_in askers c.args.now) (expand arena (take c.loop-row.row-index rows)) (expand_row arena c.row-item.result) in
    subst (λ (l : List Act). Hears c.args.querier.now l c.hear_row.new.querier) (sym acts)
    (hears_more c.args.querier.now c.loop-row.querier c.hear_row.new.querier (hears (expand arena (take c.loop-row.row-index rows))) (hears (expand_row arena c.row-item.result))
    (c.loop-row.invariant askers keeps) (c.hear_row.ensures askers keeps))

pub returns : goal.returns
returns c = λ askers keeps.
    let arena = c.parts.result.1.now in
    subst (λ (l : List Line). Hears c.args.querier.now (flat_map (heard_in askers c.args.now) l) c.loop-row.querier) (ap (expand arena) (take_all _ _ c.loop-row-test.false) ∙ c.parts.ensures)
    (c.loop-row.invariant askers keeps)
