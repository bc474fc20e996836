use Rattle.std.proofs.Common.{◌∷◌, [], ◌++◌, List, take, sym, ap, ◌∙◌, subst}
use Rattle.std.proofs.lemmas.List.{take_more, take_all}
use Rattle.br_model.specs.declared.transcript.Line.{Line}
use Rattle.transcript_lines.specs.declared.row.Row.{Row}
use Rattle.transcript_lines.specs.Rows.{expand}
use Rattle.transcript_lines.proofs.RowLaws.{expand-append}
use Rattle.scenario_runner.specs.Counting.{Adds}
use Rattle.scenario_runner.proofs.Counting.{adds_none, adds_more}
use Rattle.scenario_runner.proofs.demo.Tally.add_all.Goals as goal

pub loop-row-init : goal.loop-row-init
loop-row-init c = adds_none _

pub loop-row-preserved : goal.loop-row-preserved
loop-row-preserved c =
    let rows : List Row = c.parts.result.0.now in
    let arena = c.parts.result.1.now in
    let next = take_more rows c.loop-row.row-index c.row-item.result c.loop-row-test.true ∙ ap (λ (x : Row). take c.loop-row.row-index rows ++ x ∷ []) (sym c.row-item.is) in
    subst (λ (l : List Line). Adds c.args.self.now l c.add_row.new.self) (sym (ap (expand arena) next ∙ expand-append arena (take c.loop-row.row-index rows) c.row-item.result))
    (adds_more _ _ _ _ _ c.loop-row.invariant c.in_ok-add_row.ensures)

pub returns : goal.returns
returns c =
    let arena = c.parts.result.1.now in
    subst (λ (l : List Line). Adds c.args.self.now l c.loop-row.self) (ap (expand arena) (take_all _ _ c.loop-row-test.false) ∙ c.parts.ensures) c.loop-row.invariant
