use Rattle.std.proofs.Common.{◌≡◌, List, ap, ◌∙◌, subst}
use Rattle.br_model.specs.Plane.Runs.{end_line}
use Rattle.br_model.specs.declared.steps.Step.{Step}
use Rattle.br_model.specs.Program.LiveRun.{is_live_run}
use Rattle.br_model.specs.Text.Scenario.{Scenario}
use Rattle.live_book.specs.Ends.{IsBook}
use Rattle.plane_core.specs.Planes.{PlaneState}
use Rattle.live_workers.proofs.Testing.{passed}
use Rattle.live_workers.proofs.run.close.Goals as goal

pub returns-then-passes : goal.returns-then-passes
returns-then-passes g c =
    let given = c.args.given.now.steps.now in
    let book = c.book-book.result in
    let left = rw c.in-Some.is at c.in_ok-left.ensures.left in
    passed c.args.ran.setup given c.end_run-ended.new.ran (record { book = book; end = c.end_line-end.result }) c.in_ok-left.ensures.setup c.book-book.ensures.steps c.book-book.ensures.lines
    c.in-Some.left c.in_ok-passes.passes (c.end_line-end.ensures ∙ ap (λ (s : PlaneState). end_line s.world) c.plane.ensures) c.book-book.ensures.by_line left
    (subst (λ (l : List Step). (sc : Scenario) → IsBook sc given l book.lines.lines c.in-Some.left → c.in_ok-passes.passes ≡ is_live_run l sc) c.as_slice-taken.ensures c.in_ok-passes.ensures)
    c.if-passes.true
