use Rattle.std.proofs.Common.{true, false, List, sym, ap, ◌∙◌}
use Rattle.std.specs.List.{list_all}
use Rattle.br_model.specs.declared.steps.Step.{Step}
use Rattle.br_model.specs.Program.LiveRun.{is_live_run}
use Rattle.br_model.specs.Table.Domains.{Domains, chip_domains}
use Rattle.br_model.specs.Table.Setup.{Setup}
use Rattle.br_model.specs.Text.LineForms.{comes_by_line}
use Rattle.plane_core.specs.Planes.{PlaneState}
use Rattle.plane_record.specs.Pasts.{Past}
use Rattle.live_thread.proofs.alone.run_alone.Goals as goal

pub take_alone-taken-requires-clause-by_line : goal.take_alone-taken-requires-clause-by_line
take_alone-taken-requires-clause-by_line g c = ap (λ (d : Domains). list_all (comes_by_line false (chip_domains d)) c.args.steps.now) c.again-chips.ensures ∙ c.requires

pub returns-clause-live : goal.returns-clause-live
returns-clause-live g c =
    let setup = ap (λ (p : Past). p.setup) c.make-ran.ensures ∙ ap (λ (s : PlaneState). s.world.setup) c.in_ok-plane.ensures.plane in
    λ sc own given. ap (λ (l : List Step). is_live_run l sc) c.book-book.ensures.steps ∙ c.in_ok-taken.ensures.live sc (own ∙ sym setup) given

pub returns-clause-by_line : goal.returns-clause-by_line
returns-clause-by_line g c =
    let setup = ap (λ (p : Past). p.setup) c.make-ran.ensures ∙ ap (λ (s : PlaneState). s.world.setup) c.in_ok-plane.ensures.plane in
    ap (λ (s : Setup). list_all (comes_by_line true (chip_domains s.domains)) c.book-book.result.steps) (sym (c.in_ok-taken.ensures.setup ∙ setup)) ∙ c.book-book.ensures.by_line
