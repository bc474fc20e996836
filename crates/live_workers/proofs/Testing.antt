-- A run that its book's test lets pass.
use Rattle.std.proofs.Common.{◌≡◌, Bool, true, List, refl, sym, ap, ap₂, subst, ◌∙◌}
use Rattle.std.specs.List.{list_all}
use Rattle.br_model.specs.declared.steps.Step.{Step}
use Rattle.br_model.specs.Plane.Runs.{end_line, run}
use Rattle.br_model.specs.Program.LiveRun.{is_live_run}
use Rattle.br_model.specs.Program.Runs.{setup_of}
use Rattle.br_model.specs.Table.Domains.{chip_domains}
use Rattle.br_model.specs.Table.Setup.{Setup}
use Rattle.br_model.specs.Text.LineForms.{comes_by_line}
use Rattle.br_model.specs.Text.Scenario.{Scenario}
use Rattle.live_book.specs.Ends.{IsBook, IsLeft}
use Rattle.live_book.specs.declared.drained.Remains.{Remains}
use Rattle.plane_record.specs.Pasts.{Past, lines_of, world_of}
use Rattle.live_workers.specs.Results.{IsTaken}
use Rattle.live_thread.specs.declared.alone.Taken.{Taken}

module _ (setup : Setup) (given : List Step) (p : Past) (taken : Taken) (same : p.setup ≡ setup) (steps : taken.book.steps ≡ p.steps) (lines : taken.book.lines.lines ≡ lines_of p) where
  world : (s : Setup) → s ≡ setup → world_of p ≡ (run s taken.book.steps).0
  world s own = ap₂ (λ (x : Setup) (l : List Step). (run x l).0) (same ∙ sym own) (sym steps)

  told : (s : Setup) → s ≡ setup → taken.book.lines.lines ≡ (run s taken.book.steps).1
  told s own = lines ∙ ap₂ (λ (x : Setup) (l : List Step). (run x l).1) (same ∙ sym own) (sym steps)

  pub passed : (left : Remains) (live : Bool) → taken.end ≡ end_line (world_of p) → list_all (comes_by_line true (chip_domains p.setup.domains)) taken.book.steps ≡ true → IsLeft left (world_of p)
      → ((sc : Scenario) → IsBook sc given taken.book.steps taken.book.lines.lines left → live ≡ is_live_run taken.book.steps sc) → live ≡ true → IsTaken setup given taken
  passed left live end by_line rest tested passes = record {
    live = λ sc own is. sym (tested sc (record { own = sym is; lines = told (setup_of sc.roster) own; rest = subst (IsLeft left) (world (setup_of sc.roster) own) rest })) ∙ passes;
    lines = told setup refl;
    end = end ∙ ap end_line (world setup refl);
    by_line = ap (λ (s : Setup). list_all (comes_by_line true (chip_domains s.domains)) taken.book.steps) (sym same) ∙ by_line;
  }
