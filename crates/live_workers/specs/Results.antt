-- What a run comes to.
-- Source: this profile.
use Rattle.std.specs.Prelude.{◌≡◌, ◌||◌, Bool, true, List}
use Rattle.std.specs.List.{list_all}
use Rattle.br_model.specs.declared.steps.Step.{Step}
use Rattle.br_model.specs.Plane.Runs.{end_line, run}
use Rattle.br_model.specs.Program.LiveRun.{is_frame, is_live_run, is_ordered}
use Rattle.br_model.specs.Program.Runs.{setup_of}
use Rattle.br_model.specs.Table.Domains.{chip_domains}
use Rattle.br_model.specs.Table.Setup.{Setup}
use Rattle.br_model.specs.Text.LineForms.{comes_by_line}
use Rattle.br_model.specs.Text.Scenario.{Scenario}
use Rattle.plane_record.specs.Pasts.{Past}
use Rattle.live_thread.specs.declared.alone.Taken.{Taken}

-- a step that is taken from the scenario
abbrev pub is_taken : Step → Bool
is_taken s = is_frame s || is_ordered s

-- the same board and the same setup
pub record IsSameBridge (old new : Past) : Type 0 where
  pub board : new.board ≡ old.board
  pub setup : new.setup ≡ old.setup

-- The steps that were taken on a bridge of this setup are a live run of the given ones, and lines can give them; these are their lines
-- and the last line.
pub record IsTaken (setup : Setup) (given : List Step) (taken : Taken) : Type 0 where
  pub live : (sc : Scenario) → setup_of sc.roster ≡ setup → sc.steps ≡ given → is_live_run taken.book.steps sc ≡ true
  pub lines : taken.book.lines.lines ≡ (run setup taken.book.steps).1
  pub end : taken.end ≡ end_line (run setup taken.book.steps).0
  pub by_line : list_all (comes_by_line true (chip_domains setup.domains)) taken.book.steps ≡ true
