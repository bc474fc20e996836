-- A step of a plane leaves its board.
use Rattle.std.proofs.Common.{◌≡◌, List, Result, Ok, Err, OnOk, OnErr, ap}
use Rattle.br_model.specs.declared.steps.Step.{Step}
use Rattle.br_model.specs.declared.transcript.Line.{Line}
use Rattle.plane_parts.specs.Added.{Added}
use Rattle.plane_core.specs.Planes.{PlaneState, Steps}

pub same_board : {A E : Type 0} (r : Result A E) (old new : PlaneState) (step : Step) (before after : List Line) → OnOk r (Added (Steps old new step) before after) → OnErr r (new ≡ old)
    → new.board ≡ old.board
same_board (Ok x) old new step before after a same = a.so.board
same_board (Err e) old new step before after a same = ap (λ (p : PlaneState). p.board) same
