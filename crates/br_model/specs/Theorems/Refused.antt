-- What a step that is refused leaves, and what it tells.
-- Source: this profile.
use Rattle.std.specs.Prelude.{◌≡◌, ℕ, ◌+◌, ◌==◌, Bool, true, false, not, List, [], ◌∷◌, ◌++◌}
use Rattle.std.specs.List.{filter}
use Rattle.std.specs.Option.{unwrap_or}
use Rattle.std.specs.declared.option.Option.{Option}
use Rattle.std.specs.declared.option.Option.TheVariants.{Some}
use Rattle.br_model.specs.declared.steps.Refusal.{Refusal}
use Rattle.br_model.specs.declared.steps.Refusal.TheVariants.{HistoryFull}
use Rattle.br_model.specs.declared.steps.Step.{Step}
use Rattle.br_model.specs.declared.steps.Step.TheVariants.{Rx, Cmd, Now, Serve, Hold, Post, Turn, Report, Sweep, Publish}
use Rattle.br_model.specs.declared.transcript.Line.TheVariants.{Refused}
use Rattle.br_model.specs.Plane.Serving.{held_with}
use Rattle.br_model.specs.Plane.World.{World, Waiting, Holding, Stepped}
use Rattle.br_model.specs.Theorems.FrameLines.{soft_lines}

-- whether the step sends a frame that waits or is held
abbrev pub sends_frame : Step → Bool
sends_frame (Rx port bytes) = false
sends_frame (Cmd command) = false
sends_frame (Now moment) = false
sends_frame Serve = true
sends_frame Hold = false
sends_frame (Post id point) = true
sends_frame (Turn dom) = false
sends_frame (Report dom) = false
sends_frame (Sweep dom) = false
sends_frame Publish = false

-- A refused step is counted and changes nothing else, and its only line is the refusal. But a frame that waits first, or is held, is
-- sent though the history has no room for what the frame changes: then it is gone, and nothing else is changed.
pub data IsRefused (w : World) (step : Step) (why : Refusal) (y : Stepped) : Type 0 where
  counted : (why ≡ HistoryFull → sends_frame step ≡ false) → y ≡ (record w { steps = w.steps + 1 }, Refused (w.steps + 1) why ∷ []) → IsRefused w step why y
  served : (f : Waiting) (later : List Waiting) → step ≡ Serve → why ≡ HistoryFull → w.waiting ≡ f ∷ later
      → y ≡ (record w { steps = w.steps + 1; waiting = later }, soft_lines w f w.published ++ Refused (w.steps + 1) why ∷ [])
      → IsRefused w step why y
  posted : (id : ℕ) (point : Option ℕ) (h : Holding) → step ≡ Post id point → why ≡ HistoryFull → held_with w id ≡ Some h
      → y ≡ (
        record w { steps = w.steps + 1; held = filter (λ g. not (g.waiting.id == id)) w.held },
        soft_lines w h.waiting (unwrap_or point h.floor) ++ Refused (w.steps + 1) why ∷ [],
      )
      → IsRefused w step why y
