-- When a chip and software agree with one bridge on a frame, though each decides by a table of its own.
-- Source: this profile.
use Rattle.std.specs.Prelude.{◌≡◌, ℕ, ◌==◌, Bool, true, false, ◌&&◌, List, ◌∷◌, ◌++◌, length, take}
use Rattle.std.specs.List.{list_any}
use Rattle.std.specs.declared.option.Option.TheVariants.{Some}
use Rattle.br_model.specs.declared.steps.Step.{Step}
use Rattle.br_model.specs.declared.steps.Step.TheVariants.{Rx}
use Rattle.br_model.specs.declared.transcript.Line.{Line}
use Rattle.br_model.specs.Table.Domains.{domain_of}
use Rattle.br_model.specs.Table.Setup.{Setup}
use Rattle.br_model.specs.Theorems.FrameLines.{is_line_of}
use Rattle.br_model.specs.Theorems.Invariants.{frames_of}
use Rattle.br_model.specs.Plane.Runs.{run, pending_of}
use Rattle.br_model.specs.Plane.Chip.{Chip}
use Rattle.br_model.specs.Plane.Entering.{chip_of}
use Rattle.br_model.specs.Plane.LineTraits.{line_traits}
use Rattle.br_model.specs.Plane.World.{World}

-- whether the frame with this id waits or is held
abbrev pub is_there : ℕ → World → Bool
is_there id w = list_any (λ f. f.id == id) (frames_of w.held w.waiting)

-- whether the line says that the frame with this id found no room to wait
abbrev pub is_overrun : ℕ → Line → Bool
is_overrun id l = (line_traits l).overrun && is_line_of id l

-- The chip of the port's domain has applied all that was accepted, and all of it is published.
pub record IsSettled (w : World) (port : ℕ) : Type 0 where
  pub chip : Chip
  pub on_chip : chip_of w (domain_of w.setup.domains port) ≡ Some chip
  pub applied : pending_of w chip ≡ 0
  pub published : w.published ≡ length w.history

-- After these steps a frame enters at the port, then come the others. It finds room to wait if it goes on to the
-- processor, no change is accepted as long as it waits or is held, and in the end it is gone.
pub record IsUndisturbed (setup : Setup) (before : List Step) (port : ℕ) (bytes : List ℕ) (after : List Step) : Type 0 where
  pub room : list_any (is_overrun (run setup before).0.next) (run setup (before ++ Rx port bytes ∷ after)).1 ≡ false
  pub same : (n : ℕ) → is_there (run setup before).0.next (run setup (before ++ Rx port bytes ∷ take n after)).0 ≡ true
      → (run setup (before ++ Rx port bytes ∷ take n after)).0.history ≡ (run setup before).0.history
  pub gone : is_there (run setup before).0.next (run setup (before ++ Rx port bytes ∷ after)).0 ≡ false
