-- The steps before the first frame, step by step.
use Rattle.std.proofs.Common.{◌≡◌, Bool, true, false, if◌then◌else◌, List, [], ◌∷◌, ap, append_assoc, append-nil}
use Rattle.br_model.specs.declared.steps.Step.{Step}
use Rattle.br_model.specs.Program.LiveRun.{from_frame, is_frame, until_frame}
use Rattle.br_model.specs.Program.LiveRules.{Becomes, Empty, Kept}
use Rattle.plane_record.specs.Pasts.{Past, after}
use Rattle.live_thread.specs.Taking.{behind}

pub until_more : (s : Step) (steps : List Step) → is_frame s ≡ false → until_frame (s ∷ steps) ≡ s ∷ until_frame steps
until_more s steps e = ap (λ (b : Bool). if b then [] else s ∷ until_frame steps) e

pub until_none : (s : Step) (steps : List Step) → is_frame s ≡ true → until_frame (s ∷ steps) ≡ []
until_none s steps e = ap (λ (b : Bool). if b then [] else s ∷ until_frame steps) e

pub from_more : (s : Step) (steps : List Step) → is_frame s ≡ false → from_frame (s ∷ steps) ≡ from_frame steps
from_more s steps e = ap (λ (b : Bool). if b then s ∷ steps else from_frame steps) e

pub from_here : (s : Step) (steps : List Step) → is_frame s ≡ true → from_frame (s ∷ steps) ≡ s ∷ steps
from_here s steps e = ap (λ (b : Bool). if b then s ∷ steps else from_frame steps) e

pub behind_none : (p : Past) → behind p [] ≡ p
behind_none p = ap (λ (l : List Step). record p { steps = l }) (append-nil p.steps)

pub behind_after : (p : Past) (s : Step) (steps : List Step) → behind (after p s) steps ≡ behind p (s ∷ steps)
behind_after p s steps = ap (λ (l : List Step). record p { steps = l }) (append_assoc p.steps (s ∷ []) steps)

-- nothing is taken out of these
pub all_kept : (steps : List Step) → Becomes steps steps
all_kept [] = Empty
all_kept (s ∷ steps) = Kept s (all_kept steps)
