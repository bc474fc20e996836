-- A generator between its frames.
-- Source: this profile.
use Rattle.std.specs.Prelude.{ℕ, ◌+◌, ◌-◌, List, [], ◌∷◌, ◌++◌, codes}
use Rattle.std.specs.List.{flat_map}
use Rattle.br_model.specs.declared.steps.Step.{Step}
use Rattle.br_model.specs.Program.Generator.{drawn, number_of, frame_steps, frames_from, ports, first_steps, head}
use Rattle.br_model.specs.Text.ScenarioText.{step_text}

-- the state, the number of the next frame, and how many frames are left
pub record At : Type 0 where
  pub x : ℕ
  pub i : ℕ
  pub left : ℕ

abbrev pub first : ℕ → ℕ → At
first x count = record { x = x; i = 1; left = count }

abbrev pub after_frame : At → At
after_frame g = record { x = drawn g.x; i = g.i + 1; left = g.left - 1 }

-- the steps of the next frame
abbrev pub next_steps : At → List Step
next_steps g = frame_steps g.i (number_of (drawn g.x))

-- the steps of all that are left
abbrev pub steps_left : At → List Step
steps_left g = frames_from g.left g.i g.x

abbrev pub lines_of : List Step → List ℕ
lines_of steps = flat_map (step_text ports) steps

-- the lines before the first frame
abbrev pub opening_text : List ℕ
opening_text = head ++ lines_of first_steps

-- the lines of all frames that are left, and the last line
abbrev pub text_left : At → List ℕ
text_left g = lines_of (steps_left g) ++ (codes "end" ++ 10 ∷ [])
