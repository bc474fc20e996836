-- What the line of a step keeps of it.
-- Source: this profile.
use Rattle.std.specs.Prelude.{nat_lt, nat_le, Bool, true, ◌&&◌, length}
use Rattle.std.specs.Option.{option_map_or}
use Rattle.br_model.specs.declared.steps.Step.{Step}
use Rattle.br_model.specs.declared.steps.Step.TheVariants.{Rx}
use Rattle.br_model.specs.Plane.Traits.{traits}
use Rattle.br_model.specs.Text.Spelling.{shown}
use Rattle.br_model.specs.Wire.Frames.{longest_frame}

-- the step that the line gives: a frame as it is shown
abbrev pub given : Step → Step
given step = option_map_or (λ f. Rx f.0 (shown f.1)) (traits step).frame step

-- a frame is from one byte to the longest
abbrev pub is_whole : Step → Bool
is_whole step = option_map_or (λ f. nat_lt 0 (length f.1) && nat_le (length f.1) longest_frame) (traits step).frame true
