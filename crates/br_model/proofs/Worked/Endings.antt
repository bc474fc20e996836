-- Worked endings, computed by the definitions.
use Rattle.std.proofs.Common.{◌≡◌, false, true≢false, length, take, refl, sym, ◌∙◌, ap, arith}
use Rattle.br_model.specs.Program.Outcomes.{EndsWithin, scenario_lines}
use Rattle.br_model.specs.Program.Runs.{body_parts}
use Rattle.br_model.specs.Text.Scenario.{Ending, Going, Ended, opened, reads, scenario}
use Rattle.br_model.specs.Worked.Endings.{parts_of_first_frame, first_frame_parts, ended_text, unfed_text}
use Rattle.br_model.proofs.Text.Endings.{has_ended}
use Rattle.br_model.proofs.Worked.Computing.{computing}

pub parts : parts_of_first_frame ≡ first_frame_parts
unfolding computing body_parts
parts = refl

over : (e : Ending) → e ≡ Going → e ≡ Ended → ⊥
over e g d = true≢false (sym (ap has_ended d) ∙ ap has_ended g)

ended : (scenario ended_text).ending ≡ Ended
unfolding computing
ended = refl

unfed : (scenario unfed_text).ending ≡ Ended
unfolding computing
unfed = refl

all_seen : (reads (opened false) (take 15 ended_text)).ending ≡ Ended
unfolding computing
all_seen = refl

cut_off : (reads (opened false) (take 14 ended_text)).ending ≡ Going
unfolding computing
cut_off = refl

-- the last line has its line feed, or isn't seen to be the last
unfed_goes_on : (reads (opened false) (take 14 unfed_text)).ending ≡ Going
unfolding computing
unfed_goes_on = refl

fifteen : length ended_text ≡ 15
fifteen = refl

fourteen : length unfed_text ≡ 14
fourteen = refl

pub within : EndsWithin scenario_lines 15 ended_text
within = record { ended = ended; seen = λ fits. all_seen }

pub beyond : EndsWithin scenario_lines 14 ended_text → ⊥
beyond e = over _ cut_off (e.seen (omega (arith, fifteen)))

pub unfed_within : EndsWithin scenario_lines 15 unfed_text
unfed_within = record { ended = unfed; seen = λ fits. absurd (omega (arith, fits, fourteen)) }

pub unfed_beyond : EndsWithin scenario_lines 14 unfed_text → ⊥
unfed_beyond e = over _ unfed_goes_on (e.seen (omega (arith, fourteen)))
