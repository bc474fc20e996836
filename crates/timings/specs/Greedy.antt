-- The answer of `explain`: turn until the frame is explained.
-- Source: this profile.
use Rattle.std.specs.Prelude.{ℕ, ◌-◌, ◌==◌, zero, suc, Bool, true, false, ◌&&◌, ◌||◌, if◌then◌else◌, List, [], ◌∷◌, min}
use Rattle.std.specs.Option.{option_map_or}
use Rattle.std.specs.declared.option.Option.{Option}
use Rattle.std.specs.declared.option.Option.TheVariants.{None, Some}
use Rattle.br_model.specs.Plane.Chip.{Chip}
use Rattle.br_model.specs.Plane.Entering.{chip_of}
use Rattle.br_model.specs.Plane.Runs.{pending_of}
use Rattle.br_model.specs.Plane.Sending.{Sent, sent_of}
use Rattle.br_model.specs.Plane.World.{World, Stepped, chip_at, first_world}
use Rattle.br_model.specs.Table.Domains.{domain_of}
use Rattle.br_model.specs.Table.Setup.{Setup}
use Rattle.timings.specs.Timings.{Commands, Comes, Enters, plays, turned}
use Rattle.timings.specs.Explained.{Mark, Sees, Applied, Sights, Timing, goes, is_ignored, seen_of_frame, updates_in, watched}

abbrev pub same_bytes : List ℕ → List ℕ → Bool
same_bytes [] [] = true
same_bytes [] (y ∷ ys) = false
same_bytes (x ∷ xs) [] = false
same_bytes (x ∷ xs) (y ∷ ys) = x == y && same_bytes xs ys

abbrev pub same_sent : Sent → Sent → Bool
same_sent [] [] = true
same_sent [] (y ∷ ys) = false
same_sent (x ∷ xs) [] = false
same_sent (x ∷ xs) (y ∷ ys) = x.0 == y.0 && (same_bytes x.1 y.1 && same_sent xs ys)

abbrev pub repeated : ℕ → ℕ → List ℕ
repeated dom zero = []
repeated dom (suc k) = dom ∷ repeated dom k

-- the least of these numbers, from n on, that passes
abbrev pub least_from : (ℕ → Bool) → ℕ → ℕ → Option ℕ
least_from p n zero = if p n then Some n else None
least_from p n (suc more) = if p n then Some n else least_from p (suc n) more

-- whether what was sent of the frame with this id is what was seen of it, or that isn't known
abbrev pub fits : Sights → ℕ → Sent → Bool
fits s id sent = is_ignored s id || same_sent (watched s sent) (seen_of_frame s id)

-- whether the frame that enters is explained after so many turns
abbrev pub fits_after : Sights → Stepped → ℕ → ℕ → List ℕ → ℕ → Bool
fits_after s x dom port bytes k =
    fits s x.0.next (sent_of x.0.next (plays (turned x (repeated dom k)) (Enters port bytes)).1)

abbrev pub turns_for : Sights → Stepped → ℕ → List ℕ → Option Chip → Option (List ℕ)
turns_for s x port bytes None = if fits_after s x 0 port bytes 0 then Some [] else None
turns_for s x port bytes (Some c) =
    option_map_or (λ k. Some (repeated c.dom k)) (least_from (fits_after s x c.dom port bytes) 0 (pending_of x.0 c)) None

-- the least turns of a bound, for the chip that there is
abbrev pub turns_bound : World → ℕ → Option Chip → List ℕ
turns_bound w n None = []
turns_bound w n (Some c) = repeated c.dom (min n (updates_in w) - c.count)

-- the fewest turns ahead of a line, where a number of them explains it
abbrev pub turns_ahead : Sights → Stepped → Mark → Option (List ℕ)
turns_ahead s x (Sees (Commands c)) = Some []
turns_ahead s x (Sees (Comes moment)) = Some []
turns_ahead s x (Sees (Enters port bytes)) = turns_for s x port bytes (chip_of x.0 (domain_of x.0.setup.domains port))
turns_ahead s x (Applied dom n) = Some (turns_bound x.0 n (chip_at x.0 dom))

-- a timing that explains all, or the first frame that no number of turns explains, and the world in which it was to enter
pub data Answer : Type 0 where
  Yes : Timing → Answer
  No : ℕ → Stepped → Answer

abbrev pub with_ahead : List ℕ × Mark → Answer → Answer
with_ahead m (Yes t) = Yes (m ∷ t)
with_ahead m (No id x) = No id x

abbrev pub explains_from : Sights → Stepped → List Mark → Answer
explains_from s x [] = Yes []
explains_from s x (m ∷ later) =
    option_map_or (λ doms. with_ahead (doms, m) (explains_from s (goes x (doms, m)) later)) (turns_ahead s x m) (No x.0.next x)

unfoldable pub explain : Setup → Sights → List Mark → Answer
explain setup s marks = explains_from s (first_world setup, []) marks
