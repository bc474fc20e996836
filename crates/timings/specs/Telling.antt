-- A run, told as it was seen.
-- Source: this profile.
use Rattle.std.specs.Prelude.{ℕ, List, [], ◌∷◌}
use Rattle.std.specs.List.{flat_map}
use Rattle.std.specs.Option.{option_map_or}
use Rattle.br_model.specs.declared.transcript.Line.{Line}
use Rattle.br_model.specs.Plane.LineTraits.{sends}
use Rattle.timings.specs.Explained.{Sights}

-- each frame with its id that leaves by a port, in the order in which they did
abbrev pub saw_in : List Line → List (ℕ × ℕ × List ℕ)
saw_in told = flat_map (λ l. option_map_or (λ x. (x.0, x.1.0, x.1.1) ∷ []) (sends l) []) told

abbrev pub sights_of : List ℕ → List ℕ → List Line → Sights
sights_of blind ignored told = record { blind = blind; ignored = ignored; saw = saw_in told }
