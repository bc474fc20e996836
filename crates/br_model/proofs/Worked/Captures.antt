-- Worked runs with a capture, computed by the definitions.
use Rattle.std.proofs.Common.{◌≡◌, map, refl}
use Rattle.br_model.specs.Program.Runs.{told}
use Rattle.br_model.specs.Worked.Captures.{capture_text, capture_told, bad_captures, bad_captures_told}
use Rattle.br_model.proofs.Worked.Computing.{computing_captures}

pub capture : told capture_text ≡ capture_told
unfolding computing_captures
capture = refl

pub bad : map told bad_captures ≡ bad_captures_told
unfolding computing_captures
bad = refl
