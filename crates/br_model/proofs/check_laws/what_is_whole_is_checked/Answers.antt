use Rattle.br_model.proofs.Program.Completing.{never_found_bad, never_filled}
use Rattle.br_model.proofs.check_laws.what_is_whole_is_checked.Goals as goal

pub returns : goal.returns
returns c = record { bad = never_found_bad; full = never_filled }
