use Rattle.br_model.proofs.Worked.Commands.{fdb_crosses, mdb_crosses, bad_alone}
use Rattle.br_model.proofs.command_laws.listings_cross.Goals as goal

pub returns : goal.returns
returns c = record { fdb = fdb_crosses; mdb = mdb_crosses; bad = bad_alone }
