use Rattle.plane_record.proofs.Recording.{has-its-chip}
use Rattle.plane_lock.proofs.locked.Locked.first_report.Goals as goal

pub first_report-requires : goal.first_report-requires
first_report-requires g c = has-its-chip c.self.inside.ran c.plane.result.now g.N.Name.board.domains g.N.Name.own c.args.dom c.plane.ensures c.self.invariant.1 c.requires
