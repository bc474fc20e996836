use Rattle.br_model.proofs.Worked.Snooping as rows
use Rattle.br_model.proofs.snoop_laws.room_for_groups.Goals as goal

pub returns : goal.returns
returns c = record { not_taken = rows.not_taken; no_room = rows.no_room; too_late = rows.too_late; in_turn = rows.in_turn }
