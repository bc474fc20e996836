use Rattle.std.proofs.Common.{arith}
use Rattle.switchbr_c.proofs.Sessions.{gave, kept}
use Rattle.switchbr_c.proofs.tell.Goals as goal

pub returns-then-status-eq-NO_ROOM-clause-gives : goal.returns-then-status-eq-NO_ROOM-clause-gives
returns-then-status-eq-NO_ROOM-clause-gives c =
    kept _ _ _ _ _ _ _ c.told.ensures (c.give-status.ensures.tells 0 0 (omega arith)) c.give-status.ensures.others c.if-status-eq-NO_ROOM.true

pub returns-clause-gives : goal.returns-clause-gives
returns-clause-gives c =
    gave _ _ _ _ _ _ _ _ _ c.told.ensures (c.give-status.ensures.tells 0 0 (omega arith)) c.is_fine-fine.ensures c.ended.ensures.ends c.let_go.ensures.at c.give-status.ensures.others
    c.if-status-eq-NO_ROOM.false
