use Rattle.std.proofs.Common.{arith}
use Rattle.std.proofs.lemmas.Grind.{common_steps}
use Rattle.bridge_core.proofs.bridge.Bridge.has_room_for.Goals as goal

pub returns-then-most-room-clause-yes : goal.returns-then-most-room-clause-yes
returns-then-most-room-clause-yes c = grind (arith, common_steps)

pub returns-then-most-room-clause-no : goal.returns-then-most-room-clause-no
returns-then-most-room-clause-no c = grind (arith, common_steps)

pub returns-in_err-groups-clause-yes : goal.returns-in_err-groups-clause-yes
returns-in_err-groups-clause-yes c = grind (arith, common_steps)

pub returns-in_err-groups-clause-no : goal.returns-in_err-groups-clause-no
returns-in_err-groups-clause-no c = grind (arith, common_steps)

pub returns-in_err-changes-clause-yes : goal.returns-in_err-changes-clause-yes
returns-in_err-changes-clause-yes c = grind (arith, common_steps)

pub returns-in_err-changes-clause-no : goal.returns-in_err-changes-clause-no
returns-in_err-changes-clause-no c = grind (arith, common_steps)

pub returns-clause-yes : goal.returns-clause-yes
returns-clause-yes c = grind (arith, common_steps)

pub returns-clause-no : goal.returns-clause-no
returns-clause-no c = grind (arith, common_steps)
