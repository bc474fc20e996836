use Rattle.std.proofs.Common.{◌∙◌}
use Rattle.neigh_netlink.proofs.Kept.{kept-turn}
use Rattle.neigh_netlink.proofs.stream.Stream.turn.Goals as goal

pub returns : goal.returns
returns c = λ w chip kept at next. c.offload.ensures ∙ kept-turn w chip c.args.self.now c.args.dom c.args.update kept at next
