use Rattle.std.proofs.Common.{◌∙◌, ap, sym, None}
use Rattle.stp_core.specs.Settling.{out_of}
use Rattle.stp_core.proofs.Reading.{moved_none}
use Rattle.stp_core.proofs.tree.Tree.tick.Goals as goal

pub returns-then-is_idle-clause-out : goal.returns-then-is_idle-clause-out
returns-then-is_idle-clause-out c =
    let t = c.args.self.now in
    let moved = c.empty.ensures ∙ sym (moved_none t) in
    (λ i. record { moved = moved i; config = c.empty-then-is_idle.ensures i; tcn = None })
    ∙ ap (out_of t) (sym (c.is_idle.ensures c.if-is_idle.true))
