use Rattle.std.proofs.Common.{sym, ◌∙◌}
use Rattle.chip_pipeline.proofs.Passing.{out-sent, snooped-sent}
use Rattle.chip_pipeline.proofs.pipeline.forward_in.Goals as goal

pub returns-then-catches : goal.returns-then-catches
returns-then-catches c d dom table at other admitted =
    snooped-sent d table c.args.p c.args.vid c.args.h.now c.args.m.now c.nowhere.result c.nowhere.ensures other admitted (sym (c.catches.ensures d dom table at.stands) ∙ c.if-catches.true)

pub returns : goal.returns
returns c d dom table at other admitted =
    let free = sym (c.catches.ensures d dom table at.stands) ∙ c.if-catches.false in
    out-sent d dom c.args.t.now table c.args.p c.args.vid c.args.h.now c.args.m.now c.send-out.result c.untagged.result c.and.result at.stands c.requires.range other admitted free
    (c.send-out.ensures d dom table c.args.h.now c.args.m.now at (c.lookup-way.ensures d dom table c.args.p at free)) c.members_ascend.ensures.ordered
    c.untagged.ensures c.and.ensures
