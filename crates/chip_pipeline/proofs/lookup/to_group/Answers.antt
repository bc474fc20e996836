use Rattle.std.proofs.Common.{sym, ap, ◌++◌, ◌∙◌}
use Rattle.br_model.specs.Forward.Targets.{members_of, multicast_flood}
use Rattle.chip_pipeline.proofs.Members.{flood-goals, goals, lead-alike, flooded, members-goals}
use Rattle.chip_pipeline.proofs.lookup.to_group.Goals as goal

pub returns-then-goes_to_members : goal.returns-then-goes_to_members
returns-then-goes_to_members c d dom t port stands none =
    lead-alike d dom t port c.args.vid c.to_members.result (members_of t c.args.vid c.in-Payload.group ++ t.routers) (goals t c.args.vid c.args.msg.now) (c.to_members.ensures d dom t port stands)
    (ap (goals t c.args.vid) c.in-Payload.is ∙ members-goals t c.args.vid c.in-Payload.group (sym (c.goes_to_members.ensures d dom t stands) ∙ c.if-goes_to_members.true))

pub returns-else-goes_to_members : goal.returns-else-goes_to_members
returns-else-goes_to_members c d dom t port stands none =
    lead-alike d dom t port c.args.vid c.multicast_flood.result (multicast_flood t) (goals t c.args.vid c.args.msg.now) (c.multicast_flood.ensures d dom t port stands)
    (ap (goals t c.args.vid) c.in-Payload.is ∙ flood-goals t c.args.vid c.in-Payload.group (sym (c.goes_to_members.ensures d dom t stands) ∙ c.if-goes_to_members.false))

pub returns-in-Plain : goal.returns-in-Plain
returns-in-Plain c d dom t port stands none =
    lead-alike d dom t port c.args.vid c.multicast_flood-in-Plain.result (multicast_flood t) (goals t c.args.vid c.args.msg.now) (c.multicast_flood-in-Plain.ensures d dom t port stands)
    (flooded t c.args.vid c.args.msg.now none c.in-Plain.is)
