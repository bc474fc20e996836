use Rattle.std.proofs.Common.{sym, ◌∙◌}
use Rattle.chip_pipeline.proofs.Members.{members-lead, routers-lead}
use Rattle.chip_pipeline.proofs.lookup.to_members.Goals as goal

pub returns-in-Some : goal.returns-in-Some
returns-in-Some c d dom t port stands =
    members-lead d dom c.args.tables.now t port c.args.vid c.args.group c.in-Some.members c.router-routers.result c.both.result stands c.requires
    (sym c.in-Some.is ∙ c.group_row.ensures d dom t stands) c.router-routers.ensures c.both.ensures.ports c.both.ensures.isolated c.both.ensures.plain

pub returns-in-None : goal.returns-in-None
returns-in-None c d dom t port stands =
    routers-lead d dom c.args.tables.now t port c.args.vid c.args.group c.router-routers.result stands c.requires (sym c.in-None.is ∙ c.group_row.ensures d dom t stands) c.router-routers.ensures
