use Rattle.std.proofs.Common.{ap, sym, ◌∙◌}
use Rattle.br_model.specs.Table.Table.{Table}
use Rattle.br_model.specs.Forward.Targets.{targets, with_flag, flood}
use Rattle.forward_rules.specs.PortSets.{set_of}
use Rattle.forward_rules.proofs.Deciding.{group-targets, unknown-targets, unknown-none}
use Rattle.forward_rules.proofs.soft_tables.SoftTables.targets.Goals as goal

pub returns-then-is_multicast : goal.returns-then-is_multicast
returns-then-is_multicast c =
    c.group_targets.ensures
    ∙ ap set_of (group-targets c.self.inside.ports c.self.inside.fdb.entries c.args.vid c.args.h.now c.args.m.now (sym c.is_multicast.ensures ∙ c.if-is_multicast.true))
    ∙ ap (λ (t : Table). set_of (targets t c.args.vid c.args.h.now c.args.m.now)) c.self.view_is

pub returns-else-is_multicast : goal.returns-else-is_multicast
returns-else-is_multicast c =
    let station = sym c.is_multicast.ensures ∙ c.if-is_multicast.false in
    c.flood.ensures
    ∙ ap (λ (t : Table). set_of (with_flag t flood)) c.self.view_is
    ∙ ap set_of (sym (unknown-targets c.args.self.now c.args.vid c.args.h.now c.args.m.now station (unknown-none c.args.self.now c.args.vid c.args.h.now.dst station c.requires)))
