use Rattle.std.proofs.Common.{◌≡◌, false, not, ◌||◌, cond, ◌++◌, refl, ap, ap₂, sym, ◌∙◌}
use Rattle.br_model.specs.Table.Groups.{is_link_local, is_six}
use Rattle.br_model.specs.Table.Table.{Table}
use Rattle.br_model.specs.Forward.Targets.{knows_querier, members_of, multicast_flood, to_members}
use Rattle.forward_rules.specs.PortSets.{set_of}
use Rattle.forward_rules.specs.contracts.port_tables.PortTables.{the_view}
use Rattle.forward_rules.proofs.SetLaws.{set_of-append, set_of-set}
use Rattle.forward_rules.proofs.port_tables.PortTables.to_members.Goals as goal
use Rattle.forward_rules.proofs.port_tables.PortTables.to_members.Goals.{then-is_link_local, else-is_link_local}

pub returns-else-not-querier : goal.returns-else-not-querier
returns-else-not-querier c =
    let t : Table = the_view c.self.inside in
    let snooped : (is_link_local c.args.group || not (knows_querier t (is_six c.args.group))) ≡ false =
    elim c.if-is_link_local.branch [
      | then-is_link_local w ↦ absurd (cc)
      | else-is_link_local w ↦
          ap₂ ◌||◌ (sym c.is_link_local.ensures ∙ w.if-is_link_local.false) (ap not (ap (knows_querier t) (sym w.is_six.ensures) ∙ sym (w.querier.ensures.table t refl)) ∙ sym w.value-is
          ∙ c.if-not-querier.false)
    ] in
    set_of-append (members_of t c.args.vid c.args.group) t.routers c.members-members.result c.routers-routers.result c.or.result
    (set_of-set c.members-members.result c.members_ascend.ensures.ordered ∙ ap set_of (c.members-members.ensures.table t refl))
    (set_of-set c.routers-routers.result c.members_ascend-else-not-querier.ensures.ordered ∙ ap set_of c.routers-routers.ensures)
    c.or.ensures
    ∙ sym (ap (λ b. set_of (cond b (multicast_flood t) (members_of t c.args.vid c.args.group ++ t.routers))) snooped)
    ∙ ap (λ (x : Table). set_of (to_members x c.args.vid c.args.group)) c.self.view_is
