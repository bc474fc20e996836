use Rattle.std.proofs.Common.{◌≡◌, true, sym, ◌∙◌}
use Rattle.std.specs.Prelude.{◌∷◌}
use Rattle.std.proofs.lemmas.Bool.{eq-eqb, ne_eqb}
use Rattle.br_model.specs.Table.Domains.{host}
use Rattle.br_model.specs.Data.Numbers.{broadcast, is_multicast}
use Rattle.br_model.specs.Forward.Targets.{bcast_flood, with_flag}
use Rattle.chip_pipeline.proofs.Leading.{broadcast-targets, group-targets, host-way, many-way, nowhere-way}
use Rattle.chip_pipeline.proofs.Members.{goals}
use Rattle.chip_pipeline.proofs.lookup.lookup.Goals as goal

pub returns-then-not-is_multicast : goal.returns-then-not-is_multicast
returns-then-not-is_multicast c d dom t port at free = c.to_station.ensures d dom t port c.args.msg.now at

pub returns-then-is_for_nobody : goal.returns-then-is_for_nobody
returns-then-is_for_nobody c d dom t port at free =
    let group : is_multicast c.args.head.now.dst ≡ true = sym c.is_multicast.ensures ∙ c.if-not-is_multicast.false in
    nowhere-way d dom t port c.args.vid c.args.head.now c.args.msg.now group (sym (c.is_for_nobody.ensures d dom t at.stands) ∙ c.if-is_for_nobody.true)

pub returns-then-is_trapped_for_host : goal.returns-then-is_trapped_for_host
returns-then-is_trapped_for_host c d dom t port at free =
    let group : is_multicast c.args.head.now.dst ≡ true = sym c.is_multicast.ensures ∙ c.if-not-is_multicast.false in
    host-way d dom c.args.tables.now t port c.args.vid c.args.head.now c.args.msg.now at group (sym (c.is_for_nobody.ensures d dom t at.stands) ∙ c.if-is_for_nobody.false)
    (sym (c.is_trapped_for_host.ensures d dom t at.stands) ∙ c.if-is_trapped_for_host.true)

pub returns-then-number-eq-BROADCAST_ADDRESS : goal.returns-then-number-eq-BROADCAST_ADDRESS
returns-then-number-eq-BROADCAST_ADDRESS c d dom t port at free =
    let group : is_multicast c.args.head.now.dst ≡ true = sym c.is_multicast.ensures ∙ c.if-not-is_multicast.false in
    let reserved = sym (c.is_trapped_for_host.ensures d dom t at.stands) ∙ c.if-is_trapped_for_host.false in
    many-way d dom t port c.args.vid c.args.head.now c.args.msg.now (host ∷ with_flag t bcast_flood) c.to_all.result (c.to_all.ensures d dom t port at.stands)
    (broadcast-targets t c.args.vid c.args.head.now c.args.msg.now (sym (c.is_for_nobody.ensures d dom t at.stands) ∙ c.if-is_for_nobody.false) reserved
    (eq-eqb c.args.head.now.dst broadcast (sym c.number.ensures.value ∙ c.if-number-eq-BROADCAST_ADDRESS.true))) group reserved

pub returns-else-number-eq-BROADCAST_ADDRESS : goal.returns-else-number-eq-BROADCAST_ADDRESS
returns-else-number-eq-BROADCAST_ADDRESS c d dom t port at free =
    let group : is_multicast c.args.head.now.dst ≡ true = sym c.is_multicast.ensures ∙ c.if-not-is_multicast.false in
    let reserved = sym (c.is_trapped_for_host.ensures d dom t at.stands) ∙ c.if-is_trapped_for_host.false in
    many-way d dom t port c.args.vid c.args.head.now c.args.msg.now (goals t c.args.vid c.args.msg.now) c.to_group.result (c.to_group.ensures d dom t port at.stands free)
    (group-targets t c.args.vid c.args.head.now c.args.msg.now group (sym (c.is_for_nobody.ensures d dom t at.stands) ∙ c.if-is_for_nobody.false) reserved
    (ne_eqb c.args.head.now.dst broadcast (λ e. c.if-number-eq-BROADCAST_ADDRESS.false (c.number.ensures.value ∙ e)))) group reserved
