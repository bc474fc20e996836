use Rattle.std.proofs.Common.{[], sym, ap, subst, ◌∙◌}
use Rattle.br_model.specs.declared.frame.McastMsg.{McastMsg}
use Rattle.br_model.specs.Control.Course.{Course}
use Rattle.br_model.specs.Control.Reaction.{learns_of}
use Rattle.br_model.specs.Table.Table.{Table, table, with_addresses}
use Rattle.br_model.specs.Wire.Messages.{RecordsStand}
use Rattle.br_model.proofs.Wire.RecordsFit.{message-stands}
use Rattle.bridge_core.specs.Answers.{carried_out, standing}
use Rattle.bridge_state.specs.Hearing.{says}
use Rattle.bridge_core.specs.Kept.{Controlled}
use Rattle.bridge_core.proofs.Accepting.{carried_as}
use Rattle.bridge_core.proofs.Seeing.{came_to, sees-said}
use Rattle.bridge_state.proofs.Speaking.{taught-ports}
use Rattle.bridge_core.proofs.bridge.Bridge.take_untold.Goals as goal

pub accept_said-requires-clause-records : goal.accept_said-requires-clause-records
accept_said-requires-clause-records c = subst (λ (m : McastMsg). RecordsStand c.args.bytes.now m) (sym c.requires.message) (message-stands c.args.bytes.now c.args.head.now)

pub returns-in_ok-plan-in-Some : goal.returns-in_ok-plan-in-Some
returns-in_ok-plan-in-Some c =
    let old = c.args.self.now in
    let r = standing old in
    let does : Course → Course = says c.in-Some.speaker c.args.bytes.now c.args.message.now in
    let at = c.self.invariant.0 ∙ ap (λ (b : Controlled). table b.history) c.self.view_is in
    let ports = taught-ports old.setup c.args.port c.args.head.now r ∙ sym (ap (λ (t : Table). with_addresses t []) at) in
    carried_as old _ _ _ _
    (ap does (came_to (carried_out old c.in_ok-plan-in-Some.plan) _ c.in_ok-plan-in-Some.ensures.plans.0)
    ∙ sees-said old.setup r c.args.port c.args.bytes.now c.args.head.now does c.requires.untold
    (c.in-Some.ensures.heard (learns_of old.setup c.args.port c.args.head.now r) c.args.bytes.now c.requires.message ports))
    c.accept_said.ensures

pub returns-in-None : goal.returns-in-None
returns-in-None c =
    let old = c.args.self.now in
    let r = standing old in
    let at = c.self.invariant.0 ∙ ap (λ (b : Controlled). table b.history) c.self.view_is in
    let ports = taught-ports old.setup c.args.port c.args.head.now r ∙ sym (ap (λ (t : Table). with_addresses t []) at) in
    carried_as old _ _ _ _
    (sees-said old.setup r c.args.port c.args.bytes.now c.args.head.now (λ x. x) c.requires.untold
    (c.in-None.ensures.heard (learns_of old.setup c.args.port c.args.head.now r) c.args.bytes.now c.requires.message ports))
    c.learn.ensures
