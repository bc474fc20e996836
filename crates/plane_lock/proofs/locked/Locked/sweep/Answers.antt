use Rattle.std.proofs.Common.{◌∙◌, ap, length, refl, subst}
use Rattle.br_model.specs.Table.Domains.{has_chip}
use Rattle.br_model.specs.Table.Setup.{Setup}
use Rattle.br_model.specs.declared.steps.Step.TheVariants.{Sweep}
use Rattle.plane_record.specs.Pasts.{Past}
use Rattle.plane_lock.specs.Acts.{Acted}
use Rattle.plane_lock.proofs.Settling.{acts, counted, may-settle, settled-either, settles}
use Rattle.plane_lock.proofs.locked.Locked.sweep.Goals as goal

pub sweep-requires : goal.sweep-requires
sweep-requires g c = ap (λ (s : Setup). has_chip s.domains c.args.d) c.self.invariant.1 ∙ c.requires

pub settle-requires : goal.settle-requires
settle-requires g c =
    may-settle c.self.inside.ran (Sweep c.args.d) c.sweep.new.self c.self.inside.posters.items (length c.history-changes.result.now) c.in_ok-lines.ensures.ok c.self.invariant.2
    (counted c.self.inside.ran c.plane.result.now c.history-changes.result.now (length c.history-changes.result.now) refl c.history-changes.ensures c.plane.ensures)

pub invariant_of-self-2 : goal.invariant_of-self-2
invariant_of-self-2 g c =
    settles c.self.inside.ran c.sweep.new.self c.settle.new.ran (Sweep c.args.d)
    (length c.history-changes.result.now) g.N.Name.board g.N.Name.own c.self.inside.posters.items c.settle.new.posters.items c.in_ok-lines.ensures.ok
    (settled-either c.settle.result c.sweep.new.self c.settle.new.ran (length c.history-changes.result.now) c.in_ok-lines.lines c.settle.ensures.done c.settle.ensures.undone)
    c.settle.ensures.posted c.settle.ensures.ends c.self.invariant

pub returns : goal.returns
returns g c =
    subst (λ (p : Past). Acted p c.settle.new.ran (Sweep c.args.d) c.settle.result) c.self.view_is
    (acts c.settle.result c.self.inside.ran c.sweep.new.self c.settle.new.ran (Sweep c.args.d)
    (length c.history-changes.result.now) c.in_ok-lines.lines c.in_ok-lines.ensures.ok c.in_ok-lines.ensures.lines
    (counted c.self.inside.ran c.plane.result.now c.history-changes.result.now (length c.history-changes.result.now) refl c.history-changes.ensures c.plane.ensures) c.settle.ensures.done
    c.settle.ensures.said c.settle.ensures.undone)
