use Rattle.std.proofs.Common.{◌≡◌, Some, ap, ◌∙◌}
use Rattle.std.proofs.lemmas.Result.{IfOk-weaker}
use Rattle.br_model.specs.Plane.Chip.{Chip}
use Rattle.br_model.specs.Plane.World.{chip_at}
use Rattle.chip_audit.specs.declared.comparison.Audit.{Audit}
use Rattle.chip_audit.specs.Audits.{Audited, audit_of, offloaded_keys, pending_keys, stale_keys}
use Rattle.chip_audit.proofs.auditing.audit.Goals as goal

pub returns-clause-offloaded : goal.returns-clause-offloaded
returns-clause-offloaded c =
    let w = c.args.plane.now.world in
    let f : (a : Audit) → a.offloaded ≡ offloaded_keys c.in_ok-comparison.comparison → (x : Chip) → chip_at w c.args.dom ≡ Some x → a.offloaded ≡ offloaded_keys (audit_of w x) =
    λ a e x at. e ∙ ap offloaded_keys (c.in_ok-comparison.ensures x at) in
    IfOk-weaker _ _ _ f c.audit.ensures.offloaded

pub returns-clause-pending : goal.returns-clause-pending
returns-clause-pending c =
    let w = c.args.plane.now.world in
    let f : (a : Audit) → a.pending ≡ pending_keys c.in_ok-comparison.comparison → (x : Chip) → chip_at w c.args.dom ≡ Some x → a.pending ≡ pending_keys (audit_of w x) =
    λ a e x at. e ∙ ap pending_keys (c.in_ok-comparison.ensures x at) in
    IfOk-weaker _ _ _ f c.audit.ensures.pending

pub returns-clause-stale : goal.returns-clause-stale
returns-clause-stale c =
    let w = c.args.plane.now.world in
    let f : (a : Audit) → a.stale ≡ stale_keys c.in_ok-comparison.comparison → (x : Chip) → chip_at w c.args.dom ≡ Some x → a.stale ≡ stale_keys (audit_of w x) =
    λ a e x at. e ∙ ap stale_keys (c.in_ok-comparison.ensures x at) in
    IfOk-weaker _ _ _ f c.audit.ensures.stale

pub returns-clause-waiting : goal.returns-clause-waiting
returns-clause-waiting c =
    let w = c.args.plane.now.world in
    let f : (a : Audit) → a.waiting ≡ c.in_ok-comparison.comparison.waiting → (x : Chip) → chip_at w c.args.dom ≡ Some x → a.waiting ≡ (audit_of w x).waiting =
    λ a e x at. e ∙ ap (λ (a : Audited). a.waiting) (c.in_ok-comparison.ensures x at) in
    IfOk-weaker _ _ _ f c.audit.ensures.waiting
