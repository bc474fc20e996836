use Rattle.std.proofs.Common.{ℕ, List, Option, [], ◌++◌, sym, ap, string_bytes, ◌∙◌}
use Rattle.std.specs.Option.{option_map_or}
use Rattle.std.proofs.lemmas.Result.{on_ok_weaker}
use Rattle.br_model.specs.Plane.Chip.{Chip}
use Rattle.chip_audit.specs.Audits.{Audited, audit_of}
use Rattle.chip_audit.specs.Lines.{audit_lines}
use Rattle.chip_audit.proofs.Waiting.{the-chip}
use Rattle.chip_audit.proofs.lines.append_domain.Goals as goal

pub returns : goal.returns
returns c =
    let w = c.args.p.now.world in
    let x = the-chip w c.args.d c.stands.ensures.world c.requires in
    let old = string_bytes c.args.to.now in
    let lines : Audited → List ℕ = audit_lines c.args.roster.now.ports c.args.d in
    on_ok_weaker c.append_comparison.result
    (λ e. e ∙ ap (λ (a : Audited). old ++ lines a) (c.in_ok-comparison.ensures x.0 x.1) ∙ ap (λ (o : Option Chip). old ++ option_map_or (λ y. lines (audit_of w y)) o []) (sym x.1))
    c.append_comparison.ensures
