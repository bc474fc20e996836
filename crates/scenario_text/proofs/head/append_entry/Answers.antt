use Rattle.std.proofs.Common.{ℕ, Option, unwrap_or, ap, ◌∙◌}
use Rattle.br_model.specs.Table.Domains.{software}
use Rattle.scenario_text.proofs.Declared.{declared_at, entry_line}
use Rattle.scenario_text.proofs.head.append_entry.Goals as goal

pub name-requires : goal.name-requires
name-requires c = declared_at c.args.r.now.ports c.args.i _ c.in-Some.ensures.value

pub returns : goal.returns
returns c =
    entry_line c.append_port.result c.args.r.now.edition c.args.r.now.ports c.args.i c.in-Some.port c.unwrap_or-dom.result c.args.domains.now c.name.result.now _ _ c.in-Some.ensures.declared
    c.requires
    c.in-Some.ensures.value (c.unwrap_or-dom.ensures ∙ ap (λ (o : Option ℕ). unwrap_or o software) c.of.ensures.value) c.name.ensures c.append_port.ensures
