use Rattle.std.proofs.Common.{ap, sym, ◌∙◌, Some}
use Rattle.br_model.specs.Table.Table.{Table}
use Rattle.forward_rules.specs.Verdicts.{known_port}
use Rattle.forward_rules.proofs.Deciding.{known-none, known-some}
use Rattle.forward_rules.proofs.soft_tables.SoftTables.known_port.Goals as goal

pub returns-in_err-entry : goal.returns-in_err-entry
returns-in_err-entry c =
    c.from_residual.ensures
    ∙ sym (known-none c.self.inside.ports c.self.inside.fdb.entries c.args.vid c.args.address (sym c.is_multicast.ensures ∙ c.if-is_multicast.false) (sym c.find.ensures ∙ c.in_err-entry.was))
    ∙ ap (λ (t : Table). known_port t c.args.vid c.args.address) c.self.view_is

pub returns : goal.returns
returns c =
    ap Some c.port_of.ensures
    ∙ sym (known-some c.self.inside.ports c.self.inside.fdb.entries c.args.vid c.args.address c.in_ok-entry.entry (sym c.is_multicast.ensures ∙ c.if-is_multicast.false) (sym c.find.ensures
    ∙ c.in_ok-entry.was))
    ∙ ap (λ (t : Table). known_port t c.args.vid c.args.address) c.self.view_is
