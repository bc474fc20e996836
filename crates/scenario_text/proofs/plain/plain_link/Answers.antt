use Rattle.std.proofs.Common.{ap, ◌∙◌}
use Rattle.br_model.specs.Text.FlagWords.{flags, flag_named}
use Rattle.br_model.specs.Text.Operands.{port_name}
use Rattle.scenario_text.proofs.PlainCommands.{linked}
use Rattle.scenario_text.proofs.plain.plain_link.Goals as goal

pub returns-clause-says : goal.returns-clause-says
returns-clause-says c =
    linked c.args.r.now c.args.text.now c.in_ok-named.named.1.now c.in_ok-flagged.flagged.1.now _ _ c.in-Ok.port c.in_ok-flag.flag c.in_ok-on.on c.requires
    c.in_ok-named.ensures c.in_ok-flagged.ensures c.in_ok-on.ensures (c.in_ok-flag.ensures ∙ ap (flag_named flags) c.readable.ensures)
    (c.in-Ok.ensures ∙ ap (port_name c.args.r.now.ports) c.readable-2.ensures)
