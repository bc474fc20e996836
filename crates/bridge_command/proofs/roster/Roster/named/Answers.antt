use Rattle.std.proofs.Common.{ap, sym, ◌∙◌}
use Rattle.std.specs.Option.{option_map}
use Rattle.br_model.specs.Text.Roster.{port_named}
use Rattle.br_model.specs.Text.Operands.{found, port_name}
use Rattle.br_model.specs.declared.scenario.LineWhy.TheVariants.{Port}
use Rattle.bridge_command.proofs.Entries.{named}
use Rattle.bridge_command.proofs.roster.Roster.named.Goals as goal

pub returns-in-Some : goal.returns-in-Some
unfolding port_name
returns-in-Some c =
    ap (found Port) (ap (option_map (λ v. v.0)) c.in-Some.ensures.value ∙ sym (named c.self.inside.ports.entries c.args.word.now))
    ∙ ap (λ r. found Port (port_named r.ports c.args.word.now)) c.self.view_is

pub returns-in-None : goal.returns-in-None
unfolding port_name
returns-in-None c =
    ap (found Port) (ap (option_map (λ v. v.0)) c.in-None.ensures.value ∙ sym (named c.self.inside.ports.entries c.args.word.now))
    ∙ ap (λ r. found Port (port_named r.ports c.args.word.now)) c.self.view_is
