use Rattle.std.proofs.Common.{◌<◌, ◌^◌, sym, subst, string_bytes}
use Rattle.std.proofs.lemmas.Result.{on_ok_weaker}
use Rattle.br_model.specs.Table.Domains.{chip_domains}
use Rattle.run_world.proofs.Querying.{after_early, asked_as, early_by, goes, hears_step, here_after, on_ok_both}
use Rattle.run_world.proofs.asking.Host.step.Goals as goal

pub hear_all-requires : goal.hear_all-requires
hear_all-requires g c =
    let early =
    early_by (chip_domains c.args.world.now.setup.domains) c.args.step c.step.new.lines.lines c.moment_named-named.result c.coming-comes.result c.requires.by_line c.moment_named-named.ensures
    c.coming-comes.ensures in
    subst (λ n. n < 2 ^ 53) (sym c.later-self.ensures) (after_early c.coming-comes.result c.args.self.now.now early c.requires.here.early)

pub pass-requires : goal.pass-requires
pass-requires g c =
    early_by (chip_domains c.args.world.now.setup.domains) c.args.step c.step.new.lines.lines c.moment_named-named.result c.coming-comes.result c.requires.by_line c.moment_named-named.ensures
    c.coming-comes.ensures

pub returns-clause-here : goal.returns-clause-here
returns-clause-here g c =
    on_ok_weaker c.pass.result
    (λ ticks. here_after c.args.self.now c.args.world.now c.args.step c.step.new.lines.lines c.step.new.self c.hear_all.new.querier _
    (goes c.args.self.now c.args.world.now c.step.new.self c.args.step c.args.lines.now.lines c.step.new.lines.lines c.moment_named-named.result c.coming-comes.result c.enter.new.self
    c.later-self.result c.hear_all.new.querier
    c.pass.new.querier c.requires.here c.in_ok-step.ensures c.requires.empty c.moment_named-named.ensures c.coming-comes.ensures c.in_ok-enter.ensures c.later-self.ensures c.hear_all.ensures ticks)
    (chip_domains c.args.world.now.setup.domains) c.requires.by_line)
    c.pass.ensures.querier

pub returns-clause-hears : goal.returns-clause-hears
returns-clause-hears g c =
    on_ok_both c.pass.result c.pass.ensures.querier c.pass.ensures.text
    (λ ticks grew. hears_step c.args.self.now c.args.world.now c.args.step c.step.new.lines.lines c.step.new.self c.hear_all.new.querier _
    (goes c.args.self.now c.args.world.now c.step.new.self c.args.step c.args.lines.now.lines c.step.new.lines.lines c.moment_named-named.result c.coming-comes.result c.enter.new.self
    c.later-self.result c.hear_all.new.querier
    c.pass.new.querier c.requires.here c.in_ok-step.ensures c.requires.empty c.moment_named-named.ensures c.coming-comes.ensures c.in_ok-enter.ensures c.later-self.ensures c.hear_all.ensures ticks)
    (string_bytes c.args.text.now) (string_bytes c.pass.new.text)
    (asked_as c.args.step c.step.new.lines.lines c.moment_named-named.result c.coming-comes.result c.hear_all.new.querier (string_bytes c.args.text.now)
    (string_bytes c.pass.new.text) c.moment_named-named.ensures c.coming-comes.ensures grew))
