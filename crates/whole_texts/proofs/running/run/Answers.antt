use Rattle.std.proofs.Common.{◌∙◌}
use Rattle.whole_texts.proofs.Runs.{read_gives, run_agrees}
use Rattle.whole_texts.proofs.running.run.Goals as goal

pub do_steps-requires : goal.do_steps-requires
do_steps-requires c = read_gives c.requires.0 c.args.scenario _ _ c.requires.1 (c.in_ok-roster.ensures ∙ c.roster.ensures) c.into_steps.ensures

pub returns : goal.returns
returns c = λ bytes says ended.
    run_agrees bytes c.args.scenario _ _ _ (c.in_ok-roster.ensures ∙ c.roster.ensures) c.into_steps.ensures c.in_ok-stage.ensures says ended
