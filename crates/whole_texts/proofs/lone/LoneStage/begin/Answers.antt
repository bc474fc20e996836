use Rattle.std.proofs.Common.{◌≡◌, ap, ◌∙◌}
use Rattle.br_model.specs.Plane.World.{first_world}
use Rattle.br_model.specs.Program.Runs.{setup_of}
use Rattle.whole_texts.proofs.Stages.{begins_lone}
use Rattle.whole_texts.proofs.lone.LoneStage.begin.Goals as goal

pub returns : goal.returns
returns c =
    let setup : record { domains = c.domains.result; own = c.own.result } ≡ setup_of c.args.roster.now = λ i. record { domains = c.domains.ensures.value i; own = c.own.ensures i } in
    begins_lone c.args.self.now.world _ (setup_of c.args.roster.now) (c.in_ok-make.ensures ∙ ap first_world setup)
