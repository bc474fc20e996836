use Rattle.br_model.specs.declared.steps.Step.TheVariants.{Cmd}
use Rattle.example_plane.proofs.Boards.{same_board}
use Rattle.example_plane.proofs.obey.Goals as goal

pub returns : goal.returns
returns c = same_board c.accept_to.result c.args.plane.now c.accept_to.new.self (Cmd c.args.command) c.args.lines.now.lines c.accept_to.new.lines.lines c.accept_to.ensures.ok c.accept_to.ensures.err
