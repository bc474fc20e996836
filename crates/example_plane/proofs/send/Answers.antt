use Rattle.std.proofs.Common.{sym, ◌∙◌}
use Rattle.br_model.specs.declared.steps.Step.TheVariants.{Serve}
use Rattle.example_plane.proofs.Boards.{same_board}
use Rattle.example_plane.proofs.send.Goals as goal

pub serve_to-requires : goal.serve_to-requires
serve_to-requires c = c.requires ∙ sym c.in_ok-enter_to.ensures.step.so.board

pub returns : goal.returns
returns c =
    c.serve_to.ensures.seat.board
    ∙ (c.requires
    ∙ (sym c.in_ok-enter_to.ensures.step.so.board
    ∙ sym (same_board c.serve_to.result c.enter_to.new.self c.serve_to.new.self Serve c.enter_to.new.lines.lines c.serve_to.new.lines.lines c.serve_to.ensures.ok c.serve_to.ensures.err)))
