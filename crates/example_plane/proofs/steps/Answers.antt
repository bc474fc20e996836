use Rattle.std.proofs.Common.{sym, ◌∙◌}
use Rattle.example_plane.proofs.steps.Goals as goal

pub send-requires : goal.send-requires
send-requires g c =
    c.requires
    ∙ (sym c.in_ok-obey.ensures
    ∙ (sym c.in_ok-obey-2.ensures
    ∙ (sym c.in_ok-obey-3.ensures
    ∙ (sym c.in_ok-obey-4.ensures
    ∙ sym c.in_ok-publish_to.ensures.ok.so.board))))

pub send-requires-2 : goal.send-requires-2
send-requires-2 g c = c.in_ok-send.ensures ∙ sym c.in_ok-turn_next.ensures.ok.so.board
