use Rattle.std.proofs.Common.{ℕ, ◌++◌, List, ap₂, ◌∙◌}
use Rattle.br_model.specs.declared.transcript.Line.{Line}
use Rattle.plane_parts.specs.Arrivals.{arrival_lines}
use Rattle.check_world.proofs.Entering.{tells_software}
use Rattle.check_world.proofs.world.World.enter_software.Goals as goal

pub returns : goal.returns
returns c =
    let x = c.self.inside in
    let a = c.arrive-arrival.result in
    record {
      lines = arrival_lines x.frames.next a;
      so = tells_software c.args.self.now x.sides x.frames c.settle.new.self x.steps c.args.step c.args.port c.args.bytes c.args.head.now a
          c.requires.frame c.self.view_is c.requires.off_chip c.requires.step c.arrive-arrival.ensures.value c.settle.ensures;
      added = c.tell.ensures.lines ∙ ap₂ (λ (before : List Line) (id : ℕ). before ++ arrival_lines id a) c.in_ok-reserve.ensures.lines c.next_id-id.ensures;
    }
