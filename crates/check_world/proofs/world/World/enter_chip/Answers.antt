use Rattle.std.proofs.Common.{◌≡◌, ◌++◌, ◌∷◌, [], List, ℕ, length, Some, sym, ap, ap₂, subst, ◌∙◌}
use Rattle.std.specs.Prelude.{is_some}
use Rattle.lemmas.proofs.Endings.{some_is}
use Rattle.br_model.specs.declared.frame.McastMsg.{McastMsg}
use Rattle.br_model.specs.declared.transcript.Line.{Line}
use Rattle.br_model.specs.declared.transcript.Line.TheVariants as lines
use Rattle.br_model.specs.Plane.Chip.{Chip, chip_in}
use Rattle.br_model.specs.Plane.World.{World, chip_at, sent}
use Rattle.br_model.specs.Forward.Shares.{chip_out}
use Rattle.br_model.specs.Table.Domains.{Domains, domain_of}
use Rattle.br_model.specs.Wire.Messages.{message}
use Rattle.plane_parts.specs.Arrivals.{arrival_lines}
use Rattle.forward_rules.specs.Decided.{Decides}
use Rattle.plane_parts.specs.Sent.{lines_of}
use Rattle.plane_parts.proofs.Adding.{behind}
use Rattle.check_world.specs.Sides.{SidesState, table_of}
use Rattle.check_world.proofs.Entering.{tells_chip, told}
use Rattle.check_world.proofs.world.World.enter_chip.Goals as goal

module _ (c : goal.After-self-1) where
  abbrev s : SidesState
  s = c.self.inside.sides

  found : (x : Chip) × (chip_in s.chips c.args.d ≡ Some x)
  found = some_is (chip_in s.chips c.args.d) (ap (λ (o : World). is_some (chip_at o c.args.d)) c.self.view_is ∙ c.requires.chip)

  on : domain_of s.setup.domains c.args.port ≡ Some c.args.d
  on = ap (λ (o : World). domain_of o.setup.domains c.args.port) c.self.view_is ∙ c.requires.port

  said : c.classify-message.result ≡ message c.args.b c.args.head.now
  said = c.classify-message.ensures.value ∙ ap (λ (b : List ℕ). message b c.args.head.now) c.as_slice-bytes.ensures

  decided : Decides s.setup.domains (table_of s found.0) c.args.port c.args.head.now (message c.args.b c.args.head.now) c.decide-verdict.result
  decided = subst (λ (m : McastMsg). Decides s.setup.domains (table_of s found.0) c.args.port c.args.head.now m c.decide-verdict.result) said (c.decide-verdict.ensures found.0 found.1)

  leaves : (id : ℕ) → lines_of id c.args.b c.args.head.now c.of_share-out.result ≡ sent id (chip_out s.setup.domains (table_of s found.0) c.args.port c.args.b c.args.head.now)
  leaves id =
      subst (λ (d : Domains). domain_of d c.args.port ≡ Some c.args.d → Decides d (table_of s found.0) c.args.port c.args.head.now (message c.args.b c.args.head.now) c.decide-verdict.result
      → lines_of id c.args.b c.args.head.now c.of_share-out.result ≡ sent id (chip_out d (table_of s found.0) c.args.port c.args.b c.args.head.now))
      c.domains.ensures (λ here is. c.of_share-out.ensures (table_of s found.0) c.args.port c.args.b c.args.head.now here is id) on decided

  abbrev id : ℕ
  id = c.self.inside.frames.next

  abbrev decision : Line
  decision = lines.Chip id (length s.history) found.0.count c.decide-verdict.result.class

  first-line : c.chip_line-decision.result ≡ decision
  first-line = c.chip_line-decision.ensures.line found.0 (ap (λ (o : World). chip_at o c.args.d) (sym c.self.view_is) ∙ found.1)
      ∙ ap (λ (o : World). lines.Chip c.next_id-id.result (length o.history) found.0.count c.decide-verdict.result.class) (sym c.self.view_is)
      ∙ ap (λ n. lines.Chip n (length s.history) found.0.count c.decide-verdict.result.class) c.next_id-id.ensures

  all-lines : c.tell.new.lines.lines ≡ c.args.lines.now.lines ++ told c.args.self.now s c.note.new.self c.self.inside.frames c.settle.new.self c.self.inside.steps c.args.step c.args.port c.args.d
      c.args.b c.args.head.now found.0 c.decide-verdict.result.class c.arrival-arrival.result
  all-lines = c.tell.ensures.lines
      ∙ ap₂ (λ (before : List Line) (n : ℕ). before ++ arrival_lines n c.arrival-arrival.result)
      (c.send.ensures.lines ∙ ap₂ (λ (before : List Line) (after : List Line). before ++ after)
      (c.push_reserved.ensures.lines ∙ ap₂ (λ (before : List Line) (l : Line). before ++ l ∷ []) c.in_ok-make_room.ensures.lines first-line)
      (ap (λ (b : List ℕ). lines_of c.next_id-id.result b c.args.head.now c.of_share-out.result) c.as_slice-bytes.ensures ∙ leaves c.next_id-id.result
      ∙ ap (λ n. sent n (chip_out s.setup.domains (table_of s found.0) c.args.port c.args.b c.args.head.now)) c.next_id-id.ensures))
      c.next_id-id.ensures
      ∙ behind c.args.lines.now.lines (sent id (chip_out s.setup.domains (table_of s found.0) c.args.port c.args.b c.args.head.now)) (arrival_lines id c.arrival-arrival.result) decision

pub returns : goal.returns
returns c = record {
  lines = told c.args.self.now (s c) c.note.new.self c.self.inside.frames c.settle.new.self c.self.inside.steps c.args.step c.args.port c.args.d
      c.args.b c.args.head.now (found c).0 c.decide-verdict.result.class c.arrival-arrival.result;
  so = tells_chip c.args.self.now (s c) c.note.new.self c.self.inside.frames c.settle.new.self c.self.inside.steps c.args.step c.args.port c.args.d
      c.args.b c.args.head.now (found c).0 c.decide-verdict.result.class c.arrival-arrival.result
      c.requires.frame c.self.view_is c.requires.port (found c).1 c.requires.step (decided c).class (c.in_ok-note.ensures (found c).0 (found c).1)
      (c.arrival-arrival.ensures.value (s c).setup.domains (on c)) c.settle.ensures;
  added = all-lines c;
}
