use Rattle.std.proofs.Common.{◌≡◌, ◌+◌, ◌++◌, ◌∷◌, [], List, ℕ, length, Some, sym, ap, ap₂, subst, ◌∙◌}
use Rattle.std.specs.Prelude.{is_some}
use Rattle.lemmas.proofs.Endings.{some_is}
use Rattle.br_model.specs.declared.frame.Class.{Class}
use Rattle.br_model.specs.declared.frame.McastMsg.{McastMsg}
use Rattle.br_model.specs.declared.transcript.Line.{Line}
use Rattle.br_model.specs.declared.transcript.Line.TheVariants as lines
use Rattle.br_model.specs.Plane.Chip.{Chip, chip_in, chip_table, hits_entry, offers, put_chip}
use Rattle.br_model.specs.Table.Domains.{domain_of}
use Rattle.br_model.specs.Table.Table.{Table}
use Rattle.br_model.specs.Wire.Messages.{message}
use Rattle.br_model.specs.declared.steps.Step.TheVariants.{Rx}
use Rattle.br_model.specs.Plane.Steps.{world_step}
use Rattle.br_model.specs.Plane.World.{World, chip_at, sent, table_of_chip}
use Rattle.br_model.specs.Forward.Shares.{chip_out}
use Rattle.chip_pipeline.specs.Passed.{IsPass}
use Rattle.plane_parts.specs.declared.frames.Arrival.{Arrival}
use Rattle.plane_parts.specs.Arrivals.{settled, arrival_lines}
use Rattle.plane_core.specs.Planes.{PlaneState, Steps, arrival_by}
use Rattle.plane_parts.specs.Queued.{Queued}
use Rattle.plane_parts.specs.Sent.{lines_of}
use Rattle.plane_core.specs.Sides.{SidesState, world_of}
use Rattle.plane_parts.proofs.Adding.{behind}
use Rattle.plane_core.proofs.Entering.{enters_by_chip}
use Rattle.plane_core.proofs.Stepping.{stepped}
use Rattle.plane_core.proofs.plane.Plane.enter_chip.Goals as goal

module _ (c : goal.After-self-1) where
  abbrev was : World
  was = world_of c.self.inside.sides c.self.inside.frames c.self.inside.steps

  abbrev chips : List Chip
  chips = c.self.inside.sides.chips

  -- the chip
  found : (x : Chip) × (chip_in chips c.args.d ≡ Some x)
  found = some_is (chip_in chips c.args.d) (ap (λ (p : PlaneState). is_some (chip_at p.world c.args.d)) c.self.view_is ∙ c.requires.chip)

  -- by which it decides
  abbrev decides : Table
  decides = chip_table c.self.inside.sides.setup.domains.edition c.self.inside.sides.history found.0

  -- what becomes of the frame
  abbrev goes : Arrival
  goes = arrival_by c.pass-pass.result.class was c.args.p c.args.b c.args.head.now

  -- what the chip says of it, and what it sends
  abbrev decision : Line
  decision = lines.Chip c.self.inside.frames.next (length c.self.inside.sides.history) found.0.count c.pass-pass.result.class

  abbrev leaves : List Line
  leaves = sent c.self.inside.frames.next (chip_out c.self.inside.sides.setup.domains decides c.args.p c.args.b c.args.head.now)

  -- the sides after it
  abbrev after : SidesState
  after = record c.self.inside.sides { chips = put_chip chips (hits_entry c.pass-pass.result.hit (offers c.args.p c.pass-pass.result.report found.0)) }

  arrived : c.arrival-arrival.result ≡ goes
  arrived = c.arrival-arrival.ensures.value c.self.inside.sides c.self.inside.steps (ap (λ (p : PlaneState). domain_of p.world.setup.domains c.args.p) c.self.view_is ∙ c.requires.port)
      ∙ ap (λ (k : Class). arrival_by k was c.args.p c.args.b c.args.head.now) c.class-class.ensures

  sides-are : c.note.new.self ≡ after
  sides-are = c.in_ok-note.ensures.ok found.0 found.1

  frames-are : c.settle.new.self ≡ settled c.self.inside.frames goes
  frames-are = c.settle.ensures ∙ ap (settled c.self.inside.frames) arrived

  counted : c.args.step ≡ c.self.inside.steps + 1
  counted = c.requires.step ∙ sym (ap (λ (p : PlaneState). p.world.steps + 1) c.self.view_is)

  world-is : world_of c.note.new.self c.settle.new.self c.args.step ≡ world_of after (settled c.self.inside.frames goes) (c.self.inside.steps + 1)
  world-is = ap (λ (s : SidesState). world_of s c.settle.new.self c.args.step) sides-are ∙ ap₂ (λ (q : Queued) (n : ℕ). world_of after q n) frames-are counted

  id-is : c.next_id-id.result ≡ c.self.inside.frames.next
  id-is = c.next_id-id.ensures

  first-line : c.chip_line-decision.result ≡ decision
  first-line = c.chip_line-decision.ensures.line found.0 (ap (λ (p : PlaneState). chip_at p.world c.args.d) (sym c.self.view_is) ∙ found.1)
      ∙ ap (λ (p : PlaneState). lines.Chip c.next_id-id.result (length p.world.history) found.0.count c.class-class.result) (sym c.self.view_is)
      ∙ ap₂ (λ (id : ℕ) (k : Class). lines.Chip id (length c.self.inside.sides.history) found.0.count k) id-is c.class-class.ensures

  said : message c.as_slice-bytes.result.now c.args.head.now ≡ message c.args.b c.args.head.now
  said = ap (λ (b : List ℕ). message b c.args.head.now) c.as_slice-bytes.ensures

  passed : IsPass c.self.inside.sides.setup.domains decides c.args.p c.args.head.now (message c.args.b c.args.head.now) c.pass-pass.result
  passed =
      subst (λ (m : McastMsg). IsPass c.self.inside.sides.setup.domains decides c.args.p c.args.head.now m c.pass-pass.result) (c.classify-message.ensures.value ∙ said)
      (c.pass-pass.ensures found.0 found.1)

  all-lines : c.tell.new.lines.lines ≡ c.args.lines.now.lines ++ ((decision ∷ leaves) ++ arrival_lines c.self.inside.frames.next goes)
  all-lines = c.tell.ensures.lines
      ∙ ap₂ (λ (before : List Line) (after : List Line). before ++ after)
      (c.send.ensures.lines ∙ ap₂ (λ (before : List Line) (after : List Line). before ++ after)
      (c.push_reserved.ensures.lines ∙ ap₂ (λ (before : List Line) (l : Line). before ++ l ∷ []) c.in_ok-make_room.ensures.lines first-line)
      (ap (λ (b : List ℕ). lines_of c.next_id-id.result b c.args.head.now c.egress_of.result) c.as_slice-bytes.ensures ∙ c.egress_of.ensures _ _ _ _ _ passed c.next_id-id.result
      ∙ ap (λ (id : ℕ). sent id (chip_out c.self.inside.sides.setup.domains decides c.args.p c.args.b c.args.head.now)) id-is))
      (ap₂ arrival_lines id-is arrived)
      ∙ behind c.args.lines.now.lines leaves (arrival_lines c.self.inside.frames.next goes) decision

  abbrev told : List Line
  told = (decision ∷ leaves) ++ arrival_lines c.self.inside.frames.next goes

  made : world_step was (Rx c.args.p c.args.b) ≡ (world_of c.note.new.self c.settle.new.self c.args.step, told)
  made = enters_by_chip c.self.inside.sides c.self.inside.frames c.self.inside.steps c.args.p c.args.b c.args.head.now c.requires.frame
      c.args.d found.0 (ap (λ (p : PlaneState). domain_of p.world.setup.domains c.args.p) c.self.view_is ∙ c.requires.port) found.1 c.pass-pass.result passed
      ∙ sym (ap (λ (v : World). (v, told)) world-is)

pub invariant_of-self-2 : goal.invariant_of-self-2
invariant_of-self-2 c = stepped (was c) _ (Rx c.args.p c.args.b) _ (made c) c.self.invariant

pub returns-clause-step : goal.returns-clause-step
returns-clause-step c = record {
  lines = told c;
  so = subst (λ (p : PlaneState). Steps p (record { world = world_of c.note.new.self c.settle.new.self c.args.step; board = c.note.new.self.board }) (Rx c.args.p c.args.b) (told c)) c.self.view_is
      (record { world = made c; board = ap (λ (s : SidesState). s.board) (sides-are c) });
  added = all-lines c;
}

pub returns-clause-pass : goal.returns-clause-pass
returns-clause-pass c x at =
    subst (λ (p : PlaneState). IsPass p.world.setup.domains (table_of_chip p.world x) c.args.p c.args.head.now (message c.args.b c.args.head.now) c.pass-pass.result) c.self.view_is
    (subst (λ (m : McastMsg). IsPass c.self.inside.sides.setup.domains
    (chip_table c.self.inside.sides.setup.domains.edition c.self.inside.sides.history x) c.args.p c.args.head.now m c.pass-pass.result) (c.classify-message.ensures.value ∙ said c)
    (c.pass-pass.ensures x (ap (λ (p : PlaneState). chip_at p.world c.args.d) c.self.view_is ∙ at)))
