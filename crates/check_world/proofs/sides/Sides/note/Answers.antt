use Rattle.std.proofs.Common.{◌≡◌, subst, sym}
use Rattle.std.proofs.lemmas.Result.{on_ok_weaker}
use Rattle.lemmas.proofs.Endings.{on_either}
use Rattle.check_world.specs.Cuts.{Changed, KeepsTable, noted}
use Rattle.check_world.proofs.CutChanges.{are_chips, changed_as, kept_sides, noted_keeps, noted_sides, there_at}
use Rattle.check_world.proofs.sides.Sides.note.Goals as goal

pub note-requires : goal.note-requires
note-requires c =
    let x = c.self.inside in
    there_at x.cuts c.args.self.now.chips c.args.d (are_chips x.bridge x.published x.counts.items x.cuts c.args.self.now c.self.view_is) c.requires

pub invariant_of-self : goal.invariant_of-self
invariant_of-self c =
    let x = c.self.inside in
    let kept = on_either c.note.result c.note.ensures.ok c.note.ensures.err
    (changed_as x.cuts c.note.new.self c.args.d (λ y e. e ≡ noted y c.args.port c.args.head.now) KeepsTable (λ y e is. subst (KeepsTable y) (sym is) (noted_keeps y c.args.port c.args.head.now)))
    (λ (ch : Changed x.cuts c.note.new.self c.args.d KeepsTable). ch) in
    kept_sides x.bridge x.cuts c.note.new.self x.updates x.point c.args.d c.self.invariant kept

pub returns : goal.returns
returns c =
    let x = c.self.inside in
    on_ok_weaker c.note.result (λ ch y at.
    noted_sides x.bridge x.published x.counts.items x.cuts c.note.new.self x.updates x.point c.args.self.now c.args.d y c.args.port c.args.head.now c.self.view_is c.self.invariant at ch)
    c.note.ensures.ok
