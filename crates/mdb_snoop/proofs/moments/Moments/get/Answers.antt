use Rattle.std.proofs.Common.{sym, ap, ◌∙◌, Some}
use Rattle.std.specs.Prelude.{slice_index}
use Rattle.mdb_snoop.proofs.Mapped.{get-there, get-not}
use Rattle.mdb_snoop.proofs.moments.Moments.get.Goals as goal

pub returns-then-has : goal.returns-then-has
returns-then-has c =
    ap (λ i. Some (slice_index c.self.inside.moments i)) (c.from.ensures ∙ c.number-then-has.ensures.value)
    ∙ sym (get-there (slice_index c.self.inside.moments) c.self.inside.ports c.args.port c.args.self.now c.self.view_is
    (rw c.number.ensures.value at (sym c.has.ensures.value ∙ c.if-has.true)))

pub returns-else-has : goal.returns-else-has
returns-else-has c =
    sym (get-not (slice_index c.self.inside.moments) c.self.inside.ports c.args.port c.args.self.now c.self.view_is
    (rw c.number.ensures.value at (sym c.has.ensures.value ∙ c.if-has.false)))
