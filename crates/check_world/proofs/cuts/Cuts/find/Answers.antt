use Rattle.std.proofs.Common.{◌≡◌, List, drop, Some, sym, ap, ◌∙◌, subst, arith}
use Rattle.std.specs.Prelude.{◌==◌}
use Rattle.check_world.specs.Cuts.{CutState, IsPlace, state_in}
use Rattle.br_model.proofs.Table.ChipLists.{found-here}
use Rattle.check_world.proofs.cuts.Cuts.find.Goals as goal

pub returns-then-eq : goal.returns-then-eq
returns-then-eq c =
    let place = c.loop-place.place in
    let d = c.args.d in
    subst (λ (xs : List CutState). IsPlace xs d (Some place)) c.self.view_is
    (found-here (λ (s : CutState). s.chip) c.self.inside.cuts.items d place c.index.result.now
    (subst (λ (xs : List CutState). state_in (drop place xs) d ≡ state_in xs d) (sym c.self.view_is) c.loop-place.invariant)
    (omega (arith, c.loop-place-test.true, c.len-place-end.ensures)) (sym c.index.ensures)
    (sym (ap (λ n. n == d) c.dom.ensures) ∙ sym c.eq.ensures ∙ c.if-eq.true))
