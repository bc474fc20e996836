use Rattle.std.proofs.Common.{◌≡◌, ℕ, Option, None, Some, refl, sym, ◌∙◌, subst}
use Rattle.std.specs.Prelude.{IfSome}
use Rattle.lemmas.proofs.Endings.{some_is}
use Rattle.br_model.specs.Plane.Chip.{chip_in}
use Rattle.plane_core.specs.Planes.{ticket_of}
use Rattle.plane_core.proofs.Turning.{is_ticket, not_ticket, there, waits}
use Rattle.plane_core.proofs.plane.Plane.out_of_turn.Goals as goal

pub next_update-requires : goal.next_update-requires
next_update-requires c = there c.args.self.now c.self.inside.sides c.self.inside.frames c.self.inside.steps c.args.d c.self.view_is c.self.invariant c.requires

pub returns-in_default-clause-none : goal.returns-in_default-clause-none
returns-in_default-clause-none c =
    let s = c.self.inside.sides in
    let q = c.self.inside.frames in
    let n = c.self.inside.steps in
    let x = some_is (chip_in s.chips c.args.d) (there c.args.self.now s q n c.args.d c.self.view_is c.self.invariant c.requires) in
    let none = waits c.args.self.now s q n c.args.d x.0 _ None c.self.view_is x.1 (c.next_update.ensures x.0 x.1) c.in_default.is in
    subst (λ (o : Option ℕ). IfSome o (λ ticket. ticket_of c.args.u.now ≡ Some ticket)) (sym none) tt

pub returns-then-ne-clause-some : goal.returns-then-ne-clause-some
returns-then-ne-clause-some c =
    let s = c.self.inside.sides in
    let q = c.self.inside.frames in
    let n = c.self.inside.steps in
    let x = some_is (chip_in s.chips c.args.d) (there c.args.self.now s q n c.args.d c.self.view_is c.self.invariant c.requires) in
    let next = waits c.args.self.now s q n c.args.d x.0 _ (Some c.in-Some.next) c.self.view_is x.1 (c.next_update.ensures x.0 x.1) c.in-Some.is in
    (refl, next, λ e. not_ticket c.ticket_of-got.result c.in-Some.next.ticket (sym c.ne.ensures ∙ c.if-ne.true) (c.ticket_of-got.ensures ∙ e), c.ticket_of-got.ensures)

pub returns-clause-none : goal.returns-clause-none
returns-clause-none c =
    let s = c.self.inside.sides in
    let q = c.self.inside.frames in
    let n = c.self.inside.steps in
    let x = some_is (chip_in s.chips c.args.d) (there c.args.self.now s q n c.args.d c.self.view_is c.self.invariant c.requires) in
    let next = waits c.args.self.now s q n c.args.d x.0 _ (Some c.in-Some.next) c.self.view_is x.1 (c.next_update.ensures x.0 x.1) c.in-Some.is in
    subst (λ (o : Option ℕ). IfSome o (λ ticket. ticket_of c.args.u.now ≡ Some ticket)) (sym next)
    (sym c.ticket_of-got.ensures ∙ is_ticket c.ticket_of-got.result c.in-Some.next.ticket (sym c.ne.ensures ∙ c.if-ne.false))
