use Rattle.std.proofs.Common.{◌≡◌, ◌∙◌, subst, arith, ℕ, List, Option, Some, None, set, get_or, sym, ap, ap₂}
use Rattle.std.specs.Option.{option_map}
use Rattle.br_model.specs.declared.tree.TreePort.{TreePort}
use Rattle.stp_core.specs.Places.{AreEmptyFrom, entries_at}
use Rattle.stp_core.proofs.PlaceLaws.{entries-at_port}
use Rattle.stp_core.proofs.Reading.{empty-set, empty-without}
use Rattle.stp_core.proofs.places.change_at.Goals as goal

pub returns-in-Some-clause-entries : goal.returns-in-Some-clause-entries
returns-in-Some-clause-entries g c =
    let f = g.R.Rule.changed c.args.rule.now in
    let ps = c.args.places.now in
    let p = c.args.p in
    let here = ap (λ (n : ℕ). get_or ps n None) (sym c.from.ensures) in
    ap (λ (os : List (Option TreePort)). entries_at 0 os)
    (ap₂ (λ (n : ℕ) (o : Option TreePort). set ps n o) c.from.ensures (ap Some c.change.ensures ∙ sym (ap (option_map (λ (x : TreePort). f (p, x))) (here ∙ c.in-Some.is))))
    ∙ entries-at_port f p ps

pub returns-in_default-clause-entries : goal.returns-in_default-clause-entries
returns-in_default-clause-entries g c =
    let f = g.R.Rule.changed c.args.rule.now in
    let ps = c.args.places.now in
    let p = c.args.p in
    let here = ap (λ (n : ℕ). get_or ps n None) (sym c.from.ensures) in
    ap (λ (os : List (Option TreePort)). entries_at 0 os)
    (ap₂ (λ (n : ℕ) (o : Option TreePort). set ps n o) c.from.ensures (c.in_default.is ∙ sym (ap (option_map (λ (x : TreePort). f (p, x))) (here ∙ c.in_default.is))))
    ∙ entries-at_port f p ps

pub returns-in-Some-clause-empty : goal.returns-in-Some-clause-empty
returns-in-Some-clause-empty g c n empty =
    empty-set n c.from.result _ c.args.places.now empty (λ k up same. absurd (let e : Some c.in-Some.x ≡ None = sym c.in-Some.is ∙ empty c.from.result (omega (arith, up, same)) in cc))

pub returns-in_default-clause-empty : goal.returns-in_default-clause-empty
returns-in_default-clause-empty g c n empty =
    subst (λ (o : Option TreePort). AreEmptyFrom n (set c.args.places.now c.from.result o)) (sym c.in_default.is) (empty-without n c.from.result c.args.places.now empty)
