use Rattle.std.proofs.Common.{ℕ, List, Option, set, sym, ap, subst, ◌<◌, ◌∙◌, length, arith}
use Rattle.open_addressing.specs.Zipped.{cell_of}
use Rattle.open_addressing.proofs.Zipped.{padded-write, padded-within}
use Rattle.open_addressing.proofs.dense.Pairs.write.Goals as goal

pub put_item-requires : goal.put_item-requires
put_item-requires g c =
    let s = c.self.inside in
    let h = padded-within s.count s.pairs.items c.args.i s.blank (subst (λ (cs : List (Option (ℕ × g.row.V.Denot))). c.args.i < length cs) (sym c.self.view_is) c.requires) in
    omega (arith, c.self.invariant.1)

pub invariant_of-self : goal.invariant_of-self
invariant_of-self g c =
    let s = c.self.inside in
    let h = padded-within s.count s.pairs.items c.args.i s.blank (subst (λ (cs : List (Option (ℕ × g.row.V.Denot))). c.args.i < length cs) (sym c.self.view_is) c.requires) in
    (c.put_item.ensures.len s.count h c.self.invariant.0, omega (arith, c.self.invariant.1, c.put_item.ensures.room))

pub returns : goal.returns
returns g c =
    let s = c.self.inside in
    padded-write s.count s.pairs.items c.put_item.new.items.items c.args.i s.blank (c.args.key, c.args.value) (c.put_item.ensures.items s.count)
    ∙ ap (λ (cs : List (Option (ℕ × g.row.V.Denot))). set cs c.args.i (cell_of c.args.key c.args.value)) c.self.view_is
