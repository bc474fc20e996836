use Rattle.std.proofs.Common.{◌<◌, List, ℕ, None, length, map, get_or, sym, ap, ap₂, ◌∙◌, arith}
use Rattle.std.proofs.lemmas.List.{length-map, take_all}
use Rattle.open_addressing.specs.Least.{smaller, number_if, least_in}
use Rattle.open_addressing.specs.Zipped.{pair_cell}
use Rattle.open_addressing.proofs.Least.{least_in-next, least-padded}
use Rattle.open_addressing.proofs.dense.Pairs.least.Goals as goal

pub number_if-requires : goal.number_if-requires
number_if-requires g c = omega (arith, ap length c.as_slice.ensures.value, c.self.inside.pairs.ok.0)

pub loop-i-preserved : goal.loop-i-preserved
loop-i-preserved g c =
    let es = c.self.inside.pairs.items in
    let f = g.M.Measure.number c.args.measure.now in
    let within : c.loop-i.i < length (map pair_cell es) = omega (arith, length-map es pair_cell, c.self.inside.pairs.ok.0) in
    let got = c.number_if.ensures ∙ ap (λ (xs : List (ℕ × g.row.V.Denot)). number_if f (get_or (map pair_cell xs) c.loop-i.i None)) c.as_slice.ensures.value in
    c.smaller-least.ensures ∙ ap₂ smaller c.loop-i.invariant got ∙ sym (least_in-next f (map pair_cell es) c.loop-i.i within)

pub returns : goal.returns
returns g c =
    let s = c.self.inside in
    let es = s.pairs.items in
    let f = g.M.Measure.number c.args.measure.now in
    c.loop-i.invariant ∙ ap (least_in f) (take_all c.loop-i.i (map pair_cell es) (omega (arith, length-map es pair_cell, c.self.inside.pairs.ok.0)))
    ∙ sym (least-padded f s.count es s.blank c.self.invariant.0) ∙ ap (least_in f) c.self.view_is
