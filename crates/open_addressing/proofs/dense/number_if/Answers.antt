use Rattle.std.proofs.Common.{sym, ap, ◌∙◌}
use Rattle.open_addressing.specs.Least.{number_if}
use Rattle.open_addressing.proofs.Zipped.{pair-at}
use Rattle.open_addressing.proofs.Least.{number_if-used, number_if-empty}
use Rattle.open_addressing.proofs.dense.number_if.Goals as goal

pub returns-then-pair-eq0 : goal.returns-then-pair-eq0
returns-then-pair-eq0 g c =
    let f = g.M.Measure.number c.args.measure.now in
    let e = c.index-pairs-i.result in
    number_if-empty f e.0 e.1 c.if-pair-eq0.true ∙ ap (number_if f) (sym (pair-at c.args.pairs.now c.args.i e c.requires c.index-pairs-i.is))

pub returns : goal.returns
returns g c =
    let f = g.M.Measure.number c.args.measure.now in
    let e = c.index-pairs-i.result in
    c.of.ensures ∙ number_if-used f e.0 e.1 c.if-pair-eq0.false ∙ ap (number_if f) (sym (pair-at c.args.pairs.now c.args.i e c.requires c.index-pairs-i.is))
