use Rattle.std.proofs.Common.{sym, ap, ◌∙◌}
use Rattle.open_addressing.specs.Finite.{key_if}
use Rattle.open_addressing.proofs.Zipped.{pair-at, key_if-yes, key_if-no, key_if-empty}
use Rattle.open_addressing.proofs.dense.key_if.Goals as goal

pub returns-then-pair-eq0 : goal.returns-then-pair-eq0
returns-then-pair-eq0 g c =
    let p = g.T.Test.passes c.args.test.now in
    let e = c.index-pairs-i.result in
    key_if-empty p e.0 e.1 c.if-pair-eq0.true ∙ ap (key_if p) (sym (pair-at c.args.pairs.now c.args.i e c.requires c.index-pairs-i.is))

pub returns-then-passes : goal.returns-then-passes
returns-then-passes g c =
    let p = g.T.Test.passes c.args.test.now in
    let e = c.index-pairs-i.result in
    key_if-yes p e.0 e.1 c.if-pair-eq0.false (sym c.passes.ensures ∙ c.if-passes.true) ∙ ap (key_if p) (sym (pair-at c.args.pairs.now c.args.i e c.requires c.index-pairs-i.is))

pub returns-else-passes : goal.returns-else-passes
returns-else-passes g c =
    let p = g.T.Test.passes c.args.test.now in
    let e = c.index-pairs-i.result in
    key_if-no p e.0 e.1 (sym c.passes.ensures ∙ c.if-passes.false) ∙ ap (key_if p) (sym (pair-at c.args.pairs.now c.args.i e c.requires c.index-pairs-i.is))
