use Rattle.std.proofs.Common.{None, sym, ◌∙◌}
use Rattle.std.proofs.lemmas.Bool.{eqb-true}
use Rattle.lemmas.proofs.Numbers.{ne_from_eqb}
use Rattle.open_addressing.specs.Hashed.{key_in}
use Rattle.open_addressing.specs.Zipped.{key_of}
use Rattle.open_addressing.proofs.index.held.Goals as goal

pub returns-then-holds-clause-some : goal.returns-then-holds-clause-some
returns-then-holds-clause-some g c =
    (c.requires.within, eqb-true (key_in key_of None (g.C.Cells.cells c.args.cells.now) c.args.cell) (g.C.Cells.number c.args.key.now) (sym c.holds.ensures ∙ c.if-holds.true))

pub returns-else-holds-clause-none : goal.returns-else-holds-clause-none
returns-else-holds-clause-none g c _ =
    ne_from_eqb (key_in key_of None (g.C.Cells.cells c.args.cells.now) c.args.cell) (g.C.Cells.number c.args.key.now) (sym c.holds.ensures ∙ c.if-holds.false)
