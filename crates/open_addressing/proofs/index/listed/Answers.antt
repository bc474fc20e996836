use Rattle.std.proofs.Common.{◌≡◌, ℕ, None, length, get_or, sym, ap, ◌∙◌, subst, ◌<◌, arith}
use Rattle.std.proofs.lemmas.Bool.{eqb-true}
use Rattle.lemmas.proofs.Numbers.{ne_from_eqb}
use Rattle.open_addressing.specs.Hashed.{key_in}
use Rattle.open_addressing.specs.Zipped.{key_of}
use Rattle.open_addressing.proofs.Indexed.{rank_absent}
use Rattle.open_addressing.proofs.index.listed.Goals as goal

pub returns-then-place-rest-clause-none : goal.returns-then-place-rest-clause-none
returns-then-place-rest-clause-none g c _ =
    let at : ℕ → ℕ = key_in key_of None (g.C.Cells.cells c.args.cells.now) in
    rank_absent at c.args.rest.now (g.C.Cells.number c.args.key.now) c.rank-place.result c.requires.ascending c.rank-place.ensures (λ h. absurd (omega arith))

pub holds-requires : goal.holds-requires
holds-requires g c =
    let rest = c.args.rest.now in
    let read : c.from.result ≡ get_or rest c.rank-place.result 0 = c.from.ensures in
    record { within = subst (λ n. n < length (g.C.Cells.cells c.args.cells.now)) (sym read) (c.requires.within c.rank-place.result (omega arith)); key = c.requires.key }

pub returns-then-holds-clause-some : goal.returns-then-holds-clause-some
returns-then-holds-clause-some g c =
    let at : ℕ → ℕ = key_in key_of None (g.C.Cells.cells c.args.cells.now) in
    let k : ℕ = g.C.Cells.number c.args.key.now in
    let read : c.from.result ≡ get_or c.args.rest.now c.rank-place.result 0 = c.from.ensures in
    (omega arith, ap at (sym read) ∙ eqb-true (at c.from.result) k (sym c.holds.ensures ∙ c.if-holds.true))

pub returns-else-holds-clause-none : goal.returns-else-holds-clause-none
returns-else-holds-clause-none g c _ =
    let at : ℕ → ℕ = key_in key_of None (g.C.Cells.cells c.args.cells.now) in
    let k : ℕ = g.C.Cells.number c.args.key.now in
    let read : c.from.result ≡ get_or c.args.rest.now c.rank-place.result 0 = c.from.ensures in
    rank_absent at c.args.rest.now k c.rank-place.result c.requires.ascending c.rank-place.ensures
    (λ h e. ne_from_eqb (at c.from.result) k (sym c.holds.ensures ∙ c.if-holds.false) (ap at read ∙ e))
