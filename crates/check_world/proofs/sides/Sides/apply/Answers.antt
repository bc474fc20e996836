use Rattle.std.proofs.Common.{◌≡◌, ap, ◌∙◌}
use Rattle.std.proofs.lemmas.Result.{on_ok_weaker}
use Rattle.lemmas.proofs.Endings.{on_either}
use Rattle.br_model.specs.Plane.Chip.{Chip, applies}
use Rattle.br_model.proofs.Table.Counts.{count_below}
use Rattle.check_world.specs.Cuts.{CutState, turned}
use Rattle.check_world.proofs.CutChanges.{are_chips, changed, cut_found, kept_sides, next_at, there_at, turn_fits, turned_own, turned_sides}
use Rattle.check_world.proofs.sides.Sides.apply.Goals as goal

pub turn-requires-clause-there : goal.turn-requires-clause-there
turn-requires-clause-there c =
    let x = c.self.inside in
    there_at x.cuts c.args.self.now.chips c.args.d (are_chips x.bridge x.published x.counts.items x.cuts c.args.self.now c.self.view_is) c.requires.chip

pub turn-requires-clause-fits : goal.turn-requires-clause-fits
turn-requires-clause-fits c y found =
    let x = c.self.inside in
    let b = x.bridge in
    turn_fits b.setup.domains.edition b.history y c.args.update.now.change (cut_found b.setup.domains b.history x.cuts c.args.d y c.self.invariant.follows found) c.history-history.ensures.within
    (next_at b x.published x.counts.items x.cuts c.args.self.now c.self.view_is c.args.d c.args.update.now y found c.requires.next)

pub turn-requires-clause-count : goal.turn-requires-clause-count
turn-requires-clause-count c y found =
    let x = c.self.inside in
    let b = x.bridge in
    count_below b.setup.domains.edition b.history y.chip.count c.args.update.now.change c.history-history.ensures.within
    (next_at b x.published x.counts.items x.cuts c.args.self.now c.self.view_is c.args.d c.args.update.now y found c.requires.next)

pub invariant_of-self : goal.invariant_of-self
invariant_of-self c =
    let x = c.self.inside in
    on_either c.turn.result c.turn.ensures.ok c.turn.ensures.err
    (λ ch. turned_sides x.bridge x.cuts c.turn.new.self x.updates x.point c.args.d c.args.update.now.change c.self.invariant ch
    (next_at x.bridge x.published x.counts.items x.cuts c.args.self.now c.self.view_is c.args.d c.args.update.now ch.was ch.found c.requires.next))
    (kept_sides x.bridge x.cuts c.turn.new.self x.updates x.point c.args.d c.self.invariant)

pub returns : goal.returns
returns c =
    let x = c.self.inside in
    let d = c.args.update.now.change in
    on_ok_weaker c.turn.result (λ ch y at.
    changed x.bridge.setup.domains x.bridge.history x.cuts c.turn.new.self c.args.d (λ z e. e ≡ turned z d) ch c.self.invariant.follows x.bridge x.published x.counts.items c.args.self.now y
    (λ (z : Chip). applies z d) c.self.view_is at (ap (λ (s : CutState). s.chip.dom) ch.so ∙ turned_own ch.was d) (ap (λ (s : CutState). s.chip) ch.so)) c.turn.ensures.ok
