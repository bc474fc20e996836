use Rattle.std.proofs.Common.{◌≡◌, ℕ, refl, sym, ◌∙◌, arith}
use Rattle.std.proofs.lemmas.List.{get_or_read, get_or-set_same, length-set}
use Rattle.open_addressing.specs.Laid.{nowhere, place_of}
use Rattle.open_addressing.proofs.Laid.{used_fits, laid-more, same_slots}
use Rattle.open_addressing.proofs.slots.ensure_place.Goals as goal

pub returns-then-old : goal.returns-then-old
returns-then-old c =
    let places = c.args.places.now.items in
    let read = get_or_read places c.args.block c.index-old.result.now c.requires.within c.index-old.ensures nowhere in
    record {
      laid = λ laid x. x;
      same = λ laid x s. refl;
      place = sym read ∙ sym c.from.ensures;
      some = λ e. c.if-old.true (sym c.from.ensures ∙ e);
      len = refl;
    }

pub overflow_cast-new : goal.overflow_cast-new
overflow_cast-new c =
    let places = c.args.places.now.items in
    let read = get_or_read places c.args.block c.index-old.result.now c.requires.within c.index-old.ensures nowhere in
    let fits = used_fits places c.args.used.now c.requires.laid.0 c.requires.laid.1 c.args.block c.requires.within (sym read ∙ c.if-old.false) in
    omega arith

pub overflow_add-used : goal.overflow_add-used
overflow_add-used c =
    let places = c.args.places.now.items in
    let read = get_or_read places c.args.block c.index-old.result.now c.requires.within c.index-old.ensures nowhere in
    let fits = used_fits places c.args.used.now c.requires.laid.0 c.requires.laid.1 c.args.block c.requires.within (sym read ∙ c.if-old.false) in
    omega arith

pub returns : goal.returns
returns c =
    let places = c.args.places.now.items in
    let used : ℕ = c.args.used.now in
    let read = get_or_read places c.args.block c.index-old.result.now c.requires.within c.index-old.ensures nowhere in
    let none : place_of places c.args.block ≡ nowhere = sym read ∙ c.if-old.false in
    record {
      laid = λ laid x. laid-more places used laid x c.args.block c.requires.within none;
      same = λ laid x. same_slots places used laid x c.args.block c.requires.within none;
      place = get_or-set_same places c.args.block used nowhere c.requires.within;
      some = λ e. (let fits = used_fits places used c.requires.laid.0 c.requires.laid.1 c.args.block c.requires.within none in absurd (omega arith));
      len = length-set places c.args.block used;
    }
