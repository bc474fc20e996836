use Rattle.std.proofs.Common.{◌≢◌, ℕ, ◌+◌, ◌*◌, ◌/◌, ◌%◌, ◌<◌, List, length, get_or, set, sym, ap, ◌∙◌, arith}
use Rattle.open_addressing.specs.Laid.{nowhere, place_of}
use Rattle.open_addressing.proofs.Laid.{length-slots, slots-set, put-here, put-other, other_room, place_fits}
use Rattle.open_addressing.proofs.slots.Slots.set.Goals as goal

pub ensure_place-place-requires : goal.ensure_place-place-requires
ensure_place-place-requires c =
    let s = c.self.inside in
    let long = ap length c.self.view_is in
    let all = length-slots s.len s.places.items s.laid.items in
    record { within = omega (arith, c.self.invariant.1); laid = (s.laid.items, c.self.invariant.0) }

pub put_item-requires : goal.put_item-requires
put_item-requires c =
    let s = c.self.inside in
    let now = c.ensure_place-place.ensures.laid s.laid.items c.self.invariant.0 in
    let some : place_of c.ensure_place-place.new.places.items (c.args.slot / 64) ≢ nowhere = λ e. c.ensure_place-place.ensures.some (sym c.ensure_place-place.ensures.place ∙ e) in
    let fits = place_fits c.ensure_place-place.new.places.items c.ensure_place-place.new.used s.laid.items now (c.args.slot / 64) some in
    omega (arith, c.self.invariant.2, c.ensure_place-place.ensures.len, c.ensure_place-place.ensures.place)

pub returns : goal.returns
returns c =
    let s = c.self.inside in
    let slot : ℕ = c.args.slot in
    let places = c.ensure_place-place.new.places.items in
    let laid = c.put_item.new.items.items in
    let at : ℕ = c.ensure_place-place.result * 64 + slot % 64 in
    let long = ap length c.self.view_is in
    let all = length-slots s.len s.places.items s.laid.items in
    let within : slot < s.len = omega arith in
    let now = c.ensure_place-place.ensures.laid s.laid.items c.self.invariant.0 in
    let place = c.ensure_place-place.ensures.place in
    let some : place_of places (slot / 64) ≢ nowhere = λ e. c.ensure_place-place.ensures.some (sym place ∙ e) in
    slots-set s.len s.places.items s.laid.items places laid slot c.args.number within
    (ap (λ p. get_or laid (p * 64 + slot % 64) 0) place ∙ put-here s.laid.items laid at c.args.number c.put_item.ensures.items)
    (λ i ne.
    let apart : place_of places (i / 64) * 64 + i % 64 ≢ at = λ e. other_room places c.ensure_place-place.new.used s.laid.items now slot i some ne (e ∙ ap (λ p. p * 64 + slot % 64) (sym place)) in
    put-other s.laid.items laid at c.args.number c.put_item.ensures.items (place_of places (i / 64) * 64 + i % 64) apart
    ∙ c.ensure_place-place.ensures.same s.laid.items c.self.invariant.0 i)
    ∙ ap (λ (l : List ℕ). set l slot c.args.number) c.self.view_is

pub invariant_of-self : goal.invariant_of-self
invariant_of-self c =
    let s = c.self.inside in
    let places = c.ensure_place-place.new.places.items in
    let now = c.ensure_place-place.ensures.laid s.laid.items c.self.invariant.0 in
    let some : place_of places (c.args.slot / 64) ≢ nowhere = λ e. c.ensure_place-place.ensures.some (sym c.ensure_place-place.ensures.place ∙ e) in
    let less = now.within (c.args.slot / 64) some in (
      record {
        few = now.few;
        counted = now.counted;
        within = now.within;
        apart = now.apart;
        short = c.put_item.ensures.len (c.ensure_place-place.new.used * 64) (omega (arith, c.ensure_place-place.ensures.place)) now.short;
      },
      omega (arith, c.self.invariant.1, c.ensure_place-place.ensures.len),
      omega (arith, c.self.invariant.2, c.ensure_place-place.ensures.len, c.put_item.ensures.room),
    )
