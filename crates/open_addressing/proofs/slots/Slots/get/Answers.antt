use Rattle.std.proofs.Common.{◌≡◌, ℕ, ◌+◌, ◌*◌, ◌/◌, ◌%◌, ◌<◌, List, length, get_or, sym, ap, ◌∙◌, arith}
use Rattle.std.proofs.lemmas.List.{get_or_read}
use Rattle.open_addressing.specs.Laid.{nowhere, place_of}
use Rattle.open_addressing.proofs.Laid.{length-slots, slots-read}
use Rattle.open_addressing.proofs.slots.Slots.get.Goals as goal

pub index-requires : goal.index-requires
index-requires c =
    let s = c.self.inside in
    let long = ap length c.self.view_is in
    let all = length-slots s.len s.places.items s.laid.items in
    omega (arith, c.self.invariant.1, s.places.ok.0)

pub returns : goal.returns
returns c =
    let s = c.self.inside in
    let slot : ℕ = c.args.slot in
    let long = ap length c.self.view_is in
    let all = length-slots s.len s.places.items s.laid.items in
    let within : slot < s.len = omega arith in
    let block : slot / 64 < length s.places.items = omega (arith, c.self.invariant.1) in
    let place : c.from-place.result ≡ place_of s.places.items (slot / 64) = c.from-place.ensures ∙ get_or_read s.places.items (slot / 64) c.index.result.now block c.index.ensures nowhere in
    c.item_or.ensures.value ∙ ap (λ (l : List ℕ). get_or l (c.from-place.result * 64 + slot % 64) 0) c.as_slice.ensures.value
    ∙ ap (λ p. get_or s.laid.items (p * 64 + slot % 64) 0) place
    ∙ sym (slots-read s.len s.places.items s.laid.items slot 0 within) ∙ ap (λ (l : List ℕ). get_or l slot 0) c.self.view_is
