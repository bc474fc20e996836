-- What is left of a capture, by the block at its front.
use Rattle.std.proofs.Common.{◌≡◌, ℕ, zero, suc, ◌+◌, ◌-◌, ◌<◌, ◌≤◌, ◌==◌, false, true, List, [], ◌∷◌, length, take, drop, is_some, refl, sym, ap, ◌∙◌, arith}
use Rattle.std.proofs.lemmas.List.{take_all, length-drop}
use Rattle.std.specs.declared.option.Option.{Option}
use Rattle.std.specs.declared.option.Option.TheVariants.{None, Some}
use Rattle.std.specs.declared.result.Result.TheVariants.{Ok, Err}
use Rattle.br_model.specs.declared.capture.CapKind.{CapKind}
use Rattle.br_model.specs.declared.capture.Order.{Order}
use Rattle.br_model.specs.declared.capture.Packet.{Packet}
use Rattle.br_model.specs.Wire.Captures.{Block, Capture, cut, front, in_front, read, read_cut, says}
use Rattle.pcapng_read.specs.declared.fault.CapFault.{CapFault}
use Rattle.pcapng_read.specs.declared.fault.CapFault.TheVariants.{At, NoMemory}
use Rattle.pcapng_read.specs.Telling.{Tells, TellsNext}

-- what is left from this place on
abbrev pub left : ℕ → List ℕ → ℕ → Option Order → List ℕ → Capture
left ports links at order rest = read_cut ports links (cut 0 at order rest)

abbrev pub total : Block → ℕ
total b = length b.body + 12

-- what is left behind the block at the front
abbrev pub behind : ℕ → List ℕ → ℕ → Block → List ℕ → Capture
behind ports links at b rest = left ports links (at + total b) (Some b.order) (take (length rest - total b) (drop (total b) rest))

abbrev pub broken : ℕ → CapKind → Capture
broken at kind = record { packets = []; fault = Some (record { at = at; kind = kind }) }

cut_ahead : (n at : ℕ) (before : Option Order) (bytes : List ℕ) → n ≤ length bytes → cut n at before bytes ≡ cut 0 (at + n) before (drop n bytes)
unfolding cut
cut_ahead zero at before bytes within = ap (λ a. cut 0 a before bytes) (omega arith)
cut_ahead (suc n) at before [] within = absurd (omega (arith, within))
cut_ahead (suc n) at before (byte ∷ bytes) within =
    cut_ahead n (at + 1) before bytes (omega (arith, within)) ∙ ap (λ a. cut 0 a before (drop n bytes)) (omega arith)

-- behind the first byte, the rest of its block is still ahead
cut_behind : (at : ℕ) (b : Block) (byte : ℕ) (bytes : List ℕ) → total b ≤ length (byte ∷ bytes)
    → cut (length b.body + 11) (at + 1) (Some b.order) bytes
    ≡ cut 0 (at + total b) (Some b.order) (take (length (byte ∷ bytes) - total b) (drop (total b) (byte ∷ bytes)))
cut_behind at b byte bytes fits =
    let n : ℕ = length b.body + 11 in
    let whole : List ℕ = byte ∷ bytes in
    let ahead : cut n (at + 1) (Some b.order) bytes ≡ cut 0 (at + 1 + n) (Some b.order) (drop n bytes) = cut_ahead n (at + 1) (Some b.order) bytes (omega (arith, fits)) in
    let place : cut 0 (at + 1 + n) (Some b.order) (drop (suc n) whole) ≡ cut 0 (at + total b) (Some b.order) (drop (suc n) whole) = ap (λ a. cut 0 a (Some b.order) (drop n bytes)) (omega arith) in
    let same : suc n ≡ total b = omega arith in
    let part : drop (total b) whole ≡ take (length whole - total b) (drop (total b) whole) = sym (take_all _ _ (omega (arith, length-drop (total b) whole))) in
    ahead ∙ place ∙ ap (λ l. cut 0 (at + total b) (Some b.order) l) (ap (λ k. drop k whole) same ∙ part)

pub some_left : (n : ℕ) → false ≡ (n == 0) → 0 < n
some_left n none = grind (arith, none)

pub none_left : (n : ℕ) → true ≡ (n == 0) → n ≡ 0
none_left n none = grind (arith, none)

pub place_within : (at n most : ℕ) (rest : List ℕ) → n ≤ length rest → at + length rest ≤ most → at + n + length (take (length rest - n) (drop n rest)) ≤ most
place_within at n most rest fits within = rw (take_all (length rest - n) (drop n rest) (omega (arith, length-drop n rest))) (omega (arith, length-drop n rest, fits, within))

module _ (ports : ℕ) (links : List ℕ) (at : ℕ) (order : Option Order) where
  pub left_at_end : (rest : List ℕ) → length rest ≡ 0 → left ports links at order rest ≡ record { packets = []; fault = None }
  unfolding cut read
  left_at_end [] none = refl
  left_at_end (byte ∷ bytes) none = absurd (omega (arith, none))

  pub left_not_whole : (rest : List ℕ) (kind : CapKind) → 0 < length rest → front order rest ≡ Err kind → left ports links at order rest ≡ broken at kind
  unfolding cut read
  left_not_whole [] kind some is = absurd (omega (arith, some))
  left_not_whole (byte ∷ bytes) kind some is = rw is refl

  left_broken : (rest : List ℕ) (b : Block) (kind : CapKind) → 0 < length rest → front order rest ≡ Ok b → says ports links b ≡ Err kind → left ports links at order rest ≡ broken at kind
  unfolding cut read
  left_broken [] b kind some is said = absurd (omega (arith, some))
  left_broken (byte ∷ bytes) b kind some is said = rw is (rw said refl)

  pub left_whole : (rest : List ℕ) (b : Block) (new : List ℕ) (packet : Option Packet)
      → 0 < length rest → total b ≤ length rest → front order rest ≡ Ok b → says ports links b ≡ Ok (new, packet)
      → left ports links at order rest ≡ in_front packet (behind ports new at b rest)
  unfolding cut read
  left_whole [] b new packet some fits is said = absurd (omega (arith, some))
  left_whole (byte ∷ bytes) b new packet some fits is said =
      rw is (rw said (ap (λ c. in_front packet (read_cut ports new c)) (cut_behind at b byte bytes fits)))

  -- The block b is at the front, and says what `told` is. The old value is what is left from it on.
  module _ (rest : List ℕ) (b : Block) (new : List ℕ) (old : Capture) (some : 0 < length rest) (is : front order rest ≡ Ok b) (kept : left ports links at order rest ≡ old) where
    pub tells_fault : (fault : CapFault) → Tells at (says ports links b) links (Err fault) new → TellsNext old (Err fault) (left ports new at order rest)
    tells_fault (At offset kind) told =
        (sym kept ∙ left_broken rest b kind some is told.1 ∙ ap (λ a. broken a kind) (sym told.0), ap (λ l. left ports l at order rest) told.2 ∙ kept)
    tells_fault NoMemory told = ap (λ l. left ports l at order rest) told ∙ kept

    pub tells_packet : (packet : Option Packet) → total b ≤ length rest → Tells at (says ports links b) links (Ok packet) new → true ≡ is_some packet
        → TellsNext old (Ok packet) (behind ports new at b rest)
    tells_packet None fits told found = cc
    tells_packet (Some packet) fits told found = sym kept ∙ left_whole rest b new (Some packet) some fits is told

    pub tells_nothing : (packet : Option Packet) → total b ≤ length rest → Tells at (says ports links b) links (Ok packet) new → false ≡ is_some packet
        → behind ports new at b rest ≡ old
    tells_nothing None fits told found = sym (left_whole rest b new None some fits is told) ∙ kept
    tells_nothing (Some packet) fits told found = cc
