-- Chips by the numbers of their domains.
use Rattle.std.proofs.Common.{◌≡◌, ℕ, true, false, cond, List, [], ◌∷◌, map, Option, None, Some, refl, sym, ap, ◌∙◌}
use Rattle.std.proofs.lemmas.Bool.{eqb-true, eq-eqb}
use Rattle.std.proofs.lemmas.List.Elements.{All-from_recursion, recursion_from_All}
use Rattle.std.specs.Prelude.{◌==◌, ◌||◌, is_some}
use Rattle.std.specs.List.{All, AllByRecursion, list_any}
use Rattle.std.specs.Option.{option_map}
use Rattle.std.proofs.lemmas.Option.{same_Some}
use Rattle.lemmas.proofs.Lists.{find-passes}
use Rattle.br_model.specs.Plane.Chip.{Chip, chip_in, put_chip}
use Rattle.br_model.specs.Table.Domains.{Domains, has_chip, chip_domains}
use Rattle.br_model.specs.Plane.Entering.{chip_of}
use Rattle.br_model.specs.Plane.World.{World, chip_at}
use Rattle.br_model.proofs.Data.Lists.{find-each}

abbrev pub doms : List Chip → List ℕ
doms chips = map (λ c. c.dom) chips

-- the chip that is found has the number
pub chip-dom : (chips : List Chip) (dom : ℕ) (c : Chip) → chip_in chips dom ≡ Some c → c.dom ≡ dom
chip-dom chips dom c e = eqb-true c.dom dom (find-passes (λ (x : Chip). x.dom == dom) chips c e)

-- and so it is found by that of its own
pub chip-own : (chips : List Chip) (dom : ℕ) (c : Chip) → chip_in chips dom ≡ Some c → chip_in chips c.dom ≡ Some c
chip-own chips dom c e = ap (chip_in chips) (chip-dom chips dom c e) ∙ e

pub chip-each : (P : Chip → Type 0) (chips : List Chip) (dom : ℕ) (c : Chip) → All P chips → chip_in chips dom ≡ Some c → P c
chip-each P chips dom c all e = find-each P (λ (x : Chip). x.dom == dom) chips c (recursion_from_All P chips all) e

-- one is found just where one has the number
pub chip-there : (chips : List Chip) (dom : ℕ) → is_some (chip_in chips dom) ≡ list_any (λ d. d == dom) (doms chips)
chip-there [] dom = refl
chip-there (x ∷ chips) dom =
    elim (x.dom == dom) as (λ b. is_some (cond b (Some x) (chip_in chips dom)) ≡ (b || list_any (λ d. d == dom) (doms chips))) [ true ↦ refl | false ↦ chip-there chips dom ]

pub has-chip : (domains : Domains) (chips : List Chip) (dom : ℕ) (c : Chip) → doms chips ≡ chip_domains domains → chip_in chips dom ≡ Some c → has_chip domains dom ≡ true
has-chip domains chips dom c same e = ap (list_any (λ d. d == dom)) (sym same) ∙ sym (chip-there chips dom) ∙ ap is_some e

-- One takes the place of another.

pub put-doms : (chips : List Chip) (c : Chip) → doms (put_chip chips c) ≡ doms chips
put-doms [] c = refl
put-doms (x ∷ chips) c =
    (elim (x.dom == c.dom) as (λ b. (x.dom == c.dom) ≡ b → (cond b c x).dom ∷ doms (put_chip chips c) ≡ x.dom ∷ doms chips) [
      | true ↦ λ e i. sym (eqb-true x.dom c.dom e) i ∷ put-doms chips c i
      | false ↦ λ e i. x.dom ∷ put-doms chips c i
    ]) refl

put-each : (P : Chip → Type 0) (chips : List Chip) (c : Chip) → AllByRecursion P chips → P c → AllByRecursion P (put_chip chips c)
put-each P [] c all h = tt
put-each P (x ∷ chips) c all h = (elim (x.dom == c.dom) as (λ b. P (cond b c x)) [ true ↦ h | false ↦ all.0 ], put-each P chips c all.1 h)

pub put-all : (P : Chip → Type 0) (chips : List Chip) (c : Chip) → All P chips → P c → All P (put_chip chips c)
put-all P chips c all h = All-from_recursion P (put_chip chips c) (put-each P chips c (recursion_from_All P chips all) h)

-- where one of its number was
pub put-same : (chips : List Chip) (c : Chip) (dom : ℕ) (old : Chip) → c.dom ≡ dom → chip_in chips dom ≡ Some old → chip_in (put_chip chips c) dom ≡ Some c
put-same [] c dom old own e = absurd (cc)
put-same (x ∷ chips) c dom old own e =
    (elim (x.dom == c.dom) as (λ b. (x.dom == c.dom) ≡ b → cond (x.dom == dom) (Some x) (chip_in chips dom) ≡ Some old
    → cond ((cond b c x).dom == dom) (Some (cond b c x)) (chip_in (put_chip chips c) dom) ≡ Some c) [
      | true ↦ λ is f. ap (λ b. cond b (Some c) (chip_in (put_chip chips c) dom)) (eq-eqb c.dom dom own)
      | false ↦ λ is f.
          let other : (x.dom == dom) ≡ false = ap (λ n. x.dom == n) (sym own) ∙ is in
          ap (λ b. cond b (Some x) (chip_in (put_chip chips c) dom)) other
          ∙ put-same chips c dom old own (ap (λ b. cond b (Some x) (chip_in chips dom)) (sym other) ∙ f)
    ]) refl e

-- the others stay
pub put-other : (chips : List Chip) (c : Chip) (dom : ℕ) → (c.dom == dom) ≡ false → chip_in (put_chip chips c) dom ≡ chip_in chips dom
put-other [] c dom other = refl
put-other (x ∷ chips) c dom other =
    (elim (x.dom == c.dom) as (λ b. (x.dom == c.dom) ≡ b → cond ((cond b c x).dom == dom) (Some (cond b c x)) (chip_in (put_chip chips c) dom) ≡ cond (x.dom == dom) (Some x) (chip_in chips dom)) [
      | true ↦ λ is.
          let its : (x.dom == dom) ≡ false = ap (λ n. n == dom) (eqb-true x.dom c.dom is) ∙ other in
          ap (λ b. cond b (Some c) (chip_in (put_chip chips c) dom)) other ∙ put-other chips c dom other ∙ sym (ap (λ b. cond b (Some x) (chip_in chips dom)) its)
      | false ↦ λ is. ap (cond (x.dom == dom) (Some x)) (put-other chips c dom other)
    ]) refl

-- How many deferred changes each has applied.

abbrev pub CountsStay : List Chip → List Chip → Type 0
CountsStay old new = (dom : ℕ) → option_map (λ (c : Chip). c.count) (chip_in new dom) ≡ option_map (λ (c : Chip). c.count) (chip_in old dom)

pub put-counts : (chips : List Chip) (c d : Chip) → chip_in chips c.dom ≡ Some c → d.dom ≡ c.dom → d.count ≡ c.count → CountsStay chips (put_chip chips d)
put-counts chips c d there own same dom =
    (elim (d.dom == dom) as (λ b. (d.dom == dom) ≡ b → option_map (λ (x : Chip). x.count) (chip_in (put_chip chips d) dom) ≡ option_map (λ (x : Chip). x.count) (chip_in chips dom)) [
      | true ↦ λ is.
          let at : chip_in chips dom ≡ Some c = ap (chip_in chips) (sym (eqb-true d.dom dom is) ∙ own) ∙ there in
          ap (option_map (λ (x : Chip). x.count)) (put-same chips d dom c (eqb-true d.dom dom is) at) ∙ ap (λ n. Some n) same ∙ sym (ap (option_map (λ (x : Chip). x.count)) at)
      | false ↦ λ is. ap (option_map (λ (x : Chip). x.count)) (put-other chips d dom is)
    ]) refl

pub counts-same : (chips : List Chip) → CountsStay chips chips
counts-same chips dom = refl

-- the one that was there, with this count
pub counted-before : (o : Option Chip) (c : Chip) → Some c.count ≡ option_map (λ (x : Chip). x.count) o → (d : Chip) × (o ≡ Some d) × (d.count ≡ c.count)
counted-before None c e = absurd (cc)
counted-before (Some d) c e = (d, refl, sym (same_Some c.count d.count e))

-- the domain of a port that has a chip
pub chip_of-at : (w : World) (o : Option ℕ) (c : Chip) → chip_of w o ≡ Some c → (dom : ℕ) × (o ≡ Some dom) × (chip_at w dom ≡ Some c)
chip_of-at w None c e = absurd (cc)
chip_of-at w (Some dom) c e = (dom, refl, e)

pub chip_of-declared : (w : World) (o : Option ℕ) (c : Chip) → chip_of w o ≡ Some c → is_some o ≡ true
chip_of-declared w None c e = absurd (cc)
chip_of-declared w (Some dom) c e = refl
