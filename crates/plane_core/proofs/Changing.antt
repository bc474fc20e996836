-- Another chip in the place of that of a domain.
use Rattle.std.proofs.Common.{◌≡◌, ℕ, ◌+◌, List, length, set, slice_get, Some, option_map, refl, sym, ap, ◌∙◌, subst, arith}
use Rattle.std.proofs.Math.Seq.{map-set_same}
use Rattle.std.proofs.lemmas.Bool.{eqb-true, eq-eqb, ne_eqb}
use Rattle.std.proofs.lemmas.List.Elements.{All-set, recursion_from_All}
use Rattle.std.proofs.lemmas.Simd.{map-map}
use Rattle.std.proofs.lemmas.Option.{slice_get_within, get_or_from_slice_get}
use Rattle.std.specs.Prelude.{◌==◌, is_some, true, OnOk}
use Rattle.std.specs.declared.result.Result.{Result}
use Rattle.std.specs.declared.result.Result.TheVariants.{Ok, Err}
use Rattle.std.specs.List.{list_any}
use Rattle.std.specs.Option.{option_eq}
use Rattle.lemmas.proofs.Lists.{find-passes}
use Rattle.br_model.specs.declared.change.Update.{Update}
use Rattle.br_model.specs.declared.steps.Refusal.{Refusal}
use Rattle.br_model.specs.declared.transcript.Line.{Line}
use Rattle.br_model.specs.Control.Reaction.{Reaction}
use Rattle.br_model.specs.Plane.Chip.{Chip, applies, chip_in, chip_table, put_chip}
use Rattle.br_model.specs.Table.Change.{updates}
use Rattle.br_model.specs.Table.Cut.{cut, deferred_count}
use Rattle.br_model.specs.Table.Domains.{Domains, domain_of, has_chip, host, software}
use Rattle.br_model.specs.Table.Table.{Table, apply, table}
use Rattle.br_model.specs.declared.change.Change.{Change}
use Rattle.br_model.proofs.Table.Cuts.{cut-turn, deferred_at-deferred, updates-named}
use Rattle.br_model.proofs.Plane.Chips.{chip-there}
use Rattle.br_model.proofs.Plane.Kept.{hit_by-keeps}
use Rattle.br_model.proofs.Data.Lists.{find-each}
use Rattle.chip_driver.specs.Drives.{Drives}
use Rattle.chip_pipeline.specs.Passed.{AtChip}
use Rattle.chip_tables.specs.Stands.{Stands}
use Rattle.bridge_core.specs.Kept.{Controlled}
use Rattle.table_publish.specs.Board.{Shelf}
use Rattle.hwdom_chips.specs.Chips.{ChipState, IsChip, IsPlace, chips_of, state_in}
use Rattle.plane_reactions.specs.Reacted.{Reacted}
use Rattle.plane_core.specs.Sides.{AreSides, SidesState, of_sides}
use Rattle.plane_parts.specs.Places.{places}
use Rattle.plane_parts.proofs.Placing.{count}
use Rattle.br_model.proofs.Table.ChipLists.{apart, apart-chips, chip-found, not-software, put-place, some-found}
use Rattle.br_model.proofs.Plane.ByDomain.{same_chip}

-- what is there for the definitions is there for the states
pub there_at : (states : List ChipState) (chips : List Chip) (dom : ℕ) → chips_of states ≡ chips → is_some (chip_in chips dom) ≡ true → is_some (state_in states dom) ≡ true
there_at states chips dom are some = sym (some-found (λ (s : ChipState). s.chip) states dom) ∙ ap (λ (cs : List Chip). is_some (chip_in cs dom)) are ∙ some

pub found_at : (states : List ChipState) (chips : List Chip) (dom : ℕ) (c : ChipState) → chips_of states ≡ chips → state_in states dom ≡ Some c → chip_in chips dom ≡ Some c.chip
found_at states chips dom c are found = ap (λ (cs : List Chip). chip_in cs dom) (sym are) ∙ chip-found (λ (s : ChipState). s.chip) states dom ∙ ap (option_map (λ (s : ChipState). s.chip)) found

-- there is a place for each deferred change of the bridge
pub counted : (b : Controlled) (noted : List ℕ) → noted ≡ places b.setup.domains.edition b.history → length noted ≡ deferred_count b.setup.domains.edition b.history
counted b noted are = ap length are ∙ count b.setup.domains.edition b.history

pub both_ok : {A E : Type 0} (P Q : Type 0) (r : Result A E) → OnOk r P → OnOk r Q → OnOk r (P × Q)
both_ok P Q (Ok x) p q = (p, q)
both_ok P Q (Err e) p q = tt

-- one that differs in what it reports
pub kept_chip : (domains : Domains) (H : List Change) (old new : ChipState) → IsChip domains H old → new.driver ≡ old.driver → new.chip.dom ≡ old.chip.dom → new.chip.count ≡ old.chip.count
    → IsChip domains H new
kept_chip domains H old new k driver dom count = record {
  rows = subst (λ d. Drives domains d (table (cut domains.edition H new.chip.count))) (sym driver) (subst (λ n. Drives domains old.driver (table (cut domains.edition H n))) (sym count) k.rows);
  dom = ap (λ d. d.dom) driver ∙ k.dom ∙ sym dom;
  applied = omega (arith, k.applied, count);
}

-- one that has applied a deferred change more
pub turned_chip : (domains : Domains) (H : List Change) (old new : ChipState) (u : Update) → IsChip domains H old → slice_get (updates domains.edition H) old.chip.count ≡ Some u
    → new.chip ≡ applies old.chip u.change → ((d : Domains) (t : Table) → Drives d old.driver t → Drives d new.driver (apply t u.change)) → new.driver.dom ≡ old.driver.dom
    → IsChip domains H new
turned_chip domains H old new u k next is drives dom =
    let e = domains.edition in
    let at = (updates-named e H old.chip.count u next).1 in
    let keep = hit_by-keeps (record old.chip { count = old.chip.count + 1 }) u.change in
    let count : new.chip.count ≡ old.chip.count + 1 = ap (λ (c : Chip). c.count) is ∙ keep.count in
    record {
      rows = subst (λ n. Drives domains new.driver (table (cut e H n))) (sym count)
          (subst (Drives domains new.driver) (sym (cut-turn e H old.chip.count u.change at)) (drives domains (table (cut e H old.chip.count)) k.rows));
      dom = dom ∙ k.dom ∙ sym keep.dom ∙ sym (ap (λ (c : Chip). c.dom) is);
      applied = omega (arith, (deferred_at-deferred e H old.chip.count u.change at).1, count);
    }

pub turned_dom : (old new : Chip) (c : Change) → new ≡ applies old c → new.dom ≡ old.dom
turned_dom old new c is = ap (λ (d : Chip). d.dom) is ∙ (hit_by-keeps (record old { count = old.count + 1 }) c).dom

-- The chip of a domain, where sides stand.

module _ (b : Controlled) (states : List ChipState) (noted : List ℕ) (board : Shelf) (are : AreSides b states noted board) (dom : ℕ) (c : ChipState) (found : state_in states dom ≡ Some c) where
  pub chip_found : IsChip b.setup.domains b.history c
  chip_found = find-each (IsChip b.setup.domains b.history) (λ (s : ChipState). s.chip.dom == dom) states c (recursion_from_All _ states are.follows.each) found

  own_dom : c.driver.dom ≡ dom
  own_dom = chip_found.dom ∙ eqb-true c.chip.dom dom (find-passes (λ (s : ChipState). s.chip.dom == dom) states c found)

  has : has_chip b.setup.domains dom ≡ true
  has = ap (list_any (λ k. k == dom)) (sym (map-map (λ (x : Chip). x.dom) (λ (s : ChipState). s.chip) states ∙ are.follows.doms))
      ∙ sym (chip-there (chips_of states) dom) ∙ ap is_some (found_at states (chips_of states) dom c refl found)

  -- its rows stand for the table by which it decides
  pub stands_at : Stands b.setup.domains dom c.driver.rows (chip_table b.setup.domains.edition b.history c.chip)
  stands_at = subst (λ n. Stands b.setup.domains n c.driver.rows (chip_table b.setup.domains.edition b.history c.chip)) own_dom chip_found.rows.rows

  -- at a port of its domain
  pub at_chip : (port : ℕ) → domain_of b.setup.domains port ≡ Some dom → domain_of b.setup.domains host ≡ Some software
      → AtChip b.setup.domains dom c.driver.rows (chip_table b.setup.domains.edition b.history c.chip) port
  at_chip port on outside = record {
    stands = stands_at;
    own = ap (λ o. option_eq (λ x y. x == y) o (Some dom)) on ∙ eq-eqb dom dom refl;
    outside = ap (λ o. option_eq (λ x y. x == y) o (Some dom)) outside ∙ ne_eqb software dom (λ same. not-software b.setup.domains dom has (sym same));
  }

-- what contracts see of sides with these chips
abbrev seen : Controlled → Shelf → List Chip → SidesState
seen b board chips = record { setup = b.setup; history = b.history; control = b.control; chips = chips; published = board.object; board = board.board }

module _ (b : Controlled) (states : List ChipState) (noted : List ℕ) (board : Shelf) (are : AreSides b states noted board) (place : ℕ) (old new : ChipState)
    (here : slice_get states place ≡ Some old) where
  pub chip_here : IsChip b.setup.domains b.history old
  chip_here = subst (IsChip b.setup.domains b.history) (get_or_from_slice_get states place old old here) (are.follows.each place old (slice_get_within states place old here))

  pub put_here : new.chip.dom ≡ old.chip.dom → chips_of (set states place new) ≡ put_chip (chips_of states) new.chip
  put_here own = put-place (λ (s : ChipState). s.chip) states place old new (ap apart are.follows.doms ∙ apart-chips b.setup.domains) here own

  pub sides_with : new.chip.dom ≡ old.chip.dom → IsChip b.setup.domains b.history new → AreSides b (set states place new) noted board
  sides_with own k = record {
    follows = record {
      each = All-set (IsChip b.setup.domains b.history) states place new k are.follows.each;
      doms = map-set_same (λ (s : ChipState). s.chip.dom) states place new old (own ∙ sym (ap (λ (s : ChipState). s.chip.dom) (get_or_from_slice_get states place old old here))) ∙ are.follows.doms;
    };
    places = are.places;
    whole = are.whole;
    domains = are.domains;
  }

  -- another one of a domain, for contracts
  pub changed : (s : SidesState) (dom : ℕ) (x : Chip) (f : Chip → Chip) → seen b board (chips_of states) ≡ s → IsPlace states dom (Some place) → chip_in s.chips dom ≡ Some x
      → new.chip.dom ≡ old.chip.dom → new.chip ≡ f old.chip → seen b board (chips_of (set states place new)) ≡ record s { chips = put_chip s.chips (f x) }
  changed s dom x f was at found own is =
      let there : state_in states dom ≡ Some old = at.1 ∙ sym at.2 ∙ here in
      let same = same_chip s.chips dom x old.chip found (found_at states s.chips dom old (ap (λ (t : SidesState). t.chips) was) there) in
      ap (seen b board) (put_here own ∙ ap (put_chip (chips_of states)) (is ∙ ap f (sym same))) ∙ ap (λ (t : SidesState). record t { chips = put_chip t.chips (f x) }) was

  -- one of which only what it reports is another
  module _ (f : Chip → Chip) (keeps : (x : Chip) → ((f x).dom ≡ x.dom) × ((f x).count ≡ x.count)) (is : new ≡ record old { chip = f old.chip }) where
    same_dom : new.chip.dom ≡ old.chip.dom
    same_dom = ap (λ (s : ChipState). s.chip.dom) is ∙ (keeps old.chip).0

    pub sides_told : AreSides b (set states place new) noted board
    sides_told =
        sides_with same_dom (kept_chip b.setup.domains b.history old new chip_here (ap (λ (s : ChipState). s.driver) is) same_dom (ap (λ (s : ChipState). s.chip.count) is ∙ (keeps old.chip).1))

    -- and so it is for contracts, behind a reaction
    pub reacted_told : (s mid : SidesState) (dom : ℕ) (x : Chip) (before after : List Line) (changes : ℕ) (answer : Result Reaction Refusal)
        → Reacted of_sides s mid s.chips before after (Ok changes) answer
        → seen b board (chips_of states) ≡ mid → IsPlace states dom (Some place) → chip_in s.chips dom ≡ Some x
        → Reacted of_sides s (seen b board (chips_of (set states place new))) (put_chip s.chips (f x)) before after (Ok changes) answer
    reacted_told s mid dom x before after changes answer did was at found = (
      did.0,
      did.1,
      did.2,
      changed mid dom x f was at (ap (λ (t : SidesState). chip_in t.chips dom) did.3 ∙ found) same_dom (ap (λ (t : ChipState). t.chip) is)
          ∙ ap (λ (t : SidesState). record t { chips = put_chip t.chips (f x) }) did.3,
      did.4,
    )

  -- or none
  pub unchanged : (s : SidesState) → seen b board (chips_of states) ≡ s → new ≡ old → seen b board (chips_of (set states place new)) ≡ s
  unchanged s was same =
      ap (seen b board) (map-set_same (λ (t : ChipState). t.chip) states place new old (ap (λ (t : ChipState). t.chip) (same ∙ sym (get_or_from_slice_get states place old old here)))) ∙ was

  -- the update that is spoken of is the chip's next one
  pub next_here : (s : SidesState) (dom : ℕ) (u : Update) → seen b board (chips_of states) ≡ s → IsPlace states dom (Some place)
      → ((x : Chip) → chip_in s.chips dom ≡ Some x → slice_get (updates s.setup.domains.edition s.history) x.count ≡ Some u)
      → slice_get (updates b.setup.domains.edition b.history) old.chip.count ≡ Some u
  next_here s dom u was at next =
      subst (λ (t : SidesState). (x : Chip) → chip_in t.chips dom ≡ Some x → slice_get (updates t.setup.domains.edition t.history) x.count ≡ Some u) (sym was) next
      old.chip (found_at states (chips_of states) dom old refl (at.1 ∙ sym at.2 ∙ here))
