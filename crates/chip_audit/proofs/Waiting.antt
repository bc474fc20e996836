-- The updates for which a chip waits, as a plane tells of them.
use Rattle.std.proofs.Common.{◌≡◌, ℕ, ◌+◌, ◌-◌, ◌<◌, ◌≤◌, true, Some, None, List, sym, ap, ◌∙◌, arith}
use Rattle.std.specs.Prelude.{◌==◌, IsTrue}
use Rattle.std.specs.List.{slice_get}
use Rattle.std.specs.Option.{option_map}
use Rattle.std.proofs.lemmas.List.Elements.{recursion_from_All}
use Rattle.std.proofs.lemmas.Option.{same_Some}
use Rattle.lemmas.proofs.Tests.{true_from_T}
use Rattle.lemmas.proofs.Endings.{some_is}
use Rattle.br_model.specs.declared.change.Change.{Change}
use Rattle.br_model.specs.declared.change.Update.{Update}
use Rattle.br_model.specs.declared.domains.Edition.{Edition}
use Rattle.br_model.specs.Data.Maps.{pair_cmp, is_ascending}
use Rattle.br_model.specs.Plane.Chip.{Chip}
use Rattle.br_model.specs.Plane.Runs.{pending_of}
use Rattle.br_model.specs.Plane.World.{World, chip_at, table_of_chip}
use Rattle.br_model.specs.Table.Change.{address_part, updates}
use Rattle.br_model.specs.Table.Cut.{cut, deferred_at, deferred_count, under_ticket}
use Rattle.br_model.specs.Table.Domains.{has_chip}
use Rattle.br_model.specs.Table.Limits.{most_changes}
use Rattle.br_model.specs.Theorems.Invariants.{ChipStands, IsWorld}
use Rattle.br_model.proofs.Table.Cuts.{deferred_at-there, updates-at, updates-named}
use Rattle.br_model.proofs.Plane.Growing.{few-deferred}
use Rattle.br_model.proofs.Data.Lists.{find-each}
use Rattle.plane_core.proofs.Calling.{chip_there}
use Rattle.chip_audit.specs.Audits.{Row, entries_of}
use Rattle.chip_audit.specs.Marks.{Entries, all_offloaded, entries_after, entries_at}
use Rattle.chip_audit.proofs.Marking.{entries-first, entries-last, entries-next, table-ascends}

-- as many wait as the plane says
pub waits : (w : World) (d : ℕ) (c : Chip) (n : ℕ) → chip_at w d ≡ Some c → option_map (pending_of w) (chip_at w d) ≡ Some n → n ≡ pending_of w c
waits w d c n at p = let same : Some (pending_of w c) ≡ Some n = sym (ap (option_map (pending_of w)) at) ∙ p in cc

-- the change of an update
pub update-is : (edition : Edition) (h : List Change) (k : ℕ) (u : Update) (x : Change) → Some u ≡ slice_get (updates edition h) k → deferred_at edition h k ≡ Some x → u.change ≡ x
update-is edition h k u x is at = same_Some u.change x (sym (updates-named edition h k u (sym is)).1 ∙ at)

pub no-update : (edition : Edition) (h : List Change) (k : ℕ) (x : Change) → None ≡ slice_get (updates edition h) k → ¬ (deferred_at edition h k ≡ Some x)
no-update edition h k x none at =
    let there : None ≡ Some (under_ticket k x) = none ∙ updates-at edition h k ∙ ap (option_map (under_ticket k)) at in
    absurd (cc)

module _ (w : World) (d : ℕ) (is : IsWorld w) where
  abbrev edition : Edition
  edition = w.setup.domains.edition

  pub the-chip : has_chip w.setup.domains d ≡ true → (c : Chip) × (chip_at w d ≡ Some c)
  the-chip has = some_is (chip_at w d) (chip_there w d is has)

  applied-few : (c : Chip) → chip_at w d ≡ Some c → c.count ≤ deferred_count edition w.history
  applied-few c at = (find-each (ChipStands edition w.history) (λ (x : Chip). x.dom == d) w.chips c (recursion_from_All _ w.chips is.chips) at).applied

  module _ (c : Chip) (at : chip_at w d ≡ Some c) (applied pending : ℕ) (a : option_map (λ (c : Chip). c.count) (chip_at w d) ≡ Some applied)
      (p : option_map (pending_of w) (chip_at w d) ≡ Some pending) where
    pub count-is : c.count ≡ applied
    count-is = let same : Some c.count ≡ Some applied = sym (ap (option_map (λ (c : Chip). c.count)) at) ∙ a in cc

    pub pending-is : pending_of w c ≡ pending
    pending-is = let same : Some (pending_of w c) ≡ Some pending = sym (ap (option_map (pending_of w)) at) ∙ p in cc

    pub all-updates : applied + pending ≡ deferred_count edition w.history
    all-updates = omega (arith, count-is, pending-is, applied-few c at)

    pub few-updates : applied + pending ≤ most_changes
    few-updates = omega (arith, all-updates, few-deferred edition w.history, is.history.few)

    -- before the first one
    pub begun : (es : Entries) (rows : List Row) → rows ≡ (table_of_chip w c).addr → es ≡ all_offloaded rows → es ≡ entries_at edition w.history c.count (applied - applied)
    begun es rows are from =
        let none : 0 ≡ applied - applied = omega arith in
        from ∙ ap all_offloaded are ∙ entries-first edition w.history c.count ∙ ap (entries_at edition w.history c.count) none

    -- one more
    pub gone-on : (ticket : ℕ) (old new : Entries) → applied ≤ ticket → ticket < applied + pending → old ≡ entries_at edition w.history c.count (ticket - applied)
        → ((x : Change) → deferred_at edition w.history ticket ≡ Some x → new ≡ entries_after old (address_part x)) → new ≡ entries_at edition w.history c.count (ticket + 1 - applied)
    gone-on ticket old new from within was step =
        let x = deferred_at-there edition w.history ticket (omega (arith, within, all-updates)) in
        let place : ticket ≡ c.count + (ticket - applied) = omega (arith, from, count-is) in
        let next : ticket - applied + 1 ≡ ticket + 1 - applied = omega (arith, from) in
        step x.0 x.1 ∙ ap (λ es. entries_after es (address_part x.0)) was
        ∙ sym (entries-next edition w.history c.count (ticket - applied) x.0 (ap (deferred_at edition w.history) (sym place) ∙ x.1))
        ∙ ap (entries_at edition w.history c.count) next

    -- behind the last one
    pub ended : (ticket : ℕ) (es : Entries) → applied ≤ ticket → applied + pending ≤ ticket → es ≡ entries_at edition w.history c.count (ticket - applied) → es ≡ entries_of edition w.history c.count
    ended ticket es from past was =
        let all : deferred_count edition w.history ≤ c.count + (ticket - applied) = omega (arith, all-updates, count-is, past, from) in
        was ∙ entries-last edition w.history c.count (ticket - applied) all

  -- a chip's entries ascend
  pub rows-ascend : (rows : List Row) → has_chip w.setup.domains d ≡ true → ((c : Chip) → chip_at w d ≡ Some c → rows ≡ (table_of_chip w c).addr) → IsTrue (is_ascending pair_cmp rows)
  rows-ascend rows has are =
      let c = the-chip has in
      ap (is_ascending pair_cmp) (are c.0 c.1) ∙ true_from_T _ (table-ascends (cut edition w.history c.0.count))
