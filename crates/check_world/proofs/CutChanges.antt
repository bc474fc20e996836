-- Another cut in the place of that of a domain's chip.
use Rattle.std.proofs.Common.{◌≡◌, ℕ, ◌+◌, true, List, slice_get, Some, option_map, refl, sym, ap, ◌∙◌, subst, arith}
use Rattle.std.proofs.Math.Seq.{map-set_same}
use Rattle.std.proofs.lemmas.List.Elements.{All-set, recursion_from_All}
use Rattle.std.proofs.lemmas.Option.{slice_get_within, get_or_from_slice_get}
use Rattle.std.specs.Prelude.{◌==◌, is_some, IsTrue}
use Rattle.br_model.specs.declared.change.Change.{Change}
use Rattle.br_model.specs.declared.domains.Edition.{Edition}
use Rattle.br_model.specs.declared.change.Update.{Update}
use Rattle.br_model.specs.declared.frame.Head.{Head}
use Rattle.br_model.specs.declared.frame.McastMsg.{McastMsg}
use Rattle.br_model.specs.Plane.Chip.{Chip, chip_in, chip_table, hit_of, notes, put_chip, report}
use Rattle.br_model.specs.Table.Change.{updates}
use Rattle.br_model.specs.Table.Cut.{cut, deferred_at}
use Rattle.br_model.specs.Table.Domains.{Domains}
use Rattle.br_model.specs.Table.Limits.{AreWithin, fits}
use Rattle.br_model.specs.Table.Table.{Table, apply, table}
use Rattle.br_model.proofs.Table.CutFits.{turn-fits}
use Rattle.br_model.proofs.Table.Cuts.{cut-turn, deferred_at-deferred, updates-named}
use Rattle.br_model.proofs.Plane.Kept.{hit_by-keeps}
use Rattle.br_model.proofs.Data.Lists.{find-each}
use Rattle.bridge_core.specs.Kept.{Controlled}
use Rattle.forward_rules.specs.declared.soft_tables.Verdict.{Verdict}
use Rattle.forward_rules.specs.Decided.{Decides}
use Rattle.check_world.specs.Cuts.{AreCuts, Changed, CutState, IsCut, KeepsTable, chips_of, noted, state_in, turned}
use Rattle.check_world.specs.Points.{PointState}
use Rattle.check_world.specs.Sides.{AreSides, SidesState, table_of}
use Rattle.br_model.proofs.Table.ChipLists.{apart, apart-chips, chip-found, put-place, some-found}
use Rattle.br_model.proofs.Plane.ByDomain.{same_chip}
use Rattle.br_model.proofs.Plane.Noting.{kept_note}

-- what is there for the definitions is there for the states
pub there_at : (states : List CutState) (chips : List Chip) (dom : ℕ) → chips_of states ≡ chips → is_some (chip_in chips dom) ≡ true → is_some (state_in states dom) ≡ true
there_at states chips dom are some = sym (some-found (λ (s : CutState). s.chip) states dom) ∙ ap (λ (cs : List Chip). is_some (chip_in cs dom)) are ∙ some

pub found_at : (states : List CutState) (chips : List Chip) (dom : ℕ) (c : CutState) → chips_of states ≡ chips → state_in states dom ≡ Some c → chip_in chips dom ≡ Some c.chip
found_at states chips dom c are found = ap (λ (cs : List Chip). chip_in cs dom) (sym are) ∙ chip-found (λ (s : CutState). s.chip) states dom ∙ ap (option_map (λ (s : CutState). s.chip)) found

pub same_state : (states : List CutState) (dom : ℕ) (c d : CutState) → state_in states dom ≡ Some c → state_in states dom ≡ Some d → c ≡ d
same_state states dom c d e f = let g : Some c ≡ Some d = sym e ∙ f in cc

-- one with the same table
pub kept_cut : (e : Edition) (H : List Change) (old new : CutState) → IsCut e H old → KeepsTable old new → IsCut e H new
kept_cut e H old new k same = record {
  table = same.table ∙ k.table ∙ ap (λ n. table (cut e H n)) (sym same.count);
  applied = omega (arith, k.applied, same.count);
}

pub noted_keeps : (c : CutState) (port : ℕ) (head : Head) → KeepsTable c (noted c port head)
noted_keeps c port head =
    let k = kept_note port (report c.table port head) (hit_of c.table port head) c.chip in
    record { table = refl; dom = k.0; count = k.1 }

-- one that has applied a deferred change more

pub turned_own : (c : CutState) (d : Change) → (turned c d).chip.dom ≡ c.chip.dom
turned_own c d = (hit_by-keeps (record c.chip { count = c.chip.count + 1 }) d).dom

pub turned_cut : (e : Edition) (H : List Change) (c : CutState) (d : Change) → IsCut e H c → deferred_at e H c.chip.count ≡ Some d → IsCut e H (turned c d)
turned_cut e H c d k at =
    let keep = hit_by-keeps (record c.chip { count = c.chip.count + 1 }) d in
    record {
      table = ap (λ (t : Table). apply t d) k.table ∙ sym (cut-turn e H c.chip.count d at) ∙ ap (λ n. table (cut e H n)) (sym keep.count);
      applied = omega (arith, (deferred_at-deferred e H c.chip.count d at).1, keep.count);
    }

pub turn_fits : (e : Edition) (H : List Change) (c : CutState) (d : Change) → IsCut e H c → AreWithin H → deferred_at e H c.chip.count ≡ Some d → IsTrue (fits c.table d)
turn_fits e H c d k within at = subst (λ (t : Table). IsTrue (fits t d)) (sym k.table) (turn-fits e H c.chip.count d within at)

-- the cut of a domain
pub cut_found : (domains : Domains) (H : List Change) (states : List CutState) (dom : ℕ) (c : CutState) → AreCuts domains H states → state_in states dom ≡ Some c → IsCut domains.edition H c
cut_found domains H states dom c are found = find-each (IsCut domains.edition H) (λ (s : CutState). s.chip.dom == dom) states c (recursion_from_All _ states are.each) found

-- what contracts see of sides with these chips
abbrev pub seen : Controlled → ℕ → List ℕ → List Chip → SidesState
seen b published counts chips = record { setup = b.setup; history = b.history; control = b.control; chips = chips; published = published; counts = counts }

module _ (domains : Domains) (H : List Change) (old new : List CutState) (dom : ℕ) (is : CutState → CutState → Type 0) (ch : Changed old new dom is) (are : AreCuts domains H old) where
  pub was_cut : IsCut domains.edition H ch.was
  was_cut = subst (IsCut domains.edition H) (get_or_from_slice_get old ch.place ch.was ch.was ch.at) (are.each ch.place ch.was (slice_get_within old ch.place ch.was ch.at))

  put_chips : ch.now.chip.dom ≡ ch.was.chip.dom → chips_of new ≡ put_chip (chips_of old) ch.now.chip
  put_chips own = ap chips_of ch.put ∙ put-place (λ (s : CutState). s.chip) old ch.place ch.was ch.now (ap apart are.doms ∙ apart-chips domains) ch.at own

  pub cuts_with : ch.now.chip.dom ≡ ch.was.chip.dom → IsCut domains.edition H ch.now → AreCuts domains H new
  cuts_with own k = subst (AreCuts domains H) (sym ch.put) (record {
    each = All-set (IsCut domains.edition H) old ch.place ch.now k are.each;
    doms = map-set_same (λ (s : CutState). s.chip.dom) old ch.place ch.now ch.was
        (own ∙ sym (ap (λ (s : CutState). s.chip.dom) (get_or_from_slice_get old ch.place ch.was ch.was ch.at))) ∙ are.doms;
  })

  pub cuts_kept : KeepsTable ch.was ch.now → AreCuts domains H new
  cuts_kept same = cuts_with same.dom (kept_cut domains.edition H ch.was ch.now was_cut same)

  -- for contracts
  pub changed : (b : Controlled) (published : ℕ) (counts : List ℕ) (s : SidesState) (x : Chip) (f : Chip → Chip) → seen b published counts (chips_of old) ≡ s → chip_in s.chips dom ≡ Some x
      → ch.now.chip.dom ≡ ch.was.chip.dom → ch.now.chip ≡ f ch.was.chip → seen b published counts (chips_of new) ≡ record s { chips = put_chip s.chips (f x) }
  changed b published counts s x f was found own so =
      let same = same_chip s.chips dom x ch.was.chip found (found_at old s.chips dom ch.was (ap (λ (t : SidesState). t.chips) was) ch.found) in
      ap (seen b published counts) (put_chips own ∙ ap (put_chip (chips_of old)) (so ∙ ap f (sym same))) ∙ ap (λ (t : SidesState). record t { chips = put_chip t.chips (f x) }) was

-- sides with these cuts
pub sides_with : (b : Controlled) (old new : List CutState) (places : List ℕ) (point : PointState) → AreSides b old places point → AreCuts b.setup.domains b.history new → AreSides b new places point
sides_with b old new places point are cuts = record { follows = cuts; places = are.places; stands = are.stands }

module _ (b : Controlled) (published : ℕ) (counts : List ℕ) (states : List CutState) (s : SidesState) (was : seen b published counts (chips_of states) ≡ s) where
  pub are_chips : chips_of states ≡ s.chips
  are_chips = ap (λ (t : SidesState). t.chips) was

  -- what a cut decides is what its chip does
  pub decides_for : (places : List ℕ) (point : PointState) (dom : ℕ) (x : Chip) (y : CutState) (port : ℕ) (head : Head) (msg : McastMsg) (v : Verdict)
      → AreSides b states places point → chip_in s.chips dom ≡ Some x → state_in states dom ≡ Some y
      → Decides b.setup.domains y.table port head msg v → Decides s.setup.domains (table_of s x) port head msg v
  decides_for places point dom x y port head msg v are at found decided =
      let same = same_chip s.chips dom x y.chip at (found_at states s.chips dom y are_chips found) in
      let cut = cut_found b.setup.domains b.history states dom y are.follows found in
      subst (λ (t : SidesState). Decides t.setup.domains (table_of t x) port head msg v) was
      (subst (λ (z : Chip). Decides b.setup.domains (chip_table b.setup.domains.edition b.history z) port head msg v) (sym same)
      (subst (λ (t : Table). Decides b.setup.domains t port head msg v) cut.table decided))

  -- the update that is spoken of is the chip's next one
  pub next_at : (dom : ℕ) (u : Update) (x : CutState) → state_in states dom ≡ Some x
      → ((y : Chip) → chip_in s.chips dom ≡ Some y → slice_get (updates s.setup.domains.edition s.history) y.count ≡ Some u)
      → deferred_at b.setup.domains.edition b.history x.chip.count ≡ Some u.change
  next_at dom u x found next =
      (updates-named b.setup.domains.edition b.history x.chip.count u
      (subst (λ (t : SidesState). (y : Chip) → chip_in t.chips dom ≡ Some y → slice_get (updates t.setup.domains.edition t.history) y.count ≡ Some u) (sym was) next
      x.chip (found_at states (chips_of states) dom x refl found))).1

-- sides of which a chip has turned, or noted a frame

pub turned_sides : (b : Controlled) (old new : List CutState) (places : List ℕ) (point : PointState) (dom : ℕ) (d : Change) → AreSides b old places point
    → (ch : Changed old new dom (λ c e. e ≡ turned c d)) → deferred_at b.setup.domains.edition b.history ch.was.chip.count ≡ Some d → AreSides b new places point
turned_sides b old new places point dom d are ch at =
    let k = was_cut b.setup.domains b.history old new dom _ ch are.follows in
    sides_with b old new places point are (cuts_with b.setup.domains b.history old new dom _ ch are.follows (ap (λ (c : CutState). c.chip.dom) ch.so ∙ turned_own ch.was d)
    (subst (IsCut b.setup.domains.edition b.history) (sym ch.so) (turned_cut b.setup.domains.edition b.history ch.was d k at)))

pub kept_sides : (b : Controlled) (old new : List CutState) (places : List ℕ) (point : PointState) (dom : ℕ) → AreSides b old places point → Changed old new dom KeepsTable
    → AreSides b new places point
kept_sides b old new places point dom are ch = sides_with b old new places point are (cuts_kept b.setup.domains b.history old new dom KeepsTable ch are.follows ch.so)

pub noted_sides : (b : Controlled) (published : ℕ) (counts : List ℕ) (old new : List CutState) (places : List ℕ) (point : PointState) (s : SidesState) (dom : ℕ) (x : Chip) (port : ℕ) (head : Head)
    → seen b published counts (chips_of old) ≡ s → AreSides b old places point → chip_in s.chips dom ≡ Some x → (ch : Changed old new dom (λ c e. e ≡ noted c port head))
    → seen b published counts (chips_of new) ≡ record s { chips = put_chip s.chips (notes (table_of s x) port head x) }
noted_sides b published counts old new places point s dom x port head was are at ch =
    let k = was_cut b.setup.domains b.history old new dom _ ch are.follows in
    let same = same_chip s.chips dom x ch.was.chip at (found_at old s.chips dom ch.was (ap (λ (t : SidesState). t.chips) was) ch.found) in
    let table-is : ch.was.table ≡ table_of s x =
    k.table ∙ ap (chip_table b.setup.domains.edition b.history) (sym same) ∙ ap (λ (t : SidesState). table_of t x) was in
    changed b.setup.domains b.history old new dom _ ch are.follows b published counts s x (λ y. notes ch.was.table port head y) was at
    (ap (λ (c : CutState). c.chip.dom) ch.so ∙ (noted_keeps ch.was port head).dom) (ap (λ (c : CutState). c.chip) ch.so)
    ∙ ap (λ (t : Table). record s { chips = put_chip s.chips (notes t port head x) }) table-is

pub changed_as : (old new : List CutState) (dom : ℕ) (is be : CutState → CutState → Type 0) → ((c e : CutState) → is c e → be c e) → Changed old new dom is → Changed old new dom be
changed_as old new dom is be f ch = record { place = ch.place; was = ch.was; now = ch.now; found = ch.found; at = ch.at; so = f ch.was ch.now ch.so; put = ch.put }
