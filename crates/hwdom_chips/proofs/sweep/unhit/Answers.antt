use Rattle.std.proofs.Common.{◌≡◌, ℕ, ◌<◌, ◌≤◌, ◌++◌, ◌∷◌, [], List, Option, None, Some, Vec, Global, length, get_or, slice_get, take, filter_map, sym, ap, ◌∙◌, arith}
use Rattle.std.specs.List.{cons_option}
use Rattle.std.proofs.lemmas.List.{append-nil}
use Rattle.std.proofs.lemmas.Option.{slice_get-get_or}
use Rattle.lemmas.proofs.Lists.{filter_map-next}
use Rattle.br_model.specs.Control.Learning.{Address, Triple}
use Rattle.learn_report.specs.Reports.{chip_of}
use Rattle.hwdom_chips.proofs.Sweeping.{at_place, before, all-swept}
use Rattle.hwdom_chips.proofs.sweep.unhit.Goals as goal
use Rattle.hwdom_chips.proofs.sweep.unhit.Goals.{in-Some+in_ok-push, in_default}

pub loop-i-preserved : goal.loop-i-preserved
loop-i-preserved c d dom t ports =
    let places : List (Option Address) = c.args.tables.now.places in
    let found : Option Address → Option Triple = at_place d (chip_of dom 0 c.args.reports.now) c.args.tables.now in
    let made : Option Triple → List Triple = λ o. filter_map found (take c.loop-i.i places) ++ cons_option o [] in
    let within : c.loop-i.i < length places = omega (arith, c.loop-i-test.true, c.written_address_rows-i-end.ensures.few, c.written_address_rows-i-end.ensures.placed.sized) in
    let next = filter_map-next found places c.loop-i.i None within
    ∙ ap made (sym (c.unseen.ensures d dom t (get_or places c.loop-i.i None) ports (slice_get-get_or places c.loop-i.i None within))) in
    elim c.match-unseen.branch [
      | in-Some+in_ok-push w ↦ ap (λ (v : Vec Triple Global). v.items) w.stations-is ∙ w.in_ok-push.ensures.items
          ∙ ap (λ (l : List Triple). l ++ w.in-Some.station ∷ []) (c.loop-i.invariant d dom t ports)
          ∙ ap made (sym w.in-Some.is) ∙ sym next
      | in_default w ↦ ap (λ (v : Vec Triple Global). v.items) w.stations-is ∙ c.loop-i.invariant d dom t ports ∙ sym (append-nil _) ∙ ap made (sym w.in_default.is) ∙ sym next
    ]

pub returns : goal.returns
returns c d dom t n stand =
    let places : List (Option Address) = c.args.tables.now.places in
    let chip = chip_of dom n c.args.reports.now in
    let rows = c.written_address_rows-i-end.ensures in
    let rest : (i : ℕ) → c.loop-i.i ≤ i → i < length places → slice_get places i ≡ Some None =
    λ i past below. rows.rest i (omega (arith, c.loop-i-test.false, past)) (omega (arith, below, rows.placed.sized)) in
    c.of.ensures
    ∙ all-swept d chip c.args.tables.now t c.loop-i.stations.items c.sort_unstable.new.self.items stand.addresses rows.placed
    (c.loop-i.invariant d dom t stand.ports ∙ before d chip c.args.tables.now c.loop-i.i places rest) c.sort_unstable.ensures.permutation c.sort_unstable.ensures.sorted
