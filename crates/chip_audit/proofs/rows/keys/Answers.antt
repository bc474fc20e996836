use Rattle.std.proofs.Common.{◌<◌, ◌≤◌, ◌++◌, ◌∷◌, [], List, Option, None, Vec, Global, length, take, filter_map, sym, ap, ◌∙◌, arith}
use Rattle.std.specs.List.{cons_option}
use Rattle.std.proofs.lemmas.List.{append-nil, take_all}
use Rattle.std.proofs.lemmas.Option.{get_or_from_slice_get}
use Rattle.lemmas.proofs.Lists.{filter_map-next}
use Rattle.neigh_netlink.specs.Neighbours.{Key}
use Rattle.chip_audit.proofs.UsedRows.{sorted-keys}
use Rattle.chip_audit.proofs.rows.keys.Goals as goal
use Rattle.chip_audit.proofs.rows.keys.Goals.{in-Some+in_ok-push, in_default}

pub loop-i-preserved : goal.loop-i-preserved
loop-i-preserved c =
    let places : List (Option Key) = c.args.tables.now.places in
    let made : Option Key → List Key = λ o. filter_map (λ place. place) (take c.loop-i.i places) ++ cons_option o [] in
    let within : c.loop-i.i < length places = omega (arith, c.loop-i-test.true, c.address_rows-i-end.ensures.count, c.address_rows-i-end.ensures.placed.sized) in
    let next = filter_map-next (λ place. place) places c.loop-i.i None within
    ∙ ap made (get_or_from_slice_get places c.loop-i.i c.address_at.result None c.address_at.ensures.place) in
    elim c.match-address_at.branch [
      | in-Some+in_ok-push w ↦ ap (λ (v : Vec Key Global). v.items) w.keys-is ∙ w.in_ok-push.ensures.items ∙ ap (λ (l : List Key). l ++ w.in-Some.key ∷ []) c.loop-i.invariant
          ∙ ap made (sym w.in-Some.is) ∙ sym next
      | in_default w ↦ ap (λ (v : Vec Key Global). v.items) w.keys-is ∙ c.loop-i.invariant ∙ sym (append-nil _) ∙ ap made (sym w.in_default.is) ∙ sym next
    ]

pub returns-clause-keys : goal.returns-clause-keys
returns-clause-keys c =
    let places : List (Option Key) = c.args.tables.now.places in
    let past : length places ≤ c.loop-i.i = omega (arith, c.loop-i-test.false, c.address_rows-i-end.ensures.count, c.address_rows-i-end.ensures.placed.sized) in
    sorted-keys c.args.tables.now c.loop-i.keys.items c.sort_unstable.new.self.items c.address_rows-i-end.ensures.placed
    (c.loop-i.invariant ∙ ap (filter_map (λ place. place)) (take_all _ _ past)) c.sort_unstable.ensures.permutation c.sort_unstable.ensures.sorted
