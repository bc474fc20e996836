use Rattle.std.proofs.Common.{◌++◌, ◌∷◌, [], List, Option, Vec, Global, take, filter_map, sym, ap, ◌∙◌}
use Rattle.std.specs.List.{cons_option}
use Rattle.std.proofs.lemmas.List.{append-nil}
use Rattle.lemmas.proofs.Lists.{filter_map-next}
use Rattle.neigh_netlink.specs.Neighbours.{Key}
use Rattle.chip_audit.specs.Audits.{Row}
use Rattle.chip_audit.specs.Marks.{row_at}
use Rattle.chip_audit.proofs.rows.rows_of.Goals as goal
use Rattle.chip_audit.proofs.rows.rows_of.Goals.{in-Some+in_ok-push, in_default}

pub loop-key-preserved : goal.loop-key-preserved
loop-key-preserved c =
    let keys : List Key = c.args.keys.now in
    let at : Key → Option Row = row_at c.args.tables.now in
    let made : Option Row → List Row = λ o. filter_map at (take c.loop-key.key-index keys) ++ cons_option o [] in
    let next = filter_map-next at keys c.loop-key.key-index c.key-item.result c.loop-key-test.true ∙ ap (λ (k : Key). made (at k)) (sym c.key-item.is) ∙ ap made (sym c.row_at.ensures) in
    elim c.match-row_at.branch [
      | in-Some+in_ok-push w ↦ ap (λ (v : Vec Row Global). v.items) w.rows-is ∙ w.in_ok-push.ensures.items ∙ ap (λ (l : List Row). l ++ w.in-Some.row ∷ []) c.loop-key.invariant
          ∙ ap made (sym w.in-Some.is) ∙ sym next
      | in_default w ↦ ap (λ (v : Vec Row Global). v.items) w.rows-is ∙ c.loop-key.invariant ∙ sym (append-nil _) ∙ ap made (sym w.in_default.is) ∙ sym next
    ]
