use Rattle.std.proofs.Common.{ℕ, List, [], ◌∷◌, ◌++◌, ap, sym, take, ◌∙◌}
use Rattle.std.specs.List.{flat_map}
use Rattle.std.specs.String.{string_bytes}
use Rattle.std.proofs.lemmas.List.{flat_map_more, take_more}
use Rattle.neigh_netlink.specs.Follow.{row_line}
use Rattle.neigh_netlink.specs.Neighbours.{Row}
use Rattle.neigh_netlink.proofs.row_lines.append_rows.Goals as goal

pub loop-row-preserved : goal.loop-row-preserved
loop-row-preserved c =
    let x = c.row-item.result in
    let rows = c.args.rows.now in
    let at = c.loop-row.row-index in
    c.in_ok-append_row.ensures
    ∙ ap (λ (s : List ℕ). s ++ row_line x) c.loop-row.invariant
    ∙ flat_map_more row_line (string_bytes c.args.text.now) (take at rows) x
    ∙ ap (λ (xs : List Row). string_bytes c.args.text.now ++ flat_map row_line xs) (sym (take_more rows at x c.loop-row-test.true ∙ ap (λ (y : Row). take at rows ++ y ∷ []) (sym c.row-item.is)))
