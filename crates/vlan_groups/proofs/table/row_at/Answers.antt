use Rattle.std.proofs.Common.{◌<◌, get_or, ap, subst, sym, ◌∙◌}
use Rattle.std.proofs.lemmas.List.{get_or_default}
use Rattle.lists.specs.Padded.{padded}
use Rattle.lists.proofs.Filling.{length-padded}
use Rattle.vlan_groups.specs.declared.row.Row.{Row}
use Rattle.vlan_groups.specs.Rows.{no_ports}
use Rattle.vlan_groups.proofs.table.row_at.Goals as goal

pub returns : goal.returns
returns c =
    let rows = padded no_ports 4094 c.args.rows.now in
    c.item_or.ensures.padded 4094 c.requires ∙ ap (λ (b : Row). get_or (padded b 4094 c.args.rows.now) c.args.place b) c.empty.ensures
    ∙ get_or_default rows c.args.place no_ports c.item_or.result (subst (λ n. c.args.place < n) (sym (length-padded no_ports 4094 c.args.rows.now)) c.requires)
