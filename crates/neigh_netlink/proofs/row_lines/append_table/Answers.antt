use Rattle.std.proofs.Common.{◌∙◌}
use Rattle.std.specs.String.{string_bytes}
use Rattle.neigh_netlink.proofs.RowTexts.{table_pushed}
use Rattle.neigh_netlink.proofs.row_lines.append_table.Goals as goal

pub returns : goal.returns
returns c = table_pushed c.push_str.result (string_bytes c.args.text.now) _ _ _ _ (c.as_slice.ensures ∙ c.in_ok-rows.ensures) c.in_ok-append_rows.ensures c.push_str.ensures.bytes
