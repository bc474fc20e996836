use Rattle.neigh_netlink.proofs.Rows as rows
use Rattle.neigh_netlink.proofs.laws.follow_refuses.Goals as goal

pub returns : goal.returns
returns c = record {
  unended = rows.refused_unended;
  end = rows.last_unended;
  word = rows.refused_word;
  hex = rows.refused_hex;
  message = rows.refused_padding;
  absent = rows.refused_absent;
}
