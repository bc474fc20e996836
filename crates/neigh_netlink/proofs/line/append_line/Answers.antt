use Rattle.std.proofs.Common.{sym, subst}
use Rattle.std.specs.Str.{IsUtf8}
use Rattle.neigh_netlink.specs.Messages.{written}
use Rattle.neigh_netlink.proofs.HexDigits.{line-utf8}
use Rattle.neigh_netlink.proofs.line.append_line.Goals as goal

pub from_utf8_unchecked-requires : goal.from_utf8_unchecked-requires
from_utf8_unchecked-requires c = subst IsUtf8 (sym c.line-line.ensures.value) (line-utf8 (written c.args.neigh.now) c.line-line.ensures.bytes)
