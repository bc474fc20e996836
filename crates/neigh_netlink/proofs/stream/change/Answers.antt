use Rattle.std.proofs.Common.{◌≡◌, Some}
use Rattle.br_model.specs.Table.Change.{address_part}
use Rattle.neigh_netlink.proofs.stream.change.Goals as goal

pub put-requires : goal.put-requires
put-requires c =
    let whole : address_part c.args.change.now ≡ Some (c.in_ok-key.key, Some (c.in-Some.port, c.in-Some.kind)) = cc in
    c.requires (c.in_ok-key.key, (c.in-Some.port, c.in-Some.kind)) whole
