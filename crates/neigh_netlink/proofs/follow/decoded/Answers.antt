use Rattle.neigh_netlink.proofs.HexDigits.{decoded, refused}
use Rattle.neigh_netlink.proofs.follow.decoded.Goals as goal

pub returns-in-Ok : goal.returns-in-Ok
returns-in-Ok c = decoded 48 c.args.digits.now c.decode_to_slice.new.out c.decode_to_slice.result c.requires c.decode_to_slice.ensures.value c.in-Ok.is

pub returns-in-Err : goal.returns-in-Err
returns-in-Err c = refused 48 c.args.digits.now c.decode_to_slice.new.out c.decode_to_slice.result c.in-Err.field-0 c.requires c.decode_to_slice.ensures.value c.in-Err.is
