use Rattle.std.specs.Prelude.{codes}
use Rattle.std.specs.String.{string_bytes}
use Rattle.std.proofs.lemmas.Result.{on_ok_weaker}
use Rattle.lemmas.proofs.Lists.{two_parts}
use Rattle.driver_notices.specs.Lines.{member_object}
use Rattle.driver_notices.proofs.writer.append_join.Goals as goal

pub returns : goal.returns
returns c =
    on_ok_weaker c.append_member.result
    (λ last.
    two_parts (string_bytes c.args.to.now) _ _ (codes "port_obj_add ") (member_object c.args.roster.now.ports c.args.port c.args.vid c.args.group)
    c.in_ok-push_str.ensures.bytes last)
    c.append_member.ensures
