use Rattle.std.proofs.Common.{sym, subst}
use Rattle.chip_tables.specs.declared.rows.PortRow.{PortRow}
use Rattle.chip_tables.specs.Rows.{Rows, WritesPort}
use Rattle.chip_driver.specs.GroupRows.{GroupsFollow}
use Rattle.chip_driver.proofs.Keeping.{settled_pvid}
use Rattle.chip_driver.proofs.kept.Kept.write_pvid.Goals as goal

pub returns-then-ne-clause-kept : goal.returns-then-ne-clause-kept
returns-then-ne-clause-kept c =
    let kept = c.args.self.now in
    let p = c.args.port in
    let follow = c.requires.follow in
    let writes = subst (λ (r : PortRow). WritesPort kept.tables c.set_port.new.self p (record r { pvid = c.args.pvid })) c.port-row.ensures c.set_port.ensures.row in
    record {
      elsewhere = c.requires.elsewhere;
      settled =
          settled_pvid kept.shadow kept.joined p (record c.port-row.result { pvid = c.args.pvid }) kept.tables c.set_port.new.self c.number-number.ensures.below c.requires.settled writes
          c.set_port.ensures.rest;
      follow = subst (λ (r : Rows). GroupsFollow kept.shadow kept.groups r) (sym c.set_port.ensures.rest) (record { vids = follow.vids; at = follow.at; ascending = follow.ascending });
    }
