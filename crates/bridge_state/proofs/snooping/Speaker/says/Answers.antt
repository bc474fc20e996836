use Rattle.std.proofs.Common.{[], sym, ap, ◌∙◌, arith, length}
use Rattle.std.proofs.lemmas.List.{append-nil}
use Rattle.br_model.specs.declared.frame.McastMsg.{McastMsg}
use Rattle.br_model.specs.Control.Snooping.{queried, said}
use Rattle.bridge_state.specs.Hearing.{most}
use Rattle.bridge_state.proofs.Hearing.{acts-length, like, stays}
use Rattle.bridge_state.proofs.snooping.Speaker.says.Goals as goal

pub records-requires-clause-room : goal.records-requires-clause-room
records-requires-clause-room c =
    omega (
      arith,
      c.requires.room,
      ap (λ (m : McastMsg). most m) c.in-Records.is,
      ap length c.of.ensures,
      acts-length c.args.bytes.now c.in-Records.six c.in-Records.first c.in-Records.count,
    )

pub returns-in-Records-clause-count : goal.returns-in-Records-clause-count
returns-in-Records-clause-count c =
    omega (
      arith,
      c.records.ensures.count,
      ap (λ (m : McastMsg). most m) c.in-Records.is,
      ap length c.of.ensures,
      acts-length c.args.bytes.now c.in-Records.six c.in-Records.first c.in-Records.count,
    )

pub returns-else-counted-clause-adds : goal.returns-else-counted-clause-adds
returns-else-counted-clause-adds c =
    let s = c.args.self.now in (
      [],
      sym (append-nil c.args.changes.now.items),
      like s c.args.groups.now c.args.groups.now [] (λ r. r) (said s.port s.vid c.args.bytes.now c.args.message.now)
          (λ r h. ap (λ (m : McastMsg). said s.port s.vid c.args.bytes.now m r) c.in-Query.is ∙ ap (λ b. queried s.port c.in-Query.six b r) c.if-counted.false)
          (stays s c.args.groups.now),
    )
