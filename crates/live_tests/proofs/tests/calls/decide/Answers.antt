use Rattle.std.proofs.Common.{◌≡◌, true, Bool, ◌≤◌, List, length, take, Option, Some, Ok, sym, ap, ap₂, ◌∙◌, subst, arith}
use Rattle.std.specs.Prelude.{IfSome}
use Rattle.std.specs.Ordering.{nat_cmp}
use Rattle.std.proofs.lemmas.List.{take_all}
use Rattle.br_model.specs.declared.change.Change.{Change}
use Rattle.br_model.specs.declared.frame.Head.{Head}
use Rattle.br_model.specs.declared.frame.McastMsg.{McastMsg}
use Rattle.br_model.specs.Data.Maps.{has}
use Rattle.br_model.specs.Table.Table.{table}
use Rattle.br_model.specs.Wire.Frames.{frame}
use Rattle.br_model.specs.Wire.Messages.{message}
use Rattle.forward_rules.specs.Decided.{Decides}
use Rattle.table_publish.specs.declared.seat.Seen.{Seen}
use Rattle.plane_lock.proofs.Posting.{count-if}
use Rattle.live_tests.proofs.tests.calls.decide.Goals as goal

-- the point is the last count that the seat knows
pub returns-clause-seen : goal.returns-clause-seen
returns-clause-seen c =
    let n = c.in_ok-seen.seen in
    let o = c.lookup.new.self.object in
    let is : c.lookup.result ≡ Some n = c.in_ok-seen.ensures.ok_part in
    let point : n.point ≡ length o.changes = subst (λ (r : Option Seen). IfSome r (λ s. s.point ≡ length o.changes)) is c.lookup.ensures.point in
    let all : take n.point o.changes ≡ o.changes = take_all n.point o.changes (omega (arith, point)) in
    record {
      point =
          subst (λ (r : Option Seen). IfSome r (λ s. has nat_cmp o.counts s.point ≡ true)) is
          (count-if c.lookup.result o c.lookup.ensures.published c.lookup.ensures.point);
      floor = omega (arith, c.if-seen-held.false);
      verdict = λ head f.
          let same : Ok c.in_ok-head.head ≡ Ok head = c.in_ok-head.ensures.value ∙ (ap frame c.as_slice.ensures ∙ f) in
          let this : c.in_ok-head.head ≡ head = cc in
          subst (λ (y : List Change × Head × McastMsg). Decides c.lookup.new.self.board.domains (table y.0) c.args.held.now.port y.1 y.2 n.verdict)
          (λ i. (sym all i, this i, (c.classify-message.ensures.value ∙ ap₂ message c.as_slice-2.ensures this) i))
          (subst (λ (r : Option Seen). IfSome r (λ s. Decides c.lookup.new.self.board.domains (table o.changes) c.args.held.now.port c.in_ok-head.head c.classify-message.result s.verdict)) is
          c.lookup.ensures.verdict);
    }
