use Rattle.std.proofs.Common.{◌≤◌, List, length, sym, ap, ◌∙◌, subst, arith}
use Rattle.br_model.specs.declared.change.Change.{Change}
use mathlib.Core.List.{IsPrefix}
use Rattle.table_publish.specs.Object.{Object, Begins, IsPublished, object_of}
use Rattle.table_publish.specs.Content.{IsTable}
use Rattle.table_publish.specs.Board.{Known}
use Rattle.table_publish.proofs.Objects.{prefix_shorter, begins_of, begins_self, published_of}
use Rattle.table_publish.proofs.Steps.{looks}
use Rattle.table_publish.proofs.seat.Seat.lookup.Goals as goal

pub enter_as-requires : goal.enter_as-requires
enter_as-requires c = looks _ _

pub returns-then-published-self-clause-begins : goal.returns-then-published-self-clause-begins
returns-then-published-self-clause-begins c =
    let now = c.miss-then-published-self.new.self.object in
    subst (λ (o : Object). Begins now o) (c.miss-then-published-self.ensures.object ∙ ap (λ (k : Known). k.object) c.self.view_is) (begins_self now)

pub returns-clause-begins : goal.returns-clause-begins
returns-clause-begins c =
    let mine = c.self.inside.seen.log in
    let read = c.get-published.result.now.seen.log in
    let both = c.learn.new.self.log in
    let table : IsTable c.get-published.result.now = subst IsTable (sym c.get-published.ensures) c.in-Ok.ensures.1.1 in
    let here : IsPrefix mine both = subst (λ (l : List (List Change)). IsPrefix l both) (ap (λ s. s.log) c.again-both.ensures) c.learn.ensures.2 in
    let le : length mine ≤ length read = omega (arith, c.self.invariant.batches, table.batches, c.if-published-self.false) in
    let p = prefix_shorter mine read both here c.learn.ensures.3 le in
    let q : Begins (object_of c.again.result.log) (object_of mine) = subst (λ (l : List (List Change)). Begins (object_of l) (object_of mine)) (ap (λ s. s.log) (sym c.again.ensures))
    (begins_of mine read p) in
    subst (λ (o : Object). Begins (object_of c.again.result.log) o) (ap (λ (k : Known). k.object) c.self.view_is) q

pub returns-clause-published : goal.returns-clause-published
returns-clause-published c =
    let table : IsTable c.get-published.result.now = subst IsTable (sym c.get-published.ensures) c.in-Ok.ensures.1.1 in
    subst (λ (l : List (List Change)). IsPublished (object_of l)) (ap (λ s. s.log) (sym c.again.ensures)) (published_of c.get-published.result.now.seen.log table.full)
