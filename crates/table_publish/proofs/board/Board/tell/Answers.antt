use Rattle.std.proofs.Common.{◌≤◌, List, length, sym, ap, subst, arith}
use Rattle.br_model.specs.declared.change.Change.{Change}
use mathlib.Core.List.{IsPrefix}
use Rattle.table_publish.specs.Board.{Shelf, Known}
use Rattle.table_publish.specs.Object.{Object, Begins, IsPublished, object_of, AllFull}
use Rattle.table_publish.proofs.Objects.{prefix_shorter, begins_of, begins_self, published_of}
use Rattle.table_publish.proofs.board.Board.tell.Goals as goal

pub returns-then-s-self-clause-told : goal.returns-then-s-self-clause-told
returns-then-s-self-clause-told c =
    let q : Begins (object_of c.again.result.log) (object_of c.self.inside.seen.log) =
    subst (λ (l : List (List Change)). Begins (object_of c.again.result.log) (object_of l)) (ap (λ s. s.log) c.again.ensures) (begins_self (object_of c.again.result.log)) in
    subst (λ (o : Object). Begins (object_of c.again.result.log) o) (ap (λ (k : Shelf). k.object) c.self.view_is) q

pub returns-then-s-self-clause-kept : goal.returns-then-s-self-clause-kept
returns-then-s-self-clause-kept c =
    let mine = c.self.inside.seen.log in
    let theirs = c.s.inside.seen.log in
    let both = c.learn.new.self.log in
    let here : IsPrefix mine both = subst (λ (l : List (List Change)). IsPrefix l both) (ap (λ s. s.log) c.again-both.ensures) c.learn.ensures.2 in
    let le : length theirs ≤ length mine = omega (arith, c.self.invariant.batches, c.s.invariant.batches, c.if-s-self.true) in
    let p = prefix_shorter theirs mine both c.learn.ensures.3 here le in
    let q : Begins (object_of c.again.result.log) (object_of theirs) = subst (λ (l : List (List Change)). Begins (object_of l) (object_of theirs)) (ap (λ s. s.log) (sym c.again.ensures))
    (begins_of theirs mine p) in
    subst (λ (o : Object). Begins (object_of c.again.result.log) o) (ap (λ (k : Known). k.object) c.s.view_is) q

pub returns-then-s-self-clause-published : goal.returns-then-s-self-clause-published
returns-then-s-self-clause-published c =
    let full : AllFull c.self.inside.seen.log = subst (λ (l : List (List Change)). AllFull l) (ap (λ s. s.log) c.self.invariant.shown) c.self.invariant.table.full in
    subst (λ (l : List (List Change)). IsPublished (object_of l)) (ap (λ s. s.log) (sym c.again.ensures)) (published_of c.self.inside.seen.log full)

pub returns-clause-told : goal.returns-clause-told
returns-clause-told c =
    let mine = c.self.inside.seen.log in
    let theirs = c.s.inside.seen.log in
    let both = c.learn.new.self.log in
    let here : IsPrefix mine both = subst (λ (l : List (List Change)). IsPrefix l both) (ap (λ s. s.log) c.again-both.ensures) c.learn.ensures.2 in
    let le : length mine ≤ length theirs = omega (arith, c.self.invariant.batches, c.s.invariant.batches, c.if-s-self.false) in
    let p = prefix_shorter mine theirs both here c.learn.ensures.3 le in
    let q = begins_of mine theirs p in
    let r : Begins c.args.s.now.object (object_of mine) = subst (λ (o : Object). Begins o (object_of mine)) (ap (λ (k : Known). k.object) c.s.view_is) q in
    subst (λ (o : Object). Begins c.args.s.now.object o) (ap (λ (k : Shelf). k.object) c.self.view_is) r

pub returns-clause-published : goal.returns-clause-published
returns-clause-published c =
    subst (λ (o : Object). IsPublished o) (ap (λ (k : Known). k.object) c.s.view_is) (published_of c.s.inside.seen.log c.s.invariant.full)
