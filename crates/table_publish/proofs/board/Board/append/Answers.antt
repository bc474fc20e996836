use Rattle.std.proofs.Common.{◌≡◌, ◌+◌, ◌≤◌, List, ◌++◌, length, sym, ap, ◌∙◌, subst, append_assoc, length-append, arith}
use Rattle.br_model.specs.declared.change.Change.{Change}
use Rattle.br_model.specs.Table.Limits.{AreWithin, most_changes}
use Rattle.table_publish.specs.Object.{changes_of, object_of}
use Rattle.table_publish.specs.Packed.{Listed}
use Rattle.table_publish.specs.Board.{Shelf, all_of}
use Rattle.table_publish.proofs.board.Board.append.Goals as goal

pub add-requires : goal.add-requires
add-requires c =
    let published = c.args.self.now.object.changes in
    let pending = ap (λ (s : Shelf). length s.pending) c.self.view_is in
    omega (arith, c.requires.few, c.self.invariant.room, length-append (published ++ c.args.self.now.pending) c.args.c.now, length-append published c.args.self.now.pending)

pub invariant_of-self : goal.invariant_of-self
invariant_of-self c =
    let i = c.self.invariant in
    let before = changes_of c.self.inside.seen.log in
    let all : before ++ c.add.new.self.list ≡ all_of c.args.self.now ++ c.args.c.now =
    ap (λ (p : Listed). before ++ p.list) c.add.ensures
    ∙ (sym (append_assoc before c.self.inside.pending.list c.args.c.now) ∙ ap (λ (s : Shelf). all_of s ++ c.args.c.now) c.self.view_is) in
    record {
      word = i.word;
      batches = i.batches;
      len = i.len;
      shown = i.shown;
      table = i.table;
      idle = i.idle;
      named = i.named;
      fit = subst AreWithin (sym all) c.requires;
      room = subst (λ n. most_changes ≤ n) (sym (ap (λ (p : Listed). p.room) c.add.ensures)) i.room;
    }

pub returns : goal.returns
returns c =
    (λ k. record { board = record { book = c.self.inside.seen.book; domains = c.self.inside.domains }; object = object_of c.self.inside.seen.log; pending = (c.add.ensures k).list })
    ∙ ap (λ (s : Shelf). record { board = s.board; object = s.object; pending = s.pending ++ c.args.c.now }) c.self.view_is
