use Rattle.std.proofs.Common.{◌≡◌, IsTrue, List, [], ◌++◌, length, refl, sym, ap, ◌∙◌, subst, arith, rules}
use Rattle.br_model.specs.declared.change.Change.{Change}
use Rattle.br_model.specs.Table.Limits.{AreWithin}
use Rattle.br_model.proofs.Table.Within.{within_of}
use Rattle.table_publish.specs.Object.{changes_of}
use Rattle.table_publish.specs.Content.{IsTable}
use Rattle.table_publish.specs.Packed.{Listed}
use Rattle.table_publish.proofs.Steps.{begins}
use Rattle.table_publish.proofs.board.Board.make.Goals as goal

none_within : (pending : List Change) → pending ≡ [] → AreWithin pending
none_within pending e = subst AreWithin (sym e) (within_of [] (omega arith) refl)

pub invariant_of-board : goal.invariant_of-board
invariant_of-board g c =
    let log : c.again-in-Ok.result.log ≡ [] = search rules in
    let pending : c.in_ok-pending.pending.list ≡ [] = ap (λ (p : Listed). p.list) c.in_ok-pending.ensures in
    let all : changes_of c.again-in-Ok.result.log ++ c.in_ok-pending.pending.list ≡ [] =
    ap (λ (l : List (List Change)). changes_of l ++ c.in_ok-pending.pending.list) log ∙ pending in
    let opened : IsTrue c.open_book-writer.result.1 = search rules in
    record {
      word = search rules;
      batches = search rules;
      len = sym (ap (λ (l : List (List Change)). length (changes_of l)) log);
      shown = search rules;
      table = subst IsTable (sym c.fill.ensures.shown) (c.open_book-writer.ensures.table opened);
      idle = search rules;
      named = search rules;
      fit = none_within (changes_of c.again-in-Ok.result.log ++ c.in_ok-pending.pending.list) all;
      room = search rules;
    }

pub new-requires-clause-rule : goal.new-requires-clause-rule
new-requires-clause-rule g c = begins _ c.in_ok-one.ensures.table
