use Rattle.std.proofs.Common.{◌≡◌, ◌+◌, ◌<◌, List, [], ◌∷◌, ◌++◌, length, sym, ap, ◌∙◌, subst, arith, rules, length-append}
use Rattle.std.proofs.lemmas.Grind.{common_steps}
use Rattle.std.proofs.lemmas.List.{append-nil}
use Rattle.br_model.specs.declared.change.Change.{Change}
use Rattle.br_model.specs.Table.Limits.{AreWithin}
use Rattle.table_publish.specs.Object.{Object, IsPublished, changes_of, object_of, published, AllFull}
use Rattle.table_publish.specs.Law.{head_of}
use Rattle.table_publish.specs.Content.{after, IsTable}
use Rattle.table_publish.specs.Rule.{book_of}
use Rattle.table_publish.specs.Packed.{Listed}
use Rattle.table_publish.specs.Board.{Shelf}
use Rattle.table_publish.specs.declared.content.Published.{Published}
use Rattle.table_publish.specs.declared.content.Operation.{Operation}
use Rattle.table_publish.proofs.Objects.{changes_of-push, object_of-push, full_push, published_of}
use Rattle.table_publish.proofs.Publishing.{table_after, published_some}
use Rattle.table_publish.proofs.Shelves.{shelved_full, shelved_published, shelved_batches}
use Rattle.table_publish.proofs.board.Board.publish.Goals as goal

pub returns-then-len-eq0-clause-published : goal.returns-then-len-eq0-clause-published
returns-then-len-eq0-clause-published g c = subst (λ (o : Object). IsPublished o) (ap (λ (k : Shelf). k.object) c.self.view_is) (shelved_published c.self.inside c.self.invariant)

pub returns-in_err-changes-clause-published : goal.returns-in_err-changes-clause-published
returns-in_err-changes-clause-published g c = shelved_published c.self.inside c.self.invariant

pub invariant_of-self : goal.invariant_of-self
invariant_of-self g c =
    let i = c.self.invariant in
    record {
      word = i.word;
      batches = i.batches;
      len = i.len;
      shown = i.shown;
      table = i.table;
      idle = i.idle;
      named = i.named;
      fit = subst (λ (v : Listed). AreWithin (changes_of c.self.inside.seen.log ++ v.list)) (sym c.in_err-changes.ensures.err) i.fit;
      room = c.take_pending.ensures.room;
    }

pub enter_batch-seen-requires-clause-batches : goal.enter_batch-seen-requires-clause-batches
enter_batch-seen-requires-clause-batches g c = (c.self.invariant.batches, shelved_batches c.self.inside c.self.invariant)

pub replace_with-requires : goal.replace_with-requires
replace_with-requires g c =
    let i = c.self.invariant in
    let log = c.self.inside.seen.log in
    let items = c.in_ok-changes.changes.list in
    let same = ap (λ s. s.log) i.shown in
    let is : c.again.result.log ≡ log ++ items ∷ [] = ap (λ s. s.log) c.again.ensures ∙ c.enter_batch-seen.ensures.log in
    let all : items ≡ c.self.inside.pending.list = c.in_ok-changes.ensures.items in
    let some : 0 < length items = grind (arith, common_steps) in
    let within : AreWithin (changes_of log ++ items) = subst (λ (l : List Change). AreWithin (changes_of log ++ l)) (sym all) i.fit in
    let op : Operation = record { changes = c.in_ok-changes.changes; batches = c.self.inside.batches + 1; seen = c.again.result } in (
      i.idle,
      (
        table_after c.self.inside.writer.desk.shown.value op log i.table same is (let e : c.self.inside.batches + 1 ≡ length log + 1 = omega (arith, i.batches) in e) some within,
        ap (λ s. s.book) c.again.ensures ∙ (c.enter_batch-seen.ensures.book ∙ sym (ap (λ s. s.book) i.shown)),
      ),
    )

pub overflow_add-self : goal.overflow_add-self
overflow_add-self g c = let b = shelved_batches c.self.inside c.self.invariant in omega arith

pub invariant_of-self-2 : goal.invariant_of-self-2
invariant_of-self-2 g c =
    let h = c.replace_with.ensures in
    let i = c.self.invariant in
    let b = c.enter_batch-seen.ensures in
    let log = c.self.inside.seen.log in
    let items = c.in_ok-changes.changes.list in
    let op : Operation = record { changes = c.in_ok-changes.changes; batches = c.self.inside.batches + 1; seen = c.again.result } in
    let before = c.self.inside.writer.desk.shown.value in
    let same = ap (λ s. s.log) i.shown in
    let is : c.again.result.log ≡ log ++ items ∷ [] = ap (λ s. s.log) c.again.ensures ∙ b.log in
    let all : items ≡ c.self.inside.pending.list = c.in_ok-changes.ensures.items in
    let some : 0 < length items = grind (arith, common_steps) in
    let within : AreWithin (changes_of log ++ items) = subst (λ (l : List Change). AreWithin (changes_of log ++ l)) (sym all) i.fit in
    let shown : c.replace_with.new.dest.desk.shown.value ≡ after before op = h.0 in
    let table : IsTable (after before op) = table_after before op log i.table same is (let e : c.self.inside.batches + 1 ≡ length log + 1 = omega (arith, i.batches) in e) some within in
    let held : c.len-count.result ≡ length c.self.inside.pending.list = search rules in
    let count : c.len-count.result ≡ length items = held ∙ ap length (sym all) in
    let whole : changes_of c.enter_batch-seen.result.log ≡ changes_of log ++ items = ap changes_of b.log ∙ changes_of-push log items in
    let changes : length (changes_of c.enter_batch-seen.result.log) ≡ length (changes_of log) + length items = ap length whole ∙ length-append (changes_of log) items in
    let longer : length c.enter_batch-seen.result.log ≡ length log + 1 = ap length b.log ∙ length-append log (items ∷ []) in
    let none : c.take_pending.new.pending.list ≡ [] = c.in_ok-changes.ensures.empty in
    let all_now : changes_of log ++ items ≡ changes_of c.enter_batch-seen.result.log ++ c.take_pending.new.pending.list =
    sym (ap (λ (l : List Change). changes_of c.enter_batch-seen.result.log ++ l) none ∙ (append-nil (changes_of c.enter_batch-seen.result.log) ∙ whole)) in
    record {
      word = i.word ∙ ap head_of (sym b.book);
      batches = omega (arith, i.batches, longer);
      len = omega (arith, i.len, changes, count);
      shown = ap (λ (p : Published). p.seen) shown ∙ c.again.ensures;
      table = subst IsTable (sym shown) table;
      idle = h.1.0;
      named = (ap (λ v. v.named) h.1.1 ∙ i.named.0, ap book_of h.1.1 ∙ (i.named.1 ∙ sym b.book));
      fit = subst AreWithin all_now within;
      room = c.take_pending.ensures.room;
    }

pub returns-clause-ok : goal.returns-clause-ok
returns-clause-ok g c =
    let b = c.enter_batch-seen.ensures in
    let log = c.self.inside.seen.log in
    let items = c.in_ok-changes.changes.list in
    let all : items ≡ c.self.inside.pending.list = c.in_ok-changes.ensures.items in
    let some : 0 < length items = grind (arith, common_steps) in
    let view = c.self.view_is in
    let now : object_of c.enter_batch-seen.result.log ≡ published (object_of log) c.self.inside.pending.list =
    ap object_of b.log ∙ (object_of-push log items ∙ (published_some (object_of log) items some ∙ ap (published (object_of log)) all)) in
    let none : c.take_pending.new.pending.list ≡ [] = c.in_ok-changes.ensures.empty in
    (λ k. record { board = record { book = b.book k; domains = c.self.inside.domains }; object = now k; pending = none k })
    ∙ ap (λ (s : Shelf). record { board = s.board; object = published s.object s.pending; pending = [] }) view

pub returns-clause-count : goal.returns-clause-count
returns-clause-count g c =
    let i = c.self.invariant in
    let b = c.enter_batch-seen.ensures in
    let log = c.self.inside.seen.log in
    let items = c.in_ok-changes.changes.list in
    let all : items ≡ c.self.inside.pending.list = c.in_ok-changes.ensures.items in
    let held : c.len-count.result ≡ length c.self.inside.pending.list = search rules in
    let count : c.len-count.result ≡ length items = held ∙ ap length (sym all) in
    let changes : length (changes_of c.enter_batch-seen.result.log) ≡ length (changes_of log) + length items = ap (λ (l : List (List Change)). length (changes_of l)) b.log
    ∙ (ap length (changes_of-push log items) ∙ length-append (changes_of log) items) in
    omega (arith, i.len, changes, count)

pub returns-clause-published : goal.returns-clause-published
returns-clause-published g c =
    let b = c.enter_batch-seen.ensures in
    let items = c.in_ok-changes.changes.list in
    let some : 0 < length items = grind (arith, common_steps) in
    let full : AllFull c.enter_batch-seen.result.log = subst AllFull (sym b.log) (full_push c.self.inside.seen.log items (shelved_full c.self.inside c.self.invariant) some) in
    published_of c.enter_batch-seen.result.log full

pub overflow_add-operation : goal.overflow_add-operation
overflow_add-operation g c = let b = shelved_batches c.self.inside c.self.invariant in omega arith
