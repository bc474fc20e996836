use Rattle.std.proofs.Common.{◌≡◌, List, [], ◌∷◌, ◌++◌, drop, fold, sym, ap, ◌∙◌, subst}
use Rattle.table_publish.specs.Content.{after, IsTable}
use Rattle.table_publish.specs.declared.content.Published.{Published}
use Rattle.table_publish.specs.declared.content.Operation.{Operation}
use Rattle.table_publish.proofs.Steps.{sees}
use Rattle.table_publish.proofs.board.show.Goals as goal

pub publish_as-writer-requires : goal.publish_as-writer-requires
publish_as-writer-requires g c next is =
    let w = c.hand_over.new.writer in
    let shown : w.desk.shown.value ≡ c.args.writer.desk.shown.value = ap (λ d. d.shown.value) c.hand_over.ensures.desk in
    let op = c.args.with.1 in
    let all : drop w.behind w.log.items ≡ op ∷ [] = c.hand_over.ensures.pending ∙ ap (λ (l : List Operation). l ++ op ∷ []) c.requires.idle in
    let now : next ≡ after c.args.writer.desk.shown.value op = is ∙ (ap (λ (l : List Operation). fold after w.desk.shown.value l) all ∙ ap (λ (p : Published). after p op) shown) in
    let table : IsTable next = subst IsTable (sym now) c.requires.table in
    let book : next.seen.book ≡ w.desk.shown.value.seen.book = ap (λ (p : Published). p.seen.book) now ∙ (c.requires.book ∙ ap (λ (p : Published). p.seen.book) (sym shown)) in
    sees _ _ _ next table book
