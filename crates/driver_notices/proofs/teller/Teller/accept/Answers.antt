use Rattle.std.proofs.Common.{◌≡◌, ℕ, ◌+◌, List, [], ◌∷◌, ◌++◌, take, ap, sym, ◌∙◌, append_assoc, arith}
use Rattle.std.proofs.lemmas.List.{take_all, take_more}
use Rattle.br_model.specs.declared.change.Change.{Change}
use Rattle.br_model.specs.Table.Cut.{deferred_count}
use Rattle.br_model.specs.Table.Limits.{most_changes}
use Rattle.driver_notices.specs.declared.line.NoticeLine.{NoticeLine}
use Rattle.driver_notices.specs.Notices.{lines_of}
use Rattle.driver_notices.specs.Tellers.{next_count, next_line}
use Rattle.driver_notices.proofs.Tellers.{count-below, count-push, lines-push}
use Rattle.driver_notices.proofs.teller.Teller.accept.Goals as goal

pub line-requires : goal.line-requires
line-requires c =
    let below = count-below c.args.self.now.edition c.args.self.now.count c.loop-change.change-index most_changes c.args.changes.now c.loop-change-test.true c.requires in
    omega (arith, below, c.loop-change.invariant.count)

pub counted-self-requires : goal.counted-self-requires
counted-self-requires c =
    let below = count-below c.args.self.now.edition c.args.self.now.count c.loop-change.change-index most_changes c.args.changes.now c.loop-change-test.true c.requires in
    omega (arith, below, c.loop-change.invariant.count)

pub loop-change-preserved : goal.loop-change-preserved
loop-change-preserved c =
    let edition = c.args.self.now.edition in
    let n = c.args.self.now.count in
    let step = c.args.step in
    let cs = c.args.changes.now in
    let at = c.loop-change.change-index in
    let x = c.change-item.result in
    let front = take at cs in
    let old = c.args.lines.now.items in
    let taken : take (at + 1) cs ≡ front ++ x ∷ [] = take_more cs at x c.loop-change-test.true ∙ ap (λ (y : Change). front ++ y ∷ []) (sym c.change-item.is) in
    let its = c.loop-change.invariant.edition in
    let num = c.loop-change.invariant.count in
    let told : c.line.result ≡ next_line edition step (n + deferred_count edition front) x = c.line.ensures ∙ (λ i. next_line (its i) step (num i) x) in
    let counted : c.counted-self.result ≡ next_count edition (n + deferred_count edition front) x = c.counted-self.ensures ∙ (λ i. next_count (its i) (num i) x) in
    record {
      lines =
          c.in_ok-push.ensures.items
          ∙ ap (λ (l : List NoticeLine). l ++ c.line.result ∷ []) c.loop-change.invariant.lines
          ∙ ap (λ (y : NoticeLine). (old ++ lines_of edition step n front) ++ y ∷ []) told
          ∙ append_assoc old (lines_of edition step n front) (next_line edition step (n + deferred_count edition front) x ∷ [])
          ∙ ap (λ (l : List NoticeLine). old ++ l) (sym (lines-push edition step n front x))
          ∙ ap (λ (l : List Change). old ++ lines_of edition step n l) (sym taken);
      count = counted ∙ sym (count-push edition n front x) ∙ ap (λ (l : List Change). n + deferred_count edition l) (sym taken);
      edition = its;
    }

pub returns : goal.returns
returns c =
    let cs = c.args.changes.now in
    let all : take c.loop-change.change-index cs ≡ cs = take_all c.loop-change.change-index cs c.loop-change-test.false in
    record {
      lines =
          c.loop-change.invariant.lines
          ∙ ap (λ (l : List Change). c.args.lines.now.items ++ lines_of c.args.self.now.edition c.args.step c.args.self.now.count l) all;
      count = c.loop-change.invariant.count ∙ ap (λ (l : List Change). c.args.self.now.count + deferred_count c.args.self.now.edition l) all;
      edition = c.loop-change.invariant.edition;
    }
