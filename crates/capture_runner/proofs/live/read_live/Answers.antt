use Rattle.std.proofs.Common.{Err, List, ℕ, ap, false, subst, sym, ◌∙◌}
use Rattle.std.proofs.lemmas.Result.{err_from_is_err_and}
use Rattle.scenario_reader.specs.Whole.{SaysWhole}
use Rattle.capture_runner.proofs.Living.{read_some, reads_lacking, reads_on, stops_below, stops_full}
use Rattle.capture_runner.proofs.live.read_live.Goals as goal

pub returns-then-is_some-clause-reads : goal.returns-then-is_some-clause-reads
returns-then-is_some-clause-reads g c =
    let t = c.in_ok-taken.ensures.takes in
    let says = subst (λ (b : List ℕ). SaysWhole false b c.in_ok-whole.whole) c.deref.ensures.value c.in_ok-whole.ensures.says in
    read_some _ _ _ c.in_ok-whole.whole t.consumed says c.in_ok-whole.ensures.lines c.last.result c.last.ensures (sym c.is_some.ensures ∙ c.if-is_some.true) t.within

pub returns-in-Full-clause-reads : goal.returns-in-Full-clause-reads
returns-in-Full-clause-reads g c =
    let t = c.in_ok-taken.ensures.takes in
    let full = rw c.in-Full.is at t.cause in
    let says = subst (λ (b : List ℕ). SaysWhole false b c.in_ok-whole.whole) c.deref.ensures.value c.in_ok-whole.ensures.says in
    stops_full _ _ _ c.in_ok-whole.whole t.consumed says c.in_ok-whole.ensures.lines (reads_on c.in_ok-whole.whole c.last.result c.last.ensures (sym c.is_some.ensures ∙ c.if-is_some.false)) full

pub returns-clause-reads : goal.returns-clause-reads
returns-clause-reads g c =
    let t = c.in_ok-taken.ensures.takes in
    let cause = rw c.in-ReadFault.is at t.cause in
    let says = subst (λ (b : List ℕ). SaysWhole false b c.in_ok-whole.whole) c.deref.ensures.value c.in_ok-whole.ensures.says in
    stops_below _ _ _ c.in_ok-whole.whole t.consumed says c.in_ok-whole.ensures.lines (reads_on c.in_ok-whole.whole c.last.result c.last.ensures (sym c.is_some.ensures ∙ c.if-is_some.false)) cause.0

pub returns-in_err-taken-clause-reads : goal.returns-in_err-taken-clause-reads
returns-in_err-taken-clause-reads g c =
    let some = c.in_err-taken.ensures.takes in
    let err = err_from_is_err_and c.from_residual.result c.from_residual.ensures.1 in
    reads_lacking _ _ some.input some.consumed _ (err.1 ∙ ap Err err.2)

pub returns-in_err-whole-clause-reads : goal.returns-in_err-whole-clause-reads
returns-in_err-whole-clause-reads g c =
    let err = err_from_is_err_and c.from_residual-in_err-whole.result c.from_residual-in_err-whole.ensures.1 in
    reads_lacking _ _ c.in_ok-taken.taken.bytes.items c.in_ok-taken.ensures.takes.consumed _ (err.1 ∙ ap Err err.2)
