use Rattle.std.proofs.Common.{◌≡◌, true, ap, sym, ◌∙◌}
use Rattle.fdb_core.specs.Fdb.{Table, learned_moment, oldest}
use Rattle.fdb_core.proofs.Addresses.{least-by_address}
use Rattle.fdb_core.proofs.Oldest.{bounds-all, first-oldest}
use Rattle.fdb_core.proofs.table.Fdb.oldest.Goals as goal

pub returns-clause-value : goal.returns-clause-value
returns-clause-value c = c.least.ensures ∙ sym (least-by_address learned_moment c.self.inside.entries.entries) ∙ ap (λ (t : Table). oldest t.entries) c.self.view_is

pub returns-clause-first : goal.returns-clause-first
returns-clause-first c = λ moment h. bounds-all moment c.args.self.now.entries (λ m e. h m (returns-clause-value c ∙ e))

pub returns-then-is_complete-clause-value : goal.returns-then-is_complete-clause-value
returns-then-is_complete-clause-value c =
    let es = c.self.inside.entries.entries in
    let ages = c.self.inside.ages in
    let complete : ages.complete ≡ true = cc in
    c.first.ensures ∙ first-oldest ages.latest ages.places.items es c.self.invariant.sorted (c.self.invariant.told complete) c.self.invariant.settled
    ∙ sym (least-by_address learned_moment es) ∙ ap (λ (t : Table). oldest t.entries) c.self.view_is

pub returns-then-is_complete-clause-first : goal.returns-then-is_complete-clause-first
returns-then-is_complete-clause-first c = λ moment h. bounds-all moment c.args.self.now.entries (λ m e. h m (returns-then-is_complete-clause-value c ∙ e))
