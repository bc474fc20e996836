use Rattle.std.proofs.Common.{◌∙◌, ◌&&◌, ◌||◌, List, ℕ, ap, cond}
use Rattle.std.specs.Prelude.{◌==◌, nat_le, slice_index}
use Rattle.br_model.specs.Table.Domains.{port_places}
use Rattle.port_sets.specs.Numbers.{numbers_below, has_number}
use Rattle.port_sets.proofs.Building.{among_none, yielded_members}
use Rattle.mdb_snoop.proofs.PortNumbers.{ArePorts-kept}
use Rattle.mdb_snoop.proofs.Mapped.{next-if, due-is, due-has}
use Rattle.mdb_snoop.proofs.moments.Moments.due.Goals as goal

pub loop-port-init : goal.loop-port-init
loop-port-init c = c.empty-due.ensures ∙ among_none port_places (λ m. nat_le (slice_index c.self.inside.moments m) c.args.now)

pub loop-port-preserved : goal.loop-port-preserved
loop-port-preserved c =
    let moments = c.self.inside.moments in
    next-if (λ m. nat_le (slice_index moments m) c.args.now) c.in-Some.port c.loop-port.yielded c.loop-port.due _ c.loop-port.invariant
    (c.with_due-due.ensures
    ∙ ap (λ i. cond (nat_le (slice_index moments i) c.args.now) (numbers_below port_places (λ m. (m == c.in-Some.port) || has_number c.loop-port.due m)) c.loop-port.due) c.from.ensures)

pub returns-clause-value : goal.returns-clause-value
returns-clause-value c =
    let moments = c.self.inside.moments in
    let all = yielded_members c.self.inside.ports _ _ _ c.loop-port.yielded _ (c.into_iter-port-iterator.ensures.into_iter_gives
    ∙ c.iter-port-items.ensures.members) c.loop-port.yielded_by c.in-None.is c.next.ensures.steps in
    c.loop-port.invariant
    ∙ ap (λ (l : List ℕ). numbers_below port_places (λ m. has_number l m && nat_le (slice_index moments m) c.args.now)) all
    ∙ due-is (slice_index moments) c.args.now c.self.inside.ports c.args.self.now c.members_ascend.ensures.ordered c.self.view_is

pub returns-clause-members : goal.returns-clause-members
returns-clause-members c =
    let moments = c.self.inside.moments in
    let all = yielded_members c.self.inside.ports _ _ _ c.loop-port.yielded _ (c.into_iter-port-iterator.ensures.into_iter_gives
    ∙ c.iter-port-items.ensures.members) c.loop-port.yielded_by c.in-None.is c.next.ensures.steps in
    due-has (slice_index moments) c.args.now c.self.inside.ports c.args.self.now c.loop-port.due c.members_ascend.ensures.ordered c.self.view_is
    (c.loop-port.invariant ∙ ap (λ (l : List ℕ). numbers_below port_places (λ m. has_number l m && nat_le (slice_index moments m) c.args.now)) all)

pub returns-clause-ports : goal.returns-clause-ports
returns-clause-ports c =
    let moments = c.self.inside.moments in
    let all = yielded_members c.self.inside.ports _ _ _ c.loop-port.yielded _ (c.into_iter-port-iterator.ensures.into_iter_gives
    ∙ c.iter-port-items.ensures.members) c.loop-port.yielded_by c.in-None.is c.next.ensures.steps in
    ArePorts-kept c.self.inside.ports c.loop-port.due (λ m. nat_le (slice_index moments m) c.args.now) c.self.invariant
    (c.loop-port.invariant ∙ ap (λ (l : List ℕ). numbers_below port_places (λ m. has_number l m && nat_le (slice_index moments m) c.args.now)) all)
