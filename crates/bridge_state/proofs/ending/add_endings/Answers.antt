use Rattle.std.proofs.Common.{ℕ, ◌==◌, true, false, List, ◌++◌, map, sym, ap, ◌∙◌}
use Rattle.br_model.specs.declared.change.Change.{Change}
use Rattle.br_model.specs.declared.change.Change.TheVariants.{Querier}
use Rattle.br_model.specs.Table.Groups.{Membership}
use Rattle.br_model.specs.Table.Table.{ip_version}
use Rattle.bridge_state.specs.Ending.{part, router_off, queriers_off}
use Rattle.bridge_state.proofs.Endings.{in_three, queriers_go}
use Rattle.bridge_state.proofs.ending.add_endings.Goals as goal

pub returns : goal.returns
returns c =
    let ended = c.in_ok-ended.ended in
    let old = c.args.changes.now.items in
    let parts = ap (λ (l : List Membership). map part l) (c.as_slice.ensures ∙ c.in_ok-ended.ensures.groups) in
    let routers = ap (λ (l : List ℕ). map router_off l) c.in_ok-ended.ensures.routers in
    let queriers = sym (ap (λ (l : List ℕ). map (λ (version : ℕ). Querier (version == ip_version true) false) l) c.in_ok-ended.ensures.queriers ∙ queriers_go ended.four ended.six) in
    c.in_ok-add_queriers.ensures
    ∙ ap (λ (l : List Change). l ++ queriers_off ended.four ended.six) (c.in_ok-add_routers.ensures ∙ ap (λ (l : List Change). l ++ map router_off ended.routers) c.in_ok-add_parts.ensures)
    ∙ in_three old _ _ _
    ∙ (λ i. old ++ (parts i ++ (routers i ++ queriers i)))
