use Rattle.std.proofs.Common.{◌≡◌, ℕ, ◌==◌, Bool, List, ◌++◌, ap, refl, ◌∙◌, arith}
use Rattle.std.specs.List.{flat_map, filter}
use Rattle.std.specs.String.{string_bytes}
use Rattle.br_model.specs.Program.Listings.{vlan_line}
use Rattle.br_model.specs.Table.Domains.{port_places}
use Rattle.scenario_text.proofs.Listed.{port_more, all_numbers}
use Rattle.scenario_text.proofs.listing.append_memberships.Goals as goal

pub loop-number-preserved : goal.loop-number-preserved
loop-number-preserved c =
    port_more (vlan_line c.args.roster.now.ports c.args.table.now.pvid) (λ port. filter (λ e. e.0.1 == port) c.args.table.now.vlans)
    (string_bytes c.args.to.now) (string_bytes c.loop-number.to) (string_bytes c.append_memberships_of.new.to) c.loop-number.number c.loop-number.number
    c.loop-number.invariant c.in_ok-append_memberships_of.ensures refl

pub returns : goal.returns
returns c =
    let all : c.loop-number.number ≡ port_places = omega arith in
    let line = vlan_line c.args.roster.now.ports c.args.table.now.pvid in
    let at = λ (port : ℕ). filter (λ (e : (ℕ × ℕ) × Bool). e.0.1 == port) c.args.table.now.vlans in
    c.loop-number.invariant
    ∙ ap (λ (xs : List ((ℕ × ℕ) × Bool)). string_bytes c.args.to.now ++ flat_map line xs) (all_numbers at c.loop-number.number all)
