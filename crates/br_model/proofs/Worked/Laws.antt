-- The worked worlds, tables and runs of laws, computed by the definitions.
use Rattle.std.proofs.Common.{◌≡◌, ℕ, ◌+◌, ◌<◌, [], ◌∷◌, map, length, None, suc, zero, refl, arith}
use Rattle.std.proofs.lemmas.List.Elements.{All-nil, All-cons}
use Rattle.std.proofs.lemmas.List.FromFn.{length-map-range_with_len}
use Rattle.std.specs.List.{range_with_len}
use Rattle.br_model.specs.declared.transcript.Line.TheVariants.{Refused}
use Rattle.br_model.specs.Data.Maps.{pair_cmp, get}
use Rattle.br_model.specs.Forward.Class.{class}
use Rattle.br_model.specs.Plane.Runs.{run}
use Rattle.br_model.specs.Plane.Steps.{world_step}
use Rattle.br_model.specs.Table.Domains.{port_places}
use Rattle.br_model.specs.Table.Limits.{most_addresses}
use Rattle.br_model.specs.Table.Table.{table}
use Rattle.br_model.specs.Theorems.StatesAgree.{IsBeyond}
use Rattle.br_model.specs.Theorems.Wanted.{ArePorts}
use Rattle.br_model.specs.Tree.Tree.{state_at}
use Rattle.br_model.specs.Worked.Hold.{soft_ports, station_b}
use Rattle.br_model.specs.Worked.Laws.{chip_ports, at_first, refused_at_first, station_a, station_c, known_table, head_to, classes_known, tree_steps, entry_of, full_of_addresses, one_address_more, moment_steps}
use Rattle.br_model.proofs.Worked.Computing.{computing, computing_tree}

pub refused_first : map (λ x. world_step at_first x.0) refused_at_first ≡ map (λ x. (record at_first { steps = 1 }, Refused 1 x.1 ∷ [])) refused_at_first
unfolding computing
refused_first = refl

pub classes_are : map (λ x. class chip_ports.domains known_table 1 (head_to x.0) x.1) classes_known ≡ map (λ x. x.2) classes_known
unfolding computing known_table
classes_are = refl

pub ports_are : ArePorts known_table
unfolding computing known_table
ports_are =
    All-cons (λ q. q < port_places) 1 (2 ∷ 3 ∷ []) (omega arith)
    (All-cons (λ q. q < port_places) 2 (3 ∷ []) (omega arith) (All-cons (λ q. q < port_places) 3 [] (omega arith) (All-nil (λ q. q < port_places))))

pub states_in_table : (table (run soft_ports tree_steps).0.history).state ≡ (1, 2) ∷ (2, 1) ∷ []
unfolding computing_tree
states_in_table = refl

pub states_in_tree : map (state_at (run soft_ports tree_steps).0.control.tree) (1 ∷ 2 ∷ []) ≡ 2 ∷ 1 ∷ []
unfolding computing_tree
states_in_tree = refl

no-vlan-2 : (a n : ℕ) → get pair_cmp (map entry_of (range_with_len a n)) (2, station_a) ≡ None
no-vlan-2 a zero = refl
no-vlan-2 a (suc n) = no-vlan-2 (a + 1) n

pub is-beyond : IsBeyond full_of_addresses.table one_address_more
unfolding full_of_addresses
is-beyond =
    let e : length full_of_addresses.table.addr ≡ most_addresses = length-map-range_with_len entry_of 1 most_addresses in
    (no-vlan-2 1 most_addresses, omega (arith, e))

pub moments : (run soft_ports moment_steps).0.control.updated ≡ ((1, station_a), 3000) ∷ ((1, station_b), 1000) ∷ ((1, station_c), 2000) ∷ []
unfolding computing
moments = refl
