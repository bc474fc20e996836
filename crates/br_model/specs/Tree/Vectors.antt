-- Priority vectors, the election of the root, and the roles that follow from it.
-- Source: IEEE 802.1D-1998 sections 8.6.2 (what is recorded) and 8.6.7 to 8.6.10 (configuration update). That a message of
-- this bridge is no candidate, and that costs stop at the largest number of 32 bits, are this profile's.
use Rattle.std.specs.Prelude.{ℕ, ◌+◌, ◌^◌, ◌==◌, nat_lt, nat_le, min, ◌-◌, Bool, true, not, ◌&&◌, ◌||◌, if◌then◌else◌, List}
use Rattle.std.specs.List.{filter, filter_map, reduce}
use Rattle.std.specs.declared.cmp.Ordering.{Ordering}
use Rattle.std.specs.declared.option.Option.{Option}
use Rattle.std.specs.declared.option.Option.TheVariants.{None, Some}
use Rattle.std.specs.Option.{is_none, option_eq, option_map, option_and_then, option_map_or}
use Rattle.std.specs.Ordering.{nat_cmp, then_cmp, on, is_lt, is_eq, is_le, ord_min}
use Rattle.br_model.specs.declared.tree.Candidate.{Candidate}
use Rattle.br_model.specs.declared.tree.ConfigMsg.{ConfigMsg}
use Rattle.br_model.specs.declared.tree.Root.{Root}
use Rattle.br_model.specs.declared.tree.Stamped.{Stamped}
use Rattle.br_model.specs.declared.tree.TreePort.{TreePort}
use Rattle.br_model.specs.declared.tree.Vector.{Vector}
use Rattle.br_model.specs.Tree.Tree.{Tree, bridge_id, port_id, numbers, kept_at, each}

-- Vectors: lower is better.

-- by root, cost and bridge
abbrev pub bridge_cmp : Vector → Vector → Ordering
bridge_cmp = then_cmp (on (λ v. v.root) nat_cmp) (then_cmp (on (λ v. v.cost) nat_cmp) (on (λ v. v.bridge) nat_cmp))

-- by root, cost, bridge and port
abbrev pub vector_cmp : Vector → Vector → Ordering
vector_cmp =
    then_cmp (on (λ v. v.root) nat_cmp) (then_cmp (on (λ v. v.cost) nat_cmp) (then_cmp (on (λ v. v.bridge) nat_cmp) (on (λ v. v.port) nat_cmp)))

abbrev pub vector_of : ConfigMsg → Vector
vector_of m = record { root = m.root; cost = m.cost; bridge = m.bridge; port = m.port }

abbrev pub kept_vector : TreePort → Option Vector
kept_vector x = option_map (λ k. vector_of k.message) x.kept

-- Root selection (8.6.8)

-- by vector, and then by the port's own identifier
abbrev pub candidate_cmp : Candidate → Candidate → Ordering
candidate_cmp = then_cmp (on (λ c. c.vector) vector_cmp) (on (λ c. c.id) nat_cmp)

abbrev pub largest_cost : ℕ
largest_cost = 2 ^ 32 - 1

-- What a port offers to the bridge of this identifier: its vector, where the root is better than this bridge and the designated
-- bridge is another one.
abbrev pub offered : ℕ → ℕ × TreePort → Vector → Option Candidate
offered id e v =
    if nat_lt v.root id && not (v.bridge == id)
    then Some (record { vector = record v { cost = min (v.cost + e.1.cost) largest_cost }; id = port_id e; port = e.0 })
    else None

abbrev pub candidate : ℕ → ℕ × TreePort → Option Candidate
candidate id e = option_and_then (offered id e) (kept_vector e.1)

abbrev pub candidates : Tree → List Candidate
candidates t = filter_map (candidate (bridge_id t)) t.ports

abbrev pub least : List Candidate → Option Candidate
least cs = reduce (ord_min candidate_cmp) cs

-- the root of the least candidate, and with none this bridge
abbrev pub root_by : ℕ → Option Candidate → Root
root_by id None = record { id = id; cost = 0; port = None }
root_by id (Some c) = record { id = c.vector.root; cost = c.vector.cost; port = Some c.port }

unfoldable pub root_of : Tree → Root
root_of t = root_by (bridge_id t) (least (candidates t))

abbrev pub is_root : Tree → Bool
is_root t = is_none (root_of t).port

-- what the root port has kept
abbrev pub root_kept : Tree → Option Stamped
root_kept t = option_and_then (kept_at t) (root_of t).port

-- Designated port selection (8.6.9), below a root and for the bridge of this identifier

abbrev pub is_port_of : Root → ℕ → Bool
is_port_of root p = option_eq (λ x y. x == y) root.port (Some p)

-- the bridge's own vector at the port
abbrev pub own_vector : ℕ → Root → ℕ × TreePort → Vector
own_vector id root e = record { root = root.id; cost = root.cost; bridge = id; port = port_id e }

-- whether nothing kept is better than the bridge's own vector
abbrev pub is_best : ℕ → Root → ℕ × TreePort → Bool
is_best id root e = option_map_or (λ v. is_le (vector_cmp (own_vector id root e) v)) (kept_vector e.1) true

abbrev pub is_designated_by : ℕ → Root → ℕ × TreePort → Bool
is_designated_by id root e = not (is_port_of root e.0) && is_best id root e

abbrev pub is_root_port : Tree → ℕ → Bool
is_root_port t p = is_port_of (root_of t) p

abbrev pub is_designated : Tree → ℕ × TreePort → Bool
is_designated t e = is_designated_by (bridge_id t) (root_of t) e

abbrev pub is_active : Tree → ℕ × TreePort → Bool
is_active t e = is_root_port t e.0 || is_designated t e

abbrev pub designated_ports : Tree → List ℕ
designated_ports t = numbers (filter (is_designated t) t.ports)

-- a port that becomes designated forgets what it kept (8.6.10)
abbrev pub without_kept : Bool → TreePort → TreePort
without_kept designated x = if designated then record x { kept = None } else x

-- roles are taken anew
unfoldable pub roles : Tree → Tree
roles t = record t { ports = each (λ e. without_kept (is_designated t e) e.1) t.ports }

-- Keeping a message (8.6.2)

-- a designated port holds the bridge's own vector, another one what it has kept
abbrev pub held : Tree → ℕ × TreePort → Vector
held t e =
    let own = own_vector (bridge_id t) (root_of t) e in
    if is_designated t e then own else option_map_or (λ v. v) (kept_vector e.1) own

-- Whether the vector takes the place of the one that is held: it is lower by root, cost and bridge, or equal, and then
-- from another bridge than this one, or from a port of this one that isn't above.
abbrev pub supersedes : ℕ → Vector → Vector → Bool
supersedes id v h = is_lt (bridge_cmp v h) || (is_eq (bridge_cmp v h) && (not (v.bridge == id) || nat_le v.port h.port))

abbrev pub keeps : Tree → ℕ × TreePort → ConfigMsg → Bool
keeps t e m = supersedes (bridge_id t) (vector_of m) (held t e)
