-- Laws of the spanning tree, in words of their own.
use Rattle.std.specs.Prelude.{ℕ, ◌≡◌, ◌≢◌, ◌<◌, ◌^◌, nat_le, ⊤, Bool, List, [], IsSome}
use Rattle.std.specs.List.{All, Contains, list_all}
use Rattle.std.specs.declared.cmp.Ordering.TheVariants.{Less}
use Rattle.std.specs.declared.option.Option.{Option}
use Rattle.std.specs.declared.option.Option.TheVariants.{None, Some}
use Rattle.br_model.specs.declared.bpdu.BpduMsg.{BpduMsg}
use Rattle.br_model.specs.declared.bpdu.BpduMsg.TheVariants.{Config, Tcn}
use Rattle.br_model.specs.Tree.Tree.{Tree}
use Rattle.br_model.specs.declared.tree.Candidate.{Candidate}
use Rattle.br_model.specs.declared.tree.Root.{Root}
use Rattle.br_model.specs.Tree.Vectors.{candidate_cmp, candidates, root_of, roles}
use Rattle.br_model.specs.Tree.States.{blocking}
use Rattle.br_model.specs.Tree.Step.{message}

-- no candidate is lower
abbrev pub IsLeast : List Candidate → Candidate → Type 0
IsLeast cs c = Contains cs c × All (λ d. candidate_cmp d c ≢ Less) cs

-- What the candidates elect: with none the bridge itself, else the root, the cost and the port of a candidate than which none
-- is lower.
abbrev pub IsElected : List Candidate → Root → Option ℕ → Type 0
IsElected cs r None = cs ≡ []
IsElected cs r (Some p) = (c : Candidate) × IsLeast cs c × (c.port ≡ p) × (c.vector.root ≡ r.id) × (c.vector.cost ≡ r.cost)

-- the root port offers the least of all candidates
abbrev pub HasLeastRoot : Tree → Type 0
HasLeastRoot t = IsElected (candidates t) (root_of t) (root_of t).port

-- Roles that are taken move nothing: what designated ports forget leaves the root and each role as they were.
abbrev pub RolesStand : Tree → Type 0
RolesStand t = (root_of (roles t) ≡ root_of t) × (roles (roles t) ≡ roles t)

-- whether each port that is up is in a state that Linux numbers, 0 to 4
abbrev pub knows_states : Tree → Bool
knows_states t = list_all (λ e. nat_le e.1.state blocking) t.ports

-- a message went out on each of these ports, and `message` tells the last one
abbrev pub HaveSent : Tree → List ℕ → Type 0
HaveSent t ps = All (λ p. IsSome (message t p)) ps

-- whether each field fits the bytes that it has in a frame
abbrev pub Fits : BpduMsg → Type 0
Fits (Config flags root cost bridge port age max hello delay) =
    (flags < 2 ^ 8) × (root < 2 ^ 64) × (cost < 2 ^ 32) × (bridge < 2 ^ 64) × (port < 2 ^ 16) × (age < 2 ^ 16) × (max < 2 ^ 16)
    × (hello < 2 ^ 16)
    × (delay < 2 ^ 16)
Fits Tcn = ⊤
