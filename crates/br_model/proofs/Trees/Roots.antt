-- The root port offers the least of all candidates, and roles that are taken stand.
use Rattle.std.proofs.Common.{◌≡◌, ◌≢◌, ℕ, ◌==◌, ◌+◌, min, nat_lt, Bool, true, false, cond, not, ◌&&◌, List, [], ◌∷◌, Option, None, Some, refl, sym, ap, ◌∙◌}
use Rattle.std.specs.List.{fold, filter_map, cons_option}
use Rattle.std.specs.Option.{option_and_then, option_map_or, option_eq}
use Rattle.std.specs.declared.cmp.Ordering.TheVariants.{Less}
use Rattle.std.specs.Ordering.{ord_min}
use Rattle.std.specs.Cmp.{IsTotalOrder, then_total, on_total, nat_cmp_total, unsigned_Decides}
use Rattle.std.proofs.lemmas.List.Elements.{All-from_recursion}
use Rattle.lemmas.proofs.Tests.{and_first}
use Rattle.br_model.proofs.Data.Least.{lowest, among, kept, least_left, none_least}
use Rattle.br_model.specs.declared.tree.TreePort.{TreePort}
use Rattle.br_model.specs.Tree.Tree.{Tree, bridge_id, port_id, each}
use Rattle.br_model.specs.declared.tree.Vector.{Vector}
use Rattle.br_model.specs.declared.tree.Candidate.{Candidate}
use Rattle.br_model.specs.declared.tree.Root.{Root}
use Rattle.br_model.specs.Tree.Vectors.{vector_cmp, kept_vector, candidate_cmp, largest_cost, offered, candidate, candidates, least}
use Rattle.br_model.specs.Tree.Vectors.{root_by, root_of, is_port_of, is_best, is_designated_by, without_kept, roles}
use Rattle.br_model.specs.Theorems.TreeLaws.{IsElected, HasLeastRoot, RolesStand}

pub candidate_total : IsTotalOrder candidate_cmp
candidate_total = then_total (on_total (λ (c : Candidate). c.vector) vector_total) (on_total (λ (c : Candidate). c.id) nat_cmp_total)
  where
    vector_total : IsTotalOrder vector_cmp
    vector_total =
        then_total
        (on_total (λ (v : Vector). v.root) nat_cmp_total)
        (then_total
        (on_total (λ (v : Vector). v.cost) nat_cmp_total)
        (then_total (on_total (λ (v : Vector). v.bridge) nat_cmp_total) (on_total (λ (v : Vector). v.port) nat_cmp_total)))

elected : (id : ℕ) (cs : List Candidate) → IsElected cs (root_by id (least cs)) (root_by id (least cs)).port
elected id [] = refl
elected id (c ∷ cs) = (
  fold (ord_min candidate_cmp) c cs,
  (
    among candidate_total c cs,
    All-from_recursion (λ d. candidate_cmp d (fold (ord_min candidate_cmp) c cs) ≢ Less) (c ∷ cs) (lowest candidate_total c cs),
  ),
  refl,
  refl,
  refl,
)

pub least_root : (t : Tree) → HasLeastRoot t
unfolding root_of
least_root t = elected (bridge_id t) (candidates t)

-- Roles stand

-- the port of a candidate is the port that offers it
candidate_port : (id : ℕ) (e : ℕ × TreePort) (c : Candidate) → candidate id e ≡ Some c → e.0 ≡ c.port
candidate_port id e c is = by (kept_vector e.1) is
  where
    tests : (b : Bool) (d : Candidate) → d.port ≡ e.0 → cond b (Some d) None ≡ Some c → e.0 ≡ c.port
    tests true d port is = sym port ∙ ap (λ x. option_map_or (λ y. y.port) x 0) is
    tests false d port is = absurd (cc)

    by : (v : Option Vector) → option_and_then (offered id e) v ≡ Some c → e.0 ≡ c.port
    by None is = absurd (cc)
    by (Some v) is =
        tests (nat_lt v.root id && not (v.bridge == id)) (record { vector = record v { cost = min (v.cost + e.1.cost) largest_cost }; id = port_id e; port = e.0 }) refl is

-- the port that offers the least is the root port, and so isn't designated
offers_least : (id : ℕ) (root : Root) (e : ℕ × TreePort) (c : Candidate) → candidate id e ≡ Some c → root.port ≡ Some c.port
    → not (is_designated_by id root e) ≡ true
offers_least id root e c is chosen =
    let port : is_port_of root e.0 ≡ true =
    ap (λ m. option_eq (λ x y. x == y) m (Some e.0)) chosen ∙ (unsigned_Decides c.port e.0).1 (sym (candidate_port id e c is)) in
    ap (λ r. not (not r && is_best id root e)) port

-- an offer is taken away where the port is designated
offers_after : (id : ℕ) (e : ℕ × TreePort) (b : Bool) → candidate id (e.0, without_kept b e.1) ≡ cond (not b) (candidate id e) None
offers_after id e true = refl
offers_after id e false = refl

module _ (id : ℕ) (root : Root) where
  stays : ℕ × TreePort → Bool
  stays e = not (is_designated_by id root e)

  after : List (ℕ × TreePort) → List (ℕ × TreePort)
  after es = each (λ e. without_kept (is_designated_by id root e) e.1) es

  candidates_left : (es : List (ℕ × TreePort)) → filter_map (candidate id) (after es) ≡ filter_map (kept candidate_total (candidate id) stays) es
  unfolding stays after
  candidates_left [] = refl
  candidates_left (e ∷ es) = λ i. cons_option (offers_after id e (is_designated_by id root e) i) (candidates_left es i)

  least_stays : (es : List (ℕ × TreePort)) (m : Option Candidate) → root ≡ root_by id m → least (filter_map (candidate id) es) ≡ m
      → least (filter_map (candidate id) (after es)) ≡ m
  unfolding stays
  least_stays es None by l = ap least (candidates_left es) ∙ none_least candidate_total (candidate id) stays es l
  least_stays es (Some c) by l =
      ap least (candidates_left es)
      ∙ least_left candidate_total (candidate id) stays es c (λ e is. offers_least id root e c is (ap (λ r. r.port) by)) l

  -- a designated port stays designated, and another one doesn't become so
  designated_after : (e : ℕ × TreePort) (b : Bool) → is_designated_by id root e ≡ b → is_designated_by id root (e.0, without_kept b e.1) ≡ b
  designated_after e true d = and_first (not (is_port_of root e.0)) (is_best id root e) d
  designated_after e false d = d

  kept_after : (b : Bool) (x : TreePort) → without_kept b (without_kept b x) ≡ without_kept b x
  kept_after true x = refl
  kept_after false x = refl

  after_twice : (es : List (ℕ × TreePort)) → after (after es) ≡ after es
  unfolding after
  after_twice [] = refl
  after_twice (e ∷ es) =
      let b = is_designated_by id root e in
      let port = ap (λ d. without_kept d (without_kept b e.1)) (designated_after e b refl) ∙ kept_after b e.1 in
      λ i. (e.0, port i) ∷ after_twice es i

root_stays : (t : Tree) → root_of (roles t) ≡ root_of t
unfolding root_of roles after
root_stays t = ap (root_by (bridge_id t)) (least_stays (bridge_id t) (root_of t) t.ports (least (candidates t)) refl refl)

pub roles_stand : (t : Tree) → RolesStand t
unfolding roles after
roles_stand t = (
  root_stays t,
  λ i. record t {
    ports = (
        ap (λ (root : Root). after (bridge_id t) root (after (bridge_id t) (root_of t) t.ports)) (root_stays t)
        ∙ after_twice (bridge_id t) (root_of t) t.ports
        ) i;
  },
)
