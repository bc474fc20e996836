-- The VLANs of each port beside the rows of the VLANs.
use Rattle.std.proofs.Common.{◌≡◌, ℕ, ◌+◌, ◌*◌, ◌/◌, ◌%◌, ◌<◌, Bool, true, false, ◌&&◌, cond, List, []}
use Rattle.std.proofs.Common.{length, get_or, set, replicate, length-set, Option, is_some, refl, sym, ap, ap₂, subst, ◌∙◌, arith}
use Rattle.std.specs.Prelude.{◌==◌}
use Rattle.std.specs.Ordering.{eq_by_cmp}
use Rattle.std.proofs.lemmas.Bool.{le-leb}
use Rattle.std.proofs.lemmas.List.{get_or_default, get_or-replicate}
use Rattle.lemmas.proofs.Tests.{and_comm}
use Rattle.br_model.specs.Data.Maps.{pair_cmp, get}
use Rattle.br_model.specs.Table.Domains.{port_places}
use Rattle.br_model.proofs.Data.PairKeys.{eq-pair}
use Rattle.port_sets.specs.Numbers.{numbers_below, has_number}
use Rattle.vlan_groups.specs.declared.row.Row.{Row}
use Rattle.vlan_groups.specs.Joined.{block_count, has_vlan, is_vlan, Switches}
use Rattle.vlan_groups.specs.Rows.{no_ports, at_port, memberships_from}
use Rattle.vlan_groups.specs.Tied.{AreTied}
use Rattle.vlan_groups.specs.Vlans.{vids_of}
use Rattle.vlan_groups.proofs.Memberships.{get-memberships, get-set, vids-from, between}
use Rattle.vlan_groups.proofs.Walks.{is_joined}

some_cond : (b : Bool) (o other : Option Bool) → is_some (cond b o other) ≡ cond b (is_some o) (is_some other)
some_cond true o other = refl
some_cond false o other = refl

-- a new row at place k, which differs at port p alone
pub tied-set : (rows : List Row) (blocks blocks' : List (List ℕ)) (k v p : ℕ) (o : Option Bool) (row new : Row) → AreTied rows blocks → k < 4094 → k + 1 ≡ v → row ≡ get_or rows k row
    → ((q : ℕ) → at_port new q ≡ cond (q == p) o (at_port row q)) → Switches blocks blocks' p v (is_some o) → AreTied (set rows k new) blocks'
tied-set rows blocks blocks' k v p o row new old within at is h switched = record {
  sized = length-set rows k new ∙ old.sized;
  joined = λ q w q_low w_low.
      switched q w w_low
      ∙ ap₂ (λ b c. cond b (is_some o) c) (and_comm (q == p) (w == v) ∙ ap (λ x. (w == x) && (q == p)) (sym place) ∙ sym (eq-pair w q (1 + k) p)) (old.joined q w q_low w_low)
      ∙ sym (some_cond (eq_by_cmp pair_cmp (w, q) (1 + k, p)) o (get pair_cmp (memberships_from 1 rows) (w, q)))
      ∙ sym (ap is_some (get-set rows k new p o inside (λ r. h r ∙ ap (λ (x : Row). cond (r == p) o (at_port x r)) (is ∙ get_or_default rows k row no_ports inside)) w q));
}
  where
    place : 1 + k ≡ v
    place = omega arith

    inside : k < length rows
    inside = subst (λ n. k < n) (sym old.sized) within

-- no port is in a VLAN
pub tied-none : (rows : List Row) (blocks : List (List ℕ)) → length rows ≡ 4094 → memberships_from 1 rows ≡ [] → blocks ≡ replicate block_count [] → AreTied rows blocks
tied-none rows blocks sized none no_blocks = record {
  sized = sized;
  joined = λ q w q_low w_low.
      ap (λ (bs : List (List ℕ)). has_vlan bs q w) no_blocks
      ∙ ap (λ (b : List ℕ). has_number b (w % 64)) (get_or-replicate block_count (64 * q + w / 64) [] [] (omega arith))
      ∙ sym (ap (λ es. is_some (get pair_cmp es (w, q))) none);
}

-- the VLANs of a port by its blocks
pub vids-tied : (rows : List Row) (blocks : List (List ℕ)) (p : ℕ) → AreTied rows blocks → p < port_places
    → numbers_below 4096 (λ v. is_vlan v && has_vlan blocks p v) ≡ vids_of (memberships_from 1 rows) p
vids-tied rows blocks p tied low =
    sym (vids-from rows 1 p (is_joined blocks p) each
    ∙ between (length rows) 4096 (is_joined blocks p) (omega (arith, tied.sized)) refl (ap (λ n. is_joined blocks p (n + 1)) tied.sized))
  where
    each : (k : ℕ) → k < length rows → is_joined blocks p (1 + k) ≡ is_some (at_port (get_or rows k no_ports) p)
    each k inside =
        let below : k < 4094 = subst (λ n. k < n) tied.sized inside in
        ap₂ (λ a b. (a && b) && has_vlan blocks p (1 + k)) (le-leb 1 (1 + k) (omega arith)) (le-leb (1 + k) 4094 (omega arith))
        ∙ tied.joined p (1 + k) low (omega arith)
        ∙ ap is_some (get-memberships rows 1 k p)
