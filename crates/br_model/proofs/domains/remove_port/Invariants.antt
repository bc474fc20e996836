use Rattle.std.proofs.Common.{◌≡◌, ℕ, ◌<◌, ◌≤◌, not, ◌&&◌, [], get_or, length}
use Rattle.std.specs.Prelude.{◌==◌}
use Rattle.port_sets.specs.Numbers.{has_number, numbers_below}
use Rattle.br_model.specs.Table.Domains.{port_places}
use Rattle.br_model.proofs.domains.remove_port.Given as goal

abbrev pub invariant-loop-domain : goal.invariant-loop-domain
invariant-loop-domain l = record {
  done : (k : ℕ) → k < l.domain → get_or l.members k [] ≡ numbers_below port_places (λ q. has_number (get_or l.initial.members k []) q && not (q == l.p));
  left : (k : ℕ) → l.domain ≤ k → get_or l.members k [] ≡ get_or l.initial.members k [];
  sized : length l.members ≡ 5;
}
