use Rattle.std.proofs.Common.{◌≡◌, ℕ, ◌<◌, false, ◌&&◌}
use Rattle.std.specs.Prelude.{is_some}
use Rattle.br_model.specs.Table.Domains.{domain_of}
use Rattle.port_sets.specs.Numbers.{has_number}
use Rattle.forward_rules.proofs.foreign.has_declared.Given as goal

-- no port so far is both in the set and declared
abbrev pub invariant-loop-number : goal.invariant-loop-number
invariant-loop-number l = (k : ℕ) → k < l.number → (has_number l.ports k && is_some (domain_of l.domains k)) ≡ false
