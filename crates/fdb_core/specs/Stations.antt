-- Where stations are: of each VLAN and address the port and the kind of its entry.
use Rattle.std.specs.Prelude.{ℕ, List}
use Rattle.br_model.specs.declared.change.Kind.{Kind}

-- the entries, ascending by VLAN and address, and how many there is room for
pub record Whereabouts : Type 0 where
  pub entries : List ((ℕ × ℕ) × (ℕ × Kind))
  pub room : ℕ
