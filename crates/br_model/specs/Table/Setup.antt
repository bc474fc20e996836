-- What a scenario says before its steps: its edition and the domains of its ports, and the bridge's own address.
-- Source: this profile.
use Rattle.std.specs.Prelude.{ℕ}
use Rattle.br_model.specs.Table.Domains.{Domains}

pub record Setup : Type 0 where
  pub domains : Domains
  pub own : ℕ

-- 02:00:00:00:00:01, where a scenario says nothing else
abbrev pub first_own : ℕ
first_own = 0x020000000001
