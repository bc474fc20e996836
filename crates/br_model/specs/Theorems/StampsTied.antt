-- A table and the moments of its addresses belong together: each entry, of whatever kind, has the moment at which it was put there or
-- renewed last, and nothing else has one.
-- Source: this profile.
use Rattle.std.specs.Prelude.{◌≡◌, true}
use Rattle.br_model.specs.Control.Control.{Control}
use Rattle.br_model.specs.Control.Ends.{keys}
use Rattle.br_model.specs.Data.Maps.{pair_cmp, is_ascending}
use Rattle.br_model.specs.Table.Table.{Table}

pub record AreStamped (t : Table) (c : Control) : Type 0 where
  pub addresses : keys c.updated ≡ keys t.addr
  -- and they ascend by VLAN and address
  pub ascend : is_ascending pair_cmp c.updated ≡ true
