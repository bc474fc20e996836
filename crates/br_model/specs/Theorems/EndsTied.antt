-- A table and its ends belong together: what snooping learned is there and has its end beside it, and nothing else has one.
-- Source: this profile.
use Rattle.std.specs.Prelude.{◌≡◌, true}
use Rattle.std.specs.Ordering.{nat_cmp}
use Rattle.br_model.specs.Control.Ends.{Ends, keys}
use Rattle.br_model.specs.Table.Groups.{membership_cmp}
use Rattle.br_model.specs.Data.Maps.{is_ascending}
use Rattle.br_model.specs.Table.Table.{Table}

pub record IsTied (t : Table) (e : Ends) : Type 0 where
  pub groups : keys e.groups ≡ t.groups
  pub routers : keys e.routers ≡ t.routers
  pub queriers : keys e.queriers ≡ t.queriers
  -- and the ends ascend by what they are the ends of
  pub groups_ascend : is_ascending membership_cmp e.groups ≡ true
  pub routers_ascend : is_ascending nat_cmp e.routers ≡ true
  pub queriers_ascend : is_ascending nat_cmp e.queriers ≡ true
