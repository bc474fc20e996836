-- Which rows a change of one port touches.
use Rattle.std.specs.Prelude.{◌≡◌, ℕ, Bool, true, false}
use Rattle.chip_tables.specs.declared.rows.Flood.TheVariants.{Unicast, Mcast, Bcast}
use Rattle.chip_driver.specs.declared.fans.Fan.{Fan}
use Rattle.chip_driver.specs.declared.fans.Fan.TheVariants.{Floods, Routers}
use Rattle.chip_driver.specs.declared.shadow.Shadow.{Shadow}
use Rattle.chip_driver.specs.declared.shares.Share.{Share}
use Rattle.chip_driver.specs.declared.shares.Shares.{Shares}
use Rattle.chip_driver.specs.declared.shares.Touched.{Touched}
use Rattle.chip_driver.specs.Shadows.{is_target, share_of}

-- what a port has in the rows of a VLAN, by whether it is a member
abbrev pub shares_of : Shadow → ℕ → Bool → Shares
shares_of s q member = record {
  unicast = share_of s q member (is_target s member (Floods Unicast) q);
  mcast = share_of s q member (is_target s member (Floods Mcast) q);
  bcast = share_of s q member (is_target s member (Floods Bcast) q);
  routers = share_of s q member (is_target s member Routers q);
  groups = share_of s q member true;
}

abbrev pub share_in : Shares → Fan → Share
share_in shares (Floods Unicast) = shares.unicast
share_in shares (Floods Mcast) = shares.mcast
share_in shares (Floods Bcast) = shares.bcast
share_in shares Routers = shares.routers

abbrev pub touched_of : Touched → Fan → Bool
touched_of touched (Floods Unicast) = touched.unicast
touched_of touched (Floods Mcast) = touched.mcast
touched_of touched (Floods Bcast) = touched.bcast
touched_of touched Routers = touched.routers

-- in a row that it doesn't touch the port has what it had
pub record Touches (old new : Shares) (touched : Touched) : Type 0 where
  pub fans : (fan : Fan) → touched_of touched fan ≡ false → share_in old fan ≡ share_in new fan
  pub groups : touched.groups ≡ false → old.groups ≡ new.groups
