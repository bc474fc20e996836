-- What a bridge keeps beside its table: moments, the ageing time, what ends when, and the spanning tree.
-- Source: the kernel's net/bridge (net_bridge_fdb_entry.updated, ageing_time), IEEE 802.1D-1998 section 7.9.2.
use Rattle.std.specs.Prelude.{ℕ, ◌*◌, if◌then◌else◌, List, []}
use Rattle.std.specs.declared.option.Option.TheVariants.{None}
use Rattle.br_model.specs.declared.change.Change.{Change}
use Rattle.br_model.specs.Control.Ends.{Ends, no_ends, lasts, parts, routes, queries}
use Rattle.br_model.specs.Data.Maps.{pair_cmp, put, without}
use Rattle.br_model.specs.Table.Change.{Timed, Untimed, TimedMember, TimedRouter, TimedQuerier, TimedEntry, subject}
use Rattle.br_model.specs.Tree.Tree.{Tree, first_tree}

-- in milliseconds
pub record Control : Type 0 where
  -- the last moment
  pub now : ℕ
  -- how long a learned entry stays that no frame renews
  pub ageing : ℕ
  -- at the VLAN and address of each entry: when it was put there, or renewed last
  pub updated : List ((ℕ × ℕ) × ℕ)
  pub ends : Ends
  pub tree : Tree

abbrev pub milliseconds : ℕ → ℕ
milliseconds seconds = 1000 * seconds

-- of the bridge of this address
abbrev pub first_control : ℕ → Control
first_control own = record { now = 0; ageing = milliseconds 300; updated = []; ends = no_ends; tree = first_tree own }

abbrev pub ends_with : Control → Ends → Control
ends_with c e = record c { ends = e }

-- the moment of the entry is now
abbrev pub renewed : Control → ℕ × ℕ → Control
renewed c key = record c { updated = put pair_cmp c.updated key c.now }

-- The moment of what goes is forgotten, that of an entry that is put is now, and a member that joins has no end but what its
-- report says.
abbrev pub follows : Control → Timed → Control
follows c Untimed = c
follows c (TimedMember member there) = ends_with c (if there then lasts c.ends member None else parts c.ends member)
follows c (TimedRouter port there) = ends_with c (routes there c.ends c.now port)
follows c (TimedQuerier six there) = ends_with c (queries there c.ends c.now six)
follows c (TimedEntry key there) = if there then renewed c key else record c { updated = without pair_cmp c.updated key }

abbrev pub keeps_up : Control → Change → Control
keeps_up c d = follows c (subject d).timed
