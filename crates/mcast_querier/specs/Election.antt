-- The election of the querier of one IP version, and when its queries are due. Moments and times are in milliseconds.
-- Source: RFC 2236 sections 3, 7 and 8, RFC 2710 sections 4, 6 and 7 (the lowest address, timers and defaults). That queries leave
-- at the moments of a run alone is this profile's, and so is that an election that was lost leaves the startup queries as they are.
use Rattle.std.specs.Prelude.{ℕ, ◌+◌, ◌-◌, nat_le, nat_lt, Bool, ◌&&◌, not, if◌then◌else◌, is_some}
use Rattle.std.specs.declared.option.Option.{Option}
use Rattle.std.specs.declared.option.Option.TheVariants.{None, Some}

abbrev pub query_interval : ℕ
query_interval = 125000

-- a quarter of it
abbrev pub startup_query_interval : ℕ
startup_query_interval = 31250

abbrev pub startup_query_count : ℕ
startup_query_count = 2

-- twice the query interval, and half of the query response interval of 10 s
abbrev pub other_querier_present_interval : ℕ
other_querier_present_interval = 255000

pub record Election : Type 0 where
  -- the host's own address
  pub address : ℕ
  -- when the next query is due
  pub due : ℕ
  -- how many startup queries are left
  pub startup : ℕ
  -- the end of another querier's presence, where one is present
  pub other : Option ℕ

abbrev pub first_election : ℕ → Election
first_election address = record { address = address; due = 0; startup = startup_query_count; other = None }

-- A general query is heard from an address. A lower one than the host's own is another querier's.
abbrev pub hears : Election → ℕ → ℕ → Election
hears e address now = if nat_lt address e.address then record e { other = Some (now + other_querier_present_interval) } else e

-- Another querier that wasn't heard for so long is gone, and a query is due at once.
abbrev pub resumed_after : Election → ℕ → Option ℕ → Election
resumed_after e now None = e
resumed_after e now (Some end) = if nat_le end now then record e { other = None; due = now } else e

abbrev pub resumed : Election → ℕ → Election
resumed e now = resumed_after e now e.other

-- whether a query leaves: no other querier is present, and one is due
abbrev pub is_due : Election → ℕ → Bool
is_due e now = not (is_some e.other) && nat_le e.due now

-- a query has left
abbrev pub queried : Election → ℕ → Election
queried e now = record e {
  due = now + (if nat_lt 1 e.startup then startup_query_interval else query_interval);
  startup = e.startup - 1;
}

-- whether a query leaves at this moment
abbrev pub queries_at : Election → ℕ → Bool
queries_at e now = is_due (resumed e now) now

-- the election after this moment
abbrev pub passed : Election → ℕ → Election
passed e now = let r = resumed e now in if is_due r now then queried r now else r
