-- A querier of both IP versions on the host, and what it makes of what it hears and of moments.
-- Source: RFC 2236 section 3, RFC 2710 section 4; that version 4 comes first is this profile's.
use Rattle.std.specs.Prelude.{ℕ, ◌≤◌, Bool, if◌then◌else◌, List, [], ◌∷◌, ◌++◌, map}
use Rattle.std.specs.List.{fold}
use Rattle.std.specs.declared.option.Option.{Option}
use Rattle.std.specs.declared.option.Option.TheVariants.{None, Some}
use Rattle.mcast_querier.specs.Election.{Election, first_election, hears, passed, queries_at}
use Rattle.mcast_querier.specs.Hearing.{Asker}
use Rattle.mcast_querier.specs.Queries.{query_four, query_six}

pub record QuerierState : Type 0 where
  -- the bridge's address
  pub own : ℕ
  pub four : Election
  pub six : Election

abbrev pub first_querier : ℕ → ℕ → ℕ → QuerierState
first_querier own a4 a6 = record { own = own; four = first_election a4; six = first_election a6 }

-- the election of this version
abbrev pub election : Bool → QuerierState → Election
election six q = if six then q.six else q.four

abbrev pub heard_from : QuerierState → Asker → ℕ → QuerierState
heard_from q asker now =
    if asker.0 then record q { six = hears q.six asker.1 now } else
    record q { four = hears q.four asker.1 now }

-- A frame is heard, by which this one asks, or nobody.
abbrev pub heard : QuerierState → Option Asker → ℕ → QuerierState
heard q None now = q
heard q (Some asker) now = heard_from q asker now

-- the query of one version, where one leaves
abbrev pub query_of : Election → ℕ → List ℕ → List (List ℕ)
query_of e now query = if queries_at e now then query ∷ [] else []

-- the queries that leave at this moment: version 4, then 6
abbrev pub queries : QuerierState → ℕ → List (List ℕ)
queries q now = query_of q.four now (query_four q.own q.four.address) ++ query_of q.six now (query_six q.own q.six.address)

abbrev pub ticked : QuerierState → ℕ → QuerierState
ticked q now = record q { four = passed q.four now; six = passed q.six now }

-- what happens to a querier, in its order
pub data Act : Type 0 where
  -- a general query is heard from this asker, at this moment
  Hears : Asker → ℕ → Act
  -- the moment comes
  Comes : ℕ → Act

-- the querier, and the queries that have left, each with its moment
abbrev pub Queried : Type 0
Queried = QuerierState × List (ℕ × List ℕ)

abbrev pub acted : Queried → Act → Queried
acted x (Hears asker now) = (heard_from x.0 asker now, x.1)
acted x (Comes now) = (ticked x.0 now, x.1 ++ map (λ query. (now, query)) (queries x.0 now))

-- after these acts
abbrev pub after : QuerierState → List Act → Queried
after q acts = fold acted (q, []) acts

abbrev pub moment_of : Act → ℕ
moment_of (Hears asker now) = now
moment_of (Comes now) = now

-- the moments don't go back, from this one on
abbrev pub Ascend : ℕ → List Act → Type 0
Ascend now [] = Unit {0}
Ascend now (act ∷ later) = (now ≤ moment_of act) × Ascend (moment_of act) later
