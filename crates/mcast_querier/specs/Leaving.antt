-- What is so of each query that leaves in a run.
-- Source: RFC 2236 sections 3 and 7, RFC 2710 sections 4 and 7.
use Rattle.std.specs.Prelude.{◌≡◌, ℕ, ◌+◌, ◌<◌, ◌≤◌, Bool, true, if◌then◌else◌, List, ◌∷◌, ◌++◌}
use Rattle.mcast_querier.specs.Election.{other_querier_present_interval, queries_at}
use Rattle.mcast_querier.specs.Querier.{Act, Comes, Hears, QuerierState, after, election}
use Rattle.mcast_querier.specs.Queries.{query_four, query_six}

-- The general query of a version, at a moment that comes in these acts. It is due by then, by what the querier has made of the acts
-- before; and no lower address of its version was heard in the 255 seconds before.
pub record IsDue (first : QuerierState) (acts : List Act) (x : ℕ × List ℕ) : Type 0 where
  pub six : Bool
  pub before : List Act
  pub later : List Act
  pub parts : acts ≡ before ++ Comes x.0 ∷ later
  pub due : queries_at (election six (after first before).0) x.0 ≡ true
  pub bytes : x.1 ≡ (if six then query_six first.own first.six.address else query_four first.own first.four.address)
  pub silent : (earlier since : List Act) (address t : ℕ) → before ≡ earlier ++ Hears (six, address) t ∷ since → address < (election six first).address
      → t + other_querier_present_interval ≤ x.0
