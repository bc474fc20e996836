-- The rule of the queue: what was taken, followed by what the queue holds, is what was posted, and the tickets count up from 0.
-- One pass posts and one takes, and neither is made anew. Posting, taking and learning keep the rule.
-- Source: this profile.
use Rattle.std.specs.Prelude.{◌≡◌, ℕ, ◌+◌, Bool, true, false, List, [], ◌∷◌, ◌++◌}
use mathlib.Core.Option.{some}
use lib.ListN.{get_elem?}
use Rattle.br_model.specs.declared.change.Update.{Update}
use Rattle.deferred_queue.specs.declared.rule.Log.{Log}

abbrev pub log : Bool → Bool → List Update → List Update → List Update → Log
log a b posted taken ahead = record { posts = a; takes = b; posted = posted; taken = taken; ahead = ahead }

-- a pass that posts alone, one that takes alone, and one that does neither
abbrev pub posting : List Update → Log
posting posted = log true false posted [] []

abbrev pub taking : List Update → List Update → Log
taking taken ahead = log false true [] taken ahead

abbrev pub spent : Log
spent = log false false [] [] []

-- the tickets count up from n
abbrev pub TicketsFrom : ℕ → List Update → Type 0
TicketsFrom n [] = Unit {0}
TicketsFrom n (u ∷ us) = (u.ticket ≡ n) × TicketsFrom (n + 1) us

abbrev pub Begins : List Update → List Update → Type 0
Begins part all = (more : List Update) × (all ≡ part ++ more)

-- What the pass at this place knows: where it posts, all that was posted; where it takes, all that was taken and a beginning of
-- what the queue holds.
pub record Fits (poster taker : ℕ) (posted taken items : List Update) (place : ℕ) (v : Log) : Type 0 where
  pub as_poster : v.posts ≡ true → (place ≡ poster) × (v.posted ≡ posted)
  pub as_taker : v.takes ≡ true → (place ≡ taker) × (v.taken ≡ taken) × Begins v.ahead items

pub record Carries (items : List Update) (views : List Log) : Type 0 where
  pub poster : ℕ
  pub taker : ℕ
  pub posted : List Update
  pub taken : List Update
  pub whole : posted ≡ taken ++ items
  pub tickets : TicketsFrom 0 posted
  pub each : (place : ℕ) (v : Log) → get_elem? views place ≡ some v → Fits poster taker posted taken items place v
