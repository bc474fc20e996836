-- What `follow` has read so far, and how its reading ends. The source had `left` when it began and has `now`.
use Rattle.std.specs.Prelude.{◌≡◌, ℕ, ◌<◌, ◌≤◌, List, [], ◌++◌, length, IfSome, String, string_bytes}
use Rattle.std.specs.List.{fold}
use Rattle.std.specs.declared.alloc.Global.{Global}
use Rattle.std.specs.declared.option.Option.{Option}
use Rattle.std.specs.declared.option.Option.TheVariants.{None, Some}
use Rattle.std.specs.declared.result.Result.{Result}
use Rattle.std.specs.declared.result.Result.TheVariants.{Ok, Err}
use Rattle.std.specs.Io.KnownBytes.{Consumes}
use Rattle.run_io.specs.Reading.{Reading}
use Rattle.br_model.specs.Program.Outcomes.{GoesOn, HoldsNoEnd}
use Rattle.br_model.specs.Table.Limits.{most_bytes}
use Rattle.neigh_netlink.specs.declared.follower.FollowEnd.{FollowEnd}
use Rattle.neigh_netlink.specs.declared.follower.FollowEnd.TheVariants as lasts
use Rattle.neigh_netlink.specs.Follow.{Following, Going, followed, follows, opened, reads}
use Rattle.neigh_netlink.specs.MessageLines.{ending_of, message_lines}
use Rattle.neigh_netlink.specs.Neighbours.{Neighbours}
use Rattle.run_status.specs.declared.stop.Stop.{Stop}
use Rattle.run_status.specs.declared.stop.Stop.TheVariants.{ReadFault, NoMemory, TooLong}
use Rattle.run_status.specs.declared.status.Status.{Status}
use Rattle.run_status.specs.declared.status.Status.TheVariants as statuses

-- The source gave some bytes: at first the lines that were followed, and then what the reader holds.
pub record Follows (left : Option (List ℕ)) (limit : ℕ) (reader : Reading) (now : Option (List ℕ)) (f : Following) : Type 0 where
  pub lines : List ℕ
  pub input : List ℕ
  pub given : Consumes left now input
  pub parts : input ≡ lines ++ reader.held
  pub follows : fold reads opened lines ≡ record { following = f; line = [] }
  pub going : f.ending ≡ Going
  pub numbers : f.lines ≤ length lines
  pub counts : reader.taken ≡ length input
  pub within : reader.taken ≤ limit
  pub limited : reader.limit ≡ limit
  pub sound : reader.fault ≡ None

-- the lines have ended so, and this is their table
pub record Closed (left : Option (List ℕ)) (limit : ℕ) (now : Option (List ℕ)) (t : Neighbours) (end : FollowEnd) : Type 0 where
  pub input : List ℕ
  pub read : Consumes left now input
  pub ends : (follows input).ending ≡ ending_of end
  pub table : (follows input).table ≡ t
  pub whole : IfSome left (λ bytes. follows bytes ≡ follows input)
  pub within : IfSome left (λ bytes. ¬ HoldsNoEnd message_lines limit bytes)

-- The reading stops: what the source gave neither ends the lines nor holds a bad one.
pub record Stopped (left now : Option (List ℕ)) : Type 0 where
  pub input : List ℕ
  pub read : Consumes left now input
  pub going : GoesOn message_lines input

-- fewer bytes were read than may be
pub record Below (left : Option (List ℕ)) (limit : ℕ) (now : Option (List ℕ)) : Type 0 where
  pub stops : Stopped left now
  pub below : length stops.input < limit

-- as many bytes as may be were read
pub record Filled (left : Option (List ℕ)) (limit : ℕ) (now : Option (List ℕ)) : Type 0 where
  pub stops : Stopped left now
  pub full : length stops.input ≡ limit

-- some bytes were read
abbrev pub HasRead : Option (List ℕ) → Option (List ℕ) → Type 0
HasRead left now = (input : List ℕ) × Consumes left now input

-- what is known after a line, by the answer
abbrev pub Advanced : Option (List ℕ) → ℕ → Reading → Option (List ℕ) → Following → Result (Option FollowEnd) Stop → Type 0
Advanced left limit reader now f (Ok None) = Follows left limit reader now f
Advanced left limit reader now f (Ok (Some end)) = Closed left limit now f.table end
Advanced left limit reader now f (Err ReadFault) = Below left limit now
Advanced left limit reader now f (Err TooLong) = Filled left limit now
Advanced left limit reader now f (Err NoMemory) = HasRead left now

-- whatever was read before it
abbrev pub Advances : ℕ → Reading → Reading → Option (List ℕ) → Option (List ℕ) → Following → Following → Result (Option FollowEnd) Stop → Type 0
Advances limit old_reader reader left_before left_now old f result =
    (left : Option (List ℕ)) → Follows left limit old_reader left_before old → Advanced left limit reader left_now f result

-- a line takes bytes away
abbrev pub Lessens : ℕ → ℕ → Option FollowEnd → Type 0
Lessens before now None = now < before
Lessens before now (Some end) = Unit {0}

-- what is known when the reading is over
abbrev pub Ends : Option (List ℕ) → Option (List ℕ) → Neighbours → Result FollowEnd Stop → Type 0
Ends left now t (Ok end) = Closed left most_bytes now t end
Ends left now t (Err ReadFault) = Below left most_bytes now
Ends left now t (Err TooLong) = Filled left most_bytes now
Ends left now t (Err NoMemory) = HasRead left now

-- the lines have ended so, and this is the answer to them
pub record Answered (left now : Option (List ℕ)) (text : List ℕ) (end : FollowEnd) : Type 0 where
  pub input : List ℕ
  pub read : Consumes left now input
  pub ends : (follows input).ending ≡ ending_of end
  pub answers : text ≡ followed input
  pub whole : IfSome left (λ bytes. follows bytes ≡ follows input)
  pub within : IfSome left (λ bytes. ¬ HoldsNoEnd message_lines most_bytes bytes)

-- the text is the answer
abbrev pub Yields : Option (List ℕ) → Option (List ℕ) → Result (FollowEnd × String Global) Stop → Type 0
Yields left now (Ok x) = Answered left now (string_bytes x.1) x.0
Yields left now (Err ReadFault) = Below left most_bytes now
Yields left now (Err TooLong) = Filled left most_bytes now
Yields left now (Err NoMemory) = HasRead left now

abbrev pub status_of : FollowEnd → Status
status_of lasts.Ended = statuses.Ok
status_of (lasts.Bad n why) = statuses.BadLine
