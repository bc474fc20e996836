-- What is true of the buffer of a reader.
use Rattle.std.specs.Prelude.{◌≡◌, ◌<◌, ◌≤◌, length, slice_range}
use Rattle.run_io.specs.declared.lines.LineReader.TheInside.{Inside}
use Rattle.run_io.specs.Finding.{IsFirstFeed, least_room}

pub record IsSound (r : Inside) : Type 0 where
  pub ordered : r.start ≤ r.end
  pub within : r.end ≤ length r.buffer.items
  pub limit : r.taken ≤ r.limit
  pub line : IsFirstFeed (slice_range r.buffer.items r.start r.end) r.line
  -- the first read takes the room
  pub room : length r.buffer.items < least_room → (length r.buffer.items ≡ 0) × (r.taken ≡ 0)
