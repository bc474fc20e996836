-- What a call under the lock makes of the past.
use Rattle.std.specs.Prelude.{◌≡◌, ◌≢◌}
use Rattle.std.specs.declared.result.Result.{Result}
use Rattle.std.specs.declared.result.Result.TheVariants.{Ok, Err}
use Rattle.br_model.specs.declared.steps.Step.{Step}
use Rattle.plane_core.specs.Planes.{NotPosted}
use Rattle.plane_core.specs.declared.faults.PostFault.{PostFault}
use Rattle.plane_core.specs.declared.faults.PostFault.TheVariants as posts
use Rattle.plane_core.specs.declared.held.Held.{Held}
use Rattle.table_publish.specs.declared.seat.Seen.{Seen}
use Rattle.transcript_lines.specs.Rows.{Listed}
pub use Rattle.plane_record.specs.Pasts.{acted, changes_of, published_after}
use Rattle.br_model.specs.Plane.Serving.{held_with}
use Rattle.plane_record.specs.Pasts.{Past, after, post_step, said_by, state_of, world_of}
use Rattle.plane_lock.specs.Posts.{IsTheHeld, Tells}
use Rattle.plane_lock.specs.declared.locked.ActFault.{ActFault}
use Rattle.plane_lock.specs.declared.locked.ActFault.TheVariants.{NoMemory, Unpublished}

-- The step stands, and what it accepted isn't published.
abbrev pub IsUnpublished : Past → Past → Step → Type 0
IsUnpublished old new step = (new ≡ after old step) × (changes_of new ≢ changes_of old)

-- The step and its publication; the step without it; or nothing. What stands is answered with the step's lines.
abbrev pub Acted : Past → Past → Step → Result Listed ActFault → Type 0
Acted old new step (Ok lines) = (new ≡ acted old step) × (lines.lines ≡ said_by old step)
Acted old new step (Err NoMemory) = new ≡ old
Acted old new step (Err (Unpublished lines)) = IsUnpublished old new step × (lines.lines ≡ said_by old step)

-- Why a post came to nothing, in the order of the plane's tests; or its publication did.
abbrev pub PostFails : Past → Past → Step → Held → Seen → PostFault → Type 0
PostFails old new step h n (posts.NoMemory back) = (new ≡ old) × NotPosted (state_of old) (state_of new) h n (posts.NoMemory back)
PostFails old new step h n (posts.Stranger back) = (new ≡ old) × NotPosted (state_of old) (state_of new) h n (posts.Stranger back)
PostFails old new step h n (posts.Ahead back point published) =
    (new ≡ old) × NotPosted (state_of old) (state_of new) h n (posts.Ahead back point published)
PostFails old new step h n (posts.Unpublished lines) = IsUnpublished old new step × (lines.lines ≡ said_by old step) × IsTheHeld (world_of old) h n.point

-- A post and its publication, with its lines; or why it came to nothing.
abbrev pub PostActed : Past → Past → Held → Seen → Result Listed PostFault → Type 0
PostActed old new h n (Ok lines) =
    (new ≡ acted old (post_step (held_with (world_of old) h.id) h.id n.point)) × (lines.lines ≡ said_by old (post_step (held_with (world_of old) h.id) h.id n.point))
    × Tells (world_of old) (held_with (world_of old) h.id) h n.point lines.lines × IsTheHeld (world_of old) h n.point
PostActed old new h n (Err why) = PostFails old new (post_step (held_with (world_of old) h.id) h.id n.point) h n why
