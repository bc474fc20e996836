-- What a run's past becomes when what is left to do is done.
-- Source: this profile.
use Rattle.std.specs.Prelude.{◌≡◌, ℕ, true, List, IfSome}
use Rattle.std.specs.List.{list_all}
use Rattle.br_model.specs.declared.steps.Step.{Step}
use Rattle.br_model.specs.Plane.Runs.{pending_of}
use Rattle.br_model.specs.Plane.World.{chip_at}
use Rattle.br_model.specs.Program.LiveRun.{ends_with_publish, has_reported, is_drained, may_drain}
use Rattle.plane_record.specs.Pasts.{Past, world_of}
use Rattle.live_thread.specs.Taking.{behind}

-- serves, turns, reports and publications were done
pub record Drains (old new : Past) : Type 0 where
  pub rest : List Step
  pub so : new ≡ behind old rest
  pub drains : list_all may_drain rest ≡ true

-- no frame came or went: those that wait, and those that are held, are the same
pub record Keeps (old new : Past) : Type 0 where
  pub waiting : (world_of new).waiting ≡ (world_of old).waiting
  pub held : (world_of new).held ≡ (world_of old).held

-- the domain's chip, where it has one, has no report left, or its last one was refused for want of room
abbrev pub HasTold : Past → ℕ → Type 0
HasTold p dom = IfSome (chip_at (world_of p) dom) (λ c. has_reported p.setup p.steps c ≡ true)

-- the domain's chip, where it has one, has applied all that is deferred
abbrev pub HasTurned : Past → ℕ → Type 0
HasTurned p dom = IfSome (chip_at (world_of p) dom) (λ c. pending_of (world_of p) c ≡ 0)

-- Only serves, turns, reports and publications were done, a publication last, and now nothing is left to do.
pub record Drained (old new : Past) : Type 0 where
  pub rest : List Step
  pub so : new ≡ behind old rest
  pub drains : list_all may_drain rest ≡ true
  pub last : ends_with_publish new.steps ≡ true
  pub nothing : is_drained new.setup new.steps (world_of new) ≡ true
