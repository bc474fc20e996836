-- What a run's past becomes when the steps of a scenario are taken.
-- Source: this profile.
use Rattle.std.specs.Prelude.{◌≡◌, ℕ, List, ◌++◌}
use Rattle.std.specs.List.{filter}
use Rattle.br_model.specs.declared.steps.Step.{Step}
use Rattle.br_model.specs.Program.LiveRun.{frames_at, is_ordered}
use Rattle.plane_record.specs.Pasts.{Past, world_of}
use Rattle.live_thread.specs.Worlds.{ArePublished}

-- the past with these steps behind its own
abbrev pub behind : Past → List Step → Past
behind p steps = record p { steps = p.steps ++ steps }

-- Steps were taken: among them the given ones' frames in each port's order, and their commands, moments and sweeps in theirs. What
-- they accepted is published at once, and none of them held a frame.
pub record Takes (old new : Past) (given : List Step) : Type 0 where
  pub done : List Step
  pub so : new ≡ behind old done
  pub frames : (port : ℕ) → frames_at port done ≡ frames_at port given
  pub ordered : filter is_ordered done ≡ filter is_ordered given
  pub published : ArePublished (world_of old) done
  pub held : (world_of new).held ≡ (world_of old).held
