-- What holds of the world of a bridge with chips after whatever steps.
-- Source: this profile.
use Rattle.std.specs.Prelude.{◌≡◌, ℕ, ◌+◌, ◌<◌, ◌≤◌, ◌==◌, Bool, true, ◌&&◌, List, ◌++◌, map, length}
use Rattle.std.specs.List.{All, IsDistinct, last_or, slice_get}
use Rattle.std.specs.List.Sorted.{IsStrictlySortedBy}
use Rattle.std.specs.Option.{option_map_or}
use Rattle.std.specs.Ordering.{nat_cmp}
use Rattle.std.specs.declared.option.Option.TheVariants.{None, Some}
use Rattle.std.specs.declared.result.Result.TheVariants.{Ok}
use Rattle.br_model.specs.declared.change.Change.{Change}
use Rattle.br_model.specs.declared.domains.Edition.{Edition}
use Rattle.br_model.specs.Plane.Chip.{Chip, same_triple}
use Rattle.br_model.specs.Table.Cut.{deferred_count}
use Rattle.br_model.specs.Table.DomainPorts.{is_in_domain}
use Rattle.br_model.specs.Table.Domains.{Domains, chip_domains, has_chip}
use Rattle.br_model.specs.Wire.Frames.{frame}
use Rattle.br_model.specs.Control.Learning.{Triple}
use Rattle.br_model.specs.Table.Limits.{all_fit, most_changes, most_reports, most_waiting}
use Rattle.br_model.specs.Data.Maps.{pair_cmp, has}
use Rattle.br_model.specs.Plane.World.{World, Waiting, Holding}
use Rattle.br_model.specs.Table.Table.{start}

-- the frames that are held, and those that wait
abbrev pub frames_of : List Holding → List Waiting → List Waiting
frames_of held waiting = map (λ h. h.waiting) held ++ waiting

-- Each change fitted the table that it found, so each front of the history keeps the limits of a table; and the changes are not
-- too many.
pub record HistoryStands (history : List Change) : Type 0 where
  pub fits : all_fit start history ≡ true
  pub few : length history ≤ most_changes

-- The counts that were published ascend from 0 to the last one, and so many changes were accepted.
pub record CountsStand (history : List Change) (counts : List ℕ) (published : ℕ) : Type 0 where
  pub ascend : IsStrictlySortedBy nat_cmp counts
  pub first : slice_get counts 0 ≡ Some 0
  pub last : last_or None counts ≡ Some published
  pub within : published ≤ length history

-- where a frame has a mark, it is a chip's domain, and the frame came by a port of it
abbrev pub has_own_mark : Domains → Waiting → Bool
has_own_mark domains f = option_map_or (λ mark. has_chip domains mark && is_in_domain domains mark f.port) f.mark true

-- a frame that entered before the next id was free
pub record IsFrame (domains : Domains) (next : ℕ) (f : Waiting) : Type 0 where
  pub id : f.id < next
  pub head : frame f.bytes ≡ Ok f.head
  pub mark : has_own_mark domains f ≡ true

-- The frames that are held or wait have ids of their own, and aren't too many. What a frame is held from was published.
pub record FramesStand (domains : Domains) (counts : List ℕ) (held : List Holding) (waiting : List Waiting) (next : ℕ) : Type 0 where
  pub frames : All (IsFrame domains next) (frames_of held waiting)
  pub ids : IsDistinct (◌==◌) (map (λ f. f.id) (frames_of held waiting))
  pub floors : All (λ h. has nat_cmp counts h.floor ≡ true) held
  pub few : length waiting + length held ≤ most_waiting

-- No report is there twice, and they aren't too many.
pub record ReportsStand (reports : List Triple) : Type 0 where
  pub ids : IsDistinct same_triple reports
  pub few : length reports ≤ most_reports

-- No more deferred changes are applied than were accepted.
pub record ChipStands (edition : Edition) (history : List Change) (c : Chip) : Type 0 where
  pub applied : c.count ≤ deferred_count edition history
  pub reports : ReportsStand c.reports
  -- the addresses that were hit, as a set
  pub hits : IsStrictlySortedBy pair_cmp c.hits

pub record IsWorld (w : World) : Type 0 where
  pub history : HistoryStands w.history
  pub counts : CountsStand w.history w.counts w.published
  pub frames : FramesStand w.setup.domains w.counts w.held w.waiting w.next
  -- the chips are those of the domains that exist
  pub doms : map (λ c. c.dom) w.chips ≡ chip_domains w.setup.domains
  pub chips : All (ChipStands w.setup.domains.edition w.history) w.chips
