-- A driver that follows a history: what it is asked to take is taken, and its rows stand for the cut after each change and each turn.
use Rattle.std.proofs.Common.{◌≡◌, ℕ, ◌+◌, ◌<◌, ◌≤◌, true, false, List, [], ◌∷◌, length, take, drop, get_or, Some, refl, sym, ap, ◌∙◌, arith, subst}
use Rattle.std.proofs.lemmas.Bool.{leb-true}
use Rattle.std.proofs.lemmas.List.{take_more, take-append-drop}
use Rattle.std.specs.Prelude.{IsTrue, if◌then◌else◌}
use Rattle.br_model.specs.declared.change.Change.{Change}
use Rattle.br_model.specs.declared.change.Change.TheVariants.{SetState, GroupJoin, GroupPart, AddrPut, AddrDel}
use Rattle.br_model.specs.declared.domains.Edition.{Edition}
use Rattle.br_model.specs.declared.domains.Edition.TheVariants.{One, Two}
use Rattle.br_model.specs.Table.Change.{deferred}
use Rattle.br_model.specs.Table.Cut.{cut, deferred_at, deferred_count}
use Rattle.br_model.specs.Table.Domains.{Domains}
use Rattle.br_model.specs.Table.GroupPairs.{has_room}
use Rattle.br_model.specs.Table.Groups.{Membership}
use Rattle.br_model.specs.Table.Limits.{fits, most_addresses, AreWithin}
use Rattle.br_model.specs.Table.Table.{Table, apply, table}
use Rattle.br_model.proofs.Plane.Applying.{deferred_count-append}
use Rattle.br_model.proofs.Table.AddressRoom.{few-front}
use Rattle.br_model.proofs.Table.CutFits.{synchronous-fits, turn-fits}
use Rattle.br_model.proofs.Table.Cuts.{cut-one, cut-turn, addr-within, deferred_at-deferred}
use Rattle.chip_driver.specs.Drives.{Driven, Drives, IsTaken}
use Rattle.chip_driver.proofs.Taking.{taken}

-- what fits the table of a driver is taken, unless it is of an address
taken_by : (domains : Domains) (driver : Driven) (t : Table) (edition : Edition) (c : Change) → Drives domains driver t → deferred edition c ≡ false → IsTrue (fits t c) → IsTaken driver c
taken_by domains driver t edition (SetState port number) stands now fit = leb-true number 4 fit
taken_by domains driver t edition (GroupJoin port vid group) stands now fit = subst (λ (ms : List Membership). IsTrue (has_room ms vid group)) (sym stands.groups) fit
taken_by domains driver t edition (AddrPut vid mac port kind) stands now fit = absurd (cc)
taken_by domains driver t edition (AddrDel vid mac) stands now fit = absurd (cc)
taken_by domains driver t edition c stands now fit = tt

-- what is deferred in either edition is in the second
two_defers : (e : Edition) (c : Change) → deferred e c ≡ true → deferred Two c ≡ true
two_defers Two c h = h
two_defers One (GroupJoin port vid group) h = refl
two_defers One (GroupPart port vid group) h = refl
two_defers One c h = h

module _ (edition : Edition) where
  -- what fits the table of a history fits a driver that stands for a cut of it
  pub taken_now : (domains : Domains) (driver : Driven) (H : List Change) (k : ℕ) (c : Change) → Drives domains driver (table (cut edition H k)) → IsTrue (fits (table H) c)
      → deferred edition c ≡ false → IsTaken driver c
  taken_now domains driver H k c stands fit now = taken_by domains driver (table (cut edition H k)) edition c stands now (synchronous-fits edition H k c now fit)

  -- The driver has room for the next deferred change, since the table that it makes is that of a cut.
  room_next : (H : List Change) (k : ℕ) (d : Change) → AreWithin H → deferred_at edition H k ≡ Some d → length (apply (table (cut edition H k)) d).addr ≤ most_addresses
  room_next H k d is at = subst (λ (t : Table). length t.addr ≤ most_addresses) (cut-turn edition H k d at) (addr-within edition most_addresses H (k + 1) (few-front H is))

  pub taken_next : (domains : Domains) (driver : Driven) (H : List Change) (k : ℕ) (d : Change) → Drives domains driver (table (cut edition H k)) → AreWithin H → deferred_at edition H k ≡ Some d
      → IsTaken driver d
  taken_next domains driver H k d stands is at =
      taken domains driver (table (cut edition H k)) d stands (λ other. turn-fits edition H k d is at) (room_next H k d is at)

  pub queued_next : (H : List Change) (k : ℕ) (d : Change) → deferred_at edition H k ≡ Some d → deferred Two d ≡ true
  queued_next H k d at = two_defers edition d (deferred_at-deferred edition H k d at).0

  -- one change of the history more

  pub more_deferred : (H : List Change) (i : ℕ) (d : Change) (k : ℕ) → i < length H → k ≤ deferred_count edition (take i H) → k ≤ deferred_count edition (take (i + 1) H)
  more_deferred H i d k less n =
      subst (λ (cs : List Change). k ≤ deferred_count edition cs) (sym (take_more H i d less)) (omega (arith, n, deferred_count-append edition (take i H) (get_or H i d ∷ [])))

  pub table_more : (H : List Change) (i : ℕ) (d : Change) (k : ℕ) → i < length H → k ≤ deferred_count edition (take i H)
      → table (cut edition (take (i + 1) H) k) ≡ (if deferred edition (get_or H i d) then table (cut edition (take i H) k) else apply (table (cut edition (take i H) k)) (get_or H i d))
  table_more H i d k less n = ap (λ cs. table (cut edition cs k)) (take_more H i d less) ∙ cut-one edition (take i H) (get_or H i d) k n

  -- a turn

  pub still_applied : (H : List Change) (from k : ℕ) → k ≤ deferred_count edition (take from H) → k ≤ deferred_count edition H
  still_applied H from k n =
      subst (λ (cs : List Change). k ≤ deferred_count edition cs) (take-append-drop from H) (omega (arith, n, deferred_count-append edition (take from H) (drop from H)))
