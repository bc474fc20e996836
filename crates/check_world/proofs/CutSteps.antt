-- A cut that follows a history by one change more, and by a turn.
use Rattle.std.proofs.Common.{◌≡◌, ℕ, ◌+◌, ◌<◌, ◌≤◌, true, false, List, [], ◌∷◌, ◌++◌, length, take, get_or, refl, sym, ap, ◌∙◌, subst, arith}
use Rattle.std.proofs.lemmas.List.{take_more}
use Rattle.std.specs.Prelude.{IsTrue, if◌then◌else◌}
use Rattle.br_model.specs.declared.change.Change.{Change}
use Rattle.br_model.specs.declared.domains.Edition.{Edition}
use Rattle.br_model.specs.Plane.Chip.{first_chip}
use Rattle.br_model.specs.declared.change.Change.TheVariants.{AddrPut, AddrDel}
use Rattle.br_model.specs.Table.Change.{deferred, is_of_address}
use Rattle.br_model.specs.Table.Cut.{cut, deferred_count}
use Rattle.br_model.specs.Table.Limits.{AreWithin, fits}
use Rattle.br_model.specs.Table.Table.{Table, apply, start, table}
use Rattle.br_model.proofs.Plane.Applying.{deferred_count-append}
use Rattle.br_model.proofs.Table.CutFits.{synchronous-fits}
use Rattle.br_model.proofs.Table.Cuts.{cut-one}
use Rattle.check_world.specs.Cuts.{CutState, IsCut}

-- what isn't deferred isn't of an address
pub other : (edition : Edition) (c : Change) → deferred edition c ≡ false → is_of_address c ≡ false
other edition (AddrPut vid mac port kind) now = absurd (cc)
other edition (AddrDel vid mac) now = absurd (cc)
other edition c now = refl

module _ (edition : Edition) (H : List Change) (i : ℕ) (d : Change) (c : CutState) (less : i < length H) (at : d ≡ get_or H i d) (is : IsCut edition (take i H) c) where
  front : take (i + 1) H ≡ take i H ++ d ∷ []
  front = take_more H i d less ∙ ap (λ (x : Change). take i H ++ x ∷ []) (sym at)

  -- the table of so many deferred changes after one change more
  more : table (cut edition (take (i + 1) H) c.chip.count) ≡ (if deferred edition d then c.table else apply c.table d)
  more =
      ap (λ (cs : List Change). table (cut edition cs c.chip.count)) front
      ∙ cut-one edition (take i H) d c.chip.count is.applied
      ∙ ap (λ (t : Table). if deferred edition d then t else apply t d) (sym is.table)

  still : c.chip.count ≤ deferred_count edition (take (i + 1) H)
  still = subst (λ (cs : List Change). c.chip.count ≤ deferred_count edition cs) (sym front) (omega (arith, is.applied, deferred_count-append edition (take i H) (d ∷ [])))

  -- a synchronous change fits its table
  pub accepts_fits : AreWithin H → deferred edition d ≡ false → IsTrue (fits c.table d)
  accepts_fits within now =
      subst (λ (t : Table). IsTrue (fits t d)) (sym is.table)
      (synchronous-fits edition (take i H) c.chip.count d now (subst (λ (x : Change). IsTrue (fits (table (take i H)) x)) (sym at) (within.fit i d less)))

  pub waits : deferred edition d ≡ true → IsCut edition (take (i + 1) H) c
  waits late = record { table = sym (more ∙ ap (λ b. if b then c.table else apply c.table d) late); applied = still }

  pub accepts : deferred edition d ≡ false → IsCut edition (take (i + 1) H) (record c { table = apply c.table d })
  accepts now = record { table = sym (more ∙ ap (λ b. if b then c.table else apply c.table d) now); applied = still }

-- before any change
pub first_cut : (edition : Edition) (dom : ℕ) → IsCut edition [] (record { table = start; chip = first_chip dom })
first_cut edition dom = record { table = refl; applied = omega arith }
