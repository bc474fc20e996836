-- A walk that follows a history by one change more, and by an update.
use Rattle.std.proofs.Common.{◌≡◌, ℕ, ◌+◌, ◌<◌, ◌≤◌, true, false, List, [], ◌∷◌, ◌++◌, length, take, get_or, Some, refl, sym, ap, ◌∙◌, subst, arith}
use Rattle.std.proofs.lemmas.List.{take_more}
use Rattle.std.specs.Prelude.{IsTrue, if◌then◌else◌}
use Rattle.br_model.specs.declared.change.Change.{Change}
use Rattle.br_model.specs.declared.domains.Edition.{Edition}
use Rattle.br_model.specs.Table.Change.{deferred}
use Rattle.br_model.specs.Table.Cut.{cut, deferred_at, deferred_count}
use Rattle.br_model.specs.Table.Limits.{AreWithin, fits}
use Rattle.br_model.specs.Table.Table.{Table, apply, start, table}
use Rattle.br_model.proofs.Plane.Applying.{deferred_count-append}
use Rattle.br_model.proofs.Table.CutFits.{synchronous-fits, turn-fits}
use Rattle.br_model.proofs.Table.Cuts.{cut-one, cut-turn, deferred_at-deferred}
use Rattle.cut_walk.specs.Walked.{IsWalk, Walked}

module _ (edition : Edition) (H : List Change) (i : ℕ) (d : Change) (w : Walked) (less : i < length H) (at : d ≡ get_or H i d) (is : IsWalk edition (take i H) w) where
  front : take (i + 1) H ≡ take i H ++ d ∷ []
  front = take_more H i d less ∙ ap (λ (x : Change). take i H ++ x ∷ []) (sym at)

  -- the table of so many updates after one change more
  more : table (cut edition (take (i + 1) H) w.count) ≡ (if deferred edition d then w.table else apply w.table d)
  more =
      ap (λ (cs : List Change). table (cut edition cs w.count)) front
      ∙ cut-one edition (take i H) d w.count is.applied
      ∙ ap (λ (t : Table). if deferred edition d then t else apply t d) (sym is.table)

  still : w.count ≤ deferred_count edition (take (i + 1) H)
  still = subst (λ (cs : List Change). w.count ≤ deferred_count edition cs) (sym front) (omega (arith, is.applied, deferred_count-append edition (take i H) (d ∷ [])))

  -- a synchronous change fits its table
  pub accepts_fits : AreWithin H → deferred edition d ≡ false → IsTrue (fits w.table d)
  accepts_fits within now =
      subst (λ (t : Table). IsTrue (fits t d)) (sym is.table)
      (synchronous-fits edition (take i H) w.count d now (subst (λ (x : Change). IsTrue (fits (table (take i H)) x)) (sym at) (within.fit i d less)))

  pub waits : deferred edition d ≡ true → IsWalk edition (take (i + 1) H) w
  waits late = record { table = sym (more ∙ ap (λ b. if b then w.table else apply w.table d) late); applied = still }

  pub accepts : deferred edition d ≡ false → IsWalk edition (take (i + 1) H) (record w { table = apply w.table d })
  accepts now = record { table = sym (more ∙ ap (λ b. if b then w.table else apply w.table d) now); applied = still }

pub first_walk : (edition : Edition) → IsWalk edition [] (record { table = start; count = 0 })
first_walk edition = record { table = refl; applied = omega arith }

-- by an update

pub walk_turn : (edition : Edition) (H : List Change) (w : Walked) (d : Change) → IsWalk edition H w → deferred_at edition H w.count ≡ Some d
    → IsWalk edition H (record { table = apply w.table d; count = w.count + 1 })
walk_turn edition H w d is at = record {
  table = ap (λ (t : Table). apply t d) is.table ∙ sym (cut-turn edition H w.count d at);
  applied = omega (arith, (deferred_at-deferred edition H w.count d at).1);
}

pub walk_fits : (edition : Edition) (H : List Change) (w : Walked) (d : Change) → IsWalk edition H w → AreWithin H → deferred_at edition H w.count ≡ Some d → IsTrue (fits w.table d)
walk_fits edition H w d is within at = subst (λ (t : Table). IsTrue (fits t d)) (sym is.table) (turn-fits edition H w.count d within at)

pub walk_more : (edition : Edition) (H : List Change) (w : Walked) (d : Change) → deferred_at edition H w.count ≡ Some d → w.count < deferred_count edition H
walk_more edition H w d at = (deferred_at-deferred edition H w.count d at).1
