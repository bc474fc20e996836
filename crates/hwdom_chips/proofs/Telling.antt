-- What a driver is told of a change.
use Rattle.std.proofs.Common.{◌≡◌, Bool, true, false, None, Some, refl, sym, ap, ◌∙◌, subst}
use Rattle.std.specs.Prelude.{if◌then◌else◌}
use Rattle.br_model.specs.declared.change.Change.{Change}
use Rattle.br_model.specs.declared.change.Change.TheVariants.{AddrPut}
use Rattle.br_model.specs.declared.domains.Edition.{Edition}
use Rattle.br_model.specs.Table.Change.{deferred, is_of_address}
use Rattle.br_model.specs.Table.Table.{Table, apply}
use Rattle.switchdev_notify.specs.declared.notice.Notice.{Notice}
use Rattle.switchdev_notify.specs.Notices.{after, after_told, change_of, told_in, unless_deferred, Takes}

unless_as : (edition : Edition) (c : Change) → unless_deferred edition (if is_of_address c then None else Some c) ≡ (if deferred edition c then None else Some c)
unless_as edition (AddrPut vid mac port kind) = refl
unless_as edition c = refl

module _ (edition : Edition) (c : Change) (n : Notice) (tells : change_of n ≡ (if is_of_address c then None else Some c)) where
  told_as : told_in edition n ≡ (if deferred edition c then None else Some c)
  told_as = ap (unless_deferred edition) tells ∙ unless_as edition c

  pub asked : (takes : Change → Type 0) → (deferred edition c ≡ false → takes c) → Takes takes edition n
  asked takes h d tells = by (deferred edition c) h (sym told_as ∙ tells)
    where
      by : (b : Bool) → (b ≡ false → takes c) → (if b then None else Some c) ≡ Some d → takes d
      by true f e = absurd (cc)
      by false f e = let same : c ≡ d = cc in subst takes same (f refl)

  pub told : (t : Table) → after edition t n ≡ (if deferred edition c then t else apply t c)
  told t = ap (after_told t) told_as ∙ by (deferred edition c)
    where
      by : (b : Bool) → after_told t (if b then None else Some c) ≡ (if b then t else apply t c)
      by true = refl
      by false = refl
