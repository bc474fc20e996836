-- What fits the table of a history fits that of its cut.
use Rattle.std.proofs.Common.{◌≡◌, ℕ, ◌+◌, ◌-◌, true, false, cond, List, [], ◌∷◌, ◌++◌, length, take, drop, Some, refl, sym, ap, ◌∙◌, arith}
use Rattle.std.proofs.lemmas.List.{take-append-drop, length-take}
use Rattle.std.proofs.lemmas.List.Sums.{fold-append}
use Rattle.std.proofs.lemmas.Option.{slice_get_within, get_or_from_slice_get}
use Rattle.std.specs.Prelude.{nat_lt, ◌||◌, is_some}
use Rattle.std.specs.List.{fold, slice_get}
use Rattle.br_model.specs.declared.change.Change.{Change}
use Rattle.br_model.specs.declared.change.Change.TheVariants.{GroupJoin, AddrPut, AddrDel, SetState}
use Rattle.br_model.specs.declared.change.Kind.{Kind}
use Rattle.br_model.specs.declared.domains.Edition.{Edition}
use Rattle.br_model.specs.declared.domains.Edition.TheVariants.{One, Two}
use Rattle.br_model.specs.Table.Change.{deferred}
use Rattle.br_model.specs.Table.Cut.{deferred_of, synchronous_of, deferred_count, deferred_at, cut}
use Rattle.br_model.specs.Table.GroupPairs.{has_room}
use Rattle.br_model.specs.Table.Groups.{Membership}
use Rattle.br_model.specs.Table.Limits.{AreWithin, fits, most_addresses}
use Rattle.br_model.specs.Data.Maps.{pair_cmp, get}
use Rattle.br_model.specs.Table.Table.{Table, start, apply, table}
use Rattle.br_model.proofs.Plane.Applying.{deferred_count-append, take-next}
use Rattle.br_model.proofs.Table.Cuts.{addr-synchronous, groups-synchronous, groups-cut, cut-append, cut-all, cut-none, deferred_of-front, deferred_at-deferred, reach-turn}

-- a synchronous change

pub synchronous-fits : (edition : Edition) (H : List Change) (k : ℕ) (c : Change) → deferred edition c ≡ false → fits (table H) c ≡ true → fits (table (cut edition H k)) c ≡ true
synchronous-fits One H k (GroupJoin port vid group) now fit = ap (λ (ms : List Membership). has_room ms vid group) (groups-cut One H k) ∙ fit
synchronous-fits Two H k (GroupJoin port vid group) now fit = absurd (cc)
synchronous-fits edition H k (AddrPut vid mac port kind) now fit = absurd (cc)
synchronous-fits edition H k c now fit = fit

-- a deferred one

-- it fits the table of the changes before it
fits-there : (H : List Change) (n : ℕ) (d : Change) → AreWithin H → slice_get H n ≡ Some d → fits (table (take n H)) d ≡ true
fits-there H n d is e = ap (fits (table (take n H))) (sym (get_or_from_slice_get H n d d e)) ∙ is.fit n d (slice_get_within H n d e)

-- the changes before it have just the deferred ones that were applied
before-turn : (edition : Edition) (H : List Change) (k : ℕ) (d : Change) → deferred_at edition H k ≡ Some d → (n : ℕ) × (slice_get H n ≡ Some d) × (deferred_count edition (take n H) ≡ k)
before-turn edition H k d e =
    let r = reach-turn edition H k d e in
    let n = r.0 in
    let is = deferred_at-deferred edition H k d e in
    let front : take (n + 1) H ≡ take n H ++ d ∷ [] = take-next H n d r.2 in
    let all : deferred_count edition (take (n + 1) H) ≡ deferred_count edition (take n H) + deferred_count edition (d ∷ []) = ap (deferred_count edition) front
    ∙ deferred_count-append edition (take n H) (d ∷ []) in
    let one : deferred_count edition (d ∷ []) ≡ 1 = ap (λ b. length (cond b (d ∷ []) [])) is.0 in
    let up : deferred_count edition (take (n + 1) H) ≡ length (take (k + 1) (deferred_of edition H)) = ap (λ m. deferred_count edition (take m H)) (sym r.1)
    ∙ ap length (deferred_of-front edition H (k + 1)) in
    (n, r.2, omega (arith, all, one, up, is.1, length-take (k + 1) (deferred_of edition H)))

-- so the cut goes on from them by synchronous changes alone
cut-from : (edition : Edition) (H : List Change) (n k : ℕ) → deferred_count edition (take n H) ≡ k → table (cut edition H k) ≡ fold apply (table (take n H)) (synchronous_of edition (drop n H))
cut-from edition H n k count =
    let none : k - deferred_count edition (take n H) ≡ 0 = omega arith in
    ap (λ h. table (cut edition h k)) (sym (take-append-drop n H))
    ∙ ap table (cut-append edition (take n H) (drop n H) k
    ∙ (λ i. cut-all edition (take n H) k (omega (arith, count)) i ++ (ap (cut edition (drop n H)) none ∙ cut-none edition (drop n H)) i))
    ∙ fold-append apply start (take n H) (synchronous_of edition (drop n H))

pub turn-fits : (edition : Edition) (H : List Change) (k : ℕ) (d : Change) → AreWithin H → deferred_at edition H k ≡ Some d → fits (table (cut edition H k)) d ≡ true
turn-fits edition H k d within e =
    let b = before-turn edition H k d e in
    by edition d (table (take b.0 H)) (drop b.0 H) (deferred_at-deferred edition H k d e).0 (cut-from edition H b.0 k b.2) (fits-there H b.0 d within b.1)
  where
    by : (edition : Edition) (d : Change) (t : Table) (later : List Change) → deferred edition d ≡ true → table (cut edition H k) ≡ fold apply t (synchronous_of edition later) → fits t d ≡ true
        → fits (table (cut edition H k)) d ≡ true
    by edition (AddrPut vid mac port kind) t later late is fit =
        ap (λ (es : List ((ℕ × ℕ) × (ℕ × Kind))). is_some (get pair_cmp es (vid, mac)) || nat_lt (length es) most_addresses) (ap (λ (u : Table). u.addr) is ∙ addr-synchronous edition t later) ∙ fit
    by edition (AddrDel vid mac) t later late is fit = refl
    by One (GroupJoin port vid group) t later late is fit = absurd (cc)
    by Two (GroupJoin port vid group) t later late is fit =
        ap (λ (ms : List Membership). has_room ms vid group) (ap (λ (u : Table). u.groups) is ∙ groups-synchronous Two refl t later) ∙ fit
    by edition (SetState port state) t later late is fit = fit
    by edition d t later late is fit = refl
