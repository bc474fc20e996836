-- What holds of each step of a scenario holds of each one that a live run takes from it.
use Rattle.std.proofs.Common.{◌≡◌, ℕ, Bool, true, false, not, ◌&&◌, ◌||◌, if◌then◌else◌, List, [], ◌∷◌, refl, sym, ap, ap₂, ◌∙◌}
use Rattle.std.proofs.lemmas.Bool.{true≢false}
use Rattle.std.proofs.lemmas.List.Folds.{list_all-append}
use Rattle.std.specs.List.{filter, list_all}
use Rattle.lemmas.proofs.Numbers.{eqb-itself}
use Rattle.br_model.specs.declared.steps.Step.{Step}
use Rattle.br_model.specs.declared.steps.Step.TheVariants.{Rx}
use Rattle.br_model.specs.Program.LiveRun.{frames_at, from_frame, is_frame, is_frame_at, is_live_run, is_ordered, until_frame}
use Rattle.br_model.specs.Text.Scenario.{Scenario}
use Rattle.br_model.specs.Program.LiveRules.{Becomes, Empty, Kept, Taken}
use Rattle.br_model.proofs.Program.LiveRuns.{live_is}
use Rattle.live_workers.specs.Results.{is_taken}

left : (a b : Bool) → a && b ≡ true → a ≡ true
left true b e = refl
left false b e = e

right : (a b : Bool) → a && b ≡ true → b ≡ true
right true b e = e
right false b e = absurd (true≢false (sym e))

both : (a b : Bool) → a ≡ true → b ≡ true → a && b ≡ true
both a b e f = ap₂ (λ (x y : Bool). x && y) e f

or-true : (a : Bool) {b : Bool} → b ≡ true → a || b ≡ true
or-true true e = refl
or-true false e = e

module _ (p : Step → Bool) where
  abbrev passes : Step → Bool
  passes s = not (is_taken s) || p s

  -- those that are picked from what passes pass
  picked : (q : Step → Bool) (xs : List Step) → list_all p xs ≡ true → list_all p (filter q xs) ≡ true
  picked q [] all = refl
  picked q (x ∷ xs) all = by (q x) (left (p x) (list_all p xs) all) (picked q xs (right (p x) (list_all p xs) all))
    where
      by : (b : Bool) → p x ≡ true → list_all p (filter q xs) ≡ true → list_all p (if b then x ∷ filter q xs else filter q xs) ≡ true
      by true here rest = both (p x) (list_all p (filter q xs)) here rest
      by false here rest = rest

  -- before the first frame, and from it on
  opening : (xs : List Step) → list_all p xs ≡ true → list_all p (until_frame xs) ≡ true
  opening [] all = refl
  opening (x ∷ xs) all = by (is_frame x) (left (p x) (list_all p xs) all) (opening xs (right (p x) (list_all p xs) all))
    where
      by : (b : Bool) → p x ≡ true → list_all p (until_frame xs) ≡ true → list_all p (if b then [] else x ∷ until_frame xs) ≡ true
      by true here rest = refl
      by false here rest = both (p x) (list_all p (until_frame xs)) here rest

  later : (xs : List Step) → list_all p xs ≡ true → list_all p (from_frame xs) ≡ true
  later [] all = refl
  later (x ∷ xs) all = by (is_frame x) all (later xs (right (p x) (list_all p xs) all))
    where
      by : (b : Bool) → list_all p (x ∷ xs) ≡ true → list_all p (from_frame xs) ≡ true → list_all p (if b then x ∷ xs else from_frame xs) ≡ true
      by true all rest = all
      by false all rest = rest

  -- the first part
  kept : {xs ys : List Step} → Becomes xs ys → list_all p ys ≡ true → list_all passes xs ≡ true
  kept Empty all = refl
  kept (Kept {xs} {ys} s more) all =
      both (passes s) (list_all passes xs) (or-true (not (is_taken s)) (left (p s) (list_all p ys) all)) (kept more (right (p s) (list_all p ys) all))
  kept (Taken more) all = kept more all

  -- one step less
  fewer : (q : Step → Bool) (x : Step) (xs : List Step) → list_all p (filter q (x ∷ xs)) ≡ true → list_all p (filter q xs) ≡ true
  fewer q x xs all = by (q x) all
    where
      by : (b : Bool) → list_all p (if b then x ∷ filter q xs else filter q xs) ≡ true → list_all p (filter q xs) ≡ true
      by true all = right (p x) (list_all p (filter q xs)) all
      by false all = all

  first : (q : Step → Bool) (x : Step) (xs : List Step) → q x ≡ true → list_all p (filter q (x ∷ xs)) ≡ true → p x ≡ true
  first q x xs is all =
      left (p x) (list_all p (filter q xs)) (sym (ap (λ (b : Bool). list_all p (if b then x ∷ filter q xs else filter q xs)) is) ∙ all)

  -- a step that is taken is one of its port's frames, or of the ordered ones
  other : (s : Step) (xs : List Step) (b : Bool) → is_frame s ≡ false → is_ordered s ≡ b → list_all p (filter is_ordered (s ∷ xs)) ≡ true → passes s ≡ true
  other s xs true none is ordered = or-true (not (is_taken s)) (first is_ordered s xs is ordered)
  other s xs false none is ordered = ap₂ (λ (frame order : Bool). not (frame || order) || p s) none is

  here : (s : Step) (xs : List Step) → ((port : ℕ) → list_all p (frames_at port (s ∷ xs)) ≡ true) → list_all p (filter is_ordered (s ∷ xs)) ≡ true → passes s ≡ true
  here (Rx port bytes) xs frames ordered = first (is_frame_at port) (Rx port bytes) xs (eqb-itself port) (frames port)
  here s xs frames ordered = other s xs (is_ordered s) refl refl ordered

  -- the steps behind the first part
  rest : (xs : List Step) → ((port : ℕ) → list_all p (frames_at port xs) ≡ true) → list_all p (filter is_ordered xs) ≡ true → list_all passes xs ≡ true
  rest [] frames ordered = refl
  rest (s ∷ xs) frames ordered =
      both (passes s) (list_all passes xs) (here s xs frames ordered)
      (rest xs (λ port. fewer (is_frame_at port) s xs (frames port)) (fewer is_ordered s xs ordered))

pub taken-given : (p : Step → Bool) (steps : List Step) (sc : Scenario) → is_live_run steps sc ≡ true → list_all p sc.steps ≡ true
    → list_all (λ s. not (is_taken s) || p s) steps ≡ true
taken-given p steps sc live all =
    let r = live_is steps sc live in
    let behind = later p sc.steps all in
    ap (list_all (λ s. not (is_taken s) || p s)) r.parts
    ∙ (list_all-append (λ s. not (is_taken s) || p s) r.first r.later
    ∙ both (list_all (λ s. not (is_taken s) || p s) r.first) (list_all (λ s. not (is_taken s) || p s) r.later)
    (kept p r.opening (opening p sc.steps all))
    (rest p r.later (λ port. ap (list_all p) (r.frames port) ∙ picked p (is_frame_at port) (from_frame sc.steps) behind)
    (ap (list_all p) r.ordered ∙ picked p is_ordered (from_frame sc.steps) behind)))
