-- Lists of what is kept of the chips, by the numbers of their domains.
use Rattle.std.proofs.Common.{◌≡◌, ℕ, zero, suc, ◌+◌, ◌<◌, Bool, true, false, cond, not, List, [], ◌∷◌, map}
use Rattle.std.proofs.Common.{length, drop, set, get_or, slice_get, Option, None, Some, option_map, refl, sym, ap, ◌∙◌, arith}
use Rattle.std.proofs.lemmas.Bool.{eqb-true, eq-eqb, or_parts, and_parts, not-true}
use Rattle.std.proofs.lemmas.List.{at_drop_more, get_or-drop, drop-set-lt, drop-drop}
use Rattle.std.proofs.lemmas.List.Sums.{sum_by-cons}
use Rattle.std.proofs.lemmas.Simd.{map-map}
use Rattle.std.proofs.lemmas.Option.{slice_get-get_or}
use Rattle.std.specs.Prelude.{◌==◌, ◌||◌, ◌&&◌, is_some}
use Rattle.std.specs.List.{filter, find, list_any, sum_by}
use Rattle.lemmas.proofs.Tests.{or-true}
use Rattle.br_model.specs.Plane.Chip.{Chip, chip_in, put_chip, first_chip}
use Rattle.br_model.specs.Table.Domains.{Domains, chip_domains, has_chip, software}

-- no number is among the later ones
abbrev pub apart : List ℕ → Bool
apart [] = true
apart (d ∷ ds) = not (list_any (λ e. e == d) ds) && apart ds

-- the numbers of the domains of which this is so
abbrev those : Bool → Bool → Bool → List ℕ
those b c d = 1 ∷ cond b (2 ∷ cond c (3 ∷ cond d (4 ∷ []) []) (cond d (4 ∷ []) [])) (cond c (3 ∷ cond d (4 ∷ []) []) (cond d (4 ∷ []) []))

pub apart-chips : (domains : Domains) → apart (chip_domains domains) ≡ true
apart-chips domains = by (is 2) (is 3) (is 4)
  where
    is : ℕ → Bool
    is d = list_any (λ e. e == d) (map (λ e. e.1) domains.ports)

    by : (b c d : Bool) → apart (those b c d) ≡ true
    by true true true = refl
    by true true false = refl
    by true false true = refl
    by true false false = refl
    by false true true = refl
    by false true false = refl
    by false false true = refl
    by false false false = refl

-- which domains exist
pub existing : (domains : Domains) → filter (λ k. has_chip domains k) (1 ∷ 2 ∷ 3 ∷ 4 ∷ []) ≡ chip_domains domains
existing domains = by (is 2) (is 3) (is 4)
  where
    is : ℕ → Bool
    is d = list_any (λ e. e == d) (map (λ e. e.1) domains.ports)

    by : (b c d : Bool) → filter (λ k. list_any (λ e. e == k) (those b c d)) (1 ∷ 2 ∷ 3 ∷ 4 ∷ []) ≡ those b c d
    by true true true = refl
    by true true false = refl
    by true false true = refl
    by true false false = refl
    by false true true = refl
    by false true false = refl
    by false false true = refl
    by false false false = refl

pub not-software : (domains : Domains) (dom : ℕ) → has_chip domains dom ≡ true → dom ≡ software → ⊥
not-software domains dom has soft = absurd (let e : true ≡ false = sym (sym (ap (has_chip domains) soft) ∙ has) ∙ by (is 2) (is 3) (is 4) in cc)
  where
    is : ℕ → Bool
    is d = list_any (λ e. e == d) (map (λ e. e.1) domains.ports)

    by : (b c d : Bool) → list_any (λ e. e == 0) (those b c d) ≡ false
    by true true true = refl
    by true true false = refl
    by true false true = refl
    by true false false = refl
    by false true true = refl
    by false true false = refl
    by false false true = refl
    by false false false = refl

-- what stands in a place of a list with the same rest
pub same-rest : {S : Type 0} (xs ys : List S) (i : ℕ) (s : S) → drop i xs ≡ drop i ys → get_or xs i s ≡ get_or ys i s
same-rest xs ys i s e =
    let here : i ≡ i + 0 = omega arith in
    ap (λ n. get_or xs n s) here ∙ sym (get_or-drop i xs 0 s) ∙ ap (λ zs. get_or zs 0 s) e ∙ get_or-drop i ys 0 s ∙ sym (ap (λ n. get_or ys n s) here)

pub rest-set : {S : Type 0} (xs ys : List S) (i : ℕ) (s : S) → drop i xs ≡ drop i ys → drop (i + 1) (set xs i s) ≡ drop (i + 1) ys
rest-set xs ys i s e = drop-set-lt (i + 1) xs i s (omega arith) ∙ sym (drop-drop 1 i xs) ∙ ap (drop 1) e ∙ drop-drop 1 i ys

-- What is kept of each chip, in which the chip stands as the definitions have it.
module _ {S : Type 0} (chip : S → Chip) where
  abbrev chips_of : List S → List Chip
  chips_of states = map chip states

  abbrev doms : List S → List ℕ
  doms states = map (λ (s : S). (chip s).dom) states

  -- the one of this domain
  abbrev state_in : List S → ℕ → Option S
  state_in states dom = find (λ (s : S). (chip s).dom == dom) states

  -- the domains of the first chips
  pub doms-first : (states : List S) (numbers : List ℕ) → chips_of states ≡ map first_chip numbers → doms states ≡ numbers
  doms-first states numbers are =
      sym (map-map (λ (c : Chip). c.dom) chip states) ∙ ap (λ (cs : List Chip). map (λ c. c.dom) cs) are ∙ own numbers
    where
      own : (ns : List ℕ) → map (λ (c : Chip). c.dom) (map first_chip ns) ≡ ns
      own [] = refl
      own (n ∷ ns) = ap (λ ms. n ∷ ms) (own ns)

  -- The chip of a domain.

  pub chip-found : (states : List S) (dom : ℕ) → chip_in (chips_of states) dom ≡ option_map chip (state_in states dom)
  chip-found [] dom = refl
  chip-found (s ∷ states) dom = elim ((chip s).dom == dom) as (λ b. cond b (Some (chip s)) (chip_in (chips_of states) dom) ≡ option_map chip (cond b (Some s) (state_in states dom))) [
    | true ↦ refl
    | false ↦ chip-found states dom
  ]

  pub some-found : (states : List S) (dom : ℕ) → is_some (chip_in (chips_of states) dom) ≡ is_some (state_in states dom)
  some-found states dom = ap is_some (chip-found states dom) ∙ by (state_in states dom)
    where
      by : (o : Option S) → is_some (option_map chip o) ≡ is_some o
      by None = refl
      by (Some c) = refl

  -- so far there was none, and here it is
  pub found-here : (states : List S) (dom i : ℕ) (s : S) → state_in (drop i states) dom ≡ state_in states dom → i < length states → get_or states i s ≡ s → ((chip s).dom == dom) ≡ true
      → (c : S) × (state_in states dom ≡ Some c) × (slice_get states i ≡ Some c)
  found-here states dom i s before within here is = (
    s,
    sym before ∙ at_drop_more (λ ss. state_in ss dom) states i s within ∙ ap (λ x. state_in (x ∷ drop (i + 1) states) dom) here ∙ ap (λ b. cond b (Some s) (state_in (drop (i + 1) states) dom)) is,
    slice_get-get_or states i s within ∙ ap Some here,
  )

  -- Another state in a place.

  none-put : (c : Chip) (states : List S) → list_any (λ e. e == c.dom) (doms states) ≡ false → put_chip (chips_of states) c ≡ chips_of states
  none-put c [] h = refl
  none-put c (s ∷ states) h =
      let parts = or_parts ((chip s).dom == c.dom) (list_any (λ e. e == c.dom) (doms states)) h in
      λ i. cond (parts.0 i) c (chip s) ∷ none-put c states parts.1 i

  there : (states : List S) (i : ℕ) (s : S) → slice_get states i ≡ Some s → list_any (λ e. e == (chip s).dom) (doms states) ≡ true
  there [] i s e = absurd (cc)
  there (x ∷ states) zero s e =
      let same : x ≡ s = cc in
      ap (λ b. b || list_any (λ k. k == (chip s).dom) (doms states)) (eq-eqb (chip x).dom (chip s).dom (ap (λ (y : S). (chip y).dom) same))
  there (x ∷ states) (suc i) s e = ap (λ b. ((chip x).dom == (chip s).dom) || b) (there states i s e) ∙ or-true ((chip x).dom == (chip s).dom)

  -- it is the one of its domain
  pub put-place : (states : List S) (i : ℕ) (old new : S) → apart (doms states) ≡ true → slice_get states i ≡ Some old → (chip new).dom ≡ (chip old).dom
      → chips_of (set states i new) ≡ put_chip (chips_of states) (chip new)
  put-place [] i old new h e own = absurd (cc)
  put-place (x ∷ states) zero old new h e own =
      let same : x ≡ old = cc in
      let is : (chip new).dom ≡ (chip x).dom = own ∙ sym (ap (λ (y : S). (chip y).dom) same) in
      let parts = and_parts (not (list_any (λ k. k == (chip x).dom) (doms states))) (apart (doms states)) h in
      sym (λ i. cond (eq-eqb (chip x).dom (chip new).dom (sym is) i) (chip new) (chip x) ∷ none-put (chip new) states (ap (λ n. list_any (λ k. k == n) (doms states)) is ∙ not-true _ parts.0) i)
  put-place (x ∷ states) (suc i) old new h e own =
      let parts = and_parts (not (list_any (λ k. k == (chip x).dom) (doms states))) (apart (doms states)) h in
      (elim ((chip x).dom == (chip new).dom) as (λ b. ((chip x).dom == (chip new).dom) ≡ b
      → (chip x) ∷ chips_of (set states i new) ≡ cond b (chip new) (chip x) ∷ put_chip (chips_of states) (chip new)) [
        | true ↦ λ is.
            let clash : list_any (λ k. k == (chip x).dom) (doms states) ≡ true = ap (λ n. list_any (λ k. k == n) (doms states)) (eqb-true (chip x).dom (chip new).dom is ∙ own)
            ∙ there states i old e in
            absurd (let none : not true ≡ true = ap not (sym clash) ∙ parts.0 in cc)
        | false ↦ λ is. ap (λ cs. (chip x) ∷ cs) (put-place states i old new parts.1 e own)
      ]) refl

  -- a sum over chips is one over what the definitions keep of them
  pub sum-chips : (f : Chip → ℕ) (states : List S) → sum_by (λ (s : S). f (chip s)) states ≡ sum_by f (chips_of states)
  sum-chips f [] = refl
  sum-chips f (s ∷ states) = sum_by-cons (λ (x : S). f (chip x)) s states ∙ ap (λ n. f (chip s) + n) (sum-chips f states) ∙ sym (sum_by-cons f (chip s) (chips_of states))
