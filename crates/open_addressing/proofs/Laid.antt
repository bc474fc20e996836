-- Numbers in slots, as blocks get room.
use Rattle.std.proofs.Common.{◌≡◌, ◌≢◌, ℕ, zero, suc, ◌+◌, ◌*◌, ◌/◌, ◌%◌, ◌<◌, true, false, not, cond, List, [], length, get_or, set, replicate, count_by, refl, sym, ap, ◌∙◌, arith}
use Rattle.std.proofs.lemmas.Bool.{eq-eqb, ne_eqb}
use Rattle.std.proofs.lemmas.List.{get_or-set_same, get_or-set_other, get_or_past, get_or_default, length-set, length-replicate, same_lists}
use Rattle.std.proofs.lemmas.List.FromFn.{length-map-range_with_len, get_or-map-range_with_len}
use Rattle.std.proofs.lemmas.List.Sums.{count_by-le-length, sum_by-cons}
use Rattle.lemmas.proofs.Lists.{get_or-zeros}
use Rattle.lists.specs.Padded.{padded}
use Rattle.lists.proofs.Filling.{padded-at, length-padded}
use Rattle.open_addressing.specs.Laid.{nowhere, place_of, is_laid, slot_at, slots_of, IsLaid}
use Rattle.open_addressing.proofs.Indexed.{by_eq}
use Rattle.open_addressing.proofs.Lookups.{count-set}

-- ---- the list of the slots

pub length-slots : (n : ℕ) (places laid : List ℕ) → length (slots_of n places laid) ≡ n
unfolding slots_of
length-slots n places laid = length-map-range_with_len (slot_at places laid) 0 n

pub slots-read : (n : ℕ) (places laid : List ℕ) (s d : ℕ) → s < n → get_or (slots_of n places laid) s d ≡ slot_at places laid s
unfolding slots_of
slots-read n places laid s d h = get_or-map-range_with_len (slot_at places laid) 0 n s s d h (omega arith)

pub slots-none : (n : ℕ) (places laid : List ℕ) → laid ≡ [] → slots_of n places laid ≡ replicate n 0
slots-none n places laid none =
    same_lists (slots_of n places laid) (replicate n 0) (length-slots n places laid ∙ sym (length-replicate n 0))
    (λ k d h.
    let long = length-slots n places laid in
    let many : length (replicate {A = ℕ} n 0) ≡ n = length-replicate n 0 in
    slots-read n places laid k d (omega arith) ∙ ap (λ (l : List ℕ). slot_at places l k) none
    ∙ sym (get_or-zeros n k) ∙ get_or_default (replicate n 0) k 0 d (omega arith))

-- one slot is written
pub slots-set : (n : ℕ) (places laid places' laid' : List ℕ) (s v : ℕ) → s < n → slot_at places' laid' s ≡ v → ((i : ℕ) → i ≢ s → slot_at places' laid' i ≡ slot_at places laid i)
    → slots_of n places' laid' ≡ set (slots_of n places laid) s v
slots-set n places laid places' laid' s v within here others =
    same_lists (slots_of n places' laid') (set (slots_of n places laid) s v) (length-slots n places' laid' ∙ sym (length-set (slots_of n places laid) s v ∙ length-slots n places laid))
    (λ k d h.
    let old = length-slots n places laid in
    let new = length-slots n places' laid' in
    slots-read n places' laid' k d (omega arith)
    ∙ by_eq k s
    (λ e. ap (slot_at places' laid') e ∙ here ∙ sym (ap (λ i. get_or (set (slots_of n places laid) s v) i d) e ∙ get_or-set_same (slots_of n places laid) s v d (omega arith)))
    (λ ne. others k ne ∙ sym (get_or-set_other (slots_of n places laid) s k v d ne ∙ slots-read n places laid k d (omega arith))))

-- ---- what is written into a list that is filled up

module _ (old new : List ℕ) (at v : ℕ) (is : (n : ℕ) → padded 0 n new ≡ set (padded 0 n old) at v) where
  pub put-here : get_or new at 0 ≡ v
  put-here =
      let n : ℕ = at + 1 in
      let long = length-padded 0 n old in
      sym (padded-at 0 n new at (omega arith)) ∙ ap (λ (l : List ℕ). get_or l at 0) (is n) ∙ get_or-set_same (padded 0 n old) at v 0 (omega arith)

  pub put-other : (j : ℕ) → j ≢ at → get_or new j 0 ≡ get_or old j 0
  put-other j ne =
      let n : ℕ = j + 1 in
      sym (padded-at 0 n new j (omega arith)) ∙ ap (λ (l : List ℕ). get_or l j 0) (is n) ∙ get_or-set_other (padded 0 n old) at j v 0 ne ∙ padded-at 0 n old j (omega arith)

-- ---- places

laid_some : (p : ℕ) → p ≢ nowhere → is_laid p ≡ true
laid_some p ne = ap not (ne_eqb p nowhere ne)

not_laid : is_laid nowhere ≡ false
not_laid = ap not (eq-eqb nowhere nowhere refl)

none_laid : (n : ℕ) → count_by is_laid (replicate n nowhere) ≡ 0
none_laid zero = refl
none_laid (suc n) =
    let rest = none_laid n in
    let all = sum_by-cons (λ s. cond {A = ℕ} (is_laid s) 1 0) nowhere (replicate n nowhere) in
    let none : cond {A = ℕ} (is_laid nowhere) 1 0 ≡ 0 = ap (λ b. cond {A = ℕ} b 1 0) not_laid in
    omega arith

nowhere_at : (n b : ℕ) → ◌≡◌ {A = ℕ} (get_or (replicate n nowhere) b nowhere) nowhere
nowhere_at zero b = refl
nowhere_at (suc n) zero = refl
nowhere_at (suc n) (suc b) = nowhere_at n b

pub laid-none : (n : ℕ) (places laid : List ℕ) → places ≡ replicate n nowhere → laid ≡ [] → n < nowhere → IsLaid places 0 laid
laid-none n places laid are none fits =
    let long = ap length are ∙ length-replicate n nowhere in
    let nothing : (b : ℕ) → place_of places b ≡ nowhere = λ b. ap (λ (l : List ℕ). get_or l b nowhere) are ∙ nowhere_at n b in
    let short = ap length none in
    record {
      few = omega arith;
      counted = ap (count_by is_laid) are ∙ none_laid n;
      within = λ b some. absurd (some (nothing b));
      apart = λ a b some same. absurd (some (nothing a));
      short = omega arith;
    }

module _ (places : List ℕ) (used : ℕ) (laid : List ℕ) (x : IsLaid places used laid) where
  -- a written block has its own room
  pub other_room : (s i : ℕ) → place_of places (s / 64) ≢ nowhere → i ≢ s → place_of places (i / 64) * 64 + i % 64 ≢ place_of places (s / 64) * 64 + s % 64
  other_room s i some ne e =
      let same : place_of places (s / 64) ≡ place_of places (i / 64) = omega arith in
      let block : s / 64 ≡ i / 64 = x.apart (s / 64) (i / 64) some same in
      ne (omega arith)

  -- a written block stands among as many as there are
  pub place_fits : (b : ℕ) → place_of places b ≢ nowhere → place_of places b < length places
  place_fits b some = (let most = count_by-le-length is_laid places in omega (arith, x.counted, x.within b some))

  module _ (b : ℕ) (within : b < length places) (none : place_of places b ≡ nowhere) where
    pub used_fits : used < nowhere
    used_fits = (let most = count_by-le-length is_laid places in omega (arith, x.few, x.counted))

    apart_used : used ≢ nowhere
    apart_used e = (let fits = used_fits in absurd (omega arith))

    here : place_of (set places b used) b ≡ used
    here = get_or-set_same places b used nowhere within

    elsewhere : (c : ℕ) → c ≢ b → place_of (set places b used) c ≡ place_of places c
    elsewhere c ne = get_or-set_other places b c used nowhere ne

    at_b : (c : ℕ) → c ≡ b → place_of (set places b used) c ≡ used
    at_b c e = ap (place_of (set places b used)) e ∙ here

    pub laid-more : IsLaid (set places b used) (used + 1) laid
    laid-more = record {
      few = omega (arith, length-set places b used, x.few);
      counted =
          let all = count-set is_laid places b used nowhere within in
          let one : cond {A = ℕ} (is_laid used) 1 0 ≡ 1 = ap (λ b. cond {A = ℕ} b 1 0) (laid_some used apart_used) in
          let no : cond {A = ℕ} (is_laid (get_or places b nowhere)) 1 0 ≡ 0 = ap (λ p. cond {A = ℕ} (is_laid p) 1 0) none ∙ ap (λ b. cond {A = ℕ} b 1 0) not_laid in
          omega (arith, x.counted);
      within = λ c some.
          by_eq c b
          (λ e. (let p = at_b c e in omega arith))
          (λ ne. (let p = elsewhere c ne in let old = x.within c (λ z. some (p ∙ z)) in omega arith));
      apart = λ a c some same.
          by_eq a b
          (λ ea.
          by_eq c b
          (λ ec. ea ∙ sym ec)
          (λ nc. (let is : place_of places c ≡ used = sym (elsewhere c nc) ∙ sym same ∙ at_b a ea in
          let less = x.within c (λ z. apart_used (sym is ∙ z)) in absurd (omega arith))))
          (λ na.
          by_eq c b
          (λ ec. (let is : place_of places a ≡ used = sym (elsewhere a na) ∙ same ∙ at_b c ec in
          let less = x.within a (λ z. apart_used (sym is ∙ z)) in absurd (omega arith)))
          (λ nc. x.apart a c (λ z. some (elsewhere a na ∙ z)) (sym (elsewhere a na) ∙ same ∙ elsewhere c nc)));
      short = omega (arith, x.short);
    }

    pub same_slots : (s : ℕ) → slot_at (set places b used) laid s ≡ slot_at places laid s
    same_slots s =
        by_eq (s / 64) b
        (λ e.
        let new = at_b (s / 64) e in
        let old : place_of places (s / 64) ≡ nowhere = ap (place_of places) e ∙ none in
        let fits = used_fits in
        get_or_past laid (place_of (set places b used) (s / 64) * 64 + s % 64) 0 (omega (arith, x.short))
        ∙ sym (get_or_past laid (place_of places (s / 64) * 64 + s % 64) 0 (omega (arith, x.short))))
        (λ ne. ap (λ p. get_or laid (p * 64 + s % 64) 0) (elsewhere (s / 64) ne))
