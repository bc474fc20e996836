-- An index of keys, as keys come and go.
use Rattle.std.proofs.Common.{◌≡◌, ◌≢◌, ℕ, zero, suc, ◌+◌, ◌-◌, ◌^◌, ◌<◌, ◌≤◌, true, false, not, ◌&&◌, eqb, cond, List}
use Rattle.std.proofs.Common.{length, get_or, set, replicate, count_by, refl, sym, ap, subst, ◌∙◌, ⊎_elim, arith}
use Rattle.std.proofs.lemmas.Bool.{cases_eq, cases_lt, eq-eqb, ne_eqb}
use Rattle.std.proofs.lemmas.List.{get_or-set_same, get_or-set_other, length-set, length-replicate}
use Rattle.std.proofs.lemmas.List.Sums.{sum_by-cons}
use Rattle.std.specs.List.{insert, remove}
use Rattle.std.proofs.lemmas.List.Edits.{length-insert, get_or-insert_below, get_or-insert_at, get_or-insert_above, length-remove, get_or-remove_below, get_or-remove_above}
use Rattle.lemmas.proofs.Lists.{get_or-zeros}
use Rattle.open_addressing.specs.Hashed.{home_of}
use Rattle.open_addressing.specs.Indexed.{left, is_taken, slot_of, Lists, named_by, Ascends, Halves, IsIndexed, IsBlank}
use Rattle.open_addressing.proofs.Hashed.{homes-lt}
use Rattle.open_addressing.proofs.Lookups.{count-set}

pub by_eq : {A : Type 0} (a b : ℕ) → (a ≡ b → A) → (a ≢ b → A) → A
by_eq a b f g = ⊎_elim f g (cases_eq a b)

pub by_lt : {A : Type 0} (a b : ℕ) → (a < b → A) → (b ≤ a → A) → A
by_lt a b f g = ⊎_elim f g (cases_lt a b)

-- ---- slots

pub taken : (s : ℕ) → s ≢ 0 → s ≢ left → is_taken s ≡ true
taken s some here = (λ i. not (ne_eqb s 0 some i) && not (ne_eqb s left here i))

pub not_zero : is_taken 0 ≡ false
not_zero = ap (λ b. not b && not (eqb 0 left)) (eq-eqb 0 0 refl)

pub not_left : is_taken left ≡ false
not_left = ap (λ b. not b && not (eqb left left)) (ne_eqb left 0 (λ e. absurd (omega arith))) ∙ ap (λ b. not b) (eq-eqb left left refl)

-- a slot that is taken names a cell
pub taken_some : (s : ℕ) → is_taken s ≡ true → s ≢ 0
taken_some s is none = (let no : is_taken s ≡ false = ap is_taken none ∙ not_zero in absurd (cc))

pub taken_here : (s : ℕ) → is_taken s ≡ true → s ≢ left
taken_here s is gone = (let no : is_taken s ≡ false = ap is_taken gone ∙ not_left in absurd (cc))

module _ (hash : ℕ → ℕ) (bits : ℕ) (slots : List ℕ) (k v : ℕ) (within : home_of hash bits k < length slots) where
  slot_same : (q : ℕ) → home_of hash bits q ≡ home_of hash bits k → slot_of hash bits (set slots (home_of hash bits k) v) q ≡ v
  slot_same q e = ap (λ h. get_or (set slots (home_of hash bits k) v) h 0) e ∙ get_or-set_same slots (home_of hash bits k) v 0 within

  slot_other : (q : ℕ) → home_of hash bits q ≢ home_of hash bits k → slot_of hash bits (set slots (home_of hash bits k) v) q ≡ slot_of hash bits slots q
  slot_other q ne = get_or-set_other slots (home_of hash bits k) (home_of hash bits q) v 0 ne

-- ---- lists of places

pub lists-insert : (rest : List ℕ) (r p i : ℕ) → r ≤ length rest → Lists rest i → Lists (insert rest r p) i
lists-insert rest r p i le l =
    let long = length-insert rest r p le in
    by_lt l.0 r
    (λ lt. (l.0, omega (arith, l.1), get_or-insert_below rest r p 0 l.0 lt le ∙ l.2))
    (λ ge. (l.0 + 1, omega (arith, l.1), get_or-insert_above rest r p 0 l.0 ge le ∙ l.2))

pub lists-inserted : (rest : List ℕ) (r p : ℕ) → r ≤ length rest → Lists (insert rest r p) p
lists-inserted rest r p le = (let long = length-insert rest r p le in (r, omega arith, get_or-insert_at rest r p 0 le))

pub lists-remove : (rest : List ℕ) (r i : ℕ) → r < length rest → get_or rest r 0 ≢ i → Lists rest i → Lists (remove rest r) i
lists-remove rest r i lt ne l =
    let long = length-remove rest r lt in
    by_lt l.0 r
    (λ below. (l.0, omega (arith, l.1), get_or-remove_below rest r 0 l.0 below lt ∙ l.2))
    (λ from.
    by_eq l.0 r
    (λ e. absurd (ne (ap (λ j. get_or rest j 0) (sym e) ∙ l.2)))
    (λ apart.
    let back : l.0 - 1 + 1 ≡ l.0 = omega arith in
    (l.0 - 1, omega (arith, l.1), get_or-remove_above rest r 0 (l.0 - 1) (omega arith) lt ∙ ap (λ j. get_or rest j 0) back ∙ l.2)))

-- what holds of each of a list holds of each of it with one more
insert_each : (P : ℕ → Type 0) (rest : List ℕ) (r p : ℕ) → r ≤ length rest → P p → ((j : ℕ) → j < length rest → P (get_or rest j 0)) → (j : ℕ) → j < length (insert rest r p)
    → P (get_or (insert rest r p) j 0)
insert_each P rest r p le here each j h =
    let long = length-insert rest r p le in
    by_lt j r
    (λ lt. subst P (sym (get_or-insert_below rest r p 0 j lt le)) (each j (omega arith)))
    (λ ge.
    by_eq j r
    (λ e. subst P (sym (ap (λ i. get_or (insert rest r p) i 0) e ∙ get_or-insert_at rest r p 0 le)) here)
    (λ apart.
    let back : j - 1 + 1 ≡ j = omega arith in
    subst P (sym (ap (λ i. get_or (insert rest r p) i 0) (sym back) ∙ get_or-insert_above rest r p 0 (j - 1) (omega arith) le)) (each (j - 1) (omega arith))))

-- and with one less
remove_each : (P : ℕ → Type 0) (rest : List ℕ) (r : ℕ) → r < length rest → ((j : ℕ) → j < length rest → j ≢ r → P (get_or rest j 0)) → (j : ℕ) → j < length (remove rest r)
    → P (get_or (remove rest r) j 0)
remove_each P rest r lt each j h =
    let long = length-remove rest r lt in
    by_lt j r
    (λ below. subst P (sym (get_or-remove_below rest r 0 j below lt)) (each j (omega arith) (λ e. absurd (omega arith))))
    (λ from. subst P (sym (get_or-remove_above rest r 0 j from lt)) (each (j + 1) (omega arith) (λ e. absurd (omega arith))))

module _ (hash : ℕ → ℕ) (bits : ℕ) (at : ℕ → ℕ) (slots rest : List ℕ) (x : IsIndexed hash bits at slots rest) where
  abbrev home : ℕ → ℕ
  home k = home_of hash bits k

  abbrev slot : ℕ → ℕ
  slot k = slot_of hash bits slots k

  pub home-lt : (k : ℕ) → home_of hash bits k < length slots
  home-lt k = subst (λ n. home_of hash bits k < n) (sym x.sized) (homes-lt hash x.hashes bits x.few k)

  -- what is read in the slot of a key
  pub slot-read : (k h s : ℕ) → h ≡ home_of hash bits k → s ≡ get_or slots h 0 → slot_of hash bits slots k ≡ s
  slot-read k h s is read = ap (λ i. get_or slots i 0) (sym is) ∙ sym read

  -- a slot that names a cell names one that holds a key
  pub slot-cell : (k s : ℕ) → slot_of hash bits slots k ≡ s → is_taken s ≡ true → at (s - 1) ≢ 0
  slot-cell k s is full = subst (λ n. at (n - 1) ≢ 0) is (x.sound (home k) (λ z. taken_some s full (sym is ∙ z)) (λ z. taken_here s full (sym is ∙ z))).0

  -- two places of the list with one key are one
  one_place : (j k : ℕ) → j < length rest → k < length rest → at (get_or rest j 0) ≡ at (get_or rest k 0) → j ≡ k
  one_place j k jn kn same =
      by_lt j k
      (λ lt. (let less = x.ascending j k lt kn in absurd (omega arith)))
      (λ ge. by_lt k j (λ lt. (let less = x.ascending k j lt jn in absurd (omega arith))) (λ ge'. omega arith))

  -- the key is where its slot or the list says, or nowhere
  pub nowhere : (k : ℕ) → k ≢ 0 → (slot_of hash bits slots k ≢ 0 → (slot_of hash bits slots k ≢ left → at (slot_of hash bits slots k - 1) ≢ k) × ((j : ℕ) → j < length rest → at (get_or rest j 0) ≢ k))
      → (i : ℕ) → at i ≢ k
  nowhere k some none i is =
      let used : at i ≢ 0 = λ z. some (sym is ∙ z) in
      let fits = x.small i used in
      by_eq (slot_of hash bits slots (at i)) (i + 1)
      (λ e.
      let s : slot_of hash bits slots k ≡ i + 1 = ap (slot_of hash bits slots) (sym is) ∙ e in
      let one : slot_of hash bits slots k - 1 ≡ i = omega arith in
      (none (λ z. absurd (omega arith))).0 (λ z. absurd (omega arith)) (ap at one ∙ is))
      (λ missed.
      let l = x.named i used missed in
      (none (λ z. l.0 (ap (slot_of hash bits slots) is ∙ z))).1 l.1.0 l.1.1 (ap at l.1.2 ∙ is))

  -- a key that its slot and the list lack is nowhere
  pub missed : (k s : ℕ) → k ≢ 0 → slot_of hash bits slots k ≡ s → (is_taken s ≡ true → at (s - 1) ≢ k) → ((j : ℕ) → j < length rest → at (get_or rest j 0) ≢ k) → (i : ℕ) → at i ≢ k
  missed k s some is unnamed unlisted =
      nowhere k some (λ nz. ((λ here. subst (λ n. at (n - 1) ≢ k) (sym is) (unnamed (taken s (λ z. nz (is ∙ z)) (λ z. here (is ∙ z))))), unlisted))

  -- and one whose slot was never used
  pub never : (k : ℕ) → k ≢ 0 → slot_of hash bits slots k ≡ 0 → (i : ℕ) → at i ≢ k
  never k some none = nowhere k some (λ nz. absurd (nz none))

  -- a key that its slot doesn't name stands in the list
  pub stands : (k p : ℕ) → k ≢ 0 → at p ≡ k → slot_of hash bits slots k ≢ p + 1 → ((j : ℕ) → j < length rest → at (get_or rest j 0) ≢ k) → ⊥
  stands k p some is unnamed unlisted =
      let l = (x.named p (λ z. some (sym is ∙ z)) (λ e. unnamed (ap (slot_of hash bits slots) (sym is) ∙ e))).1 in
      unlisted l.0 l.1 (ap at l.2 ∙ is)

  module _ (at' : ℕ → ℕ) (k p : ℕ) (others : (i : ℕ) → i ≢ p → at' i ≡ at i) where
    -- what was used is used still, but for p
    kept : (i : ℕ) → i ≢ p → at' i ≢ 0 → at i ≢ 0
    kept i ne used z = used (others i ne ∙ z)

    keeps : (i : ℕ) → i ≢ p → at i ≢ 0 → at' i ≢ 0
    keeps i ne used z = used (sym (others i ne) ∙ z)

    -- what is in the slot of a key with another number in that of k

    abbrev entered : ℕ → ℕ
    entered q = slot_of hash bits (set slots (home_of hash bits k) (p + 1)) q

    abbrev vacated : ℕ → ℕ
    vacated q = slot_of hash bits (set slots (home_of hash bits k) left) q

    module _ (some : k ≢ 0) (empty : at p ≡ 0) (fits : p + 1 < left) (here : at' p ≡ k) where
      -- a used cell is another
      other : (i : ℕ) → at i ≢ 0 → i ≢ p
      other i used e = used (ap at e ∙ empty)

      small' : (i : ℕ) → at' i ≢ 0 → i + 1 < left
      small' i used = by_eq i p (λ e. subst (λ n. n + 1 < left) (sym e) fits) (λ ne. x.small i (kept i ne used))

      -- the key comes into the cell p, and its slot, which names none, names it
      pub enters_slot : is_taken (slot_of hash bits slots k) ≡ false → IsIndexed hash bits at' (set slots (home_of hash bits k) (p + 1)) rest
      enters_slot free = record {
        hashes = x.hashes;
        some = x.some;
        few = x.few;
        sized = length-set slots (home k) (p + 1) ∙ x.sized;
        small = small';
        named = λ i used missed.
            by_eq i p
            (λ e. absurd (missed (ap entered (ap at' e ∙ here) ∙ slot_same hash bits slots k (p + 1) (home-lt k) k refl ∙ ap (λ n. n + 1) (sym e))))
            (λ ne.
            by_eq (home (at' i)) (home k)
            (λ same.
            let was : slot (at i) ≡ slot k = ap (λ h. get_or slots h 0) (ap home (sym (others i ne)) ∙ same) in
            let unnamed : slot (at i) ≢ i + 1 = λ e. (let taken_k = taken (i + 1) (λ z. absurd (omega arith)) (λ z. (let f = x.small i (kept i ne used) in absurd (omega arith))) in
            let no : is_taken (i + 1) ≡ false = ap is_taken (sym e ∙ was) ∙ free in absurd (cc)) in
            let l = x.named i (kept i ne used) unnamed in
            let now : entered (at' i) ≡ p + 1 = slot_same hash bits slots k (p + 1) (home-lt k) (at' i) same in
            ((λ z. absurd (omega arith)), l.1))
            (λ apart.
            let same : entered (at' i) ≡ slot (at i) = slot_other hash bits slots k (p + 1) (home-lt k) (at' i) apart ∙ ap slot (others i ne) in
            let l = x.named i (kept i ne used) (λ e. missed (same ∙ e)) in
            ((λ z. l.0 (sym same ∙ z)), l.1)));
        sound = λ s named here'.
            by_eq s (home k)
            (λ e.
            let is : get_or (set slots (home k) (p + 1)) s 0 ≡ p + 1 = ap (λ h. get_or (set slots (home k) (p + 1)) h 0) e ∙ get_or-set_same slots (home k) (p + 1) 0 (home-lt k) in
            let cell : get_or (set slots (home k) (p + 1)) s 0 - 1 ≡ p = omega arith in
            let key : at' (get_or (set slots (home k) (p + 1)) s 0 - 1) ≡ k = ap at' cell ∙ here in
            ((λ z. some (sym key ∙ z)), ap home key ∙ sym e))
            (λ ne.
            let is : get_or (set slots (home k) (p + 1)) s 0 ≡ get_or slots s 0 = get_or-set_other slots (home k) s (p + 1) 0 ne in
            let old = x.sound s (λ z. named (is ∙ z)) (λ z. here' (is ∙ z)) in
            let key : at' (get_or (set slots (home k) (p + 1)) s 0 - 1) ≡ at (get_or slots s 0 - 1) = ap (λ n. at' (n - 1)) is ∙ others (get_or slots s 0 - 1) (other (get_or slots s 0 - 1) old.0) in
            ((λ z. old.0 (sym key ∙ z)), ap home key ∙ old.1));
        listed = λ j h. keeps (get_or rest j 0) (other _ (x.listed j h)) (x.listed j h);
        ascending =
            λ j l lt h. (let a = others (get_or rest j 0) (other _ (x.listed j (omega arith))) in let b = others (get_or rest l 0) (other _ (x.listed l h)) in let less = x.ascending j l lt h in
            omega arith);
        apart = λ j h.
            let i : ℕ = get_or rest j 0 in
            let ne : i ≢ p = other i (x.listed j h) in
            by_eq (home (at' i)) (home k)
            (λ same e. ne (let now : entered (at' i) ≡ p + 1 = slot_same hash bits slots k (p + 1) (home-lt k) (at' i) same in omega arith))
            (λ apart e. x.apart j h (sym (slot_other hash bits slots k (p + 1) (home-lt k) (at' i) apart ∙ ap slot (others i ne)) ∙ e));
      }

      -- it comes into the list, where the slot names another
      pub enters_list : (r : ℕ) → is_taken (slot_of hash bits slots k) ≡ true → r ≤ length rest → ((j : ℕ) → j < r → at (get_or rest j 0) < k)
          → ((j : ℕ) → r ≤ j → j < length rest → k ≤ at (get_or rest j 0))
          → ((i : ℕ) → at i ≢ k) → IsIndexed hash bits at' slots (insert rest r p)
      enters_list r full le low high absent = record {
        hashes = x.hashes;
        some = x.some;
        few = x.few;
        sized = x.sized;
        small = small';
        named = λ i used missed.
            by_eq i p
            (λ e. ((λ z. taken_some (slot k) full (ap slot (sym (ap at' e ∙ here)) ∙ z)), subst (Lists (insert rest r p)) (sym e) (lists-inserted rest r p le)))
            (λ ne.
            let same : slot (at' i) ≡ slot (at i) = ap slot (others i ne) in
            let l = x.named i (kept i ne used) (λ e. missed (same ∙ e)) in
            ((λ z. l.0 (sym same ∙ z)), lists-insert rest r p i le l.1));
        sound = λ s named here'.
            let old = x.sound s named here' in
            let key = others (get_or slots s 0 - 1) (other (get_or slots s 0 - 1) old.0) in
            ((λ z. old.0 (sym key ∙ z)), ap home key ∙ old.1);
        listed = insert_each (λ i. at' i ≢ 0) rest r p le (λ z. some (sym here ∙ z)) (λ j h. keeps _ (other _ (x.listed j h)) (x.listed j h));
        ascending = ascends;
        apart = insert_each (λ i. slot (at' i) ≢ i + 1) rest r p le
            (λ e.
            let s : slot k ≡ p + 1 = ap slot (sym here) ∙ e in
            let used = (x.sound (home k) (taken_some (slot k) full) (taken_here (slot k) full)).0 in
            used (let one : slot k - 1 ≡ p = omega arith in ap at one ∙ empty))
            (λ j h e. x.apart j h (ap slot (sym (others _ (other _ (x.listed j h)))) ∙ e));
      }
        where
          below : (j : ℕ) → j < r → at' (get_or (insert rest r p) j 0) ≡ at (get_or rest j 0)
          below j lt = ap at' (get_or-insert_below rest r p 0 j lt le) ∙ others _ (other _ (x.listed j (omega arith)))

          middle : (j : ℕ) → j ≡ r → at' (get_or (insert rest r p) j 0) ≡ k
          middle j e = ap (λ i. at' (get_or (insert rest r p) i 0)) e ∙ ap at' (get_or-insert_at rest r p 0 le) ∙ here

          above : (j : ℕ) → r < j → j < length (insert rest r p) → at' (get_or (insert rest r p) j 0) ≡ at (get_or rest (j - 1) 0)
          above j lt h =
              let long = length-insert rest r p le in
              let back : j - 1 + 1 ≡ j = omega arith in
              ap (λ i. at' (get_or (insert rest r p) i 0)) (sym back) ∙ ap at' (get_or-insert_above rest r p 0 (j - 1) (omega arith) le) ∙ others _ (other _ (x.listed (j - 1) (omega arith)))

          more : (j : ℕ) → r ≤ j → j < length rest → k < at (get_or rest j 0)
          more j ge h = (let least = high j ge h in let ne = absent (get_or rest j 0) in by_eq (at (get_or rest j 0)) k (λ e. absurd (ne e)) (λ apart. omega arith))

          ascends : (j l : ℕ) → j < l → l < length (insert rest r p) → at' (get_or (insert rest r p) j 0) < at' (get_or (insert rest r p) l 0)
          ascends j l lt h =
              let long = length-insert rest r p le in
              by_lt l r
              (λ lr. (let a = below j (omega arith) in let b = below l lr in let less = x.ascending j l lt (omega arith) in omega arith))
              (λ lr.
              by_eq l r
              (λ e. (let a = below j (omega arith) in let b = middle l e in let less = low j (omega arith) in omega arith))
              (λ apart.
              let b = above l (omega arith) h in
              by_lt j r
              (λ jr. (let a = below j jr in let less = x.ascending j (l - 1) (omega arith) (omega arith) in omega arith))
              (λ jr.
              by_eq j r
              (λ e. (let a = middle j e in let less = more (l - 1) (omega arith) (omega arith) in omega arith))
              (λ apart'. (let a = above j (omega arith) (omega arith) in let less = x.ascending (j - 1) (l - 1) (omega arith) (omega arith) in omega arith)))))

    module _ (used_p : at p ≢ 0) (is : at p ≡ k) (gone : at' p ≡ 0) where
      -- a used cell is another
      stays : (i : ℕ) → at' i ≢ 0 → i ≢ p
      stays i used e = used (ap at' e ∙ gone)

      small_left : (i : ℕ) → at' i ≢ 0 → i + 1 < left
      small_left i used = x.small i (kept i (stays i used) used)

      -- the key leaves the cell p, which its slot names
      pub leaves_slot : slot_of hash bits slots k ≡ p + 1 → IsIndexed hash bits at' (set slots (home_of hash bits k) left) rest
      leaves_slot named_p = record {
        hashes = x.hashes;
        some = x.some;
        few = x.few;
        sized = length-set slots (home k) left ∙ x.sized;
        small = small_left;
        named = λ i used missed.
            let ne = stays i used in
            by_eq (home (at' i)) (home k)
            (λ same.
            let was : slot (at i) ≡ p + 1 = ap (λ h. get_or slots h 0) (ap home (sym (others i ne)) ∙ same) ∙ named_p in
            let l = x.named i (kept i ne used) (λ e. ne (omega arith)) in
            let now : vacated (at' i) ≡ left = slot_same hash bits slots k left (home-lt k) (at' i) same in
            ((λ z. absurd (omega arith)), l.1))
            (λ apart.
            let same : vacated (at' i) ≡ slot (at i) = slot_other hash bits slots k left (home-lt k) (at' i) apart ∙ ap slot (others i ne) in
            let l = x.named i (kept i ne used) (λ e. missed (same ∙ e)) in
            ((λ z. l.0 (sym same ∙ z)), l.1));
        sound = λ s named here'.
            by_eq s (home k)
            (λ e. absurd (here' (ap (λ h. get_or (set slots (home k) left) h 0) e ∙ get_or-set_same slots (home k) left 0 (home-lt k))))
            (λ ne.
            let same : get_or (set slots (home k) left) s 0 ≡ get_or slots s 0 = get_or-set_other slots (home k) s left 0 ne in
            let old = x.sound s (λ z. named (same ∙ z)) (λ z. here' (same ∙ z)) in
            let cell : get_or slots s 0 - 1 ≢ p = λ e. ne (sym old.1 ∙ ap (λ i. home (at i)) e ∙ ap home is) in
            let key : at' (get_or (set slots (home k) left) s 0 - 1) ≡ at (get_or slots s 0 - 1) = ap (λ n. at' (n - 1)) same ∙ others (get_or slots s 0 - 1) cell in
            ((λ z. old.0 (sym key ∙ z)), ap home key ∙ old.1));
        listed = λ j h. keeps _ (unlisted j h) (x.listed j h);
        ascending = λ j l lt h. (let a = others _ (unlisted j (omega arith)) in let b = others _ (unlisted l h) in let less = x.ascending j l lt h in omega arith);
        apart = λ j h.
            let i : ℕ = get_or rest j 0 in
            let ne : i ≢ p = unlisted j h in
            by_eq (home (at' i)) (home k)
            (λ same e. (let fits = x.small i (x.listed j h) in let now : vacated (at' i) ≡ left = slot_same hash bits slots k left (home-lt k) (at' i) same in absurd (omega arith)))
            (λ apart e. x.apart j h (sym (slot_other hash bits slots k left (home-lt k) (at' i) apart ∙ ap slot (others i ne)) ∙ e));
      }
        where
          unlisted : (j : ℕ) → j < length rest → get_or rest j 0 ≢ p
          unlisted j h e = x.apart j h (ap (λ i. slot (at i)) e ∙ ap slot is ∙ named_p ∙ ap (λ n. n + 1) (sym e))

      -- it leaves the cell p, which the list has
      pub leaves_list : (r : ℕ) → slot_of hash bits slots k ≢ p + 1 → r < length rest → at (get_or rest r 0) ≡ k → IsIndexed hash bits at' slots (remove rest r)
      leaves_list r unnamed lt key = record {
        hashes = x.hashes;
        some = x.some;
        few = x.few;
        sized = x.sized;
        small = small_left;
        named = λ i used missed.
            let ne = stays i used in
            let same : slot (at' i) ≡ slot (at i) = ap slot (others i ne) in
            let l = x.named i (kept i ne used) (λ e. missed (same ∙ e)) in
            ((λ z. l.0 (sym same ∙ z)), lists-remove rest r i lt (λ e. ne (sym e ∙ place)) l.1);
        sound = λ s named here'.
            let old = x.sound s named here' in
            let cell : get_or slots s 0 - 1 ≢ p = λ e.
            let at_home : s ≡ home k = sym old.1 ∙ ap (λ i. home (at i)) e ∙ ap home is in
            unnamed (ap (λ h. get_or slots h 0) (sym at_home) ∙ omega arith) in
            let same = others (get_or slots s 0 - 1) cell in
            ((λ z. old.0 (sym same ∙ z)), ap home same ∙ old.1);
        listed = remove_each (λ i. at' i ≢ 0) rest r lt (λ j h ne. keeps _ (elsewhere j h ne) (x.listed j h));
        ascending = ascends;
        apart = remove_each (λ i. slot (at' i) ≢ i + 1) rest r lt (λ j h ne e. x.apart j h (ap slot (sym (others _ (elsewhere j h ne))) ∙ e));
      }
        where
          -- where the list has it
          where_p : Lists rest p
          where_p = (x.named p used_p (λ e. unnamed (ap slot (sym is) ∙ e))).1

          place : get_or rest r 0 ≡ p
          place = ap (λ j. get_or rest j 0) (one_place r where_p.0 lt where_p.1 (key ∙ sym is ∙ ap at (sym where_p.2))) ∙ where_p.2

          elsewhere : (j : ℕ) → j < length rest → j ≢ r → get_or rest j 0 ≢ p
          elsewhere j h ne e = ne (one_place j r h lt (ap at (e ∙ sym place)))

          below : (j : ℕ) → j < r → at' (get_or (remove rest r) j 0) ≡ at (get_or rest j 0)
          below j lt' = ap at' (get_or-remove_below rest r 0 j lt' lt) ∙ others _ (elsewhere j (omega arith) (λ e. absurd (omega arith)))

          above : (j : ℕ) → r ≤ j → j < length (remove rest r) → at' (get_or (remove rest r) j 0) ≡ at (get_or rest (j + 1) 0)
          above j ge h =
              let long = length-remove rest r lt in
              ap at' (get_or-remove_above rest r 0 j ge lt) ∙ others _ (elsewhere (j + 1) (omega arith) (λ e. absurd (omega arith)))

          ascends : (j l : ℕ) → j < l → l < length (remove rest r) → at' (get_or (remove rest r) j 0) < at' (get_or (remove rest r) l 0)
          ascends j l lt' h =
              let long = length-remove rest r lt in
              by_lt l r
              (λ lr. (let a = below j (omega arith) in let b = below l lr in let less = x.ascending j l lt' (omega arith) in omega arith))
              (λ lr.
              let b = above l lr h in
              by_lt j r
              (λ jr. (let a = below j jr in let less = x.ascending j (l + 1) (omega arith) (omega arith) in omega arith))
              (λ jr. (let a = above j jr (omega arith) in let less = x.ascending (j + 1) (l + 1) (omega arith) (omega arith) in omega arith)))

-- ---- the rank of a key in the list

module _ (at : ℕ → ℕ) (rest : List ℕ) (k : ℕ) where
  pub halves-all : Halves at rest k 0 (length rest)
  halves-all = record { ordered = omega arith; within = omega arith; below = λ j h. absurd (omega arith); from = λ j h lt. absurd (omega arith) }

  pub halves-up : (low high m : ℕ) → Ascends at rest → Halves at rest k low high → low ≤ m → m < high → at (get_or rest m 0) < k → Halves at rest k (m + 1) high
  halves-up low high m ascends x from_low to_high less = record {
    ordered = omega arith;
    within = x.within;
    below = λ j h. by_eq j m (λ e. subst (λ i. at (get_or rest i 0) < k) (sym e) less) (λ ne. (let up = ascends j m (omega arith) (omega (arith, x.within)) in omega arith));
    from = x.from;
  }

  pub halves-down : (low high m : ℕ) → Ascends at rest → Halves at rest k low high → low ≤ m → m < high → k ≤ at (get_or rest m 0) → Halves at rest k low m
  halves-down low high m ascends x from_low to_high more = record {
    ordered = from_low;
    within = omega (arith, x.within);
    below = x.below;
    from = λ j h lt. by_eq j m (λ e. subst (λ i. k ≤ at (get_or rest i 0)) (sym e) more) (λ ne. (let up = ascends m j (omega arith) lt in omega arith));
  }

  -- the key stands at its rank or nowhere
  pub rank_absent : (r : ℕ) → Ascends at rest → Halves at rest k r r → (r < length rest → at (get_or rest r 0) ≢ k) → (j : ℕ) → j < length rest → at (get_or rest j 0) ≢ k
  rank_absent r ascends x none j h e =
      by_lt j r
      (λ lt. (let less = x.below j lt in absurd (omega arith)))
      (λ ge.
      by_eq j r
      (λ same. none (omega arith) (ap (λ i. at (get_or rest i 0)) (sym same) ∙ e))
      (λ ne. (let least = x.from r (omega arith) (omega arith) in let up = ascends r j (omega arith) h in absurd (omega arith))))

-- ---- how many cells are named

pub more_slots : (slots rest : List ℕ) (h v : ℕ) → h < length slots → is_taken (get_or slots h 0) ≡ false → is_taken v ≡ true → named_by (set slots h v) rest ≡ named_by slots rest + 1
more_slots slots rest h v within before after =
    let all = count-set is_taken slots h v 0 within in
    let none : cond {A = ℕ} (is_taken (get_or slots h 0)) 1 0 ≡ 0 = ap (λ b. cond {A = ℕ} b 1 0) before in
    let one : cond {A = ℕ} (is_taken v) 1 0 ≡ 1 = ap (λ b. cond {A = ℕ} b 1 0) after in
    omega arith

pub less_slots : (slots rest : List ℕ) (h v : ℕ) → h < length slots → is_taken (get_or slots h 0) ≡ true → is_taken v ≡ false → named_by (set slots h v) rest + 1 ≡ named_by slots rest
less_slots slots rest h v within before after =
    let all = count-set is_taken slots h v 0 within in
    let one : cond {A = ℕ} (is_taken (get_or slots h 0)) 1 0 ≡ 1 = ap (λ b. cond {A = ℕ} b 1 0) before in
    let none : cond {A = ℕ} (is_taken v) 1 0 ≡ 0 = ap (λ b. cond {A = ℕ} b 1 0) after in
    omega arith

-- ---- no cell is named

none_taken : (n : ℕ) → count_by is_taken (replicate n 0) ≡ 0
none_taken zero = refl
none_taken (suc n) =
    let rest = none_taken n in
    let all = sum_by-cons (λ s. cond {A = ℕ} (is_taken s) 1 0) 0 (replicate n 0) in
    let zero_slot : cond {A = ℕ} (is_taken 0) 1 0 ≡ 0 = ap (λ b. cond {A = ℕ} b 1 0) not_zero in
    omega arith

pub named-blank : (bits : ℕ) (slots rest : List ℕ) → IsBlank bits slots rest → named_by slots rest ≡ 0
named-blank bits slots rest blank = (let a = ap (count_by is_taken) blank.slots ∙ none_taken (2 ^ bits) in let b = ap length blank.rest in omega arith)

pub indexed-blank : (hash : ℕ → ℕ) (bits : ℕ) (at : ℕ → ℕ) (slots rest : List ℕ) → ((k : ℕ) → hash k < 2 ^ 64) → IsBlank bits slots rest → ((i : ℕ) → at i ≡ 0) → IsIndexed hash bits at slots rest
indexed-blank hash bits at slots rest hashes blank none =
    let no_rest = ap length blank.rest in
    let no_slot : (s : ℕ) → get_or slots s 0 ≡ 0 = λ s. ap (λ (xs : List ℕ). get_or xs s 0) blank.slots ∙ get_or-zeros (2 ^ bits) s in
    record {
      hashes = hashes;
      some = blank.some;
      few = blank.few;
      sized = ap length blank.slots ∙ length-replicate (2 ^ bits) 0;
      small = λ i used. absurd (used (none i));
      named = λ i used missed. absurd (used (none i));
      sound = λ s named here. absurd (named (no_slot s));
      listed = λ j h. absurd (omega arith);
      ascending = λ j l lt h. absurd (omega arith);
      apart = λ j h. absurd (omega arith);
    }
