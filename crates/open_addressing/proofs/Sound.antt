-- A map's cells with their index, as keys come and go.
use Rattle.std.proofs.Common.{◌≡◌, ◌≢◌, ℕ, zero, suc, ◌+◌, ◌-◌, ◌^◌, ◌<◌, ◌≤◌, eqb, cond, Option, None, Some, List, [], ◌∷◌, ◌++◌, length, get_or, set, replicate, refl, sym, ap, subst, ◌∙◌, arith}
use Rattle.std.proofs.lemmas.List.{get_or-set_same, get_or-set_other, get_or_past}
use Rattle.open_addressing.specs.Hashed.{key_in}
use Rattle.open_addressing.specs.Zipped.{key_of, cell_of}
use Rattle.open_addressing.specs.Indexed.{named_by, IsIndexed, IsBlank}
use Rattle.open_addressing.specs.Spare.{AreSpare, Uses}
use Rattle.open_addressing.specs.Finite.{value_at, AreCells, IsSound}
use Rattle.open_addressing.proofs.Zipped.{key_of-cell}
use Rattle.open_addressing.proofs.Finite.{put-over, put-new, cells-out, cells-none}
use Rattle.open_addressing.proofs.Indexed.{by_eq, by_lt, indexed-blank, named-blank}
use Rattle.open_addressing.proofs.FreeCells.{spare-none, spare-left}

module _ {V : Type 0} where
  -- the key in a cell that is written, and those in the others

  pub key-set : (cells : List (Option (ℕ × V))) (i : ℕ) (c : Option (ℕ × V)) → i < length cells → key_in key_of None (set cells i c) i ≡ key_of c
  key-set cells i c h = ap key_of (get_or-set_same cells i c None h)

  pub key-kept : (cells : List (Option (ℕ × V))) (i : ℕ) (c : Option (ℕ × V)) (x : ℕ) → x ≢ i → key_in key_of None (set cells i c) x ≡ key_in key_of None cells x
  key-kept cells i c x ne = ap key_of (get_or-set_other cells i x c None ne)

  -- a cell that holds a key is there
  pub key-within : (cells : List (Option (ℕ × V))) (i : ℕ) → key_in key_of None cells i ≢ 0 → i < length cells
  key-within cells i used = by_lt i (length cells) (λ h. h) (λ past. absurd (used (ap key_of (get_or_past cells i None past))))

  blank_keys : (cells : List (Option (ℕ × V))) (n i : ℕ) → cells ≡ replicate n None → key_in key_of None cells i ≡ 0
  blank_keys cells n i is = ap (λ (cs : List (Option (ℕ × V))). key_in key_of None cs i) is ∙ ap key_of (blank n i)
    where
      blank : (n i : ℕ) → get_or (replicate {A = Option (ℕ × V)} n None) i None ≡ None
      blank zero i = refl
      blank (suc n) zero = refl
      blank (suc n) (suc i) = blank n i

  -- nothing is there
  pub sound-none : (hash : ℕ → ℕ) (bits : ℕ) (slots rest : List ℕ) (fresh : ℕ) (free : List ℕ) (count room : ℕ) (cells : List (Option (ℕ × V))) → ((k : ℕ) → hash k < 2 ^ 64)
      → IsBlank bits slots rest → fresh ≡ 0 → free ≡ [] → room < 65535 → room ≤ count → cells ≡ replicate count None → IsSound hash bits slots rest fresh free 0 room cells
  sound-none hash bits slots rest fresh free count room cells hashes blank no_fresh no_free fits roomy is =
      let none : (i : ℕ) → key_in key_of None cells i ≡ 0 = λ i. blank_keys cells count i is in
      record {
        cells = cells-none room count cells roomy is;
        index = indexed-blank hash bits (key_in key_of None cells) slots rest hashes blank none;
        named = named-blank bits slots rest blank;
        spare = subst (λ n. AreSpare (key_in key_of None cells) 0 room n free) (sym no_fresh)
            (subst (λ (ns : List ℕ). AreSpare (key_in key_of None cells) 0 room 0 ns) (sym no_free) (spare-none (key_in key_of None cells) room fits none));
      }

  module _ (hash : ℕ → ℕ) (bits : ℕ) (slots rest : List ℕ) (fresh : ℕ) (free : List ℕ) (used room : ℕ) (cells : List (Option (ℕ × V)))
      (sound : IsSound hash bits slots rest fresh free used room cells) where
    -- a value is written over that of its key
    pub sound-over : (i k : ℕ) (v : V) (new : List (Option (ℕ × V))) → i < length cells → k ≢ 0 → key_in key_of None cells i ≡ k → new ≡ set cells i (cell_of k v)
        → IsSound hash bits slots rest fresh free used room new × ((q : ℕ) → q ≢ 0 → value_at new q ≡ cond (eqb k q) (Some v) (value_at cells q))
    sound-over i k v new h some same is =
        let r = put-over used room cells sound.cells i k v new h some same is in
        let key : (x : ℕ) → key_in key_of None cells x ≡ key_in key_of None new x = λ x.
        sym (ap (λ (cs : List (Option (ℕ × V))). key_in key_of None cs x) is
        ∙ by_eq x i
        (λ e. ap (key_in key_of None (set cells i (cell_of k v))) e ∙ key-set cells i (cell_of k v) h ∙ key_of-cell k v ∙ sym same ∙ ap (key_in key_of None cells) (sym e))
        (λ ne. key-kept cells i (cell_of k v) x ne)) in
        let keys : key_in key_of None cells ≡ key_in key_of None new = λ t x. key x t in (
          record {
            cells = r.0;
            index = subst (λ at. IsIndexed hash bits at slots rest) keys sound.index;
            named = sound.named;
            spare = subst (λ at. AreSpare at used room fresh free) keys sound.spare;
          },
          r.1,
        )

    -- a new key is put into a free cell
    pub sound-new : (i k : ℕ) (v : V) (new : List (Option (ℕ × V))) (bits' : ℕ) (slots' rest' : List ℕ) (fresh' : ℕ) (free' : List ℕ)
        → Uses (key_in key_of None cells) used room i fresh' free' → k ≢ 0 → ((x : ℕ) → key_in key_of None cells x ≢ k) → used < room → new ≡ set cells i (cell_of k v)
        → ((c : Option (ℕ × V)) → key_of c ≡ k → IsIndexed hash bits' (key_in key_of None (set cells i c)) slots' rest') → named_by slots' rest' ≡ named_by slots rest + 1
        → IsSound hash bits' slots' rest' fresh' free' (used + 1) room new × ((q : ℕ) → q ≢ 0 → value_at new q ≡ cond (eqb k q) (Some v) (value_at cells q))
    sound-new i k v new bits' slots' rest' fresh' free' uses some none roomy is index named =
        let h : i < length cells = omega (arith, uses.within, sound.cells.sized) in
        let c : Option (ℕ × V) = cell_of k v in
        let key : key_of c ≡ k = key_of-cell k v in
        let r = put-new used room cells sound.cells i k v new h some uses.empty (λ x _. none x) roomy is in
        let here : key_in key_of None (set cells i c) i ≡ k = key-set cells i c h ∙ key in (
          record {
            cells = r.0;
            index = subst (λ (cs : List (Option (ℕ × V))). IsIndexed hash bits' (key_in key_of None cs) slots' rest') (sym is) (index c key);
            named = omega (arith, named, sound.named);
            spare = subst (λ (cs : List (Option (ℕ × V))). AreSpare (key_in key_of None cs) (used + 1) room fresh' free') (sym is)
                (uses.left (key_in key_of None (set cells i c)) (λ z. some (sym here ∙ z)) (λ x ne. key-kept cells i c x ne));
          },
          r.1,
        )

    -- a key is taken out
    pub sound-out : (i used' : ℕ) (new : List (Option (ℕ × V))) (bits' : ℕ) (slots' rest' : List ℕ) (fresh' : ℕ) (free' : List ℕ) → i < length cells → key_in key_of None cells i ≢ 0
        → new ≡ set cells i None
        → IsIndexed hash bits' (key_in key_of None (set cells i None)) slots' rest' → named_by slots' rest' + 1 ≡ named_by slots rest → fresh' ≡ fresh → free' ≡ free ++ i ∷ [] → used' ≡ used - 1
        → IsSound hash bits' slots' rest' fresh' free' used' room new × ((q : ℕ) → q ≢ 0 → value_at new q ≡ cond (eqb (key_in key_of None cells i) q) None (value_at cells q))
    sound-out i used' new bits' slots' rest' fresh' free' h some is index named fresh_is free_is less =
        let r = cells-out used room cells sound.cells i used' h some less in
        let gone : key_in key_of None (set cells i None) i ≡ 0 = key-set cells i None h in
        let spare : AreSpare (key_in key_of None (set cells i None)) used' room fresh (free ++ i ∷ []) =
        spare-left (key_in key_of None cells) used room fresh free sound.spare (key_in key_of None (set cells i None)) i used' some gone (λ x ne. key-kept cells i None x ne)
        (omega (arith, named, sound.named)) in (
          record {
            cells = subst (AreCells used' room) (sym is) r.0;
            index = subst (λ (cs : List (Option (ℕ × V))). IsIndexed hash bits' (key_in key_of None cs) slots' rest') (sym is) index;
            named = omega (arith, named, sound.named);
            spare = subst (λ (cs : List (Option (ℕ × V))). AreSpare (key_in key_of None cs) used' room fresh' free') (sym is)
                (subst (λ n. AreSpare (key_in key_of None (set cells i None)) used' room n free') (sym fresh_is)
                (subst (λ (ns : List ℕ). AreSpare (key_in key_of None (set cells i None)) used' room fresh ns) (sym free_is) spare));
          },
          λ q qs. ap (λ (cs : List (Option (ℕ × V))). value_at cs q) is ∙ r.1 q qs,
        )
