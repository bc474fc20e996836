-- Free cells, as they are used and left.
use Rattle.std.proofs.Common.{◌≡◌, ◌≢◌, ℕ, ◌+◌, ◌-◌, ◌<◌, List, [], ◌∷◌, ◌++◌, length, get_or, take, refl, sym, ap, subst, ◌∙◌, arith}
use Rattle.std.proofs.lemmas.List.{get_or-take, length-take-le, get_or_append_left, get_or_push, length_push}
use Rattle.open_addressing.specs.Spare.{AreSpare, Uses}
use Rattle.open_addressing.proofs.Indexed.{by_lt}

-- all are free
pub spare-none : (at : ℕ → ℕ) (room : ℕ) → room < 65535 → ((i : ℕ) → at i ≡ 0) → AreSpare at 0 room 0 []
spare-none at room fits none = record {
  within = omega arith;
  small = fits;
  counted = refl;
  unused = λ i h. none i;
  below = λ j h. absurd (omega arith);
  empty = λ j h. absurd (omega arith);
  apart = λ j k jn kn e. absurd (omega arith);
}

module _ (at : ℕ → ℕ) (used room fresh : ℕ) (free : List ℕ) (x : AreSpare at used room fresh free) where
  -- the cell that was left last is used again
  pub uses_left : (p : ℕ) → 0 < length free → p ≡ get_or free (length free - 1) 0 → Uses at used room p fresh (take (length free - 1) free)
  uses_left p some is =
      let last : length free - 1 < length free = omega arith in
      let short : length (take (length free - 1) free) ≡ length free - 1 = length-take-le (length free - 1) free (omega arith) in
      let low : p < fresh = subst (λ n. n < fresh) (sym is) (x.below (length free - 1) last) in
      record {
        within = omega (arith, x.within);
        empty = ap at is ∙ x.empty (length free - 1) last;
        left = λ at' here others.
            let one : (j : ℕ) → j < length free - 1 → get_or (take (length free - 1) free) j 0 ≡ get_or free j 0 = λ j h. get_or-take (length free - 1) free j 0 h in
            let other : (j : ℕ) → j < length free - 1 → get_or free j 0 ≢ p = λ j h e. (let same = x.apart j (length free - 1) (omega arith) last (e ∙ is) in absurd (omega arith)) in
            record {
              within = x.within;
              small = x.small;
              counted = omega (arith, x.counted);
              unused = λ i h. others i (λ e. absurd (omega arith)) ∙ x.unused i h;
              below = λ j h. subst (λ n. n < fresh) (sym (one j (omega arith))) (x.below j (omega arith));
              empty = λ j h. ap at' (one j (omega arith)) ∙ others (get_or free j 0) (other j (omega arith)) ∙ x.empty j (omega arith);
              apart = λ j k jn kn e. x.apart j k (omega arith) (omega arith) (sym (one j (omega arith)) ∙ e ∙ one k (omega arith));
            };
      }

  -- the first cell that was never used is used
  pub uses_fresh : length free ≡ 0 → used < room → Uses at used room fresh (fresh + 1) free
  uses_fresh none roomy = record {
    within = omega (arith, x.counted);
    empty = x.unused fresh (omega arith);
    left = λ at' here others. record {
      within = omega (arith, x.counted);
      small = x.small;
      counted = omega (arith, x.counted);
      unused = λ i h. others i (λ e. absurd (omega arith)) ∙ x.unused i (omega arith);
      below = λ j h. absurd (omega arith);
      empty = λ j h. absurd (omega arith);
      apart = λ j k jn kn e. absurd (omega arith);
    };
  }

  -- a used cell is left
  pub spare-left : (at' : ℕ → ℕ) (p used' : ℕ) → at p ≢ 0 → at' p ≡ 0 → ((i : ℕ) → i ≢ p → at' i ≡ at i) → used' + 1 ≡ used → AreSpare at' used' room fresh (free ++ p ∷ [])
  spare-left at' p used' was gone others less =
      let long = length_push free p in
      let low : p < fresh = by_lt p fresh (λ h. h) (λ h. absurd (was (x.unused p h))) in
      let before : (j : ℕ) → j < length free → get_or (free ++ p ∷ []) j 0 ≡ get_or free j 0 = λ j h. get_or_append_left free (p ∷ []) 0 j h in
      let at_end : (j : ℕ) → j ≡ length free → get_or (free ++ p ∷ []) j 0 ≡ p = λ j e. get_or_push free p 0 j (sym e) in
      let other : (j : ℕ) → j < length free → get_or free j 0 ≢ p = λ j h e. was (ap at (sym e) ∙ x.empty j h) in
      record {
        within = x.within;
        small = x.small;
        counted = omega (arith, x.counted);
        unused = λ i h. others i (λ e. absurd (omega arith)) ∙ x.unused i h;
        below = λ j h. by_lt j (length free)
            (λ lt. subst (λ n. n < fresh) (sym (before j lt)) (x.below j lt))
            (λ ge. subst (λ n. n < fresh) (sym (at_end j (omega arith))) low);
        empty = λ j h. by_lt j (length free)
            (λ lt. ap at' (before j lt) ∙ others (get_or free j 0) (other j lt) ∙ x.empty j lt)
            (λ ge. ap at' (at_end j (omega arith)) ∙ gone);
        apart = λ j k jn kn e.
            by_lt j (length free)
            (λ lt. by_lt k (length free)
            (λ lt'. x.apart j k lt lt' (sym (before j lt) ∙ e ∙ before k lt'))
            (λ ge. absurd (other j lt (sym (before j lt) ∙ e ∙ at_end k (omega arith)))))
            (λ ge. by_lt k (length free)
            (λ lt'. absurd (other k lt' (sym (before k lt') ∙ sym e ∙ at_end j (omega arith))))
            (λ ge'. omega arith));
      }
