-- The last deferred change of an address entry, and what the table has at its key.
use Rattle.std.proofs.Common.{◌≡◌, ℕ, zero, suc, ◌+◌, Bool, true, false, T, not, cond, Some, None, Option, List, []}
use Rattle.std.proofs.Common.{◌∷◌, ◌++◌, map, slice_get, ◌⊎◌, inl, inr, refl, sym, ap, subst, ◌∙◌, append_assoc, append-nil, ⊎_elim, arith}
use Rattle.std.specs.List.{filter, fold, enumerate_from, last_or}
use Rattle.std.specs.Option.{option_and_then}
use Rattle.std.specs.Ordering.{eq_by_cmp}
use Rattle.std.specs.FinMap.Entries.{is_sorted, is_sorted-put, is_sorted-where_key, find-put, find-where_key}
use Rattle.std.proofs.lemmas.List.{map-append}
use Rattle.std.proofs.lemmas.List.Elements.{filter-append}
use Rattle.std.proofs.lemmas.List.Sums.{fold_push}
use Rattle.br_model.specs.declared.change.Change.{Change}
use Rattle.br_model.specs.declared.change.Change.TheVariants.{AddrPut, AddrDel}
use Rattle.br_model.specs.declared.change.Kind.{Kind}
use Rattle.br_model.specs.declared.change.Update.{Update}
use Rattle.br_model.specs.declared.domains.Edition.{Edition}
use Rattle.br_model.specs.Data.Maps.{pair_cmp, get}
use Rattle.br_model.specs.Table.Change.{address_part, deferred, updates}
use Rattle.br_model.specs.Table.Cut.{deferred_at, deferred_count, deferred_of, under_ticket}
use Rattle.br_model.specs.Table.Table.{Table, apply, start, table}
use Rattle.br_model.proofs.Table.Cuts.{updates-named}
use Rattle.br_model.proofs.Plane.Growing.{enumerate-append}
use Rattle.br_model.proofs.Data.PairKeys.{pair_total, same_cmp}
use Rattle.br_model.proofs.Data.Lists.{last-push}
use Rattle.neigh_netlink.specs.Neighbours.{Key}
use Rattle.neigh_netlink.specs.Offloaded.{is_of_key, last_update, put_by}
use Rattle.neigh_netlink.proofs.Mapped.{eq-turned}

-- by a change more at a time
pub by-changes : (P : List Change → Type 0) → P [] → ((h : List Change) (c : Change) → P h → P (h ++ c ∷ [])) → (h : List Change) → P h
by-changes P first next h = go [] h first
  where
    go : (before h : List Change) → P before → P (before ++ h)
    go before [] p = subst P (sym (append-nil before)) p
    go before (c ∷ h) p = subst P (append_assoc before (c ∷ []) h) (go (before ++ c ∷ []) h (next before c p))

-- A change acts on the entry that it is of.

-- what it puts at its address
abbrev pub puts : Change → Option (ℕ × Kind)
puts c = option_and_then (λ p. p.1) (address_part c)

pub get-apply : (t : Table) (c : Change) (q : Key) → get pair_cmp (apply t c).addr q ≡ cond (is_of_key q c) (puts c) (get pair_cmp t.addr q)
get-apply t (AddrPut v a p kind) q = find-put pair_cmp pair_total q (v, a) (p, kind) t.addr
get-apply t (AddrDel v a) q =
    find-where_key pair_cmp (λ k. not (eq_by_cmp pair_cmp (v, a) k)) q (λ x tie. ap (λ k. not (eq_by_cmp pair_cmp (v, a) k)) (sym (same_cmp q x tie))) t.addr
    ∙ ap (λ b. cond (not b) (get pair_cmp t.addr q) None) (eq-turned q (v, a))
    ∙ flipped (eq_by_cmp pair_cmp q (v, a))
  where
    flipped : (b : Bool) → cond (not b) (get pair_cmp t.addr q) None ≡ cond b None (get pair_cmp t.addr q)
    flipped true = refl
    flipped false = refl
get-apply t c q = refl

pub ascends : (t : Table) (c : Change) → T (is_sorted pair_cmp t.addr) → T (is_sorted pair_cmp (apply t c).addr)
ascends t (AddrPut v a p kind) h = is_sorted-put pair_cmp pair_total (v, a) (p, kind) t.addr h
ascends t (AddrDel v a) h = is_sorted-where_key pair_cmp (λ q. not (eq_by_cmp pair_cmp (v, a) q)) t.addr h
ascends t c h = h

pub all-ascend : (t : Table) (cs : List Change) → T (is_sorted pair_cmp t.addr) → T (is_sorted pair_cmp (fold apply t cs).addr)
all-ascend t [] h = h
all-ascend t (c ∷ cs) h = all-ascend (apply t c) cs (ascends t c h)

-- what reaches a chip at once is of no entry
pub synchronous-other : (edition : Edition) (q : Key) (c : Change) → deferred edition c ≡ false → is_of_key q c ≡ false
synchronous-other edition q (AddrPut v a p kind) h = absurd (cc)
synchronous-other edition q (AddrDel v a) h = absurd (cc)
synchronous-other edition q c h = refl

-- A history with a change more.

module _ (edition : Edition) where
  update : ℕ × Change → Update
  update x = under_ticket x.0 x.1

  updates-push : (h : List Change) (c : Change) → updates edition (h ++ c ∷ []) ≡ updates edition h ++ cond (deferred edition c) (under_ticket (deferred_count edition h) c ∷ []) []
  unfolding update
  updates-push h c =
      ap (λ l. map update (enumerate_from 0 l)) (filter-append (deferred edition) h (c ∷ []))
      ∙ ap (map update) (enumerate-append 0 (deferred_of edition h) (filter (deferred edition) (c ∷ [])))
      ∙ map-append update (enumerate_from 0 (deferred_of edition h)) _
      ∙ ap (λ (l : List Update). updates edition h ++ l) (by (deferred edition c))
    where
      by : (b : Bool) → map update (enumerate_from (0 + deferred_count edition h) (cond b (c ∷ []) [])) ≡ cond b (under_ticket (deferred_count edition h) c ∷ []) []
      by true = let e : 0 + deferred_count edition h ≡ deferred_count edition h = omega arith in ap (λ n. under_ticket n c ∷ []) e
      by false = refl

  pub last_update-push : (h : List Change) (c : Change) (q : Key)
      → last_update edition (h ++ c ∷ []) q ≡ cond (is_of_key q c) (Some (under_ticket (deferred_count edition h) c)) (last_update edition h q)
  last_update-push h c q = ap (λ l. last_or None (filter is_its l)) (updates-push h c) ∙ by (deferred edition c) refl
    where
      is_its : Update → Bool
      is_its u = is_of_key q u.change

      its : (b : Bool) → last_or None (filter is_its (updates edition h) ++ cond b (under_ticket (deferred_count edition h) c ∷ []) [])
          ≡ cond b (Some (under_ticket (deferred_count edition h) c)) (last_or None (filter is_its (updates edition h)))
      its true = last-push None (under_ticket (deferred_count edition h) c) (filter is_its (updates edition h))
      its false = ap (last_or None) (append-nil (filter is_its (updates edition h)))

      by : (b : Bool) → deferred edition c ≡ b → last_or None (filter is_its (updates edition h ++ cond b (under_ticket (deferred_count edition h) c ∷ []) []))
          ≡ cond (is_of_key q c) (Some (under_ticket (deferred_count edition h) c)) (last_update edition h q)
      by true late =
          ap (last_or None) (filter-append is_its (updates edition h) (under_ticket (deferred_count edition h) c ∷ [])) ∙ its (is_of_key q c)
      by false now =
          ap (λ l. last_or None (filter is_its l)) (append-nil (updates edition h))
          ∙ sym (ap (λ b. cond b (Some (under_ticket (deferred_count edition h) c)) (last_update edition h q)) (synchronous-other edition q c now))

  -- the last one is an update of the history, and of the entry
  last-found : (p : Update → Bool) (us : List Update) (o : Option Update) (u : Update) → last_or o (filter p us) ≡ Some u
      → (o ≡ Some u) ⊎ ((k : ℕ) × (slice_get us k ≡ Some u) × (p u ≡ true))
  last-found p [] o u h = inl h
  last-found p (x ∷ us) o u h = by (last-found p us) (p x) refl h
    where
      later : (k : ℕ) × (slice_get us k ≡ Some u) × (p u ≡ true) → (k : ℕ) × (slice_get (x ∷ us) k ≡ Some u) × (p u ≡ true)
      later f = (suc f.0, f.1, f.2)

      by : ((o : Option Update) (u : Update) → last_or o (filter p us) ≡ Some u → (o ≡ Some u) ⊎ ((k : ℕ) × (slice_get us k ≡ Some u) × (p u ≡ true)))
          → (b : Bool) → p x ≡ b → last_or o (cond b (x ∷ filter p us) (filter p us)) ≡ Some u → (o ≡ Some u) ⊎ ((k : ℕ) × (slice_get (x ∷ us) k ≡ Some u) × (p u ≡ true))
      by rest true is h = ⊎_elim
          (λ (e : Some x ≡ Some u). let same : x ≡ u = cc in inr (zero, e, ap p (sym same) ∙ is))
          (λ (f : (k : ℕ) × (slice_get us k ≡ Some u) × (p u ≡ true)). inr (later f))
          (rest (Some x) u h)
      by rest false is h = ⊎_elim
          (λ (e : o ≡ Some u). inl e)
          (λ (f : (k : ℕ) × (slice_get us k ≡ Some u) × (p u ≡ true)). inr (later f))
          (rest o u h)

  pub update-there : (h : List Change) (q : Key) (u : Update) → last_update edition h q ≡ Some u → (deferred_at edition h u.ticket ≡ Some u.change) × (is_of_key q u.change ≡ true)
  update-there h q u e = ⊎_elim
      (λ (none : None ≡ Some u). absurd (cc))
      (λ (f : (k : ℕ) × (slice_get (updates edition h) k ≡ Some u) × (is_of_key q u.change ≡ true)).
      let named = updates-named edition h f.0 u f.1 in
      (subst (λ k. deferred_at edition h k ≡ Some u.change) (sym named.0) named.1, f.2))
      (last-found (λ u. is_of_key q u.change) (updates edition h) None u e)

  -- the table has at a key what the last deferred change of it puts
  pub get-table : (h : List Change) (q : Key) → get pair_cmp (table h).addr q ≡ option_and_then put_by (last_update edition h q)
  get-table h q = by-changes (λ h. get pair_cmp (table h).addr q ≡ option_and_then put_by (last_update edition h q)) refl next h
    where
      next : (h : List Change) (c : Change) → get pair_cmp (table h).addr q ≡ option_and_then put_by (last_update edition h q)
          → get pair_cmp (table (h ++ c ∷ [])).addr q ≡ option_and_then put_by (last_update edition (h ++ c ∷ []) q)
      next h c e =
          ap (λ (t : Table). get pair_cmp t.addr q) (fold_push apply start h c)
          ∙ get-apply (table h) c q
          ∙ by (is_of_key q c)
          ∙ ap (option_and_then put_by) (sym (last_update-push h c q))
        where
          by : (b : Bool) → cond b (puts c) (get pair_cmp (table h).addr q)
              ≡ option_and_then put_by (cond b (Some (under_ticket (deferred_count edition h) c)) (last_update edition h q))
          by true = refl
          by false = e

pub get-push : (h : List Change) (c : Change) (q : Key) → get pair_cmp (table (h ++ c ∷ [])).addr q ≡ cond (is_of_key q c) (puts c) (get pair_cmp (table h).addr q)
get-push h c q = ap (λ (t : Table). get pair_cmp t.addr q) (fold_push apply start h c) ∙ get-apply (table h) c q
