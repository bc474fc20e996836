-- The messages of a run come to the address entries of its table, each with whether a chip has it.
use Rattle.std.proofs.Common.{◌≡◌, ℕ, ◌+◌, ◌<◌, ◌≤◌, Bool, true, false, T, not, cond, ◌&&◌, Some, None, Option, List}
use Rattle.std.proofs.Common.{[], ◌∷◌, ◌++◌, length, drop, take, refl, sym, ap, subst, ◌∙◌, append_assoc, append-nil, ⊎_elim, arith}
use Rattle.std.specs.Prelude.{if◌then◌else◌, nat_lt, ◌==◌}
use Rattle.std.specs.List.{fold, list_any}
use Rattle.std.specs.Option.{is_some, option_and_then, option_eq, option_map, option_map_or, option_to_list}
use Rattle.std.specs.Cmp.{second_so}
use Rattle.std.specs.Ordering.{eq_by_cmp}
use Rattle.std.specs.FinMap.Entries.{is_sorted, is_sorted-put, is_sorted-where_key, find-put, find-where_key, same_entries}
use Rattle.std.proofs.lemmas.Bool.{cases_lt, eqb-true, eqb-false, ne_eqb, lt-ltb, le-ltb}
use Rattle.std.proofs.lemmas.List.{length-take}
use Rattle.std.proofs.lemmas.List.Sums.{fold-append}
use Rattle.std.proofs.lemmas.Option.{same_Some}
use Rattle.lemmas.proofs.Lists.{drop-length}
use Rattle.lemmas.proofs.Tests.{and-false}
use Rattle.br_model.specs.declared.change.Change.{Change}
use Rattle.br_model.specs.declared.change.Kind.{Kind}
use Rattle.br_model.specs.declared.change.Update.{Update}
use Rattle.br_model.specs.declared.domains.Edition.{Edition}
use Rattle.br_model.specs.declared.steps.Step.{Step}
use Rattle.br_model.specs.declared.steps.Step.TheVariants.{Turn}
use Rattle.br_model.specs.Data.Maps.{pair_cmp, get, put, without}
use Rattle.br_model.specs.Plane.Chip.{Chip, applies, chip_in, put_chip}
use Rattle.br_model.specs.Plane.ChipSteps.{turns, turns_to}
use Rattle.br_model.specs.Plane.Entering.{chip_of}
use Rattle.br_model.specs.Plane.Runs.{run, then_step}
use Rattle.br_model.specs.Plane.Steps.{world_step}
use Rattle.br_model.specs.Plane.World.{World, Stepped, chip_at, first_world, next_of, with_chip}
use Rattle.br_model.specs.Table.Change.{address_part}
use Rattle.br_model.specs.Table.Cut.{cut, deferred_at, deferred_count, deferred_of, synchronous_of, under_ticket}
use Rattle.br_model.specs.Table.DomainPorts.{is_in_domain}
use Rattle.br_model.specs.Table.Domains.{domain_of, chip_domains}
use Rattle.br_model.specs.Table.Setup.{Setup}
use Rattle.br_model.specs.Table.Table.{start, table}
use Rattle.br_model.specs.Theorems.Applied.{applied_in, synchronous_in}
use Rattle.br_model.specs.Theorems.Invariants.{IsWorld}
use Rattle.br_model.proofs.Plane.Applying.{deferred_count-append, once_after_accept}
use Rattle.br_model.proofs.Table.Cuts.{deferred_of-cut, synchronous_of-cut}
use Rattle.br_model.proofs.Data.PairKeys.{pair_total, same_cmp}
use Rattle.br_model.proofs.Plane.Applied.{Applies, AppliesAt, step-applies, step-setup}
use Rattle.br_model.proofs.Plane.Chips.{chip-own, chip-there, put-same, put-other}
use Rattle.br_model.proofs.Plane.Kept.{ChipKeeps, chip-stands, first-world, hit_by-keeps, step-world}
use Rattle.br_model.proofs.Plane.Stays.{step-accepts}
use Rattle.neigh_netlink.specs.declared.entries.Entry.{Entry}
use Rattle.neigh_netlink.specs.declared.neigh.Neigh.{Neigh}
use Rattle.neigh_netlink.specs.Neighbours.{Key, Neighbours, addresses, after_message, table_of}
use Rattle.neigh_netlink.specs.Monitor.{accepted, entry_message, is_last, message_of, messages, messages_in, messages_of, monitors, offload_message, offloads, put_message, turned}
use Rattle.neigh_netlink.specs.Offloaded.{applied_at, entries_of, is_of_key, last_update, offloaded, put_by, puts_among}
use Rattle.neigh_netlink.proofs.LastUpdates.{all-ascend, get-push, get-table, last_update-push, puts, update-there}
use Rattle.neigh_netlink.proofs.Mapped.{ascending-mapped, eq-turned, get-mapped, map-same, mapped, same-key}

abbrev Places : Type 0
Places = List (Key × (ℕ × Kind))

-- the entry of a place where the chips of ports have applied so many deferred changes
abbrev entry_at : Edition → List Change → (ℕ → Option ℕ) → Key → ℕ × Kind → Entry
entry_at edition h counts q x = record { port = x.0; kind = x.1; offload = option_map_or (λ k. offloaded edition h k q) (counts x.0) false }

-- the entries are those of the history's table
abbrev Tells : Edition → List Change → (ℕ → Option ℕ) → Neighbours → Type 0
Tells edition h counts t = (q : Key) → get pair_cmp t q ≡ option_map (entry_at edition h counts q) (get pair_cmp (table h).addr q)

-- the entries after a message, if there is one
abbrev taken : Neighbours → Option Neigh → Neighbours
taken t m = fold after_message t (option_to_list m)

-- A change is accepted.

-- an entry that no chip has yet
abbrev fresh : ℕ × Kind → Entry
fresh x = record { port = x.0; kind = x.1; offload = false }

abbrev is_of_part : Key → Option (Key × Option (ℕ × Kind)) → Bool
is_of_part q part = option_map_or (λ p. eq_by_cmp pair_cmp q p.0) part false

module _ (ticket : ℕ) (m : Places) (t : Neighbours) (none : (q : Key) → get pair_cmp m q ≡ None → get pair_cmp t q ≡ None) where
  gone-get : (k q : Key) (there : Option (ℕ × Kind)) → get pair_cmp m k ≡ there
      → get pair_cmp (taken t (entry_message ticket k there None)) q ≡ cond (eq_by_cmp pair_cmp q k) None (get pair_cmp t q)
  gone-get k q None is = by (eq_by_cmp pair_cmp q k) refl
    where
      by : (b : Bool) → eq_by_cmp pair_cmp q k ≡ b → get pair_cmp t q ≡ cond b None (get pair_cmp t q)
      by true same = none q (ap (get pair_cmp m) (same-key q k same) ∙ is)
      by false other = refl
  gone-get k q (Some x) is =
      find-where_key pair_cmp (λ p. not (eq_by_cmp pair_cmp k p)) q (λ p tie. ap (λ r. not (eq_by_cmp pair_cmp k r)) (sym (same_cmp q p tie))) t
      ∙ ap (λ b. cond (not b) (get pair_cmp t q) None) (eq-turned q k)
      ∙ flipped (eq_by_cmp pair_cmp q k)
    where
      flipped : (b : Bool) → cond (not b) (get pair_cmp t q) None ≡ cond b None (get pair_cmp t q)
      flipped true = refl
      flipped false = refl

  entry-get : (k q : Key) (e : Option (ℕ × Kind))
      → get pair_cmp (taken t (entry_message ticket k (get pair_cmp m k) e)) q ≡ cond (eq_by_cmp pair_cmp q k) (option_map fresh e) (get pair_cmp t q)
  entry-get k q (Some x) = find-put pair_cmp pair_total q k (fresh x) t
  entry-get k q None = gone-get k q (get pair_cmp m k) refl

  part-get : (part : Option (Key × Option (ℕ × Kind))) (q : Key)
      → get pair_cmp (taken t (option_and_then (λ p. entry_message ticket p.0 (get pair_cmp m p.0) p.1) part)) q
      ≡ cond (is_of_part q part) (option_map fresh (option_and_then (λ p. p.1) part)) (get pair_cmp t q)
  part-get None q = refl
  part-get (Some p) q = entry-get p.0 q p.1

-- no chip has applied more than was accepted
abbrev Bounds : Edition → List Change → (ℕ → Option ℕ) → Type 0
Bounds edition h counts = (p k : ℕ) → counts p ≡ Some k → k ≤ deferred_count edition h

module _ (edition : Edition) (counts : ℕ → Option ℕ) where
  change-tells : (h : List Change) (c : Change) (t : Neighbours) → Bounds edition h counts → Tells edition h counts t
      → Tells edition (h ++ c ∷ []) counts (taken t (message_of edition h c))
  change-tells h c t bounds tells q =
      part-get (deferred_count edition h) (table h).addr t (λ k e. tells k ∙ ap (option_map (entry_at edition h counts k)) e) (address_part c) q
      ∙ by (is_of_key q c) refl
      ∙ ap (option_map (entry_at edition (h ++ c ∷ []) counts q)) (sym (get-push h c q))
    where
      -- the chip hasn't applied what was accepted just now
      new : is_of_key q c ≡ true → (k : Option ℕ) → ((n : ℕ) → k ≡ Some n → n ≤ deferred_count edition h) → false ≡ option_map_or (λ n. offloaded edition (h ++ c ∷ []) n q) k false
      new its None bound = refl
      new its (Some n) bound =
          let last : last_update edition (h ++ c ∷ []) q ≡ Some (under_ticket (deferred_count edition h) c) =
          last_update-push edition h c q ∙ ap (λ b. cond b (Some (under_ticket (deferred_count edition h) c)) (last_update edition h q)) its in
          let late : nat_lt (deferred_count edition h) n ≡ false = le-ltb (deferred_count edition h) n (bound n refl) in
          sym (ap (λ o. option_map_or (puts_among n) o false) last ∙ ap (λ b. is_some (put_by (under_ticket (deferred_count edition h) c)) && b) late ∙ and-false (is_some (puts c)))

      old : is_of_key q c ≡ false → last_update edition h q ≡ last_update edition (h ++ c ∷ []) q
      old other = sym (last_update-push edition h c q ∙ ap (λ b. cond b (Some (under_ticket (deferred_count edition h) c)) (last_update edition h q)) other)

      by : (b : Bool) → is_of_key q c ≡ b → cond b (option_map fresh (puts c)) (get pair_cmp t q)
          ≡ option_map (entry_at edition (h ++ c ∷ []) counts q) (cond b (puts c) (get pair_cmp (table h).addr q))
      by true its = map-same fresh (entry_at edition (h ++ c ∷ []) counts q) (puts c)
          (λ x i. record { port = x.0; kind = x.1; offload = new its (counts x.0) (bounds x.0) i })
      by false other = tells q ∙ map-same (entry_at edition h counts q) (entry_at edition (h ++ c ∷ []) counts q) (get pair_cmp (table h).addr q)
          (λ x i. record { port = x.0; kind = x.1; offload = option_map_or (λ k. option_map_or (puts_among k) (old other i) false) (counts x.0) false })

  changes-tell : (cs h : List Change) (t : Neighbours) → Bounds edition h counts → Tells edition h counts t
      → Tells edition (h ++ cs) counts (fold after_message t (messages_of edition h cs))
  changes-tell [] h t bounds tells = subst (λ l. Tells edition l counts t) (sym (append-nil h)) tells
  changes-tell (c ∷ later) h t bounds tells =
      let further : Bounds edition (h ++ c ∷ []) counts = λ p k e. omega (arith, bounds p k e, deferred_count-append edition h (c ∷ [])) in
      subst (λ (l : Neighbours). Tells edition (h ++ c ∷ later) counts l) (sym (fold-append after_message t (option_to_list (message_of edition h c)) (messages_of edition (h ++ c ∷ []) later)))
      (subst (λ l. Tells edition l counts (fold after_message (taken t (message_of edition h c)) (messages_of edition (h ++ c ∷ []) later))) (append_assoc h (c ∷ []) later)
      (changes-tell later (h ++ c ∷ []) (taken t (message_of edition h c)) further (change-tells h c t bounds tells)))

-- A chip applies a deferred change.

-- a ticket that isn't this one is below the next where it is below this one
below-next : (a n : ℕ) → (a == n) ≡ false → nat_lt a (n + 1) ≡ nat_lt a n
below-next a n other = ⊎_elim
    (λ (l : a < n). let up : a < n + 1 = omega arith in lt-ltb a (n + 1) up ∙ sym (lt-ltb a n l))
    (λ (l : n ≤ a).
    let apart : (a ≡ n → ⊥) = eqb-false a n other in
    let past : n + 1 ≤ a = omega arith in
    le-ltb a (n + 1) past ∙ sym (le-ltb a n l))
    (cases_lt a n)

abbrev edition_of : World → Edition
edition_of w = w.setup.domains.edition

module _ (w : World) (chip : Chip) (old new : ℕ → Option ℕ) (c : Change) (next : next_of w chip ≡ Some c)
    (own : (p : ℕ) → is_in_domain w.setup.domains chip.dom p ≡ true → (old p ≡ Some chip.count) × (new p ≡ Some (chip.count + 1)))
    (foreign : (p : ℕ) → is_in_domain w.setup.domains chip.dom p ≡ false → new p ≡ old p)
    (t : Neighbours) (tells : Tells (edition_of w) w.history old t) where
  abbrev by_part : Option (Key × Option (ℕ × Kind)) → Neighbours
  by_part part = taken t (option_and_then (λ p. offload_message w chip p.0 p.1) part)

  -- an entry with another last change stays
  untouched : (part : Option (Key × Option (ℕ × Kind))) (q : Key) → is_last w q chip.count ≡ false → get pair_cmp (by_part part) q ≡ get pair_cmp t q
  untouched None q other = refl
  untouched (Some p) q other = by p.0 p.1
    where
      if_told : (k : Key) (e : ℕ × Kind) (b : Bool) → (is_in_domain w.setup.domains chip.dom e.0 && is_last w k chip.count) ≡ b
          → get pair_cmp (taken t (if b then Some (put_message chip.count k e true) else None)) q ≡ get pair_cmp t q
      if_told k e false off = refl
      if_told k e true on = find-put pair_cmp pair_total q k (record { port = e.0; kind = e.1; offload = true }) t ∙ apart (eq_by_cmp pair_cmp q k) refl
        where
          apart : (b : Bool) → eq_by_cmp pair_cmp q k ≡ b → cond b (Some (record { port = e.0; kind = e.1; offload = true })) (get pair_cmp t q) ≡ get pair_cmp t q
          apart true same =
              let its : is_last w q chip.count ≡ true = ap (λ p. is_last w p chip.count) (same-key q k same) ∙ second_so (is_in_domain w.setup.domains chip.dom e.0) _ on in
              absurd (cc)
          apart false same = refl

      by : (k : Key) (o : Option (ℕ × Kind)) → get pair_cmp (taken t (offload_message w chip k o)) q ≡ get pair_cmp t q
      by k None = refl
      by k (Some e) = if_told k e (is_in_domain w.setup.domains chip.dom e.0 && is_last w k chip.count) refl

  -- and so does what the chip of its port has of it
  same-offload : (q : Key) → is_last w q chip.count ≡ false → (p : ℕ)
      → option_map_or (λ k. offloaded (edition_of w) w.history k q) (old p) false ≡ option_map_or (λ k. offloaded (edition_of w) w.history k q) (new p) false
  same-offload q other p = by (is_in_domain w.setup.domains chip.dom p) refl
    where
      count : (o : Option Update) → option_map_or (λ u. u.ticket == chip.count) o false ≡ false → option_map_or (puts_among chip.count) o false ≡ option_map_or (puts_among (chip.count + 1)) o false
      count None e = refl
      count (Some u) e = ap (λ b. is_some (put_by u) && b) (sym (below-next u.ticket chip.count e))

      by : (b : Bool) → is_in_domain w.setup.domains chip.dom p ≡ b
          → option_map_or (λ k. offloaded (edition_of w) w.history k q) (old p) false ≡ option_map_or (λ k. offloaded (edition_of w) w.history k q) (new p) false
      by true is =
          let both = own p is in
          ap (λ o. option_map_or (λ k. offloaded (edition_of w) w.history k q) o false) both.0
          ∙ count (last_update (edition_of w) w.history q) other
          ∙ sym (ap (λ o. option_map_or (λ k. offloaded (edition_of w) w.history k q) o false) both.1)
      by false is = ap (λ o. option_map_or (λ k. offloaded (edition_of w) w.history k q) o false) (sym (foreign p is))

  -- the entry whose last change it is
  module _ (q : Key) (u : Update) (last : last_update (edition_of w) w.history q ≡ Some u) (its : (u.ticket == chip.count) ≡ true) where
    is_its : is_last w q chip.count ≡ true
    is_its = ap (λ o. option_map_or (λ u. u.ticket == chip.count) o false) last ∙ its

    in_time : nat_lt u.ticket (chip.count + 1) ≡ true
    in_time = let e : u.ticket ≡ chip.count = eqb-true u.ticket chip.count its in let up : u.ticket < chip.count + 1 = omega arith in lt-ltb u.ticket (chip.count + 1) up

    abbrev now_at : ℕ × Kind → Entry
    now_at = entry_at (edition_of w) w.history new q

    put-tells : (k : Key) (o : Option (ℕ × Kind)) → eq_by_cmp pair_cmp q k ≡ true → get pair_cmp (table w.history).addr q ≡ o → put_by u ≡ o
        → get pair_cmp (taken t (offload_message w chip k o)) q ≡ option_map now_at o
    put-tells k None same there by_u = tells q ∙ ap (option_map (entry_at (edition_of w) w.history old q)) there
    put-tells k (Some e) same there by_u = by (is_in_domain w.setup.domains chip.dom e.0) refl
      where
        had : get pair_cmp t q ≡ Some (entry_at (edition_of w) w.history old q e)
        had = tells q ∙ ap (option_map (entry_at (edition_of w) w.history old q)) there

        by : (b : Bool) → is_in_domain w.setup.domains chip.dom e.0 ≡ b
            → get pair_cmp (taken t (if b && is_last w k chip.count then Some (put_message chip.count k e true) else None)) q ≡ Some (now_at e)
        by true is =
            let of_k : is_last w k chip.count ≡ true = ap (λ p. is_last w p chip.count) (sym (same-key q k same)) ∙ is_its in
            let has : offloaded (edition_of w) w.history (chip.count + 1) q ≡ true =
            ap (λ o. option_map_or (puts_among (chip.count + 1)) o false) last ∙ (λ i. is_some (by_u i) && in_time i) in
            let flag : true ≡ option_map_or (λ n. offloaded (edition_of w) w.history n q) (new e.0) false =
            sym (ap (λ o. option_map_or (λ n. offloaded (edition_of w) w.history n q) o false) (own e.0 is).1 ∙ has) in
            ap (λ b. get pair_cmp (taken t (if b then Some (put_message chip.count k e true) else None)) q) of_k
            ∙ find-put pair_cmp pair_total q k (record { port = e.0; kind = e.1; offload = true }) t
            ∙ ap (λ b. cond b (Some (record { port = e.0; kind = e.1; offload = true })) (get pair_cmp t q)) same
            ∙ (λ i. Some (record { port = e.0; kind = e.1; offload = flag i }))
        by false is = had ∙ ap (λ o. Some (record { port = e.0; kind = e.1; offload = option_map_or (λ n. offloaded (edition_of w) w.history n q) o false })) (sym (foreign e.0 is))

    touched : (part : Option (Key × Option (ℕ × Kind))) → is_of_part q part ≡ true → option_and_then (λ p. p.1) part ≡ put_by u
        → get pair_cmp (by_part part) q ≡ option_map now_at (put_by u)
    touched None of_q same = absurd (cc)
    touched (Some p) of_q same =
        put-tells p.0 p.1 of_q (get-table (edition_of w) w.history q ∙ ap (option_and_then put_by) last ∙ sym same) (sym same) ∙ ap (option_map now_at) same

  abbrev TellsAt : Key → Type 0
  TellsAt q = get pair_cmp (taken t (offloads w chip c)) q ≡ option_map (entry_at (edition_of w) w.history new q) (get pair_cmp (table w.history).addr q)

  turn-tells : Tells (edition_of w) w.history new (taken t (offloads w chip c))
  turn-tells q = by (is_last w q chip.count) refl
    where
      its : (o : Option Update) → last_update (edition_of w) w.history q ≡ o → option_map_or (λ u. u.ticket == chip.count) o false ≡ true → TellsAt q
      its None last e = absurd (cc)
      its (Some u) last e =
          let there = update-there (edition_of w) w.history q u last in
          let same : u.change ≡ c = same_Some u.change c (sym there.0 ∙ ap (deferred_at (edition_of w) w.history) (eqb-true u.ticket chip.count e) ∙ next) in
          touched q u last e (address_part c) (ap (is_of_key q) (sym same) ∙ there.1) (ap puts (sym same))
          ∙ ap (option_map (entry_at (edition_of w) w.history new q)) (sym (get-table (edition_of w) w.history q ∙ ap (option_and_then put_by) last))

      by : (b : Bool) → is_last w q chip.count ≡ b → TellsAt q
      by true e = its (last_update (edition_of w) w.history q) refl e
      by false e =
          untouched (address_part c) q e
          ∙ tells q
          ∙ map-same (entry_at (edition_of w) w.history old q) (entry_at (edition_of w) w.history new q) (get pair_cmp (table w.history).addr q)
          (λ x i. record { port = x.0; kind = x.1; offload = same-offload q e x.0 i })

-- The world's own counts.

abbrev TellsWorld : World → Neighbours → Type 0
TellsWorld w t = Tells w.setup.domains.edition w.history (applied_at w) t

counts-tell : (edition : Edition) (h : List Change) (old new : ℕ → Option ℕ) (t : Neighbours) → ((p : ℕ) → new p ≡ old p) → Tells edition h old t → Tells edition h new t
counts-tell edition h old new t same tells q =
    tells q
    ∙ map-same (entry_at edition h old q) (entry_at edition h new q) (get pair_cmp (table h).addr q)
    (λ x. ap (λ (o : Option ℕ). record { port = x.0; kind = x.1; offload = option_map_or (λ k. offloaded edition h k q) o false }) (sym (same x.0)))

bounds : (w : World) → IsWorld w → Bounds w.setup.domains.edition w.history (applied_at w)
bounds w k p n e = by (domain_of w.setup.domains p) e
  where
    at : (d : ℕ) (o : Option Chip) → chip_at w d ≡ o → option_map (λ (c : Chip). c.count) o ≡ Some n → n ≤ deferred_count w.setup.domains.edition w.history
    at d None there e = absurd (cc)
    at d (Some c) there e = let same = same_Some c.count n e in omega (arith, same, (chip-stands w d c k there).applied)

    by : (o : Option ℕ) → option_map (λ (c : Chip). c.count) (chip_of w o) ≡ Some n → n ≤ deferred_count w.setup.domains.edition w.history
    by None e = absurd (cc)
    by (Some d) e = at d (chip_at w d) refl e

-- a turn

module _ (w : World) (dom : ℕ) (c : Chip) (there : chip_at w dom ≡ Some c) (x : Change) where
  abbrev after : World
  after = with_chip (record w { steps = w.steps + 1 }) (applies c x)

  own-count : (p : ℕ) → is_in_domain w.setup.domains c.dom p ≡ true → (applied_at w p ≡ Some c.count) × (applied_at after p ≡ Some (c.count + 1))
  own-count p is = by (domain_of w.setup.domains p) is
    where
      keep : ChipKeeps (record c { count = c.count + 1 }) (applies c x)
      keep = hit_by-keeps (record c { count = c.count + 1 }) x

      by : (o : Option ℕ) → option_eq (λ d e. d == e) o (Some c.dom) ≡ true
          → (option_map (λ (y : Chip). y.count) (chip_of w o) ≡ Some c.count) × (option_map (λ (y : Chip). y.count) (chip_of after o) ≡ Some (c.count + 1))
      by None e = absurd (cc)
      by (Some d) e =
          let same : d ≡ c.dom = eqb-true d c.dom e in
          let its = chip-own w.chips dom c there in (
            ap (λ n. option_map (λ (y : Chip). y.count) (chip_in w.chips n)) same ∙ ap (option_map (λ (y : Chip). y.count)) its,
            ap (λ n. option_map (λ (y : Chip). y.count) (chip_in (put_chip w.chips (applies c x)) n)) same
                ∙ ap (option_map (λ (y : Chip). y.count)) (put-same w.chips (applies c x) c.dom c keep.dom its)
                ∙ ap (λ n. Some n) keep.count,
          )

  foreign-count : (p : ℕ) → is_in_domain w.setup.domains c.dom p ≡ false → applied_at after p ≡ applied_at w p
  foreign-count p is = by (domain_of w.setup.domains p) is
    where
      keep : ChipKeeps (record c { count = c.count + 1 }) (applies c x)
      keep = hit_by-keeps (record c { count = c.count + 1 }) x

      by : (o : Option ℕ) → option_eq (λ d e. d == e) o (Some c.dom) ≡ false → option_map (λ (y : Chip). y.count) (chip_of after o) ≡ option_map (λ (y : Chip). y.count) (chip_of w o)
      by None e = refl
      by (Some d) e =
          ap (option_map (λ (y : Chip). y.count))
          (put-other w.chips (applies c x) d (ne_eqb (applies c x).dom d (λ same. eqb-false d c.dom e (sym same ∙ keep.dom))))

turns-tell : (w : World) (dom : ℕ) (o : Option Chip) (t : Neighbours) → chip_at w dom ≡ o → TellsWorld w t → TellsWorld (turns (record w { steps = w.steps + 1 }) o).0 (taken t (turned w o))
turns-tell w dom None t there tells = tells
turns-tell w dom (Some c) t there tells = by (next_of w c) refl
  where
    by : (o : Option Change) → next_of w c ≡ o → TellsWorld (turns_to (record w { steps = w.steps + 1 }) c o).0 (taken t (option_and_then (offloads w c) o))
    by None next = tells
    by (Some x) next = turn-tells w c (applied_at w) (applied_at (after w dom c there x)) x next (own-count w dom c there x) (foreign-count w dom c there x) t tells

-- Another step leaves what chips have applied.

same-front : (xs : List Change) (m n : ℕ) → m ≤ length xs → n ≤ length xs → take m xs ≡ take n xs → m ≡ n
same-front xs m n short less e = omega (arith, ap length e, length-take m xs, length-take n xs)

module _ (w : World) (step : Step) (k : IsWorld w) (is : (dom : ℕ) → applied_in dom w step ≡ synchronous_in w step) where
  abbrev next_world : World
  next_world = (world_step w step).0

  same-chips : (dom : ℕ) → is_some (chip_at next_world dom) ≡ is_some (chip_at w dom)
  same-chips dom =
      chip-there next_world.chips dom
      ∙ ap (list_any (λ d. d == dom)) ((step-world w step k).doms ∙ ap (λ (s : Setup). chip_domains s.domains) (step-setup w step) ∙ sym k.doms)
      ∙ sym (chip-there w.chips dom)

  same-count : (dom : ℕ) (b c : Chip) → chip_at w dom ≡ Some b → chip_at next_world dom ≡ Some c → c.count ≡ b.count
  same-count dom b c before after =
      let grows = step-accepts w step in
      let cs = grows.0 in
      let front = cut (edition_of w) w.history b.count in
      let applies : AppliesAt dom w front = λ x at. subst (λ (y : Chip). Applies (edition_of w) w.history y.count front) (same_Some b x (sym before ∙ at))
      (record { table = refl; synchronous = synchronous_of-cut (edition_of w) w.history b.count; deferred = deferred_of-cut (edition_of w) w.history b.count }) in
      let changes : applied_in dom w step ≡ synchronous_of (edition_of w) cs = is dom ∙ ap (synchronous_of (edition_of w)) (ap (drop (length w.history)) grows.1 ∙ drop-length w.history cs) in
      let now = subst (λ (s : Setup). Applies s.domains.edition next_world.history c.count (front ++ applied_in dom w step)) (step-setup w step)
      (step-applies w dom front step k applies c after) in
      let stands = chip-stands w dom b k before in
      let once = once_after_accept (edition_of w) w.history front cs b.count stands.applied (synchronous_of-cut (edition_of w) w.history b.count) (deferred_of-cut (edition_of w) w.history b.count) in
      let same : take c.count (deferred_of (edition_of w) next_world.history) ≡ take b.count (deferred_of (edition_of w) next_world.history) =
      sym now.deferred
      ∙ ap (λ (l : List Change). deferred_of (edition_of w) (front ++ l)) changes
      ∙ once.1
      ∙ ap (λ (l : List Change). take b.count (deferred_of (edition_of w) l)) (sym grows.1) in
      let later = subst (λ (s : Setup). c.count ≤ deferred_count s.domains.edition next_world.history) (step-setup w step) (chip-stands next_world dom c (step-world w step k) after).applied in
      let longer : b.count ≤ deferred_count (edition_of w) next_world.history =
      omega (arith, stands.applied, deferred_count-append (edition_of w) w.history cs, ap (deferred_count (edition_of w)) grows.1) in
      same-front (deferred_of (edition_of w) next_world.history) c.count b.count later longer same

  counts-stay : (dom : ℕ) (o p : Option Chip) → chip_at w dom ≡ o → chip_at next_world dom ≡ p → option_map (λ (c : Chip). c.count) p ≡ option_map (λ (c : Chip). c.count) o
  counts-stay dom None None before after = refl
  counts-stay dom None (Some c) before after = let e = ap is_some (sym after) ∙ same-chips dom ∙ ap is_some before in absurd (cc)
  counts-stay dom (Some b) None before after = let e = ap is_some (sym after) ∙ same-chips dom ∙ ap is_some before in absurd (cc)
  counts-stay dom (Some b) (Some c) before after = ap (λ n. Some n) (same-count dom b c before after)

  same-applied : (p : ℕ) → applied_at next_world p ≡ applied_at w p
  same-applied p =
      ap (λ (s : Setup). option_map (λ (c : Chip). c.count) (chip_of next_world (domain_of s.domains p))) (step-setup w step) ∙ by (domain_of w.setup.domains p)
    where
      by : (o : Option ℕ) → option_map (λ (c : Chip). c.count) (chip_of next_world o) ≡ option_map (λ (c : Chip). c.count) (chip_of w o)
      by None = refl
      by (Some d) = counts-stay d (chip_at w d) (chip_at next_world d) refl refl

  accepted-tells : (t : Neighbours) → TellsWorld w t → TellsWorld next_world (fold after_message t (accepted w step))
  accepted-tells t tells =
      let grows = step-accepts w step in
      let cs = grows.0 in
      let new = ap (drop (length w.history)) grows.1 ∙ drop-length w.history cs in
      let there = changes-tell (edition_of w) (applied_at w) cs w.history t (bounds w k) tells in
      let messages : List Neigh = messages_of (edition_of w) w.history cs in
      let come : Tells (edition_of w) next_world.history (applied_at w) (fold after_message t messages) =
      subst (λ l. Tells (edition_of w) l (applied_at w) (fold after_message t messages)) (sym grows.1) there in
      subst (λ (l : List Change). TellsWorld next_world (fold after_message t (messages_of (edition_of w) w.history l))) (sym new)
      (subst (λ (s : Setup). Tells s.domains.edition next_world.history (applied_at next_world) (fold after_message t messages)) (sym (step-setup w step))
      (counts-tell (edition_of w) next_world.history (applied_at w) (applied_at next_world) (fold after_message t messages) same-applied come))

-- Each step.

step-tells : (w : World) (t : Neighbours) (step : Step) → IsWorld w → TellsWorld w t → TellsWorld (world_step w step).0 (fold after_message t (messages_in w step))
step-tells w t (Turn dom) k e = turns-tell w dom (chip_at w dom) t refl e
step-tells w t step k e = accepted-tells w step k (λ dom. refl) t e

-- Runs.

pub same-world : (w : World) (ms : List Neigh) (x : Stepped) (steps : List Step) → w ≡ x.0 → (fold monitors (w, ms) steps).0 ≡ (fold then_step x steps).0
same-world w ms x [] e = e
same-world w ms x (step ∷ steps) e =
    same-world (world_step w step).0 (ms ++ messages_in w step) (then_step x step) steps (ap (λ (v : World). (world_step v step).0) e)

all-tell : (x : World × List Neigh) (steps : List Step) → IsWorld x.0 → TellsWorld x.0 (table_of x.1)
    → TellsWorld (fold monitors x steps).0 (table_of (fold monitors x steps).1)
all-tell x [] k e = e
all-tell x (step ∷ steps) k e =
    all-tell (monitors x step) steps (step-world x.0 step k)
    (subst (TellsWorld (world_step x.0 step).0) (sym (fold-append after_message [] x.1 (messages_in x.0 step))) (step-tells x.0 (table_of x.1) step k e))

message-ascends : (t : Neighbours) (m : Neigh) → T (is_sorted pair_cmp t) → T (is_sorted pair_cmp (after_message t m))
message-ascends t m up =
    elim m.new as (λ b. T (is_sorted pair_cmp (cond b (put pair_cmp t (m.vid, m.mac) (record { port = m.port; kind = m.kind; offload = m.offload })) (without pair_cmp t (m.vid, m.mac))))) [
      | true ↦ is_sorted-put pair_cmp pair_total (m.vid, m.mac) (record { port = m.port; kind = m.kind; offload = m.offload }) t up
      | false ↦ is_sorted-where_key pair_cmp (λ q. not (eq_by_cmp pair_cmp (m.vid, m.mac) q)) t up
    ]

messages-ascend : (t : Neighbours) (ms : List Neigh) → T (is_sorted pair_cmp t) → T (is_sorted pair_cmp (fold after_message t ms))
messages-ascend t [] up = up
messages-ascend t (m ∷ ms) up = messages-ascend (after_message t m) ms (message-ascends t m up)

world-told : (w : World) (t : Neighbours) → T (is_sorted pair_cmp t) → TellsWorld w t → t ≡ entries_of w
world-told w t up tells =
    let at : Key → ℕ × Kind → Entry = entry_at w.setup.domains.edition w.history (applied_at w) in
    let all : Places = (table w.history).addr in
    same_entries pair_cmp pair_total same_cmp t (entries_of w) up (subst T (sym (ascending-mapped at all)) (all-ascend start w.history tt))
    (λ q. tells q ∙ sym (get-mapped at all q))

pub entries-told : (setup : Setup) (steps : List Step) → table_of (messages setup steps) ≡ entries_of (run setup steps).0
unfolding messages run
entries-told setup steps =
    let first = first_world setup in
    let told = fold monitors (first, []) steps in
    world-told told.0 (table_of told.1) (messages-ascend [] told.1 tt) (all-tell (first, []) steps (first-world setup) (λ q. refl))
    ∙ ap entries_of (same-world first [] (first, []) steps refl)

-- and without the chips
places-told : (at : Key → ℕ × Kind → Entry) → ((q : Key) (x : ℕ × Kind) → ((at q x).port, (at q x).kind) ≡ x) → (m : Places) → addresses (mapped at m) ≡ m
places-told at same [] = refl
places-told at same (e ∷ m) = λ i. (e.0, same e.0 e.1 i) ∷ places-told at same m i

pub messages-tell : (setup : Setup) (steps : List Step) → addresses (table_of (messages setup steps)) ≡ (table (run setup steps).0.history).addr
messages-tell setup steps =
    let w = (run setup steps).0 in
    ap addresses (entries-told setup steps)
    ∙ places-told (entry_at w.setup.domains.edition w.history (applied_at w)) (λ q x. refl) (table w.history).addr
