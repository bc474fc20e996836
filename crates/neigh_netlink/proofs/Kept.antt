-- What is kept of a history with a change more, and what is told of a turn by it.
use Rattle.std.proofs.Common.{◌≡◌, ℕ, ◌+◌, ◌<◌, ◌≤◌, Bool, true, false, T, not, cond, ◌&&◌, ◌||◌, length, take, drop, get_or, arith, Some, None, Option, List, ◌∷◌, [], ◌++◌, refl, sym, ap, subst, ◌∙◌}
use Rattle.std.specs.Prelude.{if◌then◌else◌, ◌==◌, nat_lt}
use Rattle.std.specs.List.{slice_get}
use Rattle.std.specs.Option.{is_some, option_and_then, option_map, option_map_or, option_to_list}
use Rattle.std.specs.Ordering.{eq_by_cmp}
use Rattle.std.specs.FinMap.Entries.{is_sorted, is_sorted-put, is_sorted-where_key, find-put, find-where_key, same_entries}
use Rattle.std.proofs.lemmas.Bool.{eqb-true, ltb-true}
use Rattle.std.proofs.lemmas.List.{drop_more, length-map, length-take, take_more}
use Rattle.std.proofs.lemmas.Option.{get_or_from_slice_get, slice_get_within, same_Some}
use Rattle.lemmas.proofs.Tests.{cond-not}
use Rattle.br_model.specs.declared.change.Change.{Change}
use Rattle.br_model.specs.declared.change.Change.TheVariants.{AddrPut, AddrDel}
use Rattle.br_model.specs.declared.change.Kind.{Kind}
use Rattle.br_model.specs.declared.change.Update.{Update}
use Rattle.br_model.specs.declared.domains.Edition.{Edition}
use Rattle.br_model.specs.Data.Maps.{pair_cmp, get, put}
use Rattle.br_model.specs.Plane.Chip.{Chip}
use Rattle.br_model.specs.Plane.World.{World, chip_at, next_of}
use Rattle.br_model.specs.Table.Change.{address_part, deferred, updates}
use Rattle.br_model.specs.Table.Cut.{deferred_at, deferred_count, under_ticket}
use Rattle.br_model.specs.Table.DomainPorts.{is_in_domain}
use Rattle.br_model.specs.Table.Domains.{Domains}
use Rattle.br_model.specs.Table.Limits.{AreWithin, fits, most_addresses, most_changes}
use Rattle.br_model.specs.Table.Table.{Table, start, table}
use Rattle.br_model.proofs.Plane.Applying.{deferred_count-append}
use Rattle.br_model.proofs.Table.Cuts.{updates-at}
use Rattle.br_model.proofs.Plane.Growing.{few-deferred}
use Rattle.br_model.proofs.Data.PairKeys.{pair_total, same_cmp}
use Rattle.br_model.proofs.Plane.Chips.{chip-dom}
use Rattle.neigh_netlink.specs.declared.lasts.Last.{Last}
use Rattle.neigh_netlink.specs.declared.neigh.Neigh.{Neigh}
use Rattle.neigh_netlink.specs.Monitor.{entry_message, is_last, message_of, messages_of, offload_message, offloads, put_message, turned}
use Rattle.neigh_netlink.specs.Neighbours.{Key}
use Rattle.neigh_netlink.specs.Offloaded.{is_of_key, last_update, put_by}
use Rattle.neigh_netlink.specs.Stream.{Kept, kept_of, last_at, last_put, stands_after, entries_after, place_of, told_by, PutsWithin, offload_by, turn_by}
use Rattle.neigh_netlink.proofs.LastUpdates.{all-ascend, get-push, get-table, last_update-push, puts, update-there}
use Rattle.neigh_netlink.proofs.Mapped.{ascending-mapped, eq-turned, get-mapped, key-itself, map-same, mapped}

abbrev Lasts : Type 0
Lasts = List (Key × Last)

-- the entries of a history
abbrev pub lasts_of : Edition → List Change → Lasts
lasts_of edition h = mapped (last_at edition h) (table h).addr

get-stands : (ticket : ℕ) (es : Lasts) (k : Key) (o : Option (ℕ × Kind)) (q : Key)
    → get pair_cmp (stands_after ticket es k o) q ≡ cond (eq_by_cmp pair_cmp q k) (option_map (last_put ticket) o) (get pair_cmp es q)
get-stands ticket es k (Some x) q = find-put pair_cmp pair_total q k (last_put ticket x) es
get-stands ticket es k None q =
    find-where_key pair_cmp (λ p. not (eq_by_cmp pair_cmp k p)) q (λ p tie. ap (λ r. not (eq_by_cmp pair_cmp k r)) (sym (same_cmp q p tie))) es
    ∙ ap (λ b. cond (not b) (get pair_cmp es q) None) (eq-turned q k)
    ∙ cond-not (eq_by_cmp pair_cmp q k) (get pair_cmp es q) None

get-after : (ticket : ℕ) (es : Lasts) (part : Option (Key × Option (ℕ × Kind))) (q : Key) → get pair_cmp (entries_after ticket es part) q
    ≡ cond (option_map_or (λ p. eq_by_cmp pair_cmp q p.0) part false) (option_map (last_put ticket) (option_and_then (λ p. p.1) part)) (get pair_cmp es q)
get-after ticket es None q = refl
get-after ticket es (Some p) q = get-stands ticket es p.0 p.1 q

after-ascends : (ticket : ℕ) (es : Lasts) (part : Option (Key × Option (ℕ × Kind))) → T (is_sorted pair_cmp es) → T (is_sorted pair_cmp (entries_after ticket es part))
after-ascends ticket es None up = up
after-ascends ticket es (Some p) up = by p.0 p.1
  where
    by : (k : Key) (o : Option (ℕ × Kind)) → T (is_sorted pair_cmp (stands_after ticket es k o))
    by k (Some x) = is_sorted-put pair_cmp pair_total k (last_put ticket x) es up
    by k None = is_sorted-where_key pair_cmp (λ q. not (eq_by_cmp pair_cmp k q)) es up

module _ (edition : Edition) where
  lasts-ascend : (h : List Change) → T (is_sorted pair_cmp (lasts_of edition h))
  lasts-ascend h = subst T (sym (ascending-mapped (last_at edition h) (table h).addr)) (all-ascend start h tt)

  pub lasts-push : (h : List Change) (c : Change) → lasts_of edition (h ++ c ∷ []) ≡ entries_after (deferred_count edition h) (lasts_of edition h) (address_part c)
  lasts-push h c =
      same_entries pair_cmp pair_total same_cmp (lasts_of edition (h ++ c ∷ [])) (entries_after (deferred_count edition h) (lasts_of edition h) (address_part c))
      (lasts-ascend (h ++ c ∷ [])) (after-ascends (deferred_count edition h) (lasts_of edition h) (address_part c) (lasts-ascend h))
      (λ q.
      get-mapped (last_at edition (h ++ c ∷ [])) (table (h ++ c ∷ [])).addr q
      ∙ ap (option_map (last_at edition (h ++ c ∷ []) q)) (get-push h c q)
      ∙ by q (is_of_key q c) refl
      ∙ ap (λ o. cond (is_of_key q c) (option_map (last_put (deferred_count edition h)) (puts c)) o) (sym (get-mapped (last_at edition h) (table h).addr q))
      ∙ sym (get-after (deferred_count edition h) (lasts_of edition h) (address_part c) q))
    where
      ticket : (q : Key) (b : Bool) → is_of_key q c ≡ b
          → option_map_or (λ (u : Update). u.ticket) (last_update edition (h ++ c ∷ []) q) 0 ≡ cond b (deferred_count edition h) (option_map_or (λ (u : Update). u.ticket) (last_update edition h q) 0)
      ticket q true is =
          ap (λ o. option_map_or (λ (u : Update). u.ticket) o 0) (last_update-push edition h c q ∙ ap (λ b. cond b (Some (under_ticket (deferred_count edition h) c)) (last_update edition h q)) is)
      ticket q false is =
          ap (λ o. option_map_or (λ (u : Update). u.ticket) o 0) (last_update-push edition h c q ∙ ap (λ b. cond b (Some (under_ticket (deferred_count edition h) c)) (last_update edition h q)) is)

      by : (q : Key) (b : Bool) → is_of_key q c ≡ b
          → option_map (last_at edition (h ++ c ∷ []) q) (cond b (puts c) (get pair_cmp (table h).addr q))
          ≡ cond b (option_map (last_put (deferred_count edition h)) (puts c)) (option_map (last_at edition h q) (get pair_cmp (table h).addr q))
      by q true is = map-same (last_at edition (h ++ c ∷ []) q) (last_put (deferred_count edition h)) (puts c) (λ x i. record { ticket = ticket q true is i; port = x.0; kind = x.1 })
      by q false is = map-same (last_at edition (h ++ c ∷ []) q) (last_at edition h q) (get pair_cmp (table h).addr q) (λ x i. record { ticket = ticket q false is i; port = x.0; kind = x.1 })

  -- what stands at a key, without its ticket
  places : (h : List Change) (k : Key) (o : Option (ℕ × Kind)) → option_map place_of (option_map (last_at edition h k) o) ≡ o
  places h k None = refl
  places h k (Some x) = refl

  get-place : (h : List Change) (k : Key) → option_map place_of (get pair_cmp (lasts_of edition h) k) ≡ get pair_cmp (table h).addr k
  get-place h k = ap (option_map place_of) (get-mapped (last_at edition h) (table h).addr k) ∙ places h k (get pair_cmp (table h).addr k)

  told-message : (h : List Change) (part : Option (Key × Option (ℕ × Kind))) → told_by (deferred_count edition h) (lasts_of edition h) part
      ≡ option_and_then (λ p. entry_message (deferred_count edition h) p.0 (get pair_cmp (table h).addr p.0) p.1) part
  told-message h None = refl
  told-message h (Some p) = ap (λ o. entry_message (deferred_count edition h) p.0 o p.1) (get-place h p.0)

  none-there : (h : List Change) (k : Key) → get pair_cmp (lasts_of edition h) k ≡ None → get pair_cmp (table h).addr k ≡ None
  none-there h k e = sym (get-place h k) ∙ ap (option_map place_of) e

-- A change of a history within the limits.

pub kept-inside : (inside now : Kept) (h : List Change) → inside ≡ now → now ≡ kept_of now.domains h → inside ≡ kept_of inside.domains h
kept-inside inside now h is kept = is ∙ kept ∙ sym (ap (λ (k : Kept). kept_of k.domains h) is)

-- where an entry comes to a new address there is room for it
fits-room : (t : Table) (c : Change) (k : Key) (x : ℕ × Kind) → fits t c ≡ true → address_part c ≡ Some (k, Some x) → get pair_cmp t.addr k ≡ None → length t.addr < most_addresses
fits-room t (AddrPut v a p kind) k x fit is none =
    let same : (v, a) ≡ k = ap (λ (part : Key × Option (ℕ × Kind)). part.0) (same_Some ((v, a), Some (p, kind)) (k, Some x) is) in
    ltb-true (length t.addr) most_addresses (sym (ap (λ o. is_some o || nat_lt (length t.addr) most_addresses) (ap (get pair_cmp t.addr) same ∙ none)) ∙ fit)
fits-room t (AddrDel v a) k x fit is none =
    let stands : None ≡ Some x = ap (λ (part : Key × Option (ℕ × Kind)). part.1) (same_Some ((v, a), None) (k, Some x) is) in
    absurd (cc)
fits-room t c k x fit is none = absurd (cc)

module _ (domains : Domains) (history : List Change) (limits : AreWithin history) (at : ℕ) (within : at < length history)
    (count : ℕ) (es : Lasts) (kept : record { domains = domains; count = count; entries = es } ≡ kept_of domains (take at history)) where
  abbrev before : List Change
  before = take at history

  counted : count ≡ deferred_count domains.edition before
  counted = ap (λ (k : Kept). k.count) kept

  lasted : es ≡ lasts_of domains.edition before
  lasted = ap (λ (k : Kept). k.entries) kept

  pub few-tickets : count < most_changes
  few-tickets = omega (arith, counted, few-deferred domains.edition before, length-take at history, within, limits.few)

  module _ (x : Change) (is : x ≡ get_or history at x) where
    pub puts-within : PutsWithin es most_addresses (address_part x)
    puts-within p part none =
        let fit : fits (table before) x ≡ true = ap (fits (table before)) is ∙ limits.fit at x within in
        let few = fits-room (table before) x p.0 p.1 fit part (none-there domains.edition before p.0 (ap (λ (l : Lasts). get pair_cmp l p.0) (sym lasted) ∙ none)) in
        let long : length es ≡ length (table before).addr = ap length lasted ∙ length-map (table before).addr _ in
        omega (arith, few, long)

    further : take (at + 1) history ≡ before ++ x ∷ []
    further = take_more history at x within ∙ ap (λ c. before ++ c ∷ []) (sym is)

    pub kept-further : (next : ℕ) (after : Lasts) → next ≡ (if deferred domains.edition x then count + 1 else count) → after ≡ entries_after count es (address_part x)
        → record { domains = domains; count = next; entries = after } ≡ kept_of domains (take (at + 1) history)
    kept-further next after next_is after_is =
        (λ i. record {
          domains = domains;
          count = (next_is ∙ ap (λ n. if deferred domains.edition x then n + 1 else n) counted ∙ one (deferred domains.edition x) ∙ sym (deferred_count-append domains.edition before (x ∷ []))) i;
          entries = (after_is ∙ (λ j. entries_after (counted j) (lasted j) (address_part x)) ∙ sym (lasts-push domains.edition before x)) i;
        })
        ∙ ap (kept_of domains) (sym further)
      where
        one : (b : Bool) → (if b then deferred_count domains.edition before + 1 else deferred_count domains.edition before) ≡ deferred_count domains.edition before + length (cond b (x ∷ []) [])
        one true = refl
        one false = omega arith

    pub message-told : (result : Option Neigh) → result ≡ told_by count es (address_part x) → (c : Change) → slice_get history at ≡ Some c → result ≡ message_of domains.edition before c
    message-told result told c there =
        told ∙ (λ i. told_by (counted i) (lasted i) (address_part x)) ∙ told-message domains.edition before (address_part x)
        ∙ ap (message_of domains.edition before) (is ∙ get_or_from_slice_get history at c x there)

-- the messages of what is left of a history
pub further-told : (edition : Edition) (h : List Change) (at : ℕ) (x : Change) → slice_get h at ≡ Some x → messages_of edition (take at h) (drop at h)
    ≡ option_to_list (message_of edition (take at h) x) ++ messages_of edition (take (at + 1) h) (drop (at + 1) h)
further-told edition h at x there =
    let within = slice_get_within h at x there in
    let its = get_or_from_slice_get h at x x there in
    ap (messages_of edition (take at h)) (drop_more h at x within ∙ ap (λ c. c ∷ drop (at + 1) h) its)
    ∙ ap (λ l. option_to_list (message_of edition (take at h) x) ++ messages_of edition l (drop (at + 1) h)) (sym (take_more h at x within ∙ ap (λ c. take at h ++ c ∷ []) its))

pub one-message : (o : Option Neigh) → length (option_to_list o) ≤ 1
one-message None = omega arith
one-message (Some m) = omega arith

-- what is told of a change, by domains that are the same
pub more-told : (edition : Edition) (h : List Change) (at : ℕ) (x : Change) → slice_get h at ≡ Some x → (o : Option Neigh) (domains : Domains) → o ≡ message_of domains.edition (take at h) x
    → domains.edition ≡ edition → option_to_list o ++ messages_of edition (take (at + 1) h) (drop (at + 1) h) ≡ messages_of edition (take at h) (drop at h)
more-told edition h at x there o domains told same =
    ap (λ m. option_to_list m ++ messages_of edition (take (at + 1) h) (drop (at + 1) h)) (told ∙ ap (λ e. message_of e (take at h) x) same) ∙ sym (further-told edition h at x there)

-- A turn.

module _ (w : World) (chip : Chip) where
  abbrev kept : Kept
  kept = kept_of w.setup.domains w.history

  abbrev edition : Edition
  edition = w.setup.domains.edition

  same-offload : (c : Change) → next_of w chip ≡ Some c → (k : Key) (x : ℕ × Kind) → is_of_key k c ≡ true → puts c ≡ Some x
      → offload_by kept chip.dom chip.count k x ≡ offload_message w chip k (Some x)
  same-offload c next k x of_k is =
      ap (option_and_then (λ (last : Last). if is_in_domain w.setup.domains chip.dom x.0 && last.ticket == chip.count then Some (put_message chip.count k x true) else None))
      (get-mapped (last_at edition w.history) (table w.history).addr k ∙ ap (option_map (last_at edition w.history k)) (get-table edition w.history k))
      ∙ by (last_update edition w.history k) refl
    where
      none : (b : Bool) → None ≡ (if b && false then Some (put_message chip.count k x true) else None)
      none true = refl
      none false = refl

      found : (u : Update) (o : Option (ℕ × Kind)) (b : Bool) → put_by u ≡ o → (u.ticket == chip.count) ≡ b → last_update edition w.history k ≡ Some u
          → option_and_then (λ (last : Last). if is_in_domain w.setup.domains chip.dom x.0 && last.ticket == chip.count then Some (put_message chip.count k x true) else None)
          (option_map (λ (e : ℕ × Kind). record { ticket = u.ticket; port = e.0; kind = e.1 }) o)
          ≡ (if is_in_domain w.setup.domains chip.dom x.0 && b then Some (put_message chip.count k x true) else None)
      found u (Some y) b put same last = ap (λ b. if is_in_domain w.setup.domains chip.dom x.0 && b then Some (put_message chip.count k x true) else None) same
      found u None false put same last = none (is_in_domain w.setup.domains chip.dom x.0)
      found u None true put same last =
          let there = update-there edition w.history k u last in
          let its : u.change ≡ c = same_Some u.change c (sym there.0 ∙ ap (deferred_at edition w.history) (eqb-true u.ticket chip.count same) ∙ next) in
          let stands : None ≡ Some x = sym put ∙ ap puts its ∙ is in
          absurd (cc)

      by : (o : Option Update) → last_update edition w.history k ≡ o
          → option_and_then (λ (last : Last). if is_in_domain w.setup.domains chip.dom x.0 && last.ticket == chip.count then Some (put_message chip.count k x true) else None)
          (option_map (λ (e : ℕ × Kind). record { ticket = option_map_or (λ (u : Update). u.ticket) (last_update edition w.history k) 0; port = e.0; kind = e.1 }) (option_and_then put_by o))
          ≡ (if is_in_domain w.setup.domains chip.dom x.0 && is_last w k chip.count then Some (put_message chip.count k x true) else None)
      by None last = none (is_in_domain w.setup.domains chip.dom x.0)
          ∙ ap (λ (o : Option Update). if is_in_domain w.setup.domains chip.dom x.0 && option_map_or (λ u. u.ticket == chip.count) o false then Some (put_message chip.count k x true) else None)
          (sym last)
      by (Some u) last =
          ap (λ (o : Option Update). option_and_then (λ (last : Last). if is_in_domain w.setup.domains chip.dom x.0 && last.ticket == chip.count then Some (put_message chip.count k x true) else None)
          (option_map (λ (e : ℕ × Kind). record { ticket = option_map_or (λ (u : Update). u.ticket) o 0; port = e.0; kind = e.1 }) (put_by u))) last
          ∙ found u (put_by u) (u.ticket == chip.count) refl refl last
          ∙ ap (λ (o : Option Update). if is_in_domain w.setup.domains chip.dom x.0 && option_map_or (λ u. u.ticket == chip.count) o false then Some (put_message chip.count k x true) else None)
          (sym last)

  same-part : (c : Change) → next_of w chip ≡ Some c → (part : Option (Key × Option (ℕ × Kind))) → address_part c ≡ part
      → option_and_then (λ p. option_and_then (offload_by kept chip.dom chip.count p.0) p.1) part ≡ option_and_then (λ p. offload_message w chip p.0 p.1) part
  same-part c next None is = refl
  same-part c next (Some p) is = by p.1 refl
    where
      by : (o : Option (ℕ × Kind)) → p.1 ≡ o → option_and_then (offload_by kept chip.dom chip.count p.0) o ≡ offload_message w chip p.0 o
      by None e = refl
      by (Some x) e = same-offload c next p.0 x
          (ap (λ part. option_map_or (λ q. eq_by_cmp pair_cmp p.0 q.0) part false) is ∙ key-itself p.0)
          (ap (λ part. option_and_then (λ q. q.1) part) is ∙ e)

  pub turn-told : turn_by kept chip.dom (slice_get (updates edition w.history) chip.count) ≡ turned w (Some chip)
  turn-told = ap (turn_by kept chip.dom) (updates-at edition w.history chip.count) ∙ by (next_of w chip) refl
    where
      by : (o : Option Change) → next_of w chip ≡ o → turn_by kept chip.dom (option_map (under_ticket chip.count) o) ≡ option_and_then (offloads w chip) o
      by None next = refl
      by (Some c) next = same-part c next (address_part c) refl

-- what a chip is told of, by any of its names
pub kept-turn : (w : World) (chip : Chip) (k : Kept) (dom : ℕ) (update : Option Update) → k ≡ kept_of w.setup.domains w.history → chip_at w dom ≡ Some chip
    → update ≡ slice_get (updates w.setup.domains.edition w.history) chip.count → turn_by k dom update ≡ turned w (Some chip)
kept-turn w chip k dom update is at next =
    (λ i. turn_by (is i) (sym (chip-dom w.chips dom chip at) i) (next i)) ∙ turn-told w chip
