-- The messages of any run are taken, one after another.
use Rattle.std.proofs.Common.{◌≡◌, ℕ, ◌+◌, Bool, true, false, T, not, cond, ◌&&◌, ◌||◌, Some, None, Option, List, [], ◌∷◌, ◌++◌, length, drop, refl, sym, ap, subst, ◌∙◌, append_assoc, append-nil}
use Rattle.std.specs.Prelude.{if◌then◌else◌, nat_lt, ◌==◌}
use Rattle.std.specs.Cmp.{first_so, second_so}
use Rattle.std.specs.List.{fold, list_all}
use Rattle.std.specs.Option.{is_some, option_and_then, option_map, option_map_or, option_to_list}
use Rattle.std.specs.Ordering.{eq_by_cmp}
use Rattle.std.specs.FinMap.Entries.{is_sorted, is_sorted-put, is_sorted-where_key, find-put, find-where_key, same_entries}
use Rattle.std.proofs.lemmas.Bool.{and_from, eq-eqb, eqb-true}
use Rattle.std.proofs.lemmas.List.{length-map}
use Rattle.std.proofs.lemmas.List.Sums.{fold-append, fold_push}
use Rattle.std.proofs.lemmas.Option.{same_Some}
use Rattle.lemmas.proofs.Lists.{drop-length}
use Rattle.lemmas.proofs.Tests.{and_assoc, cond-not}
use Rattle.br_model.specs.declared.change.Change.{Change}
use Rattle.br_model.specs.declared.change.Change.TheVariants.{AddrPut, AddrDel}
use Rattle.br_model.specs.declared.change.Kind.{Kind}
use Rattle.br_model.specs.declared.change.Kind.TheVariants.{Local, Static, Learned, Extern}
use Rattle.br_model.specs.declared.change.Update.{Update}
use Rattle.br_model.specs.declared.domains.Edition.{Edition}
use Rattle.br_model.specs.declared.steps.Step.{Step}
use Rattle.br_model.specs.declared.steps.Step.TheVariants.{Turn}
use Rattle.br_model.specs.Data.Maps.{pair_cmp, get, put, without}
use Rattle.br_model.specs.Plane.Chip.{Chip}
use Rattle.br_model.specs.Plane.Runs.{run}
use Rattle.br_model.specs.Plane.Steps.{world_step}
use Rattle.br_model.specs.Plane.World.{World, chip_at, first_world, next_of}
use Rattle.br_model.specs.Table.Change.{address_part}
use Rattle.br_model.specs.Table.Cut.{deferred_at, deferred_count}
use Rattle.br_model.specs.Table.DomainPorts.{is_in_domain}
use Rattle.br_model.specs.Table.Limits.{all_fit, fits, most_addresses}
use Rattle.br_model.specs.Table.Setup.{Setup}
use Rattle.br_model.specs.Table.Table.{Table, apply, start, table}
use Rattle.br_model.specs.Theorems.Applied.{accepted_in}
use Rattle.br_model.specs.Theorems.Invariants.{IsWorld}
use Rattle.br_model.proofs.Data.PairKeys.{pair_total, same_cmp}
use Rattle.br_model.proofs.Plane.History.{fit-append}
use Rattle.br_model.proofs.Plane.Kept.{first-world, step-world}
use Rattle.br_model.proofs.Plane.Stays.{step-accepts}
use Rattle.br_model.proofs.Plane.Still.{turn-history}
use Rattle.neigh_netlink.specs.declared.entries.Entry.{Entry}
use Rattle.neigh_netlink.specs.declared.neigh.Neigh.{Neigh}
use Rattle.neigh_netlink.specs.declared.table.TakeFault.{TakeFault}
use Rattle.neigh_netlink.specs.declared.table.TakeFault.TheVariants.{Absent, Full}
use Rattle.neigh_netlink.specs.Follow.{Following, Ended, follows}
use Rattle.neigh_netlink.specs.Monitor.{accepted, gone_message, is_last, message_of, messages, messages_in, messages_of, monitors, offload_message, offloads, put_message, turned}
use Rattle.neigh_netlink.specs.Neighbours.{Key, Neighbours, after_message, fault_of, is_of, place, same_kind, table_of}
use Rattle.neigh_netlink.specs.Offloaded.{entries_of, last_update, put_by}
use Rattle.neigh_netlink.proofs.LastUpdates.{all-ascend, get-push, get-table, puts, update-there}
use Rattle.neigh_netlink.proofs.Mapped.{ascending-mapped, eq-turned, get-mapped, mapped, same-key}
use Rattle.neigh_netlink.proofs.Told.{entries-told}
use Rattle.neigh_netlink.specs.FollowedMessages.{are_taken, is_whole, text_of}
use Rattle.neigh_netlink.proofs.Messages.{messages-followed}

-- the entries ascend, each with the port and the kind that it has in the history's table
record Agrees (h : List Change) (t : Neighbours) : Type 0 where
  ascends : T (is_sorted pair_cmp t)
  places : (q : Key) → option_map place (get pair_cmp t q) ≡ get pair_cmp (table h).addr q

-- the messages are taken, and come to the table of this history
abbrev Takes : List Change → Neighbours → List Neigh → Type 0
Takes h t ms = (are_taken t ms ≡ true) × Agrees h (fold after_message t ms)

stays-some : (o : Option Entry) → is_some (option_map place o) ≡ is_some o
stays-some None = refl
stays-some (Some e) = refl

same-there : (h : List Change) (t : Neighbours) (q : Key) → Agrees h t → is_some (get pair_cmp t q) ≡ is_some (get pair_cmp (table h).addr q)
same-there h t q a = sym (stays-some (get pair_cmp t q)) ∙ ap is_some (a.places q)

same-length : (h : List Change) (t : Neighbours) → Agrees h t → length t ≡ length (table h).addr
same-length h t a =
    let at : Key → Entry → ℕ × Kind = λ q e. place e in
    let same : mapped at t ≡ (table h).addr =
    same_entries pair_cmp pair_total same_cmp (mapped at t) (table h).addr (subst T (sym (ascending-mapped at t)) a.ascends) (all-ascend start h tt)
    (λ q. get-mapped at t q ∙ a.places q) in
    sym (ap length (sym same) ∙ length-map t _)

taken-append : (t : Neighbours) (ms ns : List Neigh) → are_taken t (ms ++ ns) ≡ (are_taken t ms && are_taken (fold after_message t ms) ns)
taken-append t [] ns = refl
taken-append t (m ∷ ms) ns =
    ap (λ b. not (is_some (fault_of t m)) && b) (taken-append (after_message t m) ms ns)
    ∙ and_assoc (not (is_some (fault_of t m))) (are_taken (after_message t m) ms) (are_taken (fold after_message (after_message t m) ms) ns)

-- A message is taken.

abbrev by_room : Bool → Option TakeFault
by_room b = if b then None else Some Full

abbrev by_place : Bool → Option TakeFault
by_place b = if b then None else Some Absent

-- one that comes where there is room, or an entry already
put-taken : (t : Neighbours) (ticket : ℕ) (k : Key) (e : ℕ × Kind) (offload : Bool) → (is_some (get pair_cmp t k) || nat_lt (length t) most_addresses) ≡ true
    → are_taken t (put_message ticket k e offload ∷ []) ≡ true
put-taken t ticket k e offload room = and_from _ _ (ap (λ b. not (is_some (by_room b))) room) refl

itself : (kind : Kind) → same_kind kind kind ≡ true
itself Local = refl
itself Static = refl
itself Learned = refl
itself Extern = refl

is-there : (o : Option Entry) (x : ℕ × Kind) → option_map place o ≡ Some x → is_of x.0 x.1 o ≡ true
is-there None x e = absurd (cc)
is-there (Some y) x e =
    ap (λ (z : ℕ × Kind). is_of z.0 z.1 (Some y)) (sym (same_Some (place y) x e)) ∙ and_from _ _ (eq-eqb y.port y.port refl) (itself y.kind)

-- one that goes where it is
gone-taken : (t : Neighbours) (ticket : ℕ) (k : Key) (x : ℕ × Kind) → option_map place (get pair_cmp t k) ≡ Some x → are_taken t (gone_message ticket k x ∷ []) ≡ true
gone-taken t ticket k x there = and_from _ _ (ap (λ b. not (is_some (by_place b))) (is-there (get pair_cmp t k) x there)) refl

module _ (h later : List Change) (t : Neighbours) (k : Key) (agrees : Agrees h t) where
  put-agrees : (e : Entry) → ((q : Key) → get pair_cmp (table later).addr q ≡ cond (eq_by_cmp pair_cmp q k) (Some (place e)) (get pair_cmp (table h).addr q))
      → Agrees later (put pair_cmp t k e)
  put-agrees e now = record {
    ascends = is_sorted-put pair_cmp pair_total k e t agrees.ascends;
    places = λ q. ap (option_map place) (find-put pair_cmp pair_total q k e t) ∙ by q (eq_by_cmp pair_cmp q k) ∙ sym (now q);
  }
    where
      by : (q : Key) (b : Bool) → option_map place (cond b (Some e) (get pair_cmp t q)) ≡ cond b (Some (place e)) (get pair_cmp (table h).addr q)
      by q true = refl
      by q false = agrees.places q

  gone-agrees : ((q : Key) → get pair_cmp (table later).addr q ≡ cond (eq_by_cmp pair_cmp q k) None (get pair_cmp (table h).addr q)) → Agrees later (without pair_cmp t k)
  gone-agrees now = record {
    ascends = is_sorted-where_key pair_cmp (λ q. not (eq_by_cmp pair_cmp k q)) t agrees.ascends;
    places = λ q. ap (option_map place) (gone q) ∙ by q (eq_by_cmp pair_cmp q k) ∙ sym (now q);
  }
    where
      gone : (q : Key) → get pair_cmp (without pair_cmp t k) q ≡ cond (eq_by_cmp pair_cmp q k) None (get pair_cmp t q)
      gone q =
          find-where_key pair_cmp (λ p. not (eq_by_cmp pair_cmp k p)) q (λ p tie. ap (λ r. not (eq_by_cmp pair_cmp k r)) (sym (same_cmp q p tie))) t
          ∙ ap (λ b. cond (not b) (get pair_cmp t q) None) (eq-turned q k)
          ∙ cond-not (eq_by_cmp pair_cmp q k) (get pair_cmp t q) None

      by : (q : Key) (b : Bool) → option_map place (cond b None (get pair_cmp t q)) ≡ cond b None (get pair_cmp (table h).addr q)
      by q true = refl
      by q false = agrees.places q

  -- of what isn't there nothing goes
  none-agrees : get pair_cmp (table h).addr k ≡ None → ((q : Key) → get pair_cmp (table later).addr q ≡ cond (eq_by_cmp pair_cmp q k) None (get pair_cmp (table h).addr q))
      → Agrees later t
  none-agrees none now = record { ascends = agrees.ascends; places = λ q. agrees.places q ∙ by q (eq_by_cmp pair_cmp q k) refl ∙ sym (now q) }
    where
      by : (q : Key) (b : Bool) → eq_by_cmp pair_cmp q k ≡ b → get pair_cmp (table h).addr q ≡ cond b None (get pair_cmp (table h).addr q)
      by q true same = ap (get pair_cmp (table h).addr) (same-key q k same) ∙ none
      by q false other = refl

-- Changes are accepted.

module _ (edition : Edition) where
  change-taken : (h : List Change) (c : Change) (t : Neighbours) → Agrees h t → fits (table h) c ≡ true
      → Takes (h ++ c ∷ []) t (option_to_list (message_of edition h c))
  change-taken h (AddrPut v a p kind) t agrees fit = (
    put-taken t (deferred_count edition h) (v, a) (p, kind) false
        (ap (λ b. b || nat_lt (length t) most_addresses) (same-there h t (v, a) agrees)
        ∙ ap (λ n. is_some (get pair_cmp (table h).addr (v, a)) || nat_lt n most_addresses) (same-length h t agrees)
        ∙ fit),
    put-agrees h (h ++ AddrPut v a p kind ∷ []) t (v, a) agrees (record { port = p; kind = kind; offload = false }) (get-push h (AddrPut v a p kind)),
  )
  change-taken h (AddrDel v a) t agrees fit = by (get pair_cmp (table h).addr (v, a)) refl
    where
      by : (o : Option (ℕ × Kind)) → get pair_cmp (table h).addr (v, a) ≡ o
          → Takes (h ++ AddrDel v a ∷ []) t (option_to_list (option_map (gone_message (deferred_count edition h) (v, a)) o))
      by None is = (refl, none-agrees h (h ++ AddrDel v a ∷ []) t (v, a) agrees is (get-push h (AddrDel v a)))
      by (Some x) is = (
        gone-taken t (deferred_count edition h) (v, a) x (agrees.places (v, a) ∙ is),
        gone-agrees h (h ++ AddrDel v a ∷ []) t (v, a) agrees (get-push h (AddrDel v a)),
      )
  change-taken h c t agrees fit = (refl, record { ascends = agrees.ascends; places = λ q. agrees.places q ∙ sym (get-push h c q) })

  changes-taken : (cs h : List Change) (t : Neighbours) → Agrees h t → all_fit (table h) cs ≡ true → Takes (h ++ cs) t (messages_of edition h cs)
  changes-taken [] h t agrees fit = (refl, subst (λ l. Agrees l t) (sym (append-nil h)) agrees)
  changes-taken (c ∷ later) h t agrees fit =
      let ms : List Neigh = option_to_list (message_of edition h c) in
      let ns : List Neigh = messages_of edition (h ++ c ∷ []) later in
      let one = change-taken h c t agrees (first_so (fits (table h) c) _ fit) in
      let rest = changes-taken later (h ++ c ∷ []) (fold after_message t ms) one.1
      (ap (λ (s : Table). all_fit s later) (fold_push apply start h c) ∙ second_so (fits (table h) c) _ fit) in (
        taken-append t ms ns ∙ and_from _ _ one.0 rest.0,
        subst (λ (l : Neighbours). Agrees (h ++ c ∷ later) l) (sym (fold-append after_message t ms ns))
            (subst (λ l. Agrees l (fold after_message (fold after_message t ms) ns)) (append_assoc h (c ∷ []) later) rest.1),
      )

-- A chip applies a deferred change.

abbrev edition_of : World → Edition
edition_of w = w.setup.domains.edition

-- the entry whose last change it is stands as the change puts it
last-stands : (w : World) (c : Chip) (x : Change) (k : Key) (e : ℕ × Kind) → next_of w c ≡ Some x → address_part x ≡ Some (k, Some e) → is_last w k c.count ≡ true
    → get pair_cmp (table w.history).addr k ≡ Some e
last-stands w c x k e next part last = by (last_update (edition_of w) w.history k) refl last
  where
    by : (o : Option Update) → last_update (edition_of w) w.history k ≡ o → option_map_or (λ u. u.ticket == c.count) o false ≡ true
        → get pair_cmp (table w.history).addr k ≡ Some e
    by None is its = absurd (cc)
    by (Some u) is its =
        let there = update-there (edition_of w) w.history k u is in
        let same : u.change ≡ x = same_Some u.change x (sym there.0 ∙ ap (deferred_at (edition_of w) w.history) (eqb-true u.ticket c.count its) ∙ next) in
        get-table (edition_of w) w.history k
        ∙ ap (option_and_then put_by) is
        ∙ ap puts same
        ∙ ap (λ (p : Option (Key × Option (ℕ × Kind))). option_and_then (λ r. r.1) p) part

module _ (w : World) (c : Chip) (x : Change) (t : Neighbours) (next : next_of w c ≡ Some x) (agrees : Agrees w.history t) where
  told-taken : (k : Key) (e : ℕ × Kind) (b : Bool) → address_part x ≡ Some (k, Some e) → (is_in_domain w.setup.domains c.dom e.0 && is_last w k c.count) ≡ b
      → Takes w.history t (option_to_list (if b then Some (put_message c.count k e true) else None))
  told-taken k e false part off = (refl, agrees)
  told-taken k e true part on = (
    put-taken t c.count k e true (ap (λ b. b || nat_lt (length t) most_addresses) (same-there w.history t k agrees ∙ ap is_some there)),
    put-agrees w.history w.history t k agrees (record { port = e.0; kind = e.1; offload = true }) (λ q. by q (eq_by_cmp pair_cmp q k) refl),
  )
    where
      there : get pair_cmp (table w.history).addr k ≡ Some e
      there = last-stands w c x k e next part (second_so (is_in_domain w.setup.domains c.dom e.0) _ on)

      by : (q : Key) (b : Bool) → eq_by_cmp pair_cmp q k ≡ b → get pair_cmp (table w.history).addr q ≡ cond b (Some e) (get pair_cmp (table w.history).addr q)
      by q true same = ap (get pair_cmp (table w.history).addr) (same-key q k same) ∙ there
      by q false other = refl

  part-taken : (k : Key) (o : Option (ℕ × Kind)) → address_part x ≡ Some (k, o) → Takes w.history t (option_to_list (offload_message w c k o))
  part-taken k None part = (refl, agrees)
  part-taken k (Some e) part = told-taken k e (is_in_domain w.setup.domains c.dom e.0 && is_last w k c.count) part refl

  offload-taken : Takes w.history t (option_to_list (offloads w c x))
  offload-taken = by (address_part x) refl
    where
      by : (o : Option (Key × Option (ℕ × Kind))) → address_part x ≡ o
          → Takes w.history t (option_to_list (option_and_then (λ p. offload_message w c p.0 p.1) o))
      by None part = (refl, agrees)
      by (Some p) part = part-taken p.0 p.1 part

turn-taken : (w : World) (o : Option Chip) (t : Neighbours) → Agrees w.history t → Takes w.history t (option_to_list (turned w o))
turn-taken w None t agrees = (refl, agrees)
turn-taken w (Some c) t agrees = by (next_of w c) refl
  where
    by : (o : Option Change) → next_of w c ≡ o → Takes w.history t (option_to_list (option_and_then (offloads w c) o))
    by None next = (refl, agrees)
    by (Some x) next = offload-taken w c x t next agrees

-- Each step.

accepted-taken : (w : World) (step : Step) (t : Neighbours) → IsWorld w → Agrees w.history t → Takes (world_step w step).0.history t (accepted w step)
accepted-taken w step t k agrees =
    let grows = step-accepts w step in
    let cs = grows.0 in
    let new : accepted_in w step ≡ cs = ap (drop (length w.history)) grows.1 ∙ drop-length w.history cs in
    let fit : all_fit start (w.history ++ cs) ≡ true = ap (all_fit start) (sym grows.1) ∙ (step-world w step k).history.fits in
    let come = changes-taken (edition_of w) cs w.history t agrees (second_so (all_fit start w.history) _ (sym (fit-append start w.history cs) ∙ fit)) in
    subst (λ (l : List Change). Takes l t (accepted w step)) (sym grows.1)
    (subst (λ (l : List Change). Takes (w.history ++ cs) t (messages_of (edition_of w) w.history l)) (sym new) come)

step-taken : (w : World) (t : Neighbours) (step : Step) → IsWorld w → Agrees w.history t → Takes (world_step w step).0.history t (messages_in w step)
step-taken w t (Turn dom) k a =
    subst (λ (l : List Change). Takes l t (option_to_list (turned w (chip_at w dom)))) (sym (turn-history w dom)) (turn-taken w (chip_at w dom) t a)
step-taken w t step k a = accepted-taken w step t k a

-- Runs.

all-taken : (x : World × List Neigh) (steps : List Step) → IsWorld x.0 → Takes x.0.history [] x.1 → are_taken [] (fold monitors x steps).1 ≡ true
all-taken x [] k so = so.0
all-taken x (step ∷ steps) k so =
    let one = step-taken x.0 (table_of x.1) step k so.1 in
    all-taken (monitors x step) steps (step-world x.0 step k) (
      taken-append [] x.1 (messages_in x.0 step) ∙ and_from _ _ so.0 one.0,
      subst (λ (l : Neighbours). Agrees (world_step x.0 step).0.history l) (sym (fold-append after_message [] x.1 (messages_in x.0 step))) one.1,
    )

pub run-taken : (setup : Setup) (steps : List Step) → are_taken [] (messages setup steps) ≡ true
unfolding messages
run-taken setup steps = all-taken (first_world setup, []) steps (first-world setup) (refl, record { ascends = tt; places = λ q. refl })

abbrev ended : ℕ → Neighbours → Following
ended n t = record { lines = n + 1; table = t; ending = Ended }

pub run-followed : (setup : Setup) (steps : List Step) → list_all is_whole (messages setup steps) ≡ true
    → follows (text_of (messages setup steps)) ≡ record { lines = length (messages setup steps) + 1; table = entries_of (run setup steps).0; ending = Ended }
run-followed setup steps whole =
    messages-followed (messages setup steps) whole (run-taken setup steps) ∙ ap (ended (length (messages setup steps))) (entries-told setup steps)
