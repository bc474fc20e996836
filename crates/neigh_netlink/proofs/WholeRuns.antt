-- Each message of a run whose steps have lines can be written.
use Rattle.std.proofs.Common.{◌≡◌, ℕ, zero, suc, ◌+◌, ◌*◌, ◌^◌, ◌<◌, ◌≤◌, ◌==◌, nat_lt, nat_le, Bool, true, false, not, cond, ◌&&◌, ◌||◌, Some, None, Option, Result, Ok, Err, IfOk, IfSome}
use Rattle.std.proofs.Common.{List, [], ◌∷◌, ◌++◌, length, map, drop, take, slice_get, refl, sym, ap, subst, ◌∙◌, arith, length-append, le_trans, lt_of_lt_of_le}
use Rattle.std.specs.Prelude.{if◌then◌else◌}
use Rattle.std.specs.Cmp.{first_so, second_so}
use Rattle.std.specs.List.{AllByRecursion, All, find, fold, list_all, list_any}
use Rattle.std.specs.Option.{option_and_then, option_map, option_to_list}
use Rattle.std.proofs.lemmas.Bool.{and_from, lt-ltb, ltb-true}
use Rattle.std.proofs.lemmas.List.Elements.{All-from_recursion}
use Rattle.std.proofs.lemmas.List.Folds.{list_all-append}
use Rattle.std.proofs.lemmas.List.Sums.{fold_push}
use Rattle.std.proofs.lemmas.Option.{slice_get_within, same_Some}
use Rattle.std.proofs.lemmas.Result.{IfOk-at_ok}
use Rattle.lemmas.proofs.Lists.{drop-length}
use Rattle.br_model.specs.declared.change.Asks.{Asks}
use Rattle.br_model.specs.declared.change.Asks.TheVariants.{Nothing, State, GroupRoom, AddressRoom}
use Rattle.br_model.specs.declared.change.Change.{Change}
use Rattle.br_model.specs.declared.change.Change.TheVariants.{AddrPut, AddrDel}
use Rattle.br_model.specs.declared.change.Kind.{Kind}
use Rattle.br_model.specs.declared.domains.Edition.{Edition}
use Rattle.br_model.specs.declared.frame.FrameFault.TheVariants.{Short, Long, TagShort}
use Rattle.br_model.specs.declared.frame.Head.{Head}
use Rattle.br_model.specs.declared.steps.Event.{Event}
use Rattle.br_model.specs.declared.steps.Event.TheVariants as events
use Rattle.br_model.specs.declared.steps.Refusal.{Refusal}
use Rattle.br_model.specs.declared.steps.Step.{Step}
use Rattle.br_model.specs.declared.transcript.Line.{Line}
use Rattle.br_model.specs.declared.steps.Step.TheVariants.{Turn}
use Rattle.br_model.specs.Control.Learning.{Address, Triple, is_news, teach}
use Rattle.br_model.specs.Control.Reaction.{Reaction}
use Rattle.br_model.specs.Data.Maps.{pair_cmp, get}
use Rattle.br_model.specs.Data.Numbers.{is_multicast}
use Rattle.br_model.specs.Plane.Chip.{Chip, applies, first_chip, hit_asked, hit_of, hits_entry, notes, offered, offers, report, report_of, same_triple}
use Rattle.br_model.specs.Plane.Runs.{run}
use Rattle.br_model.specs.Plane.Serving.{lets_go}
use Rattle.br_model.specs.Plane.Steps.{world_step}
use Rattle.br_model.specs.Plane.World.{World, Holding, Stepped, Waiting, answered, chip_at, first_world, next_of, reacts, table_of_chip, with_chip}
use Rattle.br_model.specs.Table.Change.{asks, deferred}
use Rattle.br_model.specs.Table.Cut.{deferred_count, deferred_of}
use Rattle.br_model.specs.Table.DomainPorts.{is_in_domain}
use Rattle.br_model.specs.Table.Domains.{chip_domains, domain_of, last_port}
use Rattle.br_model.specs.Table.Limits.{most_changes, most_reports}
use Rattle.br_model.specs.Table.Setup.{Setup}
use Rattle.br_model.specs.Table.Table.{Table, apply, start, table}
use Rattle.br_model.specs.Text.Declarations.{are_declared}
use Rattle.br_model.specs.Text.Operands.{is_byte, is_station}
use Rattle.br_model.specs.Text.Roster.{Entry, has_number}
use Rattle.br_model.specs.Text.ScenarioText.{has_line}
use Rattle.br_model.specs.Text.Spelling.{shown}
use Rattle.br_model.specs.Text.Words.{is_word}
use Rattle.br_model.specs.Theorems.Applied.{accepted_in}
use Rattle.br_model.specs.Theorems.Invariants.{IsWorld}
use Rattle.br_model.specs.Wire.Frames.{frame, head_of, number_at, tag_of, tag_type}
use Rattle.br_model.proofs.Data.Lists.{list_all-drop}
use Rattle.br_model.proofs.Plane.Growing.{few-deferred}
use Rattle.br_model.proofs.Plane.Chips.{chip-each, chip_of-at, put-all}
use Rattle.br_model.proofs.Plane.Kept.{first-world, step-world}
use Rattle.br_model.proofs.Plane.Stays.{step-accepts}
use Rattle.br_model.proofs.Plane.StepEnds.{by_chip, by_command, by_moment, by_post, by_report, by_serve, by_software, by_sweep, does-ends, Ends, ends_answered, ends_applied, ends_entered}
use Rattle.br_model.proofs.Plane.StepEnds.{ends_held, ends_idle, ends_published, ends_refused, ends_sent, ends_unread, Enters, finds_room, Joins, overruns, passes_by}
use Rattle.br_model.proofs.Text.WrittenLines.{frame_shown}
use Rattle.neigh_netlink.specs.declared.neigh.Neigh.{Neigh}
use Rattle.neigh_netlink.specs.Follow.{Ended, follows}
use Rattle.neigh_netlink.specs.Messages.{fits_port}
use Rattle.neigh_netlink.specs.Monitor.{accepted, gone_message, is_last, message_of, messages, messages_in, messages_of, monitors, offloads, put_message, turned}
use Rattle.neigh_netlink.specs.Offloaded.{entries_of}
use Rattle.neigh_netlink.specs.FollowedMessages.{is_whole, text_of}
use Rattle.neigh_netlink.proofs.FineChanges.{AllFine, Comes, IsFine, Leaves, Teaches, all-apply, apply-fine, both-fine, filter-all, is_entry, is_fine, is_vid, react-fine, start-fine, teach-so}
use Rattle.neigh_netlink.proofs.TakenRuns.{run-followed}

-- The source of a frame has 48 bits.

-- 256 times as much, so many times
abbrev up : ℕ → ℕ → ℕ
up zero m = m
up (suc k) m = up k (256 * m)

up-more : (k m : ℕ) → m ≤ up k m
up-more zero m = omega arith
up-more (suc k) m = let once : m ≤ 256 * m = omega arith in le_trans once (up-more k (256 * m))

spelled-below : (k : ℕ) (bytes : List ℕ) (n m : ℕ) → list_all is_byte bytes ≡ true → n < m → fold (λ n byte. 256 * n + byte) n (take k bytes) < up k m
spelled-below zero bytes n m are less = less
spelled-below (suc k) [] n m are less = lt_of_lt_of_le less (up-more (suc k) m)
spelled-below (suc k) (b ∷ bytes) n m are less =
    let small : b < 256 = ltb-true b 256 (first_so (is_byte b) _ are) in
    let next : 256 * n + b < 256 * m = omega (arith, less, small) in
    spelled-below k bytes (256 * n + b) (256 * m) (second_so (is_byte b) _ are) next

by_tests : (bytes : List ℕ) (short long tagged cut : Bool)
    → IfOk (if short then Err Short else if long then Err Long else if tagged then (if cut then Err TagShort else Ok (head_of bytes (Some (tag_of (number_at bytes 14 2))) 18))
    else Ok (head_of bytes None 14)) (λ (head : Head). head.src ≡ number_at bytes 6 6)
by_tests bytes true long tagged cut = tt
by_tests bytes false true tagged cut = tt
by_tests bytes false false true true = tt
by_tests bytes false false true false = refl
by_tests bytes false false false cut = refl

source-is : (bytes : List ℕ) (head : Head) → frame bytes ≡ Ok head → head.src ≡ number_at bytes 6 6
source-is bytes head e =
    IfOk-at_ok (λ (head : Head). head.src ≡ number_at bytes 6 6) e
    (by_tests bytes (nat_lt (length bytes) 14) (nat_lt 9022 (length bytes)) (number_at bytes 12 2 == tag_type) (nat_lt (length bytes) 18))

source-small : (bytes : List ℕ) (head : Head) → frame bytes ≡ Ok head → list_all is_byte (shown bytes) ≡ true → nat_lt head.src (2 ^ 48) ≡ true
source-small bytes head e are =
    ap (λ n. nat_lt n (2 ^ 48)) (source-is (shown bytes) head (frame_shown bytes ∙ e))
    ∙ lt-ltb (number_at (shown bytes) 6 6) (2 ^ 48) (spelled-below 6 (drop 6 (shown bytes)) 0 1 (list_all-drop is_byte 6 (shown bytes) are) (omega arith))

-- What is kept of frames: sources of 48 bits, and reports of stations.

abbrev has_source : Waiting → Bool
has_source f = nat_lt f.head.src (2 ^ 48)

abbrev holds_source : Holding → Bool
holds_source h = has_source h.waiting

abbrev is_told : Triple → Bool
is_told x = is_station x.1

abbrev Reported : Chip → Type 0
Reported c = list_all is_told c.reports ≡ true

record FineParts (h : List Change) (ws : List Waiting) (hs : List Holding) (cs : List Chip) : Type 0 where
  changes : AllFine h
  waits : list_all has_source ws ≡ true
  holds : list_all holds_source hs ≡ true
  reports : All Reported cs

abbrev FineWorld : World → Type 0
FineWorld w = FineParts w.history w.waiting w.held w.chips

none-reported : (ds : List ℕ) → AllByRecursion Reported (map first_chip ds)
none-reported [] = tt
none-reported (d ∷ ds) = (refl, none-reported ds)

first-fine : (setup : Setup) → FineWorld (first_world setup)
first-fine setup = record {
  changes = refl;
  waits = refl;
  holds = refl;
  reports = All-from_recursion Reported (map first_chip (chip_domains setup.domains)) (none-reported (chip_domains setup.domains));
}

-- chips

hit-reported : (o : Option Address) (c : Chip) → Reported c → Reported (hits_entry o c)
hit-reported None c h = h
hit-reported (Some key) c h = h

asked-reported : (c : Chip) (a : Asks) → Reported c → Reported (hit_asked c a)
asked-reported c Nothing h = h
asked-reported c (State state) h = h
asked-reported c (GroupRoom vid group) h = h
asked-reported c (AddressRoom vid mac) h = h

offered-reported : (c : Chip) (x : Triple) → is_told x ≡ true → Reported c → Reported (offered c x)
offered-reported c x told h =
    elim (list_any (same_triple x) c.reports || not (nat_lt (length c.reports) most_reports)) as (λ b. Reported (cond b c (record c { reports = c.reports ++ x ∷ [] }))) [
      | true ↦ h
      | false ↦ list_all-append is_told c.reports (x ∷ []) ∙ and_from _ _ h (and_from _ _ told refl)
    ]

offers-reported : (port : ℕ) (o : Option Address) (c : Chip) → IfSome o (λ key. is_station key.1 ≡ true) → Reported c → Reported (offers port o c)
offers-reported port None c told h = h
offers-reported port (Some key) c told h = offered-reported c (key.0, key.1, port) told h

report-so : (t : Table) (port : ℕ) (o : Option Address) → IfSome o (Teaches t port) → IfSome (report_of t port o) (λ key. is_station key.1 ≡ true)
report-so t port None teaches = tt
report-so t port (Some key) teaches = by (is_news t key port)
  where
    by : (b : Bool) → IfSome (if b then Some key else None) (λ key. is_station key.1 ≡ true)
    by true = teaches.0
    by false = tt

notes-reported : (t : Table) (port : ℕ) (head : Head) (c : Chip) → nat_lt head.src (2 ^ 48) ≡ true → Reported c → Reported (notes t port head c)
notes-reported t port head c small h =
    hit-reported (hit_of t port head) (offers port (report t port head) c)
    (offers-reported port (report t port head) c (report-so t port (teach t port head) (teach-so t port head small)) h)

chip-fine : (w : World) (c : Chip) → Reported c → FineWorld w → FineWorld (with_chip w c)
chip-fine w c h k = record { changes = k.changes; waits = k.waits; holds = k.holds; reports = put-all Reported w.chips c k.reports h }

-- a frame enters

enters-kept : {w : World} {port : ℕ} {bytes : List ℕ} {head : Head} {chips : List Chip} {f : Waiting} {first : List Line} {b : Bool} → Enters w port bytes head chips f first b
    → nat_lt head.src (2 ^ 48) ≡ true → All Reported w.chips → (has_source f ≡ true) × All Reported chips
enters-kept (by_software on) small reports = (small, reports)
enters-kept {w} {port} {bytes} {head} (by_chip c on) small reports =
    let at = chip_of-at w (domain_of w.setup.domains port) c on in
    let noted = notes-reported (table_of_chip w c) port head c small (chip-each Reported w.chips at.0 c reports at.2) in
    (small, put-all Reported w.chips (notes (table_of_chip w c) port head c) reports noted)

joins-kept : {held : List Holding} {waiting after : List Waiting} {f : Waiting} {b : Bool} {last : List Line} → Joins held waiting f b after last
    → has_source f ≡ true → list_all has_source waiting ≡ true → list_all has_source after ≡ true
joins-kept passes_by h all = all
joins-kept {held} {waiting} {after} {f} (finds_room room) h all = list_all-append has_source waiting (f ∷ []) ∙ and_from _ _ all (and_from _ _ h refl)
joins-kept (overruns full) h all = all

-- a held frame

find-all : (p q : Holding → Bool) (hs : List Holding) (h : Holding) → list_all q hs ≡ true → find p hs ≡ Some h → q h ≡ true
find-all p q [] h all e = absurd (cc)
find-all p q (x ∷ hs) h all e = by (p x) e (find-all p q hs h (second_so (q x) _ all))
  where
    by : (b : Bool) → cond b (Some x) (find p hs) ≡ Some h → (find p hs ≡ Some h → q h ≡ true) → q h ≡ true
    by true is later = ap q (sym (same_Some x h is)) ∙ first_so (q x) _ all
    by false is later = later is

-- Steps.

module _ (ports : List Entry) (all : are_declared ports ≡ true) where
  answered-fine : (w after : World) (e : Event) → Comes ports e → FineWorld w → FineWorld after → FineWorld (answered w after (reacts w e)).0
  answered-fine w after e comes k l = by (reacts w e) (react-fine ports all w.setup w.history w.control e comes k.changes)
    where
      by : (answer : Result Reaction Refusal) → Leaves answer → FineWorld (answered w after answer).0
      by (Err why) fine = k
      by (Ok r) fine = record { changes = both-fine after.history r.changes l.changes fine; waits = l.waits; holds = l.holds; reports = l.reports }

  ends-fine : (w : World) {step : Step} {y : Stepped} → Ends w step y → has_line ports step ≡ true → FineWorld w → FineWorld y.0
  ends-fine w (ends_refused why) h k = k
  ends-fine w (ends_unread port bytes why is) h k = k
  ends-fine w (ends_entered port bytes n) h k =
      let word : Bool = is_word (shown bytes) && list_all is_byte (shown bytes) in
      let are = second_so (is_word (shown bytes)) (list_all is_byte (shown bytes)) (first_so word true (second_so (has_number ports port) (word && true) h)) in
      let kept = enters-kept n.enters (source-small bytes n.head n.is are) k.reports in
      record { changes = k.changes; waits = joins-kept n.joins kept.0 k.waits; holds = k.holds; reports = kept.1 }
  ends-fine w (ends_held f later is) h k =
      let all : list_all has_source (f ∷ later) ≡ true = ap (list_all has_source) (sym is) ∙ k.waits in
      record {
        changes = k.changes;
        waits = second_so (has_source f) _ all;
        holds = list_all-append holds_source w.held (record { waiting = f; floor = w.published } ∷ []) ∙ and_from _ _ k.holds (and_from _ _ (first_so (has_source f) _ all) refl);
        reports = k.reports;
      }
  ends-fine w (ends_sent f held waiting point (by_serve g later is)) h k =
      let all : list_all has_source (f ∷ later) ≡ true = ap (list_all has_source) (sym is) ∙ k.waits in
      let v = record w { waiting = later } in
      let l : FineWorld v = record { changes = k.changes; waits = second_so (has_source f) _ all; holds = k.holds; reports = k.reports } in
      answered-fine v v (events.Sight f.port f.bytes f.head) (first_so (has_source f) _ all) l l
  ends-fine w (ends_sent f held waiting point (by_post id named g at is names decided)) h k =
      let v = lets_go w f.id in
      let l : FineWorld v = record {
        changes = k.changes;
        waits = k.waits;
        holds = filter-all holds_source (λ (x : Holding). not (x.waiting.id == f.id)) w.held k.holds;
        reports = k.reports;
      } in
      answered-fine v v (events.Sight f.port f.bytes f.head) (find-all (λ (x : Holding). x.waiting.id == id) holds_source w.held g k.holds is) l l
  ends-fine w (ends_applied dom c d at is) h k =
      chip-fine w (applies c d) (asked-reported (record c { count = c.count + 1 }) (asks d) (chip-each Reported w.chips dom c k.reports at)) k
  ends-fine w (ends_idle dom) h k = k
  ends-fine w (ends_answered chips e (by_command c)) h k = answered-fine w w e h k k
  ends-fine w (ends_answered chips e (by_moment moment)) h k = answered-fine w w e tt k k
  ends-fine w (ends_answered chips e (by_report dom c x later at is)) h k =
      let all : list_all is_told (x ∷ later) ≡ true = ap (list_all is_told) (sym is) ∙ chip-each Reported w.chips dom c k.reports at in
      answered-fine w (record w { chips = chips }) e (first_so (is_told x) _ all) k (chip-fine w (record c { reports = later }) (second_so (is_told x) _ all) k)
  ends-fine w (ends_answered chips e (by_sweep dom c at)) h k =
      answered-fine w (record w { chips = chips }) e tt k (chip-fine w (record c { hits = [] }) (chip-each Reported w.chips dom c k.reports at) k)
  ends-fine w ends_published h k = k

  step-fine : (w : World) (step : Step) → has_line ports step ≡ true → FineWorld w → FineWorld (world_step w step).0
  step-fine w step h k = let u = record w { steps = w.steps + 1 } in ends-fine u (does-ends u step) h k

-- Messages.

neither-of : (a b : Bool) → not (a || b) ≡ true → (not a ≡ true) × (not b ≡ true)
neither-of true b h = absurd (cc)
neither-of false b h = (refl, h)

whole-of : (m : Neigh) → m.ticket < most_changes → is_entry (m.vid, m.mac) (m.port, m.kind) ≡ true → (m.new || not m.offload) ≡ true → is_whole m ≡ true
whole-of m few entry says =
    let station : Bool = is_station m.mac && fits_port m.kind m.port in
    let low = first_so (is_vid m.vid) (nat_le m.port last_port && station) entry in
    let behind = second_so (is_vid m.vid) (nat_le m.port last_port && station) entry in
    let its = second_so (nat_le m.port last_port) station behind in
    let address = first_so (is_station m.mac) (fits_port m.kind m.port) its in
    let apart = neither-of (is_multicast m.mac) (m.mac == 0) (second_so (nat_lt m.mac (2 ^ 48)) (not (is_multicast m.mac || m.mac == 0)) address) in
    and_from _ _
    (and_from _ _ (first_so (nat_le 1 m.vid) (nat_le m.vid 4094) low)
    (and_from _ _ (second_so (nat_le 1 m.vid) (nat_le m.vid 4094) low) (first_so (nat_le m.port last_port) station behind)))
    (and_from _ _ (first_so (nat_lt m.mac (2 ^ 48)) (not (is_multicast m.mac || m.mac == 0)) address)
    (and_from _ _ (lt-ltb m.ticket most_changes few)
    (and_from _ _ apart.0 (and_from _ _ apart.1 (and_from _ _ (second_so (is_station m.mac) (fits_port m.kind m.port) its) says)))))

abbrev AreWhole : List Neigh → Type 0
AreWhole ms = list_all is_whole ms ≡ true

change-whole : (edition : Edition) (h : List Change) (c : Change) → IsFine (table h) → is_fine c ≡ true → deferred_count edition h < most_changes
    → AreWhole (option_to_list (message_of edition h c))
change-whole edition h (AddrPut v a p kind) f fine few = and_from _ _ (whole-of (put_message (deferred_count edition h) (v, a) (p, kind) false) few fine refl) refl
change-whole edition h (AddrDel v a) f fine few = by (get pair_cmp (table h).addr (v, a)) refl
  where
    by : (o : Option (ℕ × Kind)) → get pair_cmp (table h).addr (v, a) ≡ o → AreWhole (option_to_list (option_map (gone_message (deferred_count edition h) (v, a)) o))
    by None is = refl
    by (Some x) is = and_from _ _ (whole-of (gone_message (deferred_count edition h) (v, a) x) few (f.addr (v, a) x is) refl) refl
change-whole edition h c f fine few = refl

changes-whole : (edition : Edition) (cs h : List Change) → IsFine (table h) → AllFine cs → length h + length cs ≤ most_changes → AreWhole (messages_of edition h cs)
changes-whole edition [] h f fine few = refl
changes-whole edition (c ∷ later) h f fine few =
    let its = first_so (is_fine c) _ fine in
    let small : deferred_count edition h < most_changes = omega (arith, few, few-deferred edition h) in
    let less : length (h ++ c ∷ []) + length later ≤ most_changes = omega (arith, few, length-append h (c ∷ [])) in
    list_all-append is_whole (option_to_list (message_of edition h c)) (messages_of edition (h ++ c ∷ []) later)
    ∙ and_from _ _ (change-whole edition h c f its small)
    (changes-whole edition later (h ++ c ∷ []) (subst IsFine (sym (fold_push apply start h c)) (apply-fine (table h) c f its)) (second_so (is_fine c) _ fine) less)

get-fine : (cs : List Change) (i : ℕ) (x : Change) → AllFine cs → slice_get cs i ≡ Some x → is_fine x ≡ true
get-fine [] i x fine e = absurd (cc)
get-fine (c ∷ cs) zero x fine e = let same : c ≡ x = cc in ap (λ y. is_fine y) (sym same) ∙ first_so (is_fine c) _ fine
get-fine (c ∷ cs) (suc i) x fine e = get-fine cs i x (second_so (is_fine c) _ fine) e

offload-whole : (w : World) (c : Chip) (x : Change) → is_fine x ≡ true → c.count < most_changes → AreWhole (option_to_list (offloads w c x))
offload-whole w c (AddrPut v a p kind) fine few = by (is_in_domain w.setup.domains c.dom p && is_last w (v, a) c.count)
  where
    by : (b : Bool) → AreWhole (option_to_list (if b then Some (put_message c.count (v, a) (p, kind) true) else None))
    by true = and_from _ _ (whole-of (put_message c.count (v, a) (p, kind) true) few fine refl) refl
    by false = refl
offload-whole w c (AddrDel v a) fine few = refl
offload-whole w c x fine few = refl

turn-whole : (w : World) (o : Option Chip) → AllFine w.history → length w.history ≤ most_changes → AreWhole (option_to_list (turned w o))
turn-whole w None fine few = refl
turn-whole w (Some c) fine few = by (next_of w c) refl
  where
    by : (o : Option Change) → next_of w c ≡ o → AreWhole (option_to_list (option_and_then (offloads w c) o))
    by None next = refl
    by (Some x) next =
        let small : c.count < most_changes =
        omega (arith, few, few-deferred w.setup.domains.edition w.history, slice_get_within (deferred_of w.setup.domains.edition w.history) c.count x next) in
        offload-whole w c x
        (get-fine (deferred_of w.setup.domains.edition w.history) c.count x (filter-all is_fine (deferred w.setup.domains.edition) w.history fine) next)
        small

module _ (ports : List Entry) (all : are_declared ports ≡ true) where
  accepted-whole : (w : World) (step : Step) → has_line ports step ≡ true → IsWorld w → FineWorld w → AreWhole (accepted w step)
  accepted-whole w step line k f =
      let grows = step-accepts w step in
      let cs : List Change = grows.0 in
      let new : accepted_in w step ≡ cs = ap (drop (length w.history)) grows.1 ∙ drop-length w.history cs in
      let fine : AllFine (w.history ++ cs) = ap (list_all is_fine) (sym grows.1) ∙ (step-fine ports all w step line f).changes in
      let few : length w.history + length cs ≤ most_changes = omega (arith, (step-world w step k).history.few, ap length grows.1, length-append w.history cs) in
      ap (λ (l : List Change). list_all is_whole (messages_of w.setup.domains.edition w.history l)) new
      ∙ changes-whole w.setup.domains.edition cs w.history (all-apply start w.history start-fine f.changes)
      (second_so (list_all is_fine w.history) (list_all is_fine cs) (sym (list_all-append is_fine w.history cs) ∙ fine)) few

  step-whole : (w : World) (step : Step) → has_line ports step ≡ true → IsWorld w → FineWorld w → AreWhole (messages_in w step)
  step-whole w (Turn dom) h k f = turn-whole w (chip_at w dom) f.changes k.history.few
  step-whole w step h k f = accepted-whole w step h k f

  all-whole : (x : World × List Neigh) (steps : List Step) → list_all (has_line ports) steps ≡ true → IsWorld x.0 → FineWorld x.0 → AreWhole x.1
      → AreWhole (fold monitors x steps).1
  all-whole x [] lines k f so = so
  all-whole x (step ∷ steps) lines k f so =
      let line = first_so (has_line ports step) _ lines in
      all-whole (monitors x step) steps (second_so (has_line ports step) _ lines) (step-world x.0 step k) (step-fine ports all x.0 step line f)
      (list_all-append is_whole x.1 (messages_in x.0 step) ∙ and_from _ _ so (step-whole x.0 step line k f))

pub run-whole : (ports : List Entry) (setup : Setup) (steps : List Step) → are_declared ports ≡ true → list_all (has_line ports) steps ≡ true
    → list_all is_whole (messages setup steps) ≡ true
unfolding messages
run-whole ports setup steps all lines = all-whole ports all (first_world setup, []) steps lines (first-world setup) (first-fine setup) refl

pub lined-followed : (ports : List Entry) (setup : Setup) (steps : List Step) → are_declared ports ≡ true → list_all (has_line ports) steps ≡ true
    → follows (text_of (messages setup steps)) ≡ record { lines = length (messages setup steps) + 1; table = entries_of (run setup steps).0; ending = Ended }
lined-followed ports setup steps all lines = run-followed setup steps (run-whole ports setup steps all lines)
