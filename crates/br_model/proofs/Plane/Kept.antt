-- Each step keeps what holds of the world.
use Rattle.std.proofs.Common.{◌≡◌, ℕ, ◌+◌, ◌<◌, ◌≤◌, true, false, not, ◌&&◌, cond, Bool, List, [], ◌∷◌, ◌++◌, map, length, Option, None, Some, refl, sym, ap, ◌∙◌, arith, subst, append_assoc, length-append}
use Rattle.std.proofs.lemmas.Bool.{eqb-true, eqb-false, eq-eqb, ne_eqb, ltb-true, and_parts, or_parts, or_from, not-false}
use Rattle.std.proofs.lemmas.Cmp.{nat_eq_equiv}
use Rattle.std.proofs.lemmas.List.Elements.{All-nil, All-push, All-same, All-filter, All-weaker, All-from_recursion, recursion_from_All}
use Rattle.std.proofs.lemmas.List.Sums.{length-filter, count_by-le-length}
use Rattle.std.proofs.lemmas.List.{map-append}
use Rattle.std.proofs.lemmas.Map.Keys.{IsDistinct-push}
use Rattle.std.proofs.lemmas.Option.{slice_get_within}
use Rattle.std.specs.Prelude.{◌==◌, ◌||◌, nat_lt}
use Rattle.std.specs.Cmp.{IsEquivalence}
use Rattle.std.specs.List.{All, AllByRecursion, IsDistinct, filter, list_any}
use Rattle.std.specs.List.Sorted.{IsStrictlySortedBy}
use Rattle.std.specs.Option.{option_eq, option_map_or}
use Rattle.std.specs.Ordering.{nat_cmp}
use Rattle.std.specs.declared.result.Result.{Result}
use Rattle.std.specs.declared.result.Result.TheVariants.{Ok, Err}
use Rattle.br_model.specs.declared.change.Change.{Change}
use Rattle.br_model.specs.declared.change.Change.TheVariants.{AddrPut}
use Rattle.br_model.specs.declared.domains.Edition.{Edition}
use Rattle.br_model.specs.declared.frame.Class.{Class}
use Rattle.br_model.specs.declared.frame.Class.TheVariants.{Drop, Trap, Copy, Forward}
use Rattle.br_model.specs.declared.frame.Head.{Head}
use Rattle.br_model.specs.declared.steps.Event.{Event}
use Rattle.br_model.specs.declared.steps.Event.TheVariants as events
use Rattle.br_model.specs.declared.steps.Refusal.{Refusal}
use Rattle.br_model.specs.Plane.Chip.{Chip, same_triple, offered, offers, hit, hit_by, hits_entry, notes, report, hit_of, first_chip, applies}
use Rattle.br_model.specs.Table.Cut.{deferred_of}
use Rattle.br_model.specs.Table.Domains.{Domains, domain_of, chip_domains, has_chip}
use Rattle.br_model.specs.Wire.Frames.{frame}
use Rattle.br_model.specs.Control.Learning.{Address, Triple}
use Rattle.br_model.specs.Table.Limits.{most_reports, most_waiting}
use Rattle.br_model.specs.Data.Maps.{pair_cmp, has}
use Rattle.br_model.specs.Control.Reaction.{Reaction}
use Rattle.br_model.specs.Table.Setup.{Setup}
use Rattle.br_model.specs.Forward.Shares.{mark_of}
use Rattle.br_model.specs.Table.Table.{Table}
use Rattle.br_model.specs.Plane.ChipSteps.{reports}
use Rattle.br_model.specs.Plane.Entering.{class_of}
use Rattle.br_model.specs.Theorems.FrameLines.{entering}
use Rattle.br_model.specs.declared.transcript.Line.{Line}
use Rattle.br_model.specs.Theorems.Invariants.{frames_of, has_own_mark, IsFrame, FramesStand, ReportsStand, IsWorld, ChipStands}
use Rattle.br_model.specs.Plane.Steps.{publishes, world_step}
use Rattle.br_model.specs.declared.steps.Step.{Step}
use Rattle.br_model.specs.Plane.World.{World, Waiting, Holding, first_world, chip_at, next_of, table_of_chip, Stepped, accepts, answered, reacts, with_chip}
use Rattle.br_model.proofs.Plane.Applying.{deferred_count-append}
use Rattle.br_model.proofs.Data.PairKeys.{pair_total}
use Rattle.br_model.proofs.Plane.Chips.{CountsStay, chip-each, chip-own, chip_of-at, counts-same, doms, has-chip, put-all, put-counts, put-doms}
use Rattle.br_model.proofs.Plane.History.{Accepts, react-accepts}
use Rattle.br_model.proofs.Data.Lists.{Part, all-part, map-part, distinct-part, part-middle, part-filter, ascend-insert, ascend-push, last-push, first-push, has-push, last-has}
use Rattle.br_model.proofs.Plane.StepEnds.{Answers, by_command, by_moment, by_report, by_sweep, Ends, does-ends, ends_answered, ends_applied, ends_entered, ends_held, ends_idle, ends_published}
use Rattle.br_model.proofs.Plane.StepEnds.{ends_refused, ends_sent, ends_unread, Enters, by_chip, by_software, Entry, Joins, finds_room, overruns, passes_by, Leaves, by_post, by_serve}

doms-first : (ds : List ℕ) → doms (map first_chip ds) ≡ ds
doms-first [] = refl
doms-first (d ∷ ds) = ap (λ l. d ∷ l) (doms-first ds)

stand-first : (edition : Edition) (ds : List ℕ) → AllByRecursion (ChipStands edition []) (map first_chip ds)
unfolding IsStrictlySortedBy IsDistinct
stand-first edition [] = tt
stand-first edition (d ∷ ds) = (record { applied = omega arith; reports = record { ids = tt; few = omega arith }; hits = tt }, stand-first edition ds)

pub first-world : (setup : Setup) → IsWorld (first_world setup)
unfolding IsStrictlySortedBy IsDistinct
first-world setup = record {
  history = record { fits = refl; few = omega arith };
  counts = record { ascend = (tt, tt); first = refl; last = refl; within = omega arith };
  frames = record { frames = All-nil (IsFrame setup.domains 1); ids = tt; floors = All-nil (λ (h : Holding). has nat_cmp (0 ∷ []) h.floor ≡ true); few = omega arith };
  doms = doms-first (chip_domains setup.domains);
  chips = All-from_recursion (ChipStands setup.domains.edition []) (map first_chip (chip_domains setup.domains)) (stand-first setup.domains.edition (chip_domains setup.domains));
}

-- What is accepted.

accepted-world : (w : World) (r : Reaction) → IsWorld w → Accepts w.history (Ok r) → IsWorld (accepts w r)
accepted-world w r k fit = record {
  history = record { fits = fit.0; few = fit.1 };
  counts = record { ascend = k.counts.ascend; first = k.counts.first; last = k.counts.last; within = omega (arith, k.counts.within, length-append w.history r.changes) };
  frames = k.frames;
  doms = k.doms;
  chips = All-weaker (ChipStands w.setup.domains.edition w.history) (ChipStands w.setup.domains.edition (w.history ++ r.changes))
      (λ c is. record { applied = omega (arith, is.applied, deferred_count-append w.setup.domains.edition w.history r.changes); reports = is.reports; hits = is.hits }) w.chips k.chips;
}

answered-by : (before after : World) (answer : Result Reaction Refusal) → IsWorld before → IsWorld after → Accepts after.history answer → IsWorld (answered before after answer).0
answered-by before after (Err why) k l fit = k
answered-by before after (Ok r) k l fit = accepted-world after r l fit

-- after an event of the first world, which has the second one's history, domains and control state
answered-world : (before after : World) (e : Event) → IsWorld before → IsWorld after → after.history ≡ before.history → IsWorld (answered before after (reacts before e)).0
answered-world before after e k l same =
    answered-by before after (reacts before e) k l
    (subst (λ h. Accepts h (reacts before e)) (sym same) (react-accepts before.history before.setup before.control e k.history.fits))

-- What the chip keeps.

pub record ChipKeeps (c d : Chip) : Type 0 where
  pub dom : d.dom ≡ c.dom
  pub count : d.count ≡ c.count
  pub reports : ReportsStand c.reports → ReportsStand d.reports
  pub hits : IsStrictlySortedBy pair_cmp c.hits → IsStrictlySortedBy pair_cmp d.hits

keeps : (c : Chip) → ChipKeeps c c
keeps c = record { dom = refl; count = refl; reports = λ h. h; hits = λ h. h }

same-parts : (x y : Triple) → same_triple x y ≡ true → (x.0 ≡ y.0) × (x.1 ≡ y.1) × (x.2 ≡ y.2)
same-parts x y h =
    let a = and_parts (x.0 == y.0) (x.1 == y.1 && x.2 == y.2) h in
    let b = and_parts (x.1 == y.1) (x.2 == y.2) a.1 in
    (eqb-true x.0 y.0 a.0, eqb-true x.1 y.1 b.0, eqb-true x.2 y.2 b.1)

same_triple-equivalence : IsEquivalence same_triple
same_triple-equivalence = record {
  refl = λ x i. nat_eq_equiv.refl x.0 i && (nat_eq_equiv.refl x.1 i && nat_eq_equiv.refl x.2 i);
  symm = λ x y i. nat_eq_equiv.symm x.0 y.0 i && (nat_eq_equiv.symm x.1 y.1 i && nat_eq_equiv.symm x.2 y.2 i);
  congr = λ x y z h. let e = same-parts x y h in λ i. e.0 i == z.0 && (e.1 i == z.1 && e.2 i == z.2);
}

offered-keeps : (c : Chip) (x : Triple) → ChipKeeps c (offered c x)
offered-keeps c x =
    (elim (list_any (same_triple x) c.reports || not (nat_lt (length c.reports) most_reports)) as
    (λ b. (list_any (same_triple x) c.reports || not (nat_lt (length c.reports) most_reports)) ≡ b → ChipKeeps c (cond b c (record c { reports = c.reports ++ x ∷ [] }))) [
      | true ↦ λ e. keeps c
      | false ↦ λ e.
          let parts = or_parts (list_any (same_triple x) c.reports) (not (nat_lt (length c.reports) most_reports)) e in
          let less = ltb-true (length c.reports) most_reports (not-false _ parts.1) in
          record {
            dom = refl;
            count = refl;
            reports = λ h. record { ids = IsDistinct-push same_triple-equivalence c.reports x h.ids parts.0; few = omega (arith, less, length-append c.reports (x ∷ [])) };
            hits = λ h. h;
          }
    ]) refl

offers-keeps : (port : ℕ) (o : Option Address) (c : Chip) → ChipKeeps c (offers port o c)
offers-keeps port None c = keeps c
offers-keeps port (Some key) c = offered-keeps c (key.0, key.1, port)

hit-keeps : (c : Chip) (key : Address) → ChipKeeps c (hit c key)
hit-keeps c key = record { dom = refl; count = refl; reports = λ h. h; hits = λ h. ascend-insert pair_cmp pair_total key c.hits h }

hits_entry-keeps : (o : Option Address) (c : Chip) → ChipKeeps c (hits_entry o c)
hits_entry-keeps None c = keeps c
hits_entry-keeps (Some key) c = hit-keeps c key

pub hit_by-keeps : (c : Chip) (d : Change) → ChipKeeps c (hit_by c d)
hit_by-keeps c (AddrPut vid mac port kind) = hit-keeps c (vid, mac)
hit_by-keeps c d = keeps c

pub notes-keeps : (t : Table) (port : ℕ) (head : Head) (c : Chip) → ChipKeeps c (notes t port head c)
notes-keeps t port head c =
    let a = offers-keeps port (report t port head) c in
    let b = hits_entry-keeps (hit_of t port head) (offers port (report t port head) c) in
    record { dom = b.dom ∙ a.dom; count = b.count ∙ a.count; reports = λ h. b.reports (a.reports h); hits = λ h. b.hits (a.hits h) }

-- a chip that stands takes the place of that of its domain
chip-world : (w : World) (c : Chip) → ChipStands w.setup.domains.edition w.history c → IsWorld w → IsWorld (with_chip w c)
chip-world w c stands k = record {
  history = k.history;
  counts = k.counts;
  frames = k.frames;
  doms = put-doms w.chips c ∙ k.doms;
  chips = put-all (ChipStands w.setup.domains.edition w.history) w.chips c k.chips stands;
}

kept-stands : (edition : Edition) (history : List Change) (c d : Chip) → ChipKeeps c d → ChipStands edition history c → ChipStands edition history d
kept-stands edition history c d keep k = record { applied = omega (arith, keep.count, k.applied); reports = keep.reports k.reports; hits = keep.hits k.hits }

pub chip-stands : (w : World) (dom : ℕ) (c : Chip) → IsWorld w → chip_at w dom ≡ Some c → ChipStands w.setup.domains.edition w.history c
chip-stands w dom c k e = chip-each (ChipStands w.setup.domains.edition w.history) w.chips dom c k.chips e

-- Frames that wait or are held.

module _ {domains : Domains} {counts : List ℕ} {held : List Holding} {waiting : List Waiting} {next : ℕ} (k : FramesStand domains counts held waiting next) where
  none-same : (id : ℕ) (fs : List Waiting) → AllByRecursion (λ f. f.id < id) fs → list_any (λ y. id == y) (map (λ f. f.id) fs) ≡ false
  none-same id [] h = refl
  none-same id (f ∷ fs) h = or_from _ _ (ne_eqb id f.id (λ e. omega (arith, h.0, e))) (none-same id fs h.1)

  frames-push : (f : Waiting) → IsFrame domains next f → All (λ g. g.id < f.id) (frames_of held waiting) → length waiting + length held < most_waiting
      → FramesStand domains counts held (waiting ++ f ∷ []) next
  frames-push f is fresh room =
      let pushed : frames_of held (waiting ++ f ∷ []) ≡ frames_of held waiting ++ f ∷ [] = sym (append_assoc (map (λ (h : Holding). h.waiting) held) waiting (f ∷ [])) in
      record {
        frames = All-same (IsFrame domains next) _ _ pushed (All-push (IsFrame domains next) (frames_of held waiting) f k.frames is);
        ids = subst (λ l. IsDistinct (◌==◌) l) (sym (ap (map (λ (g : Waiting). g.id)) pushed ∙ map-append _ (frames_of held waiting) (f ∷ [])))
            (IsDistinct-push nat_eq_equiv (map (λ (g : Waiting). g.id) (frames_of held waiting)) f.id k.ids (none-same f.id (frames_of held waiting) (recursion_from_All _ _ fresh)));
        floors = k.floors;
        few = omega (arith, room, length-append waiting (f ∷ []));
      }

  frames-part : (held' : List Holding) (waiting' : List Waiting) → Part (frames_of held' waiting') (frames_of held waiting) → All (λ h. has nat_cmp counts h.floor ≡ true) held'
      → length waiting' + length held' ≤ length waiting + length held → FramesStand domains counts held' waiting' next
  frames-part held' waiting' part floors few = record {
    frames = all-part (IsFrame domains next) _ _ part k.frames;
    ids = distinct-part (◌==◌) (map-part (λ (f : Waiting). f.id) part) k.ids;
    floors = floors;
    few = omega (arith, few, k.few);
  }

  frames-next : FramesStand domains counts held waiting (next + 1)
  frames-next = record {
    frames = All-weaker (IsFrame domains next) (IsFrame domains (next + 1)) (λ f is. record { id = omega (arith, is.id); head = is.head; mark = is.mark }) _ k.frames;
    ids = k.ids;
    floors = k.floors;
    few = k.few;
  }

  frames-published : (n : ℕ) → FramesStand domains (counts ++ n ∷ []) held waiting next
  frames-published n = record {
    frames = k.frames;
    ids = k.ids;
    floors = All-weaker (λ (h : Holding). has nat_cmp counts h.floor ≡ true) (λ (h : Holding). has nat_cmp (counts ++ n ∷ []) h.floor ≡ true) (λ h is. has-push h.floor n counts is) held k.floors;
    few = k.few;
  }

frames-hold : {domains : Domains} {counts : List ℕ} {held : List Holding} {f : Waiting} {later : List Waiting} {next : ℕ} (floor : ℕ) → FramesStand domains counts held (f ∷ later) next
    → has nat_cmp counts floor ≡ true → FramesStand domains counts (held ++ record { waiting = f; floor = floor } ∷ []) later next
frames-hold {domains} {counts} {held} {f} {later} {next} floor k point =
    let moved = held-moves held (record { waiting = f; floor = floor }) later in
    record {
      frames = All-same (IsFrame domains next) _ _ moved k.frames;
      ids = subst (λ l. IsDistinct (◌==◌) (map (λ (g : Waiting). g.id) l)) (sym moved) k.ids;
      floors = All-push (λ (h : Holding). has nat_cmp counts h.floor ≡ true) held _ k.floors point;
      few = omega (arith, k.few, length-append held (record { waiting = f; floor = floor } ∷ []));
    }
  where
    held-moves : (hs : List Holding) (h : Holding) (fs : List Waiting) → frames_of (hs ++ h ∷ []) fs ≡ frames_of hs (h.waiting ∷ fs)
    held-moves [] h fs = refl
    held-moves (g ∷ hs) h fs = ap (λ l. g.waiting ∷ l) (held-moves hs h fs)

-- A frame enters.

class-mark : (class : Class) (domains : Domains) (f : Waiting) (dom : ℕ) → domain_of domains f.port ≡ Some dom → has_chip domains dom ≡ true
    → has_own_mark domains (record f { mark = mark_of class domains f.port }) ≡ true
class-mark Drop domains f dom on there = refl
class-mark Trap domains f dom on there = refl
class-mark Copy domains f dom on there =
    ap (λ o. option_map_or (λ mark. has_chip domains mark && option_eq (λ x y. x == y) o (Some mark)) o true) on
    ∙ (λ i. there i && eq-eqb dom dom refl i)
class-mark Forward domains f dom on there = refl

module _ (w : World) (port : ℕ) (bytes : List ℕ) (head : Head) where
  pub enters-id : {chips : List Chip} {f : Waiting} {first : List Line} {b : Bool} → Enters w port bytes head chips f first b → f.id ≡ w.next
  enters-id (by_software on) = refl
  enters-id (by_chip c on) = refl

  enters-chips : {chips : List Chip} {f : Waiting} {first : List Line} {b : Bool} → Enters w port bytes head chips f first b → IsWorld w → IsWorld (record w { chips = chips })
  enters-chips (by_software on) k = k
  enters-chips (by_chip c on) k =
      let at = chip_of-at w (domain_of w.setup.domains port) c on in
      let d = notes (table_of_chip w c) port head c in
      chip-world w d (kept-stands w.setup.domains.edition w.history c d (notes-keeps (table_of_chip w c) port head c) (chip-stands w at.0 c k at.2)) k

  pub enters-counts : {chips : List Chip} {f : Waiting} {first : List Line} {b : Bool} → Enters w port bytes head chips f first b → CountsStay w.chips chips
  enters-counts (by_software on) = counts-same w.chips
  enters-counts (by_chip c on) =
      let at = chip_of-at w (domain_of w.setup.domains port) c on in
      let keep = notes-keeps (table_of_chip w c) port head c in
      put-counts w.chips c (notes (table_of_chip w c) port head c) (chip-own w.chips at.0 c at.2) keep.dom keep.count

  enters-frame : {chips : List Chip} {f : Waiting} {first : List Line} {b : Bool} → Enters w port bytes head chips f first b → frame bytes ≡ Ok head → IsWorld w → IsFrame w.setup.domains (w.next + 1) f
  enters-frame (by_software on) is k = record { id = omega arith; head = is; mark = refl }
  enters-frame (by_chip c on) is k =
      let at = chip_of-at w (domain_of w.setup.domains port) c on in
      let f = entering w port bytes head in
      record { id = omega arith; head = is; mark = class-mark (class_of w c f) w.setup.domains f at.0 at.1 (has-chip w.setup.domains w.chips at.0 c k.doms at.2) }

joins-frames : {domains : Domains} {counts : List ℕ} {next : ℕ} (held : List Holding) (waiting : List Waiting) (f : Waiting) {b : Bool} {after : List Waiting} {last : List Line}
    → Joins held waiting f b after last → FramesStand domains counts held waiting next → IsFrame domains next f → All (λ g. g.id < f.id) (frames_of held waiting)
    → FramesStand domains counts held after next
joins-frames held waiting f passes_by k is fresh = k
joins-frames held waiting f (finds_room room) k is fresh = frames-push k f is fresh (ltb-true _ _ room)
joins-frames held waiting f (overruns full) k is fresh = k

numbered-world : (w : World) → IsWorld w → IsWorld (record w { next = w.next + 1 })
numbered-world w k = record { history = k.history; counts = k.counts; frames = frames-next k.frames; doms = k.doms; chips = k.chips }

entry-world : (w : World) (port : ℕ) (bytes : List ℕ) (n : Entry w port bytes) → IsWorld w → IsWorld (record w { next = w.next + 1; chips = n.chips; waiting = n.waiting })
entry-world w port bytes n k =
    let x = numbered-world (record w { chips = n.chips }) (enters-chips w port bytes n.head n.enters k) in
    let fresh = All-weaker (IsFrame w.setup.domains w.next) (λ (g : Waiting). g.id < n.entered.id)
    (λ g is. omega (arith, is.id, enters-id w port bytes n.head n.enters)) (frames_of w.held w.waiting) k.frames.frames in
    record { history = x.history; counts = x.counts; frames = joins-frames w.held w.waiting n.entered n.joins x.frames (enters-frame w port bytes n.head n.enters n.is k) fresh; doms = x.doms; chips = x.chips }

-- A frame is sent, or held.

leaves-world : (w : World) {step : Step} {f : Waiting} {floor : Option ℕ} {held : List Holding} {waiting : List Waiting} {point : ℕ}
    → Leaves w step f floor held waiting point → IsWorld w → IsWorld (record w { held = held; waiting = waiting })
leaves-world w (by_serve f later is) k = record {
  history = k.history;
  counts = k.counts;
  frames =
      let frames = subst (λ l. FramesStand w.setup.domains w.counts w.held l w.next) is k.frames in
      frames-part frames w.held later (part-middle (map (λ (h : Holding). h.waiting) w.held) f later) frames.floors (omega arith);
  doms = k.doms;
  chips = k.chips;
}
leaves-world w (by_post i named h point is names decided) k =
    let id = h.waiting.id in
    record {
      history = k.history;
      counts = k.counts;
      frames =
          frames-part k.frames (filter (λ h. not (h.waiting.id == id)) w.held) w.waiting (part-filter (λ (h : Holding). h.waiting) (λ h. not (h.waiting.id == id)) w.held w.waiting)
          (All-filter (λ (h : Holding). not (h.waiting.id == id)) (λ (h : Holding). has nat_cmp w.counts h.floor ≡ true) w.held k.frames.floors)
          (omega (arith, length-filter (λ (h : Holding). not (h.waiting.id == id)) w.held, count_by-le-length (λ (h : Holding). not (h.waiting.id == id)) w.held));
      doms = k.doms;
      chips = k.chips;
    }

-- A chip takes the place of that of its domain: it has applied a change, was told of, or was swept.

turned-world : (w : World) (dom : ℕ) (c : Chip) (d : Change) → chip_at w dom ≡ Some c → next_of w c ≡ Some d → IsWorld w → IsWorld (with_chip w (applies c d))
turned-world w dom c d at e k =
    let keep = hit_by-keeps (record c { count = c.count + 1 }) d in
    let stands = chip-stands w dom c k at in
    chip-world w (applies c d) (record {
      applied = omega (arith, keep.count, slice_get_within (deferred_of w.setup.domains.edition w.history) c.count d e);
      reports = keep.reports stands.reports;
      hits = keep.hits stands.hits;
    }) k

fewer-reports : (x : Triple) (later : List Triple) → ReportsStand (x ∷ later) → ReportsStand later
unfolding IsDistinct
fewer-reports x later k = record { ids = k.ids.1; few = omega (arith, k.few) }

unhit-stands : (edition : Edition) (history : List Change) (c : Chip) → ChipStands edition history c → ChipStands edition history (record c { hits = [] })
unfolding IsStrictlySortedBy
unhit-stands edition history c k = record { applied = k.applied; reports = k.reports; hits = tt }

module _ (w : World) where
  answers-world : {step : Step} {chips : List Chip} {e : Event} → Answers w step chips e → IsWorld w → IsWorld (record w { chips = chips })
  answers-world (by_command c) k = k
  answers-world (by_moment moment) k = k
  answers-world (by_report dom c x later at is) k =
      let stands = chip-stands w dom c k at in
      chip-world w (record c { reports = later }) (record { applied = stands.applied; reports = fewer-reports x later (subst ReportsStand is stands.reports); hits = stands.hits }) k
  answers-world (by_sweep dom c at) k = chip-world w (record c { hits = [] }) (unhit-stands w.setup.domains.edition w.history c (chip-stands w dom c k at)) k

  pub answers-counts : {step : Step} {chips : List Chip} {e : Event} → Answers w step chips e → CountsStay w.chips chips
  answers-counts (by_command c) = counts-same w.chips
  answers-counts (by_moment moment) = counts-same w.chips
  answers-counts (by_report dom c x later at is) = put-counts w.chips c (record c { reports = later }) (chip-own w.chips dom c at) refl refl
  answers-counts (by_sweep dom c at) = put-counts w.chips c (record c { hits = [] }) (chip-own w.chips dom c at) refl refl

publishes-world : (w : World) → IsWorld w → IsWorld (publishes w (length w.history))
publishes-world w k =
    let n = length w.history in
    (elim (n == w.published) as (λ b. (n == w.published) ≡ b → IsWorld (record w { published = n; counts = cond b w.counts (w.counts ++ n ∷ []) })) [
      | true ↦ λ e. record {
        history = k.history;
        counts = record { ascend = k.counts.ascend; first = k.counts.first; last = k.counts.last ∙ ap (λ m. Some m) (sym (eqb-true n w.published e)); within = omega arith };
        frames = k.frames;
        doms = k.doms;
        chips = k.chips;
      }
      | false ↦ λ e.
          let less : w.published < n = omega (arith, k.counts.within, eqb-false n w.published e) in
          record {
            history = k.history;
            counts = record {
              ascend = ascend-push n w.published w.counts less k.counts.ascend k.counts.last;
              first = first-push 0 n w.counts k.counts.first;
              last = last-push None n w.counts;
              within = omega arith;
            };
            frames = frames-published k.frames n;
            doms = k.doms;
            chips = k.chips;
          }
    ]) refl

-- Each step.

pub counted-world : (w : World) → IsWorld w → IsWorld (record w { steps = w.steps + 1 })
counted-world w k = record { history = k.history; counts = k.counts; frames = k.frames; doms = k.doms; chips = k.chips }

ends-world : (w : World) {step : Step} {y : Stepped} → Ends w step y → IsWorld w → IsWorld y.0
ends-world w (ends_refused why) k = k
ends-world w (ends_unread port bytes why is) k = numbered-world w k
ends-world w (ends_entered port bytes n) k = entry-world w port bytes n k
ends-world w (ends_held f later is) k = record {
  history = k.history;
  counts = k.counts;
  frames = frames-hold w.published (subst (λ l. FramesStand w.setup.domains w.counts w.held l w.next) is k.frames) (last-has w.published w.counts k.counts.last);
  doms = k.doms;
  chips = k.chips;
}
ends-world w (ends_sent f held waiting point leaves) k =
    let v = record w { held = held; waiting = waiting } in
    let l = leaves-world w leaves k in
    answered-world v v (events.Sight f.port f.bytes f.head) l l refl
ends-world w (ends_applied dom c d at is) k = turned-world w dom c d at is k
ends-world w (ends_idle dom) k = k
ends-world w (ends_answered chips e answers) k = answered-world w (record w { chips = chips }) e k (answers-world w answers k) refl
ends-world w ends_published k = publishes-world w k

pub step-world : (w : World) (step : Step) → IsWorld w → IsWorld (world_step w step).0
step-world w step k = let u = record w { steps = w.steps + 1 } in ends-world u (does-ends u step) (counted-world w k)
