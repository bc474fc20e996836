-- A run has few messages: one at most for each change, and one more for a deferred change, since a port is of one chip.
use Rattle.std.proofs.Common.{◌≡◌, ℕ, zero, suc, ◌+◌, ◌*◌, ◌<◌, ◌≤◌, ◌==◌, nat_lt, Bool, true, false, cond, ◌&&◌, Some, None, Option, List, [], ◌∷◌, ◌++◌, length, drop, slice_get}
use Rattle.std.proofs.Common.{refl, sym, ap, subst, ◌∙◌, arith, length-append, le_trans, ltb-false}
use Rattle.std.specs.Prelude.{if◌then◌else◌, codes, is_some}
use Rattle.std.specs.Cmp.{first_so}
use Rattle.std.specs.List.{flat_map, fold, list_any}
use Rattle.std.specs.Option.{option_and_then, option_eq, option_map_or, option_to_list}
use Rattle.std.proofs.lemmas.Bool.{eqb-true, le-ltb, lt-ltb, ltb-true}
use Rattle.std.proofs.lemmas.List.{length-take}
use Rattle.std.proofs.lemmas.List.Elements.{filter-append}
use Rattle.std.proofs.lemmas.Option.{same_Some}
use Rattle.lemmas.proofs.Lists.{drop-length}
use Rattle.br_model.specs.declared.change.Change.{Change}
use Rattle.br_model.specs.declared.change.Kind.{Kind}
use Rattle.br_model.specs.declared.domains.Edition.{Edition}
use Rattle.br_model.specs.declared.steps.Step.{Step}
use Rattle.br_model.specs.declared.steps.Step.TheVariants.{Turn}
use Rattle.br_model.specs.Data.Digits.{hex_of}
use Rattle.br_model.specs.Plane.Chip.{Chip, applies}
use Rattle.br_model.specs.Plane.ChipSteps.{turns, turns_to}
use Rattle.br_model.specs.Plane.Steps.{world_step}
use Rattle.br_model.specs.Plane.World.{World, chip_at, first_world, next_of}
use Rattle.br_model.specs.Table.Change.{address_part, deferred}
use Rattle.br_model.specs.Table.Cut.{cut, deferred_of}
use Rattle.br_model.specs.Table.DomainPorts.{is_in_domain}
use Rattle.br_model.specs.Table.Domains.{Domains, chip_domains, domain_of}
use Rattle.br_model.specs.Table.Limits.{most_bytes, most_changes}
use Rattle.br_model.specs.Table.Setup.{Setup}
use Rattle.br_model.specs.Theorems.Applied.{accepted_in, applied_in}
use Rattle.br_model.specs.Theorems.Invariants.{IsWorld}
use Rattle.br_model.proofs.Plane.Applying.{deferred_count-append}
use Rattle.br_model.proofs.Table.Cuts.{deferred_of-cut, synchronous_of-cut}
use Rattle.br_model.proofs.Plane.Growing.{few-deferred}
use Rattle.br_model.proofs.Plane.Applied.{Applies, AppliesAt, step-applies, step-setup}
use Rattle.br_model.proofs.Plane.Chips.{chip-own, chip-there, put-same}
use Rattle.br_model.proofs.Plane.Kept.{ChipKeeps, chip-stands, first-world, hit_by-keeps, step-world}
use Rattle.br_model.proofs.Plane.Stays.{step-accepts}
use Rattle.br_model.proofs.Plane.Still.{turn-history}
use Rattle.br_model.proofs.Data.Hex.{length-hex_of}
use Rattle.neigh_netlink.specs.declared.neigh.Neigh.{Neigh}
use Rattle.neigh_netlink.specs.Messages.{written}
use Rattle.neigh_netlink.specs.Monitor.{accepted, is_last, message_line, message_of, messages, messages_in, messages_of, monitors, offload_message, offloads, put_message, turned}
use Rattle.neigh_netlink.specs.Neighbours.{Key}
use Rattle.neigh_netlink.proofs.Kept.{one-message}
use Rattle.neigh_netlink.specs.FollowedMessages.{text_of}
use Rattle.neigh_netlink.proofs.Messages.{few-bytes}

-- Deferred changes that the chips of their ports have applied.

module _ (domains : Domains) where
  -- the domain of the port at which a change puts an entry
  abbrev home : Change → Option ℕ
  home c = option_and_then (λ p. option_and_then (λ e. domain_of domains e.0) p.1) (address_part c)

  -- whether the chip of the domain has applied so many that it has that of this ticket
  abbrev has_it : (ℕ → ℕ) → ℕ → Option ℕ → Bool
  has_it counts ticket None = false
  has_it counts ticket (Some dom) = nat_lt ticket (counts dom)

  -- how many of these changes, the first of which has this ticket
  abbrev homed : (ℕ → ℕ) → ℕ → List Change → ℕ
  homed counts ticket [] = 0
  homed counts ticket (c ∷ cs) = cond (has_it counts ticket (home c)) 1 0 + homed counts (suc ticket) cs

  homed-few : (counts : ℕ → ℕ) (ticket : ℕ) (cs : List Change) → homed counts ticket cs ≤ length cs
  homed-few counts ticket [] = omega arith
  homed-few counts ticket (c ∷ cs) = by (has_it counts ticket (home c)) (homed-few counts (suc ticket) cs)
    where
      by : (b : Bool) → homed counts (suc ticket) cs ≤ length cs → cond b 1 0 + homed counts (suc ticket) cs ≤ length (c ∷ cs)
      by true less = omega (arith, less)
      by false less = omega (arith, less)

  homed-longer : (counts : ℕ → ℕ) (ticket : ℕ) (cs ds : List Change) → homed counts ticket cs ≤ homed counts ticket (cs ++ ds)
  homed-longer counts ticket [] ds = omega arith
  homed-longer counts ticket (c ∷ cs) ds = omega (arith, homed-longer counts (suc ticket) cs ds)

  module _ (counts more : ℕ → ℕ) (up : (dom : ℕ) → counts dom ≤ more dom) where
    has-up : (ticket : ℕ) (o : Option ℕ) → cond (has_it counts ticket o) 1 0 ≤ cond (has_it more ticket o) 1 0
    has-up ticket None = omega arith
    has-up ticket (Some dom) = by (nat_lt ticket (counts dom)) (nat_lt ticket (more dom)) refl refl
      where
        by : (a b : Bool) → nat_lt ticket (counts dom) ≡ a → nat_lt ticket (more dom) ≡ b → cond a 1 0 ≤ cond b 1 0
        by true true before after = omega arith
        by true false before after = absurd (omega (arith, up dom, ltb-true ticket (counts dom) before, ltb-false ticket (more dom) after))
        by false true before after = omega arith
        by false false before after = omega arith

    homed-up : (ticket : ℕ) (cs : List Change) → homed counts ticket cs ≤ homed more ticket cs
    homed-up ticket [] = omega arith
    homed-up ticket (c ∷ cs) = omega (arith, has-up ticket (home c), homed-up (suc ticket) cs)

    -- one of them, where its chip applies it
    homed-raised : (ticket place : ℕ) (cs : List Change) (c : Change) (dom : ℕ) → slice_get cs place ≡ Some c → home c ≡ Some dom → counts dom ≡ ticket + place → ticket + place < more dom
        → homed counts ticket cs + 1 ≤ homed more ticket cs
    homed-raised ticket place [] c dom there at low high = absurd (cc)
    homed-raised ticket zero (d ∷ cs) c dom there at low high =
        let same : d ≡ c = cc in
        let here : home d ≡ Some dom = ap home same ∙ at in
        let before : has_it counts ticket (home d) ≡ false = ap (has_it counts ticket) here ∙ le-ltb ticket (counts dom) (omega (arith, low)) in
        let after : has_it more ticket (home d) ≡ true = ap (has_it more ticket) here ∙ lt-ltb ticket (more dom) (omega (arith, high)) in
        omega (arith, ap {B = ℕ} (λ b. cond b 1 0) before, ap {B = ℕ} (λ b. cond b 1 0) after, homed-up (suc ticket) cs)
    homed-raised ticket (suc place) (d ∷ cs) c dom there at low high =
        omega (arith, has-up ticket (home d), homed-raised (suc ticket) place cs c dom there at (omega (arith, low)) (omega (arith, high)))

-- Worlds.

abbrev edition_of : World → Edition
edition_of w = w.setup.domains.edition

abbrev counts_in : World → ℕ → ℕ
counts_in w dom = option_map_or (λ (c : Chip). c.count) (chip_at w dom) 0

-- no chip takes back what it has applied
count-up : (w : World) (step : Step) → IsWorld w → (dom : ℕ) → counts_in w dom ≤ counts_in (world_step w step).0 dom
count-up w step k dom = by (chip_at w dom) (chip_at (world_step w step).0 dom) refl refl
  where
    same-chips : is_some (chip_at (world_step w step).0 dom) ≡ is_some (chip_at w dom)
    same-chips =
        chip-there (world_step w step).0.chips dom
        ∙ ap (list_any (λ d. d == dom)) ((step-world w step k).doms ∙ ap (λ (s : Setup). chip_domains s.domains) (step-setup w step) ∙ sym k.doms)
        ∙ sym (chip-there w.chips dom)

    both : (b c : Chip) → chip_at w dom ≡ Some b → chip_at (world_step w step).0 dom ≡ Some c → b.count ≤ c.count
    both b c before after =
        let front = cut (edition_of w) w.history b.count in
        let applies : AppliesAt dom w front = λ x at. subst (λ (y : Chip). Applies (edition_of w) w.history y.count front) (same_Some b x (sym before ∙ at))
        (record { table = refl; synchronous = synchronous_of-cut (edition_of w) w.history b.count; deferred = deferred_of-cut (edition_of w) w.history b.count }) in
        let now = subst (λ (s : Setup). Applies s.domains.edition (world_step w step).0.history c.count (front ++ applied_in dom w step)) (step-setup w step)
        (step-applies w dom front step k applies c after) in
        omega (
          arith,
          ap length now.deferred,
          deferred_count-append (edition_of w) front (applied_in dom w step),
          ap length (deferred_of-cut (edition_of w) w.history b.count),
          length-take b.count (deferred_of (edition_of w) w.history),
          length-take c.count (deferred_of (edition_of w) (world_step w step).0.history),
          (chip-stands w dom b k before).applied,
        )

    by : (o p : Option Chip) → chip_at w dom ≡ o → chip_at (world_step w step).0 dom ≡ p → option_map_or (λ (c : Chip). c.count) o 0 ≤ option_map_or (λ (c : Chip). c.count) p 0
    by None p before after = omega arith
    by (Some b) None before after = let e = ap is_some (sym after) ∙ same-chips ∙ ap is_some before in absurd (cc)
    by (Some b) (Some c) before after = both b c before after

-- A chip applies a deferred change.

in-domain : (o : Option ℕ) (dom : ℕ) → option_eq (λ x y. x == y) o (Some dom) ≡ true → o ≡ Some dom
in-domain None dom is = absurd (cc)
in-domain (Some d) dom is = ap (λ n. Some n) (eqb-true d dom is)

module _ (w : World) (dom : ℕ) (c : Chip) (there : chip_at w dom ≡ Some c) (x : Change) (next : next_of w c ≡ Some x) where
  abbrev after : World
  after = (turns_to (record w { steps = w.steps + 1 }) c (Some x)).0

  abbrev changes : List Change
  changes = deferred_of (edition_of w) w.history

  keep : ChipKeeps (record c { count = c.count + 1 }) (applies c x)
  keep = hit_by-keeps (record c { count = c.count + 1 }) x

  count-before : counts_in w c.dom ≡ c.count
  count-before = ap (λ (o : Option Chip). option_map_or (λ (y : Chip). y.count) o 0) (chip-own w.chips dom c there)

  count-after : counts_in after c.dom ≡ c.count + 1
  count-after =
      ap (λ (o : Option Chip). option_map_or (λ (y : Chip). y.count) o 0) (put-same w.chips (applies c x) c.dom c keep.dom (chip-own w.chips dom c there)) ∙ keep.count

  module _ (up : (d : ℕ) → counts_in w d ≤ counts_in after d) where
    abbrev Few : List Neigh → Type 0
    Few ms = length ms + homed w.setup.domains (counts_in w) 0 changes ≤ homed w.setup.domains (counts_in after) 0 changes

    none-few : Few []
    none-few = omega (arith, homed-up w.setup.domains (counts_in w) (counts_in after) up 0 changes)

    told-few : (k : Key) (e : ℕ × Kind) (b : Bool) → address_part x ≡ Some (k, Some e) → (is_in_domain w.setup.domains c.dom e.0 && is_last w k c.count) ≡ b
        → Few (option_to_list (if b then Some (put_message c.count k e true) else None))
    told-few k e false part off = none-few
    told-few k e true part on =
        let at : home w.setup.domains x ≡ Some c.dom =
        ap (λ (p : Option (Key × Option (ℕ × Kind))). option_and_then (λ r. option_and_then (λ y. domain_of w.setup.domains y.0) r.1) p) part
        ∙ in-domain (domain_of w.setup.domains e.0) c.dom (first_so (is_in_domain w.setup.domains c.dom e.0) (is_last w k c.count) on) in
        omega (arith, homed-raised w.setup.domains (counts_in w) (counts_in after) up 0 c.count changes x c.dom next at (omega (arith, count-before)) (omega (arith, count-after)))

    part-few : (k : Key) (o : Option (ℕ × Kind)) → address_part x ≡ Some (k, o) → Few (option_to_list (offload_message w c k o))
    part-few k None part = none-few
    part-few k (Some e) part = told-few k e (is_in_domain w.setup.domains c.dom e.0 && is_last w k c.count) part refl

    offload-few : Few (option_to_list (offloads w c x))
    offload-few = by (address_part x) refl
      where
        by : (o : Option (Key × Option (ℕ × Kind))) → address_part x ≡ o → Few (option_to_list (option_and_then (λ p. offload_message w c p.0 p.1) o))
        by None part = none-few
        by (Some p) part = part-few p.0 p.1 part

turn-few : (w : World) (dom : ℕ) (o : Option Chip) → chip_at w dom ≡ o → ((d : ℕ) → counts_in w d ≤ counts_in (turns (record w { steps = w.steps + 1 }) o).0 d)
    → length (option_to_list (turned w o)) + homed w.setup.domains (counts_in w) 0 (deferred_of (edition_of w) w.history)
    ≤ homed w.setup.domains (counts_in (turns (record w { steps = w.steps + 1 }) o).0) 0 (deferred_of (edition_of w) w.history)
turn-few w dom None there up =
    omega (arith, homed-up w.setup.domains (counts_in w) (counts_in (turns (record w { steps = w.steps + 1 }) None).0) up 0 (deferred_of (edition_of w) w.history))
turn-few w dom (Some c) there up = by (next_of w c) refl up
  where
    by : (o : Option Change) → next_of w c ≡ o → ((d : ℕ) → counts_in w d ≤ counts_in (turns_to (record w { steps = w.steps + 1 }) c o).0 d)
        → length (option_to_list (option_and_then (offloads w c) o)) + homed w.setup.domains (counts_in w) 0 (deferred_of (edition_of w) w.history)
        ≤ homed w.setup.domains (counts_in (turns_to (record w { steps = w.steps + 1 }) c o).0) 0 (deferred_of (edition_of w) w.history)
    by None next up =
        omega (arith, homed-up w.setup.domains (counts_in w) (counts_in (turns_to (record w { steps = w.steps + 1 }) c None).0) up 0 (deferred_of (edition_of w) w.history))
    by (Some x) next up = offload-few w dom c there x next up

-- Each step.

messages-few : (edition : Edition) (h cs : List Change) → length (messages_of edition h cs) ≤ length cs
messages-few edition h [] = omega arith
messages-few edition h (c ∷ later) =
    let ms : List Neigh = option_to_list (message_of edition h c) in
    let ns : List Neigh = messages_of edition (h ++ c ∷ []) later in
    omega (arith, length-append ms ns, one-message (message_of edition h c), messages-few edition (h ++ c ∷ []) later)

-- so many messages behind a world
abbrev AreFew : Setup → List Change → (ℕ → ℕ) → ℕ → Type 0
AreFew s h counts n = n ≤ length h + homed s.domains counts 0 (deferred_of s.domains.edition h)

module _ (w : World) (k : IsWorld w) (n : ℕ) (few : AreFew w.setup w.history (counts_in w) n) where
  accepted-few : (step : Step) → AreFew w.setup (world_step w step).0.history (counts_in (world_step w step).0) (n + length (accepted w step))
  accepted-few step =
      let grows = step-accepts w step in
      let cs : List Change = grows.0 in
      let old : List Change = deferred_of (edition_of w) w.history in
      let new : accepted_in w step ≡ cs = ap (drop (length w.history)) grows.1 ∙ drop-length w.history cs in
      let come : length (accepted w step) ≤ length cs =
      subst (λ (l : List Change). length (messages_of (edition_of w) w.history l) ≤ length cs) (sym new) (messages-few (edition_of w) w.history cs) in
      let longer : homed w.setup.domains (counts_in w) 0 old ≤ homed w.setup.domains (counts_in (world_step w step).0) 0 (old ++ deferred_of (edition_of w) cs) =
      le_trans (homed-up w.setup.domains (counts_in w) (counts_in (world_step w step).0) (count-up w step k) 0 old)
      (homed-longer w.setup.domains (counts_in (world_step w step).0) 0 old (deferred_of (edition_of w) cs)) in
      let now : AreFew w.setup (w.history ++ cs) (counts_in (world_step w step).0) (n + length (accepted w step)) =
      subst (λ (l : List Change). n + length (accepted w step) ≤ length (w.history ++ cs) + homed w.setup.domains (counts_in (world_step w step).0) 0 l)
      (sym (filter-append (deferred (edition_of w)) w.history cs)) (omega (arith, few, come, longer, length-append w.history cs)) in
      subst (λ (l : List Change). AreFew w.setup l (counts_in (world_step w step).0) (n + length (accepted w step))) (sym grows.1) now

  turned-few : (dom : ℕ) → AreFew w.setup (world_step w (Turn dom)).0.history (counts_in (world_step w (Turn dom)).0) (n + length (messages_in w (Turn dom)))
  turned-few dom =
      subst (λ (l : List Change). AreFew w.setup l (counts_in (world_step w (Turn dom)).0) (n + length (messages_in w (Turn dom)))) (sym (turn-history w dom))
      (omega (arith, few, turn-few w dom (chip_at w dom) refl (count-up w (Turn dom) k)))

  step-few : (step : Step) → AreFew w.setup (world_step w step).0.history (counts_in (world_step w step).0) (n + length (messages_in w step))
  step-few (Turn dom) = turned-few dom
  step-few step = accepted-few step

-- Runs.

all-few : (x : World × List Neigh) (steps : List Step) → IsWorld x.0 → AreFew x.0.setup x.0.history (counts_in x.0) (length x.1) → length (fold monitors x steps).1 ≤ most_changes + most_changes
all-few x [] k few =
    omega (
      arith,
      few,
      k.history.few,
      homed-few x.0.setup.domains (counts_in x.0) 0 (deferred_of (edition_of x.0) x.0.history),
      few-deferred (edition_of x.0) x.0.history,
    )
all-few x (step ∷ steps) k few =
    all-few (monitors x step) steps (step-world x.0 step k)
    (subst (λ (s : Setup). AreFew s (world_step x.0 step).0.history (counts_in (world_step x.0 step).0) (length (x.1 ++ messages_in x.0 step))) (sym (step-setup x.0 step))
    (subst (λ (n : ℕ). AreFew x.0.setup (world_step x.0 step).0.history (counts_in (world_step x.0 step).0) n) (sym (length-append x.1 (messages_in x.0 step)))
    (step-few x.0 k (length x.1) few step)))

few-messages : (setup : Setup) (steps : List Step) → length (messages setup steps) ≤ most_changes + most_changes
unfolding messages
few-messages setup steps = all-few (first_world setup, []) steps (first-world setup) (omega arith)

-- Their lines.

line-length : (m : Neigh) → length (message_line m) ≡ 100
line-length m =
    let digits : List ℕ = hex_of (written m) in
    omega (arith, length-append (codes "nl ") (digits ++ 10 ∷ []), length-append digits (10 ∷ []), length-hex_of (written m), few-bytes m)

lines-length : (ms : List Neigh) → length (flat_map message_line ms) ≡ 100 * length ms
lines-length [] = refl
lines-length (m ∷ ms) = omega (arith, length-append (message_line m) (flat_map message_line ms), line-length m, lines-length ms)

pub lines-few : (setup : Setup) (steps : List Step) → length (text_of (messages setup steps)) < most_bytes
lines-few setup steps =
    let ms : List Neigh = messages setup steps in
    omega (arith, length-append (flat_map message_line ms) (codes "end" ++ 10 ∷ []), lines-length ms, few-messages setup steps)
