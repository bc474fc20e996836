-- Turns and publications behind a run, and what a frame does that enters then.
use Rattle.std.proofs.Common.{◌≡◌, ℕ, ◌+◌, ◌-◌, ◌≤◌, true, false, cond, List, [], ◌∷◌, ◌++◌, map, length, take, Option, None, Some, refl, sym, ap, ◌∙◌, subst, arith, append-nil, ◌⊎◌, inl, inr, ⊎_elim}
use Rattle.std.proofs.lemmas.Bool.{and_parts, le-leb, leb-true, true≢false}
use Rattle.std.proofs.lemmas.List.Elements.{All-from_recursion}
use Rattle.std.specs.Prelude.{nat_le, is_some}
use Rattle.std.specs.List.{All, AllByRecursion, last_or, list_any}
use Rattle.br_model.specs.declared.change.Change.{Change}
use Rattle.br_model.specs.declared.frame.Class.{Class}
use Rattle.br_model.specs.declared.frame.Class.TheVariants.{Drop, Trap, Copy, Forward}
use Rattle.br_model.specs.declared.frame.Head.{Head}
use Rattle.br_model.specs.declared.steps.Step.{Step}
use Rattle.br_model.specs.declared.steps.Step.TheVariants.{Publish, Turn}
use Rattle.br_model.specs.Forward.Class.{class}
use Rattle.br_model.specs.Forward.Shares.{chip_out, soft_out}
use Rattle.br_model.specs.Plane.Chip.{Chip}
use Rattle.br_model.specs.Plane.Entering.{chip_of}
use Rattle.br_model.specs.Plane.Runs.{pending_of, run}
use Rattle.br_model.specs.Plane.Steps.{world_step}
use Rattle.br_model.specs.Plane.World.{World, Stepped, chip_at, table_of_chip}
use Rattle.br_model.specs.Table.Cut.{cut, deferred_count}
use Rattle.br_model.specs.Table.Domains.{domain_of}
use Rattle.br_model.specs.Table.Setup.{Setup}
use Rattle.br_model.specs.Table.Table.{table}
use Rattle.br_model.specs.Theorems.Invariants.{IsWorld}
use Rattle.br_model.specs.Wire.Messages.{message}
use Rattle.br_model.proofs.Plane.Applied.{run-world}
use Rattle.br_model.proofs.Plane.Chips.{chip-dom, chip_of-at}
use Rattle.br_model.proofs.Plane.Kept.{chip-stands, step-world}
use Rattle.br_model.proofs.Plane.Worlds.{run-append, run_worlds, worlds}
use Rattle.timings.specs.Explained.{count_at, updates_in}
use Rattle.timings.specs.Greedy.{repeated, same_bytes}
use Rattle.timings.specs.Meanwhile.{ChipComesTo, SoftwareComesTo, is_meanwhile, is_turn_or_publication, value_at}
use Rattle.timings.specs.Outcomes.{Deed, chip_rows, deed_at, deed_by, points, same_class, same_deed, soft_ports, soft_rows}
use Rattle.timings.specs.Timings.{turned}
use Rattle.timings.proofs.Counting.{repeated-own, some-of, step-counts-stay, there-alike, there-count, turn-grows, turned-alike, turned-world}
use Rattle.timings.proofs.Rows.{value-among, value-where, where-values}
use Rattle.timings.proofs.Same.{same-bytes}
use Rattle.timings.proofs.Turning.{turn-alike}

-- what is left as it was
record Kept (w v : World) : Type 0 where
  setup : v.setup ≡ w.setup
  history : v.history ≡ w.history
  published : (v.published ≡ w.published) ⊎ (v.published ≡ length w.history)
  counts : (dom : ℕ) → count_at w dom ≤ count_at v dom

kept-then : {w v u : World} → Kept w v → Kept v u → Kept w u
kept-then {w} {v} {u} a b = record {
  setup = b.setup ∙ a.setup;
  history = b.history ∙ a.history;
  published = ⊎_elim
      (λ (same : u.published ≡ v.published). ⊎_elim (λ (old : v.published ≡ w.published). inl (same ∙ old)) (λ (all : v.published ≡ length w.history). inr (same ∙ all)) a.published)
      (λ (now : u.published ≡ length v.history). inr (now ∙ ap length a.history))
      b.published;
  counts = λ dom. omega (arith, a.counts dom, b.counts dom);
}

step-kept : (w : World) (s : Step) → IsWorld w → is_turn_or_publication s ≡ true → Kept w (world_step w s).0
step-kept w (Turn dom) k e =
    let a = turn-alike w dom in record { setup = a.setup; history = a.history; published = inl a.published; counts = λ d. turn-grows w d dom k }
step-kept w Publish k e = record { setup = refl; history = refl; published = inr refl; counts = λ d. omega (arith, step-counts-stay w Publish d refl) }
step-kept w s k e = absurd (true≢false (sym e))

worlds-kept : (steps : List Step) (w : World) → IsWorld w → is_meanwhile steps ≡ true → Kept w (worlds w steps)
worlds-kept [] w k e = record { setup = refl; history = refl; published = inl refl; counts = λ dom. omega arith }
worlds-kept (s ∷ steps) w k e =
    let parts = and_parts (is_turn_or_publication s) (is_meanwhile steps) e in
    kept-then (step-kept w s k parts.0) (worlds-kept steps (world_step w s).0 (step-world w s k) parts.1)

run-kept : (setup : Setup) (before meanwhile : List Step) → is_meanwhile meanwhile ≡ true → Kept (run setup before).0 (run setup (before ++ meanwhile)).0
run-kept setup before meanwhile e =
    subst (Kept (run setup before).0) (sym (run_worlds setup before meanwhile)) (worlds-kept meanwhile (run setup before).0 (run-world setup before) e)

-- A chip.

same-class : (a b : Class) → same_class a b ≡ true → a ≡ b
same-class Drop Drop e = refl
same-class Trap Trap e = refl
same-class Copy Copy e = refl
same-class Forward Forward e = refl
same-class a b e = absurd (true≢false (sym e))

same-deed : (a b : Deed) → same_deed a b ≡ true → a ≡ b
same-deed a b e =
    let parts = and_parts (same_class a.0 b.0) (same_bytes a.1 b.1) e in λ i. (same-class a.0 b.0 parts.0 i, same-bytes a.1 b.1 parts.1 i)

-- by setup and history
abbrev deed_in : Setup → List Change → ℕ → List ℕ → Head → ℕ → Deed
deed_in s history port bytes head k =
    let t = table (cut s.domains.edition history k) in (class s.domains t port head (message bytes head), map (λ x. x.0) (chip_out s.domains t port bytes head))

kept-deed : (w v : World) (port : ℕ) (bytes : List ℕ) (head : Head) (d : Chip) → Kept w v → deed_at w port bytes head d.count ≡ deed_by v (table_of_chip v d) port bytes head
kept-deed w v port bytes head d k = λ i. deed_in (sym k.setup i) (sym k.history i) port bytes head d.count

kept-updates : (w v : World) → Kept w v → updates_in v ≡ updates_in w
kept-updates w v k = λ i. deferred_count (k.setup i).domains.edition (k.history i)

chip-value : (w v : World) (port : ℕ) (bytes : List ℕ) (head : Head) (dom : ℕ) (c d : Chip) → Kept w v → IsWorld w → IsWorld v → chip_at w dom ≡ Some c → chip_at v dom ≡ Some d
    → value_at (chip_rows w c port bytes head) d.count ≡ Some (deed_by v (table_of_chip v d) port bytes head)
chip-value w v port bytes head dom c d k in_w in_v at_w at_v =
    let least : c.count ≤ d.count = omega (arith, k.counts dom, there-count w dom c at_w, there-count v dom d at_v) in
    let most : d.count ≤ updates_in w = omega (arith, (chip-stands v dom d in_v at_v).applied, kept-updates w v k) in
    value-where same_deed same-deed (deed_at w port bytes head) c.count (pending_of w c) d.count least (omega (arith, least, most))
    ∙ ap (λ a. Some a) (kept-deed w v port bytes head d k)

-- of a run
module _ (setup : Setup) (before : List Step) (port : ℕ) (bytes : List ℕ) (head : Head) where
  abbrev w : World
  w = (run setup before).0

  in_w : IsWorld w
  in_w = run-world setup before

  pub chip-complete : (meanwhile : List Step) (c d : Chip) → is_meanwhile meanwhile ≡ true → chip_of w (domain_of setup.domains port) ≡ Some c
      → chip_of (run setup (before ++ meanwhile)).0 (domain_of setup.domains port) ≡ Some d
      → value_at (chip_rows w c port bytes head) d.count ≡ Some (deed_by (run setup (before ++ meanwhile)).0 (table_of_chip (run setup (before ++ meanwhile)).0 d) port bytes head)
  chip-complete meanwhile c d e on_w on_v =
      let v = (run setup (before ++ meanwhile)).0 in
      let at_w = chip_of-at w (domain_of setup.domains port) c on_w in
      let at_v : chip_at v at_w.0 ≡ Some d = ap (chip_of v) (sym at_w.1) ∙ on_v in
      chip-value w v port bytes head at_w.0 c d (run-kept setup before meanwhile e) in_w (run-world setup (before ++ meanwhile)) at_w.2 at_v

  class-self : (k : Class) → same_class k k ≡ true
  class-self Drop = refl
  class-self Trap = refl
  class-self Copy = refl
  class-self Forward = refl

  pub chip-classes : (meanwhile : List Step) (c d : Chip) → is_meanwhile meanwhile ≡ true → chip_of w (domain_of setup.domains port) ≡ Some c
      → chip_of (run setup (before ++ meanwhile)).0 (domain_of setup.domains port) ≡ Some d
      → list_any (λ r. same_class r.1.0 (deed_by (run setup (before ++ meanwhile)).0 (table_of_chip (run setup (before ++ meanwhile)).0 d) port bytes head).0) (chip_rows w c port bytes head) ≡ true
  chip-classes meanwhile c d e on_w on_v =
      let deed = deed_by (run setup (before ++ meanwhile)).0 (table_of_chip (run setup (before ++ meanwhile)).0 d) port bytes head in
      value-among (λ (a : Deed). same_class a.0 deed.0) d.count deed (class-self deed.0) (chip_rows w c port bytes head) (chip-complete meanwhile c d e on_w on_v)

  turns-meanwhile : (doms : List ℕ) → is_meanwhile (map (λ dom. Turn dom) doms) ≡ true
  turns-meanwhile [] = refl
  turns-meanwhile (dom ∷ doms) = turns-meanwhile doms

  abbrev InRows : Chip → ℕ × Deed → Type 0
  InRows c r = (c.count ≤ r.0) × (r.0 ≤ c.count + pending_of w c) × (r.1 ≡ deed_at w port bytes head r.0)

  pub chip-sound : (c : Chip) → chip_of w (domain_of setup.domains port) ≡ Some c → All (ChipComesTo setup before port bytes head) (chip_rows w c port bytes head)
  chip-sound c on =
      All-from_recursion (ChipComesTo setup before port bytes head) (chip_rows w c port bytes head)
      (each (chip_rows w c port bytes head) (where-values same_deed same-deed (deed_at w port bytes head) c.count (pending_of w c)))
    where
      one : (r : ℕ × Deed) → InRows c r → ChipComesTo setup before port bytes head r
      one r is =
          let at = chip_of-at w (domain_of setup.domains port) c on in
          let own : c.dom ≡ at.0 = chip-dom w.chips at.0 c at.2 in
          let here : chip_at w c.dom ≡ Some c = ap (chip_at w) own ∙ at.2 in
          let x = run setup before in
          let doms = repeated c.dom (r.0 - c.count) in
          let steps = map (λ dom. Turn dom) doms in
          let z = turned x doms in
          let whole : run setup (before ++ steps) ≡ z = run-append setup before steps in
          let there = some-of (chip_at z.0 c.dom) (there-alike z.0 w c.dom (turned-alike x doms) (turned-world x doms in_w) in_w ∙ ap is_some here) in
          let d = there.0 in
          let count : d.count ≡ r.0 = omega (
            arith,
            there-count z.0 c.dom d there.1,
            repeated-own x c.dom (r.0 - c.count) in_w (ap is_some here),
            there-count w c.dom c here,
            (chip-stands w c.dom c in_w here).applied,
            is.0,
            is.1,
          ) in
          record {
            meanwhile = steps;
            between = turns-meanwhile doms;
            chip = d;
            on_chip = ap (λ (y : Stepped). chip_of y.0 (domain_of setup.domains port)) whole ∙ ap (chip_of z.0) at.1 ∙ ap (chip_at z.0) (sym own) ∙ there.1;
            count = count;
            deed = sym (kept-deed w (run setup (before ++ steps)).0 port bytes head d (run-kept setup before steps (turns-meanwhile doms))) ∙ ap (deed_at w port bytes head) count ∙ sym is.2;
          }

      each : (rows : List (ℕ × Deed)) → AllByRecursion (InRows c) rows → AllByRecursion (ChipComesTo setup before port bytes head) rows
      each [] h = tt
      each (r ∷ rows) h = (one r h.0, each rows h.1)

-- Software.

points-value : (f : ℕ → List ℕ) (published all p : ℕ) → published ≤ all → (p ≡ published) ⊎ (p ≡ all) → value_at (points published all (f published) (f all)) p ≡ Some (f p)
points-value f published all p le here =
    let low : published ≤ p = ⊎_elim (λ (e : p ≡ published). omega (arith, e)) (λ (e : p ≡ all). omega (arith, e, le)) here in
    let begins = le-leb published p low in
    (elim (same_bytes (f published) (f all)) as (λ b. same_bytes (f published) (f all) ≡ b
    → value_at (cond b ((published, f published) ∷ []) ((published, f published) ∷ (all, f all) ∷ [])) p ≡ Some (f p)) [
      | true ↦ λ e.
          ap (λ b. last_or None (map (λ (r : ℕ × List ℕ). r.1) (cond b ((published, f published) ∷ []) []))) begins
          ∙ ap (λ a. Some a) (⊎_elim (λ (is : p ≡ published). ap f (sym is)) (λ (is : p ≡ all). same-bytes (f published) (f all) e ∙ ap f (sym is)) here)
      | false ↦ λ e.
          ap (λ b. last_or None (map (λ (r : ℕ × List ℕ). r.1) (cond b ((published, f published) ∷ cond (nat_le all p) ((all, f all) ∷ []) []) (cond (nat_le all p) ((all, f all) ∷ []) [])))) begins
          ∙ ends here
    ]) refl
  where
    ends : (p ≡ published) ⊎ (p ≡ all) → last_or (Some (f published)) (map (λ (r : ℕ × List ℕ). r.1) (cond (nat_le all p) ((all, f all) ∷ []) [])) ≡ Some (f p)
    ends (inr is) = ap (λ b. last_or (Some (f published)) (map (λ (r : ℕ × List ℕ). r.1) (cond b ((all, f all) ∷ []) []))) (le-leb all p (omega (arith, is))) ∙ ap (λ a. Some a) (ap f (sym is))
    ends (inl is) =
        (elim (nat_le all p) as (λ b. nat_le all p ≡ b → last_or (Some (f published)) (map (λ (r : ℕ × List ℕ). r.1) (cond b ((all, f all) ∷ []) [])) ≡ Some (f p)) [
          | true ↦ λ e. let at : all ≡ p = omega (arith, leb-true all p e, is, le) in ap (λ a. Some a) (ap f at)
          | false ↦ λ e. ap (λ a. Some a) (ap f (sym is))
        ]) refl

-- by setup and history
abbrev ports_in : Setup → List Change → ℕ → List ℕ → Head → Option ℕ → ℕ → List ℕ
ports_in s history port bytes head mark point = map (λ x. x.0) (soft_out s.domains (table (take point history)) port bytes head mark)

kept-ports : (w v : World) (port : ℕ) (bytes : List ℕ) (head : Head) (mark : Option ℕ) (point : ℕ) → Kept w v → soft_ports w port bytes head mark point ≡ soft_ports v port bytes head mark point
kept-ports w v port bytes head mark point k = λ i. ports_in (sym k.setup i) (sym k.history i) port bytes head mark point

module _ (setup : Setup) (before : List Step) (port : ℕ) (bytes : List ℕ) (head : Head) (mark : Option ℕ) where
  abbrev ended : World
  ended = (run setup before).0

  pub software-complete : (meanwhile : List Step) → is_meanwhile meanwhile ≡ true
      → value_at (soft_rows ended port bytes head mark) (run setup (before ++ meanwhile)).0.published
      ≡ Some (soft_ports (run setup (before ++ meanwhile)).0 port bytes head mark (run setup (before ++ meanwhile)).0.published)
  software-complete meanwhile e =
      let v = (run setup (before ++ meanwhile)).0 in
      let k = run-kept setup before meanwhile e in
      points-value (soft_ports ended port bytes head mark) ended.published (length ended.history) v.published (run-world setup before).counts.within k.published
      ∙ ap (λ a. Some a) (kept-ports ended v port bytes head mark v.published k)

  abbrev ComesTo : ℕ × List ℕ → Type 0
  ComesTo = SoftwareComesTo setup before port bytes head mark

  by-published : ComesTo (ended.published, soft_ports ended port bytes head mark ended.published)
  by-published = record {
    meanwhile = [];
    between = refl;
    published = ap (λ l. (run setup l).0.published) (append-nil before);
    ports = ap (λ l. soft_ports (run setup l).0 port bytes head mark ended.published) (append-nil before);
  }

  by-all : ComesTo (length ended.history, soft_ports ended port bytes head mark (length ended.history))
  by-all = record {
    meanwhile = Publish ∷ [];
    between = refl;
    published = ap (λ (y : Stepped). y.0.published) (run-append setup before (Publish ∷ []));
    ports = sym (kept-ports ended (run setup (before ++ Publish ∷ [])).0 port bytes head mark (length ended.history) (run-kept setup before (Publish ∷ []) refl));
  }

  pub software-sound : All (SoftwareComesTo setup before port bytes head mark) (soft_rows ended port bytes head mark)
  software-sound =
      All-from_recursion ComesTo (soft_rows ended port bytes head mark)
      (elim (same_bytes (soft_ports ended port bytes head mark ended.published) (soft_ports ended port bytes head mark (length ended.history))) as
      (λ b. AllByRecursion ComesTo (cond b ((ended.published, soft_ports ended port bytes head mark ended.published) ∷ [])
      ((ended.published, soft_ports ended port bytes head mark ended.published) ∷ (length ended.history, soft_ports ended port bytes head mark (length ended.history)) ∷ []))) [
        | true ↦ (by-published, tt)
        | false ↦ (by-published, (by-all, tt))
      ])
