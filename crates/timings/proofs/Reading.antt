-- A frame that is read is trapped whatever the chip has applied; one that isn't read changes nothing when software sees it.
use Rattle.std.proofs.Common.{◌≡◌, ℕ, true, false, cond, List, [], ◌∷◌, Option, None, Some, refl, sym, ap, ◌∙◌, map}
use Rattle.std.specs.Prelude.{Bool, ◌&&◌, ◌||◌, ◌==◌}
use Rattle.std.specs.List.{list_any, filter}
use Rattle.std.specs.Option.{option_eq, option_map}
use Rattle.std.proofs.lemmas.Bool.{or_parts, or_from, or_left, eqb-true, true≢false}
use Rattle.br_model.specs.declared.change.Change.{Change}
use Rattle.br_model.specs.declared.domains.Edition.{Edition}
use Rattle.br_model.specs.declared.domains.Edition.TheVariants.{One, Two}
use Rattle.br_model.specs.declared.frame.Class.TheVariants.{Trap}
use Rattle.br_model.specs.declared.frame.Head.{Head}
use Rattle.br_model.specs.declared.frame.McastMsg.{McastMsg}
use Rattle.br_model.specs.declared.frame.McastMsg.TheVariants.{Plain, Payload, Query, Report, Leave, Records, Unrecognized}
use Rattle.br_model.specs.Control.Course.{Course}
use Rattle.br_model.specs.Control.Learning.{teach}
use Rattle.br_model.specs.Control.Reaction.{sees, learns, learns_of}
use Rattle.br_model.specs.Control.Snooping.{said, snoops, snoops_in}
use Rattle.br_model.specs.Control.TreeReaction.{heard, tells_tree}
use Rattle.br_model.specs.declared.tree.TreeEvent.TheVariants.{Message}
use Rattle.br_model.specs.Forward.Admission.{admit}
use Rattle.br_model.specs.Forward.Class.{class, class_by, crosses, is_snooped, is_trapped_in, reaches_host}
use Rattle.br_model.specs.Forward.Leave.{ports_out}
use Rattle.br_model.specs.Forward.Targets.{to_tree}
use Rattle.br_model.specs.Plane.Entering.{chip_of}
use Rattle.br_model.specs.Plane.Chip.{Chip}
use Rattle.br_model.specs.Plane.World.{World}
use Rattle.br_model.specs.Table.Cut.{cut, front}
use Rattle.br_model.specs.Table.DomainPorts.{is_in_domain}
use Rattle.br_model.specs.Table.Domains.{Domains, chip_domains, domain_of, has_chip, software}
use Rattle.br_model.specs.Table.Setup.{Setup}
use Rattle.br_model.specs.Table.Table.{Table, table, with_deferred}
use Rattle.br_model.specs.Wire.Bpdus.{bpdu}
use Rattle.br_model.specs.Wire.Messages.{message}
use Rattle.br_model.proofs.Plane.Chips.{doms, has-chip, chip_of-at}
use Rattle.br_model.proofs.Table.Cuts.{table-cut}
use Rattle.timings.specs.Reading.{is_read, is_read_in}

-- It is read by the synchronous parts of a table.
late-read : (edition : Edition) (t late : Table) (port : ℕ) (head : Head) (msg : McastMsg) → is_read (with_deferred edition t late) port head msg ≡ is_read t port head msg
late-read One t late port head msg = refl
late-read Two t late port head msg = refl

pub cut-read : (edition : Edition) (H : List Change) (k port : ℕ) (head : Head) (msg : McastMsg) → is_read (table (cut edition H k)) port head msg ≡ is_read (table H) port head msg
cut-read edition H k port head msg =
    ap (λ t. is_read t port head msg) (table-cut edition H k) ∙ late-read edition (table H) (table (front edition H k)) port head msg

trapped-in : (domains : Domains) (t : Table) (port : ℕ) (o : Option ℕ) (head : Head) (msg : McastMsg) → is_read_in t o msg ≡ true → is_trapped_in domains t port o head msg ≡ true
trapped-in domains t port None head msg e = absurd (true≢false (sym e))
trapped-in domains t port (Some vid) head msg e = or_left (t.snoop && is_snooped msg) (reaches_host t port vid head || crosses domains t port vid head) e

or-more : (a b c : Bool) → (b ≡ true → c ≡ true) → (a || b) ≡ true → (a || c) ≡ true
or-more true b c f e = refl
or-more false b c f e = f e

pub read-trapped : (domains : Domains) (t : Table) (port : ℕ) (head : Head) (msg : McastMsg) → is_read t port head msg ≡ true → class domains t port head msg ≡ Trap
read-trapped domains t port head msg e =
    ap (λ b. cond b Trap (class_by domains port (ports_out t port head msg)))
    (or-more (to_tree t port head) (is_read_in t (admit t port head) msg) (is_trapped_in domains t port (admit t port head) head msg) (trapped-in domains t port (admit t port head) head msg) e)

-- One that isn't read.

said-still : (port vid : ℕ) (bytes : List ℕ) (msg : McastMsg) (r : Course) → is_snooped msg ≡ false → said port vid bytes msg r ≡ r
said-still port vid bytes Plain r e = refl
said-still port vid bytes (Payload group) r e = refl
said-still port vid bytes (Query six counted) r e = absurd (true≢false e)
said-still port vid bytes (Report group) r e = absurd (true≢false e)
said-still port vid bytes (Leave group) r e = absurd (true≢false e)
said-still port vid bytes (Records six first count) r e = absurd (true≢false e)
said-still port vid bytes Unrecognized r e = refl

snoops-in-still : (port : ℕ) (o : Option ℕ) (bytes : List ℕ) (head : Head) (r : Course) → is_read_in r.table o (message bytes head) ≡ false → snoops_in port o bytes head r ≡ r
snoops-in-still port None bytes head r e = refl
snoops-in-still port (Some vid) bytes head r e = by r.table.snoop e
  where
    by : (on : Bool) → (on && is_snooped (message bytes head)) ≡ false → cond on (said port vid bytes (message bytes head) r) r ≡ r
    by true f = said-still port vid bytes (message bytes head) r f
    by false f = refl

learns-still : (setup : Setup) (port : ℕ) (head : Head) (r : Course) → is_in_domain setup.domains software port ≡ false → learns_of setup port head r ≡ r
learns-still setup port head r e = ap (λ b. cond b (learns port (teach r.table port head) r) r) e

heard-still : (t : Table) (port : ℕ) (bytes : List ℕ) (head : Head) → to_tree t port head ≡ false → heard t port bytes head ≡ None
heard-still t port bytes head e = ap (λ b. cond b (option_map (λ m. Message port m) (bpdu bytes)) None) e

pub unread-still : (setup : Setup) (port : ℕ) (bytes : List ℕ) (head : Head) (r : Course) → is_in_domain setup.domains software port ≡ false
    → is_read r.table port head (message bytes head) ≡ false → sees setup port bytes head r ≡ r
unread-still setup port bytes head r chip e =
    let parts = or_parts (to_tree r.table port head) (is_read_in r.table (admit r.table port head) (message bytes head)) e in
    ap (λ (x : Course). tells_tree (heard r.table port bytes head) (snoops port bytes head x)) (learns-still setup port head r chip)
    ∙ ap (tells_tree (heard r.table port bytes head)) (snoops-in-still port (admit r.table port head) bytes head r parts.1)
    ∙ ap (λ o. tells_tree o r) (heard-still r.table port bytes head parts.0)

-- A port of a chip isn't software's.

any-filter : (q p : ℕ → Bool) (ns : List ℕ) → list_any q ns ≡ false → list_any q (filter p ns) ≡ false
any-filter q p [] e = refl
any-filter q p (n ∷ ns) e =
    let parts = or_parts (q n) (list_any q ns) e in
    elim (p n) as (λ b. list_any q (cond b (n ∷ filter p ns) (filter p ns)) ≡ false) [
      | true ↦ or_from (q n) (list_any q (filter p ns)) parts.0 (any-filter q p ns parts.1)
      | false ↦ any-filter q p ns parts.1
    ]

no-chip-zero : (domains : Domains) → has_chip domains 0 ≡ false
no-chip-zero domains = any-filter (λ d. d == 0) (λ x. x == 1 || list_any (λ e. e == x) (map (λ e. e.1) domains.ports)) (1 ∷ 2 ∷ 3 ∷ 4 ∷ []) refl

not-software : (domains : Domains) (dom : ℕ) → has_chip domains dom ≡ true → (dom == 0) ≡ false
not-software domains dom there =
    (elim (dom == 0) as (λ b. (dom == 0) ≡ b → b ≡ false) [
      | true ↦ λ e. absurd (true≢false (sym there ∙ ap (has_chip domains) (eqb-true dom 0 e) ∙ no-chip-zero domains))
      | false ↦ λ e. refl
    ]) refl

pub chip-port : (w : World) (port : ℕ) (c : Chip) → doms w.chips ≡ chip_domains w.setup.domains → chip_of w (domain_of w.setup.domains port) ≡ Some c
    → is_in_domain w.setup.domains software port ≡ false
chip-port w port c same on =
    let at = chip_of-at w (domain_of w.setup.domains port) c on in
    ap (λ o. option_eq (λ x y. x == y) o (Some 0)) at.1
    ∙ not-software w.setup.domains at.0 (has-chip w.setup.domains w.chips at.0 c same at.2)
