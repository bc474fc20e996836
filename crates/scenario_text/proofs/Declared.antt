-- A declared port by its place among the others.
use Rattle.std.proofs.Common.{◌≡◌, ℕ, zero, suc, ◌+◌, ◌<◌, ◌==◌, Bool, true, false, if◌then◌else◌, cond, List, []}
use Rattle.std.proofs.Common.{◌∷◌, ◌++◌, length, take, slice_get, IfSome, unwrap_or, refl, sym, ◌∙◌, ap, Option, Some, None}
use Rattle.std.specs.List.{flat_map, fold}
use Rattle.std.specs.Ordering.{nat_cmp}
use Rattle.std.specs.Cmp.{nat_cmp_total, unsigned_tied}
use Rattle.std.specs.FinMap.Entries.{find-put}
use Rattle.std.proofs.lemmas.Bool.{eq-eqb, eqb-true, or_parts, or_right}
use Rattle.std.proofs.lemmas.Grind.{flat_map-append}
use Rattle.std.proofs.lemmas.List.{append-nil}
use Rattle.std.proofs.Common.{append_assoc, add-one, arith, subst, Result}
use Rattle.std.specs.Result.{OnOk}
use Rattle.std.specs.Prelude.{codes}
use Rattle.std.specs.Fmt.{decimal}
use Rattle.std.specs.Option.{option_map}
use Rattle.lemmas.proofs.Numbers.{eqb-apart}
use Rattle.br_model.specs.declared.domains.Edition.{Edition}
use Rattle.br_model.specs.Data.Maps.{get, put}
use Rattle.br_model.specs.Table.Domains.{Domains, domain_of, host, software}
use Rattle.br_model.specs.Text.Declarations.{are_declared}
use Rattle.br_model.specs.Text.Head.{domain_words, port_line}
use Rattle.br_model.specs.Text.Roster.{Entry, domains_of, has_number}
use Rattle.br_model.specs.Text.Spelling.{name_of}
use Rattle.br_model.specs.Text.Words.{Word}
use Rattle.br_model.proofs.Text.WrittenNames.{Fits, fits}

-- it is among them
pub has_at : (ports : List Entry) (i : ℕ) (e : Entry) → slice_get ports i ≡ Some e → has_number ports e.port ≡ true
has_at [] i e h = absurd (cc)
has_at (x ∷ ports) zero e h =
    let same : x ≡ e = cc in
    let here : (x.port == e.port) ≡ true = eq-eqb x.port e.port (ap (λ (y : Entry). y.port) same) in
    rw here refl
has_at (x ∷ ports) (suc i) e h = or_right (x.port == e.port) (has_number ports e.port) (has_at ports i e h)

-- no other port has its number
apart : (x e : Entry) (ports : List Entry) (i : ℕ) → Fits x ports → slice_get ports i ≡ Some e → (x.port == e.port) ≡ false
apart x e ports i f h = by (x.port == e.port) refl
  where
    by : (b : Bool) → (x.port == e.port) ≡ b → b ≡ false
    by true is = let there : false ≡ true = sym f.new ∙ ap (has_number ports) (eqb-true x.port e.port is) ∙ has_at ports i e h in absurd (cc)
    by false is = refl

pub name_at : (ports : List Entry) (i : ℕ) (e : Entry) → are_declared ports ≡ true → slice_get ports i ≡ Some e → name_of ports e.port ≡ e.name
name_at [] i e all h = absurd (cc)
name_at (x ∷ ports) zero e all h =
    let same : x ≡ e = cc in
    ap (λ (b : Bool). if b then x.name else name_of ports e.port) (eq-eqb x.port e.port (ap (λ (y : Entry). y.port) same)) ∙ ap (λ (y : Entry). y.name) same
name_at (x ∷ ports) (suc i) e all h =
    let f = fits x ports all in
    ap (λ (b : Bool). if b then x.name else name_of ports e.port) (apart x e ports i f h) ∙ name_at ports i e f.rest h

-- domains

abbrev adds : List (ℕ × ℕ) → Entry → List (ℕ × ℕ)
adds m e = put nat_cmp m e.port e.dom

got : (m : List (ℕ × ℕ)) (e : Entry) (n : ℕ) → get nat_cmp (adds m e) n ≡ cond (n == e.port) (Some e.dom) (get nat_cmp m n)
got m e n = find-put nat_cmp nat_cmp_total n e.port e.dom m ∙ ap (λ (b : Bool). cond b (Some e.dom) (get nat_cmp m n)) (unsigned_tied n e.port)

stays : (m : List (ℕ × ℕ)) (ports : List Entry) (n : ℕ) → has_number ports n ≡ false → get nat_cmp (fold adds m ports) n ≡ get nat_cmp m n
stays m [] n h = refl
stays m (e ∷ ports) n h =
    let each = or_parts (e.port == n) (has_number ports n) h in
    stays (adds m e) ports n each.1 ∙ got m e n ∙ ap (λ (b : Bool). cond b (Some e.dom) (get nat_cmp m n)) (eqb-apart e.port n each.0)

dom_from : (m : List (ℕ × ℕ)) (ports : List Entry) (i : ℕ) (e : Entry) → are_declared ports ≡ true → slice_get ports i ≡ Some e → get nat_cmp (fold adds m ports) e.port ≡ Some e.dom
dom_from m [] i e all h = absurd (cc)
dom_from m (x ∷ ports) zero e all h =
    let same : e ≡ x = cc in
    ap (λ (y : Entry). get nat_cmp (fold adds (adds m x) ports) y.port) same
    ∙ stays (adds m x) ports x.port (fits x ports all).new
    ∙ got m x x.port
    ∙ ap (λ (b : Bool). cond b (Some x.dom) (get nat_cmp m x.port)) (eq-eqb x.port x.port refl)
    ∙ ap (λ (y : Entry). Some y.dom) (sym same)
dom_from m (x ∷ ports) (suc i) e all h = dom_from (adds m x) ports i e (fits x ports all).rest h

pub dom_at : (edition : Edition) (ports : List Entry) (i : ℕ) (e : Entry) → are_declared ports ≡ true → slice_get ports i ≡ Some e → domain_of (domains_of edition ports) e.port ≡ Some e.dom
dom_at edition ports i e all h = dom_from ((host, software) ∷ []) ports i e all h

-- lines

take_at : (ports : List Entry) (i : ℕ) (e : Entry) → slice_get ports i ≡ Some e → take (suc i) ports ≡ take i ports ++ e ∷ []
take_at [] i e h = absurd (cc)
take_at (x ∷ ports) zero e h = let same : x ≡ e = cc in ap (λ (y : Entry). y ∷ []) same
take_at (x ∷ ports) (suc i) e h = ap (λ (ys : List Entry). x ∷ ys) (take_at ports i e h)

-- one line more
pub line_more : (s0 s1 s2 : List ℕ) (ports : List Entry) (i : ℕ) (e : Entry) → slice_get ports i ≡ Some e → s1 ≡ s0 ++ flat_map port_line (take i ports) → s2 ≡ s1 ++ port_line e
    → s2 ≡ s0 ++ flat_map port_line (take (suc i) ports)
line_more s0 s1 s2 ports i e h a b =
    let front : List ℕ = flat_map port_line (take i ports) in
    b
    ∙ ap (λ (s : List ℕ). s ++ port_line e) a
    ∙ append_assoc s0 front (port_line e)
    ∙ ap (λ (s : List ℕ). s0 ++ (front ++ s)) (sym (append-nil (port_line e)))
    ∙ ap (λ (s : List ℕ). s0 ++ s) (sym (flat_map-append port_line (take i ports) (e ∷ [])))
    ∙ ap (λ (ys : List Entry). s0 ++ flat_map port_line ys) (sym (take_at ports i e h))

within : (ports : List Entry) (i : ℕ) → i < length ports → slice_get ports i ≡ None → ⊥
within [] i few is = absurd (omega arith)
within (x ∷ ports) zero few is = absurd (cc)
within (x ∷ ports) (suc i) few is = within ports i (omega arith) is

-- the line of the next port
pub next_line : (s0 s1 s2 : List ℕ) (ports : List Entry) (i : ℕ) → i < length ports → s1 ≡ s0 ++ flat_map port_line (take i ports) → IfSome (slice_get ports i) (λ e. s2 ≡ s1 ++ port_line e)
    → s2 ≡ s0 ++ flat_map port_line (take (i + 1) ports)
next_line s0 s1 s2 ports i few a b = by (slice_get ports i) refl b ∙ ap (λ (n : ℕ). s0 ++ flat_map port_line (take n ports)) (sym (add-one i))
  where
    by : (o : Option Entry) → slice_get ports i ≡ o → IfSome o (λ e. s2 ≡ s1 ++ port_line e) → s2 ≡ s0 ++ flat_map port_line (take (suc i) ports)
    by None is h = absurd (within ports i few is)
    by (Some e) is h = line_more s0 s1 s2 ports i e is a h

abbrev made : Word → ℕ → ℕ → Entry
made name port dom = record { name = name; port = port; dom = dom }

-- the line of the port in this place
pub entry_line : {T E : Type 0} (r : Result T E) (edition : Edition) (ports : List Entry) (i port dom : ℕ) (domains : Domains) (name s1 s2 : List ℕ) → are_declared ports ≡ true
    → domains ≡ domains_of edition ports
    → Some port ≡ option_map (λ e. e.port) (slice_get ports i) → dom ≡ unwrap_or (domain_of domains port) software → name ≡ name_of ports port
    → OnOk r (s2 ≡ s1 ++ port_line (made name port dom)) → IfSome (slice_get ports i) (λ e. OnOk r (s2 ≡ s1 ++ port_line e))
entry_line {T} {E} r edition ports i port dom domains name s1 s2 all same here is named h = by (slice_get ports i) refl here
  where
    by : (o : Option Entry) → slice_get ports i ≡ o → Some port ≡ option_map (λ e. e.port) o → IfSome o (λ e. OnOk r (s2 ≡ s1 ++ port_line e))
    by None at there = tt
    by (Some e) at there =
        let p : port ≡ e.port = cc in
        let d : dom ≡ e.dom =
        is ∙ ap (λ (ds : Domains). unwrap_or (domain_of ds port) software) same ∙ ap (λ (n : ℕ). unwrap_or (domain_of (domains_of edition ports) n) software) p
        ∙ ap (λ (o : Option ℕ). unwrap_or o software) (dom_at edition ports i e all at) in
        let n : name ≡ e.name = named ∙ ap (name_of ports) p ∙ name_at ports i e all at in
        let entry : made name port dom ≡ e = ap (λ (k : ℕ). made name k dom) p ∙ ap (λ (k : ℕ). made name e.port k) d ∙ ap (λ (w : Word). made w e.port e.dom) n in
        subst (λ (x : Entry). OnOk r (s2 ≡ s1 ++ port_line x)) entry h

-- it is declared
pub declared_at : (ports : List Entry) (i port : ℕ) → Some port ≡ option_map (λ e. e.port) (slice_get ports i) → has_number ports port ≡ true
declared_at ports i port here = by (slice_get ports i) refl here
  where
    by : (o : Option Entry) → slice_get ports i ≡ o → Some port ≡ option_map (λ e. e.port) o → has_number ports port ≡ true
    by None at there = absurd (cc)
    by (Some e) at there = let p : port ≡ e.port = cc in ap (has_number ports) p ∙ has_at ports i e at

-- the words of a domain
pub soft_words : (dom : ℕ) → (dom == software) ≡ true → codes "soft" ≡ domain_words dom
soft_words dom h = sym (ap (λ (b : Bool). if b then codes "soft" else codes "chip " ++ decimal dom) h)

pub chip_words : (dom : ℕ) → (dom == software) ≡ false → codes "chip " ++ decimal dom ≡ domain_words dom
chip_words dom h = sym (ap (λ (b : Bool). if b then codes "soft" else codes "chip " ++ decimal dom) h)
