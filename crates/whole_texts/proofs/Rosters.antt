-- The declared ports of a roster, one after another.
use Rattle.std.proofs.Common.{◌≡◌, ℕ, zero, suc, ◌+◌, ◌<◌, ◌==◌, Bool, true, false, cond, is_some, List, [], ◌∷◌, ◌++◌, length, take, slice_get, unwrap_or, refl, sym, ◌∙◌, ap, subst, Option, Some, None}
use Rattle.std.proofs.Common.{add-one, arith}
use Rattle.std.specs.Option.{option_map}
use Rattle.std.specs.Str.{bytes_eq}
use Rattle.std.proofs.lemmas.Bool.{and_parts, eqb-true, or_from}
use Rattle.std.proofs.lemmas.Slice.Eq.{bytes_eq-Decides}
use Rattle.br_model.specs.Text.Declarations.{are_declared, fits_beside}
use Rattle.br_model.specs.declared.domains.Edition.{Edition}
use Rattle.br_model.specs.declared.scenario.Place.TheVariants.{Declarations}
use Rattle.br_model.specs.declared.scenario.Said.TheVariants.{Declares}
use Rattle.br_model.specs.Table.Domains.{Domains, domain_of, software}
use Rattle.br_model.specs.Text.Roster.{Entry, Roster, domains_of, has_number, port_named}
use Rattle.br_model.specs.Text.Scenario.{declared}
use Rattle.br_model.specs.Text.Spelling.{name_of}
use Rattle.br_model.specs.Text.Words.{Word}
use Rattle.bridge_command.proofs.Declaring.{Fits, parts, whole}
use Rattle.scenario_text.proofs.Declared.{dom_at, has_at, name_at}
use Rattle.whole_texts.specs.Trials.{with_first}

-- one more of the first ones
pub one_more : (ports : List Entry) (i : ℕ) (e : Entry) → slice_get ports i ≡ Some e → take (suc i) ports ≡ take i ports ++ e ∷ []
one_more [] i e h = absurd (cc)
one_more (x ∷ ports) zero e h = let same : x ≡ e = cc in ap (λ (y : Entry). y ∷ []) same
one_more (x ∷ ports) (suc i) e h = ap (λ (ys : List Entry). x ∷ ys) (one_more ports i e h)

turned : (v w : Word) → bytes_eq v w ≡ true → bytes_eq w v ≡ true
turned v w h = grind (arith, bytes_eq-Decides v w, bytes_eq-Decides w v)

-- a name that one of them has
named_at : (ports : List Entry) (i : ℕ) (e : Entry) (name : Word) → slice_get ports i ≡ Some e → bytes_eq name e.name ≡ true → is_some (port_named ports name) ≡ true
named_at [] i e name h is = absurd (cc)
named_at (x ∷ ports) zero e name h is =
    let same : e ≡ x = cc in
    ap (λ (b : Bool). is_some (cond b (Some x.port) (port_named ports name))) (sym (ap (λ (y : Entry). bytes_eq name y.name) same) ∙ is)
named_at (x ∷ ports) (suc i) e name h is = by (bytes_eq name x.name) (named_at ports i e name h is)
  where
    by : (b : Bool) → is_some (port_named ports name) ≡ true → is_some (cond b (Some x.port) (port_named ports name)) ≡ true
    by true k = refl
    by false k = k

-- each fits beside those before it
fits_at : (ports : List Entry) (i : ℕ) (e : Entry) → are_declared ports ≡ true → slice_get ports i ≡ Some e → Fits (take i ports) e
fits_at [] i e all h = absurd (cc)
fits_at (x ∷ ports) zero e all h =
    let same : x ≡ e = cc in
    let f = parts ports x (and_parts (fits_beside ports x) (are_declared ports) all).0 in
    subst (λ (y : Entry). Fits [] y) same (record { low = f.low; high = f.high; of_chip = f.of_chip; named = f.named; free = refl; new = refl })
fits_at (x ∷ ports) (suc i) e all h =
    let f = parts ports x (and_parts (fits_beside ports x) (are_declared ports) all).0 in
    let g = fits_at ports i e (and_parts _ _ all).1 h in
    record {
      low = g.low;
      high = g.high;
      of_chip = g.of_chip;
      named = g.named;
      free = or_from _ _ (number (x.port == e.port) refl) g.free;
      new = name (bytes_eq e.name x.name) refl g.new;
    }
  where
    number : (b : Bool) → (x.port == e.port) ≡ b → b ≡ false
    number true is = let there : false ≡ true = sym (parts ports x (and_parts (fits_beside ports x) (are_declared ports) all).0).free ∙ ap (has_number ports) (eqb-true x.port e.port is) ∙ has_at ports i e h in absurd (cc)
    number false is = refl

    name : (b : Bool) → bytes_eq e.name x.name ≡ b → is_some (port_named (take i ports) e.name) ≡ false → is_some (cond b (Some x.port) (port_named (take i ports) e.name)) ≡ false
    name true is free = let there : false ≡ true = sym (parts ports x (and_parts (fits_beside ports x) (are_declared ports) all).0).new ∙ named_at ports i e x.name h (turned e.name x.name is) in absurd (cc)
    name false is free = free

pub fits_first : (ports : List Entry) (i : ℕ) (e : Entry) → are_declared ports ≡ true → slice_get ports i ≡ Some e → fits_beside (take i ports) e ≡ true
fits_first ports i e all h = whole (take i ports) e (fits_at ports i e all h)

-- as the copy has it
abbrev pub made : Word → ℕ → ℕ → Entry
made name port dom = record { name = name; port = port; dom = dom }

-- the port at that place, by what a roster tells of it
pub told_at : (edition : Edition) (ports : List Entry) (i port dom : ℕ) (domains : Domains) (name : Word) → are_declared ports ≡ true → domains ≡ domains_of edition ports
    → Some port ≡ option_map (λ e. e.port) (slice_get ports i) → dom ≡ unwrap_or (domain_of domains port) software → name ≡ name_of ports port
    → slice_get ports i ≡ Some (made name port dom)
told_at edition ports i port dom domains name all same here is named = by (slice_get ports i) refl here
  where
    by : (o : Option Entry) → slice_get ports i ≡ o → Some port ≡ option_map (λ e. e.port) o → o ≡ Some (made name port dom)
    by None at there = absurd (cc)
    by (Some e) at there =
        let p : port ≡ e.port = cc in
        let d : dom ≡ e.dom =
        is ∙ ap (λ (ds : Domains). unwrap_or (domain_of ds port) software) same ∙ ap (λ (n : ℕ). unwrap_or (domain_of (domains_of edition ports) n) software) p
        ∙ ap (λ (o : Option ℕ). unwrap_or o software) (dom_at edition ports i e all at) in
        let n : name ≡ e.name = named ∙ ap (name_of ports) p ∙ name_at ports i e all at in
        ap Some (sym (ap (λ (k : ℕ). made name k dom) p ∙ ap (λ (k : ℕ). made name e.port k) d ∙ ap (λ (w : Word). made w e.port e.dom) n))

-- it is declared in a copy that has those before it
pub declares_next : (r q : Roster) (i : ℕ) (name : Word) (port dom : ℕ) → q ≡ with_first r i → slice_get r.ports i ≡ Some (made name port dom)
    → declared q (Declares port name dom) ≡ with_first r (i + 1)
declares_next r q i name port dom is at =
    ap (λ (p : Roster). declared p (Declares port name dom)) is
    ∙ ap (λ (ps : List Entry). record r { place = Declarations; ports = ps }) (sym (one_more r.ports i (made name port dom) at))
    ∙ ap (with_first r) (sym (add-one i))

pub may_declare : (r q : Roster) (i : ℕ) (e : Entry) → q ≡ with_first r i → are_declared r.ports ≡ true → slice_get r.ports i ≡ Some e → fits_beside q.ports e ≡ true
may_declare r q i e is all at = ap (λ (p : Roster). fits_beside p.ports e) is ∙ fits_first r.ports i e all at

-- there is one at each place
pub entry_at : (ports : List Entry) (i : ℕ) → i < length ports → (e : Entry) × (slice_get ports i ≡ Some e)
entry_at [] i few = absurd (omega arith)
entry_at (x ∷ ports) zero few = (x, refl)
entry_at (x ∷ ports) (suc i) few = entry_at ports i (omega arith)
