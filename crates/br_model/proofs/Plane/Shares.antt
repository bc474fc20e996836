-- The shares of a frame: each port is in one of them, and together they are what one bridge sends.
use Rattle.std.proofs.Common.{◌≡◌, ℕ, zero, suc, ◌+◌, ◌<◌, ◌≤◌, Bool, true, false, not, cond, List, [], ◌∷◌, ◌++◌, map, length, Option, None, Some, refl, sym, ap, ◌∙◌, arith, subst, length-append}
use Rattle.std.proofs.lemmas.Bool.{le-leb, lt-leb, ne_eqb, eqb-true, or_parts, both_ways}
use Rattle.std.proofs.lemmas.Bool.Decides.{nat_tests}
use Rattle.std.proofs.lemmas.List.{append-nil}
use Rattle.std.proofs.lemmas.List.Elements.{filter-append, filter_agree}
use Rattle.std.specs.Prelude.{◌==◌, is_some}
use Rattle.std.specs.List.{filter, list_any, range_with_len}
use Rattle.std.specs.Option.{option_eq}
use Rattle.br_model.specs.declared.frame.Class.{Class}
use Rattle.br_model.specs.declared.frame.Class.TheVariants.{Drop, Trap, Copy, Forward}
use Rattle.br_model.specs.declared.frame.Head.{Head}
use Rattle.br_model.specs.Forward.Admission.{admit}
use Rattle.br_model.specs.Forward.Class.{class}
use Rattle.br_model.specs.Table.DomainPorts.{is_marked}
use Rattle.br_model.specs.Table.Domains.{Domains, domain_of, foreign, port_places}
use Rattle.br_model.specs.Wire.Frames.{dressed}
use Rattle.br_model.specs.Forward.Leave.{all_ports, egress_ports, ports_in, ports_out, tag_at, dressed_in, leave}
use Rattle.br_model.specs.Wire.Messages.{message}
use Rattle.br_model.specs.Forward.Shares.{within, chip_out_by, remaining}
use Rattle.br_model.specs.Table.Table.{Table}
use Rattle.br_model.specs.Forward.Targets.{to_tree}
use Rattle.br_model.specs.Plane.Sending.{Sent, times, placed, in_port_order, software_share, both_shares}
use Rattle.br_model.proofs.Data.Ranges.{filter-all_ports}

-- Ports that ascend.

-- all ports are above this one
abbrev Above : ℕ → Sent → Type 0
Above n [] = Unit {0}
Above n (x ∷ xs) = (n < x.0) × Above n xs

abbrev pub Ascends : Sent → Type 0
Ascends [] = Unit {0}
Ascends (x ∷ xs) = Above x.0 xs × Ascends xs

above-filter : (p : ℕ × List ℕ → Bool) (n : ℕ) (xs : Sent) → Above n xs → Above n (filter p xs)
above-filter p n [] h = tt
above-filter p n (x ∷ xs) h = elim (p x) as (λ b. Above n (cond b (x ∷ filter p xs) (filter p xs))) [ true ↦ (h.0, above-filter p n xs h.1) | false ↦ above-filter p n xs h.1 ]

pub ascends-filter : (p : ℕ × List ℕ → Bool) (xs : Sent) → Ascends xs → Ascends (filter p xs)
ascends-filter p [] h = tt
ascends-filter p (x ∷ xs) h = elim (p x) as (λ b. Ascends (cond b (x ∷ filter p xs) (filter p xs))) [ true ↦ (above-filter p x.0 xs h.0, ascends-filter p xs h.1) | false ↦ ascends-filter p xs h.1 ]

module _ (g : ℕ → List ℕ) (p : ℕ → Bool) where
  above-range : (k a n : ℕ) → k < a → Above k (map (λ q. (q, g q)) (filter p (range_with_len a n)))
  above-range k a zero h = tt
  above-range k a (suc n) h =
      let rest : Above k (map (λ q. (q, g q)) (filter p (range_with_len (a + 1) n))) = above-range k (a + 1) n (omega arith) in
      elim (p a) as (λ b. Above k (map (λ q. (q, g q)) (cond b (a ∷ filter p (range_with_len (a + 1) n)) (filter p (range_with_len (a + 1) n))))) [ true ↦ (h, rest) | false ↦ rest ]

  ascends-range : (a n : ℕ) → Ascends (map (λ q. (q, g q)) (filter p (range_with_len a n)))
  ascends-range a zero = tt
  ascends-range a (suc n) =
      let rest : Ascends (map (λ q. (q, g q)) (filter p (range_with_len (a + 1) n))) = ascends-range (a + 1) n in
      elim (p a) as (λ b. Ascends (map (λ q. (q, g q)) (cond b (a ∷ filter p (range_with_len (a + 1) n)) (filter p (range_with_len (a + 1) n))))) [
        | true ↦ (above-range a (a + 1) n (omega arith), rest)
        | false ↦ rest
      ]

  ascends-ports : (n : ℕ) → n ≡ port_places → Ascends (map (λ q. (q, g q)) (filter p all_ports))
  ascends-ports n e = subst (λ xs. Ascends (map (λ q. (q, g q)) xs)) (filter-all_ports p n e) (ascends-range 0 n)

pub ascends-leave : (t : Table) (port : ℕ) (bytes : List ℕ) (head : Head) → Ascends (leave t port bytes head)
unfolding leave ports_out egress_ports
ascends-leave t port bytes head = by (admit t port head) (to_tree t port head)
  where
    by : (o : Option ℕ) (b : Bool) → Ascends (dressed_in t o (cond b [] (ports_in t port o head (message bytes head))) bytes head)
    by None b = tt
    by (Some vid) true = tt
    by (Some vid) false = ascends-ports (λ q. dressed bytes head (tag_at t q vid)) _ port_places refl

-- The order of ports.

placed-first : (x : ℕ × List ℕ) (xs : Sent) → Above x.0 xs → placed x xs ≡ x ∷ xs
placed-first x [] h = refl
placed-first x (y ∷ ys) h = ap (λ b. cond b (x ∷ y ∷ ys) (y ∷ placed x ys)) (le-leb x.0 y.0 (omega (arith, h.0)))

pub order-stays : (xs : Sent) → Ascends xs → in_port_order xs ≡ xs
order-stays [] h = refl
order-stays (x ∷ xs) h = ap (placed x) (order-stays xs h.1) ∙ placed-first x xs h.0

order-middle : (x : ℕ × List ℕ) (xs ys : Sent) → Above x.0 xs → in_port_order (x ∷ ys) ≡ x ∷ in_port_order ys → in_port_order (xs ++ x ∷ ys) ≡ x ∷ in_port_order (xs ++ ys)
order-middle x [] ys h e = e
order-middle x (y ∷ xs) ys h e =
    ap (placed y) (order-middle x xs ys h.1 e)
    ∙ ap (λ b. cond b (y ∷ x ∷ in_port_order (xs ++ ys)) (x ∷ placed y (in_port_order (xs ++ ys)))) (lt-leb y.0 x.0 h.0)

pub order-parts : (p : ℕ × List ℕ → Bool) (xs : Sent) → Ascends xs → in_port_order (filter p xs ++ filter (λ x. not (p x)) xs) ≡ xs
order-parts p [] h = refl
order-parts p (x ∷ xs) h =
    let rest = order-parts p xs h.1 in
    elim (p x) as (λ b. in_port_order (cond b (x ∷ filter p xs) (filter p xs) ++ cond (not b) (x ∷ filter (λ y. not (p y)) xs) (filter (λ y. not (p y)) xs)) ≡ x ∷ xs) [
      | true ↦ ap (placed x) rest ∙ placed-first x xs h.0
      | false ↦ order-middle x (filter p xs) (filter (λ y. not (p y)) xs) (above-filter p x.0 xs h.0) (order-first (λ y. not (p y)) xs h.0 h.1) ∙ ap (λ l. x ∷ l) rest
    ]
  where
    order-first : (q : ℕ × List ℕ → Bool) (ys : Sent) → Above x.0 ys → Ascends ys → in_port_order (x ∷ filter q ys) ≡ x ∷ in_port_order (filter q ys)
    order-first q ys above ascends =
        let stays = order-stays (filter q ys) (ascends-filter q ys ascends) in
        ap (placed x) stays ∙ placed-first x (filter q ys) (above-filter q x.0 ys above) ∙ ap (λ l. x ∷ l) (sym stays)

-- The domain of the port that a copied frame came by.

flip-eq : (d : ℕ) (b : Option ℕ) → not (not (option_eq (λ x y. x == y) (Some d) b)) ≡ option_eq (λ x y. x == y) b (Some d)
flip-eq d None = refl
flip-eq d (Some e) = grind (arith, nat_tests)

own-domain : (domains : Domains) (q : ℕ) (a : Option ℕ) → is_some a ≡ true → not (not (option_eq (λ x y. x == y) a (domain_of domains q))) ≡ is_marked domains a q
own-domain domains q None h = absurd (cc)
own-domain domains q (Some d) h = flip-eq d (domain_of domains q)

module _ (domains : Domains) (port : ℕ) (declared : is_some (domain_of domains port) ≡ true) where
  within-marked : (out : Sent) → within domains port out ≡ filter (λ x. is_marked domains (domain_of domains port) x.0) out
  within-marked out =
      filter_agree (λ (x : ℕ × List ℕ). not (foreign domains port x.0)) (λ (x : ℕ × List ℕ). is_marked domains (domain_of domains port) x.0)
      (λ x. own-domain domains x.0 (domain_of domains port) declared) out

  copied-together : (out : Sent) → Ascends out → in_port_order (within domains port out ++ remaining domains (domain_of domains port) out) ≡ out
  copied-together out h =
      ap (λ (l : Sent). in_port_order (l ++ remaining domains (domain_of domains port) out)) (within-marked out)
      ∙ order-parts (λ x. is_marked domains (domain_of domains port) x.0) out h

-- a test that all pass keeps all
pub all-kept : (xs : Sent) → filter (λ x. true) xs ≡ xs
all-kept [] = refl
all-kept (x ∷ xs) = ap (λ l. x ∷ l) (all-kept xs)

none-foreign : (domains : Domains) (port : ℕ) (g : ℕ → List ℕ) (ports : List ℕ) → list_any (λ q. foreign domains port q) ports ≡ false
    → within domains port (map (λ q. (q, g q)) ports) ≡ map (λ q. (q, g q)) ports
none-foreign domains port g [] h = refl
none-foreign domains port g (q ∷ qs) h =
    let parts = or_parts (foreign domains port q) (list_any (λ q. foreign domains port q) qs) h in
    ap (λ b. cond (not b) ((q, g q) ∷ within domains port (map (λ q. (q, g q)) qs)) (within domains port (map (λ q. (q, g q)) qs))) parts.0
    ∙ ap (λ l. (q, g q) ∷ l) (none-foreign domains port g qs parts.1)

-- What each class says of the ports.

class-drop : (a b c : Bool) → cond a Trap (cond b Drop (cond c Copy Forward)) ≡ Drop → b ≡ true
class-drop true b c h = absurd (cc)
class-drop false true c h = refl
class-drop false false true h = absurd (cc)
class-drop false false false h = absurd (cc)

class-forward : (a b c : Bool) → cond a Trap (cond b Drop (cond c Copy Forward)) ≡ Forward → c ≡ false
class-forward true b c h = absurd (cc)
class-forward false true c h = absurd (cc)
class-forward false false true h = absurd (cc)
class-forward false false false h = refl

no-ports : (t : Table) (o : Option ℕ) (ports bytes : List ℕ) (head : Head) → (length ports == 0) ≡ true → dressed_in t o ports bytes head ≡ []
no-ports t None ports bytes head h = refl
no-ports t (Some vid) [] bytes head h = refl
no-ports t (Some vid) (q ∷ ports) bytes head h = absurd (omega (arith, eqb-true _ _ h))

own-ports : (domains : Domains) (port : ℕ) (t : Table) (o : Option ℕ) (ports bytes : List ℕ) (head : Head) → list_any (λ q. foreign domains port q) ports ≡ false
    → within domains port (dressed_in t o ports bytes head) ≡ dressed_in t o ports bytes head
own-ports domains port t None ports bytes head h = refl
own-ports domains port t (Some vid) ports bytes head h = none-foreign domains port (λ q. dressed bytes head (tag_at t q vid)) ports h

module _ (domains : Domains) (t : Table) (port : ℕ) (bytes : List ℕ) (head : Head) where
  abbrev the_class : Class
  the_class = class domains t port head (message bytes head)

  abbrev the_ports : List ℕ
  the_ports = ports_out t port head (message bytes head)

  drop-leaves : the_class ≡ Drop → leave t port bytes head ≡ []
  unfolding leave
  drop-leaves h = no-ports t (admit t port head) the_ports bytes head (class-drop _ _ _ h)

  forward-leaves : the_class ≡ Forward → within domains port (leave t port bytes head) ≡ leave t port bytes head
  unfolding leave
  forward-leaves h = own-ports domains port t (admit t port head) the_ports bytes head (class-forward _ _ _ h)

  pub together : is_some (domain_of domains port) ≡ true → in_port_order (both_shares domains t t port bytes head) ≡ leave t port bytes head
  together declared = by the_class refl
    where
      by : (c : Class) → the_class ≡ c → in_port_order (chip_out_by c domains port (leave t port bytes head) ++ software_share c domains t port bytes head) ≡ leave t port bytes head
      by Drop is = sym (drop-leaves is)
      by Trap is = ap in_port_order (all-kept (leave t port bytes head)) ∙ order-stays _ (ascends-leave t port bytes head)
      by Copy is = copied-together domains port declared _ (ascends-leave t port bytes head)
      by Forward is = ap in_port_order (append-nil (within domains port (leave t port bytes head)) ∙ forward-leaves is) ∙ order-stays _ (ascends-leave t port bytes head)

-- How often something leaves a port.

pub times-append : (q : ℕ) (xs ys : Sent) → times q (xs ++ ys) ≡ times q xs + times q ys
times-append q xs ys = ap length (filter-append (λ (x : ℕ × List ℕ). x.0 == q) xs ys) ∙ length-append (filter (λ (x : ℕ × List ℕ). x.0 == q) xs) (filter (λ (x : ℕ × List ℕ). x.0 == q) ys)

times-below : (q n : ℕ) (xs : Sent) → q ≤ n → Above n xs → times q xs ≡ 0
times-below q n [] le h = refl
times-below q n (x ∷ xs) le h =
    ap (λ b. length (cond b (x ∷ filter (λ y. y.0 == q) xs) (filter (λ y. y.0 == q) xs))) (ne_eqb x.0 q (λ e. omega (arith, h.0, e))) ∙ times-below q n xs le h.1

pub times-ascends : (q : ℕ) (xs : Sent) → Ascends xs → times q xs ≤ 1
times-ascends q [] h = omega arith
times-ascends q (x ∷ xs) h =
    let rest = times-ascends q xs h.1 in
    (elim (x.0 == q) as (λ b. (x.0 == q) ≡ b → length (cond b (x ∷ filter (λ y. y.0 == q) xs) (filter (λ y. y.0 == q) xs)) ≤ 1) [
      | true ↦ λ e. omega (arith, times-below q x.0 xs (omega (arith, eqb-true x.0 q e)) h.0)
      | false ↦ λ e. rest
    ]) refl

-- a test of ports that this one doesn't pass
times-filter : (test : ℕ → Bool) (q : ℕ) (xs : Sent) → test q ≡ false → times q (filter (λ x. test x.0) xs) ≡ 0
times-filter test q [] out = refl
times-filter test q (x ∷ xs) out =
    let rest = times-filter test q xs out in
    (elim (test x.0) as (λ b. test x.0 ≡ b → times q (cond b (x ∷ filter (λ y. test y.0) xs) (filter (λ y. test y.0) xs)) ≡ 0) [
      | true ↦
          λ e. ap (λ b. length (cond b (x ∷ filter (λ y. y.0 == q) (filter (λ y. test y.0) xs)) (filter (λ y. y.0 == q) (filter (λ y. test y.0) xs))))
          (ne_eqb x.0 q (λ is. both_ways (test q) out (sym (ap test is) ∙ e))) ∙ rest
      | false ↦ λ e. rest
    ]) refl

pub times-remaining : (domains : Domains) (mark : Option ℕ) (q : ℕ) (out : Sent) → is_marked domains mark q ≡ true → times q (remaining domains mark out) ≡ 0
times-remaining domains mark q out h = times-filter (λ p. not (is_marked domains mark p)) q out (ap not h)

module _ (domains : Domains) (port : ℕ) (declared : is_some (domain_of domains port) ≡ true) where
  pub times-within : (q : ℕ) (out : Sent) → is_marked domains (domain_of domains port) q ≡ false → times q (within domains port out) ≡ 0
  times-within q out h = ap (times q) (within-marked domains port declared out) ∙ times-filter (λ p. is_marked domains (domain_of domains port) p) q out h

module _ (domains : Domains) (t later : Table) (port : ℕ) (bytes : List ℕ) (head : Head) where
  pub apart : is_some (domain_of domains port) ≡ true → (q : ℕ) → times q (both_shares domains t later port bytes head) ≤ 1
  apart declared q = by (class domains t port head (message bytes head))
    where
      sum : (xs ys : Sent) → times q xs + times q ys ≤ 1 → times q (xs ++ ys) ≤ 1
      sum xs ys h = omega (arith, times-append q xs ys)

      within-once : times q (within domains port (leave t port bytes head)) ≤ 1
      within-once = times-ascends q _ (ascends-filter (λ (x : ℕ × List ℕ). not (foreign domains port x.0)) (leave t port bytes head) (ascends-leave t port bytes head))

      remaining-once : times q (remaining domains (domain_of domains port) (leave later port bytes head)) ≤ 1
      remaining-once = times-ascends q _ (ascends-filter (λ (x : ℕ × List ℕ). not (is_marked domains (domain_of domains port) x.0)) (leave later port bytes head) (ascends-leave later port bytes head))

      alone : times q (within domains port (leave t port bytes head) ++ []) ≤ 1
      alone = sum (within domains port (leave t port bytes head)) [] (omega (arith, within-once))

      copied : (b : Bool) → is_marked domains (domain_of domains port) q ≡ b
          → times q (within domains port (leave t port bytes head) ++ remaining domains (domain_of domains port) (leave later port bytes head)) ≤ 1
      copied true is =
          sum (within domains port (leave t port bytes head)) (remaining domains (domain_of domains port) (leave later port bytes head))
          (omega (arith, within-once, times-remaining domains (domain_of domains port) q (leave later port bytes head) is))
      copied false is =
          sum (within domains port (leave t port bytes head)) (remaining domains (domain_of domains port) (leave later port bytes head))
          (omega (arith, remaining-once, times-within domains port declared q (leave t port bytes head) is))

      by : (c : Class) → times q (chip_out_by c domains port (leave t port bytes head) ++ software_share c domains later port bytes head) ≤ 1
      by Drop = omega arith
      by Trap = times-ascends q _ (ascends-filter (λ (x : ℕ × List ℕ). true) (leave later port bytes head) (ascends-leave later port bytes head))
      by Copy = copied (is_marked domains (domain_of domains port) q) refl
      by Forward = alone
