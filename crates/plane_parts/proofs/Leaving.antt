-- The lines of a frame that leaves software or a chip by a verdict.
use Rattle.std.proofs.Common.{◌≡◌, ℕ, Bool, ◌&&◌, ◌||◌, true, false, not, cond, List, [], ◌∷◌, refl, sym, ap, ap₂, ◌∙◌, map, arith, Option, None, Some}
use Rattle.std.specs.List.{filter}
use Rattle.std.specs.Option.{option_eq}
use Rattle.std.proofs.lemmas.Bool.Decides.{nat_tests}
use Rattle.std.specs.Prelude.{◌==◌, if◌then◌else◌}
use Rattle.std.proofs.lemmas.Bool.{eq-eqb, eqb-true}
use Rattle.std.proofs.lemmas.Map.Views.{any-filter_same}
use Rattle.std.proofs.lemmas.Simd.{map-map}
use Rattle.lemmas.proofs.Tests.{and-true, or-true}
use Rattle.br_model.specs.declared.frame.Class.{Class}
use Rattle.br_model.specs.declared.frame.Class.TheVariants.{Drop, Trap, Copy, Forward}
use Rattle.br_model.specs.declared.frame.Head.{Head}
use Rattle.br_model.specs.declared.transcript.Line.{Line}
use Rattle.br_model.specs.declared.transcript.Line.TheVariants.{Tx}
use Rattle.br_model.specs.Forward.Admission.{admit}
use Rattle.br_model.specs.Forward.Class.{class}
use Rattle.br_model.specs.Table.DomainPorts as DomainPorts
use Rattle.br_model.specs.Table.DomainPorts.{is_in_domain, is_marked}
use Rattle.br_model.specs.Table.Domains.{Domains, domain_of, foreign, port_places}
use Rattle.br_model.specs.Forward.Eligible.{untagged}
use Rattle.br_model.specs.Wire.Frames.{dressed}
use Rattle.br_model.specs.Forward.Leave.{leave, ports_out, dressed_in, tag_at}
use Rattle.br_model.specs.Wire.Messages.{message}
use Rattle.br_model.specs.Plane.World.{sent}
use Rattle.br_model.specs.Forward.Shares.{chip_out, chip_out_by, soft_out, remaining}
use Rattle.br_model.specs.Table.Table.{Table}
use Rattle.br_model.specs.Forward.Untagged.{untagged_among}
use Rattle.forward_rules.specs.declared.soft_tables.Verdict.{Verdict}
use Rattle.port_sets.specs.Numbers.{IsSetBelow, has_number, numbers_below}
use Rattle.port_sets.proofs.Numbers.{same_below, has-below, filter-set}
use Rattle.plane_parts.specs.Sent.{line_at, lines_in, share_of}
use Rattle.forward_rules.specs.Decided.{Decides}

-- a number that is in a list is in its filter where it passes
has_passed : (p : ℕ → Bool) (q : ℕ) (xs : List ℕ) → has_number xs q ≡ true → has_number (filter p xs) q ≡ p q
has_passed p q xs h =
    any-filter_same (λ k. q == k) p (p q) (λ k same. ap p (sym (eqb-true q k same))) xs ∙ ap (λ b. p q && b) h ∙ and-true (p q)

head_in : (x : ℕ) (xs : List ℕ) → has_number (x ∷ xs) x ≡ true
head_in x xs = ap (λ b. b || has_number xs x) (eq-eqb x x refl)

tail_in : (q x : ℕ) (xs : List ℕ) → has_number xs q ≡ true → has_number (x ∷ xs) q ≡ true
tail_in q x xs h = ap (λ b. (q == x) || b) h ∙ or-true (q == x)

-- what is in the filter of a list is in the list
in_whole : (p : ℕ → Bool) (q : ℕ) (xs : List ℕ) → has_number (filter p xs) q ≡ true → has_number xs q ≡ true
in_whole p q [] = λ h. h
in_whole p q (x ∷ xs) = elim (p x) as (λ b. has_number (cond b (x ∷ filter p xs) (filter p xs)) q ≡ true → ((q == x) || has_number xs q) ≡ true) [
  | true ↦ λ h. either (q == x) (has_number (filter p xs) q) h (in_whole p q xs)
  | false ↦ λ h. tail_in q x xs (in_whole p q xs h)
]
  where
    either : (b c : Bool) → (b || c) ≡ true → (c ≡ true → has_number xs q ≡ true) → (b || has_number xs q) ≡ true
    either true c h f = refl
    either false c h f = f h

-- lines of the same ports with the same tags
same_lines : (t : Table) (id : ℕ) (bytes : List ℕ) (head : Head) (vid : ℕ) (set xs : List ℕ) → ((q : ℕ) → has_number xs q ≡ true → has_number set q ≡ untagged t q vid)
    → map (λ q. Tx id q (dressed bytes head (tag_at t q vid))) xs ≡ map (line_at set id bytes head vid) xs
same_lines t id bytes head vid set [] h = refl
same_lines t id bytes head vid set (x ∷ xs) h =
    ap₂ (λ (l : Line) (ls : List Line). l ∷ ls)
    (ap (λ b. Tx id x (dressed bytes head (if b then None else Some vid))) (sym (h x (head_in x xs))))
    (same_lines t id bytes head vid set xs (λ q within. h q (tail_in q x xs within)))

-- those that pass, with what leaves there
passed : (p : ℕ → Bool) (g : ℕ → List ℕ) (xs : List ℕ) → filter (λ (x : ℕ × List ℕ). p x.0) (map (λ q. (q, g q)) xs) ≡ map (λ q. (q, g q)) (filter p xs)
passed p g [] = refl
passed p g (x ∷ xs) = elim (p x) as (λ b. cond b ((x, g x) ∷ filter (λ (y : ℕ × List ℕ). p y.0) (map (λ q. (q, g q)) xs)) (filter (λ (y : ℕ × List ℕ). p y.0) (map (λ q. (q, g q)) xs))
    ≡ map (λ q. (q, g q)) (cond b (x ∷ filter p xs) (filter p xs))) [
      | true ↦ ap (λ ys. (x, g x) ∷ ys) (passed p g xs)
      | false ↦ passed p g xs
    ]

-- the ports of the port's own domain

own_test : (o : Option ℕ) (dom : ℕ) → option_eq (λ x y. x == y) o (Some dom) ≡ not (not (option_eq (λ x y. x == y) (Some dom) o))
own_test None dom = refl
own_test (Some d) dom = grind (arith, nat_tests)

pub within_own : (domains : Domains) (port dom : ℕ) (ports own : List ℕ) → domain_of domains port ≡ Some dom → IsSetBelow port_places ports → own ≡ DomainPorts.ports_in domains dom
    → numbers_below port_places (λ m. has_number ports m && has_number own m) ≡ filter (λ q. not (foreign domains port q)) ports
within_own domains port dom ports own on set is =
    same_below _ _ port_places (λ m low. ap (λ b. has_number ports m && b) (
    ap (λ (ns : List ℕ). has_number ns m) is
    ∙ has-below (is_in_domain domains dom) port_places m low
    ∙ own_test (domain_of domains m) dom
    ∙ ap (λ o. not (not (option_eq (λ x y. x == y) o (domain_of domains m)))) (sym on)
    ))
    ∙ sym (filter-set port_places ports (λ q. not (foreign domains port q)) set)

module _ (t : Table) (id : ℕ) (bytes : List ℕ) (head : Head) where
  -- the lines of the ports that pass, where the set is that of the untagged ones among these
  sent_lines : (o : Option ℕ) (p : ℕ → Bool) (whole set : List ℕ)
      → ((vid q : ℕ) → Some vid ≡ o → has_number (filter p whole) q ≡ true → has_number set q ≡ untagged t q vid)
      → lines_in id bytes head o (filter p whole) set ≡ sent id (filter (λ x. p x.0) (dressed_in t o whole bytes head))
  sent_lines None p whole set h = refl
  sent_lines (Some vid) p whole set h =
      sym (ap (λ (out : List (ℕ × List ℕ)). sent id out) (passed p (λ q. dressed bytes head (tag_at t q vid)) whole)
      ∙ map-map (λ (x : ℕ × List ℕ). Tx id x.0 x.1) (λ q. (q, dressed bytes head (tag_at t q vid))) (filter p whole)
      ∙ same_lines t id bytes head vid set (filter p whole) (λ q within. h vid q refl within))

  -- among all ports of the frame
  soft_lines : (o : Option ℕ) (p : ℕ → Bool) (whole : List ℕ)
      → lines_in id bytes head o (filter p whole) (untagged_among t o whole) ≡ sent id (filter (λ x. p x.0) (dressed_in t o whole bytes head))
  soft_lines o p whole = sent_lines o p whole (untagged_among t o whole) (λ vid q some within.
      ap (λ (v : Option ℕ). has_number (untagged_among t v whole) q) (sym some) ∙ has_passed (λ k. untagged t k vid) q whole (in_whole p q whole within))

  -- where the set is of the chip's share alone
  share_lines : (o : Option ℕ) (p : ℕ → Bool) (whole : List ℕ)
      → lines_in id bytes head o (filter p whole) (untagged_among t o (filter p whole)) ≡ sent id (filter (λ x. p x.0) (dressed_in t o whole bytes head))
  share_lines o p whole = sent_lines o p whole (untagged_among t o (filter p whole)) (λ vid q some within.
      ap (λ (v : Option ℕ). has_number (untagged_among t v (filter p whole)) q) (sym some) ∙ has_passed (λ k. untagged t k vid) q (filter p whole) within)

  no_lines : (o : Option ℕ) (set : List ℕ) → lines_in id bytes head o [] set ≡ []
  no_lines None set = refl
  no_lines (Some vid) set = refl

  chip_lines : (domains : Domains) (port : ℕ) (c : Class) (o : Option ℕ) (whole : List ℕ)
      → lines_in id bytes head o (share_of domains port c whole) (untagged_among t o whole) ≡ sent id (chip_out_by c domains port (dressed_in t o whole bytes head))
  chip_lines domains port Drop o whole = no_lines o (untagged_among t o whole)
  chip_lines domains port Trap o whole = no_lines o (untagged_among t o whole)
  chip_lines domains port Copy o whole = soft_lines o (λ q. not (foreign domains port q)) whole
  chip_lines domains port Forward o whole = soft_lines o (λ q. not (foreign domains port q)) whole

  own_lines : (domains : Domains) (port : ℕ) (c : Class) (o : Option ℕ) (whole : List ℕ)
      → lines_in id bytes head o (share_of domains port c whole) (untagged_among t o (share_of domains port c whole))
      ≡ sent id (chip_out_by c domains port (dressed_in t o whole bytes head))
  own_lines domains port Drop o whole = no_lines o (untagged_among t o [])
  own_lines domains port Trap o whole = no_lines o (untagged_among t o [])
  own_lines domains port Copy o whole = share_lines o (λ q. not (foreign domains port q)) whole
  own_lines domains port Forward o whole = share_lines o (λ q. not (foreign domains port q)) whole

module _ (domains : Domains) (t : Table) (port id : ℕ) (bytes : List ℕ) (head : Head) where
  pub sent_by : (v : Verdict) (mark : Option ℕ) (ports : List ℕ) → Decides domains t port head (message bytes head) v → ports ≡ filter (λ q. not (is_marked domains mark q)) v.ports
      → lines_in id bytes head v.vid ports v.untagged ≡ sent id (soft_out domains t port bytes head mark)
  unfolding leave
  sent_by v mark ports d is =
      ap₂ (λ ps set. lines_in id bytes head v.vid ps set) is d.untagged
      ∙ soft_lines t id bytes head v.vid (λ q. not (is_marked domains mark q)) v.ports
      ∙ ap₂ (λ (o : Option ℕ) ps. sent id (remaining domains mark (dressed_in t o ps bytes head))) d.vid d.ports

  pub shared_by : (v : Verdict) (ports : List ℕ) → Decides domains t port head (message bytes head) v → ports ≡ share_of domains port v.class v.ports
      → lines_in id bytes head v.vid ports v.untagged ≡ sent id (chip_out domains t port bytes head)
  unfolding leave
  shared_by v ports d is =
      ap₂ (λ ps set. lines_in id bytes head v.vid ps set) is d.untagged
      ∙ chip_lines t id bytes head domains port v.class v.vid v.ports
      ∙ ap (λ c. sent id (chip_out_by c domains port (dressed_in t v.vid v.ports bytes head))) d.class
      ∙ ap₂ (λ (o : Option ℕ) ps. sent id (chip_out_by (class domains t port head (message bytes head)) domains port (dressed_in t o ps bytes head))) d.vid d.ports

  pub sent_at_chip : (vid : Option ℕ) (ports set : List ℕ) → vid ≡ admit t port head
      → ports ≡ share_of domains port (class domains t port head (message bytes head)) (ports_out t port head (message bytes head)) → set ≡ untagged_among t vid ports
      → lines_in id bytes head vid ports set ≡ sent id (chip_out domains t port bytes head)
  unfolding leave
  sent_at_chip vid ports set is_vid is_ports is_set =
      ap (λ xs. lines_in id bytes head vid ports xs) is_set
      ∙ ap₂ (λ (o : Option ℕ) ps. lines_in id bytes head o ps (untagged_among t o ps)) is_vid is_ports
      ∙ own_lines t id bytes head domains port (class domains t port head (message bytes head)) (admit t port head) (ports_out t port head (message bytes head))
