-- What leaves, and of which class it is, by the ways that rows lead.
use Rattle.std.proofs.Common.{◌≡◌, ℕ, ◌<◌, Bool, true, false, not, ◌&&◌, ◌||◌, cond, IsTrue, ◌↔◌, List, [], ◌∷◌, refl, sym, ap, ap₂, subst, ◌∙◌, inl, inr}
use Rattle.std.specs.Prelude.{◌==◌}
use Rattle.std.specs.List.{filter, list_any, range_with_len}
use Rattle.std.specs.Ordering.{nat_cmp}
use Rattle.std.specs.Cmp.{unsigned_tied}
use Rattle.std.proofs.lemmas.Bool.{eq-eqb, ne_eqb}
use Rattle.std.proofs.lemmas.Bool.Decides.{eqb_tells}
use Rattle.std.proofs.Math.Bool.{not-not}
use Rattle.lemmas.proofs.Tests.{or-false, and-false, and_comm, contradicts}
use Rattle.port_sets.specs.Numbers.{numbers_below, has_number}
use Rattle.port_sets.proofs.Numbers.{has-below, has-filter, filter-numbers_below, same_below}
use Rattle.br_model.specs.Forward.Admission.{is_forwarding, member}
use Rattle.br_model.specs.Forward.Class.{class_by}
use Rattle.br_model.specs.Table.Domains.{Domains, foreign, host, port_places}
use Rattle.br_model.specs.Forward.Eligible.{may}
use Rattle.br_model.specs.Forward.Leave.{all_ports, egress_ports}
use Rattle.br_model.specs.Data.Maps.{has}
use Rattle.br_model.specs.Table.Table.{Table}
use Rattle.br_model.specs.Forward.Targets.{has_flag, isolated, targets}
use Rattle.br_model.specs.declared.frame.Class.{Class}
use Rattle.br_model.specs.declared.frame.Class.TheVariants.{Drop, Trap, Copy, Forward}
use Rattle.br_model.specs.declared.frame.Head.{Head}
use Rattle.br_model.specs.declared.frame.McastMsg.{McastMsg}
use Rattle.chip_tables.specs.declared.rows.FanRow.{FanRow}
use Rattle.chip_tables.specs.Rows.{Rows, port_at, vlan_at}
use Rattle.chip_tables.specs.Stands.{IsVid, is_free, is_open, is_own, ports_where, some_port}
use Rattle.chip_pipeline.specs.declared.egress.Out.{Out}
use Rattle.chip_pipeline.specs.Outs.{IsOut}
use Rattle.chip_pipeline.specs.Passed.{AtChip, chip_ports_by}
use Rattle.chip_pipeline.specs.PortRows.{row_takes}
use Rattle.chip_pipeline.specs.Ways.{Leads, LeadsTo, leaves_chip}
use Rattle.chip_pipeline.proofs.Reading.{flag-is, foreign-is, forwards-is, member-is, not-host}
use Rattle.chip_tables.proofs.SomePort.{same_some, some-none}
use Rattle.chip_pipeline.proofs.Sets.{any_filter, any_split, member-of, nowhere_filter}

-- ---- which port may take a frame

pub no-member : (t : Table) (p q vid : ℕ) → member t q vid ≡ false → false ≡ may t p q vid
no-member t p q vid isnt =
    by (q == host) (not (q == p)) (is_forwarding t q) (not (has_flag t p isolated && has_flag t q isolated))
    ∙ ap (λ m. cond (q == host) m (not (q == p) && (is_forwarding t q && (m && not (has_flag t p isolated && has_flag t q isolated))))) (sym isnt)
  where
    by : (h o f z : Bool) → false ≡ cond h false (o && (f && (false && z)))
    by true o f z = refl
    by false true true z = refl
    by false true false z = refl
    by false false f z = refl

pub host-takes : (t : Table) (p q vid : ℕ) → member t q vid ≡ true → (q == host) ≡ true → true ≡ may t p q vid
host-takes t p q vid is at = sym (ap₂ (λ h m. cond h m (not (q == p) && (is_forwarding t q && (m && not (has_flag t p isolated && has_flag t q isolated))))) at is)

pub itself : (t : Table) (p q vid : ℕ) → (q == host) ≡ false → (q == p) ≡ true → false ≡ may t p q vid
itself t p q vid away same = sym (ap₂ (λ h s. cond h (member t q vid) (not s && (is_forwarding t q && (member t q vid && not (has_flag t p isolated && has_flag t q isolated))))) away same)

pub other-takes : (t : Table) (p q vid : ℕ) → member t q vid ≡ true → (q == host) ≡ false → (q == p) ≡ false
    → (is_forwarding t q && not (has_flag t p isolated && has_flag t q isolated)) ≡ may t p q vid
other-takes t p q vid is away other =
    ap (λ m. is_forwarding t q && (m && not (has_flag t p isolated && has_flag t q isolated))) (sym is)
    ∙ sym (ap₂ (λ h s. cond h (member t q vid) (not s && (is_forwarding t q && (member t q vid && not (has_flag t p isolated && has_flag t q isolated))))) away other)

-- ---- the class of what leaves

abbrev goes : Table → ℕ → ℕ → Head → McastMsg → ℕ → Bool
goes t p vid head msg q = has nat_cmp (targets t vid head msg) q && may t p q vid

class-of : (d : Domains) (t : Table) (p vid : ℕ) (head : Head) (msg : McastMsg)
    → class_by d p (egress_ports t p vid head msg) ≡ cond (not (some_port (goes t p vid head msg))) Drop (cond (some_port (λ q. goes t p vid head msg q && foreign d p q)) Copy Forward)
unfolding egress_ports all_ports some_port
class-of d t p vid head msg =
    ap₂ (λ a b. cond a Drop (cond b Copy Forward)) (nowhere_filter (goes t p vid head msg) (range_with_len 0 port_places))
    (any_filter (goes t p vid head msg) (foreign d p) (range_with_len 0 port_places))

-- the chip's share of it
own-share : (d : Domains) (t : Table) (p vid : ℕ) (head : Head) (msg : McastMsg)
    → filter (λ q. not (foreign d p q)) (egress_ports t p vid head msg) ≡ ports_where (λ q. goes t p vid head msg q && not (foreign d p q))
unfolding egress_ports all_ports numbers_below
own-share d t p vid head msg = filter-numbers_below (goes t p vid head msg) (λ q. not (foreign d p q)) port_places

-- ---- one target

any_and : (x : ℕ) (b : Bool) (xs : List ℕ) → list_any (λ q. (x == q) && b) xs ≡ (list_any (λ q. x == q) xs && b)
any_and x b [] = refl
any_and x b (y ∷ ys) = ap (λ c. ((x == y) && b) || c) (any_and x b ys) ∙ step (x == y) b (list_any (λ q. x == q) ys)
  where
    step : (a b c : Bool) → ((a && b) || (c && b)) ≡ ((a || c) && b)
    step true true c = refl
    step true false true = refl
    step true false false = refl
    step false b c = refl

in-range : (x : ℕ) → x < port_places → has_number (range_with_len 0 port_places) x ≡ true
unfolding numbers_below
in-range x low = sym (has-filter (λ _. true) x (range_with_len 0 port_places)) ∙ has-below (λ _. true) port_places x low

alone : (x q : ℕ) (f : ℕ → Bool) → (has nat_cmp (x ∷ []) q && f q) ≡ ((x == q) && f x)
alone x q f = elim (eqb_tells q x) [
  | inl e ↦ ap₂ (λ a n. (a || false) && f n) (unsigned_tied q x ∙ e.0) e.1 ∙ sym (ap (λ a. a && f x) (eq-eqb x q (sym e.1)))
  | inr e ↦ ap (λ a. (a || false) && f q) (unsigned_tied q x ∙ e.0) ∙ sym (ap (λ a. a && f x) (ne_eqb x q (λ same. e.1 (sym same))))
]

any-one : (x : ℕ) (f : ℕ → Bool) → x < port_places → some_port (λ q. has nat_cmp (x ∷ []) q && f q) ≡ f x
unfolding some_port
any-one x f low =
    same_some (λ q. has nat_cmp (x ∷ []) q && f q) (λ q. (x == q) && f x) (λ q below. alone x q f)
    ∙ any_and x (f x) (range_with_len 0 port_places)
    ∙ ap (λ b. b && f x) (in-range x low)

assoc : (a b c : Bool) → ((a && b) && c) ≡ (a && (b && c))
assoc true b c = refl
assoc false b c = refl

-- the class by one target
class-one : (d : Domains) (t : Table) (p vid x : ℕ) (head : Head) (msg : McastMsg) → LeadsTo d t p vid head x (targets t vid head msg)
    → class_by d p (egress_ports t p vid head msg) ≡ cond (not (may t p x vid)) Drop (cond (may t p x vid && foreign d p x) Copy Forward)
class-one d t p vid x head msg leads =
    class-of d t p vid head msg
    ∙ ap₂ (λ a b. cond (not a) Drop (cond b Copy Forward))
    (ap (λ (xs : List ℕ). some_port (λ q. has nat_cmp xs q && may t p q vid)) leads.goal ∙ any-one x (λ q. may t p q vid) leads.below)
    (ap (λ (xs : List ℕ). some_port (λ q. (has nat_cmp xs q && may t p q vid) && foreign d p q)) leads.goal
    ∙ same_some _ _ (λ q low. assoc (has nat_cmp (x ∷ []) q) (may t p q vid) (foreign d p q))
    ∙ any-one x (λ q. may t p q vid && foreign d p q) leads.below)

-- by no port, dropped or trapped
drops : (d : Domains) (t : Table) (p vid : ℕ) (head : Head) (msg : McastMsg) (out : Out) → out ≡ record { class = Drop; ports = [] }
    → Drop ≡ cond (leaves_chip d t p vid head) Trap (class_by d p (egress_ports t p vid head msg))
    → IsOut d t p vid head msg out
drops d t p vid head msg out is cls = subst (IsOut d t p vid head msg) (sym is) (record { class = cls; ports = refl })

pub one-drop : (d : Domains) (t : Table) (p vid x : ℕ) (head : Head) (msg : McastMsg) (out : Out) → LeadsTo d t p vid head x (targets t vid head msg) → may t p x vid ≡ false
    → out ≡ record { class = Drop; ports = [] }
    → IsOut d t p vid head msg out
one-drop d t p vid x head msg out leads may_not is =
    drops d t p vid head msg out is
    (sym
    (ap₂ (λ l c. cond l Trap c) (leads.alone ∙ ap (λ b. foreign d p x && b) may_not ∙ and-false (foreign d p x))
    (class-one d t p vid x head msg leads ∙ ap (λ b. cond (not b) Drop (cond (b && foreign d p x) Copy Forward)) may_not)))

pub one-forward : (d : Domains) (dom : ℕ) (rows : Rows) (t : Table) (p vid x : ℕ) (head : Head) (msg : McastMsg) (ports : List ℕ) → AtChip d dom rows t p
    → LeadsTo d t p vid head x (targets t vid head msg) → may t p x vid ≡ true → is_own d dom x ≡ true
    → ports ≡ ports_where (λ q. (q == x) || has_number [] q) → IsOut d t p vid head msg (record { class = Forward; ports = ports })
one-forward d dom rows t p vid x head msg ports at leads takes own is =
    let near : foreign d p x ≡ false = foreign-is d dom p x at.own ∙ ap not own in
    record {
      class =
          sym
          (ap₂ (λ l c. cond l Trap c) (leads.alone ∙ ap₂ ◌&&◌ near takes)
          (class-one d t p vid x head msg leads ∙ ap₂ (λ b f. cond (not b) Drop (cond (b && f) Copy Forward)) takes near));
      ports = is ∙ same_below _ _ port_places (λ q low. only q) ∙ sym (own-share d t p vid head msg);
    }
  where
    only : (q : ℕ) → ((q == x) || false) ≡ ((has nat_cmp (targets t vid head msg) q && may t p q vid) && not (foreign d p q))
    only q =
        or-false (q == x)
        ∙ turn q
        ∙ sym (assoc (has nat_cmp (x ∷ []) q) (may t p q vid) (not (foreign d p q)))
        ∙ sym (ap (λ (xs : List ℕ). (has nat_cmp xs q && may t p q vid) && not (foreign d p q)) leads.goal)
      where
        turn : (q : ℕ) → (q == x) ≡ (has nat_cmp (x ∷ []) q && (may t p q vid && not (foreign d p q)))
        turn q = elim (eqb_tells q x) [
          | inl e ↦
              e.0
              ∙ sym
              (alone x q (λ m. may t p m vid && not (foreign d p m)) ∙ ap₂ (λ a b. a && b) (eq-eqb x q (sym e.1)) (ap₂ (λ a b. a && not b) takes (foreign-is d dom p x at.own ∙ ap not own)))
          | inr e ↦ e.0 ∙ sym (alone x q (λ m. may t p m vid && not (foreign d p m)) ∙ ap (λ a. a && (may t p x vid && not (foreign d p x))) (ne_eqb x q (λ same. e.1 (sym same))))
        ]

pub one-trap : (d : Domains) (dom : ℕ) (rows : Rows) (t : Table) (p vid x : ℕ) (head : Head) (msg : McastMsg) (out : Out) → AtChip d dom rows t p
    → LeadsTo d t p vid head x (targets t vid head msg) → may t p x vid ≡ true → is_own d dom x ≡ false
    → out ≡ record { class = Trap; ports = [] } → IsOut d t p vid head msg out
one-trap d dom rows t p vid x head msg out at leads takes away is =
    subst (IsOut d t p vid head msg) (sym is) (record {
      class = sym (ap (λ l. cond l Trap (class_by d p (egress_ports t p vid head msg))) (leads.alone ∙ ap₂ ◌&&◌ (foreign-is d dom p x at.own ∙ ap not away) takes));
      ports = refl;
    })

-- ---- no target

pub nowhere-out : (d : Domains) (t : Table) (p vid : ℕ) (head : Head) (msg : McastMsg) (out : Out) → targets t vid head msg ≡ [] → leaves_chip d t p vid head ≡ false
    → out ≡ record { class = Drop; ports = [] }
    → IsOut d t p vid head msg out
unfolding some_port
nowhere-out d t p vid head msg out nothing stays is =
    drops d t p vid head msg out is
    (sym
    (ap₂ (λ l c. cond l Trap c) stays
    (class-of d t p vid head msg
    ∙ ap (λ (xs : List ℕ). cond (not (some_port (λ q. has nat_cmp xs q && may t p q vid))) Drop (cond (some_port (λ q. (has nat_cmp xs q && may t p q vid) && foreign d p q)) Copy Forward)) nothing
    ∙ ap (λ b. cond (not b) Drop (cond (some_port (λ q. (has nat_cmp [] q && may t p q vid) && foreign d p q)) Copy Forward)) (none-of (range_with_len 0 port_places)))))
  where
    none-of : (xs : List ℕ) → list_any (λ (q : ℕ). false) xs ≡ false
    none-of [] = refl
    none-of (x ∷ xs) = none-of xs

-- ---- many targets

open_is : (h m f x : Bool) → (m && (h || f)) ≡ cond h m (f && (m && not (false && x)))
open_is true true f x = refl
open_is true false f x = refl
open_is false true true x = refl
open_is false true false x = refl
open_is false false true x = refl
open_is false false false x = refl

free_is : (h m f x : Bool) → ((m && (h || f)) && (h || not x)) ≡ cond h m (f && (m && not (true && x)))
free_is true true f x = refl
free_is true false f x = refl
free_is false true true x = refl
free_is false true false x = refl
free_is false false true x = refl
free_is false false false x = refl

class_is : (own elsewhere : Bool) → cond elsewhere Copy (cond (not own) Drop Forward) ≡ cond (not (own || elsewhere)) Drop (cond elsewhere Copy Forward)
class_is true true = refl
class_is true false = refl
class_is false true = refl
class_is false false = refl

some_split : (own p : ℕ → Bool) → some_port p ≡ (some_port (λ x. own x && p x) || some_port (λ x. not (own x) && p x))
unfolding some_port
some_split own p = any_split own p (range_with_len 0 port_places)

module _ (d : Domains) (dom : ℕ) (rows : Rows) (t : Table) (p vid : ℕ) (head : Head) (msg : McastMsg) (row : FanRow)
    (at : AtChip d dom rows t p) (low : p < port_places) (range : IsVid vid) (leads : Leads d dom t p vid row (targets t vid head msg)) where
  abbrev reaches : ℕ → Bool
  reaches q = leads.target q && may t p q vid

  -- a port of the chip
  takes-is : (q : ℕ) → q < port_places → is_own d dom q ≡ true → row_takes p (has_flag t p isolated) (vlan_at rows vid) q (port_at rows q) ≡ may t p q vid
  takes-is q below own =
      ap₂ (λ m l. m && (not (q == p) && l)) (member-is d dom t rows at.stands vid q range below)
      (ap₂ (λ f x. f && not (has_flag t p isolated && x)) (forwards-is d dom t rows at.stands q below) (flag-is d dom t rows at.stands q isolated below))
      ∙ turn (member t q vid) (not (q == p)) (is_forwarding t q) (not (has_flag t p isolated && has_flag t q isolated))
      ∙ ap (λ b. cond b (member t q vid) (not (q == p) && (is_forwarding t q && (member t q vid && not (has_flag t p isolated && has_flag t q isolated))))) (sym (not-host d dom q at.outside own))
    where
      turn : (m o f z : Bool) → (m && (o && (f && z))) ≡ (o && (f && (m && z)))
      turn true o f z = refl
      turn false true true z = refl
      turn false true false z = refl
      turn false false f z = refl

  reached-is : (q : ℕ) → q < port_places → (has_number row.ports q && row_takes p (has_flag t p isolated) (vlan_at rows vid) q (port_at rows q)) ≡ (is_own d dom q && reaches q)
  reached-is q below =
      ap (λ b. b && row_takes p (has_flag t p isolated) (vlan_at rows vid) q (port_at rows q))
      (member-of (λ m. is_own d dom m && leads.target m) row.ports q (ap (λ (r : FanRow). r.ports) leads.wanted) below)
      ∙ by (is_own d dom q) refl
    where
      by : (b : Bool) → is_own d dom q ≡ b → ((b && leads.target q) && row_takes p (has_flag t p isolated) (vlan_at rows vid) q (port_at rows q)) ≡ (b && (leads.target q && may t p q vid))
      by true own = ap (λ x. leads.target q && x) (takes-is q below own)
      by false own = refl

  -- a port elsewhere
  may-is : (q : ℕ) (i : Bool) → is_own d dom q ≡ false → has_flag t p isolated ≡ i
      → may t p q vid ≡ cond (q == host) (member t q vid) (is_forwarding t q && (member t q vid && not (i && has_flag t q isolated)))
  may-is q i elsewhere is_i =
      ap₂ (λ a b. cond (q == host) (member t q vid) (not a && (is_forwarding t q && (member t q vid && not (b && has_flag t q isolated)))))
      (ne_eqb q p (λ same. contradicts (is_own d dom p) at.own (sym (ap (is_own d dom) same) ∙ elsewhere))) is_i

  abbrev reaches_elsewhere : ℕ → Bool
  reaches_elsewhere q = not (is_own d dom q) && reaches q

  bit-is : (i : Bool) → has_flag t p isolated ≡ i → cond i row.isolated row.plain ≡ some_port reaches_elsewhere
  bit-is true is_i = ap (λ (r : FanRow). r.isolated) leads.wanted ∙ same_some _ _ (λ q below. by q (is_own d dom q) refl)
    where
      by : (q : ℕ) (b : Bool) → is_own d dom q ≡ b → (not b && (leads.target q && is_free t vid q)) ≡ (not b && (leads.target q && may t p q vid))
      by q true own = refl
      by q false own = ap (λ x. leads.target q && x) (free_is (q == host) (member t q vid) (is_forwarding t q) (has_flag t q isolated) ∙ sym (may-is q true own is_i))
  bit-is false is_i = ap (λ (r : FanRow). r.plain) leads.wanted ∙ same_some _ _ (λ q below. by q (is_own d dom q) refl)
    where
      by : (q : ℕ) (b : Bool) → is_own d dom q ≡ b → (not b && (leads.target q && is_open t vid q)) ≡ (not b && (leads.target q && may t p q vid))
      by q true own = refl
      by q false own = ap (λ x. leads.target q && x) (open_is (q == host) (member t q vid) (is_forwarding t q) (has_flag t q isolated) ∙ sym (may-is q false own is_i))

  many-share : (ports : List ℕ) → ports ≡ ports_where (λ q. has_number row.ports q && row_takes p (has_flag t p isolated) (vlan_at rows vid) q (port_at rows q))
      → ports ≡ filter (λ q. not (foreign d p q)) (egress_ports t p vid head msg)
  many-share ports is =
      is
      ∙ same_below _ _ port_places (λ q below.
      reached-is q below ∙ ap (λ b. is_own d dom q && b) (leads.same q below) ∙ by (is_own d dom q) (goes t p vid head msg q)
      ∙ ap (λ b. goes t p vid head msg q && not b) (sym (foreign-is d dom p q at.own)))
      ∙ sym (own-share d t p vid head msg)
    where
      by : (o g : Bool) → (o && g) ≡ (g && not (not o))
      by true true = refl
      by true false = refl
      by false true = refl
      by false false = refl

  many-class : (ports : List ℕ) (elsewhere nowhere : Bool) → ports ≡ ports_where (λ q. has_number row.ports q && row_takes p (has_flag t p isolated) (vlan_at rows vid) q (port_at rows q))
      → elsewhere ≡ cond (has_flag t p isolated) row.isolated row.plain → IsTrue nowhere ↔ (ports ≡ []) → cond elsewhere Copy (cond nowhere Drop Forward) ≡ class_by d p (egress_ports t p vid head msg)
  many-class ports elsewhere nowhere is bit tells =
      let own_any : not nowhere ≡ some_port (λ q. is_own d dom q && reaches q) = some-none ports _ nowhere (is ∙ same_below _ _ port_places reached-is) tells in
      let away : some_port (λ q. goes t p vid head msg q && foreign d p q) ≡ some_port reaches_elsewhere =
      same_some _ _ (λ q below. ap₂ (λ a b. a && b) (sym (leads.same q below)) (foreign-is d dom p q at.own) ∙ and_comm (reaches q) (not (is_own d dom q))) in
      let any : some_port (goes t p vid head msg) ≡ (some_port (λ q. is_own d dom q && reaches q) || some_port reaches_elsewhere) =
      same_some _ _ (λ q below. sym (leads.same q below)) ∙ some_split (is_own d dom) reaches in
      ap₂ (λ e n. cond e Copy (cond n Drop Forward)) (bit ∙ bit-is (has_flag t p isolated) refl) (sym (not-not nowhere) ∙ ap not own_any)
      ∙ class_is (some_port (λ q. is_own d dom q && reaches q)) (some_port reaches_elsewhere)
      ∙ sym (class-of d t p vid head msg ∙ ap₂ (λ a b. cond (not a) Drop (cond b Copy Forward)) any away)

  pub many-out : (ports : List ℕ) (cls : Class) (elsewhere nowhere : Bool) → leaves_chip d t p vid head ≡ false
      → ports ≡ ports_where (λ q. has_number row.ports q && row_takes p (has_flag t p isolated) (vlan_at rows vid) q (port_at rows q))
      → elsewhere ≡ cond (has_flag t p isolated) row.isolated row.plain → IsTrue nowhere ↔ (ports ≡ []) → cls ≡ cond elsewhere Copy (cond nowhere Drop Forward)
      → IsOut d t p vid head msg (record { class = cls; ports = ports })
  many-out ports cls elsewhere nowhere stays is bit tells made = record {
    class = made ∙ many-class ports elsewhere nowhere is bit tells ∙ sym (ap (λ l. cond l Trap (class_by d p (egress_ports t p vid head msg))) stays);
    ports = share elsewhere nowhere tells ∙ ap (λ c. chip_ports_by c d p (egress_ports t p vid head msg)) (sym made);
  }
    where
      share : (e n : Bool) → IsTrue n ↔ (ports ≡ []) → ports ≡ chip_ports_by (cond e Copy (cond n Drop Forward)) d p (egress_ports t p vid head msg)
      share true n tell = many-share ports is
      share false true tell = tell.0 refl
      share false false tell = many-share ports is
