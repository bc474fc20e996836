-- Rows read as they were packed, field after field.
use Rattle.std.proofs.Common.{◌≡◌, ℕ, ◌+◌, ◌^◌, ◌<◌, ◌≤◌, Bool, cond, List, [], ◌∷◌, length, get_or, le-leb, refl, ap, ◌∙◌, arith, nat_lt}
use Rattle.std.specs.Prelude.{◌==◌}
use Rattle.br_model.specs.Table.Domains.{last_port}
use Rattle.port_sets.specs.Words.{members}
use Rattle.chip_regs.specs.Rows.{field, with_field}
use Rattle.chip_regs.proofs.Fields.{field-same, field-before}
use Rattle.chip_tables.specs.declared.rows.VlanRow.{VlanRow}
use Rattle.chip_tables.specs.declared.rows.FanRow.{FanRow}
use Rattle.chip_tables.specs.declared.rows.PortRow.{PortRow}
use Rattle.chip_tables.specs.declared.rows.AddressRow.{AddressRow}
use Rattle.chip_tables.specs.declared.rows.Control.{Control}
use Rattle.chip_tables.specs.Rows.{words_from, ports_from, KeepsBefore, vlan_of, fan_of, pvid_from, port_of, is_on, port_from, kind_of, address_of, control_of, key_of}

pub wrote : (r r' at w n : ℕ) → r' ≡ with_field r at w n → n < 2 ^ w → field r' at w ≡ n
wrote r r' at w n is small = ap (λ x. field x at w) is ∙ field-same r at w n small

-- a write behind it
pub keep : (r r' at w n a v x : ℕ) → r' ≡ with_field r at w n → a + v ≤ at → field r a v ≡ x → field r' a v ≡ x
keep r r' at w n a v x is before e = ap (λ y. field y a v) is ∙ field-before r at w n a v before ∙ e

on : (r at n : ℕ) (b : Bool) → field r at 1 ≡ n → (n == 1) ≡ b → is_on r at ≡ b
on r at n b e is = ap (λ x. x == 1) e ∙ is

-- the words of a set read as they were written one after the other
pub words-written : (r0 r1 r2 r3 r4 at a b c d : ℕ) → r1 ≡ with_field r0 at 64 a → r2 ≡ with_field r1 (at + 64) 64 b → r3 ≡ with_field r2 (at + 128) 64 c → r4 ≡ with_field r3 (at + 192) 64 d
    → a < 2 ^ 64 → b < 2 ^ 64 → c < 2 ^ 64 → d < 2 ^ 64 → words_from r4 at ≡ a ∷ b ∷ c ∷ d ∷ []
words-written r0 r1 r2 r3 r4 at a b c d e1 e2 e3 e4 fa fb fc fd =
    let wa = keep r3 r4 (at + 192) 64 d at 64 a e4 (omega arith)
    (keep r2 r3 (at + 128) 64 c at 64 a e3 (omega arith) (keep r1 r2 (at + 64) 64 b at 64 a e2 (omega arith) (wrote r0 r1 at 64 a e1 fa))) in
    let wb = keep r3 r4 (at + 192) 64 d (at + 64) 64 b e4 (omega arith) (keep r2 r3 (at + 128) 64 c (at + 64) 64 b e3 (omega arith) (wrote r1 r2 (at + 64) 64 b e2 fb)) in
    let wc = keep r3 r4 (at + 192) 64 d (at + 128) 64 c e4 (omega arith) (wrote r2 r3 (at + 128) 64 c e3 fc) in
    let wd = wrote r3 r4 (at + 192) 64 d e4 fd in
    λ i. wa i ∷ wb i ∷ wc i ∷ wd i ∷ []

pub four : (words : List ℕ) → length words ≡ 4 → (get_or words 0 0 ∷ get_or words 1 0 ∷ get_or words 2 0 ∷ get_or words 3 0 ∷ []) ≡ words
four (a ∷ b ∷ c ∷ d ∷ []) long = refl
four [] long = absurd (omega (arith, long))
four (a ∷ []) long = absurd (omega (arith, long))
four (a ∷ b ∷ []) long = absurd (omega (arith, long))
four (a ∷ b ∷ c ∷ []) long = absurd (omega (arith, long))
four (a ∷ b ∷ c ∷ d ∷ e ∷ more) long = absurd (omega (arith, long))

-- and what is before them stays
pub before-words : (r0 r1 r2 r3 r4 at a b c d : ℕ) → r1 ≡ with_field r0 at 64 a → r2 ≡ with_field r1 (at + 64) 64 b → r3 ≡ with_field r2 (at + 128) 64 c → r4 ≡ with_field r3 (at + 192) 64 d
    → KeepsBefore at r0 r4
before-words r0 r1 r2 r3 r4 at a b c d e1 e2 e3 e4 p w h =
    keep r3 r4 (at + 192) 64 d p w (field r0 p w) e4 (omega arith)
    (keep r2 r3 (at + 128) 64 c p w (field r0 p w) e3 (omega arith) (keep r1 r2 (at + 64) 64 b p w (field r0 p w) e2 (omega arith) (keep r0 r1 at 64 a p w (field r0 p w) e1 h refl)))

before-field : (r r' at w n : ℕ) → r' ≡ with_field r at w n → KeepsBefore at r r'
before-field r r' at w n is a v h = keep r r' at w n a v (field r a v) is h refl

-- a set stays where only what is behind it is written
ports-kept : (r r' at place : ℕ) → KeepsBefore place r r' → at + 256 ≤ place → ports_from r' at ≡ ports_from r at
ports-kept r r' at place kept h = λ i. members 4 (kept at 64 (omega arith) i ∷ kept (at + 64) 64 (omega arith) i ∷ kept (at + 128) 64 (omega arith) i ∷ kept (at + 192) 64 (omega arith) i ∷ [])

pub vlan-packed : (r1 r2 : ℕ) (row : VlanRow) → ports_from r1 0 ≡ row.members → ports_from r2 256 ≡ row.untagged → KeepsBefore 256 r1 r2 → vlan_of r2 ≡ row
vlan-packed r1 r2 row first second kept = λ t. record { members = (ports-kept r1 r2 0 256 kept (omega arith) ∙ first) t; untagged = second t }

pub fan-packed : (r1 r2 r3 i p : ℕ) (row : FanRow) → ports_from r1 0 ≡ row.ports → r2 ≡ with_field r1 256 1 i → r3 ≡ with_field r2 257 1 p → i < 2 → p < 2 → (i == 1) ≡ row.isolated
    → (p == 1) ≡ row.plain → fan_of r3 ≡ row
fan-packed r1 r2 r3 i p row first e2 e3 fi fp bi bp =
    λ t. record {
      ports = (ports-kept r2 r3 0 257 (before-field r2 r3 257 1 p e3) (omega arith) ∙ ports-kept r1 r2 0 256 (before-field r1 r2 256 1 i e2) (omega arith) ∙ first) t;
      isolated = on r3 256 i row.isolated (keep r2 r3 257 1 p 256 1 i e3 (omega arith) (wrote r1 r2 256 1 i e2 fi)) bi t;
      plain = on r3 257 p row.plain (wrote r2 r3 257 1 p e3 fp) bp t;
    }

pub trap-packed : (r0 r1 n : ℕ) (b : Bool) → r1 ≡ with_field r0 0 1 n → n < 2 → (n == 1) ≡ b → is_on r1 0 ≡ b
trap-packed r0 r1 n b e f is = on r1 0 n b (wrote r0 r1 0 1 n e f) is

pub control-packed : (r0 r1 r2 r3 r4 a b c d : ℕ) (row : Control) → r1 ≡ with_field r0 0 1 a → r2 ≡ with_field r1 1 1 b → r3 ≡ with_field r2 2 1 c → r4 ≡ with_field r3 3 1 d → a < 2 → b < 2
    → c < 2 → d < 2
    → (a == 1) ≡ row.snooping → (b == 1) ≡ row.tree → (c == 1) ≡ row.four → (d == 1) ≡ row.six → control_of r4 ≡ row
control-packed r0 r1 r2 r3 r4 a b c d row e1 e2 e3 e4 fa fb fc fd ia ib ic id =
    λ t. record {
      snooping = on r4 0 a row.snooping (keep r3 r4 3 1 d 0 1 a e4 (omega arith) (keep r2 r3 2 1 c 0 1 a e3 (omega arith) (keep r1 r2 1 1 b 0 1 a e2 (omega arith) (wrote r0 r1 0 1 a e1 fa)))) ia t;
      tree = on r4 1 b row.tree (keep r3 r4 3 1 d 1 1 b e4 (omega arith) (keep r2 r3 2 1 c 1 1 b e3 (omega arith) (wrote r1 r2 1 1 b e2 fb))) ib t;
      four = on r4 2 c row.four (keep r3 r4 3 1 d 2 1 c e4 (omega arith) (wrote r2 r3 2 1 c e3 fc)) ic t;
      six = on r4 3 d row.six (wrote r3 r4 3 1 d e4 fd) id t;
    }

pub port-packed : (r0 r1 r2 r3 r4 r5 r6 up st fl has vid own : ℕ) (row : PortRow)
    → r1 ≡ with_field r0 0 1 up → r2 ≡ with_field r1 1 3 st → r3 ≡ with_field r2 4 6 fl → r4 ≡ with_field r3 10 1 has → r5 ≡ with_field r4 11 12 vid → r6 ≡ with_field r5 23 1 own
    → up < 2 → st < 8 → fl < 64 → has < 2 → vid < 4096 → own < 2
    → (up == 1) ≡ row.up → st ≡ row.state → fl ≡ row.flags → (has == 1) ≡ nat_lt 0 vid → pvid_from (nat_lt 0 vid) vid ≡ row.pvid → (own == 1) ≡ row.own → port_of r6 ≡ row
port-packed r0 r1 r2 r3 r4 r5 r6 up st fl has vid own row e1 e2 e3 e4 e5 e6 f1 f2 f3 f4 f5 f6 i1 i2 i3 i4 i5 i6 =
    let a : field r6 0 1 ≡ up = keep r5 r6 23 1 own 0 1 up e6 (omega arith)
    (keep r4 r5 11 12 vid 0 1 up e5 (omega arith)
    (keep r3 r4 10 1 has 0 1 up e4 (omega arith) (keep r2 r3 4 6 fl 0 1 up e3 (omega arith) (keep r1 r2 1 3 st 0 1 up e2 (omega arith) (wrote r0 r1 0 1 up e1 f1))))) in
    let b : field r6 1 3 ≡ st = keep r5 r6 23 1 own 1 3 st e6 (omega arith)
    (keep r4 r5 11 12 vid 1 3 st e5 (omega arith) (keep r3 r4 10 1 has 1 3 st e4 (omega arith) (keep r2 r3 4 6 fl 1 3 st e3 (omega arith) (wrote r1 r2 1 3 st e2 f2)))) in
    let c : field r6 4 6 ≡ fl = keep r5 r6 23 1 own 4 6 fl e6 (omega arith) (keep r4 r5 11 12 vid 4 6 fl e5 (omega arith) (keep r3 r4 10 1 has 4 6 fl e4 (omega arith) (wrote r2 r3 4 6 fl e3 f3))) in
    let d : field r6 10 1 ≡ has = keep r5 r6 23 1 own 10 1 has e6 (omega arith) (keep r4 r5 11 12 vid 10 1 has e5 (omega arith) (wrote r3 r4 10 1 has e4 f4)) in
    let e : field r6 11 12 ≡ vid = keep r5 r6 23 1 own 11 12 vid e6 (omega arith) (wrote r4 r5 11 12 vid e5 f5) in
    λ t. record {
      up = on r6 0 up row.up a i1 t;
      state = (b ∙ i2) t;
      flags = (c ∙ i3) t;
      pvid = ((λ u. pvid_from (on r6 10 has (nat_lt 0 vid) d i4 u) (e u)) ∙ i5) t;
      own = on r6 23 own row.own (wrote r5 r6 23 1 own e6 f6) i6 t;
    }

address-fields : (r0 r1 r2 r3 r4 r5 k po ki pin us : ℕ)
    → r1 ≡ with_field r0 0 60 k → r2 ≡ with_field r1 60 8 po → r3 ≡ with_field r2 68 2 ki → r4 ≡ with_field r3 70 1 pin → r5 ≡ with_field r4 71 1 us
    → k < 2 ^ 60 → po < 256 → ki < 4 → pin < 2
    → (field r5 0 60 ≡ k) × (field r5 60 8 ≡ po) × (field r5 68 2 ≡ ki) × (field r5 70 1 ≡ pin)
address-fields r0 r1 r2 r3 r4 r5 k po ki pin us e1 e2 e3 e4 e5 f1 f2 f3 f4 = (
  keep r4 r5 71 1 us 0 60 k e5 (omega arith)
      (keep r3 r4 70 1 pin 0 60 k e4 (omega arith) (keep r2 r3 68 2 ki 0 60 k e3 (omega arith) (keep r1 r2 60 8 po 0 60 k e2 (omega arith) (wrote r0 r1 0 60 k e1 f1)))),
  keep r4 r5 71 1 us 60 8 po e5 (omega arith) (keep r3 r4 70 1 pin 60 8 po e4 (omega arith) (keep r2 r3 68 2 ki 60 8 po e3 (omega arith) (wrote r1 r2 60 8 po e2 f2))),
  keep r4 r5 71 1 us 68 2 ki e5 (omega arith) (keep r3 r4 70 1 pin 68 2 ki e4 (omega arith) (wrote r2 r3 68 2 ki e3 f3)),
  keep r4 r5 71 1 us 70 1 pin e5 (omega arith) (wrote r3 r4 70 1 pin e4 f4),
)

port-below : (p : ℕ) → p ≤ last_port → port_from p ≡ p
port-below p h = ap (λ b. cond b p 0) (le-leb p last_port h)

pub address-packed : (r0 r1 r2 r3 r4 r5 k po ki pin us : ℕ) (row : AddressRow)
    → r1 ≡ with_field r0 0 60 k → r2 ≡ with_field r1 60 8 po → r3 ≡ with_field r2 68 2 ki → r4 ≡ with_field r3 70 1 pin → r5 ≡ with_field r4 71 1 us
    → k < 2 ^ 60 → po ≤ last_port → ki < 4 → pin < 2 → po ≡ row.port → kind_of ki ≡ row.kind → (pin == 1) ≡ row.pinned
    → (key_of r5 ≡ k) × (address_of r5 ≡ row)
address-packed r0 r1 r2 r3 r4 r5 k po ki pin us row e1 e2 e3 e4 e5 f1 f2 f3 f4 ip ik ii =
    let f = address-fields r0 r1 r2 r3 r4 r5 k po ki pin us e1 e2 e3 e4 e5 f1 (omega arith) f3 f4 in
    (f.0, λ t. record { port = (ap port_from f.1 ∙ port-below po f2 ∙ ip) t; kind = (ap kind_of f.2 ∙ ik) t; pinned = on r5 70 pin row.pinned f.3 ii t })
