-- What is read is what is written.
use Rattle.std.proofs.Common.{◌≡◌, ℕ, ◌+◌, ◌-◌, ◌<◌, ◌≤◌, ◌^◌, Bool, true, false, ◌&&◌, List, length, Option, Some, None, refl, sym, ap, subst, ◌∙◌, arith}
use Rattle.std.specs.Prelude.{bytes_eq, if◌then◌else◌, nat_le, nat_lt, ◌==◌}
use Rattle.std.specs.Int.{w16, w32, to_le_bytes, from_le_bytes, bytes_high_first}
use Rattle.std.specs.Cmp.{first_so, second_so}
use Rattle.std.proofs.lemmas.Bool.{ltb-true, leb-true, and_right}
use Rattle.std.proofs.lemmas.Nat.{from_le_bytes-to_le_bytes_2, from_le_bytes-to_le_bytes_4}
use Rattle.std.proofs.lemmas.Slice.Eq.{bytes_eq-Decides}
use Rattle.br_model.proofs.Wire.Bpdus.{spelled}
use Rattle.br_model.proofs.Text.Words.{equal, other}
use Rattle.br_model.specs.declared.change.Kind.{Kind}
use Rattle.br_model.specs.declared.change.Kind.TheVariants.{Local, Static, Learned, Extern}
use Rattle.br_model.specs.Data.Numbers.{number}
use Rattle.neigh_netlink.specs.declared.neigh.Neigh.{Neigh}
use Rattle.neigh_netlink.specs.Messages.{has_ranges, is_message, message_length, ndm_flags, ndm_state, nlmsg_type, ntf_offloaded, rtm_newneigh, written}
use Rattle.neigh_netlink.specs.Reading.{has_flag, is_written, kind_by, read, said}

-- bytes that are those of what they say

same : (a b : List ℕ) → bytes_eq a b ≡ true → a ≡ b
same a b e = (bytes_eq-Decides a b).0 e

kept : (b : List ℕ) (n m : Neigh) (x : Bool) → is_written b n ≡ x → (if x then Some n else None) ≡ Some m → (is_message m ≡ true) × (written m ≡ b)
kept b n m false e h = absurd (cc)
kept b n m true e h =
    let is : n ≡ m = cc in
    let rest = second_so (has_ranges n) _ e in
    subst (λ (k : Neigh). (is_message k ≡ true) × (written k ≡ b)) is (first_so (is_message n) _ rest, same (written n) b (second_so (is_message n) _ rest))

pub read-is : (b : List ℕ) (m : Neigh) → read b ≡ Some m → (is_message m ≡ true) × (written m ≡ b)
read-is b m h = kept b (said b) m _ refl h

-- each part at its place

new-is : (new : Bool) → (from_le_bytes w16 (to_le_bytes w16 (nlmsg_type new)) == rtm_newneigh) ≡ new
new-is true = refl
new-is false = refl

kind-is : (kind : Kind) (offload : Bool) → kind_by (from_le_bytes w16 (to_le_bytes w16 (ndm_state kind))) (ndm_flags kind offload) ≡ kind
kind-is Local offload = refl
kind-is Static offload = refl
kind-is Learned true = refl
kind-is Learned false = refl
kind-is Extern true = refl
kind-is Extern false = refl

offload-is : (kind : Kind) (offload : Bool) → has_flag (ndm_flags kind offload) ntf_offloaded ≡ offload
offload-is Local true = refl
offload-is Local false = refl
offload-is Static true = refl
offload-is Static false = refl
offload-is Learned true = refl
offload-is Learned false = refl
offload-is Extern true = refl
offload-is Extern false = refl

port-is : (port : ℕ) → port + 1 < 2 ^ 32 → from_le_bytes w32 (to_le_bytes w32 (port + 1)) - 1 ≡ port
port-is port fits = omega (arith, from_le_bytes-to_le_bytes_4 (port + 1) fits)

address-is : (mac : ℕ) → mac < 2 ^ 48 → number (bytes_high_first 6 mac) ≡ mac
address-is mac fits = spelled 6 mac fits

said-written : (m : Neigh) → m.ticket < 2 ^ 32 → m.vid < 2 ^ 16 → m.mac < 2 ^ 48 → m.port + 1 < 2 ^ 32 → said (written m) ≡ m
unfolding written
said-written m ticket vid mac port =
    λ i. record {
      new = new-is m.new i;
      ticket = from_le_bytes-to_le_bytes_4 m.ticket ticket i;
      port = port-is m.port port i;
      kind = kind-is m.kind m.offload i;
      offload = offload-is m.kind m.offload i;
      mac = address-is m.mac mac i;
      vid = from_le_bytes-to_le_bytes_2 m.vid vid i;
    }

accepts : (b : List ℕ) (n : Neigh) → has_ranges n ≡ true → is_message n ≡ true → bytes_eq (written n) b ≡ true → (if is_written b n then Some n else None) ≡ Some n
accepts b n ranged message same =
    let is : is_written b n ≡ true = grind arith in
    ap (λ x. if x then Some n else None) {y = true} is

pub read-written : (m : Neigh) → has_ranges m ≡ true → m.mac < 2 ^ 48 → is_message m ≡ true → read (written m) ≡ Some m
read-written m ranged mac message =
    let few : m.ticket < 1048576 = ltb-true _ _ (first_so (nat_lt m.ticket 1048576) _ message) in
    let rest = second_so (nat_le 1 m.vid) _ ranged in
    let vid : m.vid ≤ 4094 = leb-true _ _ (first_so (nat_le m.vid 4094) _ rest) in
    let port : m.port ≤ 254 = leb-true _ _ (second_so (nat_le m.vid 4094) _ rest) in
    let is = said-written m (omega arith) (omega arith) mac (omega arith) in
    ap (λ (n : Neigh). if is_written (written m) n then Some n else None) is ∙ accepts (written m) m ranged message (equal (written m) (written m) refl)

-- the reader's answers

written-length : (m : Neigh) → length (written m) ≡ message_length
unfolding written
written-length m = refl

unwritten : (b : List ℕ) (n : Neigh) → is_written b n ≡ false → None ≡ (if is_written b n then Some n else None)
unwritten b n e = sym (ap (λ x. if x then Some n else None) {y = false} e)

pub other-length : (b : List ℕ) → (length b ≡ message_length → ⊥) → None ≡ read b
other-length b long =
    let n = said b in
    let off : bytes_eq (written n) b ≡ false = other (written n) b (λ e. long (sym (ap length e) ∙ written-length n)) in
    unwritten b n (and_right (has_ranges n) _ (and_right (is_message n) _ off))

module _ (b : List ℕ) (n : Neigh) (r : Option Neigh) (there : r ≡ Some n) where
  ranged : (s : Neigh) → r ≡ (if has_ranges s then Some s else None) → (has_ranges s ≡ true) × (s ≡ n)
  ranged s is = by (has_ranges s) refl (sym is ∙ there)
    where
      by : (x : Bool) → has_ranges s ≡ x → (if x then Some s else None) ≡ Some n → (has_ranges s ≡ true) × (s ≡ n)
      by true e h = (e, cc)
      by false e h = absurd (cc)

  pub accepted : r ≡ (if has_ranges (said b) then Some (said b) else None) → (is_message n && bytes_eq (written n) b) ≡ true → Some n ≡ read b
  accepted is on =
      let s = ranged (said b) is in
      let parts = accepts b n (ap has_ranges (sym s.1) ∙ s.0) (first_so (is_message n) _ on) (second_so (is_message n) _ on) in
      sym (ap (λ (k : Neigh). if is_written b k then Some k else None) s.1 ∙ parts)

  pub refused : r ≡ (if has_ranges (said b) then Some (said b) else None) → (is_message n && bytes_eq (written n) b) ≡ false → None ≡ read b
  refused is off =
      let s = ranged (said b) is in
      unwritten b (said b) (ap (is_written b) s.1 ∙ and_right (has_ranges n) _ off)

pub every : (b : List ℕ) (r : Option Neigh) → r ≡ read b → (m : Neigh) → has_ranges m ≡ true → m.mac < 2 ^ 48 → is_message m ≡ true → written m ≡ b → r ≡ Some m
every b r is m ranged mac message same = is ∙ ap read (sym same) ∙ read-written m ranged mac message
