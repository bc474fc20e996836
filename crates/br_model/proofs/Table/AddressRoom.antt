-- A change that fits leaves no more addresses than there may be, and so does each front of a history.
use Rattle.std.proofs.Common.{◌≡◌, ℕ, ◌+◌, ◌≤◌, true, false, not, cond, ◌||◌, List, [], ◌∷◌, length, take, refl, arith}
use Rattle.std.proofs.lemmas.Bool.{ltb-true}
use Rattle.std.specs.Prelude.{nat_lt, is_some}
use Rattle.std.specs.FinMap.Entries.{length-put, is_sorted-put, is_sorted-where_key}
use Rattle.std.specs.Ordering.{eq_by_cmp}
use Rattle.std.proofs.lemmas.Float.{T_from_true}
use Rattle.lemmas.proofs.Tests.{true_from_T}
use Rattle.br_model.specs.declared.change.Change.{Change}
use Rattle.br_model.specs.declared.change.Change.TheVariants.{AddrPut, AddrDel}
use Rattle.br_model.specs.declared.change.Kind.{Kind}
use Rattle.br_model.specs.Table.Limits.{fits, most_addresses, AreWithin}
use Rattle.br_model.specs.Data.Maps.{pair_cmp, get, put, without, is_ascending}
use Rattle.br_model.specs.Table.Table.{Table, apply, table}
use Rattle.br_model.proofs.Data.PairKeys.{pair_total}
use Rattle.br_model.proofs.Table.Within.{front_keeps}

abbrev Entries : Type 0
Entries = List ((ℕ × ℕ) × (ℕ × Kind))

-- the entries are a map of no more than there may be
pub record HasRoom (es : Entries) : Type 0 where
  pub ascend : is_ascending pair_cmp es ≡ true
  pub few : length es ≤ most_addresses

fewer : (es : Entries) (k : ℕ × ℕ) → length (without pair_cmp es k) ≤ length es
fewer [] k = omega arith
fewer (e ∷ es) k =
    let rest : length (without pair_cmp es k) ≤ length es = fewer es k in
    elim (eq_by_cmp pair_cmp k e.0) as (λ b. length (cond (not b) (e ∷ without pair_cmp es k) (without pair_cmp es k)) ≤ length (e ∷ es)) [ true ↦ omega arith | false ↦ omega arith ]

fits-put : (es : Entries) (k : ℕ × ℕ) (x : ℕ × Kind) → HasRoom es → (is_some (get pair_cmp es k) || nat_lt (length es) most_addresses) ≡ true → length (put pair_cmp es k x) ≤ most_addresses
fits-put es k x room fit =
    let more : length (put pair_cmp es k x) ≡ cond (is_some (get pair_cmp es k)) (length es) (length es + 1) = length-put pair_cmp pair_total k x es (T_from_true _ room.ascend) in
    (elim (is_some (get pair_cmp es k)) as (λ b. length (put pair_cmp es k x) ≡ cond b (length es) (length es + 1) → (b || nat_lt (length es) most_addresses) ≡ true
    → length (put pair_cmp es k x) ≤ most_addresses) [
      | true ↦ λ e f. omega (arith, e, room.few)
      | false ↦ λ e f. omega (arith, e, ltb-true _ _ f)
    ]) more fit

pub room-apply : (t : Table) (c : Change) → HasRoom t.addr → fits t c ≡ true → HasRoom (apply t c).addr
room-apply t (AddrPut v a p kind) room fit = record {
  ascend = true_from_T _ (is_sorted-put pair_cmp pair_total (v, a) (p, kind) t.addr (T_from_true _ room.ascend));
  few = fits-put t.addr (v, a) (p, kind) room fit;
}
room-apply t (AddrDel v a) room fit = record {
  ascend = true_from_T _ (is_sorted-where_key pair_cmp (λ q. not (eq_by_cmp pair_cmp (v, a) q)) t.addr (T_from_true _ room.ascend));
  few = omega (arith, fewer t.addr (v, a), room.few);
}
room-apply t c room fit = room

pub few-front : (H : List Change) → AreWithin H → (n : ℕ) → length (table (take n H)).addr ≤ most_addresses
few-front H is n = (front_keeps (λ t. HasRoom t.addr) (record { ascend = refl; few = omega arith }) room-apply H is n).few
