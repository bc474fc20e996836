-- The numbers of entries at ports, as they are kept.
use Rattle.std.proofs.Common.{◌≡◌, ℕ, zero, suc, ◌+◌, ◌-◌, ◌<◌, Bool, true, false, cond, not, eqb, Option, None}
use Rattle.std.proofs.Common.{Some, List, [], ◌∷◌, length, get_or, replicate, IfSome, refl, sym, ap, subst, ◌∙◌, arith}
use Rattle.std.specs.Ordering.{eq_by_cmp, nat_cmp}
use Rattle.std.specs.FinMap.Entries.{find, put, where_key, is_sorted}
use Rattle.std.proofs.Math.ListN.{length-set}
use Rattle.std.proofs.lemmas.Bool.{eq-eqb}
use Rattle.lemmas.proofs.Lists.{get_or-zeros, get_or-set_as}
use Rattle.br_model.specs.Table.Domains.{port_places}
use Rattle.fdb_core.specs.declared.entries.Entry.{Entry}
use Rattle.fdb_core.specs.Counts.{one_at, one_if, count_at, less_one, one_more, AreCounts}
use Rattle.fdb_core.specs.Kept.{AreKept}
use Rattle.fdb_core.specs.Places.{Place}
use Rattle.fdb_core.proofs.Counts.{count-most, count-put, count-without, count-found}

within : (cs : List ℕ) (i : ℕ) → 0 < get_or cs i 0 → i < length cs
within [] i h = absurd (omega arith)
within (c ∷ cs) zero h = omega arith
within (c ∷ cs) (suc i) h = (let lt = within cs i h in omega arith)

pub counted-none : (cs : List ℕ) → cs ≡ replicate port_places 0 → AreCounts cs []
counted-none cs is = record {
  sized = ap length is;
  counted = λ port. ap (λ (l : List ℕ). get_or l port 0) is ∙ get_or-zeros port_places port;
}

one_self : (e : Entry) → one_at e.port e ≡ 1
one_self e = ap (λ b. cond b 1 0) (eq-eqb e.port e.port refl)

other : (p : ℕ) (e : Entry) → eqb e.port p ≡ false → one_at p e ≡ 0
other p e apart = ap (λ b. cond b 1 0) apart

module _ (cs : List ℕ) (es : List (ℕ × Entry)) (a : AreCounts cs es) (sorted : is_sorted nat_cmp es ≡ true) (k : ℕ) where
  found : (e : Entry) → Some e ≡ find nat_cmp k es → 0 < get_or cs e.port 0
  found e is =
      let some = count-found e.port k es sorted in
      let one : one_if e.port (find nat_cmp k es) ≡ 1 = sym (ap (one_if e.port) is) ∙ one_self e in
      let all = a.counted e.port in
      omega arith

  pub found-some : (o : Option Entry) → o ≡ find nat_cmp k es → IfSome o (λ e. 0 < get_or cs e.port 0)
  found-some None is = tt
  found-some (Some e) is = found e is

  less-all : (o : Option Entry) → o ≡ find nat_cmp k es → (p : ℕ) → get_or (less_one o cs) p 0 ≡ count_at p es - one_if p o
  less-all None is p = (let all = a.counted p in omega arith)
  less-all (Some e) is p =
      get_or-set_as cs e.port (get_or cs e.port 0 - 1) p (λ q. count_at q es - one_at q e) (within cs e.port (found e is))
      (let one = one_self e in let all = a.counted e.port in omega arith)
      (λ apart. (let none = other p e apart in let all = a.counted p in omega arith))

  length-less : (o : Option Entry) → length (less_one o cs) ≡ length cs
  length-less None = refl
  length-less (Some e) = length-set cs e.port (get_or cs e.port 0 - 1)

  pub counted-without : (o : Option Entry) → o ≡ find nat_cmp k es → AreCounts (less_one o cs) (where_key nat_cmp (λ q. not (eq_by_cmp nat_cmp k q)) es)
  counted-without o is = record {
    sized = length-less o ∙ a.sized;
    counted = λ p. (let left = less-all o is p in let all = count-without p k es sorted in let same = ap (one_if p) is in omega arith);
  }

  module _ (x : Entry) (o : Option Entry) (is : o ≡ find nat_cmp k es) where
    pub fewer : get_or (less_one o cs) x.port 0 < length (put nat_cmp k x es)
    fewer =
        let left = less-all o is x.port in
        let all = count-put x.port k x es sorted in
        let same = ap (one_if x.port) is in
        let one = one_self x in
        let some = count-found x.port k es sorted in
        let most = count-most x.port (put nat_cmp k x es) in
        omega arith

    pub counted-put : x.port < port_places → AreCounts (one_more x.port (less_one o cs)) (put nat_cmp k x es)
    counted-put lt = record {
      sized = length-set (less_one o cs) x.port (get_or (less_one o cs) x.port 0 + 1) ∙ length-less o ∙ a.sized;
      counted = λ p.
          get_or-set_as (less_one o cs) x.port (get_or (less_one o cs) x.port 0 + 1) p (λ q. count_at q (put nat_cmp k x es))
          (let long = length-less o in let all = a.sized in omega arith)
          (let left = less-all o is x.port in let all = count-put x.port k x es sorted in let some = count-found x.port k es sorted in let same = ap (one_if x.port) is in let one = one_self x in
          omega arith)
          (λ apart. (let left = less-all o is p in let all = count-put p k x es sorted in let same = ap (one_if p) is in let none = other p x apart in omega arith));
    }

-- an entry has another moment
pub counted-renewed : (cs : List ℕ) (es : List (ℕ × Entry)) → AreCounts cs es → is_sorted nat_cmp es ≡ true → (k : ℕ) (e : Entry) (moment : ℕ) → find nat_cmp k es ≡ Some e
    → AreCounts cs (put nat_cmp k (record e { updated = moment }) es)
counted-renewed cs es a sorted k e moment is = record {
  sized = a.sized;
  counted = λ p.
      (let all = count-put p k (record e { updated = moment }) es sorted in let same : one_if p (find nat_cmp k es) ≡ one_at p e = ap (one_if p) is in let here = a.counted p in omega arith);
}

-- at the beginning
pub kept-none : (es : List (ℕ × Entry)) (cs : List ℕ) (complete : Bool) (latest : ℕ) (ps : List Place) → es ≡ [] → cs ≡ replicate port_places 0 → ps ≡ [] → AreKept es cs complete latest ps
kept-none es cs complete latest ps e counts p =
    subst (λ (l : List (ℕ × Entry)). AreKept l cs complete latest ps) (sym e)
    (subst (λ (l : List Place). AreKept [] cs complete latest l) (sym p) (record {
      keys = refl;
      sorted = refl;
      counted = counted-none cs counts;
      told = λ _. record { ordered = refl; past = refl; known = λ q h. absurd (cc) };
      settled = refl;
    }))
