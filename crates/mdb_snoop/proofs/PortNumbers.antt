-- Sets whose numbers are all those of ports.
use Rattle.std.proofs.Common.{◌≡◌, ℕ, zero, suc, ◌+◌, ◌<◌, ◌≤◌, ◌==◌, ◌&&◌, ◌||◌, ◌⊎◌, inl, inr, Bool, true, false, cond, List, [], ◌∷◌, refl, sym, ap, subst, ◌∙◌, arith}
use Rattle.std.specs.List.{filter, range_with_len}
use Rattle.std.proofs.lemmas.Bool.{cases_lt, ne_eqb, false≢true}
use Rattle.std.proofs.lemmas.List.Elements.{All-head, All-tail, All-cons, All-nil}
use Rattle.br_model.specs.Table.Domains.{last_port, port_places}
use Rattle.port_sets.specs.Numbers.{numbers_below, has_number}
use Rattle.mdb_snoop.specs.Places.{ArePorts}

-- a number behind the last port is no member
pub lacks-behind : (ports : List ℕ) (n : ℕ) → ArePorts ports → last_port < n → has_number ports n ≡ false
lacks-behind [] n h low = refl
lacks-behind (p ∷ ports) n h low =
    let first : p ≤ last_port = All-head (λ m. m ≤ last_port) p ports h in
    ap (λ b. b || has_number ports n) (ne_eqb n p (omega (arith, first, low)))
    ∙ lacks-behind ports n (All-tail (λ m. m ≤ last_port) p ports h) low

within : (test : ℕ → Bool) (a n : ℕ) → ((m : ℕ) → last_port < m → test m ≡ false) → ArePorts (filter test (range_with_len a n))
within test a zero h = All-nil (λ m. m ≤ last_port)
within test a (suc n) h = by (test a) refl (within test (a + 1) n h)
  where
    low : test a ≡ true → (last_port < a) ⊎ (a ≤ last_port) → a ≤ last_port
    low is (inl up) = absurd (false≢true (sym (h a up) ∙ is))
    low is (inr few) = few

    by : (b : Bool) → test a ≡ b → ArePorts (filter test (range_with_len (a + 1) n)) → ArePorts (cond b (a ∷ filter test (range_with_len (a + 1) n)) (filter test (range_with_len (a + 1) n)))
    by true is rest = All-cons (λ m. m ≤ last_port) a (filter test (range_with_len (a + 1) n)) (low is (cases_lt last_port a)) rest
    by false is rest = rest

-- a test that fails behind the last port
pub ArePorts-below : (new : List ℕ) (test : ℕ → Bool) → new ≡ numbers_below port_places test → ((m : ℕ) → last_port < m → test m ≡ false) → ArePorts new
unfolding numbers_below
ArePorts-below new test is h = subst ArePorts (sym is) (within test 0 port_places h)

pub ArePorts-with : (ports new : List ℕ) (p : ℕ) → ArePorts ports → p ≤ last_port → new ≡ numbers_below port_places (λ m. (m == p) || has_number ports m) → ArePorts new
ArePorts-with ports new p h few is =
    ArePorts-below new (λ m. (m == p) || has_number ports m) is
    (λ m low. ap (λ b. b || has_number ports m) (ne_eqb m p (omega (arith, few, low))) ∙ lacks-behind ports m h low)

pub ArePorts-kept : (ports new : List ℕ) (test : ℕ → Bool) → ArePorts ports → new ≡ numbers_below port_places (λ m. has_number ports m && test m) → ArePorts new
ArePorts-kept ports new test h is =
    ArePorts-below new (λ m. has_number ports m && test m) is (λ m low. ap (λ b. b && test m) (lacks-behind ports m h low))
