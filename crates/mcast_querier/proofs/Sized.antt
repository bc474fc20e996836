-- A packet that holds a query holds its source.
use Rattle.std.proofs.Common.{◌≡◌, ℕ, ◌-◌, ◌≤◌, Bool, true, false, not, cond, List, length, take, drop, refl, sym, subst, arith}
use Rattle.std.proofs.lemmas.List.{take_all, length-drop}
use Rattle.std.specs.Prelude.{◌==◌, ◌&&◌}
use Rattle.std.proofs.lemmas.Bool.{leb-true}
use Rattle.br_model.specs.declared.frame.Head.{Head}
use Rattle.br_model.specs.declared.frame.McastMsg.{McastMsg}
use Rattle.br_model.specs.declared.frame.McastMsg.TheVariants.{Plain, Query}
use Rattle.br_model.specs.Wire.IpHeaders.{type_four, type_six, is_multicast_four, is_multicast_six}
use Rattle.br_model.specs.Wire.Messages.{message, message_four, message_six}
use Rattle.mcast_querier.specs.Hearing.{source_end}

first_of_both : (a b : Bool) → (a && b) ≡ true → a ≡ true
first_of_both true b h = refl
first_of_both false b h = h

not_plain : (b six counted : Bool) (rest : McastMsg) → cond (not b) Plain rest ≡ Query six counted → b ≡ true
not_plain true six counted rest h = refl
not_plain false six counted rest h = absurd (cc (h))

long_four : (dst first : ℕ) (packet : List ℕ) (six counted : Bool) → message_four dst first packet ≡ Query six counted → 20 ≤ length packet
long_four dst first packet six counted h =
    leb-true 20 (length packet) (first_of_both _ _ (first_of_both _ _ (not_plain (is_multicast_four dst packet) six counted _ h)))

long_six : (dst first : ℕ) (packet : List ℕ) (six counted : Bool) → message_six dst first packet ≡ Query six counted → 40 ≤ length packet
long_six dst first packet six counted h =
    leb-true 40 (length packet) (first_of_both _ _ (first_of_both _ _ (not_plain (is_multicast_six dst packet) six counted _ h)))

by_kind : (four six : Bool) (a b : McastMsg) (v counted : Bool) (n : ℕ) → (a ≡ Query v counted → 20 ≤ n) → (b ≡ Query v counted → 40 ≤ n)
    → cond four a (cond six b Plain) ≡ Query v counted → cond four 16 24 ≤ n
by_kind true six a b v counted n f g h = let long = f h in omega (arith, long)
by_kind false true a b v counted n f g h = let long = g h in omega (arith, long)
by_kind false false a b v counted n f g h = absurd (cc (h))

holds_source : (bytes : List ℕ) (head : Head) (v counted : Bool) → message bytes head ≡ Query v counted → source_end head.kind ≤ length (drop head.body bytes)
unfolding message
holds_source bytes head v counted h =
    let packet = drop head.body bytes in
    by_kind (head.kind == type_four) (head.kind == type_six) (message_four head.dst head.body packet) (message_six head.dst head.body packet) v counted (length packet)
    (long_four head.dst head.body packet v counted) (long_six head.dst head.body packet v counted) h

-- the same of the packet as it is read
pub holds_source_in : (bytes : List ℕ) (head : Head) (v counted : Bool) → message bytes head ≡ Query v counted
    → source_end head.kind ≤ length (take (length bytes - head.body) (drop head.body bytes))
holds_source_in bytes head v counted h =
    let whole : take (length bytes - head.body) (drop head.body bytes) ≡ drop head.body bytes = take_all _ _ (omega (arith, length-drop head.body bytes)) in
    subst (λ (packet : List ℕ). source_end head.kind ≤ length packet) (sym whole) (holds_source bytes head v counted h)
