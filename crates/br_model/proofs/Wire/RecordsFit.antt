-- Where a message is records, they are there: what fits in a message's body fits in the frame.
use Rattle.std.proofs.Common.{◌≡◌, ℕ, zero, suc, ◌+◌, ◌-◌, ◌*◌, ◌≤◌, ◌==◌, nat_le, nat_lt, min, not, ◌&&◌, Bool, true}
use Rattle.std.proofs.Common.{false, cond, List, length, take, drop, get_or, refl, sym, ◌∙◌, ap, subst, Option, Some, None, arith}
use Rattle.std.proofs.lemmas.Bool.{cond_both, and_parts, and_from, leb-true, le-leb, ltb-true, ltb-false, not-false}
use Rattle.std.proofs.lemmas.List.{length-take, length-drop, get_or-take, take-take, drop-take, drop-drop}
use Rattle.std.specs.Option.{option_map, unwrap_or}
use Rattle.br_model.specs.declared.frame.Head.{Head}
use Rattle.br_model.specs.declared.frame.McastMsg.TheVariants.{Records, Unrecognized}
use Rattle.br_model.specs.declared.group.Group.{Group}
use Rattle.br_model.specs.Wire.Checksum.{is_summed}
use Rattle.br_model.specs.Wire.Frames.{number_at}
use Rattle.br_model.specs.Wire.IpHeaders.{type_four, type_six, header_four, total_four, protocol_four, source_four, is_fragment}
use Rattle.br_model.specs.Wire.IpHeaders.{body_four, is_multicast_four, source_six, length_six, next_six, body_six, is_multicast_six}
use Rattle.br_model.specs.Wire.Messages.{RecordsStand, report_of, leave_of, records_of, igmp, igmp_of_type, mld_of_type, message_four, message_six}
use Rattle.br_model.specs.Wire.Messages.{message, query_four, is_report_four, leave_four, records_four, is_query_length_four, is_query_length_six, protocol_igmp}
use Rattle.br_model.specs.Wire.MldHeaders.{hop_by_hop, icmp_six, hop_length, icmp_of, has_icmp, is_mld_type, has_mld, is_summed_six, query_six, report_six, done_six, records_six}
use Rattle.br_model.specs.Data.Numbers.{number}
use Rattle.br_model.specs.Wire.Records.{address_length, group_at, record_length, record_fits, records_fit}

-- fronts of bytes

number_at-take : (k i n : ℕ) (xs : List ℕ) → i + n ≤ k → number_at (take k xs) i n ≡ number_at xs i n
number_at-take k i n xs h =
    let e : i + (k - i) ≡ k = omega (arith, h) in
    let front : take n (drop i (take k xs)) ≡ take n (drop i xs) =
    ap (λ j. take n (drop i (take j xs))) (sym e) ∙ ap (λ l. take n l) (drop-take i (k - i) xs) ∙ take-take n (k - i) (drop i xs) (omega (arith, h)) in
    ap number front

record_length-take : (six : Bool) (k : ℕ) (xs : List ℕ) → 4 ≤ k → record_length six (take k xs) ≡ record_length six xs
record_length-take six k xs h =
    ap (λ s. 4 + address_length six + address_length six * s + 4 * get_or (take k xs) 1 0) (number_at-take k 2 2 xs h)
    ∙ ap (λ a. 4 + address_length six + address_length six * number_at xs 2 2 + 4 * a) (get_or-take k xs 1 0 (omega (arith, h)))

fit_parts : (six : Bool) (n : ℕ) (bytes : List ℕ) (fits : Bool)
    → unwrap_or (option_map (λ rest. records_fit six n rest) (cond fits (Some (drop (record_length six bytes) bytes)) None)) false ≡ true
    → (fits ≡ true) × (records_fit six n (drop (record_length six bytes) bytes) ≡ true)
fit_parts six n bytes true e = (refl, e)
fit_parts six n bytes false e = absurd (cc (e))

fit_join : (six : Bool) (n : ℕ) (bytes : List ℕ) → record_fits six bytes ≡ true → records_fit six n (drop (record_length six bytes) bytes) ≡ true
    → records_fit six (suc n) bytes ≡ true
fit_join six n bytes fits others = rw fits others

-- records that fit in a front fit in the whole
pub records_fit-front : (six : Bool) (n k : ℕ) (xs : List ℕ) → records_fit six n (take k xs) ≡ true → records_fit six n xs ≡ true
records_fit-front six zero k xs e = refl
records_fit-front six (suc n) k xs e =
    let parts = fit_parts six n (take k xs) (record_fits six (take k xs)) e in
    let tests = and_parts (nat_le (4 + address_length six) (length (take k xs))) (nat_le (record_length six (take k xs)) (length (take k xs))) parts.0 in
    let short = leb-true (4 + address_length six) (length (take k xs)) tests.0 in
    let whole = leb-true (record_length six (take k xs)) (length (take k xs)) tests.1 in
    let same = record_length-take six k xs (omega (arith, short, length-take k xs)) in
    let here : record_length six xs ≤ length (take k xs) = subst (λ r. r ≤ length (take k xs)) same whole in
    let fits = and_from (nat_le (4 + address_length six) (length xs)) (nat_le (record_length six xs) (length xs))
    (le-leb _ _ (omega (arith, short, length-take k xs))) (le-leb _ _ (omega (arith, here, length-take k xs))) in
    let e₁ : record_length six xs + (k - record_length six xs) ≡ k = omega (arith, here, length-take k xs) in
    let rest : drop (record_length six (take k xs)) (take k xs) ≡ take (k - record_length six xs) (drop (record_length six xs) xs) =
    ap (λ j. drop j (take k xs)) same ∙ ap (λ j. drop (record_length six xs) (take j xs)) (sym e₁) ∙ drop-take (record_length six xs) (k - record_length six xs) xs in
    fit_join six n xs fits (records_fit-front six n (k - record_length six xs) (drop (record_length six xs) xs) (subst (λ l. records_fit six n l ≡ true) rest parts.1))

-- messages

report_stands : (bytes : List ℕ) (g : Option Group) → RecordsStand bytes (report_of g)
report_stands bytes None = tt
report_stands bytes (Some g) = tt

leave_stands : (bytes : List ℕ) (g : Option Group) → RecordsStand bytes (leave_of g)
leave_stands bytes None = tt
leave_stands bytes (Some g) = tt

-- of a body that is the front of what stands at its place
records_stand : (bytes : List ℕ) (six : Bool) (first k : ℕ) (body : List ℕ) → body ≡ take k (drop first bytes) → 8 ≤ length body
    → RecordsStand bytes (records_of six first body)
records_stand bytes six first k body is long =
    let size : length body ≡ min k (length bytes - first) = ap length is ∙ length-take k (drop first bytes) ∙ ap (λ n. min k n) (length-drop first bytes) in
    let e : 8 + (k - 8) ≡ k = omega (arith, size, long) in
    let behind : drop 8 body ≡ take (k - 8) (drop (first + 8) bytes) =
    ap (λ l. drop 8 l) (is ∙ ap (λ j. take j (drop first bytes)) (sym e)) ∙ drop-take 8 (k - 8) (drop first bytes) ∙ ap (λ l. take (k - 8) l) (drop-drop 8 first bytes) in
    cond_both (records_fit six (number_at body 6 2) (drop 8 body)) (Records six (first + 8) (number_at body 6 2)) Unrecognized (RecordsStand bytes)
    (λ fits. (omega (arith, size, long), records_fit-front six (number_at body 6 2) (k - 8) (drop (first + 8) bytes) (subst (λ l. records_fit six (number_at body 6 2) l ≡ true) behind fits)))
    (λ e. tt)

igmp_of_type-stands : (bytes : List ℕ) (kind source first k : ℕ) (body : List ℕ) → body ≡ take k (drop first bytes) → 8 ≤ length body
    → RecordsStand bytes (igmp_of_type kind source first body)
igmp_of_type-stands bytes kind source first k body is long =
    let P = RecordsStand bytes in
    cond_both (kind == query_four) _ _ P (λ e. cond_both (is_query_length_four (length body)) _ _ P (λ e. tt) (λ e. tt)) (λ e.
    cond_both (is_report_four kind) _ _ P (λ e. report_stands bytes (group_at false body 4)) (λ e.
    cond_both (kind == leave_four) _ _ P (λ e. leave_stands bytes (group_at false body 4)) (λ e.
    cond_both (kind == records_four) _ _ P (λ e. records_stand bytes false first k body is long) (λ e. tt))))

igmp-stands : (bytes : List ℕ) (source first k : ℕ) (body : List ℕ) → body ≡ take k (drop first bytes) → RecordsStand bytes (igmp source first body)
igmp-stands bytes source first k body is =
    let P = RecordsStand bytes in
    cond_both (nat_lt (length body) 8) _ _ P (λ e. tt) (λ long.
    cond_both (not (is_summed body)) _ _ P (λ e. tt) (λ e.
    igmp_of_type-stands bytes (get_or body 0 0) source first k body is (ltb-false (length body) 8 long)))

four-stands : (bytes : List ℕ) (dst first : ℕ) → RecordsStand bytes (message_four dst first (drop first bytes))
four-stands bytes dst first =
    let P = RecordsStand bytes in
    let packet = drop first bytes in
    cond_both (not (is_multicast_four dst packet)) _ _ P (λ e. tt) (λ e.
    cond_both (not (protocol_four packet == protocol_igmp)) _ _ P (λ e. tt) (λ e.
    cond_both (is_fragment packet) _ _ P (λ e. tt) (λ e.
    igmp-stands bytes (source_four packet) (first + header_four packet) (total_four packet - header_four packet) (body_four packet)
    (ap (λ l. take (total_four packet - header_four packet) l) (drop-drop (header_four packet) first bytes)))))

mld_of_type-stands : (bytes : List ℕ) (kind source first k : ℕ) (body : List ℕ) → body ≡ take k (drop first bytes)
    → RecordsStand bytes (mld_of_type kind source first body)
mld_of_type-stands bytes kind source first k body is =
    let P = RecordsStand bytes in
    cond_both (kind == query_six) _ _ P (λ e. cond_both (is_query_length_six (length body)) _ _ P (λ e. tt) (λ e. tt)) (λ e.
    cond_both (kind == records_six) _ _ P (λ e.
    cond_both (nat_lt (length body) 8) _ _ P (λ e. tt) (λ long. records_stand bytes true first k body is (ltb-false (length body) 8 long))
    ) (λ e.
    cond_both (nat_lt (length body) 24) _ _ P (λ e. tt) (λ e.
    cond_both (kind == report_six) _ _ P (λ e. report_stands bytes (group_at true body 8)) (λ e.
    cond_both (kind == done_six) _ _ P (λ e. leave_stands bytes (group_at true body 8)) (λ e. tt)))))

-- the message stands where the hop-by-hop header ends
icmp_is : (bytes : List ℕ) (first : ℕ) → has_mld (drop first bytes) ≡ true
    → icmp_of (drop first bytes)
    ≡ take (length_six (drop first bytes) - hop_length (body_six (drop first bytes))) (drop (first + 40 + hop_length (body_six (drop first bytes))) bytes)
icmp_is bytes first e =
    let packet = drop first bytes in
    let hop = hop_length (body_six packet) in
    let m = length_six packet in
    let icmp = and_parts (has_icmp packet) (is_mld_type (get_or (icmp_of packet) 0 0)) e in
    let behind = and_parts (next_six packet == hop_by_hop) (get_or (body_six packet) 0 0 == icmp_six && nat_lt hop (length (body_six packet))) icmp.0 in
    let tests = and_parts (get_or (body_six packet) 0 0 == icmp_six) (nat_lt hop (length (body_six packet))) behind.1 in
    let within = ltb-true hop (length (body_six packet)) tests.1 in
    let split : hop + (m - hop) ≡ m = omega (arith, within, length-take m (drop 40 packet)) in
    ap (λ j. drop hop (take j (drop 40 packet))) (sym split)
    ∙ drop-take hop (m - hop) (drop 40 packet)
    ∙ ap (λ l. take (m - hop) l) (ap (λ l. drop hop l) (drop-drop 40 first bytes) ∙ drop-drop hop (first + 40) bytes)

six-stands : (bytes : List ℕ) (dst first : ℕ) → RecordsStand bytes (message_six dst first (drop first bytes))
six-stands bytes dst first =
    let P = RecordsStand bytes in
    let packet = drop first bytes in
    cond_both (not (is_multicast_six dst packet)) _ _ P (λ e. tt) (λ e.
    cond_both (not (has_mld packet)) _ _ P (λ e. tt) (λ mld.
    cond_both (not (is_summed_six packet)) _ _ P (λ e. tt) (λ e.
    mld_of_type-stands bytes (get_or (icmp_of packet) 0 0) (source_six packet) (first + 40 + hop_length (body_six packet)) _ (icmp_of packet)
    (icmp_is bytes first (not-false (has_mld packet) mld)))))

pub message-stands : (bytes : List ℕ) (head : Head) → RecordsStand bytes (message bytes head)
unfolding message
message-stands bytes head =
    let P = RecordsStand bytes in
    cond_both (head.kind == type_four) _ _ P (λ e. four-stands bytes head.dst head.body) (λ e.
    cond_both (head.kind == type_six) _ _ P (λ e. six-stands bytes head.dst head.body) (λ e. tt))
