-- The queries that are written are read as general queries from their sources.
use Rattle.std.proofs.Common.{◌≡◌, ℕ, ◌+◌, ◌*◌, ◌^◌, ◌<◌, Bool, true, false, not, cond, if◌then◌else◌, List, [], ◌∷◌, ◌++◌, length, drop, Some, None, refl, sym, ap, ◌∙◌, arith}
use Rattle.std.specs.Prelude.{◌==◌, ◌&&◌, replicate, slice_index}
use Rattle.std.specs.Int.{byte_at, bytes_high_first}
use Rattle.std.specs.List.{list_all}
use Rattle.std.proofs.lemmas.List.Folds.{list_all-append}
use Rattle.std.specs.declared.result.Result.TheVariants.{Ok}
use Rattle.lemmas.proofs.Tests.{and_first}
use Rattle.br_model.specs.declared.frame.Head.{Head}
use Rattle.br_model.specs.declared.frame.McastMsg.{McastMsg}
use Rattle.br_model.specs.declared.frame.McastMsg.TheVariants.{Plain, Payload, Query, Unrecognized}
use Rattle.br_model.specs.declared.group.Group.TheVariants.{V6}
use Rattle.br_model.specs.Data.Numbers.{number, is_group_four}
use Rattle.br_model.specs.Wire.Checksum.{is_summed, sixteens}
use Rattle.br_model.specs.Wire.Frames.{frame, head_of, number_at}
use Rattle.br_model.specs.Wire.IpHeaders.{type_four, type_six, source_six, destination_six, body_six, is_multicast_six}
use Rattle.br_model.specs.Wire.Messages.{is_counted, is_query_length_six, message, message_six, mld_of_type}
use Rattle.br_model.specs.Wire.MldHeaders.{has_mld, hop_length, icmp_of, is_summed_six, pseudo_header}
use Rattle.mcast_querier.specs.Hearing.{asker, asker_as, asker_by, asker_in, message_as, message_in, source_in}
use Rattle.mcast_querier.specs.Queries.{checksum, checksum_six, header_four, is_host_four, is_link_local_six, packet_six, query_four, query_six}
use Rattle.br_model.proofs.Wire.Bpdus.{spelled}
use Rattle.mcast_querier.proofs.Bytes.{all_bytes, is_byte}
use Rattle.mcast_querier.proofs.Sums.{summed}

-- version 4

four_says : (own source : ℕ) → message_in (query_four own source) ≡ Some (Query false (is_counted (number (bytes_high_first 4 source)) 0))
unfolding message
four_says own source = refl

four_asks : (own source : ℕ) → asker_in (query_four own source)
    ≡ cond (is_counted (number (bytes_high_first 4 source)) 0) (Some (false, number (bytes_high_first 4 source))) None
unfolding message
four_asks own source = refl

counted_four : (source : ℕ) → is_host_four source ≡ true → source < 2 ^ 32 → is_counted (number (bytes_high_first 4 source)) 0 ≡ true
counted_four source host h =
    ap (λ n. is_counted n 0) (spelled 4 source h) ∙ and_first (not (source == 0)) (not (is_group_four source)) host

pub four_is_counted : (own source : ℕ) → is_host_four source ≡ true → source < 2 ^ 32 → message_in (query_four own source) ≡ Some (Query false true)
four_is_counted own source host h = four_says own source ∙ ap (λ b. Some (Query false b)) (counted_four source host h)

pub four_is_asked : (own source : ℕ) → is_host_four source ≡ true → source < 2 ^ 32 → asker_in (query_four own source) ≡ Some (false, source)
four_is_asked own source host h =
    four_asks own source
    ∙ ap (λ b. cond b (Some (false, number (bytes_high_first 4 source))) None) (counted_four source host h)
    ∙ ap (λ n. Some (false, n)) (spelled 4 source h)

-- the header of version 4 without what its sum is of

abbrev front_words : List ℕ
front_words = 0x46C0 ∷ 0x0020 ∷ 0x0000 ∷ 0x4000 ∷ 0x0102 ∷ []

abbrev behind_words : ℕ → List ℕ
behind_words source = sixteens (bytes_high_first 4 source ++ 0xE0 ∷ 0x00 ∷ 0x00 ∷ 0x01 ∷ 0x94 ∷ 0x04 ∷ 0x00 ∷ 0x00 ∷ [])

header_small : (source : ℕ) → list_all is_byte (header_four 0 source) ≡ true
header_small source =
    list_all-append is_byte (bytes_high_first 4 source) (0xE0 ∷ 0x00 ∷ 0x00 ∷ 0x01 ∷ 0x94 ∷ 0x04 ∷ 0x00 ∷ 0x00 ∷ [])
    ∙ ap (λ b. b && true) (all_bytes 4 source)

pub header_is_summed : (source : ℕ) → is_summed (header_four (checksum (header_four 0 source)) source) ≡ true
header_is_summed source =
    summed (header_four (checksum (header_four 0 source)) source) (header_four 0 source) front_words (behind_words source) (checksum (header_four 0 source))
    refl refl refl (header_small source)

-- version 6

-- a packet whose message sums to all one bits, by its parts
six_message : (dst first : ℕ) (packet : List ℕ) → is_multicast_six dst packet ≡ true → has_mld packet ≡ true → is_summed_six packet ≡ true
    → slice_index (icmp_of packet) 0 ≡ 130 → length (icmp_of packet) ≡ 24
    → message_six dst first packet ≡ Query true (is_counted (source_six packet) (number_at (icmp_of packet) 8 16))
six_message dst first packet multicast mld ones kind size =
    let at = first + 40 + hop_length (body_six packet) in
    let icmp = icmp_of packet in
    let said = mld_of_type (slice_index icmp 0) (source_six packet) at icmp in
    let payload = Payload (V6 (destination_six packet)) in
    let query = Query true (is_counted (source_six packet) (number_at icmp 8 16)) in
    ap (λ b. cond (not b) Plain (cond (not (has_mld packet)) payload (cond (not (is_summed_six packet)) Unrecognized said))) multicast
    ∙ ap (λ b. cond (not b) payload (cond (not (is_summed_six packet)) Unrecognized said)) mld
    ∙ ap (λ b. cond (not b) Unrecognized said) ones
    ∙ ap (λ k. mld_of_type k (source_six packet) at icmp) kind
    ∙ ap (λ n. cond (is_query_length_six n) query Unrecognized) size

-- what the bytes of a frame are, whose packet is a query
record IsQuery (bytes packet : List ℕ) (head : Head) (source : ℕ) : Type 0 where
  reads : frame bytes ≡ Ok head
  kind : head.kind ≡ type_six
  behind : drop head.body bytes ≡ packet
  multicast : is_multicast_six head.dst packet ≡ true
  mld : has_mld packet ≡ true
  query : slice_index (icmp_of packet) 0 ≡ 130
  size : length (icmp_of packet) ≡ 24
  group : number_at (icmp_of packet) 8 16 ≡ 0
  from : source_six packet ≡ source
  some : not (source == 0) ≡ true

of_six : (a b : McastMsg) (kind : ℕ) → kind ≡ type_six → (if kind == type_four then a else if kind == type_six then b else Plain) ≡ b
of_six a b kind e = rw e refl

by_type : (bytes packet : List ℕ) (head : Head) → head.kind ≡ type_six → drop head.body bytes ≡ packet → message bytes head ≡ message_six head.dst head.body packet
unfolding message
by_type bytes packet head kind behind = of_six _ _ head.kind kind ∙ ap (message_six head.dst head.body) behind

says_six : (bytes packet : List ℕ) (head : Head) (source : ℕ) → IsQuery bytes packet head source → is_summed_six packet ≡ true → message bytes head ≡ Query true true
says_six bytes packet head source q ones =
    by_type bytes packet head q.kind q.behind
    ∙ six_message head.dst head.body packet q.multicast q.mld ones q.query q.size
    ∙ ap (λ n. Query true (is_counted n (number_at (icmp_of packet) 8 16))) q.from
    ∙ ap (λ n. Query true (is_counted source n)) q.group
    ∙ ap (λ b. Query true (b && true)) q.some

reads_six : (bytes packet : List ℕ) (head : Head) (source : ℕ) → IsQuery bytes packet head source → is_summed_six packet ≡ true
    → (message_in bytes ≡ Some (Query true true)) × (asker_in bytes ≡ Some (true, source))
reads_six bytes packet head source q ones =
    let says = says_six bytes packet head source q ones in
    let asks : asker bytes head ≡ Some (true, source) =
    (ap (λ m. asker_by m (source_in head.kind (drop head.body bytes))) says
    ∙ ap (λ kind. Some (true, source_in kind (drop head.body bytes))) q.kind
    ∙ ap (λ (p : List ℕ). Some (true, source_six p)) q.behind
    ∙ ap (λ n. Some (true, n)) q.from) in
    (ap (message_as bytes) q.reads ∙ ap (λ m. Some m) says, ap (asker_as bytes) q.reads ∙ asks)

-- the sum of a packet with its checksum
six_is_summed : (packet zeroed us vs : List ℕ) (c : ℕ) → sixteens (pseudo_header packet ++ icmp_of packet) ≡ us ++ (256 * byte_at 1 c + byte_at 0 c) ∷ vs
    → sixteens zeroed ≡ us ++ 0 ∷ vs → c ≡ checksum zeroed → list_all is_byte zeroed ≡ true → is_summed_six packet ≡ true
six_is_summed packet zeroed us vs c words zeros is small = summed (pseudo_header packet ++ icmp_of packet) zeroed us vs c words zeros is small

-- so it is read
query_is_read : (bytes packet zeroed us vs : List ℕ) (head : Head) (source c : ℕ) → IsQuery bytes packet head source
    → sixteens (pseudo_header packet ++ icmp_of packet) ≡ us ++ (256 * byte_at 1 c + byte_at 0 c) ∷ vs
    → sixteens zeroed ≡ us ++ 0 ∷ vs → c ≡ checksum zeroed → list_all is_byte zeroed ≡ true
    → (message_in bytes ≡ Some (Query true true)) × (asker_in bytes ≡ Some (true, source))
query_is_read bytes packet zeroed us vs head source c q words zeros is small =
    reads_six bytes packet head source q (six_is_summed packet zeroed us vs c words zeros is small)

-- what is summed, with zeros in the checksum's place
abbrev zeroed_six : ℕ → List ℕ
zeroed_six source = pseudo_header (packet_six 0 source) ++ icmp_of (packet_six 0 source)

-- of the pseudo-header behind the source, and of the message
abbrev known_bytes : List ℕ
known_bytes =
    0xFF ∷ 0x02 ∷ 0x00 ∷ 0x00 ∷ 0x00 ∷ 0x00 ∷ 0x00 ∷ 0x00 ∷ 0x00 ∷ 0x00 ∷ 0x00 ∷ 0x00 ∷ 0x00 ∷ 0x00 ∷ 0x00 ∷ 0x01 ∷
    0x00 ∷ 0x00 ∷ 0x00 ∷ 0x18 ∷ 0x00 ∷ 0x00 ∷ 0x00 ∷ 0x3A ∷ 0x82 ∷ 0x00 ∷ []

abbrev last_bytes : List ℕ
last_bytes = 0x27 ∷ 0x10 ∷ 0x00 ∷ 0x00 ∷ replicate 16 0x00

small_six : (source : ℕ) → list_all is_byte (zeroed_six source) ≡ true
small_six source =
    list_all-append is_byte (bytes_high_first 16 source) (known_bytes ++ 0x00 ∷ 0x00 ∷ last_bytes)
    ∙ ap (λ b. b && true) (all_bytes 16 source)

not_zero : (source : ℕ) → is_link_local_six source ≡ true → not (source == 0) ≡ true
not_zero source h = by (source == 0) refl
  where
    -- zero isn't in fe80::/10
    low : (source == 0) ≡ true → source ≡ 0
    low e = grind arith

    by : (b : Bool) → (source == 0) ≡ b → not b ≡ true
    by false e = refl
    by true e = ap is_link_local_six (sym (low e)) ∙ h

pub six_is_counted : (own source : ℕ) → is_link_local_six source ≡ true → source < 2 ^ 128
    → (message_in (query_six own source) ≡ Some (Query true true)) × (asker_in (query_six own source) ≡ Some (true, source))
six_is_counted own source local h =
    let c = checksum_six source in
    let bytes = query_six own source in
    query_is_read bytes (packet_six c source) (zeroed_six source) (sixteens (bytes_high_first 16 source ++ known_bytes)) (sixteens last_bytes) (head_of bytes None 14) source c
    (record {
      reads = refl;
      kind = refl;
      behind = refl;
      multicast = refl;
      mld = refl;
      query = refl;
      size = refl;
      group = refl;
      from = spelled 16 source h;
      some = not_zero source local;
    })
    refl refl refl (small_six source)
