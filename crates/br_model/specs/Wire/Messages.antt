-- What a frame says to IGMP and MLD snooping.
-- Source: RFC 2236 section 2, RFC 3376 sections 4 and 7.1, RFC 2710 section 3, RFC 3810 section 5, RFC 4541 section 2.1.1. A frame
-- with a broken IP header is an ordinary multicast, and a broken message is unrecognized: this profile.
use Rattle.std.specs.Prelude.{◌≡◌, ◌≤◌, ℕ, ◌+◌, ◌==◌, nat_le, nat_lt, Bool, true, false, not, ◌&&◌, ◌||◌, if◌then◌else◌, List, length, drop, slice_index}
use Rattle.std.specs.declared.option.Option.{Option}
use Rattle.std.specs.Option.{option_map_or}
use Rattle.br_model.specs.declared.frame.Head.{Head}
use Rattle.br_model.specs.declared.frame.McastMsg.{McastMsg}
use Rattle.br_model.specs.declared.frame.McastMsg.TheVariants.{Plain, Payload, Query, Report, Leave, Records, Unrecognized}
use Rattle.br_model.specs.declared.group.Group.{Group}
use Rattle.br_model.specs.declared.group.Group.TheVariants.{V4, V6}
use Rattle.br_model.specs.Wire.Checksum.{is_summed}
use Rattle.br_model.specs.Wire.Frames.{number_at}
use Rattle.br_model.specs.Wire.IpHeaders.{type_four, type_six, header_four, protocol_four, source_four, destination_four, is_fragment}
use Rattle.br_model.specs.Wire.IpHeaders.{body_four, is_multicast_four, source_six, destination_six, body_six, is_multicast_six}
use Rattle.br_model.specs.Wire.MldHeaders.{hop_length, icmp_of, query_six, report_six, done_six, records_six, has_mld, is_summed_six}
use Rattle.br_model.specs.Wire.Records.{group_at, records_fit}

-- a report of one group, or a leave
abbrev pub report_of : Option Group → McastMsg
report_of group = option_map_or Report group Unrecognized

abbrev pub leave_of : Option Group → McastMsg
leave_of group = option_map_or Leave group Unrecognized

-- The records begin behind the 8 first bytes of the message; their count is at its bytes 6 and 7.
abbrev pub records_of : Bool → ℕ → List ℕ → McastMsg
records_of six first body =
    if records_fit six (number_at body 6 2) (drop 8 body) then Records six (first + 8) (number_at body 6 2) else Unrecognized

-- IGMP

abbrev pub protocol_igmp : ℕ
protocol_igmp = 2

abbrev pub query_four : ℕ
query_four = 0x11

-- of version 1, and of version 2
abbrev pub is_report_four : ℕ → Bool
is_report_four kind = kind == 0x12 || kind == 0x16

abbrev pub leave_four : ℕ
leave_four = 0x17

abbrev pub records_four : ℕ
records_four = 0x22

-- 8 bytes in versions 1 and 2, and 12 or more in version 3
abbrev pub is_query_length_four : ℕ → Bool
is_query_length_four n = n == 8 || nat_le 12 n

-- a query to all groups, from an address that isn't zero
abbrev pub is_counted : ℕ → ℕ → Bool
is_counted source group = not (source == 0) && group == 0

-- the message in this body, by its type, from this source; the body begins at byte `first` of the frame
abbrev pub igmp_of_type : ℕ → ℕ → ℕ → List ℕ → McastMsg
igmp_of_type kind source first body =
    if kind == query_four then (
    if is_query_length_four (length body) then Query false (is_counted source (number_at body 4 4)) else Unrecognized
    ) else
    if is_report_four kind then report_of (group_at false body 4) else
    if kind == leave_four then leave_of (group_at false body 4) else
    if kind == records_four then records_of false first body else
    Unrecognized

abbrev pub igmp : ℕ → ℕ → List ℕ → McastMsg
igmp source first body =
    if nat_lt (length body) 8 then Unrecognized else
    if not (is_summed body) then Unrecognized else
    igmp_of_type (slice_index body 0) source first body

-- the packet begins at byte `first` of the frame
abbrev pub message_four : ℕ → ℕ → List ℕ → McastMsg
message_four dst first packet =
    if not (is_multicast_four dst packet) then Plain else
    if not (protocol_four packet == protocol_igmp) then Payload (V4 (destination_four packet)) else
    if is_fragment packet then Unrecognized else
    igmp (source_four packet) (first + header_four packet) (body_four packet)

-- MLD

-- 24 bytes in version 1, and 28 or more in version 2
abbrev pub is_query_length_six : ℕ → Bool
is_query_length_six n = n == 24 || nat_le 28 n

abbrev pub mld_of_type : ℕ → ℕ → ℕ → List ℕ → McastMsg
mld_of_type kind source first body =
    if kind == query_six then (
    if is_query_length_six (length body) then Query true (is_counted source (number_at body 8 16)) else Unrecognized
    ) else
    if kind == records_six then (if nat_lt (length body) 8 then Unrecognized else records_of true first body) else
    if nat_lt (length body) 24 then Unrecognized else
    if kind == report_six then report_of (group_at true body 8) else
    if kind == done_six then leave_of (group_at true body 8) else
    Unrecognized

abbrev pub message_six : ℕ → ℕ → List ℕ → McastMsg
message_six dst first packet =
    if not (is_multicast_six dst packet) then Plain else
    if not (has_mld packet) then Payload (V6 (destination_six packet)) else
    if not (is_summed_six packet) then Unrecognized else
    mld_of_type (slice_index (icmp_of packet) 0) (source_six packet) (first + 40 + hop_length (body_six packet)) (icmp_of packet)

unfoldable pub message : List ℕ → Head → McastMsg
message bytes head =
    if head.kind == type_four then message_four head.dst head.body (drop head.body bytes) else
    if head.kind == type_six then message_six head.dst head.body (drop head.body bytes) else
    Plain

-- Where the message is records, they are in these bytes, whole, from the place that it names on.
abbrev pub RecordsStand : List ℕ → McastMsg → Type 0
RecordsStand bytes Plain = Unit {0}
RecordsStand bytes (Payload group) = Unit {0}
RecordsStand bytes (Query six counted) = Unit {0}
RecordsStand bytes (Report group) = Unit {0}
RecordsStand bytes (Leave group) = Unit {0}
RecordsStand bytes (Records six first count) = (first ≤ length bytes) × (records_fit six count (drop first bytes) ≡ true)
RecordsStand bytes Unrecognized = Unit {0}
