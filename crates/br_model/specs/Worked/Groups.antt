-- Words that spell IP addresses, or don't, and what each is read as; and commands on groups in a worked run.
-- Source: this profile; the readings and the transcript were worked out by hand.
use Rattle.std.specs.Prelude.{ℕ, List, [], ◌∷◌, ◌++◌, codes}
use Rattle.std.specs.declared.option.Option.{Option}
use Rattle.std.specs.declared.option.Option.TheVariants.{None, Some}
use Rattle.br_model.specs.declared.group.Ip.{Ip}
use Rattle.br_model.specs.declared.group.Ip.TheVariants.{V4, V6}
use Rattle.br_model.specs.Theorems.WholeLines.{lines_text}
use Rattle.br_model.specs.Text.Words.{Word}
use Rattle.br_model.specs.Worked.Rows.{three_up, three_are_up}

abbrev pub address_words : List Word
address_words =
    codes "239.1.2.3" ∷
    codes "0.0.0.0" ∷
    codes "255.255.255.255" ∷
    codes "10.0.0.1" ∷
    codes "256.1.2.3" ∷
    codes "239.1.2.256" ∷
    codes "239.1.2.99999999999999999999" ∷
    codes "239.1.2" ∷
    codes "239.1.2.3.4" ∷
    codes "239.1.2." ∷
    codes ".1.2.3" ∷
    codes "239..2.3" ∷
    codes "239.1.2.03" ∷
    codes "0239.1.2.3" ∷
    codes "239.1.2.00" ∷
    codes "239.1.2.+3" ∷
    codes "239.1.2.3x" ∷
    codes "ef.1.2.3" ∷
    codes "239,1,2,3" ∷
    codes "4010869251" ∷
    codes "ff05:0000:0000:0000:0000:0000:0000:1234" ∷
    codes "FF02:0000:0000:0000:0000:0000:00aB:cDeF" ∷
    codes "0001:0203:0405:0607:0809:0a0b:0c0d:0e0f" ∷
    codes "ffff:ffff:ffff:ffff:ffff:ffff:ffff:ffff" ∷
    codes "ff05::1234" ∷
    codes "ff05:0:0:0:0:0:0:1234" ∷
    codes "ff05:0000:0000:0000:0000:0000:1234" ∷
    codes "ff05:0000:0000:0000:0000:0000:0000:0000:1234" ∷
    codes "ff05:0000:0000:0000:0000:0000::1234" ∷
    codes "ff05:0000:0000:0000:0000:0000:0000:01234" ∷
    codes "ff05:0000:0000:0000:0000:0000:00000:234" ∷
    codes "ff05:0000:0000:0000:0000:0000:0000:123g" ∷
    codes "ff05:0000:0000:0000:0000:0000:0000:1234:" ∷
    codes ":ff05:0000:0000:0000:0000:0000:0000:1234" ∷
    codes "ff05-0000-0000-0000-0000-0000-0000-1234" ∷
    codes "0000:0000:0000:0000:0000:ffff:239.1.2.3" ∷
    codes "ff05.0000.0000.1234" ∷
    codes "01:00:5e:01:02:03" ∷
    codes "group" ∷
    codes "" ∷
    []

abbrev pub address_words_read : List (Option Ip)
address_words_read =
    Some (V4 0xEF010203) ∷
    Some (V4 0x0) ∷
    Some (V4 0xFFFFFFFF) ∷
    Some (V4 0xA000001) ∷
    None ∷
    None ∷
    None ∷
    None ∷
    None ∷
    None ∷
    None ∷
    None ∷
    None ∷
    None ∷
    None ∷
    None ∷
    None ∷
    None ∷
    None ∷
    None ∷
    Some (V6 0xFF050000000000000000000000001234) ∷
    Some (V6 0xFF020000000000000000000000ABCDEF) ∷
    Some (V6 0x102030405060708090A0B0C0D0E0F) ∷
    Some (V6 0xFFFFFFFFFFFFFFFFFFFFFFFFFFFFFFFF) ∷
    None ∷
    None ∷
    None ∷
    None ∷
    None ∷
    None ∷
    None ∷
    None ∷
    None ∷
    None ∷
    None ∷
    None ∷
    None ∷
    None ∷
    None ∷
    None ∷
    []

-- Memberships by command. Of the refusals that hold, the first in the order of the commands is given.
abbrev pub groups_by_command_text : List ℕ
groups_by_command_text = lines_text (three_up ++
    codes "cmd mdb add 239.1.2.3 dev p1 vlan 1" ∷
    codes "cmd mdb add 239.1.2.3 dev p1 vlan 1" ∷
    codes "cmd mdb add 10.0.0.1 dev p1 vlan 1" ∷
    codes "cmd mdb add 224.0.0.255 dev p1 vlan 1" ∷
    codes "cmd mdb add 224.0.1.0 dev p1 vlan 1" ∷
    codes "cmd mdb add ff02:0000:0000:0000:0000:0000:0000:0001 dev p1 vlan 1" ∷
    codes "cmd mdb add FF02:0000:0000:0000:0000:0000:0000:0002 dev host vlan 1" ∷
    codes "cmd mdb add fe80:0000:0000:0000:0000:0000:0000:0002 dev host vlan 1" ∷
    codes "cmd mdb add 239.1.2.3 dev p2 vlan 7" ∷
    codes "cmd mdb add 10.0.0.1 dev p2 vlan 7" ∷
    codes "cmd mdb del 239.1.2.3 dev p2 vlan 7" ∷
    codes "cmd mdb del 10.0.0.1 dev p2 vlan 7" ∷
    codes "cmd mdb del 239.1.2.3 dev p1 vlan 1" ∷
    codes "cmd mdb del 239.1.2.3 dev p1 vlan 1" ∷
    codes "cmd snooping on" ∷
    codes "cmd snooping off" ∷
    codes "cmd snooping off" ∷
    codes "cmd snooping on" ∷
    codes "cmd port down p3" ∷
    codes "cmd mdb add 10.0.0.1 dev p3 vlan 1" ∷
    codes "cmd mdb del 10.0.0.1 dev p3 vlan 1" ∷
    codes "cmd port down p1" ∷
    codes "end" ∷
    [])

abbrev pub groups_by_command_told : List ℕ
groups_by_command_told = lines_text (three_are_up ++
    codes "ok 5 1" ∷
    codes "refused 6 4" ∷
    codes "refused 7 13" ∷
    codes "refused 8 13" ∷
    codes "ok 9 1" ∷
    codes "refused 10 13" ∷
    codes "ok 11 1" ∷
    codes "refused 12 13" ∷
    codes "refused 13 3" ∷
    codes "refused 14 13" ∷
    codes "refused 15 5" ∷
    codes "refused 16 13" ∷
    codes "ok 17 1" ∷
    codes "refused 18 5" ∷
    codes "ok 19 0" ∷
    codes "ok 20 1" ∷
    codes "ok 21 0" ∷
    codes "ok 22 1" ∷
    codes "ok 23 2" ∷
    codes "refused 24 2" ∷
    codes "refused 25 2" ∷
    codes "ok 26 3" ∷
    codes "end 26 20 0 0" ∷
    [])

-- the operands of a group's line are read from left to right
abbrev pub bad_group_text : List ℕ
bad_group_text = lines_text (three_up ++
    codes "cmd mdb add 239.1.2.3 dev host vlan 7" ∷
    codes "cmd mdb add 239.1.2.256 dev nobody vlan 0" ∷
    codes "end" ∷
    [])

abbrev pub bad_group_told : List ℕ
bad_group_told = lines_text (three_are_up ++
    codes "refused 5 3" ∷
    codes "bad 10 address" ∷
    [])
