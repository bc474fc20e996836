-- Commands of a port's flag, and moments, in their plainest spelling.
use Rattle.std.proofs.Common.{◌≡◌, ℕ, suc, ◌+◌, ◌-◌, ◌≤◌, Bool, true, false, ◌&&◌, if◌then◌else◌, cond, List, [], ◌∷◌, ◌++◌, length}
use Rattle.std.proofs.Common.{take, drop, get_or, map, codes, is_some, slice_index_or, Some, None, Ok, Err, refl, ap, sym, ◌∙◌, arith}
use Rattle.std.specs.Char.{is_ascii}
use Rattle.std.specs.Cmp.{first_so, second_so}
use Rattle.std.specs.List.{filter, list_all}
use Rattle.std.specs.Str.{bytes_eq}
use Rattle.std.proofs.Math.Seq.{drop-cons}
use Rattle.std.proofs.lemmas.Bool.{and_from, le-leb}
use Rattle.std.proofs.lemmas.List.{take_all, length-drop}
use Rattle.std.proofs.lemmas.Slice.Eq.{HasBytesAt}
use Rattle.br_model.specs.declared.scenario.LineWhy.TheVariants as why
use Rattle.br_model.specs.declared.scenario.Said.TheVariants.{Does}
use Rattle.br_model.specs.declared.steps.Command.TheVariants.{Link, VlanAdd, VlanDel}
use Rattle.br_model.specs.declared.steps.Step.TheVariants.{Cmd, Now}
use Rattle.br_model.specs.Data.Digits.{is_decimal, digits_value}
use Rattle.br_model.specs.Table.Domains.{host}
use Rattle.br_model.specs.Text.CommandForms.{step, commands, link_on, link_off}
use Rattle.br_model.specs.Text.FlagWords.{flags, flag_named}
use Rattle.br_model.specs.Text.Forms.{after, pick, said}
use Rattle.br_model.specs.Text.LineForms.{all_say, commanded}
use Rattle.br_model.specs.Text.Operands.{device, flag, found, number, number_in, last_moment, port_name}
use Rattle.br_model.specs.Text.Roster.{Entry, Roster, host_name}
use Rattle.br_model.specs.Text.Words.{Word, words, is_word, readable, replacement}
use Rattle.scenario_text.specs.Parts.{Member, Numbered, is_plain, joins, links, moves, switch_word}
use Rattle.scenario_text.proofs.PlainLines.{split_plain, split_alone, readable_plain, digits_plain, is_some_word, number_first}

-- the words behind `cmd`
abbrev behind : Word → Word → Word → ℕ → Word
behind name flag_word last i = slice_index_or (codes "cmd" ∷ codes "link" ∷ name ∷ flag_word ∷ last ∷ []) (i + 1) []

on_says : (r : Roster) (name flag_word : Word) (port bit : ℕ) → step r.place ≡ true → port_name r.ports name ≡ Ok port → flag_named flags flag_word ≡ Some bit
    → all_say r (codes "cmd" ∷ codes "link" ∷ name ∷ flag_word ∷ codes "on" ∷ []) ≡ Ok (Does (Cmd (Link port bit true)))
unfolding flag
on_says r name flag_word port bit place named flagged =
    ap (λ (s : Bool). commanded (said r (if s && true then Some link_on else pick (drop 3 commands) 4 (behind name flag_word (codes "on"))) (behind name flag_word (codes "on")))) (ap is_some flagged)
    ∙ ap (λ b. commanded (if b then after (port_name r.ports name) (λ p. after (flag flag_word) (λ g. Ok (Link p g true))) else Err why.Place)) place
    ∙ ap (λ o. commanded (after o (λ p. after (flag flag_word) (λ g. Ok (Link p g true))))) named
    ∙ ap (λ o. commanded (after (found why.Word o) (λ g. Ok (Link port g true)))) flagged

off_says : (r : Roster) (name flag_word : Word) (port bit : ℕ) → step r.place ≡ true → port_name r.ports name ≡ Ok port → flag_named flags flag_word ≡ Some bit
    → all_say r (codes "cmd" ∷ codes "link" ∷ name ∷ flag_word ∷ codes "off" ∷ []) ≡ Ok (Does (Cmd (Link port bit false)))
unfolding flag
off_says r name flag_word port bit place named flagged =
    ap (λ (s : Bool). commanded
    (said r (if s && false then Some link_on else if s && true then Some link_off else pick (drop 4 commands) 4 (behind name flag_word (codes "off"))) (behind name flag_word (codes "off"))))
    (ap is_some flagged)
    ∙ ap (λ b. commanded (if b then after (port_name r.ports name) (λ p. after (flag flag_word) (λ g. Ok (Link p g false))) else Err why.Place)) place
    ∙ ap (λ o. commanded (after o (λ p. after (flag flag_word) (λ g. Ok (Link p g false))))) named
    ∙ ap (λ o. commanded (after (found why.Word o) (λ g. Ok (Link port g false)))) flagged

switch_says : (r : Roster) (name flag_word : Word) (port bit : ℕ) (on : Bool) → step r.place ≡ true → port_name r.ports name ≡ Ok port → flag_named flags flag_word ≡ Some bit
    → all_say r (codes "cmd" ∷ codes "link" ∷ name ∷ flag_word ∷ words (switch_word on)) ≡ Ok (Does (Cmd (Link port bit on)))
switch_says r name flag_word port bit true place named flagged = on_says r name flag_word port bit place named flagged
switch_says r name flag_word port bit false place named flagged = off_says r name flag_word port bit place named flagged

link_words : (text : List ℕ) → words (links text) ≡ codes "cmd" ∷ codes "link" ∷ words text
link_words text =
    ap (λ parts. map readable (filter is_word parts))
    (split_plain (codes "cmd") (codes "link" ++ 32 ∷ text) refl ∙ ap (λ parts. codes "cmd" ∷ parts) (split_plain (codes "link") text refl))

pub linked : (r : Roster) (text switch rest : List ℕ) (name flag_word : Word) (port bit : ℕ) (on : Bool) → step r.place ≡ true → words text ≡ name ∷ words switch
    → words switch ≡ flag_word ∷ words rest
    → rest ≡ switch_word on → Some bit ≡ flag_named flags flag_word → Ok port ≡ port_name r.ports name → all_say r (words (links text)) ≡ Ok (Does (Cmd (Link port bit on)))
linked r text switch rest name flag_word port bit on place first second last flagged named =
    ap (all_say r)
    (link_words text ∙ ap (λ ws. codes "cmd" ∷ codes "link" ∷ ws) (first ∙ ap (λ ws. name ∷ ws) (second ∙ ap (λ l. flag_word ∷ words l) last)))
    ∙ switch_says r name flag_word port bit on place (sym named) (sym flagged)

-- members of VLANs

add_words : (entry : List ℕ) → words (joins (codes "add vid " ++ entry)) ≡ codes "cmd" ∷ codes "vlan" ∷ codes "add" ∷ codes "vid" ∷ words entry
add_words entry =
    ap (λ parts. map readable (filter is_word parts))
    (split_plain (codes "cmd") (codes "vlan add vid " ++ entry) refl ∙ ap (λ parts. codes "cmd" ∷ parts) (split_plain (codes "vlan") (codes "add vid " ++ entry) refl
    ∙ ap (λ parts. codes "vlan" ∷ parts) (split_plain (codes "add") (codes "vid " ++ entry) refl ∙ ap (λ parts. codes "add" ∷ parts) (split_plain (codes "vid") entry refl))))

del_words : (entry : List ℕ) → words (joins (codes "del vid " ++ entry)) ≡ codes "cmd" ∷ codes "vlan" ∷ codes "del" ∷ codes "vid" ∷ words entry
del_words entry =
    ap (λ parts. map readable (filter is_word parts))
    (split_plain (codes "cmd") (codes "vlan del vid " ++ entry) refl ∙ ap (λ parts. codes "cmd" ∷ parts) (split_plain (codes "vlan") (codes "del vid " ++ entry) refl
    ∙ ap (λ parts. codes "vlan" ∷ parts) (split_plain (codes "del") (codes "vid " ++ entry) refl ∙ ap (λ parts. codes "del" ∷ parts) (split_plain (codes "vid") entry refl))))

add_says : (r : Roster) (number_word name : Word) (vid port : ℕ) → step r.place ≡ true → number 1 4094 number_word ≡ Ok vid → device r.ports name ≡ Ok port
    → all_say r (codes "cmd" ∷ codes "vlan" ∷ codes "add" ∷ codes "vid" ∷ number_word ∷ codes "dev" ∷ name ∷ []) ≡ Ok (Does (Cmd (VlanAdd port vid false false)))
add_says r number_word name vid port place spelled named =
    ap (λ b. commanded (if b then after (number 1 4094 number_word) (λ v. after (device r.ports name) (λ p. Ok (VlanAdd p v false false))) else Err why.Place)) place
    ∙ ap (λ o. commanded (after o (λ v. after (device r.ports name) (λ p. Ok (VlanAdd p v false false))))) spelled
    ∙ ap (λ o. commanded (after o (λ p. Ok (VlanAdd p vid false false)))) named

del_says : (r : Roster) (number_word name : Word) (vid port : ℕ) → step r.place ≡ true → number 1 4094 number_word ≡ Ok vid → device r.ports name ≡ Ok port
    → all_say r (codes "cmd" ∷ codes "vlan" ∷ codes "del" ∷ codes "vid" ∷ number_word ∷ codes "dev" ∷ name ∷ []) ≡ Ok (Does (Cmd (VlanDel port vid)))
del_says r number_word name vid port place spelled named =
    ap (λ b. commanded (if b then after (number 1 4094 number_word) (λ v. after (device r.ports name) (λ p. Ok (VlanDel p v))) else Err why.Place)) place
    ∙ ap (λ o. commanded (after o (λ v. after (device r.ports name) (λ p. Ok (VlanDel p v))))) spelled
    ∙ ap (λ o. commanded (after o (λ p. Ok (VlanDel p vid)))) named

pub added : (r : Roster) (entry : List ℕ) (vid port : ℕ) → step r.place ≡ true → Member r.ports entry vid port
    → all_say r (words (joins (codes "add vid " ++ entry))) ≡ Ok (Does (Cmd (VlanAdd port vid false false)))
added r entry vid port place m =
    ap (all_say r) (add_words entry ∙ ap (λ ws. codes "cmd" ∷ codes "vlan" ∷ codes "add" ∷ codes "vid" ∷ ws) m.says)
    ∙ add_says r m.number_word m.name vid port place m.number_is m.port_is

pub deleted : (r : Roster) (entry : List ℕ) (vid port : ℕ) → step r.place ≡ true → Member r.ports entry vid port
    → all_say r (words (joins (codes "del vid " ++ entry))) ≡ Ok (Does (Cmd (VlanDel port vid)))
deleted r entry vid port place m =
    ap (all_say r) (del_words entry ∙ ap (λ ws. codes "cmd" ∷ codes "vlan" ∷ codes "del" ∷ codes "vid" ∷ ws) m.says)
    ∙ del_says r m.number_word m.name vid port place m.number_is m.port_is

-- a number, `dev`, and a name
pub member_of : (ports : List Entry) (entry rest name : List ℕ) (n vid port : ℕ) → Numbered entry n rest → rest ≡ codes "dev " ++ name → words name ≡ readable name ∷ []
    → vid ≡ n → 1 ≤ n → n ≤ 4094 → Ok port ≡ port_name ports (readable name) → bytes_eq (readable name) host_name ≡ false → Member ports entry vid port
unfolding device number
member_of ports entry rest name n vid port s rest_is alone vid_is low high named other = record {
  number_word = s.word;
  name = readable name;
  says = number_first entry rest n s
      ∙ ap (λ ws. s.word ∷ ws) (ap words rest_is ∙ ap (λ parts. map readable (filter is_word parts)) (split_plain (codes "dev") name refl) ∙ ap (λ ws. codes "dev" ∷ ws) alone);
  number_is = ap (number_in 1 4094) s.spells ∙ ap (λ b. if b then Ok n else Err why.Number) (and_from _ _ (le-leb 1 n low) (le-leb n 4094 high)) ∙ ap (λ k. Ok k) (sym vid_is);
  port_is = ap (λ b. if b then Ok host else port_name ports (readable name)) other ∙ sym named;
}

-- a moment

decimal_word : (w : Word) (n : ℕ) → Ok n ≡ number 0 last_moment w → is_decimal w ≡ true
unfolding number
decimal_word w n h = by (is_decimal w) h
  where
    by : (b : Bool) → Ok n ≡ number_in 0 last_moment (if b then Some (digits_value w) else None) → b ≡ true
    by true e = refl
    by false e = absurd (cc)

now_says : (r : Roster) (w : Word) (n : ℕ) → step r.place ≡ true → Ok n ≡ number 0 last_moment w → all_say r (codes "now" ∷ w ∷ []) ≡ Ok (Does (Now n))
now_says r w n place spells =
    ap (λ b. if b then after (number 0 last_moment w) (λ m. Ok (Does (Now m))) else Err why.Place) place ∙ ap (λ o. after o (λ m. Ok (Does (Now m)))) (sym spells)

now_words : (w : Word) → is_decimal w ≡ true → words (moves w) ≡ codes "now" ∷ w ∷ []
now_words w h =
    let plain : list_all is_plain w ≡ true = digits_plain w (first_so _ _ (second_so _ _ h)) in
    ap (λ parts. map readable (filter is_word parts)) (split_plain (codes "now") w refl ∙ ap (λ parts. codes "now" ∷ parts) (split_alone w plain))
    ∙ ap (λ b. codes "now" ∷ map readable (cond b (w ∷ []) [])) (is_some_word w h)
    ∙ ap (λ v. codes "now" ∷ v ∷ []) (readable_plain w plain)

pub moved : (r : Roster) (text word : List ℕ) (n : ℕ) → step r.place ≡ true → word ≡ readable text → Ok n ≡ number 0 last_moment word → all_say r (words (moves text)) ≡ Ok (Does (Now n))
moved r text word n place is spells =
    let read : Ok n ≡ number 0 last_moment (readable text) = spells ∙ ap (number 0 last_moment) is in
    let same : readable text ≡ text = by (list_all is_ascii text) (decimal_word (readable text) n read) in
    let whole : Ok n ≡ number 0 last_moment text = read ∙ ap (number 0 last_moment) same in
    ap (all_say r) (now_words text (decimal_word text n whole)) ∙ now_says r text n place whole
  where
    by : (b : Bool) → is_decimal (if b then text else replacement) ≡ true → (if b then text else replacement) ≡ text
    by true h = refl
    by false h = absurd (cc)

-- the front of a line

from_front : (s p : List ℕ) (i : ℕ) → i + length p ≤ length s → HasBytesAt s i p → drop i s ≡ p ++ drop (i + length p) s
from_front s [] i h reads = let same : i ≡ i + 0 = omega arith in ap (λ n. drop n s) same
from_front s (c ∷ p) i h reads =
    let next : suc i + length p ≡ i + length (c ∷ p) = omega arith in
    drop-cons s i 0 (omega arith) ∙ (λ k. reads.0 k ∷ from_front s p (suc i) (omega arith) reads.1 k) ∙ ap (λ n. c ∷ (p ++ drop n s)) next

front_reads : (s p : List ℕ) → length p ≤ length s → HasBytesAt s 0 p → s ≡ p ++ take (length s - length p) (drop (length p) s)
front_reads s p h reads =
    let same : 0 + length p ≡ length p = omega arith in
    from_front s p 0 (omega arith) reads ∙ ap (λ n. p ++ drop n s) same
    ∙ ap (λ l. p ++ l) (sym (take_all (length s - length p) (drop (length p) s) (omega (arith, length-drop (length p) s))))

pub link_line : (line : List ℕ) → 9 ≤ length line → get_or line 0 0 ≡ 99 → get_or line 1 0 ≡ 109 → get_or line 2 0 ≡ 100 → get_or line 3 0 ≡ 32 → get_or line 4 0 ≡ 108 → get_or line 5 0 ≡ 105
    → get_or line 6 0 ≡ 110 → get_or line 7 0 ≡ 107 → get_or line 8 0 ≡ 32 → line ≡ links (take (length line - 9) (drop 9 line))
link_line line long a b c d e f g h i = front_reads line (codes "cmd link ") long (a, (b, (c, (d, (e, (f, (g, (h, (i, tt)))))))))

pub vlan_line : (line : List ℕ) → 9 ≤ length line → get_or line 0 0 ≡ 99 → get_or line 1 0 ≡ 109 → get_or line 2 0 ≡ 100 → get_or line 3 0 ≡ 32 → get_or line 4 0 ≡ 118 → get_or line 5 0 ≡ 108
    → get_or line 6 0 ≡ 97 → get_or line 7 0 ≡ 110 → get_or line 8 0 ≡ 32 → line ≡ joins (take (length line - 9) (drop 9 line))
vlan_line line long a b c d e f g h i = front_reads line (codes "cmd vlan ") long (a, (b, (c, (d, (e, (f, (g, (h, (i, tt)))))))))

pub add_line : (text : List ℕ) → 8 ≤ length text → get_or text 0 0 ≡ 97 → get_or text 1 0 ≡ 100 → get_or text 2 0 ≡ 100 → get_or text 3 0 ≡ 32 → get_or text 4 0 ≡ 118 → get_or text 5 0 ≡ 105
    → get_or text 6 0 ≡ 100 → get_or text 7 0 ≡ 32 → text ≡ codes "add vid " ++ take (length text - 8) (drop 8 text)
add_line text long a b c d e f g h = front_reads text (codes "add vid ") long (a, (b, (c, (d, (e, (f, (g, (h, tt))))))))

pub del_line : (text : List ℕ) → 8 ≤ length text → get_or text 0 0 ≡ 100 → get_or text 1 0 ≡ 101 → get_or text 2 0 ≡ 108 → get_or text 3 0 ≡ 32 → get_or text 4 0 ≡ 118 → get_or text 5 0 ≡ 105
    → get_or text 6 0 ≡ 100 → get_or text 7 0 ≡ 32 → text ≡ codes "del vid " ++ take (length text - 8) (drop 8 text)
del_line text long a b c d e f g h = front_reads text (codes "del vid ") long (a, (b, (c, (d, (e, (f, (g, (h, tt))))))))

pub dev_line : (text : List ℕ) → 4 ≤ length text → get_or text 0 0 ≡ 100 → get_or text 1 0 ≡ 101 → get_or text 2 0 ≡ 118 → get_or text 3 0 ≡ 32
    → text ≡ codes "dev " ++ take (length text - 4) (drop 4 text)
dev_line text long a b c d = front_reads text (codes "dev ") long (a, (b, (c, (d, tt))))

pub now_line : (line : List ℕ) → 4 ≤ length line → get_or line 0 0 ≡ 110 → get_or line 1 0 ≡ 111 → get_or line 2 0 ≡ 119 → get_or line 3 0 ≡ 32 → line ≡ moves (take (length line - 4) (drop 4 line))
now_line line long a b c d = front_reads line (codes "now ") long (a, (b, (c, (d, tt))))
