-- The lines before the first step are read back.
use Rattle.std.proofs.Common.{◌≡◌, ℕ, suc, ◌+◌, ◌/◌, ◌%◌, ◌^◌, ◌<◌, ◌≤◌, ◌==◌, nat_lt, nat_le, Bool, true, false, not, ◌&&◌}
use Rattle.std.proofs.Common.{if◌then◌else◌, List, [], ◌∷◌, ◌++◌, length, refl, sym, ◌∙◌, ap, arith, Some, Ok, Err, append_assoc, append-nil, length-append}
use Rattle.std.specs.Prelude.{codes}
use Rattle.std.specs.Cmp.{first_so, second_so}
use Rattle.std.specs.Fmt.{decimal}
use Rattle.std.specs.List.{flat_map, list_all}
use Rattle.std.specs.Option.{is_some}
use Rattle.std.specs.Str.{bytes_eq}
use Rattle.std.proofs.lemmas.Bool.{eqb-true, or_parts, le-ltb, and_from, or_from, leb-true}
use Rattle.std.proofs.lemmas.Fmt.{length-decimal-le}
use Rattle.std.proofs.lemmas.List.Folds.{list_any-append}
use Rattle.lemmas.proofs.Numbers.{eqb-apart}
use Rattle.lemmas.proofs.Lists.{bytes_eq-sym}
use Rattle.br_model.specs.declared.domains.Edition.{Edition}
use Rattle.br_model.specs.declared.domains.Edition.TheVariants.{One, Two}
use Rattle.br_model.specs.declared.scenario.LineWhy.TheVariants.{Long}
use Rattle.br_model.specs.declared.scenario.Place.TheVariants.{Header}
use Rattle.br_model.specs.declared.scenario.Said.TheVariants.{Opens, Bridge, Declares}
use Rattle.br_model.specs.Data.Digits.{hex_digit, hex_of}
use Rattle.br_model.specs.Table.Domains.{last_chip, last_port, software}
use Rattle.br_model.specs.Text.Declarations.{are_declared, fits_beside}
use Rattle.br_model.specs.Text.Forms.{row}
use Rattle.br_model.specs.Text.Head.{domain_words, edition_line, head_text, port_line}
use Rattle.br_model.specs.Text.LineForms.{declaration, header, line_says}
use Rattle.br_model.specs.Text.Operands.{is_station}
use Rattle.br_model.specs.Text.Roster.{Entry, Roster, first_roster, has_number, is_name, is_name_byte, longest_name, port_named}
use Rattle.br_model.specs.Text.Scenario.{Scenario, Going, longest_line, opened, read, whole_says}
use Rattle.br_model.specs.Text.Spelling.{byte_at, mac_text}
use Rattle.br_model.specs.Text.Words.{Word}
use Rattle.br_model.specs.Theorems.WholeLines.{is_line, is_no_feed}
use Rattle.br_model.proofs.Worked.Computing.{computing}
use Rattle.br_model.proofs.Text.Reading.{read_line}
use Rattle.br_model.proofs.Text.WrittenLines.{line_read}
use Rattle.br_model.proofs.Text.WrittenNames.{Fits, fits}
use Rattle.br_model.proofs.Text.Feedless.{lines_joined, all_lines, decimal_feedless}
use Rattle.scenario_text.specs.Heads.{behind_head, behind_ports}

-- lines without line feeds

letter_feedless : (c : ℕ) → is_name_byte c ≡ true → is_no_feed c ≡ true
letter_feedless c h = grind arith

hex_feedless : (bytes : List ℕ) → is_line (hex_of bytes) ≡ true
hex_feedless [] = refl
hex_feedless (b ∷ bytes) = and_from _ _ (digit (b / 16)) (and_from _ _ (digit (b % 16)) (hex_feedless bytes))
  where
    digit : (n : ℕ) → is_no_feed (hex_digit n) ≡ true
    digit n = grind arith

pair : (b : ℕ) (rest : List ℕ) → is_line rest ≡ true → is_line (hex_of (b ∷ []) ++ (58 ∷ rest)) ≡ true
pair b rest h = lines_joined (hex_of (b ∷ [])) (58 ∷ rest) (hex_feedless (b ∷ [])) h

mac_feedless : (own : ℕ) → is_line (mac_text own) ≡ true
mac_feedless own =
    let a : List ℕ = hex_of (byte_at own 0 ∷ []) in
    let b : List ℕ = hex_of (byte_at own 8 ∷ []) ++ (58 ∷ a) in
    let c : List ℕ = hex_of (byte_at own 16 ∷ []) ++ (58 ∷ b) in
    let d : List ℕ = hex_of (byte_at own 24 ∷ []) ++ (58 ∷ c) in
    let e : List ℕ = hex_of (byte_at own 32 ∷ []) ++ (58 ∷ d) in
    pair (byte_at own 40) e (pair (byte_at own 32) d (pair (byte_at own 24) c (pair (byte_at own 16) b (pair (byte_at own 8) a (hex_feedless (byte_at own 0 ∷ []))))))

-- the first line

opens_one : (check : Bool) → whole_says (first_roster check) (codes "scenario 1") ≡ Ok (Opens One)
unfolding computing
opens_one check = refl

opens_two : (check : Bool) → whole_says (first_roster check) (codes "scenario 2") ≡ Ok (Opens Two)
unfolding computing
opens_two check = refl

abbrev opened_in : Bool → Edition → Scenario
opened_in check e = record { lines = 1; roster = record (first_roster check) { place = Header; edition = e }; steps = []; ending = Going }

opening_read : (check : Bool) (e : Edition) (more : List ℕ) → read 0 (opened check) (edition_line e ++ more) ≡ read 0 (opened_in check e) more
opening_read check One more = read_line (opened check) (Opens One) (codes "scenario 1") [] more refl refl (opens_one check) refl
opening_read check Two more = read_line (opened check) (Opens Two) (codes "scenario 2") [] more refl refl (opens_two check) refl

-- the line of the bridge

bridge_says : (check : Bool) (e : Edition) (own : ℕ) → is_station own ≡ true → line_says (opened_in check e).roster (codes "bridge " ++ mac_text own) ≡ Ok (Bridge own)
bridge_says check e own h =
    line_read (opened_in check e).roster (row (codes "bridge MAC") header (λ mac. Bridge mac)) (own, tt) refl refl refl refl refl refl (and_from _ true h refl)

bridge_read : (check : Bool) (r : Roster) (more : List ℕ) → is_station r.own ≡ true
    → read 0 (opened_in check r.edition) (codes "bridge " ++ (mac_text r.own ++ (10 ∷ more))) ≡ read 0 (behind_ports 2 check r []) more
bridge_read check r more h =
    read_line (opened_in check r.edition) (Bridge r.own) (codes "bridge " ++ mac_text r.own) [] more refl (lines_joined (codes "bridge ") (mac_text r.own) refl (mac_feedless r.own))
    (bridge_says check r.edition r.own h) refl

-- what declared ports keep from those behind them

named_front : (xs ys : List Entry) (name : Word) → is_some (port_named (xs ++ ys) name) ≡ false → is_some (port_named xs name) ≡ false
named_front [] ys name h = refl
named_front (x ∷ xs) ys name h = by (bytes_eq name x.name) h (named_front xs ys name)
  where
    by : (b : Bool) → is_some (if b then Some x.port else port_named (xs ++ ys) name) ≡ false → (is_some (port_named (xs ++ ys) name) ≡ false → is_some (port_named xs name) ≡ false)
        → is_some (if b then Some x.port else port_named xs name) ≡ false
    by true h later = absurd (cc)
    by false h later = later h

named_behind : (xs : List Entry) (e : Entry) (ys : List Entry) (name : Word) → is_some (port_named (xs ++ e ∷ ys) name) ≡ false → bytes_eq name e.name ≡ false
named_behind [] e ys name h = by (bytes_eq name e.name) h
  where
    by : (b : Bool) → is_some (if b then Some e.port else port_named ys name) ≡ false → b ≡ false
    by true h = absurd (cc)
    by false h = refl
named_behind (x ∷ xs) e ys name h = by (bytes_eq name x.name) h (named_behind xs e ys name)
  where
    by : (b : Bool) → is_some (if b then Some x.port else port_named (xs ++ e ∷ ys) name) ≡ false → (is_some (port_named (xs ++ e ∷ ys) name) ≡ false → bytes_eq name e.name ≡ false)
        → bytes_eq name e.name ≡ false
    by true h later = absurd (cc)
    by false h later = later h

numbered_parts : (xs ys : List Entry) (n : ℕ) → has_number (xs ++ ys) n ≡ false → (has_number xs n ≡ false) × (has_number ys n ≡ false)
numbered_parts xs ys n h = or_parts (has_number xs n) (has_number ys n) (sym (list_any-append (λ (x : Entry). x.port == n) xs ys) ∙ h)

beside : (e : Entry) (ports : List Entry) → nat_le 1 e.port ≡ true → nat_le e.port last_port ≡ true → nat_le e.dom last_chip ≡ true → is_name e.name ≡ true → has_number ports e.port ≡ false
    → is_some (port_named ports e.name) ≡ false → fits_beside ports e ≡ true
beside e ports a b c d f g = and_from _ _ a (and_from _ _ b (and_from _ _ c (and_from _ _ d (and_from _ _ (ap not f) (ap not g)))))

prefix : (xs ys : List Entry) → are_declared (xs ++ ys) ≡ true → are_declared xs ≡ true
prefix [] ys h = refl
prefix (x ∷ xs) ys h =
    let f = fits x (xs ++ ys) h in
    and_from _ _ (beside x xs f.low f.high f.of_chip f.named (numbered_parts xs ys x.port f.new).0 (named_front xs ys x.name f.alone)) (prefix xs ys f.rest)

suffix : (xs ys : List Entry) → are_declared (xs ++ ys) ≡ true → are_declared ys ≡ true
suffix [] ys h = h
suffix (x ∷ xs) ys h = suffix xs ys (fits x (xs ++ ys) h).rest

-- no port before it has its number or its name
new_number : (xs : List Entry) (e : Entry) (ys : List Entry) → are_declared (xs ++ e ∷ ys) ≡ true → has_number xs e.port ≡ false
new_number [] e ys h = refl
new_number (x ∷ xs) e ys h =
    let f = fits x (xs ++ e ∷ ys) h in
    let other = (or_parts (e.port == x.port) (has_number ys x.port) (numbered_parts xs (e ∷ ys) x.port f.new).1).0 in
    or_from (x.port == e.port) (has_number xs e.port) (eqb-apart e.port x.port other) (new_number xs e ys f.rest)

new_name : (xs : List Entry) (e : Entry) (ys : List Entry) → are_declared (xs ++ e ∷ ys) ≡ true → is_some (port_named xs e.name) ≡ false
new_name [] e ys h = refl
new_name (x ∷ xs) e ys h =
    let f = fits x (xs ++ e ∷ ys) h in
    let other : bytes_eq e.name x.name ≡ false = bytes_eq-sym e.name x.name ∙ named_behind xs e ys x.name f.alone in
    ap (λ (b : Bool). is_some (if b then Some x.port else port_named xs e.name)) other ∙ new_name xs e ys f.rest

-- the line of a port

abbrev port_words : Entry → List ℕ
port_words e = codes "port " ++ (decimal e.port ++ (32 ∷ (e.name ++ (32 ∷ domain_words e.dom))))

module _ (check : Bool) (r : Roster) (n : ℕ) (done : List Entry) (e : Entry) (later : List Entry) (all : are_declared (done ++ e ∷ later) ≡ true) where
  abbrev here : Scenario
  here = behind_ports n check r done

  own : Fits e later
  own = fits e later (suffix done (e ∷ later) all)

  number_new : ((nat_le 1 e.port && nat_le e.port last_port) && not (has_number done e.port)) ≡ true
  number_new = and_from _ _ (and_from _ _ own.low own.high) (ap not (new_number done e later all))

  name_new : (is_name e.name && not (is_some (port_named done e.name))) ≡ true
  name_new = and_from _ _ own.named (ap not (new_name done e later all))

  says_soft : line_says here.roster (codes "port " ++ (decimal e.port ++ (32 ∷ (e.name ++ (32 ∷ codes "soft"))))) ≡ Ok (Declares e.port e.name software)
  says_soft =
      line_read here.roster (row (codes "port NUMBER NEWNAME soft") declaration (λ port name. Declares port name software)) (e.port, (e.name, tt))
      (prefix done (e ∷ later) all) refl refl refl refl refl
      (and_from _ _ number_new (and_from _ true name_new refl))

  says_chip : (e.dom == software) ≡ false → line_says here.roster (codes "port " ++ (decimal e.port ++ (32 ∷ (e.name ++ (32 ∷ (codes "chip " ++ decimal e.dom)))))) ≡ Ok (Declares e.port e.name e.dom)
  says_chip not_soft =
      line_read here.roster (row (codes "port NUMBER NEWNAME chip DOMAIN") declaration (λ port name dom. Declares port name dom)) (e.port, (e.name, (e.dom, tt)))
      (prefix done (e ∷ later) all) refl refl refl refl refl
      (and_from _ _ number_new (and_from _ _ name_new (and_from _ true (and_from _ _ (above e.dom not_soft) own.of_chip) refl)))
    where
      above : (dom : ℕ) → (dom == 0) ≡ false → nat_le 1 dom ≡ true
      above dom h = grind arith

  port_says : line_says here.roster (port_words e) ≡ Ok (Declares e.port e.name e.dom)
  port_says = by (e.dom == software) refl
    where
      by : (b : Bool) → (e.dom == software) ≡ b
          → line_says here.roster (codes "port " ++ (decimal e.port ++ (32 ∷ (e.name ++ (32 ∷ (if b then codes "soft" else codes "chip " ++ decimal e.dom)))))) ≡ Ok (Declares e.port e.name e.dom)
      by true is = says_soft ∙ ap (λ (d : ℕ). Ok (Declares e.port e.name d)) (sym (eqb-true e.dom software is))
      by false is = says_chip is

  domain_small : e.dom < 2 ^ 64
  domain_small = let most : e.dom ≤ last_chip = leb-true e.dom last_chip own.of_chip in omega arith

  port_small : e.port < 2 ^ 64
  port_small = let most : e.port ≤ last_port = leb-true e.port last_port own.high in omega arith

  words_feedless : (b : Bool) → is_line (if b then codes "soft" else codes "chip " ++ decimal e.dom) ≡ true
  words_feedless true = refl
  words_feedless false = lines_joined (codes "chip ") (decimal e.dom) refl (decimal_feedless e.dom domain_small)

  words_short : (b : Bool) → length (if b then codes "soft" else codes "chip " ++ decimal e.dom) ≤ 25
  words_short true = omega arith
  words_short false =
      let digits : length (decimal e.dom) ≤ 20 = length-decimal-le 20 e.dom (omega arith) (omega (arith, domain_small)) (omega (arith, domain_small)) in
      omega (arith, digits, length-append (codes "chip ") (decimal e.dom))

  name_parts : (nat_le (length e.name) longest_name ≡ true) × (list_all is_name_byte e.name ≡ true)
  name_parts =
      let rest = second_so (nat_lt 0 (length e.name)) _ own.named in
      (first_so (nat_le (length e.name) longest_name) _ rest, first_so (list_all is_name_byte e.name) _ (second_so (nat_le (length e.name) longest_name) _ rest))

  feedless : is_line (port_words e) ≡ true
  feedless =
      let last : List ℕ = 32 ∷ domain_words e.dom in
      lines_joined (codes "port ") (decimal e.port ++ (32 ∷ (e.name ++ last))) refl
      (lines_joined (decimal e.port) (32 ∷ (e.name ++ last)) (decimal_feedless e.port port_small)
      (lines_joined (32 ∷ e.name) last (all_lines is_name_byte e.name letter_feedless name_parts.1) (words_feedless (e.dom == software))))

  short : length (port_words e) ≤ longest_line
  short =
      let digits : length (decimal e.port) ≤ 20 = length-decimal-le 20 e.port (omega arith) (omega (arith, port_small)) (omega (arith, port_small)) in
      let name : length e.name ≤ longest_name = leb-true (length e.name) longest_name name_parts.0 in
      let words = words_short (e.dom == software) in
      omega (arith, digits, name, words, length-append (decimal e.port) (32 ∷ (e.name ++ (32 ∷ domain_words e.dom))), length-append e.name (32 ∷ domain_words e.dom))

  whole_port_says : whole_says here.roster (port_words e) ≡ Ok (Declares e.port e.name e.dom)
  whole_port_says = ap (λ (b : Bool). if b then Err Long else line_says here.roster (port_words e)) (le-ltb longest_line (length (port_words e)) short) ∙ port_says

  line_is : (more : List ℕ) → port_line e ++ more ≡ port_words e ++ 10 ∷ more
  line_is more =
      ap (λ (w : List ℕ). codes "port " ++ w) (
      append_assoc (decimal e.port) (32 ∷ (e.name ++ (32 ∷ (domain_words e.dom ++ 10 ∷ [])))) more
      ∙ ap (λ (w : List ℕ). decimal e.port ++ (32 ∷ w)) (
      append_assoc e.name (32 ∷ (domain_words e.dom ++ 10 ∷ [])) more
      ∙ ap (λ (w : List ℕ). e.name ++ (32 ∷ w)) (append_assoc (domain_words e.dom) (10 ∷ []) more)
      ∙ sym (append_assoc e.name (32 ∷ domain_words e.dom) (10 ∷ more))
      )
      ∙ sym (append_assoc (decimal e.port) (32 ∷ (e.name ++ (32 ∷ domain_words e.dom))) (10 ∷ more))
      )

  pub port_read : (more : List ℕ) → read 0 here (port_line e ++ more) ≡ read 0 (behind_ports (n + 1) check r (done ++ e ∷ [])) more
  port_read more =
      ap (read 0 here) (line_is more)
      ∙ read_line here (Declares e.port e.name e.dom) (port_words e) [] more refl feedless whole_port_says refl

ports_read : (check : Bool) (r : Roster) (n : ℕ) (done later : List Entry) (more : List ℕ) → are_declared (done ++ later) ≡ true
    → read 0 (behind_ports n check r done) (flat_map port_line later ++ more) ≡ read 0 (behind_ports (n + length later) check r (done ++ later)) more
ports_read check r n done [] more all = so n done (n + 0) (done ++ []) (omega arith) (sym (append-nil done))
  where
    so : (n : ℕ) (a : List Entry) (m : ℕ) (b : List Entry) → n ≡ m → a ≡ b → read 0 (behind_ports n check r a) more ≡ read 0 (behind_ports m check r b) more
    so n a m b e f = ap (λ (k : ℕ). read 0 (behind_ports k check r a) more) e ∙ ap (λ (l : List Entry). read 0 (behind_ports m check r l) more) f
ports_read check r n done (e ∷ later) more all =
    ap (read 0 (behind_ports n check r done)) (append_assoc (port_line e) (flat_map port_line later) more)
    ∙ port_read check r n done e later all (flat_map port_line later ++ more)
    ∙ ports_read check r (n + 1) (done ++ e ∷ []) later more (ap are_declared (append_assoc done (e ∷ []) later) ∙ all)
    ∙ so (n + 1 + length later) ((done ++ e ∷ []) ++ later) (n + suc (length later)) (done ++ e ∷ later) (omega arith) (append_assoc done (e ∷ []) later)
  where
    so : (n : ℕ) (a : List Entry) (m : ℕ) (b : List Entry) → n ≡ m → a ≡ b → read 0 (behind_ports n check r a) more ≡ read 0 (behind_ports m check r b) more
    so n a m b e f = ap (λ (k : ℕ). read 0 (behind_ports k check r a) more) e ∙ ap (λ (l : List Entry). read 0 (behind_ports m check r l) more) f

pub head_read : (check : Bool) (r : Roster) (more : List ℕ) → are_declared r.ports ≡ true → is_station r.own ≡ true
    → read 0 (opened check) (head_text r ++ more) ≡ read 0 (behind_head check r) more
head_read check r more all one =
    let ports : List ℕ = flat_map port_line r.ports in
    ap (read 0 (opened check)) (append_assoc (edition_line r.edition) (codes "bridge " ++ (mac_text r.own ++ (10 ∷ ports))) more)
    ∙ opening_read check r.edition ((codes "bridge " ++ (mac_text r.own ++ (10 ∷ ports))) ++ more)
    ∙ ap (λ (w : List ℕ). read 0 (opened_in check r.edition) (codes "bridge " ++ w)) (append_assoc (mac_text r.own) (10 ∷ ports) more)
    ∙ bridge_read check r (ports ++ more) one
    ∙ ports_read check r 2 [] r.ports more all
