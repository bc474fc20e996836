-- The words of a line, one after another, and the digits of bytes.
use Rattle.std.proofs.Common.{◌≡◌, ℕ, zero, suc, ◌+◌, ◌*◌, ◌<◌, ◌≤◌, ◌==◌, true, false, not, cond, List, [], ◌∷◌, ◌++◌}
use Rattle.std.proofs.Common.{length, take, drop, get_or, Option, Some, None, is_some, slice_index, ◌-◌, refl, sym, ap, ◌∙◌, append-nil, arith}
use Rattle.std.specs.List.{filter, list_all, slice_split, onto_first}
use Rattle.std.specs.Cmp.{first_so, second_so}
use Rattle.std.proofs.lemmas.Bool.{and_from, eq-eqb, eqb-true, ne_eqb, not-true}
use Rattle.std.proofs.lemmas.List.{take-append-drop, take_more}
use Rattle.std.proofs.lemmas.List.Folds.{list_all-append}
use Rattle.std.proofs.Math.Seq.{take-length}
use Rattle.br_model.specs.Data.Digits.{byte_of, bytes_from_hex, in_front, nibble}
use Rattle.br_model.specs.Text.Words.{is_word}
use Rattle.std.specs.declared.result.Result.TheVariants.{Err}
use Rattle.neigh_netlink.specs.declared.follow.LineFault.TheVariants.{Hex, Message}
use Rattle.neigh_netlink.specs.Follow.{bytes_say, message_says, words}
use Rattle.neigh_netlink.specs.Lines.{begins_with_space, is_cut, is_no_space}
use Rattle.neigh_netlink.proofs.Readings.{other-length}

-- a word is cut off at a space, or at the end
split-front : (w rest : List ℕ) → list_all is_no_space w ≡ true → slice_split (λ c. c == 32) (w ++ 32 ∷ rest) ≡ w ∷ slice_split (λ c. c == 32) rest
split-front [] rest h = refl
split-front (c ∷ w) rest h =
    ap (λ b. cond b ([] ∷ slice_split (λ c. c == 32) (w ++ 32 ∷ rest)) (onto_first c (slice_split (λ c. c == 32) (w ++ 32 ∷ rest)))) (not-true (c == 32) (first_so _ _ h))
    ∙ ap (onto_first c) (split-front w rest (second_so _ _ h))

pub split-alone : (w : List ℕ) → list_all is_no_space w ≡ true → slice_split (λ c. c == 32) w ≡ w ∷ []
split-alone [] h = refl
split-alone (c ∷ w) h =
    ap (λ b. cond b ([] ∷ slice_split (λ c. c == 32) w) (onto_first c (slice_split (λ c. c == 32) w))) (not-true (c == 32) (first_so _ _ h))
    ∙ ap (onto_first c) (split-alone w (second_so _ _ h))

front-word : (w behind : List ℕ) → is_word w ≡ true → list_all is_no_space w ≡ true → is_cut behind ≡ true → words (w ++ behind) ≡ w ∷ words behind
front-word w [] some plain cut =
    ap words (append-nil w) ∙ ap (filter is_word) (split-alone w plain) ∙ ap (λ b. cond b (w ∷ []) []) some
front-word w (c ∷ cs) some plain cut =
    let space : c ≡ 32 = eqb-true c 32 cut in
    ap (λ x. words (w ++ x ∷ cs)) space
    ∙ ap (filter is_word) (split-front w cs plain)
    ∙ ap (λ b. cond b (w ∷ words cs) (words cs)) some
    ∙ ap (λ x. w ∷ words (x ∷ cs)) (sym space)

some-word : (line : List ℕ) (n : ℕ) → (length line ≡ 0 → ⊥) → begins_with_space line ≡ false → is_cut (drop n line) ≡ true → is_word (take n line) ≡ true
some-word [] n some plain cut = absurd (some refl)
some-word (c ∷ cs) zero some plain cut = let e : true ≡ false = sym cut ∙ plain in absurd (cc)
some-word (c ∷ cs) (suc n) some plain cut = refl

pub first-word : (line : List ℕ) (n : ℕ) → (length line ≡ 0 → ⊥) → begins_with_space line ≡ false → list_all is_no_space (take n line) ≡ true → is_cut (drop n line) ≡ true
    → words line ≡ take n line ∷ words (drop n line)
first-word line n some plain word cut =
    ap words (sym (take-append-drop n line)) ∙ front-word (take n line) (drop n line) (some-word line n some plain cut) word cut

pub word-more : (line : List ℕ) (n d : ℕ) → n < length line → list_all is_no_space (take n line) ≡ true → (get_or line n d ≡ 32 → ⊥) → list_all is_no_space (take (n + 1) line) ≡ true
word-more line n d within word other =
    ap (list_all is_no_space) (take_more line n d within)
    ∙ list_all-append is_no_space (take n line) (get_or line n d ∷ [])
    ∙ and_from _ _ word (and_from _ _ (ap not (ne_eqb (get_or line n d) 32 other)) refl)

pub cut-behind : (line : List ℕ) (n d : ℕ) → (n < length line → get_or line n d ≡ 32) → is_cut (drop n line) ≡ true
cut-behind [] zero d space = refl
cut-behind [] (suc n) d space = refl
cut-behind (c ∷ cs) zero d space = eq-eqb c 32 (space (omega arith))
cut-behind (c ∷ cs) (suc n) d space = cut-behind cs n d (λ l. space (omega arith))

-- digits

pub hex-pair : (high low : ℕ) (behind : List ℕ) → is_some (nibble high) ≡ true → is_some (nibble low) ≡ true → is_some (bytes_from_hex (high ∷ low ∷ behind)) ≡ is_some (bytes_from_hex behind)
hex-pair high low behind h l = by (nibble high) (nibble low) (bytes_from_hex behind) h l
  where
    by : (a b : Option ℕ) (rest : Option (List ℕ)) → is_some a ≡ true → is_some b ≡ true → is_some (in_front (byte_of a b) rest) ≡ is_some rest
    by None b rest h l = absurd (cc)
    by (Some a) None rest h l = absurd (cc)
    by (Some a) (Some b) None h l = refl
    by (Some a) (Some b) (Some bytes) h l = refl

pub hex-length : (digits bytes : List ℕ) → bytes_from_hex digits ≡ Some bytes → length digits ≡ 2 * length bytes
hex-length [] bytes h = let e : bytes ≡ [] = cc in omega (arith, ap length e)
hex-length (c ∷ []) bytes h = absurd (cc)
hex-length (c ∷ d ∷ cs) bytes h = by (hex-length cs) (byte_of (nibble c) (nibble d)) (bytes_from_hex cs) refl h
  where
    by : ((bytes : List ℕ) → bytes_from_hex cs ≡ Some bytes → length cs ≡ 2 * length bytes) → (b : Option ℕ) (rest : Option (List ℕ)) → bytes_from_hex cs ≡ rest → in_front b rest ≡ Some bytes
        → length (c ∷ d ∷ cs) ≡ 2 * length bytes
    by shorter None rest is h = absurd (cc)
    by shorter (Some b) None is h = absurd (cc)
    by shorter (Some b) (Some more) is h = let e : bytes ≡ b ∷ more = cc in omega (arith, ap length e, shorter more is)

-- the digits behind the first two
pub hex-behind : (rest : List ℕ) → 2 ≤ length rest → is_some (nibble (slice_index rest 0)) ≡ true → is_some (nibble (slice_index rest 1)) ≡ true
    → is_some (bytes_from_hex (take (length rest - 2) (drop 2 rest))) ≡ is_some (bytes_from_hex rest)
hex-behind [] long h l = absurd (omega arith)
hex-behind (c ∷ []) long h l = absurd (omega arith)
hex-behind (c ∷ d ∷ cs) long h l =
    let all : length (c ∷ d ∷ cs) - 2 ≡ length cs = omega arith in
    ap (λ (r : List ℕ). is_some (bytes_from_hex r)) (ap (λ n. take n cs) all ∙ take-length cs) ∙ sym (hex-pair c d cs h l)

-- as many digits as no message has
pub other-say : (digits : List ℕ) → (length digits ≡ 96 → ⊥) → is_some (bytes_from_hex digits) ≡ true → bytes_say (bytes_from_hex digits) ≡ Err Message
other-say digits other some = by (bytes_from_hex digits) refl some
  where
    by : (o : Option (List ℕ)) → bytes_from_hex digits ≡ o → is_some o ≡ true → bytes_say o ≡ Err Message
    by None is some = absurd (cc)
    by (Some bytes) is some =
        let long = hex-length digits bytes is in
        ap message_says (sym (other-length bytes (λ same. other (omega (arith, same, long)))))

pub none-say : (digits : List ℕ) → is_some (bytes_from_hex digits) ≡ false → bytes_say (bytes_from_hex digits) ≡ Err Hex
none-say digits none = by (bytes_from_hex digits) none
  where
    by : (o : Option (List ℕ)) → is_some o ≡ false → bytes_say o ≡ Err Hex
    by None e = refl
    by (Some bytes) e = absurd (cc)
