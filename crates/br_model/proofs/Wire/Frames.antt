-- What the header of a frame keeps, by the bytes alone.
use Rattle.std.proofs.Common.{◌≡◌, ℕ, ◌+◌, ◌*◌, ◌<◌, ◌≤◌, ◌==◌, nat_lt, Bool, true, false, List, [], ◌∷◌, length, take, drop, get_or, if◌then◌else◌, refl, Ok, Err, Option, Some, None, IfOk, arith}
use Rattle.std.proofs.lemmas.Bool.{ltb-false}
use Rattle.std.proofs.lemmas.List.{get_or-drop}
use Rattle.std.proofs.lemmas.Result.{IfOk-at_ok}
use Rattle.br_model.specs.declared.frame.FrameFault.TheVariants.{Short, Long, TagShort}
use Rattle.br_model.specs.declared.frame.Head.{Head}
use Rattle.br_model.specs.declared.frame.Tag.{Tag}
use Rattle.br_model.specs.Wire.Frames.{frame, head_of, number_at, tag_type, tag_of, tag_bits}
use Rattle.br_model.specs.Wire.Heads.{IsHead, TagFits}
use Rattle.br_model.specs.Data.Numbers.{number}

-- two bytes spell a number of 16 bits
number-below : (xs : List ℕ) → ((i : ℕ) → get_or xs i 0 < 256) → number (take 2 xs) < 65536
number-below [] fits = omega arith
number-below (a ∷ []) fits = omega (arith, fits 0)
number-below (a ∷ b ∷ xs) fits = omega (arith, fits 0, fits 1)

tag_of-fits : (tci : ℕ) → tci < 65536 → TagFits (Some (tag_of tci))
tag_of-fits tci fits = (omega arith, omega arith)

bits_fit : (pcp : ℕ) (dei : Bool) → pcp < 8 → 8192 * pcp + (if dei then 4096 else 0) ≤ 61440
bits_fit pcp true h = omega arith
bits_fit pcp false h = omega arith

pub tag_bits-fit : (tag : Option Tag) → TagFits tag → tag_bits tag ≤ 61440
tag_bits-fit None h = omega arith
tag_bits-fit (Some tag) h = bits_fit tag.pcp tag.dei h.0

-- the tests of a frame, one after another
by_tests : (bytes : List ℕ) (short long tagged cut : Bool) → ((i : ℕ) → get_or bytes i 0 < 256)
    → nat_lt (length bytes) 14 ≡ short → nat_lt 9022 (length bytes) ≡ long → nat_lt (length bytes) 18 ≡ cut
    → IfOk (if short then Err Short else if long then Err Long else if tagged then (if cut then Err TagShort else Ok (head_of bytes (Some (tag_of (number_at bytes 14 2))) 18)) else Ok
    (head_of bytes None 14)) (IsHead (length bytes))
by_tests bytes true long tagged cut fits s l c = tt
by_tests bytes false true tagged cut fits s l c = tt
by_tests bytes false false true true fits s l c = tt
by_tests bytes false false true false fits s l c =
    let tail : (i : ℕ) → get_or (drop 14 bytes) i 0 < 256 = λ i. rw (get_or-drop 14 bytes i 0) (fits (14 + i)) in
    let tag : TagFits (Some (tag_of (number_at bytes 14 2))) = tag_of-fits (number_at bytes 14 2) (number-below (drop 14 bytes) tail) in record {
      shortest = omega (arith, ltb-false _ _ s);
      longest = omega (arith, ltb-false _ _ l);
      body = refl;
      within = omega (arith, ltb-false _ _ c);
      tag = tag;
    }
by_tests bytes false false false cut fits s l c = record {
  shortest = omega (arith, ltb-false _ _ s);
  longest = omega (arith, ltb-false _ _ l);
  body = refl;
  within = omega (arith, ltb-false _ _ s);
  tag = tt;
}

-- The header that bytes have keeps its bounds.
pub frame-is_head : (bytes : List ℕ) (head : Head) → ((i : ℕ) → get_or bytes i 0 < 256) → frame bytes ≡ Ok head → IsHead (length bytes) head
frame-is_head bytes head fits e =
    IfOk-at_ok (IsHead (length bytes)) e (by_tests bytes (nat_lt (length bytes) 14) (nat_lt 9022 (length bytes)) (number_at bytes 12 2 == tag_type) (nat_lt (length bytes) 18) fits refl refl refl)
