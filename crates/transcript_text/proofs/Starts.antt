-- The start of a frame's line in the room before its digits.
use Rattle.std.proofs.Common.{◌≡◌, ℕ, ◌+◌, ◌-◌, ◌≤◌, List, [], ◌∷◌, ◌++◌, Bool, true, false, if◌then◌else◌, Option}
use Rattle.std.proofs.Common.{Some, None, is_some, length, take, drop, refl, sym, ap, ◌∙◌, append_assoc, append-nil, length-append, arith}
use Rattle.std.proofs.Math.Seq.{drop-append_seam}
use Rattle.std.proofs.lemmas.List.{drop-drop, drop-append-le, drop_all, length-drop, length-take, take_all, take_at}
use Rattle.std.proofs.lemmas.Bool.{false≢true}

-- of the last 16 bytes of 64 that are copied, those from this place on stand at the end
pub last_bytes : (old new bytes view : List ℕ) (begins end from : ℕ) → drop begins new ≡ take 16 (drop 48 bytes) ++ drop end old → drop from bytes ≡ view → length bytes ≡ 64 → 48 ≤ from
    → from ≤ 64 → begins + 16 ≡ end
    → drop (end - (64 - from)) new ≡ view ++ drop end old
last_bytes old new bytes view begins end from written is whole late inside at =
    let place : end - (64 - from) ≡ begins + (from - 48) = omega arith in
    let further : 48 + (from - 48) ≡ from = omega arith in
    ap (λ n. drop n new) place ∙ sym (drop-drop (from - 48) begins new)
    ∙ ap (drop (from - 48)) (written ∙ ap (λ l. l ++ drop end old) (take_all 16 (drop 48 bytes) (omega (arith, length-drop 48 bytes))))
    ∙ drop-append-le (from - 48) (drop 48 bytes) (drop end old) (omega (arith, length-drop 48 bytes))
    ∙ ap (λ l. l ++ drop end old) (drop-drop (from - 48) 48 bytes ∙ ap (λ n. drop n bytes) further ∙ is)

-- what is put before a place leaves what stands from it on
pub stays : (old new word : List ℕ) (begins end : ℕ) → drop begins new ≡ word ++ drop end old → begins + length word ≡ end → drop end new ≡ drop end old
stays old new word begins end written at =
    ap (λ n. drop n new) (sym at) ∙ sym (drop-drop (length word) begins new) ∙ ap (drop (length word)) written ∙ drop-append_seam word (drop end old)

pub stays_behind : (old new word : List ℕ) (begins end last : ℕ) → drop begins new ≡ word ++ drop end old → begins + length word ≡ end → end ≤ last → drop last new ≡ drop last old
stays_behind old new word begins end last written at before =
    let rest : end + (last - end) ≡ last = omega arith in
    ap (λ n. drop n new) (sym rest) ∙ sym (drop-drop (last - end) end new) ∙ ap (drop (last - end)) (stays old new word begins end written at)
    ∙ drop-drop (last - end) end old ∙ ap (λ n. drop n old) rest

-- digits and a line feed were written behind the room
pub behind_room : (xs digits more new : List ℕ) (n m : ℕ) → new ≡ take n ((take 32 xs ++ (digits ++ drop m (drop 32 xs))) ++ more) ++ 10 ∷ [] → 32 ≤ length xs → length xs ≤ 32 + m
    → n ≡ 32 + length digits
    → drop 32 new ≡ digits ++ 10 ∷ []
behind_room xs digits more new n m e room over whole =
    let front : List ℕ = take 32 xs in
    let sized : length front ≡ 32 = omega (arith, length-take 32 xs) in
    let none : digits ++ drop m (drop 32 xs) ≡ digits = ap (λ l. digits ++ l) (drop_all m (drop 32 xs) (omega (arith, length-drop 32 xs))) ∙ append-nil digits in
    let all : n ≡ length (front ++ digits) = omega (arith, length-append front digits) in
    ap (drop 32) (e ∙ ap (λ l. take n ((front ++ l) ++ more) ++ 10 ∷ []) none ∙ ap (λ l. l ++ 10 ∷ []) (take_at (front ++ digits) more n (sym all)) ∙ append_assoc front digits (10 ∷ []))
    ∙ ap (λ k. drop k (front ++ (digits ++ 10 ∷ []))) (sym sized) ∙ drop-append_seam front (digits ++ 10 ∷ [])

-- a line in front of digits that are made
pub from_start : (old new view items start number : List ℕ) (len from : ℕ) → view ≡ take len (new ++ drop (length new) items) → length new ≡ len → drop from new ≡ start ++ (number ++ 32 ∷ drop 32 old)
    → take (length view - from) (drop from view) ≡ start ++ (number ++ 32 ∷ drop 32 old)
from_start old new view items start number len from e whole written =
    let same : view ≡ new = e ∙ take_at new (drop (length new) items) len whole in
    take_all (length view - from) (drop from view) (omega (arith, length-drop from view)) ∙ ap (drop from) same ∙ written

-- digits are made where they are seen
pub is_made : {A : Type 0} (b : Bool) (x : A) (o : Option A) → (if b then Some x else None) ≡ o → is_some o ≡ true → b ≡ true
is_made true x o e h = refl
is_made false x o e h = absurd (false≢true (ap is_some e ∙ h))
