-- What words say, read from left to right.
use Rattle.std.specs.Prelude.{ℕ, ◌==◌, nat_lt, Bool, ◌&&◌, ◌||◌, if◌then◌else◌, List, [], ◌∷◌, codes, slice_index_or}
use Rattle.std.specs.Borrow.{Bor}
use Rattle.std.specs.List.{list_all}
use Rattle.std.specs.Str.{bytes_eq}
use Rattle.std.specs.declared.option.Option.{Option}
use Rattle.std.specs.declared.option.Option.TheVariants.{None, Some}
use Rattle.std.specs.declared.result.Result.{Result}
use Rattle.std.specs.declared.result.Result.TheVariants.{Ok, Err}
use Rattle.br_model.specs.declared.frame.Class.{Class}
use Rattle.br_model.specs.declared.frame.Class.TheVariants as classes
use Rattle.br_model.specs.declared.frame.FrameFault.{FrameFault}
use Rattle.br_model.specs.declared.frame.FrameFault.TheVariants as faults
use Rattle.br_model.specs.declared.steps.Refusal.{Refusal}
use Rattle.br_model.specs.declared.transcript.Line.{Line}
use Rattle.br_model.specs.declared.transcript.Line.TheVariants.{Chip, Unread, Soft, Held, Tx, Ctl, Overrun, Done, Refused, End}
use Rattle.br_model.specs.Control.Refusals.{refusal_of}
use Rattle.br_model.specs.Data.Digits.{is_decimal, digits_value}
use Rattle.br_model.specs.Text.Words.{Word}
use Rattle.hex.specs.Hex.{decode_of}
use Rattle.hex.specs.declared.error.FromHexError.{FromHexError}
use Rattle.transcript_text.specs.Lines.{is_number, is_port}

-- the word of that index; a slice pattern reads its words with this default
abbrev pub word : List (Bor Word) → ℕ → Word
word ws i = (slice_index_or ws i (record { ref_ptr = (0, 0); now = [] })).now

-- the next step with what this one gave
infixl 10 ◌>>=◌
abbrev pub ◌>>=◌ : {A B : Type 0} → Option A → (A → Option B) → Option B
None >>= f = None
Some x >>= f = f x

abbrev pub number : Word → Option ℕ
number w = if is_decimal w && is_number (digits_value w) then Some (digits_value w) else None

abbrev pub in_range : ℕ → Option ℕ
in_range n = if is_port n then Some n else None

abbrev pub port : Word → Option ℕ
port w = number w >>= in_range

-- a digit as it is written
abbrev pub is_lower : ℕ → Bool
is_lower c = nat_lt c 65 || nat_lt 90 c

abbrev pub bytes_in : Result (List ℕ) FromHexError → Option (List ℕ)
bytes_in (Ok bytes) = Some bytes
bytes_in (Err e) = None

abbrev pub frame : Word → Option (List ℕ)
frame [] = None
frame (c ∷ cs) = if list_all is_lower (c ∷ cs) then bytes_in (decode_of (c ∷ cs)) else None

abbrev pub class : Word → Option Class
class w =
    if bytes_eq w (codes "drop") then Some classes.Drop else
    if bytes_eq w (codes "trap") then Some classes.Trap else
    if bytes_eq w (codes "copy") then Some classes.Copy else
    if bytes_eq w (codes "forward") then Some classes.Forward else
    None

abbrev pub fault : Word → Option FrameFault
fault w =
    if bytes_eq w (codes "short") then Some faults.Short else
    if bytes_eq w (codes "long") then Some faults.Long else
    if bytes_eq w (codes "tagshort") then Some faults.TagShort else
    None

abbrev pub refusal : Word → Option Refusal
refusal w = number w >>= refusal_of

-- the lines, by their words

abbrev pub chip : Word → Word → Word → Word → Option Line
chip id changes applied class_of = do
  i ← number id
  n ← number changes
  k ← number applied
  c ← class class_of
  Some (Chip i n k c)

abbrev pub unread : Word → Word → Option Line
unread id why = do
  i ← number id
  w ← fault why
  Some (Unread i w)

abbrev pub soft : Word → Word → Option Line
soft id point = do
  i ← number id
  m ← number point
  Some (Soft i m)

abbrev pub held : Word → Word → Option Line
held id floor = do
  i ← number id
  m ← number floor
  Some (Held i m)

abbrev pub tx : Word → Word → Word → Option Line
tx id out digits = do
  i ← number id
  p ← port out
  bytes ← frame digits
  Some (Tx i p bytes)

abbrev pub ctl : Word → Word → Option Line
ctl out digits = do
  p ← port out
  bytes ← frame digits
  Some (Ctl p bytes)

abbrev pub overrun : Word → Option Line
overrun id = do
  i ← number id
  Some (Overrun i)

abbrev pub done : Word → Word → Option Line
done step changes = do
  s ← number step
  n ← number changes
  Some (Done s n)

abbrev pub refused : Word → Word → Option Line
refused step why = do
  s ← number step
  r ← refusal why
  Some (Refused s r)

abbrev pub ended : Word → Word → Word → Word → Option Line
ended steps changes pending waiting = do
  s ← number steps
  n ← number changes
  p ← number pending
  w ← number waiting
  Some (End s n p w)

-- what a line of n words says
abbrev pub says : ℕ → (ℕ → Word) → Option Line
says n w =
    if n == 6 && (bytes_eq (w 0) (codes "chip") && bytes_eq (w 2) (codes "at")) then chip (w 1) (w 3) (w 4) (w 5) else
    if n == 3 && bytes_eq (w 0) (codes "unread") then unread (w 1) (w 2) else
    if n == 4 && (bytes_eq (w 0) (codes "soft") && bytes_eq (w 2) (codes "at")) then soft (w 1) (w 3) else
    if n == 3 && bytes_eq (w 0) (codes "held") then held (w 1) (w 2) else
    if n == 4 && bytes_eq (w 0) (codes "tx") then tx (w 1) (w 2) (w 3) else
    if n == 3 && bytes_eq (w 0) (codes "ctl") then ctl (w 1) (w 2) else
    if n == 2 && bytes_eq (w 0) (codes "overrun") then overrun (w 1) else
    if n == 3 && bytes_eq (w 0) (codes "ok") then done (w 1) (w 2) else
    if n == 3 && bytes_eq (w 0) (codes "refused") then refused (w 1) (w 2) else
    if n == 5 && bytes_eq (w 0) (codes "end") then ended (w 1) (w 2) (w 3) (w 4) else
    None
