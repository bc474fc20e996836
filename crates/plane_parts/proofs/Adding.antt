-- Lines that were added to others.
use Rattle.std.proofs.Common.{◌≡◌, ℕ, Bool, true, false, if◌then◌else◌, List, [], ◌∷◌, ◌++◌, map, None, Some, sym, ap, subst, ◌∙◌, append_assoc}
use Rattle.std.proofs.lemmas.List.{append-nil}
use Rattle.br_model.specs.declared.frame.Head.{Head}
use Rattle.br_model.specs.declared.transcript.Line.{Line}
use Rattle.br_model.specs.declared.transcript.Line.TheVariants.{Tx}
use Rattle.br_model.specs.Wire.Frames.{dressed}
use Rattle.port_sets.specs.Numbers.{has_number}
use Rattle.transcript_lines.specs.Rows.{sent_lines}
use Rattle.plane_parts.specs.Added.{Added}
use Rattle.plane_parts.specs.Sent.{line_at}

-- those that were added to none
pub whole : (are : List Line → Type 0) (before after : List Line) → before ≡ [] → Added are before after → are after
whole are before after none a = subst are (sym (a.added ∙ ap (λ ls. ls ++ a.lines) none)) a.so

pub added_as : (are be : List Line → Type 0) (before after : List Line) → ((lines : List Line) → are lines → be lines) → Added are before after → Added be before after
added_as are be before after f a = record { lines = a.lines; so = f a.lines a.so; added = a.added }

-- the same lines, where nothing stood before
pub from_none : (before now : List Line) → now ≡ before → now ≡ before ++ []
from_none before now is = is ∙ sym (append-nil before)

-- a decision, the lines of what leaves, and what becomes of the frame
pub behind : (before leaves goes : List Line) (decision : Line) → ((before ++ decision ∷ []) ++ leaves) ++ goes ≡ before ++ ((decision ∷ leaves) ++ goes)
behind before leaves goes decision = append_assoc (before ++ decision ∷ []) leaves goes ∙ append_assoc before (decision ∷ []) (leaves ++ goes)

-- the lines of the two forms of a frame
pub same_sent : (id : ℕ) (ports untagged plain tagged bytes : List ℕ) (head : Head) (vid : ℕ) → dressed bytes head None ≡ plain → dressed bytes head (Some vid) ≡ tagged
    → sent_lines id ports untagged plain tagged ≡ map (line_at untagged id bytes head vid) ports
same_sent id ports untagged plain tagged bytes head vid none some = λ i. map (λ port. at port i) ports
  where
    by : (b : Bool) → (if b then plain else tagged) ≡ dressed bytes head (if b then None else Some vid)
    by true = sym none
    by false = sym some

    at : (port : ℕ) → Tx id port (if has_number untagged port then plain else tagged) ≡ line_at untagged id bytes head vid port
    at port = ap (Tx id port) (by (has_number untagged port))
