-- What is read of a line's words is the line, and nothing else is read.
use Rattle.std.proofs.Common.{◌≡◌, ◌≢◌, ◌⊎◌, inl, inr, ◌↔◌, ℕ, zero, suc, ◌<◌, ◌==◌, Bool, true, false, ◌&&◌, if◌then◌else◌, List, []}
use Rattle.std.proofs.Common.{◌∷◌, ◌++◌, length, map, refl, sym, ◌∙◌, ap, subst, arith, Option, Some, None, Bor, slice_index_or, Result, IfOk}
use Rattle.std.specs.Prelude.{codes}
use Rattle.std.specs.Cmp.{first_so, second_so}
use Rattle.std.specs.Fmt.{decimal}
use Rattle.std.specs.Str.{IsAscii, bytes_eq}
use Rattle.std.proofs.lemmas.List.{append_cancel_right, length-map}
use Rattle.std.proofs.lemmas.List.Splits.{join_with_byte-slice_split}
use Rattle.std.proofs.lemmas.Result.{IfOk-weaker}
use Rattle.std.proofs.lemmas.Slice.Eq.{bytes_eq-Decides}
use Rattle.std.proofs.Math.Path.{fun_ext}
use Rattle.std.proofs.lemmas.Bool.{and_from}
use Rattle.std.proofs.lemmas.Option.{same_Some}
use Rattle.br_model.specs.declared.frame.Class.{Class}
use Rattle.br_model.specs.declared.frame.Class.TheVariants as classes
use Rattle.br_model.specs.declared.frame.FrameFault.{FrameFault}
use Rattle.br_model.specs.declared.frame.FrameFault.TheVariants as faults
use Rattle.br_model.specs.declared.steps.Refusal.{Refusal}
use Rattle.br_model.specs.declared.transcript.Line.{Line}
use Rattle.br_model.specs.declared.transcript.Line.TheVariants.{Chip, Unread, Soft, Held, Tx, Ctl, Overrun, Done, Refused, End}
use Rattle.br_model.specs.Control.Refusals.{refusal_number, refusal_of}
use Rattle.br_model.specs.Text.Transcript.{line_text, line_words, class_word, fault_word}
use Rattle.br_model.specs.Text.Words.{Word}
use Rattle.br_model.proofs.Control.Refusals as refusals
use Rattle.transcript_text.specs.Lines.{is_number, is_port, is_line}
use Rattle.transcript_text.specs.Reading as reading
use Rattle.transcript_text.specs.Reading.{word, says, ◌>>=◌, in_range}
use Rattle.transcript_text.proofs.HexWords.{frame_is, frame_back}
use Rattle.transcript_text.proofs.Numerals.{if_some, number_is, number_back}
use Rattle.transcript_text.proofs.Spaces.{parts}
use Rattle.transcript_text.proofs.Written.{joined, text_is, port_small, refusal_small, line_parts, line_ascii, few_words}

-- what a step that gave a value was given
bind_some : {A B : Type 0} (o : Option A) (f : A → Option B) {y : B} → (o >>= f) ≡ Some y → (x : A) × (o ≡ Some x) × (f x ≡ Some y)
bind_some None f h = cc
bind_some (Some x) f h = (x, refl, h)

either : {A : Type 0} (b : Bool) (x y : Option A) {z : A} → (if b then x else y) ≡ Some z → ((b ≡ true) × (x ≡ Some z)) ⊎ (y ≡ Some z)
either true x y h = inl (refl, h)
either false x y h = inr h

same : (a b : Word) → bytes_eq a b ≡ true → a ≡ b
same a b h = (bytes_eq-Decides a b).0 h

-- single words

port_is : (w : Word) {n : ℕ} → reading.port w ≡ Some n → (w ≡ decimal n) × (is_port n ≡ true)
port_is w h =
    let p = bind_some (reading.number w) in_range h in
    let q = if_some (is_port p.0) (Some p.0) p.2 in
    let e = same_Some _ _ q.1 in
    ((number_is w p.1).0 ∙ ap decimal e, sym (ap is_port e) ∙ q.0)

port_back : (n : ℕ) → is_port n ≡ true → reading.port (decimal n) ≡ Some n
port_back n h = ap (λ (o : Option ℕ). o >>= in_range) (number_back n (port_small n h)) ∙ ap (λ (b : Bool). if b then Some n else None) h

class_is : (w : Word) {c : Class} → reading.class w ≡ Some c → w ≡ class_word c
class_is w h =
    elim (either (bytes_eq w (codes "drop")) _ _ h) [
      | inl p ↦ same w _ p.0 ∙ ap class_word (same_Some _ _ p.1)
      | inr h ↦
          elim (either (bytes_eq w (codes "trap")) _ _ h) [
            | inl p ↦ same w _ p.0 ∙ ap class_word (same_Some _ _ p.1)
            | inr h ↦
                elim (either (bytes_eq w (codes "copy")) _ _ h) [
                  | inl p ↦ same w _ p.0 ∙ ap class_word (same_Some _ _ p.1)
                  | inr h ↦ let p = if_some (bytes_eq w (codes "forward")) (Some classes.Forward) h in same w _ p.0 ∙ ap class_word (same_Some _ _ p.1)
                ]
          ]
    ]

class_back : (c : Class) → reading.class (class_word c) ≡ Some c
class_back classes.Drop = refl
class_back classes.Trap = refl
class_back classes.Copy = refl
class_back classes.Forward = refl

fault_is : (w : Word) {f : FrameFault} → reading.fault w ≡ Some f → w ≡ fault_word f
fault_is w h =
    elim (either (bytes_eq w (codes "short")) _ _ h) [
      | inl p ↦ same w _ p.0 ∙ ap fault_word (same_Some _ _ p.1)
      | inr h ↦
          elim (either (bytes_eq w (codes "long")) _ _ h) [
            | inl p ↦ same w _ p.0 ∙ ap fault_word (same_Some _ _ p.1)
            | inr h ↦ let p = if_some (bytes_eq w (codes "tagshort")) (Some faults.TagShort) h in same w _ p.0 ∙ ap fault_word (same_Some _ _ p.1)
          ]
    ]

fault_back : (f : FrameFault) → reading.fault (fault_word f) ≡ Some f
fault_back faults.Short = refl
fault_back faults.Long = refl
fault_back faults.TagShort = refl

refusal_is : (w : Word) {r : Refusal} → reading.refusal w ≡ Some r → w ≡ decimal (refusal_number r)
refusal_is w h =
    let p = bind_some (reading.number w) refusal_of h in
    (number_is w p.1).0 ∙ ap decimal (refusals.refusal_is p.0 p.2)

refusal_back : (r : Refusal) → reading.refusal (decimal (refusal_number r)) ≡ Some r
refusal_back r = ap (λ (o : Option ℕ). o >>= refusal_of) (number_back (refusal_number r) (refusal_small r)) ∙ refusals.refusal_found r

-- a line is read from its words

abbrev at : List Word → ℕ → Word
at ws i = slice_index_or ws i []

complete : (l : Line) → is_line l ≡ true → says (length (line_words l)) (at (line_words l)) ≡ Some l
complete (Chip id changes applied class) h =
    let rest = second_so (is_number id) _ h in
    rw (number_back id (first_so _ _ h), number_back changes (first_so _ _ rest), number_back applied (second_so (is_number changes) _ rest), class_back class) refl
complete (Unread id why) h = rw (number_back id h, fault_back why) refl
complete (Soft id point) h = rw (number_back id (first_so _ _ h), number_back point (second_so (is_number id) _ h)) refl
complete (Held id floor) h = rw (number_back id (first_so _ _ h), number_back floor (second_so (is_number id) _ h)) refl
complete (Tx id port bytes) h =
    let rest = second_so (is_number id) _ h in
    rw (number_back id (first_so _ _ h), port_back port (first_so _ _ rest), frame_back bytes (second_so (is_port port) _ rest)) refl
complete (Ctl port bytes) h = rw (port_back port (first_so _ _ h), frame_back bytes (second_so (is_port port) _ h)) refl
complete (Overrun id) h = rw (number_back id h) refl
complete (Done step changes) h = rw (number_back step (first_so _ _ h), number_back changes (second_so (is_number step) _ h)) refl
complete (Refused step why) h = rw (number_back step h, refusal_back why) refl
complete (End steps changes pending waiting) h =
    let rest = second_so (is_number steps) _ h in
    let last = second_so (is_number changes) _ rest in
    rw (number_back steps (first_so _ _ h), number_back changes (first_so _ _ rest), number_back pending (first_so _ _ last), number_back waiting (second_so (is_number pending) _ last)) refl

-- what words say of a line, as its words and its range
abbrev Says : List Word → Line → Type 0
Says ws l = (ws ≡ line_words l) × (is_line l ≡ true)

chip_is : (a b c d e f : Word) (l : Line) → a ≡ codes "chip" → c ≡ codes "at" → reading.chip b d e f ≡ Some l → Says (a ∷ b ∷ c ∷ d ∷ e ∷ f ∷ []) l
chip_is a b c d e f l first third h =
    let p = bind_some (reading.number b) _ h in
    let q = bind_some (reading.number d) _ p.2 in
    let r = bind_some (reading.number e) _ q.2 in
    let s = bind_some (reading.class f) _ r.2 in
    let x = number_is b p.1 in
    let y = number_is d q.1 in
    let z = number_is e r.1 in
    let v = class_is f s.1 in
    subst (Says (a ∷ b ∷ c ∷ d ∷ e ∷ f ∷ [])) (same_Some _ _ s.2) ((λ j. first j ∷ x.0 j ∷ third j ∷ y.0 j ∷ z.0 j ∷ v j ∷ []), and_from _ _ x.1 (and_from _ _ y.1 z.1))

unread_is : (a b c : Word) (l : Line) → a ≡ codes "unread" → reading.unread b c ≡ Some l → Says (a ∷ b ∷ c ∷ []) l
unread_is a b c l first h =
    let p = bind_some (reading.number b) _ h in
    let q = bind_some (reading.fault c) _ p.2 in
    let x = number_is b p.1 in
    let y = fault_is c q.1 in
    subst (Says (a ∷ b ∷ c ∷ [])) (same_Some _ _ q.2) ((λ j. first j ∷ x.0 j ∷ y j ∷ []), x.1)

soft_is : (a b c d : Word) (l : Line) → a ≡ codes "soft" → c ≡ codes "at" → reading.soft b d ≡ Some l → Says (a ∷ b ∷ c ∷ d ∷ []) l
soft_is a b c d l first third h =
    let p = bind_some (reading.number b) _ h in
    let q = bind_some (reading.number d) _ p.2 in
    let x = number_is b p.1 in
    let y = number_is d q.1 in
    subst (Says (a ∷ b ∷ c ∷ d ∷ [])) (same_Some _ _ q.2) ((λ j. first j ∷ x.0 j ∷ third j ∷ y.0 j ∷ []), and_from _ _ x.1 y.1)

held_is : (a b c : Word) (l : Line) → a ≡ codes "held" → reading.held b c ≡ Some l → Says (a ∷ b ∷ c ∷ []) l
held_is a b c l first h =
    let p = bind_some (reading.number b) _ h in
    let q = bind_some (reading.number c) _ p.2 in
    let x = number_is b p.1 in
    let y = number_is c q.1 in
    subst (Says (a ∷ b ∷ c ∷ [])) (same_Some _ _ q.2) ((λ j. first j ∷ x.0 j ∷ y.0 j ∷ []), and_from _ _ x.1 y.1)

tx_is : (a b c d : Word) (l : Line) → a ≡ codes "tx" → reading.tx b c d ≡ Some l → Says (a ∷ b ∷ c ∷ d ∷ []) l
tx_is a b c d l first h =
    let p = bind_some (reading.number b) _ h in
    let q = bind_some (reading.port c) _ p.2 in
    let r = bind_some (reading.frame d) _ q.2 in
    let x = number_is b p.1 in
    let y = port_is c q.1 in
    let z = frame_is d r.1 in
    subst (Says (a ∷ b ∷ c ∷ d ∷ [])) (same_Some _ _ r.2) ((λ j. first j ∷ x.0 j ∷ y.0 j ∷ z.0 j ∷ []), and_from _ _ x.1 (and_from _ _ y.1 z.1))

ctl_is : (a b c : Word) (l : Line) → a ≡ codes "ctl" → reading.ctl b c ≡ Some l → Says (a ∷ b ∷ c ∷ []) l
ctl_is a b c l first h =
    let p = bind_some (reading.port b) _ h in
    let q = bind_some (reading.frame c) _ p.2 in
    let x = port_is b p.1 in
    let y = frame_is c q.1 in
    subst (Says (a ∷ b ∷ c ∷ [])) (same_Some _ _ q.2) ((λ j. first j ∷ x.0 j ∷ y.0 j ∷ []), and_from _ _ x.1 y.1)

overrun_is : (a b : Word) (l : Line) → a ≡ codes "overrun" → reading.overrun b ≡ Some l → Says (a ∷ b ∷ []) l
overrun_is a b l first h =
    let p = bind_some (reading.number b) _ h in
    let x = number_is b p.1 in
    subst (Says (a ∷ b ∷ [])) (same_Some _ _ p.2) ((λ j. first j ∷ x.0 j ∷ []), x.1)

done_is : (a b c : Word) (l : Line) → a ≡ codes "ok" → reading.done b c ≡ Some l → Says (a ∷ b ∷ c ∷ []) l
done_is a b c l first h =
    let p = bind_some (reading.number b) _ h in
    let q = bind_some (reading.number c) _ p.2 in
    let x = number_is b p.1 in
    let y = number_is c q.1 in
    subst (Says (a ∷ b ∷ c ∷ [])) (same_Some _ _ q.2) ((λ j. first j ∷ x.0 j ∷ y.0 j ∷ []), and_from _ _ x.1 y.1)

refused_is : (a b c : Word) (l : Line) → a ≡ codes "refused" → reading.refused b c ≡ Some l → Says (a ∷ b ∷ c ∷ []) l
refused_is a b c l first h =
    let p = bind_some (reading.number b) _ h in
    let q = bind_some (reading.refusal c) _ p.2 in
    let x = number_is b p.1 in
    let y = refusal_is c q.1 in
    subst (Says (a ∷ b ∷ c ∷ [])) (same_Some _ _ q.2) ((λ j. first j ∷ x.0 j ∷ y j ∷ []), x.1)

end_is : (a b c d e : Word) (l : Line) → a ≡ codes "end" → reading.ended b c d e ≡ Some l → Says (a ∷ b ∷ c ∷ d ∷ e ∷ []) l
end_is a b c d e l first h =
    let p = bind_some (reading.number b) _ h in
    let q = bind_some (reading.number c) _ p.2 in
    let r = bind_some (reading.number d) _ q.2 in
    let s = bind_some (reading.number e) _ r.2 in
    let x = number_is b p.1 in
    let y = number_is c q.1 in
    let z = number_is d r.1 in
    let v = number_is e s.1 in
    subst (Says (a ∷ b ∷ c ∷ d ∷ e ∷ [])) (same_Some _ _ s.2) ((λ j. first j ∷ x.0 j ∷ y.0 j ∷ z.0 j ∷ v.0 j ∷ []), and_from _ _ x.1 (and_from _ _ y.1 (and_from _ _ z.1 v.1)))

-- more words than any line has say nothing
too_long : (n : ℕ) (w : ℕ → Word) → 6 < n → says n w ≡ None
too_long n w h = simp (other n 6 h, other n 5 (omega arith), other n 4 (omega arith), other n 3 (omega arith), other n 2 (omega arith))
  where
    other : (n k : ℕ) → k < n → (n == k) ≡ false
    other n k h = grind arith

sound : (ws : List Word) (l : Line) → says (length ws) (at ws) ≡ Some l → Says ws l
sound [] l h = cc
sound (a ∷ []) l h = cc
sound (a ∷ b ∷ []) l h =
    let p = if_some (bytes_eq a (codes "overrun")) (reading.overrun b) h in
    overrun_is a b l (same a _ p.0) p.1
sound (a ∷ b ∷ c ∷ []) l h =
    elim (either (bytes_eq a (codes "unread")) (reading.unread b c) _ h) [
      | inl p ↦ unread_is a b c l (same a _ p.0) p.1
      | inr h ↦
          elim (either (bytes_eq a (codes "held")) (reading.held b c) _ h) [
            | inl p ↦ held_is a b c l (same a _ p.0) p.1
            | inr h ↦
                elim (either (bytes_eq a (codes "ctl")) (reading.ctl b c) _ h) [
                  | inl p ↦ ctl_is a b c l (same a _ p.0) p.1
                  | inr h ↦
                      elim (either (bytes_eq a (codes "ok")) (reading.done b c) _ h) [
                        | inl p ↦ done_is a b c l (same a _ p.0) p.1
                        | inr h ↦
                            let p = if_some (bytes_eq a (codes "refused")) (reading.refused b c) h in refused_is a b c l (same a _ p.0) p.1
                      ]
                ]
          ]
    ]
sound (a ∷ b ∷ c ∷ d ∷ []) l h =
    elim (either (bytes_eq a (codes "soft") && bytes_eq c (codes "at")) (reading.soft b d) _ h) [
      | inl p ↦ soft_is a b c d l (same a _ (first_so _ _ p.0)) (same c _ (second_so (bytes_eq a (codes "soft")) _ p.0)) p.1
      | inr h ↦ let p = if_some (bytes_eq a (codes "tx")) (reading.tx b c d) h in tx_is a b c d l (same a _ p.0) p.1
    ]
sound (a ∷ b ∷ c ∷ d ∷ e ∷ []) l h =
    let p = if_some (bytes_eq a (codes "end")) (reading.ended b c d e) h in
    end_is a b c d e l (same a _ p.0) p.1
sound (a ∷ b ∷ c ∷ d ∷ e ∷ f ∷ []) l h =
    let p = if_some (bytes_eq a (codes "chip") && bytes_eq c (codes "at")) (reading.chip b d e f) h in
    chip_is a b c d e f l (same a _ (first_so _ _ p.0)) (same c _ (second_so (bytes_eq a (codes "chip")) _ p.0)) p.1
sound (a ∷ b ∷ c ∷ d ∷ e ∷ f ∷ g ∷ ws) l h =
    let long : 6 < length (a ∷ b ∷ c ∷ d ∷ e ∷ f ∷ g ∷ ws) = omega arith in
    let none = too_long (length (a ∷ b ∷ c ∷ d ∷ e ∷ f ∷ g ∷ ws)) (at (a ∷ b ∷ c ∷ d ∷ e ∷ f ∷ g ∷ ws)) long in
    cc

-- the words as the code has them

abbrev seen : List (Bor Word) → List Word
seen ws = map (λ w. w.now) ws

word_at : (ws : List (Bor Word)) (i : ℕ) → word ws i ≡ at (seen ws) i
word_at [] i = refl
word_at (w ∷ ws) zero = refl
word_at (w ∷ ws) (suc i) = word_at ws i

said : (ws : List (Bor Word)) → says (length ws) (word ws) ≡ says (length (seen ws)) (at (seen ws))
said ws =
    ap (λ (n : ℕ). says n (word ws)) (sym (length-map ws (λ w. w.now)))
    ∙ ap (says (length (seen ws))) (fun_ext (word_at ws))

-- what is read is the line with this text
abbrev pub IsRead : List ℕ → Option Line → Type 0
IsRead b o = (l : Line) → (o ≡ Some l) ↔ ((is_line l ≡ true) × (line_text l ≡ b))

reads : (b line : List ℕ) (ws : List (Bor Word)) (o : Option Line) → b ≡ line ++ 10 ∷ [] → seen ws ≡ parts line → o ≡ says (length ws) (word ws) → IsRead b o
reads b line ws o text words read l = (
  λ h.
      let p = sound (seen ws) l (sym (said ws) ∙ sym read ∙ h) in
      let e : parts line ≡ line_words l = sym words ∙ p.0 in
      let j : line ≡ joined (line_words l) = sym (join_with_byte-slice_split 32 line) ∙ ap joined e in
      (p.1, text_is l ∙ sym (ap (λ (s : List ℕ). s ++ 10 ∷ []) j) ∙ sym text),
  λ h.
      let e : seen ws ≡ line_words l = words ∙ sym (ap parts (line_of b line l text h.1)) ∙ line_parts l h.0 in
      read ∙ said ws ∙ ap (λ (vs : List Word). says (length vs) (at vs)) e ∙ complete l h.0,
)
  where
    line_of : (b line : List ℕ) (l : Line) → b ≡ line ++ 10 ∷ [] → line_text l ≡ b → joined (line_words l) ≡ line
    line_of b line l text h = append_cancel_right (joined (line_words l)) line (10 ∷ []) (sym (text_is l) ∙ h ∙ text)

pub words_read : {E : Type 0} (b line : List ℕ) (found ws : List (Bor Word)) (r : Result (Option Line) E) → b ≡ line ++ 10 ∷ [] → seen found ≡ parts line → ws ≡ found
    → IfOk r (λ o. o ≡ says (length ws) (word ws)) → IfOk r (IsRead b)
words_read b line found ws r text words same = IfOk-weaker r (λ o. o ≡ says (length ws) (word ws)) (IsRead b) (λ o e. reads b line ws o text (ap seen same ∙ words) e)

-- a text with other bytes, or with more words than any line has, is no line's
pub no_text : (b : List ℕ) → ((line : List ℕ) → IsAscii line → b ≢ line ++ 10 ∷ []) → IsRead b None
no_text b other l = (λ h. cc, λ h. absurd (other (joined (line_words l)) (line_ascii l h.0) (sym h.1 ∙ text_is l)))

pub long_text : (b line : List ℕ) → b ≡ line ++ 10 ∷ [] → 6 < length (parts line) → IsRead b None
long_text b line text long l = (
  λ h. cc,
  λ h.
      let j : joined (line_words l) ≡ line = append_cancel_right (joined (line_words l)) line (10 ∷ []) (sym (text_is l) ∙ h.1 ∙ text) in
      let e : length (parts line) ≡ length (line_words l) = ap length (sym (ap parts j) ∙ line_parts l h.0) in
      let few = few_words l in
      absurd (omega arith),
)
