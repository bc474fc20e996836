-- The text of a generated scenario, part by part.
use Rattle.std.proofs.Common.{◌≡◌, ℕ, suc, ◌+◌, ◌-◌, ◌*◌, ◌%◌, ◌/◌, ◌==◌, ◌<◌, Bool, true, false, if◌then◌else◌, List, [], ◌∷◌, ◌++◌, length, refl, sym, ap, ◌∙◌, append_assoc, arith}
use Rattle.std.specs.Fmt.{decimal, digits}
use Rattle.std.specs.List.{flat_map}
use Rattle.std.specs.Prelude.{codes}
use Rattle.std.proofs.lemmas.Grind.{flat_map-append}
use Rattle.std.proofs.lemmas.List.{append-nil, take_all}
use Rattle.br_model.specs.declared.steps.Step.{Step}
use Rattle.br_model.specs.declared.steps.Step.TheVariants.{Rx, Now, Serve, Turn, Report, Publish}
use Rattle.br_model.specs.Data.Digits.{hex_digit, hex_of}
use Rattle.br_model.specs.Table.Domains.{first_chip_domain}
use Rattle.br_model.specs.Wire.Frames.{longest_frame}
use Rattle.br_model.specs.Program.Generator.{drawn, number_of, station, broadcast, destination, frame, each, frame_steps, frames_from, ports, first_steps, head, made}
use Rattle.br_model.specs.Text.ScenarioText.{step_text}
use Rattle.br_model.specs.Text.Spelling.{shown}
use Rattle.scenario_generator.specs.Generating.{At, first, after_frame, next_steps, steps_left, lines_of, opening_text, text_left}

-- the steps that are left, after one frame

steps_on : (n m i x : ℕ) → n ≡ suc m → frames_from n i x ≡ frame_steps i (number_of (drawn x)) ++ frames_from m (i + 1) (drawn x)
unfolding frames_from
steps_on n m i x e = ap (λ (k : ℕ). frames_from k i x) e

pub steps_go_on : (g : At) → 0 < g.left → steps_left g ≡ next_steps g ++ steps_left (after_frame g)
steps_go_on g some =
    let e : g.left ≡ suc (g.left - 1) = omega arith in
    steps_on g.left (g.left - 1) g.i g.x e

text_on : (f : Step → List ℕ) (a b c : List Step) (e : List ℕ) → a ≡ b ++ c → flat_map f a ++ e ≡ flat_map f b ++ (flat_map f c ++ e)
text_on f a b c e is =
    ap (λ (s : List Step). flat_map f s ++ e) is
    ∙ ap (λ (t : List ℕ). t ++ e) (flat_map-append f b c)
    ∙ append_assoc (flat_map f b) (flat_map f c) e

pub text_goes_on : (g : At) → 0 < g.left → text_left g ≡ lines_of (next_steps g) ++ text_left (after_frame g)
text_goes_on g some =
    text_on (step_text ports) (steps_left g) (next_steps g) (steps_left (after_frame g)) (codes "end" ++ 10 ∷ []) (steps_go_on g some)

pub none_left : (n i x : ℕ) → n ≡ 0 → frames_from n i x ≡ []
unfolding frames_from
none_left n i x e = ap (λ (k : ℕ). frames_from k i x) e

pub last_text : (g : At) → g.left ≡ 0 → text_left g ≡ codes "end" ++ 10 ∷ []
last_text g e = ap (λ (s : List Step). lines_of s ++ (codes "end" ++ 10 ∷ [])) (none_left g.left g.i g.x e)

-- the whole text

whole : (h : List ℕ) (f : Step → List ℕ) (a b : List Step) (e : List ℕ) → (h ++ flat_map f a) ++ (flat_map f b ++ e) ≡ h ++ (flat_map f (a ++ b) ++ e)
whole h f a b e =
    append_assoc h (flat_map f a) (flat_map f b ++ e)
    ∙ ap (λ (t : List ℕ). h ++ t) (sym (text_on f (a ++ b) a b e refl))

pub made_parts : (x count : ℕ) → opening_text ++ text_left (first x count) ≡ made x count
unfolding made
made_parts x count = whole head (step_text ports) first_steps (frames_from count 1 x) (codes "end" ++ 10 ∷ [])

-- a frame's line

shown_behind : (b : Bool) (d : ℕ) (rest : List ℕ) → length rest ≡ 10 → shown ((if b then broadcast else station d) ++ rest) ≡ (if b then broadcast else station d) ++ rest
shown_behind true d rest e = take_all (longest_frame + 1) (broadcast ++ rest) (omega arith)
shown_behind false d rest e = take_all (longest_frame + 1) (station d ++ rest) (omega arith)

pub shown_frame : (n : ℕ) → shown (frame n) ≡ frame n
shown_frame n = shown_behind (n / 48 % 9 == 8) (n / 48 % 9) (station (n / 6 % 8) ++ (0x88 ∷ 0xB5 ∷ 0 ∷ 0 ∷ [])) refl

abbrev byte_digits : ℕ → List ℕ
byte_digits b = hex_digit (b / 16) ∷ hex_digit (b % 16) ∷ []

hex_three : (a b c : List ℕ) → hex_of (a ++ (b ++ c)) ≡ hex_of a ++ (hex_of b ++ hex_of c)
hex_three a b c = flat_map-append byte_digits a (b ++ c) ∙ ap (λ (t : List ℕ). hex_of a ++ t) (flat_map-append byte_digits b c)

frame_digits : (n : ℕ) → hex_of (shown (frame n)) ≡ hex_of (destination (n / 48 % 9)) ++ (hex_of (station (n / 6 % 8)) ++ codes "88b50000")
frame_digits n = ap hex_of (shown_frame n) ∙ hex_three (destination (n / 48 % 9)) (station (n / 6 % 8)) (0x88 ∷ 0xB5 ∷ 0 ∷ 0 ∷ [])

-- q is the text of a number, h what follows it, of three parts, on the line; y the next line
line_parts : (q d s w y h : List ℕ) → h ≡ d ++ (s ++ w) → (q ++ 32 ∷ []) ++ (d ++ (s ++ (w ++ 10 ∷ y))) ≡ ((q ++ 32 ∷ h) ++ 10 ∷ []) ++ y
line_parts q d s w y h e = rw e (simp (append_assoc) refl)

four_parts : (s0 s1 s2 s3 s4 a b c d : List ℕ) → s1 ≡ s0 ++ a → s2 ≡ s1 ++ b → s3 ≡ s2 ++ c → s4 ≡ s3 ++ d → s4 ≡ s0 ++ (a ++ (b ++ (c ++ d)))
four_parts s0 s1 s2 s3 s4 a b c d e f g h = rw (h, g, f, e) (simp (append_assoc) refl)

pub entry_parts : (n : ℕ) (s0 s1 s2 s3 s4 : List ℕ)
    → s1 ≡ s0 ++ (codes "rx " ++ (decimal (n % 6 + 1) ++ 32 ∷ [])) → s2 ≡ s1 ++ hex_of (destination (n / 48 % 9)) → s3 ≡ s2 ++ hex_of (station (n / 6 % 8)) → s4 ≡ s3 ++ codes "88b50000\nserve\n"
    → s4 ≡ s0 ++ lines_of (Rx (n % 6 + 1) (frame n) ∷ Serve ∷ [])
entry_parts n s0 s1 s2 s3 s4 e f g h =
    four_parts s0 s1 s2 s3 s4 (codes "rx " ++ (decimal (n % 6 + 1) ++ 32 ∷ [])) (hex_of (destination (n / 48 % 9))) (hex_of (station (n / 6 % 8))) (codes "88b50000\nserve\n") e f g h
    ∙ ap (λ (t : List ℕ). s0 ++ (codes "rx " ++ t))
    (line_parts (decimal (n % 6 + 1)) (hex_of (destination (n / 48 % 9))) (hex_of (station (n / 6 % 8))) (codes "88b50000") (codes "serve\n") (hex_of (shown (frame n))) (frame_digits n))

-- what else happens with a frame

line_if : (b : Bool) (step : Step) → (if b then step_text ports step else []) ≡ lines_of (if b then step ∷ [] else [])
line_if true step = sym (append-nil (step_text ports step))
line_if false step = refl

lines_join : (a b : List Step) (t : List ℕ) → t ≡ lines_of b → lines_of a ++ t ≡ lines_of (a ++ b)
lines_join a b t e = ap (λ (u : List ℕ). lines_of a ++ u) e ∙ sym (flat_map-append (step_text ports) a b)

pub others_parts : (i : ℕ) (s0 s1 s2 s3 s4 : List ℕ)
    → s1 ≡ s0 ++ (if i % 3 == 0 then codes "report 1\n" else []) → s2 ≡ s1 ++ (if i % 5 == 0 then codes "turn 1\n" else []) → s3 ≡ s2 ++ (if i % 7 == 0 then codes "publish\n" else [])
    → s4 ≡ s3 ++ lines_of (each 64 i (Now (1000 * i)))
    → s4 ≡ s0 ++ lines_of (each 3 i (Report first_chip_domain) ++ (each 5 i (Turn first_chip_domain) ++ (each 7 i Publish ++ each 64 i (Now (1000 * i)))))
unfolding digits
others_parts i s0 s1 s2 s3 s4 e f g h =
    let last = each 64 i (Now (1000 * i)) in
    four_parts s0 s1 s2 s3 s4 (lines_of (each 3 i (Report first_chip_domain))) (lines_of (each 5 i (Turn first_chip_domain))) (lines_of (each 7 i Publish)) (lines_of last)
    (e ∙ ap (λ (t : List ℕ). s0 ++ t) (line_if (i % 3 == 0) (Report first_chip_domain))) (f ∙ ap (λ (t : List ℕ). s1 ++ t) (line_if (i % 5 == 0) (Turn first_chip_domain))) (g
    ∙ ap (λ (t : List ℕ). s2 ++ t) (line_if (i % 7 == 0) Publish)) h
    ∙ ap (λ (t : List ℕ). s0 ++ t)
    (lines_join (each 3 i (Report first_chip_domain)) (each 5 i (Turn first_chip_domain) ++ (each 7 i Publish ++ last))
    (lines_of (each 5 i (Turn first_chip_domain)) ++ (lines_of (each 7 i Publish) ++ lines_of last))
    (lines_join (each 5 i (Turn first_chip_domain)) (each 7 i Publish ++ last) (lines_of (each 7 i Publish) ++ lines_of last) (lines_join (each 7 i Publish) last (lines_of last) refl)))

-- a frame's lines, and what else happens
pub frame_parts : (g : At) (s0 s1 s2 : List ℕ)
    → s1 ≡ s0 ++ lines_of (Rx (number_of (drawn g.x) % 6 + 1) (frame (number_of (drawn g.x))) ∷ Serve ∷ [])
    → s2 ≡ s1 ++ lines_of (each 3 g.i (Report first_chip_domain) ++ (each 5 g.i (Turn first_chip_domain) ++ (each 7 g.i Publish ++ each 64 g.i (Now (1000 * g.i)))))
    → s2 ≡ s0 ++ lines_of (next_steps g)
frame_parts g s0 s1 s2 e f =
    let first = Rx (number_of (drawn g.x) % 6 + 1) (frame (number_of (drawn g.x))) ∷ Serve ∷ [] in
    let others = each 3 g.i (Report first_chip_domain) ++ (each 5 g.i (Turn first_chip_domain) ++ (each 7 g.i Publish ++ each 64 g.i (Now (1000 * g.i)))) in
    f ∙ ap (λ (s : List ℕ). s ++ lines_of others) e ∙ append_assoc s0 (lines_of first) (lines_of others)
    ∙ ap (λ (t : List ℕ). s0 ++ t) (sym (flat_map-append (step_text ports) first others))

-- a part is written of what is left
pub written_on : (s0 s1 f r0 r1 all : List ℕ) → s1 ≡ s0 ++ f → r0 ≡ f ++ r1 → s0 ++ r0 ≡ all → s1 ++ r1 ≡ all
written_on s0 s1 f r0 r1 all e g h =
    ap (λ (s : List ℕ). s ++ r1) e ∙ append_assoc s0 f r1 ∙ ap (λ (r : List ℕ). s0 ++ r) (sym g) ∙ h
