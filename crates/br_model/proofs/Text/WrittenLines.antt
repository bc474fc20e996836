-- The line that a step is written as is read back to the step.
use mathlib.Core.Path.{path_j, subst_refl}
use Rattle.std.proofs.Common.{◌≡◌, ℕ, suc, ◌+◌, ◌-◌, ◌<◌, ◌≤◌, ◌==◌, nat_lt, Bool, true, false, if◌then◌else◌, List, []}
use Rattle.std.proofs.Common.{◌∷◌, length, take, length-take, inl, inr, refl, sym, ◌∙◌, ap, subst, arith, Option, Some, slice_index_or}
use Rattle.std.specs.Prelude.{codes}
use Rattle.std.specs.Cmp.{first_so, second_so}
use Rattle.std.specs.List.{list_all}
use Rattle.std.specs.Option.{option_map}
use Rattle.std.specs.declared.option.Option.TheVariants.{None}
use Rattle.std.specs.declared.result.Result.TheVariants.{Ok, Err}
use Rattle.std.proofs.lemmas.Bool.{cases_lt, eqb-true, leb-true, and_from}
use Rattle.std.proofs.lemmas.List.{take_all}
use Rattle.br_model.specs.declared.change.Kind.TheVariants.{Local, Learned}
use Rattle.br_model.specs.declared.frame.FrameFault.TheVariants as faults
use Rattle.br_model.specs.declared.scenario.Said.{Said}
use Rattle.br_model.specs.declared.scenario.Said.TheVariants.{Blank, Does}
use Rattle.br_model.specs.declared.steps.Command.{Command}
use Rattle.br_model.specs.declared.steps.Command.TheVariants as commands
use Rattle.br_model.specs.declared.steps.Step.{Step}
use Rattle.br_model.specs.declared.steps.Step.TheVariants.{Rx, Cmd, Now, Serve, Hold, Post, Turn, Report, Sweep, Publish}
use Rattle.br_model.specs.Table.Domains.{host}
use Rattle.br_model.specs.Text.CommandForms as forms
use Rattle.br_model.specs.Text.Declarations.{are_declared}
use Rattle.br_model.specs.Text.Forms.{Form, Row, Token, Values, words_of, all_values, fills, line}
use Rattle.br_model.specs.Text.LineForms as lines
use Rattle.br_model.specs.Text.Operands.{in_range}
use Rattle.br_model.specs.Text.Roster.{Roster, chips_of}
use Rattle.br_model.specs.Text.ScenarioText.{fits_in, has_line, step_words, words_in}
use Rattle.br_model.specs.Text.Spelling.{shown}
use Rattle.br_model.specs.Text.Words.{Word, is_word, is_comment, joined, words}
use Rattle.br_model.specs.Theorems.WrittenSteps.{given, is_whole}
use Rattle.br_model.specs.Wire.Frames.{longest_frame, shortest_frame, frame}
use Rattle.br_model.proofs.Text.WrittenRows.{is_sound, all_proper, as_many, own_stand, behind_stand, first_near, makes, row_read}
use Rattle.br_model.proofs.Text.WrittenWords.{is_proper, words_joined}

-- lines by their words

says : (r : Roster) (ws : List Word) → list_all is_proper ws ≡ true → is_comment (joined ws) ≡ false → lines.line_says r (joined ws) ≡ lines.all_say r ws
unfolding lines.line_says
says r ws proper line =
    ap (λ (b : Bool). if b then Ok Blank else lines.all_say r (words (joined ws))) line ∙ ap (lines.all_say r) (words_joined ws proper)

-- a line that a row writes of values in range
pub line_read : (r : Roster) (q : Row Said) (values : Values q.shape) → are_declared r.ports ≡ true → q.place r ≡ true → is_sound q.shape ≡ true
    → first_near lines.lines q.shape ≡ Some q → is_comment (joined (words_of r.ports q.shape values)) ≡ false
    → lines.all_say r (words_of r.ports q.shape values) ≡ line lines.lines r (length (words_of r.ports q.shape values)) (λ i. slice_index_or (words_of r.ports q.shape values) i [])
    → all_values (in_range r.ports) q.shape values ≡ true
    → lines.line_says r (joined (words_of r.ports q.shape values)) ≡ Ok (makes 0 q.shape q.says values)
line_read r q values all place sound first text other h =
    let ws = words_of r.ports q.shape values in
    says r ws (all_proper r.ports q.shape values all sound h) text
    ∙ other
    ∙ ap (λ (n : ℕ). line lines.lines r n (λ i. slice_index_or ws i [])) (as_many r.ports q.shape values)
    ∙ row_read r lines.lines q values (λ i. slice_index_or ws i []) place all sound first h (own_stand ws)

-- the line of a command that a row writes
command_line : (r : Roster) (q : Row Command) (values : Values q.shape) → are_declared r.ports ≡ true → q.place r ≡ true → is_sound q.shape ≡ true
    → first_near forms.commands q.shape ≡ Some q → all_values (in_range r.ports) q.shape values ≡ true
    → lines.line_says r (joined (codes "cmd" ∷ words_of r.ports q.shape values)) ≡ Ok (Does (Cmd (makes 0 q.shape q.says values)))
command_line r q values all place sound first h =
    let ws = words_of r.ports q.shape values in
    let behind : ℕ → Word = λ i. slice_index_or (codes "cmd" ∷ ws) (i + 1) [] in
    says r (codes "cmd" ∷ ws) (and_from (is_proper (codes "cmd")) (list_all is_proper ws) refl (all_proper r.ports q.shape values all sound h)) (no_comment ws)
    ∙ ap (λ (n : ℕ). lines.commanded (line forms.commands r n behind)) (one_less (length ws) (length q.shape) (as_many r.ports q.shape values))
    ∙ ap lines.commanded (row_read r forms.commands q values behind place all sound first h (behind_stand (codes "cmd") ws))
  where
    one_less : (n m : ℕ) → n ≡ m → suc n - 1 ≡ m
    one_less n m e = omega arith

    no_comment : (ws : List Word) → is_comment (joined (codes "cmd" ∷ ws)) ≡ false
    no_comment [] = refl
    no_comment (w ∷ ws) = refl

-- the frame that a line shows

shown_some : (bytes : List ℕ) → is_word (shown bytes) ≡ true
shown_some [] = refl
shown_some (b ∷ bytes) = refl

-- the form of each command and step

-- The row that reads the form's words says the command; where the command has no form, nothing is said.
abbrev MadeBy : Command → (ts : List Token) → Values ts → Option (Row Command) → Type 0
MadeBy command ts values None = ⊥
MadeBy command ts values (Some q) =
    (same : ts ≡ q.shape) × (is_sound q.shape ≡ true) × ((r : Roster) → q.place r ≡ forms.step r.place) × (makes 0 q.shape q.says (subst Values same values) ≡ command)

abbrev Made : Command → Option Form → Type 0
Made command None = Unit {0}
Made command (Some f) = MadeBy command f.shape f.values (first_near forms.commands f.shape)

-- A case stands here alone where a Bool or a kind decides on the form.
made : (command : Command) → Made command (forms.command_form command)
made (commands.Link port flag true) = (refl, refl, (λ r. refl), refl)
made (commands.VlanAdd port vid true true) = (refl, refl, (λ r. refl), refl)
made (commands.VlanAdd port vid false true) = (refl, refl, (λ r. refl), refl)
made (commands.FdbAdd vid address port Local) = by (port == host) refl
  where
    by : (b : Bool) → (port == host) ≡ b → Made (commands.FdbAdd vid address port Local) (if b then Some (fills forms.fdb_add_local address vid) else None)
    by true is = (refl, refl, (λ r. refl), ap (λ (p : ℕ). commands.FdbAdd vid address p Local) (sym (eqb-true _ _ is)))
    by false is = tt
made (commands.FdbAdd vid address port Learned) = tt
made (commands.Stp true) = (refl, refl, (λ r. refl), refl)
made (commands.Snooping true) = (refl, refl, (λ r. refl), refl)
made command = (refl, refl, (λ r. refl), refl)

-- what is made of the words of a form, along an equation
along : {B : Type 0} (f : (ts : List Token) → Values ts → B) (ts us : List Token) (same : ts ≡ us) (values : Values ts) → f us (subst Values same values) ≡ f ts values
along f ts us same values = path_j (λ (us : List Token) (same : ts ≡ us). f us (subst Values same values) ≡ f ts values) (ap (f ts) (subst_refl Values {x = ts} values)) same

row_said : (r : Roster) (command : Command) (ts : List Token) (values : Values ts) (found : Option (Row Command)) → first_near forms.commands ts ≡ found
    → forms.step r.place ≡ true → are_declared r.ports ≡ true → MadeBy command ts values found → all_values (in_range r.ports) ts values ≡ true
    → lines.line_says r (joined (codes "cmd" ∷ words_of r.ports ts values)) ≡ Ok (Does (Cmd command))
row_said r command ts values None first place all made h = absurd made
row_said r command ts values (Some q) first place all (same, sound, at, says) h =
    ap (λ (ws : List Word). lines.line_says r (joined (codes "cmd" ∷ ws))) (sym (along (words_of r.ports) ts q.shape same values))
    ∙ command_line r q (subst Values same values) all (at r ∙ place) sound (subst (λ (us : List Token). first_near forms.commands us ≡ Some q) same first)
    (along (all_values (in_range r.ports)) ts q.shape same values ∙ h)
    ∙ ap (λ (c : Command). Ok (Does (Cmd c))) says

form_said : (r : Roster) (command : Command) (form : Option Form) → forms.step r.place ≡ true → are_declared r.ports ≡ true → Made command form
    → fits_in r.ports (option_map lines.behind_cmd form) ≡ true
    → lines.line_says r (joined (words_in r.ports (option_map lines.behind_cmd form))) ≡ Ok (Does (Cmd command))
form_said r command None place all made h = absurd (cc)
form_said r command (Some f) place all made h = row_said r command f.shape f.values (first_near forms.commands f.shape) refl place all made h

-- the step's line is read back
abbrev IsRead : Roster → Step → Type 0
IsRead r s = lines.line_says r (step_words r.ports s) ≡ Ok (Does (given s))

pub step_read : (r : Roster) (s : Step) → forms.step r.place ≡ true → lines.comes_by_line r.check (chips_of r.ports) s ≡ true → are_declared r.ports ≡ true
    → has_line r.ports s ≡ true → IsRead r s
step_read r (Rx port bytes) place comes all = line_read r lines.rx (port, (shown bytes, tt)) all place refl refl refl refl
step_read r (Cmd command) place comes all = form_said r command (forms.command_form command) place all (made command)
step_read r (Now moment) place comes all = line_read r lines.now (moment, tt) all place refl refl refl refl
step_read r Serve place comes all = line_read r lines.serve tt all place refl refl refl refl
step_read r Hold place comes all = line_read r lines.hold tt all place refl refl refl refl
step_read r (Post id None) place comes all = line_read r lines.post (id, tt) all place refl refl refl refl
step_read r (Post id (Some point)) place comes all = line_read r lines.post_at (id, (point, tt)) all (and_from r.check (forms.step r.place) comes place) refl refl refl refl
step_read r (Turn dom) place comes all = line_read r lines.turn (dom, tt) all place refl refl refl refl
step_read r (Report dom) place comes all = line_read r lines.report (dom, tt) all place refl refl refl refl
step_read r (Sweep dom) place comes all = line_read r lines.sweep (dom, tt) all place refl refl refl refl
step_read r Publish place comes all = line_read r lines.publish tt all place refl refl refl refl

-- frames that a line shows whole, and those that it doesn't

pub shown_whole : (bytes : List ℕ) → 0 < length bytes → length bytes ≤ longest_frame → shown bytes ≡ bytes
shown_whole [] some h = absurd (omega arith)
shown_whole (b ∷ bytes) some h = take_all (longest_frame + 1) (b ∷ bytes) (omega arith)

pub given_whole : (s : Step) → is_whole s ≡ true → given s ≡ s
given_whole (Rx port bytes) h = ap (λ (b : List ℕ). Rx port b) (shown_whole bytes (some (length bytes) (first_so _ _ h)) (leb-true (length bytes) longest_frame (second_so _ _ h)))
  where
    some : (n : ℕ) → nat_lt 0 n ≡ true → 0 < n
    some n h = grind arith
given_whole s h = refl

too_long : (bytes : List ℕ) → longest_frame < length bytes → frame bytes ≡ Err faults.Long
too_long bytes h = rw (not_short (length bytes) h, is_long (length bytes) h) refl
  where
    not_short : (n : ℕ) → longest_frame < n → nat_lt n shortest_frame ≡ false
    not_short n h = grind arith

    is_long : (n : ℕ) → longest_frame < n → nat_lt longest_frame n ≡ true
    is_long n h = grind arith

pub frame_shown : (bytes : List ℕ) → frame (shown bytes) ≡ frame bytes
frame_shown [] = refl
frame_shown (b ∷ bytes) = elim (cases_lt longest_frame (length (b ∷ bytes))) [
  | inl long ↦
      let cut : longest_frame < length (take (longest_frame + 1) (b ∷ bytes)) = omega (arith, length-take (longest_frame + 1) (b ∷ bytes)) in
      too_long (take (longest_frame + 1) (b ∷ bytes)) cut ∙ sym (too_long (b ∷ bytes) long)
  | inr short ↦ ap frame (take_all (longest_frame + 1) (b ∷ bytes) (omega arith))
]
