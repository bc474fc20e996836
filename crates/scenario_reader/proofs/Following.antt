-- A reader goes on with a line.
use Rattle.std.proofs.Common.{◌≡◌, ℕ, ◌+◌, ◌≤◌, true, false, if◌then◌else◌, List, [], length, arith, Result, Ok, Err, refl, sym, ◌∙◌, ap, subst, nat_lt, nat_le}
use Rattle.std.proofs.lemmas.List.{append-nil}
use Rattle.br_model.specs.declared.scenario.Item.{Item}
use Rattle.br_model.specs.declared.scenario.Item.TheVariants as items
use Rattle.br_model.specs.declared.scenario.LineWhy.{LineWhy}
use Rattle.br_model.specs.declared.scenario.LineWhy.TheVariants as why
use Rattle.br_model.specs.declared.scenario.Place.{Place}
use Rattle.br_model.specs.declared.scenario.Place.TheVariants as places
use Rattle.br_model.specs.declared.scenario.Said.{Said}
use Rattle.br_model.specs.declared.scenario.Said.TheVariants.{Blank, Opens, Bridge, Declares, Does, Captures, Ends}
use Rattle.br_model.specs.declared.steps.Step.{Step}
use Rattle.br_model.specs.Text.LineForms.{comes_by_line, line_says, header, declaration}
use Rattle.br_model.specs.Text.Operands.{longest_section}
use Rattle.br_model.specs.Text.Roster.{Entry, Roster, chips_of}
use Rattle.br_model.specs.Text.Scenario.{Scenario, Going, takes, takes_steps, declared, steps_of, section_length, ending_of as said_ending, longest_line, whole_says}
use Rattle.scenario_reader.specs.declared.reader.Last.TheVariants as lasts
use Rattle.scenario_reader.specs.declared.reader.Next.TheVariants as nexts
use Rattle.scenario_reader.specs.Reading.{EndsBy, Follows, KeepsSetup, ReaderState, Took}
use Rattle.scenario_text.specs.Items.{item_of, comes_in_place}

not_long : (n : ℕ) → n ≤ longest_line → nat_lt longest_line n ≡ false
not_long n h = grind arith

-- what a line says that isn't too long; what a reader's roster is told, the scenario's is told
said_here : (s : Scenario) (line : List ℕ) (x : ReaderState) (said : Result Said LineWhy) → Follows s x → length line ≤ longest_line → line_says x.roster line ≡ said → whole_says s.roster line ≡ said
said_here s line x said f short says =
    ap (λ b. if b then Err why.Long else line_says s.roster line) (not_long (length line) short) ∙ ap (λ (r : Roster). line_says r line) (sym f.roster) ∙ says

-- directly after the first line
begins : (place : Place) → header place ≡ true → declaration place ≡ true
begins places.Opening h = absurd (cc)
begins places.Header h = refl
begins places.Declarations h = absurd (cc)
begins places.Steps h = absurd (cc)

-- what stays, whatever a line says there
keeps : (r : Roster) (said : Said) → comes_in_place r.place (item_of said) ≡ true → KeepsSetup r (declared r said)
keeps r Blank h = (refl, λ b. (b, (refl, refl)))
keeps r (Opens edition) h = (refl, λ b. let e : true ≡ false = sym h ∙ b.1 in absurd (cc))
keeps r (Bridge mac) h = (refl, λ b. let e : true ≡ false = sym (begins r.place h) ∙ b.0 in absurd (cc))
keeps r (Declares port name dom) h = (refl, λ b. let e : true ≡ false = sym h ∙ b.0 in absurd (cc))
keeps r (Does step) h = (refl, λ b. ((refl, refl), (refl, refl)))
keeps r (Captures n) h = (refl, λ b. ((refl, refl), (refl, refl)))
keeps r Ends h = (refl, λ b. (b, (refl, refl)))

-- what the items say

-- neither a step nor a section, and not the last line
pub record IsCalm (said : Said) : Type 0 where
  pub steps : (ports : List Entry) → steps_of ports said [] ≡ Ok []
  pub sized : section_length said ≡ 0
  pub going : said_ending said ≡ Going

abbrev pub GivesItem : Item → Said → Type 0
GivesItem items.Blank said = IsCalm said
GivesItem (items.Scenario edition) said = IsCalm said
GivesItem (items.Bridge mac) said = IsCalm said
GivesItem (items.Declared port) said = IsCalm said
GivesItem (items.Step step) said = said ≡ Does step
GivesItem (items.Capture n) said = said ≡ Captures n
GivesItem items.End said = said ≡ Ends

gives_own : (said : Said) → GivesItem (item_of said) said
gives_own Blank = record { steps = λ ports. refl; sized = refl; going = refl }
gives_own (Opens edition) = record { steps = λ ports. refl; sized = refl; going = refl }
gives_own (Bridge mac) = record { steps = λ ports. refl; sized = refl; going = refl }
gives_own (Declares port name dom) = record { steps = λ ports. refl; sized = refl; going = refl }
gives_own (Does step) = refl
gives_own (Captures n) = refl
gives_own Ends = refl

pub gives_item : (item : Item) (said : Said) → item ≡ item_of said → GivesItem item said
gives_item item said e = subst (λ (i : Item). GivesItem i said) (sym e) (gives_own said)

-- each line, by its item

module _ (s : Scenario) (line : List ℕ) (x : ReaderState) (r : Roster) (f : Follows s x) (short : length line ≤ longest_line) where
  abbrev after : ReaderState
  after = record { lines = x.lines + 1; roster = r }

  pub calm : (said : Said) → line_says x.roster line ≡ Ok said → r ≡ declared x.roster said → comes_in_place x.roster.place (item_of said) ≡ true → IsCalm said → Took s line after nexts.Line
  calm said says moved place h =
      let e : takes s said [] ≡ takes_steps s said (Ok []) = ap (takes_steps s said) (h.steps s.roster.ports) in
      let to : r ≡ declared s.roster said = moved ∙ ap (λ (q : Roster). declared q said) f.roster in (
        said,
        said_here s line x (Ok said) f short says,
        h.sized,
        ap (λ (t : Scenario). t.steps) e ∙ append-nil s.steps,
        subst (λ (t : Scenario). Follows t after) (sym e) (record { lines = ap (λ n. n + 1) f.lines; roster = to; going = h.going }),
        subst (KeepsSetup s.roster) (sym to) (keeps s.roster said (subst (λ (q : Roster). comes_in_place q.place (item_of said) ≡ true) f.roster place)),
      )

  pub stepped : (step : Step) → line_says x.roster line ≡ Ok (Does step) → r ≡ declared x.roster (Does step) → comes_by_line x.roster.check (chips_of x.roster.ports) step ≡ true
      → Took s line after (nexts.Step step)
  stepped step says moved comes = (
    said_here s line x (Ok (Does step)) f short says,
    record { lines = ap (λ n. n + 1) f.lines; roster = moved ∙ ap (λ (q : Roster). declared q (Does step)) f.roster; going = refl },
    subst (λ (q : Roster). comes_by_line q.check (chips_of q.ports) step ≡ true) f.roster comes,
  )

  pub section_next : (n : ℕ) → line_says x.roster line ≡ Ok (Captures n) → r ≡ declared x.roster (Captures n) → nat_le n longest_section ≡ true → Took s line after (nexts.Section n)
  section_next n says moved most = (
    said_here s line x (Ok (Captures n)) f short says,
    within n most,
    record { lines = ap (λ n. n + 1) f.lines; roster = moved ∙ ap (λ (q : Roster). declared q (Captures n)) f.roster; going = refl },
  )
    where
      within : (n : ℕ) → nat_le n longest_section ≡ true → n ≤ longest_section
      within n h = grind arith

  pub ended : line_says x.roster line ≡ Ok Ends → r ≡ declared x.roster Ends → Took s line after (nexts.End lasts.Ended)
  ended says moved =
      (subst (λ (o : Result Said LineWhy). EndsBy s o lasts.Ended) (sym (said_here s line x (Ok Ends) f short says)) (refl, refl), moved ∙ f.roster)

-- a bad line
pub refused : (s : Scenario) (line : List ℕ) (x : ReaderState) (fault : LineWhy) → Follows s x → length line ≤ longest_line → line_says x.roster line ≡ Err fault
    → Took s line x (nexts.End (lasts.Bad (x.lines + 1) fault))
refused s line x fault f short says =
    (subst (λ (o : Result Said LineWhy). EndsBy s o (lasts.Bad (x.lines + 1) fault)) (sym (said_here s line x (Err fault) f short says)) (ap (λ n. lasts.Bad (n + 1) fault) f.lines), f.roster)
