-- A whole scenario is read, line by line.
use Rattle.std.proofs.Common.{◌≡◌, ℕ, ◌+◌, ◌-◌, ◌<◌, ◌≤◌, ◌⊎◌, inl, inr, Bool, true, ◌&&◌, if◌then◌else◌, List, [], ◌∷◌, ◌++◌, length, drop}
use Rattle.std.proofs.Common.{take, Option, None, Some, Result, Ok, Err, Vec, refl, sym, ◌∙◌, ap, subst, arith, append_assoc, length-append, length-drop, length-take-le}
use Rattle.std.specs.Prelude.{IfSome}
use Rattle.std.specs.declared.alloc.Global.{Global}
use Rattle.std.specs.List.{list_all}
use Rattle.std.proofs.Math.Seq.{drop-append_seam}
use Rattle.std.proofs.lemmas.List.{append-nil, take-append-drop, take_all}
use Rattle.std.proofs.lemmas.List.Folds.{list_all-append}
use Rattle.std.proofs.lemmas.Bool.{lt-ltb}
use Rattle.br_model.specs.declared.scenario.LineWhy.{LineWhy}
use Rattle.br_model.specs.declared.scenario.LineWhy.TheVariants.{Long, Unended}
use Rattle.br_model.specs.declared.scenario.Said.{Said}
use Rattle.br_model.specs.declared.scenario.Said.TheVariants.{Does, Captures, Ends}
use Rattle.br_model.specs.declared.steps.Step.{Step}
use Rattle.br_model.specs.Text.LineForms.{comes_by_line, line_says}
use Rattle.br_model.specs.Text.Operands.{longest_section}
use Rattle.br_model.specs.Text.Roster.{Roster, chips_of, first_roster}
use Rattle.br_model.specs.Text.Scenario.{Scenario, Ending, Going, Ended, Bad, Progress, bad, behind_end, captured, closes}
use Rattle.br_model.specs.Text.Scenario.{closes_at, longest_line, opened, read, scenario_by, section_length, takes, takes_steps, whole_says}
use Rattle.br_model.specs.Theorems.WholeLines.{is_line}
use Rattle.br_model.specs.Wire.Captures.{packets}
use Rattle.br_model.proofs.Text.Endings.{behind_at, closes_within, has_ended, read_ended}
use Rattle.br_model.proofs.Text.Fronts.{front_none}
use Rattle.br_model.proofs.Text.Reading.{closes_keeps, read_bad, read_line, read_part, read_rest, reads_so}
use Rattle.scenario_reader.specs.declared.reader.Captured.{Captured as Gave}
use Rattle.scenario_reader.specs.declared.reader.Captured.TheVariants as sections
use Rattle.scenario_reader.specs.declared.reader.Last.{Last}
use Rattle.scenario_reader.specs.declared.reader.Last.TheVariants as lasts
use Rattle.scenario_reader.specs.declared.reader.Next.{Next}
use Rattle.scenario_reader.specs.declared.reader.Next.TheVariants as nexts
use Rattle.scenario_reader.specs.declared.whole.End.{End}
use Rattle.scenario_reader.specs.Passing.{AreSound, AtSection, EndWith, Finishes, GoesOn, Stands, left_by}
use Rattle.scenario_reader.specs.Reading.{EndsBy, Follows, IsBehindDeclarations, IsCaptured, KeepsSetup, ReaderState, Takes, Took, captures, ending_of}
use Rattle.scenario_reader.specs.Section.{ComeByLine}
use Rattle.scenario_reader.specs.Whole.{SaysWhole, ending_or_going}

-- what the bytes come to

-- a line that is too long and lacks its line feed
read_long_rest : (s : Scenario) (rest : List ℕ) → s.ending ≡ Going → is_line rest ≡ true → longest_line < length rest → read 0 s rest ≡ record { scenario = bad s Long; line = rest; behind = [] }
read_long_rest s [] going h long = absurd (omega arith)
read_long_rest s (byte ∷ bytes) going h long =
    reads_so s byte bytes None going (front_none (byte ∷ bytes) h)
    ∙ ap (λ b. record { scenario = if b then bad s Long else s; line = byte ∷ bytes; behind = [] }) (lt-ltb longest_line (length (byte ∷ bytes)) long)

-- one that has it
says_long : (r : Roster) (line : List ℕ) → longest_line < length line → whole_says r line ≡ Err Long
says_long r line long = ap (λ b. if b then Err Long else line_says r line) (lt-ltb longest_line (length line) long)

-- what the steps stand on

-- nothing was declared behind the steps
sound_on : (check : Bool) (old new : Roster) (steps : List Step) → AreSound check old steps → KeepsSetup old new → (steps ≡ []) ⊎ IsBehindDeclarations old → AreSound check new steps
sound_on check old new steps h keeps (inl none) = record {
  its_check = keeps.0 ∙ h.its_check;
  by_line = ap (λ (l : List Step). list_all (comes_by_line check (chips_of new.ports)) l) none;
  declared = inl none;
}
sound_on check old new steps h keeps (inr behind) =
    let kept = keeps.1 behind in record {
      its_check = keeps.0 ∙ h.its_check;
      by_line = ap (λ ports. list_all (comes_by_line check (chips_of ports)) steps) kept.1.1 ∙ h.by_line;
      declared = inr kept.0;
    }

-- with steps more, in the place of the steps
sound_more : (check : Bool) (r : Roster) (steps more : List Step) → AreSound check r steps → IsBehindDeclarations r → list_all (comes_by_line check (chips_of r.ports)) more ≡ true
    → AreSound check r (steps ++ more)
sound_more check r steps more h behind comes = record {
  its_check = h.its_check;
  by_line = list_all-append (comes_by_line check (chips_of r.ports)) steps more ∙ ap (λ b. b && list_all (comes_by_line check (chips_of r.ports)) more) h.by_line ∙ comes;
  declared = inr behind;
}

-- how the bytes end

module _ (check : Bool) (s : Scenario) (bytes : List ℕ) (x : ReaderState) (steps : List Step) (sound : AreSound check x.roster steps) (end : End) where
  -- by this bad line
  pub ends_badly : (why : LineWhy) (line : List ℕ) → steps ≡ s.steps → read 0 s bytes ≡ record { scenario = bad s why; line = line; behind = [] }
      → end.last ≡ Some (lasts.Bad (s.lines + 1) why) → end.close ≡ lasts.Bad (s.lines + 1) why → end.left ≡ 0 → Finishes check bytes (read 0 s bytes) x steps end
  ends_badly why line same is last close left =
      subst (λ (p : Progress). Finishes check bytes p x steps end) (sym is) (record {
        all_steps = same;
        close = sym (ap ending_of close);
        roster = λ h. let over : lasts.Bad (s.lines + 1) why ≡ lasts.Ended = sym close ∙ h in absurd (cc);
        last = sym (ap ending_or_going last);
        same = subst (λ (o : Option Last). IfSome o (λ l. end.close ≡ l)) (sym last) close;
        part = (bytes, sym (append-nil bytes));
        left = left;
        sound = sound;
      })

  -- in a line or a section
  pub ends_within : (line : List ℕ) → steps ≡ s.steps → s.ending ≡ Going → read 0 s bytes ≡ record { scenario = s; line = line; behind = [] }
      → end.last ≡ None → (closes s line).ending ≡ ending_of end.close → (end.close ≡ lasts.Ended → x.roster ≡ s.roster) → end.left ≡ 0 → Finishes check bytes (read 0 s bytes) x steps end
  ends_within line same going is last close roster left =
      subst (λ (p : Progress). Finishes check bytes p x steps end) (sym is) (record {
        all_steps = same ∙ sym (closes_keeps s line).1;
        close = close;
        roster = λ h. roster h ∙ sym (closes_keeps s line).0;
        last = going ∙ sym (ap ending_or_going last);
        same = subst (λ (o : Option Last). IfSome o (λ l. end.close ≡ l)) (sym last) tt;
        part = (bytes, sym (append-nil bytes));
        left = left;
        sound = sound;
      })

  -- by the line `end`
  pub ends_well : (t : Scenario) (behind : List ℕ) → steps ≡ t.steps → x.roster ≡ t.roster → t.ending ≡ Ended → EndWith bytes behind → read 0 s bytes ≡ read 0 t behind
      → end.last ≡ Some lasts.Ended → end.close ≡ lasts.Ended → end.left ≡ length behind → Finishes check bytes (read 0 s bytes) x steps end
  ends_well t behind same roster over part is last close left =
      let e : read 0 t behind ≡ record { scenario = t; line = []; behind = behind } =
      read_ended t behind (ap has_ended over) ∙ ap (λ (d : Ending). record { scenario = t; line = []; behind = behind_at d behind }) over in
      let stays : closes t [] ≡ t = ap (λ (d : Ending). closes_at d t []) over in
      subst (λ (p : Progress). Finishes check bytes p x steps end) (sym (is ∙ e)) (record {
        all_steps = same ∙ ap (λ (u : Scenario). u.steps) (sym stays);
        close = ap (λ (u : Scenario). u.ending) stays ∙ over ∙ sym (ap ending_of close);
        roster = λ h. roster ∙ ap (λ (u : Scenario). u.roster) (sym stays);
        last = over ∙ sym (ap ending_or_going last);
        same = subst (λ (o : Option Last). IfSome o (λ l. end.close ≡ l)) (sym last) close;
        part = part;
        left = left;
        sound = sound;
      })

-- a line

behind_it : (line behind : List ℕ) → EndWith (line ++ 10 ∷ behind) behind
behind_it line behind = (line ++ 10 ∷ [], sym (append_assoc line (10 ∷ []) behind))

module _ (check : Bool) (s : Scenario) (line behind : List ℕ) (x : ReaderState) (steps : List Step) (h : Stands check s x steps) (feed : is_line line ≡ true) where
  going : s.ending ≡ Going
  going = h.follows.going

  its_own : AreSound check s.roster steps
  its_own = subst (λ (l : List Step). AreSound check s.roster l) (sym h.all_steps) h.sound

  -- after which nothing is to be done
  pub quietly : (new : ReaderState) (said : Said) → whole_says s.roster line ≡ Ok said → section_length said ≡ 0 → (takes s said []).steps ≡ s.steps → Follows (takes s said []) new
      → KeepsSetup s.roster new.roster → GoesOn check s (line ++ 10 ∷ behind) new steps behind
  quietly new said says sized same follows keeps =
      let t : Scenario = takes s said [] in
      let all : AreSound check t.roster s.steps =
      sound_on check s.roster t.roster s.steps h.sound (subst (KeepsSetup s.roster) follows.roster keeps) h.sound.declared in record {
        scenario = t;
        reads = read_line s said line [] behind going feed says (sym sized);
        stands = record { follows = follows; all_steps = h.all_steps ∙ sym same; sound = subst (λ (l : List Step). AreSound check t.roster l) (sym same) all };
        part = behind_it line behind;
      }

  -- with its step
  pub stepped : (new : ReaderState) (step : Step) → whole_says s.roster line ≡ Ok (Does step) → Follows (takes s (Does step) []) new
      → comes_by_line s.roster.check (chips_of s.roster.ports) step ≡ true
      → GoesOn check s (line ++ 10 ∷ behind) new (steps ++ step ∷ []) behind
  stepped new step says follows comes =
      let t : Scenario = takes s (Does step) [] in
      let here : AreSound check t.roster s.steps = record { its_check = h.sound.its_check; by_line = h.sound.by_line; declared = inr (refl, refl) } in
      let one : list_all (comes_by_line check (chips_of t.roster.ports)) (step ∷ []) ≡ true =
      ap (λ b. b && true) (subst (λ c. comes_by_line c (chips_of s.roster.ports) step ≡ true) h.sound.its_check comes) in record {
        scenario = t;
        reads = read_line s (Does step) line [] behind going feed says refl;
        stands = record { follows = follows; all_steps = ap (λ (l : List Step). l ++ step ∷ []) h.all_steps; sound = sound_more check t.roster s.steps (step ∷ []) here (refl, refl) one };
        part = behind_it line behind;
      }

  -- the last one
  last_by : (r : Result Said LineWhy) (last : Last) (new : ReaderState) (end : End) → whole_says s.roster line ≡ r → EndsBy s r last → new.roster ≡ s.roster
      → end.last ≡ Some last → end.close ≡ last → end.left ≡ left_by last (length behind) → Finishes check (line ++ 10 ∷ behind) (read 0 s (line ++ 10 ∷ behind)) new steps end
  last_by (Err why) last new end says is roster told close left =
      ends_badly check s (line ++ 10 ∷ behind) new steps (subst (λ (q : Roster). AreSound check q steps) (sym roster) its_own) end why [] h.all_steps (read_bad s why line behind going feed says)
      (told ∙ ap Some is) (close ∙ is) (left ∙ ap (λ l. left_by l (length behind)) is)
  last_by (Ok what) last new end says is roster told close left =
      let so : whole_says s.roster line ≡ Ok Ends = says ∙ ap Ok is.0 in
      ends_well check s (line ++ 10 ∷ behind) new steps (subst (λ (q : Roster). AreSound check q steps) (sym roster) its_own) end (takes s Ends []) behind (h.all_steps
      ∙ sym (append-nil s.steps)) roster refl
      (behind_it line behind) (read_line s Ends line [] behind going feed so refl) (told ∙ ap Some is.1) (close ∙ is.1) (left ∙ ap (λ l. left_by l (length behind)) is.1)

  pub last_one : (last : Last) (new : ReaderState) (end : End) → EndsBy s (whole_says s.roster line) last → new.roster ≡ s.roster
      → end.last ≡ Some last → end.close ≡ last → end.left ≡ left_by last (length behind) → Finishes check (line ++ 10 ∷ behind) (read 0 s (line ++ 10 ∷ behind)) new steps end
  last_one last new end is roster told close left = last_by (whole_says s.roster line) last new end refl is roster told close left

  -- one that is too long
  pub too_long : (end : End) → longest_line < length line → end.last ≡ Some (lasts.Bad (x.lines + 1) Long) → end.close ≡ lasts.Bad (x.lines + 1) Long → end.left ≡ 0
      → Finishes check (line ++ 10 ∷ behind) (read 0 s (line ++ 10 ∷ behind)) x steps end
  too_long end long told close left =
      let number : lasts.Bad (x.lines + 1) Long ≡ lasts.Bad (s.lines + 1) Long = ap (λ n. lasts.Bad (n + 1) Long) h.follows.lines in
      ends_badly check s (line ++ 10 ∷ behind) x steps (subst (λ (q : Roster). AreSound check q steps) (sym h.follows.roster) its_own) end Long [] h.all_steps
      (read_bad s Long line behind going feed (says_long s.roster line long)) (told ∙ ap Some number) (close ∙ number) left

  -- one whose section is next
  pub at_section : (new : ReaderState) (n : ℕ) → whole_says s.roster line ≡ Ok (Captures n) → Follows (captures s n) new → AtSection check s line n new steps
  at_section new n says follows = record { feedless = feed; says = says; follows = follows; going = going; all_steps = h.all_steps; sound = h.sound }

  -- what a reader says of it

  module _ (y : ReaderState) (next : Next) (takes_it : Takes x line y next) where
    took : (n : Next) → next ≡ n → Took s line y n
    took n is = subst (λ (m : Next). Took s line y m) is (takes_it s h.follows)

    pub goes_quietly : next ≡ nexts.Line → GoesOn check s (line ++ 10 ∷ behind) y steps behind
    goes_quietly is = let t = took nexts.Line is in quietly y t.0 t.1 t.2 t.3 t.4 t.5

    pub goes_by_step : (step : Step) (all : List Step) → next ≡ nexts.Step step → all ≡ steps ++ step ∷ [] → GoesOn check s (line ++ 10 ∷ behind) y all behind
    goes_by_step step all is same =
        let t = took (nexts.Step step) is in
        subst (λ (l : List Step). GoesOn check s (line ++ 10 ∷ behind) y l behind) (sym same) (stepped y step t.0 t.1 t.2)

    pub to_section : (n : ℕ) → next ≡ nexts.Section n → AtSection check s line n y steps
    to_section n is = let t = took (nexts.Section n) is in at_section y n t.0 t.2

    pub ends_line : (last : Last) (end : End) → next ≡ nexts.End last → end.last ≡ Some last → end.close ≡ last → end.left ≡ left_by last (length behind)
        → Finishes check (line ++ 10 ∷ behind) (read 0 s (line ++ 10 ∷ behind)) y steps end
    ends_line last end is told close left = let t = took (nexts.End last) is in last_one last y end t.0 t.1 told close left

-- no section is longer than may be
pub section_short : (x y : ReaderState) (line : List ℕ) (n : ℕ) (next : Next) → Takes x line y next → next ≡ nexts.Section n → n ≤ longest_section
section_short x y line n next takes_it is =
    let s : Scenario = record { lines = x.lines; roster = x.roster; steps = []; ending = Going } in
    let t : Took s line y (nexts.Section n) = subst (λ (m : Next). Took s line y m) is (takes_it s (record { lines = refl; roster = refl; going = refl })) in
    t.1

-- the last line, without its line feed
module _ (check : Bool) (s : Scenario) (rest : List ℕ) (x : ReaderState) (steps : List Step) (h : Stands check s x steps) (feed : is_line rest ≡ true) (end : End) where
  its_sound : AreSound check x.roster steps
  its_sound = subst (λ (q : Roster). AreSound check q steps) (sym h.follows.roster) (subst (λ (l : List Step). AreSound check s.roster l) (sym h.all_steps) h.sound)

  pub rest_too_long : longest_line < length rest → end.last ≡ Some (lasts.Bad (x.lines + 1) Long) → end.close ≡ lasts.Bad (x.lines + 1) Long → end.left ≡ 0
      → Finishes check rest (read 0 s rest) x steps end
  rest_too_long long told close left =
      let number : lasts.Bad (x.lines + 1) Long ≡ lasts.Bad (s.lines + 1) Long = ap (λ n. lasts.Bad (n + 1) Long) h.follows.lines in
      ends_badly check s rest x steps its_sound end Long rest h.all_steps (read_long_rest s rest h.follows.going feed long) (told ∙ ap Some number) (close ∙ number) left

  pub closed : length rest ≤ longest_line → (close : Last) → ((t : Scenario) → Follows t x → (closes t rest).ending ≡ ending_of close) → end.last ≡ None → end.close ≡ close → end.left ≡ 0
      → Finishes check rest (read 0 s rest) x steps end
  closed short close closes_so told is left =
      ends_within check s rest x steps its_sound end rest h.all_steps h.follows.going (read_rest s rest h.follows.going feed short) told (closes_so s h.follows ∙ sym (ap ending_of is))
      (λ e. h.follows.roster) left

-- a section

module _ (check : Bool) (s : Scenario) (line : List ℕ) (n : ℕ) (x : ReaderState) (steps : List Step) (h : AtSection check s line n x steps) where
  -- the place of the steps
  sound_there : AreSound check x.roster steps
  sound_there =
      let here : AreSound check (captures s n).roster steps =
      record {
        its_check = h.sound.its_check;
        by_line = subst (λ (l : List Step). list_all (comes_by_line check (chips_of s.roster.ports)) l ≡ true) (sym h.all_steps) h.sound.by_line;
        declared = inr (refl, refl);
      } in
      subst (λ (q : Roster). AreSound check q steps) (sym h.follows.roster) here

  -- which is cut off
  pub cut_off : (part : List ℕ) (end : End) → length part < n → end.last ≡ None → end.close ≡ lasts.Bad x.lines Unended → end.left ≡ 0
      → Finishes check (line ++ 10 ∷ part) (read 0 s (line ++ 10 ∷ part)) x steps end
  cut_off part end short told close left =
      ends_within check s (line ++ 10 ∷ part) x steps sound_there end [] h.all_steps h.going (read_part s (Captures n) line part h.going h.feedless h.says short) told
      (closes_within s.ending s h.going ∙ ap (λ k. Bad k Unended) (sym h.follows.lines) ∙ sym (ap ending_of close))
      (λ e. let over : lasts.Bad x.lines Unended ≡ lasts.Ended = sym close ∙ e in absurd (cc))
      left

  module _ (section more : List ℕ) (sized : length section ≡ n) where
    here : captured x.roster.ports (packets section (length x.roster.ports)) ≡ captured s.roster.ports (packets section (length s.roster.ports))
    here = ap (λ (q : Roster). captured q.ports (packets section (length q.ports))) h.follows.roster

    reads_it : (r : Result (List Step) LineWhy) → captured x.roster.ports (packets section (length x.roster.ports)) ≡ r
        → read 0 s (line ++ 10 ∷ (section ++ more)) ≡ read 0 (takes_steps s (Captures n) r) more
    reads_it r gives =
        read_line s (Captures n) line section more h.going h.feedless h.says sized ∙ ap (λ (o : Result (List Step) LineWhy). read 0 (takes_steps s (Captures n) o) more) (sym here ∙ gives)

    -- whose steps are done
    pub section_taken : (its : List Step) → captured x.roster.ports (packets section (length x.roster.ports)) ≡ Ok its → ComeByLine (chips_of x.roster.ports) its
        → GoesOn check s (line ++ 10 ∷ (section ++ more)) x (steps ++ its) more
    section_taken its gives comes =
        let t : Scenario = takes_steps s (Captures n) (Ok its) in
        let first : AreSound check t.roster s.steps = record { its_check = h.sound.its_check; by_line = h.sound.by_line; declared = inr (refl, refl) } in
        let these : list_all (comes_by_line check (chips_of t.roster.ports)) its ≡ true =
        subst (λ (q : Roster). list_all (comes_by_line check (chips_of q.ports)) its ≡ true) h.follows.roster (comes check) in record {
          scenario = t;
          reads = reads_it (Ok its) gives;
          stands = record {
            follows = record { lines = h.follows.lines; roster = h.follows.roster; going = refl };
            all_steps = ap (λ (l : List Step). l ++ its) h.all_steps;
            sound = sound_more check t.roster s.steps its first (refl, refl) these;
          };
          part =
              (line ++ 10 ∷ section, sym (append_assoc line (10 ∷ section) more));
        }

    -- a block of which is broken
    pub section_broken : (why : LineWhy) (end : End) → captured x.roster.ports (packets section (length x.roster.ports)) ≡ Err why → end.last ≡ Some (lasts.Bad x.lines why)
        → end.close ≡ lasts.Bad x.lines why
        → end.left ≡ 0 → Finishes check (line ++ 10 ∷ (section ++ more)) (read 0 s (line ++ 10 ∷ (section ++ more))) x steps end
    section_broken why end gives told close left =
        let number : lasts.Bad x.lines why ≡ lasts.Bad (s.lines + 1) why = ap (λ k. lasts.Bad k why) h.follows.lines in
        ends_badly check s (line ++ 10 ∷ (section ++ more)) x steps sound_there end why [] h.all_steps (reads_it (Err why) gives ∙ read_ended (bad s why) more refl) (told ∙ ap Some number) (close
        ∙ number) left

  module _ (behind : List ℕ) (within : n ≤ length behind) (gave : Gave) (captures_it : IsCaptured x (take n behind) gave) where
    cut : take n behind ++ drop n behind ≡ behind
    cut = take-append-drop n behind

    pub goes_by_section : (its : Vec Step Global) (all : List Step) → gave ≡ sections.Steps its → all ≡ steps ++ its.items
        → GoesOn check s (line ++ 10 ∷ behind) x all (take (length behind - n) (drop n behind))
    goes_by_section its all is same =
        let got : IsCaptured x (take n behind) (sections.Steps its) = subst (λ (c : Gave). IsCaptured x (take n behind) c) is captures_it in
        let first : GoesOn check s (line ++ 10 ∷ (take n behind ++ drop n behind)) x (steps ++ its.items) (drop n behind) =
        section_taken (take n behind) (drop n behind) (length-take-le n behind within) its.items got.0 got.1 in
        let rest : take (length behind - n) (drop n behind) ≡ drop n behind = take_all _ _ (omega (arith, length-drop n behind)) in
        subst (λ (l : List ℕ). GoesOn check s (line ++ 10 ∷ behind) x all l) (sym rest)
        (subst (λ (l : List Step). GoesOn check s (line ++ 10 ∷ behind) x l (drop n behind)) (sym same)
        (subst (λ (l : List ℕ). GoesOn check s (line ++ 10 ∷ l) x (steps ++ its.items) (drop n behind)) cut first))

    pub ends_in_section : (last : Last) (end : End) → gave ≡ sections.End last → end.last ≡ Some last → end.close ≡ last → end.left ≡ left_by last 0
        → Finishes check (line ++ 10 ∷ behind) (read 0 s (line ++ 10 ∷ behind)) x steps end
    ends_in_section last end is told close left =
        let got : IsCaptured x (take n behind) (sections.End last) = subst (λ (c : Gave). IsCaptured x (take n behind) c) is captures_it in
        subst (λ (l : List ℕ). Finishes check (line ++ 10 ∷ l) (read 0 s (line ++ 10 ∷ l)) x steps end) cut
        (section_broken (take n behind) (drop n behind) (length-take-le n behind within) got.0 end got.1 (told ∙ ap Some got.2) (close ∙ got.2) (left ∙ ap (λ (l : Last). left_by l 0) got.2))

-- one line after another

pub stays_at : (check : Bool) (s : Scenario) (bytes : List ℕ) (x : ReaderState) (steps : List Step) → Stands check s x steps → GoesOn check s bytes x steps bytes
stays_at check s bytes x steps h = record { scenario = s; reads = refl; stands = h; part = ([], refl) }

then_part : (bytes rest later : List ℕ) → EndWith bytes rest → EndWith rest later → EndWith bytes later
then_part bytes rest later h k = (h.0 ++ k.0, h.1 ∙ ap (λ (l : List ℕ). h.0 ++ l) k.1 ∙ sym (append_assoc h.0 k.0 later))

pub goes_on : (check : Bool) (s : Scenario) (bytes : List ℕ) (x y : ReaderState) (steps more : List Step) (rest later : List ℕ) (h : GoesOn check s bytes x steps rest)
    → GoesOn check h.scenario rest y more later
    → GoesOn check s bytes y more later
goes_on check s bytes x y steps more rest later h k =
    record { scenario = k.scenario; reads = h.reads ∙ k.reads; stands = k.stands; part = then_part bytes rest later h.part k.part }

pub goes_to_end : (check : Bool) (s : Scenario) (bytes : List ℕ) (x y : ReaderState) (steps more : List Step) (rest : List ℕ) (end : End) (h : GoesOn check s bytes x steps rest)
    → Finishes check rest (read 0 h.scenario rest) y more end → Finishes check bytes (read 0 s bytes) y more end
goes_to_end check s bytes x y steps more rest end h k =
    let part : EndWith rest (read 0 s bytes).behind = subst (λ (p : Progress). EndWith rest p.behind) (sym h.reads) k.part in
    let all : Finishes check rest (read 0 s bytes) y more end = subst (λ (p : Progress). Finishes check rest p y more end) (sym h.reads) k in
    record {
      all_steps = all.all_steps;
      close = all.close;
      roster = all.roster;
      last = all.last;
      same = all.same;
      part = then_part bytes rest _ h.part part;
      left = all.left;
      sound = all.sound;
    }

-- by the first line of what is left
pub line_on : (check : Bool) (s : Scenario) (bytes : List ℕ) (x y : ReaderState) (steps more : List Step) (rest line behind later : List ℕ) → GoesOn check s bytes x steps rest
    → rest ≡ line ++ 10 ∷ behind
    → ((t : Scenario) → Stands check t x steps → GoesOn check t (line ++ 10 ∷ behind) y more later) → GoesOn check s bytes y more later
line_on check s bytes x y steps more rest line behind later h joined k =
    goes_on check s bytes x y steps more rest later h (subst (λ (b : List ℕ). GoesOn check h.scenario b y more later) (sym joined) (k h.scenario h.stands))

pub line_ends : (check : Bool) (s : Scenario) (bytes : List ℕ) (x y : ReaderState) (steps more : List Step) (rest line behind : List ℕ) (end : End) → GoesOn check s bytes x steps rest
    → rest ≡ line ++ 10 ∷ behind
    → ((t : Scenario) → Stands check t x steps → Finishes check (line ++ 10 ∷ behind) (read 0 t (line ++ 10 ∷ behind)) y more end) → Finishes check bytes (read 0 s bytes) y more end
line_ends check s bytes x y steps more rest line behind end h joined k =
    goes_to_end check s bytes x y steps more rest end h (subst (λ (b : List ℕ). Finishes check b (read 0 h.scenario b) y more end) (sym joined) (k h.scenario h.stands))

-- the whole

first : (check : Bool) → Stands check (opened check) (record { lines = 0; roster = first_roster check }) []
first check = record { follows = record { lines = refl; roster = refl; going = refl }; all_steps = refl; sound = record { its_check = refl; by_line = refl; declared = inl refl } }

pub begins : (check : Bool) (x : ReaderState) (steps : List Step) → x ≡ record { lines = 0; roster = first_roster check } → steps ≡ [] → Stands check (opened check) x steps
begins check x steps is none =
    subst (λ (y : ReaderState). Stands check (opened check) y steps) (sym is)
    (subst (λ (l : List Step). Stands check (opened check) (record { lines = 0; roster = first_roster check }) l) (sym none) (first check))

pub left_within : (check : Bool) (bytes : List ℕ) (p : Progress) (x : ReaderState) (steps : List Step) (end : End) → Finishes check bytes p x steps end → end.left ≤ length bytes
left_within check bytes p x steps end h = omega (arith, h.left, ap length h.part.1, length-append h.part.0 p.behind)

dropped : (bytes past behind : List ℕ) (n : ℕ) → bytes ≡ past ++ behind → n ≡ length behind → drop (length bytes - n) bytes ≡ behind
dropped bytes past behind n joined is =
    let at : length bytes - n ≡ length past = omega (arith, ap length joined, length-append past behind, is) in
    ap (λ k. drop k bytes) at ∙ ap (drop (length past)) joined ∙ drop-append_seam past behind

by_its : (check : Bool) (bytes : List ℕ) → scenario_by check bytes ≡ closes (read 0 (opened check) bytes).scenario (read 0 (opened check) bytes).line
unfolding scenario_by
by_its check bytes = refl

behind_its : (check : Bool) (bytes : List ℕ) → behind_end check bytes ≡ (read 0 (opened check) bytes).behind
unfolding behind_end
behind_its check bytes = refl

pub says_whole : (check : Bool) (bytes : List ℕ) (x : ReaderState) (steps : List Step) (end : End) → Finishes check bytes (read 0 (opened check) bytes) x steps end
    → SaysWhole check bytes (record { roster = x.roster; steps = steps; last = end.last; close = end.close; behind = length bytes - end.left })
says_whole check bytes x steps end h = record {
  steps = h.all_steps ∙ ap (λ (s : Scenario). s.steps) (sym (by_its check bytes));
  close = ap (λ (s : Scenario). s.ending) (by_its check bytes) ∙ h.close;
  roster = λ e. h.roster e ∙ ap (λ (s : Scenario). s.roster) (sym (by_its check bytes));
  last = h.last;
  same = h.same;
  behind = dropped bytes h.part.0 _ end.left h.part.1 h.left ∙ sym (behind_its check bytes);
  within = omega arith;
  its_check = h.sound.its_check;
  by_line = h.sound.by_line;
  declared = h.sound.declared;
}
