-- What has ended stays, and every scenario ends.
use Rattle.std.proofs.Common.{◌≡◌, ℕ, ◌+◌, Bool, true, false, if◌then◌else◌, List, [], ◌∷◌, refl, sym, ◌∙◌, ap}
use Rattle.br_model.specs.declared.scenario.LineWhy.TheVariants.{Place, Unended}
use Rattle.br_model.specs.Text.CommandForms.{step}
use Rattle.br_model.specs.Text.Words.{words}
use Rattle.br_model.specs.Text.Scenario.{Scenario, Ending, Going, Ended, Bad, Progress, reads_at, read, closes, closes_at, ends, bad, is_end, opened, scenario, scenario_by}

-- whether a scenario is over
abbrev pub has_ended : Ending → Bool
has_ended Going = false
has_ended Ended = true
has_ended (Bad n why) = true

-- what stands behind the end
abbrev pub behind_at : Ending → List ℕ → List ℕ
behind_at Going bytes = []
behind_at Ended bytes = bytes
behind_at (Bad n why) bytes = []

stays : (d : Ending) (s : Scenario) (bytes : List ℕ) (go_on : ℕ → Scenario → Progress) → has_ended d ≡ true
    → reads_at d s bytes go_on ≡ record { scenario = s; line = []; behind = behind_at d bytes }
stays Going s bytes go_on h = absurd (cc)
stays Ended s bytes go_on h = refl
stays (Bad n why) s bytes go_on h = refl

-- what has ended takes no more lines
nothing_behind : (d : Ending) → behind_at d [] ≡ []
nothing_behind Going = refl
nothing_behind Ended = refl
nothing_behind (Bad n why) = refl

pub read_ended : (s : Scenario) (bytes : List ℕ) → has_ended s.ending ≡ true → read 0 s bytes ≡ record { scenario = s; line = []; behind = behind_at s.ending bytes }
unfolding read
read_ended s [] e = ap (λ (b : List ℕ). record { scenario = s; line = []; behind = b }) (sym (nothing_behind s.ending))
read_ended s (byte ∷ bytes) e = stays s.ending s (byte ∷ bytes) (λ n t. read n t bytes) e

closes_by : (d : Ending) (s : Scenario) (line : List ℕ) → has_ended d ≡ true → closes_at d s line ≡ s
closes_by Going s line h = absurd (cc)
closes_by Ended s line h = refl
closes_by (Bad n why) s line h = refl

-- a line that isn't whole ends what goes on
pub closes_within : (d : Ending) (s : Scenario) → d ≡ Going → (closes_at d s []).ending ≡ Bad (s.lines + 1) Unended
closes_within Going s e = refl
closes_within Ended s e = absurd (cc)
closes_within (Bad n why) s e = absurd (cc)

pub closes_ended : (s : Scenario) (line : List ℕ) → has_ended s.ending ≡ true → closes s line ≡ s
closes_ended s line e = closes_by s.ending s line e

-- every scenario ends

ended : (b : Bool) (s : Scenario) → (if b then record s { lines = s.lines + 1; ending = Ended } else bad s Place).ending ≡ Going → ⊥
ended true s h = absurd (cc)
ended false s h = absurd (cc)

closed_end : (b : Bool) (s : Scenario) → (if b then ends s else bad s Unended).ending ≡ Going → ⊥
closed_end true s h = ended (step s.roster.place) s h
closed_end false s h = absurd (cc)

closed : (d : Ending) (s : Scenario) (line : List ℕ) → s.ending ≡ d → (closes_at d s line).ending ≡ Going → ⊥
closed Going s line e h = closed_end (is_end (words line)) s h
closed Ended s line e h = let over : Ended ≡ Going = sym e ∙ h in absurd (cc)
closed (Bad n why) s line e h = let over : Bad n why ≡ Going = sym e ∙ h in absurd (cc)

pub every_ends : (bytes : List ℕ) → (scenario bytes).ending ≡ Going → ⊥
unfolding scenario_by
every_ends bytes h = let p : Progress = read 0 (opened false) bytes in closed p.scenario.ending p.scenario p.line refl h
