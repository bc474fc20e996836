-- The one line that `demo NUMBER COUNT` writes: the counts of the lines of a generated scenario's run.
-- Source: this profile.
use Rattle.std.specs.Prelude.{ℕ, List, [], ◌∷◌, ◌++◌, length, get_or, count_by, codes}
use Rattle.std.specs.Fmt.{decimal}
use Rattle.std.specs.Str.{bytes_eq}
use Rattle.br_model.specs.declared.transcript.Line.{Line}
use Rattle.br_model.specs.Program.Generator.{made}
use Rattle.br_model.specs.Plane.Runs.{pending}
use Rattle.br_model.specs.Plane.World.{Stepped}
use Rattle.br_model.specs.Program.Runs.{run_of}
use Rattle.br_model.specs.Text.Scenario.{scenario}
use Rattle.br_model.specs.Text.Transcript.{line_words}
use Rattle.br_model.specs.Text.Words.{Word}

-- the first word of a line
abbrev pub kind_of : Line → Word
kind_of l = get_or (line_words l) 0 []

-- how many lines begin with this word
abbrev pub count_of : Word → List Line → ℕ
count_of word lines = count_by (λ line. bytes_eq (kind_of line) word) lines

abbrev pub summary_text : ℕ → Stepped → List ℕ
summary_text count x =
    codes "demo frames " ++ (decimal count
    ++ (codes " chip " ++ (decimal (count_of (codes "chip") x.1)
    ++ (codes " soft " ++ (decimal (count_of (codes "soft") x.1)
    ++ (codes " tx " ++ (decimal (count_of (codes "tx") x.1)
    ++ (codes " overrun " ++ (decimal (count_of (codes "overrun") x.1)
    ++ (codes " changes " ++ (decimal (length x.0.history)
    ++ (codes " pending " ++ (decimal (pending x.0) ++ 10 ∷ [])))))))))))))

-- what `demo` writes
unfoldable pub summary : ℕ → ℕ → List ℕ
summary x count = summary_text count (run_of (scenario (made x count)))
