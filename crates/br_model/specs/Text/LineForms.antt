-- The lines of a scenario, a row a form, and the commands behind `cmd`; and the form of each step.
-- Source: this profile.
use Rattle.std.specs.Prelude.{ℕ, ◌+◌, ◌-◌, ◌==◌, nat_le, Bool, true, false, if◌then◌else◌, List, [], ◌∷◌, ◌++◌, length, codes, slice_index_or}
use Rattle.std.specs.List.{list_any}
use Rattle.std.specs.Option.{option_map}
use Rattle.std.specs.declared.option.Option.{Option}
use Rattle.std.specs.declared.option.Option.TheVariants.{None, Some}
use Rattle.std.specs.declared.result.Result.{Result}
use Rattle.std.specs.declared.result.Result.TheVariants.{Ok, Err}
use Rattle.std.specs.Str.{bytes_eq}
use Rattle.br_model.specs.declared.domains.Edition.TheVariants.{One, Two}
use Rattle.br_model.specs.declared.scenario.LineWhy.{LineWhy}
use Rattle.br_model.specs.declared.scenario.Place.{Place}
use Rattle.br_model.specs.declared.scenario.Place.TheVariants.{Opening, Header, Declarations, Steps}
use Rattle.br_model.specs.declared.scenario.Said.{Said}
use Rattle.br_model.specs.declared.scenario.Said.TheVariants.{Blank, Opens, Bridge, Declares, Does, Captures, Ends}
use Rattle.br_model.specs.declared.steps.Command.{Command}
use Rattle.br_model.specs.declared.steps.Step.{Step}
use Rattle.br_model.specs.declared.steps.Step.TheVariants.{Rx, Cmd, Now, Serve, Hold, Post, Turn, Report, Sweep, Publish}
use Rattle.br_model.specs.Text.CommandForms.{commands, command_form, step}
use Rattle.br_model.specs.Table.Domains.{software}
use Rattle.br_model.specs.Text.Forms.{Row, row, check_row, line, Form, Fixed, fills}
use Rattle.br_model.specs.Text.Operands.{last_moment}
use Rattle.br_model.specs.Text.Roster.{Roster}
use Rattle.br_model.specs.Text.Spelling.{shown}
use Rattle.br_model.specs.Text.Words.{Word, words, is_comment}

-- the first line that isn't skipped
abbrev pub opening : Place → Bool
opening Opening = true
opening Header = false
opening Declarations = false
opening Steps = false

-- directly after it
abbrev pub header : Place → Bool
header Opening = false
header Header = true
header Declarations = false
header Steps = false

-- after it, and before the first step or capture
abbrev pub declaration : Place → Bool
declaration Opening = false
declaration Header = true
declaration Declarations = true
declaration Steps = false

abbrev pub declarations : List (Row Said)
declarations =
    row (codes "scenario 1") opening (Opens One) ∷
    row (codes "scenario 2") opening (Opens Two) ∷
    row (codes "bridge MAC") header (λ mac. Bridge mac) ∷
    row (codes "port NUMBER NEWNAME soft") declaration (λ port name. Declares port name software) ∷
    row (codes "port NUMBER NEWNAME chip DOMAIN") declaration (λ port name dom. Declares port name dom) ∷
    []

abbrev pub rx : Row Said
rx = row (codes "rx PORT HEX") step (λ port bytes. Does (Rx port bytes))

abbrev pub now : Row Said
now = row (codes "now MS") step (λ moment. Does (Now moment))

abbrev pub serve : Row Said
serve = row (codes "serve") step (Does Serve)

abbrev pub hold : Row Said
hold = row (codes "hold") step (Does Hold)

abbrev pub post : Row Said
post = row (codes "post ID") step (λ id. Does (Post id None))

-- A replay posts by the floor; what `check` reads says by which point.
abbrev pub post_at : Row Said
post_at = check_row (codes "post ID at POINT") step (λ id point. Does (Post id (Some point)))

abbrev pub turn : Row Said
turn = row (codes "turn CHIP") step (λ dom. Does (Turn dom))

abbrev pub report : Row Said
report = row (codes "report CHIP") step (λ dom. Does (Report dom))

abbrev pub sweep : Row Said
sweep = row (codes "sweep CHIP") step (λ dom. Does (Sweep dom))

abbrev pub publish : Row Said
publish = row (codes "publish") step (Does Publish)

-- a frame on its way through software
abbrev pub frames : List (Row Said)
frames = rx ∷ serve ∷ hold ∷ post ∷ post_at ∷ []

abbrev pub steps : List (Row Said)
steps =
    now ∷ turn ∷ report ∷ sweep ∷ publish ∷
    row (codes "capture LENGTH") step (λ n. Captures n) ∷
    row (codes "end") step Ends ∷
    []

abbrev pub lines : List (Row Said)
lines = declarations ++ (frames ++ steps)

abbrev pub commanded : Result Command LineWhy → Result Said LineWhy
commanded (Err why) = Err why
commanded (Ok command) = Ok (Does (Cmd command))

-- what a line of n words says: a command after `cmd`, or a row of the lines
abbrev pub words_say : Roster → ℕ → (ℕ → Word) → Result Said LineWhy
words_say roster n word =
    if bytes_eq (word 0) (codes "cmd") then commanded (line commands roster (n - 1) (λ i. word (i + 1))) else
    line lines roster n word

abbrev pub all_say : Roster → List Word → Result Said LineWhy
all_say roster [] = Ok Blank
all_say roster (w ∷ ws) = words_say roster (length (w ∷ ws)) (λ i. slice_index_or (w ∷ ws) i [])

-- what a line says, without its line feed
unfoldable pub line_says : Roster → List ℕ → Result Said LineWhy
line_says roster bytes = if is_comment bytes then Ok Blank else all_say roster (words bytes)

abbrev pub behind_cmd : Form → Form
behind_cmd f = record { shape = Fixed (codes "cmd") ∷ f.shape; values = f.values }

-- the form that gives a step
abbrev pub step_form : Step → Option Form
step_form (Rx port bytes) = Some (fills rx port (shown bytes))
step_form (Cmd command) = option_map behind_cmd (command_form command)
step_form (Now moment) = Some (fills now moment)
step_form Serve = Some (fills serve)
step_form Hold = Some (fills hold)
step_form (Post id None) = Some (fills post id)
step_form (Post id (Some point)) = Some (fills post_at id point)
step_form (Turn dom) = Some (fills turn dom)
step_form (Report dom) = Some (fills report dom)
step_form (Sweep dom) = Some (fills sweep dom)
step_form Publish = Some (fills publish)

-- Whether a line can give the step, for `check` or not, where these domains have switch chips, whatever port it names: no line
-- names the chip of another domain, and only `check` reads one that names a point.
abbrev pub comes_by_line : Bool → List ℕ → Step → Bool
comes_by_line check chips (Rx port bytes) = true
comes_by_line check chips (Cmd command) = true
comes_by_line check chips (Now moment) = nat_le moment last_moment
comes_by_line check chips Serve = true
comes_by_line check chips Hold = true
comes_by_line check chips (Post id None) = true
comes_by_line check chips (Post id (Some point)) = check
comes_by_line check chips (Turn dom) = list_any (λ d. d == dom) chips
comes_by_line check chips (Report dom) = list_any (λ d. d == dom) chips
comes_by_line check chips (Sweep dom) = list_any (λ d. d == dom) chips
comes_by_line check chips Publish = true
