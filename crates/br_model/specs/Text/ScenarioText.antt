-- Steps as lines of a scenario.
-- Source: this profile.
use Rattle.std.specs.Prelude.{ℕ, Bool, false, List, [], ◌∷◌, ◌++◌}
use Rattle.std.specs.declared.option.Option.{Option}
use Rattle.std.specs.declared.option.Option.TheVariants.{None, Some}
use Rattle.br_model.specs.declared.steps.Step.{Step}
use Rattle.br_model.specs.Text.Forms.{Form, words_of, all_values}
use Rattle.br_model.specs.Text.LineForms.{step_form}
use Rattle.br_model.specs.Text.Operands.{in_range, is_known}
use Rattle.br_model.specs.Text.Roster.{Entry}
use Rattle.br_model.specs.Text.Words.{Word, joined}

-- a step that no line gives has no words
abbrev pub words_in : List Entry → Option Form → List Word
words_in ports None = []
words_in ports (Some f) = words_of ports f.shape f.values

-- a step's line, without its line feed
abbrev pub step_words : List Entry → Step → List ℕ
step_words ports step = joined (words_in ports (step_form step))

-- and with it
abbrev pub step_text : List Entry → Step → List ℕ
step_text ports step = step_words ports step ++ 10 ∷ []

abbrev pub fits_in : List Entry → Option Form → Bool
fits_in ports None = false
fits_in ports (Some f) = all_values (in_range ports) f.shape f.values

-- Whether a line can give the step where these ports are declared. A frame may be of any length.
abbrev pub has_line : List Entry → Step → Bool
has_line ports step = fits_in ports (step_form step)

abbrev pub knows_in : List Entry → Option Form → Bool
knows_in ports None = false
knows_in ports (Some f) = all_values (is_known ports) f.shape f.values

-- whether the step has a form, and the ports that it names are declared
abbrev pub names_declared : List Entry → Step → Bool
names_declared ports step = knows_in ports (step_form step)
