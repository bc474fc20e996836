-- The words among what stands between spaces.
use Rattle.std.specs.Prelude.{◌≡◌, ℕ, ◌==◌, Bool, true, false, not, ◌&&◌, List, [], ◌∷◌, ◌++◌, map, codes, Some, Ok}
use Rattle.std.specs.Char.{is_ascii}
use Rattle.std.specs.List.{filter}
use Rattle.br_model.specs.Data.Digits.{decimal_from}
use Rattle.br_model.specs.Text.Operands.{device, number}
use Rattle.br_model.specs.Text.Roster.{Entry}
use Rattle.br_model.specs.Text.Words.{Word, is_word, readable, words}

abbrev pub words_among : List Word → List Word
words_among parts = map readable (filter is_word parts)

-- no space, and a byte that words may have
abbrev pub is_plain : ℕ → Bool
is_plain c = not (c == 32) && is_ascii c

-- a word that spells a number stands in front of a space and the rest
pub record Numbered (text : List ℕ) (number : ℕ) (rest : List ℕ) : Type 0 where
  pub word : Word
  pub text_is : text ≡ word ++ 32 ∷ rest
  pub spells : decimal_from word ≡ Some number

-- the line of a frame that enters
abbrev pub enters : List ℕ → List ℕ
enters entry = 114 ∷ 120 ∷ 32 ∷ entry

-- the line of a command of a port's flag
abbrev pub links : List ℕ → List ℕ
links text = codes "cmd link " ++ text

-- the line of a command of a VLAN's member
abbrev pub joins : List ℕ → List ℕ
joins text = codes "cmd vlan " ++ text

-- a text names a VLAN and a port: `VID dev NAME`
pub record Member (ports : List Entry) (text : List ℕ) (vid port : ℕ) : Type 0 where
  pub number_word : Word
  pub name : Word
  pub says : words text ≡ number_word ∷ codes "dev" ∷ name ∷ []
  pub number_is : number 1 4094 number_word ≡ Ok vid
  pub port_is : device ports name ≡ Ok port

-- the line of a moment
abbrev pub moves : List ℕ → List ℕ
moves text = codes "now " ++ text

abbrev pub switch_word : Bool → List ℕ
switch_word true = codes "on"
switch_word false = codes "off"
