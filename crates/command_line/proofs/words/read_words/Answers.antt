use Rattle.std.proofs.Common.{◌≡◌, ◌∙◌, sym, ap, map, Option, List, string_bytes, refl, true, inl, inr, None, [], ◌∷◌}
use Rattle.std.specs.Option.{option_and_then}
use Rattle.std.proofs.lemmas.Bool.{false≢true}
use Rattle.br_model.specs.Text.Words.{Word}
use Rattle.clap.specs.Words.{App, Kinds, IsAmong, fault_of, is_simple, is_simple_and_free, subcommand_of}
use Rattle.clap.specs.declared.error.ErrorKind.{ErrorKind}
use Rattle.clap.proofs.OnLiterals.{clap_on_literals}
use Rattle.command_line.specs.declared.asked.Asked.{Asked}
use Rattle.command_line.specs.Words.{asked, asked_with, command, unless_fault}
use Rattle.command_line.proofs.words.read_words.Goals as goal

simple : is_simple command ≡ true
unfolding clap_on_literals
simple = refl

free : is_simple_and_free command ≡ true
unfolding clap_on_literals
free = refl

none_at_fault : (k : ErrorKind) (kinds : Kinds) (found : Option Asked) → IsAmong k kinds → None ≡ unless_fault kinds found
none_at_fault k [] found h = absurd h
none_at_fault k (x ∷ xs) found h = refl

pub returns-in-Ok-clause-value : goal.returns-in-Ok-clause-value
unfolding asked
returns-in-Ok-clause-value c =
    let words : List Word = map string_bytes c.args.words.now in
    let app = c.in_ok-command.ensures.app in
    let no_fault = c.in-Ok.ensures.kinds (ap is_simple_and_free app ∙ free) in
    let rows = (c.in-Ok.ensures.matches (ap is_simple app ∙ simple)).1 in
    c.asked_from.ensures.value
    ∙ ap (option_and_then asked_with) (rows ∙ ap (λ (a : App). subcommand_of a words) app)
    ∙ sym (ap (λ (k : Kinds). unless_fault k (option_and_then asked_with (subcommand_of command words))) (ap (λ (a : App). fault_of a words) (sym app) ∙ no_fault))

pub returns-in-Err-2-clause-value : goal.returns-in-Err-2-clause-value
unfolding asked
returns-in-Err-2-clause-value c =
    let words : List Word = map string_bytes c.args.words.now in
    let app = c.in_ok-command.ensures.app in
    let found = option_and_then asked_with (subcommand_of command words) in
    let kinds = c.in-Err.ensures.kinds (ap is_simple_and_free app ∙ free) in
    elim kinds [
      | inl memory ↦ absurd (false≢true (sym c.if-eq.false ∙ (let same = c.kind.ensures ∙ memory in rw same at c.eq.ensures)))
      | inr among ↦ none_at_fault _ _ found among ∙ ap (λ (a : App). unless_fault (fault_of a words) found) app
    ]
