use Rattle.std.proofs.Common.{◌≡◌, ℕ, true, false, length, Option, sym, ◌∙◌, ap, arith, rules}
use Rattle.bridge_command.specs.Seen.{word, switched}
use Rattle.bridge_command.proofs.Links.{on_row, off_row}
use Rattle.bridge_command.proofs.ports.link_command.Goals as goal

pub returns-in-link-3 : goal.returns-in-link-3
returns-in-link-3 c =
    let four : length c.args.words.now ≡ 4 = omega (arith, c.in-link-3.len_at_least, c.in-link-3.len_below) in
    c.switched.ensures
    ∙ ap (λ (flag : Option ℕ). switched c.args.r.now (word c.args.words.now 1) flag true) c.flag.ensures
    ∙ sym (on_row c.args.r.now (length c.args.words.now) (word c.args.words.now) four c.in-link-3.is-link c.in-link-3.is-on (search rules) (search rules))

pub returns-in-link-4 : goal.returns-in-link-4
returns-in-link-4 c =
    let four : length c.args.words.now ≡ 4 = omega (arith, c.in-link-4.len_at_least, c.in-link-4.len_below) in
    c.switched-in-link-4.ensures
    ∙ ap (λ (flag : Option ℕ). switched c.args.r.now (word c.args.words.now 1) flag false) c.flag-in-link-4.ensures
    ∙ sym (off_row c.args.r.now (length c.args.words.now) (word c.args.words.now) four c.in-link-4.is-link c.in-link-4.is-off (search rules) (search rules))
