use Rattle.std.proofs.Common.{◌∷◌, sym, ◌∙◌, arith}
use Rattle.neigh_netlink.specs.Follow.{words}
use Rattle.neigh_netlink.proofs.LineWords.{first-word}
use Rattle.neigh_netlink.proofs.follow.first_word.Goals as goal

pub returns : goal.returns
returns c =
    let rest = c.trimmed-rest.result.now in
    let n = c.word_length.result in
    sym c.trimmed-rest.ensures.same
    ∙ first-word rest n (λ none. grind (arith, none, c.is_empty.ensures, c.if-is_empty.false)) c.trimmed-rest.ensures.word c.word_length.ensures.word c.word_length.ensures.behind
    ∙ (λ i. sym c.split_at.ensures.front i ∷ words (sym c.split_at.ensures.back i))
