-- Which message a frame's type asks for.
use Rattle.std.proofs.Common.{◌≡◌, ℕ, ◌==◌, ◌-◌, List, length, take, drop, if◌then◌else◌, refl, sym, ◌∙◌, ap, arith}
use Rattle.std.proofs.lemmas.List.{take_all, length-drop}
use Rattle.br_model.specs.declared.frame.Head.{Head}
use Rattle.br_model.specs.declared.frame.McastMsg.{McastMsg}
use Rattle.br_model.specs.declared.frame.McastMsg.TheVariants.{Plain}
use Rattle.br_model.specs.Wire.IpHeaders.{type_four, type_six}
use Rattle.br_model.specs.Wire.Messages.{message, message_six}

of_six : (a b : McastMsg) (kind : ℕ) → kind ≡ 34525 → (if kind == type_four then a else if kind == type_six then b else Plain) ≡ b
of_six a b kind e = rw e refl

pub by_six : (bytes : List ℕ) (head : Head) (m : McastMsg) → head.kind ≡ 34525
    → m ≡ message_six head.dst head.body (take (length bytes - head.body) (drop head.body bytes)) → m ≡ message bytes head
unfolding message
by_six bytes head m e is =
    is
    ∙ ap (message_six head.dst head.body) (take_all (length bytes - head.body) (drop head.body bytes) (omega (arith, length-drop head.body bytes)))
    ∙ sym (of_six _ _ head.kind e)
