use Rattle.std.proofs.Common.{◌≡◌, arith, ◌∙◌, String, string_bytes}
use Rattle.std.specs.declared.alloc.Global.{Global}
use Rattle.std.proofs.lemmas.Result.{IfOk-weaker}
use Rattle.br_model.specs.Data.Digits.{hex_of}
use Rattle.br_model.proofs.Data.Hex.{encode_lower-is}
use Rattle.hex.specs.Hex.{encode_lower}
use Rattle.run_world.proofs.asking.digits_of.Goals as goal

pub returns : goal.returns
returns c =
    let same : (text : String Global) → string_bytes text ≡ encode_lower c.args.bytes.now → string_bytes text ≡ hex_of c.args.bytes.now =
    λ text is. is ∙ encode_lower-is c.args.bytes.now (λ k. omega (arith, c.type_inv.bytes k)) in
    IfOk-weaker _ _ _ same c.encode.ensures
