use Rattle.std.proofs.Common.{arith}
use Rattle.br_model.proofs.Wire.Frames.{frame-is_head}
use Rattle.ether_frames.proofs.frames.tag_bytes.Goals as goal

pub tag_bits-requires : goal.tag_bits-requires
tag_bits-requires c =
    (frame-is_head c.args.b.now c.args.head.now (λ i. omega (arith, c.type_inv.b i)) c.requires).tag
