use Rattle.std.proofs.Common.{◌∙◌, arith}
use Rattle.br_model.specs.declared.bpdu.BpduMsg.TheVariants.{Config}
use Rattle.ether_frames.proofs.BpduReads.{byte-at, read-at}
use Rattle.ether_frames.proofs.bpdus.config_at.Goals as goal

pub returns : goal.returns
returns c =
    let b = c.args.b.now in
    let flags = byte-at 21 b (omega arith) in
    let root = c.read_u64.ensures ∙ read-at 8 22 b (omega arith) in
    let cost = c.read_u32.ensures ∙ read-at 4 30 b (omega arith) in
    let bridge = c.read_u64-2.ensures ∙ read-at 8 34 b (omega arith) in
    let port = c.read_u16.ensures ∙ read-at 2 42 b (omega arith) in
    let age = c.read_u16-2.ensures ∙ read-at 2 44 b (omega arith) in
    let max = c.read_u16-3.ensures ∙ read-at 2 46 b (omega arith) in
    let hello = c.read_u16-4.ensures ∙ read-at 2 48 b (omega arith) in
    let delay = c.read_u16-5.ensures ∙ read-at 2 50 b (omega arith) in
    λ i. Config (flags i) (root i) (cost i) (bridge i) (port i) (age i) (max i) (hello i) (delay i)
