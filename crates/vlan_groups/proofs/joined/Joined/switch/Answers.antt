use Rattle.std.proofs.Common.{◌≡◌, not, ℕ, List, ◌+◌, ◌*◌, ◌/◌, ◌%◌, ◌<◌, set, get_or, [], sym, ap, ap₂, subst, ◌∙◌, arith}
use Rattle.std.proofs.lemmas.List.{get_or_default}
use Rattle.lists.specs.Padded.{padded}
use Rattle.vlan_groups.specs.Joined.{block_count, block_switched, Switches}
use Rattle.vlan_groups.specs.UsedSets.{AreUsed}
use Rattle.vlan_groups.proofs.Switching.{switches}
use Rattle.vlan_groups.proofs.UsedSets.{set_used}
use Rattle.vlan_groups.proofs.joined.Joined.switch.Goals as goal

pub returns-clause-vlan : goal.returns-clause-vlan
returns-clause-vlan c =
    let p = c.args.p in
    let v = c.args.v in
    let blocks = padded [] block_count c.self.inside.blocks.items in
    let place : 64 * c.from-port.result + c.from.result ≡ 64 * p + v / 64 = omega arith in
    let at : ℕ = 64 * c.from-port.result + c.from.result in
    let block = c.block_in.ensures ∙ ap (λ (bs : List (List ℕ)). get_or (padded [] block_count bs) at []) c.as_slice.ensures.value ∙ ap (λ i. get_or blocks i []) place in
    let written : Switches blocks (set blocks (64 * p + v / 64) c.switched-block.result) p v c.args.on =
    switches blocks c.switched-block.result p v c.args.on c.self.invariant.0.sized (omega arith) (omega arith)
    (c.switched-block.ensures ∙ ap₂ (λ b n. block_switched b n c.args.on) block (ap (λ n. n % 64) c.number-vid.ensures.value)) in
    let now : padded [] block_count c.put_block.new.blocks.items ≡ set blocks (64 * p + v / 64) c.switched-block.result =
    c.put_block.ensures.blocks ∙ ap (λ i. set blocks i c.switched-block.result) place in
    subst (λ b. Switches b (padded [] block_count c.put_block.new.blocks.items) p v c.args.on) c.self.view_is
    (subst (λ b. Switches blocks b p v c.args.on) (sym now) written)

pub invariant_of-self : goal.invariant_of-self
invariant_of-self c =
    let blocks = padded [] block_count c.self.inside.blocks.items in
    let used = c.self.inside.used.items in
    let port = c.from-port.result in
    let i = c.from.result in
    let row : c.index.result.now ≡ get_or used port [] = c.index.ensures ∙ get_or_default used port c.index.result.now [] (subst (λ n. port < n) (sym c.self.invariant.0.ports) (omega arith)) in
    let at : c.number-vid.result / 64 ≡ i = omega arith in
    let now : c.switched.result ≡ block_switched (get_or used port []) i (not c.is_empty.result) = c.switched.ensures ∙ ap₂ (λ (u : List ℕ) n. block_switched u n (not c.is_empty.result)) row at in (
      subst (λ (bs : List (List ℕ)). AreUsed bs (set used port c.switched.result)) (sym c.put_block.ensures.blocks)
          (set_used blocks used port i c.switched-block.result c.switched.result c.is_empty.result c.self.invariant.0 (omega arith) (omega arith) now c.is_empty.ensures),
      c.put_block.ensures.room,
    )
