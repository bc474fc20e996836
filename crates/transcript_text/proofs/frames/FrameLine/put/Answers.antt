use Rattle.std.proofs.Common.{◌^◌, ◌<◌, ◌∷◌, [], drop, sym, subst, arith}
use Rattle.std.specs.Fmt.{decimal}
use Rattle.std.specs.Str.{IsUtf8}
use Rattle.std.proofs.lemmas.Str.{IsUtf8-append}
use Rattle.transcript_text.proofs.Decimals.{decimal_utf8}
use Rattle.transcript_text.proofs.Hex.{space_utf8}
use Rattle.transcript_text.proofs.Starts.{from_start, is_made}
use Rattle.transcript_text.proofs.frames.FrameLine.put.Goals as goal

pub from_utf8_unchecked-requires : goal.from_utf8_unchecked-requires
from_utf8_unchecked-requires c =
    let put = c.put_start-from.ensures in
    let made = is_made c.self.inside.is_made (drop 32 c.self.inside.text.items) c.args.self.now c.self.view_is c.requires.made in
    let small : c.args.port < 2 ^ 64 = omega (arith, c.ranges.port.fits) in
    subst IsUtf8
    (sym (from_start c.as_mut_slice.result.now c.put_start-from.new.text c.as_slice.result.now c.self.inside.text.items c.args.start.now
    (decimal c.args.port) c.self.inside.text.len c.put_start-from.result c.as_slice.ensures.value (omega arith) put.start))
    (IsUtf8-append _ _ put.utf8
    (IsUtf8-append _ _ (decimal_utf8 c.args.port small) (IsUtf8-append (32 ∷ []) _ space_utf8 (subst (λ l. IsUtf8 (drop 32 l)) (sym c.as_mut_slice.ensures.value) (c.self.invariant made).1))))
