use Rattle.std.proofs.Common.{List, length, string_bytes, ap, ℕ}
use Rattle.std.proofs.lemmas.Str.{IsUtf8-string_bytes}
use Rattle.scenario_play.proofs.Cutting.{torn}
use Rattle.scenario_play.proofs.play.Play.append_last.Goals as goal

pub cut_if_torn-requires : goal.cut_if_torn-requires
cut_if_torn-requires g c =
    let before = c.args.text.now in
    let after = c.write_last-appended.new.text in
    let whole = ap (λ (bytes : List ℕ). length bytes) c.as_bytes-whole.ensures.value in
    record {
      seam = torn c.write_last-appended.result (string_bytes before) (string_bytes after) (length c.as_bytes-whole.result.now) (IsUtf8-string_bytes before)
          (IsUtf8-string_bytes after) whole c.write_last-appended.ensures.err;
    }
