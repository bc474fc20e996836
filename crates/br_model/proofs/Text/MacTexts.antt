-- The text of a MAC address, written in parts one behind another.
use Rattle.std.proofs.Common.{◌≡◌, ℕ, List, [], ◌∷◌, ◌++◌, ◌∙◌}
use Rattle.lemmas.proofs.Lists.{three_parts}
use Rattle.br_model.specs.Data.Digits.{hex_of}
use Rattle.br_model.specs.Text.Spelling.{byte_at, mac_text}

-- three pairs of digits
abbrev pub three_pairs : ℕ → ℕ → ℕ → List ℕ
three_pairs a b c = hex_of (a ∷ []) ++ (58 ∷ hex_of (b ∷ []) ++ (58 ∷ hex_of (c ∷ [])))

-- six pairs, a colon between the third and the fourth
pub mac_parts : (mac a b c d e f : ℕ) (s0 s1 s2 s3 : List ℕ)
    → a ≡ byte_at mac 40 → b ≡ byte_at mac 32 → c ≡ byte_at mac 24 → d ≡ byte_at mac 16 → e ≡ byte_at mac 8 → f ≡ byte_at mac 0
    → s1 ≡ s0 ++ three_pairs a b c → s2 ≡ s1 ++ 58 ∷ [] → s3 ≡ s2 ++ three_pairs d e f → s3 ≡ s0 ++ mac_text mac
mac_parts mac a b c d e f s0 s1 s2 s3 i j k l m n p q r =
    three_parts s0 s1 s2 s3 (three_pairs a b c) (58 ∷ []) (three_pairs d e f) p q r
    ∙ (λ t. s0 ++ (three_pairs (i t) (j t) (k t) ++ (58 ∷ [] ++ three_pairs (l t) (m t) (n t))))
