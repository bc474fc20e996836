-- Worked runs of a querier: the text of each scenario, and what is told of its queries.
-- Source: this profile; the queries were worked out by hand.
use Rattle.std.specs.Prelude.{ℕ, List, [], ◌∷◌, ◌++◌, codes}
use Rattle.br_model.specs.Theorems.WholeLines.{lines_text}

-- 10.0.0.9, 10.0.0.10 and fe80::9
abbrev pub nine : ℕ
nine = 0x0A000009

abbrev pub ten : ℕ
ten = 0x0A00000A

abbrev pub nine_six : ℕ
nine_six = 0xFE800000000000000000000000000009

-- the lines of the queries, behind their moments: of version 4 from each address, and of version 6
abbrev pub by_nine : List ℕ
by_nine = codes "01005e000001020000000001080046c00020000040000102fa0d0a000009e0000001940400001164ee9b00000000"

abbrev pub by_ten : List ℕ
by_ten = codes "01005e000001020000000001080046c00020000040000102fa0c0a00000ae0000001940400001164ee9b00000000"

abbrev pub by_six : List ℕ
by_six =
    codes "33330000000102000000000186dd6000000000200001fe800000000000000000000000000009"
    ++ codes "ff0200000000000000000000000000013a000502000001008200590f2710000000000000000000000000000000000000"

-- Nobody else asks: two queries a startup interval apart, and the next one a query interval later.
abbrev pub due_moments_text : List ℕ
due_moments_text = lines_text (
    codes "scenario 1" ∷
    codes "now 0" ∷
    codes "now 31249" ∷
    codes "now 31250" ∷
    codes "now 156249" ∷
    codes "now 156250" ∷
    codes "end" ∷
    [])

abbrev pub due_moments_told : List ℕ
due_moments_told = lines_text (
    (codes "query 0 " ++ by_nine) ∷
    (codes "query 0 " ++ by_six) ∷
    (codes "query 31250 " ++ by_nine) ∷
    (codes "query 31250 " ++ by_six) ∷
    (codes "query 156250 " ++ by_nine) ∷
    (codes "query 156250 " ++ by_six) ∷
    codes "end" ∷
    [])

-- 10.0.0.9 asks, at moment 0.
abbrev pub heard_nine : List (List ℕ)
heard_nine =
    codes "scenario 1" ∷
    codes "port 1 p1 soft" ∷
    codes "port 2 p2 soft" ∷
    codes "port 3 p3 soft" ∷
    codes "cmd port up p1" ∷
    codes "cmd port up p2" ∷
    codes "cmd port up p3" ∷
    codes "publish" ∷
    codes "rx 1 01005e00000102000000000e08004500001c000000000102cfd60a000009e00000011164ee9b00000000" ∷
    codes "serve" ∷
    []

-- The host at 10.0.0.10 yields to it, for 255 seconds.
abbrev pub yields_text : List ℕ
yields_text = lines_text (heard_nine ++ codes "now 1000" ∷ codes "now 255000" ∷ codes "end" ∷ [])

abbrev pub yields_told : List ℕ
yields_told = lines_text (
    (codes "query 1000 " ++ by_six) ∷
    (codes "query 255000 " ++ by_ten) ∷
    (codes "query 255000 " ++ by_six) ∷
    codes "end" ∷
    [])
