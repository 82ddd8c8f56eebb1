-- The pieces that a made source text consists of, as lists of scalars, each with a newline at its end.
use Rattle.std.specs.Prelude.{ℕ, List, [], ◌∷◌, ◌++◌, codes, get_or}

abbrev pub pieces : List (List ℕ)
pieces =
    (codes "let total = total + item_value;" ++ 10 ∷ [])
    ∷ (codes "// r" ++ 0xE9 ∷ codes "sum" ++ 0xE9 ∷ codes " of the open accounts" ++ 10 ∷ [])
    ∷ (codes "fn area(w: u64, h: u64) -> u64" ++ 10 ∷ [])
    ∷ (codes "    if count > 0 { return; }" ++ 10 ∷ [])
    ∷ (codes "    store.push(row, column);" ++ 10 ∷ [])
    ∷ (codes "// na" ++ 0xEF ∷ codes "ve, then faster: " ++ 0x65E5 ∷ 0x672C ∷ 0x8A9E ∷ 10 ∷ [])
    ∷ (codes "} // end of this block here" ++ 10 ∷ [])
    ∷ (codes "// done " ++ 0x1_F600 ∷ codes " and checked twice" ++ 10 ∷ [])
    ∷ []

-- the piece with a number below 8
unfoldable pub piece : ℕ → List ℕ
piece number = get_or pieces number []
