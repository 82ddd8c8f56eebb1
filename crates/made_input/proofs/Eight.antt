-- The pieces, one by one.
use Rattle.std.proofs.Common.{◌≡◌, ℕ, zero, suc, ◌<◌, ◌≤◌, [], ◌∷◌, length, refl, arith, sym, subst, lit≤}
use Rattle.json.specs.Print.{escape_byte}
use Rattle.text_spec.specs.Text.{utf16}
use Rattle.made_input.specs.Pieces.{piece}
use Rattle.made_input.specs.Made.{escaped}

pub by_eight : (P : ℕ → Type 0) → P 0 → P 1 → P 2 → P 3 → P 4 → P 5 → P 6 → P 7 → (n : ℕ) → n < 8 → P n
by_eight P p0 p1 p2 p3 p4 p5 p6 p7 zero below = p0
by_eight P p0 p1 p2 p3 p4 p5 p6 p7 (suc zero) below = p1
by_eight P p0 p1 p2 p3 p4 p5 p6 p7 (suc (suc zero)) below = p2
by_eight P p0 p1 p2 p3 p4 p5 p6 p7 (suc (suc (suc zero))) below = p3
by_eight P p0 p1 p2 p3 p4 p5 p6 p7 (suc (suc (suc (suc zero)))) below = p4
by_eight P p0 p1 p2 p3 p4 p5 p6 p7 (suc (suc (suc (suc (suc zero))))) below = p5
by_eight P p0 p1 p2 p3 p4 p5 p6 p7 (suc (suc (suc (suc (suc (suc zero)))))) below = p6
by_eight P p0 p1 p2 p3 p4 p5 p6 p7 (suc (suc (suc (suc (suc (suc (suc zero))))))) below = p7
by_eight P p0 p1 p2 p3 p4 p5 p6 p7 (suc (suc (suc (suc (suc (suc (suc (suc n)))))))) below = let no : ⊥ = omega (arith, below) in absurd no

pub piece-0 : escaped (piece 0) ≡ 108 ∷ 101 ∷ 116 ∷ 32 ∷ 116 ∷ 111 ∷ 116 ∷ 97 ∷ 108 ∷ 32 ∷ 61 ∷ 32 ∷ 116 ∷ 111 ∷ 116 ∷ 97 ∷ 108 ∷ 32 ∷ 43 ∷ 32 ∷ 105 ∷ 116 ∷ 101 ∷ 109 ∷ 95 ∷ 118 ∷ 97 ∷ 108 ∷ 117 ∷ 101 ∷ 59 ∷ 92 ∷ 110 ∷ []
unfolding escaped piece escape_byte lib.Utf8.encode
piece-0 = refl

pub piece-1 : escaped (piece 1) ≡ 47 ∷ 47 ∷ 32 ∷ 114 ∷ 195 ∷ 169 ∷ 115 ∷ 117 ∷ 109 ∷ 195 ∷ 169 ∷ 32 ∷ 111 ∷ 102 ∷ 32 ∷ 116 ∷ 104 ∷ 101 ∷ 32 ∷ 111 ∷ 112 ∷ 101 ∷ 110 ∷ 32 ∷ 97 ∷ 99 ∷ 99 ∷ 111 ∷ 117 ∷ 110 ∷ 116 ∷ 115 ∷ 92 ∷ 110 ∷ []
unfolding escaped piece escape_byte lib.Utf8.encode
piece-1 = refl

pub piece-2 : escaped (piece 2) ≡ 102 ∷ 110 ∷ 32 ∷ 97 ∷ 114 ∷ 101 ∷ 97 ∷ 40 ∷ 119 ∷ 58 ∷ 32 ∷ 117 ∷ 54 ∷ 52 ∷ 44 ∷ 32 ∷ 104 ∷ 58 ∷ 32 ∷ 117 ∷ 54 ∷ 52 ∷ 41 ∷ 32 ∷ 45 ∷ 62 ∷ 32 ∷ 117 ∷ 54 ∷ 52 ∷ 92 ∷ 110 ∷ []
unfolding escaped piece escape_byte lib.Utf8.encode
piece-2 = refl

pub piece-3 : escaped (piece 3) ≡ 32 ∷ 32 ∷ 32 ∷ 32 ∷ 105 ∷ 102 ∷ 32 ∷ 99 ∷ 111 ∷ 117 ∷ 110 ∷ 116 ∷ 32 ∷ 62 ∷ 32 ∷ 48 ∷ 32 ∷ 123 ∷ 32 ∷ 114 ∷ 101 ∷ 116 ∷ 117 ∷ 114 ∷ 110 ∷ 59 ∷ 32 ∷ 125 ∷ 92 ∷ 110 ∷ []
unfolding escaped piece escape_byte lib.Utf8.encode
piece-3 = refl

pub piece-4 : escaped (piece 4) ≡ 32 ∷ 32 ∷ 32 ∷ 32 ∷ 115 ∷ 116 ∷ 111 ∷ 114 ∷ 101 ∷ 46 ∷ 112 ∷ 117 ∷ 115 ∷ 104 ∷ 40 ∷ 114 ∷ 111 ∷ 119 ∷ 44 ∷ 32 ∷ 99 ∷ 111 ∷ 108 ∷ 117 ∷ 109 ∷ 110 ∷ 41 ∷ 59 ∷ 92 ∷ 110 ∷ []
unfolding escaped piece escape_byte lib.Utf8.encode
piece-4 = refl

pub piece-5 : escaped (piece 5) ≡ 47 ∷ 47 ∷ 32 ∷ 110 ∷ 97 ∷ 195 ∷ 175 ∷ 118 ∷ 101 ∷ 44 ∷ 32 ∷ 116 ∷ 104 ∷ 101 ∷ 110 ∷ 32 ∷ 102 ∷ 97 ∷ 115 ∷ 116 ∷ 101 ∷ 114 ∷ 58 ∷ 32 ∷ 230 ∷ 151 ∷ 165 ∷ 230 ∷ 156 ∷ 172 ∷ 232 ∷ 170 ∷ 158 ∷ 92 ∷ 110 ∷ []
unfolding escaped piece escape_byte lib.Utf8.encode
piece-5 = refl

pub piece-6 : escaped (piece 6) ≡ 125 ∷ 32 ∷ 47 ∷ 47 ∷ 32 ∷ 101 ∷ 110 ∷ 100 ∷ 32 ∷ 111 ∷ 102 ∷ 32 ∷ 116 ∷ 104 ∷ 105 ∷ 115 ∷ 32 ∷ 98 ∷ 108 ∷ 111 ∷ 99 ∷ 107 ∷ 32 ∷ 104 ∷ 101 ∷ 114 ∷ 101 ∷ 92 ∷ 110 ∷ []
unfolding escaped piece escape_byte lib.Utf8.encode
piece-6 = refl

pub piece-7 : escaped (piece 7) ≡ 47 ∷ 47 ∷ 32 ∷ 100 ∷ 111 ∷ 110 ∷ 101 ∷ 32 ∷ 240 ∷ 159 ∷ 152 ∷ 128 ∷ 32 ∷ 97 ∷ 110 ∷ 100 ∷ 32 ∷ 99 ∷ 104 ∷ 101 ∷ 99 ∷ 107 ∷ 101 ∷ 100 ∷ 32 ∷ 116 ∷ 119 ∷ 105 ∷ 99 ∷ 101 ∷ 92 ∷ 110 ∷ []
unfolding escaped piece escape_byte lib.Utf8.encode
piece-7 = refl

pub units-0 : length (utf16 (piece 0)) ≡ 32
unfolding piece
units-0 = refl

pub units-1 : length (utf16 (piece 1)) ≡ 31
unfolding piece
units-1 = refl

pub units-2 : length (utf16 (piece 2)) ≡ 31
unfolding piece
units-2 = refl

pub units-3 : length (utf16 (piece 3)) ≡ 29
unfolding piece
units-3 = refl

pub units-4 : length (utf16 (piece 4)) ≡ 29
unfolding piece
units-4 = refl

pub units-5 : length (utf16 (piece 5)) ≡ 27
unfolding piece
units-5 = refl

pub units-6 : length (utf16 (piece 6)) ≡ 28
unfolding piece
units-6 = refl

pub units-7 : length (utf16 (piece 7)) ≡ 29
unfolding piece
units-7 = refl

pub piece-short : (n : ℕ) → n < 8 → length (escaped (piece n)) ≤ 40
piece-short = by_eight (λ n. length (escaped (piece n)) ≤ 40)
    (subst (λ p. length p ≤ 40) (sym piece-0) (lit≤ tt))
    (subst (λ p. length p ≤ 40) (sym piece-1) (lit≤ tt))
    (subst (λ p. length p ≤ 40) (sym piece-2) (lit≤ tt))
    (subst (λ p. length p ≤ 40) (sym piece-3) (lit≤ tt))
    (subst (λ p. length p ≤ 40) (sym piece-4) (lit≤ tt))
    (subst (λ p. length p ≤ 40) (sym piece-5) (lit≤ tt))
    (subst (λ p. length p ≤ 40) (sym piece-6) (lit≤ tt))
    (subst (λ p. length p ≤ 40) (sym piece-7) (lit≤ tt))

pub units-some : (n : ℕ) → n < 8 → (27 ≤ length (utf16 (piece n))) × (length (utf16 (piece n)) ≤ 32)
units-some = by_eight (λ n. (27 ≤ length (utf16 (piece n))) × (length (utf16 (piece n)) ≤ 32))
    (subst (λ u. (27 ≤ u) × (u ≤ 32)) (sym units-0) (lit≤ tt, lit≤ tt))
    (subst (λ u. (27 ≤ u) × (u ≤ 32)) (sym units-1) (lit≤ tt, lit≤ tt))
    (subst (λ u. (27 ≤ u) × (u ≤ 32)) (sym units-2) (lit≤ tt, lit≤ tt))
    (subst (λ u. (27 ≤ u) × (u ≤ 32)) (sym units-3) (lit≤ tt, lit≤ tt))
    (subst (λ u. (27 ≤ u) × (u ≤ 32)) (sym units-4) (lit≤ tt, lit≤ tt))
    (subst (λ u. (27 ≤ u) × (u ≤ 32)) (sym units-5) (lit≤ tt, lit≤ tt))
    (subst (λ u. (27 ≤ u) × (u ≤ 32)) (sym units-6) (lit≤ tt, lit≤ tt))
    (subst (λ u. (27 ≤ u) × (u ≤ 32)) (sym units-7) (lit≤ tt, lit≤ tt))
