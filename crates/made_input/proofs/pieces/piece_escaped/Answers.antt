use Rattle.std.proofs.Common.{◌≡◌, [], ◌∷◌, sym, subst, arith}
use Rattle.made_input.specs.Pieces.{piece}
use Rattle.made_input.specs.Made.{escaped}
use Rattle.made_input.proofs.Eight.{piece-0, piece-1, piece-2, piece-3, piece-4, piece-5, piece-6, piece-7}
use Rattle.made_input.proofs.pieces.piece_escaped.Goals as goal

pub returns-in-0 : goal.returns-in-0
returns-in-0 c = subst (λ n. (108 ∷ 101 ∷ 116 ∷ 32 ∷ 116 ∷ 111 ∷ 116 ∷ 97 ∷ 108 ∷ 32 ∷ 61 ∷ 32 ∷ 116 ∷ 111 ∷ 116 ∷ 97 ∷ 108 ∷ 32 ∷ 43 ∷ 32 ∷ 105 ∷ 116 ∷ 101 ∷ 109 ∷ 95 ∷ 118 ∷ 97 ∷ 108 ∷ 117 ∷ 101 ∷ 59 ∷ 92 ∷ 110 ∷ []) ≡ escaped (piece n)) (sym c.in-0.is) (sym piece-0)

pub returns-in-1 : goal.returns-in-1
returns-in-1 c = subst (λ n. (47 ∷ 47 ∷ 32 ∷ 114 ∷ 195 ∷ 169 ∷ 115 ∷ 117 ∷ 109 ∷ 195 ∷ 169 ∷ 32 ∷ 111 ∷ 102 ∷ 32 ∷ 116 ∷ 104 ∷ 101 ∷ 32 ∷ 111 ∷ 112 ∷ 101 ∷ 110 ∷ 32 ∷ 97 ∷ 99 ∷ 99 ∷ 111 ∷ 117 ∷ 110 ∷ 116 ∷ 115 ∷ 92 ∷ 110 ∷ []) ≡ escaped (piece n)) (sym c.in-1.is) (sym piece-1)

pub returns-in-2 : goal.returns-in-2
returns-in-2 c = subst (λ n. (102 ∷ 110 ∷ 32 ∷ 97 ∷ 114 ∷ 101 ∷ 97 ∷ 40 ∷ 119 ∷ 58 ∷ 32 ∷ 117 ∷ 54 ∷ 52 ∷ 44 ∷ 32 ∷ 104 ∷ 58 ∷ 32 ∷ 117 ∷ 54 ∷ 52 ∷ 41 ∷ 32 ∷ 45 ∷ 62 ∷ 32 ∷ 117 ∷ 54 ∷ 52 ∷ 92 ∷ 110 ∷ []) ≡ escaped (piece n)) (sym c.in-2.is) (sym piece-2)

pub returns-in-3 : goal.returns-in-3
returns-in-3 c = subst (λ n. (32 ∷ 32 ∷ 32 ∷ 32 ∷ 105 ∷ 102 ∷ 32 ∷ 99 ∷ 111 ∷ 117 ∷ 110 ∷ 116 ∷ 32 ∷ 62 ∷ 32 ∷ 48 ∷ 32 ∷ 123 ∷ 32 ∷ 114 ∷ 101 ∷ 116 ∷ 117 ∷ 114 ∷ 110 ∷ 59 ∷ 32 ∷ 125 ∷ 92 ∷ 110 ∷ []) ≡ escaped (piece n)) (sym c.in-3.is) (sym piece-3)

pub returns-in-4 : goal.returns-in-4
returns-in-4 c = subst (λ n. (32 ∷ 32 ∷ 32 ∷ 32 ∷ 115 ∷ 116 ∷ 111 ∷ 114 ∷ 101 ∷ 46 ∷ 112 ∷ 117 ∷ 115 ∷ 104 ∷ 40 ∷ 114 ∷ 111 ∷ 119 ∷ 44 ∷ 32 ∷ 99 ∷ 111 ∷ 108 ∷ 117 ∷ 109 ∷ 110 ∷ 41 ∷ 59 ∷ 92 ∷ 110 ∷ []) ≡ escaped (piece n)) (sym c.in-4.is) (sym piece-4)

pub returns-in-5 : goal.returns-in-5
returns-in-5 c = subst (λ n. (47 ∷ 47 ∷ 32 ∷ 110 ∷ 97 ∷ 195 ∷ 175 ∷ 118 ∷ 101 ∷ 44 ∷ 32 ∷ 116 ∷ 104 ∷ 101 ∷ 110 ∷ 32 ∷ 102 ∷ 97 ∷ 115 ∷ 116 ∷ 101 ∷ 114 ∷ 58 ∷ 32 ∷ 230 ∷ 151 ∷ 165 ∷ 230 ∷ 156 ∷ 172 ∷ 232 ∷ 170 ∷ 158 ∷ 92 ∷ 110 ∷ []) ≡ escaped (piece n)) (sym c.in-5.is) (sym piece-5)

pub returns-in-6 : goal.returns-in-6
returns-in-6 c = subst (λ n. (125 ∷ 32 ∷ 47 ∷ 47 ∷ 32 ∷ 101 ∷ 110 ∷ 100 ∷ 32 ∷ 111 ∷ 102 ∷ 32 ∷ 116 ∷ 104 ∷ 105 ∷ 115 ∷ 32 ∷ 98 ∷ 108 ∷ 111 ∷ 99 ∷ 107 ∷ 32 ∷ 104 ∷ 101 ∷ 114 ∷ 101 ∷ 92 ∷ 110 ∷ []) ≡ escaped (piece n)) (sym c.in-6.is) (sym piece-6)

pub returns-in_default : goal.returns-in_default
returns-in_default c =
    let last : c.args.number ≡ 7 = omega arith in
    subst (λ n. (47 ∷ 47 ∷ 32 ∷ 100 ∷ 111 ∷ 110 ∷ 101 ∷ 32 ∷ 240 ∷ 159 ∷ 152 ∷ 128 ∷ 32 ∷ 97 ∷ 110 ∷ 100 ∷ 32 ∷ 99 ∷ 104 ∷ 101 ∷ 99 ∷ 107 ∷ 101 ∷ 100 ∷ 32 ∷ 116 ∷ 119 ∷ 105 ∷ 99 ∷ 101 ∷ 92 ∷ 110 ∷ []) ≡ escaped (piece n)) (sym last) (sym piece-7)
