use Rattle.std.proofs.Common.{◌≡◌, ℕ, suc, ◌+◌, List, [], ◌∷◌, ◌++◌, length, take, sym, ap, ◌∙◌, arith}
use Rattle.literal_rows.specs.Rows.{rows_of, row_starts, literal_row}
use Rattle.literal_rows.proofs.Placed.{rows_of-take, below_listed, starts-take}
use Rattle.literal_rows.proofs.rows.rows_after.Goals as goal

-- one row more is that of the next literal, and it begins behind those before it
pub loop-number-preserved : goal.loop-number-preserved
loop-number-preserved c =
    let ls : List (List ℕ) = c.args.literals.now in
    let n : ℕ = c.loop-number.number in
    let next : suc n ≡ n + 1 = omega arith in
    let was = c.loop-number.invariant in
    let long = ap length was.0 in
    let before : c.args.before + c.len.result ≡ c.args.before + length (rows_of (take n ls)) = omega (arith, long, c.len.ensures) in
    let there = below_listed ls n c.get.result.now c.get.ensures in (
      c.in_ok-push_row.ensures ∙ ap (λ (r : List ℕ). r ++ literal_row c.get.result.now) was.0
          ∙ sym (rows_of-take ls n c.get.result.now c.get.ensures) ∙ ap (λ (m : ℕ). rows_of (take m ls)) next,
      c.in_ok-push.ensures.items ∙ (λ t. was.1 t ++ before t ∷ []) ∙ sym (starts-take c.args.before ls n there)
          ∙ ap (λ (m : ℕ). row_starts c.args.before (take m ls)) next,
    )
