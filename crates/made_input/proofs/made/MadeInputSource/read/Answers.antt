use Rattle.std.proofs.Common.{◌≡◌, ◌+◌, ◌≤◌, length, drop, sym, inl, inr, ◌∙◌, arith, length-drop}
use Rattle.made_input.specs.Made.{batch_lines, joined}
use Rattle.made_input.proofs.Reading.{given, none-left}
use Rattle.made_input.proofs.made.MadeInputSource.read.Goals as goal

-- the buffer's front comes before what is left of the line, and it is empty only where no line is left
pub returns-then-self-len-clause-bytes : goal.returns-then-self-len-clause-bytes
returns-then-self-len-clause-bytes c =
    let m = c.self.inside in
    let n = c.min-count.result in
    let inside : n ≤ length (drop m.at m.line) = omega (arith, length-drop m.at m.line) in
    let last : n ≡ 0 → (m.lines_left ≡ 0) × (length m.line ≤ m.at + n) = λ none.
    elim c.self.invariant.1 as (λ _. (m.lines_left ≡ 0) × (length m.line ≤ m.at + n)) [
      | inl below ↦ absurd (omega (arith, below, none))
      | inr is ↦ (is, omega (arith, none))
    ] in (
      sym c.self.view_is ∙ given m.line c.copy_from_slice.new.self (drop n c.args.buf.now) (joined (batch_lines m.units m.lines_left m.draws.state)) m.at n inside (c.copy_from_slice.ensures.after ∙ c.part.ensures),
      λ none. none-left m.line (m.at + n) m.units m.lines_left m.draws.state (last none).1 (last none).0,
    )
