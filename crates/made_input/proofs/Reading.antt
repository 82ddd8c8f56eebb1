-- What a read gives of a line, and what is left.
use Rattle.std.proofs.Common.{◌≡◌, ℕ, suc, ◌+◌, ◌-◌, ◌<◌, ◌≤◌, List, [], ◌∷◌, ◌++◌, length, take, drop, ap, sym, ◌∙◌, arith, append_assoc, take-append-drop}
use Rattle.std.proofs.Math.Seq.{take-append_seam}
use Rattle.std.proofs.lemmas.List.{drop-drop, drop_all, length-take-le}
use Rattle.made_input.specs.Made.{batch_line, batch_lines, after_batch, joined}

-- the bytes to come are those at the buffer's front and then what is left of the line, and the other lines
pub given : (line copied behind others : List ℕ) (at n : ℕ) → n ≤ length (drop at line) → copied ≡ take n (drop at line)
    → drop at line ++ others ≡ take n (copied ++ behind) ++ (drop (at + n) line ++ others)
given line copied behind others at n inside is =
    let size : length copied ≡ n = ap length is ∙ length-take-le n (drop at line) inside in
    let front : take n (copied ++ behind) ≡ take n (drop at line) = ap (λ k. take k (copied ++ behind)) (sym size) ∙ take-append_seam copied behind ∙ is in
    let parts : drop at line ≡ take n (drop at line) ++ drop (at + n) line = sym (take-append-drop n (drop at line)) ∙ ap (λ l. take n (drop at line) ++ l) (drop-drop n at line) in
    ap (λ l. l ++ others) parts ∙ append_assoc (take n (drop at line)) (drop (at + n) line) others ∙ ap (λ l. l ++ (drop (at + n) line ++ others)) (sym front)

-- nothing is left where no line is
pub none-left : (line : List ℕ) (at u n x : ℕ) → length line ≤ at → n ≡ 0 → drop at line ++ joined (batch_lines u n x) ≡ []
none-left line at u n x end none = ap (λ k. drop at line ++ joined (batch_lines u k x)) none ∙ ap (λ l. l ++ []) (drop_all at line end)

-- the next line is what comes where a line has been read
pub next-line : (line next : List ℕ) (at u n x y : ℕ) → length line ≤ at → 0 < n → next ≡ batch_line u x ++ 10 ∷ [] → y ≡ after_batch x
    → drop at line ++ joined (batch_lines u n x) ≡ next ++ joined (batch_lines u (n - 1) y)
next-line line next at u n x y end some is state_is =
    let step : n ≡ suc (n - 1) = omega (arith, some) in
    ap (λ l. l ++ joined (batch_lines u n x)) (drop_all at line end)
    ∙ ap (λ k. joined (batch_lines u k x)) step
    ∙ sym (append_assoc (batch_line u x) (10 ∷ []) (joined (batch_lines u (n - 1) (after_batch x))))
    ∙ ap (λ l. l ++ joined (batch_lines u (n - 1) (after_batch x))) (sym is)
    ∙ ap (λ s. next ++ joined (batch_lines u (n - 1) s)) (sym state_is)
