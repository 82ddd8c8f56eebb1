-- Answers to lines, and to more lines behind them.
use Rattle.std.proofs.Common.{◌≡◌, refl, sym, ap, ◌∙◌, List, [], ◌∷◌, ◌++◌, ℕ, ◌+◌, min, arith, append_assoc, Option, take, length, subst}
use Rattle.std.specs.Io.KnownBytes.{Appends}
use Rattle.std.proofs.KnownBytes.{Appends-trans}
use Rattle.std.proofs.Math.Seq.{take-append-add, take-append_seam}
use Rattle.std.proofs.lemmas.List.{take-append-le, take_min}
use Rattle.outside.specs.Bytes.{AppendsPrefix}
use Rattle.query_session.specs.State.{State}
use Rattle.query_program.specs.Answers.{answer, answers_from, state_after, state_after_line}

pub answers_from-append : (state : State) (a b : List (List ℕ)) → answers_from state (a ++ b) ≡ answers_from state a ++ answers_from (state_after state a) b
answers_from-append state [] b = refl
answers_from-append state (line ∷ a) b =
    ap (λ xs. answer state line ++ xs) (answers_from-append (state_after_line state line) a b)
    ∙ sym (append_assoc (answer state line) (answers_from (state_after_line state line) a) (answers_from (state_after (state_after_line state line) a) b))

pub state_after-append : (state : State) (a b : List (List ℕ)) → state_after state (a ++ b) ≡ state_after (state_after state a) b
state_after-append state [] b = refl
state_after-append state (line ∷ a) b = state_after-append (state_after_line state line) a b

-- a first part of what follows is a first part of all
pub prefix-behind : (a b c : Option (List ℕ)) (front rest : List ℕ) → Appends a b front → AppendsPrefix b c rest → AppendsPrefix a c (front ++ rest)
prefix-behind a b c front rest first more =
    (length front + more.0, subst (Appends a c) (sym (take-append-add front rest more.0)) (Appends-trans a b c front (take more.0 rest) first more.1))

-- all of the front is a first part
pub prefix-front : (a b : Option (List ℕ)) (front rest : List ℕ) → Appends a b front → AppendsPrefix a b (front ++ rest)
prefix-front a b front rest h = (length front, subst (Appends a b) (sym (take-append_seam front rest)) h)

-- a first part of the front is a first part of all
pub prefix-more : (a b : Option (List ℕ)) (front rest : List ℕ) → AppendsPrefix a b front → AppendsPrefix a b (front ++ rest)
prefix-more a b front rest h =
    let n = min h.0 (length front) in
    (n, subst (Appends a b) (sym (take-append-le n front rest (omega arith) ∙ take_min h.0 front)) h.1)
