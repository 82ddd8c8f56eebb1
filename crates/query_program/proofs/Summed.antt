-- The summary, from what was tallied.
use Rattle.std.proofs.Common.{◌≡◌, ℕ, List, [], ◌++◌, length, ap, subst, ◌∙◌, false, Option, Some, Result, Ok, Err, IfOk}
use Rattle.std.specs.Result.{is_err, result_ok}
use Rattle.made_input.specs.Made.{made}
use Rattle.query_program.specs.Answers.{answers, empty}
use Rattle.query_program.specs.Ends.{Ends}
use Rattle.query_program.specs.Summary.{summary, summary_text, mark_of}
use Rattle.query_program.specs.declared.stop.Stop.{Stop}

pub ok_from : {A E : Type 0} (P : A → Type 0) (r : Result A E) (x : A) → result_ok r ≡ Some x → IfOk r P → P x
ok_from P (Ok y) x e h = let same : y ≡ x = cc in subst P same h
ok_from P (Err y) x e h = cc

-- all answers were written
pub tallied : (end : Result (Unit {0}) Stop) (left : Option (List ℕ)) (input before after : List ℕ) → is_err end ≡ false → before ≡ [] → Ends empty left (Some before) (Some after) end input
    → after ≡ answers input
tallied (Ok x) left input before after e b ends = ends.how.replies ∙ ap (λ bs. bs ++ answers input) b
tallied (Err stop) left input before after e b ends = cc

pub summed : (text : List ℕ) (number lines n : ℕ) (written : List ℕ) → text ≡ summary_text lines n (length written) (mark_of written) → n ≡ length (made number lines)
    → written ≡ answers (made number lines) → text ≡ summary number lines
unfolding summary
summed text number lines n written t l w =
    t ∙ (ap (λ k. summary_text lines k (length written) (mark_of written)) l ∙ ap (λ bs. summary_text lines (length (made number lines)) (length bs) (mark_of bs)) w)
