-- How many names are in use after jobs are kept.
use Rattle.std.proofs.Common.{◌≡◌, refl, sym, ap, ◌∙◌, true, false, ◌||◌, ◌+◌, ◌<◌, List, [], ◌∷◌, ℕ, map, take, length, get_or, Option}
use Rattle.std.specs.FinMap as finite
use Rattle.std.proofs.lemmas.List.Sums.{fold_more}
use Rattle.query_lines.specs.declared.command.JobLine.{JobLine}
use Rattle.query_session.specs.Keeping.{kept, names_of, names_one, is_new}
use Rattle.query_session.specs.Kept.{keep_job, keeps_of, with_keeps}
use Rattle.query_session.specs.State.{State, is_in_use}
use Rattle.query_session.proofs.Keeping.{same-names, itself, contains-under, len-under-new, len-under-old}

abbrev blank : JobLine → Option (List ℕ) × List ℕ
blank j = (j.keep, [])

blank-kept : (s : State) (jobs : List JobLine) → with_keeps s jobs ≡ kept s (map blank jobs)
blank-kept s [] = refl
blank-kept s (j ∷ js) = blank-kept (keep_job s j) js

names-blank : (jobs : List JobLine) → names_of (map blank jobs) ≡ keeps_of jobs
names-blank [] = refl
names-blank (j ∷ js) = ap (λ os. j.keep ∷ os) (names-blank js)

-- whatever the texts are
pub count-kept : (s : State) (jobs : List JobLine) (pairs : List (Option (List ℕ) × List ℕ)) → names_of pairs ≡ keeps_of jobs
    → finite.len (with_keeps s jobs) ≡ finite.len (kept s pairs)
count-kept s jobs pairs same =
    ap finite.len (blank-kept s jobs) ∙ (same-names s s (map blank jobs) pairs (names-blank jobs ∙ sym same) (itself s)).len

-- after one job more
pub in-use-more : (s : State) (jobs : List JobLine) (i : ℕ) (j : JobLine) (q : List ℕ) → i < length jobs → j ≡ get_or jobs i j
    → is_in_use (with_keeps s (take (i + 1) jobs)) q ≡ (names_one q j.keep || is_in_use (with_keeps s (take i jobs)) q)
in-use-more s jobs i j q below is =
    ap (λ (x : State). is_in_use x q) (fold_more keep_job s jobs i j below ∙ ap (keep_job (with_keeps s (take i jobs))) (sym is))
    ∙ contains-under (with_keeps s (take i jobs)) j.keep [] q

pub count-more : (s : State) (jobs : List JobLine) (i : ℕ) (j : JobLine) → i < length jobs → j ≡ get_or jobs i j → is_new (with_keeps s (take i jobs)) j.keep ≡ true
    → finite.len (with_keeps s (take (i + 1) jobs)) ≡ finite.len (with_keeps s (take i jobs)) + 1
count-more s jobs i j below is new =
    ap finite.len (fold_more keep_job s jobs i j below ∙ ap (keep_job (with_keeps s (take i jobs))) (sym is)) ∙ len-under-new (with_keeps s (take i jobs)) j.keep [] new

pub count-same : (s : State) (jobs : List JobLine) (i : ℕ) (j : JobLine) → i < length jobs → j ≡ get_or jobs i j → is_new (with_keeps s (take i jobs)) j.keep ≡ false
    → finite.len (with_keeps s (take (i + 1) jobs)) ≡ finite.len (with_keeps s (take i jobs))
count-same s jobs i j below is old =
    ap finite.len (fold_more keep_job s jobs i j below ∙ ap (keep_job (with_keeps s (take i jobs))) (sym is)) ∙ len-under-old (with_keeps s (take i jobs)) j.keep [] old
