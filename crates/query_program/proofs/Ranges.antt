-- What the words ask for is in range.
use Rattle.std.proofs.Common.{◌≡◌, ℕ, ◌≤◌, ◌&&◌, Bool, true, false, List, [], ◌∷◌, Option, Some, None, IfSome, refl, nat_le, arith, if◌then◌else◌, is_some, not}
use Rattle.std.specs.Prelude.{option_and_then}
use Rattle.std.proofs.lemmas.Bool.{leb-true}
use Rattle.query_program.specs.declared.words.Name.{Name}
use Rattle.query_program.specs.declared.words.Name.TheVariants.{Workers, Make, Lines}
use Rattle.query_program.specs.declared.words.Found.{Found}
use Rattle.query_program.specs.Words.{told_once, told_by, asked, asked_by, asked_from, workers_of, nothing, options_of, name_of, number_of, has_equals, before_equals, behind_equals, IsLineCount, IsWorkerCount, IsInRange}

record Fine (f : Found) : Type 0 where
  workers : IfSome f.workers IsWorkerCount
  lines : IfSome f.lines IsLineCount

if_true : {A : Type 0} (t : Bool) (x : A) (P : A → Type 0) → (t ≡ true → P x) → IfSome (if t then Some x else None) P
if_true true x P h = h refl
if_true false x P h = tt

either : {A : Type 0} (t : Bool) (x y : Option A) (P : A → Type 0) → IfSome x P → IfSome y P → IfSome (if t then x else y) P
either true x y P h k = h
either false x y P h k = k

and_then : {A B : Type 0} (o : Option A) (f : A → Option B) (P : A → Type 0) (Q : B → Type 0) → IfSome o P → ((x : A) → P x → IfSome (f x) Q) → IfSome (option_and_then f o) Q
and_then None f P Q h k = tt
and_then (Some x) f P Q h k = k x h

any_then : {A B : Type 0} (o : Option A) (f : A → Option B) (Q : B → Type 0) → ((x : A) → IfSome (f x) Q) → IfSome (option_and_then f o) Q
any_then None f Q k = tt
any_then (Some x) f Q k = k x

both : (a b : Bool) → (a && b) ≡ true → (a ≡ true) × (b ≡ true)
both true b e = (refl, e)
both false b e = cc

between : (least most n : ℕ) → (nat_le least n && nat_le n most) ≡ true → (least ≤ n) × (n ≤ most)
between least most n e = let k = both (nat_le least n) (nat_le n most) e in (leb-true least n k.0, leb-true n most k.1)

once_fine : (f : Found) (option : Name) (n : ℕ) → Fine f → IfSome (told_once f option n) Fine
once_fine f Workers n h = if_true _ _ Fine (λ e. record { workers = between 1 8 n (both (not (is_some f.workers)) _ e).1; lines = h.lines })
once_fine f Make n h = if_true _ _ Fine (λ e. record { workers = h.workers; lines = h.lines })
once_fine f Lines n h = if_true _ _ Fine (λ e. record { workers = h.workers; lines = between 1 1000 n (both (not (is_some f.lines)) _ e).1 })

by_fine : (f : Found) (name value : List ℕ) → Fine f → IfSome (told_by f name value) Fine
unfolding told_by
by_fine f name value h = any_then (name_of name) _ Fine (λ option. any_then (number_of value) _ Fine (λ n. once_fine f option n h))

workers_fine : (o : Option ℕ) → IfSome o IsWorkerCount → IsWorkerCount (workers_of o)
workers_fine None h = (omega arith, omega arith)
workers_fine (Some n) h = h

asked_fine : (workers : ℕ) (make lines : Option ℕ) → IsWorkerCount workers → IfSome lines IsLineCount → IfSome (asked workers make lines) IsInRange
asked_fine workers None None w l = record { workers = w; lines = tt }
asked_fine workers (Some number) (Some lines) w l = record { workers = w; lines = l }
asked_fine workers None (Some lines) w l = tt
asked_fine workers (Some number) None w l = tt

from_fine : (f : Found) (words : List (List ℕ)) → Fine f → IfSome (asked_from f words) IsInRange
from_fine f [] h = asked_fine (workers_of f.workers) f.make f.lines (workers_fine f.workers h.workers) h.lines
from_fine f (word ∷ []) h =
    either (has_equals word) _ None IsInRange
    (and_then (told_by f (before_equals word) (behind_equals word)) asked_by Fine IsInRange (by_fine f _ _ h) (λ g k. asked_fine (workers_of g.workers) g.make g.lines (workers_fine g.workers k.workers) k.lines)) tt
from_fine f (word ∷ next ∷ more) h =
    either (has_equals word) _ _ IsInRange
    (and_then (told_by f (before_equals word) (behind_equals word)) _ Fine IsInRange (by_fine f _ _ h) (λ g k. from_fine g (next ∷ more) k))
    (and_then (told_by f word next) _ Fine IsInRange (by_fine f _ _ h) (λ g k. from_fine g more k))

pub in_range : (words : List (List ℕ)) → IfSome (options_of words) IsInRange
unfolding options_of
in_range words = from_fine nothing words (record { workers = tt; lines = tt })
