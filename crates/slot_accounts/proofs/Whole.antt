-- Where each number of the history is the place of one of the own events, these are the history.
use Rattle.std.proofs.Common.{◌≡◌, ℕ, zero, suc, ◌<◌, ◌≤◌, cond, List, [], ◌∷◌, ◌++◌, length, drop, refl, sym, ap, ◌∙◌, subst, arith, append_assoc, length-append, lt-ltb, lt_of_not-le}
use Rattle.std.proofs.Math.Seq.{drop-append_seam}
use Rattle.std.proofs.lemmas.Bool.Decides.{nat_tests}
use native.Mathlib.Decide.{ℕ_discrete}
use mathlib.Core.Logic.{dite}
use Rattle.slot_model.specs.declared.event.Event.{Event}
use Rattle.slot_table.specs.Numbers.{times, one, AllOnce}
use Rattle.slot_table.specs.Owners.{PassSeen}
use Rattle.slot_accounts.specs.Account.{IsAt, Stand, Did}
use Rattle.slot_accounts.proofs.Doing.{is_at-below}

one-is : (x y : ℕ) → 1 ≤ one x y → x ≡ y
one-is x y h = grind (arith, nat_tests, h)

one-not : (x y : ℕ) → x < y → one x y ≡ 0
one-not x y h = grind (arith, nat_tests, h)

one-not_down : (x y : ℕ) → y < x → one x y ≡ 0
one-not_down x y h = grind (arith, nat_tests, h)

-- no place is before the first
pub none_before : (h : List Event) (k : ℕ) (ms : List ℕ) (es : List Event) → Stand h k ms es → (x : ℕ) → x < k → times x ms ≡ 0
none_before h k [] [] s x b = refl
none_before h k [] (e ∷ es) s x b = absurd s
none_before h k (m ∷ ms) [] s x b = absurd s
none_before h k (m ∷ ms) (e ∷ es) s x b = let a = s.0 in let t = none_before h (suc m) ms es s.2 x (omega (arith, a, b)) in let z = one-not x m (omega (arith, a, b)) in omega (arith, t, z)

drop-all : {X : Type 0} (n : ℕ) (xs : List X) → length xs ≤ n → drop n xs ≡ []
drop-all zero [] h = refl
drop-all zero (x ∷ xs) h = absurd (omega arith)
drop-all (suc n) [] h = refl
drop-all (suc n) (x ∷ xs) h = drop-all n xs (omega arith)

pub drop-here : (h : List Event) (m : ℕ) (e : Event) → IsAt h m e → drop m h ≡ e ∷ drop (suc m) h
drop-here h m e a =
    let whole : a.0 ++ e ∷ a.2.0 ≡ h = sym (append_assoc a.0 (e ∷ []) a.2.0) ∙ a.2.1 in
    let here : drop (length a.0) (a.0 ++ e ∷ a.2.0) ≡ e ∷ a.2.0 = drop-append_seam a.0 (e ∷ a.2.0) in
    let long : length (a.0 ++ e ∷ []) ≡ suc (length a.0) = length-append a.0 (e ∷ []) ∙ omega arith in
    let next : drop (suc (length a.0)) (a.0 ++ e ∷ a.2.0) ≡ a.2.0 = (λ t. drop (sym long t) (sym (append_assoc a.0 (e ∷ []) a.2.0) t)) ∙ drop-append_seam (a.0 ++ e ∷ []) a.2.0 in
    let z : drop (length a.0) (a.0 ++ e ∷ a.2.0) ≡ e ∷ drop (suc (length a.0)) (a.0 ++ e ∷ a.2.0) = here ∙ (λ t. e ∷ sym next t) in
    subst (λ (l : List Event). drop m l ≡ e ∷ drop (suc m) l) whole (subst (λ (k : ℕ). drop k (a.0 ++ e ∷ a.2.0) ≡ e ∷ drop (suc k) (a.0 ++ e ∷ a.2.0)) a.1 z)

stands_all : (h : List Event) (n : ℕ) (ms : List ℕ) (es : List Event) → Stand h n ms es → ((x : ℕ) → n ≤ x → x < length h → times x ms ≡ 1) → es ≡ drop n h
stands_all h n [] [] s once = sym (drop-all n h (at_end (length h) refl))
  where
    at_end : (l : ℕ) → l ≡ length h → length h ≤ n
    at_end l is = dite (native.Mathlib.Decide.dec_le (length h) n) (λ (t : length h ≤ n). t) (λ (f : ¬ (length h ≤ n)). absurd (let b : n < length h = lt_of_not-le f in let c : 0 ≡ 1 = once n (omega arith) b in omega (arith, c)))
stands_all h n [] (e ∷ es) s once = absurd s
stands_all h n (m ∷ ms) [] s once = absurd s
stands_all h n (m ∷ ms) (e ∷ es) s once =
    let low = s.0 in let in_h = is_at-below h m e s.1 in
    let later = none_before h (suc m) ms es s.2 n (omega (arith, low)) in
    let at_n : times n (m ∷ ms) ≡ 1 = once n (omega arith) (omega (arith, low, in_h)) in
    let same : n ≡ m = one-is n m (omega (arith, later, at_n)) in
    let rest = stands_all h (suc m) ms es s.2 (λ x above below. let t : times x (m ∷ ms) ≡ 1 = once x (omega (arith, low, above)) below in let z = one-not_down x m (omega (arith, above)) in omega (arith, t, z)) in
    (λ t. e ∷ rest t) ∙ (sym (drop-here h m e s.1) ∙ ap (λ (k : ℕ). drop k h) (sym same))

-- from an opening front, all that was done is all that is there
pub whole_history : (es : List Event) (p q : PassSeen) → Did es p q → p.front ≡ [] → p.places ≡ [] → AllOnce (length q.front) q.places → es ≡ q.front
whole_history es p q did no_front no_places once =
    let all_new : did.new_places ≡ q.places = (λ t. sym no_places t ++ did.new_places) ∙ sym did.places_are in
    stands_all q.front 0 did.new_places es (subst (λ (l : List Event). Stand q.front (length l) did.new_places es) no_front did.stand)
    (λ x _ below. ap (times x) all_new ∙ (once x ∙ ap (λ b. cond b 1 0) (lt-ltb x (length q.front) below)))
