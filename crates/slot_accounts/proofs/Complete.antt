-- What the end of a run tells of each moment before it: then too the pass had the place of each event of its front.
use Rattle.std.proofs.Common.{◌≡◌, ℕ, ◌+◌, ◌*◌, ◌<◌, ◌≤◌, cond, List, [], ◌∷◌, ◌++◌, length, refl, sym, ap, ◌∙◌, subst, arith, lt-ltb, le-ltb, lt_of_not-le}
use Rattle.std.proofs.lemmas.Bool.Decides.{nat_tests}
use native.Mathlib.Decide.{ℕ_discrete}
use mathlib.Core.Logic.{dite}
use Rattle.slot_model.specs.declared.event.Event.{Event}
use Rattle.slot_model.specs.declared.layout.Layout.{Layout}
use Rattle.slot_model.specs.History.{Legal}
use Rattle.slot_table.specs.Owners.{PassSeen}
use Rattle.slot_table.specs.Numbers.{times, one, AllOnce}
use Rattle.slot_table.proofs.Sums.{times_append}
use Rattle.slot_accounts.specs.Account.{Scattered, Made, sum_of, takes, gives}
use Rattle.slot_accounts.specs.Counts.{IsComplete, publishes}
use Rattle.slot_accounts.proofs.Doing.{prefix_length, is_at-below}
use Rattle.slot_accounts.proofs.Counts.{counted}
use Rattle.slot_accounts.proofs.Slots.{two_a_publish}

one-apart : (x y : ℕ) → x < y → one x y ≡ 0
one-apart x y h = grind (arith, nat_tests, h)

one-apart_down : (x y : ℕ) → y < x → one x y ≡ 0
one-apart_down x y h = grind (arith, nat_tests, h)

-- no place is before the first, none is past the front
none_before : (h : List Event) (n : ℕ) (ms : List ℕ) (es : List Event) → Scattered h n ms es → (x : ℕ) → x < n → times x ms ≡ 0
none_before h n [] [] s x b = refl
none_before h n [] (e ∷ es) s x b = absurd s
none_before h n (m ∷ ms) [] s x b = absurd s
none_before h n (m ∷ ms) (e ∷ es) s x b = let a = s.0 in let t = none_before h n ms es s.2 x b in let z = one-apart x m (omega (arith, a, b)) in omega (arith, t, z)

none_past : (h : List Event) (n : ℕ) (ms : List ℕ) (es : List Event) → Scattered h n ms es → (x : ℕ) → length h ≤ x → times x ms ≡ 0
none_past h n [] [] s x b = refl
none_past h n [] (e ∷ es) s x b = absurd s
none_past h n (m ∷ ms) [] s x b = absurd s
none_past h n (m ∷ ms) (e ∷ es) s x b = let a = is_at-below h m e s.1 in let t = none_past h n ms es s.2 x b in let z = one-apart_down x m (omega (arith, a, b)) in omega (arith, t, z)

-- from an opening pass es led to p, and ds on to q: where q has all places of its front, p had all of its own
pub complete_before : {es ds : List Event} {start p q : PassSeen} → start.places ≡ [] → Made es start p → Made ds p q → IsComplete q → IsComplete p
complete_before {es} {ds} {start} {p} {q} none a b full x =
    let mine : p.places ≡ a.new_places = a.places_are ∙ ap (λ l. l ++ a.new_places) none in
    let split : times x q.places ≡ times x p.places + times x b.new_places = ap (times x) b.places_are ∙ times_append x p.places b.new_places in
    let longer : length p.front ≤ length q.front = prefix_length p.front q.front b.grown in
    dite (native.Mathlib.Decide.dec_le (length p.front) x)
    (λ (past : length p.front ≤ x). ap (times x) mine ∙ (none_past p.front (length start.front) a.new_places es a.stand x past ∙ sym (ap (λ t. cond t 1 0) (le-ltb x (length p.front) past))))
    (λ (f : ¬ (length p.front ≤ x)).
    let early : x < length p.front = lt_of_not-le f in
    let all : times x q.places ≡ 1 = full x ∙ ap (λ t. cond t 1 0) (lt-ltb x (length q.front) (omega (arith, early, longer))) in
    let later = none_before q.front (length p.front) b.new_places ds b.stand x early in
    let here : times x p.places ≡ 1 = omega (arith, split, all, later) in
    here ∙ sym (ap (λ t. cond t 1 0) (lt-ltb x (length p.front) early)))

-- any count over the own events of a complete pass is that over its front
pub counted_whole : {es : List Event} {start p : PassSeen} (w : Event → ℕ) → start.places ≡ [] → Made es start p → IsComplete p → sum_of w es ≡ sum_of w p.front
counted_whole {es} {start} {p} w none a full =
    let mine : p.places ≡ a.new_places = a.places_are ∙ ap (λ l. l ++ a.new_places) none in
    counted w p.front (length start.front) a.new_places es a.stand (subst (AllOnce (length p.front)) mine full)

-- a complete pass has all slots that the start had, but two for each Publish
pub slots_left : {es : List Event} {start p : PassSeen} (fits : List ℕ → List ℕ → Type 0) (k : Layout) → start.places ≡ [] → Made es start p → IsComplete p → Legal fits k p.front → length start.free ≤ length p.free + 2 * sum_of publishes es
slots_left fits k none a full legal =
    let t = counted_whole takes none a full in let g = counted_whole gives none a full in let n = counted_whole publishes none a full in let l = two_a_publish fits k _ legal in let s = a.slots_are in
    omega (arith, t, g, n, l, s)
