-- Texts made one after another: the first of them and the others.
use Rattle.std.proofs.Common.{◌≡◌, ℕ, zero, suc, ◌+◌, ◌-◌, ◌<◌, ◌≤◌, List, [], ◌++◌, length, refl, ap, sym, subst, ◌∙◌, arith, length-append, append_assoc}
use Rattle.std.proofs.lemmas.List.{append-nil}
use Rattle.made_input.specs.Draws.{in_turn, left_by}

pub turn-first : (text : ℕ → ℕ → List ℕ) (after : ℕ → ℕ → ℕ) (k t x : ℕ) → in_turn text after (suc k) t x ≡ text t x ++ in_turn text after k (suc t) (after t x)
unfolding in_turn
turn-first text after k t x = refl

pub turn-none : (text : ℕ → ℕ → List ℕ) (after : ℕ → ℕ → ℕ) (t x : ℕ) → in_turn text after zero t x ≡ []
unfolding in_turn
turn-none text after t x = refl

pub left-first : (after : ℕ → ℕ → ℕ) (k t x : ℕ) → left_by after (suc k) t x ≡ left_by after k (suc t) (after t x)
unfolding left_by
left-first after k t x = refl

pub left-none : (after : ℕ → ℕ → ℕ) (t x : ℕ) → left_by after zero t x ≡ x
unfolding left_by
left-none after t x = refl

-- the texts from number t on, where there are n in all, are that of t and those after it
pub turn-at : (text : ℕ → ℕ → List ℕ) (after : ℕ → ℕ → ℕ) (n t x : ℕ) → t < n
    → in_turn text after (n - t) t x ≡ text t x ++ in_turn text after (n - (t + 1)) (t + 1) (after t x)
turn-at text after n t x below =
    let step : n - t ≡ suc (n - (t + 1)) = omega (arith, below) in
    let next : suc t ≡ t + 1 = omega arith in
    ap (λ k. in_turn text after k t x) step ∙ turn-first text after (n - (t + 1)) t x
    ∙ ap (λ s. text t x ++ in_turn text after (n - (t + 1)) s (after t x)) next

pub left-at : (after : ℕ → ℕ → ℕ) (n t x : ℕ) → t < n → left_by after (n - t) t x ≡ left_by after (n - (t + 1)) (t + 1) (after t x)
left-at after n t x below =
    let step : n - t ≡ suc (n - (t + 1)) = omega (arith, below) in
    let next : suc t ≡ t + 1 = omega arith in
    ap (λ k. left_by after k t x) step ∙ left-first after (n - (t + 1)) t x ∙ ap (λ s. left_by after (n - (t + 1)) s (after t x)) next

-- a line, and the state, so far as the texts below number t have been put
pub record Put (text : ℕ → ℕ → List ℕ) (after : ℕ → ℕ → ℕ) (n t x y : ℕ) (before line : List ℕ) : Type 0 where
  pub whole : line ++ in_turn text after (n - t) t y ≡ before ++ in_turn text after n 0 x
  pub last : left_by after (n - t) t y ≡ left_by after n 0 x

pub put-none : (text : ℕ → ℕ → List ℕ) (after : ℕ → ℕ → ℕ) (n x : ℕ) (before : List ℕ) → Put text after n 0 x x before before
put-none text after n x before =
    let all : n - 0 ≡ n = omega arith in
    record { whole = ap (λ k. before ++ in_turn text after k 0 x) all; last = ap (λ k. left_by after k 0 x) all }

-- the next text has room where all of them have
pub put-room : (text : ℕ → ℕ → List ℕ) (after : ℕ → ℕ → ℕ) (room n t x y : ℕ) (before line : List ℕ) → t < n → Put text after n t x y before line
    → length (before ++ in_turn text after n 0 x) ≤ room → length (line ++ text t y) ≤ room
put-room text after room n t x y before line below so_far whole =
    let rest = in_turn text after (n - (t + 1)) (t + 1) (after t y) in
    let here : line ++ (text t y ++ rest) ≡ before ++ in_turn text after n 0 x = ap (λ l. line ++ l) (sym (turn-at text after n t y below)) ∙ so_far.whole in
    let inside : length (line ++ (text t y ++ rest)) ≤ room = subst (λ l. length l ≤ room) (sym here) whole in
    omega (arith, length-append line (text t y), length-append line (text t y ++ rest), length-append (text t y) rest, inside)

-- one text more
pub put-more : (text : ℕ → ℕ → List ℕ) (after : ℕ → ℕ → ℕ) (n t x y z : ℕ) (before line next : List ℕ) → t < n → next ≡ line ++ text t y → z ≡ after t y
    → Put text after n t x y before line → Put text after n (t + 1) x z before next
put-more text after n t x y z before line next below is state_is so_far =
    let rest = λ (s : ℕ). in_turn text after (n - (t + 1)) (t + 1) s in
    record {
      whole = ap (λ s. next ++ rest s) state_is ∙ ap (λ l. l ++ rest (after t y)) is ∙ append_assoc line (text t y) (rest (after t y))
          ∙ ap (λ l. line ++ l) (sym (turn-at text after n t y below)) ∙ so_far.whole;
      last = ap (λ s. left_by after (n - (t + 1)) (t + 1) s) state_is ∙ sym (left-at after n t y below) ∙ so_far.last;
    }

pub put-all : (text : ℕ → ℕ → List ℕ) (after : ℕ → ℕ → ℕ) (n t x y : ℕ) (before line : List ℕ) → n ≤ t → Put text after n t x y before line
    → (line ≡ before ++ in_turn text after n 0 x) × (y ≡ left_by after n 0 x)
put-all text after n t x y before line above so_far =
    let none : n - t ≡ 0 = omega (arith, above) in
    let no_line : line ++ in_turn text after (n - t) t y ≡ line = ap (λ k. line ++ in_turn text after k t y) none ∙ ap (λ l. line ++ l) (turn-none text after t y) ∙ append-nil line in
    let no_state : left_by after (n - t) t y ≡ y = ap (λ k. left_by after k t y) none ∙ left-none after t y in
    (sym no_line ∙ so_far.whole, sym no_state ∙ so_far.last)
