-- The source text piece by piece: as it stands in a JSON string, and its length in UTF-16 units.
use Rattle.std.proofs.Common.{◌≡◌, ℕ, ◌+◌, ◌-◌, ◌*◌, ◌<◌, ◌≤◌, List, [], ◌++◌, length, refl, ap, sym, subst, ◌∙◌, arith, length-append, append_assoc}
use Rattle.std.proofs.lemmas.List.{append-nil}
use Rattle.std.proofs.lemmas.Grind.{flat_map-append}
use Rattle.std.proofs.lemmas.Str.{encodes-append}
use Rattle.std.specs.Char.Escape.{encode_utf16}
use Rattle.json.specs.Print.{escape, escape_byte}
use Rattle.text_spec.specs.Text.{utf8, utf16}
use Rattle.made_input.specs.Draws.{stepped, in_turn, left_by}
use Rattle.made_input.specs.Made.{escaped, piece_drawn}
use Rattle.made_input.proofs.Turns.{turn-none, turn-at, left-at, left-none}

pub escaped-append : (a b : List ℕ) → escaped (a ++ b) ≡ escaped a ++ escaped b
unfolding escaped
escaped-append a b = ap escape (encodes-append a b) ∙ flat_map-append escape_byte (utf8 a) (utf8 b)

pub escaped-nil : escaped [] ≡ []
unfolding escaped
escaped-nil = refl

pub units-append : (a b : List ℕ) → length (utf16 (a ++ b)) ≡ length (utf16 a) + length (utf16 b)
units-append a b = ap length (flat_map-append encode_utf16 a b) ∙ length-append (utf16 a) (utf16 b)

-- n pieces from number t on
abbrev pub pieces_from : ℕ → ℕ → ℕ → List ℕ
pieces_from n t x = in_turn (λ t. piece_drawn) (λ t. stepped) n t x

abbrev pub state_from : ℕ → ℕ → ℕ → ℕ
state_from n t x = left_by (λ t. stepped) n t x

-- so far as the pieces below number t have been put
pub record Loaded (n t x y units : ℕ) (before line : List ℕ) : Type 0 where
  pub whole : line ++ escaped (pieces_from (n - t) t y) ≡ before ++ escaped (pieces_from n 0 x)
  pub length_is : units + length (utf16 (pieces_from (n - t) t y)) ≡ length (utf16 (pieces_from n 0 x))
  pub last : state_from (n - t) t y ≡ state_from n 0 x
  pub small : units ≤ 32 * t

pub loaded-none : (n x : ℕ) (before : List ℕ) → Loaded n 0 x x 0 before before
loaded-none n x before =
    let all : n - 0 ≡ n = omega arith in
    let none : 0 + length (utf16 (pieces_from (n - 0) 0 x)) ≡ length (utf16 (pieces_from (n - 0) 0 x)) = omega arith in
    record {
      whole = ap (λ k. before ++ escaped (pieces_from k 0 x)) all;
      length_is = none ∙ ap (λ k. length (utf16 (pieces_from k 0 x))) all;
      last = ap (λ k. state_from k 0 x) all;
      small = omega arith;
    }

pub loaded-room : (room n t x y units : ℕ) (before line : List ℕ) → t < n → Loaded n t x y units before line
    → length (before ++ escaped (pieces_from n 0 x)) ≤ room → length (line ++ escaped (piece_drawn y)) ≤ room
loaded-room room n t x y units before line below so_far whole =
    let rest = pieces_from (n - (t + 1)) (t + 1) (stepped y) in
    let parts : escaped (pieces_from (n - t) t y) ≡ escaped (piece_drawn y) ++ escaped rest
    = ap escaped (turn-at (λ t. piece_drawn) (λ t. stepped) n t y below) ∙ escaped-append (piece_drawn y) rest in
    let here : line ++ (escaped (piece_drawn y) ++ escaped rest) ≡ before ++ escaped (pieces_from n 0 x) = ap (λ l. line ++ l) (sym parts) ∙ so_far.whole in
    let inside : length (line ++ (escaped (piece_drawn y) ++ escaped rest)) ≤ room = subst (λ l. length l ≤ room) (sym here) whole in
    omega (arith, length-append line (escaped (piece_drawn y)), length-append line (escaped (piece_drawn y) ++ escaped rest), length-append (escaped (piece_drawn y)) (escaped rest), inside)

pub loaded-more : (n t x y z units more : ℕ) (before line next : List ℕ) → t < n → next ≡ line ++ escaped (piece_drawn y) → more ≡ length (utf16 (piece_drawn y)) → more ≤ 32 → z ≡ stepped y
    → Loaded n t x y units before line → Loaded n (t + 1) x z (units + more) before next
loaded-more n t x y z units more before line next below is more_is few state_is so_far =
    let rest = λ (s : ℕ). pieces_from (n - (t + 1)) (t + 1) s in
    let whole : pieces_from (n - t) t y ≡ piece_drawn y ++ rest (stepped y) = turn-at (λ t. piece_drawn) (λ t. stepped) n t y below in
    let parts : escaped (pieces_from (n - t) t y) ≡ escaped (piece_drawn y) ++ escaped (rest (stepped y)) = ap escaped whole ∙ escaped-append (piece_drawn y) (rest (stepped y)) in
    let lengths : length (utf16 (pieces_from (n - t) t y)) ≡ length (utf16 (piece_drawn y)) + length (utf16 (rest (stepped y)))
    = ap (λ l. length (utf16 l)) whole ∙ units-append (piece_drawn y) (rest (stepped y)) in
    let old_units : units + length (utf16 (pieces_from (n - t) t y)) ≡ length (utf16 (pieces_from n 0 x)) = so_far.length_is in
    let new_units : (units + more) + length (utf16 (rest (stepped y))) ≡ length (utf16 (pieces_from n 0 x)) = omega (arith, lengths, old_units, more_is) in
    let old_small : units ≤ 32 * t = so_far.small in
    record {
      whole = ap (λ s. next ++ escaped (rest s)) state_is ∙ ap (λ l. l ++ escaped (rest (stepped y))) is ∙ append_assoc line (escaped (piece_drawn y)) (escaped (rest (stepped y)))
          ∙ ap (λ l. line ++ l) (sym parts) ∙ so_far.whole;
      length_is = ap (λ s. (units + more) + length (utf16 (rest s))) state_is ∙ new_units;
      last = ap (λ s. state_from (n - (t + 1)) (t + 1) s) state_is ∙ sym (left-at (λ t. stepped) n t y below) ∙ so_far.last;
      small = omega (arith, old_small, few);
    }

pub loaded-all : (n t x y units : ℕ) (before line : List ℕ) → n ≤ t → Loaded n t x y units before line
    → (line ≡ before ++ escaped (pieces_from n 0 x)) × (units ≡ length (utf16 (pieces_from n 0 x))) × (y ≡ state_from n 0 x)
loaded-all n t x y units before line above so_far =
    let none : n - t ≡ 0 = omega (arith, above) in
    let empty : pieces_from (n - t) t y ≡ [] = ap (λ k. pieces_from k t y) none ∙ turn-none (λ t. piece_drawn) (λ t. stepped) t y in
    let no_line : line ++ escaped (pieces_from (n - t) t y) ≡ line = ap (λ l. line ++ escaped l) empty ∙ ap (λ l. line ++ l) escaped-nil ∙ append-nil line in
    let no_units : length (utf16 (pieces_from (n - t) t y)) ≡ 0 = ap (λ l. length (utf16 l)) empty in
    let old_units : units + length (utf16 (pieces_from (n - t) t y)) ≡ length (utf16 (pieces_from n 0 x)) = so_far.length_is in
    let no_state : state_from (n - t) t y ≡ y = ap (λ k. state_from k t y) none ∙ left-none (λ t. stepped) t y in
    (sym no_line ∙ so_far.whole, omega (arith, no_units, old_units), sym no_state ∙ so_far.last)
