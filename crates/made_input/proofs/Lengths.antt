-- How long the lines are at most, and how long the source text is.
use Rattle.std.proofs.Common.{◌≡◌, ℕ, zero, suc, ◌+◌, ◌-◌, ◌*◌, ◌<◌, ◌≤◌, ◌==◌, true, false, List, [], ◌++◌, length, refl, ap, ◌∙◌, arith, length-append, codes, lit<, lit≤, if◌then◌else◌}
use Rattle.std.specs.Prelude.{decimal}
use Rattle.std.proofs.lemmas.Fmt.{length-decimal-le}
use Rattle.text_spec.specs.Text.{utf16}
use Rattle.made_input.specs.Draws.{drawn, stepped, in_turn}
use Rattle.made_input.specs.Made.{escaped, piece_drawn, source, units, load_line, at_op, edit_text, edit_op, op, is_edit, after_op, comma, ops, after_ops, keep, job, jobs, batch_line}
use Rattle.made_input.proofs.Drawn.{drawn-below}
use Rattle.made_input.proofs.Eight.{piece-short, units-some}
use Rattle.made_input.proofs.Source.{pieces_from, escaped-append, escaped-nil, units-append}
use Rattle.made_input.proofs.Turns.{turn-first, turn-none}

-- the sum of bounds on the texts number t, t + 1 and so on, k in all
abbrev pub total : (ℕ → ℕ) → ℕ → ℕ → ℕ
total most zero t = 0
total most (suc k) t = most t + total most k (suc t)

pub turns-short : (text : ℕ → ℕ → List ℕ) (after : ℕ → ℕ → ℕ) (most : ℕ → ℕ) → ((t x : ℕ) → length (text t x) ≤ most t)
    → (k t x : ℕ) → length (in_turn text after k t x) ≤ total most k t
turns-short text after most each zero t x = let none : length (in_turn text after zero t x) ≡ 0 = ap length (turn-none text after t x) in omega (arith, none)
turns-short text after most each (suc k) t x =
    let others : length (in_turn text after k (suc t) (after t x)) ≤ total most k (suc t) = turns-short text after most each k (suc t) (after t x) in
    let whole : length (in_turn text after (suc k) t x) ≡ length (text t x ++ in_turn text after k (suc t) (after t x)) = ap length (turn-first text after k t x) in
    omega (arith, whole, length-append (text t x) (in_turn text after k (suc t) (after t x)), others, each t x)

pub drawn-short : (x : ℕ) → length (escaped (piece_drawn x)) ≤ 40
drawn-short x = piece-short (drawn 8 x) (drawn-below 8 x (lit< tt))

pub pieces-short : (k t x : ℕ) → length (escaped (pieces_from k t x)) ≤ 40 * k
pieces-short zero t x =
    let none : length (escaped (pieces_from zero t x)) ≡ 0 = ap (λ l. length (escaped l)) (turn-none (λ t. piece_drawn) (λ t. stepped) t x) ∙ ap length escaped-nil in
    omega (arith, none)
pieces-short (suc k) t x =
    let rest = pieces_from k (suc t) (stepped x) in
    let whole : length (escaped (pieces_from (suc k) t x)) ≡ length (escaped (piece_drawn x) ++ escaped rest)
    = ap (λ l. length (escaped l)) (turn-first (λ t. piece_drawn) (λ t. stepped) k t x) ∙ ap length (escaped-append (piece_drawn x) rest) in
    omega (arith, whole, length-append (escaped (piece_drawn x)) (escaped rest), pieces-short k (suc t) (stepped x), drawn-short x)

pub units-between : (k t x : ℕ) → (27 * k ≤ length (utf16 (pieces_from k t x))) × (length (utf16 (pieces_from k t x)) ≤ 32 * k)
units-between zero t x =
    let none : length (utf16 (pieces_from zero t x)) ≡ 0 = ap (λ l. length (utf16 l)) (turn-none (λ t. piece_drawn) (λ t. stepped) t x) in
    (omega (arith, none), omega (arith, none))
units-between (suc k) t x =
    let rest = pieces_from k (suc t) (stepped x) in
    let whole : length (utf16 (pieces_from (suc k) t x)) ≡ length (utf16 (piece_drawn x)) + length (utf16 rest)
    = ap (λ l. length (utf16 l)) (turn-first (λ t. piece_drawn) (λ t. stepped) k t x) ∙ units-append (piece_drawn x) rest in
    let others = units-between k (suc t) (stepped x) in
    let one : (27 ≤ length (utf16 (piece_drawn x))) × (length (utf16 (piece_drawn x)) ≤ 32) = units-some (drawn 8 x) (drawn-below 8 x (lit< tt)) in
    let low : 27 * k ≤ length (utf16 rest) = others.0 in
    let high : length (utf16 rest) ≤ 32 * k = others.1 in
    let one_low : 27 ≤ length (utf16 (piece_drawn x)) = one.0 in
    let one_high : length (utf16 (piece_drawn x)) ≤ 32 = one.1 in
    (omega (arith, whole, low, one_low), omega (arith, whole, high, one_high))

pub source-short : (x : ℕ) → length (escaped (source x)) ≤ 40000
unfolding source
source-short x = pieces-short 1000 0 x

pub units-low : (x : ℕ) → 16 < units x
unfolding source units
units-low x = let low : 27000 ≤ length (utf16 (pieces_from 1000 0 x)) = (units-between 1000 0 x).0 in omega (arith, low)

pub units-high : (x : ℕ) → units x < 100000
unfolding source units
units-high x = let high : length (utf16 (pieces_from 1000 0 x)) ≤ 32000 = (units-between 1000 0 x).1 in omega (arith, high)

pub load-short : (x : ℕ) → length (load_line x) ≤ 40100
unfolding load_line
load-short x = omega (arith, source-short x, length-append (escaped (source x)) (codes "\"}"))

pub decimal-short : (n : ℕ) → n < 100000 → length (decimal n) ≤ 5
decimal-short n few = length-decimal-le 5 n (lit< tt) few (omega (arith, few))

pub at-short : (u x : ℕ) → 16 < u → u < 100000 → length (at_op u x) ≤ 13
unfolding at_op
at-short u x some few =
    let digits : length (decimal (drawn u x)) ≤ 5 = decimal-short (drawn u x) (omega (arith, drawn-below u x (omega (arith, some)), few)) in
    omega (arith, digits, length-append (decimal (drawn u x)) (codes "}"))

pub edit_text-short : (a d : ℕ) (text : List ℕ) → a + d < 100000 → length (escaped text) ≤ 40 → length (edit_text a d text) ≤ 79
unfolding edit_text
edit_text-short a d text few short =
    let first : length (decimal a) ≤ 5 = decimal-short a (omega (arith, few)) in
    let second : length (decimal (a + d)) ≤ 5 = decimal-short (a + d) few in
    let end = codes "],\"with\":\"" ++ (escaped text ++ codes "\"}") in
    let end_short : length end ≤ 52 = omega (arith, short, length-append (escaped text) (codes "\"}")) in
    omega (arith, first, second, end_short, length-append (decimal a) (codes "," ++ (decimal (a + d) ++ end)), length-append (decimal (a + d)) end)

pub edit-short : (u x : ℕ) → 16 < u → u < 100000 → length (edit_op u x) ≤ 79
unfolding edit_op
edit-short u x some few =
    let a_below : drawn (u - 16) x < u - 16 = drawn-below (u - 16) x (omega (arith, some)) in
    let d_below : drawn 8 (stepped x) < 8 = drawn-below 8 (stepped x) (lit< tt) in
    edit_text-short (drawn (u - 16) x) (drawn 8 (stepped x)) (piece_drawn (stepped (stepped x))) (omega (arith, a_below, d_below, some, few)) (drawn-short (stepped (stepped x)))

pub comma-short : (t : ℕ) → length (comma t) ≤ 1
unfolding comma
comma-short t = elim (t == 0) as (λ b. length (if b then [] else codes ",") ≤ 1) [ true ↦ lit≤ tt | false ↦ lit≤ tt ]

-- the most bytes of an op, with its comma
abbrev pub op_most : ℕ → ℕ
op_most t = if is_edit t then 80 else 14

pub op-short : (u t x : ℕ) → 16 < u → u < 100000 → length (comma t ++ op u t x) ≤ op_most t
unfolding op
op-short u t x some few =
    elim (is_edit t) as (λ b. length (comma t ++ (if b then edit_op u x else at_op u x)) ≤ (if b then 80 else 14)) [
      | true ↦ omega (arith, comma-short t, edit-short u x some few, length-append (comma t) (edit_op u x))
      | false ↦ omega (arith, comma-short t, at-short u x some few, length-append (comma t) (at_op u x))
    ]

pub ops-short : (u x : ℕ) → 16 < u → u < 100000 → length (ops u x) ≤ 3600
unfolding ops
ops-short u x some few =
    let all : total op_most 210 0 ≡ 3600 = refl in
    let short : length (ops u x) ≤ total op_most 210 0 = turns-short (λ t y. comma t ++ op u t y) after_op op_most (λ t y. op-short u t y some few) 210 0 x in
    omega (arith, all, short)

pub keep-short : (j : ℕ) → length (keep j) ≤ 14
unfolding keep
keep-short j = elim (j == 0) as (λ b. length (if b then codes ",\"keep\":\"kept\"" else []) ≤ 14) [ true ↦ lit≤ tt | false ↦ lit≤ tt ]

pub job-short : (u j x : ℕ) → 16 < u → u < 100000 → length (comma j ++ job u j x) ≤ 3700
unfolding job
job-short u j x some few =
    let end = codes "]" ++ (keep j ++ codes ",\"on\":\"doc\"}") in
    let end_short : length end ≤ 30 = omega (arith, keep-short j, length-append (keep j) (codes ",\"on\":\"doc\"}")) in
    omega (arith, comma-short j, ops-short u x some few, end_short, length-append (ops u x) end, length-append (comma j) (codes "{\"do\":[" ++ (ops u x ++ end)))

pub jobs-short : (u x : ℕ) → 16 < u → u < 100000 → length (jobs u x) ≤ 29600
unfolding jobs
jobs-short u x some few = turns-short (λ j y. comma j ++ job u j y) (λ j. after_ops) (λ j. 3700) (λ j y. job-short u j y some few) 8 0 x

pub batch-short : (u x : ℕ) → 16 < u → u < 100000 → length (batch_line u x) ≤ 30000
unfolding batch_line
batch-short u x some few = omega (arith, jobs-short u x some few, length-append (jobs u x) (codes "]}"))
