-- That no line has a newline inside of it.
use Rattle.std.proofs.Common.{◌≡◌, ℕ, zero, suc, ◌+◌, ◌-◌, ◌%◌, ◌<◌, ◌^◌, ◌==◌, Bool, true, false, List, [], ◌∷◌, ◌++◌, refl, ap, subst, ◌∙◌, arith, codes, lit<, if◌then◌else◌, All}
use Rattle.std.specs.Prelude.{decimal, ◌≢◌}
use Rattle.std.specs.List.{list_all}
use Rattle.std.proofs.lemmas.Bool.{and_parts, and_from, false≢true, not_from_false, ne_eqb}
use Rattle.std.proofs.lemmas.Fmt.{decimal_by_steps}
use Rattle.std.proofs.lemmas.List.Elements.{All-nil, All-cons}
use Rattle.std.proofs.lemmas.List.Folds.{list_all-append}
use Rattle.std.proofs.Math.Bool.{not}
use Rattle.std.proofs.Math.Nat.{mod-lt}
use Rattle.made_input.specs.Draws.{drawn, stepped, in_turn}
use Rattle.made_input.specs.Pieces.{piece}
use Rattle.made_input.specs.Made.{escaped, piece_drawn, source, load_line, at_op, edit_text, edit_op, op, is_edit, after_op, comma, ops, after_ops, keep, job, jobs, batch_line}
use Rattle.made_input.proofs.Drawn.{drawn-below}
use Rattle.made_input.proofs.Eight.{by_eight, piece-0, piece-1, piece-2, piece-3, piece-4, piece-5, piece-6, piece-7}
use Rattle.made_input.proofs.Source.{pieces_from, escaped-append, escaped-nil}
use Rattle.made_input.proofs.Turns.{turn-first, turn-none}

-- whether no byte is a newline
abbrev pub clean : List ℕ → Bool
clean bytes = list_all (λ b. not (b == 10)) bytes

pub clean-append : (a b : List ℕ) → clean a ≡ true → clean b ≡ true → clean (a ++ b) ≡ true
clean-append a b first second = list_all-append (λ b. not (b == 10)) a b ∙ and_from (clean a) (clean b) first second

pub clean-all : (bytes : List ℕ) → clean bytes ≡ true → All (λ b. b ≢ 10) bytes
clean-all [] h = All-nil (λ b. b ≢ 10)
clean-all (b ∷ bytes) h =
    let no : b ≡ 10 → ⊥ = λ is. false≢true (subst (λ c. clean (c ∷ bytes) ≡ true) is h) in
    All-cons (λ b. b ≢ 10) b bytes no (clean-all bytes (and_parts (not (b == 10)) (clean bytes) h).1)

digit-clean : (d : ℕ) → d < 10 → clean ((48 + d) ∷ []) ≡ true
digit-clean d below =
    let other : not ((48 + d) == 10) ≡ true = not_from_false ((48 + d) == 10) (ne_eqb (48 + d) 10 (λ is. omega (arith, is))) in
    and_from (not ((48 + d) == 10)) true other refl

pub decimal-clean : (n : ℕ) → n < 2 ^ 64 → clean (decimal n) ≡ true
decimal-clean = decimal_by_steps (λ n ds. clean ds ≡ true) digit-clean
    (λ n ds above front. clean-append ds ((48 + n % 10) ∷ []) front (digit-clean (n % 10) (mod-lt n (lit< tt))))

pub piece-clean : (n : ℕ) → n < 8 → clean (escaped (piece n)) ≡ true
piece-clean = by_eight (λ n. clean (escaped (piece n)) ≡ true)
    (ap clean piece-0) (ap clean piece-1) (ap clean piece-2) (ap clean piece-3) (ap clean piece-4) (ap clean piece-5) (ap clean piece-6) (ap clean piece-7)

pub drawn-clean : (x : ℕ) → clean (escaped (piece_drawn x)) ≡ true
drawn-clean x = piece-clean (drawn 8 x) (drawn-below 8 x (lit< tt))

pub pieces-clean : (k t x : ℕ) → clean (escaped (pieces_from k t x)) ≡ true
pieces-clean zero t x = ap (λ l. clean (escaped l)) (turn-none (λ t. piece_drawn) (λ t. stepped) t x) ∙ ap clean escaped-nil
pieces-clean (suc k) t x =
    let rest = pieces_from k (suc t) (stepped x) in
    ap (λ l. clean (escaped l)) (turn-first (λ t. piece_drawn) (λ t. stepped) k t x) ∙ ap clean (escaped-append (piece_drawn x) rest)
    ∙ clean-append (escaped (piece_drawn x)) (escaped rest) (drawn-clean x) (pieces-clean k (suc t) (stepped x))

pub turns-clean : (text : ℕ → ℕ → List ℕ) (after : ℕ → ℕ → ℕ) → ((t x : ℕ) → clean (text t x) ≡ true) → (k t x : ℕ) → clean (in_turn text after k t x) ≡ true
turns-clean text after each zero t x = ap clean (turn-none text after t x)
turns-clean text after each (suc k) t x =
    ap clean (turn-first text after k t x) ∙ clean-append (text t x) (in_turn text after k (suc t) (after t x)) (each t x) (turns-clean text after each k (suc t) (after t x))

pub load-clean : (x : ℕ) → clean (load_line x) ≡ true
unfolding load_line source
load-clean x = clean-append (escaped (pieces_from 1000 0 x)) (codes "\"}") (pieces-clean 1000 0 x) refl

small-clean : (n : ℕ) → n < 100000 → clean (decimal n) ≡ true
small-clean n few = decimal-clean n (omega (arith, few))

pub at-clean : (u x : ℕ) → 16 < u → u < 100000 → clean (at_op u x) ≡ true
unfolding at_op
at-clean u x some few = clean-append (decimal (drawn u x)) (codes "}") (small-clean (drawn u x) (omega (arith, drawn-below u x (omega (arith, some)), few))) refl

pub edit_text-clean : (a d : ℕ) (text : List ℕ) → a + d < 100000 → clean (escaped text) ≡ true → clean (edit_text a d text) ≡ true
unfolding edit_text
edit_text-clean a d text few plain =
    let end = codes "],\"with\":\"" ++ (escaped text ++ codes "\"}") in
    let end_clean : clean end ≡ true = clean-append (escaped text) (codes "\"}") plain refl in
    clean-append (decimal a) (codes "," ++ (decimal (a + d) ++ end)) (small-clean a (omega (arith, few)))
    (clean-append (decimal (a + d)) end (small-clean (a + d) few) end_clean)

pub edit-clean : (u x : ℕ) → 16 < u → u < 100000 → clean (edit_op u x) ≡ true
unfolding edit_op
edit-clean u x some few =
    let a_below : drawn (u - 16) x < u - 16 = drawn-below (u - 16) x (omega (arith, some)) in
    let d_below : drawn 8 (stepped x) < 8 = drawn-below 8 (stepped x) (lit< tt) in
    edit_text-clean (drawn (u - 16) x) (drawn 8 (stepped x)) (piece_drawn (stepped (stepped x))) (omega (arith, a_below, d_below, some, few)) (drawn-clean (stepped (stepped x)))

pub comma-clean : (t : ℕ) → clean (comma t) ≡ true
unfolding comma
comma-clean t = elim (t == 0) as (λ b. clean (if b then [] else codes ",") ≡ true) [ true ↦ refl | false ↦ refl ]

pub op-clean : (u t x : ℕ) → 16 < u → u < 100000 → clean (comma t ++ op u t x) ≡ true
unfolding op
op-clean u t x some few = clean-append (comma t) (op u t x) (comma-clean t)
    (elim (is_edit t) as (λ b. clean (if b then edit_op u x else at_op u x) ≡ true) [ true ↦ edit-clean u x some few | false ↦ at-clean u x some few ])

pub ops-clean : (u x : ℕ) → 16 < u → u < 100000 → clean (ops u x) ≡ true
unfolding ops
ops-clean u x some few = turns-clean (λ t y. comma t ++ op u t y) after_op (λ t y. op-clean u t y some few) 210 0 x

pub keep-clean : (j : ℕ) → clean (keep j) ≡ true
unfolding keep
keep-clean j = elim (j == 0) as (λ b. clean (if b then codes ",\"keep\":\"kept\"" else []) ≡ true) [ true ↦ refl | false ↦ refl ]

pub job-clean : (u j x : ℕ) → 16 < u → u < 100000 → clean (comma j ++ job u j x) ≡ true
unfolding job
job-clean u j x some few =
    let end = codes "]" ++ (keep j ++ codes ",\"on\":\"doc\"}") in
    let end_clean : clean end ≡ true = clean-append (keep j) (codes ",\"on\":\"doc\"}") (keep-clean j) refl in
    clean-append (comma j) (codes "{\"do\":[" ++ (ops u x ++ end)) (comma-clean j) (clean-append (ops u x) end (ops-clean u x some few) end_clean)

pub batch-clean : (u x : ℕ) → 16 < u → u < 100000 → clean (batch_line u x) ≡ true
unfolding batch_line jobs
batch-clean u x some few =
    clean-append (jobs u x) (codes "]}") (turns-clean (λ j y. comma j ++ job u j y) (λ j. after_ops) (λ j y. job-clean u j y some few) 8 0 x) refl
