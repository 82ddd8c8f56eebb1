-- A literal is cut off a seat, and reads the words of its row.
use Rattle.std.proofs.Common.{◌≡◌, ℕ, ◌+◌, ◌-◌, ◌*◌, ◌<◌, ◌≤◌, List, length, get_or, refl, sym, ap, ◌∙◌, subst, arith, mul-le-mul_left, mul-le-mul_right}
use mathlib.Core.Option.{none}
use Rattle.atomic_table.specs.Table.{step, keeps, Allows, Splits}
use Rattle.slot_model.specs.declared.layout.Layout.{Layout}
use Rattle.slot_table.specs.declared.view.SeatView.{SeatView}
use Rattle.slot_table.specs.Opening.{LayoutOk, most_bytes}
use Rattle.slot_table.specs.Addresses.{table_size}
use Rattle.literal_rows.specs.Rows.{rows_of, AllFit, AllCounted}
use Rattle.literal_rows.proofs.Placed.{rows_few}
use Rattle.slot_table.specs.declared.limits.TheConstants.{MOST_LITERALS, MOST_CAPACITY_WORDS}
use Rattle.slot_table.specs.Holdings.{Holds}
use Rattle.slot_table.specs.Views.{Sat}
use Rattle.slot_table.specs.LiteralSteps.{literally, Recites}
use Rattle.slot_table.proofs.Kept.{weigh_none}
use Rattle.slot_table.proofs.Cutting.{cut}
use Rattle.slot_table.proofs.Looking.{unmoved}

pub literal_allowed : (fits : List ℕ → List ℕ → Type 0) (k : Layout) (ls : List (List ℕ)) (id : ℕ) (v : SeatView) → v.layout ≡ k → v.literals ≡ ls → Splits (Holds fits k ls) id v v (literally v)
literal_allowed fits k ls id v layout literals s r at_id =
    let seat = r.seats id v at_id in
    cut fits k ls s r id v v (literally v) at_id record {
      weights = λ x. let z = weigh_none x 0 0 refl in omega (arith, z);
      closings = λ x. let z = weigh_none x 0 0 refl in omega (arith, z);
      frees = λ x. omega arith;
      credits = omega arith;
      places = λ m. omega arith;
    } (λ a. a) refl seat
    record { front_is = seat.front_is; told_is = (v.front, refl); places_below = λ n past. omega arith; literals_are = literals; draft_is = tt; role_is = (layout, record { light = refl; shared = refl; not_bare = refl; no_side = refl }, refl, refl, refl, refl) }

pub recites_allowed : (fits : List ℕ → List ℕ → Type 0) (k : Layout) (ls : List (List ℕ)) (slots id i : ℕ) (me : Sat) → me.0.layout ≡ k → me.0.literals ≡ ls → Allows (Holds fits k ls) slots id me i (λ n. n) (Recites (step slots i 0 0 none) me)
recites_allowed fits k ls slots id i me layout literals s r flat at_id small = (
  me.0,
  keeps,
  tt,
  unmoved fits k ls s r id i me.0 at_id,
  (
    refl,
    λ j where_is below. ap (λ (z : ℕ). get_or s.words z 0) (where_is ∙ ap (λ (l : Layout). table_size l + j) layout)
        ∙ (r.rows j (subst (λ (l : List (List ℕ)). j < length (rows_of l)) literals below) ∙ ap (λ (l : List (List ℕ)). get_or (rows_of l) j 0) (sym literals)),
  ),
)

-- the rows of literals that fit are few words
pub rows_within : (k : Layout) (ls : List (List ℕ)) → LayoutOk k → AllFit (most_bytes k) ls → length ls ≤ MOST_LITERALS → length (rows_of ls) ≤ MOST_LITERALS * MOST_CAPACITY_WORDS
rows_within k ls laid fit few =
    let most = laid.capacity_most in
    let least = laid.capacity_least in
    let rows = rows_few (k.capacity_words - 1) ls fit in
    let each : length ls * (1 + (k.capacity_words - 1)) ≤ MOST_LITERALS * MOST_CAPACITY_WORDS = omega (arith, mul-le-mul_left (length ls) (let h : 1 + (k.capacity_words - 1) ≤ MOST_CAPACITY_WORDS = omega (arith, most, least) in h), mul-le-mul_right MOST_CAPACITY_WORDS few) in
    omega (arith, rows, each)

-- the words of all slots are few
pub size_few : (k : Layout) → LayoutOk k → table_size k ≤ 16908289
size_few k laid = let words = laid.words_most in let slots = laid.slots_most in let e : k.slots * (k.capacity_words + 2) ≡ k.slots * k.capacity_words + k.slots * 2 = omega arith in omega (arith, words, slots, e)

-- each literal's number of bytes fits a count word
pub all_counted : (k : Layout) (ls : List (List ℕ)) → LayoutOk k → AllFit (most_bytes k) ls → AllCounted ls
all_counted k ls laid fit m below = let most = laid.capacity_most in let short = fit m below in omega (arith, most, short)
