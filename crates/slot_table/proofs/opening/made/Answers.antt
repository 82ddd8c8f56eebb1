use Rattle.std.proofs.Common.{rules, ◌≡◌, ◌≤◌, ◌*◌, ℕ, List, ◌++◌, length, length-append, arith, vec_capacity, refl, sym, ap, ◌∙◌, subst}
use Rattle.slot_table.specs.declared.view.SeatView.{SeatView}
use Rattle.slot_table.specs.Addresses.{first_table, zeros, table_size}
use Rattle.literal_rows.specs.Rows.{rows_of, row_starts, AllFit}
use Rattle.std.proofs.lemmas.List.{length-replicate}
use Rattle.slot_table.specs.PassSteps.{first_view}
use Rattle.slot_table.specs.Ties.{IsWhole}
use Rattle.slot_table.proofs.Reciting.{rows_within, all_counted}
use Rattle.text_spec.specs.Texts.{AreTexts}
use Rattle.slot_table.specs.declared.limits.TheConstants.{MOST_LITERALS, MOST_CAPACITY_WORDS}
use Rattle.slot_table.specs.Opening.{most_bytes}
use Rattle.slot_table.proofs.Ending.{begins, first_all}
use Rattle.slot_table.proofs.opening.made.Goals as goal

pub rows_after-requires-clause-counted : goal.rows_after-requires-clause-counted
rows_after-requires-clause-counted g c = all_counted c.args.layout.now c.args.literals.now c.requires.0.0 c.requires.1

pub of_words-requires : goal.of_words-requires
of_words-requires g c =
    let k = c.args.layout.now in
    let words : c.as_slice.result.now ≡ first_table k c.of.result.value =
    c.as_slice.ensures.value ∙ c.in_ok-words.ensures.words ∙ ap (λ (n : ℕ). zeros n ++ rows_of c.args.literals.now) c.table_size.ensures
    ∙ ap (first_table k) (sym c.of.ensures) in
    begins g.A.Attach.fits k c.of.result.value c.as_slice.result.now words c.requires.0.0

pub invariant_of-whole : goal.invariant_of-whole
invariant_of-whole g c = let seat = c.in_ok-table.ensures.4 in let v : c.in_ok-table.seat.me.0 ≡ first_view c.args.layout.now c.of.result.value = ap (λ m. m.0) seat in (
  ap (λ m. m.1) seat,
  subst (λ (z : SeatView). IsWhole g.A.Attach.fits z c.in_ok-free.free.items (vec_capacity c.in_ok-free.free)) (sym v) record {
    role = refl;
    no_draft = refl;
    every = refl;
    free_is = sym c.in_ok-free.ensures.0;
    roomy = c.in_ok-free.ensures.1;
    ends = first_all g.A.Attach.fits c.args.layout.now c.of.result.value;
  },
)

pub invariant_of-heap : goal.invariant_of-heap
invariant_of-heap g c =
    let k = c.args.layout.now in
    let ls = c.args.literals.now in
    let same : c.in_ok-table.table.shared.key.literals.value ≡ ls = search rules in
    let long = ap length (c.as_slice.ensures.value ∙ c.in_ok-words.ensures.words) in
    let sum = length-append (zeros c.table_size.result) (rows_of ls) in
    let nil : ℕ = 0 in
    let slots = length-replicate c.table_size.result nil in
    let moved = ap (λ (l : List (List ℕ)). length (rows_of l)) same in
    let table = c.in_ok-table.ensures.0 in
    let size = c.table_size.ensures in record {
      layout_is = search rules;
      literals_are = search rules;
      words_are = omega (arith, long, sum, slots, moved, table, size);
      no_slots = search rules;
      laid = search rules;
      counted = search rules;
      few = search rules;
      few_words = subst (λ (l : List (List ℕ)). length (rows_of l) ≤ MOST_LITERALS * MOST_CAPACITY_WORDS) (sym same) (rows_within k ls c.requires.0.0 c.requires.1 c.requires.0.1);
      starts_are = c.in_ok-words.ensures.starts ∙ ap (λ (n : ℕ). row_starts n ls) size ∙ ap (row_starts (table_size k)) (sym same);
      texts = subst AreTexts (sym same) c.len.ensures.texts;
      fit = subst (AllFit (most_bytes k)) (sym same) c.requires.1;
    }
