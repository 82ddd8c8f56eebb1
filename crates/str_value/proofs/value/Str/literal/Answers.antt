use Rattle.std.proofs.Common.{◌≡◌, sym, ap, ◌∙◌, ◌^◌, ◌<◌, ◌≤◌, ◌%◌, [], length, get_or, chars, refl, rules, arith}
use Rattle.object_words.specs.Rows.{literal, is_ascii, Describes}
use Rattle.slot_table.specs.Owners.{LiteralSeen}
use Rattle.str_value.specs.declared.limits.TheConstants.{MAX_TEXT_BYTES}
use Rattle.literal_rows.specs.Rows.{literal_row}
use Rattle.str_value.proofs.Literals.{literal-says, literal-held, literal-stored, literal-number}
use Rattle.str_value.proofs.value.Str.literal.Goals as goal

short : (c : goal.After-literal-object) → length (get_or c.args.pass.now.heap.literals c.args.k []) ≤ MAX_TEXT_BYTES
short c = omega (arith, c.literal-literal.ensures.fits, c.literal-literal.ensures.laid.capacity_most)

same : (c : goal.After-literal-object) → c.read-head.new.self ≡ record { heap = c.args.pass.now.heap; front = c.args.pass.now.front; words = literal_row (get_or c.args.pass.now.heap.literals c.args.k []) }
same c = c.read-head.ensures.kept ∙ c.literal-literal.ensures.literal

row : (c : goal.After-literal-object) → c.read-head.new.self.words ≡ literal_row (get_or c.args.pass.now.heap.literals c.args.k [])
row c = ap (λ (l : LiteralSeen). l.words) (same c)

fits : (c : goal.After-literal-object) → c.literal-object.result.1 < 2 ^ 64
fits c = search rules

says : (c : goal.After-literal-object) → Describes (literal (is_ascii (get_or c.args.pass.now.heap.literals c.args.k [])) (is_ascii (get_or c.args.pass.now.heap.literals c.args.k [])) (length (get_or c.args.pass.now.heap.literals c.args.k [])) c.args.k) c.literal-object.result
says c =
    literal-says (get_or c.args.pass.now.heap.literals c.args.k []) c.literal-literal.ensures.text (short c) c.read-head.new.self (row c) c.read-head.result c.literal-object.result _ _ c.args.k
    (c.read-head.ensures.word ∙ ap (λ (l : LiteralSeen). get_or l.words 0 0) (sym c.read-head.ensures.kept)) refl c.unit_count-count.ensures c.literal-object.ensures

pub invariant_of-result : goal.invariant_of-result
invariant_of-result c =
    literal-stored (get_or c.args.pass.now.heap.literals c.args.k []) c.literal-literal.ensures.text (short c) c.read-head.new.self (row c) c.literal-object.result c.args.k (fits c) (says c)

pub returns-clause-literal : goal.returns-clause-literal
returns-clause-literal c =
    let bs = get_or c.args.pass.now.heap.literals c.args.k [] in
    let held = literal-held bs c.literal-literal.ensures.text (short c) c.read-head.new.self (row c) in
    let number = literal-number bs c.literal-literal.ensures.text (short c) c.read-head.new.self (row c) c.literal-object.result c.args.k (fits c) (says c) in
    record {
      text = ap chars held;
      row = ap (λ b. literal (is_ascii b) (is_ascii b) (length b) (c.literal-object.result.1 % 2 ^ 32)) held ∙ ap (literal (is_ascii bs) (is_ascii bs) (length bs)) number;
      place = ap Rattle.str_value.specs.Meaning.fixed (same c);
    }
