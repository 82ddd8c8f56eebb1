use Rattle.std.proofs.Common.{◌≡◌, sym, ap, refl, ◌∙◌, length, rules, arith}
use Rattle.text_spec.specs.Text.{utf8}
use Rattle.text_spec.specs.Views.{width_in}
use Rattle.text_spec.proofs.Walk.{start-zero}
use Rattle.text_spec.specs.declared.encoding.Encoding.TheVariants.{Utf8, Utf16}
use Rattle.str_value.specs.Meaning.{Meaning, storage_of}
use Rattle.str_value.proofs.Between.{bytes-kept, start-boundary}
use Rattle.str_value.proofs.Counting.{scalars-counted, units-counted}
use Rattle.str_value.proofs.Measuring.{all-scalars, all-units8, all-bytes8, all-units16, all-bytes16}
use Rattle.str_value.proofs.value.Str.lengths.Goals as goal

all : (c : goal.After-lengths_of) → utf8 c.args.self.now.text ≡ c.as_slice.result.now
all c = (bytes-kept _ _ c.args.self.now _ _ c.self.invariant c.self.view_is c.in-Bytes.is c.as_slice.ensures.value).text

pub returns-in-Bytes-clause-scalars : goal.returns-in-Bytes-clause-scalars
returns-in-Bytes-clause-scalars c = scalars-counted c.args.self.now.text _ _ (all c) c.lengths_of.ensures.scalars

pub returns-in-Bytes-clause-utf16 : goal.returns-in-Bytes-clause-utf16
returns-in-Bytes-clause-utf16 c = units-counted c.args.self.now.text _ _ (all c) c.lengths_of.ensures.utf16

pub returns-in-Bytes-clause-utf8 : goal.returns-in-Bytes-clause-utf8
returns-in-Bytes-clause-utf8 c = c.lengths_of.ensures.utf8 ∙ ap length (sym (all c))

pub measured-other-requires : goal.measured-other-requires
measured-other-requires c =
    let now = c.args.self.now in
    record {
      name = refl;
      parts = refl;
      one = search rules;
      low = start-boundary (storage_of now.row) now.text 0 0 (omega arith) (sym (start-zero (width_in (storage_of now.row)) now.text));
      high = start-boundary (storage_of now.row) now.text (length now.text) c.count-count.result (omega arith) c.count-count.ensures.value;
      order = omega arith;
    }

pub returns-in-Utf8 : goal.returns-in-Utf8
returns-in-Utf8 c =
    let now = c.args.self.now in
    let m = c.measured-other in
    let read : storage_of now.row ≡ Utf8 = ap (λ (n : Meaning). storage_of n.row) (sym m.ensures.kept) ∙ sym c.in-Utf8.ensures in
    record {
      scalars = all-scalars (storage_of now.row) now.text c.count-count.result m.result.0 m.result.1 c.count-count.ensures.value m.ensures.other m.ensures.scalars;
      utf16 = all-units8 (storage_of now.row) now.text c.count-count.result m.result.0 m.result.1 c.count-count.ensures.value m.ensures.other m.ensures.scalars read;
      utf8 = all-bytes8 (storage_of now.row) now.text c.count-count.result m.result.0 m.result.1 c.count-count.ensures.value m.ensures.other m.ensures.scalars read;
      kept = m.ensures.kept;
    }

pub returns-in-Utf16 : goal.returns-in-Utf16
returns-in-Utf16 c =
    let now = c.args.self.now in
    let m = c.measured-other in
    let read : storage_of now.row ≡ Utf16 = ap (λ (n : Meaning). storage_of n.row) (sym m.ensures.kept) ∙ sym c.in-Utf16.ensures in
    record {
      scalars = all-scalars (storage_of now.row) now.text c.count-count.result m.result.0 m.result.1 c.count-count.ensures.value m.ensures.other m.ensures.scalars;
      utf16 = all-units16 (storage_of now.row) now.text c.count-count.result m.result.0 m.result.1 c.count-count.ensures.value m.ensures.other m.ensures.scalars read;
      utf8 = all-bytes16 (storage_of now.row) now.text c.count-count.result m.result.0 m.result.1 c.count-count.ensures.value m.ensures.other m.ensures.scalars read;
      kept = m.ensures.kept;
    }
