use Rattle.std.proofs.Common.{◌≡◌, sym, ap, ◌∙◌, ℕ, List, ◌+◌, ◌<◌, length, get_or, arith, Some}
use Rattle.std.proofs.lemmas.Bool.{eqb-true, false≢true}
use Rattle.std.proofs.lemmas.Str.{len_utf8_bounds, IsUtf8-nil}
use Rattle.std.specs.Char.{len_utf8}
use Rattle.std.specs.Str.{chars}
use Rattle.text_spec.specs.declared.encoding.Encoding.TheVariants.{Utf8}
use Rattle.text_spec.specs.Offsets.{len_utf16, start, down}
use Rattle.index_words.specs.Crumbs.{size16, crumbs}
use Rattle.text_spec.specs.Packed.{bytes_of, denoted_text}
use Rattle.text_spec.proofs.Walk.{start-zero, down-start}
use Rattle.text_spec.proofs.Widths.{len8_some}
use Rattle.crumbs.specs.Fitting.{IsListOf}
use Rattle.crumbs.proofs.Crumbing.{length-crumbs}
use Rattle.crumbs.proofs.Growing.{few_from_last}
use Rattle.crumbs.proofs.Matching.{HasFirst, scalar_begins, onward, has_more, not_list, is_list, Ended, ended, end_amiss, small_text, front_more, denotes}
use Rattle.crumbs.proofs.fitting.is_list_of.Goals as goal

-- at the start nothing is walked over
walked_none : (t : List ℕ) (n : ℕ) (side : List ℕ) → (start len_utf8 t (down len_utf8 t 0) ≡ 0) × (start len_utf16 t (down len_utf8 t 0) ≡ 0) × HasFirst t n side 0
walked_none t n side =
    let none : down len_utf8 t 0 ≡ 0 = ap (down len_utf8 t) (sym (start-zero len_utf8 t)) ∙ down-start len_utf8 len8_some t 0 (omega arith) in
    (ap (start len_utf8 t) none ∙ start-zero len_utf8 t, ap (start len_utf16 t) none ∙ start-zero len_utf16 t, λ j h. absurd (omega arith))

pub scalars-init : goal.scalars-init
scalars-init c =
    record {
      front = IsUtf8-nil;
      within = omega arith;
      few = omega arith;
      walked = λ t den. walked_none t c.span_of-span.result c.args.side.now;
      due = omega arith;
      number_few = omega arith;
      last = λ h. absurd (omega arith);
    }

-- a side that is the list is so for the stride that is walked by, too
list_is : (c_stride span : ℕ) (content : List ℕ) (count : ℕ) (side : List ℕ) → ((text : List ℕ) → size16 text < 281474976710656 → crumbs text span ≡ crumbs text c_stride)
    → count < 281474976710656 → (l : IsListOf content count c_stride side) → side ≡ crumbs l.text span
list_is stride span content count side same small l = l.list ∙ sym (same l.text (small_text content count l.text l.denoted small))

-- where no scalar begins, the bytes are no text
pub returns-in-None : goal.returns-in-None
returns-in-None c = (
  λ h. absurd (false≢true h),
  λ l. absurd (scalar_begins c.args.content.now c.args.count l.text l.denoted c.scalars.at (c.scalars.invariant.walked l.text l.denoted).0 c.scalars-test.true c.in-None.ensures),
)

-- where a breadcrumb isn't there, the side is no list of a text
pub returns-in-None-matched : goal.returns-in-None-matched
returns-in-None-matched c = (
  λ h. absurd (false≢true h),
  λ l.
      let i = c.scalars.invariant in
      let w = i.walked l.text l.denoted in
      let o = onward c.args.content.now c.args.count l.text l.denoted c.scalars.at c.scalars.reached c.in-Some.width c.units_of_width.result w.0 w.1 c.scalars-test.true c.in-Some.ensures c.units_of_width.ensures.units in
      let is = list_is c.args.stride c.span_of-span.result c.args.content.now c.args.count c.args.side.now c.span_of-span.ensures.same c.requires l in
      absurd (not_list l.text c.span_of-span.result c.args.side.now c.scalars.number c.scalars.at c.scalars.reached (c.scalars.reached + c.units_of_width.result)
      c.span_of-span.ensures.some.0 i.due (omega (arith, o.units_in)) o.each c.in-None-matched.ensures is),
)

pub scalars-preserved : goal.scalars-preserved
scalars-preserved c =
    let i = c.scalars.invariant in
    let found = c.in-Some.ensures in
    let more = c.in-Some-matched.ensures in
    let stop = c.scalars.reached + c.units_of_width.result in
    record {
      front = front_more c.args.content.now c.args.count c.scalars.at c.in-Some.width i.front found;
      within = found.within;
      few = omega (arith, i.few, found.width_is, len_utf8_bounds found.scalar, c.units_of_width.ensures.few);
      walked = λ t den.
          let w = i.walked t den in
          let o = onward c.args.content.now c.args.count t den c.scalars.at c.scalars.reached c.in-Some.width c.units_of_width.result w.0 w.1 c.scalars-test.true found c.units_of_width.ensures.units in
          (o.boundary, o.units_are, has_more t c.span_of-span.result c.args.side.now c.scalars.number c.scalars.at c.scalars.reached stop c.in-Some-matched.next i.due o.each more w.2);
      due = more.due;
      number_few = omega (arith, few_from_last c.in-Some-matched.next c.span_of-span.result stop c.span_of-span.ensures.some.0 more.last);
      last = more.last;
    }

pub returns-in-None-matched-2 : goal.returns-in-None-matched-2
returns-in-None-matched-2 c = (
  λ h. absurd (false≢true h),
  λ l.
      let i = c.scalars.invariant in
      let w = i.walked l.text l.denoted in
      let is = list_is c.args.stride c.span_of-span.result c.args.content.now c.args.count c.args.side.now c.span_of-span.ensures.same c.requires l in
      absurd (end_amiss c.args.content.now c.args.count l.text l.denoted c.span_of-span.result c.args.side.now c.scalars.at c.scalars.number c.scalars.reached
      c.span_of-span.ensures.some.0 (omega (arith, i.within)) w.1 i.due c.in-None-matched-2.ensures is),
)

pub returns-then-side-total : goal.returns-then-side-total
returns-then-side-total c =
    let i = c.scalars.invariant in
    let span = c.span_of-span.result in
    let side = c.args.side.now in
    let at : c.scalars.at ≡ c.args.count = omega (arith, i.within) in
    let end : (t : List ℕ) → denoted_text Utf8 c.args.content.now c.args.count ≡ Some t → Ended t span side c.scalars.reached c.in-Some-matched-2.total =
    λ t den. let w = i.walked t den in
    ended c.args.content.now c.args.count t den span side c.scalars.at c.scalars.number c.scalars.reached c.in-Some-matched-2.total c.span_of-span.ensures.some.0 at w.1 w.2 i.due c.in-Some-matched-2.ensures in (
      λ h.
          let zero_is = c.stands.ensures.0 h in
          let t = chars (bytes_of c.args.content.now c.args.count) in
          let den = denotes c.args.content.now c.args.count c.scalars.at at (omega arith) i.front in
          let e = end t den in
          record {
            text = t;
            denoted = den;
            list = is_list t span side c.in-Some-matched-2.total e.next_is e.first c.if-side-total.true (zero_is.1 ∙ e.all)
                ∙ c.span_of-span.ensures.same t (small_text c.args.content.now c.args.count t den c.requires);
          },
      λ l.
          let e = end l.text l.denoted in
          c.stands.ensures.1 (omega (arith, c.if-side-total.true), ap (λ s. get_or s 0 0) l.list ∙ sym e.all),
    )

pub returns-else-side-total : goal.returns-else-side-total
returns-else-side-total c =
    let i = c.scalars.invariant in
    let span = c.span_of-span.result in
    let side = c.args.side.now in (
      λ h. absurd (c.if-side-total.false (eqb-true _ _ h)),
      λ l.
          let w = i.walked l.text l.denoted in
          let e = ended c.args.content.now c.args.count l.text l.denoted span side c.scalars.at c.scalars.number c.scalars.reached c.in-Some-matched-2.total c.span_of-span.ensures.some.0
          (omega (arith, i.within)) w.1 w.2 i.due c.in-Some-matched-2.ensures in
          let is = list_is c.args.stride span c.args.content.now c.args.count side c.span_of-span.ensures.same c.requires l in
          absurd (c.if-side-total.false (omega (arith, ap length is, length-crumbs l.text span, e.next_is))),
    )
