-- One scalar on.
use Rattle.std.proofs.Common.{◌≡◌, sym, ap, subst, ◌∙◌, ℕ, suc, ◌+◌, ◌<◌, List, get_or, arith}
use Rattle.text_spec.specs.declared.encoding.Encoding.{Encoding}
use Rattle.text_spec.specs.Offsets.{start, down}
use Rattle.text_spec.specs.Views.{width_in, other_width, size_in}
use Rattle.text_spec.proofs.Walk.{start-suc, start-le, down-next, down-start}
use Rattle.text_spec.proofs.Widths.{width_some, width_most, other_some, other_most}
use Rattle.word_units.specs.Walking.{Passes}
use Rattle.word_units.specs.Parts.{part_of, Part, all_of}

pub passes : (e : Encoding) (b : List ℕ) (first end at next units : ℕ) → at < size_in e b → start (width_in e) b (down (width_in e) b at) ≡ at
    → next ≡ at + width_in e (get_or b (down (width_in e) b at) 0) → units ≡ other_width e (get_or b (down (width_in e) b at) 0) → Passes (part_of e b first end) at next units
passes e b first end at next units h is ends takes =
    let w = width_in e in
    let o = other_width e in
    let k = down w b at in
    let near = down-next w b at h in
    let c = get_or b k 0 in
    let here : next ≡ start w b (suc k) = omega (arith, ends, is, start-suc w b k near.0) in
    let number : down w b next ≡ suc k = ap (down w b) here ∙ down-start w (width_some e) b (suc k) (omega (arith, near.0)) in
    record {
      inside = near.0;
      number = omega (arith, number);
      boundary = ap (start w b) number ∙ sym here;
      other = ap (start o b) number ∙ start-suc o b k near.0 ∙ omega (arith, takes);
      ahead = omega (arith, ends, width_some e c);
      near = omega (arith, ends, width_most e c);
      within = omega (arith, here, start-le w b (suc k));
      some = omega (arith, takes, other_some e c);
      few = omega (arith, takes, other_most e c);
    }

-- the same in all of the storage, once its encoding is known
pub passes_all : (t : Part) (e : Encoding) (at next units : ℕ) → t.storage ≡ e → Passes t at next units → Passes (all_of e t.whole) at next units
passes_all t e at next units same p =
    let q = subst (λ x. Passes (part_of x t.whole t.first t.end) at next units) same p in
    record {
      inside = q.inside;
      number = q.number;
      boundary = q.boundary;
      other = q.other;
      ahead = q.ahead;
      near = q.near;
      within = q.within;
      some = q.some;
      few = q.few;
    }
