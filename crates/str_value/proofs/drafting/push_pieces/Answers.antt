use Rattle.std.proofs.Common.{◌≡◌, refl, ◌-◌, ℕ, List, ◌++◌, append-nil, append_assoc, sym, ap, subst, ◌∙◌, length, take, drop, length-append, arith}
use Rattle.std.proofs.lemmas.List.{length-take-le, length-drop}
use Rattle.text_spec.specs.Boundaries.{IsScalarBoundary}
use Rattle.text_spec.specs.Text.{utf8}
use Rattle.text_spec.specs.Views.{width_in}
use Rattle.str_value.specs.Meaning.{Meaning, storage_of, byte_place}
use Rattle.str_value.specs.Drafting.{Writing, utf8_from}
use Rattle.str_value.proofs.Drafted.{next-here, next-bytes}
use Rattle.str_value.proofs.drafting.push_pieces.Goals as goal

pub pieces-init : goal.pieces-init
pieces-init g c =
    let none : c.args.count - c.args.count ≡ 0 = omega arith in
    record {
      kept = refl;
      some = omega arith;
      boundary = c.requires.boundary;
      here = λ _. omega arith;
      bytes = sym (ap (λ n. record c.args.writer.now { bytes = c.args.writer.now.bytes ++ utf8_from c.args.value.now c.args.from n }) none
          ∙ ap (λ (l : List ℕ). record c.args.writer.now { bytes = l }) (append-nil c.args.writer.now.bytes));
    }

pub push-requires : goal.push-requires
push-requires g c =
    let i = c.pieces.invariant in
    let s = c.args.value.now in
    let u = utf8 s.text in
    let done = c.args.count - c.pieces.left in
    let n = c.next_piece-size.result.0 in
    let e = c.next_piece-size.ensures in
    record {
      room = omega (
        arith,
        c.requires.room,
        i.some,
        e.most.0,
        c.requires.inside,
        ap (λ (x : Writing). length x.bytes) i.bytes,
        ap (λ (x : Writing). x.start.heap.layout.capacity_words) i.bytes,
        length-append c.args.writer.now.bytes (utf8_from s c.args.from done),
        length-take-le done (drop (byte_place s c.args.from) u) (omega (arith, c.requires.inside, length-drop (byte_place s c.args.from) u)),
        length-take-le n c.next_piece-size.new.piece (omega (arith, e.most.1, c.next_piece-size.array_long)),
      );
    }

pub pieces-preserved : goal.pieces-preserved
pieces-preserved g c =
    let i = c.pieces.invariant in
    let s = c.args.value.now in
    let w = c.args.writer.now in
    let seen = c.pieces.value in
    let left = c.pieces.left in
    let n = c.next_piece-size.result.0 in
    let next = c.next_piece-size.result.1 in
    let piece = c.next_piece-size.new.piece in
    let e = c.next_piece-size.ensures in
    let more = c.pieces-test.true in
    record {
      kept = e.kept ∙ i.kept;
      some = omega (arith, i.some);
      boundary = subst (λ (m : Meaning). IsScalarBoundary (width_in (storage_of m.row)) m.text next) i.kept e.boundary;
      here = next-here s seen i.kept c.args.from c.args.count c.pieces.at left n next piece i.some more e.most.0 i.here e.bytes e.next;
      bytes = c.push.ensures ∙ ap (λ (x : Writing). record x { bytes = x.bytes ++ take n piece }) i.bytes
          ∙ ap (λ (l : List ℕ). record w { bytes = l })
          (append_assoc w.bytes (utf8_from s c.args.from (c.args.count - left)) (take n piece)
          ∙ ap (λ (l : List ℕ). w.bytes ++ l) (next-bytes s seen i.kept c.args.from c.args.count c.pieces.at left n next piece i.some more e.most.0 i.here e.bytes e.next));
    }

pub returns : goal.returns
returns g c =
    let i = c.pieces.invariant in
    let all : c.args.count - c.pieces.left ≡ c.args.count = omega (arith, c.pieces-test.false) in
    record {
      bytes = i.bytes ∙ ap (λ n. record c.args.writer.now { bytes = c.args.writer.now.bytes ++ utf8_from c.args.value.now c.args.from n }) all;
      kept = i.kept;
    }
