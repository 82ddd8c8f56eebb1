use Rattle.std.proofs.Common.{◌≡◌, refl, ◌-◌, sym, ap, subst, ◌∙◌, take, arith}
use Rattle.text_spec.specs.Boundaries.{IsScalarBoundary}
use Rattle.text_spec.specs.Views.{width_in}
use Rattle.object_words.specs.Rows.{is_ascii}
use Rattle.str_value.specs.Meaning.{Meaning, storage_of}
use Rattle.str_value.specs.Drafting.{utf8_from}
use Rattle.str_value.proofs.Drafted.{piece-is, next-here, next-bytes, ascii-joined, ascii-stops}
use Rattle.str_value.proofs.drafting.is_ascii_pieces.Goals as goal

pub pieces-init : goal.pieces-init
pieces-init g c =
    let none : c.args.count - c.args.count ≡ 0 = omega arith in
    record {
      kept = refl;
      some = omega arith;
      boundary = c.requires.boundary;
      here = λ _. omega arith;
      ascii = ap (λ n. is_ascii (utf8_from c.args.value.now c.args.from n)) none;
    }

pub pieces-preserved : goal.pieces-preserved
pieces-preserved g c =
    let i = c.pieces.invariant in
    let s = c.args.value.now in
    let seen = c.pieces.value in
    let left = c.pieces.left in
    let n = c.next_piece-size.result.0 in
    let next = c.next_piece-size.result.1 in
    let piece = c.next_piece-size.new.piece in
    let e = c.next_piece-size.ensures in
    let more = c.pieces-test.true in
    record {
      kept = e.kept ∙ i.kept;
      some = omega (arith, i.some);
      boundary = subst (λ (m : Meaning). IsScalarBoundary (width_in (storage_of m.row)) m.text next) i.kept e.boundary;
      here = next-here s seen i.kept c.args.from c.args.count c.pieces.at left n next piece i.some more e.most.0 i.here e.bytes e.next;
      ascii = ascii-joined (utf8_from s c.args.from (c.args.count - left)) (take n piece) _ i.ascii (sym c.is_ascii.ensures ∙ c.if-not-is_ascii.false)
          (next-bytes s seen i.kept c.args.from c.args.count c.pieces.at left n next piece i.some more e.most.0 i.here e.bytes e.next);
    }

pub returns : goal.returns
returns g c =
    let i = c.pieces.invariant in
    let all : c.args.count - c.pieces.left ≡ c.args.count = omega (arith, c.pieces-test.false) in
    record {
      ascii = sym (sym (ap (λ n. is_ascii (utf8_from c.args.value.now c.args.from n)) all) ∙ i.ascii);
      kept = i.kept;
    }

pub returns-then-not-is_ascii-clause-ascii : goal.returns-then-not-is_ascii-clause-ascii
returns-then-not-is_ascii-clause-ascii g c =
    let i = c.pieces.invariant in
    let s = c.args.value.now in
    let left = c.pieces.left in
    let n = c.next_piece-size.result.0 in
    let piece = c.next_piece-size.new.piece in
    let e = c.next_piece-size.ensures in
    let more = c.pieces-test.true in
    ascii-stops s c.args.from c.pieces.at (c.args.count - left) n c.args.count (i.here more) (omega (arith, i.some, e.most.0)) i.ascii
    (sym (ap is_ascii (piece-is s c.pieces.value i.kept c.args.from c.args.count c.pieces.at left n c.next_piece-size.result.1 piece i.some more e.most.0 i.here e.bytes e.next))
    ∙ sym c.is_ascii.ensures ∙ c.if-not-is_ascii.true)
