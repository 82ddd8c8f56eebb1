use Rattle.std.proofs.Common.{◌≡◌, ap, subst, ◌∙◌, ℕ, ◌+◌, ◌<◌, ◌≤◌, ◌++◌, length, take, get_or, arith, length-append}
use Rattle.std.proofs.lemmas.Str.{length-encode}
use Rattle.std.specs.Char.{encode_utf8}
use Rattle.text_spec.specs.Offsets.{start, down}
use Rattle.text_spec.specs.Views.{width_in, size_in}
use Rattle.word_units.proofs.FillingLemmas.{Passed, passed, piece_of, grows}
use Rattle.word_units.proofs.fill.fill.Given.{Over}
use Rattle.word_units.proofs.fill.fill.Goals as goal

-- the scalar that is read, of the text as it was
step : (g : Over) (old text : g.row.T.Denot) (at to scalar width : ℕ) → text ≡ old → at < to → to ≤ size_in (g.T.Text.part old).storage (g.T.Text.part old).whole
    → start (width_in (g.T.Text.part old).storage) (g.T.Text.part old).whole (down (width_in (g.T.Text.part old).storage) (g.T.Text.part old).whole at) ≡ at
    → start (width_in (g.T.Text.part old).storage) (g.T.Text.part old).whole (down (width_in (g.T.Text.part old).storage) (g.T.Text.part old).whole to) ≡ to
    → scalar ≡ get_or (g.T.Text.part text).whole (down (width_in (g.T.Text.part text).storage) (g.T.Text.part text).whole at) 0
    → width ≡ width_in (g.T.Text.part text).storage (get_or (g.T.Text.part text).whole (down (width_in (g.T.Text.part text).storage) (g.T.Text.part text).whole at) 0)
    → Passed (g.T.Text.part old).storage (g.T.Text.part old).whole at to (at + width) scalar
step g old text at to scalar width same before within boundary end_boundary is takes =
    passed _ _ at to _ scalar before within boundary end_boundary
    (subst (λ t. scalar ≡ get_or (g.T.Text.part t).whole (down (width_in (g.T.Text.part t).storage) (g.T.Text.part t).whole at) 0) same is)
    (ap (λ n. at + n) (subst (λ t. width ≡ width_in (g.T.Text.part t).storage (get_or (g.T.Text.part t).whole (down (width_in (g.T.Text.part t).storage) (g.T.Text.part t).whole at) 0)) same takes))

pub returns-then-size-len_utf8-gt64-clause-piece : goal.returns-then-size-len_utf8-gt64-clause-piece
returns-then-size-len_utf8-gt64-clause-piece g c =
    let i = c.scalars.invariant in piece_of _ _ _ _ _ _ _ _ i.bytes i.long i.order c.requires.boundary i.boundary i.size

pub scalars-preserved : goal.scalars-preserved
scalars-preserved g c =
    let i = c.scalars.invariant in
    let read = c.scalar_at-scalar in
    let next = step g c.args.t.now c.scalars.t c.scalars.at c.args.to read.result.0 read.result.1 i.same c.scalars-test.true c.requires.inside i.boundary c.requires.end_boundary
    read.ensures.scalar read.ensures.width in
    let size = c.put-size.ensures.size in
    let sum : length (take c.scalars.size c.scalars.buf) + length (encode_utf8 read.result.0) ≡ c.put-size.result = omega (arith, i.long, length-encode read.result.0, size) in
    record {
      same = read.ensures.kept ∙ i.same;
      bytes = c.put-size.ensures.bytes ∙ ap (λ bs. bs ++ encode_utf8 read.result.0) i.bytes ∙ grows _ _ _ _ read.result.0 i.number next.inside next.number next.is;
      long = ap length c.put-size.ensures.bytes ∙ length-append _ _ ∙ sum;
      size = omega (arith, size, next.size, i.size);
      fits = omega (arith, size, c.if-size-len_utf8-gt64.false, c.len_utf8.ensures.value);
      boundary = next.boundary;
      order = omega (arith, next.ahead, i.order);
      number = omega (arith, next.number, i.number);
      within = next.within;
      cost = omega (arith, read.ensures.cost, i.cost, size, next.some);
    }

pub returns-clause-piece : goal.returns-clause-piece
returns-clause-piece g c =
    let i = c.scalars.invariant in piece_of _ _ _ _ _ _ _ _ i.bytes i.long i.order c.requires.boundary i.boundary i.size
