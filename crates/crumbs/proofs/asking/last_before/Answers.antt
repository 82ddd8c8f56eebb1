use Rattle.std.proofs.Common.{◌≡◌, refl, ap, ◌∙◌, ◌+◌, ◌-◌, ◌*◌, ◌/◌, ◌<◌, ◌≤◌, arith, subst}
use Rattle.index_words.specs.Crumbs.{index16}
use Rattle.index_words.specs.Fields.{place_of}
use Rattle.crumbs.proofs.Crumbing.{index16-zero, halved, kept_half, none_left, le_told, gt_told}
use Rattle.crumbs.proofs.asking.last_before.Goals as goal

pub halves-init : goal.halves-init
halves-init g c =
    let b = (g.T.Text.part c.args.t.now).whole in
    let none : 0 * g.T.Text.STRIDE ≡ 0 = omega arith in
    record {
      same = refl;
      apart = omega arith;
      within = omega arith;
      before = omega (arith, ap (λ m. place_of (index16 b m)) none, index16-zero b);
      after = λ h. absurd (omega arith);
      counted = λ d h. (d, omega (arith, h), omega arith);
      cost = λ d h. (d, omega arith, omega arith);
    }

pub halves-preserved-then-le : goal.halves-preserved-then-le
halves-preserved-then-le g c =
    let l = c.halves in
    let middle = l.low + (l.high - l.low) / 2 in
    record {
      same = c.crumb-there.ensures.kept ∙ l.invariant.same;
      apart = omega arith;
      within = l.invariant.within;
      before = subst (λ n. place_of n ≤ place_of c.args.i) (there g c) (le_told _ _ c.if-le.ensures);
      after = l.invariant.after;
      counted = λ digits h.
          let e = l.invariant.counted digits h in
          let f = kept_half (l.high - l.low) (l.high - middle) e.0 (c.args.steps.now + digits) l.steps (omega arith) (omega arith) e.1 e.2 in
          (f.0, f.1, omega (arith, f.2, c.crumb-there.ensures.cost));
      cost = λ digits h.
          let e = l.invariant.cost digits h in
          let f = halved (l.high - l.low) (l.high - middle) e.0 l.steps _ (omega arith) e.1 (omega arith) e.2 in
          (f.0, f.1, omega (arith, f.2));
    }
  where
    there : (g : _) (c : goal.Then-le g) → c.crumb-there.result ≡ index16 (g.T.Text.part c.args.t.now).whole ((c.halves.low + (c.halves.high - c.halves.low) / 2) * g.T.Text.STRIDE)
    there g c = c.crumb-there.ensures.value ∙ ap (λ t. index16 (g.T.Text.part t).whole ((c.halves.low + (c.halves.high - c.halves.low) / 2) * g.T.Text.STRIDE)) c.halves.invariant.same

pub halves-preserved : goal.halves-preserved
halves-preserved g c =
    let l = c.halves in
    let middle = l.low + (l.high - l.low) / 2 in
    record {
      same = c.crumb-there.ensures.kept ∙ l.invariant.same;
      apart = omega arith;
      within = omega arith;
      before = l.invariant.before;
      after = λ h. subst (λ n. place_of c.args.i < place_of n) (there g c) (gt_told _ _ c.if-le.ensures);
      counted = λ digits h.
          let e = l.invariant.counted digits h in
          let f = kept_half (l.high - l.low) (middle - l.low) e.0 (c.args.steps.now + digits) l.steps (omega arith) (omega arith) e.1 e.2 in
          (f.0, f.1, omega (arith, f.2, c.crumb-there.ensures.cost));
      cost = λ digits h.
          let e = l.invariant.cost digits h in
          let f = halved (l.high - l.low) (middle - l.low) e.0 l.steps _ (omega arith) e.1 (omega arith) e.2 in
          (f.0, f.1, omega (arith, f.2));
    }
  where
    there : (g : _) (c : goal.Else-le g) → c.crumb-there.result ≡ index16 (g.T.Text.part c.args.t.now).whole ((c.halves.low + (c.halves.high - c.halves.low) / 2) * g.T.Text.STRIDE)
    there g c = c.crumb-there.ensures.value ∙ ap (λ t. index16 (g.T.Text.part t).whole ((c.halves.low + (c.halves.high - c.halves.low) / 2) * g.T.Text.STRIDE)) c.halves.invariant.same

-- one breadcrumb is left, so that nothing is left to be halved
pub returns-clause-counted : goal.returns-clause-counted
returns-clause-counted g c =
    let l = c.halves in
    λ digits h.
    let e = l.invariant.counted digits h in
    omega (arith, e.2, none_left e.0 (l.high - l.low) e.1 (omega arith))
