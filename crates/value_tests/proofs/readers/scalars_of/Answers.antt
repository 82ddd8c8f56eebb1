use Rattle.std.proofs.Common.{refl, arith}
use Rattle.text_spec.specs.Views.{width_in}
use Rattle.text_spec.proofs.Downward.{start-down}
use Rattle.value_tests.proofs.readers.scalars_of.Goals as goal

pub scalars-init : goal.scalars-init
scalars-init g c =
    record {
      same = refl;
      end = c.count-end.ensures.value;
      within = omega arith;
      boundary = omega (arith, start-down (width_in (g.T.Text.part c.args.t.now).storage) (g.T.Text.part c.args.t.now).whole 0);
    }
