use Rattle.std.proofs.Common.{rules, sym, subst, ◌∙◌}
use Rattle.object_words.specs.Rows.{Describes}
use Rattle.object_words.proofs.Forms.{count_low, count_high}
use Rattle.object_words.proofs.object.Object.count.Goals as goal

pub returns-then-top-lt-SMALL_TOP : goal.returns-then-top-lt-SMALL_TOP
returns-then-top-lt-SMALL_TOP c row d =
    c.unit_count.ensures ∙ count_low row _ _ (search rules) (subst (Describes row) (sym c.self.view_is) d) c.if-top-lt-SMALL_TOP.true

pub returns-else-top-lt-SMALL_TOP : goal.returns-else-top-lt-SMALL_TOP
returns-else-top-lt-SMALL_TOP c row d = count_high row _ _ (search rules) (subst (Describes row) (sym c.self.view_is) d) c.if-top-lt-SMALL_TOP.false
