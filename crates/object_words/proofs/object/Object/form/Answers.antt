use Rattle.std.proofs.Common.{rules, sym, subst}
use Rattle.object_words.specs.Rows.{Describes}
use Rattle.object_words.proofs.Forms.{native_form, foreign_form, owned_form, literal_form}
use Rattle.object_words.proofs.object.Object.form.Goals as goal

pub returns-in-0 : goal.returns-in-0
returns-in-0 c row d = native_form row _ _ (search rules) (subst (Describes row) (sym c.self.view_is) d) c.in-0.is

pub returns-in-16 : goal.returns-in-16
returns-in-16 c row d = foreign_form row _ _ (search rules) (subst (Describes row) (sym c.self.view_is) d) c.in-16.is

pub returns-in-32 : goal.returns-in-32
returns-in-32 c row d = owned_form row _ _ (search rules) (subst (Describes row) (sym c.self.view_is) d) c.in-32.is

pub returns-in-128 : goal.returns-in-128
returns-in-128 c row d = literal_form row _ _ (search rules) (subst (Describes row) (sym c.self.view_is) d) c.in-128.is
