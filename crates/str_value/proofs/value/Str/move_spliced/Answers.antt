use Rattle.std.proofs.Common.{◌≡◌, sym, subst, ◌∙◌, length}
use Rattle.text_spec.specs.declared.encoding.Encoding.TheVariants.{Utf8}
use Rattle.slot_accounts.specs.Account.{Did, Keeps}
use Rattle.slot_table.specs.Owners.{PassSeen}
use Rattle.str_value.specs.Editing.{new_bytes}
use Rattle.str_value.specs.Making.{HasRoom, IsPublishedUtf8, MadeOfUtf8, making}
use Rattle.str_value.specs.Meaning.{Meaning, Place, credit_of}
use Rattle.str_value.proofs.Remaking.{GivenUp, remade}
use Rattle.str_value.proofs.value.Str.move_spliced.Goals as goal

pub returns-in-Some-clause-remade : goal.returns-in-Some-clause-remade
returns-in-Some-clause-remade c _ =
    let kept = c.move_native.ensures.kept c.if-move_native.false in
    let old : c.replace.result ≡ c.args.self.now = c.replace.ensures.value ∙ c.publish_spliced.ensures.kept ∙ kept.0 in
    let new : c.replace.new.dest ≡ c.in-Some.value = c.replace.ensures.after in
    let p = c.args.pass.now in
    let m = c.publish_spliced.new.pass in
    let q = c.release.new.pass in
    remade p m q c.args.self.now c.replace.new.dest _
    (subst (λ (v : Meaning). MadeOfUtf8 p m (new_bytes c.args.self.now c.args.part c.args.with.now) v.place v.row) (sym new)
    (subst (λ (o : Place). MadeOfUtf8 p m (new_bytes c.args.self.now c.args.part c.args.with.now) o c.in-Some.value.row) (sym c.in-Some.ensures.published.1) (
      c.requires.long,
      subst (λ (s : Meaning). IsPublishedUtf8 p m (new_bytes s c.args.part c.args.with.now) c.in-Some.ensures.published.0 c.in-Some.value.row) kept.0
          (subst (λ (x : PassSeen). IsPublishedUtf8 x m (new_bytes c.move_native.new.self c.args.part c.args.with.now) c.in-Some.ensures.published.0 c.in-Some.value.row) kept.1 c.in-Some.ensures.published.2),
    )))
    (subst (λ (v : Meaning). Did (making v.place) p m) (sym new) (subst (λ (x : PassSeen). Did (making c.in-Some.value.place) x m) kept.1 c.in-Some.ensures.did))
    (subst (λ (v : Meaning). Keeps p 0 m (credit_of v.place)) (sym new) (subst (λ (x : PassSeen). Keeps x 0 m (credit_of c.in-Some.value.place)) kept.1 c.in-Some.ensures.credits))
    (subst (λ (v : Meaning). GivenUp v m q) old c.release.ensures.did) (subst (λ (v : Meaning). Keeps m (credit_of v.place) q 0) old c.release.ensures.credits)

pub returns-in-Some-clause-shown : goal.returns-in-Some-clause-shown
returns-in-Some-clause-shown c _ =
    let kept = c.move_native.ensures.kept c.if-move_native.false in
    subst (λ (x : PassSeen). HasRoom x Utf8 (length (new_bytes c.args.self.now c.args.part c.args.with.now))) kept.1
    (subst (λ (s : Meaning). HasRoom c.move_native.new.pass Utf8 (length (new_bytes s c.args.part c.args.with.now))) kept.0 c.in-Some.ensures.published.2.0)
