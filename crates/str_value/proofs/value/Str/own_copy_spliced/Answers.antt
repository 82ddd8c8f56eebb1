use Rattle.std.proofs.Common.{◌≡◌, refl, sym, false, ap, subst, ◌∙◌, length, chars, IsUtf8, rules, arith}
use Rattle.std.specs.List.{splice}
use Rattle.text_spec.specs.Text.{utf8}
use Rattle.text_spec.specs.Views.{width_in}
use Rattle.text_spec.proofs.Walk.{start-zero}
use Rattle.object_words.specs.Rows.{owned, is_ascii}
use Rattle.slot_accounts.specs.Account.{Did, Keeps}
use Rattle.slot_accounts.proofs.Doing.{Did-nothing}
use Rattle.str_value.specs.Meaning.{Meaning, Place, storage_of, credit_of, own}
use Rattle.str_value.specs.Editing.{new_bytes}
use Rattle.str_value.specs.Making.{making}
use Rattle.str_value.proofs.Between.{start-boundary}
use Rattle.str_value.proofs.Remaking.{GivenUp, remade, made-owned}
use Rattle.str_value.proofs.Spliced.{whole8}
use Rattle.str_value.proofs.value.Str.own_copy_spliced.Goals as goal

pub copy_utf8-requires-clause-low : goal.copy_utf8-requires-clause-low
copy_utf8-requires-clause-low c =
    let now = c.args.self.now in
    start-boundary (storage_of now.row) now.text 0 0 (omega arith) (sym (start-zero (width_in (storage_of now.row)) now.text))

pub copy_utf8-requires-clause-high : goal.copy_utf8-requires-clause-high
copy_utf8-requires-clause-high c =
    let now = c.args.self.now in
    start-boundary (storage_of now.row) now.text (length now.text) c.count-end.result (omega arith) c.count-end.ensures.value

pub replace_between-requires-clause-inside : goal.replace_between-requires-clause-inside
replace_between-requires-clause-inside c =
    let now = c.args.self.now in
    let all : length c.in_ok-bytes.bytes.items ≡ length (utf8 now.text) =
    ap length (c.in_ok-bytes.ensures.value ∙ whole8 now c.count-end.result c.count-end.ensures.value) in
    search (rules, all, c.requires.inside)

pub keep_bytes-requires-clause-utf8 : goal.keep_bytes-requires-clause-utf8
keep_bytes-requires-clause-utf8 c =
    subst IsUtf8
    (sym (c.in_ok-replace_between.ensures.items
    ∙ ap (λ l. splice l c.args.part.low c.args.part.high c.args.with.now) (c.in_ok-bytes.ensures.value ∙ whole8 c.args.self.now c.count-end.result c.count-end.ensures.value)))
    c.requires.utf8

pub keep_bytes-requires-clause-limit : goal.keep_bytes-requires-clause-limit
keep_bytes-requires-clause-limit c =
    let all = c.in_ok-replace_between.ensures.items
    ∙ ap (λ l. splice l c.args.part.low c.args.part.high c.args.with.now) (c.in_ok-bytes.ensures.value ∙ whole8 c.args.self.now c.count-end.result c.count-end.ensures.value) in
    omega (arith, ap length all, c.requires.limit)

pub returns-clause-text : goal.returns-clause-text
returns-clause-text c =
    let are : c.replace_between.new.bytes.items ≡ new_bytes c.args.self.now c.args.part c.args.with.now =
    c.in_ok-replace_between.ensures.items
    ∙ ap (λ l. splice l c.args.part.low c.args.part.high c.args.with.now) (c.in_ok-bytes.ensures.value ∙ whole8 c.args.self.now c.count-end.result c.count-end.ensures.value) in
    ap (λ (m : Meaning). m.text) c.replace.ensures.after ∙ c.keep_bytes.ensures.text ∙ ap chars are

pub returns-clause-remade : goal.returns-clause-remade
returns-clause-remade c =
    let are : c.replace_between.new.bytes.items ≡ new_bytes c.args.self.now c.args.part c.args.with.now =
    c.in_ok-replace_between.ensures.items
    ∙ ap (λ l. splice l c.args.part.low c.args.part.high c.args.with.now) (c.in_ok-bytes.ensures.value ∙ whole8 c.args.self.now c.count-end.result c.count-end.ensures.value) in
    let old : c.replace.result ≡ c.args.self.now = c.replace.ensures.value ∙ c.copy_utf8.ensures.kept in
    let new : c.replace.new.dest ≡ c.keep_bytes.result = c.replace.ensures.after in
    let p = c.args.pass.now in
    let q = c.release.new.pass in
    let place : c.replace.new.dest.place ≡ own = ap (λ (m : Meaning). m.place) new ∙ c.keep_bytes.ensures.place in
    remade p p q c.args.self.now c.replace.new.dest _
    (made-owned p (new_bytes c.args.self.now c.args.part c.args.with.now) c.replace.new.dest.place c.replace.new.dest.row place c.requires.long c.requires.no_slot
    (ap (λ (m : Meaning). m.row) new ∙ c.keep_bytes.ensures.row ∙ ap (λ bs. owned false (is_ascii bs) (is_ascii bs) (length bs)) are))
    (subst (λ (o : Place). Did (making o) p p) (sym place) (Did-nothing p))
    (subst (λ (o : Place). Keeps p 0 p (credit_of o)) (sym place) refl)
    (subst (λ (v : Meaning). GivenUp v p q) old c.release.ensures.did) (subst (λ (v : Meaning). Keeps p (credit_of v.place) q 0) old c.release.ensures.credits)
