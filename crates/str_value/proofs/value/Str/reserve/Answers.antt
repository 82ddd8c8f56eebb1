use Rattle.std.proofs.Common.{◌≡◌, refl, true, sym, ap, subst, ◌∙◌, inl, length, chars, arith}
use Rattle.std.specs.Str.{all_scalars}
use Rattle.std.proofs.lemmas.Str.{chars-encodes}
use Rattle.text_spec.specs.Text.{utf8}
use Rattle.text_spec.specs.Views.{width_in}
use Rattle.text_spec.specs.declared.encoding.Encoding.TheVariants.{Utf8}
use Rattle.text_spec.proofs.Walk.{start-zero}
use Rattle.slot_accounts.specs.Account.{Did, Keeps}
use Rattle.slot_table.specs.Owners.{PassSeen}
use Rattle.slot_edits.specs.Parts.{Fits}
use Rattle.str_value.specs.Editing.{IsUnwritten, IsNotReserved}
use Rattle.str_value.specs.Making.{HasRoom, IsPublishedUtf8, making}
use Rattle.str_value.specs.Meaning.{Meaning, storage_of, credit_of}
use Rattle.str_value.proofs.Between.{start-boundary}
use Rattle.str_value.proofs.Drafted.{before-none}
use Rattle.str_value.proofs.Kept.{limit-kept}
use Rattle.str_value.proofs.Overwritten.{too-many}
use Rattle.str_value.proofs.Remaking.{GivenUp}
use Rattle.str_value.proofs.Reserved.{settled, not-reserved}
use Rattle.str_value.proofs.Spliced.{whole8, scalars-kept}
use Rattle.str_value.proofs.value.Str.reserve.Goals as goal

pub utf8_length-bytes-requires-clause-low : goal.utf8_length-bytes-requires-clause-low
utf8_length-bytes-requires-clause-low c =
    let now = c.args.self.now in
    start-boundary (storage_of now.row) now.text 0 0 (omega arith) (sym (start-zero (width_in (storage_of now.row)) now.text))

pub utf8_length-bytes-requires-clause-high : goal.utf8_length-bytes-requires-clause-high
utf8_length-bytes-requires-clause-high c =
    let now = c.args.self.now in
    start-boundary (storage_of now.row) now.text (length now.text) c.count-end.result (omega arith) c.count-end.ensures.value

pub strip-requires-clause-bytes : goal.strip-requires-clause-bytes
strip-requires-clause-bytes c =
    let now = c.args.self.now in
    c.utf8_length-bytes.ensures.value ∙ ap length (whole8 now c.count-end.result c.count-end.ensures.value)
    ∙ ap (λ (m : Meaning). length (utf8 m.text)) (sym c.utf8_length-bytes.ensures.kept)

pub strip-requires-clause-fits : goal.strip-requires-clause-fits
strip-requires-clause-fits c = omega (arith, c.if-bytes-capacity_words.false, c.capacity_words.ensures)

pub publish_spliced-requires-clause-count : goal.publish_spliced-requires-clause-count
publish_spliced-requires-clause-count c =
    let now = c.args.self.now in
    c.utf8_length-bytes.ensures.value ∙ ap length (whole8 now c.count-end.result c.count-end.ensures.value)
    ∙ ap (λ t. length (utf8 t)) (sym (c.strip.ensures.text ∙ ap (λ (m : Meaning). m.text) c.utf8_length-bytes.ensures.kept))

pub publish_spliced-requires-clause-high : goal.publish_spliced-requires-clause-high
publish_spliced-requires-clause-high c =
    let s = c.strip.new.self in
    start-boundary (storage_of s.row) s.text 0 0 (omega arith) (sym (start-zero (width_in (storage_of s.row)) s.text))

pub publish_spliced-requires-clause-high8 : goal.publish_spliced-requires-clause-high8
publish_spliced-requires-clause-high8 c = sym (before-none c.strip.new.self)

pub publish_spliced-requires-clause-utf8 : goal.publish_spliced-requires-clause-utf8
publish_spliced-requires-clause-utf8 c =
    let same = c.strip.ensures.text ∙ ap (λ (m : Meaning). m.text) c.utf8_length-bytes.ensures.kept in
    (c.strip.new.self.text, (subst (λ t. all_scalars t ≡ true) (sym same) (scalars-kept _ _ c.args.self.now c.self.invariant c.self.view_is), refl))

pub publish_spliced-requires-clause-limit : goal.publish_spliced-requires-clause-limit
publish_spliced-requires-clause-limit c =
    let same = c.strip.ensures.text ∙ ap (λ (m : Meaning). m.text) c.utf8_length-bytes.ensures.kept in
    omega (arith, limit-kept _ _ c.args.self.now c.self.invariant c.self.view_is, ap (λ t. length (utf8 t)) same)

pub returns-in-Some-clause-text : goal.returns-in-Some-clause-text
returns-in-Some-clause-text c =
    let same = c.strip.ensures.text ∙ ap (λ (m : Meaning). m.text) c.utf8_length-bytes.ensures.kept in
    ap (λ (m : Meaning). m.text) c.replace.ensures.after ∙ c.in-Some.ensures.text ∙ ap (λ t. chars (utf8 t)) same
    ∙ chars-encodes c.args.self.now.text (scalars-kept _ _ c.args.self.now c.self.invariant c.self.view_is)

pub returns-in-Some-clause-reserved : goal.returns-in-Some-clause-reserved
returns-in-Some-clause-reserved c _ =
    let now = c.args.self.now in
    let p = c.args.pass.now in
    let a = c.strip.new.pass in
    let m = c.publish_spliced.new.pass in
    let q = c.release.new.pass in
    let k = c.strip.new.self in
    let same = c.strip.ensures.text ∙ ap (λ (s : Meaning). s.text) c.utf8_length-bytes.ensures.kept in
    let all = c.utf8_length-bytes.ensures.value ∙ ap length (whole8 now c.count-end.result c.count-end.ensures.value) in
    let old : c.replace.result ≡ k = c.replace.ensures.value ∙ c.publish_spliced.ensures.kept in
    let new : c.replace.new.dest ≡ c.in-Some.value = c.replace.ensures.after in
    settled p a m q now k c.replace.new.dest
    (subst (λ n. IsUnwritten p now n a k) all
    (subst (λ (s : Meaning). IsUnwritten p s c.utf8_length-bytes.result a k) c.utf8_length-bytes.ensures.kept (c.strip.ensures.unwritten c.if-strip.false)))
    c.in-Some.ensures.published.0 (ap (λ (s : Meaning). s.place) new ∙ c.in-Some.ensures.published.1)
    (subst (λ (v : Meaning). IsPublishedUtf8 a m (utf8 now.text) c.in-Some.ensures.published.0 v.row) (sym new)
    (subst (λ t. IsPublishedUtf8 a m (utf8 t) c.in-Some.ensures.published.0 c.in-Some.value.row) same c.in-Some.ensures.published.2))
    (subst (λ (v : Meaning). Did (making v.place) a m) (sym new) c.in-Some.ensures.did)
    (subst (λ (v : Meaning). Keeps a 0 m (credit_of v.place)) (sym new) c.in-Some.ensures.credits)
    (subst (λ (v : Meaning). GivenUp v m q) old c.release.ensures.did) (subst (λ (v : Meaning). Keeps m (credit_of v.place) q 0) old c.release.ensures.credits)

pub returns-in-None-clause-not : goal.returns-in-None-clause-not
returns-in-None-clause-not c _ =
    let now = c.args.self.now in
    let p = c.args.pass.now in
    let a = c.strip.new.pass in
    let k = c.strip.new.self in
    let same = c.strip.ensures.text ∙ ap (λ (s : Meaning). s.text) c.utf8_length-bytes.ensures.kept in
    let all = c.utf8_length-bytes.ensures.value ∙ ap length (whole8 now c.count-end.result c.count-end.ensures.value) in
    let unwritten =
    subst (λ n. IsUnwritten p now n a k) all
    (subst (λ (s : Meaning). IsUnwritten p s c.utf8_length-bytes.result a k) c.utf8_length-bytes.ensures.kept (c.strip.ensures.unwritten c.if-strip.false)) in
    let not =
    not-reserved p a now k unwritten (omega (arith, c.if-bytes-capacity_words.false, c.capacity_words.ensures, all))
    (subst (λ t. ¬ (HasRoom a Utf8 (length (utf8 t)))) same c.in-None.ensures.none.0) in
    subst (λ (s : Meaning). IsNotReserved p now c.publish_spliced.new.pass s) (sym c.publish_spliced.ensures.kept)
    (subst (λ (x : PassSeen). IsNotReserved p now x k) (sym c.in-None.ensures.none.1) not)

pub returns-then-bytes-capacity_words-clause-not : goal.returns-then-bytes-capacity_words-clause-not
returns-then-bytes-capacity_words-clause-not c _ =
    let now = c.args.self.now in
    let p = c.args.pass.now in
    let all = c.utf8_length-bytes.ensures.value ∙ ap length (whole8 now c.count-end.result c.count-end.ensures.value) in
    let none : ¬ (Fits (length (utf8 now.text)) p.heap.layout.capacity_words) =
    λ fits. omega (arith, fits, c.if-bytes-capacity_words.true, c.capacity_words.ensures, all) in
    subst (λ (s : Meaning). IsNotReserved p now p s) (sym c.utf8_length-bytes.ensures.kept) (too-many p now (length (utf8 now.text)) none, inl none)
