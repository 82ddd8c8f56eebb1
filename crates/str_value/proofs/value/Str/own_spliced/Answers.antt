use Rattle.std.proofs.Common.{◌≡◌, refl, sym, ap, ◌∙◌, length, chars, false, rules, arith}
use Rattle.std.specs.List.{splice}
use Rattle.text_spec.specs.Text.{utf8}
use Rattle.object_words.specs.Rows.{owned, is_ascii}
use Rattle.slot_accounts.proofs.Doing.{Did-nothing}
use Rattle.str_value.specs.Editing.{new_bytes}
use Rattle.str_value.specs.Meaning.{Meaning, own}
use Rattle.str_value.specs.Stored.{place_of, meaning_of}
use Rattle.str_value.specs.declared.storage.Storage.TheVariants.{Bytes}
use Rattle.str_value.proofs.Between.{bytes-kept}
use Rattle.str_value.proofs.Remaking.{remade-own, made-owned, replaced-bytes}
use Rattle.str_value.proofs.Spliced.{own-stored}
use Rattle.str_value.proofs.value.Str.own_spliced.Goals as goal

pub ascii_after-ascii-requires-clause-inside : goal.ascii_after-ascii-requires-clause-inside
ascii_after-ascii-requires-clause-inside c =
    let kept = bytes-kept _ _ c.args.self.now c.in-Bytes.kept c.as_slice.result.now c.self.invariant c.self.view_is (sym c.replace.ensures.value ∙ c.in-Bytes.is) c.as_slice.ensures.value in
    omega (arith, c.requires.inside, ap length kept.text)

pub replace_between-requires-clause-inside : goal.replace_between-requires-clause-inside
replace_between-requires-clause-inside c =
    let kept = bytes-kept _ _ c.args.self.now c.in-Bytes.kept c.in-Bytes.kept.items c.self.invariant c.self.view_is (sym c.replace.ensures.value ∙ c.in-Bytes.is) refl in
    let all : length (utf8 c.args.self.now.text) ≡ length c.in-Bytes.kept.items = ap length kept.text in
    search (rules, all, c.requires.inside)

pub owned-self-inside-requires-clause-count_in : goal.owned-self-inside-requires-clause-count_in
owned-self-inside-requires-clause-count_in c =
    let same =
    replaced-bytes _ _ c.args.self.now c.in-Bytes.kept c.replace_between.new.bytes.items c.args.part.low c.args.part.high c.args.with.now c.self.invariant c.self.view_is
    (sym c.replace.ensures.value ∙ c.in-Bytes.is) c.in_default-replace_between.ensures.items in
    let n : c.len.result ≡ length c.replace_between.new.bytes.items = search rules in
    omega (arith, n, ap length same, c.requires.limit)

pub invariant_of-self-in-Bytes : goal.invariant_of-self-in-Bytes
invariant_of-self-in-Bytes c =
    let same =
    replaced-bytes _ _ c.args.self.now c.in-Bytes.kept c.replace_between.new.bytes.items c.args.part.low c.args.part.high c.args.with.now c.self.invariant c.self.view_is
    (sym c.replace.ensures.value ∙ c.in-Bytes.is) c.in_default-replace_between.ensures.items in
    let kept = bytes-kept _ _ c.args.self.now c.in-Bytes.kept c.as_slice.result.now c.self.invariant c.self.view_is (sym c.replace.ensures.value ∙ c.in-Bytes.is) c.as_slice.ensures.value in
    own-stored _ _ _ _ _ c.owned-self-inside.ensures
    (c.ascii_after-ascii.ensures ∙ ap (λ l. is_ascii (splice l c.args.part.low c.args.part.high c.args.with.now)) (sym kept.text))
    (search rules) same c.requires.utf8 c.requires.limit

pub returns-in_default-replace_between-clause-text : goal.returns-in_default-replace_between-clause-text
returns-in_default-replace_between-clause-text c =
    let same =
    replaced-bytes _ _ c.args.self.now c.in-Bytes.kept c.replace_between.new.bytes.items c.args.part.low c.args.part.high c.args.with.now c.self.invariant c.self.view_is
    (sym c.replace.ensures.value ∙ c.in-Bytes.is) c.in_default-replace_between.ensures.items in
    ap chars same

pub returns-in_default-replace_between-clause-remade : goal.returns-in_default-replace_between-clause-remade
returns-in_default-replace_between-clause-remade c =
    let same =
    replaced-bytes _ _ c.args.self.now c.in-Bytes.kept c.replace_between.new.bytes.items c.args.part.low c.args.part.high c.args.with.now c.self.invariant c.self.view_is
    (sym c.replace.ensures.value ∙ c.in-Bytes.is) c.in_default-replace_between.ensures.items in
    let p = c.args.pass.now in
    let bytes = new_bytes c.args.self.now c.args.part c.args.with.now in
    let place : c.args.self.now.place ≡ own = ap (λ (m : Meaning). m.place) (sym c.self.view_is) ∙ ap place_of (sym c.replace.ensures.value ∙ c.in-Bytes.is) in
    let new : Meaning = meaning_of c.owned-self-inside.result (Bytes c.replace_between.new.bytes) in
    remade-own p p c.args.self.now new bytes place
    (made-owned p bytes own (new.row) refl c.requires.long c.requires.no_slot (ap (λ bs. owned false (is_ascii bs) (is_ascii bs) (length bs)) same))
    (Did-nothing p) refl
