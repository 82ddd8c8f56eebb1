use Rattle.std.proofs.Common.{◌≡◌, refl, ◌≤◌, ◌<◌, ◌+◌, ◌-◌, ◌*◌, ◌/◌, ◌%◌, ◌^◌, [], ◌∷◌, sym, ap, subst, ◌∙◌, length, take, drop, slice_index, true, arith}
use Rattle.std.proofs.Math.Seq.{take-add}
use Rattle.std.proofs.lemmas.Nat.{mod_below, pow_pos}
use Rattle.text_spec.specs.Packed.{bytes_of, content_words}
use Rattle.text_spec.specs.declared.encoding.Encoding.TheVariants.{Utf8}
use Rattle.text_spec.specs.Text.{utf8}
use Rattle.text_spec.specs.Views.{size_in}
use Rattle.text_spec.proofs.Bytes.{length-utf8}
use Rattle.object_words.specs.Rows.{count_of, is_ascii}
use Rattle.str_value.specs.Meaning.{Meaning, storage_of}
use Rattle.str_value.proofs.Between.{utf8-kept}
use Rattle.str_value.proofs.Drafted.{ascii-joined, ascii-cut_off}
use Rattle.str_value.proofs.Written.{stored-next, length-held, word-ascii, word-other}
use Rattle.str_value.proofs.drafting.is_ascii_stored.Goals as goal

pub words-init : goal.words-init
words-init c =
    let none : c.args.count - c.args.count ≡ 0 = omega arith in
    record {
      kept = refl;
      some = omega arith;
      here = omega arith;
      ascii = ap (λ n. is_ascii (take n (drop c.args.from (utf8 c.args.value.now.text)))) none;
    }

pub content_word-requires : goal.content_word-requires
content_word-requires c =
    let i = c.words.invariant in
    let t = c.args.value.now.text in
    let at = c.words.at in
    let inside : at / 8 < content_words Utf8 (size_in Utf8 t) = omega (arith, i.here, i.some, c.words-test.true, c.requires.inside, length-utf8 t) in
    subst (λ (m : Meaning). at / 8 < content_words (storage_of m.row) (size_in (storage_of m.row) m.text)) (sym i.kept)
    (subst (λ e. at / 8 < content_words e (size_in e t)) (sym c.requires.storage) inside)

pub overflow_add-at : goal.overflow_add-at
overflow_add-at c =
    let i = c.words.invariant in
    record {
      fits = omega (
        arith,
        i.here,
        i.some,
        c.min-size.ensures,
        c.requires.inside,
        c.value.invariant.limit,
        ap (λ (m : Meaning). length (utf8 m.text)) c.value.view_is,
      );
    }

pub words-preserved : goal.words-preserved
words-preserved c =
    let i = c.words.invariant in
    let s = c.args.value.now in
    let u = utf8 s.text in
    let from = c.args.from in
    let at = c.words.at in
    let n = c.min-size.result in
    let done = c.args.count - c.words.left in
    let held : u ≡ bytes_of s.words (count_of s.row) = (utf8-kept _ _ s c.value.invariant c.value.view_is c.requires.storage).text in
    let word : c.content_word.result ≡ slice_index s.words (at / 8) = c.content_word.ensures.word ∙ ap (λ (m : Meaning). slice_index m.words (at / 8)) i.kept in
    let inside : at + n ≤ count_of s.row =
    omega (arith, i.here, i.some, c.min-size.ensures, c.requires.inside, ap length held, length-held s.words (count_of s.row)) in
    let few : at % 8 + n ≤ 8 = omega (arith, c.min-size.ensures) in
    let shown : bytes_of (c.first_bytes.result ∷ []) n ≡ take n (drop done (drop from u)) =
    stored-next s.words (count_of s.row) at n c.content_word.result c.first_bytes.result from done u held inside few word c.first_bytes.ensures i.here in
    let size : done + n ≡ c.args.count - (c.words.left - n) = omega (arith, i.some, c.min-size.ensures) in
    let all : is_ascii (take n (drop done (drop from u))) ≡ true =
    sym (ap is_ascii shown) ∙ word-ascii c.first_bytes.result n (omega (arith, few)) (c.is_ascii_word.ensures.all c.if-not-is_ascii_word.false) in
    record {
      kept = c.content_word.ensures.kept ∙ i.kept;
      some = omega (arith, i.some);
      here = omega (arith, i.here, i.some, c.min-size.ensures);
      ascii = ascii-joined (take done (drop from u)) (take n (drop done (drop from u))) _ i.ascii all (sym (take-add done n (drop from u)) ∙ ap (λ m. take m (drop from u)) size);
    }

pub returns-then-not-is_ascii_word-clause-ascii : goal.returns-then-not-is_ascii_word-clause-ascii
returns-then-not-is_ascii_word-clause-ascii c =
    let i = c.words.invariant in
    let s = c.args.value.now in
    let u = utf8 s.text in
    let from = c.args.from in
    let at = c.words.at in
    let n = c.min-size.result in
    let done = c.args.count - c.words.left in
    let held : u ≡ bytes_of s.words (count_of s.row) = (utf8-kept _ _ s c.value.invariant c.value.view_is c.requires.storage).text in
    let word : c.content_word.result ≡ slice_index s.words (at / 8) = c.content_word.ensures.word ∙ ap (λ (m : Meaning). slice_index m.words (at / 8)) i.kept in
    let inside : at + n ≤ count_of s.row =
    omega (arith, i.here, i.some, c.min-size.ensures, c.requires.inside, ap length held, length-held s.words (count_of s.row)) in
    let few : at % 8 + n ≤ 8 = omega (arith, c.min-size.ensures) in
    let shown : bytes_of (c.first_bytes.result ∷ []) n ≡ take n (drop done (drop from u)) =
    stored-next s.words (count_of s.row) at n c.content_word.result c.first_bytes.result from done u held inside few word c.first_bytes.ensures i.here in
    let some = c.is_ascii_word.ensures.some c.if-not-is_ascii_word.true in
    let small : c.first_bytes.result < 2 ^ (8 * n) =
    subst (λ v. v < 2 ^ (8 * n)) (sym c.first_bytes.ensures) (mod_below (c.content_word.result / 2 ^ (8 * (at % 8))) (2 ^ (8 * n)) (pow_pos (8 * n))) in
    ascii-cut_off (drop from u) done n c.args.count (omega (arith, i.some, c.min-size.ensures)) i.ascii
    (sym (ap is_ascii shown) ∙ word-other c.first_bytes.result n some.0 small some.1 some.2)

pub returns : goal.returns
returns c =
    let i = c.words.invariant in
    let all : c.args.count - c.words.left ≡ c.args.count = omega (arith, c.words-test.false) in
    record {
      ascii = sym (sym (ap (λ n. is_ascii (take n (drop c.args.from (utf8 c.args.value.now.text)))) all) ∙ i.ascii);
      kept = i.kept;
    }
