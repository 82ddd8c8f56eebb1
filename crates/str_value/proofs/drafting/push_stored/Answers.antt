use Rattle.std.proofs.Common.{◌≡◌, refl, ◌≤◌, ◌<◌, ◌+◌, ◌-◌, ◌*◌, ◌/◌, ◌%◌, ◌^◌, ℕ, List, ◌++◌, [], ◌∷◌, append-nil, append_assoc, sym, ap, subst, ◌∙◌, length, take, drop, length-append, slice_index, arith}
use Rattle.std.proofs.Math.Seq.{take-add}
use Rattle.std.proofs.lemmas.List.{length-take-le, length-drop, drop-drop}
use Rattle.std.proofs.lemmas.Nat.{mod_below, pow_pos}
use Rattle.text_spec.specs.Packed.{bytes_of, content_words}
use Rattle.text_spec.specs.declared.encoding.Encoding.TheVariants.{Utf8}
use Rattle.text_spec.specs.Text.{utf8}
use Rattle.text_spec.specs.Views.{size_in}
use Rattle.text_spec.proofs.Bytes.{length-utf8}
use Rattle.object_words.specs.Rows.{count_of}
use Rattle.str_value.specs.Meaning.{Meaning, storage_of}
use Rattle.str_value.specs.Drafting.{Writing}
use Rattle.str_value.proofs.Between.{utf8-kept}
use Rattle.str_value.proofs.Written.{stored-bytes, length-held}
use Rattle.str_value.proofs.drafting.push_stored.Goals as goal

pub words-init : goal.words-init
words-init c =
    let none : c.args.count - c.args.count ≡ 0 = omega arith in
    record {
      kept = refl;
      some = omega arith;
      here = omega arith;
      bytes = sym (ap (λ n. record c.args.writer.now { bytes = c.args.writer.now.bytes ++ take n (drop c.args.from (utf8 c.args.value.now.text)) }) none
          ∙ ap (λ (l : List ℕ). record c.args.writer.now { bytes = l }) (append-nil c.args.writer.now.bytes));
    }

pub content_word-requires : goal.content_word-requires
content_word-requires c =
    let i = c.words.invariant in
    let t = c.args.value.now.text in
    let at = c.words.at in
    let inside : at / 8 < content_words Utf8 (size_in Utf8 t) = omega (arith, i.here, i.some, c.words-test.true, c.requires.inside, length-utf8 t) in
    subst (λ (m : Meaning). at / 8 < content_words (storage_of m.row) (size_in (storage_of m.row) m.text)) (sym i.kept)
    (subst (λ e. at / 8 < content_words e (size_in e t)) (sym c.requires.storage) inside)

pub push_word-requires : goal.push_word-requires
push_word-requires c =
    let i = c.words.invariant in
    let u = utf8 c.args.value.now.text in
    let n = c.min-size.result in
    let done = c.args.count - c.words.left in
    record {
      few = omega (arith, c.min-size.ensures);
      small = subst (λ v. v < 2 ^ (8 * n)) (sym c.first_bytes.ensures) (mod_below (c.content_word.result / 2 ^ (8 * (c.words.at % 8))) (2 ^ (8 * n)) (pow_pos (8 * n)));
      room = omega (
        arith,
        c.requires.room,
        i.some,
        c.min-size.ensures,
        ap (λ (x : Writing). length x.bytes) i.bytes,
        ap (λ (x : Writing). x.start.heap.layout.capacity_words) i.bytes,
        length-append c.args.writer.now.bytes (take done (drop c.args.from u)),
        length-take-le done (drop c.args.from u) (omega (arith, c.requires.inside, length-drop c.args.from u)),
      );
    }

pub overflow_add-at : goal.overflow_add-at
overflow_add-at c =
    let i = c.words.invariant in
    record {
      fits = omega (
        arith,
        i.here,
        i.some,
        c.min-size.ensures,
        c.requires.inside,
        c.value.invariant.limit,
        ap (λ (m : Meaning). length (utf8 m.text)) c.value.view_is,
      );
    }

pub words-preserved : goal.words-preserved
words-preserved c =
    let i = c.words.invariant in
    let s = c.args.value.now in
    let w = c.args.writer.now in
    let u = utf8 s.text in
    let from = c.args.from in
    let at = c.words.at in
    let n = c.min-size.result in
    let done = c.args.count - c.words.left in
    let held : u ≡ bytes_of s.words (count_of s.row) = (utf8-kept _ _ s c.value.invariant c.value.view_is c.requires.storage).text in
    let word : c.content_word.result ≡ slice_index s.words (at / 8) = c.content_word.ensures.word ∙ ap (λ (m : Meaning). slice_index m.words (at / 8)) i.kept in
    let inside : at + n ≤ count_of s.row =
    omega (arith, i.here, i.some, c.min-size.ensures, c.requires.inside, ap length held, length-held s.words (count_of s.row)) in
    let shown : bytes_of (c.first_bytes.result ∷ []) n ≡ take n (drop at u) =
    ap (λ v. bytes_of (v ∷ []) n) c.first_bytes.ensures
    ∙ stored-bytes s.words (count_of s.row) at n c.content_word.result u held inside (omega (arith, c.min-size.ensures)) word in
    let place : drop at u ≡ drop done (drop from u) = ap (λ k. drop k u) i.here ∙ sym (drop-drop done from u) in
    let size : done + n ≡ c.args.count - (c.words.left - n) = omega (arith, i.some, c.min-size.ensures) in
    let more : take done (drop from u) ++ bytes_of (c.first_bytes.result ∷ []) n ≡ take (c.args.count - (c.words.left - n)) (drop from u) =
    ap (λ (l : List ℕ). take done (drop from u) ++ l) (shown ∙ ap (take n) place) ∙ sym (take-add done n (drop from u)) ∙ ap (λ m. take m (drop from u)) size in
    record {
      kept = c.content_word.ensures.kept ∙ i.kept;
      some = omega (arith, i.some);
      here = omega (arith, i.here, i.some, c.min-size.ensures);
      bytes = c.push_word.ensures ∙ ap (λ (x : Writing). record x { bytes = x.bytes ++ bytes_of (c.first_bytes.result ∷ []) n }) i.bytes
          ∙ ap (λ (l : List ℕ). record w { bytes = l })
          (append_assoc w.bytes (take done (drop from u)) (bytes_of (c.first_bytes.result ∷ []) n) ∙ ap (λ (l : List ℕ). w.bytes ++ l) more);
    }

pub returns : goal.returns
returns c =
    let i = c.words.invariant in
    let all : c.args.count - c.words.left ≡ c.args.count = omega (arith, c.words-test.false) in
    record {
      bytes = i.bytes ∙ ap (λ n. record c.args.writer.now { bytes = c.args.writer.now.bytes ++ take n (drop c.args.from (utf8 c.args.value.now.text)) }) all;
      kept = i.kept;
    }
