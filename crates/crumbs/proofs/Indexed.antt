-- The index words of a list as those of places.
use Rattle.std.proofs.Common.{◌≡◌, sym, ap, ◌∙◌, ℕ, ◌+◌, ◌-◌, ◌==◌, List, arith}
use Rattle.std.specs.Char.{len_utf8}
use Rattle.text_spec.specs.declared.encoding.Encoding.TheVariants.{Utf8}
use Rattle.index_words.specs.Crumbs.{index16}
use Rattle.text_spec.specs.Offsets.{len_utf16, start, down}
use Rattle.text_spec.specs.Rounding.{across, other_index}
use Rattle.text_spec.proofs.Downward.{down-length}
use Rattle.text_spec.proofs.Walk.{start-zero, down-start}
use Rattle.text_spec.proofs.Widths.{len8_some}
use Rattle.index_words.specs.Fields.{plain, word_of}
use Rattle.word_units.specs.Parts.{all_of}
use Rattle.rounding.specs.Resolving.{index_at}
use Rattle.rounding.proofs.Places.{boundary_told}

-- the word of an offset is that of the place that the view of UTF-16 units has there
pub index_is : (t : List ℕ) (m : ℕ) → index16 t m ≡ index_at (all_of Utf8 t) (other_index len_utf8 len_utf16 t 0 m)
index_is t m =
    let k = down len_utf16 t m in
    let p = start len_utf8 t k in
    let x = m - start len_utf16 t k in
    let same : down len_utf8 t p ≡ k = down-start len_utf8 len8_some t k (down-length len_utf16 t m) in
    let told : word_of (record (plain p x Utf8) { scalar_aligned = x == 0 }) ≡ index_at (all_of Utf8 t) (p, x) =
    ap (λ b. word_of (record (plain p x Utf8) { scalar_aligned = b })) (boundary_told Utf8 t p x (ap (start len_utf8 t) same)) in
    let first : start len_utf16 t 0 + m ≡ m = omega (arith, start-zero len_utf16 t) in
    told ∙ ap (λ q. index_at (all_of Utf8 t) (across len_utf8 len_utf16 t q)) (sym first)
