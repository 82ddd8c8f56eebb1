-- The text that the words of a slot denote.
use Rattle.std.proofs.Common.{◌≡◌, refl, sym, ap, subst, ◌∙◌, ℕ, zero, suc, Bool, true, false, ◌&&◌, List, [], ◌∷◌, ◌++◌, length, take, drop, Some, chars, IsUtf8, arith}
use Rattle.std.specs.List.{splice}
use Rattle.std.specs.Char.{len_utf8}
use Rattle.std.specs.Str.{is_utf8, all_scalars}
use Rattle.std.proofs.lemmas.Bool.{and_parts}
use Rattle.std.proofs.lemmas.List.{length-drop}
use Rattle.std.proofs.lemmas.Str.{encodes-chars, chars-encodes, scalars-chars, IsUtf8-from_is_utf8}
use Rattle.text_spec.specs.declared.encoding.Encoding.TheVariants.{Utf8}
use Rattle.text_spec.specs.Boundaries.{IsScalarBoundary}
use Rattle.text_spec.specs.Editing.{replaced}
use Rattle.text_spec.specs.Offsets.{start, down}
use Rattle.text_spec.specs.Packed.{denoted_text}
use Rattle.text_spec.specs.Text.{utf8}
use Rattle.text_spec.proofs.Denoting.{denoted_parts, some_if, some_same}
use Rattle.text_spec.proofs.Replacing.{utf8-replaced}
use Rattle.word_units.proofs.Packed.{utf8-denoted}
use Rattle.slot_edits.specs.declared.part.Part.{Part}
use Rattle.slot_edits.specs.Parts.{spliced}
use Rattle.slot_edits.specs.Texts.{IsText, Edited}
use Rattle.slot_edits.specs.Words.{content, content_bytes}

-- ---- bytes that are UTF-8 are a text, and only they
pub text-from : (known : List ℕ) (n : ℕ) (a : Bool) → IsText known n a → IsUtf8 (content_bytes known n)
    → denoted_text Utf8 (content known) n ≡ Some (chars (content_bytes known n))
text-from known n a t ok = utf8-denoted (content known) (content_bytes known n) n (omega (arith, t.room, length-drop 1 known)) ok refl

pub text-to : (known : List ℕ) (n : ℕ) (text : List ℕ) → denoted_text Utf8 (content known) n ≡ Some text
    → IsUtf8 (content_bytes known n) × (chars (content_bytes known n) ≡ text)
text-to known n text is =
    let parts = denoted_parts Utf8 (content known) n text is in
    let ok = some_if (is_utf8 (content_bytes known n)) (Some (chars (content_bytes known n))) text parts.1 in
    (IsUtf8-from_is_utf8 (content_bytes known n) ok.0, some_same _ _ ok.1)

-- ---- a text with another one in place of a part
both-true : (x y : Bool) → x ≡ true → y ≡ true → (x && y) ≡ true
both-true true y e f = f
both-true false y e f = e

scalars-take : (n : ℕ) (t : List ℕ) → all_scalars t ≡ true → all_scalars (take n t) ≡ true
scalars-take zero t h = refl
scalars-take (suc n) [] h = h
scalars-take (suc n) (c ∷ t) h = let parts = and_parts _ _ h in both-true _ _ parts.0 (scalars-take n t parts.1)

scalars-drop : (n : ℕ) (t : List ℕ) → all_scalars t ≡ true → all_scalars (drop n t) ≡ true
scalars-drop zero t h = h
scalars-drop (suc n) [] h = h
scalars-drop (suc n) (c ∷ t) h = scalars-drop n t (and_parts _ _ h).1

scalars-append : (s t : List ℕ) → all_scalars s ≡ true → all_scalars t ≡ true → all_scalars (s ++ t) ≡ true
scalars-append [] t hs ht = ht
scalars-append (c ∷ s) t hs ht = let parts = and_parts _ _ hs in both-true _ _ parts.0 (scalars-append s t parts.1 ht)

replaced-scalars : (t r : List ℕ) (i j : ℕ) → all_scalars t ≡ true → all_scalars r ≡ true → all_scalars (replaced t i j r) ≡ true
replaced-scalars t r i j ht hr =
    scalars-append (take i t) (r ++ drop j t) (scalars-take i t ht) (scalars-append r (drop j t) hr (scalars-drop j t ht))

-- ---- the bytes with others in place of a part that lies between two scalar boundaries
pub replaced-text : (old with text : List ℕ) (low high : ℕ) → IsUtf8 old → chars old ≡ text → IsUtf8 with
    → IsScalarBoundary len_utf8 text low → IsScalarBoundary len_utf8 text high
    → IsUtf8 (splice old low high with) × (chars (splice old low high with) ≡ replaced text (down len_utf8 text low) (down len_utf8 text high) (chars with))
replaced-text old with text low high ok is valid at_low at_high =
    let i = down len_utf8 text low in
    let j = down len_utf8 text high in
    let new : List ℕ = replaced text i j (chars with) in
    let scalars : all_scalars text ≡ true = subst (λ (t : List ℕ). all_scalars t ≡ true) is (scalars-chars old ok) in
    let front : utf8 text ≡ old = ap utf8 (sym is) ∙ encodes-chars old ok in
    let same : utf8 new ≡ splice old low high with =
    utf8-replaced text (chars with) i j
    ∙ ap (λ (b : List ℕ). splice b (start len_utf8 text i) (start len_utf8 text j) (utf8 (chars with))) front
    ∙ ap (λ n. splice old n (start len_utf8 text j) (utf8 (chars with))) at_low ∙ ap (λ n. splice old low n (utf8 (chars with))) at_high
    ∙ ap (splice old low high) (encodes-chars with valid) in
    let all : all_scalars new ≡ true = replaced-scalars text (chars with) i j scalars (scalars-chars with valid) in
    ((new, (all, same)), ap chars (sym same) ∙ chars-encodes new all)

pub edited-text : (known later with text : List ℕ) (part : Part) → denoted_text Utf8 (content known) part.count ≡ Some text
    → IsScalarBoundary len_utf8 text part.low → IsScalarBoundary len_utf8 text part.high → IsUtf8 with → Edited known part with later
    → denoted_text Utf8 (content later) (length (spliced known part with))
    ≡ Some (replaced text (down len_utf8 text part.low) (down len_utf8 text part.high) (chars with))
edited-text known later with text part is at_low at_high valid e =
    let old = text-to known part.count text is in
    let new = replaced-text (content_bytes known part.count) with text part.low part.high old.0 old.1 valid at_low at_high in
    text-from later _ _ e.text (subst IsUtf8 (sym e.bytes) new.0) ∙ ap Some (ap chars e.bytes ∙ new.1)
