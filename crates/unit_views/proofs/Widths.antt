-- How many elements a scalar has in a view, and a text.
use Rattle.std.proofs.Common.{◌≡◌, refl, sym, ap, ◌∙◌, ℕ, zero, suc, ◌+◌, ◌-◌, ◌*◌, ◌<◌, ◌≤◌, true, false, List, [], ◌∷◌, length, arith}
use Rattle.text_spec.specs.declared.encoding.Encoding.{Encoding}
use Rattle.text_spec.specs.declared.encoding.Encoding.TheVariants.{Utf8, Utf16}
use Rattle.text_spec.specs.Offsets.{start}
use Rattle.text_spec.specs.Views.{width_in, other_width, part}
use Rattle.text_spec.proofs.Bytes.{length-utf8}
use Rattle.text_spec.proofs.Units.{length-utf16}
use Rattle.text_spec.proofs.Widths.{width_some, width_most}
use Rattle.unit_views.specs.declared.kind.ElementKind.{ElementKind}
use Rattle.unit_views.specs.declared.kind.ElementKind.TheVariants.{Scalars, Units}
use Rattle.unit_views.specs.Elements.{same_encoding, is_own, view_width, elements}
use Rattle.unit_views.proofs.Parts.{length-part, start-part}

pub view_some : (view : ElementKind) (c : ℕ) → 0 < view_width view c
view_some Scalars c = omega arith
view_some (Units encoding) c = width_some encoding c

pub view_most : (view : ElementKind) (c : ℕ) → view_width view c ≤ 4
view_most Scalars c = omega arith
view_most (Units encoding) c = width_most encoding c

-- the elements are the storage's code units
pub own_width : (view : ElementKind) (e : Encoding) → is_own view e ≡ true → view_width view ≡ width_in e
own_width Scalars e h = absurd cc
own_width (Units Utf8) Utf8 h = refl
own_width (Units Utf8) Utf16 h = absurd cc
own_width (Units Utf16) Utf8 h = absurd cc
own_width (Units Utf16) Utf16 h = refl

-- or those of the other encoding
pub other_is : (encoding e : Encoding) → same_encoding encoding e ≡ false → other_width e ≡ width_in encoding
other_is Utf8 Utf8 h = absurd cc
other_is Utf8 Utf16 h = refl
other_is Utf16 Utf8 h = refl
other_is Utf16 Utf16 h = absurd cc

-- a scalar is one element of the view of scalars
pub start-ones : (b : List ℕ) (k : ℕ) → k ≤ length b → start (view_width Scalars) b k ≡ k
start-ones [] zero h = refl
start-ones [] (suc k) h = absurd (omega arith)
start-ones (c ∷ b) zero h = refl
start-ones (c ∷ b) (suc k) h = omega (arith, start-ones b k (omega arith))

-- a text has at most four times as many elements as code units
pub start-most : (view : ElementKind) (e : Encoding) (b : List ℕ) (k : ℕ) → start (view_width view) b k ≤ 4 * start (width_in e) b k
start-most view e [] k = omega arith
start-most view e (c ∷ b) zero = omega arith
start-most view e (c ∷ b) (suc k) = omega (arith, start-most view e b k, width_some e c, view_most view c)

length-elements : (view : ElementKind) (t : List ℕ) → length (elements view t) ≡ start (view_width view) t (length t)
length-elements Scalars t = sym (start-ones t (length t) (omega arith))
length-elements (Units Utf8) t = length-utf8 t
length-elements (Units Utf16) t = length-utf16 t

pub count-is : (view : ElementKind) (b : List ℕ) (first end : ℕ) → first ≤ end → end ≤ length b
    → start (view_width view) b first + length (elements view (part b first end)) ≡ start (view_width view) b end
count-is view b first end order inside =
    let long = length-elements view (part b first end) ∙ ap (start (view_width view) (part b first end)) (length-part b first end order inside) in
    omega (arith, long, start-part (view_width view) b first end (end - first) (omega (arith, order)), ap (start (view_width view) b) {x = first + (end - first)} {y = end} (omega (arith, order)))
