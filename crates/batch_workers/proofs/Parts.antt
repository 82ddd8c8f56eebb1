-- The answers that places and parts of a text give.
use Rattle.std.proofs.Common.{◌≡◌, true, false, refl, sym, ap, ◌∙◌, Bool, ◌||◌, nat_lt, ℕ, ◌-◌, ◌<◌, ◌≤◌, List, length, take, ◌⊎◌, ⊎_elim, arith, Option}
use Rattle.std.proofs.lemmas.Bool.{cond-true, cond-false, lt-ltb, le-ltb}
use Rattle.std.proofs.lemmas.List.{take_all}
use Rattle.std.specs.List.{slice_get}
use Rattle.text_spec.specs.declared.encoding.Encoding.{Encoding}
use Rattle.text_spec.specs.declared.encoding.Encoding.TheVariants.{Utf16}
use Rattle.text_spec.specs.Editing.{replaced}
use Rattle.text_spec.specs.Offsets.{start, down}
use Rattle.text_spec.specs.Text.{utf8, utf16}
use Rattle.text_spec.specs.Views.{width_in, part}
use Rattle.text_spec.proofs.Downward.{down-length}
use Rattle.text_spec.proofs.Lengths.{start-utf8, start-utf16}
use Rattle.query_lines.specs.declared.reply.OpReply.TheVariants as answer
use Rattle.str_value.specs.Meaning.{Meaning, storage_of, text_between, spliced}
use Rattle.batch_workers.specs.declared.place.Boundary.{Boundary}
use Rattle.batch_workers.specs.Boundaries.{IsBoundary}
use Rattle.batch_workers.specs.Ops.{units, floor, view_of, place_reply, is_out}
use Rattle.batch_workers.proofs.Boundaries.{number-there}

-- the answer that a boundary gives to a place
pub place-reply : (unit storage : Encoding) (t : List ℕ) (b : Boundary) (value : Option ℕ) (offset : ℕ) → IsBoundary storage t (floor unit t offset) b
    → value ≡ slice_get t (down (width_in storage) t b.place) → offset ≤ units unit t → answer.Place b.utf16 b.utf8 value ≡ place_reply unit t offset
place-reply unit storage t b value offset is v within =
    let k = floor unit t offset in
    ap (λ n. answer.Place n b.utf8 value) (is.utf16 ∙ start-utf16 t k)
    ∙ ap (λ n. answer.Place (length (utf16 (take k t))) n value) (is.utf8 ∙ start-utf8 t k)
    ∙ ap (answer.Place (length (utf16 (take k t))) (length (utf8 (take k t)))) (v ∙ ap (slice_get t) (number-there storage t k b.place is.inside is.place))
    ∙ sym (cond-false (nat_lt (units unit t) offset) _ _ (le-ltb (units unit t) offset within))

pub place-past : (unit : Encoding) (t : List ℕ) (n offset : ℕ) → n ≡ units unit t → n < offset → answer.OutOfBounds (view_of unit) n ≡ place_reply unit t offset
place-past unit t n offset is h =
    ap (answer.OutOfBounds (view_of unit)) is ∙ sym (cond-true (nat_lt (units unit t) offset) _ _ (lt-ltb (units unit t) offset (omega (arith, is, h))))

either : (x y : Bool) → x ≡ false → y ≡ false → (x || y) ≡ false
either true y e f = e
either false y e f = f

either-first : (x y : Bool) → x ≡ true → (x || y) ≡ true
either-first true y e = refl
either-first false y e = absurd (let clash : false ≡ true = e in cc)

either-second : (x y : Bool) → y ≡ true → (x || y) ≡ true
either-second true y e = refl
either-second false y e = e

-- a pair in bounds and in order
pub pair-in : (t : List ℕ) (a b : ℕ) → a ≤ units Utf16 t → b ≤ units Utf16 t → a ≤ b → is_out t a b ≡ false
pair-in t a b ha hb h =
    let u = units Utf16 t in
    either (nat_lt u a || nat_lt u b) (nat_lt b a) (either (nat_lt u a) (nat_lt u b) (le-ltb u a ha) (le-ltb u b hb)) (le-ltb b a h)

-- an offset of it is past the end
pub pair-past : (t : List ℕ) (a b : ℕ) → (units Utf16 t < a) ⊎ (units Utf16 t < b) → is_out t a b ≡ true
pair-past t a b past =
    let u = units Utf16 t in
    either-first (nat_lt u a || nat_lt u b) (nat_lt b a)
    (⊎_elim (λ h. either-first (nat_lt u a) (nat_lt u b) (lt-ltb u a h)) (λ h. either-second (nat_lt u a) (nat_lt u b) (lt-ltb u b h)) past)

-- the first is above the second
pub pair-reversed : (t : List ℕ) (a b : ℕ) → b < a → is_out t a b ≡ true
pair-reversed t a b h =
    let u = units Utf16 t in
    either-second (nat_lt u a || nat_lt u b) (nat_lt b a) (lt-ltb b a h)

-- the text between the places of two offsets
pub between-places : (now : Meaning) (a b low high : ℕ) → let e = storage_of (now.row) in let t = now.text in
    low ≡ start (width_in e) t (floor Utf16 t a) → high ≡ start (width_in e) t (floor Utf16 t b)
    → text_between now low high ≡ part t (floor Utf16 t a) (floor Utf16 t b)
between-places now a b low high is js =
    let e = storage_of (now.row) in
    let t = now.text in
    ap (λ i. part t i (down (width_in e) t high)) (number-there e t (floor Utf16 t a) low (down-length (width_in Utf16) t a) is)
    ∙ ap (part t (floor Utf16 t a)) (number-there e t (floor Utf16 t b) high (down-length (width_in Utf16) t b) js)

-- the text with another one in place of what lies there
pub spliced-places : (now : Meaning) (a b low high : ℕ) (with : List ℕ) → let e = storage_of (now.row) in let t = now.text in
    low ≡ start (width_in e) t (floor Utf16 t a) → high ≡ start (width_in e) t (floor Utf16 t b)
    → spliced now low high with ≡ replaced t (floor Utf16 t a) (floor Utf16 t b) with
spliced-places now a b low high with is js =
    let e = storage_of (now.row) in
    let t = now.text in
    ap (λ i. replaced t i (down (width_in e) t high) with) (number-there e t (floor Utf16 t a) low (down-length (width_in Utf16) t a) is)
    ∙ ap (λ j. replaced t (floor Utf16 t a) j with) (number-there e t (floor Utf16 t b) high (down-length (width_in Utf16) t b) js)

-- the whole text
pub between-ends : (now : Meaning) (low high : ℕ) → let e = storage_of (now.row) in let t = now.text in
    low ≡ start (width_in e) t 0 → high ≡ start (width_in e) t (length t) → text_between now low high ≡ now.text
between-ends now low high is js =
    let e = storage_of (now.row) in
    let t = now.text in
    ap (λ i. part t i (down (width_in e) t high)) (number-there e t 0 low (omega arith) is)
    ∙ ap (part t 0) (number-there e t (length t) high (omega arith) js)
    ∙ take_all (length t - 0) t (omega arith)
