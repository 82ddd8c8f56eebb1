-- Which of the answers an edit gives.
use Rattle.std.proofs.Common.{◌≡◌, refl, sym, ap, subst, ◌∙◌, ℕ, ◌<◌, ◌≤◌, ◌⊎◌, inl, inr, ⊎_elim, ◌↔◌, List, [], ◌++◌, take, drop, length, chars, Bool, true, false, IsUtf8, if◌then◌else◌, Some, Result, Ok, Err, IfOk, arith}
use Rattle.std.proofs.lemmas.Bool.{cases_lt, lt-ltb, le-ltb}
use Rattle.std.proofs.lemmas.Str.{is_utf8-from_IsUtf8, IsUtf8-from_is_utf8}
use Rattle.std.proofs.lemmas.List.{take_all, append-nil}
use Rattle.std.proofs.Math.ListN.{drop_of_length-le}
use Rattle.std.specs.Str.{is_utf8}
use Rattle.std.specs.Str.Lossy.{utf8_valid_len}
use Rattle.text_spec.specs.Editing.{replaced}
use Rattle.text_spec.specs.Text.{utf8}
use Rattle.str_value.specs.declared.error.MakeError.{MakeError}
use Rattle.str_value.specs.declared.error.MakeError.TheVariants as made
use Rattle.str_value.specs.declared.wrote.Wrote.{Wrote}
use Rattle.str_value.specs.Editing.{IsUnwritten}
use Rattle.slot_table.specs.Owners.{PassSeen}
use Rattle.edit_cow.specs.declared.error.EditError.{EditError}
use Rattle.edit_cow.specs.declared.error.EditError.TheVariants as refusal
use Rattle.text_spec.specs.Boundaries.{IsScalarBoundary}
use Rattle.text_spec.specs.Offsets.{down}
use Rattle.text_spec.specs.Views.{width_in}
use Rattle.text_spec.proofs.Walk.{start-mono}
use Rattle.str_value.specs.Meaning.{Meaning, storage_of, own_part}
use Rattle.str_value.proofs.Between.{down-mono}
use Rattle.rounding.specs.Refusals.{scalar_of}
use Rattle.edit_cow.specs.Edits.{within_limit, rewritten, rewritten_between, in_order, after_first, after_second, edited, appended, refusal_of, IsLeft}

fits : (text : List ℕ) → length (utf8 text) ≤ 16777216 → within_limit text ≡ Ok text
fits text few = ap (λ long. if long then Err (refusal.TooLong (length (utf8 text))) else Ok text) (le-ltb 16777216 (length (utf8 text)) few)

passes : (text : List ℕ) → 16777216 < length (utf8 text) → within_limit text ≡ Err (refusal.TooLong (length (utf8 text)))
passes text many = ap (λ long. if long then Err (refusal.TooLong (length (utf8 text))) else Ok text) (lt-ltb 16777216 (length (utf8 text)) many)

neither : (b : Bool) → ¬ (b ≡ true) → b ≡ false
neither true h = absurd (h refl)
neither false h = refl

-- bytes that are UTF-8, and bytes that aren't
pub valid : (t with shown : List ℕ) (i j : ℕ) → shown ≡ with → IsUtf8 with → rewritten t i j with ≡ within_limit (replaced t i j (chars shown))
valid t with shown i j same ok =
    ap (λ is. if is then within_limit (replaced t i j (chars with)) else Err (refusal.NotUtf8 (utf8_valid_len with))) (is_utf8-from_IsUtf8 with ok)
    ∙ ap (λ bytes. within_limit (replaced t i j (chars bytes))) (sym same)

pub invalid : (t with : List ℕ) (i j n : ℕ) → ¬ (IsUtf8 with) → n ≡ utf8_valid_len with → rewritten t i j with ≡ Err (refusal.NotUtf8 n)
invalid t with i j n not_valid is =
    ap (λ valid. if valid then within_limit (replaced t i j (chars with)) else Err (refusal.NotUtf8 (utf8_valid_len with)))
    (neither (is_utf8 with) (λ h. not_valid (IsUtf8-from_is_utf8 with h)))
    ∙ ap (λ k. Err (refusal.NotUtf8 k)) (sym is)

-- behind the last scalar
pub at-end : (t with : List ℕ) (n : ℕ) → n ≡ length t → rewritten t n n with ≡ appended t with
at-end t with n is =
    let front : take n t ≡ t = take_all n t (omega arith) in
    let back : drop n t ≡ [] = drop_of_length-le t (omega arith) in
    let all : replaced t n n (chars with) ≡ t ++ chars with =
    ap (λ l. l ++ (chars with ++ drop n t)) front ∙ ap (λ l. t ++ (chars with ++ l)) back ∙ ap (λ l. t ++ l) (append-nil (chars with)) in
    ap (λ text. if is_utf8 with then within_limit text else Err (refusal.NotUtf8 (utf8_valid_len with))) all

-- two indices that are in range
module _ (now : Meaning) (a b : ℕ) (with : List ℕ) (from to : ℕ) where
  abbrev pub number : ℕ → ℕ
  number p = down (width_in (storage_of (now.row))) (now.text) p

  both : scalar_of (own_part now) a ≡ Some (number from) → scalar_of (own_part now) b ≡ Some (number to) → edited now a b with ≡ in_order (now.text) a b with (number from) (number to)
  both first second = ap (after_first now a b with) first ∙ ap (after_second now a b with (number from)) second

  module _ (first : scalar_of (own_part now) a ≡ Some (number from)) (second : scalar_of (own_part now) b ≡ Some (number to)) where
    pub reversed : IsScalarBoundary (width_in (storage_of (now.row))) (now.text) from → IsScalarBoundary (width_in (storage_of (now.row))) (now.text) to
        → to < from → edited now a b with ≡ Err (refusal.Reversed a b)
    reversed f t h =
        let w = width_in (storage_of (now.row)) in
        let before : number to < number from =
        ⊎_elim (λ l. l) (λ l. absurd (omega (arith, start-mono w (now.text) (number from) (number to) l, f, t, h))) (cases_lt (number to) (number from)) in
        both first second
        ∙ ap (λ is. if is then Err (refusal.Reversed a b) else rewritten (now.text) (number from) (number to) with) (lt-ltb (number to) (number from) before)

    pub ordered : from ≤ to → edited now a b with ≡ rewritten_between now from to with
    ordered h =
        let w = width_in (storage_of (now.row)) in
        both first second
        ∙ ap (λ is. if is then Err (refusal.Reversed a b) else rewritten (now.text) (number from) (number to) with)
        (le-ltb (number to) (number from) (down-mono w (now.text) from to h))

abbrev pub is_err : MakeError → MakeError → Type 0
is_err m e = let r : Result Wrote MakeError = Err m in r ≡ Err e

-- what a call that makes the text says of its length
abbrev pub IsTooLong : Result Wrote MakeError → List ℕ → Type 0
IsTooLong r text = (n : ℕ) → (r ≡ Err (made.TooLong n)) ↔ ((n ≡ length (utf8 text)) × (16777216 < n))

pub made-text : (text : List ℕ) (u : Wrote) → IsTooLong (Ok u) text → within_limit text ≡ Ok text
made-text text u long =
    fits text
    (⊎_elim (λ l. let no : Ok u ≡ Err (made.TooLong (length (utf8 text))) = (long (length (utf8 text))).1 (refl, l) in absurd (cc)) (λ l. l) (cases_lt 16777216 (length (utf8 text))))

pub made-refused : (m : MakeError) (text : List ℕ) → IsTooLong (Err m) text → ((n : ℕ) → ¬ (is_err m (made.NotUtf8 n)))
    → (refusal_of m ≡ refusal.OutOfMemory) ⊎ (within_limit text ≡ Err (refusal_of m))
made-refused (made.NotUtf8 n) text long utf8 = absurd (utf8 n refl)
made-refused (made.TooLong n) text long utf8 =
    let is = (long n).0 refl in
    inr (passes text (omega (arith, is.0, is.1)) ∙ ap (λ k. Err (refusal.TooLong k)) (sym is.0))
made-refused made.OutOfMemory text long utf8 = inl refl

pub made-cause : (m : MakeError) (text : List ℕ) → IsTooLong (Err m) text → (e : EditError) → within_limit text ≡ Err e → refusal_of m ≡ e
made-cause m text long e cause =
    ⊎_elim
    (λ l.
    let same : is_err m (made.TooLong (length (utf8 text))) = (long (length (utf8 text))).1 (refl, l) in
    let of : m ≡ made.TooLong (length (utf8 text)) = cc in
    let other = passes text l in
    ap refusal_of of ∙ (cc))
    (λ l. let other = fits text l in absurd (cc))
    (cases_lt 16777216 (length (utf8 text)))

-- a text that is within the limit is itself
pub limit-text : (t text : List ℕ) → within_limit t ≡ Ok text → text ≡ t
limit-text t text is =
    ⊎_elim (λ l. let other = passes t l in absurd (cc)) (λ l. let other = fits t l in cc) (cases_lt 16777216 (length (utf8 t)))

pub no-memory : (m : MakeError) → refusal_of m ≡ refusal.OutOfMemory → m ≡ made.OutOfMemory
no-memory (made.NotUtf8 n) h = cc
no-memory (made.TooLong n) h = cc
no-memory made.OutOfMemory h = refl

-- ---- what a refused edit leaves
module _ (p : PassSeen) (s : Meaning) (q : PassSeen) (t : Meaning) where
  pub left-refused : (o : Result (List ℕ) EditError) (e : EditError) → o ≡ Err e → t ≡ s → q ≡ p → IsLeft p s o q t
  left-refused (Ok text) e is value pass = cc
  left-refused (Err e') e is value pass = (value, pass)

  left_wanting : (o : Result (List ℕ) EditError) (text : List ℕ) → o ≡ Ok text → IsUnwritten p s (length (utf8 text)) q t → IsLeft p s o q t
  left_wanting o text is unwritten = subst (λ r. IsLeft p s r q t) (sym is) unwritten

  pub made-left : (m : MakeError) (text : List ℕ) (o : Result (List ℕ) EditError) → o ≡ within_limit text → IsTooLong (Err m) text → ((n : ℕ) → ¬ (is_err m (made.NotUtf8 n)))
      → ((n : ℕ) → is_err m (made.TooLong n) → (t ≡ s) × (q ≡ p)) → (is_err m made.OutOfMemory → IsUnwritten p s (length (utf8 text)) q t) → IsLeft p s o q t
  made-left (made.NotUtf8 n) text o is long not8 kept unwritten = absurd (not8 n refl)
  made-left (made.TooLong n) text o is long not8 kept unwritten =
      let many = (long n).0 refl in
      left-refused o _ (is ∙ passes text (omega (arith, many.0, many.1))) (kept n refl).0 (kept n refl).1
  made-left made.OutOfMemory text o is long not8 kept unwritten =
      let few : length (utf8 text) ≤ 16777216 =
      ⊎_elim (λ l. let no : is_err made.OutOfMemory (made.TooLong (length (utf8 text))) = (long (length (utf8 text))).1 (refl, l) in absurd (cc)) (λ l. l) (cases_lt 16777216 (length (utf8 text))) in
      left_wanting o text (is ∙ fits text few) (unwritten refl)

-- what holds of an answer that is there
pub ok-of : (r : Result Wrote EditError) (P Q : Wrote → Type 0) → ((w : Wrote) → P w → Q w) → IfOk r P → IfOk r Q
ok-of (Ok w) P Q f h = f w h
ok-of (Err e) P Q f h = h
