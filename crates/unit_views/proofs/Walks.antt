-- What one scalar more, or less, does to a count of elements.
use Rattle.std.proofs.Common.{◌≡◌, refl, sym, ap, subst, ◌∙◌, ℕ, suc, ◌+◌, ◌-◌, ◌^◌, ◌<◌, ◌≤◌, inl, inr, ⊎_elim, ◌⊎◌, List, length, get_or, false, arith}
use Rattle.std.proofs.lemmas.Bool.{cases_lt}
use Rattle.text_spec.specs.declared.encoding.Encoding.{Encoding}
use Rattle.text_spec.specs.Offsets.{start, down}
use Rattle.text_spec.specs.Views.{width_in, size_in}
use Rattle.text_spec.proofs.Downward.{down-length}
use Rattle.text_spec.proofs.Walk.{start-suc, start-mono, start-le, start-strict, down-next}
use Rattle.text_spec.proofs.Widths.{width_some}
use Rattle.word_units.specs.Running.{PassesRun}
use Rattle.word_units.specs.Walking.{Passes}
use Rattle.word_units.specs.Parts.{part_of}
use Rattle.rounding.proofs.Ascii.{start-ascii, down-ascii, width_one}
use Rattle.unit_views.specs.declared.kind.ElementKind.{ElementKind}
use Rattle.unit_views.specs.declared.kind.ElementKind.TheVariants.{Scalars, Units}
use Rattle.unit_views.specs.Elements.{is_own, view_width}
use Rattle.unit_views.specs.Spots.{Passing, Backing, Walked, WalkedBack}
use Rattle.unit_views.proofs.Between.{down-mono, down-strict, Previous, previous, previous_within}
use Rattle.unit_views.proofs.Widths.{other_is, start-ones, view_some, start-most}

-- what is passed, once its elements are counted
run_passing : (view : ElementKind) (e : Encoding) (b : List ℕ) (first end at to room most next units scalars count : ℕ) → PassesRun (part_of e b first end) at most next units scalars
    → start (view_width view) b (down (width_in e) b next) ≡ start (view_width view) b (down (width_in e) b at) + count → 1 ≤ count
    → (scalars ≡ 1) ⊎ ((count ≤ most) × (next ≤ at + most))
    → at + most ≤ to → most ≤ room → start (width_in e) b (down (width_in e) b at) ≡ at → start (width_in e) b (down (width_in e) b to) ≡ to → at < to
    → Passing (width_in e) (view_width view) b at to room next count
run_passing view e b first end at to room most next units scalars count p counted some size fits small begins ends before =
    let w = width_in e in
    let k = down w b at in
    let less = down-strict w b at to begins ends before in
    record {
      number = ⊎_elim (λ is. omega (arith, p.number, is)) (λ is. omega (arith, p.number, is.0)) p.size;
      boundary = p.boundary;
      counted = counted;
      ahead = p.ahead;
      within = ⊎_elim (λ is. omega (arith, p.boundary, ends, start-mono w b (down w b next) (down w b to) (omega (arith, p.number, is, less)))) (λ is. omega (arith, is.1, fits)) size;
      some = some;
      one = λ more. ⊎_elim (λ is. ap (start (view_width view) b) {x = suc k} {y = down w b next} (omega (arith, p.number, is)) ∙ counted) (λ is. absurd (omega (arith, more, is.0, small))) size;
    }

-- several scalars have no more elements than there is room for
several : (units scalars count most next at : ℕ) → (scalars ≡ 1) ⊎ ((1 ≤ scalars) × (scalars ≤ units) × (units ≤ most) × (next ≤ at + most)) → (count ≡ scalars) ⊎ (count ≡ units)
    → (scalars ≡ 1) ⊎ ((count ≤ most) × (next ≤ at + most))
several units scalars count most next at size same =
    ⊎_elim (λ is. inl is) (λ is. inr (⊎_elim (λ e. omega (arith, e, is.1, is.2)) (λ e. omega (arith, e, is.2)) same, is.3)) size

pub its_units : (encoding e : Encoding) (b : List ℕ) (first end at next more : ℕ) → is_own (Units encoding) e ≡ false → Passes (part_of e b first end) at next more
    → start (width_in encoding) b (suc (down (width_in e) b at)) ≡ start (width_in encoding) b (down (width_in e) b at) + more
its_units encoding e b first end at next more other p =
    let same = other_is encoding e other in
    let next_is : suc (down (width_in e) b at) ≡ down (width_in e) b next = omega (arith, p.number) in
    ap (start (width_in encoding) b) next_is ∙ ap (λ f. start f b (down (width_in e) b next)) (sym same) ∙ p.other
    ∙ ap (λ f. start f b (down (width_in e) b at) + more) same

-- one scalar back
pub backing : (view : ElementKind) (e : Encoding) (b : List ℕ) (at to q units : ℕ) → start (width_in e) b (down (width_in e) b at) ≡ at
    → start (width_in e) b (down (width_in e) b to) ≡ to → to < at → Previous e b at q
    → start (view_width view) b (suc (down (width_in e) b q)) ≡ start (view_width view) b (down (width_in e) b q) + units → 1 ≤ units → units ≤ 4
    → Backing (width_in e) (view_width view) b at to q units
backing view e b at to q units begins ends after p counted some few =
    record {
      number = p.number;
      boundary = p.boundary;
      counted = sym counted ∙ ap (start (view_width view) b) p.number;
      before = p.before;
      within = previous_within e b at q to p begins ends after;
      some = some;
      few = few;
    }

-- by the view that the call is given
pub passing_scalars : (view : ElementKind) (e : Encoding) (b : List ℕ) (first end at to room most next units scalars : ℕ) → view ≡ Scalars → PassesRun (part_of e b first end) at most next units scalars
    → at + most ≤ to → most ≤ room → start (width_in e) b (down (width_in e) b at) ≡ at → start (width_in e) b (down (width_in e) b to) ≡ to → at < to
    → Passing (width_in e) (view_width view) b at to room next scalars
passing_scalars view e b first end at to room most next units scalars is p fits small begins ends before =
    let w = width_in e in
    let counted : start (view_width Scalars) b (down w b next) ≡ start (view_width Scalars) b (down w b at) + scalars =
    omega (arith, p.number, start-ones b (down w b next) (down-length w b next), start-ones b (down w b at) (down-length w b at)) in
    let some : 1 ≤ scalars = ⊎_elim (λ one. omega (arith, one)) (λ many. omega (arith, many.0)) p.size in
    subst (λ v. Passing w (view_width v) b at to room next scalars) (sym is)
    (run_passing Scalars e b first end at to room most next units scalars scalars p counted some (several units scalars scalars most next at p.size (inl refl)) fits small begins ends before)

pub passing_units : (view : ElementKind) (encoding e : Encoding) (b : List ℕ) (first end at to room most next units scalars : ℕ) → view ≡ Units encoding → is_own view e ≡ false
    → PassesRun (part_of e b first end) at most next units scalars → at + most ≤ to → most ≤ room
    → start (width_in e) b (down (width_in e) b at) ≡ at → start (width_in e) b (down (width_in e) b to) ≡ to → at < to
    → Passing (width_in e) (view_width view) b at to room next units
passing_units view encoding e b first end at to room most next units scalars is other p fits small begins ends before =
    let w = width_in e in
    let same = other_is encoding e (subst (λ v. is_own v e ≡ false) is other) in
    let counted : start (width_in encoding) b (down w b next) ≡ start (width_in encoding) b (down w b at) + units =
    ap (λ f. start f b (down w b next)) (sym same) ∙ p.other ∙ ap (λ f. start f b (down w b at) + units) same in
    subst (λ v. Passing w (view_width v) b at to room next units) (sym is)
    (run_passing (Units encoding) e b first end at to room most next units scalars units p counted p.some (several units scalars units most next at p.size (inr refl)) fits small begins ends before)

-- the boundary before another
pub record Back (e : Encoding) (b : List ℕ) (at q : ℕ) : Type 0 where
  pub previous_is : Previous e b at q
  pub inside : q < size_in e b
  pub boundary : start (width_in e) b (down (width_in e) b q) ≡ q
  pub scalar : down (width_in e) b q < length b

pub back : (e : Encoding) (b : List ℕ) (at to q : ℕ) → start (width_in e) b (down (width_in e) b at) ≡ at → to < at → at ≤ size_in e b
    → q ≡ start (width_in e) b (down (width_in e) b (at - 1)) → Back e b at q
back e b at to q begins after inside is =
    let p = previous e b at q begins (omega (arith, after)) is in
    record {
      previous_is = p;
      inside = omega (arith, p.before, inside);
      boundary = p.boundary;
      scalar = omega (arith, p.number, down-length (width_in e) b at);
    }

pub backing_scalars : (view : ElementKind) (e : Encoding) (b : List ℕ) (at to q : ℕ) → view ≡ Scalars → start (width_in e) b (down (width_in e) b at) ≡ at
    → start (width_in e) b (down (width_in e) b to) ≡ to → to < at → Back e b at q → Backing (width_in e) (view_width view) b at to q 1
backing_scalars view e b at to q is begins ends after p =
    subst (λ v. Backing (width_in e) (view_width v) b at to q 1) (sym is)
    (backing Scalars e b at to q 1 begins ends after p.previous_is (start-suc (view_width Scalars) b (down (width_in e) b q) p.scalar) (omega arith) (omega arith))

pub backing_units : (view : ElementKind) (encoding e : Encoding) (b : List ℕ) (first end at to q next more : ℕ) → view ≡ Units encoding → is_own view e ≡ false
    → start (width_in e) b (down (width_in e) b at) ≡ at → start (width_in e) b (down (width_in e) b to) ≡ to → to < at → Back e b at q → Passes (part_of e b first end) q next more
    → Backing (width_in e) (view_width view) b at to q more
backing_units view encoding e b first end at to q next more is other begins ends after p passes =
    subst (λ v. Backing (width_in e) (view_width v) b at to q more) (sym is)
    (backing (Units encoding) e b at to q more begins ends after p.previous_is
    (its_units encoding e b first end q next more (subst (λ v. is_own v e ≡ false) is other) passes) passes.some passes.few)

-- ---- in a text of ASCII
pub view_one : (view : ElementKind) (c : ℕ) → c < 0x80 → view_width view c ≡ 1
view_one Scalars c h = refl
view_one (Units encoding) c h = width_one encoding c h

module _ (view : ElementKind) (e : Encoding) (b : List ℕ) (below : (k : ℕ) → k < length b → get_or b k 0 < 0x80) where
  -- a place is its own number, and as many elements lie before it
  pub own_number : (p : ℕ) → p ≤ size_in e b → (p ≤ length b) × ((down (width_in e) b p ≡ p) × ((start (width_in e) b p ≡ p) × (start (view_width view) b p ≡ p)))
  own_number p h =
      let size = start-ascii (width_in e) (width_some e) (width_one e) b below (length b) (omega arith) in
      let inside : p ≤ length b = omega (arith, h, size) in (
        inside,
        (
          down-ascii (width_in e) (width_some e) (width_one e) b below p inside,
          (
            start-ascii (width_in e) (width_some e) (width_one e) b below p inside,
            start-ascii (view_width view) (view_some view) (view_one view) b below p inside,
          ),
        ),
      )

  pub ascii_starts : (p : ℕ) → p ≤ size_in e b → start (view_width view) b (down (width_in e) b p) ≡ p
  ascii_starts p h = let is = own_number p h in ap (start (view_width view) b) is.1.0 ∙ is.1.1.1

  pub ascii_begins : (p : ℕ) → p ≤ size_in e b → start (width_in e) b (down (width_in e) b p) ≡ p
  ascii_begins p h = let is = own_number p h in ap (start (width_in e) b) is.1.0 ∙ is.1.1.0

  pub walked_ascii : (from to room at : ℕ) → from ≤ at → at ≤ to → to ≤ size_in e b → at - from ≤ room → (at ≡ to) ⊎ (at ≡ from + room)
      → Walked (width_in e) (view_width view) b from to room at (at - from)
  walked_ascii from to room at after within inside few ends =
      record {
        boundary = ascii_begins at (omega (arith, within, inside));
        after = after;
        within = within;
        counted = omega (arith, ascii_starts from (omega (arith, after, within, inside)), ascii_starts at (omega (arith, within, inside)), after);
        fits = few;
        last = ⊎_elim (λ l.
            let here = own_number at (omega (arith, within, inside)) in
            let next = own_number to inside in
            let suc_at : start (view_width view) b (suc (down (width_in e) b at)) ≡ suc at =
            ap (λ k. start (view_width view) b (suc k)) here.1.0 ∙ start-ascii (view_width view) (view_some view) (view_one view) b below (suc at) (omega (arith, l, next.0)) in
            inr (l, omega (arith, suc_at, ascii_starts from (omega (arith, after, within, inside)), ⊎_elim (λ is. absurd (omega (arith, is, l))) (λ is. is) ends)))
            (λ g. inl (omega (arith, within, g))) (cases_lt at to);
      }

  pub back_ascii : (from to room : ℕ) → to ≤ from → from ≤ size_in e b → room ≤ from - to
      → WalkedBack (width_in e) (view_width view) b from to room (from - room) 0
  back_ascii from to room order inside few =
      record {
        boundary = ascii_begins (from - room) (omega (arith, inside));
        before = omega arith;
        within = omega (arith, few, order);
        counted = omega (arith, ascii_starts (from - room) (omega (arith, inside)), ascii_starts from inside, few, order);
        inside = inl refl;
      }

-- ---- a walk on
pub walked_end : (view : ElementKind) (e : Encoding) (b : List ℕ) (from to room at reached : ℕ) → Walked (width_in e) (view_width view) b from to room at reached
    → to ≤ size_in e b → size_in e b < 2 ^ 48 → 2 ^ 50 ≤ room → at ≡ to
walked_end view e b from to room at reached walked inside small large =
    ⊎_elim (λ is. is) (λ h. absurd (let most = start-most view e b (suc (down (width_in e) b at)) in
    omega (arith, h.1, most, start-le (width_in e) b (suc (down (width_in e) b at)), small, large))) walked.last

-- how far it comes with one scalar more
pub further : (view : ElementKind) (e : Encoding) (b : List ℕ) (at to room next units : ℕ) → Passing (width_in e) (view_width view) b at to room next units
    → to ≤ size_in e b → down (width_in e) b at + 1 ≤ down (width_in e) b to
further view e b at to room next units p inside = omega (arith, p.number, down-mono (width_in e) b next to p.within)

-- where there is no room for more
pub full : (view : ElementKind) (e : Encoding) (b : List ℕ) (from at to room reached : ℕ) → start (width_in e) b (down (width_in e) b at) ≡ at → at < to → to ≤ size_in e b
    → start (view_width view) b (down (width_in e) b from) + reached ≡ start (view_width view) b (down (width_in e) b at) → reached ≡ room
    → start (view_width view) b (down (width_in e) b from) + room < start (view_width view) b (suc (down (width_in e) b at))
full view e b from at to room reached boundary before inside counted is =
    let k = down (width_in e) b at in
    let less : k < length b = (down-next (width_in e) b at (omega (arith, before, inside))).0 in
    omega (arith, counted, is, start-strict (view_width view) (view_some view) b k (suc k) (omega arith) (omega (arith, less)))

-- a walk back counts no more than four times the place
pub back_most : (view : ElementKind) (e : Encoding) (b : List ℕ) (from : ℕ) → from ≤ size_in e b → size_in e b < 2 ^ 48 → start (view_width view) b (down (width_in e) b from) < 2 ^ 50
back_most view e b from inside small =
    omega (arith, start-most view e b (down (width_in e) b from), start-le (width_in e) b (down (width_in e) b from), small)
