-- One scalar more of a walk, and one word more.
use Rattle.std.proofs.Common.{◌≡◌, sym, ap, ◌∙◌, ℕ, suc, ◌+◌, ◌-◌, ◌*◌, ◌/◌, ◌<◌, ◌≤◌, ◌⊎◌, inl, inr, ⊎_elim, true, false, List, length, arith}
use Rattle.std.proofs.lemmas.Bool.{cases_lt, ltb-true, ltb-false}
use Rattle.std.specs.Char.{len_utf8}
use Rattle.text_spec.specs.declared.encoding.Encoding.TheVariants.{Utf8}
use Rattle.text_spec.specs.Offsets.{len_utf16, start, down}
use Rattle.text_spec.specs.Views.{size_in}
use Rattle.text_spec.proofs.Downward.{start-down, down-length, down-greatest}
use Rattle.text_spec.proofs.Walk.{start-mono, start-le, down-unique, down-end}
use Rattle.word_units.specs.Walking.{Passes}
use Rattle.word_units.specs.Parts.{all_of}
use Rattle.rounding.specs.Resolving.{Reaches}
use Rattle.crumbs.specs.declared.scanning.Limit.{Limit}
use Rattle.crumbs.specs.declared.scanning.Limit.TheVariants.{Byte, Unit}
use Rattle.crumbs.specs.Scanning.{number_at, ends_behind, Stands, Scanned}
use Rattle.crumbs.proofs.Crumbing.{start16-le}
use Rattle.crumbs.proofs.Walks.{stepped8}

-- the scalar that ends behind a limit, and isn't behind that itself, covers it
covers : (w : ℕ → ℕ) (t : List ℕ) (o k : ℕ) → k < length t → k ≤ down w t o → o < start w t (suc k) → down w t o ≡ k
covers w t o k inside order past = down-unique w t o k inside (omega (arith, start-mono w t k (down w t o) order, start-down w t o)) past

pub number_of_limit : (t : List ℕ) (limit : Limit) (k end units : ℕ) → k < length t → k ≤ number_at t limit
    → end ≡ start len_utf8 t (suc k) → units ≡ start len_utf16 t (suc k) → ends_behind limit end units ≡ true → number_at t limit ≡ k
number_of_limit t (Byte p) k end units inside order is8 is16 past = covers len_utf8 t p k inside order (omega (arith, is8, ltb-true p end past))
number_of_limit t (Unit o) k end units inside order is8 is16 past = covers len_utf16 t o k inside order (omega (arith, is16, ltb-true o units past))

-- one that doesn't lies before the one that covers it
pub before_limit : (t : List ℕ) (limit : Limit) (k end units : ℕ) → k < length t
    → end ≡ start len_utf8 t (suc k) → units ≡ start len_utf16 t (suc k) → ends_behind limit end units ≡ false → suc k ≤ number_at t limit
before_limit t (Byte p) k end units inside is8 is16 not = down-greatest len_utf8 t p (suc k) inside (omega (arith, is8, ltb-false p end not))
before_limit t (Unit o) k end units inside is8 is16 not = down-greatest len_utf16 t o (suc k) inside (omega (arith, is16, ltb-false o units not))

number-most : (t : List ℕ) (limit : Limit) → number_at t limit ≤ length t
number-most t (Byte p) = down-length len_utf8 t p
number-most t (Unit o) = down-length len_utf16 t o

-- ---- the scalars that begin in the word of byte `at`, from there on
pub record Scanning (t : List ℕ) (limit : Limit) (at begins units : ℕ) : Type 0 where
  pub reaches : Reaches (all_of Utf8 t) begins units
  pub within : begins ≤ size_in Utf8 t
  pub few : units ≤ begins
  pub before : down len_utf8 t begins ≤ number_at t limit
  pub order : at ≤ begins
  pub near : begins ≤ at / 8 * 8 + 11
  pub last : at < begins → start len_utf8 t (down len_utf8 t begins - 1) / 8 ≡ at / 8

pub scan_begins : (t : List ℕ) (limit : Limit) (at units : ℕ) → Reaches (all_of Utf8 t) at units → at < size_in Utf8 t → down len_utf8 t at ≤ number_at t limit → Scanning t limit at at units
scan_begins t limit at units here inside before = record {
  reaches = here;
  within = omega (arith, inside);
  few = omega (arith, here.boundary, here.offset, start16-le t (down len_utf8 t at));
  before = before;
  order = omega arith;
  near = omega arith;
  last = λ h. absurd (omega (arith, h));
}

module _ (t : List ℕ) (limit : Limit) (at begins units end takes : ℕ) (l : Scanning t limit at begins units) (p : Passes (all_of Utf8 t) begins end takes) where
  pub scan_more : begins / 8 ≡ at / 8 → ends_behind limit end (units + takes) ≡ false → Scanning t limit at end (units + takes)
  scan_more near not =
      let s = stepped8 t begins units l.reaches end takes p in
      let before = before_limit t limit (down len_utf8 t begins) end (units + takes) s.inside (sym s.ends) (sym s.is_more) not in
      let last : down len_utf8 t end - 1 ≡ down len_utf8 t begins = omega (arith, s.number) in
      record {
        reaches = s.reaches;
        within = p.within;
        few = omega (arith, s.reaches.boundary, s.reaches.offset, start16-le t (down len_utf8 t end));
        before = omega (arith, s.number, before);
        order = omega (arith, l.order, p.ahead);
        near = omega (arith, near, p.near);
        last = λ _. omega (arith, ap (start len_utf8 t) last, l.reaches.boundary, near);
      }

  pub scan_found : begins / 8 ≡ at / 8 → ends_behind limit end (units + takes) ≡ true → Scanned t limit at begins units takes
  scan_found near past =
      let s = stepped8 t begins units l.reaches end takes p in
      let is : number_at t limit ≡ down len_utf8 t begins = number_of_limit t limit (down len_utf8 t begins) end (units + takes) s.inside l.before (sym s.ends) (sym s.is_more) past in
      record {
        reaches = l.reaches;
        within = l.within;
        before = l.before;
        found = λ _. (
          record {
            begins_at = sym l.reaches.boundary ∙ ap (start len_utf8 t) (sym is);
            units_are = sym l.reaches.offset ∙ ap (start len_utf16 t) (sym is);
            takes_are = omega (arith, s.is_more, l.reaches.offset, ap (start len_utf16 t) is, ap (λ k. start len_utf16 t (suc k)) is);
          },
          near,
          omega (arith, is, s.inside),
        );
        passed = λ none. absurd (omega (arith, p.some, none));
      }

-- none of them covers the limit
pub scan_ends : (t : List ℕ) (limit : Limit) (at begins units stop : ℕ) → Scanning t limit at begins units → at < stop → stop ≤ begins
    → (stop ≡ size_in Utf8 t) ⊎ (stop ≡ at / 8 * 8 + 8) → Scanned t limit at begins units 0
scan_ends t limit at begins units stop l ahead past ends =
    let later : at < begins = omega (arith, ahead, past) in
    record {
      reaches = l.reaches;
      within = l.within;
      before = l.before;
      found = λ some. absurd (omega (arith, some));
      passed = λ _. (
        later,
        l.last later,
        ⊎_elim (λ h. inl (omega (arith, h, past, l.within))) (λ h. inr (omega (arith, h, past, l.near))) ends,
      );
    }

-- ---- what a word that doesn't hold the limit leaves
pub record Walked (t : List ℕ) (limit : Limit) (first at units : ℕ) : Type 0 where
  pub reaches : Reaches (all_of Utf8 t) at units
  pub within : at ≤ size_in Utf8 t
  pub before : down len_utf8 t at ≤ number_at t limit
  pub order : first ≤ down len_utf8 t at
  pub fresh : first < down len_utf8 t at → at < size_in Utf8 t → at / 8 ≡ start len_utf8 t (down len_utf8 t at - 1) / 8 + 1

pub walk_begins : (t : List ℕ) (limit : Limit) (at units : ℕ) → Reaches (all_of Utf8 t) at units → at ≤ size_in Utf8 t → down len_utf8 t at ≤ number_at t limit
    → Walked t limit (down len_utf8 t at) at units
walk_begins t limit at units here within before = record {
  reaches = here;
  within = within;
  before = before;
  order = omega arith;
  fresh = λ h. absurd (omega (arith, h));
}

module _ (t : List ℕ) (limit : Limit) (first at units begins reached takes : ℕ) (w : Walked t limit first at units) (inside : at < size_in Utf8 t) (s : Scanned t limit at begins reached takes) where
  -- a later place has a later number
  later : at < begins → down len_utf8 t at < down len_utf8 t begins
  later h =
      ⊎_elim (λ l. l)
      (λ (l : down len_utf8 t begins ≤ down len_utf8 t at).
      absurd (omega (arith, start-mono len_utf8 t (down len_utf8 t begins) (down len_utf8 t at) l, w.reaches.boundary, s.reaches.boundary, h)))
      (cases_lt (down len_utf8 t at) (down len_utf8 t begins))

  pub walk_on : takes ≡ 0 → (Walked t limit first begins reached) × (down len_utf8 t at < down len_utf8 t begins)
      × (start len_utf8 t (down len_utf8 t begins - 1) / 8 ≡ start len_utf8 t (down len_utf8 t at) / 8)
  walk_on none =
      let p = s.passed none in
      let more = later p.0 in (
        record {
          reaches = s.reaches;
          within = s.within;
          before = s.before;
          order = omega (arith, w.order, more);
          fresh = λ _ below. ⊎_elim (λ h. absurd (omega (arith, h, below))) (λ h. omega (arith, h, p.1)) p.2;
        },
        more,
        omega (arith, p.1, w.reaches.boundary),
      )

-- at the end of the text no scalar covers the limit
pub walk_ends : (t : List ℕ) (limit : Limit) (first at units : ℕ) → Walked t limit first at units → size_in Utf8 t ≤ at
    → (Stands t (number_at t limit) at units 0) × (down len_utf8 t at ≡ length t) × (number_at t limit ≡ length t)
walk_ends t limit first at units w past =
    let last : down len_utf8 t at ≡ length t = down-end len_utf8 t at past in
    let is : number_at t limit ≡ length t = omega (arith, last, w.before, number-most t limit) in (
      record {
        begins_at = omega (arith, w.reaches.boundary, ap (start len_utf8 t) last, ap (start len_utf8 t) is);
        units_are = omega (arith, w.reaches.offset, ap (start len_utf16 t) last, ap (start len_utf16 t) is);
        takes_are = omega (arith, ap (start len_utf16 t) is, start-le len_utf16 t (suc (number_at t limit)));
      },
      last,
      is,
    )
