-- Places that are in range or out of it, and the index of a place.
use Rattle.std.proofs.Common.{◌≡◌, refl, sym, ap, ◌∙◌, ℕ, suc, ◌+◌, ◌-◌, ◌*◌, ◌/◌, ◌%◌, ◌^◌, ◌<◌, ◌≤◌, ◌==◌, ◌&&◌, Bool, true, false, nat_le, nat_lt, List, length, get_or, Some, None, arith, if◌then◌else◌, Option}
use Rattle.std.proofs.lemmas.Bool.{le-leb, lt-leb, lt-ltb, le-ltb, eqb-true, eqb-false}
use Rattle.std.specs.Option.{option_map}
use Rattle.text_spec.specs.declared.encoding.Encoding.{Encoding}
use Rattle.text_spec.specs.declared.encoding.Encoding.TheVariants.{Utf8, Utf16}
use Rattle.text_spec.specs.Offsets.{start, down}
use Rattle.text_spec.specs.Rounding.{Place, across, kept_offset}
use Rattle.text_spec.specs.Views.{width_in, other_width, size_in}
use Rattle.text_spec.proofs.Downward.{down-length, start-down}
use Rattle.text_spec.proofs.Walk.{start-mono, start-le, start-suc, start-zero, down-start, down-unique}
use Rattle.text_spec.proofs.Widths.{width_some, other_some, other_most}
use Rattle.index_words.specs.Fields.{position_of, transcoded_of, is_set, is_utf8, is_utf16, plain, word_of}
use Rattle.index_words.specs.declared.layout.TheConstants.{UTF8_BIT, UTF16_BIT}
use Rattle.rounding.specs.Resolving.{Bounds, IsResolved, IsFloor, Reaches, index_place, own_place, other_place, is_boundary, index_at, index_known}
use Rattle.word_units.specs.Walking.{Passes}
use Rattle.word_units.specs.Parts.{part_of, all_of}
use Rattle.rounding.proofs.Stepping.{earlier}

-- the bounds of a text
pub bounds_of : (e : Encoding) (b : List ℕ) (first end low high count : ℕ) → count ≡ size_in e b → count < 2 ^ 48
    → low ≡ start (width_in e) b first → first ≤ end → high ≡ start (width_in e) b end → end ≤ length b → Bounds (part_of e b first end) low high
bounds_of e b first end low high count count_is small low_is order high_is inside =
    let w = width_in e in
    let number : (k at : ℕ) → k ≤ length b → at ≡ start w b k → down w b at ≡ k = λ k at within is. ap (down w b) is ∙ down-start w (width_some e) b k within in
    let first_is = number first low (omega (arith, order, inside)) low_is in
    let end_is = number end high inside high_is in
    let low_within : low ≤ size_in e b = omega (arith, low_is, start-le w b first) in
    let high_within : high ≤ size_in e b = omega (arith, high_is, start-le w b end) in
    let none : down w b 0 ≡ 0 = ap (down w b) (sym (start-zero w b)) ∙ down-start w (width_some e) b 0 (omega arith) in
    record {
      low_is = low_is;
      high_is = high_is;
      first_is = first_is;
      end_is = end_is;
      low_boundary = ap (start w b) first_is ∙ sym low_is;
      high_boundary = ap (start w b) end_is ∙ sym high_is;
      order = omega (arith, low_is, high_is, start-mono w b first end order);
      low_inside = low_within;
      high_inside = high_within;
      end_inside = inside;
      low_small = omega (arith, low_within, count_is, small);
      high_small = omega (arith, high_within, count_is, small);
      origin = record { boundary = ap (start w b) none ∙ start-zero w b; offset = ap (start (other_width e) b) none ∙ start-zero (other_width e) b };
    }

same_true : (n m : ℕ) → m ≡ n → (m == n) ≡ true
same_true n m is = elim (m == n) as (λ b. (m == n) ≡ b → b ≡ true) [ true ↦ λ e. refl | false ↦ λ e. absurd (eqb-false m n e is) ] refl

other_false : (n m : ℕ) → m < n → (m == n) ≡ false
other_false n m below = elim (m == n) as (λ b. (m == n) ≡ b → b ≡ false) [ true ↦ λ e. absurd (omega (arith, eqb-true m n e, below)) | false ↦ λ e. refl ] refl

and-false : (b : Bool) → (b && false) ≡ false
and-false true = refl
and-false false = refl

-- an index of a place says that place
abbrev marked : Encoding → ℕ → ℕ → Bool → ℕ
marked e at past known = word_of (record (plain at past e) { scalar_aligned = known })

place_is : (word at past marks : ℕ) → word ≡ at * 65536 + past * 16384 + marks → past < 4 → marks < 16 → ◌≡◌ {A = Place} (index_place word) (at, past)
place_is word at past marks is few low =
    let position : position_of word ≡ at = omega (arith, is, few, low) in
    let transcoded : transcoded_of word ≡ past = omega (arith, is, few, low) in
    ap (λ n. (n, transcoded_of word)) position ∙ ap (λ n. (at, n)) transcoded

pub marked_place : (e : Encoding) (at past : ℕ) (known : Bool) → past < 4 → ◌≡◌ {A = Place} (index_place (marked e at past known)) (at, past)
marked_place Utf8 at past true few = place_is (marked Utf8 at past true) at past 5 (omega arith) few (omega arith)
marked_place Utf8 at past false few = place_is (marked Utf8 at past false) at past 4 (omega arith) few (omega arith)
marked_place Utf16 at past true few = place_is (marked Utf16 at past true) at past 9 (omega arith) few (omega arith)
marked_place Utf16 at past false few = place_is (marked Utf16 at past false) at past 8 (omega arith) few (omega arith)

pub record IsIndexAt (e : Encoding) (b : List ℕ) (known : Bool) (at past index : ℕ) : Type 0 where
  pub place : ◌≡◌ {A = Place} (index_place index) (at, past)
  pub word : index ≡ index_known (all_of e b) known (index_place index)

pub index_from_told : (kind e : Encoding) (b : List ℕ) (known told : Bool) (at past index : ℕ) → past < 4 → kind ≡ e → told ≡ (known && is_boundary (all_of e b) (at, past))
    → index ≡ marked kind at past told → IsIndexAt e b known at past index
index_from_told kind e b known told at past index few same is made =
    let word : index ≡ marked e at past told = made ∙ ap (λ k. marked k at past told) same in
    let place : ◌≡◌ {A = Place} (index_place index) (at, past) = ap index_place word ∙ marked_place e at past told few in
    record { place = place; word = word ∙ (ap (marked e at past) is ∙ sym (ap (index_known (all_of e b) known) place)) }

-- at a boundary the scalar is passed by nothing exactly where the transcoded offset is 0
pub boundary_told : (e : Encoding) (b : List ℕ) (at past : ℕ) → start (width_in e) b (down (width_in e) b at) ≡ at → (past == 0) ≡ is_boundary (all_of e b) (at, past)
boundary_told e b at past boundary = ap (λ told. told && (past == 0)) (sym (same_true at (start (width_in e) b (down (width_in e) b at)) boundary))

-- off a boundary no offset is one
pub inside_told : (e : Encoding) (b : List ℕ) (at past : ℕ) → start (width_in e) b (down (width_in e) b at) < at → false ≡ is_boundary (all_of e b) (at, past)
inside_told e b at past inside = ap (λ told. told && (past == 0)) (sym (other_false at (start (width_in e) b (down (width_in e) b at)) inside))

-- an index that is read in code units of the storage
pub own_in : (e : Encoding) (b : List ℕ) (first end low high i : ℕ) → Bounds (part_of e b first end) low high → low ≤ position_of i → position_of i ≤ high
    → own_place (part_of e b first end) i ≡ Some (index_place i)
own_in e b first end low high i bounds above below =
    ap (λ told. if told && nat_le (position_of i) (start (width_in e) b end) then Some (index_place i) else None) (le-leb (start (width_in e) b first) (position_of i) (omega (arith, bounds.low_is, above)))
    ∙ ap (λ told. if told then Some (index_place i) else None) (le-leb (position_of i) (start (width_in e) b end) (omega (arith, bounds.high_is, below)))

pub own_low : (e : Encoding) (b : List ℕ) (first end low high i : ℕ) → Bounds (part_of e b first end) low high → position_of i < low → own_place (part_of e b first end) i ≡ None
own_low e b first end low high i bounds below =
    ap (λ told. if told && nat_le (position_of i) (start (width_in e) b end) then Some (index_place i) else None) (lt-leb (start (width_in e) b first) (position_of i) (omega (arith, bounds.low_is, below)))

pub own_high : (e : Encoding) (b : List ℕ) (first end low high i : ℕ) → Bounds (part_of e b first end) low high → high < position_of i → own_place (part_of e b first end) i ≡ None
own_high e b first end low high i bounds above =
    ap (λ told. if nat_le (start (width_in e) b first) (position_of i) && told then Some (index_place i) else None) (lt-leb (position_of i) (start (width_in e) b end) (omega (arith, bounds.high_is, above)))
    ∙ ap (λ told. if told then Some (index_place i) else None) (and-false (nat_le (start (width_in e) b first) (position_of i)))

-- an index that is read as an offset in the other encoding
pub other_in : (e : Encoding) (b : List ℕ) (first end q : ℕ) → start (other_width e) b first ≤ q → q ≤ start (other_width e) b end
    → other_place (part_of e b first end) q ≡ Some (across (width_in e) (other_width e) b q)
other_in e b first end q above below =
    let found = Some (across (width_in e) (other_width e) b q) in
    ap (λ told. if told && nat_le q (start (other_width e) b end) then found else None) (le-leb (start (other_width e) b first) q above)
    ∙ ap (λ told. if told then found else None) (le-leb q (start (other_width e) b end) below)

pub other_low : (e : Encoding) (b : List ℕ) (first end q : ℕ) → q < start (other_width e) b first → other_place (part_of e b first end) q ≡ None
other_low e b first end q below =
    let found = Some (across (width_in e) (other_width e) b q) in
    ap (λ told. if told && nat_le q (start (other_width e) b end) then found else None) (lt-leb (start (other_width e) b first) q below)

pub other_high : (e : Encoding) (b : List ℕ) (first end q : ℕ) → start (other_width e) b end < q → other_place (part_of e b first end) q ≡ None
other_high e b first end q above =
    let found = Some (across (width_in e) (other_width e) b q) in
    ap (λ told. if nat_le (start (other_width e) b first) q && told then found else None) (lt-leb q (start (other_width e) b end) above)
    ∙ ap (λ told. if told then found else None) (and-false (nat_le (start (other_width e) b first) q))

-- how many units of the other encoding lie before a text and before its end
pub units_low : (e : Encoding) (b : List ℕ) (first end low high units : ℕ) → Bounds (part_of e b first end) low high → Reaches (part_of e b first end) low units → units ≡ start (other_width e) b first
units_low e b first end low high units bounds reaches = sym reaches.offset ∙ ap (start (other_width e) b) bounds.first_is

pub units_high : (e : Encoding) (b : List ℕ) (first end low high units : ℕ) → Bounds (part_of e b first end) low high → Reaches (part_of e b first end) high units → units ≡ start (other_width e) b end
units_high e b first end low high units bounds reaches = sym reaches.offset ∙ ap (start (other_width e) b) bounds.end_is

-- where a walk that looks for an offset ends
pub record IsPlaceOf (e : Encoding) (b : List ℕ) (first end q at past : ℕ) : Type 0 where
  pub place : other_place (part_of e b first end) q ≡ Some (at, past)
  pub few : past < 4

-- the place of an offset, once the scalar's number is known
placed : (e : Encoding) (b : List ℕ) (first end at units q : ℕ) → Reaches (part_of e b first end) at units → down (other_width e) b q ≡ down (width_in e) b at
    → ◌≡◌ {A = Place} (across (width_in e) (other_width e) b q) (at, q - units)
placed e b first end at units q reaches number =
    ap (λ k. (start (width_in e) b k, q - start (other_width e) b k)) number
    ∙ (ap (λ p. (p, q - start (other_width e) b (down (width_in e) b at))) reaches.boundary ∙ ap (λ n. (at, q - n)) reaches.offset)

pub place_within : (e : Encoding) (b : List ℕ) (first end low high q at units before : ℕ) → Bounds (part_of e b first end) low high
    → Reaches (part_of e b first end) low before → before ≤ q → Reaches (part_of e b first end) at units → units ≤ q → at < high → q < start (other_width e) b (suc (down (width_in e) b at))
    → IsPlaceOf e b first end q at (q - units)
place_within e b first end low high q at units before bounds lowest above reaches not_after inside below =
    let k = down (width_in e) b at in
    let less : k < end = omega (arith, bounds.end_is, earlier (width_in e) b at high reaches.boundary bounds.high_boundary inside) in
    let in_whole : k < length b = omega (arith, less, bounds.end_inside) in
    let number = down-unique (other_width e) b q k in_whole (omega (arith, reaches.offset, not_after)) below in
    let under : q ≤ start (other_width e) b end = omega (arith, below, start-mono (other_width e) b (suc k) end less) in
    record {
      place = other_in e b first end q (omega (arith, units_low e b first end low high before bounds lowest, above)) under ∙ ap Some (placed e b first end at units q reaches number);
      few = omega (arith, below, start-suc (other_width e) b k in_whole, reaches.offset, other_most e (get_or b k 0));
    }

pub place_end : (e : Encoding) (b : List ℕ) (first end low high q at units before : ℕ) → Bounds (part_of e b first end) low high
    → Reaches (part_of e b first end) low before → before ≤ q → Reaches (part_of e b first end) at units → units ≤ q → at ≡ high → q ≤ units → IsPlaceOf e b first end q at 0
place_end e b first end low high q at units before bounds lowest above reaches not_after ends not_before =
    let k = down (width_in e) b at in
    let same : units ≡ q = omega (arith, not_after, not_before) in
    let is_end : k ≡ end = ap (down (width_in e) b) ends ∙ bounds.end_is in
    let number : down (other_width e) b q ≡ k = ap (down (other_width e) b) (sym same ∙ sym reaches.offset) ∙ down-start (other_width e) (other_some e) b k (down-length (width_in e) b at) in
    let none : q - units ≡ 0 = omega (arith, same) in
    record {
      place = other_in e b first end q (omega (arith, units_low e b first end low high before bounds lowest, above)) (omega (arith, same, reaches.offset, ap (start (other_width e) b) is_end))
          ∙ ap Some (placed e b first end at units q reaches number ∙ ap (λ n. (at, n)) none);
      few = omega arith;
    }

-- the marks of an index of a place
mark_set : (word low : ℕ) (marks : ℕ) → word ≡ low * 16 + marks → marks < 16 → (word / 4 % 2 ≡ marks / 4 % 2) × (word / 8 % 2 ≡ marks / 8 % 2)
mark_set word low marks is few = (omega arith, omega arith)

marks : (e : Encoding) (at past : ℕ) (told : Bool)
    → (is_set (marked e at past told) UTF8_BIT ≡ is_utf8 e) × (is_set (marked e at past told) UTF16_BIT ≡ is_utf16 e)
marks Utf8 at past true = let set = mark_set (marked Utf8 at past true) (at * 4096 + past * 1024) 5 (omega arith) (omega arith) in (ap (λ n. n == 1) set.0, ap (λ n. n == 1) set.1)
marks Utf8 at past false = let set = mark_set (marked Utf8 at past false) (at * 4096 + past * 1024) 4 (omega arith) (omega arith) in (ap (λ n. n == 1) set.0, ap (λ n. n == 1) set.1)
marks Utf16 at past true = let set = mark_set (marked Utf16 at past true) (at * 4096 + past * 1024) 9 (omega arith) (omega arith) in (ap (λ n. n == 1) set.0, ap (λ n. n == 1) set.1)
marks Utf16 at past false = let set = mark_set (marked Utf16 at past false) (at * 4096 + past * 1024) 8 (omega arith) (omega arith) in (ap (λ n. n == 1) set.0, ap (λ n. n == 1) set.1)

-- an index of a place between the bounds meets what the floors ask
pub resolved_index : (kind e : Encoding) (b : List ℕ) (first end low high at past index : ℕ) (told : Bool) → Bounds (part_of e b first end) low high → low ≤ at → at ≤ high
    → past < 4 → kind ≡ e → index ≡ marked kind at past told → IsResolved (part_of e b first end) index
resolved_index kind e b first end low high at past index told bounds above below few same made =
    let word : index ≡ marked e at past told = made ∙ ap (λ k. marked k at past told) same in
    let position : position_of index ≡ at = ap (λ p. p.0) (ap index_place word ∙ marked_place e at past told few) in
    let set = marks e at past told in
    record {
      marked8 = ap (λ w. is_set w UTF8_BIT) word ∙ set.0;
      marked16 = ap (λ w. is_set w UTF16_BIT) word ∙ set.1;
      not_below = omega (arith, position, above, bounds.low_is);
      not_above = omega (arith, position, below, bounds.high_is);
    }

-- the boundary that is found is the floor
pub floor_found : (e : Encoding) (b : List ℕ) (first end low high index at : ℕ) → Bounds (part_of e b first end) low high → IsResolved (part_of e b first end) index
    → at ≡ start (width_in e) b (down (width_in e) b (position_of index)) → IsFloor (part_of e b first end) index at
floor_found e b first end low high index at bounds resolved is =
    let w = width_in e in
    let k = down w b (position_of index) in
    let number : down w b at ≡ k = ap (down w b) is ∙ down-start w (width_some e) b k (down-length w b (position_of index)) in
    let not_after : at ≤ position_of index = omega (arith, is, start-down w b (position_of index)) in
    record {
      is = is;
      boundary = ap (start w b) number ∙ sym is;
      number = number;
      not_after = not_after;
      within = omega (arith, not_after, resolved.not_above);
      inside = omega (arith, not_after, resolved.not_above, bounds.high_is, bounds.high_inside);
      small = omega (arith, not_after, resolved.not_above, bounds.high_is, bounds.high_small);
    }

-- an index that is told to be a boundary where it is one
pub index_at_told : (kind e : Encoding) (b : List ℕ) (told : Bool) (at past index : ℕ) → kind ≡ e → told ≡ is_boundary (all_of e b) (at, past)
    → index ≡ marked kind at past told → index ≡ index_at (all_of e b) (at, past)
index_at_told kind e b told at past index same is made = made ∙ (ap (λ k. marked k at past told) same ∙ ap (marked e at past) is)

-- the index of the floor, with what is kept of the transcoded offset
pub floor_index : (kind e : Encoding) (b : List ℕ) (first end i at past index : ℕ) → IsFloor (part_of e b first end) i at → kind ≡ e
    → index ≡ marked kind at past (past == 0) → index ≡ index_at (all_of e b) (start (width_in e) b (down (width_in e) b (position_of i)), past)
floor_index kind e b first end i at past index floor same made =
    index_at_told kind e b (past == 0) at past index same (boundary_told e b at past floor.boundary) made ∙ ap (λ p. index_at (all_of e b) (p, past)) floor.is

-- off a boundary the position stays, and no boundary is told
pub unit_index : (kind e : Encoding) (b : List ℕ) (first end i at index : ℕ) → IsFloor (part_of e b first end) i at → kind ≡ e → (at ≡ position_of i → ⊥)
    → index ≡ marked kind (position_of i) 0 false → index ≡ index_at (all_of e b) (position_of i, 0)
unit_index kind e b first end i at index floor same other made =
    index_at_told kind e b false (position_of i) 0 index same (inside_told e b (position_of i) 0 (omega (arith, floor.is, floor.not_after, other))) made

-- what the floor across encodings keeps of the transcoded offset
keeps : (e : Encoding) (b : List ℕ) (high i : ℕ) (first second third : Bool)
    → (start (width_in e) b (down (width_in e) b (position_of i)) == position_of i) ≡ first → nat_lt (position_of i) high ≡ second
    → nat_lt (transcoded_of i) (other_width e (get_or b (down (width_in e) b (position_of i)) 0)) ≡ third
    → kept_offset (width_in e) (other_width e) b high (index_place i) ≡ (if first && (second && third) then transcoded_of i else 0)
keeps e b high i first second third one two three =
    ap (λ x. if x && (nat_lt (position_of i) high && nat_lt (transcoded_of i) (other_width e (get_or b (down (width_in e) b (position_of i)) 0))) then transcoded_of i else 0) one
    ∙ (ap (λ x. if first && (x && nat_lt (transcoded_of i) (other_width e (get_or b (down (width_in e) b (position_of i)) 0))) then transcoded_of i else 0) two
    ∙ ap (λ x. if first && (second && x) then transcoded_of i else 0) three)

pub keeps_none_inside : (e : Encoding) (b : List ℕ) (first end high i at : ℕ) → IsFloor (part_of e b first end) i at → at < position_of i
    → 0 ≡ kept_offset (width_in e) (other_width e) b high (index_place i)
keeps_none_inside e b first end high i at floor inside =
    sym (keeps e b high i false _ _ (other_false (position_of i) (start (width_in e) b (down (width_in e) b (position_of i))) (omega (arith, floor.is, inside))) refl refl)

none_third : (first second : Bool) (n : ℕ) → (if first && (second && false) then n else 0) ≡ 0
none_third true true n = refl
none_third true false n = refl
none_third false second n = refl

none_second : (first third : Bool) (n : ℕ) → (if first && (false && third) then n else 0) ≡ 0
none_second true third n = refl
none_second false third n = refl

pub keeps_none_end : (e : Encoding) (b : List ℕ) (high i : ℕ) → high ≤ position_of i → 0 ≡ kept_offset (width_in e) (other_width e) b high (index_place i)
keeps_none_end e b high i ends =
    let begins : Bool = start (width_in e) b (down (width_in e) b (position_of i)) == position_of i in
    let before : Bool = nat_lt (transcoded_of i) (other_width e (get_or b (down (width_in e) b (position_of i)) 0)) in
    sym (keeps e b high i begins false before refl (le-ltb (position_of i) high ends) refl ∙ none_second begins before (transcoded_of i))

pub keeps_none_past : (e : Encoding) (b : List ℕ) (high i units : ℕ) → units ≡ other_width e (get_or b (down (width_in e) b (position_of i)) 0) → units ≤ transcoded_of i
    → 0 ≡ kept_offset (width_in e) (other_width e) b high (index_place i)
keeps_none_past e b high i units is past =
    sym (keeps e b high i _ _ false refl refl (le-ltb (transcoded_of i) (other_width e (get_or b (down (width_in e) b (position_of i)) 0)) (omega (arith, is, past))) ∙ none_third _ _ (transcoded_of i))

pub keeps_all : (e : Encoding) (b : List ℕ) (first end high i at units : ℕ) → IsFloor (part_of e b first end) i at → position_of i ≤ at → position_of i < high
    → units ≡ other_width e (get_or b (down (width_in e) b (position_of i)) 0) → transcoded_of i < units
    → transcoded_of i ≡ kept_offset (width_in e) (other_width e) b high (index_place i)
keeps_all e b first end high i at units floor begins inside is before =
    sym (keeps e b high i true true true (same_true (position_of i) (start (width_in e) b (down (width_in e) b (position_of i))) (omega (arith, floor.is, floor.not_after, begins)))
    (lt-ltb (position_of i) high inside) (lt-ltb (transcoded_of i) (other_width e (get_or b (down (width_in e) b (position_of i)) 0)) (omega (arith, is, before))))

-- how many units the scalar at a floor takes in the other encoding
pub units_passed : (e : Encoding) (b : List ℕ) (first end i at next units : ℕ) → IsFloor (part_of e b first end) i at → Passes (part_of e b first end) at next units
    → units ≡ other_width e (get_or b (down (width_in e) b (position_of i)) 0)
units_passed e b first end i at next units floor passes =
    let o = other_width e in
    let k = down (width_in e) b at in
    let stepped : start o b k + units ≡ start o b k + o (get_or b k 0) = sym passes.other ∙ (ap (start o b) (passes.number ∙ omega arith) ∙ start-suc o b k passes.inside) in
    let here : units ≡ o (get_or b k 0) = omega (arith, stepped) in
    here ∙ ap (λ n. o (get_or b n 0)) floor.number

-- what has an image is something
pub mapped_some : {A B : Type 0} (f : A → B) (o : Option A) (x : B) → option_map f o ≡ Some x → (a : A) × (o ≡ Some a)
mapped_some f (Some a) x is = (a, refl)
mapped_some f None x is = absurd cc
