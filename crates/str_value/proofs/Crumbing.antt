-- How breadcrumbs come to be known.
use Rattle.std.proofs.Common.{◌≡◌, refl, sym, ap, subst, ◌∙◌, ℕ, ◌+◌, ◌*◌, ◌/◌, ◌^◌, ◌<◌, ◌≤◌, ◌⊎◌, inl, inr, List, [], ◌∷◌, Bool, Option, Some, None, IsSome, IfSome, true, false, length, get_or, slice_index, chars, IsUtf8, if◌then◌else◌, arith, length-drop}
use Rattle.std.specs.Option.{unwrap_or}
use Rattle.std.proofs.lemmas.Bool.{false≢true}
use Rattle.std.proofs.lemmas.List.FromFn.{length-map-range_with_len}
use Rattle.slot_model.specs.declared.event.Event.TheVariants.{Look, Install}
use Rattle.index_words.specs.Crumbs.{crumbs, size16}
use Rattle.text_spec.specs.Packed.{byte_of, bytes_of, denoted_text}
use Rattle.text_spec.specs.declared.encoding.Encoding.TheVariants.{Utf8, Utf16}
use Rattle.text_spec.specs.Text.{utf8}
use Rattle.word_units.proofs.Packed.{utf8-denoted}
use Rattle.object_words.specs.Rows.{form_of, ascii_of, count_of}
use Rattle.object_words.specs.declared.form.Form.TheVariants.{Native as NativeForm}
use Rattle.slot_table.specs.Owners.{PassSeen, DraftSeen, RefSeen, offered_side}
use Rattle.slot_accounts.specs.Account.{Did, Shows, IsDrawn}
use Rattle.slot_accounts.proofs.Doing.{Did-then}
use Rattle.object_words.specs.CountWord.{marks_utf16, unit_count}
use Rattle.crumbs.specs.Fitting.{stored_text, IsCrumbList}
use Rattle.crumbs.proofs.Crumbing.{size16-le, length-crumbs}
use Rattle.str_value.specs.Meaning.{Meaning, Place, own, shared, fixed, side_of, is_there, credit_of, sole_of, OfHeap}
use Rattle.str_value.specs.Learning.{looked, knowing, Looks, Offers, MayLearn, Ready, Found, Installed, Failed, KnownAt, FailedAt}
use Rattle.str_value.specs.declared.storage.Storage.{Storage}
use Rattle.str_value.specs.declared.storage.Storage.TheVariants.{Words, Native, Foreign, Literal, Bytes, Units}
use Rattle.str_value.specs.Stored.{content, counted, text_of, row_of, place_of, meaning_of, HoldsUtf8, IsStored}
use Rattle.str_value.proofs.Kept.{size-kept, size8-limit}

-- ---- the text of a slot's words
stored_words : (ws : List ℕ) → marks_utf16 (slice_index ws 0) ≡ false → 0 < length ws → counted ws ≤ 8 * length (content ws) → IsUtf8 (bytes_of (content ws) (counted ws))
    → stored_text ws ≡ Some (chars (bytes_of (content ws) (counted ws)))
stored_words [] marked some room ok = absurd (omega (arith, some))
stored_words (w ∷ c) marked some room ok =
    ap (λ b. denoted_text (if b then Utf16 else Utf8) c (unit_count w)) marked ∙ utf8-denoted c (bytes_of c (unit_count w)) (unit_count w) room ok refl

pub slot-stored : (r : RefSeen) (n : ℕ) → HoldsUtf8 r n → stored_text r.known ≡ Some (chars (bytes_of (content r.known) (counted r.known)))
slot-stored r n k = stored_words r.known k.marked k.some k.room k.utf8

module _ (object : ℕ × ℕ) (storage : Storage) (r : RefSeen) (n : ℕ) (is : IsStored object storage) (same : storage ≡ Native r n) where
  here : IsStored object (Native r n)
  here = subst (IsStored object) same is

  text : List ℕ
  text = chars (bytes_of (content r.known) (counted r.known))

  -- a side that fits is the list of the text's breadcrumbs
  pub listed : (r' : RefSeen) → r'.known ≡ r.known → IsCrumbList 64 r'.known r'.side_words → (t : List ℕ) × (r'.side_words ≡ crumbs t 64) × (size16 t ≤ 2 ^ 24)
  listed r' known fits =
      let t : fits.text ≡ chars (bytes_of (content r.known) (counted r.known)) =
      ap (λ o. unwrap_or o []) (sym fits.stored ∙ ap stored_text known ∙ slot-stored r n here.kept) in
      let l : length (utf8 (chars (bytes_of (content r.known) (counted r.known)))) ≤ 16777216 = here.limit in (
        chars (bytes_of (content r.known) (counted r.known)),
        fits.list ∙ ap (λ x. crumbs x 64) t,
        omega (arith, size16-le Utf8 (chars (bytes_of (content r.known) (counted r.known))), size8-limit (chars (bytes_of (content r.known) (counted r.known))), l),
      )

  -- and the text's breadcrumbs fit
  pub fit : (now : Meaning) (side : List ℕ) → meaning_of object storage ≡ now → side ≡ crumbs (now.text) 64 → IsCrumbList 64 r.known side
  fit now side e list = record {
    text = chars (bytes_of (content r.known) (counted r.known));
    utf8 = here.kept.marked;
    stored = slot-stored r n here.kept;
    list = list ∙ ap (λ t. crumbs t 64) (ap (λ m. m.text) (sym e) ∙ ap (text_of object) same);
  }

-- what holds of a member that is there
pub some_of : {P : Type 0} (o : Option ℕ) (d : ℕ) → IsSome o → IfSome o (λ x. P) → P
some_of None d some h = cc
some_of (Some x) d some h = h

-- how many words the breadcrumbs have
pub count-known : (r : RefSeen) (o : Option ℕ) (d word : ℕ) → o ≡ Some d → o ≡ r.side → (IsSome r.side → (t : List ℕ) × (r.side_words ≡ crumbs t 64) × (size16 t ≤ 2 ^ 24))
    → word ≡ get_or r.side_words 0 0 → word / 64 + 2 ≡ (if is_there r.side then length r.side_words else 0)
count-known r o d word some is told read =
    let side : r.side ≡ Some d = sym is ∙ some in
    let list = told (subst IsSome (sym side) refl) in
    let head : word ≡ size16 list.0 = read ∙ ap (λ ws. get_or ws 0 0) list.1 in
    ap (λ w. w / 64 + 2) head ∙ sym (length-crumbs list.0 64) ∙ ap length (sym list.1) ∙ ap (λ x. if is_there x then length r.side_words else 0) (sym side)

-- ---- a value that may learn
none_there : (o : Option ℕ) → is_there o ≡ false → o ≡ None
none_there None h = refl
none_there (Some d) h = cc

ready_of : (object : ℕ × ℕ) (storage : Storage) (p : PassSeen) → IsStored object storage → form_of (row_of object storage) ≡ NativeForm → ascii_of (row_of object storage) ≡ false
    → 64 ≤ count_of (row_of object storage) → is_there (side_of (place_of storage)) ≡ false → OfHeap p (place_of storage) → Ready (meaning_of object storage) p
ready_of object Words p is form ascii long unknown heap = cc
ready_of object (Native r n) p is form ascii long unknown heap = record {
  reference = r;
  place = refl;
  heap = heap;
  may = record { utf8 = refl; not_ascii = ascii; long = long; in_slot = refl };
  unknown = none_there r.side unknown;
  room =
      let k = is.kept.room in
      let w = is.kept.within in
      let some = is.kept.some in
      let u = size16-le Utf8 (text_of object (Native r n)) in
      let c = size-kept object (Native r n) is in
      let cap : r.heap.layout.capacity_words ≡ p.heap.layout.capacity_words = ap (λ z. z.layout.capacity_words) heap in
      omega (arith, k, w, some, u, c, cap, long, length-map-range_with_len (byte_of (content r.known)) 0 (counted r.known), length-drop 1 r.known);
}
ready_of object (Foreign r) p is form ascii long unknown heap = cc
ready_of object (Literal l) p is form ascii long unknown heap = cc
ready_of object (Bytes v) p is form ascii long unknown heap = cc
ready_of object (Units v) p is form ascii long unknown heap = cc

pub ready : (object : ℕ × ℕ) (storage : Storage) (s : Meaning) (p : PassSeen) → IsStored object storage → meaning_of object storage ≡ s → form_of (s.row) ≡ NativeForm → ascii_of (s.row) ≡ false
    → 64 ≤ count_of (s.row) → is_there (side_of (s.place)) ≡ false → OfHeap p (s.place) → Ready s p
ready object storage s p is e =
    subst (λ m. form_of (m.row) ≡ NativeForm → ascii_of (m.row) ≡ false → 64 ≤ count_of (m.row) → is_there (side_of (m.place)) ≡ false → OfHeap p (m.place) → Ready m p) e
    (ready_of object storage p is)

-- ---- after the Look
module _ (s : Meaning) (p : PassSeen) (rd : Ready s p) (q : PassSeen) (t : Meaning) (found : Bool) (look : Looks rd.reference p s q t found) where
  pub looks-text : (t.text ≡ s.text) × (t.row ≡ s.row) × (t.words ≡ s.words)
  looks-text = (ap (λ m. m.text) look.value, ap (λ m. m.row) look.value, ap (λ m. m.words) look.value)

  pub looks-sole : sole_of (t.place) ≡ sole_of (s.place)
  looks-sole = ap (λ m. sole_of (m.place)) look.value ∙ (kept look.side ∙ ap sole_of (sym rd.place))
    where
      kept : (o : Option ℕ) → (looked rd.reference q.front o s.text).sole ≡ rd.reference.sole
      kept None = refl
      kept (Some d) = refl

  pub looks-heap : OfHeap q (t.place)
  looks-heap =
      subst (OfHeap q) (sym (ap (λ m. m.place) look.value)) (kept look.side ∙ (rd.heap ∙ sym (ap (λ (x : PassSeen). x.heap) look.rest)))
    where
      kept : (o : Option ℕ) → (looked rd.reference q.front o s.text).heap ≡ rd.reference.heap
      kept None = refl
      kept (Some d) = refl

  pub looks-credit : credit_of (t.place) ≡ 1
  looks-credit = ap (λ m. credit_of (m.place)) look.value

-- it found the side
module _ (s : Meaning) (p : PassSeen) (rd : Ready s p) (q : PassSeen) (t : Meaning) (look : Looks rd.reference p s q t true) where
  found-there : (o : Option ℕ) → look.side ≡ o → Found rd.reference p s q t
  found-there None is = absurd (false≢true (sym (look.found_is ∙ ap is_there is)))
  found-there (Some d) is = record {
    unknown = rd.unknown;
    side = d;
    did = subst (λ o. Did (Look rd.reference.slot o ∷ []) p q) is look.did;
    rest = look.rest;
    not_bare = λ bare. let both : Some d ≡ None = sym is ∙ look.bare bare in cc;
    value = look.value ∙ ap (λ o. record s { place = shared (looked rd.reference q.front o s.text) }) is;
  }

  pub learned-found : MayLearn s × KnownAt (s.place) p s q t
  learned-found = (rd.may, subst (λ o. KnownAt o p s q t) (sym rd.place) (inr (inl (found-there look.side refl))))

  pub known-found : is_there (side_of (t.place)) ≡ true
  known-found = let f = found-there look.side refl in ap (λ m. is_there (side_of (m.place))) f.value

-- it found none
module _ (s : Meaning) (p : PassSeen) (rd : Ready s p) (q : PassSeen) (t : Meaning) (look : Looks rd.reference p s q t false) where
  none-there : look.side ≡ None
  none-there = none_there look.side (sym look.found_is)

  looked_none : Did (Look rd.reference.slot None ∷ []) p q
  looked_none = subst (λ o. Did (Look rd.reference.slot o ∷ []) p q) none-there look.did

  pub value-none : t ≡ record s { place = shared (looked rd.reference q.front None s.text) }
  value-none = look.value ∙ ap (λ o. record s { place = shared (looked rd.reference q.front o s.text) }) none-there

  shows-back : Shows q → Shows p
  shows-back sh = record {
    a_slot = subst (λ fs. 0 < length fs) (ap (λ (x : PassSeen). x.free) look.rest) sh.a_slot;
    a_credit = subst (λ n. 1 < n) (ap (λ (x : PassSeen). x.credits) look.rest) sh.a_credit;
  }

  shows-on : Shows p → Shows q
  shows-on sh = record {
    a_slot = subst (λ fs. 0 < length fs) (sym (ap (λ (x : PassSeen). x.free) look.rest)) sh.a_slot;
    a_credit = subst (λ n. 1 < n) (sym (ap (λ (x : PassSeen). x.credits) look.rest)) sh.a_credit;
  }

  -- and the pass had no slot for a list
  pub learned-failed : (q' : PassSeen) → (Shows q → ⊥) → q' ≡ q → MayLearn s × FailedAt (s.place) p s q' t
  learned-failed q' not_shown same = (
    rd.may,
    subst (λ x. FailedAt x p s q' t) (sym rd.place) (subst (λ x. Failed rd.reference p s x t) (sym same) record {
      unknown = rd.unknown;
      not_shown = λ sh. not_shown (shows-on sh);
      did = looked_none;
      rest = look.rest;
      value = value-none;
    }),
  )

  -- a list was offered
  module _ (q' : PassSeen) (d : DraftSeen) (shown : Shows q) (drawn : IsDrawn q q' d) (list : d.written ≡ crumbs s.text 64) (q'' : PassSeen) (t' t'' : Meaning) (same : t' ≡ t)
      (offer : Offers (looked rd.reference q.front None s.text) d q' t' q'' t'') where
    text_is : t'.text ≡ s.text
    text_is = ap (λ m. m.text) (same ∙ value-none)

    pub value-installed : t'' ≡ record s { place = shared (knowing rd.reference q''.front (offered_side d.slot offer.found) s.text) }
    value-installed =
        offer.value ∙ ap (λ (m : Meaning). record m { place = shared (knowing rd.reference q''.front (offered_side d.slot offer.found) t'.text) }) (same ∙ value-none)
        ∙ ap (λ (x : List ℕ). record s { place = shared (knowing rd.reference q''.front (offered_side d.slot offer.found) x) }) text_is

    installed_did : Did (Install rd.reference.slot d.slot (crumbs s.text 64) offer.found ∷ []) q q''
    installed_did = subst (λ ws. Did (Install rd.reference.slot d.slot ws offer.found ∷ []) q q'') list (offer.did q drawn)

    pub learned-installed : MayLearn s × KnownAt (s.place) p s q'' t''
    learned-installed = (
      rd.may,
      subst (λ x. KnownAt x p s q'' t'') (sym rd.place) (inr (inr record {
        unknown = rd.unknown;
        shows = shows-back shown;
        d = d.slot;
        found = offer.found;
        did = Did-then looked_none installed_did;
        credits = offer.credits q drawn ∙ ap (λ (x : PassSeen). x.credits) look.rest;
        bare = offer.bare;
        value = value-installed;
      })),
    )

    pub known-installed : is_there (side_of (t''.place)) ≡ true
    known-installed = ap (λ m. is_there (side_of (m.place))) value-installed

    pub sole-installed : sole_of (t''.place) ≡ sole_of (s.place)
    sole-installed = ap (λ m. sole_of (m.place)) value-installed ∙ ap sole_of (sym rd.place)

    pub text-installed : (t''.text ≡ s.text) × (t''.row ≡ s.row) × (t''.words ≡ s.words)
    text-installed = (ap (λ m. m.text) value-installed, ap (λ m. m.row) value-installed, ap (λ m. m.words) value-installed)

    pub heap-installed : OfHeap q'' (t''.place)
    heap-installed =
        let did = installed_did in
        subst (OfHeap q'') (sym (ap (λ m. m.place) value-installed)) (rd.heap ∙ sym (did.one_heap ∙ ap (λ (x : PassSeen). x.heap) look.rest))

-- the value belongs to the heap
pub ready-heap : (s : Meaning) (p : PassSeen) → Ready s p → OfHeap p (s.place)
ready-heap s p rd = subst (OfHeap p) (sym rd.place) rd.heap

-- and to the heap of each pass of it
pub of_heap-moves : (p q : PassSeen) (o : Place) → q.heap ≡ p.heap → OfHeap p o → OfHeap q o
of_heap-moves p q own same of = tt
of_heap-moves p q (shared r) same of = of ∙ sym same
of_heap-moves p q (fixed l) same of = of ∙ sym same

pub looks-none : (r : RefSeen) (p : PassSeen) (s : Meaning) (q : PassSeen) (t : Meaning) (found : Bool) → Looks r p s q t found → found ≡ false → Looks r p s q t false
looks-none r p s q t found look is = subst (λ b. Looks r p s q t b) is look

-- ---- breadcrumbs that are known already
known_before : (object : ℕ × ℕ) (storage : Storage) (p : PassSeen) → IsStored object storage → form_of (row_of object storage) ≡ NativeForm → ascii_of (row_of object storage) ≡ false
    → 64 ≤ count_of (row_of object storage) → is_there (side_of (place_of storage)) ≡ true → MayLearn (meaning_of object storage) × KnownAt (place_of storage) p (meaning_of object storage) p (meaning_of object storage)
known_before object Words p is form ascii long known = cc
known_before object (Native r n) p is form ascii long known = (
  record { utf8 = refl; not_ascii = ascii; long = long; in_slot = refl },
  inl (known, λ bare. false≢true (ap is_there (sym (is.kept.alone bare)) ∙ known), record { pass_is = refl; value_is = refl }),
)
known_before object (Foreign r) p is form ascii long known = cc
known_before object (Literal l) p is form ascii long known = cc
known_before object (Bytes v) p is form ascii long known = cc
known_before object (Units v) p is form ascii long known = cc

pub known-before : (object : ℕ × ℕ) (storage : Storage) (s : Meaning) (p : PassSeen) → IsStored object storage → meaning_of object storage ≡ s → form_of (s.row) ≡ NativeForm → ascii_of (s.row) ≡ false
    → 64 ≤ count_of (s.row) → is_there (side_of (s.place)) ≡ true → MayLearn s × KnownAt (s.place) p s p s
known-before object storage s p is e =
    subst (λ m. form_of (m.row) ≡ NativeForm → ascii_of (m.row) ≡ false → 64 ≤ count_of (m.row) → is_there (side_of (m.place)) ≡ true → MayLearn m × KnownAt (m.place) p m p m) e
    (known_before object storage p is)

-- ---- the law of bare values
pub bare-installs : (r : RefSeen) (p q : PassSeen) (s t : Meaning) → s.place ≡ shared r → r.bare ≡ true → MayLearn s × KnownAt (s.place) p s q t
    → (d : ℕ) × Did (Look r.slot None ∷ Install r.slot d (crumbs s.text 64) None ∷ []) p q
bare-installs r p q s t place bare learned = by (subst (λ o. KnownAt o p s q t) place learned.1)
  where
    installed : Installed r p s q t → (d : ℕ) × Did (Look r.slot None ∷ Install r.slot d (crumbs s.text 64) None ∷ []) p q
    installed i = (i.d, subst (λ f. Did (Look r.slot None ∷ Install r.slot i.d (crumbs s.text 64) f ∷ []) p q) (i.bare bare) i.did)

    later : Found r p s q t ⊎ Installed r p s q t → (d : ℕ) × Did (Look r.slot None ∷ Install r.slot d (crumbs s.text 64) None ∷ []) p q
    later (inl f) = absurd (f.not_bare bare)
    later (inr i) = installed i

    by : KnownAt (shared r) p s q t → (d : ℕ) × Did (Look r.slot None ∷ Install r.slot d (crumbs s.text 64) None ∷ []) p q
    by (inl k) = absurd (k.1 bare)
    by (inr h) = later h
