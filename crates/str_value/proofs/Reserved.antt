-- A value that was readied for edits in place.
use Rattle.std.proofs.Common.{◌≡◌, refl, sym, ap, subst, ◌∙◌, ℕ, inr, [], length, arith}
use Rattle.text_spec.specs.Text.{utf8}
use Rattle.text_spec.specs.declared.encoding.Encoding.TheVariants.{Utf8}
use Rattle.slot_table.specs.Owners.{PassSeen, RefSeen}
use Rattle.slot_accounts.specs.Account.{Did, Keeps}
use Rattle.slot_accounts.proofs.Doing.{Did-then}
use Rattle.slot_edits.specs.Edits.{IsReadied, readied}
use Rattle.slot_edits.specs.Parts.{Fits}
use Rattle.str_value.specs.Editing.{IsStripped, IsReserved, IsNotReserved, IsUnwritten, new_bytes}
use Rattle.str_value.specs.Making.{HasRoom, IsPublishedUtf8, making}
use Rattle.str_value.specs.Meaning.{Meaning, shared, credit_of}
use Rattle.str_value.specs.declared.storage.Storage.{Storage}
use Rattle.str_value.specs.declared.storage.Storage.TheVariants.{Native}
use Rattle.str_value.specs.Stored.{meaning_of, IsStored}
use Rattle.str_value.proofs.Overwritten.{may-be-written, unwritten-room}
use Rattle.str_value.proofs.Remaking.{GivenUp}

-- nothing taken out of a text and nothing put in
pub nothing-new : (s : Meaning) (count : ℕ) → new_bytes s (record { low = 0; high = 0; count = count }) [] ≡ utf8 s.text
nothing-new s count = refl

-- ---- its reference was found alone
pub stripped-stored : (object : ℕ × ℕ) (r : RefSeen) (n : ℕ) (u : RefSeen) → IsStored object (Native r n) → u ≡ readied r u r.known → IsStored object (Native u 0)
stripped-stored object r n u is same = subst (λ (x : RefSeen). IsStored object (Native x 0)) (sym same) (record {
  describes = is.describes;
  kept = record {
    says = is.kept.says;
    marked = is.kept.marked;
    room = is.kept.room;
    some = is.kept.some;
    utf8 = is.kept.utf8;
    within = is.kept.within;
    clean = refl;
    side = refl;
    alone = λ bare. refl;
  };
  limit = is.limit;
})

module _ (object : ℕ × ℕ) (storage : Storage) (now : Meaning) (r : RefSeen) (n : ℕ) (is : IsStored object storage) (e : meaning_of object storage ≡ now)
    (same : storage ≡ Native r n) where
  pub stripped : (p q : PassSeen) (u : RefSeen) (t : Meaning) → Fits (length (utf8 now.text)) p.heap.layout.capacity_words → IsReadied p r q u → q.credits ≡ p.credits
      → t ≡ meaning_of object (Native u 0) → IsStripped r p now q t
  stripped p q u t fits w credits is_t = record {
    may = may-be-written object storage now r n is e same p (length (utf8 now.text)) fits;
    found = w.found;
    did = w.did;
    credits = credits;
    reference = u;
    alone = w.reference;
    value = is_t ∙ ap (λ x. meaning_of object (Native x 0)) w.reference
        ∙ ap (λ (m : Meaning). record m { place = shared (readied r u r.known) }) (ap (meaning_of object) (sym same) ∙ e)
        ∙ ap (λ (x : RefSeen). record now { place = shared x }) (sym w.reference);
  }

-- ---- or a slot of its own was published
pub settled : (p a m q : PassSeen) (s k t : Meaning) → IsUnwritten p s (length (utf8 s.text)) a k → (r : RefSeen) → t.place ≡ shared r
    → IsPublishedUtf8 a m (utf8 s.text) r t.row → Did (making t.place) a m → Keeps a 0 m (credit_of t.place) → GivenUp k m q → Keeps m (credit_of k.place) q 0
    → IsReserved p s q t
settled p a m q s k t unwritten r place published did credits gone back = inr (record {
  asked = a;
  kept = k;
  unwritten = unwritten;
  between = m;
  reference = r;
  place = place;
  published = published;
  last = gone.0;
  found = gone.1;
  known = gone.2;
  did = Did-then did gone.3;
  credits = omega (arith, credits, back);
})

-- ---- or neither
pub not-reserved : (p q : PassSeen) (s t : Meaning) → IsUnwritten p s (length (utf8 s.text)) q t → Fits (length (utf8 s.text)) p.heap.layout.capacity_words
    → ¬ (HasRoom q Utf8 (length (utf8 s.text))) → IsNotReserved p s q t
not-reserved p q s t unwritten fits none =
    (unwritten, inr (λ shows. none (unwritten-room p s _ q t unwritten _ (record { fits = omega (arith, fits); shows = shows }))))
