-- The words of a text that are read where places alone are asked for.
use Rattle.std.proofs.Common.{◌≡◌, refl, ap, ℕ, ◌+◌, ◌*◌, ◌<◌, ◌≤◌, Bool, true, false, ◌⊎◌, inl, inr, ⊎_elim, length, arith}
use Rattle.text_spec.specs.declared.encoding.Encoding.TheVariants.{Utf8}
use Rattle.object_words.specs.Rows.{ascii_of}
use Rattle.word_units.specs.Parts.{scalars_in}
use Rattle.slot_table.specs.Owners.{PassSeen}
use Rattle.slot_accounts.specs.Account.{Shows}
use Rattle.str_value.specs.Meaning.{Meaning, own_part, storage_of, side_of, is_there}
use Rattle.str_value.specs.declared.limits.TheConstants.{CRUMB_STRIDE}
use Rattle.str_value.specs.Learning.{MayLearn}
use Rattle.batch_workers.specs.Working.{IsQuick, IsSoonQuick}

-- the index of an offset in UTF-16 is found with few words read
module _ (s : Meaning) (old new : ℕ) (crumbs : is_there (side_of s.place) ≡ true → 1 ≤ CRUMB_STRIDE → new ≤ old + CRUMB_STRIDE + 2)
    (pass : storage_of s.row ≡ Utf8 → is_there (side_of s.place) ≡ false → new ≤ old + 2 * scalars_in (own_part s)) (unread : ascii_of s.row ≡ true → new ≡ old) where
  short-few : (known : Bool) → is_there (side_of s.place) ≡ known → storage_of s.row ≡ Utf8 → length s.text < 64 → new ≤ old + 126
  short-few true is utf8 few = let read = crumbs is (omega arith) in omega (arith, read)
  short-few false is utf8 few = let read = pass utf8 is in omega (arith, read, few)

  pub quick-index : IsQuick s → new ≤ old + 126
  quick-index quick =
      ⊎_elim (λ there. let read = crumbs there (omega arith) in omega (arith, read))
      (λ rest. ⊎_elim (λ ascii. omega (arith, unread ascii)) (λ short. short-few (is_there (side_of s.place)) refl quick.utf8 short.text) rest) quick.cause

-- After i places no more than this was read: the breadcrumbs are learned, or none was asked for and they can be
abbrev pub IsSpent : Meaning → ℕ → ℕ → PassSeen → Meaning → ℕ → Type 0
IsSpent s start i q t now =
    (IsQuick t × (now ≤ start + 2 * length s.text + 130 * i)) ⊎ (MayLearn t × Shows q × (t.text ≡ s.text) × (now ≤ start + 130 * i))

pub read-none : (p : PassSeen) (s : Meaning) (start : ℕ) → IsSoonQuick p s → IsSpent s start 0 p s start
read-none p s start soon = ⊎_elim (λ quick. inl (quick, omega arith)) (λ able. inr (able.0, able.1, refl, omega arith)) soon

pub read-more : (s : Meaning) (start i : ℕ) (m : PassSeen) (u : Meaning) (now : ℕ) (q : PassSeen) (t : Meaning) (next : ℕ) → IsSpent s start i m u now
    → (IsQuick u → IsQuick t × (next ≤ now + 130)) → (MayLearn u → Shows m → IsQuick t × (next ≤ now + 2 * length u.text + 130)) → IsSpent s start (i + 1) q t next
read-more s start i m u now q t next before quick soon =
    ⊎_elim (λ done. let here = quick done.0 in inl (here.0, omega (arith, here.1, done.1)))
    (λ able. let here = soon able.0 able.1 in inl (here.0, omega (arith, here.1, able.3, ap length able.2))) before

pub read-most : (s : Meaning) (start i n : ℕ) (q : PassSeen) (t : Meaning) (now : ℕ) → IsSpent s start i q t now → i ≤ n → now ≤ start + 2 * length s.text + 130 * n
read-most s start i n q t now is few = ⊎_elim (λ done. omega (arith, done.1, few)) (λ able. omega (arith, able.3, few)) is
