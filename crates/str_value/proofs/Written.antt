-- Bytes that are packed into words one after another, and those that wait to fill one.
use Rattle.std.proofs.Common.{◌≡◌, refl, sym, ap, subst, ◌∙◌, ℕ, zero, suc, ◌+◌, ◌-◌, ◌*◌, ◌/◌, ◌%◌, ◌^◌, ◌<◌, ◌≤◌, ◌⊎◌, inl, inr, ⊎_elim, List, [], ◌∷◌, ◌++◌, length, take, drop, slice_index, length-append, w64, true, false, arith}
use Rattle.std.specs.Int.{from_le_bytes}
use Rattle.std.proofs.Math.Nat.{mul-le-mul_right}
use Rattle.std.proofs.Math.Pow.{pow_mono}
use Rattle.std.proofs.Math.Seq.{take-add}
use Rattle.std.proofs.lemmas.Bool.{cases_lt}
use Rattle.std.proofs.lemmas.Nat.{shr-shr, shr_high, shr_split, pow-add, shr_below, shl_whole}
use Rattle.std.proofs.lemmas.List.{get_or_past, get_or_push, get_or-drop, get_or-take, get_or_append_left, get_or-append_right, take-append-drop, length_push, length-take-le, length-drop, take_all, drop-drop}
use Rattle.std.proofs.lemmas.List.FromFn.{get_or-map-range_with_len, length-map-range_with_len, fill_by_all}
use Rattle.text_spec.specs.Packed.{byte_of, bytes_of, content_words}
use Rattle.text_spec.specs.declared.encoding.Encoding.TheVariants.{Utf8}
use Rattle.word_units.specs.Packing.{byte_word, byte_words}
use Rattle.word_units.proofs.Packed.{bytes-packed}
use Rattle.object_words.specs.Rows.{is_ascii}
use Rattle.object_words.proofs.Reading.{ascii-told}
use Rattle.slot_edits.proofs.Bytes.{byte_low}
use Rattle.slot_edits.proofs.Packed.{holds-word}
use Rattle.slot_table.specs.Owners.{DraftSeen}
use Rattle.str_value.specs.Drafting.{Writing, writing, written_bytes, IsWriting}

pub length-held : (ws : List ℕ) (n : ℕ) → length (bytes_of ws n) ≡ n
length-held ws n = length-map-range_with_len (byte_of ws) 0 n

held-at : (ws : List ℕ) (n p : ℕ) → p < n → slice_index (bytes_of ws n) p ≡ byte_of ws p
held-at ws n p h = get_or-map-range_with_len (byte_of ws) 0 n p p 0 h (omega arith)

-- byte i of word k
byte-here : (ws : List ℕ) (k i p w : ℕ) → i < 8 → p ≡ 8 * k + i → slice_index ws k ≡ w → byte_of ws p ≡ w / 2 ^ (8 * i) % 256
byte-here ws k i p w few at is =
    let place : p / 8 ≡ k = omega arith in
    let offset : p % 8 ≡ i = omega arith in
    ap (λ j. slice_index ws j / 2 ^ (8 * (p % 8)) % 256) place ∙ ap (λ j. slice_index ws k / 2 ^ (8 * j) % 256) offset
    ∙ ap (λ v. v / 2 ^ (8 * i) % 256) is

-- words agree in the bytes of those that are the same
byte-same : (ws vs : List ℕ) (p : ℕ) → slice_index ws (p / 8) ≡ slice_index vs (p / 8) → byte_of ws p ≡ byte_of vs p
byte-same ws vs p is = ap (λ v. v / 2 ^ (8 * (p % 8)) % 256) is

-- ---- one word behind so many bytes of another
abbrev joint : ℕ → ℕ → ℕ → ℕ
joint word more w = word + more * 2 ^ (8 * w)

module _ (word more w : ℕ) (small : word < 2 ^ (8 * w)) where
  above : joint word more w / 2 ^ (8 * w) ≡ more
  above =
      let turned : joint word more w ≡ more * 2 ^ (8 * w) + word = omega arith in
      ap (λ v. v / 2 ^ (8 * w)) turned ∙ shr_high more (8 * w) word small

  below : joint word more w % 2 ^ (8 * w) ≡ word
  below = omega (arith, shr_split (joint word more w) (8 * w), ap (λ v. v * 2 ^ (8 * w)) above)

  joint-low : (i : ℕ) → i < w → joint word more w / 2 ^ (8 * i) % 256 ≡ word / 2 ^ (8 * i) % 256
  joint-low i l = sym (byte_low (joint word more w) (8 * w) (8 * i) (omega arith)) ∙ ap (λ v. v / 2 ^ (8 * i) % 256) below

  joint-high : (i j : ℕ) → i ≡ w + j → joint word more w / 2 ^ (8 * i) % 256 ≡ more / 2 ^ (8 * j) % 256
  joint-high i j is =
      let sum : 8 * i ≡ 8 * w + 8 * j = omega arith in
      ap (λ e. joint word more w / 2 ^ e % 256) sum ∙ ap (λ v. v % 256) (sym (shr-shr (joint word more w) (8 * w) (8 * j)))
      ∙ ap (λ v. v / 2 ^ (8 * j) % 256) above

  joint-fits : (n : ℕ) → more < 2 ^ (8 * n) → joint word more w < 2 ^ (8 * n + 8 * w)
  joint-fits n less =
      let more_le : more + 1 ≤ 2 ^ (8 * n) = omega arith in
      omega (arith, pow-add 2 (8 * n) (8 * w), mul-le-mul_right (2 ^ (8 * w)) more_le, small)

-- the code's number
pub shifted : (word more w : ℕ) → more < 2 ^ 64 → w < 8 → word + more * 2 ^ (8 * w) % 2 ^ 128 ≡ joint word more w
shifted word more w fits few = ap (λ v. word + v) (shl_whole more 64 (8 * w) 128 fits (omega arith))

-- ---- the bytes once n more are pushed, by what the words are then
module _ (ws later : List ℕ) (word more w n : ℕ) (small : word < 2 ^ (8 * w)) (few : w < 8) (most : n ≤ 8)
    (before : (j : ℕ) → j < length ws → slice_index later j ≡ slice_index ws j)
    (here : slice_index later (length ws) ≡ joint word more w % 2 ^ 64)
    (next : 8 ≤ w + n → slice_index later (length ws + 1) ≡ joint word more w / 2 ^ 64) where
  old : List ℕ
  old = bytes_of (ws ++ word ∷ []) (8 * length ws + w)

  first : (p i : ℕ) → i < 8 → p ≡ 8 * length ws + i → byte_of later p ≡ joint word more w / 2 ^ (8 * i) % 256
  first p i l at = byte-here later (length ws) i p _ l at here ∙ byte_low (joint word more w) 64 (8 * i) (omega arith)

  second : (p i : ℕ) → 8 ≤ w + n → i < 8 → p ≡ 8 * (length ws + 1) + i → byte_of later p ≡ joint word more w / 2 ^ (8 * (8 + i)) % 256
  second p i more_than l at =
      let sum : 64 + 8 * i ≡ 8 * (8 + i) = omega arith in
      byte-here later (length ws + 1) i p _ l at (next more_than) ∙ ap (λ v. v % 256) (shr-shr (joint word more w) 64 (8 * i))
      ∙ ap (λ e. joint word more w / 2 ^ e % 256) sum

  kept-byte : (p : ℕ) → p < 8 * length ws + w → byte_of (ws ++ word ∷ []) p ≡ byte_of later p
  kept-byte p l =
      ⊎_elim
      (λ a. let at : p / 8 < length ws = omega arith in byte-same (ws ++ word ∷ []) later p (get_or_append_left ws (word ∷ []) 0 (p / 8) at ∙ sym (before (p / 8) at)))
      (λ b.
      let at : p ≡ 8 * length ws + (p - 8 * length ws) = omega arith in
      byte-here (ws ++ word ∷ []) (length ws) (p - 8 * length ws) p word (omega arith) at (get_or_push ws word 0 (length ws) refl)
      ∙ sym (joint-low word more w small (p - 8 * length ws) (omega arith)) ∙ sym (first p (p - 8 * length ws) (omega arith) at))
      (cases_lt p (8 * length ws))

  new-byte : (p j : ℕ) → j < n → p ≡ 8 * length ws + w + j → byte_of (more ∷ []) j ≡ byte_of later p
  new-byte p j l at =
      byte-here (more ∷ []) 0 j j more (omega arith) (omega arith) refl
      ∙ ⊎_elim
      (λ a. sym (first p (w + j) a (omega arith) ∙ joint-high word more w small (w + j) j refl))
      (λ b. sym (second p (w + j - 8) (omega arith) (omega arith) (omega arith) ∙ joint-high word more w small (8 + (w + j - 8)) j (omega arith)))
      (cases_lt (w + j) 8)

  pub pushed : bytes_of later (8 * length ws + (w + n)) ≡ bytes_of (ws ++ word ∷ []) (8 * length ws + w) ++ bytes_of (more ∷ []) n
  pushed =
      let xs = bytes_of (ws ++ word ∷ []) (8 * length ws + w) in
      let ys = bytes_of (more ∷ []) n in
      let long : length xs ≡ 8 * length ws + w = length-held (ws ++ word ∷ []) (8 * length ws + w) in
      let size : length (xs ++ ys) ≡ 8 * length ws + (w + n) = omega (arith, length-append xs ys, long, length-held (more ∷ []) n) in
      sym (fill_by_all (byte_of later) (xs ++ ys) (8 * length ws + (w + n)) 0 size
      (λ p h.
      ⊎_elim
      (λ l. get_or_append_left xs ys 0 p (omega (arith, long, l)) ∙ held-at (ws ++ word ∷ []) (8 * length ws + w) p l ∙ kept-byte p l)
      (λ l.
      let j = p - (8 * length ws + w) in
      let less : j < n = omega arith in
      get_or-append_right xs ys (8 * length ws + w) p 0 long l ∙ held-at (more ∷ []) n j less ∙ new-byte p j less (omega arith))
      (cases_lt p (8 * length ws + w))))

-- ---- lists of words, of which the first is the count word
pub behind-first : (xs : List ℕ) (y : ℕ) → 0 < length xs → drop 1 (xs ++ y ∷ []) ≡ drop 1 xs ++ y ∷ []
behind-first [] y h = absurd (omega arith)
behind-first (x ∷ xs) y h = refl

pub first-kept : (xs : List ℕ) (y : ℕ) → 0 < length xs → take 1 (xs ++ y ∷ []) ≡ take 1 xs
first-kept [] y h = absurd (omega arith)
first-kept (x ∷ xs) y h = refl

fits-pushed : (ws : List ℕ) (w : ℕ) → ((k : ℕ) → slice_index ws k < 2 ^ 64) → w < 2 ^ 64 → (k : ℕ) → slice_index (ws ++ w ∷ []) k < 2 ^ 64
fits-pushed ws w fits small k =
    ⊎_elim (λ l. subst (λ v. v < 2 ^ 64) (sym (get_or_append_left ws (w ∷ []) 0 k l)) (fits k))
    (λ l.
    ⊎_elim (λ m. let is : length ws ≡ k = omega arith in subst (λ v. v < 2 ^ 64) (sym (get_or_push ws w 0 k is)) small)
    (λ m. omega (arith, get_or_past (ws ++ w ∷ []) k 0 (omega (arith, length_push ws w, m))))
    (cases_lt k (length ws + 1)))
    (cases_lt k (length ws))

-- ---- the writer, once a word of n bytes is pushed
module _ (written : List ℕ) (word w more n both : ℕ) (inv : IsWriting written word w) (most : n ≤ 8) (less : more < 2 ^ (8 * n)) (is : both ≡ joint word more w) where
  total : both < 2 ^ (8 * n + 8 * w)
  total = omega (arith, is, joint-fits word more w inv.small n less)

  -- where they wait with the others
  pub stays : w + n < 8 → IsWriting written (both % 2 ^ 64) (w + n)
  stays l =
      let sum : 8 * n + 8 * w ≡ 8 * (w + n) = omega arith in
      let fits : both < 2 ^ (8 * (w + n)) = subst (λ e. both < 2 ^ e) sum total in
      record { some = inv.some; few = l; small = omega (arith, fits); fits = inv.fits }

  pub stays-bytes : w + n < 8 → written_bytes written (both % 2 ^ 64) (w + n) ≡ written_bytes written word w ++ bytes_of (more ∷ []) n
  stays-bytes l =
      let ws = drop 1 written in
      let v = both % 2 ^ 64 in
      pushed ws (ws ++ v ∷ []) word more w n inv.small inv.few most (λ j k. get_or_append_left ws (v ∷ []) 0 j k)
      (get_or_push ws v 0 (length ws) refl ∙ ap (λ b. b % 2 ^ 64) is) (λ m. absurd (omega arith))

  -- where a word is full
  pub fills : 8 ≤ w + n → IsWriting (written ++ both % 2 ^ 64 ∷ []) (both / 2 ^ 64) (w + n - 8)
  fills l =
      let sum : 8 * n + 8 * w ≡ 8 * (w + n - 8) + 64 = omega arith in
      record {
        some = omega (arith, length_push written (both % 2 ^ 64));
        few = omega (arith, inv.few);
        small = shr_below both (8 * (w + n - 8)) 64 (subst (λ e. both < 2 ^ e) sum total);
        fits = λ k. subst (λ (ws : List ℕ). slice_index ws k < 2 ^ 64) (sym (behind-first written (both % 2 ^ 64) inv.some))
            (fits-pushed (drop 1 written) (both % 2 ^ 64) inv.fits (omega arith) k);
      }

  pub fills-bytes : 8 ≤ w + n
      → written_bytes (written ++ both % 2 ^ 64 ∷ []) (both / 2 ^ 64) (w + n - 8) ≡ written_bytes written word w ++ bytes_of (more ∷ []) n
  fills-bytes l =
      let ws = drop 1 written in
      let u = both % 2 ^ 64 in
      let v = both / 2 ^ 64 in
      let vs = ws ++ u ∷ [] in
      let later = vs ++ v ∷ [] in
      let more_words : length vs ≡ length ws + 1 = length_push ws u in
      let size : 8 * length vs + (w + n - 8) ≡ 8 * length ws + (w + n) = omega (arith, more_words) in
      ap (λ (l : List ℕ). bytes_of (l ++ v ∷ []) (8 * length l + (w + n - 8))) (behind-first written u inv.some) ∙ ap (bytes_of later) size
      ∙ pushed ws later word more w n inv.small inv.few most
      (λ j k. get_or_append_left vs (v ∷ []) 0 j (omega (arith, more_words, k)) ∙ get_or_append_left ws (u ∷ []) 0 j k)
      (get_or_append_left vs (v ∷ []) 0 (length ws) (omega (arith, more_words)) ∙ get_or_push ws u 0 (length ws) refl ∙ ap (λ b. b % 2 ^ 64) is)
      (λ m. get_or_push vs v 0 (length ws + 1) more_words ∙ ap (λ b. b / 2 ^ 64) is)

-- what contracts see of it then
pub writing-kept : (v : Writing) (d : DraftSeen) (word w word' w' : ℕ) (more : List ℕ) → writing d word w ≡ v
    → written_bytes (d.written) word' w' ≡ written_bytes (d.written) word w ++ more → writing d word' w' ≡ record v { bytes = v.bytes ++ more }
writing-kept v d word w word' w' more view is =
    ap (λ (l : List ℕ). record (writing d word w) { bytes = l }) is ∙ ap (λ (x : Writing). record x { bytes = x.bytes ++ more }) view

pub writing-more : (v : Writing) (d e : DraftSeen) (word w word' w' u : ℕ) (more : List ℕ) → writing d word w ≡ v → e ≡ record d { written = d.written ++ u ∷ [] }
    → 0 < length (d.written) → written_bytes (d.written ++ u ∷ []) word' w' ≡ written_bytes (d.written) word w ++ more
    → writing e word' w' ≡ record v { bytes = v.bytes ++ more }
writing-more v d e word w word' w' u more view grown some is =
    ap (λ (x : DraftSeen). writing x word' w') grown
    ∙ ap (λ (l : List ℕ). record (writing (record d { written = d.written ++ u ∷ [] }) word' w') { bytes = l }) is
    ∙ ap (λ (l : List ℕ). record (writing d word w) { start = record d { written = l }; bytes = written_bytes (d.written) word w ++ more }) (first-kept (d.written) u some)
    ∙ ap (λ (x : Writing). record x { bytes = x.bytes ++ more }) view

-- a word more has room where its bytes have
pub room-left : (v : Writing) (d : DraftSeen) (word w n : ℕ) → writing d word w ≡ v → 0 < length (d.written) → w < 8 → (length (v.bytes) + n + 7) / 8 + 1 ≤ v.start.heap.layout.capacity_words
    → 8 ≤ w + n → length (d.written) < d.heap.layout.capacity_words
room-left v d word w n view some few room more =
    omega (
      arith,
      room,
      ap (λ (x : Writing). length (x.bytes)) view,
      length-held (drop 1 (d.written) ++ word ∷ []) (8 * length (drop 1 (d.written)) + w),
      length-drop 1 (d.written),
      ap (λ (x : Writing). x.start.heap.layout.capacity_words) view,
    )

pub room-last : (v : Writing) (d : DraftSeen) (word w : ℕ) → writing d word w ≡ v → 0 < length (d.written) → (length (v.bytes) + 7) / 8 + 1 ≤ v.start.heap.layout.capacity_words
    → 0 < w → length (d.written) < d.heap.layout.capacity_words
room-last v d word w view some room more =
    omega (
      arith,
      room,
      ap (λ (x : Writing). length (x.bytes)) view,
      length-held (drop 1 (d.written) ++ word ∷ []) (8 * length (drop 1 (d.written)) + w),
      length-drop 1 (d.written),
      ap (λ (x : Writing). x.start.heap.layout.capacity_words) view,
    )

-- ---- words that end with zeros are the words of their bytes
words-are : (vs : List ℕ) (n : ℕ) → n ≤ 8 * length vs → 8 * length vs < n + 8 → ((k : ℕ) → slice_index vs k < 2 ^ 64)
    → ((p : ℕ) → n ≤ p → p < 8 * length vs → byte_of vs p ≡ 0) → vs ≡ byte_words (bytes_of vs n)
words-are vs n inside all fits zeros =
    let bytes = bytes_of vs n in
    let long : length bytes ≡ n = length-held vs n in
    let words : length vs ≡ content_words Utf8 (length bytes) = omega (arith, long) in
    fill_by_all (byte_word bytes) vs (content_words Utf8 (length bytes)) 0 words
    (λ k h.
    holds-word bytes k (slice_index vs k) (fits k)
    (record {
      byte = λ i few.
          sym (byte-here vs k i (8 * k + i) (slice_index vs k) few refl refl)
          ∙ ⊎_elim (λ l. sym (held-at vs n (8 * k + i) l)) (λ l. zeros (8 * k + i) l (omega (arith, words, h)) ∙ sym (get_or_past bytes (8 * k + i) 0 (omega (arith, long, l))))
          (cases_lt (8 * k + i) n);
    }))

first-and-rest : (xs ys : List ℕ) → drop 1 xs ≡ ys → xs ≡ take 1 xs ++ ys
first-and-rest xs ys is = sym (take-append-drop 1 xs) ∙ ap (λ (l : List ℕ). take 1 xs ++ l) is

-- ---- the draft at the end
module _ (written : List ℕ) (word w : ℕ) (inv : IsWriting written word w) where
  pub finish-waiting : 0 < w → written ++ word ∷ [] ≡ take 1 written ++ byte_words (written_bytes written word w)
  finish-waiting some =
      let ws = drop 1 written in
      let vs = ws ++ word ∷ [] in
      let long : length vs ≡ length ws + 1 = length_push ws word in
      let wide : 8 * w ≤ 64 = omega (arith, inv.few) in
      let small : word < 2 ^ 64 = omega (arith, inv.small, pow_mono wide) in
      let packed : vs ≡ byte_words (bytes_of vs (8 * length ws + w)) =
      words-are vs (8 * length ws + w) (omega (arith, long, inv.few)) (omega (arith, long, some)) (fits-pushed ws word inv.fits small)
      (λ p a b.
      let i = p - 8 * length ws in
      let at : p ≡ 8 * length ws + i = omega arith in
      let few : i < 8 = omega (arith, long, b) in
      let high : 8 * w ≤ 0 + 8 * i = omega arith in
      let under : word < 2 ^ (0 + 8 * i) = omega (arith, inv.small, pow_mono high) in
      byte-here vs (length ws) i p word few at (get_or_push ws word 0 (length ws) refl) ∙ (omega (arith, shr_below word 0 (8 * i) under))) in
      first-and-rest (written ++ word ∷ []) _ (behind-first written word inv.some ∙ packed)
      ∙ ap (λ (l : List ℕ). l ++ byte_words (bytes_of vs (8 * length ws + w))) (first-kept written word inv.some)

  pub finish-none : w ≡ 0 → written ≡ take 1 written ++ byte_words (written_bytes written word w)
  finish-none none =
      let ws = drop 1 written in
      let size : 8 * length ws + w ≡ 8 * length ws = omega arith in
      let same : bytes_of ws (8 * length ws) ≡ written_bytes written word w =
      sym (ap (bytes_of (ws ++ word ∷ [])) size
      ∙ fill_by_all (byte_of ws) (bytes_of (ws ++ word ∷ []) (8 * length ws)) (8 * length ws) 0 (length-held (ws ++ word ∷ []) (8 * length ws))
      (λ p h. held-at (ws ++ word ∷ []) (8 * length ws) p h
      ∙ byte-same (ws ++ word ∷ []) ws p (get_or_append_left ws (word ∷ []) 0 (p / 8) (omega (arith, h))))) in
      first-and-rest written _ (words-are ws (8 * length ws) (omega arith) (omega arith) inv.fits (λ p a b. absurd (omega arith)) ∙ ap byte_words same)

-- ---- the next eight bytes of a list, or as many as there are
module _ (rest : List ℕ) (fits : (i : ℕ) → slice_index rest i < 256) where
  small-word : (n : ℕ) → (length rest ≤ n) ⊎ (n ≡ 8) → n ≤ 8 → from_le_bytes w64 rest < 2 ^ (8 * n)
  small-word zero long few = ⊎_elim (λ l. omega (arith, get_or_past rest 0 0 (omega (arith, l)), get_or_past rest 1 0 (omega (arith, l)), get_or_past rest 2 0 (omega (arith, l)), get_or_past rest 3 0 (omega (arith, l)), get_or_past rest 4 0 (omega (arith, l)), get_or_past rest 5 0 (omega (arith, l)), get_or_past rest 6 0 (omega (arith, l)), get_or_past rest 7 0 (omega (arith, l)))) (λ e. absurd (omega arith)) long
  small-word (suc zero) long few = ⊎_elim (λ l. omega (arith, fits 0, get_or_past rest 1 0 (omega (arith, l)), get_or_past rest 2 0 (omega (arith, l)), get_or_past rest 3 0 (omega (arith, l)), get_or_past rest 4 0 (omega (arith, l)), get_or_past rest 5 0 (omega (arith, l)), get_or_past rest 6 0 (omega (arith, l)), get_or_past rest 7 0 (omega (arith, l)))) (λ e. absurd (omega arith)) long
  small-word (suc (suc zero)) long few = ⊎_elim (λ l. omega (arith, fits 0, fits 1, get_or_past rest 2 0 (omega (arith, l)), get_or_past rest 3 0 (omega (arith, l)), get_or_past rest 4 0 (omega (arith, l)), get_or_past rest 5 0 (omega (arith, l)), get_or_past rest 6 0 (omega (arith, l)), get_or_past rest 7 0 (omega (arith, l)))) (λ e. absurd (omega arith)) long
  small-word (suc (suc (suc zero))) long few = ⊎_elim (λ l. omega (arith, fits 0, fits 1, fits 2, get_or_past rest 3 0 (omega (arith, l)), get_or_past rest 4 0 (omega (arith, l)), get_or_past rest 5 0 (omega (arith, l)), get_or_past rest 6 0 (omega (arith, l)), get_or_past rest 7 0 (omega (arith, l)))) (λ e. absurd (omega arith)) long
  small-word (suc (suc (suc (suc zero)))) long few = ⊎_elim (λ l. omega (arith, fits 0, fits 1, fits 2, fits 3, get_or_past rest 4 0 (omega (arith, l)), get_or_past rest 5 0 (omega (arith, l)), get_or_past rest 6 0 (omega (arith, l)), get_or_past rest 7 0 (omega (arith, l)))) (λ e. absurd (omega arith)) long
  small-word (suc (suc (suc (suc (suc zero))))) long few = ⊎_elim (λ l. omega (arith, fits 0, fits 1, fits 2, fits 3, fits 4, get_or_past rest 5 0 (omega (arith, l)), get_or_past rest 6 0 (omega (arith, l)), get_or_past rest 7 0 (omega (arith, l)))) (λ e. absurd (omega arith)) long
  small-word (suc (suc (suc (suc (suc (suc zero)))))) long few = ⊎_elim (λ l. omega (arith, fits 0, fits 1, fits 2, fits 3, fits 4, fits 5, get_or_past rest 6 0 (omega (arith, l)), get_or_past rest 7 0 (omega (arith, l)))) (λ e. absurd (omega arith)) long
  small-word (suc (suc (suc (suc (suc (suc (suc zero))))))) long few = ⊎_elim (λ l. omega (arith, fits 0, fits 1, fits 2, fits 3, fits 4, fits 5, fits 6, get_or_past rest 7 0 (omega (arith, l)))) (λ e. absurd (omega arith)) long
  small-word (suc (suc (suc (suc (suc (suc (suc (suc zero)))))))) long few = omega (arith, fits 0, fits 1, fits 2, fits 3, fits 4, fits 5, fits 6, fits 7)
  small-word (suc (suc (suc (suc (suc (suc (suc (suc (suc k))))))))) long few = absurd (omega arith)

module _ (bytes : List ℕ) (fits : (i : ℕ) → slice_index bytes i < 2 ^ 8) (k n : ℕ) (inside : 8 * k + n ≤ length bytes) (all : (length bytes ≡ 8 * k + n) ⊎ (n ≡ 8)) (few : n ≤ 8) where
  pub next-small : byte_word bytes k < 2 ^ (8 * n)
  next-small =
      small-word (drop (8 * k) bytes) (λ i. subst (λ v. v < 256) (sym (get_or-drop (8 * k) bytes i 0)) (fits (8 * k + i))) n
      (⊎_elim (λ e. inl (omega (arith, e, length-drop (8 * k) bytes))) (λ e. inr e) all) few

  next-bytes : bytes_of (byte_word bytes k ∷ []) n ≡ take n (drop (8 * k) bytes)
  next-bytes =
      let rest = drop (8 * k) bytes in
      let long : length (take n rest) ≡ n = length-take-le n rest (omega (arith, length-drop (8 * k) bytes)) in
      sym (fill_by_all (byte_of (byte_word bytes k ∷ [])) (take n rest) n 0 long
      (λ j h.
      let here : j < 8 = omega arith in
      let within : 8 * k + j < length bytes = omega arith in
      let read : slice_index (byte_words bytes) k ≡ byte_word bytes k =
      get_or-map-range_with_len (byte_word bytes) 0 ((length bytes + 7) / 8) k k 0 (omega arith) (omega arith) in
      get_or-take n rest j 0 h ∙ get_or-drop (8 * k) bytes j 0
      ∙ ap (λ (l : List ℕ). slice_index l (8 * k + j)) (sym (bytes-packed bytes fits))
      ∙ held-at (byte_words bytes) (length bytes) (8 * k + j) within ∙ byte-here (byte_words bytes) k j (8 * k + j) _ here refl read
      ∙ sym (byte-here (byte_word bytes k ∷ []) 0 j j _ here (omega arith) refl)))

  pub next-taken : take (8 * k) bytes ++ bytes_of (byte_word bytes k ∷ []) n ≡ take (8 * (k + 1)) bytes
  next-taken =
      let rest = drop (8 * k) bytes in
      let more : 8 * (k + 1) ≡ 8 * k + 8 = omega arith in
      let whole : take n rest ≡ take 8 rest =
      ⊎_elim
      (λ e.
      let end : length rest ≡ n = omega (arith, e, length-drop (8 * k) bytes) in
      take_all n rest (omega (arith, end)) ∙ sym (take_all 8 rest (omega (arith, end))))
      (λ e. ap (λ m. take m rest) e) all in
      ap (λ (l : List ℕ). take (8 * k) bytes ++ l) (next-bytes ∙ whole) ∙ sym (take-add (8 * k) 8 bytes) ∙ ap (λ m. take m bytes) (sym more)

-- ---- the bytes that stand in a stored word from place `at` on
pub stored-bytes : (ws : List ℕ) (n at size word : ℕ) (u : List ℕ) → u ≡ bytes_of ws n → at + size ≤ n → at % 8 + size ≤ 8 → word ≡ slice_index ws (at / 8)
    → bytes_of (word / 2 ^ (8 * (at % 8)) % 2 ^ (8 * size) ∷ []) size ≡ take size (drop at u)
stored-bytes ws n at size word u held inside few is =
    let above = word / 2 ^ (8 * (at % 8)) in
    let shown = above % 2 ^ (8 * size) in
    let long : length (take size (drop at u)) ≡ size = length-take-le size (drop at u) (omega (arith, length-drop at u, ap length held, length-held ws n)) in
    sym (fill_by_all (byte_of (shown ∷ [])) (take size (drop at u)) size 0 long
    (λ j h.
    let sum : 8 * (at % 8) + 8 * j ≡ 8 * (at % 8 + j) = omega arith in
    get_or-take size (drop at u) j 0 h ∙ get_or-drop at u j 0 ∙ ap (λ (l : List ℕ). slice_index l (at + j)) held ∙ held-at ws n (at + j) (omega arith)
    ∙ byte-here ws (at / 8) (at % 8 + j) (at + j) word (omega arith) (omega arith) (sym is)
    ∙ sym (byte-here (shown ∷ []) 0 j j shown (omega arith) (omega arith) refl ∙ byte_low above (8 * size) (8 * j) (omega arith)
    ∙ ap (λ v. v % 256) (shr-shr word (8 * (at % 8)) (8 * j)) ∙ ap (λ e. word / 2 ^ e % 256) sum)))

pub stored-next : (ws : List ℕ) (n at size word shown from done : ℕ) (u : List ℕ) → u ≡ bytes_of ws n → at + size ≤ n → at % 8 + size ≤ 8
    → word ≡ slice_index ws (at / 8) → shown ≡ word / 2 ^ (8 * (at % 8)) % 2 ^ (8 * size) → at ≡ from + done
    → bytes_of (shown ∷ []) size ≡ take size (drop done (drop from u))
stored-next ws n at size word shown from done u held inside few is first place =
    ap (λ v. bytes_of (v ∷ []) size) first ∙ stored-bytes ws n at size word u held inside few is
    ∙ ap (take size) (ap (λ k. drop k u) place ∙ sym (drop-drop done from u))

-- ---- whether the first bytes of a word are ASCII
pub word-ascii : (x n : ℕ) → n ≤ 8 → ((i : ℕ) → i < 8 → x / 2 ^ (8 * i) % 256 < 128) → is_ascii (bytes_of (x ∷ []) n) ≡ true
word-ascii x n few low =
    sym (ascii-told true (bytes_of (x ∷ []) n)
    (λ i. ⊎_elim
    (λ l. let here : i < 8 = omega arith in subst (λ v. v < 128) (sym (held-at (x ∷ []) n i l ∙ byte-here (x ∷ []) 0 i i x here (omega arith) refl)) (low i here))
    (λ l. omega (arith, get_or_past (bytes_of (x ∷ []) n) i 0 (omega (arith, length-held (x ∷ []) n, l))))
    (cases_lt i n)))

pub word-other : (x n i : ℕ) → x < 2 ^ (8 * n) → i < 8 → 128 ≤ x / 2 ^ (8 * i) % 256 → is_ascii (bytes_of (x ∷ []) n) ≡ false
word-other x n i small few above =
    ⊎_elim
    (λ l. sym (ascii-told false (bytes_of (x ∷ []) n) (i, subst (λ v. 128 ≤ v) (sym (held-at (x ∷ []) n i l ∙ byte-here (x ∷ []) 0 i i x few (omega arith) refl)) above)))
    (λ l.
    let high : 8 * n ≤ 0 + 8 * i = omega arith in
    let under : x < 2 ^ (0 + 8 * i) = omega (arith, small, pow_mono high) in
    absurd (omega (arith, above, shr_below x 0 (8 * i) under)))
    (cases_lt i n)
