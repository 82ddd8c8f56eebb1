-- The Characters of a text by their sizes, and its boundaries.
use Rattle.std.proofs.Common.{◌≡◌, refl, sym, ap, subst, ◌∙◌, ℕ, zero, suc, ◌+◌, ◌-◌, ◌<◌, ◌≤◌, ◌⊎◌, inl, inr, ⊎_elim, Bool, true, false, cond, List, [], ◌∷◌, ◌++◌, map, reverse, length, take, drop, get_or, arith, append_assoc, append-nil}
use Rattle.std.proofs.lemmas.Bool.{cases_lt}
use Rattle.std.proofs.lemmas.List.{reverse-append, length-map, drop_all}
use Rattle.unicode_segmentation.specs.Grapheme.{is_grapheme_break}
use Rattle.unicode_segmentation.specs.Segments.{prepend, cut}
use Rattle.text_spec.specs.Offsets.{start}
use Rattle.text_spec.proofs.Walk.{start-zero, start-suc, start-mono, down-next, down-unique, down-end}
use Rattle.text_spec.proofs.Downward.{start-down}
use Rattle.char_view.specs.Characters.{is_character_boundary, characters, character_sizes, character_count, character_start, character_of, HasNoBoundary}

-- where the rule says a boundary before the j-th of the scalars cs, behind those of `before`, nearest first
breaks_in : ℕ → List ℕ → List ℕ → Bool
breaks_in zero before cs = is_grapheme_break true before cs
breaks_in (suc j) before [] = true
breaks_in (suc j) before (c ∷ cs) = breaks_in j (c ∷ before) cs

breaks_in-is : (j : ℕ) (before cs : List ℕ) → j ≤ length cs → breaks_in j before cs ≡ is_grapheme_break true (reverse (take j cs) ++ before) (drop j cs)
unfolding breaks_in
breaks_in-is zero before cs h = refl
breaks_in-is (suc j) before [] h = absurd (omega arith)
breaks_in-is (suc j) before (c ∷ cs) h =
    let front : (reverse (take j cs) ++ (c ∷ [])) ++ before ≡ reverse (take j cs) ++ (c ∷ before) = append_assoc (reverse (take j cs)) (c ∷ []) before in
    breaks_in-is j (c ∷ before) cs (omega arith)
    ∙ ap (λ l. is_grapheme_break true l (drop j cs)) (sym front ∙ ap (λ l. l ++ before) (sym (reverse-append (c ∷ []) (take j cs))))

whole_breaks : (text : List ℕ) (k : ℕ) → k ≤ length text → breaks_in k [] text ≡ is_character_boundary text k
whole_breaks text k h = breaks_in-is k [] text h ∙ ap (λ l. is_grapheme_break true l (drop k text)) (append-nil (reverse (take k text)))

-- ---- sizes
abbrev sizes_by : ℕ → ℕ
sizes_by size = size

join : Bool → List ℕ → List ℕ
join true rest = 1 ∷ rest
join false [] = 1 ∷ []
join false (n ∷ rest) = suc n ∷ rest

sizes_in : List ℕ → List ℕ → List ℕ
sizes_in before [] = []
sizes_in before (c ∷ cs) = join (is_grapheme_break true (c ∷ before) cs) (sizes_in (c ∷ before) cs)

join-map : (b : Bool) (c : ℕ) (pieces : List (List ℕ)) → map length (cond b ((c ∷ []) ∷ pieces) (prepend (c ∷ []) pieces)) ≡ join b (map length pieces)
unfolding join
join-map true c pieces = refl
join-map false c [] = refl
join-map false c (piece ∷ pieces) = refl

sizes_in-is : (before cs : List ℕ) → map length (cut (is_grapheme_break true) before cs []) ≡ sizes_in before cs
unfolding cut sizes_in
sizes_in-is before [] = refl
sizes_in-is before (c ∷ cs) =
    join-map (is_grapheme_break true (c ∷ before) (cs ++ [])) c (cut (is_grapheme_break true) (c ∷ before) cs [])
    ∙ ap (λ l. join (is_grapheme_break true (c ∷ before) l) (map length (cut (is_grapheme_break true) (c ∷ before) cs []))) (append-nil cs)
    ∙ ap (join (is_grapheme_break true (c ∷ before) cs)) (sizes_in-is (c ∷ before) cs)

sizes-is : (text : List ℕ) → character_sizes text ≡ sizes_in [] text
sizes-is text = sizes_in-is [] text

pub count-is : (text : List ℕ) → character_count text ≡ length (character_sizes text)
count-is text = sym (length-map (characters text) length)

-- they make up the text, and none is empty
join-total : (b : Bool) (rest : List ℕ) → start sizes_by (join b rest) (length (join b rest)) ≡ suc (start sizes_by rest (length rest))
unfolding join
join-total true rest = omega arith
join-total false [] = refl
join-total false (n ∷ rest) = omega arith

total_in : (before cs : List ℕ) → start sizes_by (sizes_in before cs) (length (sizes_in before cs)) ≡ length cs
unfolding sizes_in
total_in before [] = refl
total_in before (c ∷ cs) = join-total (is_grapheme_break true (c ∷ before) cs) (sizes_in (c ∷ before) cs) ∙ omega (arith, total_in (c ∷ before) cs)

join-some : (b : Bool) (rest : List ℕ) → ((n : ℕ) → n < length rest → 0 < get_or rest n 0) → (n : ℕ) → n < length (join b rest) → 0 < get_or (join b rest) n 0
unfolding join
join-some true rest some zero h = omega arith
join-some true rest some (suc n) h = some n (omega arith)
join-some false [] some zero h = omega arith
join-some false [] some (suc n) h = absurd (omega arith)
join-some false (m ∷ rest) some zero h = omega arith
join-some false (m ∷ rest) some (suc n) h = some (suc n) (omega arith)

some_in : (before cs : List ℕ) (n : ℕ) → n < length (sizes_in before cs) → 0 < get_or (sizes_in before cs) n 0
unfolding sizes_in
some_in before [] n h = absurd (omega arith)
some_in before (c ∷ cs) n h = join-some (is_grapheme_break true (c ∷ before) cs) (sizes_in (c ∷ before) cs) (some_in (c ∷ before) cs) n h

-- ---- the next boundary is where the next Character begins
Next : List ℕ → (ℕ → Bool) → ℕ → Type 0
Next sizes breaks len = (o k j : ℕ) → start sizes_by sizes o ≡ k → k < j → j ≤ len → breaks j ≡ true
    → ((i : ℕ) → k < i → i < j → breaks i ≡ false) → (o < length sizes) × (start sizes_by sizes (suc o) ≡ j)

both : (b : Bool) → true ≡ b → b ≡ false → ⊥
both true x y = cc
both false x y = cc

neither : (b : Bool) → false ≡ b → b ≡ true → ⊥
neither true x y = cc
neither false x y = cc

next-join : (b : Bool) (rest : List ℕ) (breaks : ℕ → Bool) (len : ℕ) → b ≡ breaks 0 → start sizes_by rest (length rest) ≡ len → Next rest breaks len
    → (o k j : ℕ) → start sizes_by (join b rest) o ≡ k → k < suc j → j ≤ len → breaks j ≡ true → ((i : ℕ) → k < suc i → i < j → breaks i ≡ false)
    → (o < length (join b rest)) × (start sizes_by (join b rest) (suc o) ≡ suc j)
unfolding join Next
next-join true rest breaks len first total more zero k j at ahead within ends none =
    let now : j ≡ 0 = ⊎_elim (λ (h : 0 < j). absurd (both (breaks 0) first (none 0 (omega (arith, at)) h))) (λ (h : j ≤ 0). omega arith) (cases_lt 0 j) in
    (omega arith, omega (arith, now, start-zero sizes_by rest))
next-join true rest breaks len first total more (suc o) k j at ahead within ends none =
    let next = more o (k - 1) j (omega (arith, at)) (omega (arith, at, ahead)) within ends (λ i low high. none i (omega (arith, low, at)) high) in
    (omega (arith, next.0), omega (arith, next.1))
next-join false [] breaks len first total more o k j at ahead within ends none =
    let now : j ≡ 0 = omega (arith, total, within) in
    absurd (neither (breaks 0) first (subst (λ n. breaks n ≡ true) now ends))
next-join false (n ∷ rest) breaks len first total more zero k j at ahead within ends none =
    let later : 0 < j = ⊎_elim (λ h. h) (λ (h : j ≤ 0). let now : j ≡ 0 = omega arith in absurd (neither (breaks 0) first (subst (λ n. breaks n ≡ true) now ends))) (cases_lt 0 j) in
    let next = more 0 0 j refl later within ends (λ i low high. none i (omega (arith, at)) high) in
    (omega arith, omega (arith, next.1))
next-join false (n ∷ rest) breaks len first total more (suc o) k j at ahead within ends none =
    let next = more (suc o) (k - 1) j (omega (arith, at)) (omega (arith, at, ahead, ⊎_elim (λ (h : 0 < k). h) (λ (h : k ≤ 0). absurd (omega (arith, at, h))) (cases_lt 0 k))) within ends (λ i low high. none i (omega (arith, low)) high) in
    (omega (arith, next.0), omega (arith, next.1))

next_in : (before cs : List ℕ) → Next (sizes_in before cs) (λ j. breaks_in j before cs) (length cs)
unfolding sizes_in breaks_in Next
next_in before [] o k j at ahead within ends none = absurd (omega arith)
next_in before (c ∷ cs) o k zero at ahead within ends none = absurd (omega arith)
next_in before (c ∷ cs) o k (suc j) at ahead within ends none =
    next-join (is_grapheme_break true (c ∷ before) cs) (sizes_in (c ∷ before) cs) (λ i. breaks_in i (c ∷ before) cs) (length cs) refl (total_in (c ∷ before) cs)
    (next_in (c ∷ before) cs) o k j at ahead (omega (arith, within)) ends (λ i low high. none (suc i) low (omega (arith, high)))

-- ---- the same of whole texts
pub start-count : (text : List ℕ) → character_start text (character_count text) ≡ length text
start-count text =
    ap (character_start text) (count-is text) ∙ ap (λ l. start sizes_by l (length l)) (sizes-is text) ∙ total_in [] text

pub start-more : (text : List ℕ) (n : ℕ) → n < character_count text → character_start text n < character_start text (suc n)
start-more text n h =
    let inside : n < length (character_sizes text) = omega (arith, h, count-is text) in
    let some : 0 < get_or (character_sizes text) n 0 = subst (λ l. 0 < get_or l n 0) (sym (sizes-is text)) (some_in [] text n (subst (λ l. n < length l) (sizes-is text) inside)) in
    omega (arith, start-suc sizes_by (character_sizes text) n inside, some)

pub start-past : (text : List ℕ) (n : ℕ) → character_count text ≤ n → character_start text n ≡ length text
start-past text n h = past (character_sizes text) n (omega (arith, h, count-is text)) ∙ sym (ap (character_start text) (count-is text)) ∙ start-count text
  where
    past : (l : List ℕ) (n : ℕ) → length l ≤ n → start sizes_by l n ≡ start sizes_by l (length l)
    past [] n h = refl
    past (c ∷ l) zero h = absurd (omega arith)
    past (c ∷ l) (suc n) h = omega (arith, past l n (omega (arith, h)))

pub start-ordered : (text : List ℕ) (n m : ℕ) → n ≤ m → character_start text n ≤ character_start text m
start-ordered text n m h = start-mono sizes_by (character_sizes text) n m h

pub start-within : (text : List ℕ) (n : ℕ) → character_start text n ≤ length text
start-within text n =
    ⊎_elim (λ (h : n < character_count text). omega (arith, start-ordered text n (character_count text) (omega (arith, h)), start-count text))
    (λ (h : character_count text ≤ n). omega (arith, start-past text n h)) (cases_lt n (character_count text))

-- at most as many Characters as scalars
pub number-few : (text : List ℕ) (n : ℕ) → n ≤ character_count text → n ≤ character_start text n
number-few text zero h = omega arith
number-few text (suc n) h = omega (arith, number-few text n (omega (arith, h)), start-more text n (omega (arith, h)))

pub next_character : (text : List ℕ) (o k j : ℕ) → character_start text o ≡ k → k < j → j ≤ length text → is_character_boundary text j ≡ true
    → HasNoBoundary text k j → (o < character_count text) × (character_start text (suc o) ≡ j)
unfolding Next
next_character text o k j at ahead within ends none =
    let found = next_in [] text o k j (ap (λ l. start sizes_by l o) (sym (sizes-is text)) ∙ at) ahead within (whole_breaks text j within ∙ ends)
    (λ i low high. whole_breaks text i (omega (arith, high, within)) ∙ none i low high) in
    (omega (arith, found.0, count-is text, ap length (sizes-is text)), ap (λ l. start sizes_by l (suc o)) (sizes-is text) ∙ found.1)

-- a scalar from the start of a Character on, and before the next one, lies in it
pub character_of-inside : (text : List ℕ) (n k : ℕ) → n < character_count text → character_start text n ≤ k → k < character_start text (suc n)
    → character_of text k ≡ n
character_of-inside text n k h low high = down-unique sizes_by (character_sizes text) k n (omega (arith, h, count-is text)) low high

pub character_of-end : (text : List ℕ) (k : ℕ) → length text ≤ k → character_of text k ≡ character_count text
character_of-end text k h =
    down-end sizes_by (character_sizes text) k (omega (arith, h, start-count text, ap (character_start text) (count-is text))) ∙ sym (count-is text)

-- ---- Characters end at boundaries
end_breaks : (c : ℕ) (before cs : List ℕ) → length cs ≡ 0 → is_grapheme_break true (c ∷ before) cs ≡ true
unfolding is_grapheme_break
end_breaks c before [] h = refl
end_breaks c before (d ∷ cs) h = absurd (omega arith)

ends-join : (b : Bool) (rest : List ℕ) (breaks : ℕ → Bool) → b ≡ breaks 0 → (length rest ≡ 0 → breaks 0 ≡ true)
    → ((o : ℕ) → o < length rest → breaks (start sizes_by rest (suc o)) ≡ true)
    → (o : ℕ) → o < length (join b rest) → (m : ℕ) × (start sizes_by (join b rest) (suc o) ≡ suc m) × (breaks m ≡ true)
unfolding join
ends-join true rest breaks first last more zero h = (0, omega (arith, start-zero sizes_by rest), sym first)
ends-join true rest breaks first last more (suc o) h = (start sizes_by rest (suc o), omega arith, more o (omega arith))
ends-join false [] breaks first last more o h = absurd (neither (breaks 0) first (last refl))
ends-join false (n ∷ rest) breaks first last more zero h = (n + start sizes_by rest 0, omega arith, more 0 (omega arith))
ends-join false (n ∷ rest) breaks first last more (suc o) h = (n + start sizes_by rest (suc o), omega arith, more (suc o) (omega arith))

ends_in : (before cs : List ℕ) (o : ℕ) → o < length (sizes_in before cs) → breaks_in (start sizes_by (sizes_in before cs) (suc o)) before cs ≡ true
unfolding sizes_in breaks_in
ends_in before [] o h = absurd (omega arith)
ends_in before (c ∷ cs) o h =
    let found = ends-join (is_grapheme_break true (c ∷ before) cs) (sizes_in (c ∷ before) cs) (λ i. breaks_in i (c ∷ before) cs) refl
    (λ none. end_breaks c before cs (omega (arith, ap (start sizes_by (sizes_in (c ∷ before) cs)) none, start-zero sizes_by (sizes_in (c ∷ before) cs), total_in (c ∷ before) cs)))
    (ends_in (c ∷ before) cs) o h in
    ap (λ i. breaks_in i before (c ∷ cs)) found.1 ∙ found.2

last_breaks : (before cs : List ℕ) → cs ≡ [] → is_grapheme_break true before cs ≡ true
unfolding is_grapheme_break
last_breaks [] cs h = refl
last_breaks (c ∷ before) cs h = ap (is_grapheme_break true (c ∷ before)) h

first_breaks : (text : List ℕ) → is_character_boundary text 0 ≡ true
unfolding is_grapheme_break
first_breaks text = refl

pub start-boundary : (text : List ℕ) (n : ℕ) → is_character_boundary text (character_start text n) ≡ true
start-boundary text zero = ap (is_character_boundary text) (start-zero sizes_by (character_sizes text)) ∙ first_breaks text
start-boundary text (suc o) =
    ⊎_elim
    (λ (h : o < character_count text).
    sym (whole_breaks text (character_start text (suc o)) (start-within text (suc o)))
    ∙ ap (λ l. breaks_in (start sizes_by l (suc o)) [] text) (sizes-is text)
    ∙ ends_in [] text o (omega (arith, h, count-is text, ap length (sizes-is text))))
    (λ (h : character_count text ≤ o).
    ap (is_character_boundary text) (start-past text (suc o) (omega (arith, h)))
    ∙ last_breaks (reverse (take (length text) text)) (drop (length text) text) (drop_all (length text) text (omega arith)))
    (cases_lt o (character_count text))

-- the first boundary behind a place, or none up to another
record IsFirst (breaks : ℕ → Bool) (from to j : ℕ) : Type 0 where
  low : from < j
  high : j ≤ to
  ends : breaks j ≡ true
  none : (i : ℕ) → from < i → i < j → breaks i ≡ false

scan : (breaks : ℕ → Bool) (from m : ℕ) → ((i : ℕ) → from < i → i ≤ from + m → breaks i ≡ false) ⊎ ((j : ℕ) × IsFirst breaks from (from + m) j)
scan breaks from zero = inl (λ i low high. absurd (omega (arith, low, high)))
scan breaks from (suc m) =
    ⊎_elim
    (λ none. elim (breaks (from + suc m)) as (λ b. breaks (from + suc m) ≡ b → ((i : ℕ) → from < i → i ≤ from + suc m → breaks i ≡ false) ⊎ ((j : ℕ) × IsFirst breaks from (from + suc m) j)) [
      | true ↦ λ e. inr (from + suc m, record { low = omega arith; high = omega arith; ends = e; none = λ i low high. none i low (omega (arith, high)) })
      | false ↦ λ e. inl (λ i low high. ⊎_elim (λ (h : i < from + suc m). none i low (omega (arith, h))) (λ (h : from + suc m ≤ i). let same : i ≡ from + suc m = omega (arith, h, high) in ap breaks same ∙ e) (cases_lt i (from + suc m)))
    ] refl)
    (λ found. let f = found.1 in inr (found.0, record { low = f.low; high = omega (arith, f.high); ends = f.ends; none = f.none }))
    (scan breaks from m)

pub boundary-start : (text : List ℕ) (k : ℕ) → k ≤ length text → is_character_boundary text k ≡ true → character_start text (character_of text k) ≡ k
boundary-start text k within ends =
    let o = character_of text k in
    let low = start-down sizes_by (character_sizes text) k in
    ⊎_elim
    (λ (inside : k < length text).
    let next = down-next sizes_by (character_sizes text) k (omega (arith, inside, start-count text, ap (character_start text) (count-is text))) in
    ⊎_elim
    (λ (h : character_start text o < k).
    let upto : character_start text o + (k - character_start text o) ≡ k = omega (arith, h) in
    ⊎_elim
    (λ none. absurd (both (is_character_boundary text k) (sym ends) (none k h (omega arith))))
    (λ found. let f = found.1 in
    let then = next_character text o (character_start text o) found.0 refl f.low (omega (arith, f.high, within)) f.ends f.none in
    absurd (omega (arith, then.1, f.high, next.1, upto)))
    (scan (is_character_boundary text) (character_start text o) (k - character_start text o)))
    (λ (h : k ≤ character_start text o). omega (arith, h, low)) (cases_lt (character_start text o) k))
    (λ (end : length text ≤ k). ap (character_start text) (character_of-end text k end) ∙ start-count text ∙ omega (arith, end, within))
    (cases_lt k (length text))
