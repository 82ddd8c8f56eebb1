-- How many words are read, one for each in which a scalar of a walk begins.
use Rattle.std.proofs.Common.{◌≡◌, ap, ℕ, zero, suc, ◌+◌, ◌-◌, ◌*◌, ◌/◌, ◌<◌, ◌≤◌, ⊎_elim, List, length, get_or, arith}
use Rattle.std.proofs.lemmas.Bool.{cases_lt, cond-true, cond-false, lt-ltb, le-ltb}
use Rattle.std.proofs.lemmas.Str.{len_utf8_bounds}
use Rattle.std.proofs.Math.Nat.{min-eq_left, min-eq_right}
use Rattle.std.specs.Char.{len_utf8}
use Rattle.text_spec.specs.Offsets.{start}
use Rattle.text_spec.proofs.Walk.{start-suc, start-mono}
use Rattle.crumbs.specs.Searching.{words_begun, words_through}

module _ (t : List ℕ) where
  pub words-none : (first end : ℕ) → end ≤ first → words_begun t first end ≡ 0
  words-none first end h = cond-false _ _ _ (le-ltb first end h)

  words-some : (first end : ℕ) → first < end → words_begun t first end ≡ start len_utf8 t (end - 1) / 8 - start len_utf8 t first / 8 + 1
  words-some first end h = cond-true _ _ _ (lt-ltb first end h)

  -- the scalars from `next` on that begin in one word, which is the first of the walk or the one behind its last
  pub words-more : (first next end : ℕ) → first ≤ next → next < end → start len_utf8 t (end - 1) / 8 ≡ start len_utf8 t next / 8
      → (first < next → start len_utf8 t next / 8 ≡ start len_utf8 t (next - 1) / 8 + 1) → words_begun t first end ≡ words_begun t first next + 1
  words-more first next end order some one behind =
      ⊎_elim
      (λ (h : first < next).
      let before = start-mono len_utf8 t first (next - 1) (omega (arith, h)) in
      omega (arith, words-some first end (omega (arith, order, some)), words-some first next h, one, behind h, before))
      (λ (h : next ≤ first).
      let same : first ≡ next = omega (arith, order, h) in
      omega (arith, words-some first end (omega (arith, order, some)), words-none first next h, one, ap (start len_utf8 t) same))
      (cases_lt first next)

  -- scalars lie no further apart than four bytes
  spread : (j d : ℕ) → j + d ≤ length t → start len_utf8 t (j + d) ≤ start len_utf8 t j + 4 * d
  spread j zero h = let e : j + 0 ≡ j = omega arith in omega (arith, ap (start len_utf8 t) e)
  spread j (suc d) h =
      let e : j + suc d ≡ suc (j + d) = omega arith in
      omega (arith, ap (start len_utf8 t) e, start-suc len_utf8 t (j + d) (omega (arith, h)), (len_utf8_bounds (get_or t (j + d) 0)).1, spread j d (omega (arith, h)))

  -- no more words are read than there are scalars
  pub words-most : (first end : ℕ) → end ≤ length t → words_begun t first end ≤ end - first
  words-most first end h =
      ⊎_elim
      (λ (l : first < end).
      let d = end - 1 - first in
      let e : first + d ≡ end - 1 = omega (arith, l) in
      omega (arith, words-some first end l, spread first d (omega (arith, e, h, l)), ap (start len_utf8 t) e, l))
      (λ (l : end ≤ first). omega (arith, words-none first end l))
      (cases_lt first end)

  pub through-inside : (first last : ℕ) → last < length t → words_through t first last ≡ words_begun t first (suc last)
  through-inside first last h = ap (words_begun t first) (min-eq_left (omega (arith, h)))

  pub through-end : (first last : ℕ) → length t ≤ last → words_through t first last ≡ words_begun t first (length t)
  through-end first last h = ap (words_begun t first) (min-eq_right (omega (arith, h)))

  pub through-most : (first last most : ℕ) → last + 1 ≤ first + most → words_through t first last ≤ most
  through-most first last most h =
      ⊎_elim
      (λ (l : last < length t). omega (arith, through-inside first last l, words-most first (suc last) (omega (arith, l)), h))
      (λ (l : length t ≤ last). omega (arith, through-end first last l, words-most first (length t) (omega arith), h, l))
      (cases_lt last (length t))
