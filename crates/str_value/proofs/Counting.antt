-- How many scalars and units a text has, by the first bytes of its scalars.
use Rattle.std.proofs.Common.{◌≡◌, refl, subst, sym, ap, ◌∙◌, ℕ, ◌+◌, ◌/◌, ◌%◌, ◌<◌, ◌≤◌, List, [], ◌∷◌, Bool, true, false, cond, ◌||◌, nat_lt, nat_le, length, count_by, arith, ⊎_elim}
use Rattle.std.specs.Char.{encode_utf8}
use Rattle.std.specs.Char.Escape.{encode_utf16}
use Rattle.std.proofs.lemmas.List.Sums.{sum_by-cons, sum_by-append}
use Rattle.std.proofs.lemmas.Bool.{cases_lt, cond-true, cond-false, lt-ltb, le-ltb, le-leb, lt-leb}
use Rattle.text_spec.specs.Text.{utf8, utf16}
use Rattle.text_spec.specs.Offsets.{len_utf16}
use Rattle.text_spec.proofs.Lengths.{length-encode_utf16}
use Rattle.std.proofs.lemmas.List.{length-append}
use Rattle.str_value.specs.Leading.{starts_scalar, starts_pair}
use Rattle.std.proofs.lemmas.Str.{encode_ascii}
use Rattle.text_spec.proofs.Bytes.{bytes-2, bytes-3, bytes-4}

-- a byte behind the first
abbrev next_byte : ℕ → ℕ
next_byte bits = 128 + bits % 64

-- how many of one to four bytes pass
in_more : (p : ℕ → Bool) (w : ℕ) (rest : List ℕ) (a : Bool) (n : ℕ) → p w ≡ a → count_by p rest ≡ n → count_by p (w ∷ rest) ≡ cond a 1 0 + n
in_more p w rest a n e more = sum_by-cons (λ y. cond (p y) 1 0) w rest ∙ ap (λ v. cond v 1 0 + count_by p rest) e ∙ ap (λ m. cond a 1 0 + m) more

in_one : (p : ℕ → Bool) (w : ℕ) (a : Bool) → p w ≡ a → count_by p (w ∷ []) ≡ cond a 1 0
in_one p w a e = omega (arith, in_more p w [] a 0 e refl)

in_two : (p : ℕ → Bool) (w x : ℕ) (a b : Bool) → p w ≡ a → p x ≡ b → count_by p (w ∷ x ∷ []) ≡ cond a 1 0 + cond b 1 0
in_two p w x a b e f = in_more p w (x ∷ []) a (cond b 1 0) e (in_one p x b f)

in_three : (p : ℕ → Bool) (w x y : ℕ) (a b c : Bool) → p w ≡ a → p x ≡ b → p y ≡ c → count_by p (w ∷ x ∷ y ∷ []) ≡ cond a 1 0 + (cond b 1 0 + cond c 1 0)
in_three p w x y a b c e f g = in_more p w (x ∷ y ∷ []) a (cond b 1 0 + cond c 1 0) e (in_two p x y b c f g)

in_four : (p : ℕ → Bool) (w x y z : ℕ) (a b c d : Bool) → p w ≡ a → p x ≡ b → p y ≡ c → p z ≡ d
    → count_by p (w ∷ x ∷ y ∷ z ∷ []) ≡ cond a 1 0 + (cond b 1 0 + (cond c 1 0 + cond d 1 0))
in_four p w x y z a b c d e f g h = in_more p w (x ∷ y ∷ z ∷ []) a (cond b 1 0 + (cond c 1 0 + cond d 1 0)) e (in_three p x y z b c d f g h)

either-first : (a b : Bool) → a ≡ true → (a || b) ≡ true
either-first true b e = refl
either-first false true e = refl
either-first false false e = e

either-second : (a b : Bool) → b ≡ true → (a || b) ≡ true
either-second true b e = refl
either-second false b e = e

neither : (a b : Bool) → a ≡ false → b ≡ false → (a || b) ≡ false
neither true b e f = e
neither false b e f = f

starts-ascii : (b : ℕ) → b < 128 → starts_scalar b ≡ true
starts-ascii b h = either-first (nat_lt b 128) (nat_le 192 b) (lt-ltb b 128 h)

starts-lead : (b : ℕ) → 192 ≤ b → starts_scalar b ≡ true
starts-lead b h = either-second (nat_lt b 128) (nat_le 192 b) (le-leb 192 b h)

starts-next : (bits : ℕ) → starts_scalar (next_byte bits) ≡ false
starts-next bits =
    neither (nat_lt (next_byte bits) 128) (nat_le 192 (next_byte bits)) (le-ltb (next_byte bits) 128 (omega arith)) (lt-leb 192 (next_byte bits) (omega arith))

pair-next : (bits : ℕ) → starts_pair (next_byte bits) ≡ false
pair-next bits = lt-leb 240 (next_byte bits) (omega arith)

-- a property that holds of each of the four forms holds of each scalar's bytes
of_each_form : (P : ℕ → List ℕ → Type 0)
    → ((c : ℕ) → c < 128 → P c (c ∷ []))
    → ((c : ℕ) → 128 ≤ c → c < 2048 → P c ((192 + c / 64) ∷ next_byte c ∷ []))
    → ((c : ℕ) → 2048 ≤ c → c < 65536 → P c ((224 + c / 4096) ∷ next_byte (c / 64) ∷ next_byte c ∷ []))
    → ((c : ℕ) → 65536 ≤ c → P c ((240 + c / 262144) ∷ next_byte (c / 4096) ∷ next_byte (c / 64) ∷ next_byte c ∷ []))
    → (c : ℕ) → P c (encode_utf8 c)
of_each_form P one two three four c =
    ⊎_elim (λ a. subst (P c) (sym (encode_ascii c a)) (one c a))
    (λ a. ⊎_elim (λ b. subst (P c) (sym (bytes-2 c a b)) (two c a b))
    (λ b. ⊎_elim (λ d. subst (P c) (sym (bytes-3 c b d)) (three c b d))
    (λ d. subst (P c) (sym (bytes-4 c d)) (four c d)) (cases_lt c 65536)) (cases_lt c 2048)) (cases_lt c 128)

-- a scalar begins once
starts-encode : (c : ℕ) → count_by starts_scalar (encode_utf8 c) ≡ 1
starts-encode =
    of_each_form (λ c bytes. count_by starts_scalar bytes ≡ 1)
    (λ c a. in_one starts_scalar c true (starts-ascii c a))
    (λ c a b. in_two starts_scalar (192 + c / 64) (next_byte c) true false (starts-lead (192 + c / 64) (omega arith)) (starts-next c))
    (λ c a b. in_three starts_scalar (224 + c / 4096) (next_byte (c / 64)) (next_byte c) true false false
    (starts-lead (224 + c / 4096) (omega arith)) (starts-next (c / 64)) (starts-next c))
    (λ c a. in_four starts_scalar (240 + c / 262144) (next_byte (c / 4096)) (next_byte (c / 64)) (next_byte c) true false false false
    (starts-lead (240 + c / 262144) (omega arith)) (starts-next (c / 4096)) (starts-next (c / 64)) (starts-next c))

-- its UTF-16 takes a second unit exactly where a pair begins
short16 : (c : ℕ) → c < 65536 → len_utf16 c ≡ 1
short16 c h = cond-true (nat_lt c 65536) 1 2 (lt-ltb c 65536 h)

long16 : (c : ℕ) → 65536 ≤ c → len_utf16 c ≡ 2
long16 c h = cond-false (nat_lt c 65536) 1 2 (le-ltb c 65536 h)

pairs-encode : (c : ℕ) → 1 + count_by starts_pair (encode_utf8 c) ≡ len_utf16 c
pairs-encode =
    of_each_form (λ c bytes. 1 + count_by starts_pair bytes ≡ len_utf16 c)
    (λ c a. ap (λ n. 1 + n) (in_one starts_pair c false (lt-leb 240 c (omega arith))) ∙ sym (short16 c (omega arith)))
    (λ c a b. ap (λ n. 1 + n) (in_two starts_pair (192 + c / 64) (next_byte c) false false (lt-leb 240 (192 + c / 64) (omega arith)) (pair-next c))
    ∙ sym (short16 c (omega arith)))
    (λ c a b. ap (λ n. 1 + n) (in_three starts_pair (224 + c / 4096) (next_byte (c / 64)) (next_byte c) false false false
    (lt-leb 240 (224 + c / 4096) (omega arith)) (pair-next (c / 64)) (pair-next c)) ∙ sym (short16 c b))
    (λ c a. ap (λ n. 1 + n) (in_four starts_pair (240 + c / 262144) (next_byte (c / 4096)) (next_byte (c / 64)) (next_byte c) true false false false
    (le-leb 240 (240 + c / 262144) (omega arith)) (pair-next (c / 4096)) (pair-next (c / 64)) (pair-next c)) ∙ sym (long16 c a))

pub starts-utf8 : (t : List ℕ) → count_by starts_scalar (utf8 t) ≡ length t
starts-utf8 [] = refl
starts-utf8 (c ∷ t) = omega (arith, sum_by-append (λ y. cond (starts_scalar y) 1 0) (encode_utf8 c) (utf8 t), starts-encode c, starts-utf8 t)

pub pairs-utf8 : (t : List ℕ) → length t + count_by starts_pair (utf8 t) ≡ length (utf16 t)
pairs-utf8 [] = refl
pairs-utf8 (c ∷ t) =
    omega (arith, sum_by-append (λ y. cond (starts_pair y) 1 0) (encode_utf8 c) (utf8 t), pairs-encode c, pairs-utf8 t, length-append (encode_utf16 c) (utf16 t), length-encode_utf16 c)

-- so what is counted in the bytes of a text is its lengths
pub scalars-counted : (t bytes : List ℕ) (n : ℕ) → utf8 t ≡ bytes → n ≡ count_by starts_scalar bytes → n ≡ length t
scalars-counted t bytes n same counted = counted ∙ ap (count_by starts_scalar) (sym same) ∙ starts-utf8 t

pub units-counted : (t bytes : List ℕ) (n : ℕ) → utf8 t ≡ bytes → n ≡ count_by starts_scalar bytes + count_by starts_pair bytes → n ≡ length (utf16 t)
units-counted t bytes n same counted =
    omega (arith, counted, ap (count_by starts_scalar) same, ap (count_by starts_pair) same, starts-utf8 t, pairs-utf8 t)
