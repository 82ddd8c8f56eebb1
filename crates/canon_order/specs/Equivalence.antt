-- Canonical equivalence of texts, and the order that goes with it. A text is a list of Unicode scalars, and `nfc` is its
-- normalization form C (Unicode Standard Annex 15; The Unicode Standard, section 3.11, D120).
use Rattle.std.specs.Prelude.{◌≡◌, ℕ, List}
use Rattle.std.specs.Cmp.Lexicographic.{slice_cmp}
use Rattle.std.specs.Ordering.{nat_cmp}
use Rattle.std.specs.declared.cmp.Ordering.{Ordering}
use Rattle.text_spec.specs.Text.{utf8}
use Rattle.unicode_normalization.specs.Forms.{nfc}

-- two texts are canonically equivalent: they have one form C. The law `one_form_is_one_decomposition` says it by decompositions.
abbrev pub IsEquivalent : List ℕ → List ℕ → Type 0
IsEquivalent a b = nfc a ≡ nfc b

-- two texts compare as the scalars of their forms do: the first that differ decide, and a proper prefix is less (ours)
abbrev pub order_of : List ℕ → List ℕ → Ordering
order_of a b = slice_cmp nat_cmp (nfc a) (nfc b)

-- the bytes that stand for a text where byte strings are sorted: the UTF-8 of its form (ours)
abbrev pub sort_key : List ℕ → List ℕ
sort_key a = utf8 (nfc a)
