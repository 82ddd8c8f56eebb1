-- Words of one's own denote their text.
use Rattle.std.proofs.Common.{◌≡◌, refl, sym, ap, subst, ℕ, ◌<◌, List, [], length, Option, Some, None, IsSome, arith}
use Rattle.std.specs.Option.{unwrap_or}
use Rattle.text_spec.specs.declared.encoding.Encoding.{Encoding}
use Rattle.text_spec.specs.Packed.{content_words, denoted_text}
use Rattle.text_spec.specs.Views.{size_in}
use Rattle.text_spec.proofs.Denoting.{denoted_size, denoted_room}
use Rattle.word_units.specs.Owned.{text_of}

some_is : (o : Option (List ℕ)) → IsSome o → o ≡ Some (unwrap_or o [])
some_is (Some x) h = refl
some_is None h = cc

pub text_of-denoted : (e : Encoding) (ws : List ℕ) (n : ℕ) → IsSome (denoted_text e ws n) → denoted_text e ws n ≡ Some (text_of (ws, e, n))
text_of-denoted e ws n h = some_is (denoted_text e ws n) h

-- a word that the code units take is one of the vector's
pub word_inside : (ws : List ℕ) (e : Encoding) (n : ℕ) (v : List ℕ × Encoding × ℕ) (k : ℕ) → IsSome (denoted_text e ws n) → (ws, e, n) ≡ v
    → k < content_words (v.1) (size_in (v.1) (text_of v)) → k < length ws
word_inside ws e n v k some same h =
    let is = text_of-denoted e ws n some in
    let inside : k < content_words e (size_in e (text_of (ws, e, n))) = subst (λ t. k < content_words (t.1) (size_in (t.1) (text_of t))) (sym same) h in
    omega (arith, inside, denoted_room e ws n _ is, ap (content_words e) (denoted_size e ws n _ is))
