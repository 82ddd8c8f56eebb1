-- What the words of a slot denote, where a list of breadcrumbs fits them.
use Rattle.std.proofs.Common.{◌≡◌, sym, ap, subst, ◌∙◌, ℕ, ◌+◌, ◌/◌, ◌^◌, ◌<◌, ◌≤◌, Bool, false, List, [], ◌∷◌, length, drop, get_or, arith, Some, if◌then◌else◌}
use Rattle.std.specs.Option.{unwrap_or}
use Rattle.text_spec.specs.declared.encoding.Encoding.TheVariants.{Utf8, Utf16}
use Rattle.std.proofs.lemmas.Nat.{div-add-mod', le-div}
use Rattle.index_words.specs.Crumbs.{size16}
use Rattle.text_spec.specs.Packed.{content_words, denoted_text}
use Rattle.text_spec.specs.Views.{size_in}
use Rattle.text_spec.proofs.Denoting.{denoted_size, denoted_room}
use Rattle.crumbs.proofs.Crumbing.{size16-le}
use Rattle.crumbs.specs.Fitting.{stored_text, IsCrumbList}
use Rattle.object_words.specs.CountWord.{marks_utf16, unit_count}

pub record Sample (words : List ℕ) : Type 0 where
  pub some : 0 < length words
  pub denoted : denoted_text Utf8 (drop 1 words) (unit_count (get_or words 0 0)) ≡ Some (unwrap_or (stored_text words) [])
  pub size : unit_count (get_or words 0 0) ≡ size_in Utf8 (unwrap_or (stored_text words) [])
  pub room : content_words Utf8 (unit_count (get_or words 0 0)) + 1 ≤ length words

sampled_words : (words text : List ℕ) → marks_utf16 (get_or words 0 0) ≡ false → stored_text words ≡ Some text → Sample words
sampled_words [] text utf8 stored = cc
sampled_words (word ∷ content) text utf8 stored =
    let is : denoted_text Utf8 content (unit_count word) ≡ Some text =
    ap (λ b. denoted_text (if b then Utf16 else Utf8) content (unit_count word)) (sym utf8) ∙ stored in
    let text_is : text ≡ unwrap_or (stored_text (word ∷ content)) [] = ap (λ o. unwrap_or o []) (sym stored) in
    let denoted : denoted_text Utf8 content (unit_count word) ≡ Some (unwrap_or (stored_text (word ∷ content)) []) = is ∙ ap Some text_is in
    record {
      some = omega arith;
      denoted = denoted;
      size = denoted_size Utf8 content (unit_count word) _ denoted;
      room = omega (arith, denoted_room Utf8 content (unit_count word) _ denoted);
    }

pub sampled : (n : ℕ) (words side : List ℕ) → IsCrumbList n words side → Sample words
sampled n words side l = sampled_words words l.text l.utf8 l.stored

-- a content word is one of the slot's, behind its count word
pub word_in : (n : ℕ) (words side : List ℕ) (v : List ℕ × List ℕ × Bool) (k : ℕ) → IsCrumbList n words side → {tells : Bool} → (words, side, tells) ≡ v
    → k < content_words Utf8 (size_in Utf8 (unwrap_or (stored_text (v.0)) [])) → (k + 1 < length words) × (k < 2 ^ 48)
word_in n words side v k l {tells} same h =
    let s = sampled n words side l in
    let inside : k < content_words Utf8 (size_in Utf8 (unwrap_or (stored_text words) [])) =
    subst (λ t. k < content_words Utf8 (size_in Utf8 (unwrap_or (stored_text (t.0)) []))) (sym same) h in
    (omega (arith, inside, s.room, s.size), omega (arith, inside, s.size))

-- no more breadcrumbs than bytes at the stride
pub few_crumbs : (b : List ℕ) (n count : ℕ) → 1 ≤ n → count ≡ size_in Utf8 b → size16 b / n ≤ count / n
few_crumbs b n count some is =
    le-div (size16 b / n) count n some (omega (arith, div-add-mod' (size16 b) n, size16-le Utf8 b, is))
