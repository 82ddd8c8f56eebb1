-- Packed words and rounding, computed at texts worked out by hand.
use Rattle.std.proofs.Common.{◌≡◌, refl, [], ◌∷◌, Some, None}
use Rattle.std.specs.Char.{len_utf8}
use Rattle.text_spec.specs.declared.encoding.Encoding.TheVariants.{Utf8}
use Rattle.text_spec.specs.Offsets.{len_utf16}
use Rattle.text_spec.specs.Packed.{bytes_of, units_of, content_words}
use Rattle.text_spec.specs.Rounding.{resolve_own, resolve_other, scalar_floor, other_floor, other_index, other_offset}
use Rattle.text_spec.specs.Views.{part}

-- "hello, w" and "orld" in two words
packed_bytes : bytes_of (0x77202C6F6C6C6568 ∷ 0x646C726F ∷ []) 12 ≡ 104 ∷ 101 ∷ 108 ∷ 108 ∷ 111 ∷ 44 ∷ 32 ∷ 119 ∷ 111 ∷ 114 ∷ 108 ∷ 100 ∷ []
packed_bytes = refl

-- a pair and a lone half, in one word
packed_units : units_of (0xD800DE00D83D ∷ []) 3 ≡ 0xD83D ∷ 0xDE00 ∷ 0xD800 ∷ []
packed_units = refl

nine_bytes_take_two : content_words Utf8 9 ≡ 2
nine_bytes_take_two = refl

middle : part (97 ∷ 233 ∷ 98 ∷ []) 1 2 ≡ 233 ∷ []
middle = refl

-- UTF-16 offset 1 of a letter of two bytes is byte 2
across_a_letter : resolve_other len_utf8 len_utf16 (233 ∷ []) 0 1 1 ≡ Some (2, 0)
across_a_letter = refl

past_the_end : resolve_own len_utf8 (97 ∷ 98 ∷ 99 ∷ []) 0 3 (4, 0) ≡ None
past_the_end = refl

at_the_end : resolve_own len_utf8 (97 ∷ 98 ∷ 99 ∷ []) 0 3 (3, 0) ≡ Some (3, 0)
at_the_end = refl

-- byte 1 of a pair of units stays, byte 4 doesn't
byte_of_pair : other_floor len_utf16 len_utf8 (128512 ∷ []) 2 (0, 1) ≡ (0, 1)
byte_of_pair = refl

no_byte_of_pair : other_floor len_utf16 len_utf8 (128512 ∷ []) 2 (0, 4) ≡ (0, 0)
no_byte_of_pair = refl

-- the second half of a pair stays in UTF-8 storage, and that of a scalar of one unit doesn't
half_of_pair : other_floor len_utf8 len_utf16 (128512 ∷ []) 4 (0, 1) ≡ (0, 1)
half_of_pair = refl

no_half : other_floor len_utf8 len_utf16 (233 ∷ []) 2 (0, 1) ≡ (0, 0)
no_half = refl

inside_a_scalar : scalar_floor len_utf8 (128512 ∷ []) (3, 1) ≡ (0, 0)
inside_a_scalar = refl

second_half_is_offset_two : other_offset len_utf8 len_utf16 (97 ∷ 128512 ∷ []) 0 (1, 1) ≡ 2
second_half_is_offset_two = refl

offset_two_is_second_half : other_index len_utf8 len_utf16 (97 ∷ 128512 ∷ []) 0 2 ≡ (1, 1)
offset_two_is_second_half = refl
