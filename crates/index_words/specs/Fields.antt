-- What an index word says: its fields, and the word of given fields. No text and no operation is named here.
use Rattle.std.specs.Prelude.{◌≡◌, ℕ, ◌+◌, ◌*◌, ◌/◌, ◌%◌, ◌^◌, ◌<◌, ◌==◌, Bool, true, false, if◌then◌else◌}
use Rattle.text_spec.specs.declared.encoding.Encoding.{Encoding}
use Rattle.text_spec.specs.declared.encoding.Encoding.TheVariants.{Utf8, Utf16}
use Rattle.index_words.specs.declared.layout.TheConstants.{SCALAR_ALIGNED_BIT, CHARACTER_ALIGNED_BIT, UTF8_BIT, UTF16_BIT, ZERO_SHIFT, ZERO_WIDTH, STRIDE_SHIFT, STRIDE_WIDTH, TRANSCODED_SHIFT, TRANSCODED_WIDTH, POSITION_SHIFT, POSITION_WIDTH}

-- the words that are indices: the part between the stride and the marks is zero
abbrev pub IsIndexWord : ℕ → Type 0
IsIndexWord word = word / 2 ^ ZERO_SHIFT % 2 ^ ZERO_WIDTH ≡ 0

-- the position, in code units of the storage
abbrev pub position_of : ℕ → ℕ
position_of word = word / 2 ^ POSITION_SHIFT

-- the transcoded offset, in code units of the other encoding
abbrev pub transcoded_of : ℕ → ℕ
transcoded_of word = word / 2 ^ TRANSCODED_SHIFT % 2 ^ TRANSCODED_WIDTH

-- the cached stride, in code units of the storage; 0 is unknown
abbrev pub stride_of : ℕ → ℕ
stride_of word = word / 2 ^ STRIDE_SHIFT % 2 ^ STRIDE_WIDTH

-- whether a bit is set
abbrev pub is_set : ℕ → ℕ → Bool
is_set word bit = word / 2 ^ bit % 2 == 1

-- what equality, order and hash look at: the position with the transcoded offset
abbrev pub place_of : ℕ → ℕ
place_of word = word / 2 ^ TRANSCODED_SHIFT

-- all that an index word says
pub record Fields : Type 0 where
  pub position : ℕ
  pub transcoded : ℕ
  pub stride : ℕ
  pub utf16 : Bool
  pub utf8 : Bool
  pub character_aligned : Bool
  pub scalar_aligned : Bool

abbrev pub fields_of : ℕ → Fields
fields_of word = record {
  position = position_of word;
  transcoded = transcoded_of word;
  stride = stride_of word;
  utf16 = is_set word UTF16_BIT;
  utf8 = is_set word UTF8_BIT;
  character_aligned = is_set word CHARACTER_ALIGNED_BIT;
  scalar_aligned = is_set word SCALAR_ALIGNED_BIT;
}

-- the fields that fit their bits
pub record Fit (fields : Fields) : Type 0 where
  pub position : fields.position < 2 ^ POSITION_WIDTH
  pub transcoded : fields.transcoded < 2 ^ TRANSCODED_WIDTH
  pub stride : fields.stride < 2 ^ STRIDE_WIDTH

-- what a bit adds to the word
abbrev pub weight : Bool → ℕ → ℕ
weight set bit = if set then 2 ^ bit else 0

-- the word that says these fields and no more
abbrev pub word_of : Fields → ℕ
word_of fields = fields.position * 2 ^ POSITION_SHIFT + fields.transcoded * 2 ^ TRANSCODED_SHIFT
    + fields.stride * 2 ^ STRIDE_SHIFT + weight fields.utf16 UTF16_BIT + weight fields.utf8 UTF8_BIT
    + weight fields.character_aligned CHARACTER_ALIGNED_BIT + weight fields.scalar_aligned SCALAR_ALIGNED_BIT

abbrev pub is_utf8 : Encoding → Bool
is_utf8 Utf8 = true
is_utf8 Utf16 = false

abbrev pub is_utf16 : Encoding → Bool
is_utf16 Utf8 = false
is_utf16 Utf16 = true

-- a place marked for one encoding, of which nothing more is known
abbrev pub plain : ℕ → ℕ → Encoding → Fields
plain position transcoded encoding = record {
  position = position;
  transcoded = transcoded;
  stride = 0;
  utf16 = is_utf16 encoding;
  utf8 = is_utf8 encoding;
  character_aligned = false;
  scalar_aligned = false;
}

-- the place of a UTF-16 offset in UTF-8 storage, scalar aligned where nothing of a scalar is passed
abbrev pub crumb : ℕ → ℕ → Fields
crumb position transcoded = record (plain position transcoded Utf8) { scalar_aligned = transcoded == 0 }
