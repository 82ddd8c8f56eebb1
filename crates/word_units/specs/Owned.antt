-- What words of one's own are as a text.
use Rattle.std.specs.Prelude.{ℕ, List, []}
use Rattle.std.specs.Option.{unwrap_or}
use Rattle.text_spec.specs.declared.encoding.Encoding.{Encoding}
use Rattle.text_spec.specs.Packed.{denoted_text}

-- the text that words, their encoding and their number of code units denote
abbrev pub text_of : List ℕ × Encoding × ℕ → List ℕ
text_of t = unwrap_or (denoted_text (t.1) (t.0) (t.2)) []
