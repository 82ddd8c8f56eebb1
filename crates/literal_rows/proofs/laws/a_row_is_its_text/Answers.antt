use Rattle.text_spec.proofs.Listed.{utf8-bytes}
use Rattle.word_units.proofs.Packed.{bytes-denoted}
use Rattle.literal_rows.proofs.laws.a_row_is_its_text.Goals as goal

pub returns-clause-text : goal.returns-clause-text
returns-clause-text c bytes ok = bytes-denoted bytes (utf8-bytes bytes ok) ok
