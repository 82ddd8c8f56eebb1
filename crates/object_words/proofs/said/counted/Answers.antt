use Rattle.std.proofs.Common.{rules, sym, ap, ◌∙◌, Some, true≢false}
use Rattle.object_words.proofs.Forms.{native_again, literal_again, foreign_again, owned_again, ascii_nfc, owned_nfc, no_other_form}
use Rattle.object_words.proofs.said.counted.Goals as goal

pub returns-in-0 : goal.returns-in-0
returns-in-0 c row d below =
    ap Some (sym c.native.ensures.says ∙ rw (c.bit-ascii.ensures, c.bit-nfc.ensures, c.unit_count-count.ensures) (native_again row _ _ (search rules) d c.in-0.is))

pub returns-in-128 : goal.returns-in-128
returns-in-128 c row d below =
    ap Some (sym c.literal.ensures.says ∙ rw (c.bit-ascii.ensures, c.bit-nfc.ensures, c.unit_count-count.ensures) (literal_again row _ _ (search rules) d c.in-128.is))

pub returns-in-16 : goal.returns-in-16
returns-in-16 c row d below =
    ap Some (sym c.foreign.ensures.says ∙ rw (c.bit-ascii.ensures, c.unit_count-count.ensures) (foreign_again row _ _ (search rules) d c.in-16.is))

pub returns-then-not-nfc : goal.returns-then-not-nfc
returns-then-not-nfc c row d below =
    let in_nfc = ascii_nfc row _ _ (search rules) d below (sym c.bit-ascii.ensures ∙ c.if-ascii.true) in
    absurd (true≢false (sym in_nfc ∙ (sym c.bit-nfc.ensures ∙ c.if-not-nfc.true)))

pub returns-in-32 : goal.returns-in-32
returns-in-32 c row d below =
    c.owned.ensures (rw (c.marks_utf16-utf16.ensures, c.bit-nfc.ensures, c.bit-ascii.ensures) (owned_nfc row _ _ (search rules) d c.in-32.is))
    ∙ ap Some (rw (c.marks_utf16-utf16.ensures, c.bit-ascii.ensures, c.bit-nfc.ensures, c.unit_count-count.ensures) (owned_again row _ _ (search rules) d c.in-32.is))

pub returns-in_default : goal.returns-in_default
returns-in_default c row d below =
    absurd (no_other_form row _ _ (search rules) d below (search rules) (search rules) (search rules) (search rules))
