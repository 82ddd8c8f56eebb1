-- What lines ask of the storage, computed at contents worked out by hand.
use Rattle.std.proofs.Common.{◌≡◌, refl, true, false, [], ◌∷◌, ◌++◌, replicate}
use Rattle.query_lines.specs.declared.command.Command.TheVariants as command
use Rattle.query_lines.specs.declared.command.Content.TheVariants as content
use Rattle.query_lines.specs.declared.reply.OpReply.TheVariants as answer
use Rattle.query_lines.specs.declared.reply.Reply.TheVariants as reply
use Rattle.query_program.specs.Use.{edits_told, is_slot_load, needs_crumbs, shared_in, fresh_after}

-- 15 bytes stand in a value's two words, 16 in a slot; units never count as a slot load
short_load : is_slot_load (content.Text (replicate 15 0x61)) ≡ false
short_load = refl

slot_load : is_slot_load (content.Text (replicate 16 0x61)) ≡ true
slot_load = refl

units_load : is_slot_load (content.Units (replicate 16 0x61)) ≡ false
units_load = refl

-- 64 bytes of which some are no ASCII need breadcrumbs; 63 are too few, and 64 letters of one byte are ASCII
long_text : needs_crumbs (replicate 63 0xC3 ++ 0xA9 ∷ []) ≡ true
long_text = refl

short_text : needs_crumbs (replicate 62 0xC3 ++ 0xA9 ∷ []) ≡ false
short_text = refl

ascii_text : needs_crumbs (replicate 64 0x61) ≡ false
ascii_text = refl

-- a copy onto itself shares nothing
copy_onto_itself : shared_in (command.Copy (0x61 ∷ []) (0x61 ∷ [])) ≡ 0
copy_onto_itself = refl

copy_to_another : shared_in (command.Copy (0x61 ∷ []) (0x62 ∷ [])) ≡ 1
copy_to_another = refl

-- two edits were done, and a third was refused
edits_of_ops : edits_told (reply.Results (answer.Counts 1 1 1 ∷ answer.TooLong ∷ answer.Counts 2 2 2 ∷ answer.Number 2 ∷ [])) ≡ 2
edits_of_ops = refl

-- a load makes its name fresh, an `on` line asks it
loaded_is_fresh : fresh_after (λ q. false) (command.Load (0x61 ∷ []) (content.Literal 0)) (0x61 ∷ []) ≡ true
loaded_is_fresh = refl

asked_is_not_fresh : fresh_after (λ q. true) (command.On (0x61 ∷ []) []) (0x61 ∷ []) ≡ false
asked_is_not_fresh = refl

another_stays_fresh : fresh_after (λ q. true) (command.On (0x61 ∷ []) []) (0x62 ∷ []) ≡ true
another_stays_fresh = refl
