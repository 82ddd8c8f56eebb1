-- Bytes that are loaded: those of a text, and others.
use Rattle.std.proofs.Common.{◌≡◌, refl, Bool, true, false, List, ℕ, IsUtf8, chars}
use Rattle.std.specs.Str.{is_utf8}
use Rattle.std.specs.Str.Lossy.{utf8_valid_len}
use Rattle.std.proofs.lemmas.Bool.{cond-true, cond-false}
use Rattle.std.proofs.lemmas.Str.{IsUtf8-from_is_utf8, is_utf8-from_IsUtf8}
use Rattle.query_lines.specs.declared.reply.Refusal.TheVariants as refusal
use Rattle.query_lines.specs.declared.reply.Reply.{Reply}
use Rattle.query_lines.specs.declared.reply.Reply.TheVariants as reply
use Rattle.query_session.specs.State.{State}
use Rattle.query_session.specs.Reply.{load_reply, load_bytes_reply}

isnt : (b : Bool) → (b ≡ true → ⊥) → b ≡ false
isnt true h = absurd (h refl)
isnt false h = refl

-- what bytes are answered of which n, from the start, are those of a text
abbrev pub refused_at : State → ℕ → Reply × State
refused_at s n = (reply.Refused (refusal.NotUtf8 n), s)

pub load-bytes : (s : State) (name bytes : List ℕ) → IsUtf8 bytes → load_bytes_reply s name bytes ≡ load_reply s name (chars bytes)
load-bytes s name bytes h = cond-true (is_utf8 bytes) _ _ (is_utf8-from_IsUtf8 bytes h)

pub load-others : (s : State) (name bytes : List ℕ) → ¬ (IsUtf8 bytes) → load_bytes_reply s name bytes ≡ refused_at s (utf8_valid_len bytes)
load-others s name bytes h = cond-false (is_utf8 bytes) _ _ (isnt (is_utf8 bytes) (λ is. h (IsUtf8-from_is_utf8 bytes is)))
