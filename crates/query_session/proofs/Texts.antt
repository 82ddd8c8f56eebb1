-- The texts after a command, and its reply.
use Rattle.std.proofs.Common.{◌≡◌, sym, ap, ◌∙◌, true, List, ℕ, Some, None, is_some}
use Rattle.std.proofs.lemmas.Bool.{cond-true, cond-false}
use Rattle.std.specs.FinMap as finite
use Rattle.str_value.specs.Meaning.{Meaning}
use Rattle.query_lines.specs.declared.reply.Refusal.TheVariants as refusal
use Rattle.query_lines.specs.declared.reply.Reply.{Reply}
use Rattle.query_lines.specs.declared.reply.Reply.TheVariants as reply
use Rattle.query_session.specs.State.{State, text_of, is_in_use, has_room, store}
use Rattle.query_session.specs.Reply.{copy_reply, drop_reply, load_reply, counts_of}
use Rattle.query_session.specs.Values.{Values, texts_of}
use Rattle.query_session.specs.Steps.{CopiedIn}
use Rattle.query_session.proofs.States.{store-same}
use Rattle.query_session.proofs.Sums.{texts-insert, texts-remove, has-texts}
use Rattle.query_session.proofs.Maps.{remove-absent}
use Rattle.query_session.proofs.Held.{text_in_use}
use Rattle.slot_table.specs.Owners.{PassSeen}

-- a value that was stored, with the reply to a load
pub load-stored : (m n : Values) (name text : List ℕ) (v : Meaning) (r : Reply) → has_room (texts_of m) name ≡ true → v.text ≡ text → n ≡ finite.insert m name v
    → r ≡ counts_of v.text → ◌≡◌ {A = Reply × State} (r, texts_of n) (load_reply (texts_of m) name text)
load-stored m n name text v r room same now counts =
    let after : texts_of n ≡ store (texts_of m) name text = ap texts_of now ∙ (texts-insert m name v ∙ ap (store (texts_of m) name) same) in
    (λ i. ((counts ∙ ap counts_of same) i, after i)) ∙ sym (cond-true (has_room (texts_of m) name) _ _ room)

-- the values after a copy was taken show the same texts
pub copied-texts : (m middle : Values) (source : List ℕ) (p r : PassSeen) (v : Meaning) → CopiedIn m source p middle r v → texts_of middle ≡ texts_of m
copied-texts m middle source p r v k =
    ap texts_of k.now ∙ (texts-insert m source k.after ∙ (ap (store (texts_of m) source) k.same ∙ store-same (texts_of m) source k.before.text (text_in_use m source k.before k.found)))

-- a copy that was stored
pub copy-stored : (m middle n : Values) (to source : List ℕ) (p r : PassSeen) (v : Meaning) → has_room (texts_of m) to ≡ true → CopiedIn m source p middle r v
    → n ≡ finite.insert middle to v → ◌≡◌ {A = Reply × State} (reply.Copied, texts_of n) (copy_reply (texts_of m) to source (text_of (texts_of m) source))
copy-stored m middle n to source p r v room k now =
    let s = texts_of m in
    let after : texts_of n ≡ store s to k.before.text =
    ap texts_of now ∙ (texts-insert middle to v ∙ (λ i. store (copied-texts m middle source p r v k i) to (k.text i))) in
    let pair = cond-true (has_room s to) (reply.Copied, store s to k.before.text) (reply.Refused refusal.TooManyNames, s) room in
    ap (λ (t : State). (reply.Copied, t)) after ∙ (sym pair ∙ sym (ap (copy_reply s to source) (text_in_use m source k.before k.found)))

-- a name that was dropped, and one that isn't there
pub drop-there : (m n : Values) (name : List ℕ) (v : Meaning) → finite.get m name ≡ Some v → n ≡ finite.remove m name
    → ◌≡◌ {A = Reply × State} (reply.Dropped, texts_of n) (drop_reply (texts_of m) name)
drop-there m n name v found now =
    ap (λ (t : State). (reply.Dropped, t)) (ap texts_of now ∙ texts-remove m name)
    ∙ sym (cond-true (is_in_use (texts_of m) name) _ _ (has-texts m name ∙ ap is_some found))

pub drop-none : (m n : Values) (name : List ℕ) → finite.get m name ≡ None → n ≡ finite.remove m name
    → ◌≡◌ {A = Reply × State} (reply.Refused (refusal.NoName name), texts_of n) (drop_reply (texts_of m) name)
drop-none m n name none now =
    ap (λ (t : State). (reply.Refused (refusal.NoName name), t)) (ap texts_of (now ∙ remove-absent m name none))
    ∙ sym (cond-false (is_in_use (texts_of m) name) _ _ (has-texts m name ∙ ap is_some none))
