-- Ops on the text of a name.
use Rattle.std.proofs.Common.{◌≡◌, sym, ap, ◌∙◌, ℕ, List, Some, None, Result, Ok, Err, OnErr, take}
use Rattle.query_lines.specs.declared.op.Op.{Op}
use Rattle.query_lines.specs.declared.reply.OpReply.{OpReply}
use Rattle.query_lines.specs.declared.reply.Refusal.TheVariants as refusal
use Rattle.query_lines.specs.declared.reply.Reply.{Reply}
use Rattle.query_lines.specs.declared.reply.Reply.TheVariants as reply
use Rattle.batch_workers.specs.Ops.{op_replies, text_after_ops}
use Rattle.query_session.specs.State.{State, text_of, store}
use Rattle.query_session.specs.Reply.{on_reply}

-- what is known anyway holds where there is an error
pub whatever : {T E : Type 0} (r : Result T E) (P : Type 0) → P → OnErr r P
whatever (Ok x) P p = tt
whatever (Err e) P p = p

-- all of them are done
pub ran : (s n : State) (name text : List ℕ) (ops : List Op) (replies : List OpReply) → text_of s name ≡ Some text → replies ≡ op_replies text 0 ops
    → n ≡ store s name (text_after_ops text ops) → ◌≡◌ {A = Reply × State} (reply.Results replies, n) (on_reply s name ops (text_of s name))
ran s n name text ops replies there answered stored =
    ap (λ r. (reply.Results r, n)) answered ∙ ap (λ m. (reply.Results (op_replies text 0 ops), m)) stored ∙ sym (ap (on_reply s name ops) there)

-- some first ones are done
pub ran-some : (s n : State) (name text : List ℕ) (ops : List Op) (k : ℕ) → text_of s name ≡ Some text → n ≡ store s name (text_after_ops text (take k ops))
    → n ≡ (on_reply s name (take k ops) (text_of s name)).1
ran-some s n name text ops k there stored = stored ∙ sym (ap (λ o. (on_reply s name (take k ops) o).1) there)

-- the name isn't in use
pub ran-none : (s n : State) (name : List ℕ) (ops : List Op) → text_of s name ≡ None → n ≡ s
    → ◌≡◌ {A = Reply × State} (reply.Refused (refusal.NoName name), n) (on_reply s name ops (text_of s name))
ran-none s n name ops none same = ap (λ m. (reply.Refused (refusal.NoName name), m)) same ∙ sym (ap (on_reply s name ops) none)
