-- Ops in order, as far as they are done.
use Rattle.std.proofs.Common.{◌≡◌, sym, ap, ◌∙◌, ℕ, suc, ◌+◌, ◌<◌, List, [], ◌∷◌, ◌++◌, length, get_or, take, drop, add-one, append_assoc, drop-cons}
use Rattle.std.proofs.lemmas.List.Sums.{fold_more}
use Rattle.query_lines.specs.declared.op.Op.{Op}
use Rattle.query_lines.specs.declared.reply.OpReply.{OpReply}
use Rattle.batch_workers.specs.Ops.{op_reply, op_replies, text_after, text_after_ops, text_bytes}

-- the op at a place, and those after it
split : (ops : List Op) (i : ℕ) (o : Op) → i < length ops → o ≡ get_or ops i o → drop i ops ≡ o ∷ drop (i + 1) ops
split ops i o h is = drop-cons ops i o h ∙ ap (λ x. x ∷ drop (suc i) ops) (sym is) ∙ ap (λ k. o ∷ drop k ops) (sym (add-one i))

-- the text after one op more
pub text-more : (t now next : List ℕ) (ops : List Op) (i : ℕ) (o : Op) → i < length ops → o ≡ get_or ops i o → now ≡ text_after_ops t (take i ops) → next ≡ text_after now o
    → next ≡ text_after_ops t (take (i + 1) ops)
text-more t now next ops i o h at before after =
    after ∙ ap (λ text. text_after text o) before ∙ ap (text_after (text_after_ops t (take i ops))) at ∙ sym (fold_more text_after t ops i o h)

-- the answers, one more of which is given
pub answers-more : (done whole : List OpReply) (now next : List ℕ) (spent later : ℕ) (reply : OpReply) (ops : List Op) (i : ℕ) (o : Op) → i < length ops → o ≡ get_or ops i o
    → reply ≡ op_reply now spent o → next ≡ text_after now o → later ≡ spent + text_bytes reply
    → done ++ op_replies now spent (drop i ops) ≡ whole → (done ++ reply ∷ []) ++ op_replies next later (drop (i + 1) ops) ≡ whole
answers-more done whole now next spent later reply ops i o h at answered after bytes so_far =
    let rest = drop (i + 1) ops in
    let here = op_reply now spent o in
    append_assoc done (reply ∷ []) (op_replies next later rest)
    ∙ ap (λ r. done ++ (r ∷ op_replies next later rest)) answered
    ∙ ap (λ text. done ++ (here ∷ op_replies text later rest)) after
    ∙ ap (λ n. done ++ (here ∷ op_replies (text_after now o) n rest)) (bytes ∙ ap (λ r. spent + text_bytes r) answered)
    ∙ ap (λ l. done ++ op_replies now spent l) (sym (split ops i o h at))
    ∙ so_far
