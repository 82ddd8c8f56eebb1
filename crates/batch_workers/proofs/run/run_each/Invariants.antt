use Rattle.std.proofs.Common.{◌≡◌, ◌<◌, ◌≤◌, ◌++◌, drop, take, true, false, All}
use Rattle.slot_accounts.specs.Account.{sum_of}
use Rattle.str_value.specs.Meaning.{side_of, is_there}
use Rattle.object_words.specs.Rows.{form_of}
use Rattle.object_words.specs.declared.form.Form.TheVariants.{Native}
use Rattle.query_lines.specs.Replies.{IsShownOp}
use Rattle.batch_workers.specs.Ops.{answer_limit, op_replies, text_after_ops, is_counts, is_at, finds_places}
use Rattle.batch_workers.specs.Working.{IsRead, IsSoleIfNative, IsForSlot, Affords, IsSoonQuick, Learnable, edits_of}
use Rattle.batch_workers.proofs.Working.{IsRunTo}
use Rattle.batch_workers.proofs.Reading.{IsSpent}
use Rattle.batch_workers.proofs.run.run_each.Given as goal

abbrev pub invariant-loop-op : goal.invariant-loop-op
invariant-loop-op g l =
    record {
      answers : l.replies.items ++ op_replies l.s.text l.answered (drop l.op-index l.ops) ≡ op_replies l.fn.s.text l.fn.spent l.ops;
      so_far : l.s.text ≡ text_after_ops l.fn.s.text (take l.op-index l.ops);
      unedited : All (λ reply. is_counts reply ≡ false) l.replies.items → IsRead l.fn.s l.s;
      sole : IsSoleIfNative l.fn.s → IsSoleIfNative l.s;
      shown : All IsShownOp l.replies.items;
      within : l.answered ≤ answer_limit;
      run : IsRunTo l.fn.pass l.fn.s l.ops l.op-index l.pass l.s (sum_of edits_of l.replies.items);
      native : 1 ≤ sum_of edits_of l.replies.items → IsForSlot l.fn.pass l.s.text → Affords l.fn.pass (sum_of edits_of l.replies.items) → form_of l.s.row ≡ Native;
      at_most : sum_of edits_of l.replies.items ≤ l.op-index;
      learned : All (λ op. finds_places op ≡ true) l.ops → Learnable l.fn.pass l.fn.s → Learnable l.pass l.s × (0 < l.op-index → is_there (side_of l.s.place) ≡ true);
      cost : All (λ op. is_at op ≡ true) l.ops → IsSoonQuick l.fn.pass l.fn.s → IsSpent l.fn.s l.fn.steps l.op-index l.pass l.s l.steps;
    }
