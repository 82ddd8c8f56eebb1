use Rattle.std.proofs.Common.{◌≡◌, ◌≢◌, [], true, All, ap, ◌∙◌, sym, subst}
use Rattle.batch_workers.specs.Ops.{op_replies, text_after_ops, is_at}
use Rattle.batch_workers.proofs.Working.{at-finds}
use Rattle.batch_workers.proofs.workers.do_ops.Goals as goal

pub returns : goal.returns
returns g c =
    let e = c.in_ok-replies.ensures in
    let same = c.as_slice.ensures in
    record {
      answers = e.answers ∙ ap (op_replies c.args.task.job.value.text c.args.spent) same;
      text = e.text ∙ ap (text_after_ops c.args.task.job.value.text) same;
      unedited = e.unedited;
      shown = e.shown;
      learned = λ some asked may show. e.learned (subst (λ l. l ≢ []) (sym same) some) (at-finds _ (subst (All (λ op. is_at op ≡ true)) (sym same) asked)) may show;
      events = e.worked.worked.events;
      did = e.worked.worked.did;
      published = e.worked.worked.published;
      retained = e.worked.worked.retained;
      credits = e.credits;
      heap = e.heap;
    }
