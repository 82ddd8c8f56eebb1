use Rattle.std.proofs.Common.{List, ℕ, refl, ◌∙◌, subst}
use Rattle.query_session.specs.Copied.{CopiedIn}
use Rattle.query_session.proofs.Copying.{copying_none, copying_more}
use Rattle.query_session.proofs.Texts.{copied-texts}
use Rattle.query_session.proofs.batch.copies.Goals as goal

pub loop-line-init : goal.loop-line-init
loop-line-init c = record {
  copying = copying_none c.args.names.now c.args.pass.now c.args.lines.items c.into_iter-line-iterator.result.rest.items _ _ c.into_iter-line-iterator.ensures.into_iter_gives.0
      c.in_ok-jobs.ensures.items c.in_ok-keeps.ensures.items c.requires.sound c.requires.named c.requires.well_formed;
}

pub loop-line-preserved : goal.loop-line-preserved
loop-line-preserved c =
    let line = c.in-Some.line in
    let e = c.in_ok-value.ensures in
    let copied = subst (λ (name : List ℕ). CopiedIn c.loop-line.names name c.loop-line.pass c.copy.new.self c.copy.new.pass c.in_ok-value.value) (c.as_str.ensures.value ∙ c.string_of.ensures) e.copied in
    record {
      copying = copying_more c.args.names.now c.loop-line.names c.copy.new.self c.args.pass.now c.loop-line.pass c.copy.new.pass c.args.lines.items
          c.loop-line.line-iterator.rest.items c.next.new.self.rest.items c.loop-line.jobs.items c.push.new.self.items c.loop-line.keeps.items c.push-in-loop-line.new.self.items
          line (record { value = c.in_ok-value.value; ops = line.ops }) c.string_or_none.result c.loop-line.invariant.copying c.in-Some.ensures.steps.0
          c.in_ok-push.ensures.items c.in_ok-push-2.ensures.items c.requires.enough c.requires.jobs copied e.sound e.credits e.heap refl c.string_or_none.ensures;
    }

-- where memory is wanting after a copy, the texts are as they were
pub returns-in_err-push-clause-texts : goal.returns-in_err-push-clause-texts
returns-in_err-push-clause-texts c =
    copied-texts c.loop-line.names c.copy.new.self c.as_str.result.now c.loop-line.pass c.copy.new.pass c.in_ok-value.value c.in_ok-value.ensures.copied
    ∙ c.loop-line.invariant.copying.copies.texts

pub returns-in_err-push-2-clause-texts : goal.returns-in_err-push-2-clause-texts
returns-in_err-push-2-clause-texts c =
    copied-texts c.loop-line.names c.copy.new.self c.as_str.result.now c.loop-line.pass c.copy.new.pass c.in_ok-value.value c.in_ok-value.ensures.copied
    ∙ c.loop-line.invariant.copying.copies.texts
