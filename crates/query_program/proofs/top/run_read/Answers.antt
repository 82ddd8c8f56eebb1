use Rattle.std.proofs.Common.{◌≡◌, ◌⊎◌, ◌↔◌, sym, subst, IfSome, IsSome}
use Rattle.outside.specs.Causes.{Rose}
use Rattle.query_program.specs.Answers.{empty}
use Rattle.query_program.specs.Limits.{HasLongLine, HasTooManyBytes, IsWithin}
use Rattle.query_program.specs.Statuses.{IsUnhindered}
use Rattle.query_program.proofs.Statuses.{if_some, decided, complete}
use Rattle.query_program.proofs.Histories.{history-there}
use Rattle.query_program.proofs.top.run_read.Goals as goal

pub returns-clause-line_too_long : goal.returns-clause-line_too_long
returns-clause-line_too_long g c = λ free.
    if_some _ _ _ (λ input d. subst (λ s. (s ≡ 6) ↔ HasLongLine input) (sym c.status_of.ensures) d.line)
    (decided empty _ _ _ _ c.answer_input-end.result.end c.answer_input-end.ensures.ends (subst IsUnhindered c.status_of.ensures free))

pub returns-clause-input_too_long : goal.returns-clause-input_too_long
returns-clause-input_too_long g c = λ free.
    if_some _ _ _ (λ input d. subst (λ s. (s ≡ 7) ↔ HasTooManyBytes input) (sym c.status_of.ensures) d.long)
    (decided empty _ _ _ _ c.answer_input-end.result.end c.answer_input-end.ensures.ends (subst IsUnhindered c.status_of.ensures free))

pub returns-clause-within : goal.returns-clause-within
returns-clause-within g c = λ free.
    if_some _ _ _ (λ input d. subst (λ s. (s ≡ 0) ↔ IsWithin input) (sym c.status_of.ensures) d.fine)
    (decided empty _ _ _ _ c.answer_input-end.result.end c.answer_input-end.ensures.ends (subst IsUnhindered c.status_of.ensures free))

pub returns-clause-complete : goal.returns-clause-complete
returns-clause-complete g c =
    subst (λ s. IfSome (g.S.Source.left c.args.source.now) (λ input. IsWithin input → ¬ (Rose (g.S.Source.faults c.args.source.now) (g.S.Source.faults c.answer_input-end.new.source))
    → ¬ (Rose (g.K.Sink.faults c.args.sink.now) (g.K.Sink.faults c.answer_input-end.new.sink)) → (s ≡ 0) ⊎ (s ≡ 5))) (sym c.status_of.ensures)
    (complete empty _ _ _ _ c.answer_input-end.result.end _ _ c.answer_input-end.ensures.ends c.answer_input-end.ensures.read c.answer_input-end.ensures.write)

pub returns-clause-history : goal.returns-clause-history
returns-clause-history g c =
    subst (λ s. IsSome c.answer_input-end.result.history ↔ ((s ≡ 2 → ⊥) × (s ≡ 5 → ⊥))) (sym c.status_of.ensures)
    (history-there c.answer_input-end.result.end c.answer_input-end.result.history c.answer_input-end.ensures.history)
