use Rattle.std.proofs.Common.{◌+◌, ◌∙◌, ap, sym, arith, Some, None, IfSome, drop, subst}
use Rattle.std.specs.Prelude.{option_and_then}
use Rattle.std.proofs.lemmas.List.{drop_all}
use Rattle.std.proofs.lemmas.Str.Pattern.{split_parts}
use Rattle.query_program.specs.Words.{options_of, asked_from, IsInRange}
use Rattle.query_program.proofs.Ranges.{in_range}
use Rattle.query_program.proofs.Equals.{in_one_at, in_two_at, alone_at}
use Rattle.query_program.proofs.words.read_words.Goals as goal

pub returns-in_err-found-in-Some-clause-told : goal.returns-in_err-found-in-Some-clause-told
unfolding options_of
returns-in_err-found-in-Some-clause-told c =
    let parts = split_parts 61 c.get-word.result.now (Some (c.in-Some.name, c.in-Some.value)) c.in-Some.ensures.cases (omega arith) in
    let e = in_one_at c.loop-at.found c.args.words.now c.loop-at.at c.get-word.result.now c.in-Some.name.now c.in-Some.value.now c.get-word.ensures parts.0 parts.1 in
    c.from_residual.ensures ∙ sym (c.loop-at.invariant ∙ (e ∙ ap (option_and_then (λ f. asked_from f (drop (c.loop-at.at + 1) c.args.words.now))) (sym c.with.ensures ∙ c.in_err-found-in-Some.was)))

pub loop-at-preserved-in-Some : goal.loop-at-preserved-in-Some
loop-at-preserved-in-Some c =
    let parts = split_parts 61 c.get-word.result.now (Some (c.in-Some.name, c.in-Some.value)) c.in-Some.ensures.cases (omega arith) in
    let e = in_one_at c.loop-at.found c.args.words.now c.loop-at.at c.get-word.result.now c.in-Some.name.now c.in-Some.value.now c.get-word.ensures parts.0 parts.1 in
    c.loop-at.invariant ∙ (e ∙ ap (option_and_then (λ f. asked_from f (drop (c.loop-at.at + 1) c.args.words.now))) (sym c.with.ensures ∙ c.in_ok-found-in-Some.was))

pub returns-then-len-at-eq1-clause-told : goal.returns-then-len-at-eq1-clause-told
unfolding options_of
returns-then-len-at-eq1-clause-told c =
    let lacks = split_parts 61 c.get-word.result.now None c.in-None.ensures.cases (omega arith) in
    sym (c.loop-at.invariant ∙ alone_at c.loop-at.found c.args.words.now c.loop-at.at c.get-word.result.now c.get-word.ensures (omega (arith, c.if-len-at-eq1.true, c.len-in-None.ensures.length)) lacks)

pub returns-in_err-found-in-None-clause-told : goal.returns-in_err-found-in-None-clause-told
unfolding options_of
returns-in_err-found-in-None-clause-told c =
    let lacks = split_parts 61 c.get-word.result.now None c.in-None.ensures.cases (omega arith) in
    let e = in_two_at c.loop-at.found c.args.words.now c.loop-at.at c.get-word.result.now c.get.result.now c.get-word.ensures c.get.ensures lacks in
    c.from_residual-in_err-found-in-None.ensures ∙ sym (c.loop-at.invariant ∙ (e ∙ ap (option_and_then (λ f. asked_from f (drop (c.loop-at.at + 2) c.args.words.now))) (sym c.with-in-None.ensures ∙ c.in_err-found-in-None.was)))

pub loop-at-preserved : goal.loop-at-preserved
loop-at-preserved c =
    let lacks = split_parts 61 c.get-word.result.now None c.in-None.ensures.cases (omega arith) in
    let e = in_two_at c.loop-at.found c.args.words.now c.loop-at.at c.get-word.result.now c.get.result.now c.get-word.ensures c.get.ensures lacks in
    c.loop-at.invariant ∙ (e ∙ ap (option_and_then (λ f. asked_from f (drop (c.loop-at.at + 2) c.args.words.now))) (sym c.with-in-None.ensures ∙ c.in_ok-found-in-None.was))

pub returns-clause-told : goal.returns-clause-told
unfolding options_of
returns-clause-told c =
    c.asked.ensures
    ∙ sym (c.loop-at.invariant ∙ ap (asked_from c.loop-at.found) (drop_all c.loop-at.at c.args.words.now (omega (arith, c.loop-at-test.false, c.len.ensures.length))))

pub returns-clause-ranges : goal.returns-clause-ranges
returns-clause-ranges c = subst (λ o. IfSome o IsInRange) (sym (returns-clause-told c)) (in_range c.args.words.now)
