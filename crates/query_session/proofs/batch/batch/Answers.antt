use Rattle.std.proofs.Common.{sym, ap, ◌∙◌, arith}
use Rattle.query_session.specs.Batching.{first_unused}
use Rattle.query_session.specs.Values.{texts_of}
use Rattle.query_session.proofs.Batching.{names-counted, never-refused, too-many}
use Rattle.query_session.proofs.Ran.{whatever}
use Rattle.query_session.proofs.batch.batch.Goals as goal

pub returns-then-names_after-gt-MAX_NAMES-clause-reply : goal.returns-then-names_after-gt-MAX_NAMES-clause-reply
returns-then-names_after-gt-MAX_NAMES-clause-reply g c =
    let s = texts_of c.args.names.now in
    let none = ap (first_unused s) (sym (c.as_slice.ensures.value ∙ c.into_vec-lines.ensures)) ∙ c.in_default.ensures in
    too-many s c.args.lines c.names_after.result none (names-counted s c.args.lines _ c.names_after.result (c.as_slice-2.ensures.value ∙ c.into_vec-lines.ensures) c.names_after.ensures)
    c.if-names_after-gt-MAX_NAMES.true

pub do_jobs-requires-clause-room : goal.do_jobs-requires-clause-room
do_jobs-requires-clause-room g c κs within =
    let s = texts_of c.args.names.now in
    let count = names-counted s c.into_vec-lines.result.items _ c.names_after.result c.as_slice-2.ensures.value c.names_after.ensures in
    let few = c.if-names_after-gt-MAX_NAMES.false in omega (arith, count, few)

pub returns-clause-refused_is_free : goal.returns-clause-refused_is_free
returns-clause-refused_is_free g c =
    let s = texts_of c.args.names.now in
    let none = ap (first_unused s) (sym (c.as_slice.ensures.value ∙ c.into_vec-lines.ensures)) ∙ c.in_default.ensures in
    let count = names-counted s c.args.lines _ c.names_after.result (c.as_slice-2.ensures.value ∙ c.into_vec-lines.ensures) c.names_after.ensures in
    let few = c.if-names_after-gt-MAX_NAMES.false in
    whatever c.do_jobs.result _ (never-refused s c.args.lines none (omega (arith, count, few)))
