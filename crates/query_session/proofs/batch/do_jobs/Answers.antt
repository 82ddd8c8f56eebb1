use Rattle.std.proofs.Common.{◌∙◌, arith}
use Rattle.query_session.proofs.Batching.{batch-done, counts-agree, credits-kept, heap-kept, jobs-replied, pairs-kept, room-kept, shown-told}
use Rattle.query_session.proofs.Copying.{length-each_copied, stakes_left}
use Rattle.query_session.proofs.batch.do_jobs.Goals as goal

pub run_batch-requires-clause-credits : goal.run_batch-requires-clause-credits
run_batch-requires-clause-credits g c κs within =
    let k = c.in_ok-jobs.ensures.copied in
    let left = stakes_left c.args.names.now c.copies.new.names c.args.pass.now c.copies.new.pass c.args.lines.items c.in_ok-jobs.jobs.items c.in_ok-jobs.keeps.items k c.requires.enough c.requires.jobs in
    let count = length-each_copied c.args.names.now c.copies.new.names c.args.pass.now c.copies.new.pass c.args.lines.items c.in_ok-jobs.jobs.items k.copied in
    let few = c.requires.jobs in omega (arith, left, count, few)

pub part-requires : goal.part-requires
part-requires g c =
    counts-agree c.args.names.now c.copies.new.names c.args.pass.now c.copies.new.pass c.copies.new.pass c.args.lines.items c.in_ok-jobs.jobs.items c.in_ok-jobs.keeps.items
    c.in_ok-done.done.items c.in_ok-jobs.ensures.copied c.in_ok-done.ensures.done

pub keep_all-requires-clause-heap : goal.keep_all-requires-clause-heap
keep_all-requires-clause-heap g c = heap-kept c.run_batch.new.pass c.in_ok-replies.values.items c.in_ok-done.done.items c.in_ok-replies.ensures.values c.in_ok-done.ensures.heap

pub keep_all-requires-clause-room : goal.keep_all-requires-clause-room
keep_all-requires-clause-room g c =
    let k = c.in_ok-jobs.ensures.copied in
    let e = c.in_ok-replies.ensures in
    let pairs = pairs-kept c.in_ok-replies.values.items c.in_ok-jobs.keeps.items c.args.lines.items c.in_ok-done.done.items e.names k.names e.values in
    room-kept c.args.names.now c.copies.new.names c.args.pass.now c.copies.new.pass c.copies.new.pass c.args.lines.items c.in_ok-jobs.jobs.items c.in_ok-done.done.items
    c.in_ok-replies.values.items k.copied c.in_ok-done.ensures.done k.texts pairs c.requires.room

pub returns-clause-reply : goal.returns-clause-reply
returns-clause-reply g c =
    let k = c.in_ok-jobs.ensures.copied in
    let e = c.in_ok-replies.ensures in
    let pairs = pairs-kept c.in_ok-replies.values.items c.in_ok-jobs.keeps.items c.args.lines.items c.in_ok-done.done.items e.names k.names e.values in
    let count = length-each_copied c.args.names.now c.copies.new.names c.args.pass.now c.copies.new.pass c.args.lines.items c.in_ok-jobs.jobs.items k.copied in
    jobs-replied c.args.names.now c.copies.new.names c.keep_all.new.names c.args.pass.now c.copies.new.pass c.copies.new.pass c.args.lines.items c.in_ok-jobs.jobs.items
    c.in_ok-done.done.items c.in_ok-replies.values.items c.new.result k.copied c.in_ok-done.ensures.done count k.texts pairs (c.new.ensures ∙ e.replies)
    c.in_ok-keep_all.ensures.kept c.requires.room

pub returns-clause-shown : goal.returns-clause-shown
returns-clause-shown g c = shown-told c.new.result c.in_ok-done.done.items (c.new.ensures ∙ c.in_ok-replies.ensures.replies) c.in_ok-done.ensures.shown

pub returns-clause-stepped : goal.returns-clause-stepped
returns-clause-stepped g c =
    let k = c.in_ok-jobs.ensures.copied in
    let e = c.in_ok-replies.ensures in
    let done = c.in_ok-done.ensures in
    let stored = c.in_ok-keep_all.ensures in
    let pairs = pairs-kept c.in_ok-replies.values.items c.in_ok-jobs.keeps.items c.args.lines.items c.in_ok-done.done.items e.names k.names e.values in
    let count = length-each_copied c.args.names.now c.copies.new.names c.args.pass.now c.copies.new.pass c.args.lines.items c.in_ok-jobs.jobs.items k.copied in
    batch-done c.args.names.now c.copies.new.names c.keep_all.new.names c.args.pass.now c.copies.new.pass c.run_batch.new.pass c.keep_all.new.pass c.args.lines.items
    c.in_ok-jobs.jobs.items c.in_ok-jobs.keeps.items c.in_ok-done.done.items c.in_ok-replies.values.items k done.done count done.made done.credits pairs
    (credits-kept c.in_ok-replies.values.items c.in_ok-done.done.items e.values) stored.kept stored.did stored.credits stored.sound
