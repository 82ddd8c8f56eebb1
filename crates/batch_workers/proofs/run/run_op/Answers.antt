use Rattle.std.proofs.Common.{◌≡◌, ap, refl, false, arith}
use Rattle.str_value.specs.Meaning.{Meaning}
use Rattle.batch_workers.specs.Ops.{is_at, is_counts}
use Rattle.batch_workers.specs.Working.{IsOpRun, IsRead, IsSoleIfNative, IsWorked, edits_of}
use Rattle.batch_workers.proofs.Working.{worked-nothing, op-other, op-learnt, if_ok, ok-map, on_err, edited-sole, read-nothing}
use Rattle.batch_workers.proofs.run.run_op.Goals as goal

pub returns-in-At-clause-worked : goal.returns-in-At-clause-worked
returns-in-At-clause-worked g c =
    op-learnt c.args.pass.now c.args.s.now c.args.op.now c.at.new.pass c.at.new.s (edits_of c.at.result) c.at.ensures.worked

pub returns-in-Place-clause-worked : goal.returns-in-Place-clause-worked
returns-in-Place-clause-worked g c =
    op-other c.args.pass.now c.args.s.now c.args.op.now c.args.pass.now c.place.new.text 0 (edits_of c.place.result) (ap is_at c.in-Place.is) (omega arith)
    (worked-nothing c.args.pass.now c.args.pass.now c.args.s.now c.place.new.text 0 refl c.place.ensures.kept c.requires.heap)

pub returns-in-Slice-clause-worked : goal.returns-in-Slice-clause-worked
returns-in-Slice-clause-worked g c =
    if_ok c.part_of.result (λ reply. IsOpRun c.args.pass.now c.args.s.now c.args.op.now c.part_of.new.pass c.part_of.new.s (edits_of reply))
    (λ reply.
    op-other c.args.pass.now c.args.s.now c.args.op.now c.part_of.new.pass c.part_of.new.s 0 (edits_of reply) (ap is_at c.in-Slice.is) (omega arith) c.part_of.ensures.worked)

pub returns-in-Edit-clause-worked : goal.returns-in-Edit-clause-worked
returns-in-Edit-clause-worked g c =
    ok-map c.edit.result (λ reply. IsWorked c.args.pass.now c.args.s.now c.edit.new.pass c.edit.new.text (edits_of reply))
    (λ reply. IsOpRun c.args.pass.now c.args.s.now c.args.op.now c.edit.new.pass c.edit.new.text (edits_of reply))
    (λ reply is. op-other c.args.pass.now c.args.s.now c.args.op.now c.edit.new.pass c.edit.new.text (edits_of reply) (edits_of reply) (ap is_at c.in-Edit.is) (omega arith) is)
    c.edit.ensures.worked

pub returns-in-Edit-clause-sole : goal.returns-in-Edit-clause-sole
returns-in-Edit-clause-sole g c =
    edited-sole c.edit.result c.args.s.now c.edit.new.text c.edit.ensures.sole
    (ok-map c.edit.result (λ reply. is_counts reply ≡ false → c.edit.new.text ≡ c.args.s.now) (λ reply. is_counts reply ≡ false → IsRead c.args.s.now c.edit.new.text)
    (λ reply same none. read-nothing c.args.s.now c.edit.new.text (same none)) c.edit.ensures.unedited)

pub returns-in-Count-clause-worked : goal.returns-in-Count-clause-worked
returns-in-Count-clause-worked g c =
    op-other c.args.pass.now c.args.s.now c.args.op.now c.args.pass.now c.count.new.text 0 0 (ap is_at c.in-Count.is) (omega arith)
    (worked-nothing c.args.pass.now c.args.pass.now c.args.s.now c.count.new.text 0 refl c.count.ensures.kept c.requires.heap)

pub returns-in-All-clause-worked : goal.returns-in-All-clause-worked
returns-in-All-clause-worked g c =
    if_ok c.whole.result (λ reply. IsOpRun c.args.pass.now c.args.s.now c.args.op.now c.args.pass.now c.whole.new.text (edits_of reply))
    (λ reply.
    op-other c.args.pass.now c.args.s.now c.args.op.now c.args.pass.now c.whole.new.text 0 (edits_of reply) (ap is_at c.in-All.is) (omega arith)
    (worked-nothing c.args.pass.now c.args.pass.now c.args.s.now c.whole.new.text 0 refl c.whole.ensures.kept c.requires.heap))

pub returns-in-All-clause-left : goal.returns-in-All-clause-left
returns-in-All-clause-left g c =
    on_err c.whole.result _ (
      ap (λ (m : Meaning). m.text) c.whole.ensures.kept,
      worked-nothing c.args.pass.now c.args.pass.now c.args.s.now c.whole.new.text 0 refl c.whole.ensures.kept c.requires.heap,
    )
