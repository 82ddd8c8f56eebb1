use Rattle.std.proofs.Common.{ℕ, List, ◌++◌, ap, ◌∙◌, arith}
use Rattle.word_units.specs.Packing.{byte_words}
use Rattle.str_value.specs.Drafting.{Writing}
use Rattle.str_value.proofs.Written.{room-last, finish-waiting, finish-none}
use Rattle.str_value.proofs.byte_writer.ByteWriter.finish.Goals as goal

pub write-requires : goal.write-requires
write-requires c =
    let i = c.self.inside in
    room-last c.args.self i.draft i.word i.waiting c.self.view_is c.self.invariant.some c.requires.room c.if-waiting-gt0.true

pub returns-then-waiting-gt0 : goal.returns-then-waiting-gt0
returns-then-waiting-gt0 c =
    let i = c.self.inside in
    c.write.ensures
    ∙ ap (λ (l : List ℕ). record i.draft { written = l }) (finish-waiting i.draft.written i.word i.waiting c.self.invariant c.if-waiting-gt0.true)
    ∙ ap (λ (v : Writing). record v.start { written = v.start.written ++ byte_words v.bytes }) c.self.view_is

pub returns-else-waiting-gt0 : goal.returns-else-waiting-gt0
returns-else-waiting-gt0 c =
    let i = c.self.inside in
    ap (λ (l : List ℕ). record i.draft { written = l }) (finish-none i.draft.written i.word i.waiting c.self.invariant (omega (arith, c.if-waiting-gt0.false)))
    ∙ ap (λ (v : Writing). record v.start { written = v.start.written ++ byte_words v.bytes }) c.self.view_is
