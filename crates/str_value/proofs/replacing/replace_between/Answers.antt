use Rattle.std.proofs.Common.{◌≡◌, ◌∙◌, rules, take, ◌++◌, drop, ◌+◌, ◌-◌, ap, length, arith}
use Rattle.std.proofs.lemmas.List.{take_all, length-drop}
use Rattle.std.specs.List.{splice}
use Rattle.str_value.proofs.TwoSteps.{write-remove, insert-write}
use Rattle.str_value.proofs.replacing.replace_between.Goals as goal

pub returns-then-with-room-clause-items : goal.returns-then-with-room-clause-items
returns-then-with-room-clause-items c =
    let n = c.args.low + length c.args.with.now in
    c.remove_between.ensures ∙ ap (λ l. take n l ++ drop c.args.high l) c.write_at.ensures
    ∙ write-remove c.args.bytes.now.items c.args.with.now c.args.low c.args.high (omega arith) (search (rules, c.requires.inside))

pub returns-clause-items : goal.returns-clause-items
returns-clause-items c =
    let old = c.args.bytes.now.items in
    let with = c.args.with.now in
    let room = c.args.high - c.args.low in
    let all : take (length with - room) (drop room with) ≡ drop room with = take_all (length with - room) (drop room with) (omega (arith, length-drop room with)) in
    c.write_at-2.ensures
    ∙ ap (λ l. splice l c.args.low (c.args.low + length (take room with)) (take room with))
    (c.in_ok-insert_at.ensures.items ∙ ap (splice old c.args.high c.args.high) all)
    ∙ insert-write old with c.args.low c.args.high c.requires.order (search (rules, c.requires.inside)) (omega arith)
