use Rattle.std.proofs.Common.{rules, arith, ◌≡◌, ◌+◌, ◌-◌, ◌≤◌, ◌++◌, min, length, take, drop, ap, ◌∙◌, length-drop}
use Rattle.std.proofs.lemmas.List.{length-take-le}
use Rattle.query_program.proofs.Places.{same-part, part-with-more, written-back}
use Rattle.query_program.proofs.line_buffer.LineBuffer.fill.Goals as goal

pub returns-in-Ok-clause-filled : goal.returns-in-Ok-clause-filled
returns-in-Ok-clause-filled g c =
    let b = c.self.inside in
    let places = c.read_behind.new.places in
    let n = c.in-Ok.count in
    let len : length places ≡ length b.places.items = search rules in
    let all = written-back b.places.items places b.places.len (search rules) in
    let front : take b.end places ≡ take b.end b.places.items = search rules in
    let room : n ≤ length (drop b.end places) = omega (arith, length-drop b.end places, len, (let m : n ≤ min c.args.most (length b.places.items - b.end) = search rules in m)) in
    record {
      read = take n (drop b.end places);
      taken = c.in-Ok.ensures.read.2;
      added = ap (λ xs. take (b.end + n - b.start) (drop b.start xs)) all
          ∙ part-with-more b.places.items places b.start b.end n (search rules) front
          ∙ ap (λ xs. xs ++ take n (drop b.end places)) (ap (λ p. p.bytes) c.self.view_is ∙ c.make_room.ensures.kept);
      count = length-take-le n (drop b.end places) room;
      most_ = search rules;
      end = c.in-Ok.ensures.read.1;
    }

pub returns-in-Err-clause-kept : goal.returns-in-Err-clause-kept
returns-in-Err-clause-kept g c =
    let b = c.self.inside in
    let places = c.read_behind.new.places in
    let all = written-back b.places.items places b.places.len (search rules) in
    let front : take b.end places ≡ take b.end b.places.items = search rules in (
      ap (λ xs. take (b.end - b.start) (drop b.start xs)) all ∙ same-part b.places.items places b.start b.end (search rules) front
          ∙ ap (λ p. p.bytes) c.self.view_is ∙ c.make_room.ensures.kept,
      search rules,
    )
