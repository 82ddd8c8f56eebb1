-- What standard error says of a status other than 0.
use Rattle.std.specs.Prelude.{ℕ, List, [], ◌==◌, if◌then◌else◌, codes}

abbrev pub message : ℕ → List ℕ
message status =
    if status == 2 then codes "strq: usage: strq [--workers N] [--make NUMBER --lines N]"
    else if status == 3 then codes "strq: read fault"
    else if status == 4 then codes "strq: write fault"
    else if status == 5 then codes "strq: out of memory"
    else if status == 6 then codes "strq: line too long"
    else if status == 7 then codes "strq: input too long"
    else []
