use Rattle.std.proofs.Common.{◌≡◌, ◌++◌, All, option_map}
use Rattle.std.specs.Vec.Iter.{into_iter_items}
use Rattle.serde_json.specs.View.{items_view}
use Rattle.query_lines.specs.Objects.{each_item}
use Rattle.query_lines.specs.Commands.{job_in}
use Rattle.query_lines.specs.WellFormed.{IsWellFormedJob}
use Rattle.query_lines.proofs.commands_read.each_job.Given as goal

-- what was read, then what is left to read, is the whole list as it is read
abbrev pub invariant-loop-item : goal.invariant-loop-item
invariant-loop-item l =
    (goal.iterator-loop-item).can_next l.item-iterator ×
    (goal.iterator-loop-item).is_finite l.item-iterator ×
    (option_map (λ rest. l.jobs.items ++ rest) (each_item job_in (items_view (into_iter_items l.item-iterator))) ≡ each_item job_in (items_view l.fn.items.items)) ×
    All IsWellFormedJob l.jobs.items
