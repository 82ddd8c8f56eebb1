-- The command of a line: the row that its JSON object meets, with exactly the keys of the row.
use Rattle.std.specs.Prelude.{ℕ, ◌==◌, ◌&&◌, List, [], ◌∷◌, length, nat_le, if◌then◌else◌, codes, Option, Some, None, option_and_then, option_map}
use Rattle.serde_json.specs.Data.{Data, Members}
use Rattle.serde_json.specs.Find.{as_str, as_object}
use Rattle.query_lines.specs.Objects.{value_of_line, key_count, has_key, name_in, number_in, number_below, both, list_in, pair_in, under}
use Rattle.query_lines.specs.Ops.{op_in}
use Rattle.query_lines.specs.declared.command.Command.{Command}
use Rattle.query_lines.specs.declared.command.Command.TheVariants as command
use Rattle.query_lines.specs.declared.command.Content.{Content}
use Rattle.query_lines.specs.declared.command.Content.TheVariants as content
use Rattle.query_lines.specs.declared.command.JobLine.{JobLine}
use Rattle.query_lines.specs.declared.op.Op.{Op}
use Rattle.query_lines.specs.declared.op.Op.TheVariants as op

-- what a load gives
abbrev pub content_in : Members → Option Content
content_in members =
    if has_key (codes "text") members then option_map content.Text (under as_str (codes "text") members)
    else if has_key (codes "bytes") members then option_map content.Raw (under (list_in (number_below 256)) (codes "bytes") members)
    else if has_key (codes "units") members then option_map content.Units (under (list_in (number_below 65536)) (codes "units") members)
    else option_map content.Literal (under number_in (codes "literal") members)

-- a name and the ops on its text
abbrev pub named_ops : Members → Option (List ℕ × List Op)
named_ops members = both (λ name ops. (name, ops)) (under name_in (codes "on") members) (under (list_in op_in) (codes "do") members)

-- a job has two keys, or three with the name that is kept
abbrev pub keep_in : Members → Option (Option (List ℕ))
keep_in members = if key_count members == 2 then Some None
    else if key_count members == 3 then option_map Some (under name_in (codes "keep") members)
    else None

abbrev pub job_of : Option (List ℕ) → List ℕ × List Op → JobLine
job_of keep named = record { name = named.0; ops = named.1; keep = keep }

abbrev pub job_in : Data → Option JobLine
job_in value = option_and_then (λ members. both job_of (keep_in members) (named_ops members)) (as_object value)

-- a batch has at most 64 jobs
abbrev pub jobs_in : Data → Option (List JobLine)
jobs_in value = option_and_then (λ jobs. if nat_le (length jobs) 64 then Some jobs else None) (list_in job_in value)

abbrev pub load_in : Members → Option Command
load_in members = both command.Load (under name_in (codes "load") members) (content_in members)

abbrev pub copy_in : Members → Option Command
copy_in members = both command.Copy (under name_in (codes "copy") members) (under name_in (codes "from") members)

abbrev pub on_in : Members → Option Command
on_in members = option_map (λ (named : List ℕ × List Op). command.On named.0 named.1) (named_ops members)

abbrev pub compare_in : Members → Option Command
compare_in members = option_map (λ (names : List ℕ × List ℕ). command.Compare names.0 names.1) (under (pair_in name_in) (codes "compare") members)

-- a command with one key
abbrev pub one_key_command : Members → Option Command
one_key_command members =
    if has_key (codes "drop") members then option_map command.Drop (under name_in (codes "drop") members)
    else if has_key (codes "compare") members then compare_in members
    else option_map command.Batch (under jobs_in (codes "batch") members)

-- a command with two keys
abbrev pub two_key_command : Members → Option Command
two_key_command members =
    if has_key (codes "load") members then load_in members
    else if has_key (codes "copy") members then copy_in members
    else on_in members

-- the command of a JSON value
abbrev pub command_in : Data → Option Command
command_in value = option_and_then (λ members.
    if key_count members == 1 then one_key_command members
    else if key_count members == 2 then two_key_command members
    else None) (as_object value)

-- the command of a line, where it is of a row
abbrev pub command_of : List ℕ → Option Command
command_of line = option_and_then command_in (value_of_line line)
