-- What every command that a line gives keeps.
use Rattle.std.specs.Prelude.{ℕ, ◌≤◌, List, All, length, IsUtf8, IfSome}
use Rattle.text_spec.specs.Text.{utf8, repair}
use Rattle.query_lines.specs.declared.command.Command.{Command}
use Rattle.query_lines.specs.declared.command.Command.TheVariants as command
use Rattle.query_lines.specs.declared.command.Content.{Content}
use Rattle.query_lines.specs.declared.command.Content.TheVariants as content
use Rattle.query_lines.specs.declared.command.JobLine.{JobLine}
use Rattle.query_lines.specs.declared.op.Op.{Op}
use Rattle.query_lines.specs.declared.op.Op.TheVariants as op

-- a name has 1 to 64 bytes, in UTF-8
pub record IsName (name : List ℕ) : Type 0 where
  pub not_empty : 1 ≤ length name
  pub short : length name ≤ 64
  pub text : IsUtf8 name

-- the limit of a text, in bytes
abbrev pub text_limit : ℕ
text_limit = 16777216

-- the limit of a line, in bytes without its newline
abbrev pub line_limit : ℕ
line_limit = 4194304

-- a text in UTF-8, of at most so many bytes
pub record IsShortText (bytes : List ℕ) : Type 0 where
  pub text : IsUtf8 bytes
  pub short : length bytes ≤ text_limit

-- of an op, the text that it puts in is UTF-8
abbrev pub IsWellFormedOp : Op → Type 0
IsWellFormedOp (op.At offset) = Unit {0}
IsWellFormedOp (op.Place offset) = Unit {0}
IsWellFormedOp (op.Slice a b) = Unit {0}
IsWellFormedOp (op.Edit a b with) = IsUtf8 with
IsWellFormedOp (op.Count view) = Unit {0}
IsWellFormedOp op.All = Unit {0}

-- of a content that is a text, the bytes are UTF-8
abbrev pub IsTextContent : Content → Type 0
IsTextContent (content.Text text) = IsUtf8 text
IsTextContent (content.Units units) = Unit {0}
IsTextContent (content.Raw bytes) = Unit {0}
IsTextContent (content.Literal number) = Unit {0}

-- of a content, what it gives fits a text
abbrev pub IsWellFormedContent : Content → Type 0
IsWellFormedContent (content.Text text) = IsShortText text
IsWellFormedContent (content.Units units) = length (utf8 (repair units)) ≤ text_limit
IsWellFormedContent (content.Raw bytes) = length bytes ≤ text_limit
IsWellFormedContent (content.Literal number) = Unit {0}

pub record IsWellFormedJob (job : JobLine) : Type 0 where
  pub name : IsName job.name
  pub ops : All IsWellFormedOp job.ops
  pub keep : IfSome job.keep IsName

-- names are names, contents fit a text, ops are well formed, and a batch has at most 64 jobs
abbrev pub IsWellFormed : Command → Type 0
IsWellFormed (command.Load name what) = IsName name × IsWellFormedContent what
IsWellFormed (command.Copy to source) = IsName to × IsName source
IsWellFormed (command.Drop name) = IsName name
IsWellFormed (command.Compare a b) = IsName a × IsName b
IsWellFormed (command.On name ops) = IsName name × All IsWellFormedOp ops
IsWellFormed (command.Batch jobs) = (length jobs ≤ 64) × All IsWellFormedJob jobs
