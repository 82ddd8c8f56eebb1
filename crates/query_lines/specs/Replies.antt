-- The text of a reply, byte by byte: compact JSON with keys in byte order, without the newline.
use Rattle.std.specs.Prelude.{ℕ, List, [], ◌∷◌, ◌++◌, All, Bool, true, false, codes, decimal, if◌then◌else◌, Option, Some, None, IsUtf8}
use Rattle.json.specs.Print.{quoted}
use Rattle.std.specs.declared.cmp.Ordering.{Ordering}
use Rattle.std.specs.declared.cmp.Ordering.TheVariants.{Less, Equal, Greater}
use Rattle.query_lines.specs.declared.op.View.{View}
use Rattle.query_lines.specs.declared.op.View.TheVariants as view
use Rattle.query_lines.specs.declared.reply.OpReply.{OpReply}
use Rattle.query_lines.specs.declared.reply.OpReply.TheVariants as answer
use Rattle.query_lines.specs.declared.reply.Refusal.{Refusal}
use Rattle.query_lines.specs.declared.reply.Refusal.TheVariants as refusal
use Rattle.query_lines.specs.declared.reply.Reply.{Reply}
use Rattle.query_lines.specs.declared.reply.Reply.TheVariants as reply

-- the lengths of a text in UTF-16 units and in UTF-8 bytes, after another member
abbrev pub lengths_text : ℕ → ℕ → List ℕ
lengths_text utf16 utf8 = codes ",\"utf16\":" ++ (decimal utf16 ++ (codes ",\"utf8\":" ++ (decimal utf8 ++ codes "}")))

-- the three counts of a text
abbrev pub counts_text : ℕ → ℕ → ℕ → List ℕ
counts_text scalars utf16 utf8 = codes "{\"scalars\":" ++ (decimal scalars ++ lengths_text utf16 utf8)

abbrev pub number_or_null : Option ℕ → List ℕ
number_or_null None = codes "null"
number_or_null (Some n) = decimal n

-- the text before the length that an offset passed, in a unit
abbrev pub bounds_front : View → List ℕ
bounds_front view.Scalars = codes "{\"error\":\"out of bounds\",\"scalars\":"
bounds_front view.Utf8 = codes "{\"error\":\"out of bounds\",\"utf8\":"
bounds_front view.Utf16 = codes "{\"error\":\"out of bounds\",\"utf16\":"
bounds_front view.Characters = codes "{\"error\":\"out of bounds\",\"characters\":"

-- the text of the answer to one op
abbrev pub op_reply_text : OpReply → List ℕ
op_reply_text (answer.Place utf16 utf8 value) = codes "{\"utf16\":" ++ (decimal utf16 ++ (codes ",\"utf8\":" ++ (decimal utf8 ++ (codes ",\"value\":" ++ (number_or_null value ++ codes "}")))))
op_reply_text (answer.Text text) = codes "{\"text\":" ++ (quoted text ++ codes "}")
op_reply_text (answer.Counts scalars utf16 utf8) = counts_text scalars utf16 utf8
op_reply_text (answer.Number n) = codes "{\"count\":" ++ (decimal n ++ codes "}")
op_reply_text (answer.OutOfBounds unit n) = bounds_front unit ++ (decimal n ++ codes "}")
op_reply_text answer.TooLong = codes "{\"error\":\"too long\"}"

-- the members of a list, one after another, with a comma before each but the first; `later` says that another stands before
abbrev pub separated : {A : Type 0} → (A → List ℕ) → Bool → List A → List ℕ
separated text later [] = []
separated text later (x ∷ xs) = (if later then codes "," else []) ++ (text x ++ separated text true xs)

-- a list of answers
abbrev pub op_replies_text : List OpReply → List ℕ
op_replies_text replies = codes "[" ++ (separated op_reply_text false replies ++ codes "]")

abbrev pub order_text : Ordering → List ℕ
order_text Less = codes "{\"order\":\"less\"}"
order_text Equal = codes "{\"order\":\"equal\"}"
order_text Greater = codes "{\"order\":\"greater\"}"

-- the text of the refusal of a line
abbrev pub refusal_text : Refusal → List ℕ
refusal_text refusal.Syntax = codes "{\"error\":\"syntax\"}"
refusal_text (refusal.NoName name) = codes "{\"error\":\"no name\",\"name\":" ++ (quoted name ++ codes "}")
refusal_text refusal.NoLiteral = codes "{\"error\":\"no literal\"}"
refusal_text (refusal.NotUtf8 valid) = codes "{\"error\":\"not utf-8\",\"valid\":" ++ (decimal valid ++ codes "}")
refusal_text refusal.TooManyNames = codes "{\"error\":\"too many names\"}"

-- the text of a reply
abbrev pub reply_text : Reply → List ℕ
reply_text (reply.Counts scalars utf16 utf8) = counts_text scalars utf16 utf8
reply_text reply.Copied = codes "{\"ok\":\"copy\"}"
reply_text reply.Dropped = codes "{\"ok\":\"drop\"}"
reply_text (reply.Order order) = order_text order
reply_text (reply.Results replies) = codes "{\"results\":" ++ (op_replies_text replies ++ codes "}")
reply_text (reply.Jobs jobs) = codes "{\"jobs\":[" ++ (separated op_replies_text false jobs ++ codes "]}")
reply_text (reply.Refused refused) = refusal_text refused

-- a length is told in UTF-8 or UTF-16
abbrev pub IsShownUnit : View → Type 0
IsShownUnit view.Scalars = ⊥
IsShownUnit view.Utf8 = Unit {0}
IsShownUnit view.Utf16 = Unit {0}
IsShownUnit view.Characters = ⊥

-- an answer that can be shown: its text is UTF-8, and its length is in UTF-8 or UTF-16
abbrev pub IsShownOp : OpReply → Type 0
IsShownOp (answer.Place utf16 utf8 value) = Unit {0}
IsShownOp (answer.Text text) = IsUtf8 text
IsShownOp (answer.Counts scalars utf16 utf8) = Unit {0}
IsShownOp (answer.Number n) = Unit {0}
IsShownOp (answer.OutOfBounds unit length) = IsShownUnit unit
IsShownOp answer.TooLong = Unit {0}

abbrev pub IsShownRefusal : Refusal → Type 0
IsShownRefusal refusal.Syntax = Unit {0}
IsShownRefusal (refusal.NoName name) = IsUtf8 name
IsShownRefusal refusal.NoLiteral = Unit {0}
IsShownRefusal (refusal.NotUtf8 valid) = Unit {0}
IsShownRefusal refusal.TooManyNames = Unit {0}

-- a reply that can be shown
abbrev pub IsShown : Reply → Type 0
IsShown (reply.Counts scalars utf16 utf8) = Unit {0}
IsShown reply.Copied = Unit {0}
IsShown reply.Dropped = Unit {0}
IsShown (reply.Order order) = Unit {0}
IsShown (reply.Results replies) = All IsShownOp replies
IsShown (reply.Jobs jobs) = All (All IsShownOp) jobs
IsShown (reply.Refused refused) = IsShownRefusal refused
