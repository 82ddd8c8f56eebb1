-- Lines that were done one after another: some and then others, and what they made on the heap.
use Rattle.std.proofs.Common.{◌≡◌, refl, sym, ap, ◌∙◌, subst, Bool, true, false, true≢false, List, [], ◌∷◌, ◌++◌, length, ◌<◌, arith, ℕ, Option, Some, None, Result, Ok, Err, IfOk, OnOk}
use Rattle.slot_model.specs.declared.event.Event.{Event}
use Rattle.slot_table.specs.Owners.{PassSeen}
use Rattle.slot_accounts.specs.Account.{Made}
use Rattle.slot_accounts.proofs.Beside.{Made-nothing}
use Rattle.slot_accounts.proofs.Counts.{Made-then}
use Rattle.query_lines.specs.Commands.{command_of}
use Rattle.query_lines.specs.WellFormed.{IsWellFormed}
use Rattle.query_lines.specs.declared.command.Command.{Command}
use Rattle.query_lines.specs.declared.reply.Reply.{Reply}
use Rattle.query_lines.specs.declared.reply.Reply.TheVariants as reply
use Rattle.query_session.specs.Reply.{reply_to}
use Rattle.query_session.specs.Steps.{Done, Stepped}
use Rattle.query_session.specs.Values.{Values, texts_of}
use Rattle.query_session.specs.State.{State}
use Rattle.query_program.specs.Answers.{answer_line, reply_to_read, state_after, state_after_line}
use Rattle.query_program.specs.Lines.{less_empty_end}
use Rattle.query_program.specs.Runs.{DidRead, LineDone, LinesDone}
use Rattle.query_program.specs.Use.{is_accepted}

-- some lines, and then others
pub lines-append : (xs ys : List (List ℕ)) (m k n : Values) (p r q : PassSeen) → LinesDone xs m p k r → LinesDone ys k r n q → LinesDone (xs ++ ys) m p n q
lines-append [] ys m k n p r q a b = subst (λ (x : Values). LinesDone ys x p n q) a.0 (subst (λ (x : PassSeen). LinesDone ys k x n q) a.1 b)
lines-append (l ∷ xs) ys m k n p r q a b = (a.0, a.1, a.2, lines-append xs ys a.0 k n a.1 r q a.3 b)

pub lines-split : (xs ys : List (List ℕ)) (m n : Values) (p q : PassSeen) → LinesDone (xs ++ ys) m p n q
    → (k : Values) × (r : PassSeen) × LinesDone xs m p k r × LinesDone ys k r n q
lines-split [] ys m n p q d = (m, p, (refl, refl), d)
lines-split (l ∷ xs) ys m n p q d = let t = lines-split xs ys d.0 n d.1 q d.3 in (t.0, t.1, (d.0, d.1, d.2, t.2), t.3)

-- the texts after them
pub lines-state : (ls : List (List ℕ)) (m n : Values) (p q : PassSeen) → LinesDone ls m p n q → texts_of n ≡ state_after (texts_of m) ls
lines-state [] m n p q d = ap texts_of d.0
lines-state (l ∷ ls) m n p q d = lines-state ls d.0 n d.1 q d.3 ∙ ap (λ s. state_after s ls) d.2.state

-- what an accepted command did, and a refused one
pub accepted-done : (r : Reply) (c : Command) (m n : Values) (p q : PassSeen) → is_accepted r ≡ true → Stepped r c m p n q → Done c m p n q
accepted-done (reply.Counts scalars utf16 utf8) c m n p q h s = s
accepted-done reply.Copied c m n p q h s = s
accepted-done reply.Dropped c m n p q h s = s
accepted-done (reply.Order order) c m n p q h s = s
accepted-done (reply.Results replies) c m n p q h s = s
accepted-done (reply.Jobs jobs) c m n p q h s = s
accepted-done (reply.Refused refused) c m n p q h s = absurd (true≢false (sym h))

pub refused-same : (r : Reply) (c : Command) (m n : Values) (p q : PassSeen) → is_accepted r ≡ false → Stepped r c m p n q → (n ≡ m) × (q ≡ p)
refused-same (reply.Counts scalars utf16 utf8) c m n p q h s = absurd (true≢false h)
refused-same reply.Copied c m n p q h s = absurd (true≢false h)
refused-same reply.Dropped c m n p q h s = absurd (true≢false h)
refused-same (reply.Order order) c m n p q h s = absurd (true≢false h)
refused-same (reply.Results replies) c m n p q h s = absurd (true≢false h)
refused-same (reply.Jobs jobs) c m n p q h s = absurd (true≢false h)
refused-same (reply.Refused refused) c m n p q h s = s

-- the events of a line, and of lines
line-made : (o : Option Command) (m n : Values) (p q : PassSeen) → DidRead o m p n q → (es : List Event) × Made es p q
line-made None m n p q d = ([], subst (Made [] p) (sym d.1) (Made-nothing p))
line-made (Some c) m n p q d = by (is_accepted (reply_to (texts_of m) c).0) refl
  where
    by : (b : Bool) → is_accepted (reply_to (texts_of m) c).0 ≡ b → (es : List Event) × Made es p q
    by true h = let x = accepted-done (reply_to (texts_of m) c).0 c m n p q h d.stepped in (x.events, x.made)
    by false h = ([], subst (Made [] p) (sym (refused-same (reply_to (texts_of m) c).0 c m n p q h d.stepped).1) (Made-nothing p))

pub lines-made : (ls : List (List ℕ)) (m n : Values) (p q : PassSeen) → LinesDone ls m p n q → (es : List Event) × Made es p q
lines-made [] m n p q d = ([], subst (Made [] p) (sym d.1) (Made-nothing p))
lines-made (l ∷ ls) m n p q d =
    let a = line-made (command_of l) m d.0 p d.1 d.2.done in let b = lines-made ls d.0 n d.1 q d.3 in (a.0 ++ b.0, Made-then a.1 b.1)

-- ---- one line

-- a line that gives a command, which the session did
line-command : (line : List ℕ) (c : Command) (r : Reply) (m n : Values) (p q : PassSeen) → command_of line ≡ Some c → IsWellFormed c → (r, texts_of n) ≡ reply_to (texts_of m) c → Stepped r c m p n q → LineDone line m p n q
unfolding answer_line state_after_line
line-command line c r m n p q is well replied stepped = record {
  state = ap (λ (t : Reply × State). t.1) replied ∙ sym (ap (λ (o : Option Command). (reply_to_read (texts_of m) o).1) is);
  done = subst (λ (o : Option Command). DidRead o m p n q) (sym is) (record {
    well_formed = well;
    texts = ap (λ (t : Reply × State). t.1) replied;
    stepped = subst (λ (x : Reply). Stepped x c m p n q) (ap (λ (t : Reply × State). t.0) replied) stepped;
  });
}

pub step-done : {E : Type 0} (r : Result Reply E) (line : List ℕ) (c : Command) (m n : Values) (p q : PassSeen) → command_of line ≡ Some c → IsWellFormed c
    → IfOk r (λ x. (x, texts_of n) ≡ reply_to (texts_of m) c) → IfOk r (λ x. Stepped x c m p n q) → OnOk r (LineDone line m p n q)
step-done (Ok x) line c m n p q is well replied stepped = line-command line c x m n p q is well replied stepped
step-done (Err e) line c m n p q is well replied stepped = tt

-- a line that gives none
pub line-refused : (line : List ℕ) (m : Values) (p : PassSeen) → command_of line ≡ None → LineDone line m p m p
unfolding answer_line state_after_line
line-refused line m p is = record {
  state = sym (ap (λ (o : Option Command). (reply_to_read (texts_of m) o).1) is);
  done = subst (λ (o : Option Command). DidRead o m p m p) (sym is) (refl, refl);
}

pub one-line : (line : List ℕ) (m n : Values) (p q : PassSeen) → LineDone line m p n q → LinesDone (line ∷ []) m p n q
one-line line m n p q d = (n, q, d, (refl, refl))

-- what stands behind the last newline
pub last-line : (bytes : List ℕ) (m n : Values) (p q : PassSeen) → 0 < length bytes → LineDone bytes m p n q → LinesDone (less_empty_end (bytes ∷ [])) m p n q
last-line [] m n p q some d = absurd (let z : ⊥ = omega (arith, some) in z)
last-line (b ∷ bs) m n p q some d = one-line (b ∷ bs) m n p q d
