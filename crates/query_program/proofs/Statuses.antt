-- What each status says, by how the run over the lines ended.
use Rattle.std.proofs.Common.{◌≡◌, refl, sym, ℕ, ◌+◌, ◌<◌, List, [], ◌∷◌, ◌++◌, length, Option, Some, None, Result, Ok, Err, IfSome, IsErrOf, ◌⊎◌, ◌↔◌, inl, inr, All, arith, subst, length-append}
use Rattle.std.proofs.lemmas.List.{take_all}
use Rattle.std.proofs.Math.Seq.{get_or-append_seam}
use Rattle.std.specs.Io.KnownBytes.{Appends, IsAtEnd}
use Rattle.outside.specs.Bytes.{AppendsPrefix}
use Rattle.query_session.specs.State.{State}
use Rattle.query_program.specs.Answers.{answers_from}
use Rattle.query_program.specs.Ends.{Ends, AnsweredWhole, AnsweredPart, TookFew, EndsByLine, EndsByInput}
use Rattle.query_program.specs.Limits.{IsShort, seen, HasLongLine, HasTooManyBytes, IsWithin}
use Rattle.query_program.specs.Lines.{lines}
use Rattle.query_program.specs.Statuses.{IsStatus, IsUnhindered, status_of_end}
use Rattle.query_program.specs.declared.limits.TheConstants.{INPUT_LIMIT}
use Rattle.query_program.specs.declared.stop.Stop.{Stop}
use Rattle.query_program.specs.declared.stop.Stop.TheVariants.{ReadFault, WriteFault, OutOfMemory, LineTooLong, InputTooLong}

pub if_some : {A : Type 0} (P Q : A → Type 0) (o : Option A) → ((x : A) → P x → Q x) → IfSome o P → IfSome o Q
if_some P Q None f h = tt
if_some P Q (Some x) f h = f x h

pub is_status : (r : Result (Unit {0}) Stop) → IsStatus (status_of_end r)
is_status (Ok x) = inl refl
is_status (Err ReadFault) = inr (inr (inl refl))
is_status (Err WriteFault) = inr (inr (inr (inl refl)))
is_status (Err OutOfMemory) = inr (inr (inr (inr (inl refl))))
is_status (Err LineTooLong) = inr (inr (inr (inr (inr (inl refl)))))
is_status (Err InputTooLong) = inr (inr (inr (inr (inr (inr refl)))))

pub not_two : (r : Result (Unit {0}) Stop) → status_of_end r ≡ 2 → ⊥
not_two (Ok x) e = cc
not_two (Err ReadFault) e = cc
not_two (Err WriteFault) e = cc
not_two (Err OutOfMemory) e = cc
not_two (Err LineTooLong) e = cc
not_two (Err InputTooLong) e = cc

pub read_fault : (r : Result (Unit {0}) Stop) → status_of_end r ≡ 3 → IsErrOf r ReadFault
read_fault (Ok x) e = cc
read_fault (Err ReadFault) e = refl
read_fault (Err WriteFault) e = cc
read_fault (Err OutOfMemory) e = cc
read_fault (Err LineTooLong) e = cc
read_fault (Err InputTooLong) e = cc

pub write_fault : (r : Result (Unit {0}) Stop) → status_of_end r ≡ 4 → IsErrOf r WriteFault
write_fault (Ok x) e = cc
write_fault (Err ReadFault) e = cc
write_fault (Err WriteFault) e = refl
write_fault (Err OutOfMemory) e = cc
write_fault (Err LineTooLong) e = cc
write_fault (Err InputTooLong) e = cc

-- ---- the three causes in the input shut each other out

length-cons-positive : (line : List ℕ) (after : List (List ℕ)) → 0 < length (line ∷ after)
length-cons-positive line after = omega arith

all-here : (before : List (List ℕ)) (line : List ℕ) (after : List (List ℕ)) → All IsShort (before ++ line ∷ after) → IsShort line
all-here before line after short = subst IsShort (get_or-append_seam before line after []) (short (length before) [] (omega (arith, length-append before (line ∷ after), length-cons-positive line after)))

long-not-short : (input : List ℕ) → HasLongLine input → All IsShort (lines (seen input)) → ⊥
long-not-short input long short =
    let fits = all-here long.before long.line long.after (subst (All IsShort) long.parts short) in
    absurd (omega (arith, long.long, fits))

within-short : (input : List ℕ) → IsWithin input → All IsShort (lines (seen input))
within-short input within = subst (λ xs. All IsShort (lines xs)) (sym (take_all (INPUT_LIMIT + 1) input (omega (arith, within.short)))) within.short_lines

-- which of the three stands, and that the others do not
pub record Decided (status : ℕ) (input : List ℕ) : Type 0 where
  pub line : (status ≡ 6) ↔ HasLongLine input
  pub long : (status ≡ 7) ↔ HasTooManyBytes input
  pub fine : (status ≡ 0) ↔ IsWithin input

module _ (state : State) (first_left left first_written written : Option (List ℕ)) where
  pub begun : (r : Result (Unit {0}) Stop) → IfSome first_left (Ends state left first_written written r)
      → IfSome first_left (λ input. AppendsPrefix first_written written (answers_from state (lines input)))
  begun r = if_some _ _ first_left (λ input ends. ends.begun)

  pub answered : (r : Result (Unit {0}) Stop) → IfSome first_left (Ends state left first_written written r) → status_of_end r ≡ 0
      → IfSome first_left (λ input. IsAtEnd left × Appends first_written written (answers_from state (lines input)))
  answered (Ok x) h e = if_some _ _ first_left (λ input ends. (ends.how.end, ends.how.replies)) h
  answered (Err ReadFault) h e = cc
  answered (Err WriteFault) h e = cc
  answered (Err OutOfMemory) h e = cc
  answered (Err LineTooLong) h e = cc
  answered (Err InputTooLong) h e = cc

  pub answered_read : (r : Result (Unit {0}) Stop) → IfSome first_left (Ends state left first_written written r) → status_of_end r ≡ 3
      → IfSome first_left (λ input. AnsweredWhole state input left first_written written)
  answered_read (Ok x) h e = cc
  answered_read (Err ReadFault) h e = if_some _ _ first_left (λ input ends. ends.how) h
  answered_read (Err WriteFault) h e = cc
  answered_read (Err OutOfMemory) h e = cc
  answered_read (Err LineTooLong) h e = cc
  answered_read (Err InputTooLong) h e = cc

  pub few : (r : Result (Unit {0}) Stop) → IfSome first_left (Ends state left first_written written r) → IfSome first_left (λ input. TookFew input left)
  few r = if_some _ _ first_left (λ input ends. ends.few)

  pub answered_part : (r : Result (Unit {0}) Stop) → IfSome first_left (Ends state left first_written written r) → (status_of_end r ≡ 4) ⊎ (status_of_end r ≡ 5)
      → IfSome first_left (λ input. AnsweredPart state input left first_written written)
  answered_part (Ok x) h (inl e) = cc
  answered_part (Ok x) h (inr e) = cc
  answered_part (Err ReadFault) h (inl e) = cc
  answered_part (Err ReadFault) h (inr e) = cc
  answered_part (Err WriteFault) h e = if_some _ _ first_left (λ input ends. ends.how) h
  answered_part (Err OutOfMemory) h e = if_some _ _ first_left (λ input ends. ends.how) h
  answered_part (Err LineTooLong) h (inl e) = cc
  answered_part (Err LineTooLong) h (inr e) = cc
  answered_part (Err InputTooLong) h (inl e) = cc
  answered_part (Err InputTooLong) h (inr e) = cc

  pub answered_before : (r : Result (Unit {0}) Stop) → IfSome first_left (Ends state left first_written written r) → status_of_end r ≡ 6
      → IfSome first_left (λ input. EndsByLine state input first_written written)
  answered_before (Ok x) h e = cc
  answered_before (Err ReadFault) h e = cc
  answered_before (Err WriteFault) h e = cc
  answered_before (Err OutOfMemory) h e = cc
  answered_before (Err LineTooLong) h e = if_some _ _ first_left (λ input ends. ends.how) h
  answered_before (Err InputTooLong) h e = cc

  pub answered_within : (r : Result (Unit {0}) Stop) → IfSome first_left (Ends state left first_written written r) → status_of_end r ≡ 7
      → IfSome first_left (λ input. EndsByInput state input first_written written)
  answered_within (Ok x) h e = cc
  answered_within (Err ReadFault) h e = cc
  answered_within (Err WriteFault) h e = cc
  answered_within (Err OutOfMemory) h e = cc
  answered_within (Err LineTooLong) h e = cc
  answered_within (Err InputTooLong) h e = if_some _ _ first_left (λ input ends. ends.how) h

  pub decided : (r : Result (Unit {0}) Stop) → IfSome first_left (Ends state left first_written written r) → IsUnhindered (status_of_end r)
      → IfSome first_left (Decided (status_of_end r))
  decided (Ok x) h free = if_some _ _ first_left (λ input ends. record {
    line = (λ e. cc, λ long. absurd (long-not-short input long (within-short input ends.how.within)));
    long = (λ e. cc, λ long. absurd (omega (arith, long.long, ends.how.within.short)));
    fine = (λ e. ends.how.within, λ _. refl);
  }) h
  decided (Err ReadFault) h free = absurd (free.read refl)
  decided (Err WriteFault) h free = absurd (free.write refl)
  decided (Err OutOfMemory) h free = absurd (free.memory refl)
  decided (Err LineTooLong) h free = if_some _ _ first_left (λ input ends. record {
    line = (λ e. ends.how.cause, λ _. refl);
    long = (λ e. cc, λ long. absurd (long-not-short input ends.how.cause long.short));
    fine = (λ e. cc, λ within. absurd (long-not-short input ends.how.cause (within-short input within)));
  }) h
  decided (Err InputTooLong) h free = if_some _ _ first_left (λ input ends. record {
    line = (λ e. cc, λ long. absurd (long-not-short input long ends.how.cause.short));
    long = (λ e. ends.how.cause, λ _. refl);
    fine = (λ e. cc, λ within. absurd (omega (arith, ends.how.cause.long, within.short)));
  }) h

  -- an input within the limits and no fault leave 0 and want of memory
  pub complete : (r : Result (Unit {0}) Stop) (A B : Type 0) → IfSome first_left (Ends state left first_written written r)
      → (IsErrOf r ReadFault → A) → (IsErrOf r WriteFault → B)
      → IfSome first_left (λ input. IsWithin input → ¬ A → ¬ B → (status_of_end r ≡ 0) ⊎ (status_of_end r ≡ 5))
  complete (Ok x) A B h read write = if_some _ _ first_left (λ input ends within a b. inl refl) h
  complete (Err ReadFault) A B h read write = if_some _ _ first_left (λ input ends within a b. absurd (a (read refl))) h
  complete (Err WriteFault) A B h read write = if_some _ _ first_left (λ input ends within a b. absurd (b (write refl))) h
  complete (Err OutOfMemory) A B h read write = if_some _ _ first_left (λ input ends within a b. inr refl) h
  complete (Err LineTooLong) A B h read write = if_some _ _ first_left (λ input ends within a b. absurd (long-not-short input ends.how.cause (within-short input within))) h
  complete (Err InputTooLong) A B h read write = if_some _ _ first_left (λ input ends within a b. absurd (omega (arith, ends.how.cause.long, within.short))) h
