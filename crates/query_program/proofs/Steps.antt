-- How far a pass over the whole lines in the buffer has come.
use Rattle.std.proofs.Common.{◌≡◌, refl, sym, ap, ◌∙◌, List, [], ◌++◌, ℕ, append_assoc, append-nil, Option, None, subst}
use Rattle.std.specs.Io.KnownBytes.{Appends}
use Rattle.std.proofs.KnownBytes.{Appends-trans, Appends-nil}
use Rattle.memchr.specs.Find.{IsFirstByte, is_byte}
use Rattle.outside.specs.Bytes.{AppendsPrefix}
use Rattle.query_session.specs.State.{State}
use Rattle.query_program.specs.Answers.{answer, answers_from, state_after}
use Rattle.query_program.specs.Lines.{whole_lines, last_part}
use Rattle.query_program.specs.Writes.{Answered, AnsweredFirst, Sent}
use Rattle.query_program.proofs.Cuts.{whole_lines-none, last_part-none}
use Rattle.query_program.proofs.Folds.{prefix-behind, prefix-front, prefix-more}

-- some answers are sent, some are gathered, and the lines left give the others
pub record Going (first_state state : State) (first_bytes bytes : List ℕ) (first_written written : Option (List ℕ)) (gathered : List ℕ) : Type 0 where
  pub sent : List ℕ
  pub grown : Appends first_written written sent
  pub replies : answers_from first_state (whole_lines first_bytes) ≡ (sent ++ gathered) ++ answers_from state (whole_lines bytes)
  pub end : state_after first_state (whole_lines first_bytes) ≡ state_after state (whole_lines bytes)
  pub rest : last_part first_bytes ≡ last_part bytes

pub going-first : (state : State) (bytes : List ℕ) (written : Option (List ℕ)) (gathered : List ℕ) → gathered ≡ [] → Going state state bytes bytes written written gathered
going-first state bytes written gathered none = record {
  sent = [];
  grown = Appends-nil written;
  replies = rw none refl;
  end = refl;
  rest = refl;
}

module _ (first_state state next_state : State) (first_bytes bytes next_bytes : List ℕ) (first_written written next_written : Option (List ℕ)) (gathered more left : List ℕ) where
  -- the answers after a line more
  pub answered-more : (going : Going first_state state first_bytes bytes first_written written gathered)
      → AnsweredFirst state next_state bytes next_bytes gathered more
      → answers_from first_state (whole_lines first_bytes) ≡ (going.sent ++ more) ++ answers_from next_state (whole_lines next_bytes)
  answered-more going first =
      going.replies ∙ ap (λ ls. (going.sent ++ gathered) ++ answers_from state ls) first.lines
      ∙ ap (λ st. (going.sent ++ gathered) ++ (answer state first.line ++ answers_from st (whole_lines next_bytes))) (sym first.state)
      ∙ sym (append_assoc (going.sent ++ gathered) (answer state first.line) (answers_from next_state (whole_lines next_bytes)))
      ∙ ap (λ xs. xs ++ answers_from next_state (whole_lines next_bytes)) (append_assoc going.sent gathered (answer state first.line) ∙ ap (λ xs. going.sent ++ xs) (sym first.reply))

  pub going-on : Going first_state state first_bytes bytes first_written written gathered → AnsweredFirst state next_state bytes next_bytes gathered more
      → Sent written next_written more left → Going first_state next_state first_bytes next_bytes first_written next_written left
  going-on going first sent = record {
    sent = going.sent ++ sent.bytes;
    grown = Appends-trans first_written written next_written going.sent sent.bytes going.grown sent.written;
    replies = answered-more going first
        ∙ ap (λ xs. xs ++ answers_from next_state (whole_lines next_bytes)) (ap (λ xs. going.sent ++ xs) sent.parts ∙ sym (append_assoc going.sent sent.bytes left));
    end = going.end ∙ ap (state_after state) first.lines ∙ ap (λ st. state_after st (whole_lines next_bytes)) (sym first.state);
    rest = going.rest ∙ first.rest;
  }

  -- a write that stopped after a line more
  pub begun-more : Going first_state state first_bytes bytes first_written written gathered → AnsweredFirst state next_state bytes next_bytes gathered more
      → AppendsPrefix written next_written more → AppendsPrefix first_written next_written (answers_from first_state (whole_lines first_bytes))
  begun-more going first begun =
      let others = answers_from next_state (whole_lines next_bytes) in
      subst (AppendsPrefix first_written next_written) (sym (answered-more going first ∙ append_assoc going.sent more others))
      (prefix-behind first_written written next_written going.sent (more ++ others) going.grown (prefix-more written next_written more others begun))

module _ (first_state state : State) (first_bytes bytes : List ℕ) (first_written written next_written : Option (List ℕ)) (gathered : List ℕ) where
  -- what is sent begins the answers
  pub begun-so_far : Going first_state state first_bytes bytes first_written written gathered → AppendsPrefix first_written written (answers_from first_state (whole_lines first_bytes))
  begun-so_far going =
      let others = gathered ++ answers_from state (whole_lines bytes) in
      subst (AppendsPrefix first_written written) (sym (going.replies ∙ append_assoc going.sent gathered (answers_from state (whole_lines bytes))))
      (prefix-front first_written written going.sent others going.grown)

  -- where no newline is left, all answers are sent or gathered
  pub all-gathered : (going : Going first_state state first_bytes bytes first_written written gathered) → IsFirstByte (is_byte 10) bytes None
      → answers_from first_state (whole_lines first_bytes) ≡ going.sent ++ gathered
  all-gathered going none = going.replies ∙ ap (λ ls. (going.sent ++ gathered) ++ answers_from state ls) (whole_lines-none bytes none) ∙ append-nil (going.sent ++ gathered)

  pub begun-end : Going first_state state first_bytes bytes first_written written gathered → IsFirstByte (is_byte 10) bytes None
      → AppendsPrefix written next_written gathered → AppendsPrefix first_written next_written (answers_from first_state (whole_lines first_bytes))
  begun-end going none begun =
      subst (AppendsPrefix first_written next_written) (sym (all-gathered going none))
      (prefix-behind first_written written next_written going.sent gathered going.grown begun)

  pub answered-all : Going first_state state first_bytes bytes first_written written gathered → IsFirstByte (is_byte 10) bytes None
      → Appends written next_written gathered → Answered first_state state first_bytes bytes first_written next_written
  answered-all going none last = record {
    replies = subst (Appends first_written next_written) (sym (all-gathered going none)) (Appends-trans first_written written next_written going.sent gathered going.grown last);
    state = sym (going.end ∙ ap (state_after state) (whole_lines-none bytes none));
    rest = sym (going.rest ∙ last_part-none bytes none);
  }
