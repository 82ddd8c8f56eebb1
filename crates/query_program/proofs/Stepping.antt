-- How far a run has come, by what its lines did to the values and on the heap.
use Rattle.std.proofs.Common.{◌≡◌, refl, sym, ap, ◌∙◌, subst, IfSome, List, [], ◌∷◌, ◌++◌, ℕ, append_assoc, append-nil, Option, Some, None, ◌⊎◌, inl, inr, IsErrOf, Result}
use Rattle.std.specs.Io.KnownBytes.{Appends, Consumes, IsAtEnd, Keeps}
use Rattle.std.proofs.KnownBytes.{Appends-trans, Appends-nil, Consumes-nil, Consumes-trans, Consumes-kept}
use mathlib.Core.List.{IsPrefix}
use Rattle.memchr.specs.Find.{IsFirstByte, is_byte}
use Rattle.outside.specs.Bytes.{AppendsPrefix}
use Rattle.slot_table.specs.Owners.{PassSeen}
use Rattle.query_session.specs.State.{State}
use Rattle.query_session.specs.Values.{Values, texts_of}
use Rattle.query_program.specs.Answers.{answer, answers_from, state_after}
use Rattle.query_program.specs.Lines.{lines, less_empty_end, whole_lines, last_part}
use Rattle.query_program.specs.Reads.{Filled}
use Rattle.query_program.specs.Runs.{FirstDone, LinesDone, SomeDone}
use Rattle.query_program.specs.Writes.{Sent}
use Rattle.query_program.specs.declared.stop.Stop.{Stop}
use Rattle.query_program.specs.declared.stop.Stop.TheVariants.{OutOfMemory}
use Rattle.query_program.proofs.Cuts.{whole_lines-more, whole_lines-none, last_part-more, lines-more, lines-whole}
use Rattle.query_program.proofs.Doing.{lines-append, lines-state, one-line}
use Rattle.query_program.proofs.Folds.{answers_from-append, prefix-behind, prefix-front}
use Rattle.query_program.proofs.Progress.{told}

-- all that was gathered
prefix-all : (a b : Option (List ℕ)) (xs : List ℕ) → Appends a b xs → AppendsPrefix a b xs
prefix-all a b xs h = subst (AppendsPrefix a b) (append-nil xs) (prefix-front a b xs [] h)

-- ---- the lines of a buffer

-- so many lines were done; of their answers some are sent, and the others gathered
pub record Stepping (m p_values : Values) (p p_pass : PassSeen) (first_bytes bytes : List ℕ) (first_written written : Option (List ℕ)) (gathered : List ℕ) : Type 0 where
  pub lines_done : List (List ℕ)
  pub left : lines_done ++ whole_lines bytes ≡ whole_lines first_bytes
  pub ran : LinesDone lines_done m p p_values p_pass
  pub sent : List ℕ
  pub grown : Appends first_written written sent
  pub replies : sent ++ gathered ≡ answers_from (texts_of m) lines_done

pub stepping-first : (m : Values) (p : PassSeen) (bytes : List ℕ) (written : Option (List ℕ)) (gathered : List ℕ) → gathered ≡ []
    → Stepping m m p p bytes bytes written written gathered
stepping-first m p bytes written gathered none = record {
  lines_done = [];
  left = refl;
  ran = (refl, refl);
  sent = [];
  grown = Appends-nil written;
  replies = none;
}

module _ (m n : Values) (p q : PassSeen) (first_bytes bytes : List ℕ) (first_written written : Option (List ℕ)) (gathered : List ℕ) (s : Stepping m n p q first_bytes bytes first_written written gathered) where
  first-left : IsPrefix s.lines_done (whole_lines first_bytes)
  first-left = (whole_lines bytes, s.left)

  -- what is sent begins their answers
  pub some-so_far : SomeDone (whole_lines first_bytes) m p n q first_written written
  some-so_far = record {
    some = s.lines_done;
    first = first-left;
    done = s.ran;
    begun = subst (AppendsPrefix first_written written) s.replies (prefix-front first_written written s.sent gathered s.grown);
  }

  -- and what is sent of the gathered ones
  pub some-sent : (next_written : Option (List ℕ)) → AppendsPrefix written next_written gathered → SomeDone (whole_lines first_bytes) m p n q first_written next_written
  some-sent next_written begun = record {
    some = s.lines_done;
    first = first-left;
    done = s.ran;
    begun = subst (AppendsPrefix first_written next_written) s.replies (prefix-behind first_written written next_written s.sent gathered s.grown begun);
  }

  -- where no newline is left, all lines are done
  pub all-done : IsFirstByte (is_byte 10) bytes None → LinesDone (whole_lines first_bytes) m p n q
  all-done none =
      subst (λ ls. LinesDone ls m p n q) (sym (append-nil s.lines_done) ∙ (ap (λ ls. s.lines_done ++ ls) (sym (whole_lines-none bytes none)) ∙ s.left)) s.ran

  -- a line more was done
  pub stepping-line : (t : Values) (r : PassSeen) (next_bytes more : List ℕ) → FirstDone bytes next_bytes n q t r gathered more
      → Stepping m t p r first_bytes next_bytes first_written written more
  stepping-line t r next_bytes more f = record {
    lines_done = s.lines_done ++ f.line ∷ [];
    left = append_assoc s.lines_done (f.line ∷ []) (whole_lines next_bytes) ∙ (ap (λ ls. s.lines_done ++ ls) (sym f.lines_are) ∙ s.left);
    ran = lines-append s.lines_done (f.line ∷ []) m n t p q r s.ran (one-line f.line n t q r f.done);
    sent = s.sent;
    grown = s.grown;
    replies =
        let one : answer (texts_of n) f.line ≡ answers_from (state_after (texts_of m) s.lines_done) (f.line ∷ []) =
        ap (λ (st : State). answer st f.line) (lines-state s.lines_done m n p q s.ran) ∙ sym (append-nil (answer (state_after (texts_of m) s.lines_done) f.line)) in
        ap (λ xs. s.sent ++ xs) f.reply ∙ (sym (append_assoc s.sent gathered (answer (texts_of n) f.line))
        ∙ ((λ i. s.replies i ++ one i) ∙ sym (answers_from-append (texts_of m) s.lines_done (f.line ∷ []))));
  }

  -- some of what is gathered was sent
  pub stepping-sent : (next_written : Option (List ℕ)) (left : List ℕ) → Sent written next_written gathered left
      → Stepping m n p q first_bytes bytes first_written next_written left
  stepping-sent next_written left sent = record {
    lines_done = s.lines_done;
    left = s.left;
    ran = s.ran;
    sent = s.sent ++ sent.bytes;
    grown = Appends-trans first_written written next_written s.sent sent.bytes s.grown sent.written;
    replies = append_assoc s.sent sent.bytes left ∙ (ap (λ xs. s.sent ++ xs) (sym sent.parts) ∙ s.replies);
  }

-- ---- the lines of a source

-- the whole lines of what was read were done, and their answers are written
pub record Reading (m n : Values) (p q : PassSeen) (first_left left first_written written : Option (List ℕ)) (bytes : List ℕ) : Type 0 where
  pub read : List ℕ
  pub taken : Consumes first_left left read
  pub rest : bytes ≡ last_part read
  pub ran : LinesDone (whole_lines read) m p n q
  pub replies : Appends first_written written (answers_from (texts_of m) (whole_lines read))

pub reading-first : (m : Values) (p : PassSeen) (left written : Option (List ℕ)) (bytes : List ℕ) → bytes ≡ [] → Reading m m p p left left written written bytes
reading-first m p left written bytes none = record {
  read = [];
  taken = Consumes-nil left;
  rest = none;
  ran = (refl, refl);
  replies = Appends-nil written;
}

-- what is told of lines once memory was found
abbrev pub DoneUnless : Result (Unit {0}) Stop → Type 0 → Type 0
DoneUnless result P = IsErrOf result OutOfMemory ⊎ P

module _ (m n : Values) (p q : PassSeen) (first_left left first_written written : Option (List ℕ)) (bytes : List ℕ) (g : Reading m n p q first_left left first_written written bytes) where
  -- a run that stops before more lines
  pub some-read : (next : Option (List ℕ)) (more : List ℕ) (result : Result (Unit {0}) Stop) → Consumes left next more
      → IfSome first_left (λ input. DoneUnless result (SomeDone (lines input) m p n q first_written written))
  some-read next more result took =
      told (λ input. DoneUnless result (SomeDone (lines input) m p n q first_written written)) first_left next (g.read ++ more) (Consumes-trans first_left left next g.read more g.taken took)
      (λ input rest e k whole. inr (record {
        some = whole_lines g.read;
        first = (
          lines (last_part g.read ++ (more ++ rest)),
          sym (ap lines (whole ∙ append_assoc g.read more rest) ∙ lines-more g.read (more ++ rest)),
        );
        done = g.ran;
        begun = prefix-all first_written written _ g.replies;
      }))

  pub some-kept : (next : Option (List ℕ)) (result : Result (Unit {0}) Stop) → Keeps left next
      → IfSome first_left (λ input. DoneUnless result (SomeDone (lines input) m p n q first_written written))
  some-kept next result kept = some-read next [] result (Consumes-kept left left next [] (Consumes-nil left) kept)

  more-read : (next : Option (List ℕ)) (more : List ℕ) (most k : ℕ) (f : Filled left next bytes more most k) → last_part g.read ++ f.read ≡ more
  more-read next more most k f = ap (λ xs. xs ++ f.read) (sym g.rest) ∙ sym f.added

  lines-read : (next : Option (List ℕ)) (more : List ℕ) (most k : ℕ) (f : Filled left next bytes more most k) → whole_lines (g.read ++ f.read) ≡ whole_lines g.read ++ whole_lines more
  lines-read next more most k f = whole_lines-more g.read f.read ∙ ap (λ xs. whole_lines g.read ++ whole_lines xs) (more-read next more most k f)

  -- the answers to more lines
  answers-read : (ls : List (List ℕ)) → answers_from (texts_of m) (whole_lines g.read ++ ls) ≡ answers_from (texts_of m) (whole_lines g.read) ++ answers_from (texts_of n) ls
  answers-read ls =
      answers_from-append (texts_of m) (whole_lines g.read) ls
      ∙ ap (λ (st : State). answers_from (texts_of m) (whole_lines g.read) ++ answers_from st ls) (sym (lines-state (whole_lines g.read) m n p q g.ran))

  -- the lines of a read were done
  pub reading-on : (t : Values) (r : PassSeen) (next next_written : Option (List ℕ)) (more left_over : List ℕ) (most k : ℕ) → Filled left next bytes more most k
      → LinesDone (whole_lines more) n q t r → Appends written next_written (answers_from (texts_of n) (whole_lines more)) → left_over ≡ last_part more
      → Reading m t p r first_left next first_written next_written left_over
  reading-on t r next next_written more left_over most k f done replied over = record {
    read = g.read ++ f.read;
    taken = Consumes-trans first_left left next g.read f.read g.taken f.taken;
    rest = over ∙ (ap last_part (sym (more-read next more most k f)) ∙ sym (last_part-more g.read f.read));
    ran = subst (λ ls. LinesDone ls m p t r) (sym (lines-read next more most k f)) (lines-append (whole_lines g.read) (whole_lines more) m n t p q r g.ran done);
    replies = subst (Appends first_written next_written) (sym (ap (answers_from (texts_of m)) (lines-read next more most k f) ∙ answers-read (whole_lines more)))
        (Appends-trans first_written written next_written _ _ g.replies replied);
  }

  -- some lines behind them were done
  some-more : (all : List (List ℕ)) (t : Values) (r : PassSeen) (next_written : Option (List ℕ)) → (s : SomeDone all n q t r written next_written) (input : List ℕ)
      → IsPrefix (whole_lines g.read ++ all) (lines input) → SomeDone (lines input) m p t r first_written next_written
  some-more all t r next_written s input first = record {
    some = whole_lines g.read ++ s.some;
    first = (
      s.first.0 ++ first.0,
      append_assoc (whole_lines g.read) s.some (s.first.0 ++ first.0)
          ∙ (ap (λ ls. whole_lines g.read ++ ls) (sym (append_assoc s.some s.first.0 first.0) ∙ ap (λ ls. ls ++ first.0) s.first.1)
          ∙ (sym (append_assoc (whole_lines g.read) all first.0) ∙ first.1)),
    );
    done = lines-append (whole_lines g.read) s.some m n t p q r g.ran s.done;
    begun = subst (AppendsPrefix first_written next_written) (sym (answers-read s.some)) (prefix-behind first_written written next_written _ _ g.replies s.begun);
  }

  -- a write that stopped while the lines of a read were answered
  pub some-written : (t : Values) (r : PassSeen) (next next_written : Option (List ℕ)) (more : List ℕ) (most k : ℕ) (result : Result (Unit {0}) Stop) → Filled left next bytes more most k
      → DoneUnless result (SomeDone (whole_lines more) n q t r written next_written)
      → IfSome first_left (λ input. DoneUnless result (SomeDone (lines input) m p t r first_written next_written))
  some-written t r next next_written more most k result f done =
      told (λ input. DoneUnless result (SomeDone (lines input) m p t r first_written next_written)) first_left next (g.read ++ f.read)
      (Consumes-trans first_left left next g.read f.read g.taken f.taken)
      (λ input rest e o whole. by done input rest whole)
    where
      by : DoneUnless result (SomeDone (whole_lines more) n q t r written next_written) → (input rest : List ℕ) → input ≡ (g.read ++ f.read) ++ rest
          → DoneUnless result (SomeDone (lines input) m p t r first_written next_written)
      by (inl x) input rest whole = inl x
      by (inr s) input rest whole =
          let behind = lines (last_part (g.read ++ f.read) ++ rest) in
          let is = ap (λ ls. ls ++ behind) (sym (lines-read next more most k f)) ∙ sym (ap lines whole ∙ lines-more (g.read ++ f.read) rest) in
          inr (some-more (whole_lines more) t r next_written s input (behind, is))

  -- the end of the source: what stands behind the last newline was answered
  pub some-last : (t : Values) (r : PassSeen) (next next_written : Option (List ℕ)) (result : Result (Unit {0}) Stop) → Consumes left next [] → IsAtEnd next
      → DoneUnless result (LinesDone (less_empty_end (bytes ∷ [])) n q t r) → AppendsPrefix written next_written (answers_from (texts_of n) (less_empty_end (bytes ∷ [])))
      → IfSome first_left (λ input. DoneUnless result (SomeDone (lines input) m p t r first_written next_written))
  some-last t r next next_written result nothing at done begun =
      let taken : Consumes first_left next g.read = subst (Consumes first_left next) (append-nil g.read) (Consumes-trans first_left left next g.read [] g.taken nothing) in
      told (λ input. DoneUnless result (SomeDone (lines input) m p t r first_written next_written)) first_left next g.read taken
      (λ input rest e k whole. by done input (whole ∙ ap (λ xs. g.read ++ xs) (at-end next rest k at) ∙ append-nil g.read))
    where
      at-end : (l : Option (List ℕ)) (rest : List ℕ) → l ≡ Some rest → IsAtEnd l → rest ≡ []
      at-end None rest e h = cc
      at-end (Some xs) rest e h = let same : xs ≡ rest = cc in sym same ∙ h

      by : DoneUnless result (LinesDone (less_empty_end (bytes ∷ [])) n q t r) → (input : List ℕ) → input ≡ g.read
          → DoneUnless result (SomeDone (lines input) m p t r first_written next_written)
      by (inl x) input whole = inl x
      by (inr d) input whole =
          let end = less_empty_end (bytes ∷ []) in
          let is = append-nil (whole_lines g.read ++ end) ∙ (ap (λ xs. whole_lines g.read ++ less_empty_end (xs ∷ [])) g.rest ∙ (sym (lines-whole g.read) ∙ ap lines (sym whole))) in
          let here : SomeDone end n q t r written next_written = record { some = end; first = ([], append-nil end); done = d; begun = begun } in
          inr (some-more end t r next_written here input ([], is))
