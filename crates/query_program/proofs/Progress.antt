-- How far a run has come: the bytes read, their whole lines answered, and what stands behind the last newline.
use Rattle.std.proofs.Common.{◌≡◌, refl, sym, ap, ◌∙◌, List, [], ◌∷◌, ◌++◌, ℕ, ◌+◌, ◌-◌, ◌<◌, ◌≤◌, ◌==◌, Bool, true, false, cond, append_assoc, append-nil, Option, Some, None, take, length, length-append, subst, All, IfSome, OnOk, arith, Result, Ok, Err}
use Rattle.std.specs.Io.KnownBytes.{Appends, Consumes, IsAtEnd, Keeps}
use Rattle.std.proofs.KnownBytes.{Appends-trans, Appends-nil, Consumes-nil, Consumes-trans, Consumes-kept, Keeps-refl}
use Rattle.std.proofs.Math.Seq.{take-append-add, take-append_seam}
use Rattle.std.proofs.lemmas.Bool.{eqb-true, eqb-false}
use Rattle.std.proofs.lemmas.List.Elements.{All-append, All-nil}
use Rattle.outside.specs.Bytes.{AppendsPrefix}
use Rattle.query_session.specs.State.{State}
use Rattle.query_program.specs.Answers.{answers_from, state_after}
use Rattle.memchr.specs.Find.{IsFirstByte, is_byte}
use Rattle.query_program.specs.Ends.{Ends, EndsWith, AnsweredPart, EndsByInput, stop_if, limit_stop}
use Rattle.query_program.specs.Limits.{IsShort, seen, IsWithin}
use Rattle.query_program.specs.Lines.{lines, less_empty_end, whole_lines, last_part}
use Rattle.query_program.specs.Reads.{Filled, IsReadStop}
use Rattle.query_program.specs.Writes.{Answered, IsWriteStop, IsWriteStopOf}
use Rattle.query_program.specs.declared.limits.TheConstants.{LINE_LIMIT, INPUT_LIMIT}
use Rattle.query_program.specs.declared.stop.Stop.{Stop}
use Rattle.query_program.specs.declared.stop.Stop.TheVariants.{ReadFault, WriteFault, OutOfMemory, LineTooLong, InputTooLong}
use Rattle.query_program.proofs.Cuts.{whole_lines-more, last_part-more, lines-more, lines-whole, last_part-no_newline, lines-longer, lines-one_more, whole_lines-short, end-short, one-all, whole_lines-none, last_part-none}
use Rattle.query_program.proofs.Folds.{answers_from-append, state_after-append, prefix-behind, prefix-front, prefix-more}

pub record Progress (first_state state : State) (first_left left first_written written : Option (List ℕ)) (bytes : List ℕ) (total : ℕ) : Type 0 where
  pub read : List ℕ
  pub taken : Consumes first_left left read
  pub count : length read ≡ total
  pub rest : bytes ≡ last_part read
  pub replies : Appends first_written written (answers_from first_state (whole_lines read))
  pub now : state ≡ state_after first_state (whole_lines read)
  pub short : All IsShort (whole_lines read)

pub progress-first : (state : State) (left written : Option (List ℕ)) (bytes : List ℕ) → bytes ≡ [] → Progress state state left left written written bytes 0
progress-first state left written bytes none = record {
  read = [];
  taken = Consumes-nil left;
  count = refl;
  rest = none;
  replies = Appends-nil written;
  now = refl;
  short = All-nil IsShort;
}

-- what is told of a source, once some bytes were read of it
pub told : (P : List ℕ → Type 0) (first_left left : Option (List ℕ)) (read : List ℕ) → Consumes first_left left read
    → ((input rest : List ℕ) → first_left ≡ Some input → left ≡ Some rest → input ≡ read ++ rest → P input) → IfSome first_left P
told P None left read c f = tt
told P (Some input) None read c f = absurd c
told P (Some input) (Some rest) read c f = f input rest refl refl c

at_end : (left : Option (List ℕ)) (rest : List ℕ) → left ≡ Some rest → IsAtEnd left → rest ≡ []
at_end None rest e h = cc
at_end (Some xs) rest e h = let same : xs ≡ rest = cc in sym same ∙ h

stop-newline : (full : Bool) → stop_if full true ≡ InputTooLong
stop-newline true = refl
stop-newline false = refl

-- whole lines and what stands behind them keep the limits
within-parts : (read : List ℕ) → length read ≤ INPUT_LIMIT → All IsShort (whole_lines read) → length (last_part read) ≤ LINE_LIMIT → IsWithin read
within-parts read all short last = record {
  short = all;
  short_lines = subst (All IsShort) (sym (lines-whole read)) (All-append IsShort (whole_lines read) (less_empty_end (last_part read ∷ [])) short (end-short (last_part read) LINE_LIMIT last));
}

-- the last answer was written, or it stopped as answers stop
abbrev pub LastEnd : Result (Unit {0}) Stop → Type 0 → Type 0
LastEnd (Ok x) P = P
LastEnd (Err stop) P = IsWriteStop stop

module _ (first_state state : State) (first_left left first_written written : Option (List ℕ)) (bytes : List ℕ) (total : ℕ) (p : Progress first_state state first_left left first_written written bytes total) where
  -- the answers to all that was read and more
  answers-more : (rest : List ℕ) → answers_from first_state (lines (p.read ++ rest)) ≡ answers_from first_state (whole_lines p.read) ++ answers_from (state_after first_state (whole_lines p.read)) (lines (last_part p.read ++ rest))
  answers-more rest = ap (answers_from first_state) (lines-more p.read rest) ∙ answers_from-append first_state (whole_lines p.read) (lines (last_part p.read ++ rest))

  -- what is written begins the answers, whatever else comes
  begun-so_far : (rest : List ℕ) → AppendsPrefix first_written written (answers_from first_state (lines (p.read ++ rest)))
  begun-so_far rest = subst (AppendsPrefix first_written written) (sym (answers-more rest)) (prefix-front first_written written (answers_from first_state (whole_lines p.read)) _ p.replies)

  kept-within : total ≤ INPUT_LIMIT → length bytes ≤ LINE_LIMIT → IsWithin p.read
  kept-within within fits = within-parts p.read (omega (arith, p.count, within)) p.short (omega (arith, fits, ap length p.rest))

  read-stop : (kept : Option (List ℕ)) (stop : Stop) (input : List ℕ) → Consumes (Some input) kept p.read → IsReadStop stop → IsWithin p.read → EndsWith first_state kept first_written written (Err stop) input
  read-stop kept ReadFault input taken is within = record { read = p.read; taken = taken; within = within; replies = p.replies }
  read-stop kept WriteFault input taken is within = absurd is
  read-stop kept OutOfMemory input taken is within = record {
    read = p.read;
    taken = taken;
    within = within;
    replies = subst (λ xs. AppendsPrefix first_written written (answers_from first_state (lines xs))) (append-nil p.read) (begun-so_far []);
  }
  read-stop kept LineTooLong input taken is within = absurd is
  read-stop kept InputTooLong input taken is within = absurd is

  -- a read that failed
  pub ends-read : (kept : Option (List ℕ)) (stop : Stop) → Keeps left kept → IsReadStop stop → total ≤ INPUT_LIMIT → length bytes ≤ LINE_LIMIT
      → IfSome first_left (Ends first_state kept first_written written (Err stop))
  ends-read kept stop keeps is within fits =
      let taken = Consumes-kept first_left left kept p.read p.taken keeps in
      told (Ends first_state kept first_written written (Err stop)) first_left kept p.read taken
      (λ input rest e k whole.
      let took = subst (λ l. Consumes l kept p.read) e taken in
      record {
        begun = subst (λ xs. AppendsPrefix first_written written (answers_from first_state (lines xs))) (sym whole) (begun-so_far rest);
        few = record { read = p.read; taken = took; few = omega (arith, p.count, within) };
        how = read-stop kept stop input took is (kept-within within fits);
      })

  -- a read that gave bytes
  pub with-read : (next : Option (List ℕ)) (more : List ℕ) (most n : ℕ) → Filled left next bytes more most n → List ℕ
  with-read next more most n f = p.read ++ f.read

  more-bytes : (next : Option (List ℕ)) (more : List ℕ) (most n : ℕ) (f : Filled left next bytes more most n) → last_part p.read ++ f.read ≡ more
  more-bytes next more most n f = ap (λ xs. xs ++ f.read) (sym p.rest) ∙ sym f.added

  answers-with : (next : Option (List ℕ)) (more : List ℕ) (most n : ℕ) (f : Filled left next bytes more most n)
      → answers_from first_state (whole_lines (p.read ++ f.read)) ≡ answers_from first_state (whole_lines p.read) ++ answers_from state (whole_lines more)
  answers-with next more most n f =
      ap (answers_from first_state) (whole_lines-more p.read f.read)
      ∙ answers_from-append first_state (whole_lines p.read) (whole_lines (last_part p.read ++ f.read))
      ∙ ap (λ st. answers_from first_state (whole_lines p.read) ++ answers_from st (whole_lines (last_part p.read ++ f.read))) (sym p.now)
      ∙ ap (λ xs. answers_from first_state (whole_lines p.read) ++ answers_from state (whole_lines xs)) (more-bytes next more most n f)

  short-with : (next : Option (List ℕ)) (more : List ℕ) (most n : ℕ) (f : Filled left next bytes more most n) → length more ≤ LINE_LIMIT + 1 → All IsShort (whole_lines (p.read ++ f.read))
  short-with next more most n f bound =
      subst (All IsShort) (ap (λ xs. whole_lines p.read ++ whole_lines xs) (sym (more-bytes next more most n f)) ∙ sym (whole_lines-more p.read f.read))
      (All-append IsShort (whole_lines p.read) (whole_lines more) p.short (whole_lines-short more LINE_LIMIT bound))

  last-with : (next : Option (List ℕ)) (more : List ℕ) (most n : ℕ) (f : Filled left next bytes more most n) → last_part (p.read ++ f.read) ≡ last_part more
  last-with next more most n f = last_part-more p.read f.read ∙ ap last_part (more-bytes next more most n f)

  -- the bytes of a read were answered up to their last newline
  pub progress-on : (next_state : State) (next_left next_written : Option (List ℕ)) (more left_over : List ℕ) (most n : ℕ)
      → Filled left next_left bytes more most n → length more ≤ LINE_LIMIT + 1 → Answered state next_state more left_over written next_written
      → Progress first_state next_state first_left next_left first_written next_written left_over (total + n)
  progress-on next_state next_left next_written more left_over most n f bound a = record {
    read = p.read ++ f.read;
    taken = Consumes-trans first_left left next_left p.read f.read p.taken f.taken;
    count = length-append p.read f.read ∙ ap (λ k. k + length f.read) p.count ∙ ap (λ k. total + k) f.count;
    rest = a.rest ∙ sym (last-with next_left more most n f);
    replies = subst (Appends first_written next_written) (sym (answers-with next_left more most n f))
        (Appends-trans first_written written next_written _ _ p.replies a.replies);
    now = a.state ∙ ap (λ st. state_after st (whole_lines more)) p.now
        ∙ ap (λ xs. state_after (state_after first_state (whole_lines p.read)) (whole_lines xs)) (sym (more-bytes next_left more most n f))
        ∙ sym (state_after-append first_state (whole_lines p.read) (whole_lines (last_part p.read ++ f.read)))
        ∙ ap (state_after first_state) (sym (whole_lines-more p.read f.read));
    short = short-with next_left more most n f bound;
  }

  write-stop : (next_left next_written : Option (List ℕ)) (stop : Stop) (input : List ℕ) → IsWriteStop stop → AnsweredPart first_state input next_left first_written next_written
      → EndsWith first_state next_left first_written next_written (Err stop) input
  write-stop next_left next_written ReadFault input is part = absurd is
  write-stop next_left next_written WriteFault input is part = part
  write-stop next_left next_written OutOfMemory input is part = part
  write-stop next_left next_written LineTooLong input is part = absurd is
  write-stop next_left next_written InputTooLong input is part = absurd is

  -- a write that stopped while the bytes of a read were answered
  pub ends-write : (next_left next_written : Option (List ℕ)) (more : List ℕ) (most n : ℕ) (stop : Stop)
      → Filled left next_left bytes more most n → AppendsPrefix written next_written (answers_from state (whole_lines more)) → IsWriteStop stop
      → total + n ≤ INPUT_LIMIT → length more ≤ LINE_LIMIT + 1 → length (last_part more) ≤ LINE_LIMIT
      → IfSome first_left (Ends first_state next_left first_written next_written (Err stop))
  ends-write next_left next_written more most n stop f begun is within bound fits =
      let read = p.read ++ f.read in
      let taken = Consumes-trans first_left left next_left p.read f.read p.taken f.taken in
      let count : length read ≡ total + n = length-append p.read f.read ∙ ap (λ k. k + length f.read) p.count ∙ ap (λ k. total + k) f.count in
      let first : AppendsPrefix first_written next_written (answers_from first_state (whole_lines read)) =
      subst (AppendsPrefix first_written next_written) (sym (answers-with next_left more most n f)) (prefix-behind first_written written next_written _ _ p.replies begun) in
      let with_more : (rest : List ℕ) → AppendsPrefix first_written next_written (answers_from first_state (lines (read ++ rest))) =
      λ rest. subst (AppendsPrefix first_written next_written) (sym (ap (answers_from first_state) (lines-more read rest) ∙ answers_from-append first_state (whole_lines read) (lines (last_part read ++ rest))))
      (prefix-more first_written next_written (answers_from first_state (whole_lines read)) _ first) in
      told (Ends first_state next_left first_written next_written (Err stop)) first_left next_left read taken
      (λ input rest e k whole.
      let took = subst (λ l. Consumes l next_left read) e taken in
      record {
        begun = subst (λ xs. AppendsPrefix first_written next_written (answers_from first_state (lines xs))) (sym whole) (with_more rest);
        few = record { read = read; taken = took; few = omega (arith, count, within) };
        how = write-stop next_left next_written stop input is (record {
          read = read;
          taken = took;
          within = within-parts read (omega (arith, count, within)) (short-with next_left more most n f bound) (omega (arith, fits, ap length (last-with next_left more most n f)));
          replies = subst (λ xs. AppendsPrefix first_written next_written (answers_from first_state (lines xs))) (append-nil read) (with_more []);
        });
      })

  -- at the end of the source: what stands behind the last newline is answered
  end-answers : answers_from first_state (lines p.read) ≡ answers_from first_state (whole_lines p.read) ++ answers_from state (less_empty_end (bytes ∷ []))
  end-answers =
      ap (answers_from first_state) (lines-whole p.read) ∙ answers_from-append first_state (whole_lines p.read) (less_empty_end (last_part p.read ∷ []))
      ∙ ap (λ st. answers_from first_state (whole_lines p.read) ++ answers_from st (less_empty_end (last_part p.read ∷ []))) (sym p.now)
      ∙ ap (λ xs. answers_from first_state (whole_lines p.read) ++ answers_from state (less_empty_end (xs ∷ []))) (sym p.rest)

  end-input : (end_left : Option (List ℕ)) (input rest : List ℕ) → end_left ≡ Some rest → IsAtEnd end_left → input ≡ p.read ++ rest → input ≡ p.read
  end-input end_left input rest e at whole = whole ∙ ap (λ xs. p.read ++ xs) (at_end end_left rest e at) ∙ append-nil p.read

  last-how : (end_left end_written : Option (List ℕ)) (result : Result (Unit {0}) Stop) (input : List ℕ) → input ≡ p.read → IsAtEnd end_left
      → IsWithin p.read → AnsweredPart first_state input end_left first_written end_written → LastEnd result (Appends written end_written (answers_from state (less_empty_end (bytes ∷ []))))
      → EndsWith first_state end_left first_written end_written result input
  last-how end_left end_written (Ok x) input same at within part last = record {
    within = subst IsWithin (sym same) within;
    end = at;
    replies = subst (Appends first_written end_written) (sym (ap (λ xs. answers_from first_state (lines xs)) same ∙ end-answers))
        (Appends-trans first_written written end_written _ _ p.replies last);
  }
  last-how end_left end_written (Err stop) input same at within part last = write-stop end_left end_written stop input last part

  -- either result of the last answer
  pub ends-last : (end_left end_written : Option (List ℕ)) (result : Result (Unit {0}) Stop) → Consumes left end_left [] → IsAtEnd end_left
      → total ≤ INPUT_LIMIT → length bytes ≤ LINE_LIMIT
      → AppendsPrefix written end_written (answers_from state (less_empty_end (bytes ∷ [])))
      → LastEnd result (Appends written end_written (answers_from state (less_empty_end (bytes ∷ []))))
      → IfSome first_left (Ends first_state end_left first_written end_written result)
  ends-last end_left end_written result nothing at within fits begun last =
      let taken : Consumes first_left end_left p.read = subst (Consumes first_left end_left) (append-nil p.read) (Consumes-trans first_left left end_left p.read [] p.taken nothing) in
      told (Ends first_state end_left first_written end_written result) first_left end_left p.read taken
      (λ input rest e k whole.
      let same = end-input end_left input rest k at whole in
      let took = subst (λ l. Consumes l end_left p.read) e taken in
      let first : AppendsPrefix first_written end_written (answers_from first_state (lines p.read)) =
      subst (AppendsPrefix first_written end_written) (sym end-answers) (prefix-behind first_written written end_written _ _ p.replies begun) in
      record {
        begun = subst (λ xs. AppendsPrefix first_written end_written (answers_from first_state (lines xs))) (sym same) first;
        few = record { read = p.read; taken = took; few = omega (arith, p.count, within) };
        how = last-how end_left end_written result input same at (kept-within within fits)
            (record { read = p.read; taken = took; within = kept-within within fits; replies = first }) last;
      })

  -- a line that is too long before the input is
  pub ends-line : total ≤ INPUT_LIMIT → LINE_LIMIT < length bytes → IfSome first_left (Ends first_state left first_written written (Err LineTooLong))
  ends-line within long =
      told (Ends first_state left first_written written (Err LineTooLong)) first_left left p.read p.taken
      (λ input rest e k whole.
      let others = INPUT_LIMIT + 1 - total in
      let view : seen input ≡ p.read ++ take others rest =
      ap seen whole ∙ ap (λ n. take n (p.read ++ rest)) (let e1 : INPUT_LIMIT + 1 ≡ length p.read + others = omega (arith, p.count, within) in e1) ∙ take-append-add p.read rest others in
      let longer = lines-longer (last_part p.read) (take others rest) (last_part-no_newline p.read) (omega (arith, long, ap length p.rest)) in
      record {
        begun = subst (λ xs. AppendsPrefix first_written written (answers_from first_state (lines xs))) (sym whole) (begun-so_far rest);
        few = record { read = p.read; taken = subst (λ l. Consumes l left p.read) e p.taken; few = omega (arith, p.count, within) };
        how = record {
          cause = record {
            before = whole_lines p.read;
            line = last_part p.read ++ longer.0;
            after = longer.1;
            parts = ap lines view ∙ lines-more p.read (take others rest) ∙ ap (λ xs. whole_lines p.read ++ xs) longer.2;
            long = omega (arith, long, ap length p.rest, length-append (last_part p.read) longer.0);
            short = p.short;
          };
          replies = p.replies;
        };
      })

  limit-seen : (byte : ℕ) (input rest : List ℕ) → input ≡ p.read ++ (byte ∷ rest) → total ≡ INPUT_LIMIT
      → lines (seen input) ≡ whole_lines p.read ++ (cond (byte == 10) bytes (bytes ++ byte ∷ []) ∷ [])
  limit-seen byte input rest ends full =
      let view : seen input ≡ p.read ++ (byte ∷ []) =
      ap seen ends ∙ ap (λ n. take n (p.read ++ (byte ∷ rest))) (let e1 : INPUT_LIMIT + 1 ≡ length p.read + 1 = omega (arith, p.count, full) in e1) ∙ take-append-add p.read (byte ∷ rest) 1 in
      ap lines view ∙ lines-more p.read (byte ∷ []) ∙ ap (λ xs. whole_lines p.read ++ xs) (lines-one_more (last_part p.read) byte (last_part-no_newline p.read))
      ∙ ap (λ xs. whole_lines p.read ++ (cond (byte == 10) xs (xs ++ byte ∷ []) ∷ [])) (sym p.rest)

  limit-how : (next : Option (List ℕ)) (byte : ℕ) (input rest : List ℕ) → input ≡ p.read ++ (byte ∷ rest) → total ≡ INPUT_LIMIT → length bytes ≤ LINE_LIMIT
      → EndsWith first_state next first_written written (Err (limit_stop (length bytes) byte)) input
  limit-how next byte input rest ends full fits =
      let parts = limit-seen byte input rest ends full in
      let front : take INPUT_LIMIT input ≡ p.read = ap (take INPUT_LIMIT) ends ∙ ap (λ n. take n (p.read ++ (byte ∷ rest))) (let e1 : INPUT_LIMIT ≡ length p.read = omega (arith, p.count, full) in e1) ∙ take-append_seam p.read (byte ∷ rest) in
      let long : INPUT_LIMIT < length input = omega (arith, ap length ends, length-append p.read (byte ∷ rest), p.count, full) in
      let by_input : (line : List ℕ) → lines (seen input) ≡ whole_lines p.read ++ (line ∷ []) → length line ≤ LINE_LIMIT → EndsByInput first_state input first_written written =
      λ line is small. record {
        cause = record {
          long = long;
          short = subst (All IsShort) (sym is) (All-append IsShort (whole_lines p.read) (line ∷ []) p.short (one-all IsShort line small));
        };
        replies = subst (λ xs. Appends first_written written (answers_from first_state (whole_lines xs))) (sym front) p.replies;
      } in
      elim (byte == 10) as (λ v. lines (seen input) ≡ whole_lines p.read ++ (cond v bytes (bytes ++ byte ∷ []) ∷ []) → EndsWith first_state next first_written written (Err (stop_if (length bytes == LINE_LIMIT) v)) input) [
        | true ↦ λ is. subst (λ s. EndsWith first_state next first_written written (Err s) input) (sym (stop-newline (length bytes == LINE_LIMIT))) (by_input bytes is fits)
        | false ↦ λ is. elim (length bytes == LINE_LIMIT) as (λ f. (length bytes == LINE_LIMIT) ≡ f → EndsWith first_state next first_written written (Err (stop_if f false)) input) [
          | true ↦ λ full_line. record {
            cause = record {
              before = whole_lines p.read;
              line = bytes ++ byte ∷ [];
              after = [];
              parts = is;
              long = omega (arith, length-append bytes (byte ∷ []), eqb-true (length bytes) LINE_LIMIT full_line);
              short = p.short;
            };
            replies = p.replies;
          }
          | false ↦ λ not_full. let differs : length bytes ≡ LINE_LIMIT → ⊥ = eqb-false (length bytes) LINE_LIMIT not_full in by_input (bytes ++ byte ∷ []) is (omega (arith, length-append bytes (byte ∷ []), fits, differs))
        ] refl
      ] parts

  -- the byte behind the input's limit
  pub ends-limit : (next : Option (List ℕ)) (byte : ℕ) → Consumes left next (byte ∷ []) → total ≡ INPUT_LIMIT → length bytes ≤ LINE_LIMIT
      → IfSome first_left (Ends first_state next first_written written (Err (limit_stop (length bytes) byte)))
  ends-limit next byte one full fits =
      let taken = Consumes-trans first_left left next p.read (byte ∷ []) p.taken one in
      told (Ends first_state next first_written written (Err (limit_stop (length bytes) byte))) first_left next (p.read ++ byte ∷ []) taken
      (λ input rest e k whole.
      let ends : input ≡ p.read ++ (byte ∷ rest) = whole ∙ append_assoc p.read (byte ∷ []) rest in
      record {
        begun = subst (λ xs. AppendsPrefix first_written written (answers_from first_state (lines xs))) (sym ends) (begun-so_far (byte ∷ rest));
        few = record { read = p.read ++ byte ∷ []; taken = subst (λ l. Consumes l next (p.read ++ byte ∷ [])) e taken; few = omega (arith, length-append p.read (byte ∷ []), p.count, full) };
        how = limit-how next byte input rest ends full fits;
      })

-- no whole line was there to answer
pub answered-none : (state : State) (bytes : List ℕ) (written : Option (List ℕ)) → IsFirstByte (is_byte 10) bytes None → Answered state state bytes bytes written written
answered-none state bytes written none = record {
  replies = subst (λ ls. Appends written written (answers_from state ls)) (sym (whole_lines-none bytes none)) (Appends-nil written);
  state = sym (ap (state_after state) (whole_lines-none bytes none));
  rest = sym (last_part-none bytes none);
}

-- a run that found no memory before it read
pub ends-unbegun : (state : State) (left written : Option (List ℕ)) → IfSome left (Ends state left written written (Err OutOfMemory))
ends-unbegun state left written =
    ends-read state state left left written written [] 0 (progress-first state left written [] refl) left OutOfMemory (Keeps-refl left) tt (omega arith) (omega arith)

pub last-end : (P : Type 0) (result : Result (Unit {0}) Stop) → OnOk result P → IsWriteStopOf result → LastEnd result P
last-end P (Ok x) done is = done
last-end P (Err stop) done is = is
