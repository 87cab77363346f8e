-- Conversations: what stands a byte later, what a refusal leaves, and what is due at the end (`ConversingSteps`).
use Rattle.std.proofs.Common.{◌≡◌, ℕ, ◌+◌, ◌<◌, ◌==◌, false, List, [], ◌∷◌, ◌++◌, length, take, drop, get_or, cond}
use Rattle.std.proofs.Common.{refl, sym, ◌∙◌, ap, subst, append_assoc, arith}
use Rattle.std.specs.Prelude.{Option, None, Some, Result, Ok, Err, min}
use Rattle.std.specs.List.{flat_map, count_by}
use Rattle.std.proofs.Math.Seq.{take-append_seam}
use Rattle.std.proofs.lemmas.List.{append-nil, length-append, take-append-drop, take-append-le, take_more}
use Rattle.std.proofs.lemmas.List.Sums.{sum_by-append}
use Rattle.std.proofs.lemmas.Grind.{flat_map-append}
use Rattle.streams.specs.Streams.{last_count, more_by}
use Rattle.streams.specs.Readers.{Reader, IsReadThrough, IsUnfailed}
use Rattle.streams.specs.Writers.{SinkOf, writing, IsWritten, IsCutOff}
use Rattle.streams.proofs.WholeWriteLemmas.{IsWritten-nil, IsWritten-trans, IsCutOff-after}
use Rattle.scip_query.specs.Commands.{command_lines}
use Rattle.scip_query.specs.MoreAnswers.{Asked, reply_to, replies_to}
use Rattle.scip_query.specs.Conversing.{is_line_end, ended_lines, Replies, LeavesFeed, AreAnswersTo}
use Rattle.scip_query.specs.Tables.ConversingSteps.{kept_line, kept_with, Stands, IsCutShort, IsHalted, Goes}
use Rattle.scip_query.specs.Tables.ConversingSteps.{AnswersNext, Concludes}
use Rattle.scip_query.specs.declared.answer_fault.AnswerFault.{AnswerFault}
use Rattle.scip_query.specs.declared.answer_fault.AnswerFault.TheVariants.{Read, Write, Memory}
use Rattle.scip_query.specs.declared.conversation.Conversation.{Conversation}
use Rattle.scip_query.proofs.CommandLineLemmas.{line_ended, last_line, line_there, kept_with-is, kept_answer}
use Rattle.scip_query.proofs.CommandLineLemmas.{kept_nothing}

count_after : (bytes : List ℕ) (b : ℕ)
    → count_by is_line_end (bytes ++ b ∷ []) ≡ count_by is_line_end bytes + cond (b == 10) 1 0
count_after bytes b = omega (arith, sum_by-append (λ x. cond (is_line_end x) 1 0) bytes (b ∷ []))

-- a byte behind bytes, and what is behind it
further : (read : List ℕ) (b : ℕ) (behind : List ℕ) → (read ++ b ∷ []) ++ behind ≡ read ++ b ∷ behind
further read b behind = append_assoc read (b ∷ []) behind

-- bytes up to one of them, that one, and the others
pub taken_all : (read bytes : List ℕ) (i : ℕ) → i < length bytes
    → ((read ++ take i bytes) ++ get_or bytes i 0 ∷ []) ++ drop (i + 1) bytes ≡ read ++ bytes
taken_all read bytes i within =
    ap (λ l. l ++ drop (i + 1) bytes)
    (append_assoc read (take i bytes) (get_or bytes i 0 ∷ [])
    ∙ ap (λ l. read ++ l) (sym (take_more bytes i 0 within)))
    ∙ append_assoc read (take (i + 1) bytes) (drop (i + 1) bytes)
    ∙ ap (λ l. read ++ l) (take-append-drop (i + 1) bytes)

-- counts stop at the last u64
counted : (a n : ℕ) (written : ℕ) → written ≡ min a last_count → more_by n written ≡ min (a + n) last_count
counted a n written e = omega (arith, e)

module _ {W : Type 0} (sink : SinkOf W) where
  -- a text that is cut off is cut off too where more was due
  cut_off_more : (a b : W) (due more : List ℕ) (n : ℕ) → IsCutOff (writing sink a b) due n
      → IsCutOff (writing sink a b) (due ++ more) n
  cut_off_more a b due more n p =
      let short : n < length due = p.short in
      record {
        short = omega (arith, length-append due more);
        written = rw (take-append-le n due more (omega arith)) p.written;
        failed = p.failed;
      }

  module _ (asked : Asked) (first : W) where
    -- ---- the answers to some lines, and to one more

    due_more : (ended : List (List ℕ)) (line : List ℕ)
        → flat_map (reply_to asked) ended ++ reply_to asked (kept_line line)
        ≡ flat_map (reply_to asked) (ended ++ line ∷ [])
    due_more ended line =
        ap (λ l. flat_map (reply_to asked) ended ++ l)
        (kept_answer asked line ∙ sym (append-nil (reply_to asked line)))
        ∙ sym (flat_map-append (reply_to asked) ended (line ∷ []))

    -- where the answer to the line that is begun went out
    line_written : (read : List ℕ) (talk : Conversation) (before after : W)
        (s : Stands sink asked first read talk before)
        → IsWritten (writing sink before after) (reply_to asked talk.line.items)
        → IsWritten (writing sink first after) (flat_map (reply_to asked) (s.ended ++ s.begun ∷ []))
    line_written read talk before after s p =
        subst (IsWritten (writing sink first after)) (due_more s.ended s.begun)
        (IsWritten-trans sink first before after _ _ s.answered
        (subst (λ l. IsWritten (writing sink before after) (reply_to asked l)) s.kept p))

    line_cut_off : (read : List ℕ) (talk : Conversation) (before after : W) (n : ℕ)
        (s : Stands sink asked first read talk before)
        → IsCutOff (writing sink before after) (reply_to asked talk.line.items) n
        → IsCutOff (writing sink first after) (flat_map (reply_to asked) (s.ended ++ s.begun ∷ []))
        (length (flat_map (reply_to asked) s.ended) + n)
    line_cut_off read talk before after n s p =
        subst (λ l. IsCutOff (writing sink first after) l (length (flat_map (reply_to asked) s.ended) + n))
        (due_more s.ended s.begun)
        (IsCutOff-after sink first before after _ _ n s.answered
        (subst (λ l. IsCutOff (writing sink before after) (reply_to asked l) n) s.kept p))

    length_more : (read : List ℕ) (talk : Conversation) (now : W)
        (s : Stands sink asked first read talk now)
        → length (flat_map (reply_to asked) s.ended) + length (reply_to asked talk.line.items)
        ≡ length (flat_map (reply_to asked) (s.ended ++ s.begun ∷ []))
    length_more read talk now s =
        ap (λ l. length (flat_map (reply_to asked) s.ended) + length (reply_to asked l)) s.kept
        ∙ sym (length-append (flat_map (reply_to asked) s.ended) (reply_to asked (kept_line s.begun)))
        ∙ ap length (due_more s.ended s.begun)

    -- ---- before the first byte

    pub starts : (talk : Conversation) → talk.line.items ≡ [] → talk.written ≡ 0
        → Stands sink asked first [] talk first
    starts talk line written = record {
      ended = [];
      begun = [];
      lines = λ behind. refl;
      ends = refl;
      unended = refl;
      kept = line;
      answered = IsWritten-nil sink first;
      written = written;
    }

    -- ---- one byte

    pub byte_kept : (read : List ℕ) (b : ℕ) (talk next : Conversation) (now : W) → (b == 10) ≡ false
        → Stands sink asked first read talk now
        → next.line.items ≡ kept_with talk.line.items b → next.written ≡ talk.written
        → Stands sink asked first (read ++ b ∷ []) next now
    byte_kept read b talk next now inside s line written = record {
      ended = s.ended;
      begun = s.begun ++ b ∷ [];
      lines = λ behind.
          ap command_lines (further read b behind) ∙ s.lines (b ∷ behind)
          ∙ ap (λ l. s.ended ++ command_lines l) (sym (further s.begun b behind));
      ends = count_after read b ∙ ap (λ t. count_by is_line_end read + cond t 1 0) inside ∙ omega (arith, s.ends);
      unended = count_after s.begun b ∙ ap (λ t. count_by is_line_end s.begun + cond t 1 0) inside
          ∙ omega (arith, s.unended);
      kept = line ∙ ap (λ l. kept_with l b) s.kept ∙ kept_with-is s.begun b;
      answered = s.answered;
      written = written ∙ s.written;
    }

    pub byte_refused : (read : List ℕ) (b : ℕ) (talk : Conversation) (now : W)
        → Stands sink asked first read talk now
        → IsHalted sink asked first (read ++ b ∷ []) now
    byte_refused read b talk now s = record {
      ended = s.ended;
      lines = λ behind.
          let line = line_there s.begun b behind in (
            line.0,
            line.1,
            ap command_lines (further read b behind) ∙ s.lines (b ∷ behind)
                ∙ ap (λ l. s.ended ++ l) line.2,
          );
      answered = s.answered;
    }

    -- the lines where a `\n` ends the one that is begun
    one_line_more : (read : List ℕ) (talk : Conversation) (now : W)
        (s : Stands sink asked first read talk now) (behind : List ℕ)
        → command_lines ((read ++ 10 ∷ []) ++ behind) ≡ s.ended ++ s.begun ∷ command_lines behind
    one_line_more read talk now s behind =
        ap command_lines (further read 10 behind) ∙ s.lines (10 ∷ behind)
        ∙ ap (λ l. s.ended ++ l) (line_ended s.begun behind s.unended)

    pub line_goes : (read : List ℕ) (talk next : Conversation) (before after : W)
        (result : Result (Unit {0}) AnswerFault)
        → Stands sink asked first read talk before
        → AnswersNext (writing sink before after) talk next (reply_to asked talk.line.items) result
        → Goes sink asked first (read ++ 10 ∷ []) next after result
    line_goes read talk next before after (Ok done) s p = record {
      ended = s.ended ++ s.begun ∷ [];
      begun = [];
      lines = λ behind. one_line_more read talk before s behind
          ∙ sym (append_assoc s.ended (s.begun ∷ []) (command_lines behind));
      ends = count_after read 10 ∙ omega (arith, s.ends, length-append s.ended (s.begun ∷ []));
      unended = refl;
      kept = p.1;
      answered = line_written read talk before after s p.0;
      written = p.2 ∙ counted (length (flat_map (reply_to asked) s.ended))
          (length (reply_to asked talk.line.items)) talk.written s.written
          ∙ ap (λ n. min n last_count) (length_more read talk before s);
    }
    line_goes read talk next before after (Err Read) s p = absurd p
    line_goes read talk next before after (Err (Write count)) s p = record {
      ended = s.ended ++ s.begun ∷ [];
      sent = length (flat_map (reply_to asked) s.ended) + p.0;
      lines = λ behind. (
        command_lines behind,
        one_line_more read talk before s behind ∙ sym (append_assoc s.ended (s.begun ∷ []) (command_lines behind)),
      );
      cut_off = line_cut_off read talk before after p.0 s p.1;
      counted = p.2 ∙ counted (length (flat_map (reply_to asked) s.ended)) p.0 talk.written s.written;
    }
    line_goes read talk next before after (Err Memory) s p = record {
      ended = s.ended;
      lines = λ behind. (s.begun, command_lines behind, one_line_more read talk before s behind);
      answered = rw p s.answered;
    }

    -- what a refusal leaves stays so where more was read
    pub refused_further : (read more : List ℕ) (talk next : Conversation) (now : W) (fault : AnswerFault)
        → Goes sink asked first read talk now (Err fault)
        → Goes sink asked first (read ++ more) next now (Err fault)
    refused_further read more talk next now Read p = absurd p
    refused_further read more talk next now (Write count) p = record {
      ended = p.ended;
      sent = p.sent;
      lines = λ behind.
          let found = p.lines (more ++ behind) in
          (found.0, ap command_lines (append_assoc read more behind) ∙ found.1);
      cut_off = p.cut_off;
      counted = p.counted;
    }
    refused_further read more talk next now Memory p = record {
      ended = p.ended;
      lines = λ behind.
          let found = p.lines (more ++ behind) in
          (found.0, found.1, ap command_lines (append_assoc read more behind) ∙ found.2);
      answered = p.answered;
    }

    -- ---- the end of the bytes

    lines_read : (read : List ℕ) (talk : Conversation) (now : W)
        (s : Stands sink asked first read talk now) → command_lines read ≡ s.ended ++ command_lines s.begun
    lines_read read talk now s =
        ap command_lines (sym (append-nil read)) ∙ s.lines [] ∙ ap (λ l. s.ended ++ command_lines l)
        (append-nil s.begun)

    pub nothing_begun : (read : List ℕ) (talk : Conversation) (now : W)
        → Stands sink asked first read talk now → talk.line.items ≡ []
        → IsWritten (writing sink first now) (replies_to asked read)
    nothing_begun read talk now s e =
        let none : s.begun ≡ [] = kept_nothing s.begun (sym s.kept ∙ e) in
        let lines : command_lines read ≡ s.ended =
        lines_read read talk now s ∙ ap (λ l. s.ended ++ command_lines l) none ∙ append-nil s.ended in
        subst (λ l. IsWritten (writing sink first now) (flat_map (reply_to asked) l)) (sym lines) s.answered

    begun_line : (begun : List ℕ) → (begun ≡ [] → ⊥) → count_by is_line_end begun ≡ 0 → command_lines begun ≡ begun ∷ []
    begun_line [] some none = absurd (some refl)
    begun_line (b ∷ begun) some none = last_line b begun none

    begun_there : (begun behind : List ℕ) → (begun ≡ [] → ⊥)
        → (next : List ℕ) × (others : List (List ℕ)) × (command_lines (begun ++ behind) ≡ next ∷ others)
    begun_there [] behind some = absurd (some refl)
    begun_there (b ∷ begun) behind some = line_there [] b (begun ++ behind)

    pub last_concludes : (read : List ℕ) (talk next : Conversation) (before after : W)
        (result : Result (Unit {0}) AnswerFault)
        → Stands sink asked first read talk before → (talk.line.items ≡ [] → ⊥)
        → AnswersNext (writing sink before after) talk next (reply_to asked talk.line.items) result
        → Concludes sink asked first read after result
    last_concludes read talk next before after (Ok done) s some p =
        let lines : command_lines read ≡ s.ended ++ s.begun ∷ [] =
        lines_read read talk before s
        ∙ ap (λ l. s.ended ++ l) (begun_line s.begun (λ e. some (s.kept ∙ ap kept_line e)) s.unended) in
        subst (λ l. IsWritten (writing sink first after) (flat_map (reply_to asked) l)) (sym lines)
        (line_written read talk before after s p.0)
    last_concludes read talk next before after (Err Read) s some p = absurd p
    last_concludes read talk next before after (Err (Write count)) s some p =
        let lines : command_lines read ≡ s.ended ++ s.begun ∷ [] =
        lines_read read talk before s
        ∙ ap (λ l. s.ended ++ l) (begun_line s.begun (λ e. some (s.kept ∙ ap kept_line e)) s.unended) in
        let sent = length (flat_map (reply_to asked) s.ended) + p.0 in (
          sent,
          p.2 ∙ counted (length (flat_map (reply_to asked) s.ended)) p.0 talk.written s.written,
          subst (λ l. IsCutOff (writing sink first after) (flat_map (reply_to asked) l) sent) (sym lines)
              (line_cut_off read talk before after p.0 s p.1),
        )
    last_concludes read talk next before after (Err Memory) s some p = record {
      ended = s.ended;
      lines = λ behind.
          let line = begun_there s.begun behind (λ e. some (s.kept ∙ ap kept_line e)) in
          (line.0, line.1, s.lines behind ∙ ap (λ l. s.ended ++ l) line.2);
      answered = rw p s.answered;
    }

    -- ---- what is due

    halted_due : (all : List ℕ) (ended others : List (List ℕ)) (next : List ℕ) → command_lines all ≡ ended
        ++ next ∷ others
        → (k : ℕ) × (k < length (command_lines all))
        × (flat_map (reply_to asked) ended ≡ flat_map (reply_to asked) (take k (command_lines all)))
    halted_due all ended others next e = (
      length ended,
      rw e (omega (arith, length-append ended (next ∷ others))),
      ap (flat_map (reply_to asked)) (sym (ap (take (length ended)) e ∙ take-append_seam ended (next ∷ others))),
    )

    -- at the end of the bytes
    pub concluded_due : (known left : Option (List ℕ)) (read : List ℕ) (now : W)
        (result : Result (Unit {0}) AnswerFault)
        → ((all : List ℕ) → known ≡ Some all → all ≡ read) → Concludes sink asked first read now result
        → AreAnswersTo asked known left (writing sink first now) result
    concluded_due known left read now (Ok done) is p =
        record {
          due = replies_to asked read;
          replies = p;
          some = (read, None, refl);
          told = λ all e. ap (replies_to asked) (sym (is all e));
        }
    concluded_due known left read now (Err Read) is p = absurd p
    concluded_due known left read now (Err (Write count)) is p =
        record {
          due = replies_to asked read;
          replies = p;
          some = (read, None, refl);
          told = λ all e. ap (replies_to asked) (sym (is all e));
        }
    concluded_due known left read now (Err Memory) is p =
        let found = p.lines [] in
        let of = λ (all : List ℕ) (e : all ≡ read). halted_due all p.ended found.1 found.0
        (ap command_lines (e ∙ sym (append-nil read)) ∙ found.2) in
        record {
          due = flat_map (reply_to asked) p.ended;
          replies = p.answered;
          some = (read, None, of read refl);
          told = λ all e. of all (is all e);
        }

    -- answers that are cut off before the end of the bytes are those to all of them, cut off there
    record AreCutOff (all : List ℕ) (now : W) (count : ℕ) : Type 0 where
      due : List ℕ
      replies : Replies (writing sink first now) due (Err (Write count))
      is : due ≡ replies_to asked all

    all_due : (read rest : List ℕ) (now : W) (count : ℕ) → IsCutShort sink asked first read now count
        → AreCutOff (read ++ rest) now count
    all_due read rest now count p =
        let found = p.lines rest in
        record {
          due = flat_map (reply_to asked) p.ended ++ flat_map (reply_to asked) found.0;
          replies = (p.sent, p.counted, cut_off_more first now _ (flat_map (reply_to asked) found.0) p.sent p.cut_off);
          is = sym (flat_map-append (reply_to asked) p.ended found.0) ∙ ap (flat_map (reply_to asked)) (sym found.1);
        }

    -- on the way
    pub halted_on_the_way : (known left : Option (List ℕ)) (read : List ℕ) (talk : Conversation) (now : W)
        (fault : AnswerFault)
        → ((all : List ℕ) → known ≡ Some all → (rest : List ℕ) × (all ≡ read ++ rest))
        → Goes sink asked first read talk now (Err fault)
        → AreAnswersTo asked known left (writing sink first now) (Err fault)
    halted_on_the_way known left read talk now Read is p = absurd p
    halted_on_the_way None left read talk now (Write count) is p =
        let whole = all_due read [] now count p in
        record {
          due = whole.due;
          replies = whole.replies;
          some = (read ++ [], None, whole.is);
          told = λ all e. absurd cc;
        }
    halted_on_the_way (Some known) left read talk now (Write count) is p =
        let behind = is known refl in
        let whole = all_due read behind.0 now count p in
        let due : whole.due ≡ replies_to asked known = whole.is ∙ ap (replies_to asked) (sym behind.1) in
        record {
          due = whole.due;
          replies = whole.replies;
          some = (known, None, due);
          told = λ all e. let same : known ≡ all = cc in due ∙ ap (replies_to asked) same;
        }
    halted_on_the_way known left read talk now Memory is p =
        let of = λ (all rest : List ℕ) (e : all ≡ read ++ rest).
        let found = p.lines rest in
        halted_due all p.ended found.1 found.0 (ap command_lines e ∙ found.2) in
        record {
          due = flat_map (reply_to asked) p.ended;
          replies = p.answered;
          some = (read ++ [], None, of (read ++ []) [] refl);
          told = λ all e. let behind = is all e in of all behind.0 behind.1;
        }

    -- where the bytes aren't read to their end
    pub unread_due : (known left : Option (List ℕ)) (read : List ℕ) (talk : Conversation) (now : W)
        → ((all : List ℕ) → known ≡ Some all → (rest : List ℕ) × (left ≡ Some rest) × (all ≡ read ++ rest))
        → Stands sink asked first read talk now
        → AreAnswersTo asked known left (writing sink first now) (Err Read)
    unread_due known left read talk now is s =
        let ended : ended_lines read ≡ s.ended =
        ap (take (count_by is_line_end read)) (lines_read read talk now s)
        ∙ ap (λ n. take n (s.ended ++ command_lines s.begun)) s.ends
        ∙ take-append_seam s.ended (command_lines s.begun) in
        let due = ap (flat_map (reply_to asked)) (sym ended) in
        record {
          due = flat_map (reply_to asked) s.ended;
          replies = s.answered;
          some = (read, Some [], (read, [], refl, sym (append-nil read), due));
          told = λ all e. let behind = is all e in (read, behind.0, behind.1, behind.2, due);
        }

    -- ---- the feed

    pub concluded_feed : {R : Type 0} (commands : Reader R) (read : List ℕ) (now : W)
        (result : Result (Unit {0}) AnswerFault)
        → Concludes sink asked first read now result → IsReadThrough commands
        → LeavesFeed commands result
    concluded_feed commands read now (Ok done) p through = through
    concluded_feed commands read now (Err Read) p through = absurd p
    concluded_feed commands read now (Err (Write count)) p through = through.0
    concluded_feed commands read now (Err Memory) p through = through.0

    pub halted_feed : {R : Type 0} (commands : Reader R) (read : List ℕ) (talk : Conversation) (now : W)
        (fault : AnswerFault)
        → Goes sink asked first read talk now (Err fault) → IsUnfailed commands
        → LeavesFeed commands (Err fault)
    halted_feed commands read talk now Read p same = absurd p
    halted_feed commands read talk now (Write count) p same = same
    halted_feed commands read talk now Memory p same = same
