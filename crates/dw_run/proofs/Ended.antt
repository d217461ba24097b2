-- How a command's text and the line of its refusal make up an ending.
use Rattle.std.proofs.Common.{◌≡◌, ◌⊎◌, inl, inr, ℕ, ◌≤◌, ◌<◌, List, [], Option, Some, None, IfSome, IsSome, is_some, option_map, sym, zero, suc, ap, ◌∙◌, arith, refl, take, ◌+◌, subst}
use Rattle.std.proofs.lemmas.Bool.{false≢true}
use Rattle.dw_outside.specs.Faults.{Rose}
use Rattle.dw_outside.specs.Gains.{Gains, GainsPart}
use Rattle.dw_outside.specs.GainsLaws.{Gains-nothing, GainsPart-whole, GainsPart-nothing}
use Rattle.dw_outside.specs.declared.stops.ReadStop.{ReadStop}
use Rattle.dw_outside.specs.declared.stops.ReadStop.TheVariants as read_stops
use Rattle.dw_outside.specs.declared.stops.WriteStop.{WriteStop}
use Rattle.dw_outside.specs.declared.stops.WriteStop.TheVariants as write_stops
use Rattle.elf_sections.specs.declared.class_layout.TheConstants.{FILE_LIMIT}
use Rattle.elf_sections.specs.Laws.{elf_of_whole}
use Rattle.dump_workers.specs.Ends.{PublishedView}
use Rattle.visit_queries.specs.Named.{Named}
use Rattle.dw_run.specs.declared.refusals.Refusal.{Refusal}
use Rattle.elf_sections.specs.Rows.{ElfView}
use Rattle.dw_run.specs.Endings.{EndsRefused, EndsStopped, EndsUnread, EndsWith, misunderstood_line, no_memory_line, unread_line}
use Rattle.dw_run.specs.Output.{Ends, EndsRun, Meets, NothingFailed, Output, StopsWithin, err_of, status_of, output_of_request, output_of_text, tells_of_file, tells_of_table, text_of_file, text_of_table, told_at, told_of}
use Rattle.dw_run.specs.AddressLines.{addresses_printed}
use Rattle.dw_run.specs.CommandTexts.{CommandText}
use Rattle.dw_run.specs.Commands.{text_of_sections}
use Rattle.dw_run.specs.FileRequests.{FileRequest, asks, on_file, queried}

-- all was printed, and nothing is refused
pub ends_done : (printed : CommandText) (out0 out1 err : Option (List ℕ)) (out_faults0 out_faults1 err_faults : ℕ)
    → None ≡ printed.refusal → Gains out0 out1 printed.text → out_faults0 ≤ out_faults1 → Ends printed 0 out0 out1 err err out_faults0 out_faults1 err_faults err_faults
ends_done printed out0 out1 err out_faults0 out_faults1 err_faults is gains later = record {
  answers = inl (omega arith);
  whole = λ below. record {
    status_is = ap status_of is;
    on_out = gains;
    on_err = rw (← is) (Gains-nothing err);
  };
  part = GainsPart-whole out0 out1 printed.text gains;
  line = inl (GainsPart-nothing err err (err_of printed.refusal) (Gains-nothing err));
  failed = λ four. absurd (omega (arith, four));
  later_out = later;
  later_err = omega arith;
}

refused_status : (status : ℕ) → status < 2 → (status ≡ 1) ⊎ (status ≡ 4) ⊎ (status ≡ 5) → status ≡ 1
refused_status status below answers = grind arith

below_two : (status : ℕ) → status < 3 → (status < 2) ⊎ (status ≡ 4) ⊎ (status ≡ 5) → status < 2
below_two status below answers = grind arith

answers_of : (status : ℕ) → (status ≡ 1) ⊎ (status ≡ 4) ⊎ (status ≡ 5) → (status < 2) ⊎ (status ≡ 4) ⊎ (status ≡ 5)
answers_of status answers = elim answers [
  | inl one ↦ inl (omega (arith, one))
  | inr other ↦ inr other
]

-- all was printed before the refusal, whose line was written or not
pub ends_refused : (printed : CommandText) (refusal : Refusal) (status : ℕ) (out0 out1 err0 err1 : Option (List ℕ)) (out_faults0 out_faults1 err_faults0 err_faults1 : ℕ)
    → Some refusal ≡ printed.refusal → Gains out0 out1 printed.text → out_faults0 ≤ out_faults1 → EndsRefused refusal status err0 err1 err_faults0 err_faults1
    → Ends printed status out0 out1 err0 err1 out_faults0 out_faults1 err_faults0 err_faults1
ends_refused printed refusal status out0 out1 err0 err1 out_faults0 out_faults1 err_faults0 err_faults1 is gains later end = record {
  answers = answers_of status end.answers;
  whole = λ below. record {
    status_is = rw (← is) (refused_status status below end.answers);
    on_out = gains;
    on_err = rw (← is) (end.printed (omega (arith, below)));
  };
  part = GainsPart-whole out0 out1 printed.text gains;
  line = rw (← is) end.part;
  failed = λ four. inr (end.failed four);
  later_out = later;
  later_err = end.later;
}

-- a front of FILE_LIMIT + 1 bytes gives the text of the whole file
text_of_front : (text : ElfView → CommandText) (front whole : List ℕ) → front ≡ take (FILE_LIMIT + 1) whole → text_of_file text front ≡ text_of_file text whole
unfolding text_of_file
text_of_front text front whole is = ap (text_of_table text) (elf_of_whole front whole is)

-- and what is told of it
tells_of_front : (tells : Option (ElfView → PublishedView)) (front whole : List ℕ) → front ≡ take (FILE_LIMIT + 1) whole → tells_of_file tells front ≡ tells_of_file tells whole
unfolding tells_of_file
tells_of_front None front whole is = refl
tells_of_front (Some tells) front whole is = ap (tells_of_table tells) (elf_of_whole front whole is)

-- the output of a command on the file that a name may hold
abbrev output_on : (ElfView → CommandText) → Option (ElfView → PublishedView) → Option (List ℕ) → Option Output
output_on text tells held = option_map (λ file. output_of_text (text_of_file text file) (tells_of_file tells file)) held

-- what is told doesn't show in the streams
meets_telling : (text : CommandText) (tells : Option PublishedView) (status : ℕ) (out0 out1 err0 err1 : Option (List ℕ))
    → Meets (output_of_text text None) status out0 out1 err0 err1 → Meets (output_of_text text tells) status out0 out1 err0 err1
meets_telling text tells status out0 out1 err0 err1 m = record { status_is = m.status_is; on_out = m.on_out; on_err = m.on_err }

-- what a whole file gives, from what its front gave
meets_whole : (held : Option (List ℕ)) (text : ElfView → CommandText) (tells : Option (ElfView → PublishedView)) (front items : List ℕ) (status : ℕ) (out0 out1 err0 err1 : Option (List ℕ)) (out_faults0 out_faults1 err_faults0 err_faults1 : ℕ)
    → front ≡ items → IfSome held (λ bytes. items ≡ take (FILE_LIMIT + 1) bytes)
    → Ends (text_of_file text front) status out0 out1 err0 err1 out_faults0 out_faults1 err_faults0 err_faults1 → status < 3
    → IfSome (output_on text tells held) (λ output. Meets output status out0 out1 err0 err1)
meets_whole None text tells front items status out0 out1 err0 err1 out_faults0 out_faults1 err_faults0 err_faults1 same is end below = tt
meets_whole (Some bytes) text tells front items status out0 out1 err0 err1 out_faults0 out_faults1 err_faults0 err_faults1 same is end below =
    rw (← text_of_front text front bytes (same ∙ is)) (meets_telling _ _ _ _ _ _ _ (end.whole (below_two status below end.answers)))

-- and the part of its text
part_of_whole : (held : Option (List ℕ)) (text : ElfView → CommandText) (tells : Option (ElfView → PublishedView)) (front items : List ℕ) (status : ℕ) (out0 out1 err0 err1 : Option (List ℕ)) (out_faults0 out_faults1 err_faults0 err_faults1 : ℕ)
    → front ≡ items → IfSome held (λ bytes. items ≡ take (FILE_LIMIT + 1) bytes)
    → Ends (text_of_file text front) status out0 out1 err0 err1 out_faults0 out_faults1 err_faults0 err_faults1
    → IfSome (output_on text tells held) (λ output. GainsPart out0 out1 output.out)
part_of_whole None text tells front items status out0 out1 err0 err1 out_faults0 out_faults1 err_faults0 err_faults1 same is end = tt
part_of_whole (Some bytes) text tells front items status out0 out1 err0 err1 out_faults0 out_faults1 err_faults0 err_faults1 same is end =
    rw (← text_of_front text front bytes (same ∙ is)) end.part

-- and the part of its line
line_of_whole : (held : Option (List ℕ)) (text : ElfView → CommandText) (tells : Option (ElfView → PublishedView)) (front items : List ℕ) (status : ℕ) (out0 out1 err0 err1 : Option (List ℕ)) (out_faults0 out_faults1 err_faults0 err_faults1 source0 source1 : ℕ)
    → front ≡ items → IfSome held (λ bytes. items ≡ take (FILE_LIMIT + 1) bytes)
    → Ends (text_of_file text front) status out0 out1 err0 err1 out_faults0 out_faults1 err_faults0 err_faults1
    → IfSome (output_on text tells held) (λ output. StopsWithin output.err source0 source1 err0 err1)
line_of_whole None text tells front items status out0 out1 err0 err1 out_faults0 out_faults1 err_faults0 err_faults1 source0 source1 same is end = tt
line_of_whole (Some bytes) text tells front items status out0 out1 err0 err1 out_faults0 out_faults1 err_faults0 err_faults1 source0 source1 same is end =
    inl (rw (← text_of_front text front bytes (same ∙ is)) end.line)

nothing_told : (status : ℕ) (tells : Option PublishedView) → 0 < status → told_at status tells ≡ None
nothing_told zero tells some = absurd (omega (arith, some))
nothing_told (suc status) tells some = refl

not_refused : (refusal : Option Refusal) → 0 ≡ status_of refusal → refusal ≡ None
not_refused None is = refl
not_refused (Some refusal) is = absurd (omega (arith, is))

done_told : (text : CommandText) (tells : Option PublishedView) → 0 ≡ status_of text.refusal → tells ≡ told_of text.refusal tells
done_told text tells is = rw (not_refused text.refusal is) refl

-- what was told of its front is told of a whole file
told_on_file : (text : CommandText) (tells : Option PublishedView) (status : ℕ) (out0 out1 err0 err1 : Option (List ℕ))
    (out_faults0 out_faults1 err_faults0 err_faults1 : ℕ) → Ends text status out0 out1 err0 err1 out_faults0 out_faults1 err_faults0 err_faults1
    → told_at status tells ≡ told_at status (told_of text.refusal tells)
told_on_file text tells zero out0 out1 err0 err1 out_faults0 out_faults1 err_faults0 err_faults1 end = done_told text tells (end.whole (omega arith)).status_is
told_on_file text tells (suc status) out0 out1 err0 err1 out_faults0 out_faults1 err_faults0 err_faults1 end = refl

told_of_whole : (held : Option (List ℕ)) (text : ElfView → CommandText) (tells : Option (ElfView → PublishedView)) (front items : List ℕ) (status : ℕ) (published : Option PublishedView)
    (out0 out1 err0 err1 : Option (List ℕ)) (out_faults0 out_faults1 err_faults0 err_faults1 : ℕ)
    → front ≡ items → IfSome held (λ bytes. items ≡ take (FILE_LIMIT + 1) bytes)
    → Ends (text_of_file text front) status out0 out1 err0 err1 out_faults0 out_faults1 err_faults0 err_faults1
    → published ≡ told_at status (tells_of_file tells front)
    → IfSome (output_on text tells held) (λ output. published ≡ told_at status output.published)
told_of_whole None text tells front items status published out0 out1 err0 err1 out_faults0 out_faults1 err_faults0 err_faults1 same is end told = tt
told_of_whole (Some bytes) text tells front items status published out0 out1 err0 err1 out_faults0 out_faults1 err_faults0 err_faults1 same is end told =
    rw (← text_of_front text front bytes (same ∙ is), ← tells_of_front tells front bytes (same ∙ is))
    (told ∙ told_on_file (text_of_file text front) (tells_of_file tells front) status out0 out1 err0 err1 out_faults0 out_faults1 err_faults0 err_faults1 end)

at_most_five : (status : ℕ) → (status < 2) ⊎ (status ≡ 4) ⊎ (status ≡ 5) → status ≤ 5
at_most_five status answers = grind arith

not_two : (status : ℕ) → (status < 2) ⊎ (status ≡ 4) ⊎ (status ≡ 5) → status ≡ 2 → ⊥
not_two status answers two = grind arith

not_three : (status : ℕ) → (status < 2) ⊎ (status ≡ 4) ⊎ (status ≡ 5) → status ≡ 3 → ⊥
not_three status answers three = grind arith

-- a file was read, and its command ended
pub ends_on_file : (name : List ℕ) (text : ElfView → CommandText) (tells : Option (ElfView → PublishedView)) (holds : List ℕ → Option (List ℕ)) (front items : List ℕ) (status : ℕ)
    (published : Option PublishedView) (out0 out1 err0 err1 : Option (List ℕ)) (source0 source1 out_faults0 out_faults1 err_faults0 err_faults1 : ℕ)
    → front ≡ items → IfSome (holds name) (λ bytes. items ≡ take (FILE_LIMIT + 1) bytes)
    → Ends (text_of_file text front) status out0 out1 err0 err1 out_faults0 out_faults1 err_faults0 err_faults1
    → published ≡ told_at status (tells_of_file tells front)
    → EndsRun (Some (asks name text tells)) holds status published out0 out1 err0 err1 source0 source1 out_faults0 out_faults1 err_faults0 err_faults1
ends_on_file name text tells holds front items status published out0 out1 err0 err1 source0 source1 out_faults0 out_faults1 err_faults0 err_faults1 same is end told = record {
  answers = at_most_five status end.answers;
  output = meets_whole (holds name) text tells front items status out0 out1 err0 err1 out_faults0 out_faults1 err_faults0 err_faults1 same is end;
  told = told_of_whole (holds name) text tells front items status published out0 out1 err0 err1 out_faults0 out_faults1 err_faults0 err_faults1 same is end told;
  meaningless = λ two. absurd (not_two status end.answers two);
  read = λ three. absurd (not_three status end.answers three);
  unread = λ three. absurd (not_three status end.answers three);
  written = end.failed;
  prefix = part_of_whole (holds name) text tells front items status out0 out1 err0 err1 out_faults0 out_faults1 err_faults0 err_faults1 same is end;
  stopped = λ above. line_of_whole (holds name) text tells front items status out0 out1 err0 err1 out_faults0 out_faults1 err_faults0 err_faults1 source0 source1 same is end;
}

-- the same of bytes that no name holds
pub ends_on_bytes : (bytes : List ℕ) (text : ElfView → CommandText) (tells : Option (ElfView → PublishedView)) (holds : List ℕ → Option (List ℕ)) (status : ℕ)
    (published : Option PublishedView) (out0 out1 err0 err1 : Option (List ℕ)) (source0 source1 out_faults0 out_faults1 err_faults0 err_faults1 : ℕ)
    → Ends (text_of_file text bytes) status out0 out1 err0 err1 out_faults0 out_faults1 err_faults0 err_faults1
    → published ≡ told_at status (tells_of_file tells bytes)
    → EndsRun (Some (record { bytes = λ holds. Some bytes; text = text; tells = tells })) holds status published out0 out1 err0 err1 source0 source1 out_faults0 out_faults1 err_faults0 err_faults1
ends_on_bytes bytes text tells holds status published out0 out1 err0 err1 source0 source1 out_faults0 out_faults1 err_faults0 err_faults1 end told = record {
  answers = at_most_five status end.answers;
  output = λ below. meets_telling _ _ _ _ _ _ _ (end.whole (below_two status below end.answers));
  told = told ∙ told_on_file (text_of_file text bytes) (tells_of_file tells bytes) status out0 out1 err0 err1 out_faults0 out_faults1 err_faults0 err_faults1 end;
  meaningless = λ two. absurd (not_two status end.answers two);
  read = λ three. absurd (not_three status end.answers three);
  unread = λ three. absurd (not_three status end.answers three);
  written = end.failed;
  prefix = end.part;
  stopped = λ above. inl end.line;
}

-- what holds of every output
of_each : (output : Option Output) (P : Output → Type 0) → ((o : Output) → P o) → IfSome output P
of_each None P all = tt
of_each (Some o) P all = all o

no_part : (output : Option Output) (out : Option (List ℕ)) → IfSome output (λ output. GainsPart out out output.out)
no_part output out = of_each output (λ output. GainsPart out out output.out) (λ o. GainsPart-nothing out out o.out (Gains-nothing out))

no_told : (output : Option Output) (status : ℕ) (published : Option PublishedView) → published ≡ None → 0 < status → IfSome output (λ output. published ≡ told_at status output.published)
no_told output status published none some =
    of_each output (λ output. published ≡ told_at status output.published) (λ o. none ∙ sym (nothing_told status o.published some))

above_two : (wanted status : ℕ) → 2 < wanted → (status ≡ wanted) ⊎ (status ≡ 4) ⊎ (status ≡ 5) → 2 < status
above_two wanted status above answers = grind arith

within_five : (wanted status : ℕ) → wanted ≤ 5 → (status ≡ wanted) ⊎ (status ≡ 4) ⊎ (status ≡ 5) → status ≤ 5
within_five wanted status within answers = grind arith

-- the file could not be read
pub ends_unread : (request : Option FileRequest) (holds : List ℕ → Option (List ℕ)) (status : ℕ) (published : Option PublishedView) (out err0 err1 : Option (List ℕ))
    (source0 source1 out_faults err_faults0 err_faults1 : ℕ) → published ≡ None → Rose source0 source1 → EndsWith unread_line 3 status err0 err1 err_faults0 err_faults1
    → EndsRun request holds status published out out err0 err1 source0 source1 out_faults out_faults err_faults0 err_faults1
ends_unread request holds status published out err0 err1 source0 source1 out_faults err_faults0 err_faults1 none rose end =
    let above : 2 < status = above_two 3 status (omega arith) end.answers in record {
      answers = within_five 3 status (omega arith) end.answers;
      output = λ below. absurd (omega (arith, above, below));
      told = no_told (output_of_request request holds) status published none (omega (arith, above));
      meaningless = λ two. absurd (omega (arith, above, two));
      read = λ three. rose;
      unread = λ three. (Gains-nothing out, end.printed (omega (arith, three)));
      written = λ four. inr (end.failed four);
      prefix = no_part (output_of_request request holds) out;
      stopped = λ far. of_each (output_of_request request holds) (λ output. StopsWithin output.err source0 source1 err0 err1) (λ o. inr (rose, end.part));
    }

not_three_of : (wanted status : ℕ) → (wanted ≡ 3 → ⊥) → (status ≡ wanted) ⊎ (status ≡ 4) ⊎ (status ≡ 5) → status ≡ 3 → ⊥
not_three_of wanted status other answers three = grind arith

-- memory was wanting before anything was printed
pub ends_without_memory : (request : Option FileRequest) (holds : List ℕ → Option (List ℕ)) (status : ℕ) (published : Option PublishedView) (out err0 err1 : Option (List ℕ))
    (source0 source1 out_faults err_faults0 err_faults1 : ℕ) → published ≡ None → EndsWith no_memory_line 5 status err0 err1 err_faults0 err_faults1
    → EndsRun request holds status published out out err0 err1 source0 source1 out_faults out_faults err_faults0 err_faults1
ends_without_memory request holds status published out err0 err1 source0 source1 out_faults err_faults0 err_faults1 none end =
    let above : 2 < status = above_two 5 status (omega arith) end.answers in
    let three_not : status ≡ 3 → ⊥ = not_three_of 5 status (λ is. omega (arith, is)) end.answers in record {
      answers = within_five 5 status (omega arith) end.answers;
      output = λ below. absurd (omega (arith, above, below));
      told = no_told (output_of_request request holds) status published none (omega (arith, above));
      meaningless = λ two. absurd (omega (arith, above, two));
      read = λ three. absurd (three_not three);
      unread = λ three. absurd (three_not three);
      written = λ four. inr (end.failed four);
      prefix = no_part (output_of_request request holds) out;
      stopped = λ far. of_each (output_of_request request holds) (λ output. StopsWithin output.err source0 source1 err0 err1) (λ o. inl (inr end.part));
    }

two_below_three : (status : ℕ) → status < 3 → (status ≡ 2) ⊎ (status ≡ 4) ⊎ (status ≡ 5) → status ≡ 2
two_below_three status below answers = grind arith

some_status : (status : ℕ) → (status ≡ 2) ⊎ (status ≡ 4) ⊎ (status ≡ 5) → 0 < status
some_status status answers = grind arith

-- nothing was asked
pub ends_misunderstood : (holds : List ℕ → Option (List ℕ)) (status : ℕ) (published : Option PublishedView) (out err0 err1 : Option (List ℕ))
    (source0 source1 out_faults err_faults0 err_faults1 : ℕ)
    → published ≡ None → EndsWith misunderstood_line 2 status err0 err1 err_faults0 err_faults1
    → EndsRun None holds status published out out err0 err1 source0 source1 out_faults out_faults err_faults0 err_faults1
ends_misunderstood holds status published out err0 err1 source0 source1 out_faults err_faults0 err_faults1 none end =
    let three_not : status ≡ 3 → ⊥ = not_three_of 2 status (λ is. omega (arith, is)) end.answers in record {
      answers = within_five 2 status (omega arith) end.answers;
      output = λ below. record {
        status_is = two_below_three status below end.answers;
        on_out = Gains-nothing out;
        on_err = end.printed (omega (arith, below));
      };
      told = none ∙ sym (nothing_told status None (some_status status end.answers));
      meaningless = λ two. refl;
      read = λ three. absurd (three_not three);
      unread = λ three. absurd (three_not three);
      written = λ four. inr (end.failed four);
      prefix = GainsPart-nothing out out [] (Gains-nothing out);
      stopped = λ far. inl (inl end.part);
    }

-- the status of a run that was asked for something, where nothing failed
answered_status : (status : ℕ) → status ≤ 5 → (status ≡ 2 → ⊥) → (status ≡ 3 → ⊥) → (status ≡ 4 → ⊥) → (status < 2) ⊎ (status ≡ 5)
answered_status zero within two three four = inl (omega arith)
answered_status (suc zero) within two three four = inl (omega arith)
answered_status (suc (suc zero)) within two three four = absurd (two refl)
answered_status (suc (suc (suc zero))) within two three four = absurd (three refl)
answered_status (suc (suc (suc (suc zero)))) within two three four = absurd (four refl)
answered_status (suc (suc (suc (suc (suc zero))))) within two three four = inr refl
answered_status (suc (suc (suc (suc (suc (suc n)))))) within two three four = absurd (omega (arith, within))

pub ends_complete : (request : Option FileRequest) (holds : List ℕ → Option (List ℕ)) (status : ℕ) (published : Option PublishedView) (out0 out1 err0 err1 : Option (List ℕ))
    (source0 source1 out_faults0 out_faults1 err_faults0 err_faults1 : ℕ)
    → EndsRun request holds status published out0 out1 err0 err1 source0 source1 out_faults0 out_faults1 err_faults0 err_faults1
    → IsSome request → NothingFailed source0 source1 out_faults0 out_faults1 err_faults0 err_faults1 → (status < 2) ⊎ (status ≡ 5)
ends_complete request holds status published out0 out1 err0 err1 source0 source1 out_faults0 out_faults1 err_faults0 err_faults1 end some nothing =
    answered_status status end.answers
    (λ two. false≢true (sym (ap is_some (end.meaningless two)) ∙ some))
    (λ three. nothing.0 (end.read three))
    (λ four. elim (end.written four) [ inl rose ↦ nothing.1 rose | inr rose ↦ nothing.2 rose ])

-- a command over some addresses is the command over equal ones
pub ends_addresses : (slice addresses : List ℕ) → slice ≡ addresses → (name : List ℕ) (holds : List ℕ → Option (List ℕ)) (status : ℕ) (published : Option PublishedView)
    (out0 out1 err0 err1 : Option (List ℕ)) (source0 source1 out_faults0 out_faults1 err_faults0 err_faults1 : ℕ)
    → EndsRun (Some (on_file name (text_of_sections (addresses_printed slice)))) holds status published out0 out1 err0 err1 source0 source1 out_faults0 out_faults1 err_faults0 err_faults1
    → EndsRun (Some (on_file name (text_of_sections (addresses_printed addresses)))) holds status published out0 out1 err0 err1 source0 source1 out_faults0 out_faults1 err_faults0 err_faults1
ends_addresses slice addresses same name holds status published out0 out1 err0 err1 source0 source1 out_faults0 out_faults1 err_faults0 err_faults1 end =
    subst (λ (xs : List ℕ). EndsRun (Some (on_file name (text_of_sections (addresses_printed xs)))) holds status published out0 out1 err0 err1 source0 source1 out_faults0 out_faults1 err_faults0 err_faults1) same end

-- a query by the visitor that was found
pub ends_queried : (found named : Option Named) → found ≡ named → (file : List ℕ) (holds : List ℕ → Option (List ℕ)) (status : ℕ) (published : Option PublishedView)
    (out0 out1 err0 err1 : Option (List ℕ)) (source0 source1 out_faults0 out_faults1 err_faults0 err_faults1 : ℕ)
    → EndsRun (queried file found) holds status published out0 out1 err0 err1 source0 source1 out_faults0 out_faults1 err_faults0 err_faults1
    → EndsRun (queried file named) holds status published out0 out1 err0 err1 source0 source1 out_faults0 out_faults1 err_faults0 err_faults1
ends_queried found named same file holds status published out0 out1 err0 err1 source0 source1 out_faults0 out_faults1 err_faults0 err_faults1 end =
    subst (λ (v : Option Named). EndsRun (queried file v) holds status published out0 out1 err0 err1 source0 source1 out_faults0 out_faults1 err_faults0 err_faults1) same end

-- # What is told

pub told_none : (status : ℕ) → None ≡ told_at status None
told_none zero = refl
told_none (suc status) = refl

refused_some : (status : ℕ) → (status ≡ 1) ⊎ (status ≡ 4) ⊎ (status ≡ 5) → 0 < status
refused_some status answers = grind arith

pub told_refused : (refusal : Refusal) (status : ℕ) (published tells : Option PublishedView) (err0 err1 : Option (List ℕ)) (faults0 faults1 : ℕ)
    → published ≡ None → EndsRefused refusal status err0 err1 faults0 faults1 → published ≡ told_at status tells
told_refused refusal status published tells err0 err1 faults0 faults1 none end = none ∙ sym (nothing_told status tells (refused_some status end.answers))

wanting_some : (status : ℕ) → (status ≡ 5) ⊎ (status ≡ 4) ⊎ (status ≡ 5) → 0 < status
wanting_some status answers = grind arith

stopped_some : (stop : WriteStop) (status : ℕ) (err0 err1 : Option (List ℕ)) (faults0 faults1 : ℕ) → EndsStopped stop status err0 err1 faults0 faults1 → 0 < status
stopped_some write_stops.Failed status err0 err1 faults0 faults1 end = let four : status ≡ 4 = end.0 in omega (arith, four)
stopped_some write_stops.OutOfMemory status err0 err1 faults0 faults1 end = wanting_some status end.answers

pub told_stopped : (stop : WriteStop) (status : ℕ) (published tells : Option PublishedView) (err0 err1 : Option (List ℕ)) (faults0 faults1 : ℕ)
    → published ≡ None → EndsStopped stop status err0 err1 faults0 faults1 → published ≡ told_at status tells
told_stopped stop status published tells err0 err1 faults0 faults1 none end = none ∙ sym (nothing_told status tells (stopped_some stop status err0 err1 faults0 faults1 end))

-- # What stopped a run

wanting_answers : (status : ℕ) → (status ≡ 5) ⊎ (status ≡ 4) ⊎ (status ≡ 5) → (status < 2) ⊎ (status ≡ 4) ⊎ (status ≡ 5)
wanting_answers status answers = grind arith

wanting_not_below : (status : ℕ) → status < 2 → (status ≡ 5) ⊎ (status ≡ 4) ⊎ (status ≡ 5) → ⊥
wanting_not_below status below answers = grind arith

nothing_on : (text : List ℕ) (err0 err1 : Option (List ℕ)) → err1 ≡ err0 → GainsPart err0 err1 text
nothing_on text err0 err1 same = rw same (GainsPart-nothing err0 err0 text (Gains-nothing err0))

-- a text was stopped
pub ends_stopped : (printed : CommandText) (stop : WriteStop) (status : ℕ) (out0 out1 err0 err1 : Option (List ℕ)) (out_faults0 out_faults1 err_faults0 err_faults1 : ℕ)
    → GainsPart out0 out1 printed.text → out_faults0 ≤ out_faults1 → (stop ≡ write_stops.Failed → Rose out_faults0 out_faults1)
    → EndsStopped stop status err0 err1 err_faults0 err_faults1
    → Ends printed status out0 out1 err0 err1 out_faults0 out_faults1 err_faults0 err_faults1
ends_stopped printed write_stops.Failed status out0 out1 err0 err1 out_faults0 out_faults1 err_faults0 err_faults1 part later rose end =
    let four : status ≡ 4 = end.0 in
    let same : err_faults1 ≡ err_faults0 = end.2 in record {
      answers = inr (inl four);
      whole = λ below. absurd (omega (arith, below, four));
      part = part;
      line = inl (nothing_on (err_of printed.refusal) err0 err1 end.1);
      failed = λ is. inl (rose refl);
      later_out = later;
      later_err = omega (arith, same);
    }
ends_stopped printed write_stops.OutOfMemory status out0 out1 err0 err1 out_faults0 out_faults1 err_faults0 err_faults1 part later rose end = record {
  answers = wanting_answers status end.answers;
  whole = λ below. absurd (wanting_not_below status below end.answers);
  part = part;
  line = inr end.part;
  failed = λ is. inr (end.failed is);
  later_out = later;
  later_err = end.later;
}

-- the file could not be read, or there was no memory for it
pub ends_before : (stop : ReadStop) (request : Option FileRequest) (holds : List ℕ → Option (List ℕ)) (status : ℕ) (published : Option PublishedView) (out err0 err1 : Option (List ℕ))
    (source0 source1 out_faults err_faults0 err_faults1 : ℕ) → published ≡ None → (stop ≡ read_stops.Failed → Rose source0 source1)
    → EndsUnread stop status err0 err1 err_faults0 err_faults1
    → EndsRun request holds status published out out err0 err1 source0 source1 out_faults out_faults err_faults0 err_faults1
ends_before read_stops.Failed request holds status published out err0 err1 source0 source1 out_faults err_faults0 err_faults1 none rose end =
    ends_unread request holds status published out err0 err1 source0 source1 out_faults err_faults0 err_faults1 none (rose refl) end
ends_before read_stops.OutOfMemory request holds status published out err0 err1 source0 source1 out_faults err_faults0 err_faults1 none rose end =
    ends_without_memory request holds status published out err0 err1 source0 source1 out_faults err_faults0 err_faults1 none end
