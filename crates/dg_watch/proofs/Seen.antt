-- A run that a sink was shown by its bytes alone.
use Rattle.std.proofs.Common.{◌≡◌, ℕ, ◌+◌, ◌≤◌, ◌<◌, List, [], ◌∷◌, ◌++◌, Option, Some, None, inl, inr, refl, sym, ap, ◌∙◌, subst, arith, length, length-append, append_assoc}
use Rattle.std.specs.List.{flat_map}
use Rattle.std.proofs.lemmas.List.{append-nil}
use Rattle.dg_base.specs.declared.run.Limits.{Limits}
use Rattle.dg_base.specs.declared.run.Outcome.{Outcome}
use Rattle.dg_base.specs.declared.run.RunFault.{RunFault}
use Rattle.dg_base.specs.declared.run.RunFault.TheVariants.{Read, Write, OutOfMemory}
use Rattle.dg_base.specs.Streams.{SourceView}
use Rattle.dg_base.specs.Written.{SinkView, IsOver, Wrote, BrokeOff}
use Rattle.dg_meaning.specs.World.{Game, Event, Piece, GapOf, SpacesOf, Prints, Asked, Answered, Retried, HasFailed, prints}
use Rattle.dg_meaning.specs.Render.{Met, nothing_met, met_behind, written, render_from, render}
use Rattle.dg_meaning.specs.Transcript.{ending_line, text_of, closed}
use Rattle.dg_meaning.specs.Trace.{Entry, Wrote as Writes, Asks, Answers, Retries, Fails, entries, closing_entries}
use Rattle.dg_meaning.specs.Shows.{Form, plain, ShowsRunBy, ShowsLimitBy, ShowsBy, ShowsNoMemoryBy, ShowsInputFaultBy, ShowsPartBy, MayWriteBy, in_part, whole, without_memory, without_input}
use Rattle.dg_meaning.specs.Engines.{HasShown, HasLostInput, HasLostOutput}
use Rattle.dg_meaning.specs.inside.Engines.{HasLostMemory, HasBrokenOff}
use Rattle.dg_watch.specs.Told.{Told, Took, Saw, took, told_of, all_told, taken}
use Rattle.dg_watch.specs.Watching.{beside, Given, Lost}
use Rattle.dg_watch.specs.Plainly.{calm, plainly, taken_on}
use Rattle.dg_watch.specs.Seen.{in_form, HasSeen, HasSeenInput, HasSeenMemory, HasSeenPart, HasSeenFault}
use Rattle.dg_watch.proofs.Plain.{taken_took}

-- ## The bytes of entries

-- of a piece or of the closing
abbrev pub bytes_in : Entry → List ℕ
bytes_in (Writes bytes) = bytes
bytes_in e = []

abbrev pub all_bytes : List Entry → List ℕ
all_bytes es = flat_map bytes_in es

bytes_append : (es fs : List Entry) → all_bytes (es ++ fs) ≡ all_bytes es ++ all_bytes fs
bytes_append [] fs = refl
bytes_append (e ∷ es) fs = ap (λ l. bytes_in e ++ l) (bytes_append es fs) ∙ sym (append_assoc (bytes_in e) (all_bytes es) (all_bytes fs))

entries_render : (m : Met) (es : List Event) → all_bytes (entries m es) ≡ render_from m (prints es)
entries_render m [] = refl
entries_render m (Prints (Piece bytes) ∷ es) = ap (λ l. written m (Piece bytes) ++ l) (entries_render (met_behind m (Piece bytes)) es)
entries_render m (Prints (GapOf kind) ∷ es) = entries_render (met_behind m (GapOf kind)) es
entries_render m (Prints (SpacesOf n) ∷ es) = entries_render (met_behind m (SpacesOf n)) es
entries_render m (Asked pred ∷ es) = entries_render m es
entries_render m (Answered pred ∷ es) = entries_render m es
entries_render m (Retried pred ∷ es) = entries_render m es
entries_render m (HasFailed pred ∷ es) = entries_render m es

closing : (es : List Event) (line : Option (List ℕ)) → all_bytes (entries nothing_met es) ++ all_bytes (closing_entries es line) ≡ plain es line
unfolding render
closing es None = append-nil (all_bytes (entries nothing_met es)) ∙ entries_render nothing_met es
closing es (Some line) = ap (λ l. all_bytes (entries nothing_met es) ++ l) (append-nil (ending_line (prints es) line)) ∙ ap (λ l. l ++ ending_line (prints es) line) (entries_render nothing_met es)

pub in_plain : (es : List Event) (line : Option (List ℕ)) → in_form bytes_in es line ≡ plain es line
in_plain es line = bytes_append (entries nothing_met es) (closing_entries es line) ∙ closing es line

entry_taken : (e : Entry) → taken (told_of e) ≡ bytes_in e
entry_taken (Writes bytes) = taken_on (took bytes) (told_of (Writes [])) ∙ append-nil (taken (took bytes)) ∙ taken_took bytes
entry_taken (Asks pred) = refl
entry_taken (Answers pred) = refl
entry_taken (Retries pred) = refl
entry_taken (Fails pred) = refl

pub told_taken : (es : List Entry) → taken (all_told es) ≡ all_bytes es
told_taken [] = refl
told_taken (e ∷ es) = taken_on (told_of e) (all_told es) ∙ ap (λ l. l ++ taken (all_told es)) (entry_taken e) ∙ ap (λ l. bytes_in e ++ l) (told_taken es)

-- ## From form to form

module _ (f h : Form) (same : (es : List Event) (line : Option (List ℕ)) → f es line ≡ h es line) (g : Game) (typed : List ℕ) (limits : Limits) (bytes : List ℕ) (left : Option (List ℕ)) where
  run_in : (o : Outcome) → ShowsRunBy f g typed limits bytes o left → ShowsRunBy h g typed limits bytes o left
  run_in o s = record { begins = s.begins; text = s.text ∙ same _ _; ending = s.ending; goals = s.goals; left_is = s.left_is }

  limit_in : (o : Outcome) → ShowsLimitBy f g typed limits bytes o left → ShowsLimitBy h g typed limits bytes o left
  limit_in o s = record {
    begins = s.begins;
    area = s.area;
    ending = s.ending;
    goals = s.goals;
    passed = s.passed;
    part = s.part;
    text = s.text ∙ same _ _;
    until = s.until;
    since = s.since;
    none_before_the_first = s.none_before_the_first;
    input = s.input;
    covers = s.covers;
  }

  pub shows_in : (o : Outcome) → ShowsBy f g typed limits bytes o left → ShowsBy h g typed limits bytes o left
  shows_in o (inl s) = inl (run_in o s)
  shows_in o (inr s) = inr (limit_in o s)

  pub memory_in : ShowsNoMemoryBy f g typed limits bytes left → ShowsNoMemoryBy h g typed limits bytes left
  memory_in s = record { part = s.part; text = s.text ∙ same _ _; until = s.until; input = s.input }

  pub input_in : ShowsInputFaultBy f g typed limits bytes left → ShowsInputFaultBy h g typed limits bytes left
  input_in s = record {
    goals = s.goals;
    below = s.below;
    text = s.text ∙ same _ _;
    given = s.given;
    is_given = s.is_given;
    goes_on = s.goes_on;
    no_more = s.no_more;
    reads = s.reads;
  }

  pub may_in : MayWriteBy f g typed limits bytes left → MayWriteBy h g typed limits bytes left
  may_in (in_part s) = in_part (record { goals = s.goals; within = s.within; text = s.text ∙ same _ _; input = s.input })
  may_in (whole o s) = whole o (shows_in o s)
  may_in (without_memory s) = without_memory (memory_in s)
  may_in (without_input s) = without_input (input_in s)

-- ## Of what was told

over_more : (room : Option ℕ) (n m : ℕ) → n ≤ m → IsOver room n → IsOver room m
over_more None n m le h = tt
over_more (Some room) n m le h = omega (arith, le, h)

module _ {A K : Type 0} (view : K → SinkView) (old new : A × K) (seen : List Entry) where
  pub given_bytes : Given (beside (plainly view)) old new (all_told seen) → Wrote (view old.1) (view new.1) (all_bytes seen)
  given_bytes h =
      let wrote : Wrote (calm (view old.1)) (calm (view new.1)) (all_bytes seen) = subst (Wrote (calm (view old.1)) (calm (view new.1))) (told_taken seen) h.told in
      record { taken = wrote.taken; room = wrote.room; steady = h.steady }

  pub lost_bytes : Lost (beside (plainly view)) old new (all_told seen) → BrokeOff (view old.1) (view new.1) (all_bytes seen)
  lost_bytes h =
      let reaches : all_bytes seen ≡ taken h.upto ++ taken h.beyond = sym (told_taken seen) ∙ ap taken h.reaches ∙ taken_on h.upto h.beyond in
      record {
        later = h.later;
        rose = h.rose;
        once = h.once;
        part = taken h.part;
        rest = taken h.rest;
        is = sym (told_taken seen) ∙ ap taken h.is ∙ taken_on h.part h.rest;
        taken = h.told.taken;
        over = over_more (view old.1).room (length (taken h.upto)) (length (all_bytes seen)) (omega (arith, ap length reaches ∙ length-append (taken h.upto) (taken h.beyond))) h.refuses.broke.over;
      }

-- ## Runs

module _ {A K : Type 0} (view : K → SinkView) (old new : A × K) (g : Game) (typed : List ℕ) (limits : Limits) where
  pub shown_plainly : (outcome : Outcome) (left : Option (List ℕ)) → HasSeen (beside (plainly view)) g typed limits outcome left old new → HasShown g typed limits outcome left (view old.1) (view new.1)
  shown_plainly outcome left h = record {
    bytes = all_bytes h.seen;
    shows = shows_in (in_form bytes_in) plain in_plain g typed limits (all_bytes h.seen) left outcome (h.shows bytes_in);
    wrote = given_bytes view old new h.seen h.given;
  }

  pub fault_plainly : (fault : RunFault) (i i' : SourceView) → HasSeenFault (beside (plainly view)) fault g typed limits i i' old new → HasBrokenOff fault g typed limits i i' (view old.1) (view new.1)
  fault_plainly Read i i' h = record {
    bytes = all_bytes h.seen;
    shows = input_in (in_form bytes_in) plain in_plain g typed limits (all_bytes h.seen) i'.left (h.shows bytes_in);
    wrote = given_bytes view old new h.seen h.given;
  }
  fault_plainly Write i i' h = record {
    bytes = all_bytes h.seen;
    may_write = may_in (in_form bytes_in) plain in_plain g typed limits (all_bytes h.seen) _ (h.may_write bytes_in);
    broke = lost_bytes view old new h.seen h.lost;
  }
  fault_plainly OutOfMemory i i' h = record {
    bytes = all_bytes h.seen;
    shows = memory_in (in_form bytes_in) plain in_plain g typed limits (all_bytes h.seen) i'.left (h.shows bytes_in);
    wrote = given_bytes view old new h.seen h.given;
  }
