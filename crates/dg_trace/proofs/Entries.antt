-- What lines write for the entries of a run, and what the trace of the run comes to.
use Rattle.std.proofs.Common.{◌≡◌, ℕ, List, [], ◌∷◌, ◌++◌, Bool, true, false, Option, Some, None, refl, sym, ap, ◌∙◌, subst, arith}
use Rattle.std.specs.Prelude.{codes, eqb, if◌then◌else◌, Result, Ok, Err, IfOk, IfErr}
use Rattle.std.specs.List.{flat_map}
use Rattle.std.proofs.lemmas.List.{append-nil}
use Rattle.dg_base.specs.declared.run.Limits.{Limits}
use Rattle.dg_base.specs.declared.run.Outcome.{Outcome}
use Rattle.dg_base.specs.declared.run.RunFault.{RunFault}
use Rattle.dg_base.specs.declared.run.RunFault.TheVariants as fault
use Rattle.dg_base.specs.Streams.{SourceView}
use Rattle.dg_base.specs.Written.{SinkView, Wrote, BrokeOff}
use Rattle.dg_base.proofs.WrittenLemmas.{broke_first}
use Rattle.dg_meaning.specs.World.{Game}
use Rattle.dg_meaning.specs.Engines.{told_behind, left_told}
use Rattle.dg_meaning.specs.inside.Engines.{ForTyped}
use Rattle.dg_meaning.specs.Shows.{IsLeft, HasGiven, LeftBetween, ShowsNoMemoryBy, ShowsInputFaultBy, whole, without_memory, without_input}
use Rattle.dg_meaning.specs.Trace.{Entry, Wrote as Wrote-Entry, Asks, Answers, Retries, Fails, byte_lines, line_on, call_line, lines_of, names_of}
use Rattle.dg_watch.specs.Told.{Told, Took, Saw, took, told_of, all_told}
use Rattle.dg_watch.specs.Watching.{Given, Lost}
use Rattle.dg_watch.specs.Seen.{HasSeen, HasSeenInput, HasSeenMemory, HasSeenPart, HasSeenFault}
use Rattle.dg_watch.specs.declared.watch.CallEvent.TheVariants as call
use Rattle.dg_trace.specs.declared.lines.Lines.{Lines}
use Rattle.dg_trace.specs.Traced.{traced, HasTraced, HasTracedInput, HasTracedMemory, HasTracedPart, HasTracedFault}
use Rattle.dg_trace.specs.inside.Spelled.{ended, marked, spelled, begun_after, spelled_on}
use Rattle.dg_trace.specs.inside.Telling.{Place, place, Goes, ToldLines, over_sink}

-- ## Entries

module _ (names : List (List ℕ)) where
  mutual
    bytes_spelled : (bs : List ℕ) → spelled names false (took bs ++ Saw call.Printed ∷ []) ≡ byte_lines bs
    bytes_spelled [] = refl
    bytes_spelled (b ∷ bs) = elim (eqb b 10) as (λ x. (if x then ended false ++ codes ".\n" else marked false ++ (b ∷ []))
        ++ spelled names (if x then false else true) (took bs ++ Saw call.Printed ∷ []) ≡ (if x then codes ".\n" ++ byte_lines bs else 34 ∷ b ∷ line_on bs)) [
          | true ↦ ap (λ l. codes ".\n" ++ l) (bytes_spelled bs)
          | false ↦ ap (λ l. 34 ∷ b ∷ l) (line_spelled bs)
        ]

    line_spelled : (bs : List ℕ) → spelled names true (took bs ++ Saw call.Printed ∷ []) ≡ line_on bs
    line_spelled [] = refl
    line_spelled (b ∷ bs) = elim (eqb b 10) as (λ x. (if x then ended true ++ codes ".\n" else marked true ++ (b ∷ []))
        ++ spelled names (if x then false else true) (took bs ++ Saw call.Printed ∷ []) ≡ (if x then codes "\n.\n" ++ byte_lines bs else b ∷ line_on bs)) [
          | true ↦ ap (λ l. codes "\n.\n" ++ l) (bytes_spelled bs)
          | false ↦ ap (λ l. b ∷ l) (line_spelled bs)
        ]

  entry_spelled : (e : Entry) → spelled names false (told_of e) ≡ lines_of names e
  entry_spelled (Wrote-Entry bytes) = bytes_spelled bytes
  entry_spelled (Asks pred) = append-nil (call_line (codes "? ") names pred)
  entry_spelled (Answers pred) = append-nil (call_line (codes "= ") names pred)
  entry_spelled (Retries pred) = append-nil (call_line (codes "< ") names pred)
  entry_spelled (Fails pred) = append-nil (call_line (codes "! ") names pred)

  bytes_closed : (begun : Bool) (bs : List ℕ) → begun_after begun (took bs ++ Saw call.Printed ∷ []) ≡ false
  bytes_closed begun [] = refl
  bytes_closed begun (b ∷ bs) = bytes_closed (if eqb b 10 then false else true) bs

  entry_closed : (e : Entry) → begun_after false (told_of e) ≡ false
  entry_closed (Wrote-Entry bytes) = bytes_closed false bytes
  entry_closed (Asks pred) = refl
  entry_closed (Answers pred) = refl
  entry_closed (Retries pred) = refl
  entry_closed (Fails pred) = refl

  pub entries_spelled : (es : List Entry) → spelled names false (all_told es) ≡ flat_map (lines_of names) es
  entries_spelled [] = refl
  entries_spelled (e ∷ es) =
      spelled_on names false (told_of e) (all_told es)
      ∙ ap (λ l. l ++ spelled names (begun_after false (told_of e)) (all_told es)) (entry_spelled e)
      ∙ ap (λ o. lines_of names e ++ spelled names o (all_told es)) (entry_closed e)
      ∙ ap (λ l. lines_of names e ++ l) (entries_spelled es)

-- ## Of lines of which nothing was written yet

pub record AreNew (g : Game) (l : Lines) : Type 0 where
  pub program : l.program.now ≡ g.program
  pub begun : l.begun ≡ false
  pub whole : l.broken ≡ false
  pub faults : l.faults ≡ 0

goes_from : (a b : Place) (ts : List Told) (q : Bool) → a.broken ≡ false → b.broken ≡ q → ToldLines a b ts → Goes false q a b ts
goes_from a b ts q before now told = subst (λ q. Goes false q a b ts) now (subst (λ p. Goes p b.broken a b ts) before told.goes)

module _ {K : Type 0} (view : K → SinkView) (g : Game) (old new : Lines × K) (fresh : AreNew g old.0) where
  abbrev before : Place
  before = place old.0 (view old.1)

  abbrev behind : Place
  behind = place new.0 (view new.1)

  lines_are : (es : List Entry) → spelled before.names before.begun (all_told es) ≡ flat_map (lines_of (names_of g.program)) es
  lines_are es =
      ap (λ o. spelled before.names o (all_told es)) fresh.begun
      ∙ entries_spelled before.names es
      ∙ ap (λ (p : _). flat_map (lines_of (names_of p)) es) fresh.program

  took_lines : (es : List Entry) → new.0.broken ≡ false → Given (over_sink view) old new (all_told es) → Wrote (view old.1) (view new.1) (flat_map (lines_of (names_of g.program)) es)
  took_lines es now h = subst (Wrote (view old.1) (view new.1)) (lines_are es) (goes_from before behind (all_told es) false fresh.whole now h.told).wrote

  broke_lines : (es : List Entry) → new.0.broken ≡ true → Given (over_sink view) old new (all_told es) → BrokeOff (view old.1) (view new.1) (flat_map (lines_of (names_of g.program)) es)
  broke_lines es now h = subst (BrokeOff (view old.1) (view new.1)) (lines_are es) (goes_from before behind (all_told es) true fresh.whole now h.told)

  lost_lines : (es : List Entry) → Lost (over_sink view) old new (all_told es) → BrokeOff (view old.1) (view new.1) (flat_map (lines_of (names_of g.program)) es)
  lost_lines es h = (elim new.0.broken as (λ q. new.0.broken ≡ q → BrokeOff (view old.1) (view new.1) (flat_map (lines_of (names_of g.program)) es)) [
    | true ↦ λ now.
        let front = spelled before.names before.begun h.part in
        let others = spelled before.names (begun_after before.begun h.part) h.rest in
        let same : front ++ others ≡ flat_map (lines_of (names_of g.program)) es =
        sym (spelled_on before.names before.begun h.part h.rest) ∙ ap (λ l. spelled before.names before.begun l) (sym h.is) ∙ lines_are es in
        subst (BrokeOff (view old.1) (view new.1)) same
        (broke_first (view old.1) (view new.1) front others (goes_from before behind h.part true fresh.whole now h.told))
    | false ↦ λ now.
        let steady : new.0.faults ≡ old.0.faults = (goes_from before behind h.part false fresh.whole now h.told).steady in
        absurd (omega (arith, steady, fresh.faults, h.rose))
  ]) refl

  module _ (typed : List ℕ) (limits : Limits) where
    -- ## All of it was written

    pub run_traced : (outcome : Outcome) (left : Option (List ℕ)) → new.0.broken ≡ false
        → HasSeen (over_sink view) g typed limits outcome left old new → HasTraced g typed limits outcome left (view old.1) (view new.1)
    run_traced outcome left now h = record {
      lines = flat_map (lines_of (names_of g.program)) h.seen;
      shows = h.shows (lines_of (names_of g.program));
      wrote = took_lines h.seen now h.given;
    }

    lost_traced : (i i' : SourceView) → HasSeenPart (over_sink view) g typed limits (left_told i i') old new → HasTracedPart g typed limits (left_told i i') (view old.1) (view new.1)
    lost_traced i i' h = record {
      lines = flat_map (lines_of (names_of g.program)) h.seen;
      may_write = h.may_write (lines_of (names_of g.program));
      broke = lost_lines h.seen h.lost;
    }

    pub fault_traced : (fault : RunFault) (i i' : SourceView) → new.0.broken ≡ false
        → HasSeenFault (over_sink view) fault g typed limits i i' old new → HasTracedFault fault g typed limits i i' (view old.1) (view new.1)
    fault_traced fault.Read i i' now h = record {
      lines = flat_map (lines_of (names_of g.program)) h.seen;
      shows = h.shows (lines_of (names_of g.program));
      wrote = took_lines h.seen now h.given;
    }
    fault_traced fault.Write i i' now h = lost_traced i i' h
    fault_traced fault.OutOfMemory i i' now h = record {
      lines = flat_map (lines_of (names_of g.program)) h.seen;
      shows = h.shows (lines_of (names_of g.program));
      wrote = took_lines h.seen now h.given;
    }

    -- ## The sink has failed

    told_left : (told left : Option (List ℕ)) (rest : List ℕ) → IsLeft left rest → IsLeft (told_behind told left) rest
    told_left None left rest h = tt
    told_left (Some t) left rest h = h

    told_given : (told left : Option (List ℕ)) (t : ℕ) → HasGiven typed left t → HasGiven typed (told_behind told left) t
    told_given None left t h = tt
    told_given (Some typed) left t h = h

    memory_told : (i i' : SourceView) (lines : List ℕ) → ShowsNoMemoryBy (traced g) g typed limits lines i'.left → ShowsNoMemoryBy (traced g) g typed limits lines (left_told i i')
    memory_told i i' lines h = record {
      part = h.part;
      text = h.text;
      until = h.until;
      input = record { rest = h.input.rest; left_is = told_left i.left i'.left h.input.rest h.input.left_is; since = h.input.since; until = h.input.until };
    }

    input_told : (i i' : SourceView) (lines : List ℕ) → ShowsInputFaultBy (traced g) g typed limits lines i'.left → ShowsInputFaultBy (traced g) g typed limits lines (left_told i i')
    input_told i i' lines h = record {
      goals = h.goals;
      below = h.below;
      text = h.text;
      given = h.given;
      is_given = told_given i.left i'.left h.given h.is_given;
      goes_on = h.goes_on;
      no_more = h.no_more;
      reads = h.reads;
    }

    run_broke : (outcome : Outcome) (left : Option (List ℕ)) → new.0.broken ≡ true
        → HasSeen (over_sink view) g typed limits outcome left old new → HasTracedPart g typed limits left (view old.1) (view new.1)
    run_broke outcome left now h = record {
      lines = flat_map (lines_of (names_of g.program)) h.seen;
      may_write = whole outcome (h.shows (lines_of (names_of g.program)));
      broke = broke_lines h.seen now h.given;
    }

    fault_broke : (fault : RunFault) (i i' : SourceView) → new.0.broken ≡ true
        → HasSeenFault (over_sink view) fault g typed limits i i' old new → HasTracedPart g typed limits (left_told i i') (view old.1) (view new.1)
    fault_broke fault.Read i i' now h = record {
      lines = flat_map (lines_of (names_of g.program)) h.seen;
      may_write = without_input (input_told i i' (flat_map (lines_of (names_of g.program)) h.seen) (h.shows (lines_of (names_of g.program))));
      broke = broke_lines h.seen now h.given;
    }
    fault_broke fault.Write i i' now h = lost_traced i i' h
    fault_broke fault.OutOfMemory i i' now h = record {
      lines = flat_map (lines_of (names_of g.program)) h.seen;
      may_write = without_memory (memory_told i i' (flat_map (lines_of (names_of g.program)) h.seen) (h.shows (lines_of (names_of g.program))));
      broke = broke_lines h.seen now h.given;
    }

-- ## For the typed bytes of a source

pub for_those : (told : Option (List ℕ)) (P Q : List ℕ → Type 0) → ((typed : List ℕ) → P typed → Q typed) → ForTyped told P → ForTyped told Q
for_those None P Q f h = (h.0, f h.0 h.1)
for_those (Some typed) P Q f h = f typed h

pub broke_for : {K : Type 0} (view : K → SinkView) (g : Game) (limits : Limits) (i i' : SourceView) (old new : Lines × K) → AreNew g old.0 → new.0.broken ≡ true
    → (r : Result Outcome RunFault)
    → IfOk r (λ outcome. ForTyped i.left (λ typed. HasSeen (over_sink view) g typed limits outcome (left_told i i') old new))
    → IfErr r (λ fault. ForTyped i.left (λ typed. HasSeenFault (over_sink view) fault g typed limits i i' old new))
    → ForTyped i.left (λ typed. HasTracedPart g typed limits (left_told i i') (view old.1) (view new.1))
broke_for view g limits i i' old new fresh now (Ok outcome) shows err =
    for_those i.left _ _ (λ typed h. run_broke view g old new fresh typed limits outcome (left_told i i') now h) shows
broke_for view g limits i i' old new fresh now (Err fault) shows err =
    for_those i.left _ _ (λ typed h. fault_broke view g old new fresh typed limits fault i i' now h) err

pub traced_for : {K : Type 0} (view : K → SinkView) (g : Game) (limits : Limits) (i i' : SourceView) (old new : Lines × K) → AreNew g old.0 → new.0.broken ≡ false
    → (outcome : Outcome) → ForTyped i.left (λ typed. HasSeen (over_sink view) g typed limits outcome (left_told i i') old new)
    → ForTyped i.left (λ typed. HasTraced g typed limits outcome (left_told i i') (view old.1) (view new.1))
traced_for view g limits i i' old new fresh now outcome shows =
    for_those i.left _ _ (λ typed h. run_traced view g old new fresh typed limits outcome (left_told i i') now h) shows

pub lost_for : {K : Type 0} (view : K → SinkView) (g : Game) (limits : Limits) (i i' : SourceView) (old new : Lines × K) → AreNew g old.0 → new.0.broken ≡ false
    → (fault : RunFault) → ForTyped i.left (λ typed. HasSeenFault (over_sink view) fault g typed limits i i' old new)
    → ForTyped i.left (λ typed. HasTracedFault fault g typed limits i i' (view old.1) (view new.1))
lost_for view g limits i i' old new fresh now fault err =
    for_those i.left _ _ (λ typed h. fault_traced view g old new fresh typed limits fault i i' now h) err
