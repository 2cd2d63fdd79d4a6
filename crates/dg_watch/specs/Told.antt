-- What a watch is told of a run, one thing after another. Hold it against the Dialog manual on debugging.
use Rattle.std.specs.Prelude.{ℕ, List, [], ◌∷◌, ◌++◌, map}
use Rattle.std.specs.List.{flat_map}
use Rattle.dg_meaning.specs.Render.{nothing_met, met_from}
use Rattle.dg_meaning.specs.Trace.{Entry, Wrote, Asks, Answers, Retries, Fails, entries, written_entries}
use Rattle.dg_meaning.specs.Transcript.{ending_line}
use Rattle.dg_meaning.specs.World.{Event, Print}
use Rattle.dg_watch.specs.declared.watch.CallEvent.{CallEvent}
use Rattle.dg_watch.specs.declared.watch.CallEvent.TheVariants as call

-- A byte that it took, or an event that it saw.
pub data Told : Type 0 where
  Took : (byte : ℕ) → Told
  Saw : (event : CallEvent) → Told

-- These bytes, taken.
abbrev pub took : List ℕ → List Told
took bytes = map (λ byte. Took byte) bytes

-- What an entry of a trace is: the bytes of a piece, and that it was written; or a call.
abbrev pub told_of : Entry → List Told
told_of (Wrote bytes) = took bytes ++ Saw call.Printed ∷ []
told_of (Asks pred) = Saw (call.Asked pred) ∷ []
told_of (Answers pred) = Saw (call.Answered pred) ∷ []
told_of (Retries pred) = Saw (call.Retried pred) ∷ []
told_of (Fails pred) = Saw (call.Failed pred) ∷ []

-- What the entries of a trace are.
abbrev pub all_told : List Entry → List Told
all_told es = flat_map told_of es

-- The bytes that were taken.
abbrev pub taken : List Told → List ℕ
taken [] = []
taken (Took byte ∷ ts) = byte ∷ taken ts
taken (Saw event ∷ ts) = taken ts

-- What one more thing is told as, behind these.
abbrev pub told_growth : List Print → Print → List Told
told_growth es e = all_told (written_entries (met_from nothing_met es) e)

-- What closes these things, as it is told.
abbrev pub told_closing : List Print → List ℕ → List Told
told_closing es line = all_told (Wrote (ending_line es line) ∷ [])

-- What a whole run is told as up to some events.
abbrev pub told_events : List Event → List Told
told_events es = all_told (entries nothing_met es)

-- What events are told as, behind these things.
abbrev pub told_behind : List Print → List Event → List Told
told_behind es more = all_told (entries (met_from nothing_met es) more)
