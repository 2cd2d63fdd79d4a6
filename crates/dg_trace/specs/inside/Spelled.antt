-- What is told, as lines: those of a trace, written one thing after another. Hold it against the Dialog manual on debugging.
use Rattle.std.specs.Prelude.{ℕ, ◌≡◌, List, [], ◌∷◌, ◌++◌, Bool, true, false, codes, eqb, if◌then◌else◌}
use Rattle.std.proofs.Common.{refl, sym, ap, ◌∙◌, append_assoc}
use Rattle.dg_meaning.specs.Trace.{call_line}
use Rattle.dg_watch.specs.Told.{Told, Took, Saw}
use Rattle.dg_watch.specs.declared.watch.CallEvent.{CallEvent}
use Rattle.dg_watch.specs.declared.watch.CallEvent.TheVariants as call

-- What ends a line, where one is open.
abbrev pub ended : Bool → List ℕ
ended true = codes "\n"
ended false = []

-- What begins the line of a stretch, where none is open.
abbrev pub marked : Bool → List ℕ
marked true = []
marked false = codes "\""

-- What is written for one more byte: a newline is a dot on a line of its own, and another goes on with the open line, or begins one.
abbrev pub byte_spelled : Bool → ℕ → List ℕ
byte_spelled begun b = if eqb b 10 then ended begun ++ codes ".\n" else marked begun ++ (b ∷ [])

-- Behind it a line is open, unless it was a newline.
abbrev pub begun_by : ℕ → Bool
begun_by b = if eqb b 10 then false else true

-- The line of an event, if it has one.
abbrev pub event_line : List (List ℕ) → CallEvent → List ℕ
event_line names (call.Asked pred) = call_line (codes "? ") names pred
event_line names (call.Answered pred) = call_line (codes "= ") names pred
event_line names (call.Retried pred) = call_line (codes "< ") names pred
event_line names (call.Failed pred) = call_line (codes "! ") names pred
event_line names call.Printed = []

-- What is written for these, where a line is open or not.
abbrev pub spelled : List (List ℕ) → Bool → List Told → List ℕ
spelled names begun [] = []
spelled names begun (Took b ∷ ts) = byte_spelled begun b ++ spelled names (begun_by b) ts
spelled names begun (Saw event ∷ ts) = ended begun ++ (event_line names event ++ spelled names false ts)

-- Whether a line is open behind these.
abbrev pub begun_after : Bool → List Told → Bool
begun_after begun [] = begun
begun_after begun (Took b ∷ ts) = begun_after (begun_by b) ts
begun_after begun (Saw event ∷ ts) = begun_after false ts

-- ## In two stretches

pub spelled_on : (names : List (List ℕ)) (begun : Bool) (ts us : List Told) →
    spelled names begun (ts ++ us) ≡ spelled names begun ts ++ spelled names (begun_after begun ts) us
spelled_on names begun [] us = refl
spelled_on names begun (Took b ∷ ts) us =
    ap (λ l. byte_spelled begun b ++ l) (spelled_on names (begun_by b) ts us)
    ∙ sym (append_assoc (byte_spelled begun b) (spelled names (begun_by b) ts) (spelled names (begun_after (begun_by b) ts) us))
spelled_on names begun (Saw event ∷ ts) us =
    ap (λ l. ended begun ++ (event_line names event ++ l)) (spelled_on names false ts us)
    ∙ ap (λ l. ended begun ++ l) (sym (append_assoc (event_line names event) (spelled names false ts) (spelled names (begun_after false ts) us)))
    ∙ sym (append_assoc (ended begun) (event_line names event ++ spelled names false ts) (spelled names (begun_after false ts) us))

pub begun_on : (begun : Bool) (ts us : List Told) → begun_after begun (ts ++ us) ≡ begun_after (begun_after begun ts) us
begun_on begun [] us = refl
begun_on begun (Took b ∷ ts) us = begun_on (begun_by b) ts us
begun_on begun (Saw event ∷ ts) us = begun_on false ts us
