-- One more thing that is printed, as a watch is told it.
use Rattle.std.proofs.Common.{◌≡◌, ℕ, ◌+◌, ◌≤◌, ◌<◌, List, [], ◌∷◌, ◌++◌, Option, Some, None, refl, sym, ap, ◌∙◌, subst, arith, length, length-append, Bor}
use Rattle.std.proofs.lemmas.List.{append-nil}
use Rattle.dg_base.specs.Written.{SinkView, IsOver, Wrote, BrokeOff}
use Rattle.dg_meaning.specs.World.{Print, Piece}
use Rattle.dg_meaning.specs.Render.{met_from, nothing_met, growth}
use Rattle.dg_meaning.specs.Transcript.{newline_behind, ending_line}
use Rattle.dg_spacing.specs.Gaps.{print_of}
use Rattle.dg_spacing.specs.declared.gap.Event.{Event}
use Rattle.dg_spacing.specs.declared.gap.Event.TheVariants as event
use Rattle.dg_watch.specs.Told.{Saw, took, told_growth, told_closing}
use Rattle.dg_watch.specs.declared.watch.CallEvent.TheVariants.{Printed}

-- the bytes of a piece that a row took
pub row_growth : (e : Event) (piece : Bor (List ℕ)) → e ≡ event.Piece piece → (es : List Print) (before now : List ℕ) (f g : ℕ) → before ≡ [] → Wrote (record { taken = Some before; room = None; faults = f }) (record { taken = Some now; room = None; faults = g }) (growth es (print_of e)) → took now ++ Saw Printed ∷ [] ≡ told_growth es (print_of e)
row_growth e piece is es before now f g none wrote =
    let same : now ≡ growth es (print_of e) = wrote.taken ∙ ap (λ l. l ++ growth es (print_of e)) none in
    ap (λ l. took l ++ Saw Printed ∷ []) same
    ∙ subst (λ x. took (growth es (print_of x)) ++ Saw Printed ∷ [] ≡ told_growth es (print_of x)) (sym is) (sym (append-nil (took (growth es (Piece piece.now)) ++ Saw Printed ∷ [])))

-- a gap alone is not told
pub gap_told : (e : Event) → ((b : _) → e ≡ event.Piece b → ⊥) → (es : List Print) → told_growth es (print_of e) ≡ []
gap_told (event.Piece b) h es = absurd (h b refl)
gap_told event.NoSpace h es = refl
gap_told event.Space h es = refl
gap_told (event.Spaces n) h es = refl
gap_told event.Line h es = refl
gap_told event.Par h es = refl
gap_told event.Upper h es = refl

pub closing_growth : (es : List Print) (line before now : List ℕ) (r q : Option ℕ) (f g : ℕ) → before ≡ [] → Wrote (record { taken = Some before; room = r; faults = f }) (record { taken = Some now; room = q; faults = g }) (ending_line es line) → took now ++ Saw Printed ∷ [] ≡ told_closing es line
closing_growth es line before now r q f g none wrote =
    let same : now ≡ ending_line es line = wrote.taken ∙ ap (λ l. l ++ ending_line es line) none in
    ap (λ l. took l ++ Saw Printed ∷ []) same ∙ sym (append-nil (took (ending_line es line) ++ Saw Printed ∷ []))

-- a closing is at most a newline longer than its line
newline_short : (last : Option ℕ) → length (newline_behind last) ≤ 1
newline_short None = omega arith
newline_short (Some b) = omega arith

pub closing_fits : (es : List Print) (line : List ℕ) (old new : SinkView) (room : ℕ) → old.room ≡ Some room → length line + 1 ≤ room → BrokeOff old new (ending_line es line) → ⊥
closing_fits es line old new room is enough broke =
    let over : room < length (ending_line es line) = subst (λ r. IsOver r (length (ending_line es line))) is broke.over in
    omega (arith, over, enough, length-append (newline_behind (met_from nothing_met es).last) line, newline_short (met_from nothing_met es).last)
