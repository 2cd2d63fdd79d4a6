-- The order on worlds, and what each change of a world is in it.
use Rattle.std.proofs.Common.{ℕ, zero, suc, List, [], ◌∷◌, ◌++◌, refl, sym, ap, ◌∙◌, arith, append_assoc}
use Rattle.std.specs.Prelude.{eqb}
use Rattle.std.proofs.lemmas.Bool.{cond_both}
use Rattle.std.proofs.lemmas.List.{append-nil}
use Rattle.dg_base.specs.declared.program.CoreProgram.{CoreProgram}
use Rattle.dg_meaning.specs.Values.{Value}
use Rattle.dg_meaning.specs.Words.{behind_line, behind_first}
use Rattle.dg_base.specs.Typed.{longest}
use Rattle.dg_meaning.specs.Facts.{Alteration}
use Rattle.dg_meaning.specs.Choosing.{Choice}
use Rattle.dg_meaning.specs.World.{World, Gathering, Meters, Event, Print, Piece, noted, worked, reached, gathering, gathered_with, kept, dropped, drew}
use Rattle.dg_meaning.specs.Changes.{changed}
use Rattle.dg_meaning.specs.Path.{Registers, ChoiceKind, Rules, Gathers}
use Rattle.dg_meaning.specs.Moves.{printed, all_printed, exhausted, begun, selected}
use Rattle.dg_meaning.specs.Search.{retried, leave}
use Rattle.dg_meaning.specs.inside.OneRun.{MetersGrow, Grows}
use Rattle.dg_base.specs.Begins.{Begins, EndsWith}

pub begins_same : {A : Type 0} (xs : List A) → Begins xs xs
begins_same xs = record { behind = []; is = sym (append-nil xs) }

pub begins_on : {A : Type 0} (xs ys zs : List A) → Begins xs ys → Begins ys zs → Begins xs zs
begins_on xs ys zs a b = record { behind = a.behind ++ b.behind; is = b.is ∙ ap (λ l. l ++ b.behind) a.is ∙ append_assoc xs a.behind b.behind }

pub ends_on : {A : Type 0} (xs ys zs : List A) → EndsWith xs ys → EndsWith ys zs → EndsWith xs zs
ends_on xs ys zs a b = record { taken = a.taken ++ b.taken; is = a.is ∙ ap (λ l. a.taken ++ l) b.is ∙ sym (append_assoc a.taken b.taken zs) }

pub meters_same : (m : Meters) → MetersGrow m m
meters_same m = record { heap = omega arith; trail = omega arith; aux = omega arith; keep = omega arith; work = omega arith }

pub grows_same : (w : World) → Grows w w
grows_same w = record { events = begins_same w.events; meters = meters_same w.meters; typed = record { taken = []; is = refl }; dice = omega arith }

pub grows_on : (w v u : World) → Grows w v → Grows v u → Grows w u
grows_on w v u a b = record {
  events = begins_on w.events v.events u.events a.events b.events;
  meters = record {
    heap = omega (arith, a.meters.heap, b.meters.heap);
    trail = omega (arith, a.meters.trail, b.meters.trail);
    aux = omega (arith, a.meters.aux, b.meters.aux);
    keep = omega (arith, a.meters.keep, b.meters.keep);
    work = omega (arith, a.meters.work, b.meters.work);
  };
  typed = ends_on w.typed v.typed u.typed a.typed b.typed;
  dice = omega (arith, a.dice, b.dice);
}

-- ## Changes of a world

pub noted_grows : (e : Event) (w : World) → Grows w (noted e w)
noted_grows e w = record { events = record { behind = e ∷ []; is = refl }; meters = meters_same w.meters; typed = record { taken = []; is = refl }; dice = omega arith }

pub worked_grows : (n : ℕ) (w : World) → Grows w (worked n w)
worked_grows n w = record {
  events = begins_same w.events;
  meters = record { heap = omega arith; trail = omega arith; aux = omega arith; keep = omega arith; work = omega arith };
  typed = record { taken = []; is = refl };
  dice = omega arith;
}

reached_grows : (heap trail : ℕ) (w : World) → Grows w (reached heap trail w)
reached_grows heap trail w = record {
  events = begins_same w.events;
  meters = record { heap = omega arith; trail = omega arith; aux = omega arith; keep = omega arith; work = omega arith };
  typed = record { taken = []; is = refl };
  dice = omega arith;
}

pub begun_grows : (r : Registers) (work : ℕ) (w : World) → Grows w (begun r work w)
begun_grows r work w = grows_on w (reached r.heap r.trail w) (begun r work w) (reached_grows r.heap r.trail w) (worked_grows work (reached r.heap r.trail w))

pub printed_grows : (e : Print) (w : World) → Grows w (printed e w)
printed_grows e w = record {
  events = record { behind = _ ∷ []; is = refl };
  meters = record { heap = omega arith; trail = omega arith; aux = omega arith; keep = omega arith; work = omega arith };
  typed = record { taken = []; is = refl };
  dice = omega arith;
}

pub all_printed_grows : (pieces : List (List ℕ)) (w : World) → Grows w (all_printed pieces w)
all_printed_grows [] w = grows_same w
all_printed_grows (piece ∷ pieces) w = grows_on w (printed (Piece piece) w) _ (printed_grows (Piece piece) w) (all_printed_grows pieces (printed (Piece piece) w))

-- what is gathered is no part of the order
pub dropped_grows : (t : ℕ) (w : World) → Grows w (dropped t w)
dropped_grows t w = record { events = begins_same w.events; meters = meters_same w.meters; typed = record { taken = []; is = refl }; dice = omega arith }

-- what is set, and what is kept of selects, is no part of it either
pub gathering_grows : (gs : List Gathering) (w : World) → Grows w (gathering gs w)
gathering_grows gs w = record {
  events = begins_same w.events;
  meters = record { heap = omega arith; trail = omega arith; aux = omega arith; keep = omega arith; work = omega arith };
  typed = record { taken = []; is = refl };
  dice = omega arith;
}

pub kept_grows : (t : ℕ) (x : Value) (w : World) → Grows w (kept t x w)
kept_grows t x w = gathering_grows (gathered_with t x w.gathered) w

pub changed_grows : (program : CoreProgram) (a : Alteration) (w : World) → Grows w (changed program a w)
changed_grows program a w = record {
  events = begins_same w.events;
  meters = record { heap = omega arith; trail = omega arith; aux = omega arith; keep = omega arith; work = omega arith };
  typed = record { taken = []; is = refl };
  dice = omega arith;
}

pub selected_grows : (site : ℕ) (c : Choice) (w : World) → Grows w (selected site c w)
selected_grows site c w = record { events = begins_same w.events; meters = meters_same w.meters; typed = record { taken = []; is = refl }; dice = omega arith }

pub drew_grows : (n : ℕ) (w : World) → Grows w (drew n w)
drew_grows n w = record { events = begins_same w.events; meters = meters_same w.meters; typed = record { taken = []; is = refl }; dice = omega arith }

-- a line is the front of what was typed
line_taken : (n : ℕ) (bytes : List ℕ) → EndsWith bytes (behind_line n bytes)
line_taken zero bytes = record { taken = []; is = refl }
line_taken (suc n) [] = record { taken = []; is = refl }
line_taken (suc n) (b ∷ bytes) =
    cond_both (eqb b 10) bytes (behind_line n bytes) (EndsWith (b ∷ bytes)) (λ e. record { taken = b ∷ []; is = refl })
    (λ e. let h = line_taken n bytes in record { taken = b ∷ h.taken; is = ap (λ l. b ∷ l) h.is })

pub line_grows : (w : World) → Grows w (record w { typed = behind_first w.typed })
line_grows w = record { events = begins_same w.events; meters = meters_same w.meters; typed = line_taken longest w.typed; dice = omega arith }

pub exhausted_grows : (k : ChoiceKind) (w : World) → Grows w (exhausted k w)
exhausted_grows (Rules q) w = noted_grows _ w
exhausted_grows _ w = grows_same w

pub retried_grows : (k : ChoiceKind) (w : World) → Grows w (retried k w)
retried_grows (Rules q) w = noted_grows _ w
retried_grows _ w = grows_same w

pub leave_grows : (k : ChoiceKind) (t : ℕ) (w : World) → Grows w (leave k t w)
leave_grows Gathers t w = dropped_grows t w
leave_grows _ t w = grows_same w
