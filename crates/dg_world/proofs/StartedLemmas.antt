-- What tables and kept lists stand for at the start.
use Rattle.std.proofs.Common.{◌≡◌, ℕ, zero, suc, ◌+◌, ◌<◌, ◌≤◌, List, [], ◌∷◌, ◌++◌, Bool, true, false, cond, Option, Some, None, map, refl, sym, ap, ◌∙◌, subst, arith, inl, inr, length, get_or, take, drop, length-append, replicate}
use Rattle.std.specs.Prelude.{nat_eq, nat_le, ◌&&◌}
use Rattle.std.specs.List.{slice_get, All}
use Rattle.std.specs.Option.{option_map}
use Rattle.std.proofs.Math.ListN.{set}
use Rattle.std.proofs.lemmas.Bool.Decides.{leb_tells}
use Rattle.std.proofs.lemmas.Bool.{cases_eq, eqb-true, eq-eqb, cond-true, cond-false}
use Rattle.std.proofs.lemmas.List.{length-set, length-replicate, get_or-set_same, get_or-set_other, take-append-drop, map_more, take-map}
use Rattle.std.proofs.lemmas.List.Elements.{All-head, All-tail}
use Rattle.std.proofs.lemmas.Option.{slice_get-map, slice_get_within, get_or_from_slice_get}
use Rattle.dg_base.specs.declared.cells.Cell.{Cell}
use Rattle.dg_base.specs.declared.cells.Simple.{Simple}
use Rattle.dg_base.specs.declared.program.Term.{Term, out-Term, Pair'}
use Rattle.dg_base.specs.declared.program.Term.TheOpen as term
use Rattle.dg_base.specs.declared.program.Term.TheVariants as variant
use Rattle.dg_base.specs.declared.program.Place.{Place}
use Rattle.dg_base.specs.declared.program.PlaceKind.{PlaceKind}
use Rattle.dg_base.specs.declared.program.PlaceKind.TheVariants.{Flag, ObjectFlag, ObjectVar, Parent, Global}
use Rattle.dg_base.specs.Sound.{FitsStart, IsSimple, IsObject, IsNothing}
use Rattle.dg_meaning.specs.Facts.{Fact, is_at, value_at, kept_size, start_value, starts_from, start_facts}
use Rattle.dg_world.specs.Lists.{joined}
use Rattle.dg_world.specs.Tables.{outline_of, Table, simple_value, width_of, slot_in, cells_set, stored, stored_from, AreTables}
use Rattle.dg_world.specs.Starts.{HasStarts, slot_of, filled, first_cells, cells_at_start, starting_table, starting_cells}
use Rattle.dg_world.proofs.ListsLemmas.{joined_append, joined_push}
use Rattle.dg_world.proofs.TablesLemmas.{kept_is, either}

-- ## Facts of places

abbrev facts_of : ℕ → List (ℕ × Term) → List Fact
facts_of n starts = map (λ (s : ℕ × Term). record { place = n; object = s.0; value = start_value s.1 }) starts

eqb_other : (a b : ℕ) → (a ≡ b → ⊥) → nat_eq a b ≡ false
eqb_other a b h = let cut : (x : Bool) → nat_eq a b ≡ x → nat_eq a b ≡ false = λ x. elim x as (λ y. nat_eq a b ≡ y → nat_eq a b ≡ false) [ true ↦ λ e. absurd (h (eqb-true a b e)) | false ↦ λ e. e ] in cut (nat_eq a b) refl

value_front : (fs gs : List Fact) (p m : ℕ) → value_at gs p m ≡ None → value_at (fs ++ gs) p m ≡ value_at fs p m
value_front [] gs p m h = h
value_front (f ∷ fs) gs p m h = ap (cond (is_at p m f) (Some f.value)) (value_front fs gs p m h)

value_other : (n : ℕ) (starts : List (ℕ × Term)) (gs : List Fact) (p m : ℕ) → (n ≡ p → ⊥) → value_at (facts_of n starts ++ gs) p m ≡ value_at gs p m
value_other n [] gs p m h = refl
value_other n (s ∷ starts) gs p m h =
    let rest = value_at (facts_of n starts ++ gs) p m in
    cond-false (nat_eq n p && nat_eq s.0 m) (Some (start_value s.1)) rest (ap (λ b. b && nat_eq s.0 m) (eqb_other n p h)) ∙ value_other n starts gs p m h

value_later : (n : ℕ) (places : List Place) (p m : ℕ) → p < n → value_at (starts_from n places) p m ≡ None
value_later n [] p m lt = refl
value_later n (place ∷ places) p m lt = value_other n place.start (starts_from (n + 1) places) p m (λ e. omega (arith, e, lt)) ∙ value_later (n + 1) places p m (omega arith)

value_place : (n : ℕ) (places : List Place) (i m : ℕ) (place : Place) → slice_get places i ≡ Some place → value_at (starts_from n places) (n + i) m ≡ value_at (facts_of (n + i) place.start) (n + i) m
value_place n [] i m place e = cc
value_place n (x ∷ places) zero m place e =
    let same : x ≡ place = cc in
    let z : n ≡ n + 0 = omega arith in
    let here : value_at (facts_of n x.start ++ starts_from (n + 1) places) n m ≡ value_at (facts_of n x.start) n m = value_front (facts_of n x.start) (starts_from (n + 1) places) n m (value_later (n + 1) places n m (omega arith)) in
    subst (λ (k : ℕ). value_at (facts_of n x.start ++ starts_from (n + 1) places) k m ≡ value_at (facts_of k x.start) k m) z (here) ∙ ap (λ (y : Place). value_at (facts_of (n + 0) y.start) (n + 0) m) same
value_place n (x ∷ places) (suc i) m place e =
    let z : n + suc i ≡ n + 1 + i = omega arith in
    value_other n x.start (starts_from (n + 1) places) (n + suc i) m (λ w. omega (arith, w))
    ∙ ap (λ k. value_at (starts_from (n + 1) places) k m) z
    ∙ value_place (n + 1) places i m place e
    ∙ ap (λ k. value_at (facts_of k place.start) k m) (sym z)

-- ## Slots at the start

nothing_simple : (x : term.Term-F Term) → IsNothing x → IsSimple x
nothing_simple (term.Num n) h = absurd h
nothing_simple (term.Word n) h = absurd h
nothing_simple (term.Object n) h = absurd h
nothing_simple term.Nil h = tt
nothing_simple (term.Var v) h = absurd h
nothing_simple (term.Pair a b) h = absurd h
nothing_simple (term.Closure c) h = absurd h

object_simple : (x : term.Term-F Term) → IsObject x → IsSimple x
object_simple (term.Num n) h = absurd h
object_simple (term.Word n) h = absurd h
object_simple (term.Object n) h = tt
object_simple term.Nil h = absurd h
object_simple (term.Var v) h = absurd h
object_simple (term.Pair a b) h = absurd h
object_simple (term.Closure c) h = absurd h

fits_simple : (kind : PlaceKind) (objects n : ℕ) (t : Term) → (kind ≡ Global → ⊥) → FitsStart kind objects n t → IsSimple (out-Term t)
fits_simple Flag objects n t differs h = nothing_simple (out-Term t) h.1
fits_simple ObjectFlag objects n t differs h = nothing_simple (out-Term t) h.1
fits_simple ObjectVar objects n t differs h = h.1
fits_simple Parent objects n t differs h = object_simple (out-Term t) h.1
fits_simple Global objects n t differs h = absurd (differs refl)

fits_within : (kind : PlaceKind) (objects n : ℕ) (t : Term) → (kind ≡ Global → ⊥) → FitsStart kind objects n t → n < width_of kind objects
fits_within Flag objects n t differs h = omega (arith, h.0)
fits_within ObjectFlag objects n t differs h = h.0
fits_within ObjectVar objects n t differs h = h.0
fits_within Parent objects n t differs h = h.0
fits_within Global objects n t differs h = absurd (differs refl)

slot_value : (t : Term) → IsSimple (out-Term t) → option_map simple_value (slot_of (out-Term t)) ≡ Some (start_value t)
unfolding out-Term denote.Hole.Carrier.out
slot_value (Pair' s head k tail) h = absurd h
slot_value (variant.Var v) h = absurd h
slot_value (variant.Closure c) h = absurd h
slot_value t h = refl

length_filled : (starts : List (ℕ × Term)) (slots : List (Option Simple)) → length (filled starts slots) ≡ length slots
length_filled [] slots = refl
length_filled (s ∷ starts) slots = length-set (filled starts slots) s.0 (slot_of (out-Term s.1)) ∙ length_filled starts slots

abbrev unset : Option Simple
unset = None

unset_slots : (n j : ℕ) → get_or (replicate n unset) j unset ≡ unset
unset_slots zero j = refl
unset_slots (suc n) zero = refl
unset_slots (suc n) (suc j) = unset_slots n j

slot_filled : (kind : PlaceKind) (objects p : ℕ) (starts : List (ℕ × Term)) (n : ℕ) → (kind ≡ Global → ⊥) → All (λ (s : ℕ × Term). FitsStart kind objects s.0 s.1) starts
    → option_map simple_value (get_or (filled starts (replicate (width_of kind objects) unset)) n unset) ≡ value_at (facts_of p starts) p n
slot_filled kind objects p [] n differs fit = ap (option_map simple_value) (unset_slots (width_of kind objects) n)
slot_filled kind objects p (s ∷ starts) n differs fit =
    let slots = filled starts (replicate (width_of kind objects) unset) in
    let here = All-head (λ (s : ℕ × Term). FitsStart kind objects s.0 s.1) s starts fit in
    let rest = value_at (facts_of p starts) p n in
    let long : length slots ≡ width_of kind objects = length_filled starts (replicate (width_of kind objects) unset) ∙ length-replicate (width_of kind objects) unset in
    let within = fits_within kind objects s.0 s.1 differs here in
    either (cases_eq s.0 n)
    (λ e.
    let test : (nat_eq p p && nat_eq s.0 n) ≡ true = ap (λ b. b && nat_eq s.0 n) (eq-eqb p p refl) ∙ eq-eqb s.0 n e in
    ap (λ k. option_map simple_value (get_or (set slots s.0 (slot_of (out-Term s.1))) k unset)) (sym e)
    ∙ ap (option_map simple_value) (get_or-set_same slots s.0 (slot_of (out-Term s.1)) unset (omega (arith, long, within)))
    ∙ slot_value s.1 (fits_simple kind objects s.0 s.1 differs here)
    ∙ sym (cond-true (nat_eq p p && nat_eq s.0 n) (Some (start_value s.1)) rest test))
    (λ ne.
    let test : (nat_eq p p && nat_eq s.0 n) ≡ false = ap (λ b. b && nat_eq s.0 n) (eq-eqb p p refl) ∙ eqb_other s.0 n ne in
    ap (option_map simple_value) (get_or-set_other slots s.0 n (slot_of (out-Term s.1)) unset (λ e. ne (sym e)))
    ∙ slot_filled kind objects p starts n differs (All-tail (λ (s : ℕ × Term). FitsStart kind objects s.0 s.1) s starts fit)
    ∙ sym (cond-false (nat_eq p p && nat_eq s.0 n) (Some (start_value s.1)) rest test))

-- ## Kept lists at the start

first_kept : (objects p : ℕ) (starts : List (ℕ × Term)) → All (λ (s : ℕ × Term). FitsStart Global objects s.0 s.1) starts → cells_set (value_at (facts_of p starts) p 0) ≡ first_cells starts
first_kept objects p [] fit = refl
first_kept objects p (s ∷ starts) fit =
    let here = All-head (λ (s : ℕ × Term). FitsStart Global objects s.0 s.1) s starts fit in
    let test : (nat_eq p p && nat_eq s.0 0) ≡ true = ap (λ b. b && nat_eq s.0 0) (eq-eqb p p refl) ∙ eq-eqb s.0 0 here.0 in
    ap cells_set (cond-true (nat_eq p p && nat_eq s.0 0) (Some (start_value s.1)) (value_at (facts_of p starts) p 0) test)

stored_start : (kind : PlaceKind) (objects p : ℕ) (starts : List (ℕ × Term)) (facts : List Fact) → All (λ (s : ℕ × Term). FitsStart kind objects s.0 s.1) starts → value_at facts p 0 ≡ value_at (facts_of p starts) p 0 → stored facts p kind ≡ cells_at_start kind starts
stored_start Flag objects p starts facts fit e = refl
stored_start ObjectFlag objects p starts facts fit e = refl
stored_start ObjectVar objects p starts facts fit e = refl
stored_start Parent objects p starts facts fit e = refl
stored_start Global objects p starts facts fit e = ap cells_set e ∙ first_kept objects p starts fit

abbrev kinds_of : List Place → List PlaceKind
kinds_of places = map (λ (place : Place). place.kind) places

kept_lists : (n : ℕ) (places : List Place) (facts : List Fact) → ((i : ℕ) → (place : Place) → slice_get places i ≡ Some place → stored facts (n + i) place.kind ≡ starting_cells place) → map starting_cells places ≡ stored_from n (kinds_of places) facts
kept_lists n [] facts h = refl
kept_lists n (x ∷ places) facts h =
    let z : n + 0 ≡ n = omega arith in
    let first : stored facts n x.kind ≡ starting_cells x = subst (λ (k : ℕ). stored facts k x.kind ≡ starting_cells x) z (h 0 x refl) in
    let rest = kept_lists (n + 1) places facts (λ i place e. let y : n + suc i ≡ n + 1 + i = omega arith in subst (λ (k : ℕ). stored facts k place.kind ≡ starting_cells place) y (h (suc i) place e)) in
    ap (λ l. l ∷ map starting_cells places) (sym first) ∙ ap (λ r. stored facts n x.kind ∷ r) rest

-- ## The start

starting_kinds : (objects : ℕ) (places : List Place) → map (λ (t : Table). t.kind) (map (starting_table objects) places) ≡ kinds_of places
starting_kinds objects [] = refl
starting_kinds objects (x ∷ places) = ap (λ l. x.kind ∷ l) (starting_kinds objects places)

from_table : (objects : ℕ) (x : Option Place) (t : Table) → option_map (starting_table objects) x ≡ Some t → (place : Place) × (x ≡ Some place) × (starting_table objects place ≡ t)
from_table objects None t e = cc
from_table objects (Some place) t e = (place, refl, cc)

from_kind : (x : Option Place) (kind : PlaceKind) → option_map (λ (place : Place). place.kind) x ≡ Some kind → (place : Place) × (x ≡ Some place) × (place.kind ≡ kind)
from_kind None kind e = cc
from_kind (Some place) kind e = (place, refl, cc)

fit_at : (objects : ℕ) (places : List Place) (i : ℕ) (place : Place) → All (HasStarts objects) places → slice_get places i ≡ Some place → HasStarts objects place
fit_at objects places i place all e = subst (HasStarts objects) (get_or_from_slice_get places i place place e) (all i place (slice_get_within places i place e))

pub lists_at_start : (places : List Place) (objects : ℕ) → All (HasStarts objects) places → map starting_cells places ≡ stored_from 0 (kinds_of places) (start_facts places)
lists_at_start places objects fit = kept_lists 0 places (start_facts places) (λ i place e. stored_start place.kind objects (0 + i) place.start (start_facts places) (fit_at objects places i place fit e) (value_place 0 places i 0 place e))

started_slot : (places : List Place) (objects p n : ℕ) (kind : PlaceKind) → All (HasStarts objects) places → slice_get (kinds_of places) p ≡ Some kind → (kind ≡ Global → ⊥) → option_map simple_value (slot_in (slice_get (map (starting_table objects) places) p) n) ≡ value_at (start_facts places) p n
started_slot places objects p n kind fit is none =
    let at = from_kind (slice_get places p) kind (sym (slice_get-map (λ (place : Place). place.kind) places p) ∙ is) in
    let place = at.0 in
    let table : slice_get (map (starting_table objects) places) p ≡ Some (starting_table objects place) = slice_get-map (starting_table objects) places p ∙ ap (option_map (starting_table objects)) at.1 in
    let differs : place.kind ≡ Global → ⊥ = λ g. none (sym at.2 ∙ g) in
    let z : 0 + p ≡ p = omega arith in
    ap (λ x. option_map simple_value (slot_in x n)) table
    ∙ slot_filled place.kind objects (0 + p) place.start n differs (fit_at objects places p place fit at.1)
    ∙ sym (value_place 0 places p n place at.1)
    ∙ ap (λ k. value_at (start_facts places) k n) z

pub started : (places : List Place) (objects keep : ℕ) → All (HasStarts objects) places → kept_size (kinds_of places) (start_facts places) ≤ keep → AreTables (outline_of places objects keep) (start_facts places) (map (starting_table objects) places) (map starting_cells places) keep
started places objects keep fit room = record {
  kinds = starting_kinds objects places;
  widths = λ p t e.
      let at = from_table objects (slice_get places p) t (sym (slice_get-map (starting_table objects) places p) ∙ e) in
      ap (λ (x : Table). length x.slots) (sym at.2) ∙ length_filled at.0.start (replicate (width_of at.0.kind objects) None) ∙ length-replicate (width_of at.0.kind objects) None ∙ ap (λ (x : Table). width_of x.kind objects) at.2;
  slots = λ p n kind is none. started_slot places objects p n kind fit is none;
  kept = lists_at_start places objects fit;
  limit = refl;
  within = room;
}

-- the lists so far and the next one have room
front_fits : (ls : List (List Cell)) (i : ℕ) → length (joined (take i ls)) ≤ length (joined ls)
front_fits ls i =
    let behind = joined (drop i ls) in
    omega (arith, ap (λ l. length (joined l)) (sym (take-append-drop i ls)), ap length (joined_append (take i ls) (drop i ls)), length-append (joined (take i ls)) behind)

-- one place more
pub next_joined : (places : List Place) (i : ℕ) (place : Place) → slice_get places i ≡ Some place → length (joined (map starting_cells (take (i + 1) places))) ≡ length (joined (map starting_cells (take i places))) + length (starting_cells place)
next_joined places i place e =
    let so_far = map starting_cells (take i places) in
    let is : map starting_cells (take (i + 1) places) ≡ so_far ++ starting_cells place ∷ [] = map_more starting_cells places i place (slice_get_within places i place e) ∙ ap (λ (x : Place). so_far ++ starting_cells x ∷ []) (get_or_from_slice_get places i place place e) in
    omega (arith, ap (λ l. length (joined l)) is, ap length (joined_push so_far (starting_cells place)), length-append (joined so_far) (starting_cells place))

pub kept_at_start : (places : List Place) (objects : ℕ) → All (HasStarts objects) places → kept_size (kinds_of places) (start_facts places) ≡ length (joined (map starting_cells places))
kept_at_start places objects fit = kept_is 0 (kinds_of places) (start_facts places) ∙ ap (λ l. length (joined l)) (sym (lists_at_start places objects fit))

pub front_kept : (places : List Place) (objects i : ℕ) → All (HasStarts objects) places → length (joined (map starting_cells (take i places))) ≤ kept_size (kinds_of places) (start_facts places)
front_kept places objects i fit =
    omega (arith, front_fits (map starting_cells places) i, ap (λ l. length (joined l)) (take-map starting_cells i places), kept_at_start places objects fit)

pub over_size : (size keep : ℕ) → keep < size → false ≡ nat_le size keep
over_size size keep h = elim (leb_tells size keep) [ inl within ↦ absurd (omega (arith, within.1, h)) | inr above ↦ sym above.0 ]

pub next_fits : (places : List Place) (objects keep i : ℕ) (place : Place) → All (HasStarts objects) places → kept_size (kinds_of places) (start_facts places) ≤ keep → slice_get places i ≡ Some place
    → length (joined (map starting_cells (take i places))) + length (starting_cells place) ≤ keep
next_fits places objects keep i place fit room e = omega (arith, front_kept places objects (i + 1) fit, next_joined places i place e, room)
