-- What each change leads to, and what is read.
use Rattle.std.proofs.Common.{◌≡◌, ℕ, ◌+◌, ◌-◌, ◌<◌, List, [], Bool, true, false, Option, Some, None, refl, sym, ap, ◌∙◌, subst, arith, length, get_or}
use Rattle.std.specs.Prelude.{not, Result, Ok, Err, if◌then◌else◌}
use Rattle.std.proofs.Math.ListN.{set}
use Rattle.std.specs.List.{slice_get, list_any}
use Rattle.std.specs.Option.{option_map}
use Rattle.std.proofs.lemmas.Bool.{cases_lt}
use Rattle.std.proofs.lemmas.Option.{slice_get-map}
use Rattle.dg_base.specs.declared.cells.Cell.{Cell}
use Rattle.dg_base.specs.declared.cells.Simple.{Simple}
use Rattle.dg_base.specs.declared.cells.Simple.TheVariants as simple
use Rattle.dg_base.specs.declared.program.PlaceKind.{PlaceKind}
use Rattle.dg_base.specs.declared.program.PlaceKind.TheVariants.{Flag, ObjectFlag, ObjectVar, Parent, Global}
use Rattle.dg_meaning.specs.Values.{Value}
use Rattle.dg_meaning.specs.TypeTests.{is_fully_bound}
use Rattle.dg_meaning.specs.ValueCells.{cells_of}
use Rattle.dg_meaning.specs.Facts.{Fact, value_at, Alteration, Sets, Clears, ClearsAll, altered, takes}
use Rattle.dg_meaning.specs.inside.Objects.{IsFirstSet}
use Rattle.dg_world.specs.Lists.{Lists, joined}
use Rattle.dg_world.specs.Tables.{Outline, IsKind, HasValues, HasObjects, Table, simple_value, takes_slot, width_of, slot_in, put_at, emptied, cells_set, is_fresh, IsFirstSlot, AreTables}
use Rattle.dg_world.specs.Worlds.{StandsFor, Means, takes_in, is_taken, Changed, KeepsList}
use Rattle.dg_world.specs.declared.change.Change.{Change}
use Rattle.dg_world.specs.declared.change.Change.TheVariants as change
use Rattle.dg_world.specs.declared.change.KeepFull.{KeepFull}
use Rattle.dg_world.specs.declared.world.World.{World}
use Rattle.dg_world.proofs.FactsLemmas.{set_there, set_elsewhere, cleared_there, cleared_elsewhere, all_cleared, others_stay, variable_in, some_cell}
use Rattle.dg_world.proofs.TablesLemmas.{put_stands, emptied_stands, kept_stands, new_size, kept_is, stored_at, either}

-- ## Slots

-- a slot was put
put_world : (o : Outline) (facts : List Fact) (a : Alteration) (old new : World) (p n : ℕ) (s : Option Simple) (k : PlaceKind) → StandsFor old o facts → IsKind o p k → (k ≡ Global → ⊥) → n < width_of k o.objects → new.tables.items ≡ put_at p n s old.tables.items → new.area ≡ old.area
    → is_taken o a ≡ true → value_at (altered a facts) p n ≡ option_map simple_value s → ((q m : ℕ) → (q ≡ p → m ≡ n → ⊥) → value_at (altered a facts) q m ≡ value_at facts q m) → Changed o facts a old new (Ok true)
put_world o facts a old new p n s k st is differs lt tables area taken hit miss =
    let after = altered a facts in
    let put = put_stands o facts after old.tables.items old.area.lists old.area.keep p n s k st is differs lt hit miss in
    let moved = subst (λ (x : List Table). AreTables o after x old.area.lists old.area.keep) (sym tables) put in
    (taken, subst (λ (x : Lists). AreTables o after new.tables.items x.lists x.keep) (sym area) moved)

slot_set : (o : Outline) (facts : List Fact) (a : Alteration) (old new : World) (p n : ℕ) (s : Simple) (k : PlaceKind) → StandsFor old o facts → IsKind o p k → (k ≡ Global → ⊥) → n < width_of k o.objects → new.tables.items ≡ put_at p n (Some s) old.tables.items → new.area ≡ old.area
    → takes k (simple_value s) ≡ true → a ≡ Sets p n (simple_value s) → Changed o facts a old new (Ok true)
slot_set o facts a old new p n s k st is differs lt tables area taken e =
    let v = simple_value s in
    let done = put_world o facts (Sets p n v) old new p n (Some s) k st is differs lt tables area (ap (λ x. takes_in x v) is ∙ taken) (set_there p n v facts) (set_elsewhere p n v facts) in
    subst (λ (x : Alteration). Changed o facts x old new (Ok true)) (sym e) done

slot_cleared : (o : Outline) (facts : List Fact) (a : Alteration) (old new : World) (p n : ℕ) (k : PlaceKind) → StandsFor old o facts → IsKind o p k → (k ≡ Global → ⊥) → n < width_of k o.objects → new.tables.items ≡ put_at p n None old.tables.items → new.area ≡ old.area
    → a ≡ Clears p n → Changed o facts a old new (Ok true)
slot_cleared o facts a old new p n k st is differs lt tables area e =
    let done = put_world o facts (Clears p n) old new p n None k st is differs lt tables area refl (cleared_there p n facts) (cleared_elsewhere p n facts) in
    subst (λ (x : Alteration). Changed o facts x old new (Ok true)) (sym e) done

pub flag_changed : (o : Outline) (facts : List Fact) (a : Alteration) (old new : World) (c : Change) (p : ℕ) (on : Bool) (s : Option Simple) → c ≡ change.Flag p on → s ≡ (if on then Some simple.Nil else None) → new.tables.items ≡ put_at p 0 s old.tables.items → new.area ≡ old.area
    → StandsFor old o facts → Means o c a → Changed o facts a old new (Ok true)
flag_changed o facts a old new c p true s e f tables area st m =
    let means = subst (λ (x : Change). Means o x a) e m in
    slot_set o facts a old new p 0 simple.Nil Flag st means.0 (λ w. cc) (omega arith) (tables ∙ ap (λ x. put_at p 0 x old.tables.items) f) area refl means.1
flag_changed o facts a old new c p false s e f tables area st m =
    let means = subst (λ (x : Change). Means o x a) e m in
    slot_cleared o facts a old new p 0 Flag st means.0 (λ w. cc) (omega arith) (tables ∙ ap (λ x. put_at p 0 x old.tables.items) f) area means.1

pub object_flag_changed : (o : Outline) (facts : List Fact) (a : Alteration) (old new : World) (c : Change) (p n : ℕ) (on : Bool) (s : Option Simple) → c ≡ change.ObjectFlag p n on → s ≡ (if on then Some simple.Nil else None) → new.tables.items ≡ put_at p n s old.tables.items → new.area ≡ old.area
    → StandsFor old o facts → Means o c a → Changed o facts a old new (Ok true)
object_flag_changed o facts a old new c p n true s e f tables area st m =
    let means = subst (λ (x : Change). Means o x a) e m in
    slot_set o facts a old new p n simple.Nil ObjectFlag st means.0 (λ w. cc) means.1 (tables ∙ ap (λ x. put_at p n x old.tables.items) f) area refl means.2
object_flag_changed o facts a old new c p n false s e f tables area st m =
    let means = subst (λ (x : Change). Means o x a) e m in
    slot_cleared o facts a old new p n ObjectFlag st means.0 (λ w. cc) means.1 (tables ∙ ap (λ x. put_at p n x old.tables.items) f) area means.2

pub kind_is : (o : Outline) (facts : List Fact) (w : World) (p : ℕ) (k : PlaceKind) → StandsFor w o facts → IsKind o p k → option_map (λ (t : Table). t.kind) (slice_get w.tables.items p) ≡ Some k
kind_is o facts w p k st is = sym (slice_get-map (λ (t : Table). t.kind) w.tables.items p) ∙ ap (λ l. slice_get l p) st.kinds ∙ is

-- a place that has values took one
value_in : (o : Outline) (facts : List Fact) (a : Alteration) (old new : World) (p n : ℕ) (s : Option Simple) (k : PlaceKind) → StandsFor old o facts → IsKind o p k → (k ≡ Global → ⊥) → n < width_of k o.objects → new.tables.items ≡ put_at p n s old.tables.items → new.area ≡ old.area
    → takes_slot k s ≡ true → HasValues o p → n < o.objects → Means o (change.ObjectVar p n s) a → Changed o facts a old new (Ok true)
value_in o facts a old new p n None k st is differs lt tables area taken has small m = slot_cleared o facts a old new p n k st is differs lt tables area m.2
value_in o facts a old new p n (Some s) k st is differs lt tables area taken has small m = slot_set o facts a old new p n s k st is differs lt tables area taken m.2

means_values : (o : Outline) (a : Alteration) (p n : ℕ) (s : Option Simple) → Means o (change.ObjectVar p n s) a → HasValues o p × (n < o.objects)
means_values o a p n None m = (m.0, m.1)
means_values o a p n (Some s) m = (m.0, m.1)

pub value_changed : (o : Outline) (facts : List Fact) (a : Alteration) (old new : World) (p n : ℕ) (s : Option Simple) (taken : Bool) → taken ≡ true → (IsKind o p ObjectVar → taken ≡ takes_slot ObjectVar s) → (IsKind o p Parent → taken ≡ takes_slot Parent s)
    → new.tables.items ≡ put_at p n s old.tables.items → new.area ≡ old.area → StandsFor old o facts → Means o (change.ObjectVar p n s) a → Changed o facts a old new (Ok true)
value_changed o facts a old new p n s taken accepted values parents tables area st m =
    let has = means_values o a p n s m in
    either has.0
    (λ is. value_in o facts a old new p n s ObjectVar st is (λ w. cc) has.1 tables area (sym (values is) ∙ accepted) has.0 has.1 m)
    (λ is. value_in o facts a old new p n s Parent st is (λ w. cc) has.1 tables area (sym (parents is) ∙ accepted) has.0 has.1 m)

refused : (o : Outline) (a : Alteration) (p n : ℕ) (s : Option Simple) (k : PlaceKind) → IsKind o p k → takes_slot k s ≡ false → Means o (change.ObjectVar p n s) a → is_taken o a ≡ false
refused o a p n None k is h m = absurd (cc)
refused o a p n (Some s) k is h m = ap (is_taken o) m.2 ∙ ap (λ x. takes_in x (simple_value s)) is ∙ h

pub value_refused : (o : Outline) (facts : List Fact) (a : Alteration) (w : World) (p n : ℕ) (s : Option Simple) (taken : Bool) → taken ≡ false → (IsKind o p ObjectVar → taken ≡ takes_slot ObjectVar s) → (IsKind o p Parent → taken ≡ takes_slot Parent s)
    → StandsFor w o facts → Means o (change.ObjectVar p n s) a → Changed o facts a w w (Ok false)
value_refused o facts a w p n s taken not_taken values parents st m =
    let has = means_values o a p n s m in
    (either has.0 (λ is. refused o a p n s ObjectVar is (sym (values is) ∙ not_taken) m) (λ is. refused o a p n s Parent is (sym (parents is) ∙ not_taken) m), refl)

-- ## All objects of a place

emptied_world : (o : Outline) (facts : List Fact) (a : Alteration) (old new : World) (p : ℕ) (k : PlaceKind) → StandsFor old o facts → IsKind o p k → (k ≡ Global → ⊥) → new.tables.items ≡ emptied p old.tables.items → new.area ≡ old.area → a ≡ ClearsAll p → Changed o facts a old new (Ok true)
emptied_world o facts a old new p k st is differs tables area e =
    let after = altered (ClearsAll p) facts in
    let put = emptied_stands o facts after old.tables.items old.area.lists old.area.keep p k st is differs (λ m. all_cleared p m facts) (others_stay p facts) in
    let moved = subst (λ (x : List Table). AreTables o after x old.area.lists old.area.keep) (sym tables) put in
    let done : Changed o facts (ClearsAll p) old new (Ok true) = (refl, subst (λ (x : Lists). AreTables o after new.tables.items x.lists x.keep) (sym area) moved) in
    subst (λ (x : Alteration). Changed o facts x old new (Ok true)) (sym e) done

pub all_changed : (o : Outline) (facts : List Fact) (a : Alteration) (old new : World) (c : Change) (p : ℕ) → c ≡ change.ClearAll p → new.tables.items ≡ emptied p old.tables.items → new.area ≡ old.area → StandsFor old o facts → Means o c a → Changed o facts a old new (Ok true)
all_changed o facts a old new c p e tables area st m =
    let means = subst (λ (x : Change). Means o x a) e m in
    either means.0
    (λ is. emptied_world o facts a old new p ObjectFlag st is (λ w. cc) tables area means.1)
    (λ has. either has
    (λ is. emptied_world o facts a old new p ObjectVar st is (λ w. cc) tables area means.1)
    (λ is. emptied_world o facts a old new p Parent st is (λ w. cc) tables area means.1))

-- ## Kept values

from_not : (b : Bool) → not b ≡ false → b ≡ true
from_not true e = refl
from_not false e = absurd (cc)

from_not_true : (b : Bool) → not b ≡ true → b ≡ false
from_not_true true e = absurd (cc)
from_not_true false e = refl

kept_world : (o : Outline) (facts : List Fact) (old new : World) (p : ℕ) (l : List Cell) (v : Value) (result : Result Bool KeepFull) → KeepsList p l old new result → IsKind o p Global → l ≡ cells_of v → StandsFor old o facts → Changed o facts (Sets p 0 v) old new result
kept_world o facts old new p l v (Ok true) h is e st =
    let after = altered (Sets p 0 v) facts in
    let hit : cells_set (value_at after p 0) ≡ l = ap cells_set (set_there p 0 v facts) ∙ sym e in
    let miss = λ (q m : ℕ) (ne : q ≡ p → ⊥). set_elsewhere p 0 v facts q m (λ y z. ne y) in
    let size = new_size o facts after old.tables.items old.area.lists old.area.keep p l st is hit miss in
    let full : is_fully_bound v ≡ true = from_not (is_fully_bound v) (sym (variable_in v) ∙ ap (list_any is_fresh) (sym e) ∙ h.0) in
    let done = kept_stands o facts after old.tables.items old.area.lists old.area.keep p l st is hit miss (omega (arith, size, h.1, st.limit)) in
    (ap (λ x. takes_in x v) is ∙ full, subst (λ (w : World). StandsFor w o after) (sym h.2) done)
kept_world o facts old new p l v (Ok false) h is e st = (ap (λ x. takes_in x v) is ∙ from_not_true (is_fully_bound v) (sym (variable_in v) ∙ ap (list_any is_fresh) (sym e) ∙ h.0), h.1)
kept_world o facts old new p l v (Err x) h is e st =
    let after = altered (Sets p 0 v) facts in
    let hit : cells_set (value_at after p 0) ≡ l = ap cells_set (set_there p 0 v facts) ∙ sym e in
    let miss = λ (q m : ℕ) (ne : q ≡ p → ⊥). set_elsewhere p 0 v facts q m (λ y z. ne y) in
    let size = new_size o facts after old.tables.items old.area.lists old.area.keep p l st is hit miss in
    let full : is_fully_bound v ≡ true = from_not (is_fully_bound v) (sym (variable_in v) ∙ ap (list_any is_fresh) (sym e) ∙ h.0) in
    let total = length (joined old.area.lists) - length (get_or old.area.lists p []) + length l in
    let over : old.area.keep < total = either (cases_lt old.area.keep total) (λ y. y) (λ le. absurd (h.1 le)) in
    (ap (λ y. takes_in y v) is ∙ full, omega (arith, size, over, st.limit), h.2)

pub kept_changed : (o : Outline) (facts : List Fact) (a : Alteration) (old new : World) (p : ℕ) (l : List Cell) (result : Result Bool KeepFull) → KeepsList p l old new result → StandsFor old o facts → IsKind o p Global → ((v : Value) × (l ≡ cells_of v) × (a ≡ Sets p 0 v)) → Changed o facts a old new result
kept_changed o facts a old new p l result h st is means = subst (λ (x : Alteration). Changed o facts x old new result) (sym means.2) (kept_world o facts old new p l means.0 result h is means.1 st)

pub global_cleared : (o : Outline) (facts : List Fact) (a : Alteration) (old new : World) (p : ℕ) → new.tables.items ≡ old.tables.items → new.area ≡ record old.area { lists = set old.area.lists p [] } → StandsFor old o facts → IsKind o p Global → a ≡ Clears p 0 → Changed o facts a old new (Ok true)
global_cleared o facts a old new p tables area st is e =
    let after = altered (Clears p 0) facts in
    let hit : cells_set (value_at after p 0) ≡ [] = ap cells_set (cleared_there p 0 facts) in
    let miss = λ (q m : ℕ) (ne : q ≡ p → ⊥). cleared_elsewhere p 0 facts q m (λ y z. ne y) in
    let size = new_size o facts after old.tables.items old.area.lists old.area.keep p [] st is hit miss in
    let now = kept_is 0 o.kinds facts ∙ ap (λ x. length (joined x)) (sym st.kept) in
    let put = kept_stands o facts after old.tables.items old.area.lists old.area.keep p [] st is hit miss (omega (arith, size, now, st.within)) in
    let moved = subst (λ (x : List Table). AreTables o after x (set old.area.lists p []) old.area.keep) (sym tables) put in
    let done : Changed o facts (Clears p 0) old new (Ok true) = (refl, subst (λ (x : Lists). AreTables o after new.tables.items x.lists x.keep) (sym area) moved) in
    subst (λ (x : Alteration). Changed o facts x old new (Ok true)) (sym e) done

-- ## What is read

pub kept_cells : (o : Outline) (facts : List Fact) (w : World) (p : ℕ) → StandsFor w o facts → IsKind o p Global → get_or w.area.lists p [] ≡ cells_set (value_at facts p 0)
kept_cells o facts w p st is =
    let z : 0 + p ≡ p = omega arith in
    ap (λ l. get_or l p []) st.kept ∙ stored_at 0 o.kinds facts p Global is ∙ ap (λ x. cells_set (value_at facts x 0)) z

abbrev no_cells : Option (List Cell)
no_cells = None

pub none_kept : (v : Option Value) (cells : List Cell) → cells ≡ cells_set v → length cells ≡ 0 → no_cells ≡ option_map cells_of v
none_kept None cells e z = refl
none_kept (Some v) cells e z = absurd (some_cell v (sym (ap length e) ∙ z))

pub some_kept : (v : Option Value) (cells : List Cell) → cells ≡ cells_set v → (length cells ≡ 0 → ⊥) → Some cells ≡ option_map cells_of v
some_kept None cells e z = absurd (z (ap length e))
some_kept (Some v) cells e z = ap Some e

unset_slot : (s : Option Simple) → option_map simple_value s ≡ None → s ≡ None
unset_slot None e = refl
unset_slot (Some s) e = absurd (cc)

first_set : (o : Outline) (facts : List Fact) (w : World) (p : ℕ) (k : PlaceKind) (t : Table) (from : ℕ) (result : Option ℕ) → StandsFor w o facts → IsKind o p k → (k ≡ Global → ⊥) → slice_get w.tables.items p ≡ Some t → IsFirstSlot t.slots from result
    → length t.slots ≡ o.objects → IsFirstSet facts p from o.objects result
first_set o facts w p k t from None st is differs here first long = λ n le lt.
    sym (st.slots p n k is differs) ∙ ap (λ x. option_map simple_value (slot_in x n)) here ∙ ap (option_map simple_value) (first n le (omega (arith, lt, long)))
first_set o facts w p k t from (Some x) st is differs here first long =
    let slot = λ (n : ℕ). ap (λ y. option_map simple_value (slot_in y n)) (sym here) ∙ st.slots p n k is differs in
    let within : x < o.objects = omega (arith, first.1, long) in
    (first.0, within, λ e. first.2 (unset_slot (get_or t.slots x None) (slot x ∙ e)), λ n le lt. sym (slot n) ∙ ap (option_map simple_value) (first.3 n le lt))

long_table : (o : Outline) (facts : List Fact) (w : World) (p : ℕ) (k : PlaceKind) (t : Table) → StandsFor w o facts → IsKind o p k → slice_get w.tables.items p ≡ Some t → length t.slots ≡ width_of k o.objects
long_table o facts w p k t st is here =
    let both : Some t.kind ≡ Some k = ap (option_map (λ (x : Table). x.kind)) (sym here) ∙ kind_is o facts w p k st is in
    let same : t.kind ≡ k = cc in
    st.widths p t here ∙ ap (λ x. width_of x o.objects) same

pub next_set : (o : Outline) (facts : List Fact) (w : World) (p : ℕ) (t : Table) (from : ℕ) (result : Option ℕ) → slice_get w.tables.items p ≡ Some t → IsFirstSlot t.slots from result → StandsFor w o facts → HasObjects o p → IsFirstSet facts p from o.objects result
next_set o facts w p t from result here first st has =
    either has
    (λ is. first_set o facts w p ObjectFlag t from result st is (λ w. cc) here first (long_table o facts w p ObjectFlag t st is here))
    (λ h. either h
    (λ is. first_set o facts w p ObjectVar t from result st is (λ w. cc) here first (long_table o facts w p ObjectVar t st is here))
    (λ is. first_set o facts w p Parent t from result st is (λ w. cc) here first (long_table o facts w p Parent t st is here)))

no_table : (o : Outline) (facts : List Fact) (w : World) (p : ℕ) (k : PlaceKind) → slice_get w.tables.items p ≡ None → StandsFor w o facts → IsKind o p k → ⊥
no_table o facts w p k e st is = let both : None ≡ Some k = ap (option_map (λ (x : Table). x.kind)) (sym e) ∙ kind_is o facts w p k st is in cc

pub no_objects : (o : Outline) (facts : List Fact) (w : World) (p : ℕ) → slice_get w.tables.items p ≡ None → StandsFor w o facts → HasObjects o p → ⊥
no_objects o facts w p e st has = either has (λ is. no_table o facts w p ObjectFlag e st is) (λ h. either h (λ is. no_table o facts w p ObjectVar e st is) (λ is. no_table o facts w p Parent e st is))
