-- How large a world is: changes leave that, and one may be set to another.
use Rattle.std.proofs.Common.{◌≡◌, ℕ, zero, suc, ◌+◌, ◌<◌, List, [], ◌∷◌, ◌++◌, Option, Some, None, Bool, true, false, map, refl, sym, ap, ◌∙◌, subst, arith, length, take, drop, get_or}
use Rattle.std.specs.Prelude.{Result, Ok, Err}
use Rattle.std.specs.List.{slice_get}
use Rattle.std.specs.Option.{option_map}
use Rattle.std.proofs.Math.ListN.{set}
use Rattle.std.proofs.lemmas.List.{length-set, length-map}
use Rattle.std.proofs.lemmas.Option.{slice_get-map, slice_get_read}
use Rattle.dg_base.specs.declared.cells.Cell.{Cell}
use Rattle.dg_base.specs.declared.cells.Simple.{Simple}
use Rattle.dg_base.specs.declared.program.PlaceKind.{PlaceKind}
use Rattle.dg_world.specs.Lists.{Lists}
use Rattle.dg_world.specs.Tables.{Outline, Table, shape, width_of, put_at, emptied, stored_from, AreTables}
use Rattle.dg_meaning.specs.Facts.{Fact}
use Rattle.dg_world.specs.Worlds.{shape_of, shape_in, StandsFor, KeepsList}
use Rattle.dg_world.specs.declared.change.KeepFull.{KeepFull}
use Rattle.dg_world.specs.declared.world.World.{World}

-- ## What changes leave

put_as_large : (p n : ℕ) (s : Option Simple) (tables : List Table) → map shape (put_at p n s tables) ≡ map shape tables
put_as_large p n s [] = refl
put_as_large zero n s (t ∷ tables) = ap (λ k. (t.kind, k) ∷ map shape tables) (length-set t.slots n s)
put_as_large (suc p) n s (t ∷ tables) = ap (λ l. shape t ∷ l) (put_as_large p n s tables)

abbrev nothing : Option Simple → Option Simple
nothing s = None

emptied_as_large : (p : ℕ) (tables : List Table) → map shape (emptied p tables) ≡ map shape tables
emptied_as_large p [] = refl
emptied_as_large zero (t ∷ tables) = ap (λ k. (t.kind, k) ∷ map shape tables) (length-map t.slots nothing)
emptied_as_large (suc p) (t ∷ tables) = ap (λ l. shape t ∷ l) (emptied_as_large p tables)

as_large : (old new : World) → map shape new.tables.items ≡ map shape old.tables.items → length new.area.lists ≡ length old.area.lists → new.area.keep ≡ old.area.keep → shape_of new ≡ shape_of old
as_large old new e f h =
    ap (λ l. record { tables = l; lists = length new.area.lists; keep = new.area.keep }) e
    ∙ ap (λ n. record { tables = map shape old.tables.items; lists = n; keep = new.area.keep }) f
    ∙ ap (λ n. record { tables = map shape old.tables.items; lists = length old.area.lists; keep = n }) h

pub put_leaves : (old new : World) (p n : ℕ) (s : Option Simple) → new.tables.items ≡ put_at p n s old.tables.items → new.area ≡ old.area → shape_of new ≡ shape_of old
put_leaves old new p n s e f = as_large old new (ap (map shape) e ∙ put_as_large p n s old.tables.items) (ap (λ (a : Lists). length a.lists) f) (ap (λ (a : Lists). a.keep) f)

pub emptying_leaves : (old new : World) (p : ℕ) → new.tables.items ≡ emptied p old.tables.items → new.area ≡ old.area → shape_of new ≡ shape_of old
emptying_leaves old new p e f = as_large old new (ap (map shape) e ∙ emptied_as_large p old.tables.items) (ap (λ (a : Lists). length a.lists) f) (ap (λ (a : Lists). a.keep) f)

pub setting_leaves : (old new : World) (p : ℕ) (l : List Cell) → new.tables.items ≡ old.tables.items → new.area ≡ record old.area { lists = set old.area.lists p l } → shape_of new ≡ shape_of old
setting_leaves old new p l e f =
    as_large old new (ap (map shape) e) (ap (λ (a : Lists). length a.lists) f ∙ length-set old.area.lists p l) (ap (λ (a : Lists). a.keep) f)

pub keeping_leaves : (p : ℕ) (l : List Cell) (old new : World) (result : Result Bool KeepFull) → KeepsList p l old new result → shape_of new ≡ shape_of old
keeping_leaves p l old new (Ok true) h = setting_leaves old new p l (ap (λ (w : World). w.tables.items) h.2) (ap (λ (w : World). w.area) h.2)
keeping_leaves p l old new (Ok false) h = ap shape_of h.1
keeping_leaves p l old new (Err e) h = ap shape_of h.2

-- ## Tables that are set to others

pub one_more : {A : Type 0} (xs ys : List A) (i : ℕ) (x : A) → i < length xs → i < length ys → x ≡ get_or xs i x → set (take i xs ++ drop i ys) i x ≡ take (suc i) xs ++ drop (suc i) ys
one_more [] ys i x lt long is = absurd (omega (arith, lt))
one_more (a ∷ xs) [] i x lt long is = absurd (omega (arith, long))
one_more (a ∷ xs) (b ∷ ys) zero x lt long is = ap (λ y. y ∷ ys) is
one_more (a ∷ xs) (b ∷ ys) (suc i) x lt long is = ap (λ l. a ∷ l) (one_more xs ys i x (omega (arith, lt)) (omega (arith, long)) is)

pub behind_front : {A : Type 0} (xs ys : List A) (i : ℕ) (d : A) → i < length xs → i < length ys → get_or (take i xs ++ drop i ys) i d ≡ get_or ys i d
behind_front [] ys i d lt long = absurd (omega (arith, lt))
behind_front (a ∷ xs) [] i d lt long = absurd (omega (arith, long))
behind_front (a ∷ xs) (b ∷ ys) zero d lt long = refl
behind_front (a ∷ xs) (b ∷ ys) (suc i) d lt long = behind_front xs ys i d (omega (arith, lt)) (omega (arith, long))

some_shape : (xs : List Table) (i : ℕ) (x : Table) → i < length xs → x ≡ get_or xs i x → slice_get (map shape xs) i ≡ Some (shape x)
some_shape xs i x lt is = slice_get-map shape xs i ∙ ap (option_map shape) (slice_get_read xs (length xs) i x refl lt is)

pub same_shape : (xs ys : List Table) (i : ℕ) (x y : Table) → map shape xs ≡ map shape ys → i < length xs → i < length ys → x ≡ get_or xs i x → y ≡ get_or ys i y → shape x ≡ shape y
same_shape xs ys i x y same lt long is at = let both : Some (shape x) ≡ Some (shape y) = sym (some_shape xs i x lt is) ∙ ap (λ l. slice_get l i) same ∙ some_shape ys i y long at in cc

pub as_many : (xs ys : List Table) → map shape xs ≡ map shape ys → length xs ≡ length ys
as_many xs ys same = sym (length-map xs shape) ∙ ap length same ∙ length-map ys shape

-- ## Worlds

pub stands_too : (o : Outline) (facts : List Fact) (other new : World) → new.tables.items ≡ other.tables.items → new.area ≡ other.area → StandsFor other o facts → StandsFor new o facts
stands_too o facts other new e f st =
    subst (λ (a : Lists). AreTables o facts new.tables.items a.lists a.keep) (sym f) (subst (λ (ts : List Table). AreTables o facts ts other.area.lists other.area.keep) (sym e) st)

pub as_large_too : (other old new : World) → new.tables.items ≡ other.tables.items → new.area ≡ other.area → shape_of other ≡ shape_of old → shape_of new ≡ shape_of old
as_large_too other old new e f same = as_large other new (ap (map shape) e) (ap (λ (a : Lists). length a.lists) f) (ap (λ (a : Lists). a.keep) f) ∙ same

abbrev sized : ℕ → PlaceKind → PlaceKind × ℕ
sized objects kind = (kind, width_of kind objects)

abbrev kind_of : Table → PlaceKind
kind_of t = t.kind

widths_are : (objects : ℕ) (tables : List Table) → ((p : ℕ) → (t : Table) → slice_get tables p ≡ Some t → length t.slots ≡ width_of t.kind objects) → map shape tables ≡ map (sized objects) (map kind_of tables)
widths_are objects [] h = refl
widths_are objects (t ∷ tables) h =
    ap (λ (k : ℕ). let here : PlaceKind × ℕ = (t.kind, k) in here ∷ map shape tables) (h 0 t refl) ∙ ap (λ l. sized objects t.kind ∷ l) (widths_are objects tables (λ p x e. h (suc p) x e))

length-stored : (n : ℕ) (kinds : List PlaceKind) (facts : List Fact) → length (stored_from n kinds facts) ≡ length kinds
length-stored n [] facts = refl
length-stored n (kind ∷ kinds) facts = ap suc (length-stored (n + 1) kinds facts)

pub shape_is : (o : Outline) (facts : List Fact) (w : World) → StandsFor w o facts → shape_of w ≡ shape_in o
shape_is o facts w st =
    let tables : map shape w.tables.items ≡ map (sized o.objects) o.kinds = widths_are o.objects w.tables.items st.widths ∙ ap (map (sized o.objects)) st.kinds in
    let lists : length w.area.lists ≡ length o.kinds = ap length st.kept ∙ length-stored 0 o.kinds facts in
    ap (λ (l : List (PlaceKind × ℕ)). record { tables = l; lists = length w.area.lists; keep = w.area.keep }) tables
    ∙ ap (λ (n : ℕ). record { tables = map (sized o.objects) o.kinds; lists = n; keep = w.area.keep }) lists
    ∙ ap (λ (n : ℕ). record { tables = map (sized o.objects) o.kinds; lists = length o.kinds; keep = n }) st.limit
