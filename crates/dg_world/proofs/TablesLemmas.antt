-- What tables stand for behind a change.
use Rattle.std.proofs.Common.{◌≡◌, ℕ, zero, suc, ◌+◌, ◌-◌, ◌<◌, ◌≤◌, List, [], ◌∷◌, Option, Some, None, map, refl, sym, ap, ◌∙◌, subst, arith, ◌⊎◌, length, get_or, length-append, ⊎_elim}
use Rattle.std.proofs.Math.ListN.{set}
use Rattle.std.specs.List.{slice_get}
use Rattle.std.specs.Option.{option_map}
use Rattle.std.proofs.lemmas.Bool.{cases_eq}
use Rattle.std.proofs.lemmas.List.{length-set, length-map, get_or-set_same, get_or-set_other}
use Rattle.std.proofs.lemmas.Option.{slice_get-map, slice_get_within}
use Rattle.dg_base.specs.declared.cells.Cell.{Cell}
use Rattle.dg_base.specs.declared.cells.Simple.{Simple}
use Rattle.dg_base.specs.declared.program.PlaceKind.{PlaceKind}
use Rattle.dg_base.specs.declared.program.PlaceKind.TheVariants.{Flag, ObjectFlag, ObjectVar, Parent, Global}
use Rattle.dg_meaning.specs.Values.{Value}
use Rattle.dg_meaning.specs.Facts.{Fact, value_at, size_of, kept_at, kept_from, kept_size}
use Rattle.dg_world.specs.Lists.{joined}
use Rattle.dg_world.specs.Tables.{Outline, IsKind, Table, simple_value, width_of, slot_in, put_at, emptied, cells_set, stored, stored_from, AreTables}
use Rattle.dg_world.proofs.ListsLemmas.{item_within}

pub either : {A B C : Type 0} → A ⊎ B → (A → C) → (B → C) → C
either s f g = ⊎_elim f g s

-- ## A slot is set

pub put_some : (tables : List Table) (p n : ℕ) (s : Option Simple) (t : Table) → slice_get tables p ≡ Some t → put_at p n s tables ≡ set tables p (record t { slots = set t.slots n s })
put_some [] p n s t e = cc
put_some (x ∷ tables) zero n s t e = let h : x ≡ t = cc in ap (λ (y : Table). record y { slots = set y.slots n s } ∷ tables) h
put_some (x ∷ tables) (suc p) n s t e = ap (λ l. x ∷ l) (put_some tables p n s t e)

pub put_none : (tables : List Table) (p n : ℕ) (s : Option Simple) → slice_get tables p ≡ None → put_at p n s tables ≡ tables
put_none [] p n s e = refl
put_none (x ∷ tables) zero n s e = cc
put_none (x ∷ tables) (suc p) n s e = ap (λ l. x ∷ l) (put_none tables p n s e)

put_kinds : (tables : List Table) (p n : ℕ) (s : Option Simple) → map (λ (t : Table). t.kind) (put_at p n s tables) ≡ map (λ (t : Table). t.kind) tables
put_kinds [] p n s = refl
put_kinds (x ∷ tables) zero n s = refl
put_kinds (x ∷ tables) (suc p) n s = ap (λ l. x.kind ∷ l) (put_kinds tables p n s)

-- a table that has the kind and the slots of the one that stood there
abbrev pub SameShape : List Table → ℕ → Table → Type 0
SameShape tables q t' = (t : Table) × (slice_get tables q ≡ Some t) × (t'.kind ≡ t.kind) × (length t'.slots ≡ length t.slots)

put_shapes : (tables : List Table) (p n : ℕ) (s : Option Simple) (q : ℕ) (t' : Table) → slice_get (put_at p n s tables) q ≡ Some t' → SameShape tables q t'
put_shapes [] p n s q t' e = cc
put_shapes (x ∷ tables) zero n s zero t' e =
    let h : record x { slots = set x.slots n s } ≡ t' = cc in
    (x, refl, ap (λ (y : Table). y.kind) (sym h), ap (λ (y : Table). length y.slots) (sym h) ∙ length-set x.slots n s)
put_shapes (x ∷ tables) zero n s (suc q) t' e = (t', e, refl, refl)
put_shapes (x ∷ tables) (suc p) n s zero t' e = (t', e, refl, refl)
put_shapes (x ∷ tables) (suc p) n s (suc q) t' e = put_shapes tables p n s q t' e

put_here : (tables : List Table) (p n : ℕ) (s : Option Simple) (t : Table) → slice_get tables p ≡ Some t → n < length t.slots → slot_in (slice_get (put_at p n s tables) p) n ≡ s
put_here [] p n s t e lt = cc
put_here (x ∷ tables) zero n s t e lt =
    let h : x ≡ t = cc in
    get_or-set_same x.slots n s None (subst (λ (y : Table). n < length y.slots) (sym h) lt)
put_here (x ∷ tables) (suc p) n s t e lt = put_here tables p n s t e lt

put_there : (tables : List Table) (p n : ℕ) (s : Option Simple) (q m : ℕ) → (q ≡ p → m ≡ n → ⊥) → slot_in (slice_get (put_at p n s tables) q) m ≡ slot_in (slice_get tables q) m
put_there [] p n s q m h = refl
put_there (x ∷ tables) zero n s zero m h = get_or-set_other x.slots n m s None (h refl)
put_there (x ∷ tables) zero n s (suc q) m h = refl
put_there (x ∷ tables) (suc p) n s zero m h = refl
put_there (x ∷ tables) (suc p) n s (suc q) m h = put_there tables p n s q m (λ e. h (ap suc e))

-- ## All slots are emptied

pub emptied_some : (tables : List Table) (p : ℕ) (t : Table) → slice_get tables p ≡ Some t → emptied p tables ≡ set tables p (record t { slots = map (λ (s : Option Simple). None) t.slots })
emptied_some [] p t e = cc
emptied_some (x ∷ tables) zero t e = let h : x ≡ t = cc in ap (λ (y : Table). record y { slots = map (λ (s : Option Simple). None) y.slots } ∷ tables) h
emptied_some (x ∷ tables) (suc p) t e = ap (λ l. x ∷ l) (emptied_some tables p t e)

pub emptied_none : (tables : List Table) (p : ℕ) → slice_get tables p ≡ None → emptied p tables ≡ tables
emptied_none [] p e = refl
emptied_none (x ∷ tables) zero e = cc
emptied_none (x ∷ tables) (suc p) e = ap (λ l. x ∷ l) (emptied_none tables p e)

emptied_kinds : (tables : List Table) (p : ℕ) → map (λ (t : Table). t.kind) (emptied p tables) ≡ map (λ (t : Table). t.kind) tables
emptied_kinds [] p = refl
emptied_kinds (x ∷ tables) zero = refl
emptied_kinds (x ∷ tables) (suc p) = ap (λ l. x.kind ∷ l) (emptied_kinds tables p)

emptied_shapes : (tables : List Table) (p q : ℕ) (t' : Table) → slice_get (emptied p tables) q ≡ Some t' → SameShape tables q t'
emptied_shapes [] p q t' e = cc
emptied_shapes (x ∷ tables) zero zero t' e =
    let h : record x { slots = map (λ (s : Option Simple). None) x.slots } ≡ t' = cc in
    (x, refl, ap (λ (y : Table). y.kind) (sym h), ap (λ (y : Table). length y.slots) (sym h) ∙ length-map x.slots (λ (s : Option Simple). None))
emptied_shapes (x ∷ tables) zero (suc q) t' e = (t', e, refl, refl)
emptied_shapes (x ∷ tables) (suc p) zero t' e = (t', e, refl, refl)
emptied_shapes (x ∷ tables) (suc p) (suc q) t' e = emptied_shapes tables p q t' e

abbrev unset : Option Simple
unset = None

nones : (slots : List (Option Simple)) (m : ℕ) → get_or (map (λ (s : Option Simple). unset) slots) m unset ≡ unset
nones [] m = refl
nones (s ∷ slots) zero = refl
nones (s ∷ slots) (suc m) = nones slots m

emptied_here : (tables : List Table) (p m : ℕ) → slot_in (slice_get (emptied p tables) p) m ≡ None
emptied_here [] p m = refl
emptied_here (x ∷ tables) zero m = nones x.slots m
emptied_here (x ∷ tables) (suc p) m = emptied_here tables p m

emptied_there : (tables : List Table) (p q m : ℕ) → (q ≡ p → ⊥) → slot_in (slice_get (emptied p tables) q) m ≡ slot_in (slice_get tables q) m
emptied_there [] p q m h = refl
emptied_there (x ∷ tables) zero zero m h = absurd (h refl)
emptied_there (x ∷ tables) zero (suc q) m h = refl
emptied_there (x ∷ tables) (suc p) zero m h = refl
emptied_there (x ∷ tables) (suc p) (suc q) m h = emptied_there tables p q m (λ e. h (ap suc e))

-- ## Kinds

from_map : (x : Option Table) (k : PlaceKind) → option_map (λ (t : Table). t.kind) x ≡ Some k → (t : Table) × (x ≡ Some t) × (t.kind ≡ k)
from_map None k e = cc
from_map (Some t) k e = (t, refl, cc)

-- the table of a place
pub table_at : (o : Outline) (facts : List Fact) (tables : List Table) (lists : List (List Cell)) (keep p : ℕ) (k : PlaceKind) → AreTables o facts tables lists keep → IsKind o p k → (t : Table) × (slice_get tables p ≡ Some t) × (t.kind ≡ k)
table_at o facts tables lists keep p k s e = from_map (slice_get tables p) k (sym (slice_get-map (λ (t : Table). t.kind) tables p) ∙ ap (λ l. slice_get l p) s.kinds ∙ e)

-- ## What is kept

stored_cases : (facts facts' : List Fact) (q : ℕ) (kind : PlaceKind) → (kind ≡ Global → value_at facts' q 0 ≡ value_at facts q 0) → stored facts' q kind ≡ stored facts q kind
stored_cases facts facts' q Flag h = refl
stored_cases facts facts' q ObjectFlag h = refl
stored_cases facts facts' q ObjectVar h = refl
stored_cases facts facts' q Parent h = refl
stored_cases facts facts' q Global h = ap cells_set (h refl)

pub stored_at : (n : ℕ) (kinds : List PlaceKind) (facts : List Fact) (i : ℕ) (kind : PlaceKind) → slice_get kinds i ≡ Some kind → get_or (stored_from n kinds facts) i [] ≡ stored facts (n + i) kind
stored_at n [] facts i kind e = cc
stored_at n (k ∷ ks) facts zero kind e =
    let h : k ≡ kind = cc in
    let z : n ≡ n + 0 = omega arith in
    ap (stored facts n) h ∙ ap (λ x. stored facts x kind) z
stored_at n (k ∷ ks) facts (suc i) kind e =
    let z : n + 1 + i ≡ n + suc i = omega arith in
    stored_at (n + 1) ks facts i kind e ∙ ap (λ x. stored facts x kind) z

length_stored : (n : ℕ) (kinds : List PlaceKind) (facts : List Fact) → length (stored_from n kinds facts) ≡ length kinds
length_stored n [] facts = refl
length_stored n (k ∷ ks) facts = ap suc (length_stored (n + 1) ks facts)

-- the kept lists of two lists of facts are the same at a place
abbrev pub StoredSame : ℕ → List Fact → List Fact → PlaceKind → Type 0
StoredSame q facts facts' kind = stored facts' q kind ≡ stored facts q kind

stored_same : (n : ℕ) (kinds : List PlaceKind) (facts facts' : List Fact) → ((i : ℕ) → (kind : PlaceKind) → slice_get kinds i ≡ Some kind → StoredSame (n + i) facts facts' kind) → stored_from n kinds facts' ≡ stored_from n kinds facts
stored_same n [] facts facts' h = refl
stored_same n (k ∷ ks) facts facts' h =
    let z : n + 0 ≡ n = omega arith in
    let first : stored facts' n k ≡ stored facts n k = subst (λ (x : ℕ). StoredSame x facts facts' k) z (h 0 k refl) in
    let rest = stored_same (n + 1) ks facts facts' (λ i kind e. let y : n + suc i ≡ n + 1 + i = omega arith in subst (λ (x : ℕ). StoredSame x facts facts' kind) y (h (suc i) kind e)) in
    ap (λ l. l ∷ stored_from (n + 1) ks facts') first ∙ ap (λ r. stored facts n k ∷ r) rest

stored_set : (n : ℕ) (kinds : List PlaceKind) (facts facts' : List Fact) (p : ℕ) (l : List Cell) (kind : PlaceKind) → slice_get kinds p ≡ Some kind → stored facts' (n + p) kind ≡ l
    → ((i : ℕ) → (other : PlaceKind) → (i ≡ p → ⊥) → slice_get kinds i ≡ Some other → StoredSame (n + i) facts facts' other) → set (stored_from n kinds facts) p l ≡ stored_from n kinds facts'
stored_set n [] facts facts' p l kind e is h = cc
stored_set n (k ∷ ks) facts facts' zero l kind e is h =
    let same : k ≡ kind = cc in
    let z : n ≡ n + 0 = omega arith in
    let first : stored facts' n k ≡ l = ap (stored facts' n) same ∙ ap (λ x. stored facts' x kind) z ∙ is in
    let rest = stored_same (n + 1) ks facts facts' (λ i other f. let y : n + suc i ≡ n + 1 + i = omega arith in subst (λ (x : ℕ). StoredSame x facts facts' other) y (h (suc i) other (λ w. absurd (omega arith)) f)) in
    ap (λ x. x ∷ stored_from (n + 1) ks facts) (sym first) ∙ ap (λ r. stored facts' n k ∷ r) (sym rest)
stored_set n (k ∷ ks) facts facts' (suc p) l kind e is h =
    let z : n + 0 ≡ n = omega arith in
    let y : n + 1 + p ≡ n + suc p = omega arith in
    let first : stored facts' n k ≡ stored facts n k = subst (λ (x : ℕ). StoredSame x facts facts' k) z (h 0 k (λ w. absurd (omega arith)) refl) in
    let rest = stored_set (n + 1) ks facts facts' p l kind e (ap (λ x. stored facts' x kind) y ∙ is) (λ i other ne f. let w : n + suc i ≡ n + 1 + i = omega arith in subst (λ (x : ℕ). StoredSame x facts facts' other) w (h (suc i) other (λ v. ne (omega arith)) f)) in
    ap (λ r. stored facts n k ∷ r) rest ∙ ap (λ x. x ∷ stored_from (n + 1) ks facts') (sym first)

size_is : (o : Option Value) → size_of o ≡ length (cells_set o)
size_is None = refl
size_is (Some v) = refl

kept_at_is : (facts : List Fact) (n : ℕ) (k : PlaceKind) → kept_at facts n k ≡ length (stored facts n k)
kept_at_is facts n Flag = refl
kept_at_is facts n ObjectFlag = refl
kept_at_is facts n ObjectVar = refl
kept_at_is facts n Parent = refl
kept_at_is facts n Global = size_is (value_at facts n 0)

pub kept_is : (n : ℕ) (kinds : List PlaceKind) (facts : List Fact) → kept_from n kinds facts ≡ length (joined (stored_from n kinds facts))
kept_is n [] facts = refl
kept_is n (k ∷ ks) facts = omega (arith, kept_at_is facts n k, kept_is (n + 1) ks facts, length-append (stored facts n k) (joined (stored_from (n + 1) ks facts)))

set_total : (ls : List (List Cell)) (i : ℕ) (l : List Cell) → i < length ls → length (joined (set ls i l)) ≡ length (joined ls) - length (get_or ls i []) + length l
set_total [] i l lt = absurd (omega arith)
set_total (x ∷ ls) zero l lt = omega (arith, length-append l (joined ls), length-append x (joined ls))
set_total (x ∷ ls) (suc i) l lt = omega (arith, set_total ls i l (omega arith), item_within ls i, length-append x (joined ls), length-append x (joined (set ls i l)))

-- ## Behind a change

-- what other tables of the same shape stand for
tables_stand : (o : Outline) (facts facts' : List Fact) (tables tables' : List Table) (lists : List (List Cell)) (keep : ℕ) → AreTables o facts tables lists keep
    → map (λ (t : Table). t.kind) tables' ≡ map (λ (t : Table). t.kind) tables → ((q : ℕ) → (t' : Table) → slice_get tables' q ≡ Some t' → SameShape tables q t')
    → ((q n : ℕ) → (kind : PlaceKind) → IsKind o q kind → (kind ≡ Global → ⊥) → option_map simple_value (slot_in (slice_get tables' q) n) ≡ value_at facts' q n)
    → stored_from 0 o.kinds facts' ≡ stored_from 0 o.kinds facts → AreTables o facts' tables' lists keep
tables_stand o facts facts' tables tables' lists keep s kinds shapes slots same = record {
  kinds = kinds ∙ s.kinds;
  widths = λ q t' h. let w = shapes q t' h in w.3 ∙ s.widths q w.0 w.1 ∙ ap (λ k. width_of k o.objects) (sym w.2);
  slots = slots;
  kept = s.kept ∙ sym same;
  limit = s.limit;
  within = omega (arith, kept_is 0 o.kinds facts', kept_is 0 o.kinds facts, ap (λ l. length (joined l)) same, s.within);
}

untouched : (o : Outline) (facts facts' : List Fact) (p : ℕ) (k : PlaceKind) → IsKind o p k → (k ≡ Global → ⊥) → ((q : ℕ) → (q ≡ p → ⊥) → value_at facts' q 0 ≡ value_at facts q 0) → stored_from 0 o.kinds facts' ≡ stored_from 0 o.kinds facts
untouched o facts facts' p k is differs miss = stored_same 0 o.kinds facts facts' (λ i kind e. stored_cases facts facts' (0 + i) kind (λ g. miss (0 + i) (λ w.
    let same : i ≡ p = omega arith in
    let both : Some k ≡ Some kind = sym is ∙ ap (slice_get o.kinds) (sym same) ∙ e in
    let kinds : k ≡ kind = cc in
    differs (kinds ∙ g))))

pub put_stands : (o : Outline) (facts facts' : List Fact) (tables : List Table) (lists : List (List Cell)) (keep p n : ℕ) (s : Option Simple) (k : PlaceKind) → AreTables o facts tables lists keep → IsKind o p k → (k ≡ Global → ⊥) → n < width_of k o.objects
    → value_at facts' p n ≡ option_map simple_value s → ((q m : ℕ) → (q ≡ p → m ≡ n → ⊥) → value_at facts' q m ≡ value_at facts q m) → AreTables o facts' (put_at p n s tables) lists keep
put_stands o facts facts' tables lists keep p n s k st is differs lt hit miss =
    let t = table_at o facts tables lists keep p k st is in
    let wide : length t.0.slots ≡ width_of k o.objects = st.widths p t.0 t.1 ∙ ap (λ x. width_of x o.objects) t.2 in
    let here = put_here tables p n s t.0 t.1 (omega arith) in
    let after = λ (q m : ℕ). option_map simple_value (slot_in (slice_get (put_at p n s tables) q) m) in
    let elsewhere = λ (q m : ℕ) (kind : PlaceKind) (e : IsKind o q kind) (small : kind ≡ Global → ⊥) (ne : q ≡ p → m ≡ n → ⊥). ap (option_map simple_value) (put_there tables p n s q m ne) ∙ st.slots q m kind e small ∙ sym (miss q m ne) in
    tables_stand o facts facts' tables (put_at p n s tables) lists keep st (put_kinds tables p n s) (put_shapes tables p n s)
    (λ q m kind e small. either (cases_eq q p)
    (λ a. either (cases_eq m n)
    (λ b. ap (λ x. after x m) a ∙ ap (after p) b ∙ ap (option_map simple_value) here ∙ sym hit ∙ ap (value_at facts' p) (sym b) ∙ ap (λ x. value_at facts' x m) (sym a))
    (λ b. elsewhere q m kind e small (λ y z. b z)))
    (λ a. elsewhere q m kind e small (λ y z. a y)))
    (untouched o facts facts' p k is differs (λ q ne. miss q 0 (λ y z. ne y)))

pub emptied_stands : (o : Outline) (facts facts' : List Fact) (tables : List Table) (lists : List (List Cell)) (keep p : ℕ) (k : PlaceKind) → AreTables o facts tables lists keep → IsKind o p k → (k ≡ Global → ⊥)
    → ((m : ℕ) → value_at facts' p m ≡ None) → ((q m : ℕ) → (q ≡ p → ⊥) → value_at facts' q m ≡ value_at facts q m) → AreTables o facts' (emptied p tables) lists keep
emptied_stands o facts facts' tables lists keep p k st is differs hit miss =
    let after = λ (q m : ℕ). option_map simple_value (slot_in (slice_get (emptied p tables) q) m) in
    tables_stand o facts facts' tables (emptied p tables) lists keep st (emptied_kinds tables p) (emptied_shapes tables p)
    (λ q m kind e small. either (cases_eq q p)
    (λ a. ap (λ x. after x m) a ∙ ap (option_map simple_value) (emptied_here tables p m) ∙ sym (hit m) ∙ ap (λ x. value_at facts' x m) (sym a))
    (λ a. ap (option_map simple_value) (emptied_there tables p q m a) ∙ st.slots q m kind e small ∙ sym (miss q m a)))
    (untouched o facts facts' p k is differs (λ q ne. miss q 0 ne))

-- the kept lists behind a change of a global variable
kept_behind : (o : Outline) (facts facts' : List Fact) (tables : List Table) (lists : List (List Cell)) (keep p : ℕ) (l : List Cell) → AreTables o facts tables lists keep → IsKind o p Global → cells_set (value_at facts' p 0) ≡ l
    → ((q m : ℕ) → (q ≡ p → ⊥) → value_at facts' q m ≡ value_at facts q m) → set lists p l ≡ stored_from 0 o.kinds facts'
kept_behind o facts facts' tables lists keep p l st is hit miss =
    let z : 0 + p ≡ p = omega arith in
    ap (λ x. set x p l) st.kept
    ∙ stored_set 0 o.kinds facts facts' p l Global is (ap (λ x. cells_set (value_at facts' x 0)) z ∙ hit) (λ i other ne e. stored_cases facts facts' (0 + i) other (λ g. miss (0 + i) 0 (λ w. ne (omega arith))))

pub new_size : (o : Outline) (facts facts' : List Fact) (tables : List Table) (lists : List (List Cell)) (keep p : ℕ) (l : List Cell) → AreTables o facts tables lists keep → IsKind o p Global → cells_set (value_at facts' p 0) ≡ l
    → ((q m : ℕ) → (q ≡ p → ⊥) → value_at facts' q m ≡ value_at facts q m) → kept_size o.kinds facts' ≡ length (joined lists) - length (get_or lists p []) + length l
new_size o facts facts' tables lists keep p l st is hit miss =
    let long : p < length lists = omega (arith, ap length st.kept, length_stored 0 o.kinds facts, slice_get_within o.kinds p Global is) in
    kept_is 0 o.kinds facts' ∙ ap (λ x. length (joined x)) (sym (kept_behind o facts facts' tables lists keep p l st is hit miss)) ∙ set_total lists p l long

pub kept_stands : (o : Outline) (facts facts' : List Fact) (tables : List Table) (lists : List (List Cell)) (keep p : ℕ) (l : List Cell) → AreTables o facts tables lists keep → IsKind o p Global → cells_set (value_at facts' p 0) ≡ l
    → ((q m : ℕ) → (q ≡ p → ⊥) → value_at facts' q m ≡ value_at facts q m) → kept_size o.kinds facts' ≤ o.keep → AreTables o facts' tables (set lists p l) keep
kept_stands o facts facts' tables lists keep p l st is hit miss within = record {
  kinds = st.kinds;
  widths = st.widths;
  slots = λ q m kind e differs. st.slots q m kind e differs ∙ sym (miss q m (λ w.
      let both : Some kind ≡ Some Global = sym e ∙ ap (slice_get o.kinds) w ∙ is in
      let same : kind ≡ Global = cc in
      differs same));
  kept = kept_behind o facts facts' tables lists keep p l st is hit miss;
  limit = st.limit;
  within = within;
}
