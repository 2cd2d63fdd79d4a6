-- How cells are put to a row, and what is left of a value meanwhile.
use Rattle.std.proofs.Common.{◌≡◌, ℕ, zero, suc, ◌+◌, ◌<◌, ◌≤◌, List, [], ◌∷◌, ◌++◌, refl, sym, ap, ◌∙◌, subst, arith, length, take, map, Option, Some, None, length-append, append_assoc, append-nil}
use Rattle.std.specs.Prelude.{slice_get, not, ◌&&◌, ◌||◌, Bool, true, false}
use Rattle.std.proofs.lemmas.List.{length-take-le, length-map, take_more, take_all, map-append}
use Rattle.std.proofs.lemmas.Option.{slice_get_within, get_or_from_slice_get, slice_get_cases}
use Rattle.std.proofs.Common.{inl, inr}
use Rattle.dg_base.specs.declared.cells.Cell.{Cell}
use Rattle.dg_base.specs.declared.cells.Cell.TheVariants as cell
use Rattle.dg_base.specs.declared.cells.Simple.{Simple}
use Rattle.dg_base.specs.declared.cells.Simple.TheVariants as simple
use Rattle.dg_meaning.specs.Values.{Label, Unknown, Pair, Closure, Value, Var, Node, Values, NoMore, More}
use Rattle.dg_meaning.specs.Substitutions.{Substitution, resolved}
use Rattle.dg_meaning.specs.inside.Substitutions.{all_resolved, IsSubstitution}
use Rattle.dg_meaning.specs.Unify.{size, sizes}
use Rattle.dg_meaning.specs.ValueCells.{count_of, label_cells, cells_of, cells_of_all}
use Rattle.dg_meaning.specs.TypeTests.{is_fully_bound, are_fully_bound}
use Rattle.dg_unify.specs.Finds.{finds, any_finds}
use Rattle.dg_meaning.proofs.Walks.{resolved_node, resolved_unbound, walked, size_some}
use Rattle.dg_unify.specs.Store.{Store, told, Holds, Shows, label_of, IsTold, part_at, count_of as parts_of_store}
use Rattle.dg_unify.specs.Parts.{parts_in, values_of, AreIn, IsSplit, ShowsInner}
use Rattle.dg_unify.specs.Waits.{size_at, put_behind}
use Rattle.dg_unify.specs.declared.bindings.Ref.{Ref}
use Rattle.dg_unify.specs.declared.bindings.View.{View}
use Rattle.dg_unify.specs.declared.bindings.View.TheVariants as view
use Rattle.dg_unify.specs.declared.parts.Parts.{Parts}
use Rattle.dg_unify.specs.declared.parts.Parts.TheVariants as form
use Rattle.dg_unify.specs.declared.parts.Front.{Front}
use Rattle.dg_unify.specs.declared.parts.Wait.{Wait}
use Rattle.dg_unify.proofs.StoreLemmas.{walked_to}
use Rattle.dg_unify.proofs.Rooms.{Placed, newest_in, AreInside, room_for_all, room_left}
use Rattle.dg_unify.proofs.FindLemmas.{PartsWait, sizes_in, with_either}
use Rattle.dg_lists.specs.Formed.{Fits, IsFormed, AreFormed}
use Rattle.dg_lists.specs.Writing.{Puts, top_cells, value_at, values_at, TopIsPut, PutsTop, Writes}

-- ## Putting

filled_is : (cells old new : List Cell) (filled n : ℕ) → filled ≤ length old → n ≤ length new → take n new ≡ take filled old ++ cells → n ≡ filled + length cells
filled_is cells old new filled n le fits is =
    omega (arith, ap length is, length-take-le n new fits, length-append (take filled old) cells, length-take-le filled old le)

pub puts_then : (xs ys old mid new : List Cell) (filled n : ℕ) (r : Option ℕ) → filled ≤ length old → Puts xs old filled mid (Some n) → Puts ys mid n new r → Puts (xs ++ ys) old filled new r
puts_then xs ys old mid new filled n None le h k = omega (arith, k, filled_is xs old mid filled n le h.0 h.1, length-append xs ys)
puts_then xs ys old mid new filled n (Some m) le h k = (k.0, k.1 ∙ ap (λ l. l ++ ys) h.1 ∙ append_assoc (take filled old) xs ys)

pub puts_less : (xs ys old new : List Cell) (filled : ℕ) → Puts xs old filled new None → Puts (xs ++ ys) old filled new None
puts_less xs ys old new filled h = omega (arith, h, length-append xs ys)

-- ## Letters

pub record LettersPut (spelling : List ℕ) (old : List Cell) (filled : ℕ) (new : List Cell) (n end : ℕ) : Type 0 where
  pub within : n ≤ length spelling
  pub fits : end ≤ length new
  pub count : end ≡ filled + n
  pub cells : take end new ≡ take filled old ++ map cell.Char (take n spelling)

pub letters_begin : (spelling : List ℕ) (row : List Cell) (filled : ℕ) → filled ≤ length row → LettersPut spelling row filled row 0 filled
letters_begin spelling row filled le = record { within = omega arith; fits = le; count = omega arith; cells = sym (append-nil (take filled row)) }

pub letters_more : (spelling : List ℕ) (old : List Cell) (filled : ℕ) (row new : List Cell) (n end m x : ℕ) → LettersPut spelling old filled row n end → slice_get spelling n ≡ Some x → Puts (cell.Char x ∷ []) row end new (Some m) → LettersPut spelling old filled new (n + 1) m
letters_more spelling old filled row new n end m x h is k =
    let inside : n < length spelling = slice_get_within spelling n x is in
    let last : take (n + 1) spelling ≡ take n spelling ++ x ∷ [] = take_more spelling n 0 inside ∙ ap (λ y. take n spelling ++ y ∷ []) (get_or_from_slice_get spelling n x 0 is) in
    record {
      within = omega (arith, inside);
      fits = k.0;
      count = omega (arith, h.count, filled_is (cell.Char x ∷ []) row new end m h.fits k.0 k.1);
      cells = k.1 ∙ ap (λ l. l ++ cell.Char x ∷ []) h.cells ∙ append_assoc (take filled old) (map cell.Char (take n spelling)) (cell.Char x ∷ [])
          ∙ ap (λ l. take filled old ++ l) (sym (map-append cell.Char (take n spelling) (x ∷ []))) ∙ ap (λ l. take filled old ++ map cell.Char l) (sym last);
    }

pub letters_full : (spelling : List ℕ) (old : List Cell) (filled : ℕ) (row new : List Cell) (n end x : ℕ) → LettersPut spelling old filled row n end → slice_get spelling n ≡ Some x → Puts (cell.Char x ∷ []) row end new None → Puts (map cell.Char spelling) old filled new None
letters_full spelling old filled row new n end x h is k =
    omega (arith, k, h.count, slice_get_within spelling n x is, length-map spelling cell.Char)

pub letters_count : (spelling : List ℕ) (n : ℕ) → n ≤ length spelling → slice_get spelling n ≡ None → n ≡ length spelling
letters_count spelling n within none = elim (slice_get_cases spelling n).1 as (λ z. n ≡ length spelling) [ inl p ↦ absurd (cc (none, p.2)) | inr p ↦ omega (arith, within, p.0) ]

pub letters_end : (spelling : List ℕ) (old : List Cell) (filled : ℕ) (row : List Cell) (n end : ℕ) → LettersPut spelling old filled row n end → slice_get spelling n ≡ None → Puts (map cell.Char spelling) old filled row (Some end)
letters_end spelling old filled row n end h none =
    (h.fits, h.cells ∙ ap (λ l. take filled old ++ map cell.Char l) (take_all n spelling (omega (arith, letters_count spelling n h.within none))))

-- ## Captured values

pub count_at : (n : ℕ) (vs : Values) → n ≤ parts_of_store vs → part_at n vs ≡ None → n ≡ parts_of_store vs
count_at zero NoMore le h = refl
count_at zero (More v vs) le h = absurd (cc h)
count_at (suc n) NoMore le h = absurd (omega (arith, le))
count_at (suc n) (More v vs) le h = ap suc (count_at n vs (omega (arith, le)) h)

pub count_more : (n : ℕ) (vs : Values) → IsTold (part_at n vs) → n < parts_of_store vs
count_more n NoMore h = absurd h
count_more zero (More v vs) h = omega arith
count_more (suc n) (More v vs) h = omega (arith, count_more n vs h)

pub counts_same : (vs : Values) → count_of vs ≡ parts_of_store vs
counts_same NoMore = refl
counts_same (More v vs) = omega (arith, counts_same vs)

-- ## The top of a value

-- what the top of a value w, whose parts resolved are vs, is of the whole value v
pub record IsTop (w v : Value) (vs : Values) : Type 0 where
  pub cells : top_cells w ++ cells_of_all vs ≡ cells_of v
  pub size : size v ≡ sizes vs + 1
  pub formed : AreFormed vs → IsFormed v

counts_resolved : (S : Substitution) (vs : Values) → count_of (all_resolved S vs) ≡ count_of vs
counts_resolved S NoMore = refl
counts_resolved S (More v vs) = ap (λ n. 1 + n) (counts_resolved S vs)

node_top : (S : Substitution) (f : Label) (us : Values) → (AreFormed (all_resolved S us) → Fits f (all_resolved S us)) → IsTop (Node f us) (resolved S (Node f us)) (all_resolved S us)
node_top S f us fits =
    let vs = all_resolved S us in
    subst (λ v. IsTop (Node f us) v vs) (sym (resolved_node S f us)) (record {
      cells = ap (λ n. label_cells f n ++ cells_of_all vs) (sym (counts_resolved S us));
      size = refl;
      formed = λ h. (fits h, h);
    })

var_top : (S : Substitution) (x : ℕ) → resolved S (Var x) ≡ Var x → IsTop (Var x) (resolved S (Var x)) NoMore
var_top S x is = subst (λ v. IsTop (Var x) v NoMore) (sym is) (record { cells = refl; size = refl; formed = λ h. tt })

simple_fits : (x : Simple) → Fits (label_of x) NoMore
simple_fits (simple.Num n) = refl
simple_fits (simple.Word n) = refl
simple_fits (simple.Object n) = refl
simple_fits simple.Nil = refl

top_of : (s : Store) (w : Value) (v : View) → Shows s w v → ((y : ℕ) → w ≡ Var y → resolved s.state.subst (Var y) ≡ Var y) → IsTop w (resolved s.state.subst w) (all_resolved s.state.subst (parts_in w))
top_of s w (view.Unbound r) shows free =
    subst (λ u. IsTop u (resolved s.state.subst u) (all_resolved s.state.subst (parts_in u))) (sym shows.is) (var_top s.state.subst shows.number (free shows.number shows.is))
top_of s w (view.Simple x) shows free =
    subst (λ u. IsTop u (resolved s.state.subst u) (all_resolved s.state.subst (parts_in u))) (sym shows) (node_top s.state.subst (label_of x) NoMore (λ h. simple_fits x))
top_of s w (view.Pair h t) shows free =
    subst (λ u. IsTop u (resolved s.state.subst u) (all_resolved s.state.subst (parts_in u))) (sym shows.is) (node_top s.state.subst Pair (More shows.head (More shows.tail NoMore)) (λ k. refl))
top_of s w (view.Closure p c) shows free =
    subst (λ u. IsTop u (resolved s.state.subst u) (all_resolved s.state.subst (parts_in u))) (sym shows.is) (node_top s.state.subst (Closure p) shows.parts (λ k. tt))
top_of s w (view.Unknown r) shows free =
    subst (λ u. IsTop u (resolved s.state.subst u) (all_resolved s.state.subst (parts_in u))) (sym shows.is) (node_top s.state.subst (Unknown shows.spelling) NoMore (λ k. (refl, shows.at.short)))

top_at : (s : Store) → IsSubstitution s.state.subst → (r : Ref) (v : View) → Shows s (walked_to s r) v → IsTop (walked_to s r) (value_at s r) (all_resolved s.state.subst (parts_in (walked_to s r)))
top_at s sound r v shows =
    let S = s.state.subst in
    let w = walked S sound (told s r) in
    subst (λ u. IsTop (walked_to s r) u (all_resolved S (parts_in (walked_to s r)))) w.same (top_of s (walked_to s r) v shows (λ y is. resolved_unbound S y (w.free y is)))

pub top_fails : (s : Store) → IsSubstitution s.state.subst → (r : Ref) (v : View) (old new : List Cell) (filled : ℕ) → Shows s (walked_to s r) v → Puts (top_cells (walked_to s r)) old filled new None → PutsTop s r old filled new None
top_fails s sound r v old new filled shows h =
    let t = top_at s sound r v shows in
    omega (arith, h, ap length t.cells, length-append (top_cells (walked_to s r)) (cells_of_all (all_resolved s.state.subst (parts_in (walked_to s r)))))

pub top_put : (s : Store) → IsSubstitution s.state.subst → (r : Ref) (v : View) (old new : List Cell) (filled n : ℕ) (rest : Parts) → Shows s (walked_to s r) v → Puts (top_cells (walked_to s r)) old filled new (Some n) → ShowsInner s (parts_in (walked_to s r)) rest → TopIsPut s r old filled new n rest
top_put s sound r v old new filled n rest shows h left =
    let S = s.state.subst in
    let t = subst (λ vs. IsTop (walked_to s r) (value_at s r) (all_resolved S vs)) (sym left.values) (top_at s sound r v shows) in
    record {
      within = h.0;
      cells = ap (λ l. l ++ cells_of_all (values_at s rest)) h.1 ∙ append_assoc (take filled old) (top_cells (walked_to s r)) (cells_of_all (values_at s rest)) ∙ ap (λ l. take filled old ++ l) t.cells;
      inner_in = left.are_in;
      size = t.size;
      formed = t.formed;
    }

-- ## What is left

-- the cells of what waits
abbrev pub cells_behind : Store → List Wait → List Cell
cells_behind s [] = []
cells_behind s (w ∷ ws) = cells_of_all (values_at s w.p) ++ cells_behind s ws

abbrev pub FormedBehind : Store → List Wait → Type 0
FormedBehind s [] = Unit {0}
FormedBehind s (w ∷ ws) = AreFormed (values_at s w.p) × FormedBehind s ws

-- the cells before were put, and these parts and what waits are left
pub record Writing (s : Store) (root : Ref) (row : List Cell) (filled : ℕ) (p : Parts) (now : List Wait) : Type 0 where
  pub p_in : AreIn s p
  pub waits_in : PartsWait s now
  pub inside : AreInside s (λ w. w.a) (λ w. sizes_in s w.p) root now
  pub within : sizes_in s p < size_at s (newest_in (λ w. w.a) root now)
  pub fits : filled ≤ length row
  pub cells : take filled row ++ (cells_of_all (values_at s p) ++ cells_behind s now) ≡ cells_of (value_at s root)
  pub formed : AreFormed (values_at s p) → FormedBehind s now → IsFormed (value_at s root)

pub writing_starts : (s : Store) (root : Ref) (old row : List Cell) (filled : ℕ) (p : Parts) → TopIsPut s root old 0 row filled p → Writing s root row filled p []
writing_starts s root old row filled p t = record {
  p_in = t.inner_in;
  waits_in = tt;
  inside = tt;
  within = omega (arith, t.size);
  fits = t.within;
  cells = ap (λ l. take filled row ++ l) (append-nil (cells_of_all (values_at s p))) ∙ t.cells;
  formed = λ h k. t.formed h;
}

pub writing_ends : (s : Store) (root : Ref) (row : List Cell) (filled : ℕ) (p : Parts) (now : List Wait) → Writing s root row filled p now → values_of s p ≡ NoMore → now ≡ [] → Writes (value_at s root) row (Some filled) × IsFormed (value_at s root)
writing_ends s root row filled p now h none last =
    let S = s.state.subst in
    let e : cells_of_all (values_at s p) ++ cells_behind s now ≡ [] = ap (λ vs. cells_of_all (all_resolved S vs) ++ cells_behind s now) none ∙ ap (cells_behind s) last in (
      (h.fits, sym (append-nil (take filled row)) ∙ ap (λ l. take filled row ++ l) (sym e) ∙ h.cells),
      h.formed (subst (λ vs. AreFormed (all_resolved S vs)) (sym none) tt) (subst (FormedBehind s) (sym last) tt),
    )

pub writing_up : (s : Store) (root : Ref) (row : List Cell) (filled : ℕ) (p : Parts) (now : List Wait) → Writing s root row filled p now → values_of s p ≡ NoMore → (w : Wait) (ws : List Wait) → now ≡ w ∷ ws → Writing s root row filled w.p ws
writing_up s root row filled p now h none w ws is =
    let S = s.state.subst in
    let inside = subst (AreInside s (λ v. v.a) (λ v. sizes_in s v.p) root) is h.inside in
    let waits_in = subst (PartsWait s) is h.waits_in in
    record {
      p_in = waits_in.0;
      waits_in = waits_in.1;
      inside = inside.3;
      within = inside.2;
      fits = h.fits;
      cells = ap (λ l. take filled row ++ l) (sym (ap (λ vs. cells_of_all (all_resolved S vs) ++ cells_behind s now) none ∙ ap (cells_behind s) is)) ∙ h.cells;
      formed = λ k m. h.formed (subst (λ vs. AreFormed (all_resolved S vs)) (sym none) tt) (subst (FormedBehind s) (sym is) (k, m));
    }

module _ (s : Store) (root : Ref) (row : List Cell) (filled : ℕ) (p : Parts) (now : List Wait) (h : Writing s root row filled p now) (front : Front) (is : IsSplit s p front) where
  first_size : sizes_in s p ≡ size_at s front.first + sizes_in s front.rest
  first_size = ap (λ vs. sizes (all_resolved s.state.subst vs)) is.values

  first_cells : take filled row ++ ((cells_of (value_at s front.first) ++ cells_of_all (values_at s front.rest)) ++ cells_behind s now) ≡ cells_of (value_at s root)
  first_cells = ap (λ vs. take filled row ++ (cells_of_all (all_resolved s.state.subst vs) ++ cells_behind s now)) (sym is.values) ∙ h.cells

  first_formed : IsFormed (value_at s front.first) → AreFormed (values_at s front.rest) → FormedBehind s now → IsFormed (value_at s root)
  first_formed a b k = h.formed (subst (λ vs. AreFormed (all_resolved s.state.subst vs)) (sym is.values) (a, b)) k

  pub writing_fails : (new : List Cell) → length new ≡ length row → PutsTop s front.first row filled new None → Writes (value_at s root) new None
  writing_fails new same k =
      let a = cells_of (value_at s front.first) in
      let b = cells_of_all (values_at s front.rest) in
      let d = cells_behind s now in
      omega (arith, k, ap length first_cells, length-append (take filled row) ((a ++ b) ++ d), length-append (a ++ b) d, length-append a b, length-take-le filled row h.fits)

  pub writing_room : Placed s → Holds s root → length now < s.places
  writing_room placed hold =
      omega (arith, room_left s placed (λ w. w.a) (λ w. sizes_in s w.p) root 0 now (size_at s front.first) hold (room_for_all s root) h.inside (size_some (value_at s front.first)) (omega (arith, h.within, first_size)))

  module _ (new : List Cell) (more : ℕ) (rest : Parts) (t : TopIsPut s front.first row filled new more rest) where
    abbrev waits : Wait
    waits = record { a = front.first; b = front.first; p = front.rest; q = front.rest }

    put_cells : take more new ++ (cells_of_all (values_at s rest) ++ (cells_of_all (values_at s front.rest) ++ cells_behind s now)) ≡ cells_of (value_at s root)
    put_cells =
        let a = cells_of (value_at s front.first) in
        let b = cells_of_all (values_at s front.rest) in
        let d = cells_behind s now in
        sym (append_assoc (take more new) (cells_of_all (values_at s rest)) (b ++ d))
        ∙ ap (λ l. l ++ (b ++ d)) t.cells
        ∙ append_assoc (take filled row) a (b ++ d)
        ∙ ap (λ l. take filled row ++ l) (sym (append_assoc a b d))
        ∙ first_cells

    here_nothing : front.rest ≡ form.Nothing → Writing s root new more rest now
    here_nothing e =
        let none : cells_of_all (values_at s front.rest) ≡ [] = ap (λ q. cells_of_all (values_at s q)) e in
        record {
          p_in = t.inner_in;
          waits_in = h.waits_in;
          inside = h.inside;
          within = omega (arith, h.within, first_size, t.size);
          fits = t.within;
          cells = ap (λ l. take more new ++ (cells_of_all (values_at s rest) ++ (l ++ cells_behind s now))) (sym none) ∙ put_cells;
          formed = λ k m. first_formed (t.formed k) (subst (λ q. AreFormed (values_at s q)) (sym e) tt) m;
        }

    here_more : Writing s root new more rest (waits ∷ now)
    here_more = record {
      p_in = t.inner_in;
      waits_in = (is.rest_in, h.waits_in);
      inside = (is.first_in, omega (arith, h.within, first_size), omega (arith, h.within, first_size), h.inside);
      within = omega (arith, t.size);
      fits = t.within;
      cells = put_cells;
      formed = λ k m. first_formed (t.formed k) m.0 m.1;
    }

    pub writing_into : (ws : List Wait) → ws ≡ put_behind waits now → Writing s root new more rest ws
    writing_into ws e = subst (Writing s root new more rest) (sym e) (with_either (Writing s root new more rest) front.rest waits now here_nothing here_more)

-- ## Variables

first_full : (p q a b : Bool) → not p ≡ a → not q ≡ b → not (p || q) ≡ (a && b)
first_full true q a b h k = rw (← h) refl
first_full false q a b h k = rw (← h) k

mutual
  pub full_value : (v : Value) → not (finds None v) ≡ is_fully_bound v
  full_value (Var y) = refl
  full_value (Node f vs) = full_values vs

  full_values : (vs : Values) → not (any_finds None vs) ≡ are_fully_bound vs
  full_values NoMore = refl
  full_values (More v vs) = let a = full_value v in let b = full_values vs in first_full (finds None v) (any_finds None vs) (is_fully_bound v) (are_fully_bound vs) a b
