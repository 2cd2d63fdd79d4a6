-- What is gathered, in rows and in a world.
use Rattle.std.proofs.Common.{◌≡◌, ℕ, suc, ◌+◌, ◌<◌, ◌≤◌, List, [], ◌∷◌, ◌++◌, refl, sym, ap, ◌∙◌, subst, arith, length, map, append_assoc}
use Rattle.std.specs.Prelude.{eqb}
use Rattle.std.specs.List.{All, flat_map, sum_by}
use Rattle.std.proofs.lemmas.Bool.{cond-true, eq-eqb}
use Rattle.std.proofs.lemmas.List.Concat.{flat_map-cons, length-flat_map}
use Rattle.std.proofs.lemmas.List.{append-nil}
use Rattle.std.proofs.lemmas.List.Sums.{sum_by-cons}
use Rattle.std.proofs.lemmas.List.Elements.{All-cons, All-push}
use Rattle.dg_base.specs.declared.cells.Cell.{Cell}
use Rattle.dg_meaning.specs.Values.{Value}
use Rattle.dg_meaning.specs.ValueCells.{cells_of}
use Rattle.dg_meaning.specs.World.{Gathering, gathered_with, gathered_size}
use Rattle.dg_meaning.specs.inside.Context.{tags_of, IsNewest}
use Rattle.dg_lists.specs.Formed.{IsFormed}
use Rattle.dg_lists.specs.Gathered.{Gathered, added, gathered_size as size_of_rows}
use Rattle.dg_lasting.specs.declared.lasting.Lasting.{Lasting}
use Rattle.dg_lasting.specs.Lasting.{row_of, HaveGathered, OpensOne, OpensTooMuch, Gathers, GathersTooMuch}

row_more : (values : List Value) (v : Value) → flat_map cells_of (values ++ v ∷ []) ≡ flat_map cells_of values ++ cells_of v
row_more [] v = flat_map-cons cells_of v [] ∙ append-nil (cells_of v)
row_more (u ∷ values) v =
    flat_map-cons cells_of u (values ++ v ∷ []) ∙ ap (λ l. cells_of u ++ l) (row_more values v)
    ∙ sym (append_assoc (cells_of u) (flat_map cells_of values) (cells_of v)) ∙ ap (λ l. l ++ cells_of v) (sym (flat_map-cons cells_of u values))

-- a value is kept in the newest
newest_more : (t : ℕ) (v : Value) (x : Gathering) (others : List Gathering) → t ≡ x.tag → gathered_with t v (x ∷ others) ≡ record x { values = x.values ++ v ∷ [] } ∷ others
newest_more t v x others e = cond-true (eqb x.tag t) (record x { values = x.values ++ v ∷ [] } ∷ others) (x ∷ gathered_with t v others) (eq-eqb x.tag t (sym e))

rows_more : (t : ℕ) (v : Value) (rows : List (List Cell)) (gs : List Gathering) → IsNewest t (tags_of gs) → IsFormed v → HaveGathered rows gs → HaveGathered (added (cells_of v) rows) (gathered_with t v gs)
rows_more t v rows [] new formed is = absurd new
rows_more t v rows (x ∷ gs) new formed is = (
  ap (added (cells_of v)) is.0 ∙ ap (λ l. l ∷ map row_of gs) (sym (row_more x.values v)) ∙ sym (ap (map row_of) (newest_more t v x gs new)),
  subst (All (λ (g : Gathering). All IsFormed g.values)) (sym (newest_more t v x gs new))
      (All-cons (λ (g : Gathering). All IsFormed g.values) (record x { values = x.values ++ v ∷ [] }) gs (All-push IsFormed x.values v (is.1 0 x (omega arith)) formed) (λ k d lt. is.1 (suc k) d (omega arith))),
)

-- what they count
sizes_same : (gs : List Gathering) → size_of_rows (map row_of gs) ≡ gathered_size gs
sizes_same [] = refl
sizes_same (x ∷ gs) =
    omega (arith, sum_by-cons (λ (row : List Cell). 2 + length row) (row_of x) (map row_of gs), sum_by-cons (λ (g : Gathering). 2 + sum_by (λ v. length (cells_of v)) g.values) x gs, length-flat_map cells_of x.values, sizes_same gs)

some_open : (t : ℕ) (rows : List (List Cell)) (gs : List Gathering) → IsNewest t (tags_of gs) → rows ≡ map row_of gs → 0 < length rows
some_open t rows [] new is = absurd new
some_open t rows (x ∷ gs) new is = omega (arith, ap length is)

more_rows : (t : ℕ) (v : Value) (rows : List (List Cell)) (gs : List Gathering) → IsNewest t (tags_of gs) → rows ≡ map row_of gs → added (cells_of v) rows ≡ map row_of (gathered_with t v gs)
more_rows t v rows [] new is = absurd new
more_rows t v rows (x ∷ gs) new is = ap (added (cells_of v)) is ∙ ap (λ l. l ∷ map row_of gs) (sym (row_more x.values v)) ∙ sym (ap (map row_of) (newest_more t v x gs new))

-- ## A gathering is opened

pub opens_one : (old : Lasting) (gathered : Gathered) → gathered ≡ record old.gathered { rows = [] ∷ old.gathered.rows } → size_of_rows ([] ∷ old.gathered.rows) ≤ old.gathered.aux → OpensOne old (record old { gathered = gathered })
opens_one old gathered is fits = record {
  is = ap (λ (x : Gathered). record old { gathered = x }) is;
  stands = λ g w tag now. (
    now.0,
    subst (λ (x : Gathered). HaveGathered x.rows (record { tag = tag; values = [] } ∷ w.gathered)) (sym is)
        (ap (λ l. [] ∷ l) now.1.0, All-cons (λ (x : Gathering). All IsFormed x.values) (record { tag = tag; values = [] }) w.gathered (λ i d lt. absurd (omega arith)) now.1.1),
    now.2,
    now.3,
  );
  fits = λ g w tag now.
      let new : Gathering = record { tag = tag; values = [] } in
      let rows : [] ∷ old.gathered.rows ≡ map row_of (new ∷ w.gathered) = ap (λ l. [] ∷ l) now.1.0 in
      omega (arith, fits, ap size_of_rows rows, sizes_same (new ∷ w.gathered));
}

pub opens_too_much : (out : Lasting) → out.gathered.aux < size_of_rows ([] ∷ out.gathered.rows) → OpensTooMuch out
opens_too_much out h = record {
  is = h;
  stands = λ g w tag now.
      let new : Gathering = record { tag = tag; values = [] } in
      let rows : [] ∷ out.gathered.rows ≡ map row_of (new ∷ w.gathered) = ap (λ l. [] ∷ l) now.1.0 in
      omega (arith, h, ap size_of_rows rows, sizes_same (new ∷ w.gathered));
}

-- ## A value is gathered

pub gathers : (v : Value) (old : Lasting) (gathered : Gathered) → gathered ≡ record old.gathered { rows = added (cells_of v) old.gathered.rows } → (0 < length old.gathered.rows → IsFormed v) → size_of_rows (added (cells_of v) old.gathered.rows) ≤ old.gathered.aux → Gathers v old (record old { gathered = gathered })
gathers v old gathered is formed fits = record {
  is = ap (λ (x : Gathered). record old { gathered = x }) is;
  stands = λ g w tag now newest. (
    now.0,
    subst (λ (x : Gathered). HaveGathered x.rows (gathered_with tag v w.gathered)) (sym is) (rows_more tag v old.gathered.rows w.gathered newest (formed (some_open tag old.gathered.rows w.gathered newest now.1.0)) now.1),
    now.2,
    now.3,
  );
  fits = λ g w tag now newest. omega (arith, fits, ap size_of_rows (more_rows tag v old.gathered.rows w.gathered newest now.1.0), sizes_same (gathered_with tag v w.gathered));
}

pub gathers_too_much : (v : Value) (out : Lasting) → out.gathered.aux < size_of_rows (added (cells_of v) out.gathered.rows) → GathersTooMuch v out
gathers_too_much v out h = record {
  is = h;
  stands = λ g w tag now newest. omega (arith, h, ap size_of_rows (more_rows tag v out.gathered.rows w.gathered newest now.1.0), sizes_same (gathered_with tag v w.gathered));
}
