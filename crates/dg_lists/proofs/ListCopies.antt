-- The copy of a list is the list of copies.
use Rattle.std.proofs.Common.{◌≡◌, ℕ, suc, ◌+◌, ◌*◌, List, [], ◌∷◌, ◌++◌, Some, refl, sym, ap, ◌∙◌, arith, length}
use Rattle.std.specs.List.{All, flat_map}
use Rattle.std.proofs.lemmas.List.Concat.{flat_map-cons}
use Rattle.dg_meaning.specs.Values.{Value, node_parts, pair}
use Rattle.dg_meaning.specs.ValueCells.{cells_of, cells_of_all}
use Rattle.dg_meaning.specs.Copies.{list_of, values_of, vars_in, vars_in_all, copy_from, copies_from, copy_cells, all_copy_cells}
use Rattle.dg_unify.specs.Store.{Store}
use Rattle.dg_unify.specs.declared.bindings.Ref.{Ref}
use Rattle.dg_lists.specs.Formed.{IsFormed, AreFormed}
use Rattle.dg_lists.specs.Reading.{Copied, ListCopied}

-- ## Values as parts

pub parts_back : (vs : List Value) → values_of (node_parts vs) ≡ vs
parts_back [] = refl
parts_back (v ∷ vs) = ap (λ l. v ∷ l) (parts_back vs)

pub row_parts : (vs : List Value) → flat_map cells_of vs ≡ cells_of_all (node_parts vs)
row_parts [] = refl
row_parts (v ∷ vs) = flat_map-cons cells_of v vs ∙ ap (λ l. cells_of v ++ l) (row_parts vs)

pub parts_formed : (vs : List Value) → All IsFormed vs → AreFormed (node_parts vs)
parts_formed [] h = tt
parts_formed (v ∷ vs) h = (h 0 v (omega arith), parts_formed vs (λ k d lt. h (suc k) d (omega arith)))

pub list_vars : (vs : List Value) → vars_in (list_of vs) ≡ vars_in_all (node_parts vs)
list_vars [] = refl
list_vars (v ∷ vs) = omega (arith, list_vars vs)

pub list_cells : (vs : List Value) → copy_cells (list_of vs) ≡ all_copy_cells (node_parts vs) + 3 * length vs
list_cells [] = omega arith
list_cells (v ∷ vs) = omega (arith, list_cells vs)

-- ## The copy of a list

pub list_copy : (n : ℕ) (vs : List Value) → copy_from n (list_of vs) ≡ list_of (values_of (copies_from n (node_parts vs)))
list_copy n [] = refl
list_copy n (v ∷ vs) =
    let first : n + (vars_in (list_of vs) + 0) ≡ n + vars_in_all (node_parts vs) = omega (arith, list_vars vs) in
    let rest : n + 0 ≡ n = omega arith in
    ap (λ k. pair (copy_from k v) (copy_from (n + 0) (list_of vs))) first
    ∙ ap (λ k. pair (copy_from (n + vars_in_all (node_parts vs)) v) (copy_from k (list_of vs))) rest
    ∙ ap (pair (copy_from (n + vars_in_all (node_parts vs)) v)) (list_copy n vs)

pub list_weight : (vs : List Value) → all_copy_cells (node_parts vs) + 3 * length (values_of (node_parts vs)) ≡ copy_cells (list_of vs)
list_weight vs = omega (arith, list_cells vs, ap length (parts_back vs))

pub list_copied : (vs : List Value) (old new : Store) (r : Ref) → ListCopied old new (node_parts vs) r → Copied old new (list_of vs) r
list_copied vs old new r x =
    let vars = list_vars vs in
    let cells = list_weight vs in
    let fits = x.grew.fits in
    record {
      grew = record {
        fits = omega (arith, fits, cells);
        state = x.grew.state ∙ ap (λ n. record old.state { vars = old.state.vars + n; heap = old.state.heap + (all_copy_cells (node_parts vs) + 3 * length (values_of (node_parts vs))) }) (sym vars) ∙ ap (λ n. record old.state { vars = old.state.vars + vars_in (list_of vs); heap = old.state.heap + n }) cells;
      };
      value = x.value ∙ ap Some (sym (list_copy old.state.vars vs));
    }
