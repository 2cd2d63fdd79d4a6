-- What is made of the parts of a list is made of it, and a row has no more cells than its list takes.
use Rattle.std.proofs.Common.{◌+◌, ◌*◌, ◌≤◌, List, [], ◌∷◌, suc, ap, subst, arith, length, length-append}
use Rattle.std.specs.Prelude.{Ok, Err, MatchResult}
use Rattle.std.specs.Prelude.{Result as Answer}
use Rattle.std.specs.List.{All, flat_map}
use Rattle.std.proofs.lemmas.List.Concat.{flat_map-cons}
use Rattle.dg_meaning.specs.Values.{Value, node_parts}
use Rattle.dg_meaning.specs.ValueCells.{cells_of}
use Rattle.dg_meaning.specs.Copies.{list_of, values_of, copy_cells, all_copy_cells}
use Rattle.dg_unify.specs.declared.bindings.Ref.{Ref}
use Rattle.dg_unify.specs.declared.bindings.Full.{Full}
use Rattle.dg_arena.specs.declared.arena.Arena.{Arena}
use Rattle.dg_arena.specs.Held.{meaning_of}
use Rattle.dg_lists.specs.Formed.{IsFormed}
use Rattle.dg_lists.specs.Reading.{Stopped, Copied, ListCopied}
use Rattle.dg_lists.proofs.ListCopies.{list_weight, list_copied}
use Rattle.dg_machine.specs.inside.Writing.{Overflows}
use Rattle.dg_machine.proofs.CellLemmas.{few_cells, stopped_over}

-- what is made of the parts is made of the list
pub copies_list : (vs : List Value) (a b : Arena) (r : Answer Ref Full) → MatchResult r (λ x. ListCopied (meaning_of a) (meaning_of b) (node_parts vs) x) (λ e. Stopped (all_copy_cells (node_parts vs) + 3 * length (values_of (node_parts vs))) (meaning_of a) (meaning_of b) e) →
    MatchResult r (λ made. Copied (meaning_of a) (meaning_of b) (list_of vs) made) (λ _. Overflows (copy_cells (list_of vs)) (meaning_of a))
copies_list vs a b (Ok x) h = list_copied vs (meaning_of a) (meaning_of b) x h
copies_list vs a b (Err e) h = subst (λ n. Overflows n (meaning_of a)) (list_weight vs) (stopped_over (all_copy_cells (node_parts vs) + 3 * length (values_of (node_parts vs))) a b e h)

-- the cells of a row are no more than the list takes
pub row_few : (vs : List Value) → All IsFormed vs → length (flat_map cells_of vs) ≤ copy_cells (list_of vs)
row_few [] h = omega arith
row_few (v ∷ vs) h =
    let first = few_cells v (h 0 v (omega arith)) in
    let others = row_few vs (λ k d lt. h (suc k) d (omega arith)) in
    omega (arith, ap length (flat_map-cons cells_of v vs), length-append (cells_of v) (flat_map cells_of vs), first, others)
