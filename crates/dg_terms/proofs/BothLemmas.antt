-- Two terms are written, one after the other.
use Rattle.std.proofs.Common.{ℕ, ◌+◌, List, [], ◌∷◌, sym, ap, ◌∙◌, subst, arith}
use Rattle.dg_base.specs.declared.program.Term.{Term}
use Rattle.dg_base.specs.declared.program.CoreProgram.{CoreProgram}
use Rattle.dg_meaning.specs.Values.{Value, value_of}
use Rattle.dg_meaning.specs.Cells.{cells}
use Rattle.dg_unify.specs.Store.{Store, State, Holds, Kept, Made, or_nil, IsTold}
use Rattle.dg_unify.specs.declared.bindings.Ref.{Ref}
use Rattle.dg_unify.specs.declared.bindings.Full.{Full}
use Rattle.dg_unify.specs.declared.bindings.Full.TheVariants as full
use Rattle.dg_terms.specs.Terms.{Overflows, BothMade}
use Rattle.dg_unify.proofs.StoreLemmas.{kept_on, kept_told, kept_holds}
use Rattle.dg_terms.proofs.TermLemmas.{cells_append}

pub made_holds : (n : ℕ) (s t : Store) (r : Ref) (v : Value) → Made n s t r v → Holds t r
made_holds n s t r v h = subst IsTold (sym h.value) tt

pub both_made : (program : CoreProgram) (a b : Term) (env : List Value) (s s1 t : Store) (ra rb : Ref) → Kept s s1 → Kept s1 t → Made (cells program (a ∷ [])) s s1 ra (value_of program env a) → Made (cells program (b ∷ [])) s1 t rb (value_of program env b) → BothMade program a b env s t ra rb
both_made program a b env s s1 t ra rb k k' ma mb = record {
  kept = kept_on s s1 t k k';
  state =
      mb.charged.state ∙ ap (λ (x : State). record x { heap = x.heap + cells program (b ∷ []) }) ma.charged.state
      ∙ ap (λ n. record s.state { heap = n }) (omega (arith, cells_append program (a ∷ []) (b ∷ [])));
  left_is = kept_told s1 t ra k' (made_holds _ s s1 ra _ ma) ∙ ap or_nil ma.value;
  right_is = ap or_nil mb.value;
  left_in = kept_holds s1 t ra k' (made_holds _ s s1 ra _ ma);
  right_in = made_holds _ s1 t rb _ mb;
}

-- the second term takes more than is left
pub second_full : (program : CoreProgram) (a b : Term) (s s1 : Store) (ra : Ref) (v : Value) (e : Full) → Kept s s1 → Made (cells program (a ∷ [])) s s1 ra v → Overflows (cells program (b ∷ [])) s1 e → Overflows (cells program (a ∷ b ∷ [])) s e
second_full program a b s s1 ra v full.Heap k made h = omega (arith, h, k.heap_limit, cells_append program (a ∷ []) (b ∷ []), ap (λ (x : State). x.heap) made.charged.state)
second_full program a b s s1 ra v full.Trail k made h = absurd h
second_full program a b s s1 ra v full.OutOfMemory k made h = tt

pub first_full : (program : CoreProgram) (a b : Term) (s : Store) (e : Full) → Overflows (cells program (a ∷ [])) s e → Overflows (cells program (a ∷ b ∷ [])) s e
first_full program a b s full.Heap h = omega (arith, h, cells_append program (a ∷ []) (b ∷ []))
first_full program a b s full.Trail h = absurd h
first_full program a b s full.OutOfMemory h = tt
