-- Three terms are written, one after another.
use Rattle.std.proofs.Common.{◌+◌, List, [], ◌∷◌, ap, ◌∙◌, arith}
use Rattle.dg_base.specs.declared.program.Term.{Term}
use Rattle.dg_base.specs.declared.program.CoreProgram.{CoreProgram}
use Rattle.dg_meaning.specs.Values.{Value, value_of}
use Rattle.dg_meaning.specs.Cells.{cells}
use Rattle.dg_unify.specs.Store.{Store, State, Kept, Made, or_nil}
use Rattle.dg_unify.specs.declared.bindings.Ref.{Ref}
use Rattle.dg_unify.specs.declared.bindings.Full.{Full}
use Rattle.dg_unify.specs.declared.bindings.Full.TheVariants as full
use Rattle.dg_terms.specs.Terms.{Overflows, BothMade, ThreeMade}
use Rattle.dg_unify.proofs.StoreLemmas.{kept_on, kept_told, kept_holds}
use Rattle.dg_terms.proofs.TermLemmas.{cells_append}
use Rattle.dg_terms.proofs.BothLemmas.{made_holds}

pub three_made : (program : CoreProgram) (a b c : Term) (env : List Value) (s s1 t : Store) (ra rb rc : Ref) → Kept s1 t → BothMade program a b env s s1 ra rb → Made (cells program (c ∷ [])) s1 t rc (value_of program env c) → ThreeMade program a b c env s t (ra, rb, rc)
three_made program a b c env s s1 t ra rb rc k both made = record {
  kept = kept_on s s1 t both.kept k;
  state =
      made.charged.state ∙ ap (λ (x : State). record x { heap = x.heap + cells program (c ∷ []) }) both.state
      ∙ ap (λ n. record s.state { heap = n }) (omega (arith, cells_append program (a ∷ b ∷ []) (c ∷ [])));
  first_is = kept_told s1 t ra k both.left_in ∙ both.left_is;
  second_is = kept_told s1 t rb k both.right_in ∙ both.right_is;
  third_is = ap or_nil made.value;
  first_in = kept_holds s1 t ra k both.left_in;
  second_in = kept_holds s1 t rb k both.right_in;
  third_in = made_holds _ s1 t rc _ made;
}

pub both_full : (program : CoreProgram) (a b c : Term) (s : Store) (e : Full) → Overflows (cells program (a ∷ b ∷ [])) s e → Overflows (cells program (a ∷ b ∷ c ∷ [])) s e
both_full program a b c s full.Heap h = omega (arith, h, cells_append program (a ∷ b ∷ []) (c ∷ []))
both_full program a b c s full.Trail h = absurd h
both_full program a b c s full.OutOfMemory h = tt

pub third_full : (program : CoreProgram) (a b c : Term) (env : List Value) (s s1 : Store) (ra rb : Ref) (e : Full) → BothMade program a b env s s1 ra rb → Overflows (cells program (c ∷ [])) s1 e → Overflows (cells program (a ∷ b ∷ c ∷ [])) s e
third_full program a b c env s s1 ra rb full.Heap both h = omega (arith, h, both.kept.heap_limit, cells_append program (a ∷ b ∷ []) (c ∷ []), ap (λ (x : State). x.heap) both.state)
third_full program a b c env s s1 ra rb full.Trail both h = absurd h
third_full program a b c env s s1 ra rb full.OutOfMemory both h = tt
