-- What the change behind a question's query comes to: it sets the last place of the object that is asked of, or fails.
use Rattle.std.proofs.Common.{◌≡◌, ℕ, List, [], ◌∷◌, ◌++◌, Option, Some, None, Bool, true, false, refl, sym, ap, ◌∙◌, subst, arith, length, map}
use Rattle.std.specs.Prelude.{nat_lt, slice_get}
use Rattle.std.proofs.lemmas.Bool.{cond_both}
use Rattle.dg_base.specs.declared.program.CoreProgram.{CoreProgram}
use Rattle.dg_base.specs.declared.program.Goal.{Goal, out-Goal}
use Rattle.dg_base.specs.declared.program.Term.{out-Term}
use Rattle.dg_base.specs.declared.program.Term.TheVariants.{Object as Object-Term}
use Rattle.dg_base.specs.declared.program.PlaceKind.{PlaceKind}
use Rattle.dg_base.specs.declared.program.PlaceKind.TheVariants.{Flag, ObjectFlag, ObjectVar, Parent, Global}
use Rattle.dg_meaning.specs.Values.{Label, Object, Value, Node, leaf, value_of}
use Rattle.dg_meaning.specs.Substitutions.{Substitution, resolved, replaced}
use Rattle.dg_meaning.specs.Facts.{Alteration, Sets, takes, kinds_of}
use Rattle.dg_meaning.specs.Changes.{object_set, change_of, changed, changing}
use Rattle.dg_meaning.specs.World.{Game, World, worked}
use Rattle.dg_meaning.specs.Path.{Step, Registers}
use Rattle.dg_meaning.specs.Moves.{change_looks, changes, change_place, effect}
use Rattle.dg_meaning.specs.Initial.{Question, terms_in, object_terms, value_terms, put}
use Rattle.dg_quiet.specs.inside.Unchanged.{cleared, last_place, EndsWithVariable}
use Rattle.dg_quiet.proofs.Still.{AreStill, ActStill, EffectStill, IsSense}
use Rattle.dg_quiet.proofs.Senses.{StayBut, facts_stay_but, one_more, one_cleared, one_kept}
use denote.Hole.Carrier.{out}

-- a change that sets a place of the object that is asked of, or fails
abbrev Puts : ℕ → Option ℕ → Option Alteration → Type 0
Puts place object None = Unit {0}
Puts place object (Some (Sets p o v)) = (p ≡ place) × (object ≡ Some o)
Puts place object (Some a) = ⊥

set_puts : (place o : ℕ) (values : List Value) → Puts place (Some o) (object_set ObjectVar place o values)
set_puts place o [] = tt
set_puts place o (v ∷ values) = cond_both (takes ObjectVar v) (Some (Sets place o v)) None (Puts place (Some o)) (λ e. (refl, refl)) (λ e. tt)

object_puts : (objects place o : ℕ) (values : List Value) → Puts place (Some o) (change_of objects ObjectVar place true (leaf (Object o) ∷ values))
object_puts objects place o values =
    cond_both (nat_lt o objects) (object_set ObjectVar place o values) None (Puts place (Some o)) (λ e. set_puts place o values) (λ e. tt)

-- without an object nothing can be set
value_puts : (objects place : ℕ) (v : Value) → Puts place None (change_of objects ObjectVar place true (v ∷ []))
value_puts objects place (Node (Object o) vs) = cond_both (nat_lt o objects) None None (Puts place None) (λ e. tt) (λ e. tt)
value_puts objects place v = tt

resolved_leaf : (S : Substitution) (f : Label) → resolved S (leaf f) ≡ leaf f
resolved_leaf [] f = refl
resolved_leaf (p ∷ S) f = ap (replaced p.0 (resolved S p.1)) (resolved_leaf S f)

object_value : (program : CoreProgram) (env : List Value) (o : ℕ) → value_of program env (Object-Term o) ≡ leaf (Object o)
unfolding out-Term out
object_value program env o = refl

question_puts : (program : CoreProgram) (env : List Value) (S : Substitution) (objects place : ℕ) (object : Option ℕ) (value : Bool) →
    Puts place object (change_of objects ObjectVar place true (map (resolved S) (map (value_of program env) (object_terms object ++ value_terms value))))
question_puts program env S objects place (Some o) value =
    let others = map (resolved S) (map (value_of program env) (value_terms value)) in
    let is : resolved S (value_of program env (Object-Term o)) ≡ leaf (Object o) = ap (resolved S) (object_value program env o) ∙ resolved_leaf S (Object o) in
    subst (λ v. Puts place (Some o) (change_of objects ObjectVar place true (v ∷ others))) (sym is) (object_puts objects place o others)
question_puts program env S objects place None true = value_puts objects place _
question_puts program env S objects place None false = tt

-- a place of another kind would do otherwise
module _ (g : Game) (q : Question) (May : Goal → Type 0) (variable : EndsWithVariable g.program) where
  abbrev pub Sense : World → World → Type 0
  Sense = StayBut (kinds_of g.program) (last_place g.program) q.object

  sense : IsSense Sense
  sense = facts_stay_but (kinds_of g.program) (last_place g.program) q.object

  one_put : (o : ℕ) (v : Value) (w : World) → q.object ≡ Some o → Sense w (changed g.program (Sets (last_place g.program) o v) w)
  one_put o v w is =
      let place = last_place g.program in
      let kept = one_kept (kinds_of g.program) place o v w.facts variable in
      record {
        facts = subst (λ object. cleared place object (one_more place o v w.facts) ≡ cleared place object w.facts) (sym is) (one_cleared place o v w.facts);
        kept = kept;
        others = λ le. record { printed = refl; gathered = refl; typed = refl; dice = refl; sites = refl; aux = refl; keep = omega (arith, le, kept) };
      }

  changes_still : (steps : List Step) → AreStill May steps → (a : Option Alteration) → Puts (last_place g.program) q.object a → (w v : World) → Sense w v → ActStill Sense May w (changes g ObjectVar a steps v)
  changes_still steps h None p w v s = s
  changes_still steps h (Some (Sets place o x)) p w v s =
      let put_there = subst (λ n. Sense v (changed g.program (Sets n o x) v)) (sym p.0) (one_put o x v p.1) in
      let u = changed g.program (Sets place o x) v in
      (sense.on w v _ s (sense.on v u _ put_there (sense.works (changing g.program ObjectVar (Sets place o x) v.facts) u)), h)
  changes_still steps h (Some _) p w v s = absurd p

  place_still : (env : List Value) (steps : List Step) (r : Registers) (w : World) → AreStill May steps → (kind : Option PlaceKind) → kind ≡ Some ObjectVar →
      ActStill Sense May w (change_place g (last_place g.program) kind (map (value_of g.program env) (terms_in q)) true steps r w)
  place_still env steps r w h (Some ObjectVar) e =
      let args = map (value_of g.program env) (terms_in q) in
      let objects = length g.program.objects in
      changes_still steps h (change_of objects ObjectVar (last_place g.program) true (map (resolved r.bound) args)) (question_puts g.program env r.bound objects (last_place g.program) q.object q.value)
      w (worked (change_looks ObjectVar r args) w) (sense.works (change_looks ObjectVar r args) w)
  place_still env steps r w h None e = absurd (cc (e))
  place_still env steps r w h (Some Flag) e = absurd (cc (e))
  place_still env steps r w h (Some ObjectFlag) e = absurd (cc (e))
  place_still env steps r w h (Some Parent) e = absurd (cc (e))
  place_still env steps r w h (Some Global) e = absurd (cc (e))

  pub put_still : (env : List Value) (t : ℕ) (steps : List Step) (r : Registers) (w : World) → AreStill May steps → EffectStill Sense May w (effect g (out-Goal (put g.program q)) env t steps r w)
  unfolding out-Goal out
  put_still env t steps r w h = place_still env steps r w h (slice_get (kinds_of g.program) (last_place g.program)) variable
