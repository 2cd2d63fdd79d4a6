-- What stands for an object, looked up and resolved.
use Rattle.std.proofs.Common.{◌≡◌, false, refl, sym, ap, ◌∙◌}
use Rattle.dg_meaning.specs.Values.{Label, Num, Word, Unknown, Object, Nil, Pair, Closure, Value, Var, Node, Values, NoMore}
use Rattle.dg_meaning.specs.Substitutions.{Substitution, resolved}
use Rattle.dg_meaning.specs.inside.Substitutions.{all_resolved, IsSubstitution}
use Rattle.dg_meaning.proofs.Walks.{resolved_node, resolved_unbound, walked}
use Rattle.dg_unify.specs.Store.{Store, told}
use Rattle.dg_unify.specs.declared.bindings.Ref.{Ref}
use Rattle.dg_unify.proofs.StoreLemmas.{walked_to}
use Rattle.dg_lasting.specs.declared.subject.Subject.{Subject}
use Rattle.dg_lasting.specs.declared.subject.Subject.TheVariants.{Open, Thing, Other}
use Rattle.dg_lasting.specs.Subjects.{may_name, IsSubject}
use Rattle.dg_lasting.specs.Changing.{in_store}

same_name : (f : Label) (vs us : Values) → may_name (Node f vs) ≡ may_name (Node f us)
same_name (Num n) vs us = refl
same_name (Word n) vs us = refl
same_name (Unknown s) vs us = refl
same_name (Object n) vs us = refl
same_name Nil vs us = refl
same_name Pair vs us = refl
same_name (Closure p) vs us = refl

no_name : (S : Substitution) (w : Value) → may_name w ≡ false → may_name (resolved S w) ≡ false
no_name S (Var n) h = absurd (cc)
no_name S (Node f vs) h = ap may_name (resolved_node S f vs) ∙ same_name f (all_resolved S vs) vs ∙ h

-- it stands for the same where it is resolved
pub subject_resolved : (s : Store) → IsSubstitution s.state.subst → (r : Ref) (t : Subject) → IsSubject (walked_to s r) t → IsSubject (in_store s r) t
subject_resolved s sound r Open h =
    let S = s.state.subst in
    let w = walked S sound (told s r) in
    (h.0, sym w.same ∙ ap (resolved S) h.1 ∙ resolved_unbound S h.0 (w.free h.0 h.1))
subject_resolved s sound r (Thing o) h =
    let S = s.state.subst in
    sym (walked S sound (told s r)).same ∙ ap (resolved S) h ∙ resolved_node S (Object o) NoMore
subject_resolved s sound r Other h =
    let S = s.state.subst in
    ap may_name (sym (walked S sound (told s r)).same) ∙ no_name S (walked_to s r) h
