-- What a word stands for is a value that can be copied in again, also resolved.
use Rattle.std.proofs.Common.{◌≡◌, ℕ, ◌≤◌, inl, inr, [], ◌∷◌, Some, None, refl, sym, ◌∙◌, subst, ap, ◌+◌}
use Rattle.std.specs.Prelude.{eqb}
use Rattle.std.proofs.lemmas.Bool.{cond_both, cond-true, cond-false, eq-eqb, ne_eqb, cases_eq, cases_lt}
use Rattle.dg_meaning.specs.Values.{Label, Num, Word, Unknown, Object, Nil, Pair, Closure, Value, Var, Node, Values, NoMore, More}
use Rattle.dg_meaning.specs.ValueCells.{count_of}
use Rattle.dg_meaning.specs.Substitutions.{Substitution, replaced, all_replaced, resolved}
use Rattle.dg_meaning.specs.inside.Substitutions.{IsSubstitution}
use Rattle.dg_meaning.specs.inside.Unifiers.{binding_of}
use Rattle.dg_meaning.proofs.LookUps.{unbound_none}
use Rattle.dg_rt.specs.Shapes.{Shape, Shows, number, dict, object, nil, variable, boxed, Filled, pair_in, closure_in, word_in, AllShow, no_more, one_more, Stands}
use Rattle.dg_rt.specs.Laying.{FormedAs, Formed, AllFormed}

mutual
  pub shows_formed : {sh : Shape} {x : ℕ} {v : Value} → Shows sh x v → Formed sh.captures v
  shows_formed (number n lt) = (lt, tt)
  shows_formed (dict n lt) = (lt, tt)
  shows_formed (object n lt) = (lt, tt)
  shows_formed nil = (tt, tt)
  shows_formed (variable n lt) = tt
  shows_formed (boxed k header lt box at inside) = filled_formed inside

  filled_formed : {sh : Shape} {k header : ℕ} {v : Value} → Filled sh k header v → Formed sh.captures v
  filled_formed (pair_in k x y one two s q) = (tt, (shows_formed s, (shows_formed q, tt)))
  filled_formed (closure_in k place small told few one all) = ((small, told, few), all_formed all)
  filled_formed (word_in k fine all) = (fine, tt)

  all_formed : {sh : Shape} {k : ℕ} {vs : Values} → AllShow sh k vs → AllFormed sh.captures vs
  all_formed (no_more k) = tt
  all_formed (one_more k x at s a) = (shows_formed s, all_formed a)

-- ---- resolved

same_count : (x : ℕ) (u : Value) (vs : Values) → count_of (all_replaced x u vs) ≡ count_of vs
same_count x u NoMore = refl
same_count x u (More v vs) = ap (λ (n : ℕ). 1 + n) (same_count x u vs)

formed_as : (captures : ℕ → ℕ) (x : ℕ) (u : Value) (f : Label) (vs : Values) → FormedAs captures f vs → FormedAs captures f (all_replaced x u vs)
formed_as captures x u (Num n) NoMore fine = fine
formed_as captures x u (Word n) NoMore fine = fine
formed_as captures x u (Object n) NoMore fine = fine
formed_as captures x u Nil NoMore fine = fine
formed_as captures x u (Unknown xs) NoMore fine = fine
formed_as captures x u Pair (More h (More t NoMore)) fine = tt
formed_as captures x u (Closure place) vs fine = (fine.0, same_count x u vs ∙ fine.1, fine.2)
formed_as captures x u f vs fine = absurd fine

mutual
  replaced_formed : (captures : ℕ → ℕ) (x : ℕ) (u : Value) → Formed captures u → (t : Value) → Formed captures t → Formed captures (replaced x u t)
  replaced_formed captures x u fine (Var y) fine' = cond_both (eqb y x) u (Var y) (Formed captures) (λ e. fine) (λ e. tt)
  replaced_formed captures x u fine (Node f vs) fine' = (formed_as captures x u f vs fine'.0, all_replaced_formed captures x u fine vs fine'.1)

  all_replaced_formed : (captures : ℕ → ℕ) (x : ℕ) (u : Value) → Formed captures u → (vs : Values) → AllFormed captures vs → AllFormed captures (all_replaced x u vs)
  all_replaced_formed captures x u fine NoMore fine' = tt
  all_replaced_formed captures x u fine (More v vs) fine' = (replaced_formed captures x u fine v fine'.0, all_replaced_formed captures x u fine vs fine'.1)

-- each variable's binding is formed
abbrev BindingsFormed : (ℕ → ℕ) → Substitution → Type 0
BindingsFormed captures S = (n : ℕ) (v : Value) → binding_of n S ≡ Some v → Formed captures v

resolved_formed : (captures : ℕ → ℕ) (S : Substitution) → IsSubstitution S → BindingsFormed captures S → (v : Value) → Formed captures v → Formed captures (resolved S v)
resolved_formed captures [] s bound v fine = fine
resolved_formed captures (b ∷ S) s bound v fine =
    let older : BindingsFormed captures S = λ n w e. elim (cases_eq n b.0) [
      | inl same ↦ absurd (let k : None ≡ Some w = sym (unbound_none b.0 S s.0.unbound) ∙ subst (λ (i : ℕ). binding_of i S ≡ Some w) same e in cc)
      | inr ne ↦ bound n w (cond-false (eqb n b.0) (Some b.1) (binding_of n S) (ne_eqb n b.0 ne) ∙ e)
    ] in
    replaced_formed captures b.0 (resolved S b.1) (resolved_formed captures S s.1 older b.1 (bound b.0 b.1 (cond-true (eqb b.0 b.0) (Some b.1) (binding_of b.0 S) (eq-eqb b.0 b.0 refl)))) (resolved S v) (resolved_formed captures S s.1 older v fine)

-- What a word stands for, resolved.
pub resolved_shows_formed : {sh : Shape} {x : ℕ} {v : Value} (cells : ℕ → ℕ) (S : Substitution) → Stands sh cells S → ((n : ℕ) → sh.vars ≤ n → binding_of n S ≡ None) → Shows sh x v → Formed sh.captures (resolved S v)
resolved_shows_formed {sh} {x} {v} cells S st known s = resolved_formed sh.captures S st.sound bound v (shows_formed s)
  where
    bound : BindingsFormed sh.captures S
    bound n w e = elim (cases_lt n sh.vars) [
      | inl old ↦ shows_formed (st.bound n w old e)
      | inr ge ↦ absurd (let k : None ≡ Some w = sym (known n ge) ∙ e in cc)
    ]
