-- A list of what variables are bound to, with a binding more or less.
use Rattle.std.proofs.Common.{◌≡◌, ℕ, ◌<◌, ◌≤◌, List, [], ◌∷◌, ◌++◌, refl, sym, ap, ◌∙◌, arith, subst, Option, Some, None, inl, inr, length, reverse, length-append, set}
use Rattle.std.proofs.Math.ListN.{length-set}
use Rattle.std.specs.Prelude.{eqb}
use Rattle.std.specs.List.{slice_get}
use Rattle.std.proofs.lemmas.Bool.{cond-false, cases_lt, cases_eq, eq-eqb, ne_eqb}
use Rattle.dg_unify.specs.declared.bindings.Ref.{Ref}
use Rattle.dg_unify.specs.declared.slots.Link.{Link}
use Rattle.dg_unify.specs.Links.{to_of, Once, Lists, AreLinked}
use Rattle.dg_unify.proofs.Lists.{get_append, get_set_same, get_set_other, get_behind, reverse_snoc}

pub once_more : (v w : ℕ) (ls : List Link) → v ≤ w → Once v ls → Once w ls
once_more v w [] le h = tt
once_more v w (l ∷ ls) le h = (omega (arith, h.0), h.1, once_more v w ls le h.2)

-- a new variable isn't bound
pub once_new : (v n : ℕ) (ls : List Link) → v ≤ n → Once v ls → to_of n ls ≡ None
once_new v n [] le h = refl
once_new v n (l ∷ ls) le h = cond-false (eqb n l.var) (Some l.to) (to_of n ls) (ne_eqb n l.var (λ e. omega (arith, h.0))) ∙ once_new v n ls le h.2

pub lists_push : (v : ℕ) (to : List (Option Ref)) (ls : List Link) → v ≤ length to → Lists to ls → Once v ls → Lists (to ++ None ∷ []) ls
lists_push v to ls le h once = λ n lt.
    elim (cases_lt n (length to)) [
      | inl l ↦ get_append to (None ∷ []) n (to_of n ls) (h n l)
      | inr g ↦
          let e : n ≡ length to = omega (arith, length-append {A = Option Ref}, lt) in
          let P : ℕ → Type 0 = λ k. slice_get (to ++ None ∷ []) k ≡ Some (to_of k ls) in
          let at : P (length to) = rw (once_new v (length to) ls le once) (get_behind to [] None) in
          subst P (sym e) at
    ]

pub lists_bind : (to : List (Option Ref)) (l : Link) (ls : List Link) → Lists to ls → l.var < length to → Lists (set to l.var (Some l.to)) (l ∷ ls)
lists_bind to l ls h lt = λ n lt'.
    elim (cases_eq n l.var) [
      | inl e ↦
          let P : ℕ → Type 0 = λ k. slice_get (set to l.var (Some l.to)) k ≡ Some (to_of k (l ∷ ls)) in
          let at : P l.var = rw (eq-eqb l.var l.var refl) (get_set_same to l.var (Some l.to) lt) in
          subst P (sym e) at
      | inr ne ↦
          get_set_other to l.var n (Some l.to) ne ∙ h n (omega (arith, lt', length-set {A = Option Ref})) ∙ ap Some (sym (cond-false (eqb n l.var) (Some l.to) (to_of n ls) (ne_eqb n l.var ne)))
    ]

lists_undo : (to : List (Option Ref)) (v : ℕ) (l : Link) (ls : List Link) → Lists to (l ∷ ls) → Once v (l ∷ ls) → l.var < length to → Lists (set to l.var None) ls
lists_undo to v l ls h once lt = λ n lt'.
    elim (cases_eq n l.var) [
      | inl e ↦
          let P : ℕ → Type 0 = λ k. slice_get (set to l.var None) k ≡ Some (to_of k ls) in
          let at : P l.var = rw once.1 (get_set_same to l.var None lt) in
          subst P (sym e) at
      | inr ne ↦
          get_set_other to l.var n None ne ∙ h n (omega (arith, lt', length-set {A = Option Ref})) ∙ ap Some (cond-false (eqb n l.var) (Some l.to) (to_of n ls) (ne_eqb n l.var ne))
    ]

-- ## With all bindings, the oldest first

pub linked_push : (v : ℕ) (to to' : List (Option Ref)) (log : List Link) → to' ≡ to ++ None ∷ [] → AreLinked v to log → AreLinked v to' log
linked_push v to to' log is h = rw is (record {
  once = h.once;
  lists = lists_push v to (reverse log) h.within h.lists h.once;
  within = omega (arith, length-append to (None ∷ []), h.within);
})

pub linked_more : (v w : ℕ) (to : List (Option Ref)) (log : List Link) → v ≤ w → w ≤ length to → AreLinked v to log → AreLinked w to log
linked_more v w to log le within h = record { once = once_more v w (reverse log) le h.once; lists = h.lists; within = within }

pub linked_fewer : (v w : ℕ) (to : List (Option Ref)) (log : List Link) → w ≤ v → AreLinked v to log → Once w (reverse log) → AreLinked w to log
linked_fewer v w to log le h once = record { once = once; lists = h.lists; within = omega (arith, le, h.within) }

pub linked_bind : (v : ℕ) (to : List (Option Ref)) (log log' : List Link) (l : Link) → log' ≡ log ++ l ∷ [] → AreLinked v to log → l.var < v → to_of l.var (reverse log) ≡ None → AreLinked v (set to l.var (Some l.to)) log'
linked_bind v to log log' l is h lt free =
    let e : reverse log' ≡ l ∷ reverse log = ap reverse is ∙ reverse_snoc log l in
    record {
      once = subst (λ ls. Once v ls) (sym e) (lt, free, h.once);
      lists = subst (Lists (set to l.var (Some l.to))) (sym e) (lists_bind to l (reverse log) h.lists (omega (arith, lt, h.within)));
      within = omega (arith, length-set to l.var (Some l.to), h.within);
    }

pub linked_undo : (v : ℕ) (to : List (Option Ref)) (log log' : List Link) (l : Link) → log ≡ log' ++ l ∷ [] → AreLinked v to log → (l.var < length to) × AreLinked v (set to l.var None) log'
linked_undo v to log log' l is h =
    let e : reverse log ≡ l ∷ reverse log' = ap reverse is ∙ reverse_snoc log' l in
    let once : Once v (l ∷ reverse log') = subst (Once v) e h.once in
    let lists : Lists to (l ∷ reverse log') = subst (Lists to) e h.lists in
    let there : l.var < length to = omega (arith, once.0, h.within) in (
      there,
      record {
        once = once.2;
        lists = lists_undo to v l (reverse log') lists once there;
        within = omega (arith, length-set to l.var None, h.within);
      },
    )
