-- A predicate of a set that its rules fit has at most one answer.
use Rattle.std.proofs.Common.{◌≡◌, ℕ, zero, suc, ◌<◌, ◌≤◌, inl, inr, List, [], ◌∷◌, Option, Some, None, Bool, true, refl, arith}
use Rattle.std.proofs.lemmas.Bool.{cases_eq}
use Rattle.dg_base.specs.declared.program.Goal.{out-Goal}
use Rattle.dg_base.specs.declared.program.Goal.TheVariants.{Ask}
use Rattle.dg_base.specs.declared.program.Term.{Term}
use Rattle.dg_meaning.specs.World.{Game}
use Rattle.dg_meaning.specs.Path.{Step, Do, Answers, Cut, Refuse, Back, Keep, Leave, Shield}
use Rattle.dg_meaning.specs.Search.{search}
use Rattle.dg_meaning.specs.inside.Context.{Around, InBranch, Holds, Older, Shielded, StopIn, StepsIn, PathIn}
use Rattle.dg_meaning.specs.inside.OneAnswer.{IsOlder, AreOlder, HasOneAnswer}
use Rattle.dg_single.specs.Plain.{is_plain}
use Rattle.dg_meaning.specs.Sets.{is_in_set}
use Rattle.dg_single.specs.Singles.{IsClosed}
use Rattle.dg_single.proofs.Once.{search_hot}
use denote.Hole.Carrier.{out}

-- all tags below t as those of stoppable parts around
abbrev below : ℕ → List Around
below zero = []
below (suc k) = InBranch Shield k [] ∷ below k

around : (k u : ℕ) → u < k → Shielded (below k) u
around zero u lt = absurd (omega arith)
around (suc k) u lt = elim (cases_eq u k) [ inl e ↦ inl e | inr ne ↦ inr (around k u (omega (arith, lt, ne))) ]

held : (k u : ℕ) → u < k → Holds (below k) u
held zero u lt = absurd (omega arith)
held (suc k) u lt = elim (cases_eq u k) [ inl e ↦ inl e | inr ne ↦ inr (held k u (omega (arith, lt, ne))) ]

newest : (t k : ℕ) → k ≤ t → Older t (below k)
newest t zero le = tt
newest t (suc k) le = (omega (arith, le), newest t k (omega (arith, le)))

stops : (k : ℕ) (o : Option ℕ) → IsOlder k o → StopIn (below k) o
stops k None h = tt
stops k (Some s) h = around k s h

inside : (k : ℕ) (steps : List Step) → AreOlder k steps → StepsIn (below k) steps
inside k [] h = tt
inside k (Do g env u ∷ steps) h = (held k u h.0, inside k steps h.1)
inside k (Answers p ∷ steps) h = inside k steps h
inside k (Cut u ∷ steps) h = (held k u h.0, inside k steps h.1)
inside k (Refuse u ∷ steps) h = (held k u h.0, inside k steps h.1)
inside k (Back ∷ steps) h = inside k steps h
inside k (Keep u x env ∷ steps) h = inside k steps h
inside k (Leave u o ∷ steps) h = (held k u h.0, (stops k o h.1, inside k steps h.2))

asks_plain : (set : List Bool) (pred : ℕ) (terms : List Term) → is_in_set set pred ≡ true → is_plain set (Ask pred terms true) ≡ true
unfolding out-Goal out
asks_plain set pred terms h = h

pub one_answer : (g : Game) (set : List Bool) (pred : ℕ) → IsClosed g.program.preds set → is_in_set set pred ≡ true → HasOneAnswer g pred
unfolding search
one_answer g set pred closed h terms env t q steps r n w none free may =
    let k = r.next_tag in
    let rest_in = inside k steps may.steps.1 in
    let path : PathIn (below k) _ = record { steps = (held k t may.steps.0, rest_in); stop = stops k r.stoppable may.stoppable; newer = newest k k (omega arith); bound = may.bound } in
    elim (search_hot g q none set closed steps free (below k) r.stoppable rest_in (stops k r.stoppable may.stoppable) n (below k) n _ w (record { front = []; is = refl }) path (inl (asks_plain set pred terms h), inl (refl, refl, refl))) [
      | inl e ↦ omega (arith, e)
      | inr z ↦ omega (arith, z.0)
    ]
