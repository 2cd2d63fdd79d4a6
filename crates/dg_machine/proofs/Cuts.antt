-- What a cut leaves, and where memory may go back to.
use Rattle.std.proofs.Common.{◌∙◌, ◌++◌, append_assoc, ◌≡◌, ℕ, ◌<◌, ◌≤◌, List, [], ◌∷◌, inl, inr, sym, ap, subst, arith, false}
use Rattle.std.specs.Prelude.{nat_lt}
use Rattle.std.proofs.lemmas.Bool.{cond-true, cond-false, lt-ltb, le-ltb, cases_lt}
use Rattle.dg_base.specs.Begins.{Begins}
use Rattle.dg_unify.specs.Store.{Saved}
use Rattle.dg_unify.specs.declared.bindings.Ref.{Ref}
use Rattle.dg_unify.specs.Laws.{saves_drops}
use Rattle.dg_arena.specs.declared.arena.Arena.{Arena}
use Rattle.dg_arena.specs.Held.{fields_of, saves_of}
use Rattle.dg_mid.specs.declared.code.Code.{Code}
use Rattle.dg_mid.specs.State.{Place, Choice as ChoiceOf, cut_choices}
use Rattle.dg_mid.specs.Heights.{AgreeAll}
use Rattle.dg_machine.specs.declared.now.Frame.{Frame}
use Rattle.dg_machine.specs.declared.now.Inner.{Inner}
use Rattle.dg_machine.specs.declared.now.Choice.{Choice}
use Rattle.dg_machine.specs.Links.{below}
use Rattle.dg_machine.specs.Stops.{Among, IsUnder}
use Rattle.dg_machine.specs.Layout.{ChoicesAt, MayGoBack}
use Rattle.dg_machine.proofs.StopLemmas.{among_front, among_same}
use Rattle.dg_machine.proofs.Kept.{choices_kept}

-- the newest mark may be forgotten
pub drops : (a : Arena) (m : Saved) (ms : List Saved) → saves_of a (m ∷ ms) → saves_of a ms
drops a m ms h = (saves_drops false (fields_of a) m ms h.0, h.1.1)

pub front_begins : {A : Type 0} (xs ys zs : List A) → Begins (xs ++ ys) zs → Begins xs zs
front_begins xs ys zs b = record { behind = ys ++ b.behind; is = b.is ∙ append_assoc xs ys b.behind }

-- the choices that a cut leaves are among the same
pub among_cut : (code : Code) (xs : List Frame) (is : List Inner) (rs : List Ref) (ts : List Choice) (p : Place) (to : ℕ) (ms : List Saved) (ps : List Choice) (qs : List ChoiceOf) (ks : List Choice) (cs : List ChoiceOf) → p.height ≡ to → AgreeAll cs p → ChoicesAt code xs is rs ts ms ps qs → Among ps qs ks cs → Among ps qs (below to ks) (cut_choices p cs)
among_cut code xs is rs ts p to ms ps qs [] [] e g h x = x
among_cut code xs is rs ts p to (m ∷ ms) (p0 ∷ ps) (q0 ∷ qs) (k ∷ ks) (c ∷ cs) e g h (inl x) =
    let high : c.place.height ≡ k.mark.heap = ap (λ (y : ChoiceOf). y.place.height) x.1 ∙ h.0.height ∙ ap (λ (y : Choice). y.mark.heap) (sym x.0) in
    elim (cases_lt c.place.tag p.tag) [
      | inl lt ↦
          let lower : c.place.height < p.height = g.0.older lt in
          let older : k.mark.heap < to = omega (arith, lower, high, e) in
          subst (λ l. Among (p0 ∷ ps) (q0 ∷ qs) l (cut_choices p (c ∷ cs))) (sym (cond-true (nat_lt k.mark.heap to) (k ∷ ks) (below to ks) (lt-ltb k.mark.heap to older)))
          (subst (λ l. Among (p0 ∷ ps) (q0 ∷ qs) (k ∷ ks) l) (sym (cond-true (nat_lt c.place.tag p.tag) (c ∷ cs) (cut_choices p cs) (lt-ltb c.place.tag p.tag lt)))
          (inl x))
      | inr ge ↦
          let higher : p.height ≤ c.place.height = g.0.newer ge in
          let newer : to ≤ k.mark.heap = omega (arith, higher, high, e) in
          let left = among_front p0 q0 ps qs (below to ks) (cut_choices p cs) (among_cut code h.0.frames_then h.0.inners_then h.0.refs_then h.0.stops_then p to ms ps qs ks cs e g.1 h.0.older_are.0 x.2) in
          subst (λ l. Among (p0 ∷ ps) (q0 ∷ qs) l (cut_choices p (c ∷ cs))) (sym (cond-false (nat_lt k.mark.heap to) (k ∷ ks) (below to ks) (le-ltb k.mark.heap to newer)))
          (subst (λ l. Among (p0 ∷ ps) (q0 ∷ qs) (below to ks) l) (sym (cond-false (nat_lt c.place.tag p.tag) (c ∷ cs) (cut_choices p cs) (le-ltb c.place.tag p.tag ge)))
          left)
    ]
among_cut code xs is rs ts p to (m ∷ ms) (p0 ∷ ps) (q0 ∷ qs) (k ∷ ks) (c ∷ cs) e g h (inr x) =
    among_front p0 q0 ps qs (below to (k ∷ ks)) (cut_choices p (c ∷ cs)) (among_cut code h.0.frames_then h.0.inners_then h.0.refs_then h.0.stops_then p to ms ps qs (k ∷ ks) (c ∷ cs) e g h.0.older_are.0 x)
among_cut code xs is rs ts p to [] [] [] (k ∷ ks) (c ∷ cs) e g h x = absurd x
among_cut code xs is rs ts p to [] [] (q0 ∷ qs) (k ∷ ks) (c ∷ cs) e g h x = absurd x
among_cut code xs is rs ts p to [] (p0 ∷ ps) qs (k ∷ ks) (c ∷ cs) e g h x = absurd h
among_cut code xs is rs ts p to (m ∷ ms) [] qs (k ∷ ks) (c ∷ cs) e g h x = absurd h
among_cut code xs is rs ts p to (m ∷ ms) (p0 ∷ ps) [] (k ∷ ks) (c ∷ cs) e g h x = absurd h
among_cut code xs is rs ts p to ms [] [] [] (c ∷ cs) e g h x = absurd x
among_cut code xs is rs ts p to ms [] [] (k ∷ ks) [] e g h x = absurd x
among_cut code xs is rs ts p to ms [] (q0 ∷ qs) [] (c ∷ cs) e g h x = absurd x
among_cut code xs is rs ts p to ms [] (q0 ∷ qs) (k ∷ ks) [] e g h x = absurd x
among_cut code xs is rs ts p to ms (p0 ∷ ps) [] [] (c ∷ cs) e g h x = absurd x
among_cut code xs is rs ts p to ms (p0 ∷ ps) [] (k ∷ ks) [] e g h x = absurd x
among_cut code xs is rs ts p to ms (p0 ∷ ps) (q0 ∷ qs) [] (c ∷ cs) e g h x = absurd x
among_cut code xs is rs ts p to ms (p0 ∷ ps) (q0 ∷ qs) (k ∷ ks) [] e g h x = absurd x

-- ## Going back

-- the first of some choices is older than a height
abbrev pub FirstBelow : ℕ → List Choice → Type 0
FirstBelow to [] = Unit {0}
FirstBelow to (k ∷ ks) = k.mark.heap < to

pub below_first : (to : ℕ) (ks : List Choice) → FirstBelow to (below to ks)
below_first to [] = tt
below_first to (k ∷ ks) =
    elim (cases_lt k.mark.heap to) [
      | inl lt ↦ subst (FirstBelow to) (sym (cond-true (nat_lt k.mark.heap to) (k ∷ ks) (below to ks) (lt-ltb k.mark.heap to lt))) lt
      | inr ge ↦ subst (FirstBelow to) (sym (cond-false (nat_lt k.mark.heap to) (k ∷ ks) (below to ks) (le-ltb k.mark.heap to ge))) (below_first to ks)
    ]

-- choices among others under a height opened under it
pub opened_under : (code : Code) (xs : List Frame) (is : List Inner) (rs : List Ref) (ts : List Choice) (h : ℕ) (ms : List Saved) (ps : List Choice) (qs : List ChoiceOf) (k : Choice) (ks : List Choice) (c : ChoiceOf) (cs : List ChoiceOf) → IsUnder h ps → ChoicesAt code xs is rs ts ms ps qs → Among ps qs (k ∷ ks) (c ∷ cs) → k.mark.heap < h
opened_under code xs is rs ts h (m ∷ ms) (p ∷ ps) (q ∷ qs) k ks c cs u at (inl x) = let same = ap (λ (y : Choice). y.mark.heap) x.0 in omega (arith, same, u.0)
opened_under code xs is rs ts h (m ∷ ms) (p ∷ ps) (q ∷ qs) k ks c cs u at (inr x) =
    let o = at.0 in
    let le = opened_under code o.frames_then o.inners_then o.refs_then o.stops_then q.state.heap ms ps qs k ks c cs at.1 o.older_are.0 x in
    let heap = o.heap in
    omega (arith, le, heap, u.0)
opened_under code xs is rs ts h ms [] [] k ks c cs u at x = absurd x
opened_under code xs is rs ts h ms [] (q ∷ qs) k ks c cs u at x = absurd x
opened_under code xs is rs ts h ms (p ∷ ps) [] k ks c cs u at x = absurd x
opened_under code xs is rs ts h [] (p ∷ ps) (q ∷ qs) k ks c cs u at x = absurd at

-- so each choice is older than the next newer one
pub first_older : (code : Code) (xs : List Frame) (is : List Inner) (rs : List Ref) (ts : List Choice) (ms : List Saved) (ps : List Choice) (qs : List ChoiceOf) (k : Choice) (ks : List Choice) (c : ChoiceOf) (cs : List ChoiceOf) → ChoicesAt code xs is rs ts ms ps qs → Among ps qs (k ∷ ks) (c ∷ cs) → FirstBelow k.mark.heap ks
first_older code xs is rs ts ms ps qs k [] c cs at x = tt
first_older code xs is rs ts (m ∷ ms) (p ∷ ps) (q ∷ qs) k (j ∷ ks) c (d ∷ cs) at (inl x) =
    let o = at.0 in
    let lt = opened_under code o.frames_then o.inners_then o.refs_then o.stops_then q.state.heap ms ps qs j ks d cs at.1 o.older_are.0 x.2 in
    let heap = o.heap in
    let same = ap (λ (y : Choice). y.mark.heap) x.0 in
    omega (arith, lt, heap, same)
first_older code xs is rs ts (m ∷ ms) (p ∷ ps) (q ∷ qs) k (j ∷ ks) c [] at (inl x) = absurd (let e = among_same ps qs (j ∷ ks) [] x.2 in omega (arith, e))
first_older code xs is rs ts (m ∷ ms) (p ∷ ps) (q ∷ qs) k (j ∷ ks) c cs at (inr x) = let o = at.0 in first_older code o.frames_then o.inners_then o.refs_then o.stops_then ms ps qs k (j ∷ ks) c cs o.older_are.0 x
first_older code xs is rs ts ms [] [] k (j ∷ ks) c cs at x = absurd x
first_older code xs is rs ts ms [] (q ∷ qs) k (j ∷ ks) c cs at x = absurd x
first_older code xs is rs ts ms (p ∷ ps) [] k (j ∷ ks) c cs at x = absurd x
first_older code xs is rs ts [] (p ∷ ps) (q ∷ qs) k (j ∷ ks) c cs at x = absurd at

-- choices older than one are among those behind it
older_in : (to : ℕ) (p : Choice) (q : ChoiceOf) (ps : List Choice) (qs : List ChoiceOf) (js : List Choice) (ds : List ChoiceOf) → to ≤ p.mark.heap → FirstBelow to js → Among (p ∷ ps) (q ∷ qs) js ds → Among ps qs js ds
older_in to p q ps qs [] [] le f x = tt
older_in to p q ps qs (j ∷ js) (d ∷ ds) le f (inl x) = let same = ap (λ (y : Choice). y.mark.heap) x.0 in absurd (omega (arith, same, le, f))
older_in to p q ps qs (j ∷ js) (d ∷ ds) le f (inr x) = x
older_in to p q ps qs [] (d ∷ ds) le f x = absurd x
older_in to p q ps qs (j ∷ js) [] le f x = absurd x

-- memory may go back to a choice among those that lie in it, with older ones left
pub back_to : (code : Code) (xs : List Frame) (is : List Inner) (rs : List Ref) (ts : List Choice) (a : Arena) (to : ℕ) (ms : List Saved) (ps : List Choice) (qs : List ChoiceOf) (k : Choice) (ks : List Choice) (c : ChoiceOf) (cs : List ChoiceOf) (js : List Choice) (ds : List ChoiceOf) → to ≡ k.mark.heap → FirstBelow to js →
    saves_of a ms → ChoicesAt code xs is rs ts ms ps qs → Among ps qs (k ∷ ks) (c ∷ cs) → Among ps qs js ds → MayGoBack code a xs is rs ts k c js ds
back_to code xs is rs ts a to (m ∷ ms) (p ∷ ps) (q ∷ qs) k ks c cs js ds e f s at (inl x) left =
    let same = ap (λ (y : Choice). y.mark.heap) x.0 in
    subst (λ y. MayGoBack code a xs is rs ts y c js ds) (sym x.0)
    (subst (λ y. MayGoBack code a xs is rs ts p y js ds) (sym x.1)
    (record { saved = m; saves = ms; points = ps; means = qs; stand = s; at = at.0; under = at.1; left_in = older_in to p q ps qs js ds (omega (arith, e, same)) f left }))
back_to code xs is rs ts a to (m ∷ ms) (p ∷ ps) (q ∷ qs) k ks c cs js ds e f s at (inr x) left =
    let o = at.0 in
    let le = opened_under code o.frames_then o.inners_then o.refs_then o.stops_then q.state.heap ms ps qs k ks c cs at.1 o.older_are.0 x in
    let heap = o.heap in
    let older = choices_kept code o.frames_then xs o.inners_then is o.refs_then rs o.stops_then ts ms ps qs o.frames_begin o.inners_begin (front_begins o.refs_then o.args rs o.refs_begin) o.stops_begin o.older_are.0 in
    back_to code xs is rs ts a to ms ps qs k ks c cs js ds e f (drops a m ms s) older x (older_in to p q ps qs js ds (omega (arith, e, le, heap)) f left)
back_to code xs is rs ts a to ms [] [] k ks c cs js ds e f s at x left = absurd x
back_to code xs is rs ts a to ms [] (q ∷ qs) k ks c cs js ds e f s at x left = absurd x
back_to code xs is rs ts a to ms (p ∷ ps) [] k ks c cs js ds e f s at x left = absurd x
back_to code xs is rs ts a to [] (p ∷ ps) (q ∷ qs) k ks c cs js ds e f s at x left = absurd at
