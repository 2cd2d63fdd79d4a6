-- Changes one after the other.
use Rattle.std.proofs.Common.{◌≡◌, ◌+◌, ◌<◌, ◌∙◌, ℕ, List, [], ◌∷◌, ◌++◌, Bool, length, map, drop, get_or, refl, sym, ap, append_assoc, arith}
use Rattle.std.proofs.lemmas.List.{drop_more}
use Rattle.dg_base.specs.Tree as tree
use Rattle.dg_base.specs.Tree.{Parts, changes_of}
use Rattle.dg_base.specs.TreeView.{change_view}
use Rattle.dg_base.specs.declared.program.Goal.{Goal}
use Rattle.dg_base.specs.declared.tree.NowChange.{NowChange}
use Rattle.dg_core.specs.Bodies.{Closed, no_closure, joined_closures, direct, in_parts, in_changes}
use Rattle.dg_core.specs.Goals.{Scope, at, past, change_goals}
use Rattle.dg_core.proofs.BodyLemmas.{found_past, found_join, join_none}

pub next_change : (cs : List NowChange) (k : ℕ) (c : NowChange) → k < length cs → c ≡ get_or cs k c → map change_view (drop k cs) ≡ change_view c ∷ map change_view (drop (k + 1) cs)
next_change cs k c lt is = ap (map change_view) (drop_more cs k c lt ∙ ap (λ (x : NowChange). x ∷ drop (k + 1) cs) (sym is))

one_found : (found bodies : List tree.Body) (x : Parts × Bool) → bodies ≡ found ++ direct (in_changes (changes_of (x ∷ []))) → bodies ≡ found ++ direct (in_parts x.0)
one_found found bodies x e = e ∙ ap (λ (c : Closed). found ++ direct c) (join_none (in_parts x.0))

pub changes_next : (s : Scope) (found bodies : List tree.Body) (gs new : List Goal) (g : Goal) (x : Parts × Bool) (xs : List (Parts × Bool)) → new ≡ gs ++ g ∷ [] → g ∷ [] ≡ change_goals (at s (length found)) (changes_of (x ∷ [])) → bodies ≡ found ++ direct (in_changes (changes_of (x ∷ []))) → new ++ change_goals (at s (length bodies)) (changes_of xs) ≡ gs ++ change_goals (at s (length found)) (changes_of (x ∷ xs))
changes_next s found bodies gs new g x xs e is more =
    let here = at s (length found) in
    let rest : Scope → List Goal = λ t. change_goals t (changes_of xs) in
    ap (λ (l : List Goal). l ++ rest (at s (length bodies))) (e ∙ ap (λ (l : List Goal). gs ++ l) is)
    ∙ append_assoc gs (change_goals here (changes_of (x ∷ []))) (rest (at s (length bodies)))
    ∙ ap (λ (t : Scope). gs ++ (change_goals here (changes_of (x ∷ [])) ++ rest t)) (ap (λ (l : List tree.Body). at s (length l)) (one_found found bodies x more) ∙ found_past s found (in_parts x.0))

pub bodies_next : (found bodies : List tree.Body) (x : Parts × Bool) (xs : List (Parts × Bool)) → bodies ≡ found ++ direct (in_changes (changes_of (x ∷ []))) → bodies ++ direct (in_changes (changes_of xs)) ≡ found ++ direct (in_changes (changes_of (x ∷ xs)))
bodies_next found bodies x xs more =
    ap (λ (l : List tree.Body). l ++ direct (in_changes (changes_of xs))) (one_found found bodies x more)
    ∙ found_join found (in_parts x.0) (in_changes (changes_of xs))
