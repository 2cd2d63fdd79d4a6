-- The goals in a goal, by what it is made of.
use Rattle.std.proofs.Common.{◌≡◌, List, [], ◌∷◌, ◌++◌, refl, sym, ◌∙◌, ap}
use Rattle.std.specs.List.{flat_map}
use Rattle.dg_base.specs.declared.program.Goal.{Goal, out-Goal, out-roll-Goal, Row_of-Goal, end_of-Goal, more_of-Goal, items-the_row-Goal, items_shown-the_row-Goal-0, Row_of-Goal-Either-0-1, end_of-Goal-Either-0-1, more_of-Goal-Either-0-1, items-the_row-Goal-Either-0-1, items_shown-the_row-Goal-Either-0-1-1}
use Rattle.dg_base.specs.declared.program.Goal.{Either', Once', Not', If', Exhaust', Collect', Accumulate', Stoppable', Select'}
use Rattle.dg_base.specs.declared.program.Goal.TheVariants as goal
use Rattle.dg_base.specs.declared.program.Goal.TheOpen as part
use Rattle.dg_base.specs.Goals.{goals_within, within_goals, within_lists, all_goals_of}
use denote.Hole.Carrier.{out}

-- the goals in what a goal is made of
abbrev pub inside : part.Goal-F Goal → List Goal
inside (part.Either lists) = flat_map all_goals_of lists
inside (part.Once goals) = all_goals_of goals
inside (part.Not goals) = all_goals_of goals
inside (part.If a b c) = all_goals_of a ++ all_goals_of b ++ all_goals_of c
inside (part.Exhaust goals) = all_goals_of goals
inside (part.Collect x goals y) = all_goals_of goals
inside (part.Accumulate x goals y) = all_goals_of goals
inside (part.Stoppable goals) = all_goals_of goals
inside (part.Select site mode lists) = flat_map all_goals_of lists
inside g = []

within_row : {n : _} (k : Row_of-Goal n) → within_goals k ≡ flat_map goals_within (items-the_row-Goal n k)
within_row end_of-Goal = refl
within_row (more_of-Goal g others) = ap (λ (l : List Goal). goals_within g ++ l) (within_row others)

both : {a b c d : List Goal} → a ≡ b → c ≡ d → a ++ c ≡ b ++ d
both {a = a} {d = d} e f = ap (λ (l : List Goal). a ++ l) f ∙ ap (λ (l : List Goal). l ++ d) e

within_lists_row : {n : _} (k : Row_of-Goal-Either-0-1 n) → within_lists k ≡ flat_map all_goals_of (items-the_row-Goal-Either-0-1 n k)
within_lists_row end_of-Goal-Either-0-1 = refl
within_lists_row (more_of-Goal-Either-0-1 s goals others) =
    both (within_row goals ∙ ap (flat_map goals_within) (sym (items_shown-the_row-Goal-0 s goals))) (within_lists_row others)

pub within_out : (g : Goal) → goals_within g ≡ g ∷ inside (out-Goal g)
unfolding out-Goal out
within_out (Once' s k) = ap (λ (l : List Goal). Once' s k ∷ l) (within_row k ∙ ap (flat_map goals_within) (sym (items_shown-the_row-Goal-0 s k)))
within_out (Not' s k) = ap (λ (l : List Goal). Not' s k ∷ l) (within_row k ∙ ap (flat_map goals_within) (sym (items_shown-the_row-Goal-0 s k)))
within_out (Exhaust' s k) = ap (λ (l : List Goal). Exhaust' s k ∷ l) (within_row k ∙ ap (flat_map goals_within) (sym (items_shown-the_row-Goal-0 s k)))
within_out (Stoppable' s k) = ap (λ (l : List Goal). Stoppable' s k ∷ l) (within_row k ∙ ap (flat_map goals_within) (sym (items_shown-the_row-Goal-0 s k)))
within_out (Collect' x s k y) = ap (λ (l : List Goal). Collect' x s k y ∷ l) (within_row k ∙ ap (flat_map goals_within) (sym (items_shown-the_row-Goal-0 s k)))
within_out (Accumulate' x s k y) = ap (λ (l : List Goal). Accumulate' x s k y ∷ l) (within_row k ∙ ap (flat_map goals_within) (sym (items_shown-the_row-Goal-0 s k)))
within_out (If' s a t b u c) =
    ap (λ (l : List Goal). If' s a t b u c ∷ l)
    (both
    (both (within_row a ∙ ap (flat_map goals_within) (sym (items_shown-the_row-Goal-0 s a))) (within_row b ∙ ap (flat_map goals_within) (sym (items_shown-the_row-Goal-0 t b))))
    (within_row c ∙ ap (flat_map goals_within) (sym (items_shown-the_row-Goal-0 u c))))
within_out (Either' s k) = ap (λ (l : List Goal). Either' s k ∷ l) (within_lists_row k ∙ ap (flat_map all_goals_of) (sym (items_shown-the_row-Goal-Either-0-1-1 s k)))
within_out (Select' site mode s k) = ap (λ (l : List Goal). Select' site mode s k ∷ l) (within_lists_row k ∙ ap (flat_map all_goals_of) (sym (items_shown-the_row-Goal-Either-0-1-1 s k)))
within_out g = refl

pub either_within : (lists : List (List Goal)) → goals_within (goal.Either lists) ≡ goal.Either lists ∷ flat_map all_goals_of lists
either_within lists =
    within_out (goal.Either lists)
    ∙ ap (λ (layer : part.Goal-F Goal). goal.Either lists ∷ inside layer) (ap out-Goal (sym (goal.rolls-Either lists)) ∙ out-roll-Goal (part.Either lists))
