-- What quiet bodies are made of, and how much they are.
use Rattle.std.proofs.Common.{◌≡◌, ℕ, ◌+◌, ◌<◌, ◌≤◌, ◌-◌, length, drop, take, get_or, List, [], ◌∷◌, ◌++◌, Bool, true, false, refl, sym, ap, ◌∙◌, arith}
use Rattle.std.specs.Prelude.{◌&&◌}
use Rattle.std.specs.List.{list_all}
use Rattle.std.specs.Borrow.{Bor}
use Rattle.std.proofs.lemmas.List.{take_all}
use Rattle.dg_base.specs.declared.program.Goal.{Goal, out-Goal, Row_of-Goal, end_of-Goal, more_of-Goal, items-the_row-Goal, items_shown-the_row-Goal-0, Row_of-Goal-Either-0-1, end_of-Goal-Either-0-1, more_of-Goal-Either-0-1, items-the_row-Goal-Either-0-1, items_shown-the_row-Goal-Either-0-1-1}
use Rattle.dg_base.specs.declared.program.Goal.{Either', Once', Not', If', Exhaust', Collect', Accumulate', Stoppable', Select'}
use Rattle.dg_base.specs.declared.program.Goal.TheOpen as part
use Rattle.dg_base.specs.Goals.{goals_within, within_goals, within_lists, all_goals_of}
use Rattle.dg_meaning.specs.Quiet.{is_quiet_form, are_quiet}
use Rattle.dg_quiet.specs.inside.Left.{all_quiet, inside_quiet, left_quiet, weight, row_weight, rows_weight, body_weight, lists_weight, inside_weight, left_weight, asks_in}
use denote.Hole.Carrier.{out}

-- ## Tests

both : {a b c d : Bool} → a ≡ b → c ≡ d → (a && c) ≡ (b && d)
both {a = a} {d = d} e f = ap (λ x. a && x) f ∙ ap (λ x. x && d) e

pub and_true : (b : Bool) → (b && true) ≡ b
and_true true = refl
and_true false = refl

pub and_assoc : (a b c : Bool) → ((a && b) && c) ≡ (a && (b && c))
and_assoc true b c = refl
and_assoc false b c = refl

pub and_turned : (a b : Bool) → (a && b) ≡ (b && a)
and_turned true b = sym (and_true b)
and_turned false true = refl
and_turned false false = refl

pub all_on : {A : Type 0} (f : A → Bool) (xs ys : List A) → list_all f (xs ++ ys) ≡ (list_all f xs && list_all f ys)
all_on f [] ys = refl
all_on f (x ∷ xs) ys = ap (λ b. f x && b) (all_on f xs ys) ∙ sym (and_assoc (f x) (list_all f xs) (list_all f ys))

pub all_three : {A : Type 0} (f : A → Bool) (xs ys zs : List A) → list_all f (xs ++ ys ++ zs) ≡ (list_all f xs && (list_all f ys && list_all f zs))
all_three f xs ys zs = grind (arith, all_on, and_assoc)

-- ## Goals at every depth, by rows

abbrev quiet_goal : List Bool → Goal → Bool
quiet_goal set g = is_quiet_form set (out-Goal g)

-- what stands in a row is what stands in its list
row_goals : {n : _} (k : Row_of-Goal n) → within_goals k ≡ all_goals_of (items-the_row-Goal n k)
row_goals end_of-Goal = refl
row_goals (more_of-Goal g others) = ap (λ l. goals_within g ++ l) (row_goals others)

pub quiet_row : {n : _} (set : List Bool) (k : Row_of-Goal n) → list_all (quiet_goal set) (within_goals k) ≡ are_quiet set (items-the_row-Goal n k)
quiet_row set k = ap (list_all (quiet_goal set)) (row_goals k)

pub quiet_rows : {n : _} (set : List Bool) (k : Row_of-Goal-Either-0-1 n) → list_all (quiet_goal set) (within_lists k) ≡ all_quiet set (items-the_row-Goal-Either-0-1 n k)
quiet_rows set end_of-Goal-Either-0-1 = refl
quiet_rows set (more_of-Goal-Either-0-1 s goals others) =
    all_on (quiet_goal set) (within_goals goals) (within_lists others)
    ∙ both (quiet_row set goals ∙ ap (are_quiet set) (sym (items_shown-the_row-Goal-0 s goals))) (quiet_rows set others)

added : {a b c d e f : ℕ} → a ≡ b → c ≡ d → e ≡ f → 1 + (a + (c + e)) ≡ 1 + (b + (d + f))
added e f g = omega (arith, e, f, g)

summed : {a b c d : ℕ} → a ≡ b → c ≡ d → a + c ≡ b + d
summed e f = omega (arith, e, f)

weigh_row : {n : _} (k : Row_of-Goal n) → row_weight k ≡ body_weight (items-the_row-Goal n k)
weigh_row end_of-Goal = refl
weigh_row (more_of-Goal g others) = ap (λ w. weight g + w) (weigh_row others)

weigh_rows : {n : _} (k : Row_of-Goal-Either-0-1 n) → rows_weight k ≡ lists_weight (items-the_row-Goal-Either-0-1 n k)
weigh_rows end_of-Goal-Either-0-1 = refl
weigh_rows (more_of-Goal-Either-0-1 s goals others) = summed (weigh_row goals ∙ ap body_weight (sym (items_shown-the_row-Goal-0 s goals))) (weigh_rows others)

-- ## A goal, by what it is made of

abbrev pub quiet_layer : List Bool → part.Goal-F Goal → Bool
quiet_layer set x = is_quiet_form set x && inside_quiet set x

abbrev pub layer_weight : part.Goal-F Goal → ℕ
layer_weight x = 1 + inside_weight x

three : {a b c d e f : Bool} → a ≡ b → c ≡ d → e ≡ f → (a && (c && e)) ≡ (b && (d && f))
three e f g = both e (both f g)

pub quiet_out : (set : List Bool) (g : Goal) → list_all (quiet_goal set) (goals_within g) ≡ quiet_layer set (out-Goal g)
unfolding out-Goal out
quiet_out set (Either' s k) = quiet_rows set k ∙ ap (all_quiet set) (sym (items_shown-the_row-Goal-Either-0-1-1 s k))
quiet_out set (Once' s k) = quiet_row set k ∙ ap (are_quiet set) (sym (items_shown-the_row-Goal-0 s k))
quiet_out set (Not' s k) = quiet_row set k ∙ ap (are_quiet set) (sym (items_shown-the_row-Goal-0 s k))
quiet_out set (Exhaust' s k) = quiet_row set k ∙ ap (are_quiet set) (sym (items_shown-the_row-Goal-0 s k))
quiet_out set (If' s a t b u c) =
    all_three (quiet_goal set) (within_goals a) (within_goals b) (within_goals c)
    ∙ three (quiet_row set a ∙ ap (are_quiet set) (sym (items_shown-the_row-Goal-0 s a)))
    (quiet_row set b ∙ ap (are_quiet set) (sym (items_shown-the_row-Goal-0 t b)))
    (quiet_row set c ∙ ap (are_quiet set) (sym (items_shown-the_row-Goal-0 u c)))
quiet_out set (Collect' x s k y) = refl
quiet_out set (Accumulate' x s k y) = refl
quiet_out set (Stoppable' s k) = refl
quiet_out set (Select' site mode s k) = refl
quiet_out set g = refl

pub weight_out : (g : Goal) → weight g ≡ layer_weight (out-Goal g)
unfolding out-Goal out
weight_out (Either' s k) = ap (λ w. 1 + w) (weigh_rows k ∙ ap lists_weight (sym (items_shown-the_row-Goal-Either-0-1-1 s k)))
weight_out (Once' s k) = ap (λ w. 1 + w) (weigh_row k ∙ ap body_weight (sym (items_shown-the_row-Goal-0 s k)))
weight_out (Not' s k) = ap (λ w. 1 + w) (weigh_row k ∙ ap body_weight (sym (items_shown-the_row-Goal-0 s k)))
weight_out (Exhaust' s k) = ap (λ w. 1 + w) (weigh_row k ∙ ap body_weight (sym (items_shown-the_row-Goal-0 s k)))
weight_out (If' s a t b u c) =
    added (weigh_row a ∙ ap body_weight (sym (items_shown-the_row-Goal-0 s a))) (weigh_row b ∙ ap body_weight (sym (items_shown-the_row-Goal-0 t b)))
    (weigh_row c ∙ ap body_weight (sym (items_shown-the_row-Goal-0 u c)))
weight_out (Collect' x s k y) = refl
weight_out (Accumulate' x s k y) = refl
weight_out (Stoppable' s k) = refl
weight_out (Select' site mode s k) = refl
weight_out g = refl

-- a body is its first goal and the others
pub quiet_first : (set : List Bool) (g : Goal) (gs : List Goal) → are_quiet set (g ∷ gs) ≡ (quiet_layer set (out-Goal g) && are_quiet set gs)
quiet_first set g gs = all_on (quiet_goal set) (goals_within g) (all_goals_of gs) ∙ ap (λ b. b && are_quiet set gs) (quiet_out set g)

pub weight_first : (g : Goal) (gs : List Goal) → body_weight (g ∷ gs) ≡ layer_weight (out-Goal g) + body_weight gs
weight_first g gs = ap (λ n. n + body_weight gs) (weight_out g)

pub weight_some : (gs : List Goal) → 0 < body_weight gs
weight_some [] = omega arith
weight_some (g ∷ gs) = omega (arith, weight_some gs)

-- ## What is left

pub left_append : (set : List Bool) (xs ys : List (Bor (List Goal))) → left_quiet set (xs ++ ys) ≡ (left_quiet set xs && left_quiet set ys)
left_append set [] ys = refl
left_append set (x ∷ xs) ys = ap (λ b. are_quiet set x.now && b) (left_append set xs ys) ∙ sym (and_assoc (are_quiet set x.now) (left_quiet set xs) (left_quiet set ys))

pub weight_append : (xs ys : List (Bor (List Goal))) → left_weight (xs ++ ys) ≡ left_weight xs + left_weight ys
weight_append [] ys = omega arith
weight_append (x ∷ xs) ys = omega (arith, weight_append xs ys)

pub asks_append : (set : List Bool) (xs ys : List ℕ) → asks_in set (xs ++ ys) ≡ (asks_in set xs && asks_in set ys)
asks_append set xs ys = all_on _ xs ys

-- ## The first goal of a list

-- the others of a list
abbrev pub others : List Goal → List Goal
others gs = take (length gs - 1) (drop 1 gs)

others_of : (g : Goal) (gs : List Goal) → others (g ∷ gs) ≡ gs
others_of g gs = take_all (length (g ∷ gs) - 1) gs (omega arith)

pub looked : (set : List Bool) (gs : List Goal) (x : Goal) → 1 ≤ length gs → x ≡ get_or gs 0 x → are_quiet set gs ≡ (quiet_layer set (out-Goal x) && are_quiet set (others gs))
looked set [] x some is = absurd (omega arith)
looked set (g ∷ gs) x some is =
    quiet_first set g gs ∙ ap (λ y. quiet_layer set (out-Goal y) && are_quiet set gs) (sym is) ∙ ap (λ l. quiet_layer set (out-Goal x) && are_quiet set l) (sym (others_of g gs))

pub looked_weight : (gs : List Goal) (x : Goal) → 1 ≤ length gs → x ≡ get_or gs 0 x → body_weight gs ≡ layer_weight (out-Goal x) + body_weight (others gs)
looked_weight [] x some is = absurd (omega arith)
looked_weight (g ∷ gs) x some is = weight_first g gs ∙ ap (λ y. layer_weight (out-Goal y) + body_weight gs) (sym is) ∙ ap (λ l. layer_weight (out-Goal x) + body_weight l) (sym (others_of g gs))

and_false : (b : Bool) → (b && false) ≡ false
and_false true = refl
and_false false = refl

-- the goal's form and what was asked stand together
gathered : (f i r l a : Bool) → ((((f && i) && r) && l) && a) ≡ (((l && r) && i) && (f && a))
gathered false i r l a = sym (and_false ((l && r) && i))
gathered true false r l a = sym (ap (λ b. b && a) (and_false (l && r)))
gathered true true false true a = refl
gathered true true false false a = refl
gathered true true true true a = refl
gathered true true true false a = refl

swapped : (f l a : Bool) → (f && (l && a)) ≡ (l && (f && a))
swapped true l a = refl
swapped false l a = sym (and_false l)

pub looked_left : (f i r l a fits an ln : Bool) (whole : Bool) → whole ≡ ((f && i) && r) → (f && a) ≡ (fits && an) → ln ≡ ((l && r) && i) → ((whole && l) && a) ≡ (fits && (ln && an))
looked_left f i r l a fits an ln whole e h k =
    ap (λ x. (x && l) && a) e ∙ gathered f i r l a ∙ ap (λ x. ((l && r) && i) && x) h ∙ ap (λ x. x && (fits && an)) (sym k) ∙ sym (swapped fits ln an)
