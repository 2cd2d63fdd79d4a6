-- What plain bodies are made of, and how much they are.
use Rattle.std.proofs.Common.{◌≡◌, ℕ, ◌+◌, ◌-◌, ◌<◌, ◌≤◌, length, take, get_or, List, [], ◌∷◌, ◌++◌, Bool, true, false, refl, sym, ap, ◌∙◌, arith}
use Rattle.std.specs.Prelude.{◌&&◌, ◌||◌}
use Rattle.std.specs.Borrow.{Bor}
use Rattle.std.proofs.lemmas.List.{take_more, take_all}
use Rattle.dg_base.specs.declared.program.Goal.{Goal, out-Goal, Row_of-Goal, end_of-Goal, more_of-Goal, items-the_row-Goal, items_shown-the_row-Goal-0, Row_of-Goal-Either-0-1, end_of-Goal-Either-0-1, more_of-Goal-Either-0-1, items-the_row-Goal-Either-0-1, items_shown-the_row-Goal-Either-0-1-1}
use Rattle.dg_base.specs.declared.program.Goal.{Either', Once', Not', If', Exhaust', Collect', Accumulate', Stoppable', Select'}
use Rattle.dg_base.specs.declared.program.Goal.TheOpen as part
use Rattle.dg_single.specs.Plain.{is_just, is_plain_form, is_plain, is_plain_row, are_plain_rows, has_just, are_plain}
use Rattle.dg_single.specs.inside.Left.{all_plain, inside_plain, left_plain, weight, row_weight, rows_weight, body_weight, lists_weight, inside_weight, left_weight}
use denote.Hole.Carrier.{out}

-- ## Rows

both : {a b c d : Bool} → a ≡ b → c ≡ d → (a && c) ≡ (b && d)
both {a = a} {d = d} e f = ap (λ x. a && x) f ∙ ap (λ x. x && d) e

added : {a b c d : ℕ} → a ≡ b → c ≡ d → 1 + (a + c) ≡ 1 + (b + d)
added e f = omega (arith, e, f)

summed : {a b c d : ℕ} → a ≡ b → c ≡ d → a + c ≡ b + d
summed e f = omega (arith, e, f)

plain_row : {n : _} (set : List Bool) (k : Row_of-Goal n) → is_plain_row set k ≡ are_plain set (items-the_row-Goal n k)
plain_row set end_of-Goal = refl
plain_row set (more_of-Goal g others) =
    ap (λ b. b && (has_just (items-the_row-Goal _ others) || is_plain set g)) (plain_row set others)

plain_rows : {n : _} (set : List Bool) (k : Row_of-Goal-Either-0-1 n) → are_plain_rows set k ≡ all_plain set (items-the_row-Goal-Either-0-1 n k)
plain_rows set end_of-Goal-Either-0-1 = refl
plain_rows set (more_of-Goal-Either-0-1 s goals others) = both (plain_row set goals ∙ ap (are_plain set) (sym (items_shown-the_row-Goal-0 s goals))) (plain_rows set others)

weigh_row : {n : _} (k : Row_of-Goal n) → row_weight k ≡ body_weight (items-the_row-Goal n k)
weigh_row end_of-Goal = refl
weigh_row (more_of-Goal g others) = ap (λ w. weight g + w) (weigh_row others)

weigh_rows : {n : _} (k : Row_of-Goal-Either-0-1 n) → rows_weight k ≡ lists_weight (items-the_row-Goal-Either-0-1 n k)
weigh_rows end_of-Goal-Either-0-1 = refl
weigh_rows (more_of-Goal-Either-0-1 s goals others) = summed (weigh_row goals ∙ ap body_weight (sym (items_shown-the_row-Goal-0 s goals))) (weigh_rows others)

-- ## A goal, by what it is made of

abbrev pub plain_layer : List Bool → part.Goal-F Goal → Bool
plain_layer set x = is_plain_form set x && inside_plain set x

abbrev pub layer_weight : part.Goal-F Goal → ℕ
layer_weight x = 1 + inside_weight x

pub and_true : (b : Bool) → (b && true) ≡ b
and_true true = refl
and_true false = refl

pub plain_out : (set : List Bool) (g : Goal) → is_plain set g ≡ plain_layer set (out-Goal g)
unfolding out-Goal out
plain_out set (If' s a t b u c) =
    both (plain_row set b ∙ ap (are_plain set) (sym (items_shown-the_row-Goal-0 t b))) (plain_row set c ∙ ap (are_plain set) (sym (items_shown-the_row-Goal-0 u c)))
plain_out set (Select' site mode s k) = plain_rows set k ∙ ap (all_plain set) (sym (items_shown-the_row-Goal-Either-0-1-1 s k))
plain_out set (Either' s k) = refl
plain_out set (Once' s k) = refl
plain_out set (Not' s k) = refl
plain_out set (Exhaust' s k) = refl
plain_out set (Collect' x s k y) = refl
plain_out set (Accumulate' x s k y) = refl
plain_out set (Stoppable' s k) = refl
plain_out set g = sym (and_true (is_plain_form set (out-Goal g)))

pub weight_out : (g : Goal) → weight g ≡ layer_weight (out-Goal g)
unfolding out-Goal out
weight_out (If' s a t b u c) =
    added (weigh_row b ∙ ap body_weight (sym (items_shown-the_row-Goal-0 t b))) (weigh_row c ∙ ap body_weight (sym (items_shown-the_row-Goal-0 u c)))
weight_out (Select' site mode s k) = ap (λ w. 1 + w) (weigh_rows k ∙ ap lists_weight (sym (items_shown-the_row-Goal-Either-0-1-1 s k)))
weight_out (Either' s k) = refl
weight_out (Once' s k) = refl
weight_out (Not' s k) = refl
weight_out (Exhaust' s k) = refl
weight_out (Collect' x s k y) = refl
weight_out (Accumulate' x s k y) = refl
weight_out (Stoppable' s k) = refl
weight_out g = refl

-- ## The last goal of a body

pub or_true : (b : Bool) → (b || true) ≡ true
or_true true = refl
or_true false = refl

pub or_none : (b : Bool) → (b || false) ≡ b
or_none true = refl
or_none false = refl

pub and_assoc : (a b c : Bool) → ((a && b) && c) ≡ (a && (b && c))
and_assoc true b c = refl
and_assoc false b c = refl

pub and_turned : (a b : Bool) → (a && b) ≡ (b && a)
and_turned true b = sym (and_true b)
and_turned false true = refl
and_turned false false = refl

just_plain : (set : List Bool) (x : part.Goal-F Goal) → is_just x ≡ true → plain_layer set x ≡ true
just_plain set part.Just h = refl
just_plain set _ h = absurd (cc (h))

just_behind : (gs : List Goal) (g : Goal) (b : Bool) → is_just (out-Goal g) ≡ b → has_just (gs ++ g ∷ []) ≡ (has_just gs || b)
just_behind [] g b e = ap (λ x. x || false) e ∙ or_none b
just_behind (x ∷ gs) g b e = elim (is_just (out-Goal x)) as (λ y. (y || has_just (gs ++ g ∷ [])) ≡ ((y || has_just gs) || b)) [ true ↦ refl | false ↦ just_behind gs g b e ]

-- behind a (just) nothing before it counts
pub plain_just : (set : List Bool) (gs : List Goal) (g : Goal) → is_just (out-Goal g) ≡ true → are_plain set (gs ++ g ∷ []) ≡ true
plain_just set [] g h = plain_out set g ∙ just_plain set (out-Goal g) h
plain_just set (x ∷ gs) g h =
    ap (λ b. b && (has_just (gs ++ g ∷ []) || is_plain set x)) (plain_just set gs g h) ∙ ap (λ b. b || is_plain set x) (just_behind gs g true h ∙ or_true (has_just gs))

pub plain_last : (set : List Bool) (gs : List Goal) (g : Goal) → is_just (out-Goal g) ≡ false → are_plain set (gs ++ g ∷ []) ≡ (is_plain set g && are_plain set gs)
plain_last set [] g h = sym (and_true (is_plain set g))
plain_last set (x ∷ gs) g h =
    ap (λ b. b && (has_just (gs ++ g ∷ []) || is_plain set x)) (plain_last set gs g h)
    ∙ ap (λ b. (is_plain set g && are_plain set gs) && (b || is_plain set x)) (just_behind gs g false h ∙ or_none (has_just gs))
    ∙ and_assoc (is_plain set g) (are_plain set gs) (has_just gs || is_plain set x)

pub weight_last : (gs : List Goal) (g : Goal) → body_weight (gs ++ g ∷ []) ≡ weight g + body_weight gs
weight_last [] g = refl
weight_last (x ∷ gs) g = omega (arith, weight_last gs g)

-- ## What is left

pub left_append : (set : List Bool) (xs ys : List (Bor (List Goal))) → left_plain set (xs ++ ys) ≡ (left_plain set xs && left_plain set ys)
left_append set [] ys = refl
left_append set (x ∷ xs) ys = ap (λ b. are_plain set x.now && b) (left_append set xs ys) ∙ sym (and_assoc (are_plain set x.now) (left_plain set xs) (left_plain set ys))

pub weight_append : (xs ys : List (Bor (List Goal))) → left_weight (xs ++ ys) ≡ left_weight xs + left_weight ys
weight_append [] ys = omega arith
weight_append (x ∷ xs) ys = omega (arith, weight_append xs ys)

pub weight_some : (gs : List Goal) → 0 < body_weight gs
weight_some [] = omega arith
weight_some (g ∷ gs) = omega (arith, weight_some gs)

-- ## The last goal of a list

pub split_last : (gs : List Goal) (x : Goal) → 1 ≤ length gs → x ≡ get_or gs (length gs - 1) x → gs ≡ take (length gs - 1) gs ++ x ∷ []
split_last gs x some is =
    let k = length gs - 1 in
    let e : k + 1 ≡ length gs = omega arith in
    sym (take_all (length gs) gs (omega arith)) ∙ ap (λ n. take n gs) (sym e) ∙ take_more gs k x (omega arith) ∙ ap (λ y. take k gs ++ y ∷ []) (sym is)

pub looked_plain : (set : List Bool) (gs : List Goal) (x : Goal) → 1 ≤ length gs → x ≡ get_or gs (length gs - 1) x → is_just (out-Goal x) ≡ false → are_plain set gs ≡ (plain_layer set (out-Goal x) && are_plain set (take (length gs - 1) gs))
looked_plain set gs x some is h =
    let others = take (length gs - 1) gs in
    ap (are_plain set) (split_last gs x some is) ∙ plain_last set others x h ∙ ap (λ b. b && are_plain set others) (plain_out set x)

pub looked_just : (set : List Bool) (gs : List Goal) (x : Goal) → 1 ≤ length gs → x ≡ get_or gs (length gs - 1) x → is_just (out-Goal x) ≡ true → are_plain set gs ≡ true
looked_just set gs x some is h = ap (are_plain set) (split_last gs x some is) ∙ plain_just set (take (length gs - 1) gs) x h

pub looked_weight : (gs : List Goal) (x : Goal) → 1 ≤ length gs → x ≡ get_or gs (length gs - 1) x → body_weight gs ≡ layer_weight (out-Goal x) + body_weight (take (length gs - 1) gs)
looked_weight gs x some is =
    let others = take (length gs - 1) gs in
    ap body_weight (split_last gs x some is) ∙ weight_last others x ∙ ap (λ n. n + body_weight others) (weight_out x)

-- what else is added to what is left
abbrev pub Behind : (xs ys : List (Bor (List Goal))) (gs : List Goal) → Type 0
Behind xs ys gs = (b : Bor (List Goal)) × (ys ≡ xs ++ b ∷ []) × (b.now ≡ gs)

pub behind_plain : (set : List Bool) (xs ys : List (Bor (List Goal))) (gs : List Goal) → Behind xs ys gs → left_plain set ys ≡ (left_plain set xs && are_plain set gs)
behind_plain set xs ys gs h =
    ap (left_plain set) h.1 ∙ left_append set xs (h.0 ∷ []) ∙ ap (λ b. left_plain set xs && b) (and_true (are_plain set h.0.now)) ∙ ap (λ l. left_plain set xs && are_plain set l) h.2

pub behind_weight : (xs ys : List (Bor (List Goal))) (gs : List Goal) → Behind xs ys gs → left_weight ys ≡ left_weight xs + body_weight gs
behind_weight xs ys gs h = let e = ap left_weight h.1 in let n = ap body_weight h.2 in omega (arith, e, n, weight_append xs (h.0 ∷ []))

-- what one goal adds: the goals before it, and the lists that it goes on with
pub looked_left : (set : List Bool) (l a : List (Bor (List Goal))) (new : Bool) (whole others : List Goal) (fits inner : Bool) → are_plain set whole ≡ ((fits && inner) && are_plain set others) → Behind l a others → new ≡ (left_plain set a && inner) → (are_plain set whole && left_plain set l) ≡ (fits && new)
looked_left set l a new whole others fits inner e h k =
    ap (λ x. x && left_plain set l) e ∙ shuffled fits inner (are_plain set others) (left_plain set l) ∙ ap (λ x. fits && x) (sym (k ∙ ap (λ x. x && inner) (behind_plain set l a others h)))
  where
    shuffled : (f o r l : Bool) → (((f && o) && r) && l) ≡ (f && ((l && r) && o))
    shuffled false o r l = refl
    shuffled true false false false = refl
    shuffled true false false true = refl
    shuffled true false true false = refl
    shuffled true false true true = refl
    shuffled true true false false = refl
    shuffled true true false true = refl
    shuffled true true true false = refl
    shuffled true true true true = refl
