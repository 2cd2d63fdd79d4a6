-- What bodies and terms count, by their parts.
use Rattle.std.proofs.Common.{◌≡◌, ℕ, ◌+◌, ◌-◌, ◌*◌, ◌≤◌, length, take, get_or, List, [], ◌∷◌, ◌++◌, refl, sym, ap, ◌∙◌, arith, length-append}
use Rattle.std.specs.List.{flat_map}
use Rattle.std.proofs.lemmas.List.{take_more, take_all}
use Rattle.dg_base.specs.declared.program.Goal.{Goal, out-Goal}
use Rattle.dg_base.specs.declared.program.Goal.TheOpen as part
use Rattle.dg_base.specs.declared.program.Term.{Term}
use Rattle.dg_base.specs.declared.program.Term.TheVariants as term
use Rattle.dg_base.specs.declared.program.Term.TheBlock.{hidden-the_row-Term-0}
use Rattle.dg_base.specs.Terms.{nodes}
use Rattle.dg_base.specs.Goals.{goals_within, all_goals_of}
use Rattle.dg_base.proofs.NodeLemmas.{inside, within_out}
use Rattle.dg_story.specs.declared.counting.Left.{Left}
use Rattle.dg_fits.specs.Sizes.{term_size, lists_held, goals_size, body_size, words_size}
use Rattle.dg_story.specs.inside.Counting.{left_size, lists_size, whole_size}

pub left_append : (xs ys : List Left) → left_size (xs ++ ys) ≡ left_size xs + left_size ys
left_append [] ys = omega arith
left_append (x ∷ xs) ys = omega (arith, left_append xs ys)

goals_append : (xs ys : List Goal) → goals_size (xs ++ ys) ≡ goals_size xs + goals_size ys
goals_append [] ys = omega arith
goals_append (x ∷ xs) ys = omega (arith, goals_append xs ys)

-- the goals in lists, with a node for each list
lists_inside : (lists : List (List Goal)) → goals_size (flat_map all_goals_of lists) + 100 * length lists ≡ lists_size lists
lists_inside [] = refl
lists_inside (gs ∷ lists) = omega (arith, goals_append (all_goals_of gs) (flat_map all_goals_of lists), lists_inside lists)

alone : (gs : List Goal) → goals_size (all_goals_of gs) + 100 * 1 ≡ lists_size (gs ∷ [])
alone gs = omega arith

three : (a b c : List Goal) → goals_size (all_goals_of a ++ all_goals_of b ++ all_goals_of c) + 100 * 3 ≡ lists_size (a ∷ b ∷ c ∷ [])
three a b c = omega (arith, goals_append (all_goals_of a ++ all_goals_of b) (all_goals_of c), goals_append (all_goals_of a) (all_goals_of b))

inside_size : (layer : part.Goal-F Goal) → goals_size (inside layer) + 100 * length (lists_held layer) ≡ lists_size (lists_held layer)
inside_size (part.Either lists) = lists_inside lists
inside_size (part.Once goals) = alone goals
inside_size (part.Not goals) = alone goals
inside_size (part.If a b c) = three a b c
inside_size (part.Exhaust goals) = alone goals
inside_size (part.Collect x goals y) = alone goals
inside_size (part.Accumulate x goals y) = alone goals
inside_size (part.Stoppable goals) = alone goals
inside_size (part.Select site mode lists) = lists_inside lists
inside_size layer = refl

pub whole_is : (x : Goal) → goals_size (goals_within x) ≡ whole_size (out-Goal x)
whole_is x =
    let e = ap goals_size (within_out x) in
    let i = inside_size (out-Goal x) in
    omega (arith, e, i)

body_append : (gs hs : List Goal) → body_size (gs ++ hs) ≡ body_size gs + body_size hs
body_append [] hs = omega arith
body_append (g ∷ gs) hs =
    let a = goals_append (goals_within g) (all_goals_of (gs ++ hs)) in
    let b = goals_append (goals_within g) (all_goals_of gs) in
    omega (arith, a, b, body_append gs hs)

body_one : (x : Goal) → body_size (x ∷ []) ≡ whole_size (out-Goal x)
body_one x = let a = goals_append (goals_within x) [] in omega (arith, a, whole_is x)

pub split_last : (gs : List Goal) (x : Goal) → 1 ≤ length gs → x ≡ get_or gs (length gs - 1) x → gs ≡ take (length gs - 1) gs ++ x ∷ []
split_last gs x some is =
    let k = length gs - 1 in
    let e : k + 1 ≡ length gs = omega arith in
    sym (take_all (length gs) gs (omega arith)) ∙ ap (λ n. take n gs) (sym e) ∙ take_more gs k x (omega arith) ∙ ap (λ y. take k gs ++ y ∷ []) (sym is)

pub last_size : (gs : List Goal) (x : Goal) → 1 ≤ length gs → x ≡ get_or gs (length gs - 1) x → body_size gs ≡ whole_size (out-Goal x) + body_size (take (length gs - 1) gs)
last_size gs x some is =
    let e = ap body_size (split_last gs x some is) in
    let a = body_append (take (length gs - 1) gs) (x ∷ []) in
    omega (arith, e, a, body_one x)

nodes_are : (h t : Term) → nodes (term.Pair h t) ≡ term.Pair h t ∷ ((nodes h ++ []) ++ (nodes t ++ []))
unfolding hidden-the_row-Term-0 denote.Hole.Carrier.hidden
nodes_are h t = refl

pub size_pair : (h t : Term) → term_size (term.Pair h t) ≡ 100 + (term_size h + term_size t)
size_pair h t =
    omega (
      arith,
      ap length (nodes_are h t),
      length-append (nodes h ++ []) (nodes t ++ []),
      length-append (nodes h) [],
      length-append (nodes t) [],
    )

-- Words count at least 3 each.
pub words_many : (words : List (List ℕ)) → 3 * length words ≤ words_size words
words_many [] = omega arith
words_many (word ∷ words) = omega (arith, words_many words)
