-- Where what an item becomes isn't too large, its variables are few.
use Rattle.std.proofs.Common.{◌≡◌, ◌≤◌, ℕ, List, [], ◌∷◌, ◌||◌, Bool, true, false, nat_lt, arith}
use Rattle.std.specs.List.{All, list_any}
use Rattle.std.proofs.lemmas.Bool.{or_parts}
use Rattle.std.proofs.lemmas.Bool.Decides.{nat_tests}
use Rattle.std.proofs.lemmas.List.Elements.{All-nil, All-cons}
use Rattle.dg_base.specs.Tree.{Said, Item}
use Rattle.dg_base.specs.Mentions.{Mentions, things, closures, names_in, weight_of, variable_in}
use Rattle.dg_scopes.specs.Counts.{variables_among, is_overfull, counted_of, counted_among, has_many_variables, any_has_many, queries_at}
use Rattle.dg_scopes.specs.Few.{AreFew, HasFewVariables, SmallAreFew}

not_over : (k : ℕ) → nat_lt 64 k ≡ false → k ≤ 64
not_over k h = grind (arith, nat_tests, h)

all_few : (all : List (List ℕ)) (inner : List Mentions) → list_any (is_overfull all) inner ≡ false → All (AreFew all) inner
all_few all [] h = All-nil (AreFew all)
all_few all (ms ∷ inner) h =
    let each = or_parts (is_overfull all ms) (list_any (is_overfull all) inner) h in
    All-cons (AreFew all) ms inner (not_over (variables_among all ms) each.0) (all_few all inner each.1)

variables_few : (said : Said) → has_many_variables said ≡ false → HasFewVariables said
variables_few said h =
    let ms = counted_of said in
    let all = names_in variable_in (things ms) in
    let each = or_parts (is_overfull all ms) (list_any (is_overfull all) (closures ms)) h in
    (not_over (variables_among all ms) each.0, all_few all (closures ms) each.1)

any_few : (is : List Item) → any_has_many is ≡ false → All (λ (i : Item). HasFewVariables i.said) is
any_few [] e = All-nil (λ (i : Item). HasFewVariables i.said)
any_few (i ∷ is) e =
    let each = or_parts (has_many_variables i.said) (any_has_many is) e in
    All-cons (λ (j : Item). HasFewVariables j.said) i is (variables_few i.said each.0) (any_few is each.1)

pub small_few : (is : List Item) → SmallAreFew is
small_few is e = any_few is (or_parts (nat_lt 10000 (weight_of queries_at (counted_among is))) (any_has_many is) e).1
