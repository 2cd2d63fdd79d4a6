-- What is counted of items one by one is what is counted of them together.
use Rattle.std.proofs.Common.{◌≡◌, ◌+◌, ◌||◌, ℕ, List, [], ◌∷◌, ◌++◌, Bool, nat_lt, refl, sym, ◌∙◌, ap, append_assoc, arith}
use Rattle.dg_base.specs.Tree.{Item}
use Rattle.dg_base.specs.Mentions.{Thing, things, weight_of}
use Rattle.dg_base.proofs.MentionLemmas.{weight_append}
use Rattle.dg_names.specs.Counts.{closures_at, selects_at}
use Rattle.dg_scopes.specs.Counts.{thing_rules, nodes_at, counted_of, counted_among, are_over}
use Rattle.dg_scopes.specs.Scopes.{Counted, counted, uncounted, counts_of, has_many}

abbrev make : ℕ → ℕ → ℕ → ℕ → Counted
make r c s n = record { rules = r; closures = c; selects = s; nodes = n }

same_counts : (r r' c c' s s' n n' : ℕ) → r ≡ r' → c ≡ c' → s ≡ s' → n ≡ n' → make r c s n ≡ make r' c' s' n'
same_counts r r' c c' s s' n n' re ce se ne =
    ap (λ (x : ℕ). make x c s n) re
    ∙ ap (λ (x : ℕ). make r' x s n) ce
    ∙ ap (λ (x : ℕ). make r' c' x n) se
    ∙ ap (λ (x : ℕ). make r' c' s' x) ne

weight_on : (f : Thing → ℕ) (k : ℕ) (a b : List Thing) → k + weight_of f (a ++ b) ≡ (k + weight_of f a) + weight_of f b
weight_on f k a b = omega (arith, weight_append f a b)

pub counted_append : (a b : List Thing) (c : Counted) → counted (a ++ b) c ≡ counted b (counted a c)
counted_append a b c = same_counts _ _ _ _ _ _ _ _
    (weight_on thing_rules c.rules a b) (weight_on closures_at c.closures a b) (weight_on selects_at c.selects a b) (weight_on nodes_at c.nodes a b)

none_before : (k : ℕ) → 0 + k ≡ k
none_before k = omega arith

pub many_same : (is : List Item) → has_many (counts_of is) ≡ are_over is
many_same is =
    ap has_many (same_counts _ _ _ _ _ _ _ _
    (none_before (weight_of thing_rules (counted_among is))) (none_before (weight_of closures_at (counted_among is)))
    (none_before (weight_of selects_at (counted_among is))) (none_before (weight_of nodes_at (counted_among is))))

-- ---- several items more

among_append : (before is : List Item) → counted_among (before ++ is) ≡ counted_among before ++ counted_among is
among_append [] is = refl
among_append (j ∷ before) is =
    ap (λ (l : List Thing). things (counted_of j.said) ++ l) (among_append before is)
    ∙ sym (append_assoc (things (counted_of j.said)) (counted_among before) (counted_among is))

-- what is counted behind these items is counted of all
pub counted_behind : (before is : List Item) → counted (counted_among is) (counts_of before) ≡ counts_of (before ++ is)
counted_behind before is = sym (ap (λ (l : List Thing). counted l uncounted) (among_append before is) ∙ counted_append (counted_among before) (counted_among is) uncounted)

-- the counts behind these items, of what was counted before
pub counts_added : (c d : Counted) (before is : List Item) → d ≡ counted (counted_among is) c → c ≡ counts_of before → d ≡ counts_of (before ++ is)
counts_added c d before is e f = e ∙ ap (counted (counted_among is)) f ∙ counted_behind before is

pub passes_added : (c d : Counted) (before is : List Item) → d ≡ counted (counted_among is) c → c ≡ counts_of before → has_many d ≡ are_over (before ++ is)
passes_added c d before is e f = ap has_many (counts_added c d before is e f) ∙ many_same (before ++ is)
