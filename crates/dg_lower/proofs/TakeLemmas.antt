-- The next rule of a predicate is taken off the front of its list.
use Rattle.std.proofs.Common.{◌≡◌, ◌<◌, ◌≤◌, ◌==◌, ℕ, zero, suc, Bool, true, List, [], ◌∷◌, length, get_or, drop, take, refl, sym, ◌∙◌, ap, arith}
use Rattle.std.specs.Borrow.{Bor}
use Rattle.std.proofs.Math.ListN.{set}
use Rattle.std.proofs.lemmas.Bool.Decides.{nat_tests}
use Rattle.std.proofs.lemmas.List.{length-map, get_or-map, map-set, set-get_or}
use Rattle.dg_base.specs.declared.program.Rule.{Rule}
use Rattle.dg_lower.specs.inside.Left.{rules_view, next_at, taken_at}

next_past : (k : ℕ) (rows : List (List Rule)) → length rows ≤ k → next_at k rows ≡ []
next_past k [] h = refl
next_past zero (rules ∷ rows) h = absurd (omega (arith, h))
next_past (suc k) (rules ∷ rows) h = next_past k rows (omega (arith, h))

taken_past : (k : ℕ) (rows : List (List Rule)) → length rows ≤ k → taken_at k rows ≡ rows
taken_past k [] h = refl
taken_past zero (rules ∷ rows) h = absurd (omega (arith, h))
taken_past (suc k) (rules ∷ rows) h = ap (λ (l : List (List Rule)). rules ∷ l) (taken_past k rows (omega (arith, h)))

next_within : (k : ℕ) (rows : List (List Rule)) (d : List Rule) → k < length rows → next_at k rows ≡ take 1 (get_or rows k d)
next_within k [] d h = absurd (omega (arith, h))
next_within zero (rules ∷ rows) d h = refl
next_within (suc k) (rules ∷ rows) d h = next_within k rows d (omega (arith, h))

taken_within : (k : ℕ) (rows : List (List Rule)) (d : List Rule) → k < length rows → taken_at k rows ≡ set rows k (drop 1 (get_or rows k d))
taken_within k [] d h = absurd (omega (arith, h))
taken_within zero (rules ∷ rows) d h = refl
taken_within (suc k) (rules ∷ rows) d h = ap (λ (l : List (List Rule)). rules ∷ l) (taken_within k rows d (omega (arith, h)))

-- ---- rules that are lent

abbrev lent : Bor (List Rule) → List Rule
lent rules = rules.now

at_lent : (rows : List (Bor (List Rule))) (k : ℕ) (x : Bor (List Rule)) → k < length rows → x ≡ get_or rows k x → get_or (rules_view rows) k [] ≡ x.now
at_lent rows k x below read = get_or-map lent rows k x [] below ∙ ap lent (sym read)

many_lent : (rows : List (Bor (List Rule))) (k : ℕ) → k < length rows → k < length (rules_view rows)
many_lent rows k below = omega (arith, below, length-map rows lent)

pub none_next : (rows : List (Bor (List Rule))) (k : ℕ) → length rows ≤ k → [] ≡ next_at k (rules_view rows)
none_next rows k past = sym (next_past k (rules_view rows) (omega (arith, past, length-map rows lent)))

pub none_taken : (rows : List (Bor (List Rule))) (k : ℕ) → length rows ≤ k → rules_view rows ≡ taken_at k (rules_view rows)
none_taken rows k past = sym (taken_past k (rules_view rows) (omega (arith, past, length-map rows lent)))

pub next_lent : (rows : List (Bor (List Rule))) (k : ℕ) (x : Bor (List Rule)) → k < length rows → x ≡ get_or rows k x → take 1 x.now ≡ next_at k (rules_view rows)
next_lent rows k x below read = ap (take 1) (sym (at_lent rows k x below read)) ∙ sym (next_within k (rules_view rows) [] (many_lent rows k below))

pub taken_lent : (rows : List (Bor (List Rule))) (k : ℕ) (x y : Bor (List Rule)) → k < length rows → x ≡ get_or rows k x → y.now ≡ drop 1 x.now → rules_view (set rows k y) ≡ taken_at k (rules_view rows)
taken_lent rows k x y below read left =
    map-set lent rows k y
    ∙ ap (set (rules_view rows) k) (left ∙ ap (drop 1) (sym (at_lent rows k x below read)))
    ∙ sym (taken_within k (rules_view rows) [] (many_lent rows k below))

-- a list without a rule

is_zero : (n : ℕ) → (n == 0) ≡ true → n ≡ 0
is_zero n e = grind (arith, nat_tests, e)

pub no_rule : (rules : List Rule) (none : Bool) → none ≡ (length rules == 0) → none ≡ true → rules ≡ []
no_rule [] none is e = refl
no_rule (r ∷ rules) none is e = let no : suc (length rules) ≡ 0 = is_zero (suc (length rules)) (sym is ∙ e) in absurd (omega (arith, no))

pub no_next : (rows : List (Bor (List Rule))) (k : ℕ) (x : Bor (List Rule)) → k < length rows → x ≡ get_or rows k x → x.now ≡ [] → x.now ≡ next_at k (rules_view rows)
no_next rows k x below read none =
    none ∙ ap (take 1) (sym none) ∙ next_lent rows k x below read

pub no_taken : (rows : List (Bor (List Rule))) (k : ℕ) (x : Bor (List Rule)) → k < length rows → x ≡ get_or rows k x → x.now ≡ [] → rules_view rows ≡ taken_at k (rules_view rows)
no_taken rows k x below read none =
    sym (set-get_or (rules_view rows) k [])
    ∙ ap (set (rules_view rows) k) (at_lent rows k x below read ∙ none ∙ ap (drop 1) (sym (at_lent rows k x below read ∙ none)))
    ∙ sym (taken_within k (rules_view rows) [] (many_lent rows k below))
