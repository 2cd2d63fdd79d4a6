-- There are too many variables along the mentions of an item exactly where a rule or a closure has too many.
use Rattle.std.proofs.Common.{◌≡◌, ◌+◌, ◌≤◌, ◌||◌, ℕ, List, [], ◌∷◌, ◌++◌, Bool, true, false, length, nat_lt, refl, sym, ◌∙◌, ap, subst, append_assoc, arith}
use Rattle.std.specs.Prelude.{if◌then◌else◌, codes, Result, IfOk}
use Rattle.std.specs.declared.alloc.AllocError.{AllocError}
use Rattle.dg_base.specs.Tree.{Said}
use Rattle.std.specs.List.{list_any}
use Rattle.std.specs.Str.{bytes_eq}
use Rattle.std.proofs.lemmas.List.Folds.{list_any-append}
use Rattle.std.proofs.lemmas.Grind.{common_steps}
use Rattle.dg_base.specs.Mentions.{Thing, topic_line, query, number, word, object, current_topic, unnamed, variable, word_choice, text, other, branches, select, closure, Mentions, nothing, thing, closed, of_said, things, things_in, closures, names_in, weight_of}
use Rattle.dg_base.specs.Walk.{Met, closes, walk, things_at}
use Rattle.dg_base.proofs.MentionLemmas.{names_append, weight_append}
use Rattle.dg_names.specs.Counts.{counted_in, shared_at, own_in, is_full, is_excess, has_excess}
use Rattle.dg_names.specs.Scopes.{with_name, with_names, Scope, no_variables, is_over, after, merged, grown, passes}
use Rattle.dg_names.proofs.FirstLemmas.{firsts_of, with_append, with_again, longer}

-- a scope never loses a variable
more_over : (a b : ℕ) → a ≤ b → nat_lt 64 a ≡ true → nat_lt 64 b ≡ true
more_over a b le full = grind (arith, common_steps, full)

over_grown : (s : Scope) (ms : Mentions) → is_over s ≡ true → is_over (grown s ms) ≡ true
over_grown s ms = more_over (length s.names + (s.own + s.shared)) (length (grown s ms).names + ((grown s ms).own + (grown s ms).shared)) (omega (arith, longer s.names (names_in counted_in (things ms))))

-- ---- a scope behind one mention, and then others

abbrev make : List (List ℕ) → ℕ → ℕ → Scope
make names own shared = record { names = names; own = own; shared = shared }

named_if : (b : Bool) (s : Scope) (n : List ℕ) (ms : Mentions) → grown (if b then s else make (with_name s.names n) s.own s.shared) ms ≡ make (with_names s.names ((if b then [] else n ∷ []) ++ names_in counted_in (things ms))) (s.own + own_in ms) (s.shared + weight_of shared_at (things ms))
named_if true s n ms = refl
named_if false s n ms = refl

-- the same with other sums
same_scope : (names : List (List ℕ)) (a a' b b' : ℕ) → a ≡ a' → b ≡ b' → make names a b ≡ make names a' b'
same_scope names a a' b b' e f = ap (λ (k : ℕ). make names k b) e ∙ ap (make names a') f

still : (names : List (List ℕ)) (s : Scope) (ms : Mentions) → make names (s.own + own_in ms) (s.shared + weight_of shared_at (things ms)) ≡ make names (s.own + (own_in ms + 0)) (s.shared + (weight_of shared_at (things ms) + 0))
still names s ms = same_scope names _ _ _ _ (omega arith) (omega arith)

own_more : (s : Scope) (ms : Mentions) → grown (after (unnamed false) s) ms ≡ grown s (thing (unnamed false) ms)
own_more s ms = same_scope (with_names s.names (names_in counted_in (things ms))) _ _ _ _ (omega arith) (omega arith)

shared_more : (s : Scope) (ms : Mentions) → grown (after (unnamed true) s) ms ≡ grown s (thing (unnamed true) ms)
shared_more s ms = same_scope (with_names s.names (names_in counted_in (things ms))) _ _ _ _ (omega arith) (omega arith)

after_grown : (t : Thing) (s : Scope) (ms : Mentions) → grown (after t s) ms ≡ grown s (thing t ms)
after_grown (variable n) s ms = named_if (bytes_eq n (codes "_")) s n ms ∙ still (with_names s.names ((if bytes_eq n (codes "_") then [] else n ∷ []) ++ names_in counted_in (things ms))) s ms
after_grown (unnamed false) s ms = own_more s ms
after_grown (unnamed true) s ms = shared_more s ms
after_grown (word_choice ws) s ms = shared_more s ms
after_grown (topic_line n) s ms = still (with_names s.names (names_in counted_in (things ms))) s ms
after_grown (query r ps) s ms = still (with_names s.names (names_in counted_in (things ms))) s ms
after_grown (number n) s ms = still (with_names s.names (names_in counted_in (things ms))) s ms
after_grown (word n) s ms = still (with_names s.names (names_in counted_in (things ms))) s ms
after_grown (object n) s ms = still (with_names s.names (names_in counted_in (things ms))) s ms
after_grown current_topic s ms = still (with_names s.names (names_in counted_in (things ms))) s ms
after_grown (text n) s ms = still (with_names s.names (names_in counted_in (things ms))) s ms
after_grown (other f) s ms = still (with_names s.names (names_in counted_in (things ms))) s ms
after_grown (branches n) s ms = still (with_names s.names (names_in counted_in (things ms))) s ms
after_grown (select n) s ms = still (with_names s.names (names_in counted_in (things ms))) s ms
after_grown closure s ms = still (with_names s.names (names_in counted_in (things ms))) s ms

closure_more : (s : Scope) (inner ms : Mentions) → grown (merged s (grown no_variables inner)) ms ≡ grown s (closed inner ms)
closure_more s inner ms =
    ap (λ (l : List (List ℕ)). make l (s.own + own_in ms) ((s.shared + (0 + weight_of shared_at (things inner))) + weight_of shared_at (things ms)))
    (ap (λ (l : List (List ℕ)). with_names l (names_in counted_in (things ms))) (with_again s.names [] (names_in counted_in (things inner)))
    ∙ sym (with_append s.names (names_in counted_in (things inner)) (names_in counted_in (things ms)))
    ∙ ap (with_names s.names) (sym (names_append counted_in (things inner) (things ms))))
    ∙ same_scope (with_names s.names (names_in counted_in (things inner ++ things ms))) (s.own + own_in ms) (s.own + own_in ms) ((s.shared + (0 + weight_of shared_at (things inner))) + weight_of shared_at (things ms)) (s.shared + (weight_of shared_at (things inner ++ things ms) + 0)) refl
    (omega (arith, weight_append shared_at (things inner) (things ms)))

pub full_over : (inner : Mentions) → is_full inner ≡ is_over (grown no_variables inner)
full_over inner =
    ap (λ (l : List (List ℕ)). nat_lt 64 (length l + (own_in inner + weight_of shared_at (things inner)))) (sym (firsts_of (names_in counted_in (things inner))))
    ∙ ap (λ (k : ℕ). nat_lt 64 (length (with_names [] (names_in counted_in (things inner))) + k)) (omega arith)

-- ---- tests in a row

one_test : (f g a r o : Bool) → (f ≡ false → o ≡ (g || (a || r))) → (f ≡ true → g ≡ true) → (f || o) ≡ (g || (a || r))
one_test true g a r o on up = ap (λ (y : Bool). y || (a || r)) (sym (up refl))
one_test false g a r o on up = on refl

two_tests : (x c f g a r o : Bool) → (f ≡ false → o ≡ (g || (a || r))) → (f ≡ true → g ≡ true) → (x || (c || (f || o))) ≡ (g || ((x || (c || a)) || r))
two_tests true c f true a r o on up = refl
two_tests true c f false a r o on up = refl
two_tests false true f true a r o on up = refl
two_tests false true f false a r o on up = refl
two_tests false false true g a r o on up = ap (λ (y : Bool). y || (a || r)) (sym (up refl))
two_tests false false false g a r o on up = on refl

passes_walk : (ms : Mentions) (s : Scope) (outer : List Scope) (rest : List Met) → is_over s ≡ false → passes (walk ms ++ rest) s outer ≡ (is_over (grown s ms) || (list_any is_full (closures ms) || passes rest (grown s ms) outer))
passes_walk nothing s outer rest e =
    ap (λ (b : Bool). b || passes rest s outer) (sym e)
    ∙ ap (λ (x : Scope). is_over x || passes rest x outer) (same_scope s.names s.own (s.own + 0) s.shared (s.shared + 0) (omega arith) (omega arith))
passes_walk (thing t ms) s outer rest e =
    one_test (is_over (after t s)) (is_over (grown (after t s) ms)) (list_any is_full (closures ms)) (passes rest (grown (after t s) ms) outer) (passes (walk ms ++ rest) (after t s) outer)
    (passes_walk ms (after t s) outer rest) (over_grown (after t s) ms)
    ∙ ap (λ (x : Scope). is_over x || (list_any is_full (closures ms) || passes rest x outer)) (after_grown t s ms)
passes_walk (closed inner ms) s outer rest e =
    let s' : Scope = merged s (grown no_variables inner) in
    ap (λ (l : List Met). passes l no_variables (s ∷ outer)) (append_assoc (walk inner) (closes ∷ walk ms) rest)
    ∙ passes_walk inner no_variables (s ∷ outer) (closes ∷ (walk ms ++ rest)) refl
    ∙ two_tests (is_over (grown no_variables inner)) (list_any is_full (closures inner)) (is_over s') (is_over (grown s' ms)) (list_any is_full (closures ms)) (passes rest (grown s' ms) outer) (passes (walk ms ++ rest) s' outer) (passes_walk ms s' outer rest) (over_grown s' ms)
    ∙ ap (λ (b : Bool). is_over (grown s' ms) || ((b || (list_any is_full (closures inner) || list_any is_full (closures ms))) || passes rest (grown s' ms) outer)) (sym (full_over inner))
    ∙ ap (λ (b : Bool). is_over (grown s' ms) || ((is_full inner || b) || passes rest (grown s' ms) outer)) (sym (list_any-append is_full (closures inner) (closures ms)))
    ∙ ap (λ (x : Scope). is_over x || ((is_full inner || list_any is_full (closures inner ++ closures ms)) || passes rest x outer)) (closure_more s inner ms)

nil_behind : (xs : List Met) → xs ++ [] ≡ xs
nil_behind [] = refl
nil_behind (x ∷ xs) = ap (λ (l : List Met). x ∷ l) (nil_behind xs)

or_false : (b : Bool) → (b || false) ≡ b
or_false true = refl
or_false false = refl

-- the whole of an item
pub item_passes : (ms : Mentions) (l : List Met) → l ≡ walk ms → passes l no_variables [] ≡ (is_full ms || list_any is_full (closures ms))
item_passes ms l e =
    ap (λ (k : List Met). passes k no_variables []) (e ∙ sym (nil_behind (walk ms)))
    ∙ passes_walk ms no_variables [] [] refl
    ∙ ap (λ (b : Bool). is_over (grown no_variables ms) || b) (or_false (list_any is_full (closures ms)))
    ∙ ap (λ (b : Bool). b || list_any is_full (closures ms)) (sym (full_over ms))

-- the answer of an item that mentions nothing in excess
pub item_over : (r : Result Bool AllocError) (said : Said) (l : List Met) (b : Bool) → l ≡ walk (of_said said) → things_at l ≡ things_in said → b ≡ list_any is_excess (things_at l) → b ≡ false → IfOk r (λ (many : Bool). many ≡ passes l no_variables []) → IfOk r (λ (over : Bool). over ≡ has_excess said)
item_over r said l b e all excess none is =
    subst (λ (x : Bool). IfOk r (λ (over : Bool). over ≡ x))
    (item_passes (of_said said) l e
    ∙ ap (λ (x : Bool). x || (is_full (of_said said) || list_any is_full (closures (of_said said)))) (sym (sym (ap (list_any is_excess) all) ∙ sym excess ∙ none)))
    is
