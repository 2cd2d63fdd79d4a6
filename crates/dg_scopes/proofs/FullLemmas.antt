-- A scope is full along the mentions of an item exactly where a rule or a closure has too many variables.
use Rattle.std.proofs.Common.{◌≡◌, ◌≤◌, ◌||◌, ◌∙◌, ℕ, List, [], ◌∷◌, ◌++◌, Bool, true, false, length, nat_lt, refl, sym, ap, append_assoc, arith}
use Rattle.std.specs.Prelude.{if◌then◌else◌, codes}
use Rattle.std.specs.List.{list_any}
use Rattle.std.specs.Str.{bytes_eq}
use Rattle.std.proofs.lemmas.List.Folds.{list_any-append}
use Rattle.std.proofs.lemmas.Grind.{common_steps}
use Rattle.dg_base.specs.Tree.{Said}
use Rattle.dg_base.specs.Mentions.{variable, Mentions, nothing, thing, closed, things, closures, names_in, variable_in}
use Rattle.dg_base.specs.Walk.{Met, met, opens, closes, walk}
use Rattle.dg_scopes.specs.Counts as spec
use Rattle.dg_scopes.specs.Counts.{times, names_out, leaving, counted_of, is_full_at, has_many_variables}
use Rattle.dg_scopes.specs.Scopes.{Entry, with_places, after, is_full, stays, merged, passes}
use Rattle.dg_scopes.proofs.EntryLemmas.{add_all, longer, add_append, as_many, merged_leaving}

-- A scope behind these mentions.
abbrev grown : List (List ℕ) → List Entry → Mentions → List Entry
grown all s ms = add_all s (names_out all ms)

abbrev places_in : List (List ℕ) → List ℕ → ℕ
places_in all n = times n all

more_full : (a b : ℕ) → a ≤ b → nat_lt 64 a ≡ true → nat_lt 64 b ≡ true
more_full a b le full = grind (arith, common_steps)

full_grown : (all : List (List ℕ)) (s : List Entry) (ms : Mentions) → is_full s ≡ true → is_full (grown all s ms) ≡ true
full_grown all s ms = more_full (length s) (length (grown all s ms)) (longer s (names_out all ms))

pub named_if : (s : List Entry) (n : List ℕ) (ns : List (List ℕ)) (b : Bool) → add_all (if b then s else with_places s n 1) ns ≡ add_all s ((if b then [] else n ∷ []) ++ ns)
named_if s n ns true = refl
named_if s n ns false = refl

closure_more : (all : List (List ℕ)) (s : List Entry) (inner ms : Mentions) → grown all (merged (places_in all) s (grown all [] inner)) ms ≡ grown all s (closed inner ms)
closure_more all s inner ms =
    ap (λ (o : List Entry). add_all o (names_out all ms)) (merged_leaving all s (names_out all inner))
    ∙ sym (add_append s (leaving all (names_out all inner)) (names_out all ms))

closure_full : (all : List (List ℕ)) (inner : Mentions) → spec.is_overfull all inner ≡ is_full (grown all [] inner)
closure_full all inner = ap (nat_lt 64) (sym (as_many (names_out all inner)))

-- ---- tests in a row

one_test : (f g a r o : Bool) → (f ≡ false → o ≡ (g || (a || r))) → (f ≡ true → g ≡ true) → (f || o) ≡ (g || (a || r))
one_test true g a r o on up = ap (λ (y : Bool). y || (a || r)) (sym (up refl))
one_test false g a r o on up = on refl

two_tests : (x c f g a r o : Bool) → (f ≡ false → o ≡ (g || (a || r))) → (f ≡ true → g ≡ true) → (x || (c || (f || o))) ≡ (g || ((x || (c || a)) || r))
two_tests true c f true a r o on up = refl
two_tests true c f false a r o on up = refl
two_tests false true f true a r o on up = refl
two_tests false true f false a r o on up = refl
two_tests false false true g a r o on up = ap (λ (y : Bool). y || (a || r)) (sym (up refl))
two_tests false false false g a r o on up = on refl

passes_walk : (all : List (List ℕ)) (ms : Mentions) (s : List Entry) (outer : List (List Entry)) (rest : List Met) → is_full s ≡ false → passes (places_in all) (walk ms ++ rest) s outer ≡ (is_full (grown all s ms) || (list_any (spec.is_overfull all) (closures ms) || passes (places_in all) rest (grown all s ms) outer))
passes_walk all nothing s outer rest e = ap (λ (b : Bool). b || passes (places_in all) rest s outer) (sym e)
passes_walk all (thing (variable n) ms) s outer rest e =
    one_test (is_full (after n s)) (is_full (grown all (after n s) ms)) (list_any (spec.is_overfull all) (closures ms)) (passes (places_in all) rest (grown all (after n s) ms) outer) (passes (places_in all) (walk ms ++ rest) (after n s) outer)
    (passes_walk all ms (after n s) outer rest) (full_grown all (after n s) ms)
    ∙ ap (λ (x : List Entry). is_full x || (list_any (spec.is_overfull all) (closures ms) || passes (places_in all) rest x outer)) (named_if s n (names_out all ms) (bytes_eq n (codes "_")))
passes_walk all (thing t ms) s outer rest e = passes_walk all ms s outer rest e
passes_walk all (closed inner ms) s outer rest e =
    let full = list_any (spec.is_overfull all) in
    let s' : List Entry = merged (places_in all) s (grown all [] inner) in
    ap (λ (l : List Met). passes (places_in all) l [] (s ∷ outer)) (append_assoc (walk inner) (closes ∷ walk ms) rest)
    ∙ passes_walk all inner [] (s ∷ outer) (closes ∷ (walk ms ++ rest)) refl
    ∙ two_tests (is_full (grown all [] inner)) (full (closures inner)) (is_full s') (is_full (grown all s' ms)) (full (closures ms)) (passes (places_in all) rest (grown all s' ms) outer) (passes (places_in all) (walk ms ++ rest) s' outer) (passes_walk all ms s' outer rest) (full_grown all s' ms)
    ∙ ap (λ (b : Bool). is_full (grown all s' ms) || ((b || (full (closures inner) || full (closures ms))) || passes (places_in all) rest (grown all s' ms) outer)) (sym (closure_full all inner))
    ∙ ap (λ (b : Bool). is_full (grown all s' ms) || ((spec.is_overfull all inner || b) || passes (places_in all) rest (grown all s' ms) outer)) (sym (list_any-append (spec.is_overfull all) (closures inner) (closures ms)))
    ∙ ap (λ (x : List Entry). is_full x || ((spec.is_overfull all inner || full (closures inner ++ closures ms)) || passes (places_in all) rest x outer)) (closure_more all s inner ms)

nil_behind : (xs : List Met) → xs ++ [] ≡ xs
nil_behind [] = refl
nil_behind (x ∷ xs) = ap (λ (l : List Met). x ∷ l) (nil_behind xs)

or_false : (b : Bool) → (b || false) ≡ b
or_false true = refl
or_false false = refl

full_walk : (all : List (List ℕ)) (ms : Mentions) → passes (places_in all) (walk ms) [] [] ≡ is_full_at all ms
full_walk all ms =
    ap (λ (l : List Met). passes (places_in all) l [] []) (sym (nil_behind (walk ms)))
    ∙ passes_walk all ms [] [] [] refl
    ∙ ap (λ (b : Bool). is_full (grown all [] ms) || b) (or_false (list_any (spec.is_overfull all) (closures ms)))
    ∙ ap (λ (b : Bool). b || list_any (spec.is_overfull all) (closures ms)) (sym (closure_full all ms))

-- ---- the same with the same totals

stays_same : (f g : List ℕ → ℕ) → ((n : List ℕ) → f n ≡ g n) → (e : Entry) → stays f e ≡ stays g e
stays_same f g is e = ap (λ (k : ℕ). stays (λ n. k) e) (is e.name)

merged_same : (f g : List ℕ → ℕ) → ((n : List ℕ) → f n ≡ g n) → (o es : List Entry) → merged f o es ≡ merged g o es
merged_same f g is o [] = refl
merged_same f g is o (e ∷ es) =
    merged_same f g is (if stays f e then o else with_places o e.name e.places) es
    ∙ ap (λ (b : Bool). merged g (if b then o else with_places o e.name e.places) es) (stays_same f g is e)

passes_same : (f g : List ℕ → ℕ) → ((n : List ℕ) → f n ≡ g n) → (ms : List Met) (s : List Entry) (outer : List (List Entry)) → passes f ms s outer ≡ passes g ms s outer
passes_same f g is [] s outer = refl
passes_same f g is (met (variable n) ∷ ms) s outer = ap (λ (b : Bool). is_full (after n s) || b) (passes_same f g is ms (after n s) outer)
passes_same f g is (met t ∷ ms) s outer = passes_same f g is ms s outer
passes_same f g is (opens ∷ ms) s outer = passes_same f g is ms [] (s ∷ outer)
passes_same f g is (closes ∷ ms) s [] = passes_same f g is ms s []
passes_same f g is (closes ∷ ms) s (o ∷ outer) =
    ap (λ (b : Bool). is_full (merged f o s) || b) (passes_same f g is ms (merged f o s) outer)
    ∙ ap (λ (x : List Entry). is_full x || passes g ms x outer) (merged_same f g is o s)

pub item_full : (total : List ℕ → ℕ) (said : Said) → ((n : List ℕ) → total n ≡ times n (names_in variable_in (things (counted_of said)))) → passes total (walk (counted_of said)) [] [] ≡ has_many_variables said
item_full total said is =
    passes_same total (places_in (names_in variable_in (things (counted_of said)))) is (walk (counted_of said)) [] []
    ∙ full_walk (names_in variable_in (things (counted_of said))) (counted_of said)
