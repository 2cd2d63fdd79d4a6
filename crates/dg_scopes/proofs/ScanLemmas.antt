-- What is known behind what an item mentions: the layouts of its closures.
use Rattle.std.proofs.Common.{◌≡◌, ◌+◌, ◌∙◌, ℕ, List, [], ◌∷◌, ◌++◌, Bool, true, false, not, length, length-append, set, nat_eq, refl, sym, ap, append_assoc, codes, arith}
use Rattle.std.specs.Prelude.{if◌then◌else◌, filter, ◌&&◌}
use Rattle.std.specs.Str.{bytes_eq}
use Rattle.std.proofs.lemmas.List.{set_at, append-nil}
use std.Path.{fun_ext}
use Rattle.dg_base.specs.Mentions.{variable, Mentions, nothing, thing, closed, closures}
use Rattle.dg_base.specs.Walk.{Met, closes, walk}
use Rattle.dg_names.specs.Named.{firsts}
use Rattle.dg_names.proofs.FirstLemmas.{firsts_of}
use Rattle.dg_scopes.specs.Counts.{times, is_unnamed, is_at_home, leaving, names_out}
use Rattle.dg_scopes.specs.Scopes.{Entry, stays}
use Rattle.dg_scopes.proofs.EntryLemmas.{add_all, names, names_added, add_append, places_added, distinct_added, filter_names, kept_added, merged_leaving}
use Rattle.dg_scopes.proofs.FullLemmas.{named_if}
use Rattle.dg_scopes.specs.Closures.{parameter, Layout, layout_by, behind_closure, places_from, layouts_from, names_around, layouts_of}
use Rattle.dg_scopes.specs.inside.Scanning.{Open, Scan, blank, start, with_name, captured_of, own_of, layout_by_entries, step, scanned}

abbrev times_in : List (List ℕ) → List ℕ → ℕ
times_in all n = times n all

-- ---- the layout of a closure whose names are these

one_left : (c : Bool) (e : Entry) (r : List Entry) (l : List (List ℕ)) → names r ≡ l → names (if not c then e ∷ r else r) ≡ ((if c then [] else e.name ∷ []) ++ l)
one_left true e r l h = h
one_left false e r l h = ap (λ (k : List (List ℕ)). e.name ∷ k) h

names_left : (total : List ℕ → ℕ) (es : List Entry) → names (filter (λ (e : Entry). not (stays total e)) es) ≡ captured_of total es
names_left total [] = refl
names_left total (e ∷ es) = one_left (stays total e) e (filter (λ (e : Entry). not (stays total e)) es) (captured_of total es) (names_left total es)

one_kept : (c : Bool) (e : Entry) (r : List Entry) (l : List (List ℕ)) → names r ≡ l → names (if c then e ∷ r else r) ≡ ((if c then e.name ∷ [] else []) ++ l)
one_kept true e r l h = ap (λ (k : List (List ℕ)). e.name ∷ k) h
one_kept false e r l h = h

names_kept : (total : List ℕ → ℕ) (es : List Entry) → names (filter (λ (e : Entry). stays total e) es) ≡ own_of total es
names_kept total [] = refl
names_kept total (e ∷ es) = one_kept (stays total e) e (filter (λ (e : Entry). stays total e) es) (own_of total es) (names_kept total es)

captured_are : (all ns : List (List ℕ)) → captured_of (times_in all) (add_all [] ns) ≡ firsts (leaving all ns)
captured_are all ns =
    sym (names_left (times_in all) (add_all [] ns))
    ∙ ap names (filter_names (λ n k. not (is_unnamed n && nat_eq k (times n all))) (λ n. times n ns) (add_all [] ns) (distinct_added [] ns refl) (λ n there. places_added [] n ns ∙ omega arith))
    ∙ ap names (kept_added (λ n. not (is_at_home all ns n)) [] ns)
    ∙ names_added [] (leaving all ns)
    ∙ firsts_of (leaving all ns)

own_are : (all ns : List (List ℕ)) → own_of (times_in all) (add_all [] ns) ≡ firsts (filter (is_at_home all ns) ns)
own_are all ns =
    sym (names_kept (times_in all) (add_all [] ns))
    ∙ ap names (filter_names (λ n k. is_unnamed n && nat_eq k (times n all)) (λ n. times n ns) (add_all [] ns) (distinct_added [] ns refl) (λ n there. places_added [] n ns ∙ omega arith))
    ∙ ap names (kept_added (is_at_home all ns) [] ns)
    ∙ names_added [] (filter (is_at_home all ns) ns)
    ∙ firsts_of (filter (is_at_home all ns) ns)

layout_is : (all ns : List (List ℕ)) (places : List ℕ) (at : ℕ) → layout_by_entries (times_in all) (record { entries = add_all [] ns; places = places; at = at }) ≡ layout_by all ns places
layout_is all ns places at =
    ap (λ (l : List (List ℕ)). record { captured = l; own = parameter ∷ own_of (times_in all) (add_all [] ns); places = places }) (captured_are all ns)
    ∙ ap (λ (l : List (List ℕ)). record { captured = firsts (leaving all ns); own = parameter ∷ l; places = places }) (own_are all ns)

-- ---- along what is mentioned

-- The names that are counted in something, which is a rule where nothing stands outside.
abbrev names_by : List Open → List (List ℕ) → Mentions → List (List ℕ)
names_by [] all ms = names_around all ms
names_by (o ∷ outer) all ms = names_out all ms

-- What is known where these are its parts.
abbrev known : List Entry → List ℕ → ℕ → List Open → List Layout → Scan
known es ps at outer ls = record { inner = record { entries = es; places = ps; at = at }; outer = outer; layouts = ls }

named : (outer : List Open) (all : List (List ℕ)) (n : List ℕ) (ms : Mentions) (es : List Entry) → add_all (with_name outer n es) (names_by outer all ms) ≡ add_all es (names_by outer all (thing (variable n) ms))
named [] all n ms es = refl
named (o ∷ outer) all n ms es = named_if es n (names_out all ms) (bytes_eq n (codes "_"))

none_named : (outer : List Open) (all : List (List ℕ)) (es : List Entry) → add_all es (names_by outer all nothing) ≡ es
none_named [] all es = refl
none_named (o ∷ outer) all es = refl

closed_named : (outer : List Open) (all : List (List ℕ)) (inner ms : Mentions) → (leaving all (names_out all inner) ++ names_by outer all ms) ≡ names_by outer all (closed inner ms)
closed_named [] all inner ms = refl
closed_named (o ∷ outer) all inner ms = refl

as_many : (all : List (List ℕ)) (k : ℕ) (ms : Mentions) → length (layouts_from all k ms) ≡ length (closures ms)
as_many all k nothing = refl
as_many all k (thing t ms) = as_many all k ms
as_many all k (closed inner ms) = omega (arith, length-append (layouts_from all (k + 1) inner) (layouts_from all (behind_closure k inner) ms), length-append (closures inner) (closures ms), as_many all (k + 1) inner, as_many all (behind_closure k inner) ms)

one_longer : (ls : List Layout) (l : Layout) → length (ls ++ l ∷ []) ≡ length ls + 1
one_longer ls l = length-append ls (l ∷ [])

filled : (ls inner : List Layout) (l : Layout) → set ((ls ++ blank ∷ []) ++ inner) (length ls) l ≡ ls ++ l ∷ inner
filled ls inner l = ap (λ (x : List Layout). set x (length ls) l) (append_assoc ls (blank ∷ []) inner) ∙ set_at ls blank inner l (length ls) refl

-- what is known behind the end of a closure
ended_is : (all : List (List ℕ)) (inner : Mentions) (es : List Entry) (ps : List ℕ) (at : ℕ) (outer : List Open) (ls : List Layout) → step (times_in all) closes (known (add_all [] (names_out all inner)) (places_from (length (ls ++ blank ∷ [])) inner) (length ls) (record { entries = es; places = ps ++ length ls ∷ []; at = at } ∷ outer) ((ls ++ blank ∷ []) ++ layouts_from all (length (ls ++ blank ∷ [])) inner))
    ≡ known (add_all es (leaving all (names_out all inner))) (ps ++ length ls ∷ []) at outer (ls ++ layout_by all (names_out all inner) (places_from (length ls + 1) inner) ∷ layouts_from all (length ls + 1) inner)
ended_is all inner es ps at outer ls =
    let total = times_in all in
    let ns = names_out all inner in
    let b = length (ls ++ blank ∷ []) in
    let row : ℕ → Layout = λ k. layout_by_entries total (record { entries = add_all [] ns; places = places_from k inner; at = length ls }) in
    ap (λ (x : List Entry). known x (ps ++ length ls ∷ []) at outer (set ((ls ++ blank ∷ []) ++ layouts_from all b inner) (length ls) (row b))) (merged_leaving all es ns)
    ∙ ap (λ (x : ℕ). known (add_all es (leaving all ns)) (ps ++ length ls ∷ []) at outer (set ((ls ++ blank ∷ []) ++ layouts_from all x inner) (length ls) (row x))) (one_longer ls blank)
    ∙ ap (known (add_all es (leaving all ns)) (ps ++ length ls ∷ []) at outer) (filled ls (layouts_from all (length ls + 1) inner) (row (length ls + 1)) ∙ ap (λ (x : Layout). ls ++ x ∷ layouts_from all (length ls + 1) inner) (layout_is all ns (places_from (length ls + 1) inner) (length ls)))

walked : (all : List (List ℕ)) (ms : Mentions) (rest : List Met) (es : List Entry) (ps : List ℕ) (at : ℕ) (outer : List Open) (ls : List Layout) → scanned (times_in all) (walk ms ++ rest) (known es ps at outer ls)
    ≡ scanned (times_in all) rest (known (add_all es (names_by outer all ms)) (ps ++ places_from (length ls) ms) at outer (ls ++ layouts_from all (length ls) ms))
walked all nothing rest es ps at outer ls =
    ap (λ (x : List Entry). scanned (times_in all) rest (known x ps at outer ls)) (sym (none_named outer all es))
    ∙ ap (λ (x : List ℕ). scanned (times_in all) rest (known (add_all es (names_by outer all nothing)) x at outer ls)) (sym (append-nil ps))
    ∙ ap (λ (x : List Layout). scanned (times_in all) rest (known (add_all es (names_by outer all nothing)) (ps ++ []) at outer x)) (sym (append-nil ls))
walked all (thing (variable n) ms) rest es ps at outer ls =
    walked all ms rest (with_name outer n es) ps at outer ls
    ∙ ap (λ (x : List Entry). scanned (times_in all) rest (known x (ps ++ places_from (length ls) ms) at outer (ls ++ layouts_from all (length ls) ms))) (named outer all n ms es)
walked all (thing t ms) rest es ps at outer ls =
    walked all ms rest es ps at outer ls
    ∙ ap (λ (x : List (List ℕ)). scanned (times_in all) rest (known (add_all es x) (ps ++ places_from (length ls) ms) at outer (ls ++ layouts_from all (length ls) ms))) (other outer)
  where
    other : (outer : List Open) → names_by outer all ms ≡ names_by outer all (thing t ms)
    other [] = refl
    other (o ∷ outer) = refl
walked all (closed inner ms) rest es ps at outer ls =
    let total = times_in all in
    let ns = names_out all inner in
    let l = layout_by all ns (places_from (length ls + 1) inner) in
    let within = layouts_from all (length ls + 1) inner in
    let here : List Layout = ls ++ l ∷ within in
    let around : Open = record { entries = es; places = ps ++ length ls ∷ []; at = at } in
    let far : length here ≡ behind_closure (length ls) inner = omega (arith, length-append ls (l ∷ within), as_many all (length ls + 1) inner) in
    ap (λ (x : List Met). scanned total x (known [] [] (length ls) (around ∷ outer) (ls ++ blank ∷ []))) (append_assoc (walk inner) (closes ∷ walk ms) rest)
    ∙ walked all inner (closes ∷ (walk ms ++ rest)) [] [] (length ls) (around ∷ outer) (ls ++ blank ∷ [])
    ∙ ap (scanned total (walk ms ++ rest)) (ended_is all inner es ps at outer ls)
    ∙ walked all ms rest (add_all es (leaving all ns)) (ps ++ length ls ∷ []) at outer here
    ∙ ap (λ (x : List Entry). scanned total rest (known x ((ps ++ length ls ∷ []) ++ places_from (length here) ms) at outer (here ++ layouts_from all (length here) ms))) (sym (add_append es (leaving all ns) (names_by outer all ms)) ∙ ap (add_all es) (closed_named outer all inner ms))
    ∙ ap (λ (k : ℕ). scanned total rest (known (add_all es (names_by outer all (closed inner ms))) ((ps ++ length ls ∷ []) ++ places_from k ms) at outer (here ++ layouts_from all k ms))) far
    ∙ ap (λ (x : List ℕ). scanned total rest (known (add_all es (names_by outer all (closed inner ms))) x at outer (here ++ layouts_from all (behind_closure (length ls) inner) ms))) (append_assoc ps (length ls ∷ []) (places_from (behind_closure (length ls) inner) ms))
    ∙ ap (λ (x : List Layout). scanned total rest (known (add_all es (names_by outer all (closed inner ms))) (ps ++ places_from (length ls) (closed inner ms)) at outer x)) (append_assoc ls (l ∷ within) (layouts_from all (behind_closure (length ls) inner) ms))

-- behind a whole item
pub all_walked : (all : List (List ℕ)) (ms : Mentions) → scanned (times_in all) (walk ms) start ≡ known (add_all [] (names_around all ms)) (places_from 0 ms) 0 [] (layouts_from all 0 ms)
all_walked all ms = ap (λ (x : List Met). scanned (times_in all) x start) (sym (append-nil (walk ms))) ∙ walked all ms [] [] [] 0 [] []

pub its_variables : (all : List (List ℕ)) (ms : Mentions) → names (add_all [] (names_around all ms)) ≡ firsts (names_around all ms)
its_variables all ms = names_added [] (names_around all ms) ∙ firsts_of (names_around all ms)

-- the layouts of an item, by totals that are those of its names
pub item_scanned : (total : List ℕ → ℕ) (all : List (List ℕ)) (ms : Mentions) (found : Scan) → ((n : List ℕ) → total n ≡ times n all) → found ≡ scanned total (walk ms) start → record { variables = names found.inner.entries; places = found.inner.places; closures = found.layouts } ≡ layouts_of all ms
item_scanned total all ms found same is =
    let e = is ∙ ap (λ (t : List ℕ → ℕ). scanned t (walk ms) start) (fun_ext same) ∙ all_walked all ms in
    ap (λ (s : Scan). record { variables = names s.inner.entries; places = s.inner.places; closures = s.layouts }) e
    ∙ ap (λ (ns : List (List ℕ)). record { variables = ns; places = places_from 0 ms; closures = layouts_from all 0 ms }) (its_variables all ms)
