-- The closures of a rule stand at their places, and capture what is there.
use Rattle.std.proofs.Common.{◌≡◌, ◌+◌, ◌<◌, ◌≤◌, ◌∙◌, ℕ, zero, suc, Bor, get_or, drop, List, [], ◌∷◌, ◌++◌, Some, false, length, length-append, map, refl, sym, ap, subst, append_assoc, arith}
use Rattle.std.proofs.lemmas.List.{append-nil, length-map, drop_more}
use Rattle.std.specs.Prelude.{min, slice_get}
use Rattle.std.specs.List.{All}
use Rattle.std.proofs.lemmas.List.Elements.{All-nil, All-cons, All-append, All-head, All-tail, Contains-append_right}
use Rattle.dg_base.specs.Mentions.{Mentions, nothing, thing, closed, closures, of_body, of_rule}
use Rattle.dg_base.specs.Sound.{Captures}
use Rattle.dg_base.specs.Tree as tree
use Rattle.dg_base.specs.Tree.{Parts, Body}
use Rattle.dg_base.specs.declared.mentions.Role.TheVariants as role
use Rattle.dg_base.specs.declared.program.ClosureBody.{ClosureBody}
use Rattle.dg_scopes.specs.Counts.{names_out}
use Rattle.dg_scopes.specs.Few.{HasFewVariables}
use Rattle.dg_scopes.specs.Closures.{Layout, layout_by, variables_in, places_from, behind_closure, layouts_from, layouts_of}
use Rattle.dg_scopes.specs.Held.{Within, Holds, IsSmall, AllAreSmall, RuleIsSmall}
use Rattle.dg_names.specs.State.{seen}
use Rattle.dg_core.specs.Bodies.{Closed, no_closure, a_closure}
use Rattle.dg_core.specs.Goals.{Scope, number_in, count_selects}
use Rattle.dg_core.specs.Matches.{ArePlain, Matches}
use Rattle.dg_core.specs.Rows.{size, selects_within, layout_at, Home, row_with, captured_in, rows, closures_in_rule, names_of, closure_rows, AreCaught, IsSmallRow}
use Rattle.dg_core.specs.Variables.{layouts_in, rule_variables}
use Rattle.dg_core.proofs.HoldLemmas.{all_front, all_behind}
use Rattle.dg_core.proofs.MatchLemmas.{rule_matches}
use Rattle.dg_core.proofs.TermLemmas.{number_below}

-- ---- how many they are

pub rows_counted : (home : Home) (vars : List (List ℕ)) (places : List ℕ) (i n : ℕ) (cs : Closed) → length (rows home vars places i n cs) ≡ size cs
rows_counted home vars places i n no_closure = refl
rows_counted home vars places i n (a_closure b inner cs) =
    let l = layout_at home.layouts (get_or places i 0) in
    let m = n + count_selects (of_body false b) in
    let inside = rows home (variables_in l) l.places 0 m inner in
    let rest = rows home vars places (i + 1) (m + selects_within inner) cs in
    omega (arith, length-append inside rest, rows_counted home (variables_in l) l.places 0 m inner, rows_counted home vars places (i + 1) (m + selects_within inner) cs)

pub size_matches : (ms : Mentions) (cs : Closed) → Matches ms cs → size cs ≡ length (closures ms)
size_matches nothing no_closure h = refl
size_matches nothing (a_closure b inner cs) h = absurd h
size_matches (thing t ms) cs h = size_matches ms cs h
size_matches (closed within ms) no_closure h = absurd h
size_matches (closed within ms) (a_closure b inner cs) h = omega (arith, length-append (closures within) (closures ms), size_matches within inner h.2, size_matches ms cs h.3)

pub layouts_counted : (all : List (List ℕ)) (k : ℕ) (ms : Mentions) → length (layouts_from all k ms) ≡ length (closures ms)
layouts_counted all k nothing = refl
layouts_counted all k (thing t ms) = layouts_counted all k ms
layouts_counted all k (closed inner ms) =
    omega (arith, length-append (layouts_from all (k + 1) inner) (layouts_from all (behind_closure k inner) ms), length-append (closures inner) (closures ms), layouts_counted all (k + 1) inner, layouts_counted all (behind_closure k inner) ms)

-- ---- each has the layout of what is mentioned in it

-- the layout of the closure at this place that mentions this
abbrev pub layout_of : List (List ℕ) → ℕ → Mentions → Layout
layout_of all k within = layout_by all (names_out all within) (places_from (k + 1) within)

-- the rows of closures, by what is mentioned in them
abbrev pub laid : Home → List (List ℕ) → List (List ℕ) → ℕ → ℕ → Mentions → Closed → List ClosureBody
laid home all vars n k nothing cs = []
laid home all vars n k (thing t ms) cs = laid home all vars n k ms cs
laid home all vars n k (closed within ms) no_closure = []
laid home all vars n k (closed within ms) (a_closure b inner cs) =
    let l = layout_of all k within in
    let m = n + count_selects (of_body false b) in
    row_with home (captured_in vars l) n l b ∷ (laid home all (variables_in l) m (k + 1) within inner ++ laid home all vars (m + selects_within inner) (behind_closure k within) ms cs)

at_place : {X : Type 0} (pre post : List X) (x d : X) (k : ℕ) → length pre ≡ k → get_or (pre ++ x ∷ post) k d ≡ x
at_place [] post x d k e = ap (λ (i : ℕ). get_or (x ∷ post) i d) (sym e)
at_place (y ∷ pre) post x d zero e = absurd (omega (arith, e))
at_place (y ∷ pre) post x d (suc k) e = at_place pre post x d k (omega (arith, e))

-- the layouts of those that are mentioned here stand together, and these are their places
record AreLaid (home : Home) (all : List (List ℕ)) (places : List ℕ) (i k : ℕ) (ms : Mentions) : Type 0 where
  before : List Layout
  after : List Layout
  layouts : home.layouts ≡ before ++ (layouts_from all k ms ++ after)
  counted : length before ≡ k
  done : List ℕ
  stand : places ≡ done ++ places_from k ms
  reached : length done ≡ i

found : (home : Home) (all : List (List ℕ)) (places : List ℕ) (i k : ℕ) (within ms : Mentions) → AreLaid home all places i k (closed within ms) → layout_at home.layouts (get_or places i 0) ≡ layout_of all k within
found home all places i k within ms a =
    let place : get_or places i 0 ≡ k = ap (λ (ps : List ℕ). get_or ps i 0) a.stand ∙ at_place a.done (places_from (behind_closure k within) ms) k 0 i a.reached in
    ap (layout_at home.layouts) place
    ∙ ap (λ (ls : List Layout). layout_at ls k) a.layouts
    ∙ at_place a.before ((layouts_from all (k + 1) within ++ layouts_from all (behind_closure k within) ms) ++ a.after) (layout_of all k within) _ k a.counted

laid_within : (home : Home) (all : List (List ℕ)) (places : List ℕ) (i k : ℕ) (within ms : Mentions) → AreLaid home all places i k (closed within ms) → AreLaid home all (places_from (k + 1) within) 0 (k + 1) within
laid_within home all places i k within ms a =
    let l = layout_of all k within in
    let inside = layouts_from all (k + 1) within in
    let rest = layouts_from all (behind_closure k within) ms in
    record {
      before = a.before ++ l ∷ [];
      after = rest ++ a.after;
      layouts = a.layouts ∙ ap (λ (x : List Layout). a.before ++ (l ∷ x)) (append_assoc inside rest a.after) ∙ sym (append_assoc a.before (l ∷ []) (inside ++ (rest ++ a.after)));
      counted = omega (arith, length-append a.before (l ∷ []), a.counted);
      done = [];
      stand = refl;
      reached = refl;
    }

laid_behind : (home : Home) (all : List (List ℕ)) (places : List ℕ) (i k : ℕ) (within ms : Mentions) → AreLaid home all places i k (closed within ms) → AreLaid home all places (i + 1) (behind_closure k within) ms
laid_behind home all places i k within ms a =
    let l = layout_of all k within in
    let inside = layouts_from all (k + 1) within in
    let rest = layouts_from all (behind_closure k within) ms in
    record {
      before = a.before ++ (l ∷ inside);
      after = a.after;
      layouts = a.layouts ∙ ap (λ (x : List Layout). a.before ++ (l ∷ x)) (append_assoc inside rest a.after) ∙ sym (append_assoc a.before (l ∷ inside) (rest ++ a.after));
      counted = omega (arith, length-append a.before (l ∷ inside), layouts_counted all (k + 1) within, a.counted);
      done = a.done ++ k ∷ [];
      stand = a.stand ∙ sym (append_assoc a.done (k ∷ []) (places_from (behind_closure k within) ms));
      reached = omega (arith, length-append a.done (k ∷ []), a.reached);
    }

rows_laid : (home : Home) (all vars : List (List ℕ)) (places : List ℕ) (i n k : ℕ) (ms : Mentions) (cs : Closed) → AreLaid home all places i k ms → Matches ms cs → rows home vars places i n cs ≡ laid home all vars n k ms cs
rows_laid home all vars places i n k nothing no_closure a h = refl
rows_laid home all vars places i n k nothing (a_closure b inner cs) a h = absurd h
rows_laid home all vars places i n k (thing t ms) cs a h =
    rows_laid home all vars places i n k ms cs (record { before = a.before; after = a.after; layouts = a.layouts; counted = a.counted; done = a.done; stand = a.stand; reached = a.reached }) h
rows_laid home all vars places i n k (closed within ms) no_closure a h = absurd h
rows_laid home all vars places i n k (closed within ms) (a_closure b inner cs) a h =
    let m = n + count_selects (of_body false b) in
    let l = layout_of all k within in
    let rest = rows home vars places (i + 1) (m + selects_within inner) cs in
    ap (λ (x : Layout). row_with home (captured_in vars x) n x b ∷ (rows home (variables_in x) x.places 0 m inner ++ rest)) (found home all places i k within ms a)
    ∙ ap (λ (rs : List ClosureBody). row_with home (captured_in vars l) n l b ∷ (rs ++ rest)) (rows_laid home all (variables_in l) l.places 0 m (k + 1) within inner (laid_within home all places i k within ms a) h.2)
    ∙ ap (λ (rs : List ClosureBody). row_with home (captured_in vars l) n l b ∷ (laid home all (variables_in l) m (k + 1) within inner ++ rs)) (rows_laid home all vars places (i + 1) (m + selects_within inner) (behind_closure k within) ms cs (laid_behind home all places i k within ms a) h.3)

-- what the closures of a rule are made in
abbrev pub home_in : Scope → ℕ → Parts → Body → Home
home_in around first ps b = record { around = around; layouts = (layouts_in ps b).closures; first = first }

pub rule_laid : (around : Scope) (first n : ℕ) (ps : Parts) (b : Body) → ArePlain (of_rule role.Rule ps b) → closure_rows around first n ps b ≡ laid (home_in around first ps b) (names_of ps b) (rule_variables ps b) n 0 (of_rule role.Rule ps b) (closures_in_rule ps b)
rule_laid around first n ps b plain =
    let ms = of_rule role.Rule ps b in
    let all = names_of ps b in
    rows_laid (home_in around first ps b) all (rule_variables ps b) (places_from 0 ms) 0 n 0 ms (closures_in_rule ps b)
    (record { before = []; after = []; layouts = sym (append-nil (layouts_from all 0 ms)); counted = refl; done = []; stand = refl; reached = refl })
    (rule_matches ps b plain)

laid_counted : (home : Home) (all vars : List (List ℕ)) (n k : ℕ) (ms : Mentions) (cs : Closed) → Matches ms cs → length (laid home all vars n k ms cs) ≡ length (closures ms)
laid_counted home all vars n k nothing cs h = refl
laid_counted home all vars n k (thing t ms) cs h = laid_counted home all vars n k ms cs h
laid_counted home all vars n k (closed within ms) no_closure h = absurd h
laid_counted home all vars n k (closed within ms) (a_closure b inner cs) h =
    let l = layout_of all k within in
    let m = n + count_selects (of_body false b) in
    let inside = laid home all (variables_in l) m (k + 1) within inner in
    let rest = laid home all vars (m + selects_within inner) (behind_closure k within) ms cs in
    omega (arith, length-append inside rest, length-append (closures within) (closures ms), laid_counted home all (variables_in l) m (k + 1) within inner h.2, laid_counted home all vars (m + selects_within inner) (behind_closure k within) ms cs h.3)

-- ---- what they capture

numbers_below : (ns vars : List (List ℕ)) → Within ns vars → length vars ≤ 65535 → All (λ v. v < length vars) (map (number_in vars) ns)
numbers_below [] vars w few = All-nil (λ v. v < length vars)
numbers_below (n ∷ ns) vars w few =
    All-cons (λ v. v < length vars) (number_in vars n) (map (number_in vars) ns) (number_below n vars (w n (0, omega arith, refl)) few)
    (numbers_below ns vars (λ m h. w m (Contains-append_right (n ∷ []) ns m h)) few)

at_front : (pre post : List ClosureBody) (r : ClosureBody) (k : ℕ) → length pre ≡ k → slice_get (pre ++ r ∷ post) k ≡ Some r
at_front [] post r k e = ap (slice_get (r ∷ post)) (sym e)
at_front (x ∷ pre) post r zero e = absurd (omega (arith, e))
at_front (x ∷ pre) post r (suc k) e = at_front pre post r k (omega (arith, e))

-- the closures that stand in something with these variables, behind so many rows
caught_rows : (home : Home) (all vars : List (List ℕ)) (n k j : ℕ) (ms : Mentions) (cs : Closed) (pre post : List ClosureBody) → length vars ≤ 65535 → length pre ≡ j → Matches ms cs → Holds all vars ms → All IsSmall (layouts_from all k ms) → AreCaught (pre ++ (laid home all vars n k ms cs ++ post)) all vars j ms
caught_rows home all vars n k j nothing cs pre post few e h held small = tt
caught_rows home all vars n k j (thing t ms) cs pre post few e h held small = caught_rows home all vars n k j ms cs pre post few e h held.1 small
caught_rows home all vars n k j (closed within ms) no_closure pre post few e h held small = absurd h
caught_rows home all vars n k j (closed within ms) (a_closure b inner cs) pre post few e h held small =
    let l = layout_of all k within in
    let m = n + count_selects (of_body false b) in
    let r = row_with home (captured_in vars l) n l b in
    let inside = laid home all (variables_in l) m (k + 1) within inner in
    let rest = laid home all vars (m + selects_within inner) (behind_closure k within) ms cs in
    let whole = pre ++ ((r ∷ (inside ++ rest)) ++ post) in
    let is_small = All-head IsSmall l (layouts_from all (k + 1) within ++ layouts_from all (behind_closure k within) ms) small in
    let are_small = All-tail IsSmall l (layouts_from all (k + 1) within ++ layouts_from all (behind_closure k within) ms) small in
    let near = pre ++ (r ∷ []) in
    let front = pre ++ (r ∷ inside) in
    let same_near : near ++ (inside ++ (rest ++ post)) ≡ whole = append_assoc pre (r ∷ []) (inside ++ (rest ++ post)) ∙ ap (λ (x : List ClosureBody). pre ++ (r ∷ x)) (sym (append_assoc inside rest post)) in
    let same_front : front ++ (rest ++ post) ≡ whole = append_assoc pre (r ∷ inside) (rest ++ post) ∙ ap (λ (x : List ClosureBody). pre ++ (r ∷ x)) (sym (append_assoc inside rest post)) in
    let those_in = caught_rows home all (variables_in l) m (k + 1) (j + 1) within inner near (rest ++ post) (omega (arith, is_small)) (omega (arith, length-append pre (r ∷ []), e)) h.2 held.1 (all_front IsSmall (layouts_from all (k + 1) within) (layouts_from all (behind_closure k within) ms) are_small) in
    let counted = laid_counted home all (variables_in l) m (k + 1) within inner h.2 in
    let others = caught_rows home all vars (m + selects_within inner) (behind_closure k within) (behind_closure j within) ms cs front post few (omega (arith, length-append pre (r ∷ inside), counted, e)) h.3 held.2 (all_behind IsSmall (layouts_from all (k + 1) within) (layouts_from all (behind_closure k within) ms) are_small) in (
      subst (Captures (length vars)) (sym (at_front pre ((inside ++ rest) ++ post) r j e)) (numbers_below l.captured vars held.0 few),
      subst (λ (rs : List ClosureBody). AreCaught rs all (variables_in l) (j + 1) within) same_near those_in,
      subst (λ (rs : List ClosureBody). AreCaught rs all vars (behind_closure j within) ms) same_front others,
    )

-- ---- few variables

pub at_most : (n : ℕ) → n ≤ 65 → min n 65535 ≡ n
at_most n h = omega arith

pub small_row : (home : Home) (vars : List (List ℕ)) (n : ℕ) (l : Layout) (b : Body) → IsSmall l → 1 ≤ length l.own → IsSmallRow (row_with home (captured_in vars l) n l b)
small_row home vars n l b small own =
    let both = length-append l.captured l.own in
    let least : min (length l.own) 65535 ≡ length l.own = at_most (length l.own) (omega (arith, both, small)) in
    record {
      few = omega (arith, both, small, least, length-map l.captured (number_in vars));
      parameter = omega (arith, least, own);
    }

small_rows : (home : Home) (all vars : List (List ℕ)) (n k : ℕ) (ms : Mentions) (cs : Closed) → All IsSmall (layouts_from all k ms) → All IsSmallRow (laid home all vars n k ms cs)
small_rows home all vars n k nothing cs small = All-nil IsSmallRow
small_rows home all vars n k (thing t ms) cs small = small_rows home all vars n k ms cs small
small_rows home all vars n k (closed within ms) no_closure small = All-nil IsSmallRow
small_rows home all vars n k (closed within ms) (a_closure b inner cs) small =
    let l = layout_of all k within in
    let m = n + count_selects (of_body false b) in
    let inside = laid home all (variables_in l) m (k + 1) within inner in
    let rest = laid home all vars (m + selects_within inner) (behind_closure k within) ms cs in
    let is_small = All-head IsSmall l (layouts_from all (k + 1) within ++ layouts_from all (behind_closure k within) ms) small in
    let are_small = All-tail IsSmall l (layouts_from all (k + 1) within ++ layouts_from all (behind_closure k within) ms) small in
    All-cons IsSmallRow (row_with home (captured_in vars l) n l b) (inside ++ rest) (small_row home vars n l b is_small (omega arith))
    (All-append IsSmallRow inside rest
    (small_rows home all (variables_in l) m (k + 1) within inner (all_front IsSmall (layouts_from all (k + 1) within) (layouts_from all (behind_closure k within) ms) are_small))
    (small_rows home all vars (m + selects_within inner) (behind_closure k within) ms cs (all_behind IsSmall (layouts_from all (k + 1) within) (layouts_from all (behind_closure k within) ms) are_small)))

-- ---- the closures of a rule

-- what other libraries' laws say of variables
pub record Laws : Type 0 where
  pub held : (all : List (List ℕ)) (ms : Mentions) → Holds all (layouts_of all ms).variables ms
  pub closures : (all : List (List ℕ)) (k : ℕ) (ms : Mentions) → AllAreSmall all k ms
  pub rules : (all : List (List ℕ)) (ms : Mentions) → RuleIsSmall all ms

pub rule_counted : (around : Scope) (first n : ℕ) (ps : Parts) (b : Body) → ArePlain (of_rule role.Rule ps b) → length (closure_rows around first n ps b) ≡ length (closures (of_rule role.Rule ps b))
rule_counted around first n ps b plain =
    rows_counted (home_in around first ps b) (rule_variables ps b) (layouts_in ps b).places 0 n (closures_in_rule ps b) ∙ size_matches (of_rule role.Rule ps b) (closures_in_rule ps b) (rule_matches ps b plain)

-- the rows of a rule among those of a program
pub rule_caught_among : Laws → (around : Scope) (first n : ℕ) (ps : Parts) (b : Body) (pre post : List ClosureBody) → ArePlain (of_rule role.Rule ps b) → HasFewVariables (tree.rule ps b) → AreCaught (pre ++ (closure_rows around first n ps b ++ post)) (names_of ps b) (rule_variables ps b) (length pre) (of_rule role.Rule ps b)
rule_caught_among laws around first n ps b pre post plain few =
    let ms = of_rule role.Rule ps b in
    let all = names_of ps b in
    let vars = rule_variables ps b in
    subst (λ (rs : List ClosureBody). AreCaught (pre ++ (rs ++ post)) all vars (length pre) ms) (sym (rule_laid around first n ps b plain))
    (caught_rows (home_in around first ps b) all vars n 0 (length pre) ms (closures_in_rule ps b) pre post (omega (arith, laws.rules all ms few.0)) refl (rule_matches ps b plain) (laws.held all ms) (laws.closures all 0 ms few.1))

pub rule_caught : Laws → (around : Scope) (first n : ℕ) (ps : Parts) (b : Body) → ArePlain (of_rule role.Rule ps b) → HasFewVariables (tree.rule ps b) → AreCaught (closure_rows around first n ps b) (names_of ps b) (rule_variables ps b) 0 (of_rule role.Rule ps b)
rule_caught laws around first n ps b plain few =
    subst (λ (rs : List ClosureBody). AreCaught rs (names_of ps b) (rule_variables ps b) 0 (of_rule role.Rule ps b)) (append-nil (closure_rows around first n ps b))
    (rule_caught_among laws around first n ps b [] [] plain few)

pub rule_small : Laws → (around : Scope) (first n : ℕ) (ps : Parts) (b : Body) → ArePlain (of_rule role.Rule ps b) → HasFewVariables (tree.rule ps b) → All IsSmallRow (closure_rows around first n ps b)
rule_small laws around first n ps b plain few =
    let ms = of_rule role.Rule ps b in
    subst (All IsSmallRow) (sym (rule_laid around first n ps b plain)) (small_rows (home_in around first ps b) (names_of ps b) (rule_variables ps b) n 0 ms (closures_in_rule ps b) (laws.closures (names_of ps b) 0 ms few.1))

-- ---- the numbers of what is captured

pub more_numbered : (vars : List (List ℕ)) (ns : List (Bor (List ℕ))) (i x : ℕ) (d : Bor (List ℕ)) (done next all : List ℕ) → i < length ns → x ≡ number_in vars (get_or ns i d).now → next ≡ done ++ x ∷ [] → done ++ map (number_in vars) (seen (drop i ns)) ≡ all → next ++ map (number_in vars) (seen (drop (i + 1) ns)) ≡ all
more_numbered vars ns i x d done next all lt is pushed e =
    let later : List ℕ = map (number_in vars) (seen (drop (i + 1) ns)) in
    ap (λ (l : List ℕ). l ++ later) pushed
    ∙ append_assoc done (x ∷ []) later
    ∙ ap (λ (y : ℕ). done ++ y ∷ later) is
    ∙ ap (λ (l : List (Bor (List ℕ))). done ++ map (number_in vars) (seen l)) (sym (drop_more ns i d lt))
    ∙ e
