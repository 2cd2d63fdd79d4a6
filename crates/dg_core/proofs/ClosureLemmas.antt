-- The closures of a tree that is given have sound rows.
use Rattle.std.proofs.Common.{◌≡◌, ◌+◌, ◌<◌, ◌≤◌, ℕ, zero, suc, List, [], ◌∷◌, ◌++◌, false, Option, Some, None, length, length-append, map, refl, sym, ◌∙◌, subst, append_assoc, arith}
use Rattle.std.specs.Prelude.{slice_get}
use Rattle.std.specs.List.{All, Contains, flat_map}
use Rattle.std.proofs.lemmas.List.{length-map}
use Rattle.std.proofs.lemmas.List.Concat.{flat_map-append}
use Rattle.std.proofs.lemmas.List.Elements.{All-nil, All-cons, All-append, All-head, All-tail}
use Rattle.std.proofs.lemmas.Option.{slice_get_within}
use Rattle.dg_base.specs.Goals.{all_goals_of}
use Rattle.dg_base.specs.Mentions.{Thing, query, closure, Mentions, nothing, thing, closed, closures, of_said, of_rule, of_body, things, things_in, mentioned, variable, variable_in}
use Rattle.dg_base.specs.Sound.{Captures, closure_vars, IsGoalOf, IsTermOf, IsClosureOf}
use Rattle.dg_base.specs.Tree as tree
use Rattle.dg_base.specs.Tree.{Parts, Body, Said, Item}
use Rattle.dg_base.specs.declared.mentions.Role.TheVariants as role
use Rattle.dg_base.specs.declared.program.ClosureBody.{ClosureBody}
use Rattle.dg_base.specs.declared.program.CoreProgram.{CoreProgram as Core}
use Rattle.dg_base.specs.declared.program.Goal.{Goal}
use Rattle.dg_base.specs.declared.program.Term.TheOpen as top
use Rattle.dg_base.specs.declared.program.Term.TheVariants as term
use Rattle.dg_names.specs.Among.{IsAmong}
use Rattle.dg_names.specs.Named.{Named}
use Rattle.dg_scopes.specs.Closures.{Layout, variables_in, places_from, behind_closure, layouts_from}
use Rattle.dg_scopes.specs.Held.{Holds, IsSmall}
use Rattle.dg_scopes.proofs.VariableLemmas.{all_held, all_small, rule_small}
use Rattle.dg_core.specs.Bodies.{Closed, no_closure, a_closure}
use Rattle.dg_core.specs.Core.{Before, outer_scope, closures_of, numbered, rows_in, behind_rows, rows_from, all_selects, inner_selects, behind_rules, with_rules}
use Rattle.dg_core.specs.Given.{IsFit, IsFitRule, IsFitItem, closures_among, IsGiven}
use Rattle.dg_core.specs.Goals.{Scope, in_16_bits, number_in, count_selects}
use Rattle.dg_core.specs.Matches.{Matches}
use Rattle.dg_core.specs.Places.{place_names}
use Rattle.dg_core.specs.Rows.{selects_within, Home, row_with, scope_in, captured_in, closures_in_rule, names_of, closure_rows, AreCaught}
use Rattle.dg_core.specs.Variables.{layouts_in, rule_variables}
use Rattle.dg_core.proofs.AskLemmas.{small, query_fits, query_named, place_fits, parents_fit}
use Rattle.dg_core.proofs.GoalLemmas.{IsByName, body_made}
use Rattle.dg_core.proofs.HoldLemmas.{Hold, all_front, all_behind}
use Rattle.dg_core.proofs.MatchLemmas.{rule_matches}
use Rattle.dg_core.proofs.MemberLemmas.{alone_there}
use Rattle.dg_core.proofs.PlaceLemmas.{IsPlaced, changed_there}
use Rattle.dg_core.proofs.RowLemmas.{Laws, at_most, layouts_counted, layout_of, laid, rule_laid, small_row, rule_counted, rule_caught_among}
use Rattle.dg_core.proofs.SiteLemmas.{AreSited, sited_none, sited_join}
use Rattle.dg_core.proofs.TermLemmas.{number_below, IsGround, IsKnown, leaf_sound}

-- ---- what is known of the things of an item

-- what is asked of each thing of all items
pub record Asked (names : Named) (placed : List (List ℕ)) (ts : List Thing) : Type 0 where
  pub among : All (IsAmong names) ts
  pub fit : All IsFit ts
  pub changed : All (IsPlaced placed) ts

asked_later : (names : Named) (placed : List (List ℕ)) (t : Thing) (ts : List Thing) → Asked names placed (t ∷ ts) → Asked names placed ts
asked_later names placed t ts a = record { among = All-tail (IsAmong names) t ts a.among; fit = All-tail IsFit t ts a.fit; changed = All-tail (IsPlaced placed) t ts a.changed }

asked_front : (names : Named) (placed : List (List ℕ)) (xs ys : List Thing) → Asked names placed (xs ++ ys) → Asked names placed xs
asked_front names placed xs ys a = record { among = all_front (IsAmong names) xs ys a.among; fit = all_front IsFit xs ys a.fit; changed = all_front (IsPlaced placed) xs ys a.changed }

asked_behind : (names : Named) (placed : List (List ℕ)) (xs ys : List Thing) → Asked names placed (xs ++ ys) → Asked names placed ys
asked_behind names placed xs ys a = record { among = all_behind (IsAmong names) xs ys a.among; fit = all_behind IsFit xs ys a.fit; changed = all_behind (IsPlaced placed) xs ys a.changed }

known_at : (s : Scope) (t : Thing) → IsAmong s.names t → IsFit t → IsPlaced s.places t → ((n : List ℕ) → Contains (variable_in t) n → Contains s.variables n) → IsKnown s t
known_at s (variable n) a f p v = v n (alone_there n)
known_at s (query (role.Changed set) ps) a f p v = p
known_at s t a f p v = (a, f)

-- in a rule or a closure whose variables these are, each thing that stands outside the closures in it is known
pub known_out : (s : Scope) (all : List (List ℕ)) (ms : Mentions) → Holds all s.variables ms → Asked s.names s.places (things ms) → Hold (IsKnown s) ms
known_out s all nothing v a = tt
known_out s all (thing t ms) v a = (
  known_at s t (All-head (IsAmong s.names) t (things ms) a.among) (All-head IsFit t (things ms) a.fit) (All-head (IsPlaced s.places) t (things ms) a.changed) v.0,
  known_out s all ms v.1 (asked_later s.names s.places t (things ms) a),
)
known_out s all (closed inner ms) v a = known_out s all ms v.2 (asked_behind s.names s.places (things inner) (things ms) (asked_later s.names s.places closure (things inner ++ things ms) a))

-- ---- how many rows there are

numbered_closures : (said : Said) → numbered said ≤ length (closures (of_said said))
numbered_closures (tree.topic w) = omega arith
numbered_closures (tree.rule ps b) = omega (arith, layouts_counted (names_of ps b) 0 (of_rule role.Rule ps b))
numbered_closures (tree.deny ps b) = omega (arith, layouts_counted (names_of ps b) 0 (of_rule role.Rule ps b))
numbered_closures (tree.access ps b) = omega arith
numbered_closures (tree.global_variable ps) = omega arith

rule_numbered : (around : Scope) (first n : ℕ) (ps : Parts) (b : Body) → IsFitRule ps b → length (closure_rows around first n ps b) ≡ length (layouts_in ps b).closures
rule_numbered around first n ps b fit = rule_counted around first n ps b fit.plain ∙ sym (layouts_counted (names_of ps b) 0 (of_rule role.Rule ps b))

item_numbered : (around : Scope) (n : Before) (said : Said) → IsFitItem said → length (rows_in around n said) ≡ numbered said
item_numbered around n (tree.topic w) fit = refl
item_numbered around n (tree.rule ps b) fit = rule_numbered around n.closures n.selects ps b fit
item_numbered around n (tree.deny ps b) fit = rule_numbered around n.closures n.selects ps b fit
item_numbered around n (tree.access ps b) fit = refl
item_numbered around n (tree.global_variable ps) fit = refl

rows_among : (around : Scope) (n : Before) (is : List Item) → All (λ (i : Item). IsFitItem i.said) is → length (rows_from around n is) ≤ closures_among is
rows_among around n [] fit = omega arith
rows_among around n (i ∷ is) fit =
    omega (
      arith,
      length-append (rows_in around n i.said) (rows_from around (behind_rows n i.said) is),
      item_numbered around n i.said (All-head (λ (j : Item). IsFitItem j.said) i is fit),
      numbered_closures i.said,
      rows_among around (behind_rows n i.said) is (All-tail (λ (j : Item). IsFitItem j.said) i is fit),
    )

pub few_closures : (names : Named) (items : List Item) → IsGiven names items → length (with_rules names items).closures ≤ 65535
few_closures names items g = let few : length (rows_from (outer_scope names items) (behind_rules items) items) ≤ 65535 = omega (arith, rows_among (outer_scope names items) (behind_rules items) items g.items, g.few_closures) in few

-- ---- each item's closures have their rows

-- what is known of a rule, so many closures standing before
pub record IsRuleKnown (names : Named) (items : List Item) (first : ℕ) (ps : Parts) (b : Body) : Type 0 where
  pub asked : Asked names (place_names items) (things (of_rule role.Rule ps b))
  pub fit : IsFitRule ps b
  pub caught : AreCaught (with_rules names items).closures (names_of ps b) (rule_variables ps b) first (of_rule role.Rule ps b)

abbrev pub IsItemKnown : Named → List Item → ℕ → Said → Type 0
IsItemKnown names items first (tree.rule ps b) = IsRuleKnown names items first ps b
IsItemKnown names items first (tree.deny ps b) = IsRuleKnown names items first ps b
IsItemKnown names items first said = Unit {0}

abbrev pub AreItemsKnown : Named → List Item → ℕ → List Item → Type 0
AreItemsKnown names items first [] = Unit {0}
AreItemsKnown names items first (i ∷ is) = IsItemKnown names items first i.said × AreItemsKnown names items (first + numbered i.said) is

laws : Laws
laws = record { held = all_held; closures = all_small; rules = rule_small }

rule_known : (names : Named) (items : List Item) (n : Before) (ps : Parts) (b : Body) (pre post : List ClosureBody) → Asked names (place_names items) (things (of_rule role.Rule ps b)) → IsFitRule ps b → length pre ≡ n.closures → (with_rules names items).closures ≡ pre ++ (closure_rows (outer_scope names items) n.closures n.selects ps b ++ post) → IsRuleKnown names items n.closures ps b
rule_known names items n ps b pre post a fit counted e = record {
  asked = a;
  fit = fit;
  caught = subst (λ (rs : List ClosureBody). AreCaught rs (names_of ps b) (rule_variables ps b) n.closures (of_rule role.Rule ps b)) (sym e)
      (subst (λ (k : ℕ). AreCaught (pre ++ (closure_rows (outer_scope names items) n.closures n.selects ps b ++ post)) (names_of ps b) (rule_variables ps b) k (of_rule role.Rule ps b)) counted
      (rule_caught_among laws (outer_scope names items) n.closures n.selects ps b pre post fit.plain fit.few));
}

item_known : (names : Named) (items : List Item) (n : Before) (said : Said) (pre post : List ClosureBody) → Asked names (place_names items) (things_in said) → IsFitItem said → length pre ≡ n.closures → (with_rules names items).closures ≡ pre ++ (rows_in (outer_scope names items) n said ++ post) → IsItemKnown names items n.closures said
item_known names items n (tree.topic w) pre post a fit counted e = tt
item_known names items n (tree.rule ps b) pre post a fit counted e = rule_known names items n ps b pre post a fit counted e
item_known names items n (tree.deny ps b) pre post a fit counted e = rule_known names items n ps b pre post a fit counted e
item_known names items n (tree.access ps b) pre post a fit counted e = tt
item_known names items n (tree.global_variable ps) pre post a fit counted e = tt

known_from : (names : Named) (items : List Item) (n : Before) (is : List Item) (pre : List ClosureBody) → Asked names (place_names items) (mentioned is) → All (λ (i : Item). IsFitItem i.said) is → length pre ≡ n.closures → (with_rules names items).closures ≡ pre ++ rows_from (outer_scope names items) n is → AreItemsKnown names items n.closures is
known_from names items n [] pre a fit counted e = tt
known_from names items n (i ∷ is) pre a fit counted e =
    let around = outer_scope names items in
    let here = rows_in around n i.said in
    let rest = rows_from around (behind_rows n i.said) is in
    let fits = All-head (λ (j : Item). IsFitItem j.said) i is fit in (
      item_known names items n i.said pre rest (asked_front names (place_names items) (things_in i.said) (mentioned is) a) fits counted e,
      known_from names items (behind_rows n i.said) is (pre ++ here) (asked_behind names (place_names items) (things_in i.said) (mentioned is) a) (All-tail (λ (j : Item). IsFitItem j.said) i is fit)
          (omega (arith, length-append pre here, item_numbered around n i.said fits, counted)) (e ∙ sym (append_assoc pre here rest)),
    )

pub items_known : (names : Named) (items : List Item) → IsGiven names items → AreItemsKnown names items 0 items
items_known names items g = known_from names items (behind_rules items) items [] (record { among = g.things; fit = g.fit; changed = changed_there items }) g.items refl refl

-- ---- what a scope with closures stands for

row_there : (rs : List ClosureBody) (vars c : ℕ) (o : Option ClosureBody) → slice_get rs c ≡ o → Captures vars o → c < length rs
row_there rs vars c None e h = absurd h
row_there rs vars c (Some r) e h = slice_get_within rs c r e

numbered_sound : (p : Core) (vars c : ℕ) → length p.closures ≤ 65535 → Captures vars (slice_get p.closures c) → IsTermOf p vars (term.Closure (in_16_bits c))
numbered_sound p vars c few h =
    let same : in_16_bits c ≡ c = small c (omega (arith, row_there p.closures vars c (slice_get p.closures c) refl h, few)) in
    subst (λ (k : ℕ). IsTermOf p vars (term.Closure k)) (sym same) (leaf_sound p vars (term.Closure c) (top.Closure c) refl (term.outs-Closure c) h)

-- the number of each closure that stands directly in something is that of a row which captures its variables
caught_at : (rs : List ClosureBody) (all vars : List (List ℕ)) (first k : ℕ) (ms : Mentions) → AreCaught rs all vars (first + k) ms → (i c : ℕ) → slice_get (map (λ (p : ℕ). first + p) (places_from k ms)) i ≡ Some c → Captures (length vars) (slice_get rs c)
caught_at rs all vars first k nothing h i c e = absurd (let no : None ≡ Some c = e in cc)
caught_at rs all vars first k (thing t ms) h i c e = caught_at rs all vars first k ms h i c e
caught_at rs all vars first k (closed within ms) h zero c e = subst (λ (j : ℕ). Captures (length vars) (slice_get rs j)) (let same : Some (first + k) ≡ Some c = e in let number : first + k ≡ c = cc in number) h.0
caught_at rs all vars first k (closed within ms) h (suc i) c e = caught_at rs all vars first (behind_closure k within) ms (subst (λ (j : ℕ). AreCaught rs all vars j ms) (omega arith) h.2) i c e

-- what closures of a program are made in
abbrev pub home_at : Named → List Item → List Layout → ℕ → Home
home_at names items ls first = record { around = outer_scope names items; layouts = ls; first = first }

pub ground : (names : Named) (items : List Item) (ls : List Layout) (all vars : List (List ℕ)) (first k : ℕ) (ms : Mentions) → IsGiven names items → length vars ≤ 65535 → AreCaught (with_rules names items).closures all vars (first + k) ms → IsGround (with_rules names items) (length vars) (scope_in (home_at names items ls first) vars (places_from k ms))
ground names items ls all vars first k ms g few h = record {
  words = λ w there. number_below w names.words there g.few_words;
  objects = λ n there. number_below n names.objects there g.few_objects;
  variables = λ n there. number_below n vars there few;
  preds = λ s qs there. query_fits names items s qs there g.few_preds;
  named = λ s qs there. query_named names items s qs there g.few_preds;
  places = λ s qs there. place_fits names items s qs g there;
  parents = parents_fit names items;
  closures = λ i c e. numbered_sound (with_rules names items) (length vars) c (few_closures names items g) (caught_at (with_rules names items).closures all vars first k ms h i c e);
}

-- ---- rows that are sound, with the numbers of their selects

abbrev pub row_goals : List ClosureBody → List Goal
row_goals rs = flat_map (λ (r : ClosureBody). all_goals_of r.body) rs

-- the queries of a row have as many terms as the names of their predicates have places
abbrev pub IsRowByName : Core → ClosureBody → Type 0
IsRowByName p r = All (IsByName p) (all_goals_of r.body)

pub record AreRowsMade (p : Core) (n m : ℕ) (rs : List ClosureBody) : Type 0 where
  pub sound : All (IsClosureOf p) rs
  pub sited : AreSited n m (row_goals rs)
  pub named : All (IsRowByName p) rs

rows_none : (p : Core) (n m : ℕ) → n ≤ m → AreRowsMade p n m []
rows_none p n m e = record { sound = All-nil (IsClosureOf p); sited = sited_none n m e; named = All-nil (IsRowByName p) }

rows_join : (p : Core) (n k m : ℕ) (xs ys : List ClosureBody) → AreRowsMade p n k xs → AreRowsMade p k m ys → AreRowsMade p n m (xs ++ ys)
rows_join p n k m xs ys h j = record {
  sound = All-append (IsClosureOf p) xs ys h.sound j.sound;
  sited = subst (AreSited n m) (sym (flat_map-append (λ (r : ClosureBody). all_goals_of r.body) xs ys)) (sited_join n k m (row_goals xs) (row_goals ys) h.sited j.sited);
  named = All-append (IsRowByName p) xs ys h.named j.named;
}

rows_to : (p : Core) (n m k : ℕ) (rs : List ClosureBody) → m ≡ k → AreRowsMade p n m rs → AreRowsMade p n k rs
rows_to p n m k rs e h = subst (λ (i : ℕ). AreRowsMade p n i rs) e h

-- what is known of closures that stand in something with these variables, the first at this place
record AreKnown (names : Named) (items : List Item) (all vars : List (List ℕ)) (first k : ℕ) (ms : Mentions) (cs : Closed) : Type 0 where
  asked : Asked names (place_names items) (things ms)
  matches : Matches ms cs
  held : Holds all vars ms
  small : All IsSmall (layouts_from all k ms)
  caught : AreCaught (with_rules names items).closures all vars (first + k) ms

behind_thing : (names : Named) (items : List Item) (all vars : List (List ℕ)) (first k : ℕ) (t : Thing) (ms : Mentions) (cs : Closed) → AreKnown names items all vars first k (thing t ms) cs → AreKnown names items all vars first k ms cs
behind_thing names items all vars first k t ms cs h = record {
  asked = asked_later names (place_names items) t (things ms) h.asked;
  matches = h.matches;
  held = h.held.1;
  small = h.small;
  caught = h.caught;
}

those_within : (names : Named) (items : List Item) (all vars : List (List ℕ)) (first k : ℕ) (within ms : Mentions) (b : Body) (inner cs : Closed) → AreKnown names items all vars first k (closed within ms) (a_closure b inner cs) → AreKnown names items all (variables_in (layout_of all k within)) first (k + 1) within inner
those_within names items all vars first k within ms b inner cs h =
    let l = layout_of all k within in
    let inside = layouts_from all (k + 1) within in
    let rest = layouts_from all (behind_closure k within) ms in
    record {
      asked = asked_front names (place_names items) (things within) (things ms) (asked_later names (place_names items) closure (things within ++ things ms) h.asked);
      matches = h.matches.2;
      held = h.held.1;
      small = all_front IsSmall inside rest (All-tail IsSmall l (inside ++ rest) h.small);
      caught = subst (λ (j : ℕ). AreCaught (with_rules names items).closures all (variables_in l) j within) (omega arith) h.caught.1;
    }

those_behind : (names : Named) (items : List Item) (all vars : List (List ℕ)) (first k : ℕ) (within ms : Mentions) (b : Body) (inner cs : Closed) → AreKnown names items all vars first k (closed within ms) (a_closure b inner cs) → AreKnown names items all vars first (behind_closure k within) ms cs
those_behind names items all vars first k within ms b inner cs h =
    let l = layout_of all k within in
    let inside = layouts_from all (k + 1) within in
    let rest = layouts_from all (behind_closure k within) ms in
    record {
      asked = asked_behind names (place_names items) (things within) (things ms) (asked_later names (place_names items) closure (things within ++ things ms) h.asked);
      matches = h.matches.3;
      held = h.held.2;
      small = all_behind IsSmall inside rest (All-tail IsSmall l (inside ++ rest) h.small);
      caught = subst (λ (j : ℕ). AreCaught (with_rules names items).closures all vars j ms) (omega arith) h.caught.2;
    }

-- the row of one closure
one_made : (names : Named) (items : List Item) (ls : List Layout) (all vars : List (List ℕ)) (first n k : ℕ) (within ms : Mentions) (b : Body) (inner cs : Closed) → IsGiven names items → AreKnown names items all vars first k (closed within ms) (a_closure b inner cs) → n + count_selects (of_body false b) ≤ (with_rules names items).sites → let l = layout_of all k within in AreRowsMade (with_rules names items) n (n + count_selects (of_body false b)) (row_with (home_at names items ls first) (captured_in vars l) n l b ∷ [])
one_made names items ls all vars first n k within ms b inner cs g h e =
    let p = with_rules names items in
    let l = layout_of all k within in
    let own = variables_in l in
    let s = scope_in (home_at names items ls first) own (places_from (k + 1) within) in
    let r = row_with (home_at names items ls first) (captured_in vars l) n l b in
    let m = n + count_selects (of_body false b) in
    let small = All-head IsSmall l (layouts_from all (k + 1) within ++ layouts_from all (behind_closure k within) ms) h.small in
    let row = small_row (home_at names items ls first) vars n l b small (omega arith) in
    let there = those_within names items all vars first k within ms b inner cs h in
    let known : Hold (IsKnown s) (of_body false b) = subst (Hold (IsKnown s)) h.matches.0 (known_out s all within there.held there.asked) in
    let made = body_made p (length own) s n b (ground names items ls all own first (k + 1) within g (omega (arith, small)) there.caught) known e in
    let both = length-append l.captured l.own in
    let same : length own ≡ closure_vars r = omega (arith, both, at_most (length l.own) (omega (arith, both, small)), length-map l.captured (number_in vars)) in
    record {
      sound = All-cons (IsClosureOf p) r [] (record { few = row.few; parameter = row.parameter; body = subst (λ (v : ℕ). All (IsGoalOf p v) (all_goals_of r.body)) same made.sound }) (All-nil (IsClosureOf p));
      sited = sited_join n m m (all_goals_of r.body) [] made.sited (sited_none m m (omega arith));
      named = All-cons (IsRowByName p) r [] made.named (All-nil (IsRowByName p));
    }

laid_made : (names : Named) (items : List Item) (ls : List Layout) (all vars : List (List ℕ)) (first n k : ℕ) (ms : Mentions) (cs : Closed) → IsGiven names items → AreKnown names items all vars first k ms cs → n + selects_within cs ≤ (with_rules names items).sites → AreRowsMade (with_rules names items) n (n + selects_within cs) (laid (home_at names items ls first) all vars n k ms cs)
laid_made names items ls all vars first n k nothing cs g h e = rows_none (with_rules names items) n _ (omega arith)
laid_made names items ls all vars first n k (thing t ms) cs g h e = laid_made names items ls all vars first n k ms cs g (behind_thing names items all vars first k t ms cs h) e
laid_made names items ls all vars first n k (closed within ms) no_closure g h e = absurd h.matches
laid_made names items ls all vars first n k (closed within ms) (a_closure b inner cs) g h e =
    let p = with_rules names items in
    let home = home_at names items ls first in
    let l = layout_of all k within in
    let m = n + count_selects (of_body false b) in
    let i = m + selects_within inner in
    let inside = laid home all (variables_in l) m (k + 1) within inner in
    let rest = laid home all vars i (behind_closure k within) ms cs in
    rows_to p n (i + selects_within cs) _ (row_with home (captured_in vars l) n l b ∷ (inside ++ rest)) (omega arith)
    (rows_join p n m (i + selects_within cs) (row_with home (captured_in vars l) n l b ∷ []) (inside ++ rest) (one_made names items ls all vars first n k within ms b inner cs g h (omega (arith, e)))
    (rows_join p m i (i + selects_within cs) inside rest
    (laid_made names items ls all (variables_in l) first m (k + 1) within inner g (those_within names items all vars first k within ms b inner cs h) (omega (arith, e)))
    (laid_made names items ls all vars first i (behind_closure k within) ms cs g (those_behind names items all vars first k within ms b inner cs h) (omega (arith, e)))))

-- ---- the rows of all items

rule_rows : (names : Named) (items : List Item) (n : Before) (ps : Parts) (b : Body) → IsGiven names items → IsRuleKnown names items n.closures ps b → n.selects + selects_within (closures_in_rule ps b) ≤ (with_rules names items).sites → AreRowsMade (with_rules names items) n.selects (n.selects + selects_within (closures_in_rule ps b)) (closure_rows (outer_scope names items) n.closures n.selects ps b)
rule_rows names items n ps b g h e =
    let ms = of_rule role.Rule ps b in
    let all = names_of ps b in
    let known : AreKnown names items all (rule_variables ps b) n.closures 0 ms (closures_in_rule ps b) = record {
      asked = h.asked;
      matches = rule_matches ps b h.fit.plain;
      held = all_held all ms;
      small = all_small all 0 ms h.fit.few.1;
      caught = subst (λ (k : ℕ). AreCaught (with_rules names items).closures all (rule_variables ps b) k ms) (omega arith) h.caught;
    } in
    subst (AreRowsMade (with_rules names items) n.selects (n.selects + selects_within (closures_in_rule ps b))) (sym (rule_laid (outer_scope names items) n.closures n.selects ps b h.fit.plain))
    (laid_made names items (layouts_in ps b).closures all (rule_variables ps b) n.closures n.selects 0 ms (closures_in_rule ps b) g known e)

item_rows : (names : Named) (items : List Item) (n : Before) (said : Said) → IsGiven names items → IsItemKnown names items n.closures said → n.selects + selects_within (closures_of said) ≤ (with_rules names items).sites → AreRowsMade (with_rules names items) n.selects (n.selects + selects_within (closures_of said)) (rows_in (outer_scope names items) n said)
item_rows names items n (tree.topic w) g h e = rows_none (with_rules names items) n.selects _ (omega arith)
item_rows names items n (tree.rule ps b) g h e = rule_rows names items n ps b g h e
item_rows names items n (tree.deny ps b) g h e = rule_rows names items n ps b g h e
item_rows names items n (tree.access ps b) g h e = rows_none (with_rules names items) n.selects _ (omega arith)
item_rows names items n (tree.global_variable ps) g h e = rows_none (with_rules names items) n.selects _ (omega arith)

items_rows : (names : Named) (items : List Item) (n : Before) (is : List Item) → IsGiven names items → AreItemsKnown names items n.closures is → n.selects + inner_selects is ≤ (with_rules names items).sites → AreRowsMade (with_rules names items) n.selects (n.selects + inner_selects is) (rows_from (outer_scope names items) n is)
items_rows names items n [] g h e = rows_none (with_rules names items) n.selects _ (omega arith)
items_rows names items n (i ∷ is) g h e =
    let p = with_rules names items in
    let around = outer_scope names items in
    let next = behind_rows n i.said in
    let all = rows_in around n i.said ++ rows_from around next is in
    rows_to p n.selects (next.selects + inner_selects is) _ all (omega arith)
    (rows_join p n.selects next.selects (next.selects + inner_selects is) (rows_in around n i.said) (rows_from around next is) (item_rows names items n i.said g h.0 (omega (arith, e))) (items_rows names items next is g h.1 (omega (arith, e))))

pub closures_made : (names : Named) (items : List Item) → IsGiven names items → AreRowsMade (with_rules names items) (all_selects items) (all_selects items + inner_selects items) (with_rules names items).closures
closures_made names items g = items_rows names items (behind_rules items) items g (items_known names items g) (omega arith)
