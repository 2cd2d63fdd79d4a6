-- The goals of a tree that is given are sound.
use Rattle.std.proofs.Common.{◌≡◌, ◌+◌, ◌<◌, ◌≤◌, ℕ, List, [], ◌∷◌, ◌++◌, Bool, true, false, Option, Some, None, length, position, refl, sym, ◌∙◌, ap, subst, arith}
use Rattle.std.specs.Prelude.{slice_get}
use Rattle.std.specs.List.{All, Contains, flat_map}
use Rattle.std.specs.Str.{bytes_eq}
use Rattle.std.proofs.lemmas.List.{append-nil}
use Rattle.std.proofs.lemmas.List.Concat.{flat_map-append}
use Rattle.std.proofs.lemmas.List.Elements.{All-nil, All-cons, All-append}
use Rattle.dg_base.specs.Goals.{goals_within, all_goals_of, terms_held}
use Rattle.dg_base.specs.Heads.{name_of}
use Rattle.dg_base.specs.Mentions.{join, branches_in, of_value, of_parts, of_stmt, of_stmts, of_branches, of_body, of_arms, of_changes}
use Rattle.dg_base.specs.Names.{builtin_named}
use Rattle.dg_base.specs.Sound.{FitsProgram, IsGoalOf, IsTermOf}
use Rattle.dg_base.specs.Tree as tree
use Rattle.dg_base.specs.Tree.{Parts, Value, Values, Stmt, Stmts, Body, Arms, Changes}
use Rattle.dg_base.specs.declared.names.Builtin.{Builtin}
use Rattle.dg_base.specs.declared.names.Builtin.TheVariants as built_in
use Rattle.dg_base.specs.declared.program.CoreProgram.{CoreProgram as Core}
use Rattle.dg_base.specs.declared.program.Goal.{Goal, out-Goal}
use Rattle.dg_base.specs.declared.program.Goal.TheVariants as goal
use Rattle.dg_base.specs.declared.program.Goal.TheOpen as form
use Rattle.dg_base.specs.declared.program.Mode.{Mode}
use Rattle.dg_base.specs.declared.program.Term.{Term}
use Rattle.dg_base.proofs.NodeLemmas.{inside, within_out}
use Rattle.dg_names.specs.Among.{HasPred}
use Rattle.dg_core.specs.Bodies.{in_value, in_parts, in_stmt, in_stmts, in_branches, in_arms}
use Rattle.dg_core.specs.Goals.{Scope, past, place_number, in_16_bits, number_in, term_of, terms_of, built_in_goal, place_goal, query_goal, asked, change_goals, unit, count_selects, stmt_goals, lists, arm_goals}
use Rattle.dg_core.specs.Goals as lowered
use Rattle.dg_core.specs.Places.{head_values}
use Rattle.dg_core.proofs.AskLemmas.{HasPlaces}
use Rattle.dg_core.proofs.HoldLemmas.{Hold, front, back}
use Rattle.dg_core.proofs.PlaceLemmas.{there_at}
use Rattle.dg_core.proofs.SelectLemmas.{selects_join, value_counted, parts_counted, changes_counted, gathering_counted}
use Rattle.dg_core.proofs.SiteLemmas.{NoSelect, AreSited, sited_none, sited_join, sited_wider, plain_with, select_with}
use Rattle.dg_core.proofs.TermLemmas.{IsGround, ground_past, IsKnown, term_sound, parts_sound, arg_sound}

-- ---- goals that are sound, with the numbers of their selects

-- a query has as many terms as the name of its predicate has places
abbrev pub FormNamed : Core → form.Goal-F Goal → Type 0
FormNamed p (form.Ask pred args many) = HasPlaces (length args) (slice_get p.preds pred)
FormNamed p layer = Unit {0}

abbrev pub IsByName : Core → Goal → Type 0
IsByName p g = FormNamed p (out-Goal g)

pub record AreMade (p : Core) (vars n m : ℕ) (gs : List Goal) : Type 0 where
  pub sound : All (IsGoalOf p vars) (all_goals_of gs)
  pub sited : AreSited n m (all_goals_of gs)
  pub named : All (IsByName p) (all_goals_of gs)

-- the same of lists
record AreListed (p : Core) (vars n m : ℕ) (ls : List (List Goal)) : Type 0 where
  sound : All (IsGoalOf p vars) (flat_map all_goals_of ls)
  sited : AreSited n m (flat_map all_goals_of ls)
  named : All (IsByName p) (flat_map all_goals_of ls)

-- a goal that is no select, and a query so
abbrev IsPlainForm : Core → form.Goal-F Goal → Type 0
IsPlainForm p (form.Select site mode lists) = ⊥
IsPlainForm p layer = FormNamed p layer

no_select : (p : Core) (layer : form.Goal-F Goal) → IsPlainForm p layer → NoSelect layer
no_select p (form.Select site mode lists) h = h
no_select p layer h = tt

form_named : (p : Core) (layer : form.Goal-F Goal) → IsPlainForm p layer → FormNamed p layer
form_named p (form.Select site mode lists) h = tt
form_named p layer h = h

none : (p : Core) (vars : ℕ) → All (IsGoalOf p vars) []
none p vars = All-nil (IsGoalOf p vars)

none_named : (p : Core) → All (IsByName p) []
none_named p = All-nil (IsByName p)

no_terms : (p : Core) (vars : ℕ) → All (IsTermOf p vars) []
no_terms p vars = All-nil (IsTermOf p vars)

pub made_none : (p : Core) (vars n m : ℕ) → n ≤ m → AreMade p vars n m []
made_none p vars n m e = record { sound = none p vars; sited = sited_none n m e; named = none_named p }

pub made_join : (p : Core) (vars n k m : ℕ) (xs ys : List Goal) → AreMade p vars n k xs → AreMade p vars k m ys → AreMade p vars n m (xs ++ ys)
made_join p vars n k m xs ys h j = record {
  sound = subst (All (IsGoalOf p vars)) (sym (flat_map-append goals_within xs ys)) (All-append (IsGoalOf p vars) (all_goals_of xs) (all_goals_of ys) h.sound j.sound);
  sited = subst (AreSited n m) (sym (flat_map-append goals_within xs ys)) (sited_join n k m (all_goals_of xs) (all_goals_of ys) h.sited j.sited);
  named = subst (All (IsByName p)) (sym (flat_map-append goals_within xs ys)) (All-append (IsByName p) (all_goals_of xs) (all_goals_of ys) h.named j.named);
}

pub made_to : (p : Core) (vars n m k : ℕ) (gs : List Goal) → m ≡ k → AreMade p vars n m gs → AreMade p vars n k gs
made_to p vars n m k gs e h = subst (λ (i : ℕ). AreMade p vars n i gs) e h

within_made : (p : Core) (vars n m : ℕ) (g : Goal) → All (IsGoalOf p vars) (goals_within g) → AreSited n m (goals_within g) → All (IsByName p) (goals_within g) → AreMade p vars n m (g ∷ [])
within_made p vars n m g h j k = record {
  sound = All-append (IsGoalOf p vars) (goals_within g) [] h (none p vars);
  sited = sited_join n m m (goals_within g) [] j (sited_none m m (omega arith));
  named = All-append (IsByName p) (goals_within g) [] k (none_named p);
}

here : (p : Core) (vars : ℕ) (g : Goal) (layer : form.Goal-F Goal) → out-Goal g ≡ layer → FitsProgram p layer → All (IsTermOf p vars) (terms_held layer) → IsGoalOf p vars g
here p vars g layer is fits terms = record { fits = subst (FitsProgram p) (sym is) fits; terms = subst (λ (l : form.Goal-F Goal). All (IsTermOf p vars) (terms_held l)) (sym is) terms }

inner : (g : Goal) (layer : form.Goal-F Goal) → out-Goal g ≡ layer → goals_within g ≡ g ∷ inside layer
inner g layer is = within_out g ∙ ap (λ (l : form.Goal-F Goal). g ∷ inside l) is

-- a goal of this layer, its number and its query apart
with_name : (p : Core) (g : Goal) (layer : form.Goal-F Goal) → out-Goal g ≡ layer → FormNamed p layer → All (IsByName p) (inside layer) → All (IsByName p) (goals_within g)
with_name p g layer is h named =
    subst (All (IsByName p)) (sym (inner g layer is)) (All-cons (IsByName p) g (inside layer) (subst (FormNamed p) (sym is) h) named)

pub goal_made : (p : Core) (vars n m : ℕ) (g : Goal) (layer : form.Goal-F Goal) → out-Goal g ≡ layer → FitsProgram p layer → All (IsTermOf p vars) (terms_held layer) → IsPlainForm p layer → All (IsGoalOf p vars) (inside layer) → AreSited n m (inside layer) → All (IsByName p) (inside layer) → AreMade p vars n m (g ∷ [])
goal_made p vars n m g layer is fits terms plain sound sited named =
    within_made p vars n m g
    (subst (All (IsGoalOf p vars)) (sym (inner g layer is)) (All-cons (IsGoalOf p vars) g (inside layer) (here p vars g layer is fits terms) sound))
    (subst (AreSited n m) (sym (inner g layer is)) (plain_with n m g (inside layer) (subst NoSelect (sym is) (no_select p layer plain)) sited))
    (with_name p g layer is (form_named p layer plain) named)

-- a goal without goals in it
leaf : (p : Core) (vars n : ℕ) (g : Goal) (layer : form.Goal-F Goal) → out-Goal g ≡ layer → FitsProgram p layer → All (IsTermOf p vars) (terms_held layer) → IsPlainForm p layer → inside layer ≡ [] → AreMade p vars n n (g ∷ [])
leaf p vars n g layer is fits terms plain empty =
    goal_made p vars n n g layer is fits terms plain (subst (All (IsGoalOf p vars)) (sym empty) (none p vars)) (subst (AreSited n n) (sym empty) (sited_none n n (omega arith))) (subst (All (IsByName p)) (sym empty) (none_named p))

-- ---- queries

one : (p : Core) (vars : ℕ) (a : Term) → IsTermOf p vars a → All (IsTermOf p vars) (a ∷ [])
one p vars a h = All-cons (IsTermOf p vars) a [] h (no_terms p vars)

two : (p : Core) (vars : ℕ) (a b : Term) → IsTermOf p vars a → IsTermOf p vars b → All (IsTermOf p vars) (a ∷ b ∷ [])
two p vars a b h j = All-cons (IsTermOf p vars) a (b ∷ []) h (one p vars b j)

three : (p : Core) (vars : ℕ) (a b c : Term) → IsTermOf p vars a → IsTermOf p vars b → IsTermOf p vars c → All (IsTermOf p vars) (a ∷ b ∷ c ∷ [])
three p vars a b c h j k = All-cons (IsTermOf p vars) a (b ∷ c ∷ []) h (two p vars b c j k)

built_in_made : (p : Core) (vars n : ℕ) (s : Scope) (a b c : Term) (many : Bool) (q : Builtin) → IsGround p vars s → IsTermOf p vars a → IsTermOf p vars b → IsTermOf p vars c → AreMade p vars n n (built_in_goal a b c many q ∷ [])
built_in_made p vars n s a b c many built_in.Equal g h j k = leaf p vars n _ (form.Equal a b) (goal.outs-Equal _ _) tt (two p vars a b h j) tt refl
built_in_made p vars n s a b c many (built_in.Arith op) g h j k = leaf p vars n _ (form.Arith op a b c) (goal.outs-Arith _ _ _ _) tt (three p vars a b c h j k) tt refl
built_in_made p vars n s a b c many (built_in.Compare op) g h j k = leaf p vars n _ (form.Compare op a b) (goal.outs-Compare _ _ _) tt (two p vars a b h j) tt refl
built_in_made p vars n s a b c many built_in.Random g h j k = leaf p vars n _ (form.Random a b c) (goal.outs-Random _ _ _) tt (three p vars a b c h j k) tt refl
built_in_made p vars n s a b c many (built_in.Test kind) g h j k = leaf p vars n _ (form.Test kind a) (goal.outs-Test _ _) tt (one p vars a h) tt refl
built_in_made p vars n s a b c many built_in.Object g h j k = leaf p vars n _ (form.IsObject a many) (goal.outs-IsObject _ _) tt (one p vars a h) tt refl
built_in_made p vars n s a b c many built_in.Fail g h j k = leaf p vars n _ form.Fail goal.outs-Fail tt (no_terms p vars) tt refl
built_in_made p vars n s a b c many built_in.Just g h j k = leaf p vars n _ form.Just goal.outs-Just tt (no_terms p vars) tt refl
built_in_made p vars n s a b c many built_in.Stop g h j k = leaf p vars n _ form.Stop goal.outs-Stop tt (no_terms p vars) tt refl
built_in_made p vars n s a b c many built_in.Quit g h j k = leaf p vars n _ form.Quit goal.outs-Quit tt (no_terms p vars) tt refl
built_in_made p vars n s a b c many built_in.RepeatForever g h j k = leaf p vars n _ form.Forever goal.outs-Forever tt (no_terms p vars) tt refl
built_in_made p vars n s a b c many built_in.Query g h j k = leaf p vars n _ (form.Query a None many) (goal.outs-Query _ _ _) tt (one p vars a h) tt refl
built_in_made p vars n s a b c many built_in.QueryWith g h j k = leaf p vars n _ (form.Query a (Some b) many) (goal.outs-Query _ _ _) tt (two p vars a b h j) tt refl
built_in_made p vars n s a b c many built_in.GetInput g h j k = leaf p vars n _ (form.Input a) (goal.outs-Input _) tt (one p vars a h) tt refl
built_in_made p vars n s a b c many built_in.SplitWord g h j k = leaf p vars n _ (form.SplitWord a b) (goal.outs-SplitWord _ _) tt (two p vars a b h j) tt refl
built_in_made p vars n s a b c many built_in.JoinWords g h j k = leaf p vars n _ (form.JoinWords a b) (goal.outs-JoinWords _ _) tt (two p vars a b h j) tt refl
built_in_made p vars n s a b c many (built_in.Gap kind) g h j k = leaf p vars n _ (form.Gap kind) (goal.outs-Gap _) tt (no_terms p vars) tt refl
built_in_made p vars n s a b c many built_in.Spaces g h j k = leaf p vars n _ (form.GapN a) (goal.outs-GapN _) tt (one p vars a h) tt refl
built_in_made p vars n s a b c many built_in.HasParent g h j k = leaf p vars n _ (form.Holds 0 (a ∷ b ∷ []) many) (goal.outs-Holds _ _ _) g.parents (two p vars a b h j) tt refl

place_made : (p : Core) (vars n : ℕ) (s : Scope) (ps : Parts) (many : Bool) (o : Option ℕ) → position (bytes_eq (name_of ps)) s.places ≡ o → IsGround p vars s → Contains s.names.preds (name_of ps) → All (IsTermOf p vars) (terms_of s ps) → AreMade p vars n n (place_goal s ps many o ∷ [])
place_made p vars n s ps many None e g m k = leaf p vars n _ (form.Ask (number_in s.names.preds (name_of ps)) (terms_of s ps) many) (goal.outs-Ask _ _ _) (g.preds s ps m) k (g.named s ps m) refl
place_made p vars n s ps many (Some place) e g m k =
    let number : number_in s.places (name_of ps) ≡ in_16_bits place = ap (λ (o : Option ℕ). in_16_bits (place_number o)) e in
    leaf p vars n _ (form.Holds (in_16_bits place) (terms_of s ps) many) (goal.outs-Holds _ _ _)
    (subst (λ (i : ℕ). FitsProgram p (form.Holds i (terms_of s ps) many)) number (g.places s ps (there_at (name_of ps) s.places place e))) k tt refl

query_made : (p : Core) (vars n : ℕ) (s : Scope) (ps : Parts) (many : Bool) (o : Option Builtin) → IsGround p vars s → HasPred s.names (name_of ps) o → All (IsTermOf p vars) (terms_of s ps) → AreMade p vars n n (query_goal s ps many o ∷ [])
query_made p vars n s ps many (Some b) g m k =
    built_in_made p vars n s _ _ _ many b g (arg_sound p vars (terms_of s ps) 0 k) (arg_sound p vars (terms_of s ps) 1 k) (arg_sound p vars (terms_of s ps) 2 k)
query_made p vars n s ps many None g m k = place_made p vars n s ps many (position (bytes_eq (name_of ps)) s.places) refl g m k

asked_made : (p : Core) (vars n : ℕ) (s : Scope) (ps : Parts) (many : Bool) → IsGround p vars s → HasPred s.names (name_of ps) (builtin_named (name_of ps)) → Hold (IsKnown s) (of_parts false ps) → AreMade p vars n n (asked s ps many ∷ [])
asked_made p vars n s ps many g m h = query_made p vars n s ps many (builtin_named (name_of ps)) g m (parts_sound p vars s false ps g h)

changes_made : (p : Core) (vars n : ℕ) (s : Scope) (cs : Changes) → IsGround p vars s → Hold (IsKnown s) (of_changes false cs) → AreMade p vars n n (change_goals s cs)
changes_made p vars n s tree.no_changes g h = made_none p vars n n (omega arith)
changes_made p vars n s (tree.change ps set cs) g h =
    let terms = parts_sound p vars s false ps g (front (IsKnown s) (of_parts false ps) (of_changes false cs) h.1) in
    let behind = past s (in_parts ps) in
    made_join p vars n n n _ (change_goals behind cs)
    (leaf p vars n _ (form.Now (number_in s.places (name_of ps)) (terms_of s ps) set) (goal.outs-Now _ _ _) (g.places s ps h.0) terms tt refl)
    (changes_made p vars n behind cs (ground_past p vars s (in_parts ps) g) (back (IsKnown s) (of_parts false ps) (of_changes false cs) h.1))

-- ---- lists

unit_made : (p : Core) (vars n m : ℕ) (ls : List (List Goal)) → AreListed p vars n m ls → AreMade p vars n m (unit ls)
unit_made p vars n m [] h = record { sound = none p vars; sited = h.sited; named = none_named p }
unit_made p vars n m (goals ∷ []) h = record {
  sound = subst (All (IsGoalOf p vars)) (append-nil (all_goals_of goals)) h.sound;
  sited = subst (AreSited n m) (append-nil (all_goals_of goals)) h.sited;
  named = subst (All (IsByName p)) (append-nil (all_goals_of goals)) h.named;
}
unit_made p vars n m (goals ∷ more ∷ ls) h =
    goal_made p vars n m (goal.Either (goals ∷ more ∷ ls)) (form.Either (goals ∷ more ∷ ls)) (goal.outs-Either _) (let some : 1 ≤ length (goals ∷ more ∷ ls) = omega arith in some) (no_terms p vars) tt h.sound h.sited h.named

-- a goal with one list of goals in it
wrap_made : (p : Core) (vars n m : ℕ) (g : Goal) (layer : form.Goal-F Goal) (goals : List Goal) → out-Goal g ≡ layer → FitsProgram p layer → All (IsTermOf p vars) (terms_held layer) → IsPlainForm p layer → inside layer ≡ all_goals_of goals → AreMade p vars n m goals → AreMade p vars n m (g ∷ [])
wrap_made p vars n m g layer goals is fits terms plain same h =
    goal_made p vars n m g layer is fits terms plain (subst (All (IsGoalOf p vars)) (sym same) h.sound) (subst (AreSited n m) (sym same) h.sited) (subst (All (IsByName p)) (sym same) h.named)

if_made : (p : Core) (vars n k l m : ℕ) (a b c : List Goal) → AreMade p vars n k a → AreMade p vars k l b → AreMade p vars l m c → AreMade p vars n m (goal.If a b c ∷ [])
if_made p vars n k l m a b c h i j =
    goal_made p vars n m (goal.If a b c) (form.If a b c) (goal.outs-If a b c) tt (no_terms p vars) tt
    (All-append (IsGoalOf p vars) (all_goals_of a ++ all_goals_of b) (all_goals_of c) (All-append (IsGoalOf p vars) (all_goals_of a) (all_goals_of b) h.sound i.sound) j.sound)
    (sited_join n l m (all_goals_of a ++ all_goals_of b) (all_goals_of c) (sited_join n k l (all_goals_of a) (all_goals_of b) h.sited i.sited) j.sited)
    (All-append (IsByName p) (all_goals_of a ++ all_goals_of b) (all_goals_of c) (All-append (IsByName p) (all_goals_of a) (all_goals_of b) h.named i.named) j.named)

select_made : (p : Core) (vars n m : ℕ) (mode : Mode) (ls : List (List Goal)) → n < p.sites → 1 ≤ length ls → length ls ≤ 500 → AreListed p vars (n + 1) m ls → AreMade p vars n m (goal.Select n mode ls ∷ [])
select_made p vars n m mode ls below some few h =
    let g = goal.Select n mode ls in
    let is : out-Goal g ≡ form.Select n mode ls = goal.outs-Select _ _ _ in
    within_made p vars n m g
    (subst (All (IsGoalOf p vars)) (sym (inner g (form.Select n mode ls) is)) (All-cons (IsGoalOf p vars) g (flat_map all_goals_of ls) (here p vars g (form.Select n mode ls) is (below, some, few) (no_terms p vars)) h.sound))
    (subst (AreSited n m) (sym (inner g (form.Select n mode ls) is)) (select_with n m mode ls g (flat_map all_goals_of ls) is h.sited))
    (with_name p g (form.Select n mode ls) is tt h.named)

lists_counted : (s : Scope) (n : ℕ) (b : Body) → length (lists s n b) ≡ branches_in b
lists_counted s n tree.no_branches = refl
lists_counted s n (tree.branch ss b) = omega (arith, lists_counted (past s (in_stmts ss)) (n + count_selects (of_stmts false ss)) b)

to_end : (p : Core) (vars n k : ℕ) (gs : List Goal) → AreMade p vars n n gs → k ≡ 0 → AreMade p vars n (n + k) gs
to_end p vars n k gs h e = made_to p vars n n (n + k) gs (omega (arith, e)) h

-- ---- statements

mutual
  stmt_made : (p : Core) (vars : ℕ) (s : Scope) (n : ℕ) (x : Stmt) → IsGround p vars s → Hold (IsKnown s) (of_stmt false x) → n + count_selects (of_stmt false x) ≤ p.sites → AreMade p vars n (n + count_selects (of_stmt false x)) (stmt_goals s n x)
  stmt_made p vars s n (tree.text w) g h e = to_end p vars n 0 _ (leaf p vars n _ (form.Text w) (goal.outs-Text w) h.0.0 (no_terms p vars) tt refl) refl
  stmt_made p vars s n (tree.print v) g h e =
      to_end p vars n _ _ (leaf p vars n _ (form.Print (term_of s v)) (goal.outs-Print _) tt (one p vars (term_of s v) (term_sound p vars s false v g h.1)) tt refl) (value_counted false v)
  stmt_made p vars s n (tree.ask ps) g h e = to_end p vars n _ _ (asked_made p vars n s ps false g h.0.0 h.1) (parts_counted false ps)
  stmt_made p vars s n (tree.ask_all ps) g h e = to_end p vars n _ _ (asked_made p vars n s ps true g h.0.0 h.1) (parts_counted false ps)
  stmt_made p vars s n (tree.ask_not ps) g h e =
      to_end p vars n _ _ (wrap_made p vars n n _ (form.Not (asked s ps false ∷ [])) (asked s ps false ∷ []) (goal.outs-Not _) tt (no_terms p vars) tt refl (asked_made p vars n s ps false g h.0.0 h.1)) (parts_counted false ps)
  stmt_made p vars s n (tree.group b) g h e = unit_made p vars n _ (lists s n b) (lists_made p vars s n b g h.1.1 e)
  stmt_made p vars s n (tree.not_group b) g h e = wrap_made p vars n _ _ (form.Not (unit (lists s n b))) (unit (lists s n b)) (goal.outs-Not _) tt (no_terms p vars) tt refl (unit_made p vars n _ (lists s n b) (lists_made p vars s n b g h.1.1 e))
  stmt_made p vars s n (tree.now cs) g h e = to_end p vars n _ _ (changes_made p vars n s cs g h.1) (changes_counted cs)
  stmt_made p vars s n (tree.choice arms) g h e = arms_made p vars s n _ arms [] g h.1 e (made_none p vars _ _ (omega arith))
  stmt_made p vars s n (tree.choice_else arms b) g h e =
      let all = selects_join (of_arms false arms) (of_body false b) in
      let k = n + count_selects (of_arms false arms) in
      let behind = past s (in_arms arms) in
      let other = unit_made p vars k _ (lists behind k b) (lists_made p vars behind k b (ground_past p vars s (in_arms arms) g) (back (IsKnown s) (of_arms false arms) (of_body false b) h.1).1 (omega (arith, all, e))) in
      made_to p vars n _ _ _ (omega (arith, all))
      (arms_made p vars s n (k + count_selects (of_body false b)) arms (unit (lists behind k b)) g (front (IsKnown s) (of_arms false arms) (of_body false b) h.1) (omega (arith, all, e)) other)
  stmt_made p vars s n (tree.exhaust x) g h e = wrap_made p vars n _ _ (form.Exhaust (stmt_goals s n x)) (stmt_goals s n x) (goal.outs-Exhaust _) tt (no_terms p vars) tt refl (stmt_made p vars s n x g h.1 e)
  stmt_made p vars s n (tree.stoppable x) g h e = wrap_made p vars n _ _ (form.Stoppable (stmt_goals s n x)) (stmt_goals s n x) (goal.outs-Stoppable _) tt (no_terms p vars) tt refl (stmt_made p vars s n x g h.1 e)
  stmt_made p vars s n (tree.collect v b into) g h e =
      let rest = back (IsKnown s) (of_value false v) (join (of_body false b) (of_value false into)) h.1 in
      let within = past s (in_value v) in
      let behind = past within (in_branches b) in
      let g2 = ground_past p vars s (in_value v) g in
      let terms = two p vars (term_of s v) (term_of behind into) (term_sound p vars s false v g (front (IsKnown s) (of_value false v) (join (of_body false b) (of_value false into)) h.1)) (term_sound p vars behind false into (ground_past p vars within (in_branches b) g2) (back (IsKnown s) (of_body false b) (of_value false into) rest)) in
      let all = gathering_counted v b into in
      made_to p vars n _ _ _ (omega (arith, all))
      (wrap_made p vars n _ _ (form.Collect (term_of s v) (unit (lists within n b)) (term_of behind into)) (unit (lists within n b)) (goal.outs-Collect _ _ _) tt terms tt refl (unit_made p vars n _ (lists within n b) (lists_made p vars within n b g2 (front (IsKnown s) (of_body false b) (of_value false into) rest).1 (omega (arith, all, e)))))
  stmt_made p vars s n (tree.accumulate v b into) g h e =
      let rest = back (IsKnown s) (of_value false v) (join (of_body false b) (of_value false into)) h.1 in
      let within = past s (in_value v) in
      let behind = past within (in_branches b) in
      let g2 = ground_past p vars s (in_value v) g in
      let terms = two p vars (term_of s v) (term_of behind into) (term_sound p vars s false v g (front (IsKnown s) (of_value false v) (join (of_body false b) (of_value false into)) h.1)) (term_sound p vars behind false into (ground_past p vars within (in_branches b) g2) (back (IsKnown s) (of_body false b) (of_value false into) rest)) in
      let all = gathering_counted v b into in
      made_to p vars n _ _ _ (omega (arith, all))
      (wrap_made p vars n _ _ (form.Accumulate (term_of s v) (unit (lists within n b)) (term_of behind into)) (unit (lists within n b)) (goal.outs-Accumulate _ _ _) tt terms tt refl (unit_made p vars n _ (lists within n b) (lists_made p vars within n b g2 (front (IsKnown s) (of_body false b) (of_value false into) rest).1 (omega (arith, all, e)))))
  stmt_made p vars s n (tree.select mode b) g h e =
      let count = lists_counted s (n + 1) b in
      made_to p vars n _ _ _ (omega arith)
      (select_made p vars n (n + 1 + count_selects (of_branches false b)) mode (lists s (n + 1) b) (omega (arith, e)) (omega (arith, count, h.0.1.0)) (omega (arith, count, h.0.1.1)) (lists_made p vars s (n + 1) b g h.1 (omega (arith, e))))
  stmt_made p vars s n (tree.first_answer b) g h e = wrap_made p vars n _ _ (form.Once (unit (lists s n b))) (unit (lists s n b)) (goal.outs-Once _) tt (no_terms p vars) tt refl (unit_made p vars n _ (lists s n b) (lists_made p vars s n b g h.1.1 e))

  stmts_made : (p : Core) (vars : ℕ) (s : Scope) (n : ℕ) (xs : Stmts) → IsGround p vars s → Hold (IsKnown s) (of_stmts false xs) → n + count_selects (of_stmts false xs) ≤ p.sites → AreMade p vars n (n + count_selects (of_stmts false xs)) (lowered.goals_of s n xs)
  stmts_made p vars s n tree.no_stmts g h e = made_none p vars n _ (omega arith)
  stmts_made p vars s n (tree.stmt x xs) g h e =
      let all = selects_join (of_stmt false x) (of_stmts false xs) in
      let k = n + count_selects (of_stmt false x) in
      made_to p vars n _ _ _ (omega (arith, all))
      (made_join p vars n k (k + count_selects (of_stmts false xs)) _ _ (stmt_made p vars s n x g (front (IsKnown s) (of_stmt false x) (of_stmts false xs) h) (omega (arith, all, e)))
      (stmts_made p vars (past s (in_stmt x)) k xs (ground_past p vars s (in_stmt x) g) (back (IsKnown s) (of_stmt false x) (of_stmts false xs) h) (omega (arith, all, e))))

  lists_made : (p : Core) (vars : ℕ) (s : Scope) (n : ℕ) (b : Body) → IsGround p vars s → Hold (IsKnown s) (of_branches false b) → n + count_selects (of_branches false b) ≤ p.sites → AreListed p vars n (n + count_selects (of_branches false b)) (lists s n b)
  lists_made p vars s n tree.no_branches g h e = record { sound = none p vars; sited = sited_none n _ (omega arith); named = none_named p }
  lists_made p vars s n (tree.branch xs b) g h e =
      let all = selects_join (of_stmts false xs) (of_branches false b) in
      let k = n + count_selects (of_stmts false xs) in
      let first = stmts_made p vars s n xs g (front (IsKnown s) (of_stmts false xs) (of_branches false b) h) (omega (arith, all, e)) in
      let behind = past s (in_stmts xs) in
      let others = lists_made p vars behind k b (ground_past p vars s (in_stmts xs) g) (back (IsKnown s) (of_stmts false xs) (of_branches false b) h) (omega (arith, all, e)) in
      record {
        sound = All-append (IsGoalOf p vars) (all_goals_of (lowered.goals_of s n xs)) (flat_map all_goals_of (lists behind k b)) first.sound others.sound;
        sited = sited_wider n (k + count_selects (of_branches false b)) n _ _ (omega arith) (omega (arith, all)) (sited_join n k (k + count_selects (of_branches false b)) (all_goals_of (lowered.goals_of s n xs)) (flat_map all_goals_of (lists behind k b)) first.sited others.sited);
        named = All-append (IsByName p) (all_goals_of (lowered.goals_of s n xs)) (flat_map all_goals_of (lists behind k b)) first.named others.named;
      }

  arms_made : (p : Core) (vars : ℕ) (s : Scope) (n m : ℕ) (arms : Arms) (other : List Goal) → IsGround p vars s → Hold (IsKnown s) (of_arms false arms) → n + count_selects (of_arms false arms) ≤ p.sites → AreMade p vars (n + count_selects (of_arms false arms)) m other → AreMade p vars n m (arm_goals s n arms other)
  arms_made p vars s n m tree.no_arms other g h e k = subst (λ (i : ℕ). AreMade p vars i m other) (omega arith) k
  arms_made p vars s n m (tree.arm c b arms) other g h e k =
      let tail = back (IsKnown s) (of_body false c) (join (of_body false b) (of_arms false arms)) h in
      let all = selects_join (of_body false c) (join (of_body false b) (of_arms false arms)) in
      let rest = selects_join (of_body false b) (of_arms false arms) in
      let i = n + count_selects (of_body false c) in
      let j = i + count_selects (of_body false b) in
      let first = unit_made p vars n _ (lists s n c) (lists_made p vars s n c g (front (IsKnown s) (of_body false c) (join (of_body false b) (of_arms false arms)) h).1 (omega (arith, all, rest, e))) in
      let between = past s (in_branches c) in
      let behind = past between (in_branches b) in
      let g2 = ground_past p vars s (in_branches c) g in
      let second = unit_made p vars i _ (lists between i b) (lists_made p vars between i b g2 (front (IsKnown s) (of_body false b) (of_arms false arms) tail).1 (omega (arith, all, rest, e))) in
      let same : n + count_selects (of_arms false (tree.arm c b arms)) ≡ j + count_selects (of_arms false arms) = omega (arith, all, rest) in
      if_made p vars n i j m (unit (lists s n c)) (unit (lists between i b)) (arm_goals behind j arms other) first second
      (arms_made p vars behind j m arms other (ground_past p vars between (in_branches b) g2) (back (IsKnown s) (of_body false b) (of_arms false arms) tail) (omega (arith, all, rest, e)) (subst (λ (x : ℕ). AreMade p vars x m other) same k))

pub body_made : (p : Core) (vars : ℕ) (s : Scope) (n : ℕ) (b : Body) → IsGround p vars s → Hold (IsKnown s) (of_body false b) → n + count_selects (of_body false b) ≤ p.sites → AreMade p vars n (n + count_selects (of_body false b)) (unit (lists s n b))
body_made p vars s n b g h e = unit_made p vars n _ (lists s n b) (lists_made p vars s n b g h.1 e)
