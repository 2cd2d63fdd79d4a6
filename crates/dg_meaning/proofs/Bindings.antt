-- Bindings along a path are a substitution of variables that have been made.
use Rattle.std.proofs.Common.{◌≡◌, ℕ, zero, suc, ◌+◌, ◌-◌, ◌≤◌, List, [], ◌∷◌, ◌++◌, Bool, true, false, Option, Some, None, refl, sym, ap, ◌∙◌, subst, arith, length, map, take, length-append, append_assoc}
use Rattle.std.proofs.Math.Seq.{take-append_seam}
use Rattle.std.specs.Prelude.{slice_get, get_or, encode_utf8_all}
use Rattle.std.proofs.lemmas.Bool.{cond_both}
use Rattle.std.specs.List.{zip}
use Rattle.dg_base.specs.declared.program.Term.{Term, Pair', Row_of-Term, end_of-Term, more_of-Term, out-Term}
use Rattle.dg_base.specs.declared.program.Term.TheOpen as term
use Rattle.dg_base.specs.declared.program.ClosureBody.{ClosureBody}
use Rattle.dg_base.specs.declared.program.CoreProgram.{CoreProgram}
use Rattle.dg_base.specs.declared.program.Rule.{Rule}
use Rattle.dg_base.specs.declared.program.Goal.{Goal, Goal-F, out-Goal}
use Rattle.dg_base.specs.declared.program.Goal.TheOpen.{Text, Print as Print-Form, Gap, GapN, Equal, Ask, Holds, Now, Query, Either, Once, Not, If, Just, Forever, Exhaust, Collect, Accumulate, Stoppable, Select, Arith, Random, IsObject, Input, SplitWord, JoinWords}
use Rattle.dg_base.specs.declared.program.PlaceKind.{PlaceKind}
use Rattle.dg_base.specs.declared.program.PlaceKind.TheVariants.{Flag, Global}
use Rattle.dg_base.specs.declared.program.Goal.TheVariants.{Forever as Forever-Goal}
use Rattle.dg_base.specs.Goals.{terms_held, option_terms}
use Rattle.dg_meaning.specs.Values.{Num, Word, Object, Closure, Value, Var, Node, Values, NoMore, More, leaf, node_parts, value_of_var, captured_values, value_of_leaf, value_of, value_of_row}
use Rattle.dg_meaning.specs.Substitutions.{Substitution, walk, resolved}
use Rattle.dg_meaning.specs.inside.Substitutions.{IsSubstitution, Extends}
use Rattle.dg_meaning.specs.Unify.{same_spelling, Equations, Turn, Goes, Binds, Clashes, turn, cost, Unified, charged, after_turn, turns, top, tops, top_of_pairs, top_of_equations, enough, solve}
use Rattle.dg_meaning.specs.Copies.{list_of, values_of, vars_in, vars_in_all, copy_from, copies_from}
use Rattle.dg_meaning.specs.Numbers.{total}
use Rattle.dg_meaning.specs.Words.{first_line, letters_of, spellings_of, is_number, number_behind, word_from, spelled_value, spelled_list, each_alone}
use Rattle.dg_meaning.specs.Facts.{Alteration, no_program, value_at, kinds_of}
use Rattle.dg_meaning.specs.Changes.{found, change_of}
use Rattle.dg_meaning.specs.World.{Game, World, worked, gathered_at}
use Rattle.dg_meaning.specs.Cells.{cells, writing}
use Rattle.dg_meaning.specs.Path.{Step, Do, Answers, Cut, Refuse, Back, Keep, Leave, Registers, Path, Whole, AsList, AsSum, Branch, Enter, Clash, TakeOut, Finds, ChoiceKind, Move, GoesOn, Outcome, Moves, Chooses, Act, Goes, Tests, Unifies, Ends, Fails, Stops, Effect, Acts, Offers}
use Rattle.dg_meaning.specs.Moves.{path_of, begun, goals_at, more_heap, inside, enter, enter_if, choice_cells, is_excluded, call_cells, unless_excluded, list_branches, first_alone, rule_steps, new_vars, vars_of, entered, match, matched, rule_branch, rule_branches, rules_of, choice, goes_on_if, stop, move_of, effect, outcome_of, behind_terms, move, made_since, entered_with, head_equations, closure_vars, closure_head, closure_steps, closure_branch, numbers, object_branches, gives, gives_number, behind_copy, copy_of, reads, reads_if_set, finds, finds_if_set, takes_out, path_at, beginning, begins, spaces, ask_object, ask_objects, ask_place, changes, change_place, ask_body, ask_closure, looked_up, selects, throws, splits, joins, takes_line, gathers}
use Rattle.dg_meaning.specs.Transcript.{start_path}
use Rattle.dg_meaning.specs.inside.Bindings.{top_of_values, top_of_steps, IsBound, BindsOn, IsBoundBehind, BranchBinds, BranchesBind, MoveBinds, OutcomeBinds, BindsAlong}
use Rattle.dg_meaning.proofs.Solving.{walk_top, Fair, turn_fair, top_append, solve_ends, solve_extends}

-- ## Unification binds no variable that isn't there

abbrev BelowBy : ℕ → Option Unified → Type 0
BelowBy n None = Unit {0}
BelowBy n (Some a) = top_of_pairs a.subst ≤ n

charged_below : (n c : ℕ) (r : Option Unified) → BelowBy n r → BelowBy n (charged c r)
charged_below n c None h = h
charged_below n c (Some a) h = h

abbrev AllBelow : ℕ → (Substitution → Equations → Option Unified) → Type 0
AllBelow n go = (S : Substitution) (es : Equations) → IsSubstitution S → top_of_pairs S ≤ n → top_of_equations es ≤ n → BelowBy n (go S es)

turn_below : (n : ℕ) (go : Substitution → Equations → Option Unified) → AllBelow n go → (S : Substitution) (a b : Value) (es : Equations) → IsSubstitution S → top_of_pairs S ≤ n → top_of_equations es ≤ n → (t : Turn) → Fair n S a b t → BelowBy n (after_turn go S es t)
turn_below n go h S a b es s hS hE (Goes parts) fair = h S (parts ++ es) s hS (top_append n parts es fair.below hE)
turn_below n go h S a b es s hS hE (Binds x v) fair = h ((x, v) ∷ S) es (fair.fits, s) (omega (arith, fair.below, fair.value_below)) hE
turn_below n go h S a b es s hS hE Clashes fair = hS

turns_below : (n k : ℕ) → AllBelow n (turns k)
turns_below n zero S es s hS hE = tt
turns_below n (suc k) S [] s hS hE = hS
turns_below n (suc k) S (e ∷ es) s hS hE =
    charged_below n (cost S e.0 e.1) (after_turn (turns k) S es (turn S e.0 e.1))
    (turn_below n (turns k) (turns_below n k) S e.0 e.1 es s hS (omega arith) (turn S e.0 e.1) (turn_fair n S e.0 e.1 s hS (omega arith) (omega arith)))

pub solve_below : (n : ℕ) (S : Substitution) (es : Equations) → IsSubstitution S → top_of_pairs S ≤ n → top_of_equations es ≤ n → top_of_pairs (solve S es).subst ≤ n
solve_below n S es s hS hE = subst (BelowBy n) (solve_ends S es s) (turns_below n (enough S es) S es s hS hE)

-- ## The bindings that were made

made_front : (made S : Substitution) → made_since S (made ++ S) ≡ made
made_front made S = let e : length (made ++ S) - length S ≡ length made = omega (arith, length-append made S) in ap (λ n. take n (made ++ S)) e ∙ take-append_seam made S

pub made_is : (S S' : Substitution) (h : Extends S S') → made_since S S' ≡ h.made
made_is S S' h = ap (made_since S) h.is ∙ made_front h.made S

-- ## Terms hold no other variables than those around them

var_below : (n : ℕ) (env : List Value) (x : ℕ) → top_of_values env ≤ n → top (value_of_var env x) ≤ n
var_below n [] x h = omega arith
var_below n (v ∷ env) zero h = omega arith
var_below n (v ∷ env) (suc x) h = var_below n env x (omega arith)

vars_below : (n : ℕ) (env : List Value) (xs : List ℕ) → top_of_values env ≤ n → tops (node_parts (map (value_of_var env) xs)) ≤ n
vars_below n env [] h = omega arith
vars_below n env (x ∷ xs) h = omega (arith, var_below n env x h, vars_below n env xs h)

captured_below : (n : ℕ) (env : List Value) (o : Option ClosureBody) → top_of_values env ≤ n → tops (captured_values env o) ≤ n
captured_below n env None h = omega arith
captured_below n env (Some closure) h = vars_below n env closure.captured h

leaf_below : (n : ℕ) (program : CoreProgram) (env : List Value) (x : term.Term-F Term) → top_of_values env ≤ n → top (value_of_leaf program env x) ≤ n
leaf_below n program env (term.Var x) h = var_below n env x h
leaf_below n program env (term.Closure c) h = captured_below n env (slice_get program.closures c) h
leaf_below n program env _ h = omega arith

mutual
  pub term_below : (n : ℕ) (program : CoreProgram) (env : List Value) (x : Term) → top_of_values env ≤ n → top (value_of program env x) ≤ n
  term_below n program env (Pair' s head t tail) h = omega (arith, row_below n program env head h, row_below n program env tail h)
  term_below n program env other h = leaf_below n program env (out-Term other) h

  row_below : {m : _} → (n : ℕ) (program : CoreProgram) (env : List Value) (x : Row_of-Term m) → top_of_values env ≤ n → top (value_of_row program env x) ≤ n
  row_below n program env end_of-Term h = omega arith
  row_below n program env (more_of-Term inner others) h = term_below n program env inner h

pub terms_below : (n : ℕ) (program : CoreProgram) (env : List Value) (xs : List Term) → top_of_values env ≤ n → top_of_values (map (value_of program env) xs) ≤ n
terms_below n program env [] h = omega arith
terms_below n program env (x ∷ xs) h = omega (arith, term_below n program env x h, terms_below n program env xs h)

zip_below : (n : ℕ) (vs us : List Value) → top_of_values vs ≤ n → top_of_values us ≤ n → top_of_equations (zip vs us) ≤ n
zip_below n [] us hv hu = omega arith
zip_below n (v ∷ vs) [] hv hu = omega arith
zip_below n (v ∷ vs) (u ∷ us) hv hu = omega (arith, zip_below n vs us (omega arith) (omega arith))

new_below : (k next : ℕ) → top_of_values (new_vars k next) ≤ next + k
new_below zero next = omega arith
new_below (suc k) next = omega (arith, new_below k (suc next))

-- ## Steps

steps_below : (n : ℕ) (a b : List Step) → top_of_steps a ≤ n → top_of_steps b ≤ n → top_of_steps (a ++ b) ≤ n
steps_below n [] b ha hb = hb
steps_below n (s ∷ a) b ha hb = omega (arith, steps_below n a b (omega arith) hb)

goals_below : (n : ℕ) (env : List Value) (t : ℕ) (gs : List Goal) → top_of_values env ≤ n → top_of_steps (goals_at env t gs) ≤ n
goals_below n env t [] h = omega arith
goals_below n env t (x ∷ gs) h = omega (arith, goals_below n env t gs h)

first_below : (n : ℕ) (many : Bool) (t : ℕ) (steps : List Step) → top_of_steps steps ≤ n → top_of_steps (first_alone many t steps) ≤ n
first_below n true t steps h = h
first_below n false t steps h = omega arith

-- ## Copies

mutual
  copy_below : (n : ℕ) (v : Value) → top (copy_from n v) ≤ n + vars_in v
  copy_below n (Var x) = omega arith
  copy_below n (Node f vs) = copies_below n vs

  copies_below : (n : ℕ) (vs : Values) → tops (copies_from n vs) ≤ n + vars_in_all vs
  copies_below n NoMore = omega arith
  copies_below n (More v vs) = omega (arith, copy_below (n + vars_in_all vs) v, copies_below n vs)

-- words and numbers have no variables
word_closed : (n : ℕ) (words : List (List ℕ)) (spelling : List ℕ) → top (word_from n words spelling) ≡ 0
word_closed n [] spelling = refl
word_closed n (word ∷ words) spelling = cond_both (same_spelling word (encode_utf8_all spelling)) (leaf (Word n)) (word_from (suc n) words spelling) (λ v. top v ≡ 0) (λ e. refl) (λ e. word_closed (suc n) words spelling)

spelled_closed : (words : List (List ℕ)) (spelling : List ℕ) → top (spelled_value words spelling) ≡ 0
spelled_closed words spelling = cond_both (is_number spelling) (leaf (Num (number_behind 0 spelling))) (word_from 0 words spelling) (λ v. top v ≡ 0) (λ e. refl) (λ e. word_closed 0 words spelling)

spelled_list_closed : (words spellings : List (List ℕ)) → top (spelled_list words spellings) ≡ 0
spelled_list_closed words [] = refl
spelled_list_closed words (x ∷ spellings) = omega (arith, spelled_closed words x, spelled_list_closed words spellings)

parts_below : (n : ℕ) (vs : Values) → tops vs ≤ n → top_of_values (values_of vs) ≤ n
parts_below n NoMore h = omega arith
parts_below n (More v vs) h = omega (arith, parts_below n vs (omega (arith, h)))

values_append : (n : ℕ) (xs ys : List Value) → top_of_values xs ≤ n → top_of_values ys ≤ n → top_of_values (xs ++ ys) ≤ n
values_append n [] ys hx hy = hy
values_append n (x ∷ xs) ys hx hy = omega (arith, values_append n xs ys (omega arith) hy)

-- ## Acts

-- registers in which values were made
pub record Made (r made : Registers) : Type 0 where
  pub bound : made.bound ≡ r.bound
  pub vars : r.next_var ≤ made.next_var
  pub stoppable : made.stoppable ≡ r.stoppable
  pub next_tag : made.next_tag ≡ r.next_tag

-- what is done at once goes on with these steps or later, and what is unified was made
abbrev pub ActMade : List Step → Registers → Act → Type 0
ActMade steps r (Goes next w) = next ≡ steps
ActMade steps r (Unifies made es w) = Made r made × (top_of_equations es ≤ made.next_var)
ActMade steps r act = Unit {0}

made_here : (r : Registers) → Made r r
made_here r = record { bound = refl; vars = omega arith; stoppable = refl; next_tag = refl }

behind_made : (r : Registers) (v : Value) → Made r (behind_copy v r)
behind_made r v = record { bound = refl; vars = omega arith; stoppable = refl; next_tag = refl }

gives_made : (steps : List Step) (r : Registers) (into v : Value) (w : World) → top into ≤ r.next_var → top v ≡ 0 → ActMade steps r (gives into v r w)
gives_made steps r into v w h e = (record { bound = refl; vars = omega arith; stoppable = refl; next_tag = refl }, omega (arith, h, e))

pub number_made : (steps : List Step) (r : Registers) (n : Option ℕ) (into : Value) (w : World) → top into ≤ r.next_var → ActMade steps r (gives_number n into r w)
number_made steps r None into w h = tt
number_made steps r (Some n) into w h = (made_here r, omega (arith, h))

pub throws_made : (steps : List Step) (r : Registers) (n : Option ℕ) (into : Value) (w : World) → top into ≤ r.next_var → ActMade steps r (throws n into r w)
throws_made steps r None into w h = tt
throws_made steps r (Some n) into w h = (made_here r, omega (arith, h))

copy_made : (r : Registers) (into v : Value) → top into ≤ r.next_var → top_of_equations ((into, copy_of v r) ∷ []) ≤ (behind_copy v r).next_var
copy_made r into v h = omega (arith, h, copy_below r.next_var v)

pub reads_made : (steps : List Step) (args : List Value) (r : Registers) (v : Value) (w : World) → top_of_values args ≤ r.next_var → ActMade steps r (reads args r v w)
reads_made steps [] r v w h = tt
reads_made steps (arg ∷ args) r v w h = (behind_made r v, copy_made r arg v (omega (arith, h)))

pub set_made : (steps : List Step) (args : List Value) (r : Registers) (v : Option Value) (w : World) → top_of_values args ≤ r.next_var → ActMade steps r (reads_if_set args r v w)
set_made steps args r None w h = tt
set_made steps args r (Some v) w h = reads_made steps args r v w h

finds_made : (steps : List Step) (args : List Value) (o : ℕ) (r : Registers) (v : Value) (w : World) → top_of_values args ≤ r.next_var → ActMade steps r (finds args o r v w)
finds_made steps [] o r v w h = tt
finds_made steps (a ∷ []) o r v w h = (made_here r, omega (arith, h))
finds_made steps (a ∷ b ∷ args) o r v w h = (behind_made r v, omega (arith, h, copy_below r.next_var v))

finds_set_made : (steps : List Step) (args : List Value) (o : ℕ) (r : Registers) (v : Option Value) (w : World) → top_of_values args ≤ r.next_var → ActMade steps r (finds_if_set args o r v w)
finds_set_made steps args o r None w h = tt
finds_set_made steps args o r (Some v) w h = finds_made steps args o r v w h

takes_out_made : (steps : List Step) (whole : Whole) (into : Value) (vs : List Value) (r : Registers) (w : World) → top into ≤ r.next_var → ActMade steps r (takes_out whole into vs r w)
takes_out_made steps AsList into vs r w h = (behind_made r (list_of vs), copy_made r into (list_of vs) h)
takes_out_made steps AsSum into vs r w h = number_made steps r (total vs) into _ h

pub spaces_made : (steps : List Step) (r : Registers) (v : Value) (w : World) → ActMade steps r (spaces v steps w)
spaces_made steps r (Node (Num n) vs) w = refl
spaces_made steps r v w = tt

pub changes_made : (steps : List Step) (r : Registers) (g : Game) (kind : PlaceKind) (a : Option Alteration) (w : World) → ActMade steps r (changes g kind a steps w)
changes_made steps r g kind None w = tt
changes_made steps r g kind (Some a) w = refl

pub place_made : (steps : List Step) (r s : Registers) (g : Game) (place : ℕ) (kind : Option PlaceKind) (args : List Value) (sets : Bool) (w : World) → ActMade steps r (change_place g place kind args sets steps s w)
place_made steps r s g place None args sets w = tt
place_made steps r s g place (Some kind) args sets w = changes_made steps r g kind (change_of (length g.program.objects) kind place sets (map (resolved s.bound) args)) _

pub splits_made : (steps : List Step) (r : Registers) (g : Game) (letters : Option (List ℕ)) (into : Value) (w : World) → top into ≤ r.next_var → ActMade steps r (splits g letters into r w)
splits_made steps r g None into w h = tt
splits_made steps r g (Some letters) into w h = gives_made steps r into _ w h (spelled_list_closed g.program.words (each_alone letters))

pub joins_made : (steps : List Step) (r : Registers) (g : Game) (letters : Option (List ℕ)) (into : Value) (w : World) → top into ≤ r.next_var → ActMade steps r (joins g letters into r w)
joins_made steps r g None into w h = tt
joins_made steps r g (Some letters) into w h = gives_made steps r into _ w h (spelled_closed g.program.words letters)

pub line_made : (steps : List Step) (r : Registers) (g : Game) (typed : List ℕ) (into : Value) (w : World) → top into ≤ r.next_var → ActMade steps r (takes_line g typed into r w)
line_made steps r g [] into w h = tt
line_made steps r g (b ∷ bytes) into w h = gives_made steps r into _ w h (spelled_list_closed g.program.words (spellings_of (letters_of (first_line (b ∷ bytes)))))

-- the beginning of a branch
pub beginning_made : (r : Registers) (b : Branch) (w : World) → BranchBinds r b → ActMade (path_at b).steps (path_at b).registers (beginning b w)
beginning_made r (Enter path work) w h = refl
beginning_made r (Clash s work) w h = tt
beginning_made r (TakeOut t whole into path) w h = takes_out_made path.steps whole into (gathered_at t w.gathered) path.registers _ h.1
beginning_made r (Finds place o args path) w h = finds_set_made path.steps args o path.registers (found w.facts place o) _ h.1

-- ## A goal

nothing_bound : (S : Substitution) → IsSubstitution S → Extends S S
nothing_bound S s = record { made = []; is = refl; sound = s }

branch_if : (r : Registers) (b : Bool) (path : Path) (work : ℕ) → IsBoundBehind r path → BranchBinds r (enter_if b path work)
branch_if r true path work h = h
branch_if r false path work h = h.binds

unless_binds : (r : Registers) (b : Bool) (work : ℕ) (x : Branch) → BindsOn r (inside 0 r) → BranchBinds r x → BranchBinds r (unless_excluded b r work x)
unless_binds r true work x on h = on
unless_binds r false work x on h = h

move_if : (r s : Registers) (b : Bool) (steps : List Step) (w : World) → IsBoundBehind r (path_of steps s) → MoveBinds r (goes_on_if b steps s w)
move_if r s true steps w h = h
move_if r s false steps w h = tt

choice_binds : (r : Registers) (k : ChoiceKind) (t : ℕ) (bs : List Branch) (w : World) → BranchesBind r bs → OutcomeBinds r (choice k t bs w)
choice_binds r k t [] w h = tt
choice_binds r k t (b ∷ bs) w h = h

stop_binds : (r : Registers) (o : Option ℕ) (w : World) → MoveBinds r (stop o w)
stop_binds r None w = tt
stop_binds r (Some s) w = tt

-- what is done at once names variables that were made, and what is unified stands behind registers that have gone on
abbrev ActBinds : Registers → Act → Type 0
ActBinds r (Goes steps w) = top_of_steps steps ≤ r.next_var
ActBinds r (Unifies made es w) = (made.bound ≡ r.bound) × (r.next_var ≤ made.next_var) × (top_of_equations es ≤ made.next_var)
ActBinds r act = Unit {0}

abbrev EffectBinds : Registers → Effect → Type 0
EffectBinds r (Acts a) = ActBinds r a
EffectBinds r (Offers k bs w) = BranchesBind r bs

module _ (g : Game) (env : List Value) (t : ℕ) (steps : List Step) (r : Registers) (sound : IsSubstitution r.bound) (bindings : top_of_pairs r.bound ≤ r.next_var) (here : top_of_values env ≤ r.next_var) (rest : top_of_steps steps ≤ r.next_var) where
  -- registers with the same bindings and variables
  same : (s : Registers) (l : List Step) → s.bound ≡ r.bound → s.next_var ≡ r.next_var → top_of_steps l ≤ r.next_var → IsBoundBehind r (path_of l s)
  same s l e f h = record {
    binds = record { bindings = subst (Extends r.bound) (sym e) (nothing_bound r.bound sound); variables = omega (arith, f) };
    is = record { sound = subst IsSubstitution (sym e) sound; bindings = subst (λ S. top_of_pairs S ≤ s.next_var) (sym e) (omega (arith, f, bindings)); steps = omega (arith, f, h) };
  }

  one : (heap work : ℕ) (l : List Step) → top_of_steps l ≤ r.next_var → BranchBinds r (enter heap work r l)
  one heap work l h = same (inside heap r) l refl refl h

  -- registers with more of both
  more : (s : Registers) (l : List Step) (es : Equations) → s.bound ≡ (solve r.bound es).subst → r.next_var ≤ s.next_var → top_of_equations es ≤ s.next_var → top_of_steps l ≤ s.next_var → IsBoundBehind r (path_of l s)
  more s l es e le he h =
      let extends = subst (Extends r.bound) (sym e) (solve_extends r.bound es sound) in
      record {
        binds = record { bindings = extends; variables = le };
        is = record {
          sound = extends.sound;
          bindings = subst (λ S. top_of_pairs S ≤ s.next_var) (sym e) (solve_below s.next_var r.bound es sound (omega (arith, bindings, le)) he);
          steps = h;
        };
      }

  goals : (gs : List Goal) (l : List Step) → top_of_steps l ≤ r.next_var → top_of_steps (goals_at env t gs ++ l) ≤ r.next_var
  goals gs l h = steps_below r.next_var (goals_at env t gs) l (goals_below r.next_var env t gs here) h

  rule_binds : (pred : ℕ) (args : List Value) (many : Bool) (heap : ℕ) (rule : Rule) → top_of_values args ≤ r.next_var → BranchBinds r (rule_branch g pred args many steps r heap rule)
  rule_binds pred args many heap rule h =
      let n = r.next_var + rule.vars in
      let vars : top_of_values (vars_of rule r) ≤ n = new_below rule.vars r.next_var in
      let u = match g args rule r in
      let head = map (value_of g.program (vars_of rule r)) rule.head in
      let path : Path = path_of (rule_steps pred many (vars_of rule r) r.next_tag rule steps) (matched u r (entered g heap rule r)) in
      unless_binds r (is_excluded args r rule) _ (enter_if u.agrees path _) (record { bindings = record { made = []; is = refl; sound = sound }; variables = omega arith })
      (branch_if r u.agrees path _ (more (matched u r (entered g heap rule r)) (rule_steps pred many (vars_of rule r) r.next_tag rule steps) (zip args head) refl (omega arith)
      (zip_below n args head (omega (arith, h)) (terms_below n g.program (vars_of rule r) rule.head vars))
      (steps_below n (goals_at (vars_of rule r) r.next_tag rule.body) (Answers pred ∷ first_alone many r.next_tag steps) (goals_below n (vars_of rule r) r.next_tag rule.body vars) (omega (arith, first_below n many r.next_tag steps (omega (arith, rest)))))))

  rules_bind : (pred : ℕ) (args : List Value) (many : Bool) (rules : List Rule) → top_of_values args ≤ r.next_var → BranchesBind r (rule_branches g pred args many steps r rules)
  rules_bind pred args many [] h = tt
  rules_bind pred args many (rule ∷ rules) h = (rule_binds pred args many (call_cells args r rules) rule h, rules_bind pred args many rules h)

  lists_bind : (lists : List (List Goal)) → BranchesBind r (list_branches env t steps r lists)
  lists_bind [] = tt
  lists_bind (gs ∷ lists) = (one (choice_cells 0 lists) 1 _ (goals gs steps rest), lists_bind lists)

  act_binds : (a : Act) → ActBinds r a → MoveBinds r (move_of steps r a)
  act_binds (Goes next w) h = same r next refl refl h
  act_binds (Tests passed w) h = move_if r r passed steps w (same r steps refl refl rest)
  act_binds (Unifies made es w) h = move_if r _ _ steps _ (more _ steps es (ap (λ S. (solve S es).subst) h.0) h.1 h.2 (omega (arith, rest, h.1)))
  act_binds (Ends e w) h = tt
  act_binds (Fails w) h = tt
  act_binds (Stops w) h = stop_binds r r.stoppable w

  made_binds : (a : Act) → ActMade steps r a → ActBinds r a
  made_binds (Goes next w) h = subst (λ l. top_of_steps l ≤ r.next_var) (sym h) rest
  made_binds (Tests passed w) h = tt
  made_binds (Unifies made es w) h = (h.0.bound, h.0.vars, h.1)
  made_binds (Ends e w) h = tt
  made_binds (Fails w) h = tt
  made_binds (Stops w) h = tt

  outcome_binds : (e : Effect) → EffectBinds r e → OutcomeBinds r (outcome_of steps r e)
  outcome_binds (Acts a) h = act_binds a h
  outcome_binds (Offers k bs w) h = choice_binds r k r.next_tag bs w h

  -- the branches of objects, and of a closure
  objects_bind : (place : Option ℕ) (args : List Value) (many : Bool) (os : List ℕ) → top_of_values args ≤ r.next_var → BranchesBind r (object_branches place args many steps r os)
  objects_bind place args many [] h = tt
  objects_bind place args many (o ∷ os) h =
      ((same (inside (choice_cells (length args) os) r) (first_alone many r.next_tag steps) refl refl (first_below r.next_var many r.next_tag steps rest), h), objects_bind place args many os h)

  closure_binds : (parts : Values) (closure : ClosureBody) (args : List Value) (many : Bool) → tops parts ≤ r.next_var → top_of_values args ≤ r.next_var → BranchBinds r (closure_branch g parts closure args many steps r)
  closure_binds parts closure args many hp h =
      let n = r.next_var + closure.own in
      let env' = closure_vars parts closure r in
      let vars : top_of_values env' ≤ n = values_append n (values_of parts) (new_vars closure.own r.next_var) (omega (arith, parts_below r.next_var parts hp)) (new_below closure.own r.next_var) in
      let head = closure_head parts args in
      let es = head_equations g args env' head in
      let s = matched (solve r.bound es) r (entered_with g 0 closure.own head r) in
      let l = closure_steps many env' r.next_tag closure steps in
      branch_if r (solve r.bound es).agrees (path_of l s) _ (more s l es refl (omega arith)
      (zip_below n args (map (value_of g.program env') head) (omega (arith, h)) (terms_below n g.program env' head vars))
      (steps_below n (goals_at env' r.next_tag closure.body) (first_alone many r.next_tag steps) (goals_below n env' r.next_tag closure.body vars) (omega (arith, first_below n many r.next_tag steps (omega (arith, rest))))))

  made_effect : (a : Act) → ActMade steps r a → EffectBinds r (Acts a)
  made_effect a h = made_binds a h

  object_binds : (place : Option ℕ) (u v : Value) (args : List Value) (many : Bool) (w : World) → top_of_values (v ∷ args) ≤ r.next_var → EffectBinds r (ask_object g place u v args many steps r w)
  object_binds place (Var x) v args many w h = objects_bind place (v ∷ args) many (numbers 0 g.program.objects) h
  object_binds place (Node (Object o) vs) v args many w h = made_binds (reads_if_set args r (found w.facts place o) w) (set_made steps args r (found w.facts place o) w (omega (arith, h)))
  object_binds place u v args many w h = tt

  asked_objects_bind : (place : Option ℕ) (args : List Value) (many : Bool) (w : World) → top_of_values args ≤ r.next_var → EffectBinds r (ask_objects g place args many steps r w)
  asked_objects_bind place [] many w h = tt
  asked_objects_bind place (v ∷ args) many w h = object_binds place (walk r.bound v) v args many (worked (looked_up r v) w) h

  asked_binds : (place : ℕ) (kind : Option PlaceKind) (args : List Value) (many : Bool) (w : World) → top_of_values args ≤ r.next_var → EffectBinds r (ask_place g place kind args many steps r w)
  asked_binds place None args many w h = tt
  asked_binds place (Some Flag) args many w h = tt
  asked_binds place (Some Global) args many w h = made_binds (reads_if_set args r (value_at w.facts place 0) w) (set_made steps args r (value_at w.facts place 0) w h)
  asked_binds place (Some kind) args many w h = asked_objects_bind (Some place) args many w h

  body_binds : (parts : Values) (closure : Option ClosureBody) (args : List Value) (many : Bool) (w : World) → tops parts ≤ r.next_var → top_of_values args ≤ r.next_var → EffectBinds r (ask_body g parts closure args many steps r w)
  body_binds parts None args many w hp h = tt
  body_binds parts (Some closure) args many w hp h = (closure_binds parts closure args many hp h, tt)

  asked_closure_binds : (v : Value) (args : List Value) (many : Bool) (w : World) → top v ≤ r.next_var → top_of_values args ≤ r.next_var → EffectBinds r (ask_closure g v args many steps r w)
  asked_closure_binds (Node (Closure place) parts) args many w hv h = body_binds parts (slice_get g.program.closures place) args many w hv h
  asked_closure_binds v args many w hv h = tt

  gathers_bind : (whole : Whole) (x : Term) (gs : List Goal) (into : Term) (w : World) → EffectBinds r (gathers g whole x gs into env t steps r w)
  gathers_bind whole x gs into w =
      (one 10 0 _ (goals gs (Keep r.next_tag x env ∷ []) (omega (arith, here))), ((same (inside 0 r) steps refl refl rest, term_below r.next_var g.program env into here), tt))

  effect_binds : (x : Goal-F Goal) (w : World) → EffectBinds r (effect g x env t steps r w)
  effect_binds (Text name) w = rest
  effect_binds (Print-Form a) w = rest
  effect_binds (Gap kind) w = rest
  effect_binds (GapN a) w = let v = walk r.bound (value_of g.program env a) in made_binds (spaces v steps _) (spaces_made steps r v _)
  effect_binds (Equal a b) w = (refl, omega arith, omega (arith, term_below r.next_var g.program env a here, term_below r.next_var g.program env b here))
  effect_binds (Ask pred args many) w = rules_bind pred (map (value_of g.program env) args) many (rules_of (slice_get g.program.preds pred)) (terms_below r.next_var g.program env args here)
  effect_binds (Holds place args many) w = asked_binds place (slice_get (kinds_of g.program) place) (map (value_of g.program env) args) many w (terms_below r.next_var g.program env args here)
  effect_binds (IsObject a many) w = asked_objects_bind None (value_of g.program env a ∷ []) many w (omega (arith, term_below r.next_var g.program env a here))
  effect_binds (Now place args sets) w = made_binds (change_place g place (slice_get (kinds_of g.program) place) (map (value_of g.program env) args) sets steps r w) (place_made steps r r g place (slice_get (kinds_of g.program) place) (map (value_of g.program env) args) sets w)
  effect_binds (Query a b many) w =
      asked_closure_binds (walk r.bound (value_of g.program env a)) (map (value_of g.program env) (option_terms b)) many _ (walk_top r.next_var r.bound (value_of g.program env a) bindings (term_below r.next_var g.program env a here)) (terms_below r.next_var g.program env (option_terms b) here)
  effect_binds (Either lists) w = lists_bind lists
  effect_binds (Select site mode lists) w = goals (get_or lists (selects g site mode (length lists) w).branch []) steps rest
  effect_binds (Once gs) w = (one 10 0 _ (goals gs (Cut r.next_tag ∷ steps) (omega (arith, rest))), tt)
  effect_binds (Not gs) w = (one 10 0 _ (goals gs (Refuse r.next_tag ∷ []) (omega arith)), (one 0 0 steps rest, tt))
  effect_binds (If test first other) w = (one 10 0 _ (goals test (Cut r.next_tag ∷ (goals_at env t first ++ steps)) (omega (arith, goals first steps rest))), (one 0 0 _ (goals other steps rest), tt))
  effect_binds Just w = omega (arith, rest)
  effect_binds Forever w = (one 10 0 steps rest, (one 0 0 (Do Forever-Goal env t ∷ steps) (omega (arith, here, rest)), tt))
  effect_binds (Exhaust gs) w = (one 10 0 _ (goals gs (Back ∷ []) (omega arith)), (one 0 0 steps rest, tt))
  effect_binds (Collect x gs into) w = gathers_bind AsList x gs into w
  effect_binds (Accumulate x gs into) w = gathers_bind AsSum x gs into w
  effect_binds (Stoppable gs) w =
      (same (record (inside 10 r) { stoppable = Some r.next_tag }) _ refl refl (goals gs (Leave r.next_tag r.stoppable ∷ steps) (omega (arith, rest))), (one 0 0 steps rest, tt))
  effect_binds (Arith op a b c) w = made_binds _ (number_made steps r _ (value_of g.program env c) _ (term_below r.next_var g.program env c here))
  effect_binds (Random a b c) w = made_binds _ (throws_made steps r _ (value_of g.program env c) _ (term_below r.next_var g.program env c here))
  effect_binds (SplitWord a b) w = made_binds _ (splits_made steps r g _ (value_of g.program env b) _ (term_below r.next_var g.program env b here))
  effect_binds (JoinWords a b) w = made_binds _ (joins_made steps r g _ (value_of g.program env b) _ (term_below r.next_var g.program env b here))
  effect_binds (Input a) w = made_binds _ (line_made steps r g w.typed (value_of g.program env a) w (term_below r.next_var g.program env a here))
  effect_binds _ w = tt

-- ## The terms of a goal bind nothing

module _ (r : Registers) (heap : ℕ) where
  binds_from : (s : Registers) → BindsOn (more_heap heap r) s → BindsOn r s
  binds_from s h = record { bindings = h.bindings; variables = h.variables }

  branch_from : (b : Branch) → BranchBinds (more_heap heap r) b → BranchBinds r b
  branch_from (Enter path work) h = record { binds = binds_from path.registers h.binds; is = h.is }
  branch_from (Clash s work) h = binds_from s h
  branch_from (TakeOut t whole into path) h = (record { binds = binds_from path.registers h.0.binds; is = h.0.is }, h.1)
  branch_from (Finds place o args path) h = (record { binds = binds_from path.registers h.0.binds; is = h.0.is }, h.1)

  branches_from : (bs : List Branch) → BranchesBind (more_heap heap r) bs → BranchesBind r bs
  branches_from [] h = tt
  branches_from (b ∷ bs) h = (branch_from b h.0, branches_from bs h.1)

  move_from : (m : Move) → MoveBinds (more_heap heap r) m → MoveBinds r m
  move_from (GoesOn path w) h = record { binds = binds_from path.registers h.binds; is = h.is }
  move_from m h = tt

  outcome_from : (m : Outcome) → OutcomeBinds (more_heap heap r) m → OutcomeBinds r m
  outcome_from (Moves m) h = move_from m h
  outcome_from (Chooses k t b bs w) h = (branch_from b h.0, branches_from bs h.1)

takes : (g : Game) (x : Goal) (env : List Value) (t : ℕ) (steps : List Step) (r : Registers) (w : World) → IsBound (path_of (Do x env t ∷ steps) r) → OutcomeBinds r (move g (out-Goal x) env t steps r w)
takes g x env t steps r w h =
    let s = behind_terms g (out-Goal x) r in
    let v = begun s (writing (terms_held (out-Goal x))) w in
    outcome_from r (cells g.program (terms_held (out-Goal x))) (move g (out-Goal x) env t steps r w)
    (outcome_binds g env t steps s h.sound h.bindings (omega (arith, h.steps)) (omega (arith, h.steps)) (effect g (out-Goal x) env t steps s v)
    (effect_binds g env t steps s h.sound h.bindings (omega (arith, h.steps)) (omega (arith, h.steps)) (out-Goal x) v))

-- ## The beginning of a branch

extends_on : (S S' S'' : Substitution) → Extends S S' → Extends S' S'' → Extends S S''
extends_on S S' S'' a b = record { made = b.made ++ a.made; is = b.is ∙ ap (λ l. b.made ++ l) a.is ∙ sym (append_assoc b.made a.made S); sound = b.sound }

move_on : (r s : Registers) → BindsOn r s → (m : Move) → MoveBinds s m → MoveBinds r m
move_on r s on (GoesOn path w) h = record {
  binds = record { bindings = extends_on r.bound s.bound path.registers.bound on.bindings h.binds.bindings; variables = omega (arith, on.variables, h.binds.variables) };
  is = h.is;
}
move_on r s on m h = tt

abbrev no_game : Game
no_game = record { program = no_program; dice = [] }

path_begins : (r : Registers) (path : Path) (a : Act) → IsBoundBehind r path → ActMade path.steps path.registers a → MoveBinds r (move_of path.steps path.registers a)
path_begins r path a h made =
    move_on r path.registers h.binds (move_of path.steps path.registers a)
    (act_binds no_game [] 0 path.steps path.registers h.is.sound h.is.bindings (omega arith) h.is.steps a (made_binds no_game [] 0 path.steps path.registers h.is.sound h.is.bindings (omega arith) h.is.steps a made))

begins_on : (r : Registers) (b : Branch) (w : World) → BranchBinds r b → MoveBinds r (begins b w)
begins_on r (Enter path work) w h = h
begins_on r (Clash s work) w h = tt
begins_on r (TakeOut t whole into path) w h = path_begins r path (beginning (TakeOut t whole into path) w) h.0 (beginning_made r (TakeOut t whole into path) w h)
begins_on r (Finds place o args path) w h = path_begins r path (beginning (Finds place o args path) w) h.0 (beginning_made r (Finds place o args path) w h)

passes : (s : Step) (steps : List Step) (r : Registers) (outer : Option ℕ) → IsBound (path_of (s ∷ steps) r) → IsBound (path_of steps (record r { stoppable = outer }))
passes s steps r outer h = record { sound = h.sound; bindings = h.bindings; steps = omega (arith, h.steps) }

starts : (g : Game) → IsBound (start_path g)
starts g = record { sound = tt; bindings = omega arith; steps = omega arith }

pub binds_along : BindsAlong
binds_along = record { starts = starts; takes = takes; begins_on = begins_on; passes = passes }
