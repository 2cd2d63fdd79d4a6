-- The rules whose closures wait give the rows of the items that they come from.
use Rattle.std.proofs.Common.{◌≡◌, ◌+◌, ◌∙◌, ℕ, List, [], ◌∷◌, ◌++◌, map, sym, ap, append_assoc, arith}
use Rattle.std.proofs.lemmas.List.{append-nil}
use Rattle.dg_base.specs.Tree.{Parts, Body, Said, rule, deny, Item}
use Rattle.dg_base.specs.declared.program.ClosureBody.{ClosureBody}
use Rattle.dg_base.specs.declared.program.Goal.{Goal}
use Rattle.dg_scopes.specs.Closures.{Layout, Layouts}
use Rattle.dg_core.specs.Bodies.{direct}
use Rattle.dg_core.specs.Core.{Before, rows_in, rows_from, rule_of, numbered}
use Rattle.dg_core.specs.Goals.{Scope}
use Rattle.dg_core.specs.Rows.{Home, rows, selects_within, closures_in_rule}
use Rattle.dg_core.specs.Variables.{layouts_in}
use Rattle.dg_core.specs.inside.View.{rule_in}
use Rattle.dg_core.specs.inside.Waiting.{waiting_from, pending, selects_left, stack_of, home_of, rows_kept, selects_kept, Waits, Keeps}
use Rattle.dg_core.specs.declared.rows.Kept.{Kept}
use Rattle.dg_core.proofs.PredLemmas.{HasNoRule}
use Rattle.dg_core.proofs.WaitLemmas.{rule_has, pending_found, selects_found}

-- ---- a rule

-- a rule in the scope of its layouts
pub rule_is : (around scope : Scope) (n : Before) (ps : Parts) (b : Body) (behind : List Goal) (ls : Layouts) → ls ≡ layouts_in ps b → scope ≡ record around { variables = ls.variables; closures = map (λ p. n.closures + p) ls.places; before = 0 } → rule_in scope n.selects ps b behind ≡ rule_of around n ps b behind
rule_is around scope n ps b behind ls laid inside =
    ap (λ (s : Scope). rule_in s n.selects ps b behind) inside
    ∙ ap (λ (x : Layouts). rule_in (record around { variables = x.variables; closures = map (λ p. n.closures + p) x.places; before = 0 }) n.selects ps b behind) laid

-- what waits of a rule in its layouts gives its rows
all_pending : (home : Home) (vars : List (List ℕ)) (places : List ℕ) (n : ℕ) (ps : Parts) (b : Body) → pending home n (waiting_from home.layouts vars places 0 (direct (closures_in_rule ps b))) ≡ rows home vars places 0 n (closures_in_rule ps b)
all_pending home vars places n ps b =
    ap (pending home n) (sym (append-nil (waiting_from home.layouts vars places 0 (direct (closures_in_rule ps b)))))
    ∙ pending_found home vars places 0 n (closures_in_rule ps b) [] (rule_has ps b)
    ∙ append-nil (rows home vars places 0 n (closures_in_rule ps b))

all_selects_pending : (layouts : List Layout) (vars : List (List ℕ)) (places : List ℕ) (ps : Parts) (b : Body) → selects_left (waiting_from layouts vars places 0 (direct (closures_in_rule ps b))) ≡ selects_within (closures_in_rule ps b)
all_selects_pending layouts vars places ps b =
    let front = ap selects_left (append-nil (waiting_from layouts vars places 0 (direct (closures_in_rule ps b)))) in
    omega (arith, front, selects_found layouts vars places 0 (closures_in_rule ps b) [] (rule_has ps b))

pub rule_waits : (around : Scope) (first : ℕ) (ps : Parts) (b : Body) (kept : Kept) (ls : Layouts) (found : List Body) → ls ≡ layouts_in ps b → home_of around kept ≡ record { around = around; layouts = ls.closures; first = first } → found ≡ direct (closures_in_rule ps b) → stack_of kept.left ≡ waiting_from ls.closures ls.variables ls.places 0 found → Waits around first ps b kept
rule_waits around first ps b kept ls found laid at bodies waits =
    let stack : stack_of kept.left ≡ waiting_from ls.closures ls.variables ls.places 0 (direct (closures_in_rule ps b)) = waits ∙ ap (λ (bs : List Body). waiting_from ls.closures ls.variables ls.places 0 bs) bodies in
    let home : Home = record { around = around; layouts = ls.closures; first = first } in
    record {
      rows = λ n. ap (λ (h : Home). pending h n (stack_of kept.left)) at
          ∙ ap (pending home n) stack
          ∙ all_pending home ls.variables ls.places n ps b
          ∙ ap (λ (x : Layouts). rows (record { around = around; layouts = x.closures; first = first }) x.variables x.places 0 n (closures_in_rule ps b)) laid;
      selects = ap selects_left stack ∙ all_selects_pending ls.closures ls.variables ls.places ps b;
    }

-- ---- the rules that are kept

rows_pushed : (around : Scope) (n : ℕ) (ks : List Kept) (k : Kept) → rows_kept around n (ks ++ k ∷ []) ≡ rows_kept around n ks ++ pending (home_of around k) (n + selects_kept ks) (stack_of k.left)
rows_pushed around n [] k =
    append-nil (pending (home_of around k) n (stack_of k.left))
    ∙ ap (λ (m : ℕ). pending (home_of around k) m (stack_of k.left)) (omega arith)
rows_pushed around n (x ∷ ks) k =
    let here = pending (home_of around x) n (stack_of x.left) in
    let m = n + selects_left (stack_of x.left) in
    ap (λ (l : List ClosureBody). here ++ l) (rows_pushed around m ks k)
    ∙ ap (λ (i : ℕ). here ++ (rows_kept around m ks ++ pending (home_of around k) i (stack_of k.left))) (omega arith)
    ∙ sym (append_assoc here (rows_kept around m ks) (pending (home_of around k) (n + selects_kept (x ∷ ks)) (stack_of k.left)))

selects_pushed : (ks : List Kept) (k : Kept) → selects_kept (ks ++ k ∷ []) ≡ selects_kept ks + selects_left (stack_of k.left)
selects_pushed [] k = omega arith
selects_pushed (x ∷ ks) k = omega (arith, selects_pushed ks k)

pub one_kept : (around : Scope) (first : ℕ) (ps : Parts) (b : Body) (k : Kept) (old new : List Kept) → Waits around first ps b k → new ≡ old ++ k ∷ [] → Keeps around first (rule ps b) old new
one_kept around first ps b k old new waits pushed = record {
  rows = λ n. ap (rows_kept around n) pushed
      ∙ rows_pushed around n old k
      ∙ ap (λ (l : List ClosureBody). rows_kept around n old ++ l) (waits.rows (n + selects_kept old));
  selects = let more = ap selects_kept pushed in omega (arith, more, selects_pushed old k, waits.selects);
}

-- a negated rule keeps what a rule keeps
pub denied : (around : Scope) (first : ℕ) (ps : Parts) (b : Body) (old new : List Kept) → Keeps around first (rule ps b) old new → Keeps around first (deny ps b) old new
denied around first ps b old new keeps = record { rows = keeps.rows; selects = keeps.selects }

pub none_kept : (around : Scope) (first : ℕ) (said : Said) (ks : List Kept) → HasNoRule said → Keeps around first said ks ks
none_kept around first said ks none = record {
  rows = λ n. sym (append-nil (rows_kept around n ks)) ∙ ap (λ (l : List ClosureBody). rows_kept around n ks ++ l) (sym (none.rows around (record { selects = n + selects_kept ks; closures = first })));
  selects = let no = ap selects_within none.closures in omega (arith, no);
}

-- ---- the items that are left

-- with the rows of the items that are left come those of all
pub next_kept : (around : Scope) (first n : ℕ) (i : Item) (is : List Item) (old new : List Kept) → Keeps around first i.said old new → rows_kept around n new ++ rows_from around (record { selects = n + selects_kept new; closures = first + numbered i.said }) is ≡ rows_kept around n old ++ rows_from around (record { selects = n + selects_kept old; closures = first }) (i ∷ is)
next_kept around first n i is old new keeps =
    let here = rows_in around (record { selects = n + selects_kept old; closures = first }) i.said in
    let rest : ℕ → List ClosureBody = λ m. rows_from around (record { selects = m; closures = first + numbered i.said }) is in
    ap (λ (l : List ClosureBody). l ++ rest (n + selects_kept new)) (keeps.rows n)
    ∙ append_assoc (rows_kept around n old) here (rest (n + selects_kept new))
    ∙ ap (λ (m : ℕ). rows_kept around n old ++ (here ++ rest m)) (omega (arith, keeps.selects))

pub no_more : (around : Scope) (first n : ℕ) (ks : List Kept) → rows_kept around n ks ≡ rows_kept around n ks ++ rows_from around (record { selects = n + selects_kept ks; closures = first }) []
no_more around first n ks = sym (append-nil (rows_kept around n ks))
