-- The rows of closures come in the order of what waits, where those in a closure are taken before what waited already.
use Rattle.std.proofs.Common.{◌≡◌, ◌<◌, ◌+◌, ◌∙◌, ℕ, Bor, get_or, min, List, [], ◌∷◌, ◌++◌, false, length, refl, sym, ap, append_assoc, arith}
use Rattle.std.proofs.lemmas.List.{length-map, map-append}
use Rattle.dg_base.specs.Mentions.{of_body}
use Rattle.dg_base.specs.Tree as tree
use Rattle.dg_base.specs.Tree.{Parts, Value, Values, Stmt, Stmts, Body, Arms, Changes}
use Rattle.dg_base.specs.TreeView.{body_view}
use Rattle.dg_base.specs.declared.program.ClosureBody.{ClosureBody}
use Rattle.dg_base.specs.declared.program.Goal.{Goal}
use Rattle.dg_base.specs.declared.tree.Body.{Body as CodeBody}
use Rattle.dg_scopes.specs.Closures.{Layout, variables_in}
use Rattle.dg_core.specs.Bodies.{Closed, no_closure, a_closure, joined_closures, direct, in_value, in_values, in_parts, in_stmt, in_stmts, in_branches, in_arms, in_changes}
use Rattle.dg_core.specs.Goals.{Scope, count_selects, body_goals}
use Rattle.dg_core.specs.inside.Making.{bodies_view}
use Rattle.dg_core.specs.Rows.{size, selects_within, layout_at, Home, scope_in, row_with, captured_in, rows, closures_in_rule}
use Rattle.dg_core.specs.inside.Waiting.{Waiting, pending, left_of, selects_left, waiting_view, stack_of, waiting_at, waiting_from, IsNext}
use Rattle.dg_core.specs.declared.rows.Waiting.{Waiting as CodeWaiting}

-- ---- what is found in a body

-- in each closure stand those of its body
abbrev pub HaveTheirs : Closed → Type 0
HaveTheirs no_closure = Unit {0}
HaveTheirs (a_closure b inner cs) = (inner ≡ in_branches b) × HaveTheirs cs

joined : (cs ds : Closed) → HaveTheirs cs → HaveTheirs ds → HaveTheirs (joined_closures cs ds)
joined no_closure ds h k = k
joined (a_closure b inner cs) ds h k = (h.0, joined cs ds h.1 k)

mutual
  value_has : (v : Value) → HaveTheirs (in_value v)
  value_has (tree.num n) = tt
  value_has (tree.dict_word w) = tt
  value_has (tree.object_name n) = tt
  value_has tree.current_topic = tt
  value_has tree.anonymous = tt
  value_has (tree.variable n) = tt
  value_has (tree.plain_list vs) = values_have vs
  value_has (tree.tailed_list vs v) = joined (in_values vs) (in_value v) (values_have vs) (value_has v)
  value_has (tree.closure b) = (refl, tt)
  value_has (tree.nested ps) = tt
  value_has (tree.word_choice ws) = tt

  values_have : (vs : Values) → HaveTheirs (in_values vs)
  values_have tree.no_values = tt
  values_have (tree.value v vs) = joined (in_value v) (in_values vs) (value_has v) (values_have vs)

  parts_have : (ps : Parts) → HaveTheirs (in_parts ps)
  parts_have tree.no_parts = tt
  parts_have (tree.part (tree.part_word w) ps) = parts_have ps
  parts_have (tree.part (tree.part_value v) ps) = joined (in_value v) (in_parts ps) (value_has v) (parts_have ps)

  stmt_has : (s : Stmt) → HaveTheirs (in_stmt s)
  stmt_has (tree.text w) = tt
  stmt_has (tree.print v) = value_has v
  stmt_has (tree.ask ps) = parts_have ps
  stmt_has (tree.ask_all ps) = parts_have ps
  stmt_has (tree.ask_not ps) = parts_have ps
  stmt_has (tree.group b) = branches_have b
  stmt_has (tree.not_group b) = branches_have b
  stmt_has (tree.now cs) = changes_have cs
  stmt_has (tree.choice arms) = arms_have arms
  stmt_has (tree.choice_else arms b) = joined (in_arms arms) (in_branches b) (arms_have arms) (branches_have b)
  stmt_has (tree.exhaust s) = stmt_has s
  stmt_has (tree.stoppable s) = stmt_has s
  stmt_has (tree.collect v b into) = joined (in_value v) (joined_closures (in_branches b) (in_value into)) (value_has v) (joined (in_branches b) (in_value into) (branches_have b) (value_has into))
  stmt_has (tree.accumulate v b into) = joined (in_value v) (joined_closures (in_branches b) (in_value into)) (value_has v) (joined (in_branches b) (in_value into) (branches_have b) (value_has into))
  stmt_has (tree.select mode b) = branches_have b
  stmt_has (tree.first_answer b) = branches_have b

  stmts_have : (ss : Stmts) → HaveTheirs (in_stmts ss)
  stmts_have tree.no_stmts = tt
  stmts_have (tree.stmt s ss) = joined (in_stmt s) (in_stmts ss) (stmt_has s) (stmts_have ss)

  pub branches_have : (b : Body) → HaveTheirs (in_branches b)
  branches_have tree.no_branches = tt
  branches_have (tree.branch ss b) = joined (in_stmts ss) (in_branches b) (stmts_have ss) (branches_have b)

  arms_have : (arms : Arms) → HaveTheirs (in_arms arms)
  arms_have tree.no_arms = tt
  arms_have (tree.arm c b arms) = joined (in_branches c) (joined_closures (in_branches b) (in_arms arms)) (branches_have c) (joined (in_branches b) (in_arms arms) (branches_have b) (arms_have arms))

  changes_have : (cs : Changes) → HaveTheirs (in_changes cs)
  changes_have tree.no_changes = tt
  changes_have (tree.change ps set cs) = joined (in_parts ps) (in_changes cs) (parts_have ps) (changes_have cs)

pub rule_has : (ps : Parts) (b : Body) → HaveTheirs (closures_in_rule ps b)
rule_has ps b = joined (in_parts ps) (in_branches b) (parts_have ps) (branches_have b)

-- ---- what comes of those that were found

pub pending_found : (home : Home) (vars : List (List ℕ)) (ps : List ℕ) (i n : ℕ) (cs : Closed) (ws : List Waiting) → HaveTheirs cs → pending home n (waiting_from home.layouts vars ps i (direct cs) ++ ws) ≡ rows home vars ps i n cs ++ pending home (n + selects_within cs) ws
pending_found home vars ps i n no_closure ws h = ap (λ (k : ℕ). pending home k ws) (omega arith)
pending_found home vars ps i n (a_closure b inner cs) ws h =
    let l = layout_at home.layouts (get_or ps i 0) in
    let m = n + count_selects (of_body false b) in
    let r = row_with home (captured_in vars l) n l b in
    let others = waiting_from home.layouts vars ps (i + 1) (direct cs) ++ ws in
    let inside : Closed → List ClosureBody = λ c. rows home (variables_in l) l.places 0 m c in
    let rest = rows home vars ps (i + 1) (m + selects_within inner) cs in
    let last : ℕ → List ClosureBody = λ k. pending home k ws in
    ap (λ (c : Closed). r ∷ (inside c ++ pending home (m + selects_within c) others)) (sym h.0)
    ∙ ap (λ (x : List ClosureBody). r ∷ (inside inner ++ x)) (pending_found home vars ps (i + 1) (m + selects_within inner) cs ws h.1)
    ∙ ap (λ (k : ℕ). r ∷ (inside inner ++ (rest ++ last k))) (omega arith)
    ∙ ap (λ (x : List ClosureBody). r ∷ x) (sym (append_assoc (inside inner) rest (last (n + selects_within (a_closure b inner cs)))))

pub selects_found : (ls : List Layout) (vars : List (List ℕ)) (ps : List ℕ) (i : ℕ) (cs : Closed) (ws : List Waiting) → HaveTheirs cs → selects_left (waiting_from ls vars ps i (direct cs) ++ ws) ≡ selects_within cs + selects_left ws
selects_found ls vars ps i no_closure ws h = omega arith
selects_found ls vars ps i (a_closure b inner cs) ws h = omega (arith, ap selects_within h.0, selects_found ls vars ps (i + 1) cs ws h.1)

-- one row fewer is left
found_left : (ls : List Layout) (vars : List (List ℕ)) (ps : List ℕ) (i : ℕ) (cs : Closed) (ws : List Waiting) → HaveTheirs cs → left_of (waiting_from ls vars ps i (direct cs) ++ ws) ≡ size cs + left_of ws
found_left ls vars ps i no_closure ws h = omega arith
found_left ls vars ps i (a_closure b inner cs) ws h = omega (arith, ap size h.0, found_left ls vars ps (i + 1) cs ws h.1)

-- ---- the code's stack

pub stack_pushed : (ws : List CodeWaiting) (w : CodeWaiting) → stack_of (ws ++ w ∷ []) ≡ waiting_view w ∷ stack_of ws
stack_pushed [] w = refl
stack_pushed (x ∷ ws) w = ap (λ (l : List Waiting). l ++ waiting_view x ∷ []) (stack_pushed ws w)

last_waits : (ls : List Layout) (vars : List (List ℕ)) (ps : List ℕ) (i : ℕ) (bs : List Body) (b : Body) → waiting_from ls vars ps i (bs ++ b ∷ []) ≡ waiting_from ls vars ps i bs ++ waiting_at ls vars ps (i + length bs) b ∷ []
last_waits ls vars ps i [] b = ap (λ (k : ℕ). waiting_at ls vars ps k b ∷ []) (omega arith)
last_waits ls vars ps i (x ∷ bs) b =
    ap (λ (l : List Waiting). waiting_at ls vars ps i x ∷ l) (last_waits ls vars ps (i + 1) bs b ∙ ap (λ (k : ℕ). waiting_from ls vars ps (i + 1) bs ++ waiting_at ls vars ps k b ∷ []) (omega arith))

pub put_waits : (ls : List Layout) (vars : List (List ℕ)) (ps : List ℕ) (old new : List CodeWaiting) (w : CodeWaiting) (i : ℕ) (b : Body) → new ≡ old ++ w ∷ [] → body_view w.body.now ≡ b → w.place ≡ get_or ps i 0 → w.captured ≡ captured_in vars (layout_at ls w.place) → stack_of new ≡ waiting_at ls vars ps i b ∷ stack_of old
put_waits ls vars ps old new w i b pushed is at caught =
    ap stack_of pushed
    ∙ stack_pushed old w
    ∙ ap (λ (x : Body). record { body = x; place = w.place; captured = w.captured } ∷ stack_of old) is
    ∙ ap (λ (x : List ℕ). record { body = b; place = w.place; captured = x } ∷ stack_of old) caught
    ∙ ap (λ (k : ℕ). record { body = b; place = k; captured = captured_in vars (layout_at ls k) } ∷ stack_of old) at

-- the last body that was found is put in front of what waits
pub found_waits : (ls : List Layout) (vars : List (List ℕ)) (ps : List ℕ) (old new : List (Bor CodeBody)) (b : Bor CodeBody) (i : ℕ) (before after : List Waiting) (all : List Waiting) → old ≡ new ++ b ∷ [] → i ≡ length new → after ≡ waiting_at ls vars ps i (body_view b.now) ∷ before → waiting_from ls vars ps 0 (bodies_view old) ++ before ≡ all → waiting_from ls vars ps 0 (bodies_view new) ++ after ≡ all
found_waits ls vars ps old new b i before after all popped at put e =
    let front = waiting_from ls vars ps 0 (bodies_view new) in
    let one : ℕ → List Waiting = λ k. waiting_at ls vars ps k (body_view b.now) ∷ [] in
    ap (λ (l : List Waiting). front ++ l) put
    ∙ sym (append_assoc front (one i) before)
    ∙ ap (λ (k : ℕ). (front ++ one k) ++ before) (omega (arith, at, length-map new (λ (x : Bor CodeBody). body_view x.now)))
    ∙ ap (λ (l : List Waiting). l ++ before) (sym (last_waits ls vars ps 0 (bodies_view new) (body_view b.now)))
    ∙ ap (λ (l : List Body). waiting_from ls vars ps 0 l ++ before) (sym (map-append (λ (x : Bor CodeBody). body_view x.now) new (b ∷ [])))
    ∙ ap (λ (l : List (Bor CodeBody)). waiting_from ls vars ps 0 (bodies_view l) ++ before) (sym popped)
    ∙ e

-- ---- a row is made

pub row_made : (home : Home) (captured : List ℕ) (n : ℕ) (l : Layout) (b : Body) (scope : Scope) (goals : List Goal) → scope ≡ scope_in home (variables_in l) l.places → goals ≡ body_goals scope n b → record { captured = captured; own = min (length l.own) 65535; body = goals } ≡ row_with home captured n l b
row_made home captured n l b scope goals inside made =
    ap (λ (gs : List Goal). record { captured = captured; own = min (length l.own) 65535; body = gs }) (made ∙ ap (λ (s : Scope). body_goals s n b) inside)

-- the row of a closure is made of the layout at its place, and those in it wait
pub next_made : (home : Home) (w : Waiting) (n m : ℕ) (old new : List Waiting) (rs new_rows : List ClosureBody) (row : ClosureBody) (found : List Body) → row ≡ row_with home w.captured n (layout_at home.layouts w.place) w.body → found ≡ direct (in_branches w.body) → m ≡ n + count_selects (of_body false w.body) → new_rows ≡ rs ++ row ∷ [] → new ≡ waiting_from home.layouts (variables_in (layout_at home.layouts w.place)) (layout_at home.layouts w.place).places 0 found ++ old → IsNext home w n old rs m new new_rows
next_made home w n m old new rs new_rows row found made bodies sites pushed put =
    let l = layout_at home.layouts w.place in
    let inner = in_branches w.body in
    let k = n + count_selects (of_body false w.body) in
    let waits = put ∙ ap (λ (bs : List Body). waiting_from home.layouts (variables_in l) l.places 0 bs ++ old) bodies in
    let theirs = branches_have w.body in
    record {
      made =
          ap (λ (x : List ClosureBody). x ++ pending home m new) pushed
          ∙ append_assoc rs (row ∷ []) (pending home m new)
          ∙ ap (λ (x : ClosureBody). rs ++ x ∷ pending home m new) made
          ∙ ap (λ (x : ℕ). rs ++ row_with home w.captured n l w.body ∷ pending home x new) sites
          ∙ ap (λ (x : List Waiting). rs ++ row_with home w.captured n l w.body ∷ pending home k x) waits
          ∙ ap (λ (x : List ClosureBody). rs ++ row_with home w.captured n l w.body ∷ x) (pending_found home (variables_in l) l.places 0 k inner old theirs);
      sites = omega (arith, sites, ap selects_left waits, selects_found home.layouts (variables_in l) l.places 0 inner old theirs);
      fewer = omega (arith, ap left_of waits, found_left home.layouts (variables_in l) l.places 0 inner old theirs);
    }

-- ---- along the loop

pub next_rows : (home here : Home) (w : CodeWaiting) (old popped new : List CodeWaiting) (n m : ℕ) (rs new_rows all : List ClosureBody) → here ≡ home → old ≡ popped ++ w ∷ [] → IsNext here (waiting_view w) n (stack_of popped) rs m (stack_of new) new_rows → rs ++ pending home n (stack_of old) ≡ all → new_rows ++ pending home m (stack_of new) ≡ all
next_rows home here w old popped new n m rs new_rows all same taken next e =
    ap (λ (h : Home). new_rows ++ pending h m (stack_of new)) (sym same)
    ∙ next.made
    ∙ ap (λ (h : Home). rs ++ pending h n (waiting_view w ∷ stack_of popped)) same
    ∙ ap (λ (l : List Waiting). rs ++ pending home n l) (sym (ap stack_of taken ∙ stack_pushed popped w))
    ∙ e

pub next_selects : (here : Home) (w : CodeWaiting) (old popped new : List CodeWaiting) (n m k : ℕ) (rs new_rows : List ClosureBody) → old ≡ popped ++ w ∷ [] → IsNext here (waiting_view w) n (stack_of popped) rs m (stack_of new) new_rows → n + selects_left (stack_of old) ≡ k → m + selects_left (stack_of new) ≡ k
next_selects here w old popped new n m k rs new_rows taken next e =
    next.sites ∙ ap (λ (l : List Waiting). n + selects_left l) (sym (ap stack_of taken ∙ stack_pushed popped w)) ∙ e

pub next_fewer : (here : Home) (w : CodeWaiting) (old popped new : List CodeWaiting) (n m : ℕ) (rs new_rows : List ClosureBody) → old ≡ popped ++ w ∷ [] → IsNext here (waiting_view w) n (stack_of popped) rs m (stack_of new) new_rows → left_of (stack_of new) < left_of (stack_of old)
next_fewer here w old popped new n m rs new_rows taken next =
    let same = ap left_of (ap stack_of taken ∙ stack_pushed popped w) in
    omega (arith, next.fewer, same)
