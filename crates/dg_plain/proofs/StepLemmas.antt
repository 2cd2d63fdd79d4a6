-- What is put off, and what is built at once, over the tree that is read.
use Rattle.std.proofs.Common.{◌≡◌, ◌≤◌, ◌+◌, ◌-◌, ℕ, take, drop, List, [], ◌∷◌, ◌++◌, Bool, true, false, Option, Some, None, length, get_or, map, refl, sym, ◌∙◌, ap, append_assoc, arith}
use Rattle.std.specs.Prelude.{Result, Ok, Err, OnOk}
use Rattle.std.specs.Borrow.{Bor}
use Rattle.std.specs.Option.{option_map}
use Rattle.std.proofs.Math.Seq.{take-length}
use Rattle.std.proofs.lemmas.List.{length-map}
use Rattle.dg_base.specs.Tree as tree
use Rattle.dg_base.specs.Tree.{parts_of, values_of, stmts_of, branches_of, arms_of, changes_of}
use Rattle.dg_base.specs.TreeView.{part_view, value_view, stmt_view, arm_view, body_view, head_view, change_view, branch_view, branches_view, list_view, choice_view}
use Rattle.dg_base.specs.declared.tree.Part.{Part}
use Rattle.dg_base.specs.declared.tree.Value.{Value}
use Rattle.dg_base.specs.declared.tree.Stmt.{Stmt}
use Rattle.dg_base.specs.declared.tree.Arm.{Arm}
use Rattle.dg_base.specs.declared.tree.Body.{Body}
use Rattle.dg_base.specs.declared.tree.Head.{Head}
use Rattle.dg_base.specs.declared.tree.NowChange.{NowChange}
use Rattle.dg_base.specs.declared.tree.Stmt
use Rattle.dg_base.specs.declared.tree.Value
use Rattle.dg_base.specs.declared.tree.Part
use Rattle.dg_base.proofs.Views.{part_word_seen, value_seen, head_seen, body_seen, arm_seen, change_seen}
use Rattle.dg_plain.specs.Plain.{Setting, new_in_parts, new_in_body, puts_of_parts, plain_values, plain_parts, plain_stmts, plain_body, plain_arms, plain_changes}
use Rattle.dg_plain.specs.Building.{Built, after_value, list_of_values, after_values, list_of_parts, after_parts, after_stmt, list_of_stmts, after_stmts, list_of_branches, after_branches, after_body, list_of_arms, after_arms, list_of_changes, after_changes, asked, run, does, unbuilt, IsPutOff}
use Rattle.dg_plain.specs.declared.work.Work.{Work}
use Rattle.dg_plain.specs.declared.work.Work.TheVariants as work
use Rattle.dg_plain.specs.declared.work.Close.{Close}
use Rattle.dg_plain.specs.declared.work.Close.TheVariants as close
use Rattle.dg_plain.specs.declared.work.Asking.{Asking}
use Rattle.dg_plain.proofs.Views.{each_branch}
use Rattle.dg_plain.proofs.BuildLemmas.{off, values_count, parts_count, stmts_count, branches_count, arms_count, changes_count, list_built, tailed_built, nested_built, twice_built, values_built, word_built, part_built, query_built, if_built, else_built, body_built, stmts_built, branch_built, arm_built, change_built, rule_built, parts_again}

-- where there was memory
pub on_ok : {X E : Type 0} (r : Result X E) (A B : Type 0) → OnOk r A → (A → B) → OnOk r B
on_ok (Ok x) A B h f = f h
on_ok (Err e) A B h f = tt

-- the first of a row, and the others
pub parted : {A : Type 0} (xs : List A) (x : A) → 1 ≤ length xs → x ≡ get_or xs 0 x → xs ≡ x ∷ take (length xs - 1) (drop 1 xs)
parted [] x some is = absurd (omega arith)
parted (y ∷ ys) x some is =
    let rest : length (y ∷ ys) - 1 ≡ length ys = omega arith in
    ap (λ h. h ∷ ys) (sym is) ∙ ap (λ l. x ∷ l) (sym (ap (λ (k : ℕ). take k ys) rest ∙ take-length ys))

-- ---- how many there are

pub values_many : (c : Setting) (n : ℕ) (xs : List Value) (k : ℕ) → k ≡ length xs → k ≡ length (list_of_values (plain_values c n (values_of (map value_view xs))))
values_many c n xs k e = e ∙ sym (values_count c n (map value_view xs) ∙ length-map xs value_view)

pub parts_many : (c : Setting) (n : ℕ) (xs : List Part) (k : ℕ) → k ≡ length xs → k ≡ length (list_of_parts (plain_parts c n (parts_of (map part_view xs))))
parts_many c n xs k e = e ∙ sym (parts_count c n (map part_view xs) ∙ length-map xs part_view)

pub stmts_many : (c : Setting) (n : ℕ) (xs : List Stmt) (k : ℕ) → k ≡ length xs → k ≡ length (list_of_stmts (plain_stmts c n (stmts_of (map stmt_view xs))))
stmts_many c n xs k e = e ∙ sym (stmts_count c n (map stmt_view xs) ∙ length-map xs stmt_view)

pub arms_many : (c : Setting) (n : ℕ) (xs : List Arm) (k : ℕ) → k ≡ length xs → k ≡ length (list_of_arms (plain_arms c n (arms_of (map arm_view xs))))
arms_many c n xs k e = e ∙ sym (arms_count c n (map arm_view xs) ∙ length-map xs arm_view)

pub changes_many : (c : Setting) (n : ℕ) (xs : List NowChange) (k : ℕ) → k ≡ length xs → k ≡ length (list_of_changes (plain_changes c n (changes_of (map change_view xs))))
changes_many c n xs k e = e ∙ sym (changes_count c n (map change_view xs) ∙ length-map xs change_view)

pub branches_many : (c : Setting) (n : ℕ) (xs : List (List Stmt)) (k : ℕ) → k ≡ length xs → k ≡ length (list_of_branches (plain_body c n (branches_view (map (map stmt_view) xs))))
branches_many c n xs k e =
    e ∙ sym (ap (λ (b : tree.Body). length (list_of_branches (plain_body c n b))) (each_branch xs) ∙ branches_count c n (map branch_view xs) ∙ length-map xs branch_view)

-- ---- lists

pub values_off : (w : Bool) (xs : List Value) (x : Bor Value) (others : Bor (List Value)) (old new : List Work) → xs ≡ x.now ∷ others.now → new ≡ old ++ work.Values w others ∷ work.Value w x ∷ [] → IsPutOff (λ c. after_values c w (values_of (map value_view xs))) old new
values_off w xs x others old new is put = λ c s. off c old new (work.Values w others ∷ work.Value w x ∷ []) s _ put (values_built c w (value_view x.now) (values_of (map value_view others.now)) s ∙ ap (λ (l : List Value). after_values c w (values_of (map value_view l)) s) (sym is))

pub stmts_off : (xs : List Stmt) (x : Bor Stmt) (others : Bor (List Stmt)) (old new : List Work) → xs ≡ x.now ∷ others.now → new ≡ old ++ work.Stmts others ∷ work.Stmt x ∷ [] → IsPutOff (λ c. after_stmts c (stmts_of (map stmt_view xs))) old new
stmts_off xs x others old new is put = λ c s. off c old new (work.Stmts others ∷ work.Stmt x ∷ []) s _ put (stmts_built c (stmt_view x.now) (stmts_of (map stmt_view others.now)) s ∙ ap (λ (l : List Stmt). after_stmts c (stmts_of (map stmt_view l)) s) (sym is))

pub branches_off : (xs : List (List Stmt)) (first : List Stmt) (x : Bor (List Stmt)) (others : Bor (List (List Stmt))) (k : ℕ) (old new : List Work) → xs ≡ first ∷ others.now → x.now ≡ first → k ≡ length first → new ≡ old ++ work.Branches others ∷ work.Close (close.Branch k) ∷ work.Stmts x ∷ [] → IsPutOff (λ c. after_branches c (branches_view (map (map stmt_view) xs))) old new
branches_off xs first x others k old new is same count put = λ c s.
    off c old new (work.Branches others ∷ work.Close (close.Branch k) ∷ work.Stmts x ∷ []) s _ put
    (branch_built c (stmts_of (map stmt_view x.now)) (branches_view (map (map stmt_view) others.now)) k s (stmts_many c s.at x.now k (count ∙ ap length (sym same)))
    ∙ ap (λ (l : List (List Stmt)). after_branches c (branches_view (map (map stmt_view) l)) s) (ap (λ (f : List Stmt). f ∷ others.now) same ∙ sym is))

pub arms_off : (xs : List Arm) (x : Arm) (a b : Bor Body) (others : Bor (List Arm)) (old new : List Work) → xs ≡ x ∷ others.now → a.now ≡ x.condition → b.now ≡ x.body → new ≡ old ++ work.Arms others ∷ work.Close close.Arm ∷ work.Body b ∷ work.Body a ∷ [] → IsPutOff (λ c. after_arms c (arms_of (map arm_view xs))) old new
arms_off xs x a b others old new is first second put = λ c s.
    off c old new (work.Arms others ∷ work.Close close.Arm ∷ work.Body b ∷ work.Body a ∷ []) s _ put
    (arm_built c (body_view a.now) (body_view b.now) (arms_of (map arm_view others.now)) s
    ∙ ap (λ (l : tree.Body). after_arms c (tree.arm l (body_view b.now) (arms_of (map arm_view others.now))) s) (ap body_view first)
    ∙ ap (λ (l : tree.Body). after_arms c (tree.arm (body_view x.condition) l (arms_of (map arm_view others.now))) s) (ap body_view second)
    ∙ ap (λ (l : tree.Body × tree.Body). after_arms c (arms_of (l ∷ map arm_view others.now)) s) (sym (arm_seen x))
    ∙ ap (λ (l : List Arm). after_arms c (arms_of (map arm_view l)) s) (sym is))

pub arms_two_off : (xs : List Arm) (x : Arm) (a b : Bor Body) (others : Bor (List Arm)) (old middle new : List Work) → xs ≡ x ∷ others.now → a.now ≡ x.condition → b.now ≡ x.body → middle ≡ old ++ work.Arms others ∷ [] → new ≡ middle ++ work.Close close.Arm ∷ work.Body b ∷ work.Body a ∷ [] → IsPutOff (λ c. after_arms c (arms_of (map arm_view xs))) old new
arms_two_off xs x a b others old middle new is first second put more =
    arms_off xs x a b others old new is first second
    (more ∙ ap (λ (ws : List Work). ws ++ work.Close close.Arm ∷ work.Body b ∷ work.Body a ∷ []) put ∙ append_assoc old (work.Arms others ∷ []) (work.Close close.Arm ∷ work.Body b ∷ work.Body a ∷ []))

-- the parts of a head
head_parts : (h : Head) (ps : List Part) → ps ≡ h.parts → parts_of (map part_view ps) ≡ head_view h
head_parts h ps is = ap (λ (l : List Part). parts_of (map part_view l)) is ∙ sym (head_seen h)

pub changes_off : (xs : List NowChange) (x : NowChange) (ps : Bor (List Part)) (others : Bor (List NowChange)) (k : ℕ) (old new : List Work) → xs ≡ x ∷ others.now → ps.now ≡ x.head.parts → k ≡ length x.head.parts → new ≡ old ++ work.Changes others ∷ work.Close (close.Change x.set k) ∷ work.Parts false ps ∷ [] → IsPutOff (λ c. after_changes c (changes_of (map change_view xs))) old new
changes_off xs x ps others k old new is same count put = λ c s.
    off c old new (work.Changes others ∷ work.Close (close.Change x.set k) ∷ work.Parts false ps ∷ []) s _ put
    (change_built c (parts_of (map part_view ps.now)) x.set (changes_of (map change_view others.now)) k s (parts_many c s.at ps.now k (count ∙ ap length (sym same)))
    ∙ ap (λ (l : tree.Parts). after_changes c (tree.change l x.set (changes_of (map change_view others.now))) s) (head_parts x.head ps.now same)
    ∙ ap (λ (l : tree.Parts × Bool). after_changes c (changes_of (l ∷ map change_view others.now)) s) (sym (change_seen x))
    ∙ ap (λ (l : List NowChange). after_changes c (changes_of (map change_view l)) s) (sym is))

pub part_off : (w : Bool) (xs : List Part) (p : Part) (v : Bor Value) (others : Bor (List Part)) (old new : List Work) → xs ≡ p ∷ others.now → p ≡ Part.Value v.now → new ≡ old ++ work.Parts w others ∷ work.Close close.Part ∷ work.Value w v ∷ [] → IsPutOff (λ c. after_parts c w (parts_of (map part_view xs))) old new
part_off w xs p v others old new is seen put = λ c s.
    off c old new (work.Parts w others ∷ work.Close close.Part ∷ work.Value w v ∷ []) s _ put
    (part_built c w (value_view v.now) (parts_of (map part_view others.now)) s
    ∙ ap (λ (l : List tree.Part). after_parts c w (parts_of l) s) (sym (ap (map part_view) is ∙ ap (λ (x : tree.Part). x ∷ map part_view others.now) (ap part_view seen ∙ value_seen v.now))))

pub word_off : (w : Bool) (xs : List Part) (p : Part) (n : List ℕ) (others : Bor (List Part)) (old new : List Work) (c : Setting) (s t : Built) → xs ≡ p ∷ others.now → p ≡ Part.Word n → new ≡ old ++ work.Parts w others ∷ [] → t ≡ record s { parts = s.parts ++ tree.part_word n ∷ [] } → run c new t ≡ run c old (after_parts c w (parts_of (map part_view xs)) s)
word_off w xs p n others old new c s t is seen put built =
    off c old new (work.Parts w others ∷ []) t _ put
    (ap (λ (u : Built). after_parts c w (parts_of (map part_view others.now)) u) built
    ∙ word_built c w n (parts_of (map part_view others.now)) s
    ∙ ap (λ (l : List tree.Part). after_parts c w (parts_of l) s) (sym (ap (map part_view) is ∙ ap (λ (x : tree.Part). x ∷ map part_view others.now) (ap part_view seen ∙ part_word_seen n))))

-- ---- values

pub list_off : (w : Bool) (xs : Bor (List Value)) (tail : Option Value) (k : ℕ) (old new : List Work) → tail ≡ None → k ≡ length xs.now → new ≡ old ++ work.Close (close.List k) ∷ work.Values w xs ∷ [] → IsPutOff (λ c. after_value c w (list_view (map value_view xs.now) (option_map value_view tail))) old new
list_off w xs tail k old new is count put = λ c s.
    off c old new (work.Close (close.List k) ∷ work.Values w xs ∷ []) s _ put
    (list_built c w (values_of (map value_view xs.now)) k s (values_many c s.at xs.now k count)
    ∙ ap (λ (t : Option Value). after_value c w (list_view (map value_view xs.now) (option_map value_view t)) s) (sym is))

pub tailed_off : (w : Bool) (xs : Bor (List Value)) (tail : Option Value) (v : Bor Value) (k : ℕ) (old new : List Work) → tail ≡ Some v.now → k ≡ length xs.now → new ≡ old ++ work.Close (close.Tailed k) ∷ work.Value w v ∷ work.Values w xs ∷ [] → IsPutOff (λ c. after_value c w (list_view (map value_view xs.now) (option_map value_view tail))) old new
tailed_off w xs tail v k old new is count put = λ c s.
    off c old new (work.Close (close.Tailed k) ∷ work.Value w v ∷ work.Values w xs ∷ []) s _ put
    (tailed_built c w (values_of (map value_view xs.now)) (value_view v.now) k s (values_many c s.at xs.now k count)
    ∙ ap (λ (t : Option Value). after_value c w (list_view (map value_view xs.now) (option_map value_view t)) s) (sym is))

pub nested_off : (ps : Bor (List Part)) (k : ℕ) (old new : List Work) → k ≡ length ps.now → new ≡ old ++ work.Close (close.Nested k) ∷ work.Parts false ps ∷ [] → IsPutOff (λ c. after_value c false (tree.nested (parts_of (map part_view ps.now)))) old new
nested_off ps k old new count put = λ c s. off c old new (work.Close (close.Nested k) ∷ work.Parts false ps ∷ []) s _ put (nested_built c (parts_of (map part_view ps.now)) k s (parts_many c s.at ps.now k count))

pub twice_off : (c : Setting) (s : Built) (ps : Bor (List Part)) (k l n : ℕ) (old middle new : List Work) → k ≡ length ps.now → l ≡ length ps.now → n ≡ s.at → middle ≡ old ++ work.Close (close.Nested k) ∷ work.Parts false ps ∷ [] → new ≡ middle ++ work.Close (close.Put l n) ∷ work.Parts true ps ∷ [] → run c new s ≡ run c old (after_value c true (tree.nested (parts_of (map part_view ps.now))) s)
twice_off c s ps k l n old middle new count again at first put =
    let many = parts_many c s.at ps.now k count in
    off c middle new (work.Close (close.Put l n) ∷ work.Parts true ps ∷ []) s _ put refl
    ∙ off c old middle (work.Close (close.Nested k) ∷ work.Parts false ps ∷ []) _ _ first
    (ap (λ (j : ℕ). run c (work.Close (close.Nested k) ∷ work.Parts false ps ∷ work.Close (close.Put j n) ∷ work.Parts true ps ∷ []) s) (again ∙ sym count)
    ∙ twice_built c (parts_of (map part_view ps.now)) k n s many at)

-- ---- statements

-- what is put off where this value stands
pub value_off : (c : Setting) (w : Bool) (x : Value) (form : tree.Value) (s : Built) (old new : List Work) (a b : Work) → value_view x ≡ form → new ≡ old ++ a ∷ b ∷ [] → does c a (does c b s) ≡ after_value c w form s → run c new s ≡ run c old (after_value c w (value_view x) s)
value_off c w x form s old new a b seen put e = off c old new (a ∷ b ∷ []) s _ put (e ∙ ap (λ (y : tree.Value). after_value c w y s) (sym seen))

-- what is put off where this statement stands
pub stmt_off : (c : Setting) (x : Stmt) (form : tree.Stmt) (s : Built) (old new : List Work) (a b : Work) → stmt_view x ≡ form → new ≡ old ++ a ∷ b ∷ [] → does c a (does c b s) ≡ after_stmt c form s → run c new s ≡ run c old (after_stmt c (stmt_view x) s)
stmt_off c x form s old new a b seen put e = off c old new (a ∷ b ∷ []) s _ put (e ∙ ap (λ (y : tree.Stmt). after_stmt c y s) (sym seen))

pub gathering_off : (c : Setting) (x : Stmt) (form : tree.Stmt) (s : Built) (old new : List Work) (a b d e : Work) → stmt_view x ≡ form → new ≡ old ++ a ∷ b ∷ d ∷ e ∷ [] → does c a (does c b (does c d (does c e s))) ≡ after_stmt c form s → run c new s ≡ run c old (after_stmt c (stmt_view x) s)
gathering_off c x form s old new a b d e seen put h = off c old new (a ∷ b ∷ d ∷ e ∷ []) s _ put (h ∙ ap (λ (y : tree.Stmt). after_stmt c y s) (sym seen))

pub choice_off : (arms : Bor (List Arm)) (other : Option Body) (k : ℕ) (old new : List Work) → other ≡ None → k ≡ length arms.now → new ≡ old ++ work.Close (close.If k) ∷ work.Arms arms ∷ [] → IsPutOff (λ c. after_stmt c (choice_view (map arm_view arms.now) (option_map body_view other))) old new
choice_off arms other k old new is count put = λ c s.
    off c old new (work.Close (close.If k) ∷ work.Arms arms ∷ []) s _ put
    (if_built c (arms_of (map arm_view arms.now)) k s (arms_many c s.at arms.now k count)
    ∙ ap (λ (t : Option Body). after_stmt c (choice_view (map arm_view arms.now) (option_map body_view t)) s) (sym is))

pub else_off : (arms : Bor (List Arm)) (other : Option Body) (b : Bor Body) (k : ℕ) (old new : List Work) → other ≡ Some b.now → k ≡ length arms.now → new ≡ old ++ work.Close (close.IfElse k) ∷ work.Body b ∷ work.Arms arms ∷ [] → IsPutOff (λ c. after_stmt c (choice_view (map arm_view arms.now) (option_map body_view other))) old new
else_off arms other b k old new is count put = λ c s.
    off c old new (work.Close (close.IfElse k) ∷ work.Body b ∷ work.Arms arms ∷ []) s _ put
    (else_built c (arms_of (map arm_view arms.now)) (body_view b.now) k s (arms_many c s.at arms.now k count)
    ∙ ap (λ (t : Option Body). after_stmt c (choice_view (map arm_view arms.now) (option_map body_view t)) s) (sym is))

pub query_off : (a : Asking) (h : Head) (ps : Bor (List Part)) (k : ℕ) (old new : List Work) → ps.now ≡ h.parts → k ≡ length ps.now → new ≡ old ++ work.Close (close.Query a k) ∷ work.Parts false ps ∷ [] → IsPutOff (λ c. after_stmt c (asked a (head_view h))) old new
query_off a h ps k old new same count put = λ c s.
    off c old new (work.Close (close.Query a k) ∷ work.Parts false ps ∷ []) s _ put
    (query_built c a (parts_of (map part_view ps.now)) k s (parts_many c s.at ps.now k count)
    ∙ ap (λ (l : tree.Parts). after_stmt c (asked a l) s) (head_parts h ps.now same))

pub body_off : (b : Body) (bs : Bor (List (List Stmt))) (k : ℕ) (old new : List Work) → bs.now ≡ b.branches → k ≡ length b.branches → new ≡ old ++ work.Close (close.Body k) ∷ work.Branches bs ∷ [] → IsPutOff (λ c. after_body c (body_view b)) old new
body_off b bs k old new same count put = λ c s.
    off c old new (work.Close (close.Body k) ∷ work.Branches bs ∷ []) s _ put
    (body_built c (branches_view (map (map stmt_view) bs.now)) k s (branches_many c s.at bs.now k (count ∙ ap length (sym same)))
    ∙ ap (λ (l : tree.Body). after_body c l s) (ap (λ (l : List (List Stmt)). branches_view (map (map stmt_view) l)) same ∙ sym (body_seen b)))

-- ---- a rule

-- what the head and the body of a rule come to
pub rule_run : (c : Setting) (h : Head) (ps : Bor (List Part)) (b : Bor Body) (s : Built) → ps.now ≡ h.parts → s ≡ run c (work.Body b ∷ work.Parts true ps ∷ []) unbuilt → s ≡ record unbuilt { at = new_in_parts (head_view h) + new_in_body (body_view b.now); parts = list_of_parts (plain_parts c 0 (head_view h)); puts = puts_of_parts c 0 (head_view h); bodies = plain_body c (new_in_parts (head_view h)) (body_view b.now) ∷ [] }
rule_run c h ps b s same e =
    e
    ∙ ap (λ (l : tree.Parts). after_body c (body_view b.now) (after_parts c true l unbuilt)) (head_parts h ps.now same)
    ∙ rule_built c (head_view h) (body_view b.now)

-- what a head alone comes to
pub head_run : (c : Setting) (h : Head) (ps : Bor (List Part)) (s : Built) → ps.now ≡ h.parts → s ≡ run c (work.Parts false ps ∷ []) unbuilt → parts_of s.parts ≡ plain_parts c 0 (head_view h)
head_run c h ps s same e =
    ap (λ (t : Built). parts_of t.parts) e
    ∙ parts_again (plain_parts c 0 (parts_of (map part_view ps.now)))
    ∙ ap (λ (l : tree.Parts). plain_parts c 0 l) (head_parts h ps.now same)
