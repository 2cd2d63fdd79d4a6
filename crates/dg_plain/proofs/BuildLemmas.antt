-- What each step of the building comes to.
use Rattle.std.proofs.Common.{◌≡◌, ◌+◌, ◌-◌, ℕ, List, [], ◌∷◌, ◌++◌, Bool, true, false, length, map, take, drop, refl, sym, ◌∙◌, ap, append_assoc, append-nil, arith}
use Rattle.std.proofs.lemmas.List.{take_at, drop_at, take-map, drop-map, map-append, length-append, length-map}
use Rattle.dg_base.specs.Tree as tree
use Rattle.dg_base.specs.Tree.{Part, Parts, Value, Values, Stmt, Stmts, Body, Arms, Changes, parts_of, values_of, stmts_of, branches_of, arms_of, changes_of}
use Rattle.dg_base.specs.declared.program.Mode.{Mode}
use Rattle.dg_plain.specs.Plain.{Setting, new_in_value, new_in_values, new_in_part, new_in_parts, new_in_stmt, new_in_stmts, new_in_body, new_in_arms, new_in_changes, plain_value, plain_values, plain_parts, plain_stmt, plain_stmts, plain_body, plain_arms, plain_changes, puts_of_value, puts_of_values, puts_of_parts}
use Rattle.dg_plain.specs.Building.{Built, front, behind, init, last_or, wrapped, asked, no_stmt, closing, unbuilt, only_if, after_value, list_of_values, after_values, list_of_parts, after_parts, after_stmt, list_of_stmts, after_stmts, list_of_branches, after_branches, after_body, list_of_arms, after_arms, list_of_changes, after_changes, does, run}
use Rattle.dg_plain.specs.declared.work.Work.{Work}
use Rattle.dg_plain.specs.declared.work.Close.TheVariants as close
use Rattle.dg_plain.specs.declared.work.Wrap.{Wrap}
use Rattle.dg_plain.specs.declared.work.Wrap.TheVariants as wrap
use Rattle.dg_plain.specs.declared.work.Asking.{Asking}
use Rattle.dg_plain.specs.declared.work.Asking.TheVariants as asking

-- ---- what is left

pub run_append : (c : Setting) (ws vs : List Work) (s : Built) → run c (ws ++ vs) s ≡ run c ws (run c vs s)
run_append c [] vs s = refl
run_append c (w ∷ ws) vs s = ap (does c w) (run_append c ws vs s)

-- what was put off comes to this
pub off : (c : Setting) (old new vs : List Work) (s t : Built) → new ≡ old ++ vs → run c vs s ≡ t → run c new s ≡ run c old t
off c old new vs s t e h = ap (λ (ws : List Work). run c ws s) e ∙ run_append c old vs s ∙ ap (run c old) h

-- ---- the end of a list

total : {X : Type 0} (xs ys : List X) (k : ℕ) → k ≡ length ys → length xs ≡ length (xs ++ ys) - k
total xs ys k e = omega (arith, e, length-append xs ys)

pub front_at : {X : Type 0} (xs ys : List X) (k : ℕ) → k ≡ length ys → front k (xs ++ ys) ≡ xs
front_at xs ys k e = take_at xs ys (length (xs ++ ys) - k) (total xs ys k e)

pub behind_at : {X : Type 0} (xs ys : List X) (k : ℕ) → k ≡ length ys → behind k (xs ++ ys) ≡ ys
behind_at xs ys k e = drop_at xs ys (length (xs ++ ys) - k) (total xs ys k e)

pub init_push : {X : Type 0} (xs : List X) (x : X) → init (xs ++ x ∷ []) ≡ xs
init_push [] x = refl
init_push (y ∷ []) x = refl
init_push (y ∷ z ∷ xs) x = ap (λ l. y ∷ l) (init_push (z ∷ xs) x)

pub last_push : {X : Type 0} (d : X) (xs : List X) (x : X) → last_or d (xs ++ x ∷ []) ≡ x
last_push d [] x = refl
last_push d (y ∷ xs) x = last_push y xs x

pub front_map : {X Y : Type 0} (f : X → Y) (k : ℕ) (xs : List X) → map f (front k xs) ≡ front k (map f xs)
front_map f k xs = sym (ap (λ (n : ℕ). take (n - k) (map f xs)) (length-map xs f) ∙ take-map f (length xs - k) xs)

pub behind_map : {X Y : Type 0} (f : X → Y) (k : ℕ) (xs : List X) → map f (behind k xs) ≡ behind k (map f xs)
behind_map f k xs = sym (ap (λ (n : ℕ). drop (n - k) (map f xs)) (length-map xs f) ∙ drop-map f (length xs - k) xs)

pub popped_last : {X Y : Type 0} (f : X → Y) (d : Y) (xs ys : List X) (x : X) → xs ≡ ys ++ x ∷ [] → f x ≡ last_or d (map f xs)
popped_last f d xs ys x e = sym (ap (λ l. last_or d (map f l)) e ∙ ap (last_or d) (map-append f ys (x ∷ [])) ∙ last_push d (map f ys) (f x))

pub popped_init : {X Y : Type 0} (f : X → Y) (xs ys : List X) (x : X) → xs ≡ ys ++ x ∷ [] → map f ys ≡ init (map f xs)
popped_init f xs ys x e = sym (ap (λ l. init (map f l)) e ∙ ap init (map-append f ys (x ∷ [])) ∙ init_push (map f ys) (f x))

no_puts : (w : Bool) (xs : List Stmt) → xs ++ only_if w [] ≡ xs
no_puts true xs = append-nil xs
no_puts false xs = append-nil xs

two_puts : (w : Bool) (xs p q : List Stmt) → (xs ++ only_if w p) ++ only_if w q ≡ xs ++ only_if w (p ++ q)
two_puts true xs p q = append_assoc xs p q
two_puts false xs p q = append-nil (xs ++ [])

two_more : (a b c : ℕ) → a + b + c ≡ a + (b + c)
two_more a b c = omega arith

no_more : (a : ℕ) → a + 0 ≡ a
no_more a = omega arith

nothing_more : (a b : ℕ) → a + (0 + b) ≡ a + b
nothing_more a b = omega arith

-- ---- lists as trees

values_again : (vs : Values) → values_of (list_of_values vs) ≡ vs
values_again tree.no_values = refl
values_again (tree.value v vs) = ap (tree.value v) (values_again vs)

pub parts_again : (ps : Parts) → parts_of (list_of_parts ps) ≡ ps
parts_again tree.no_parts = refl
parts_again (tree.part p ps) = ap (tree.part p) (parts_again ps)

stmts_again : (ss : Stmts) → stmts_of (list_of_stmts ss) ≡ ss
stmts_again tree.no_stmts = refl
stmts_again (tree.stmt s ss) = ap (tree.stmt s) (stmts_again ss)

branches_again : (b : Body) → branches_of (list_of_branches b) ≡ b
branches_again tree.no_branches = refl
branches_again (tree.branch ss b) = ap (tree.branch ss) (branches_again b)

arms_again : (arms : Arms) → arms_of (list_of_arms arms) ≡ arms
arms_again tree.no_arms = refl
arms_again (tree.arm a b arms) = ap (tree.arm a b) (arms_again arms)

changes_again : (cs : Changes) → changes_of (list_of_changes cs) ≡ cs
changes_again tree.no_changes = refl
changes_again (tree.change ps set cs) = ap (tree.change ps set) (changes_again cs)

pub values_count : (c : Setting) (n : ℕ) (vs : List Value) → length (list_of_values (plain_values c n (values_of vs))) ≡ length vs
values_count c n [] = refl
values_count c n (v ∷ vs) = omega (arith, values_count c (n + new_in_value v) vs)

pub parts_count : (c : Setting) (n : ℕ) (ps : List Part) → length (list_of_parts (plain_parts c n (parts_of ps))) ≡ length ps
parts_count c n [] = refl
parts_count c n (p ∷ ps) = omega (arith, parts_count c (n + new_in_part p) ps)

pub stmts_count : (c : Setting) (n : ℕ) (ss : List Stmt) → length (list_of_stmts (plain_stmts c n (stmts_of ss))) ≡ length ss
stmts_count c n [] = refl
stmts_count c n (s ∷ ss) = omega (arith, stmts_count c (n + new_in_stmt s) ss)

pub branches_count : (c : Setting) (n : ℕ) (bs : List Stmts) → length (list_of_branches (plain_body c n (branches_of bs))) ≡ length bs
branches_count c n [] = refl
branches_count c n (ss ∷ bs) = omega (arith, branches_count c (n + new_in_stmts ss) bs)

pub arms_count : (c : Setting) (n : ℕ) (arms : List (Body × Body)) → length (list_of_arms (plain_arms c n (arms_of arms))) ≡ length arms
arms_count c n [] = refl
arms_count c n (a ∷ arms) = omega (arith, arms_count c (n + new_in_body a.0 + new_in_body a.1) arms)

pub changes_count : (c : Setting) (n : ℕ) (cs : List (Parts × Bool)) → length (list_of_changes (plain_changes c n (changes_of cs))) ≡ length cs
changes_count c n [] = refl
changes_count c n (x ∷ cs) = omega (arith, changes_count c (n + new_in_parts x.0) cs)

-- ---- values

pub list_built : (c : Setting) (w : Bool) (vs : Values) (k : ℕ) (s : Built) → k ≡ length (list_of_values (plain_values c s.at vs)) → closing c (close.List k) (after_values c w vs s) ≡ after_value c w (tree.plain_list vs) s
list_built c w vs k s e =
    let l = list_of_values (plain_values c s.at vs) in
    rw (front_at s.values l k e) (rw (behind_at s.values l k e) (rw (values_again (plain_values c s.at vs)) refl))

pub tailed_built : (c : Setting) (w : Bool) (vs : Values) (v : Value) (k : ℕ) (s : Built) → k ≡ length (list_of_values (plain_values c s.at vs)) → closing c (close.Tailed k) (after_value c w v (after_values c w vs s)) ≡ after_value c w (tree.tailed_list vs v) s
tailed_built c w vs v k s e =
    let l = list_of_values (plain_values c s.at vs) in
    let p = plain_value c (s.at + new_in_values vs) v in
    rw (init_push (s.values ++ l) p) (rw (last_push tree.current_topic (s.values ++ l) p) (rw (front_at s.values l k e) (rw (behind_at s.values l k e) (rw (values_again (plain_values c s.at vs))
    (rw (two_more s.at (new_in_values vs) (new_in_value v)) (rw (two_puts w s.puts (puts_of_values c s.at vs) (puts_of_value c (s.at + new_in_values vs) v)) refl))))))

pub closure_built : (c : Setting) (w : Bool) (b : Body) (s : Built) → closing c close.Closure (after_body c b s) ≡ after_value c w (tree.closure b) s
closure_built c w b s = rw (init_push s.bodies (plain_body c s.at b)) (rw (last_push tree.no_branches s.bodies (plain_body c s.at b)) (rw (no_puts w s.puts) refl))

pub nested_built : (c : Setting) (ps : Parts) (k : ℕ) (s : Built) → k ≡ length (list_of_parts (plain_parts c s.at ps)) → closing c (close.Nested k) (after_parts c false ps s) ≡ after_value c false (tree.nested ps) s
nested_built c ps k s e =
    let l = list_of_parts (plain_parts c s.at ps) in
    rw (front_at s.parts l k e) (rw (behind_at s.parts l k e) (rw (parts_again (plain_parts c s.at ps)) refl))

put_built : (c : Setting) (ps : Parts) (k n : ℕ) (s : Built) → k ≡ length (list_of_parts (plain_parts c s.at ps)) → n ≡ s.at → closing c (close.Put k n) (after_parts c true ps s) ≡ record s { puts = s.puts ++ (puts_of_parts c s.at ps ++ tree.ask_all (plain_parts c s.at ps) ∷ []) }
put_built c ps k n s e f =
    let l = list_of_parts (plain_parts c s.at ps) in
    rw (front_at s.parts l k e) (rw (behind_at s.parts l k e) (rw (parts_again (plain_parts c s.at ps)) (rw f (rw (append_assoc s.puts (puts_of_parts c s.at ps) (tree.ask_all (plain_parts c s.at ps) ∷ [])) refl))))

pub twice_built : (c : Setting) (ps : Parts) (k n : ℕ) (s : Built) → k ≡ length (list_of_parts (plain_parts c s.at ps)) → n ≡ s.at → closing c (close.Nested k) (after_parts c false ps (closing c (close.Put k n) (after_parts c true ps s))) ≡ after_value c true (tree.nested ps) s
twice_built c ps k n s e f =
    let puts = s.puts ++ (puts_of_parts c s.at ps ++ tree.ask_all (plain_parts c s.at ps) ∷ []) in
    ap (λ (t : Built). closing c (close.Nested k) (after_parts c false ps t)) (put_built c ps k n s e f)
    ∙ nested_built c ps k (record s { puts = puts }) e
    ∙ rw (append-nil puts) refl

pub values_built : (c : Setting) (w : Bool) (v : Value) (vs : Values) (s : Built) → after_values c w vs (after_value c w v s) ≡ after_values c w (tree.value v vs) s
values_built c w v vs s =
    rw (two_more s.at (new_in_value v) (new_in_values vs)) (rw (append_assoc s.values (plain_value c s.at v ∷ []) (list_of_values (plain_values c (s.at + new_in_value v) vs)))
    (rw (two_puts w s.puts (puts_of_value c s.at v) (puts_of_values c (s.at + new_in_value v) vs)) refl))

pub word_built : (c : Setting) (w : Bool) (n : List ℕ) (ps : Parts) (s : Built) → after_parts c w ps (record s { parts = s.parts ++ tree.part_word n ∷ [] }) ≡ after_parts c w (tree.part (tree.part_word n) ps) s
word_built c w n ps s = rw (nothing_more s.at (new_in_parts ps)) (rw (no_more s.at) (rw (append_assoc s.parts (tree.part_word n ∷ []) (list_of_parts (plain_parts c s.at ps))) refl))

pub part_built : (c : Setting) (w : Bool) (v : Value) (ps : Parts) (s : Built) → after_parts c w ps (closing c close.Part (after_value c w v s)) ≡ after_parts c w (tree.part (tree.part_value v) ps) s
part_built c w v ps s =
    let p = plain_value c s.at v in
    rw (init_push s.values p) (rw (last_push tree.current_topic s.values p) (rw (two_more s.at (new_in_value v) (new_in_parts ps)) (rw (append_assoc s.parts (tree.part_value p ∷ []) (list_of_parts (plain_parts c (s.at + new_in_value v) ps)))
    (rw (two_puts w s.puts (puts_of_value c s.at v) (puts_of_parts c (s.at + new_in_value v) ps)) refl))))

-- ---- statements

pub print_built : (c : Setting) (v : Value) (s : Built) → closing c close.Print (after_value c false v s) ≡ after_stmt c (tree.print v) s
print_built c v s = let p = plain_value c s.at v in rw (init_push s.values p) (rw (last_push tree.current_topic s.values p) (rw (append-nil s.puts) refl))

pub query_built : (c : Setting) (a : Asking) (ps : Parts) (k : ℕ) (s : Built) → k ≡ length (list_of_parts (plain_parts c s.at ps)) → closing c (close.Query a k) (after_parts c false ps s) ≡ after_stmt c (asked a ps) s
query_built c asking.One ps k s e = let l = list_of_parts (plain_parts c s.at ps) in rw (front_at s.parts l k e) (rw (behind_at s.parts l k e) (rw (parts_again (plain_parts c s.at ps)) (rw (append-nil s.puts) refl)))
query_built c asking.All ps k s e = let l = list_of_parts (plain_parts c s.at ps) in rw (front_at s.parts l k e) (rw (behind_at s.parts l k e) (rw (parts_again (plain_parts c s.at ps)) (rw (append-nil s.puts) refl)))
query_built c asking.Not ps k s e = let l = list_of_parts (plain_parts c s.at ps) in rw (front_at s.parts l k e) (rw (behind_at s.parts l k e) (rw (parts_again (plain_parts c s.at ps)) (rw (append-nil s.puts) refl)))

pub wrapped_built : (c : Setting) (w : Wrap) (b : Body) (s : Built) → closing c (close.Wrapped w) (after_body c b s) ≡ after_stmt c (wrapped w b) s
wrapped_built c wrap.Group b s = let p = plain_body c s.at b in rw (init_push s.bodies p) (rw (last_push tree.no_branches s.bodies p) refl)
wrapped_built c wrap.NotGroup b s = let p = plain_body c s.at b in rw (init_push s.bodies p) (rw (last_push tree.no_branches s.bodies p) refl)
wrapped_built c wrap.First b s = let p = plain_body c s.at b in rw (init_push s.bodies p) (rw (last_push tree.no_branches s.bodies p) refl)

pub now_built : (c : Setting) (cs : Changes) (k : ℕ) (s : Built) → k ≡ length (list_of_changes (plain_changes c s.at cs)) → closing c (close.Now k) (after_changes c cs s) ≡ after_stmt c (tree.now cs) s
now_built c cs k s e = let l = list_of_changes (plain_changes c s.at cs) in rw (front_at s.changes l k e) (rw (behind_at s.changes l k e) (rw (changes_again (plain_changes c s.at cs)) refl))

pub if_built : (c : Setting) (arms : Arms) (k : ℕ) (s : Built) → k ≡ length (list_of_arms (plain_arms c s.at arms)) → closing c (close.If k) (after_arms c arms s) ≡ after_stmt c (tree.choice arms) s
if_built c arms k s e = let l = list_of_arms (plain_arms c s.at arms) in rw (front_at s.arms l k e) (rw (behind_at s.arms l k e) (rw (arms_again (plain_arms c s.at arms)) refl))

pub else_built : (c : Setting) (arms : Arms) (b : Body) (k : ℕ) (s : Built) → k ≡ length (list_of_arms (plain_arms c s.at arms)) → closing c (close.IfElse k) (after_body c b (after_arms c arms s)) ≡ after_stmt c (tree.choice_else arms b) s
else_built c arms b k s e =
    let l = list_of_arms (plain_arms c s.at arms) in
    let p = plain_body c (s.at + new_in_arms arms) b in
    rw (front_at s.arms l k e) (rw (behind_at s.arms l k e) (rw (arms_again (plain_arms c s.at arms)) (rw (init_push s.bodies p) (rw (last_push tree.no_branches s.bodies p) (rw (two_more s.at (new_in_arms arms) (new_in_body b)) refl)))))

pub exhaust_built : (c : Setting) (x : Stmt) (s : Built) → closing c close.Exhaust (after_stmt c x s) ≡ after_stmt c (tree.exhaust x) s
exhaust_built c x s = let p = plain_stmt c s.at x in rw (init_push s.stmts p) (rw (last_push no_stmt s.stmts p) refl)

pub stoppable_built : (c : Setting) (x : Stmt) (s : Built) → closing c close.Stoppable (after_stmt c x s) ≡ after_stmt c (tree.stoppable x) s
stoppable_built c x s = let p = plain_stmt c s.at x in rw (init_push s.stmts p) (rw (last_push no_stmt s.stmts p) refl)

three_more : (a b c d : ℕ) → a + b + c + d ≡ a + (b + c + d)
three_more a b c d = omega arith

pub collect_built : (c : Setting) (v : Value) (b : Body) (into : Value) (s : Built) → closing c close.Collect (after_value c false into (after_body c b (after_value c false v s))) ≡ after_stmt c (tree.collect v b into) s
collect_built c v b into s =
    let p = plain_value c s.at v in
    let q = plain_body c (s.at + new_in_value v) b in
    let r = plain_value c (s.at + new_in_value v + new_in_body b) into in
    rw (init_push (s.values ++ p ∷ []) r) (rw (last_push tree.current_topic (s.values ++ p ∷ []) r) (rw (init_push s.values p) (rw (last_push tree.current_topic s.values p) (rw (init_push s.bodies q) (rw (last_push tree.no_branches s.bodies q)
    (rw (three_more s.at (new_in_value v) (new_in_body b) (new_in_value into)) (rw (append-nil (s.puts ++ [])) (rw (append-nil s.puts) refl))))))))

pub accumulate_built : (c : Setting) (v : Value) (b : Body) (into : Value) (s : Built) → closing c close.Accumulate (after_value c false into (after_body c b (after_value c false v s))) ≡ after_stmt c (tree.accumulate v b into) s
accumulate_built c v b into s =
    let p = plain_value c s.at v in
    let q = plain_body c (s.at + new_in_value v) b in
    let r = plain_value c (s.at + new_in_value v + new_in_body b) into in
    rw (init_push (s.values ++ p ∷ []) r) (rw (last_push tree.current_topic (s.values ++ p ∷ []) r) (rw (init_push s.values p) (rw (last_push tree.current_topic s.values p) (rw (init_push s.bodies q) (rw (last_push tree.no_branches s.bodies q)
    (rw (three_more s.at (new_in_value v) (new_in_body b) (new_in_value into)) (rw (append-nil (s.puts ++ [])) (rw (append-nil s.puts) refl))))))))

pub select_built : (c : Setting) (mode : Mode) (b : Body) (k : ℕ) (s : Built) → k ≡ length (list_of_branches (plain_body c s.at b)) → closing c (close.Select mode k) (after_branches c b s) ≡ after_stmt c (tree.select mode b) s
select_built c mode b k s e = let l = list_of_branches (plain_body c s.at b) in rw (front_at s.branches l k e) (rw (behind_at s.branches l k e) (rw (branches_again (plain_body c s.at b)) refl))

pub body_built : (c : Setting) (b : Body) (k : ℕ) (s : Built) → k ≡ length (list_of_branches (plain_body c s.at b)) → closing c (close.Body k) (after_branches c b s) ≡ after_body c b s
body_built c b k s e = let l = list_of_branches (plain_body c s.at b) in rw (front_at s.branches l k e) (rw (behind_at s.branches l k e) (rw (branches_again (plain_body c s.at b)) refl))

pub stmts_built : (c : Setting) (x : Stmt) (ss : Stmts) (s : Built) → after_stmts c ss (after_stmt c x s) ≡ after_stmts c (tree.stmt x ss) s
stmts_built c x ss s = rw (two_more s.at (new_in_stmt x) (new_in_stmts ss)) (rw (append_assoc s.stmts (plain_stmt c s.at x ∷ []) (list_of_stmts (plain_stmts c (s.at + new_in_stmt x) ss))) refl)

pub branch_built : (c : Setting) (ss : Stmts) (b : Body) (k : ℕ) (s : Built) → k ≡ length (list_of_stmts (plain_stmts c s.at ss)) → after_branches c b (closing c (close.Branch k) (after_stmts c ss s)) ≡ after_branches c (tree.branch ss b) s
branch_built c ss b k s e =
    let l = list_of_stmts (plain_stmts c s.at ss) in
    rw (front_at s.stmts l k e) (rw (behind_at s.stmts l k e) (rw (stmts_again (plain_stmts c s.at ss)) (rw (two_more s.at (new_in_stmts ss) (new_in_body b))
    (rw (append_assoc s.branches (plain_stmts c s.at ss ∷ []) (list_of_branches (plain_body c (s.at + new_in_stmts ss) b))) refl))))

pub arm_built : (c : Setting) (a b : Body) (arms : Arms) (s : Built) → after_arms c arms (closing c close.Arm (after_body c b (after_body c a s))) ≡ after_arms c (tree.arm a b arms) s
arm_built c a b arms s =
    let p = plain_body c s.at a in
    let q = plain_body c (s.at + new_in_body a) b in
    rw (init_push (s.bodies ++ p ∷ []) q) (rw (last_push tree.no_branches (s.bodies ++ p ∷ []) q) (rw (init_push s.bodies p) (rw (last_push tree.no_branches s.bodies p)
    (rw (three_more s.at (new_in_body a) (new_in_body b) (new_in_arms arms)) (rw (append_assoc s.arms ((p, q) ∷ []) (list_of_arms (plain_arms c (s.at + new_in_body a + new_in_body b) arms))) refl)))))

pub change_built : (c : Setting) (ps : Parts) (set : Bool) (cs : Changes) (k : ℕ) (s : Built) → k ≡ length (list_of_parts (plain_parts c s.at ps)) → after_changes c cs (closing c (close.Change set k) (after_parts c false ps s)) ≡ after_changes c (tree.change ps set cs) s
change_built c ps set cs k s e =
    let l = list_of_parts (plain_parts c s.at ps) in
    rw (front_at s.parts l k e) (rw (behind_at s.parts l k e) (rw (parts_again (plain_parts c s.at ps)) (rw (two_more s.at (new_in_parts ps) (new_in_changes cs))
    (rw (append_assoc s.changes ((plain_parts c s.at ps, set) ∷ []) (list_of_changes (plain_changes c (s.at + new_in_parts ps) cs))) (rw (append-nil s.puts) refl)))))

-- ---- a rule

nothing_before : (a : ℕ) → 0 + a ≡ a
nothing_before a = omega arith

-- what the head and the body of a rule come to
pub rule_built : (c : Setting) (ps : Parts) (b : Body) → after_body c b (after_parts c true ps unbuilt) ≡ record unbuilt { at = new_in_parts ps + new_in_body b; parts = list_of_parts (plain_parts c 0 ps); puts = puts_of_parts c 0 ps; bodies = plain_body c (new_in_parts ps) b ∷ [] }
rule_built c ps b = rw (nothing_before (new_in_parts ps)) refl
