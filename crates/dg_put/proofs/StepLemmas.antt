-- What is put off, and what is built at once, over the tree that is read.
use Rattle.std.proofs.Common.{◌≡◌, ◌+◌, ℕ, zero, suc, List, [], ◌∷◌, ◌++◌, Bool, true, false, Option, Some, None, length, map, refl, sym, ◌∙◌, ap, append_assoc}
use Rattle.std.specs.Borrow.{Bor}
use Rattle.std.specs.Option.{option_map}
use Rattle.std.proofs.lemmas.List.{length-map}
use Rattle.dg_base.specs.Tree as tree
use Rattle.dg_base.specs.Tree.{parts_of, values_of, stmts_of, arms_of, changes_of}
use Rattle.dg_base.specs.TreeView.{part_view, value_view, stmt_view, arm_view, body_view, head_view, change_view, branch_view, branches_view, list_view, choice_view}
use Rattle.dg_base.specs.declared.tree.Part.{Part}
use Rattle.dg_base.specs.declared.tree.Value.{Value}
use Rattle.dg_base.specs.declared.tree.Stmt.{Stmt}
use Rattle.dg_base.specs.declared.tree.Arm.{Arm}
use Rattle.dg_base.specs.declared.tree.Body.{Body}
use Rattle.dg_base.specs.declared.tree.Head.{Head}
use Rattle.dg_base.specs.declared.tree.NowChange.{NowChange}
use Rattle.dg_base.specs.declared.tree.Part
use Rattle.dg_base.proofs.Views.{part_word_seen, value_seen, head_seen, body_seen, arm_seen, change_seen}
use Rattle.dg_plain.specs.Building.{Built, closing, list_of_values, list_of_parts, list_of_stmts, list_of_branches, list_of_arms, asked}
use Rattle.dg_plain.specs.declared.work.Close.TheVariants as close
use Rattle.dg_plain.specs.declared.work.Asking.{Asking}
use Rattle.dg_plain.specs.declared.work.Wrap.{Wrap}
use Rattle.dg_plain.proofs.Views.{each_branch}
use Rattle.dg_put.specs.Put.{Access, Spot, Level, level, rule_for, change_access, one_change, change_by, with_change, changes_in, list_queries, is_own_parameter, argument_for, own_name, put_values, put_parts, put_stmts, put_body, put_arms, put_changes}
use Rattle.dg_put.specs.inside.Putting.{Around, access_view, closed_around, copied_around, after_value, after_values, after_parts, after_stmt, after_stmts, after_branches, after_body, after_arms, after_changes, does, run, bare, wrap_of, IsPutOff}
use Rattle.dg_put.specs.declared.access.Access.{Access as CodeAccess}
use Rattle.dg_put.specs.declared.place.Place.{Place as CodePlace}
use Rattle.dg_put.specs.declared.work.Work.{Work}
use Rattle.dg_put.specs.declared.work.Work.TheVariants as work
use Rattle.dg_put.proofs.BuiltLemmas.{off, values_count, parts_count, stmts_count, branches_count, arms_count, list_built, tailed_built, nested_built, values_built, word_built, part_built, asked_built, if_built, else_built, body_built, stmts_built, branch_built, arm_built, changes_built, inside, used_built, change_built, changed_built, closed_built, copied_built}

-- ---- how many there are

pub values_many : (l : Level) (p : Spot) (n : ℕ) (xs : List Value) (k : ℕ) → k ≡ length xs → k ≡ length (list_of_values (put_values l p n (values_of (map value_view xs))).0)
values_many l p n xs k e = e ∙ sym (values_count l p n (map value_view xs) ∙ length-map xs value_view)

pub parts_many : (l : Level) (p : Spot) (n : ℕ) (xs : List Part) (k : ℕ) → k ≡ length xs → k ≡ length (list_of_parts (put_parts l p n (parts_of (map part_view xs))).0)
parts_many l p n xs k e = e ∙ sym (parts_count l p n (map part_view xs) ∙ length-map xs part_view)

pub stmts_many : (l : Level) (p : Spot) (n : ℕ) (xs : List Stmt) (k : ℕ) → k ≡ length xs → k ≡ length (list_of_stmts (put_stmts l p n (stmts_of (map stmt_view xs))).0)
stmts_many l p n xs k e = e ∙ sym (stmts_count l p n (map stmt_view xs) ∙ length-map xs stmt_view)

pub arms_many : (l : Level) (p : Spot) (n : ℕ) (xs : List Arm) (k : ℕ) → k ≡ length xs → k ≡ length (list_of_arms (put_arms l p n (arms_of (map arm_view xs))).0)
arms_many l p n xs k e = e ∙ sym (arms_count l p n (map arm_view xs) ∙ length-map xs arm_view)

pub branches_many : (l : Level) (p : Spot) (n : ℕ) (xs : List (List Stmt)) (k : ℕ) → k ≡ length xs → k ≡ length (list_of_branches (put_body l p n (branches_view (map (map stmt_view) xs))).0)
branches_many l p n xs k e =
    e ∙ sym (ap (λ (b : tree.Body). length (list_of_branches (put_body l p n b).0)) (each_branch xs) ∙ branches_count l p n (map branch_view xs) ∙ length-map xs branch_view)

-- ---- lists

pub values_off : (h : Bor CodePlace) (xs : List Value) (x : Bor Value) (others : Bor (List Value)) (old new : List Work) → xs ≡ x.now ∷ others.now → new ≡ old ++ work.Values h others ∷ work.Value h x ∷ [] → IsPutOff h.now (λ a. after_values a (values_of (map value_view xs))) old new
values_off h xs x others old new is put = λ at s. off at old new (work.Values h others ∷ work.Value h x ∷ []) s _ put (values_built (at h.now) (value_view x.now) (values_of (map value_view others.now)) s ∙ ap (λ (l : List Value). after_values (at h.now) (values_of (map value_view l)) s) (sym is))

pub stmts_off : (h : Bor CodePlace) (xs : List Stmt) (x : Bor Stmt) (others : Bor (List Stmt)) (old new : List Work) → xs ≡ x.now ∷ others.now → new ≡ old ++ work.Stmts h others ∷ work.Stmt h x ∷ [] → IsPutOff h.now (λ a. after_stmts a (stmts_of (map stmt_view xs))) old new
stmts_off h xs x others old new is put = λ at s. off at old new (work.Stmts h others ∷ work.Stmt h x ∷ []) s _ put (stmts_built (at h.now) (stmt_view x.now) (stmts_of (map stmt_view others.now)) s ∙ ap (λ (l : List Stmt). after_stmts (at h.now) (stmts_of (map stmt_view l)) s) (sym is))

pub branches_off : (h : Bor CodePlace) (xs : List (List Stmt)) (first : List Stmt) (x : Bor (List Stmt)) (others : Bor (List (List Stmt))) (k : ℕ) (old new : List Work) → xs ≡ first ∷ others.now → x.now ≡ first → k ≡ length first → new ≡ old ++ work.Branches h others ∷ work.Close (close.Branch k) ∷ work.Stmts h x ∷ [] → IsPutOff h.now (λ a. after_branches a (branches_view (map (map stmt_view) xs))) old new
branches_off h xs first x others k old new is same count put = λ at s.
    off at old new (work.Branches h others ∷ work.Close (close.Branch k) ∷ work.Stmts h x ∷ []) s _ put
    (branch_built (at h.now) (stmts_of (map stmt_view x.now)) (branches_view (map (map stmt_view) others.now)) k s (stmts_many (at h.now).at (at h.now).place s.at x.now k (count ∙ ap length (sym same)))
    ∙ ap (λ (l : List (List Stmt)). after_branches (at h.now) (branches_view (map (map stmt_view) l)) s) (ap (λ (f : List Stmt). f ∷ others.now) same ∙ sym is))

pub arms_off : (h : Bor CodePlace) (xs : List Arm) (x : Arm) (a b : Bor Body) (others : Bor (List Arm)) (old new : List Work) → xs ≡ x ∷ others.now → a.now ≡ x.condition → b.now ≡ x.body → new ≡ old ++ work.Arms h others ∷ work.Close close.Arm ∷ work.Body h b ∷ work.Body h a ∷ [] → IsPutOff h.now (λ a. after_arms a (arms_of (map arm_view xs))) old new
arms_off h xs x a b others old new is first second put = λ at s.
    off at old new (work.Arms h others ∷ work.Close close.Arm ∷ work.Body h b ∷ work.Body h a ∷ []) s _ put
    (arm_built (at h.now) (body_view a.now) (body_view b.now) (arms_of (map arm_view others.now)) s
    ∙ ap (λ (l : tree.Body). after_arms (at h.now) (tree.arm l (body_view b.now) (arms_of (map arm_view others.now))) s) (ap body_view first)
    ∙ ap (λ (l : tree.Body). after_arms (at h.now) (tree.arm (body_view x.condition) l (arms_of (map arm_view others.now))) s) (ap body_view second)
    ∙ ap (λ (l : tree.Body × tree.Body). after_arms (at h.now) (arms_of (l ∷ map arm_view others.now)) s) (sym (arm_seen x))
    ∙ ap (λ (l : List Arm). after_arms (at h.now) (arms_of (map arm_view l)) s) (sym is))

pub arms_two_off : (h : Bor CodePlace) (xs : List Arm) (x : Arm) (a b : Bor Body) (others : Bor (List Arm)) (old middle new : List Work) → xs ≡ x ∷ others.now → a.now ≡ x.condition → b.now ≡ x.body → middle ≡ old ++ work.Arms h others ∷ [] → new ≡ middle ++ work.Close close.Arm ∷ work.Body h b ∷ work.Body h a ∷ [] → IsPutOff h.now (λ a. after_arms a (arms_of (map arm_view xs))) old new
arms_two_off h xs x a b others old middle new is first second put more =
    arms_off h xs x a b others old new is first second
    (more ∙ ap (λ (ws : List Work). ws ++ work.Close close.Arm ∷ work.Body h b ∷ work.Body h a ∷ []) put ∙ append_assoc old (work.Arms h others ∷ []) (work.Close close.Arm ∷ work.Body h b ∷ work.Body h a ∷ []))

-- the parts of a head
pub head_parts : (h : Head) (ps : List Part) → ps ≡ h.parts → parts_of (map part_view ps) ≡ head_view h
head_parts h ps is = ap (λ (l : List Part). parts_of (map part_view l)) is ∙ sym (head_seen h)

pub part_off : (h : Bor CodePlace) (xs : List Part) (p : Part) (v : Bor Value) (others : Bor (List Part)) (old new : List Work) → xs ≡ p ∷ others.now → p ≡ Part.Value v.now → new ≡ old ++ work.Parts h others ∷ work.Close close.Part ∷ work.Value h v ∷ [] → IsPutOff h.now (λ a. after_parts a (parts_of (map part_view xs))) old new
part_off h xs p v others old new is seen put = λ at s.
    off at old new (work.Parts h others ∷ work.Close close.Part ∷ work.Value h v ∷ []) s _ put
    (part_built (at h.now) (value_view v.now) (parts_of (map part_view others.now)) s
    ∙ ap (λ (l : List tree.Part). after_parts (at h.now) (parts_of l) s) (sym (ap (map part_view) is ∙ ap (λ (x : tree.Part). x ∷ map part_view others.now) (ap part_view seen ∙ value_seen v.now))))

pub word_off : (h : Bor CodePlace) (xs : List Part) (p : Part) (n : List ℕ) (others : Bor (List Part)) (old new : List Work) (at : CodePlace → Around) (s t : Built) → xs ≡ p ∷ others.now → p ≡ Part.Word n → new ≡ old ++ work.Parts h others ∷ [] → t ≡ record s { parts = s.parts ++ tree.part_word n ∷ [] } → run at new t ≡ run at old (after_parts (at h.now) (parts_of (map part_view xs)) s)
word_off h xs p n others old new at s t is seen put built =
    off at old new (work.Parts h others ∷ []) t _ put
    (ap (λ (u : Built). after_parts (at h.now) (parts_of (map part_view others.now)) u) built
    ∙ word_built (at h.now) n (parts_of (map part_view others.now)) s
    ∙ ap (λ (l : List tree.Part). after_parts (at h.now) (parts_of l) s) (sym (ap (map part_view) is ∙ ap (λ (x : tree.Part). x ∷ map part_view others.now) (ap part_view seen ∙ part_word_seen n))))

-- ---- values

pub list_off : (h : Bor CodePlace) (xs : Bor (List Value)) (tail : Option Value) (k : ℕ) (old new : List Work) → tail ≡ None → k ≡ length xs.now → new ≡ old ++ work.Close (close.List k) ∷ work.Values h xs ∷ [] → IsPutOff h.now (λ a. after_value a (list_view (map value_view xs.now) (option_map value_view tail))) old new
list_off h xs tail k old new is count put = λ at s.
    off at old new (work.Close (close.List k) ∷ work.Values h xs ∷ []) s _ put
    (list_built (at h.now) (values_of (map value_view xs.now)) k s (values_many (at h.now).at (at h.now).place s.at xs.now k count)
    ∙ ap (λ (t : Option Value). after_value (at h.now) (list_view (map value_view xs.now) (option_map value_view t)) s) (sym is))

pub tailed_off : (h : Bor CodePlace) (xs : Bor (List Value)) (tail : Option Value) (v : Bor Value) (k : ℕ) (old new : List Work) → tail ≡ Some v.now → k ≡ length xs.now → new ≡ old ++ work.Close (close.Tailed k) ∷ work.Value h v ∷ work.Values h xs ∷ [] → IsPutOff h.now (λ a. after_value a (list_view (map value_view xs.now) (option_map value_view tail))) old new
tailed_off h xs tail v k old new is count put = λ at s.
    off at old new (work.Close (close.Tailed k) ∷ work.Value h v ∷ work.Values h xs ∷ []) s _ put
    (tailed_built (at h.now) (values_of (map value_view xs.now)) (value_view v.now) k s (values_many (at h.now).at (at h.now).place s.at xs.now k count)
    ∙ ap (λ (t : Option Value). after_value (at h.now) (list_view (map value_view xs.now) (option_map value_view t)) s) (sym is))

pub nested_off : (h : Bor CodePlace) (ps : Bor (List Part)) (k : ℕ) (old new : List Work) → k ≡ length ps.now → new ≡ old ++ work.Close (close.Nested k) ∷ work.Parts h ps ∷ [] → IsPutOff h.now (λ a. after_value a (tree.nested (parts_of (map part_view ps.now)))) old new
nested_off h ps k old new count put = λ at s. off at old new (work.Close (close.Nested k) ∷ work.Parts h ps ∷ []) s _ put (nested_built (at h.now) (parts_of (map part_view ps.now)) k s (parts_many (at h.now).at (at h.now).place s.at ps.now k count))

-- ---- statements

-- what is put off where this value stands
pub value_off : (h : Bor CodePlace) (at : CodePlace → Around) (x : Value) (form : tree.Value) (s : Built) (old new : List Work) (a b : Work) → value_view x ≡ form → new ≡ old ++ a ∷ b ∷ [] → does at a (does at b s) ≡ after_value (at h.now) form s → run at new s ≡ run at old (after_value (at h.now) (value_view x) s)
value_off h at x form s old new a b seen put e = off at old new (a ∷ b ∷ []) s _ put (e ∙ ap (λ (y : tree.Value). after_value (at h.now) y s) (sym seen))

-- what is put off where this statement stands
pub stmt_off : (h : Bor CodePlace) (at : CodePlace → Around) (x : Stmt) (form : tree.Stmt) (s : Built) (old new : List Work) (a b : Work) → stmt_view x ≡ form → new ≡ old ++ a ∷ b ∷ [] → does at a (does at b s) ≡ after_stmt (at h.now) form s → run at new s ≡ run at old (after_stmt (at h.now) (stmt_view x) s)
stmt_off h at x form s old new a b seen put e = off at old new (a ∷ b ∷ []) s _ put (e ∙ ap (λ (y : tree.Stmt). after_stmt (at h.now) y s) (sym seen))

pub gathering_off : (h : Bor CodePlace) (at : CodePlace → Around) (x : Stmt) (form : tree.Stmt) (s : Built) (old new : List Work) (a b d e : Work) → stmt_view x ≡ form → new ≡ old ++ a ∷ b ∷ d ∷ e ∷ [] → does at a (does at b (does at d (does at e s))) ≡ after_stmt (at h.now) form s → run at new s ≡ run at old (after_stmt (at h.now) (stmt_view x) s)
gathering_off h at x form s old new a b d e seen put built = off at old new (a ∷ b ∷ d ∷ e ∷ []) s _ put (built ∙ ap (λ (y : tree.Stmt). after_stmt (at h.now) y s) (sym seen))

pub choice_off : (h : Bor CodePlace) (arms : Bor (List Arm)) (other : Option Body) (k : ℕ) (old new : List Work) → other ≡ None → k ≡ length arms.now → new ≡ old ++ work.Close (close.If k) ∷ work.Arms h arms ∷ [] → IsPutOff h.now (λ a. after_stmt a (choice_view (map arm_view arms.now) (option_map body_view other))) old new
choice_off h arms other k old new is count put = λ at s.
    off at old new (work.Close (close.If k) ∷ work.Arms h arms ∷ []) s _ put
    (if_built (at h.now) (arms_of (map arm_view arms.now)) k s (arms_many (at h.now).at (at h.now).place s.at arms.now k count)
    ∙ ap (λ (t : Option Body). after_stmt (at h.now) (choice_view (map arm_view arms.now) (option_map body_view t)) s) (sym is))

pub else_off : (h : Bor CodePlace) (arms : Bor (List Arm)) (other : Option Body) (b : Bor Body) (k : ℕ) (old new : List Work) → other ≡ Some b.now → k ≡ length arms.now → new ≡ old ++ work.Close (close.IfElse k) ∷ work.Body h b ∷ work.Arms h arms ∷ [] → IsPutOff h.now (λ a. after_stmt a (choice_view (map arm_view arms.now) (option_map body_view other))) old new
else_off h arms other b k old new is count put = λ at s.
    off at old new (work.Close (close.IfElse k) ∷ work.Body h b ∷ work.Arms h arms ∷ []) s _ put
    (else_built (at h.now) (arms_of (map arm_view arms.now)) (body_view b.now) k s (arms_many (at h.now).at (at h.now).place s.at arms.now k count)
    ∙ ap (λ (t : Option Body). after_stmt (at h.now) (choice_view (map arm_view arms.now) (option_map body_view t)) s) (sym is))

pub body_off : (h : Bor CodePlace) (b : Body) (bs : Bor (List (List Stmt))) (k : ℕ) (old new : List Work) → bs.now ≡ b.branches → k ≡ length b.branches → new ≡ old ++ work.Close (close.Body k) ∷ work.Branches h bs ∷ [] → IsPutOff h.now (λ a. after_body a (body_view b)) old new
body_off h b bs k old new same count put = λ at s.
    off at old new (work.Close (close.Body k) ∷ work.Branches h bs ∷ []) s _ put
    (body_built (at h.now) (branches_view (map (map stmt_view) bs.now)) k s (branches_many (at h.now).at (at h.now).place s.at bs.now k (count ∙ ap length (sym same)))
    ∙ ap (λ (l : tree.Body). after_body (at h.now) l s) (ap (λ (l : List (List Stmt)). branches_view (map (map stmt_view) l)) same ∙ sym (body_seen b)))

-- ---- changes

pub changes_off : (h : Bor CodePlace) (xs : List NowChange) (x : NowChange) (ps : Bor (List Part)) (others : Bor (List NowChange)) (old new : List Work) → xs ≡ x ∷ others.now → ps.now ≡ x.head.parts → new ≡ old ++ work.Changes h others ∷ work.Change h x.set ps ∷ [] → IsPutOff h.now (λ a. after_changes a (changes_of (map change_view xs))) old new
changes_off h xs x ps others old new is same put = λ at s.
    off at old new (work.Changes h others ∷ work.Change h x.set ps ∷ []) s _ put
    (changes_built (at h.now) x.set (parts_of (map part_view ps.now)) (changes_of (map change_view others.now)) s
    ∙ ap (λ (l : tree.Parts). after_changes (at h.now) (tree.change l x.set (changes_of (map change_view others.now))) s) (head_parts x.head ps.now same)
    ∙ ap (λ (l : tree.Parts × Bool). after_changes (at h.now) (changes_of (l ∷ map change_view others.now)) s) (sym (change_seen x))
    ∙ ap (λ (l : List NowChange). after_changes (at h.now) (changes_of (map change_view l)) s) (sym is))

-- ---- queries, changes, closures and variables

pub asked_off : (h : Bor CodePlace) (at : CodePlace → Around) (q : Asking) (ps : Bor (List Part)) (k : ℕ) (s : Built) (old new : List Work) → rule_for (at h.now).at.rules (parts_of (map part_view ps.now)) ≡ None → k ≡ length ps.now → new ≡ old ++ work.Close (close.Query q k) ∷ work.Parts h ps ∷ [] → run at new s ≡ run at old (after_stmt (at h.now) (asked q (parts_of (map part_view ps.now))) s)
asked_off h at q ps k s old new none count put =
    off at old new (work.Close (close.Query q k) ∷ work.Parts h ps ∷ []) s _ put
    (asked_built (at h.now) q (parts_of (map part_view ps.now)) k s none (parts_many (at h.now).at (at h.now).place s.at ps.now k count))

pub used_off : (h inner : Bor CodePlace) (at : CodePlace → Around) (l : Level) (q : Asking) (r : CodeAccess) (b : Bor Body) (ps : Bor (List Part)) (n : ℕ) (s t : Built) (w : Wrap) (old new : List Work) → rule_for (at h.now).at.rules (parts_of (map part_view ps.now)) ≡ Some (access_view r) → (at h.now).at.inner ≡ put_body l → at inner.now ≡ inside (at h.now) l (access_view r) (parts_of (map part_view ps.now)) n → n ≡ s.at → t ≡ record s { at = s.at + 1 } → w ≡ wrap_of q → b ≡ r.body → new ≡ old ++ work.Close (close.Wrapped w) ∷ work.Body inner b ∷ [] → run at new t ≡ run at old (after_stmt (at h.now) (asked q (parts_of (map part_view ps.now))) s)
used_off h inner at l q r b ps n s t w old new e deep stands number more wraps same put =
    off at old new (work.Close (close.Wrapped w) ∷ work.Body inner b ∷ []) t _ put
    (ap (λ (v : Wrap). closing bare (close.Wrapped v) (after_body (at inner.now) (body_view b.now) t)) wraps
    ∙ ap (λ (x : Bor Body). closing bare (close.Wrapped (wrap_of q)) (after_body (at inner.now) (body_view x.now) t)) same
    ∙ ap (λ (x : Around). closing bare (close.Wrapped (wrap_of q)) (after_body x (body_view r.body.now) t)) (stands ∙ ap (λ (m : ℕ). inside (at h.now) l (access_view r) (parts_of (map part_view ps.now)) m) number)
    ∙ ap (λ (x : Built). closing bare (close.Wrapped (wrap_of q)) (after_body (inside (at h.now) l (access_view r) (parts_of (map part_view ps.now)) s.at) (body_view r.body.now) x)) more
    ∙ used_built (at h.now) l q (access_view r) (parts_of (map part_view ps.now)) s e deep)

pub change_off : (h : Bor CodePlace) (at : CodePlace → Around) (set : Bool) (ps : Bor (List Part)) (k : ℕ) (s : Built) (old new : List Work) → change_access set (rule_for (at h.now).at.rules (parts_of (map part_view ps.now))) ≡ None → k ≡ length ps.now → new ≡ old ++ work.Close (close.Change set k) ∷ work.Parts h ps ∷ [] → run at new s ≡ run at old (after_changes (at h.now) (one_change set (parts_of (map part_view ps.now))) s)
change_off h at set ps k s old new none count put =
    off at old new (work.Close (close.Change set k) ∷ work.Parts h ps ∷ []) s _ put
    (change_built (at h.now) set (parts_of (map part_view ps.now)) k s none (parts_many (at h.now).at (at h.now).place s.at ps.now k count))

pub changed_off : (h inner : Bor CodePlace) (at : CodePlace → Around) (l : Level) (set : Bool) (r : CodeAccess) (qs : Bor (List Stmt)) (ps : Bor (List Part)) (n : ℕ) (s t : Built) (old new : List Work) → change_access set (rule_for (at h.now).at.rules (parts_of (map part_view ps.now))) ≡ Some (access_view r) → (at h.now).at.inner_changes ≡ put_changes l → at inner.now ≡ inside (at h.now) l (access_view r) (parts_of (map part_view ps.now)) n → n ≡ s.at → t ≡ record s { at = s.at + 1 } → stmts_of (map stmt_view qs.now) ≡ list_queries (body_view r.body.now) → new ≡ old ++ work.Queries inner set qs ∷ [] → run at new t ≡ run at old (after_changes (at h.now) (one_change set (parts_of (map part_view ps.now))) s)
changed_off h inner at l set r qs ps n s t old new e deep stands number more same put =
    off at old new (work.Queries inner set qs ∷ []) t _ put
    (ap (λ (x : tree.Stmts). after_changes (at inner.now) (changes_in set x) t) same
    ∙ ap (λ (x : Around). after_changes x (changes_in set (list_queries (body_view r.body.now))) t) (stands ∙ ap (λ (m : ℕ). inside (at h.now) l (access_view r) (parts_of (map part_view ps.now)) m) number)
    ∙ ap (λ (x : Built). after_changes (inside (at h.now) l (access_view r) (parts_of (map part_view ps.now)) s.at) (changes_in set (list_queries (body_view r.body.now))) x) more
    ∙ changed_built (at h.now) l set (access_view r) (parts_of (map part_view ps.now)) s e deep)

pub closed_off : (h inner : Bor CodePlace) (at : CodePlace → Around) (b : Bor Body) (s : Built) (old new : List Work) → (at h.now).place.moved ≡ false → at inner.now ≡ closed_around (at h.now) → new ≡ old ++ work.Close close.Closure ∷ work.Body inner b ∷ [] → run at new s ≡ run at old (after_value (at h.now) (tree.closure (body_view b.now)) s)
closed_off h inner at b s old new e stands put =
    off at old new (work.Close close.Closure ∷ work.Body inner b ∷ []) s _ put
    (ap (λ (x : Around). closing bare close.Closure (after_body x (body_view b.now) s)) stands
    ∙ closed_built (at h.now) (body_view b.now) s e)

pub copied_off : (h inner : Bor CodePlace) (at : CodePlace → Around) (b : Bor Body) (n : ℕ) (s t : Built) (old new : List Work) → (at h.now).place.moved ≡ true → at inner.now ≡ copied_around (at h.now) n → n ≡ s.at → t ≡ record s { at = s.at + 1 } → new ≡ old ++ work.Close close.Closure ∷ work.Body inner b ∷ [] → run at new t ≡ run at old (after_value (at h.now) (tree.closure (body_view b.now)) s)
copied_off h inner at b n s t old new e stands number more put =
    off at old new (work.Close close.Closure ∷ work.Body inner b ∷ []) t _ put
    (ap (λ (x : Around). closing bare close.Closure (after_body x (body_view b.now) t)) (stands ∙ ap (copied_around (at h.now)) number)
    ∙ ap (λ (x : Built). closing bare close.Closure (after_body (copied_around (at h.now) s.at) (body_view b.now) x)) more
    ∙ copied_built (at h.now) (body_view b.now) s e)

pub own_put : (a : Around) (w : List ℕ) (s : Built) → is_own_parameter a.place w ≡ true → after_value a (tree.variable w) s ≡ record s { values = s.values ++ tree.variable w ∷ [] }
own_put a w s e = rw e refl

pub named_put : (a : Around) (w : List ℕ) (s : Built) → is_own_parameter a.place w ≡ false → argument_for a.place.given w ≡ None → after_value a (tree.variable w) s ≡ record s { values = s.values ++ tree.variable (own_name a.at.mark a.place w) ∷ [] }
named_put a w s e none = rw e (rw none refl)

pub given_put : (a : Around) (w : List ℕ) (s : Built) (g : ℕ → tree.Value × ℕ) → is_own_parameter a.place w ≡ false → argument_for a.place.given w ≡ Some g → record s { at = (g s.at).1; values = s.values ++ (g s.at).0 ∷ [] } ≡ after_value a (tree.variable w) s
given_put a w s g e some = rw e (rw some refl)

pub mark_is : (rules : List Access) (mark depth : ℕ) → (level rules mark depth).mark ≡ mark
mark_is rules mark zero = refl
mark_is rules mark (suc depth) = refl

-- ---- the queries of an access rule

pub queries_off : (h : Bor CodePlace) (xs : List Stmt) (x : Stmt) (set sets : Bool) (ps : Bor (List Part)) (others : Bor (List Stmt)) (old new : List Work) → xs ≡ x ∷ others.now → change_by set (stmt_view x) ≡ Some (parts_of (map part_view ps.now), sets) → new ≡ old ++ work.Queries h set others ∷ work.Change h sets ps ∷ [] → IsPutOff h.now (λ a. after_changes a (changes_in set (stmts_of (map stmt_view xs)))) old new
queries_off h xs x set sets ps others old new is by put = λ at s.
    off at old new (work.Queries h set others ∷ work.Change h sets ps ∷ []) s _ put
    (changes_built (at h.now) sets (parts_of (map part_view ps.now)) (changes_in set (stmts_of (map stmt_view others.now))) s
    ∙ sym (ap (λ (c : Option (tree.Parts × Bool)). after_changes (at h.now) (with_change c (changes_in set (stmts_of (map stmt_view others.now)))) s) by)
    ∙ ap (λ (l : List Stmt). after_changes (at h.now) (changes_in set (stmts_of (map stmt_view l))) s) (sym is))

pub skipped_off : (h : Bor CodePlace) (xs : List Stmt) (x : Stmt) (set : Bool) (others : Bor (List Stmt)) (old new : List Work) → xs ≡ x ∷ others.now → change_by set (stmt_view x) ≡ None → new ≡ old ++ work.Queries h set others ∷ [] → IsPutOff h.now (λ a. after_changes a (changes_in set (stmts_of (map stmt_view xs)))) old new
skipped_off h xs x set others old new is by put = λ at s.
    off at old new (work.Queries h set others ∷ []) s _ put
    (sym (ap (λ (c : Option (tree.Parts × Bool)). after_changes (at h.now) (with_change c (changes_in set (stmts_of (map stmt_view others.now)))) s) by)
    ∙ ap (λ (l : List Stmt). after_changes (at h.now) (changes_in set (stmts_of (map stmt_view l))) s) (sym is))
