-- What parts of the tree come to, and work put on what is left.
use Rattle.std.proofs.Common.{◌≡◌, ◌+◌, ◌-◌, ◌<◌, ◌≤◌, ℕ, Bool, true, false, List, [], ◌∷◌, ◌++◌, Option, None, Some, Bor, length, get_or, take, drop, map, refl, sym, ◌∙◌, ap, subst, append_assoc, arith}
use Rattle.std.proofs.Math.Seq.{take-length}
use Rattle.std.specs.Option.{option_map}
use Rattle.dg_base.specs.Tree as tree
use Rattle.dg_base.specs.Tree.{parts_of, values_of, stmts_of, arms_of, changes_of}
use Rattle.dg_base.specs.TreeView.{part_view, value_view, stmt_view, arm_view, body_view, head_view, change_view, branches_view, list_view, choice_view}
use Rattle.dg_base.specs.declared.program.Mode.{Mode}
use Rattle.dg_base.specs.declared.tree.Arm.{Arm}
use Rattle.dg_base.specs.declared.tree.Body.{Body}
use Rattle.dg_base.specs.declared.tree.Head.{Head}
use Rattle.dg_base.specs.declared.tree.NowChange.{NowChange}
use Rattle.dg_base.specs.declared.tree.Part
use Rattle.dg_base.specs.declared.tree.Part.{Part}
use Rattle.dg_base.specs.declared.tree.Stmt.{Stmt}
use Rattle.dg_base.specs.declared.tree.Value.{Value}
use Rattle.dg_base.specs.Mentions.{Mentions, thing, query, other, branches, select, join, branches_in, of_parts, of_nested, of_value, of_values, of_stmt, of_stmts, of_body, of_branches, of_arms, of_changes}
use Rattle.dg_base.specs.Walk.{Met, met, walk, walk_of, left_of, is_met, size_of, parts_size, value_size, values_size, stmt_size, stmts_size, branches_size, arms_size, changes_size, total, IsPut, IsLook}
use Rattle.dg_base.specs.declared.mentions.Form.TheVariants as form
use Rattle.dg_base.specs.declared.mentions.Role.{Role}
use Rattle.dg_base.specs.declared.mentions.Role.TheVariants as role
use Rattle.dg_base.specs.declared.mentions.Mention.{Mention}
use Rattle.dg_base.specs.declared.mentions.Work.{Work}
use Rattle.dg_base.specs.declared.mentions.Work.TheVariants as work
use Rattle.dg_base.proofs.MentionLemmas.{walk_join}
use Rattle.dg_base.proofs.Views.{part_word_seen, value_seen, head_seen, body_seen}

pub append_nil : (xs : List Met) → xs ++ [] ≡ xs
append_nil [] = refl
append_nil (x ∷ xs) = ap (λ (l : List Met). x ∷ l) (append_nil xs)

pub left_append : (ws vs : List Work) → left_of (ws ++ vs) ≡ left_of vs ++ left_of ws
left_append [] vs = sym (append_nil (left_of vs))
left_append (w ∷ ws) vs =
    ap (λ (l : List Met). l ++ walk_of w) (left_append ws vs)
    ∙ append_assoc (left_of vs) (left_of ws) (walk_of w)

pub total_append : (ws vs : List Work) → total (ws ++ vs) ≡ total vs + total ws
total_append [] vs = omega arith
total_append (w ∷ ws) vs = omega (arith, total_append ws vs)

-- ---- what comes next

pub data Then : Type 0 where
  none : Then
  one : Work → Then
  two : Work → Work → Then
  three : Work → Work → Work → Then
  four : Work → Work → Work → Work → Then

-- what is mentioned in it
abbrev pub walk_then : Then → List Met
walk_then none = []
walk_then (one a) = walk_of a
walk_then (two a b) = walk_of a ++ walk_of b
walk_then (three a b c) = walk_of a ++ (walk_of b ++ walk_of c)
walk_then (four a b c d) = walk_of a ++ (walk_of b ++ (walk_of c ++ walk_of d))

-- how much is left in it
abbrev pub size_then : Then → ℕ
size_then none = 0
size_then (one a) = size_of a
size_then (two a b) = size_of a + size_of b
size_then (three a b c) = size_of a + (size_of b + size_of c)
size_then (four a b c d) = size_of a + (size_of b + (size_of c + size_of d))

-- it stands the last of it first
abbrev pub turned : Then → List Work
turned none = []
turned (one a) = a ∷ []
turned (two a b) = b ∷ a ∷ []
turned (three a b c) = c ∷ b ∷ a ∷ []
turned (four a b c d) = d ∷ c ∷ b ∷ a ∷ []

-- what meets this and is so large comes to this, which is smaller
pub record IsThen (meets : List Met) (much : ℕ) (next : Then) : Type 0 where
  pub walk : walk_then next ≡ meets
  pub size : size_then next < much

turned_walk : (t : Then) → left_of (turned t) ≡ walk_then t
turned_walk none = refl
turned_walk (one a) = refl
turned_walk (two a b) = refl
turned_walk (three a b c) = append_assoc (walk_of a) (walk_of b) (walk_of c)
turned_walk (four a b c d) =
    ap (λ (l : List Met). l ++ walk_of d) (append_assoc (walk_of a) (walk_of b) (walk_of c))
    ∙ append_assoc (walk_of a) (walk_of b ++ walk_of c) (walk_of d)
    ∙ ap (λ (l : List Met). walk_of a ++ l) (append_assoc (walk_of b) (walk_of c) (walk_of d))

turned_size : (t : Then) → total (turned t) ≡ size_then t
turned_size none = refl
turned_size (one a) = omega arith
turned_size (two a b) = omega arith
turned_size (three a b c) = omega arith
turned_size (four a b c d) = omega arith

pub put_walk : (old new : List Work) (t : Then) (meets : List Met) → new ≡ old ++ turned t → walk_then t ≡ meets → left_of new ≡ meets ++ left_of old
put_walk old new t meets is walks = ap left_of is ∙ left_append old (turned t) ∙ ap (λ (l : List Met). l ++ left_of old) (turned_walk t ∙ walks)

-- what comes next was put on what is left
pub put_next : (old new : List Work) (t : Then) (meets : List Met) (much : ℕ) → new ≡ old ++ turned t → IsThen meets much t → IsPut meets much old new
put_next old new t meets much is step = record {
  walk = put_walk old new t meets is step.walk;
  size = let grown = ap total is ∙ total_append old (turned t) ∙ ap (λ (k : ℕ). k + total old) (turned_size t) in omega (arith, grown, step.size);
}

-- work that is looked at, by what it is
pub look : (w v : Work) (old new : List Work) → w ≡ v → IsPut (walk_of v) (size_of v) old new → IsLook w old new
look w v old new is step = subst (λ (x : Work). IsLook x old new) (sym is) (record { walk = step.walk; size = λ e. step.size })

-- what is met stays as it is
pub look_met : (w : Work) (m : Mention) (old new : List Work) → w ≡ Work.Met m → new ≡ old ++ w ∷ [] → IsLook w old new
look_met w m old new is put = record {
  walk = put_walk old new (one w) (walk_of w) put refl;
  size = λ e. absurd (let no : true ≡ false = sym (ap is_met is) ∙ e in cc);
}

pub not_met : (w : Work) → ((m : Mention) → w ≡ Work.Met m → ⊥) → is_met w ≡ false
not_met (work.Met m) e = absurd (e m refl)
not_met (work.Parts twice ps) e = refl
not_met (work.Nested twice ps) e = refl
not_met (work.Value twice v) e = refl
not_met (work.Values twice vs) e = refl
not_met (work.Stmt twice s) e = refl
not_met (work.Stmts twice ss) e = refl
not_met (work.Body twice b) e = refl
not_met (work.Branches twice bs) e = refl
not_met (work.Arms twice arms) e = refl
not_met (work.Changes twice cs) e = refl

-- ---- what the first of a row comes to

pub parted : {A : Type 0} (xs : List A) (x : A) → 1 ≤ length xs → x ≡ get_or xs 0 x → xs ≡ x ∷ take (length xs - 1) (drop 1 xs)
parted [] x some is = absurd (omega arith)
parted (y ∷ ys) x some is =
    let rest : length (y ∷ ys) - 1 ≡ length ys = omega arith in
    ap (λ h. h ∷ ys) (sym is) ∙ ap (λ l. x ∷ l) (sym (ap (λ (k : ℕ). take k ys) rest ∙ take-length ys))

pub values_then : (twice : Bool) (xs : List Value) (x : Bor Value) (others : Bor (List Value)) → xs ≡ x.now ∷ others.now → IsThen (walk (of_values twice (values_of (map value_view xs)))) (values_size (values_of (map value_view xs))) (two (Work.Value twice x) (Work.Values twice others))
values_then twice xs x others is =
    subst (λ (l : List Value). IsThen (walk (of_values twice (values_of (map value_view l)))) (values_size (values_of (map value_view l))) (two (Work.Value twice x) (Work.Values twice others))) (sym is)
    (record { walk = sym (walk_join (of_value twice (value_view x.now)) (of_values twice (values_of (map value_view others.now)))); size = omega arith })

pub stmts_then : (twice : Bool) (xs : List Stmt) (x : Bor Stmt) (others : Bor (List Stmt)) → xs ≡ x.now ∷ others.now → IsThen (walk (of_stmts twice (stmts_of (map stmt_view xs)))) (stmts_size (stmts_of (map stmt_view xs))) (two (Work.Stmt twice x) (Work.Stmts twice others))
stmts_then twice xs x others is =
    subst (λ (l : List Stmt). IsThen (walk (of_stmts twice (stmts_of (map stmt_view l)))) (stmts_size (stmts_of (map stmt_view l))) (two (Work.Stmt twice x) (Work.Stmts twice others))) (sym is)
    (record { walk = sym (walk_join (of_stmt twice (stmt_view x.now)) (of_stmts twice (stmts_of (map stmt_view others.now)))); size = omega arith })

pub branches_then : (twice : Bool) (bs : List (List Stmt)) (first : List Stmt) (b : Bor (List Stmt)) (others : Bor (List (List Stmt))) → bs ≡ first ∷ others.now → b.now ≡ first → IsThen (walk (of_branches twice (branches_view (map (map stmt_view) bs)))) (branches_size (branches_view (map (map stmt_view) bs))) (two (Work.Stmts twice b) (Work.Branches twice others))
branches_then twice bs first b others is same =
    subst (λ (l : List (List Stmt)). IsThen (walk (of_branches twice (branches_view (map (map stmt_view) l)))) (branches_size (branches_view (map (map stmt_view) l))) (two (Work.Stmts twice b) (Work.Branches twice others))) (ap (λ (ss : List Stmt). ss ∷ others.now) same ∙ sym is)
    (record { walk = sym (walk_join (of_stmts twice (stmts_of (map stmt_view b.now))) (of_branches twice (branches_view (map (map stmt_view) others.now)))); size = omega arith })

pub word_then : (twice : Bool) (ps : List Part) (p : Part) (w : List ℕ) (others : Bor (List Part)) → ps ≡ p ∷ others.now → p ≡ Part.Word w → IsThen (walk (of_parts twice (parts_of (map part_view ps)))) (parts_size (parts_of (map part_view ps))) (one (Work.Parts twice others))
word_then twice ps p w others is seen =
    subst (λ (l : List tree.Part). IsThen (walk (of_parts twice (parts_of l))) (parts_size (parts_of l)) (one (Work.Parts twice others)))
    (sym (ap (map part_view) is ∙ ap (λ (x : tree.Part). x ∷ map part_view others.now) (ap part_view seen ∙ part_word_seen w)))
    (record { walk = refl; size = omega arith })

pub nested_word_then : (twice : Bool) (ps : List Part) (p : Part) (w : List ℕ) (others : Bor (List Part)) → ps ≡ p ∷ others.now → p ≡ Part.Word w → IsThen (walk (of_nested twice (parts_of (map part_view ps)))) (parts_size (parts_of (map part_view ps))) (one (Work.Nested twice others))
nested_word_then twice ps p w others is seen =
    subst (λ (l : List tree.Part). IsThen (walk (of_nested twice (parts_of l))) (parts_size (parts_of l)) (one (Work.Nested twice others)))
    (sym (ap (map part_view) is ∙ ap (λ (x : tree.Part). x ∷ map part_view others.now) (ap part_view seen ∙ part_word_seen w)))
    (record { walk = refl; size = omega arith })

pub part_then : (twice : Bool) (ps : List Part) (p : Part) (v : Bor Value) (others : Bor (List Part)) → ps ≡ p ∷ others.now → p ≡ Part.Value v.now → IsThen (walk (of_parts twice (parts_of (map part_view ps)))) (parts_size (parts_of (map part_view ps))) (two (Work.Value twice v) (Work.Parts twice others))
part_then twice ps p v others is seen =
    subst (λ (l : List tree.Part). IsThen (walk (of_parts twice (parts_of l))) (parts_size (parts_of l)) (two (Work.Value twice v) (Work.Parts twice others)))
    (sym (ap (map part_view) is ∙ ap (λ (x : tree.Part). x ∷ map part_view others.now) (ap part_view seen ∙ value_seen v.now)))
    (record { walk = sym (walk_join (of_value twice (value_view v.now)) (of_parts twice (parts_of (map part_view others.now)))); size = omega arith })

pub nested_part_then : (twice : Bool) (ps : List Part) (p : Part) (v : Bor Value) (others : Bor (List Part)) → ps ≡ p ∷ others.now → p ≡ Part.Value v.now → IsThen (walk (of_nested twice (parts_of (map part_view ps)))) (parts_size (parts_of (map part_view ps))) (two (Work.Value true v) (Work.Parts twice others))
nested_part_then twice ps p v others is seen =
    subst (λ (l : List tree.Part). IsThen (walk (of_nested twice (parts_of l))) (parts_size (parts_of l)) (two (Work.Value true v) (Work.Parts twice others)))
    (sym (ap (map part_view) is ∙ ap (λ (x : tree.Part). x ∷ map part_view others.now) (ap part_view seen ∙ value_seen v.now)))
    (record { walk = sym (walk_join (of_value true (value_view v.now)) (of_parts twice (parts_of (map part_view others.now)))); size = omega arith })

pub walk_three : (a b c : Mentions) → walk a ++ (walk b ++ walk c) ≡ walk (join a (join b c))
walk_three a b c = sym (walk_join a (join b c) ∙ ap (λ (l : List Met). walk a ++ l) (walk_join b c))

pub arms_then : (twice : Bool) (arms : List Arm) (a : Arm) (c b : Bor Body) (others : Bor (List Arm)) → arms ≡ a ∷ others.now → arm_view a ≡ (body_view c.now, body_view b.now) → IsThen (walk (of_arms twice (arms_of (map arm_view arms)))) (arms_size (arms_of (map arm_view arms))) (three (Work.Body twice c) (Work.Body twice b) (Work.Arms twice others))
arms_then twice arms a c b others is seen =
    subst (λ (l : List (tree.Body × tree.Body)). IsThen (walk (of_arms twice (arms_of l))) (arms_size (arms_of l)) (three (Work.Body twice c) (Work.Body twice b) (Work.Arms twice others)))
    (sym (ap (map arm_view) is ∙ ap (λ (x : tree.Body × tree.Body). x ∷ map arm_view others.now) seen))
    (record { walk = walk_three (of_body twice (body_view c.now)) (of_body twice (body_view b.now)) (of_arms twice (arms_of (map arm_view others.now))); size = omega arith })

-- the parts of a head
head_parts : (h : Head) (ps : List Part) → ps ≡ h.parts → parts_of (map part_view ps) ≡ head_view h
head_parts h ps is = ap (λ (l : List Part). parts_of (map part_view l)) is ∙ sym (head_seen h)

pub changes_then : (twice : Bool) (cs : List NowChange) (x : NowChange) (h : Bor Head) (within : Bor (List Part)) (others : Bor (List NowChange)) → cs ≡ x ∷ others.now → change_view x ≡ (head_view h.now, x.set) → within.now ≡ h.now.parts → IsThen (walk (of_changes twice (changes_of (map change_view cs)))) (changes_size (changes_of (map change_view cs))) (three (Work.Met (Mention.Query (role.Changed x.set) h)) (Work.Parts twice within) (Work.Changes twice others))
changes_then twice cs x h within others is seen parts =
    subst (λ (l : List (tree.Parts × Bool)). IsThen (walk (of_changes twice (changes_of l))) (changes_size (changes_of l)) (three (Work.Met (Mention.Query (role.Changed x.set) h)) (Work.Parts twice within) (Work.Changes twice others)))
    (sym (ap (map change_view) is ∙ ap (λ (y : tree.Parts × Bool). y ∷ map change_view others.now) seen))
    (let same = head_parts h.now within.now parts in
    record {
      walk =
          ap (λ (ps : tree.Parts). met (query (role.Changed x.set) (head_view h.now)) ∷ (walk (of_parts twice ps) ++ walk (of_changes twice (changes_of (map change_view others.now))))) same
          ∙ ap (λ (l : List Met). met (query (role.Changed x.set) (head_view h.now)) ∷ l) (sym (walk_join (of_parts twice (head_view h.now)) (of_changes twice (changes_of (map change_view others.now)))));
      size = let much = ap parts_size same in omega (arith, much);
    })

-- a head or a query, and then its parts
pub query_then : (twice : Bool) (r : Role) (h : Bor Head) (within : Bor (List Part)) → within.now ≡ h.now.parts → IsThen (walk (thing (query r (head_view h.now)) (of_parts twice (head_view h.now)))) (2 + parts_size (head_view h.now)) (two (Work.Met (Mention.Query r h)) (Work.Parts twice within))
query_then twice r h within is =
    let same = head_parts h.now within.now is in
    record {
      walk = ap (λ (ps : tree.Parts). met (query r (head_view h.now)) ∷ walk (of_parts twice ps)) same;
      size = let much = ap parts_size same in omega (arith, much);
    }

-- a query that stands as a value
pub nested_then : (twice : Bool) (h : Bor Head) (within : Bor (List Part)) → within.now ≡ h.now.parts → IsThen (walk (of_value twice (tree.nested (head_view h.now)))) (value_size (tree.nested (head_view h.now))) (two (Work.Met (Mention.Query role.Nested h)) (Work.Nested twice within))
nested_then twice h within is =
    let same = head_parts h.now within.now is in
    record {
      walk = ap (λ (ps : tree.Parts). met (query role.Nested (head_view h.now)) ∷ walk (of_nested twice ps)) same;
      size = let much = ap parts_size same in omega (arith, much);
    }

pub rule_walk : (r : Role) (h : Bor Head) (b : Bor Body) (within : Bor (List Part)) → within.now ≡ h.now.parts → walk_then (three (Work.Met (Mention.Query r h)) (Work.Parts false within) (Work.Body false b)) ≡ walk (thing (query r (head_view h.now)) (join (of_parts false (head_view h.now)) (of_body false (body_view b.now))))
rule_walk r h b within is =
    ap (λ (ps : tree.Parts). met (query r (head_view h.now)) ∷ (walk (of_parts false ps) ++ walk (of_body false (body_view b.now)))) (head_parts h.now within.now is)
    ∙ ap (λ (l : List Met). met (query r (head_view h.now)) ∷ l) (sym (walk_join (of_parts false (head_view h.now)) (of_body false (body_view b.now))))

-- the number of branches
pub counted : (bs : List (List Stmt)) → branches_in (branches_view (map (map stmt_view) bs)) ≡ length bs
counted [] = refl
counted (b ∷ bs) = omega (arith, counted bs)

pub body_then : (twice : Bool) (b : Bor Body) (n : ℕ) (within : Bor (List (List Stmt))) → n ≡ length b.now.branches → within.now ≡ b.now.branches → IsThen (walk (of_body twice (body_view b.now))) (2 + branches_size (body_view b.now)) (two (Work.Met (Mention.Branches n)) (Work.Branches twice within))
body_then twice b n within count is =
    let same = ap (λ (l : List (List Stmt)). branches_view (map (map stmt_view) l)) is ∙ sym (body_seen b.now) in
    let many = count ∙ sym (counted b.now.branches) ∙ ap branches_in (sym (body_seen b.now)) in
    record {
      walk = ap (λ (x : tree.Body). met (branches n) ∷ walk (of_branches twice x)) same ∙ ap (λ (k : ℕ). met (branches k) ∷ walk (of_branches twice (body_view b.now))) many;
      size = let much = ap branches_size same in omega (arith, much);
    }

-- ---- values and statements, by what they are

pub value_is : (twice : Bool) (v : Value) (t : tree.Value) (next : Then) → value_view v ≡ t → IsThen (walk (of_value twice t)) (value_size t) next → IsThen (walk (of_value twice (value_view v))) (value_size (value_view v)) next
value_is twice v t next same step = subst (λ (x : tree.Value). IsThen (walk (of_value twice x)) (value_size x) next) (sym same) step

pub stmt_is : (twice : Bool) (s : Stmt) (t : tree.Stmt) (next : Then) → stmt_view s ≡ t → IsThen (walk (of_stmt twice t)) (stmt_size t) next → IsThen (walk (of_stmt twice (stmt_view s))) (stmt_size (stmt_view s)) next
stmt_is twice s t next same step = subst (λ (x : tree.Stmt). IsThen (walk (of_stmt twice x)) (stmt_size x) next) (sym same) step

pub plain_then : (twice : Bool) (vs : Bor (List Value)) (tail : Option Value) → tail ≡ None → IsThen (walk (of_value twice (list_view (map value_view vs.now) (option_map value_view tail)))) (value_size (list_view (map value_view vs.now) (option_map value_view tail))) (two (Work.Met (Mention.Other form.List)) (Work.Values twice vs))
plain_then twice vs tail is =
    subst (λ (o : Option Value). IsThen (walk (of_value twice (list_view (map value_view vs.now) (option_map value_view o)))) (value_size (list_view (map value_view vs.now) (option_map value_view o))) (two (Work.Met (Mention.Other form.List)) (Work.Values twice vs))) (sym is)
    (record { walk = refl; size = omega arith })

pub list_then : (twice : Bool) (vs : Bor (List Value)) (tail : Option Value) (v : Bor Value) → tail ≡ Some v.now → IsThen (walk (of_value twice (list_view (map value_view vs.now) (option_map value_view tail)))) (value_size (list_view (map value_view vs.now) (option_map value_view tail))) (three (Work.Met (Mention.Other form.List)) (Work.Values twice vs) (Work.Value twice v))
list_then twice vs tail v is =
    subst (λ (o : Option Value). IsThen (walk (of_value twice (list_view (map value_view vs.now) (option_map value_view o)))) (value_size (list_view (map value_view vs.now) (option_map value_view o))) (three (Work.Met (Mention.Other form.List)) (Work.Values twice vs) (Work.Value twice v))) (sym is)
    (record { walk = ap (λ (l : List Met). met (other form.List) ∷ l) (sym (walk_join (of_values twice (values_of (map value_view vs.now))) (of_value twice (value_view v.now)))); size = omega arith })

pub arms_alone : (twice : Bool) (arms : Bor (List Arm)) (alt : Option Body) → alt ≡ None → IsThen (walk (of_stmt twice (choice_view (map arm_view arms.now) (option_map body_view alt)))) (stmt_size (choice_view (map arm_view arms.now) (option_map body_view alt))) (two (Work.Met (Mention.Other form.If)) (Work.Arms twice arms))
arms_alone twice arms alt is =
    subst (λ (o : Option Body). IsThen (walk (of_stmt twice (choice_view (map arm_view arms.now) (option_map body_view o)))) (stmt_size (choice_view (map arm_view arms.now) (option_map body_view o))) (two (Work.Met (Mention.Other form.If)) (Work.Arms twice arms))) (sym is)
    (record { walk = refl; size = omega arith })

pub choice_then : (twice : Bool) (arms : Bor (List Arm)) (alt : Option Body) (b : Bor Body) → alt ≡ Some b.now → IsThen (walk (of_stmt twice (choice_view (map arm_view arms.now) (option_map body_view alt)))) (stmt_size (choice_view (map arm_view arms.now) (option_map body_view alt))) (three (Work.Met (Mention.Other form.If)) (Work.Arms twice arms) (Work.Body twice b))
choice_then twice arms alt b is =
    subst (λ (o : Option Body). IsThen (walk (of_stmt twice (choice_view (map arm_view arms.now) (option_map body_view o)))) (stmt_size (choice_view (map arm_view arms.now) (option_map body_view o))) (three (Work.Met (Mention.Other form.If)) (Work.Arms twice arms) (Work.Body twice b))) (sym is)
    (record { walk = ap (λ (l : List Met). met (other form.If) ∷ l) (sym (walk_join (of_arms twice (arms_of (map arm_view arms.now))) (of_body twice (body_view b.now)))); size = omega arith })

pub select_then : (twice : Bool) (mode : Mode) (bs : List (List Stmt)) (n : ℕ) (within : Bor (List (List Stmt))) → n ≡ length bs → within.now ≡ bs → IsThen (walk (of_stmt twice (tree.select mode (branches_view (map (map stmt_view) bs))))) (stmt_size (tree.select mode (branches_view (map (map stmt_view) bs)))) (two (Work.Met (Mention.Select n)) (Work.Branches twice within))
select_then twice mode bs n within count same =
    subst (λ (l : List (List Stmt)). IsThen (walk (of_stmt twice (tree.select mode (branches_view (map (map stmt_view) l))))) (stmt_size (tree.select mode (branches_view (map (map stmt_view) l)))) (two (Work.Met (Mention.Select n)) (Work.Branches twice within))) same
    (record {
      walk = ap (λ (k : ℕ). met (select k) ∷ walk (of_branches twice (branches_view (map (map stmt_view) within.now)))) (count ∙ sym (ap length same) ∙ sym (counted within.now));
      size = omega arith;
    })
