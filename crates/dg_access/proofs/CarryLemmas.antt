-- What is mentioned with access rules put in comes from what is mentioned.
use Rattle.std.proofs.Common.{◌≡◌, ◌+◌, ◌||◌, ℕ, zero, suc, List, [], ◌∷◌, ◌++◌, Bool, true, false, Option, Some, None, length, refl, sym, ap, subst}
use Rattle.std.specs.Prelude.{if◌then◌else◌}
use Rattle.std.specs.List.{All, Contains}
use Rattle.std.specs.Str.{bytes_eq}
use Rattle.std.proofs.lemmas.List.Elements.{All-nil, All-append, All-weaker, All-contains_itself}
use Rattle.dg_base.specs.Heads.{part_name, parts_behind, name_of}
use Rattle.dg_base.specs.Tree as tree
use Rattle.dg_base.specs.Tree.{Parts, Value, Values, Stmt, Stmts, Body, Arms, Changes, Said, Item}
use Rattle.dg_base.specs.Mentions.{Thing, topic_line, query, number, word, object, current_topic, unnamed, variable, word_choice, text, other, branches, select, closure, thing, join, branches_in, of_parts, of_nested, of_value, of_values, of_stmt, of_stmts, of_body, of_branches, of_arms, of_changes, of_rule, things_in, mentioned}
use Rattle.dg_base.specs.declared.mentions.Role.{Role}
use Rattle.dg_base.specs.declared.mentions.Role.TheVariants as role
use Rattle.dg_base.specs.declared.mentions.Form.TheVariants as form
use Rattle.dg_plain.specs.Items.{free_number}
use Rattle.dg_plain.proofs.KeptLemmas.{Hold, front, back, both, three, from_all, to_all, all_front, all_back}
use Rattle.dg_put.specs.Put.{Access, Argument, Spot, Level, rule_for, parameter_of, with_argument, in_item, in_rule, within, moved_from, in_closure, in_copy, own_or, own_name, is_own_parameter, argument_for, change_by, with_change, changes_in, list_queries, is_one, changes_behind, made, put_query, change_access, put_change, one_change, level, put_value, put_values, put_parts, given_by, put_stmt, put_stmts, put_body, put_arms, put_changes}
use Rattle.dg_items.specs.Expanded.{access_in, access_rules, signed_rule, head_rules, put_rule, stay, put_said, on_line, put_item, put_items}
use Rattle.dg_access.specs.Comes as comes
use Rattle.dg_access.specs.Comes.{is_made, is_turned, PutFrom, MentionsArePut}
use Rattle.dg_access.proofs.AnswerLemmas.{all_mentioned}

-- ---- names

behind_named : (l : Level) (p : Spot) (n : ℕ) (ps : Parts) → parts_behind (put_parts l p n ps).0 ≡ parts_behind ps
behind_named l p n tree.no_parts = refl
behind_named l p n (tree.part (tree.part_word w) ps) = ap (λ (t : List ℕ). 32 ∷ (part_name (tree.part_word w) ++ t)) (behind_named l p n ps)
behind_named l p n (tree.part (tree.part_value v) ps) = ap (λ (t : List ℕ). 32 ∷ ((36 ∷ []) ++ t)) (behind_named l p (put_value l p n v).1 ps)

-- a head keeps its name
pub named : (l : Level) (p : Spot) (n : ℕ) (ps : Parts) → name_of (put_parts l p n ps).0 ≡ name_of ps
named l p n tree.no_parts = refl
named l p n (tree.part (tree.part_word w) ps) = ap (λ (t : List ℕ). 40 ∷ (part_name (tree.part_word w) ++ (t ++ 41 ∷ []))) (behind_named l p n ps)
named l p n (tree.part (tree.part_value v) ps) = ap (λ (t : List ℕ). 40 ∷ ((36 ∷ []) ++ (t ++ 41 ∷ []))) (behind_named l p (put_value l p n v).1 ps)

branches_kept : (l : Level) (p : Spot) (n : ℕ) (b : Body) → branches_in (put_body l p n b).0 ≡ branches_in b
branches_kept l p n tree.no_branches = refl
branches_kept l p n (tree.branch ss b) = ap (λ (m : ℕ). m + 1) (branches_kept l p (put_stmts l p n ss).1 b)

-- ---- what carries over

-- a thing that stays as it is
abbrev pub is_kept : Thing → Bool
is_kept (query r ps) = false
is_kept (unnamed b) = false
is_kept (variable n) = false
is_kept (branches n) = false
is_kept t = true

-- a query of a body
abbrev pub is_asked : Role → Bool
is_asked role.Asked = true
is_asked role.AskedAll = true
is_asked role.AskedNot = true
is_asked r = false

-- the first holds of what stands in a tree, and so the second of what comes to stand there where these access rules are put in; a third
-- holds of names of what may be changed
pub record Carries (rules : List Access) (N : List ℕ → Type 0) (P Q : Thing → Type 0) : Type 0 where
  pub new : (t : Thing) → is_made t ≡ true → Q t
  pub same : (t : Thing) → is_kept t ≡ true → P t → Q t
  pub again : (r : Role) (ps qs : Parts) → (is_asked r ≡ true → rule_for rules ps ≡ None) → name_of ps ≡ name_of qs → P (query r ps) → Q (query r qs)
  pub left : (a b : Bool) → P (unnamed a) → Q (unnamed b)
  pub asked : (r : Role) (ps : Parts) → is_asked r ≡ true → P (query r ps) → N (name_of ps)
  pub begun : (set : Bool) (ps : Parts) → P (query (role.Changed set) ps) → N (name_of ps)
  pub changed : (s set : Bool) (ks qs : Parts) → P (query (role.Changed s) ks) → N (name_of qs) → Q (query (role.Changed set) qs)

-- changes of what may be changed
abbrev pub ChangesHold : (List ℕ → Type 0) → (Thing → Type 0) → Bool → Changes → Type 0
ChangesHold N P a tree.no_changes = Unit {0}
ChangesHold N P a (tree.change ps set cs) = N (name_of ps) × Hold P (of_parts a ps) × ChangesHold N P a cs

-- whatever an argument gives
abbrev pub GivesHeld : (Thing → Type 0) → Option Argument → Type 0
GivesHeld Q None = Unit {0}
GivesHeld Q (Some f) = (b : Bool) (n : ℕ) → Hold Q (of_value b (f n).0)

abbrev pub AllGiven : (Thing → Type 0) → List (List ℕ × Argument) → Type 0
AllGiven Q [] = Unit {0}
AllGiven Q (g ∷ gs) = GivesHeld Q (Some g.1) × AllGiven Q gs

-- what access rules of this level come to
pub record Level_carries (N : List ℕ → Type 0) (P Q : Thing → Type 0) (l : Level) : Type 0 where
  pub carries : Carries l.rules N P Q
  pub bodies : (asked : Role) (ps : Parts) (r : Access) → is_asked asked ≡ true → P (query asked ps) → rule_for l.rules ps ≡ Some r → (p : Spot) (n : ℕ) (b : Bool) → AllGiven Q p.given → Hold Q (of_branches b (l.inner p n r.body).0)
  pub changes : (ps : Parts) (r : Access) → N (name_of ps) → rule_for l.rules ps ≡ Some r → (p : Spot) (n : ℕ) (b set : Bool) → AllGiven Q p.given → ChangesHold N Q b (l.inner_changes p n (changes_in set (list_queries r.body))).0

-- ---- arguments

with_good : (Q : Thing → Type 0) (m : Option (List ℕ)) (f : Option Argument) (gs : List (List ℕ × Argument)) → GivesHeld Q f → AllGiven Q gs → AllGiven Q (with_argument m f gs)
with_good Q (Some w) (Some f) gs h k = (h, k)
with_good Q (Some w) None gs h k = k
with_good Q None f gs h k = k

found_good : (Q : Thing → Type 0) (gs : List (List ℕ × Argument)) (w : List ℕ) → AllGiven Q gs → GivesHeld Q (argument_for gs w)
found_good Q [] w h = tt
found_good Q (g ∷ gs) w h = here (bytes_eq g.0 w) (found_good Q gs w h.1)
  where
    here : (b : Bool) → GivesHeld Q (argument_for gs w) → GivesHeld Q (if b then Some g.1 else argument_for gs w)
    here true k = h.0
    here false k = k

variable_held : (Q : Thing → Type 0) (new : (w : List ℕ) → Q (variable w)) (mark : ℕ) (p : Spot) (n : ℕ) (w : List ℕ) (b own : Bool) (m : Option Argument) → GivesHeld Q m → Hold Q (of_value b (if own then (tree.variable w, n) else own_or mark p n w m).0)
variable_held Q new mark p n w b true m h = (new w, tt)
variable_held Q new mark p n w b false None h = (new (own_name mark p w), tt)
variable_held Q new mark p n w b false (Some f) h = h b n

closure_held : (Q : Thing → Type 0) (new : (k : ℕ) → Q (branches k)) (b c : Bool) (x y : Body × ℕ) → Q closure → Hold Q (of_branches b x.0) → Hold Q (of_branches b y.0) → Hold Q (of_value b (tree.closure (if c then x else y).0))
closure_held Q new b true x y h k l = (h, (new (branches_in x.0), k), tt)
closure_held Q new b false x y h k l = (h, (new (branches_in y.0), l), tt)

-- ---- queries and changes

query_held : (N : List ℕ → Type 0) (P Q : Thing → Type 0) (l : Level) (g : Level_carries N P Q l) (b : Bool) (n : ℕ) (f : Body → Stmt) (how : Role) (ps : Parts) (m : Option Access) (given : Access → List (List ℕ × Argument)) (o : Stmt × ℕ) → is_asked how ≡ true → P (query how ps) → rule_for l.rules ps ≡ m → ((s : Body) → Hold Q (of_branches b s) → Hold Q (of_stmt b (f s))) → ((r : Access) → AllGiven Q (given r)) → (rule_for l.rules ps ≡ None → Hold Q (of_stmt b o.0)) → Hold Q (of_stmt b (put_query l n f m given o).0)
query_held N P Q l g b n f how ps None given o a k e wrap args h = h e
query_held N P Q l g b n f how ps (Some r) given o a k e wrap args h = wrap _ (g.bodies how ps r a k e (within (given r) n) (n + 1) b (args r))

changing_is : (set : Bool) (m : Option Access) (r : Access) → change_access set m ≡ Some r → m ≡ Some r
changing_is set None r e = e
changing_is set (Some q) r e = here (set || is_one (list_queries q.body)) e
  where
    here : (b : Bool) → (if b then Some q else None) ≡ Some r → Some q ≡ Some r
    here true f = f
    here false f = cc

change_held : (N : List ℕ → Type 0) (P Q : Thing → Type 0) (l : Level) (g : Level_carries N P Q l) (b : Bool) (n : ℕ) (set : Bool) (ps : Parts) (m : Option Access) (given : Access → List (List ℕ × Argument)) (o : Changes × ℕ) → N (name_of ps) → change_access set (rule_for l.rules ps) ≡ m → ((r : Access) → AllGiven Q (given r)) → ChangesHold N Q b o.0 → ChangesHold N Q b (put_change l n set m given o).0
change_held N P Q l g b n set ps None given o k e args h = h
change_held N P Q l g b n set ps (Some r) given o k e args h = g.changes ps r k (changing_is set (rule_for l.rules ps) r e) (within (given r) n) (n + 1) b set (args r)

behind_held : (N : List ℕ → Type 0) (Q : Thing → Type 0) (b : Bool) (cs ds : Changes) → ChangesHold N Q b cs → ChangesHold N Q b ds → ChangesHold N Q b (changes_behind cs ds)
behind_held N Q b tree.no_changes ds h k = k
behind_held N Q b (tree.change ps set cs) ds h k = (h.0, h.1, behind_held N Q b cs ds h.2 k)

-- the changes of a statement, where one of them stood there
changes_begun : (rules : List Access) (N : List ℕ → Type 0) (P Q : Thing → Type 0) (k : Carries rules N P Q) (a : Bool) (cs : Changes) → Hold P (of_changes a cs) → ChangesHold N P a cs
changes_begun rules N P Q k a tree.no_changes h = tt
changes_begun rules N P Q k a (tree.change ps set cs) h =
    (k.begun set ps h.0, front P (of_parts a ps) (of_changes a cs) h.1, changes_begun rules N P Q k a cs (back P (of_parts a ps) (of_changes a cs) h.1))

changes_done : (rules : List Access) (N : List ℕ → Type 0) (P Q : Thing → Type 0) (k : Carries rules N P Q) (b s : Bool) (ks : Parts) (cs : Changes) → P (query (role.Changed s) ks) → ChangesHold N Q b cs → Hold Q (of_changes b cs)
changes_done rules N P Q k b s ks tree.no_changes one h = tt
changes_done rules N P Q k b s ks (tree.change ps set cs) one h =
    (k.changed s set ks ps one h.0, both Q (of_parts b ps) (of_changes b cs) h.1 (changes_done rules N P Q k b s ks cs one h.2))

-- the queries of an access rule as changes
turned_held : (rules : List Access) (N : List ℕ → Type 0) (P Q : Thing → Type 0) (k : Carries rules N P Q) (a set : Bool) (s : Stmt) (cs : Changes) → Hold P (of_stmt a s) → ChangesHold N P a cs → ChangesHold N P a (with_change (change_by set s) cs)
turned_held rules N P Q k a set (tree.ask ps) cs h rest = (k.asked role.Asked ps refl h.0, h.1, rest)
turned_held rules N P Q k a set (tree.ask_all ps) cs h rest = (k.asked role.AskedAll ps refl h.0, h.1, rest)
turned_held rules N P Q k a set (tree.ask_not ps) cs h rest = (k.asked role.AskedNot ps refl h.0, h.1, rest)
turned_held rules N P Q k a set s cs h rest = rest

pub queries_turned : (rules : List Access) (N : List ℕ → Type 0) (P Q : Thing → Type 0) (k : Carries rules N P Q) (a set : Bool) (ss : Stmts) → Hold P (of_stmts a ss) → ChangesHold N P a (changes_in set ss)
queries_turned rules N P Q k a set tree.no_stmts h = tt
queries_turned rules N P Q k a set (tree.stmt s ss) h =
    turned_held rules N P Q k a set s (changes_in set ss) (front P (of_stmt a s) (of_stmts a ss) h) (queries_turned rules N P Q k a set ss (back P (of_stmt a s) (of_stmts a ss) h))

pub first_branch : (P : Thing → Type 0) (a : Bool) (b : Body) → Hold P (of_branches a b) → Hold P (of_stmts a (list_queries b))
first_branch P a tree.no_branches h = tt
first_branch P a (tree.branch ss b) h = front P (of_stmts a ss) (of_branches a b) h

-- ---- everywhere

mutual
  value_put : (N : List ℕ → Type 0) (P Q : Thing → Type 0) (l : Level) (g : Level_carries N P Q l) (p : Spot) (ok : AllGiven Q p.given) (a b : Bool) (n : ℕ) (v : Value) → Hold P (of_value a v) → Hold Q (of_value b (put_value l p n v).0)
  value_put N P Q l g p ok a b n (tree.num m) h = (g.carries.same (number m) refl h.0, tt)
  value_put N P Q l g p ok a b n (tree.dict_word w) h = (g.carries.same (word w) refl h.0, tt)
  value_put N P Q l g p ok a b n (tree.object_name w) h = (g.carries.same (object w) refl h.0, tt)
  value_put N P Q l g p ok a b n tree.current_topic h = (g.carries.same current_topic refl h.0, tt)
  value_put N P Q l g p ok a b n tree.anonymous h = (g.carries.left a b h.0, tt)
  value_put N P Q l g p ok a b n (tree.variable w) h =
      variable_held Q (λ m. g.carries.new (variable m) refl) l.mark p n w b (is_own_parameter p w) (argument_for p.given w) (found_good Q p.given w ok)
  value_put N P Q l g p ok a b n (tree.plain_list vs) h = (g.carries.same (other form.List) refl h.0, values_put N P Q l g p ok a b n vs h.1)
  value_put N P Q l g p ok a b n (tree.tailed_list vs v) h =
      (g.carries.same (other form.List) refl h.0, both Q (of_values b (put_values l p n vs).0) _ (values_put N P Q l g p ok a b n vs (front P (of_values a vs) (of_value a v) h.1)) (value_put N P Q l g p ok a b (put_values l p n vs).1 v (back P (of_values a vs) (of_value a v) h.1)))
  value_put N P Q l g p ok a b n (tree.closure s) h =
      closure_held Q (λ k. g.carries.new (branches k) refl) b p.moved (put_body l (in_copy p n) (n + 1) s) (put_body l (in_closure p) n s) (g.carries.same closure refl h.0)
      (body_put N P Q l g (in_copy p n) ok a b (n + 1) s h.1.1) (body_put N P Q l g (in_closure p) ok a b n s h.1.1)
  value_put N P Q l g p ok a b n (tree.nested ps) h = (g.carries.again role.Nested ps (put_parts l p n ps).0 (λ e. cc) (sym (named l p n ps)) h.0, nested_put N P Q l g p ok a b n ps h.1)
  value_put N P Q l g p ok a b n (tree.word_choice ws) h = (g.carries.same (word_choice ws) refl h.0, tt)

  values_put : (N : List ℕ → Type 0) (P Q : Thing → Type 0) (l : Level) (g : Level_carries N P Q l) (p : Spot) (ok : AllGiven Q p.given) (a b : Bool) (n : ℕ) (vs : Values) → Hold P (of_values a vs) → Hold Q (of_values b (put_values l p n vs).0)
  values_put N P Q l g p ok a b n tree.no_values h = tt
  values_put N P Q l g p ok a b n (tree.value v vs) h =
      both Q (of_value b (put_value l p n v).0) _ (value_put N P Q l g p ok a b n v (front P (of_value a v) (of_values a vs) h)) (values_put N P Q l g p ok a b (put_value l p n v).1 vs (back P (of_value a v) (of_values a vs) h))

  pub parts_put : (N : List ℕ → Type 0) (P Q : Thing → Type 0) (l : Level) (g : Level_carries N P Q l) (p : Spot) (ok : AllGiven Q p.given) (a b : Bool) (n : ℕ) (ps : Parts) → Hold P (of_parts a ps) → Hold Q (of_parts b (put_parts l p n ps).0)
  parts_put N P Q l g p ok a b n tree.no_parts h = tt
  parts_put N P Q l g p ok a b n (tree.part (tree.part_word w) ps) h = parts_put N P Q l g p ok a b n ps h
  parts_put N P Q l g p ok a b n (tree.part (tree.part_value v) ps) h =
      both Q (of_value b (put_value l p n v).0) _ (value_put N P Q l g p ok a b n v (front P (of_value a v) (of_parts a ps) h)) (parts_put N P Q l g p ok a b (put_value l p n v).1 ps (back P (of_value a v) (of_parts a ps) h))

  nested_put : (N : List ℕ → Type 0) (P Q : Thing → Type 0) (l : Level) (g : Level_carries N P Q l) (p : Spot) (ok : AllGiven Q p.given) (a b : Bool) (n : ℕ) (ps : Parts) → Hold P (of_nested a ps) → Hold Q (of_nested b (put_parts l p n ps).0)
  nested_put N P Q l g p ok a b n tree.no_parts h = tt
  nested_put N P Q l g p ok a b n (tree.part (tree.part_word w) ps) h = nested_put N P Q l g p ok a b n ps h
  nested_put N P Q l g p ok a b n (tree.part (tree.part_value v) ps) h =
      both Q (of_value true (put_value l p n v).0) _ (value_put N P Q l g p ok true true n v (front P (of_value true v) (of_parts a ps) h)) (parts_put N P Q l g p ok a b (put_value l p n v).1 ps (back P (of_value true v) (of_parts a ps) h))

  given_put : (N : List ℕ → Type 0) (P Q : Thing → Type 0) (l : Level) (g : Level_carries N P Q l) (p : Spot) (ok : AllGiven Q p.given) (a : Bool) (head ps : Parts) → Hold P (of_parts a ps) → AllGiven Q (given_by l p head ps)
  given_put N P Q l g p ok a head tree.no_parts h = tt
  given_put N P Q l g p ok a tree.no_parts (tree.part q ps) h = tt
  given_put N P Q l g p ok a (tree.part d head) (tree.part (tree.part_word w) ps) h =
      with_good Q (parameter_of d) None (given_by l p head ps) tt (given_put N P Q l g p ok a head ps h)
  given_put N P Q l g p ok a (tree.part d head) (tree.part (tree.part_value v) ps) h =
      with_good Q (parameter_of d) (Some (λ n. put_value l p n v)) (given_by l p head ps) (λ b n. value_put N P Q l g p ok a b n v (front P (of_value a v) (of_parts a ps) h)) (given_put N P Q l g p ok a head ps (back P (of_value a v) (of_parts a ps) h))

  stmt_put : (N : List ℕ → Type 0) (P Q : Thing → Type 0) (l : Level) (g : Level_carries N P Q l) (p : Spot) (ok : AllGiven Q p.given) (a b : Bool) (n : ℕ) (s : Stmt) → Hold P (of_stmt a s) → Hold Q (of_stmt b (put_stmt l p n s).0)
  stmt_put N P Q l g p ok a b n (tree.text w) h = (g.carries.same (text w) refl h.0, tt)
  stmt_put N P Q l g p ok a b n (tree.print v) h = (g.carries.same (other form.Print) refl h.0, value_put N P Q l g p ok a b n v h.1)
  stmt_put N P Q l g p ok a b n (tree.ask ps) h =
      query_held N P Q l g b n tree.first_answer role.Asked ps (rule_for l.rules ps) (λ r. given_by l (moved_from p) r.head ps) (made tree.ask (put_parts l p n ps)) refl h.0 refl
      (λ s k. (g.carries.new (other form.First) refl, (g.carries.new (branches _) refl, k))) (λ r. given_put N P Q l g (moved_from p) ok a r.head ps h.1)
      (λ none. (g.carries.again role.Asked ps (put_parts l p n ps).0 (λ e. none) (sym (named l p n ps)) h.0, parts_put N P Q l g p ok a b n ps h.1))
  stmt_put N P Q l g p ok a b n (tree.ask_all ps) h =
      query_held N P Q l g b n tree.group role.AskedAll ps (rule_for l.rules ps) (λ r. given_by l (moved_from p) r.head ps) (made tree.ask_all (put_parts l p n ps)) refl h.0 refl
      (λ s k. (g.carries.new (other form.Group) refl, (g.carries.new (branches _) refl, k))) (λ r. given_put N P Q l g (moved_from p) ok a r.head ps h.1)
      (λ none. (g.carries.again role.AskedAll ps (put_parts l p n ps).0 (λ e. none) (sym (named l p n ps)) h.0, parts_put N P Q l g p ok a b n ps h.1))
  stmt_put N P Q l g p ok a b n (tree.ask_not ps) h =
      query_held N P Q l g b n tree.not_group role.AskedNot ps (rule_for l.rules ps) (λ r. given_by l (moved_from p) r.head ps) (made tree.ask_not (put_parts l p n ps)) refl h.0 refl
      (λ s k. (g.carries.new (other form.NotGroup) refl, (g.carries.new (branches _) refl, k))) (λ r. given_put N P Q l g (moved_from p) ok a r.head ps h.1)
      (λ none. (g.carries.again role.AskedNot ps (put_parts l p n ps).0 (λ e. none) (sym (named l p n ps)) h.0, parts_put N P Q l g p ok a b n ps h.1))
  stmt_put N P Q l g p ok a b n (tree.group s) h = (g.carries.new (other form.Group) refl, (g.carries.new (branches _) refl, body_put N P Q l g p ok a b n s h.1.1))
  stmt_put N P Q l g p ok a b n (tree.not_group s) h = (g.carries.new (other form.NotGroup) refl, (g.carries.new (branches _) refl, body_put N P Q l g p ok a b n s h.1.1))
  stmt_put N P Q l g p ok a b n (tree.now tree.no_changes) h = (g.carries.same (other form.Now) refl h.0, tt)
  stmt_put N P Q l g p ok a b n (tree.now (tree.change ps set cs)) h = (
    g.carries.same (other form.Now) refl h.0,
    changes_done l.rules N P Q g.carries b set ps (put_changes l p n (tree.change ps set cs)).0 h.1.0
        (changes_put N P Q l g p ok a b n (tree.change ps set cs) (changes_begun l.rules N P Q g.carries a (tree.change ps set cs) h.1)),
  )
  stmt_put N P Q l g p ok a b n (tree.choice arms) h = (g.carries.same (other form.If) refl h.0, arms_put N P Q l g p ok a b n arms h.1)
  stmt_put N P Q l g p ok a b n (tree.choice_else arms s) h =
      (g.carries.same (other form.If) refl h.0, both Q (of_arms b (put_arms l p n arms).0) _ (arms_put N P Q l g p ok a b n arms (front P (of_arms a arms) (of_body a s) h.1)) (g.carries.new (branches _) refl, body_put N P Q l g p ok a b (put_arms l p n arms).1 s (back P (of_arms a arms) (of_body a s) h.1).1))
  stmt_put N P Q l g p ok a b n (tree.exhaust s) h = (g.carries.same (other form.Exhaust) refl h.0, stmt_put N P Q l g p ok a b n s h.1)
  stmt_put N P Q l g p ok a b n (tree.stoppable s) h = (g.carries.same (other form.Stoppable) refl h.0, stmt_put N P Q l g p ok a b n s h.1)
  stmt_put N P Q l g p ok a b n (tree.collect v s into) h =
      let rest = back P (of_value a v) (join (of_body a s) (of_value a into)) h.1 in
      let x = put_value l p n v in
      let y = put_body l p x.1 s in (
        g.carries.same (other form.Collect) refl h.0,
        three Q (of_value b x.0) (of_body b y.0) (of_value b (put_value l p y.1 into).0)
            (value_put N P Q l g p ok a b n v (front P (of_value a v) (join (of_body a s) (of_value a into)) h.1)) (g.carries.new (branches _) refl, body_put N P Q l g p ok a b x.1 s (front P (of_body a s) (of_value a into) rest).1) (value_put N P Q l g p ok a b y.1 into (back P (of_body a s) (of_value a into) rest)),
      )
  stmt_put N P Q l g p ok a b n (tree.accumulate v s into) h =
      let rest = back P (of_value a v) (join (of_body a s) (of_value a into)) h.1 in
      let x = put_value l p n v in
      let y = put_body l p x.1 s in (
        g.carries.same (other form.Accumulate) refl h.0,
        three Q (of_value b x.0) (of_body b y.0) (of_value b (put_value l p y.1 into).0)
            (value_put N P Q l g p ok a b n v (front P (of_value a v) (join (of_body a s) (of_value a into)) h.1)) (g.carries.new (branches _) refl, body_put N P Q l g p ok a b x.1 s (front P (of_body a s) (of_value a into) rest).1) (value_put N P Q l g p ok a b y.1 into (back P (of_body a s) (of_value a into) rest)),
      )
  stmt_put N P Q l g p ok a b n (tree.select mode s) h =
      (subst (λ (m : ℕ). Q (select m)) (sym (branches_kept l p n s)) (g.carries.same (select (branches_in s)) refl h.0), body_put N P Q l g p ok a b n s h.1)
  stmt_put N P Q l g p ok a b n (tree.first_answer s) h = (g.carries.new (other form.First) refl, (g.carries.new (branches _) refl, body_put N P Q l g p ok a b n s h.1.1))

  stmts_put : (N : List ℕ → Type 0) (P Q : Thing → Type 0) (l : Level) (g : Level_carries N P Q l) (p : Spot) (ok : AllGiven Q p.given) (a b : Bool) (n : ℕ) (ss : Stmts) → Hold P (of_stmts a ss) → Hold Q (of_stmts b (put_stmts l p n ss).0)
  stmts_put N P Q l g p ok a b n tree.no_stmts h = tt
  stmts_put N P Q l g p ok a b n (tree.stmt s ss) h =
      both Q (of_stmt b (put_stmt l p n s).0) _ (stmt_put N P Q l g p ok a b n s (front P (of_stmt a s) (of_stmts a ss) h)) (stmts_put N P Q l g p ok a b (put_stmt l p n s).1 ss (back P (of_stmt a s) (of_stmts a ss) h))

  pub body_put : (N : List ℕ → Type 0) (P Q : Thing → Type 0) (l : Level) (g : Level_carries N P Q l) (p : Spot) (ok : AllGiven Q p.given) (a b : Bool) (n : ℕ) (s : Body) → Hold P (of_branches a s) → Hold Q (of_branches b (put_body l p n s).0)
  body_put N P Q l g p ok a b n tree.no_branches h = tt
  body_put N P Q l g p ok a b n (tree.branch ss s) h =
      both Q (of_stmts b (put_stmts l p n ss).0) _ (stmts_put N P Q l g p ok a b n ss (front P (of_stmts a ss) (of_branches a s) h)) (body_put N P Q l g p ok a b (put_stmts l p n ss).1 s (back P (of_stmts a ss) (of_branches a s) h))

  arms_put : (N : List ℕ → Type 0) (P Q : Thing → Type 0) (l : Level) (g : Level_carries N P Q l) (p : Spot) (ok : AllGiven Q p.given) (a b : Bool) (n : ℕ) (arms : Arms) → Hold P (of_arms a arms) → Hold Q (of_arms b (put_arms l p n arms).0)
  arms_put N P Q l g p ok a b n tree.no_arms h = tt
  arms_put N P Q l g p ok a b n (tree.arm s u arms) h =
      let rest = back P (of_body a s) (join (of_body a u) (of_arms a arms)) h in
      let x = put_body l p n s in
      let y = put_body l p x.1 u in
      three Q (of_body b x.0) (of_body b y.0) (of_arms b (put_arms l p y.1 arms).0)
      (g.carries.new (branches _) refl, body_put N P Q l g p ok a b n s (front P (of_body a s) (join (of_body a u) (of_arms a arms)) h).1) (g.carries.new (branches _) refl, body_put N P Q l g p ok a b x.1 u (front P (of_body a u) (of_arms a arms) rest).1) (arms_put N P Q l g p ok a b y.1 arms (back P (of_body a u) (of_arms a arms) rest))

  pub changes_put : (N : List ℕ → Type 0) (P Q : Thing → Type 0) (l : Level) (g : Level_carries N P Q l) (p : Spot) (ok : AllGiven Q p.given) (a b : Bool) (n : ℕ) (cs : Changes) → ChangesHold N P a cs → ChangesHold N Q b (put_changes l p n cs).0
  changes_put N P Q l g p ok a b n tree.no_changes h = tt
  changes_put N P Q l g p ok a b n (tree.change ps set cs) h =
      let x = put_change l n set (change_access set (rule_for l.rules ps)) (λ r. given_by l (moved_from p) r.head ps) (made (one_change set) (put_parts l p n ps)) in
      behind_held N Q b x.0 (put_changes l p x.1 cs).0
      (change_held N P Q l g b n set ps (change_access set (rule_for l.rules ps)) (λ r. given_by l (moved_from p) r.head ps) (made (one_change set) (put_parts l p n ps)) h.0 refl
      (λ r. given_put N P Q l g (moved_from p) ok a r.head ps h.1) (subst N (sym (named l p n ps)) h.0, parts_put N P Q l g p ok a b n ps h.1, tt))
      (changes_put N P Q l g p ok a b x.1 cs h.2)

-- ---- to any depth

pub none_some : (r : Access) → None ≡ Some r → ⊥
none_some r e = cc

abbrev pub RulesHold : (Thing → Type 0) → List Access → Type 0
RulesHold P [] = Unit {0}
RulesHold P (r ∷ rs) = Hold P (of_branches false r.body) × RulesHold P rs

rule_found : (P : Thing → Type 0) (rules : List Access) (ps : Parts) (r : Access) → RulesHold P rules → rule_for rules ps ≡ Some r → Hold P (of_branches false r.body)
rule_found P [] ps r h e = cc
rule_found P (q ∷ rules) ps r h e = here (bytes_eq q.name (name_of ps)) e (rule_found P rules ps r h.1)
  where
    here : (b : Bool) → (if b then Some q else rule_for rules ps) ≡ Some r → (rule_for rules ps ≡ Some r → Hold P (of_branches false r.body)) → Hold P (of_branches false r.body)
    here true f rest = let same : q ≡ r = cc in subst (λ (x : Access). Hold P (of_branches false x.body)) same h.0
    here false f rest = rest f

level_held : (rules : List Access) (N : List ℕ → Type 0) (P Q : Thing → Type 0) (k : (some : List Access) → Carries some N P Q) (mark depth : ℕ) → RulesHold P rules → Level_carries N P Q (level rules mark depth)
level_held rules N P Q k mark zero h = record { carries = k []; bodies = λ asked ps r a p e. absurd (none_some r e); changes = λ ps r a e. absurd (none_some r e) }
level_held rules N P Q k mark (suc depth) h =
    let below = level_held rules N P Q k mark depth h in
    record {
      carries = k rules;
      bodies = λ asked ps r one there e p n b ok. body_put N P Q (level rules mark depth) below p ok false b n r.body (rule_found P rules ps r h e);
      changes = λ ps r there e p n b set ok. changes_put N P Q (level rules mark depth) below p ok false b n (changes_in set (list_queries r.body)) (queries_turned rules N P Q (k rules) false set (list_queries r.body) (first_branch P false r.body (rule_found P rules ps r h e)));
    }

-- ---- items

-- a predicate of this name is a head, asked or changed among these
record Stands (ts : List Thing) (name : List ℕ) : Type 0 where
  by : Role
  parts : Parts
  turned : is_turned by ≡ true
  named : name_of parts ≡ name
  there : Contains ts (query by parts)

asked_turned : (r : Role) → is_asked r ≡ true → is_turned r ≡ true
asked_turned role.Asked e = refl
asked_turned role.AskedAll e = refl
asked_turned role.AskedNot e = refl
asked_turned role.Rule e = refl
asked_turned (role.Changed set) e = refl
asked_turned role.Access e = cc
asked_turned role.Declared e = cc
asked_turned role.Nested e = cc

carries_from : (ts : List Thing) (rules : List Access) → Carries rules (Stands ts) (Contains ts) (PutFrom ts)
carries_from ts rules = record {
  new = comes.made;
  same = λ t e h. comes.same t h;
  again = λ r ps qs none e h. comes.again r ps qs e h;
  left = comes.left;
  asked = λ r ps e h. record { by = r; parts = ps; turned = asked_turned r e; named = refl; there = h };
  begun = λ set ps h. record { by = role.Changed set; parts = ps; turned = refl; named = refl; there = h };
  changed = λ s set ks qs h n. comes.changed s set n.by ks n.parts qs h n.turned n.named n.there;
}

heads_done : (ts : List Thing) (line : ℕ) (heads : Changes) (b : Body) → ChangesHold (Stands ts) (PutFrom ts) false heads → Hold (PutFrom ts) (of_body false b) → All (PutFrom ts) (mentioned (on_line line (head_rules heads b)))
heads_done ts line tree.no_changes b h k = All-nil (PutFrom ts)
heads_done ts line (tree.change ps set heads) b h k =
    let n = h.0 in
    let rule : Hold (PutFrom ts) (of_rule role.Rule ps b) = (comes.headed n.by n.parts ps n.turned n.named n.there, both (PutFrom ts) (of_parts false ps) (of_body false b) h.1 k) in
    All-append (PutFrom ts) (things_in (signed_rule set ps b)) (mentioned (on_line line (head_rules heads b))) (signed_done set rule) (heads_done ts line heads b h.2 k)
  where
    signed_done : (set : Bool) → Hold (PutFrom ts) (of_rule role.Rule ps b) → All (PutFrom ts) (things_in (signed_rule set ps b))
    signed_done true rule = to_all (PutFrom ts) (of_rule role.Rule ps b) rule
    signed_done false rule = to_all (PutFrom ts) (of_rule role.Rule ps b) rule

rule_done : (ts : List Thing) (rules : List Access) → RulesHold (Contains ts) rules → (line mark depth : ℕ) (said : Said) (set : Bool) (ps : Parts) (b : Body) → Hold (Contains ts) (of_rule role.Rule ps b) → All (PutFrom ts) (mentioned (on_line line (put_rule (level rules mark depth) (in_rule said) set ps b)))
rule_done ts rules good line mark depth said set ps b h =
    let P = Contains ts in
    let Q = PutFrom ts in
    let l = level rules mark depth in
    let g = level_held rules (Stands ts) P Q (carries_from ts) mark depth good in
    let p = in_rule said in
    let heads = put_changes l p 0 (one_change set ps) in
    heads_done ts line heads.0 (put_body l p heads.1 b).0
    (changes_put (Stands ts) P Q l g p tt false false 0 (one_change set ps) (record { by = role.Rule; parts = ps; turned = refl; named = refl; there = h.0 }, front P (of_parts false ps) (of_body false b) h.1, tt))
    (comes.made (branches _) refl, body_put (Stands ts) P Q l g p tt false false heads.1 b (back P (of_parts false ps) (of_body false b) h.1).1)

said_done : (ts : List Thing) (rules : List Access) → RulesHold (Contains ts) rules → (line : ℕ) (said : Said) → All (Contains ts) (things_in said) → All (PutFrom ts) (mentioned (on_line line (put_said rules said)))
said_done ts rules good line (tree.topic n) h = All-append (PutFrom ts) (topic_line n ∷ []) [] (All-weaker (Contains ts) (PutFrom ts) comes.same (topic_line n ∷ []) h) (All-nil (PutFrom ts))
said_done ts rules good line (tree.rule ps b) h = rule_done ts rules good line (free_number (tree.rule ps b)) (length rules) (tree.rule ps b) true ps b (from_all (Contains ts) (of_rule role.Rule ps b) h)
said_done ts rules good line (tree.deny ps b) h = rule_done ts rules good line (free_number (tree.deny ps b)) (length rules) (tree.deny ps b) false ps b (from_all (Contains ts) (of_rule role.Rule ps b) h)
said_done ts rules good line (tree.access ps b) h = All-nil (PutFrom ts)
said_done ts rules good line (tree.global_variable ps) h =
    let P = Contains ts in
    let Q = PutFrom ts in
    let held = from_all P (thing (query role.Declared ps) (of_parts false ps)) h in
    let g = level_held [] (Stands ts) P Q (carries_from ts) 0 0 tt in
    All-append Q (things_in (tree.global_variable (stay ps))) []
    (to_all Q (thing (query role.Declared (stay ps)) (of_parts false (stay ps))) (comes.again role.Declared ps (stay ps) (sym (named (level [] 0 0) in_item 0 ps)) held.0, parts_put (Stands ts) P Q (level [] 0 0) g in_item tt false false 0 ps held.1))
    (All-nil Q)

items_done : (ts : List Thing) (rules : List Access) → RulesHold (Contains ts) rules → (is : List Item) → All (Contains ts) (mentioned is) → All (PutFrom ts) (mentioned (put_items rules is))
items_done ts rules good [] h = All-nil (PutFrom ts)
items_done ts rules good (i ∷ is) h =
    all_mentioned (PutFrom ts) (put_item rules i) (put_items rules is)
    (said_done ts rules good i.line i.said (all_front (Contains ts) (things_in i.said) (mentioned is) h)) (items_done ts rules good is (all_back (Contains ts) (things_in i.said) (mentioned is) h))

more_rules : (P : Thing → Type 0) (rs qs : List Access) → RulesHold P rs → RulesHold P qs → RulesHold P (rs ++ qs)
more_rules P [] qs h k = k
more_rules P (r ∷ rs) qs h k = (h.0, more_rules P rs qs h.1 k)

rules_held : (P : Thing → Type 0) (is : List Item) → All P (mentioned is) → RulesHold P (access_rules is)
rules_held P [] h = tt
rules_held P (i ∷ is) h =
    more_rules P (access_in i.said) (access_rules is) (here i.said (all_front P (things_in i.said) (mentioned is) h)) (rules_held P is (all_back P (things_in i.said) (mentioned is) h))
  where
    here : (said : Said) → All P (things_in said) → RulesHold P (access_in said)
    here (tree.topic n) k = tt
    here (tree.rule ps b) k = tt
    here (tree.deny ps b) k = tt
    here (tree.access ps b) k = ((back P (of_parts false ps) (of_body false b) (from_all P (of_rule role.Access ps b) k).1).1, tt)
    here (tree.global_variable ps) k = tt

pub mentions_put : (is : List Item) → MentionsArePut is
mentions_put is = items_done (mentioned is) (access_rules is) (rules_held (Contains (mentioned is)) is (All-contains_itself (mentioned is))) is (All-contains_itself (mentioned is))
