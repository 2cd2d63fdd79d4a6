-- What is declared may be, where items are read.
use Rattle.std.proofs.Common.{◌≡◌, List, [], ◌∷◌, ◌||◌, ◌&&◌, Bool, true, false, Option, Some, None, refl, sym, ap, subst}
use Rattle.std.specs.Prelude.{if◌then◌else◌, not, unwrap_or}
use Rattle.std.specs.List.{list_any}
use Rattle.std.proofs.lemmas.Bool.{and_parts}
use Rattle.dg_base.specs.Heads.{name_of}
use Rattle.dg_base.specs.Mentions.{Mentions, nothing, join, of_nested, of_body, things}
use Rattle.dg_base.specs.Tree as tree
use Rattle.dg_base.specs.Tree.{Part, Parts, Body, Said, Item}
use Rattle.dg_base.specs.declared.refusal.Kind.TheVariants.{NotInProfile, BadHead}
use Rattle.dg_lex.specs.Tokens.{Seen}
use Rattle.dg_reader.specs.Declarations.{begins_with_topic, IsDeclaration, AreDeclarations}
use Rattle.dg_open.specs.Shapes.{Shape, topic_line, clause, plain_rule, negated, access_rule}
use Rattle.dg_reader.specs.Grammar.{is_declaration}
use Rattle.dg_reader.specs.Heads.{is_reserved, is_unsigned, is_empty_body, declared_query, declares_query, keeps_declaration_rules, queries_have_values, keeps_access_rules, keeps_own_rules, keeps_rules, keeps_topic_rule, fault_of}
use Rattle.dg_reader.specs.Profile as profile
use Rattle.dg_reader.specs.Profile.{has_refused, has_topic}
use Rattle.dg_reader.specs.Read.{declared, said_of, item_fault, is_topic, ReadTo}

-- ---- one declaration

allowed : (before : Bool) (said : Said) → fault_of before said ≡ None → (keeps_topic_rule before said ≡ true) × (keeps_rules said ≡ true)
allowed before said h = and_parts (keeps_topic_rule before said) (keeps_rules said) (here (has_refused said) (keeps_topic_rule before said && keeps_rules said) h)
  where
    here : (a b : Bool) → (if a then Some NotInProfile else if b then None else Some BadHead) ≡ None → b ≡ true
    here true b e = cc
    here false true e = refl
    here false false e = cc

-- a `*` with which a query begins is mentioned
begun : (qs : Parts) (after : Mentions) → begins_with_topic qs ≡ true → list_any profile.is_topic (things (join (join (of_nested false qs) nothing) after)) ≡ true
begun tree.no_parts after e = cc
begun (tree.part (tree.part_word w) qs) after e = begun qs after e
begun (tree.part (tree.part_value tree.current_topic) qs) after e = refl
begun (tree.part (tree.part_value v) qs) after e = cc

-- the query of a declaration is the third of three parts
record Declares (ps qs : Parts) : Type 0 where
  first : Part
  second : Part
  is : ps ≡ tree.part first (tree.part second (tree.part (tree.part_value (tree.nested qs)) tree.no_parts))

declares : (ps qs : Parts) → declared_query ps ≡ Some qs → Declares ps qs
declares tree.no_parts qs e = cc
declares (tree.part p tree.no_parts) qs e = cc
declares (tree.part p (tree.part q tree.no_parts)) qs e = cc
declares (tree.part p (tree.part q (tree.part (tree.part_value (tree.nested rs)) tree.no_parts))) qs e =
    record { first = p; second = q; is = ap (λ (x : Parts). tree.part p (tree.part q (tree.part (tree.part_value (tree.nested x)) tree.no_parts))) (some_is rs qs e) }
  where
    some_is : (x y : Parts) → Some x ≡ Some y → x ≡ y
    some_is x y e = cc
declares (tree.part p (tree.part q (tree.part (tree.part_word w) tree.no_parts))) qs e = cc
declares (tree.part p (tree.part q (tree.part (tree.part_value v) tree.no_parts))) qs e = cc
declares (tree.part p (tree.part q (tree.part r (tree.part s ps)))) qs e = cc

never : {A : Type 0} → false ≡ true → A
never e = cc

words_begin : (p q : Part) (qs : Parts) (b : Body) → is_declaration (tree.part p (tree.part q (tree.part (tree.part_value (tree.nested qs)) tree.no_parts))) ≡ true → begins_with_topic qs ≡ true → has_topic (tree.rule (tree.part p (tree.part q (tree.part (tree.part_value (tree.nested qs)) tree.no_parts))) b) ≡ true
words_begin (tree.part_word w) (tree.part_word u) qs b d k = begun qs (of_body false b) k
words_begin (tree.part_word w) (tree.part_value v) qs b d k = never d
words_begin (tree.part_value v) q qs b d k = never d

query_begins : (ps qs : Parts) (b : Body) → is_declaration ps ≡ true → declared_query ps ≡ Some qs → begins_with_topic qs ≡ true → has_topic (tree.rule ps b) ≡ true
query_begins ps qs b d e k =
    let whole = declares ps qs e in
    subst (λ (x : Parts). has_topic (tree.rule x b) ≡ true) (sym whole.is)
    (words_begin whole.first whole.second qs b (subst (λ (x : Parts). is_declaration x ≡ true) whole.is d) k)

behind : (before has : Bool) → (before || not has) ≡ true → has ≡ true → before ≡ true
behind true has e k = refl
behind false true e k = cc
behind false false e k = cc

declaration_kept : (before : Bool) (ps : Parts) (b : Body) → is_declaration ps ≡ true → fault_of before (tree.rule ps b) ≡ None → IsDeclaration before (declared ps)
declaration_kept before ps b d h = here (declared_query ps) refl allows
  where
    both : (keeps_topic_rule before (tree.rule ps b) ≡ true) × (keeps_rules (tree.rule ps b) ≡ true)
    both = allowed before (tree.rule ps b) h

    own : keeps_own_rules plain_rule ps b ≡ true
    own = (and_parts (not (is_reserved (name_of ps))) (keeps_own_rules plain_rule ps b) both.1).1

    rules : keeps_declaration_rules plain_rule ps b ≡ true
    rules = subst (λ (x : Bool). (if x then keeps_declaration_rules plain_rule ps b else queries_have_values ps && keeps_access_rules plain_rule ps b) ≡ true) d own

    allows : declares_query (declared_query ps) ≡ true
    allows = (and_parts (is_unsigned plain_rule && is_empty_body b) (declares_query (declared_query ps)) rules).1

    here : (o : Option Parts) → declared_query ps ≡ o → declares_query o ≡ true → IsDeclaration before (tree.global_variable (unwrap_or o ps))
    here None e k = cc
    here (Some qs) e k = (k, λ begins. behind before (has_topic (tree.rule ps b)) both.0 (query_begins ps qs b d e begins))

-- ---- all of them

shape_kept : (before : Bool) (shape : Shape) → item_fault before shape ≡ None → IsDeclaration before (said_of shape)
shape_kept before (topic_line n) h = tt
shape_kept before (clause negated ps b) h = tt
shape_kept before (clause access_rule ps b) h = tt
shape_kept before (clause plain_rule ps b) h = here (is_declaration ps) refl
  where
    here : (d : Bool) → is_declaration ps ≡ d → IsDeclaration before (if d then declared ps else tree.rule ps b)
    here true e = declaration_kept before ps b e h
    here false e = tt

pub declarations_kept : (before : Bool) (ts : List Seen) (is : List Item) (rest : List Seen) → ReadTo before ts is rest → AreDeclarations before is
declarations_kept before ts [] rest h = tt
declarations_kept before ts (i ∷ is) rest h =
    (subst (λ (j : Item). IsDeclaration before j.said) (sym h.1.is) (shape_kept before h.1.shape h.1.allowed), declarations_kept (before || is_topic i.said) h.0 is rest h.2)
