-- What a rewritten tree declares may be declared, and no query stands as a value where heads are plain, where that holds of what was read.
use Rattle.std.proofs.Common.{◌≡◌, ◌+◌, ℕ, List, [], ◌∷◌, ◌||◌, Bool, true, false, Option, Some, None, length, refl, sym, ◌∙◌, ap, subst}
use Rattle.std.specs.Prelude.{not}
use Rattle.std.specs.List.{All}
use Rattle.std.specs.Option.{is_some}
use Rattle.std.proofs.lemmas.Bool.{and_parts}
use Rattle.std.proofs.lemmas.List.Elements.{All-nil, All-cons, All-append}
use Rattle.dg_plain.specs.Items.{in_declaration, plain_said, topic_behind, plain_items}
use Rattle.dg_plain.specs.Left as heads
use Rattle.dg_plain.specs.Plain.{Setting, topic_value, new_in_value, plain_value, plain_values, plain_parts}
use Rattle.dg_base.specs.Heads.{name_of}
use Rattle.dg_base.specs.Mentions.{Thing, query, closure, Mentions, nothing, thing, closed, join, of_value, of_values, of_parts, of_said, things, things_in, mentioned}
use Rattle.dg_base.specs.Names.{builtin_named}
use Rattle.dg_base.specs.Tree as tree
use Rattle.dg_base.specs.Tree.{Parts, Value, Values, Body, Changes, Said, Item}
use Rattle.dg_base.specs.declared.mentions.Role.TheVariants as role
use Rattle.dg_base.specs.declared.names.Builtin.{Builtin}
use Rattle.dg_core.specs.Given.{IsSet, AreSet, MayStart, is_unset}
use Rattle.dg_core.specs.Matches.{IsPlain, ArePlain}
use Rattle.dg_core.specs.Places.{head_values}
use Rattle.dg_items.specs.Expanded.{signed_rule, head_rules, stay, put_said, on_line, put_item, put_items}
use Rattle.dg_put.specs.Put.{Access, Level, in_item, level, put_value, put_values, put_parts}
use Rattle.dg_reader.specs.Declarations.{is_star, begins_with_topic, IsDeclaration, AreDeclarations}
use Rattle.dg_reader.specs.Heads.{has_value, is_constant, are_constants, is_start, has_one_start}
use Rattle.dg_reader.specs.Read.{is_topic}
use Rattle.dg_compile.proofs.Never.{never}

-- what an item declares isn't built in, and has one value, which may be declared
pub record IsStart (ps : Parts) : Type 0 where
  pub other : builtin_named (name_of ps) ≡ None
  pub one : length (head_values ps) ≡ 1
  pub value : MayStart (head_values ps)

abbrev pub IsDeclared : Said → Type 0
IsDeclared (tree.global_variable ps) = IsStart ps
IsDeclared said = Unit {0}

abbrev pub AreDeclared : List Item → Type 0
AreDeclared is = All (λ (i : Item). IsDeclared i.said) is

abbrev HasTopic : Option (List ℕ) → Type 0
HasTopic t = is_some t ≡ true

-- a head keeps its name, with plain values and where it stays
pub record KeepsNames : Type 0 where
  pub plain : (c : Setting) (n : ℕ) (ps : Parts) → name_of (plain_parts c n ps) ≡ name_of ps
  pub stay : (ps : Parts) → name_of (stay ps) ≡ name_of ps

-- ---- the values of what is declared: no query stands in them where heads are plain, and they may be declared with access rules put in

join_plain : (a b : Mentions) → ArePlain a → ArePlain b → ArePlain (join a b)
join_plain nothing b h k = k
join_plain (thing t ms) b h k = (h.0, join_plain ms b h.1 k)
join_plain (closed inner ms) b h k = (h.0, join_plain ms b h.1 k)

mutual
  constant_stays : (c : Setting) (l : Level) (n m : ℕ) (v : Value) → is_constant v ≡ true → IsSet (put_value l in_item m (plain_value c n v)).0 × ArePlain (of_value false (plain_value c n v))
  constant_stays c l n m (tree.num k) e = (tt, (tt, tt))
  constant_stays c l n m (tree.dict_word w) e = (tt, (tt, tt))
  constant_stays c l n m (tree.object_name w) e = (tt, (tt, tt))
  constant_stays c l n m (tree.plain_list vs) e = let each = constants_stay c l n m vs e in (each.0, (tt, each.1))
  constant_stays c l n m v e = never e

  constants_stay : (c : Setting) (l : Level) (n m : ℕ) (vs : Values) → are_constants vs ≡ true → AreSet (put_values l in_item m (plain_values c n vs)).0 × ArePlain (of_values false (plain_values c n vs))
  constants_stay c l n m tree.no_values e = (tt, tt)
  constants_stay c l n m (tree.value v vs) e =
      let each = and_parts (is_constant v) (are_constants vs) e in
      let first = constant_stays c l n m v each.0 in
      let rest = constants_stay c l (n + new_in_value v) (put_value l in_item m (plain_value c n v)).1 vs each.1 in
      ((first.0, rest.0), join_plain (of_value false (plain_value c n v)) _ first.1 rest.1)

topic_set : (t : Option (List ℕ)) (l : Level) (m : ℕ) → HasTopic t → IsSet (put_value l in_item m (topic_value t)).0 × ArePlain (of_value false (topic_value t))
topic_set None l m h = never h
topic_set (Some n) l m h = (tt, (tt, tt))

-- the first value may be declared or is unset
abbrev Starts : Option (List ℕ) → Said → Level → ℕ → ℕ → Value → Type 0
Starts t said l n m v =
    let made = plain_value (in_declaration t said) n v in (is_unset (put_value l in_item m made).0 ≡ false → IsSet (put_value l in_item m made).0) × ArePlain (of_value false made)

start_stays : (t : Option (List ℕ)) (said : Said) (l : Level) (n m : ℕ) (v : Value) → is_start v ≡ true → (is_star v ≡ true → HasTopic t) → Starts t said l n m v
start_stays t said l n m tree.current_topic e has = let both = topic_set t l m (has refl) in (λ u. both.0, both.1)
start_stays t said l n m tree.anonymous e has = (λ u. never (sym u), (tt, tt))
start_stays t said l n m v e has = let both = constant_stays (in_declaration t said) l n m v e in (λ u. both.0, both.1)

no_values : (c : Setting) (l : Level) (n m : ℕ) (ps : Parts) → not (has_value ps) ≡ true → (head_values (put_parts l in_item m (plain_parts c n ps)).0 ≡ []) × ArePlain (of_parts false (plain_parts c n ps))
no_values c l n m tree.no_parts e = (refl, tt)
no_values c l n m (tree.part (tree.part_word w) ps) e = no_values c l (n + 0) m ps e
no_values c l n m (tree.part (tree.part_value v) ps) e = never e

-- one value stands among parts, which may be declared once access rules are put in, and no query
record HasStart (l : Level) (m : ℕ) (ps : Parts) : Type 0 where
  one : length (head_values (put_parts l in_item m ps).0) ≡ 1
  value : MayStart (head_values (put_parts l in_item m ps).0)
  plain : ArePlain (of_parts false ps)

one_start : (t : Option (List ℕ)) (said : Said) (l : Level) (n m : ℕ) (ps : Parts) → has_one_start ps ≡ true → (begins_with_topic ps ≡ true → HasTopic t) → HasStart l m (plain_parts (in_declaration t said) n ps)
one_start t said l n m tree.no_parts e has = never e
one_start t said l n m (tree.part (tree.part_word w) ps) e has = let h = one_start t said l (n + 0) m ps e has in record { one = h.one; value = h.value; plain = h.plain }
one_start t said l n m (tree.part (tree.part_value v) ps) e has =
    let each = and_parts (not (has_value ps)) (is_start v) e in
    let first = start_stays t said l n m v each.1 has in
    let a = put_value l in_item m (plain_value (in_declaration t said) n v) in
    let rest = no_values (in_declaration t said) l (n + new_in_value v) a.1 ps each.0 in
    record {
      one = ap (λ (vs : List Value). length (a.0 ∷ vs)) rest.0;
      value = first.0;
      plain = join_plain (of_value false (plain_value (in_declaration t said) n v)) _ first.1 rest.1;
    }

-- ---- items

not_built_in : (o : Option Builtin) → not (is_some o) ≡ true → o ≡ None
not_built_in (Some b) e = never e
not_built_in None e = refl

declared_stays : KeepsNames → (t : Option (List ℕ)) (said : Said) (ps : Parts) (before : Bool) → (before ≡ true → HasTopic t) → IsDeclaration before (tree.global_variable ps) → IsStart (stay (plain_parts (in_declaration t said) 0 ps))
declared_stays keeps t said ps before has h =
    let c = in_declaration t said in
    let each = and_parts (not (is_some (builtin_named (name_of ps)))) (has_one_start ps) h.0 in
    let start = one_start t said (level [] 0 0) 0 0 ps each.1 (λ e. has (h.1 e)) in
    record {
      other = ap builtin_named (keeps.stay (plain_parts c 0 ps) ∙ keeps.plain c 0 ps) ∙ not_built_in (builtin_named (name_of ps)) each.0;
      one = start.one;
      value = start.value;
    }

signed_declares : (set : Bool) (ps : Parts) (b : Body) → IsDeclared (signed_rule set ps b)
signed_declares true ps b = tt
signed_declares false ps b = tt

rules_declare : (line : ℕ) (heads : Changes) (b : Body) → AreDeclared (on_line line (head_rules heads b))
rules_declare line tree.no_changes b = All-nil (λ (i : Item). IsDeclared i.said)
rules_declare line (tree.change ps set heads) b =
    All-cons (λ (i : Item). IsDeclared i.said) (record { line = line; said = signed_rule set ps b }) (on_line line (head_rules heads b)) (signed_declares set ps b) (rules_declare line heads b)

one_declares : (line : ℕ) (said : Said) → IsDeclared said → AreDeclared (on_line line (said ∷ []))
one_declares line said h = All-cons (λ (i : Item). IsDeclared i.said) (record { line = line; said = said }) [] h (All-nil (λ (i : Item). IsDeclared i.said))

said_declares : KeepsNames → (rules : List Access) (t : Option (List ℕ)) (before : Bool) (line : ℕ) (said : Said) → (before ≡ true → HasTopic t) → IsDeclaration before said → AreDeclared (on_line line (put_said rules (plain_said t said)))
said_declares keeps rules t before line (tree.topic n) has h = one_declares line (tree.topic n) tt
said_declares keeps rules t before line (tree.rule ps b) has h = rules_declare line _ _
said_declares keeps rules t before line (tree.deny ps b) has h = rules_declare line _ _
said_declares keeps rules t before line (tree.access ps b) has h = All-nil (λ (i : Item). IsDeclared i.said)
said_declares keeps rules t before line (tree.global_variable ps) has h = one_declares line (tree.global_variable _) (declared_stays keeps t (tree.global_variable ps) ps before has h)

no_more : (b : Bool) → (b || false) ≡ true → b ≡ true
no_more true e = refl
no_more false e = e

topic_stays : (t : Option (List ℕ)) (before : Bool) (said : Said) → (before ≡ true → HasTopic t) → (before || is_topic said) ≡ true → HasTopic (topic_behind t said)
topic_stays t before (tree.topic n) has e = refl
topic_stays t before (tree.rule ps b) has e = has (no_more before e)
topic_stays t before (tree.deny ps b) has e = has (no_more before e)
topic_stays t before (tree.access ps b) has e = has (no_more before e)
topic_stays t before (tree.global_variable ps) has e = has (no_more before e)

items_declare : KeepsNames → (rules : List Access) (t : Option (List ℕ)) (before : Bool) (is : List Item) → (before ≡ true → HasTopic t) → AreDeclarations before is → AreDeclared (put_items rules (plain_items t is))
items_declare keeps rules t before [] has h = All-nil (λ (i : Item). IsDeclared i.said)
items_declare keeps rules t before (i ∷ is) has h =
    All-append (λ (j : Item). IsDeclared j.said) (put_item rules (record { line = i.line; said = plain_said t i.said })) (put_items rules (plain_items (topic_behind t i.said) is))
    (said_declares keeps rules t before i.line i.said has h.0)
    (items_declare keeps rules (topic_behind t i.said) (before || is_topic i.said) is (topic_stays t before i.said has) h.1)

pub all_declared : KeepsNames → (rules : List Access) (is : List Item) → AreDeclarations false is → AreDeclared (put_items rules (plain_items None is))
all_declared keeps rules is = items_declare keeps rules None false is (λ e. never e)

-- ---- no query stands as a value

things_plain : (ms : Mentions) → ArePlain ms → All IsPlain (things ms)
things_plain nothing h = All-nil IsPlain
things_plain (thing t ms) h = All-cons IsPlain t (things ms) h.0 (things_plain ms h.1)
things_plain (closed inner ms) h = All-cons IsPlain closure _ tt (All-append IsPlain (things inner) (things ms) (things_plain inner h.0) (things_plain ms h.1))

none_nested : (behind : Bool) (t : Thing) → heads.is_left false behind t ≡ false → IsPlain t
none_nested behind (query role.Nested ps) e = never (sym e)
none_nested behind t e = tt

said_plain : (t : Option (List ℕ)) (before : Bool) (said : Said) → (before ≡ true → HasTopic t) → IsDeclaration before said → heads.IsPlainSaid t (plain_said t said) → All IsPlain (things_in (plain_said t said))
said_plain t before (tree.global_variable ps) has d h =
    let start = one_start t (tree.global_variable ps) (level [] 0 0) 0 0 ps (and_parts (not (is_some (builtin_named (name_of ps)))) (has_one_start ps) d.0).1 (λ e. has (d.1 e)) in
    things_plain (of_said (plain_said t (tree.global_variable ps))) (tt, start.plain)
said_plain t before (tree.topic n) has d h = λ k e lt. none_nested (is_some t) _ (h k e lt)
said_plain t before (tree.rule ps b) has d h = λ k e lt. none_nested (is_some t) _ (h k e lt)
said_plain t before (tree.deny ps b) has d h = λ k e lt. none_nested (is_some t) _ (h k e lt)
said_plain t before (tree.access ps b) has d h = λ k e lt. none_nested (is_some t) _ (h k e lt)

same_topic : (t : Option (List ℕ)) (said : Said) → topic_behind t (plain_said t said) ≡ topic_behind t said
same_topic t (tree.topic n) = refl
same_topic t (tree.rule ps b) = refl
same_topic t (tree.deny ps b) = refl
same_topic t (tree.access ps b) = refl
same_topic t (tree.global_variable ps) = refl

items_plain : (t : Option (List ℕ)) (before : Bool) (is : List Item) → (before ≡ true → HasTopic t) → AreDeclarations before is → heads.ArePlain t (plain_items t is) → All IsPlain (mentioned (plain_items t is))
items_plain t before [] has d h = All-nil IsPlain
items_plain t before (i ∷ is) has d h =
    let behind = plain_items (topic_behind t i.said) is in
    All-append IsPlain (things_in (plain_said t i.said)) (mentioned behind) (said_plain t before i.said has d.0 h.0)
    (items_plain (topic_behind t i.said) (before || is_topic i.said) is (topic_stays t before i.said has) d.1 (subst (λ (u : Option (List ℕ)). heads.ArePlain u behind) (same_topic t i.said) h.1))

pub heads_plain : (is : List Item) → AreDeclarations false is → heads.IsPlain (plain_items None is) → All IsPlain (mentioned (plain_items None is))
heads_plain is d h = items_plain None false is (λ e. never e) d h
