-- What the prelude mentions is ready for a program, and its names behind those of a source.
use Rattle.std.proofs.Common.{◌≡◌, ◌<◌, ◌≤◌, ◌+◌, ℕ, List, [], ◌∷◌, ◌++◌, Bool, true, false, ◌||◌, Option, Some, None, Bor, Vec, Global, length, length-append, map, get_or, drop, refl, sym, ◌∙◌, ap, subst, arith, append_assoc}
use Rattle.std.specs.Prelude.{if◌then◌else◌}
use Rattle.std.specs.List.{All, Contains, list_all, list_any}
use Rattle.std.specs.Option.{is_some}
use Rattle.std.specs.Str.{bytes_eq}
use Rattle.std.specs.Cmp.Lexicographic.{bytes_decides}
use Rattle.std.proofs.lemmas.Bool.{and_parts}
use Rattle.std.proofs.lemmas.List.{drop_more, length-map}
use Rattle.std.proofs.lemmas.List.Elements.{All-nil, All-cons, All-append, Contains-append_right}
use Rattle.dg_scopes.specs.Few.{HasFewVariables, SmallAreFew}
use Rattle.dg_plain.specs.Items.{plain_items}
use Rattle.dg_base.specs.Heads.{name_of}
use Rattle.dg_base.specs.Mentions.{Thing, query, variable, other, branches, things_in, mentioned, names_in}
use Rattle.dg_base.specs.Names.{prelude_names, name_among, builtin_named}
use Rattle.dg_base.specs.Tree.{Said, global_variable, Item}
use Rattle.dg_base.specs.declared.mentions.Role.TheVariants as role
use Rattle.dg_base.specs.declared.names.Builtin.{Builtin}
use Rattle.dg_core.specs.Given.{closures_among}
use Rattle.dg_names.specs.Among.{HasPred}
use Rattle.dg_names.specs.Counts.{is_rule}
use Rattle.dg_names.specs.Named.{Named, firsts, predicate_in, names_of}
use Rattle.dg_names.specs.Scopes.{with_name, with_names}
use Rattle.dg_prelude.specs.Rules.{prelude_rules}
use Rattle.dg_compile.specs.Source.{all_names}
use Rattle.dg_compile.proofs.DeclareLemmas.{IsDeclared, AreDeclared}
use Rattle.dg_compile.proofs.FewLemmas.{IsReady}
use Rattle.dg_compile.proofs.Never.{never}

-- what passes a test that decides this
pub from_test : {A : Type 0} (P : A → Type 0) (test : A → Bool) → ((x : A) → test x ≡ true → P x) → (xs : List A) → list_all test xs ≡ true → All P xs
from_test P test each [] e = All-nil P
from_test P test each (x ∷ xs) e =
    let parts = and_parts (test x) (list_all test xs) e in
    All-cons P x xs (each x parts.0) (from_test P test each xs parts.1)

pub four_names : length prelude_names ≡ 4
four_names = refl

-- ---- what is mentioned

-- a query of a built-in predicate or of one of the prelude that is no change and no value, or what says nothing of names
abbrev is_ours : Thing → Bool
is_ours (query (role.Changed set) ps) = false
is_ours (query role.Nested ps) = false
is_ours (query r ps) = is_some (builtin_named (name_of ps)) || name_among (name_of ps) prelude_names
is_ours (variable n) = true
is_ours (other form) = true
is_ours (branches n) = true
is_ours t = false

named_there : (n : List ℕ) (ns : List (List ℕ)) → name_among n ns ≡ true → Contains ns n
named_there n [] e = never e
named_there n (m ∷ ns) e = here (bytes_eq m n) refl e (λ k. named_there n ns k)
  where
    here : (b : Bool) → bytes_eq m n ≡ b → (b || name_among n ns) ≡ true → (name_among n ns ≡ true → Contains ns n) → Contains (m ∷ ns) n
    here true q k rest = (0, omega arith, (bytes_decides m n).0 q)
    here false q k rest = Contains-append_right (m ∷ []) ns n (rest k)

pred_among : (d : Named) (n : List ℕ) (o : Option Builtin) → (Contains prelude_names n → Contains d.preds n) → (is_some o || name_among n prelude_names) ≡ true → HasPred d n o
pred_among d n (Some b) h e = tt
pred_among d n None h e = h (named_there n prelude_names e)

ours_ready : (d : Named) → ((n : List ℕ) → Contains prelude_names n → Contains d.preds n) → (t : Thing) → is_ours t ≡ true → IsReady d t
ours_ready d h (query (role.Changed set) ps) e = never e
ours_ready d h (query role.Nested ps) e = never e
ours_ready d h (query r ps) e = record { among = pred_among d (name_of ps) (builtin_named (name_of ps)) (h (name_of ps)) e; select = tt; plain = tt; changeable = tt }
ours_ready d h (variable n) e = record { among = tt; select = tt; plain = tt; changeable = tt }
ours_ready d h (other form) e = record { among = tt; select = tt; plain = tt; changeable = tt }
ours_ready d h (branches n) e = record { among = tt; select = tt; plain = tt; changeable = tt }
ours_ready d h t e = never e

abbrev pub prelude_items : List Item
prelude_items = plain_items None prelude_rules

all_ours : list_all is_ours (mentioned prelude_items) ≡ true
all_ours = refl

pub prelude_ready : (d : Named) → ((n : List ℕ) → Contains prelude_names n → Contains d.preds n) → All (IsReady d) (mentioned prelude_items)
prelude_ready d h = from_test (IsReady d) is_ours (ours_ready d h) (mentioned prelude_items) all_ours

-- ---- its rules

pub prelude_few : ((is : List Item) → SmallAreFew is) → All (λ (i : Item). HasFewVariables i.said) prelude_items
prelude_few law = law prelude_items refl

pub no_closures : closures_among prelude_items ≡ 0
no_closures = refl

rule_declares : (i : Item) → is_rule i.said ≡ true → IsDeclared i.said
rule_declares i e = here i.said e
  where
    here : (said : Said) → is_rule said ≡ true → IsDeclared said
    here (global_variable ps) k = never k
    here said k = tt

pub prelude_declares : AreDeclared prelude_items
prelude_declares = from_test (λ (i : Item). IsDeclared i.said) (λ (i : Item). is_rule i.said) rule_declares prelude_items refl

-- ---- the names of a program

pub name_next : (ks ns : List (List ℕ)) (all : List (Bor (List ℕ))) (k : ℕ) (d : Bor (List ℕ)) (n : List ℕ) → k < length all → n ≡ (get_or all k d).now → ns ≡ with_name ks n → with_names ns (map (λ (m : Bor (List ℕ)). m.now) (drop (k + 1) all)) ≡ with_names ks (map (λ (m : Bor (List ℕ)). m.now) (drop k all))
name_next ks ns all k d n lt is e =
    ap (λ (l : List (List ℕ)). with_names l (map (λ (m : Bor (List ℕ)). m.now) (drop (k + 1) all))) (e ∙ ap (with_name ks) is)
    ∙ ap (λ (l : List (Bor (List ℕ))). with_names ks (map (λ (m : Bor (List ℕ)). m.now) l)) (sym (drop_more all k d lt))

abbrev pub grown : Named → Named
grown d = record d { preds = with_names d.preds prelude_names }

pub grown_is : ((names more : List (List ℕ)) → with_names (firsts names) more ≡ firsts (names ++ more)) → (d : Named) (items : List Item) → d ≡ names_of items → grown d ≡ all_names items
grown_is law d items e =
    ap grown e
    ∙ ap (λ (ns : List (List ℕ)). record (names_of items) { preds = ns }) (law (names_in predicate_in (mentioned items)) prelude_names)

more_if : (n : List ℕ) (ks : List (List ℕ)) (b : Bool) → length (if b then ks else ks ++ n ∷ []) ≤ length ks + 1
more_if n ks true = omega arith
more_if n ks false = omega (arith, length-append ks (n ∷ []))

pub few_more : (ks ns : List (List ℕ)) → length (with_names ks ns) ≤ length ks + length ns
few_more ks [] = omega arith
few_more ks (n ∷ ns) = omega (arith, few_more (with_name ks n) ns, more_if n ks (list_any (bytes_eq n) ks))

-- a set to which no more than four names were added
pub few_listed : (new : List (Vec ℕ Global)) (old ns : List (List ℕ)) → map (λ (n : Vec ℕ Global). n.items) new ≡ with_names old ns → length ns ≤ 4 → length old ≤ 4000 → length new ≤ 65535
few_listed new old ns e four few = omega (arith, few_more old ns, four, few, ap length e, length-map new (λ (n : Vec ℕ Global). n.items))

pub four : length prelude_names ≤ 4
four = omega (arith, four_names)

-- ---- behind a source

pub mentioned_append : (a b : List Item) → mentioned (a ++ b) ≡ mentioned a ++ mentioned b
mentioned_append [] b = refl
mentioned_append (i ∷ a) b = ap (λ (l : List Thing). things_in i.said ++ l) (mentioned_append a b) ∙ sym (append_assoc (things_in i.said) (mentioned a) (mentioned b))

-- what holds of all that two trees mention
pub all_mentioned : (P : Thing → Type 0) (a b : List Item) → All P (mentioned a) → All P (mentioned b) → All P (mentioned (a ++ b))
all_mentioned P a b h k = subst (All P) (sym (mentioned_append a b)) (All-append P (mentioned a) (mentioned b) h k)
