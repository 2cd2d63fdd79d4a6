-- Worked examples of access rules that are put in.
use Rattle.std.specs.Prelude.{◌≡◌, ℕ, List, [], ◌∷◌, ◌++◌, codes, true, false, map}
use Rattle.std.proofs.Common.{refl}
use Rattle.dg_base.specs.Tree as tree
use Rattle.dg_base.specs.Tree.{Part, Parts, Value, Stmt, Body, parts_of, stmts_of, values_of}
use Rattle.dg_base.specs.Heads.{name_of}
use Rattle.dg_items.specs.Expanded.{put_rule}
use Rattle.dg_put.specs.Put.{Access, use_mark, copy_mark, in_item, in_rule, level, put_stmt, put_changes, one_change}

abbrev body_of : List Stmt → Body
body_of ss = tree.branch (stmts_of ss) tree.no_branches

abbrev rule_of : List Part → List Stmt → Access
rule_of ps ss = record { name = name_of (parts_of ps); head = parts_of ps; body = body_of ss }

-- `@($X is closed) ~($X is open)`
abbrev closed : List Access
closed =
    rule_of (tree.part_value (tree.variable (codes "X")) ∷ tree.part_word (codes "is") ∷ tree.part_word (codes "closed") ∷ [])
    (tree.ask_not (parts_of (tree.part_value (tree.variable (codes "X")) ∷ tree.part_word (codes "is") ∷ tree.part_word (codes "open") ∷ [])) ∷ []) ∷ []

abbrev lid_is : List ℕ → Parts
lid_is w = parts_of (tree.part_value (tree.object_name (codes "lid")) ∷ tree.part_word (codes "is") ∷ tree.part_word w ∷ [])

-- `(#lid is closed)` is the first answer of `~(#lid is open)`
closed_is_asked : put_stmt (level closed 0 1) in_item 0 (tree.ask (lid_is (codes "closed"))) ≡ (tree.first_answer (body_of (tree.ask_not (lid_is (codes "open")) ∷ [])), 1)
closed_is_asked = refl

-- `(now) (#lid is closed)` clears `(#lid is open)`
closed_is_set : put_changes (level closed 0 1) in_item 0 (one_change true (lid_is (codes "closed"))) ≡ (one_change false (lid_is (codes "open")), 1)
closed_is_set = refl

-- `(now) ~(#lid is closed)` sets it
closed_is_cleared : put_changes (level closed 0 1) in_item 0 (one_change false (lid_is (codes "closed"))) ≡ (one_change true (lid_is (codes "open")), 1)
closed_is_cleared = refl

-- `(q ..)` of values
abbrev ask : List ℕ → List Value → Parts
ask w [] = parts_of (tree.part_word w ∷ [])
ask w (v ∷ vs) = tree.part (tree.part_word w) (parts_of (map (λ (u : Value). tree.part_value u) (v ∷ vs)))

-- `@(a $X) (b $X $Y) ~(c $Y)`
abbrev two : List Access
two = record {
  name = codes "(a $)";
  head = ask (codes "a") (tree.variable (codes "X") ∷ []);
  body = body_of (tree.ask (ask (codes "b") (tree.variable (codes "X") ∷ tree.variable (codes "Y") ∷ [])) ∷ tree.ask_not (ask (codes "c") (tree.variable (codes "Y") ∷ [])) ∷ []);
} ∷ []

abbrev b_and_c : Value → List ℕ → Body
b_and_c v y = body_of (tree.ask (ask (codes "b") (v ∷ tree.variable y ∷ [])) ∷ tree.ask_not (ask (codes "c") (tree.variable y ∷ [])) ∷ [])

-- two uses of one rule share no variable, and `~(a 2)` is not the two together
uses_differ : put_stmt (level two 0 1) in_item 0 (tree.group (body_of (tree.ask_all (ask (codes "a") (tree.variable (codes "Y") ∷ [])) ∷ tree.ask_not (ask (codes "a") (tree.num 2 ∷ [])) ∷ [])))
    ≡ (tree.group (body_of (tree.group (b_and_c (tree.variable (codes "Y")) (use_mark 0 0 ++ codes "Y")) ∷ tree.not_group (b_and_c (tree.num 2) (use_mark 0 1 ++ codes "Y")) ∷ [])), 2)
uses_differ = refl

-- a head gives a rule for each query, a negated one for `~(c ..)`
heads_are_many : put_changes (level two 0 1) in_item 0 (one_change true (ask (codes "a") (tree.num 1 ∷ [])))
    ≡ (tree.change (ask (codes "b") (tree.num 1 ∷ tree.variable (use_mark 0 0 ++ codes "Y") ∷ [])) true (one_change false (ask (codes "c") (tree.variable (use_mark 0 0 ++ codes "Y") ∷ []))), 1)
heads_are_many = refl

-- several queries aren't cleared: `~(a 1)` stays as it stands
several_stay : put_changes (level two 0 1) in_item 0 (one_change false (ask (codes "a") (tree.num 1 ∷ []))) ≡ (one_change false (ask (codes "a") (tree.num 1 ∷ [])), 0)
several_stay = refl

-- `@(twice $C) (p $C $C)`: each copy of a closure has anonymous variables of its own
abbrev twice : List Access
twice = record {
  name = codes "(twice $)";
  head = ask (codes "twice") (tree.variable (codes "C") ∷ []);
  body = body_of (tree.ask (ask (codes "p") (tree.variable (codes "C") ∷ tree.variable (codes "C") ∷ [])) ∷ []);
} ∷ []

abbrev asks_r : List ℕ → Value
asks_r n = tree.closure (body_of (tree.ask (ask (codes "r") (tree.variable n ∷ tree.variable (codes "_") ∷ [])) ∷ []))

copies_differ : put_stmt (level twice 0 1) in_item 0 (tree.ask_all (ask (codes "twice") (asks_r (codes "$0") ∷ [])))
    ≡ (tree.group (body_of (tree.ask (ask (codes "p") (asks_r (copy_mark 1 ++ codes "$0") ∷ asks_r (copy_mark 2 ++ codes "$0") ∷ [])) ∷ [])), 3)
copies_differ = refl

-- `(h (twice {(r $ $_)}))`: what stands in the head and before the body is no copy's own
abbrev asks_twice : Body
asks_twice = body_of (tree.ask_all (ask (codes "twice") (asks_r (codes "$0") ∷ [])) ∷ [])

shared_stays : put_rule (level twice 0 1) (in_rule (tree.rule (ask (codes "h") (asks_r (codes "$0") ∷ [])) asks_twice)) true (ask (codes "h") (asks_r (codes "$0") ∷ [])) asks_twice
    ≡ tree.rule (ask (codes "h") (asks_r (codes "$0") ∷ [])) (body_of (tree.group (body_of (tree.ask (ask (codes "p") (asks_r (codes "$0") ∷ asks_r (codes "$0") ∷ [])) ∷ [])) ∷ [])) ∷ []
shared_stays = refl

-- `@(a $X) (b [$X $X])`, `@(b $X) (c [$X $X])`, `@(c $X) (end)`: what vanishes is not looked at
abbrev pair_of : Value → Value
pair_of v = tree.plain_list (values_of (v ∷ v ∷ []))

abbrev doubling : List ℕ → List ℕ → List ℕ → Access
doubling name w next = record {
  name = name;
  head = ask w (tree.variable (codes "X") ∷ []);
  body = body_of (tree.ask_all (ask next (pair_of (tree.variable (codes "X")) ∷ [])) ∷ []);
}

abbrev chain : List Access
chain = doubling (codes "(a $)") (codes "a") (codes "b") ∷ doubling (codes "(b $)") (codes "b") (codes "c") ∷ record {
  name = codes "(c $)";
  head = ask (codes "c") (tree.variable (codes "X") ∷ []);
  body = body_of (tree.ask_all (ask (codes "end") []) ∷ []);
} ∷ []

chain_vanishes : put_stmt (level chain 0 3) in_item 0 (tree.ask_all (ask (codes "a") (tree.num 1 ∷ [])))
    ≡ (tree.group (body_of (tree.group (body_of (tree.group (body_of (tree.ask_all (ask (codes "end") []) ∷ [])) ∷ [])) ∷ [])), 3)
chain_vanishes = refl
