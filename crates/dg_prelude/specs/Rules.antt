-- The prelude as a tree, with the lines of its text in docs/LANGUAGE.md, "The prelude". Hold it against that text, form by form.
use Rattle.std.specs.Prelude.{ℕ, List, [], ◌∷◌, codes}
use Rattle.dg_base.specs.Tree.{Part, part_word, part_value, Parts, no_parts, part, Value, variable, anonymous, plain_list, tailed_list, no_values, value, Stmt, ask, ask_all, choice_else, no_stmts, stmt, Body, no_branches, branch, no_arms, arm, Item, rule, parts_of}

-- A word, and a variable, in a place.
abbrev pub word : List ℕ → Part
word w = part_word w

abbrev pub var : List ℕ → Part
var w = part_value (variable w)

-- The empty list, and [HEAD | TAIL].
abbrev pub empty : Part
empty = part_value (plain_list no_values)

abbrev pub list : Value → Value → Part
list head tail = part_value (tailed_list (value head no_values) tail)

-- A body without statements, and one of one statement.
abbrev pub nothing : Body
nothing = branch no_stmts no_branches

abbrev pub only : Stmt → Body
only s = branch (stmt s no_stmts) no_branches

-- A rule that begins on a line.
abbrev pub rule_on : ℕ → List Part → Body → Item
rule_on line head body = record { line = line; said = rule (parts_of head) body }

-- (append [] $B $B)
abbrev pub append_nothing : Item
append_nothing = rule_on 1 (word (codes "append") ∷ empty ∷ var (codes "B") ∷ var (codes "B") ∷ []) nothing

-- (append [$H | $T] $B [$H | $R]) *(append $T $B $R)
abbrev pub append_more : Item
append_more =
    rule_on 2
    (word (codes "append") ∷ list (variable (codes "H")) (variable (codes "T")) ∷ var (codes "B") ∷
    list (variable (codes "H")) (variable (codes "R")) ∷ [])
    (only (ask_all (parts_of (word (codes "append") ∷ var (codes "T") ∷ var (codes "B") ∷ var (codes "R") ∷ []))))

-- ($X is one of PLACE)
abbrev pub among : Part → List Part
among place = var (codes "X") ∷ word (codes "is") ∷ word (codes "one") ∷ word (codes "of") ∷ place ∷ []

-- ($X is one of [$X | $])
abbrev pub among_first : Item
among_first = rule_on 4 (among (list (variable (codes "X")) anonymous)) nothing

-- ($X is one of [$ | $T]) *($X is one of $T)
abbrev pub among_others : Item
among_others = rule_on 5 (among (list anonymous (variable (codes "T")))) (only (ask_all (parts_of (among (var (codes "T"))))))

-- (split key $H in $K)
abbrev pub key_head : List Part
key_head = word (codes "split") ∷ word (codes "key") ∷ var (codes "H") ∷ word (codes "in") ∷ var (codes "K") ∷ []

-- (if) (nonempty $K) (then) ($H is one of $K) (else) ($H = $K) (endif)
abbrev pub key_test : Stmt
key_test =
    choice_else
    (arm
    (only (ask (parts_of (word (codes "nonempty") ∷ var (codes "K") ∷ []))))
    (only (ask (parts_of (var (codes "H") ∷ word (codes "is") ∷ word (codes "one") ∷ word (codes "of") ∷ var (codes "K") ∷ []))))
    no_arms)
    (only (ask (parts_of (var (codes "H") ∷ word (codes "=") ∷ var (codes "K") ∷ []))))

-- (split key $H in $K) with that choice
abbrev pub key_rule : Item
key_rule = rule_on 7 key_head (only key_test)

-- (split [$H | $T] by $K into FIRST and SECOND)
abbrev pub split_head : Part → Part → List Part
split_head first second =
    word (codes "split") ∷ list (variable (codes "H")) (variable (codes "T")) ∷ word (codes "by") ∷ var (codes "K")
    ∷ word (codes "into") ∷ first ∷ word (codes "and") ∷ second ∷ []

-- (split [$H | $T] by $K into [] and $T) (split key $H in $K)
abbrev pub split_here : Item
split_here = rule_on 9 (split_head empty (var (codes "T"))) (only (ask (parts_of key_head)))

-- (split $T by $K into $L and $R)
abbrev pub split_rest : List Part
split_rest =
    word (codes "split") ∷ var (codes "T") ∷ word (codes "by") ∷ var (codes "K")
    ∷ word (codes "into") ∷ var (codes "L") ∷ word (codes "and") ∷ var (codes "R") ∷ []

-- (split [$H | $T] by $K into [$H | $L] and $R) *(split $T by $K into $L and $R)
abbrev pub split_later : Item
split_later = rule_on 11 (split_head (list (variable (codes "H")) (variable (codes "L"))) (var (codes "R"))) (only (ask_all (parts_of split_rest)))

-- All of them, in order.
abbrev pub prelude_rules : List Item
prelude_rules = append_nothing ∷ append_more ∷ among_first ∷ among_others ∷ key_rule ∷ split_here ∷ split_later ∷ []
