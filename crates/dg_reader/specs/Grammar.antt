-- The written grammar: hold it against the chapters of the Dialog manual on rules, values, control, choosing and the world.
-- Each form is said of the front of some tokens: `ValueAt p v K ts` says that the tokens ts begin with the value v, and that K holds of those behind it.
use Rattle.std.specs.Prelude.{◌≡◌, ◌⊎◌, ◌&&◌, ◌+◌, ◌<◌, ℕ, length, take, List, [], ◌∷◌, ◌++◌, Bool, true, false, not, Option, Some, None, codes, if◌then◌else◌}
use Rattle.std.specs.Str.{bytes_eq}
use Rattle.dg_base.specs.Tree.{Part, part_word, part_value, Parts, no_parts, part, Value, num, dict_word, object_name, current_topic, anonymous, variable, plain_list, tailed_list, closure, nested, word_choice, Values, no_values, value, Stmt, text, print, ask, ask_all, ask_not, group, not_group, now, choice, choice_else, exhaust, stoppable, collect, accumulate, select, first_answer, Stmts, no_stmts, stmt, Body, no_branches, branch, Arms, no_arms, arm, Changes, no_changes, change}
use Rattle.dg_base.specs.declared.program.Mode.{Mode}
use Rattle.dg_base.specs.declared.program.Mode.TheVariants.{Stopping, Cycling, PurelyAtRandom, AtRandom, ThenAtRandom, ThenPurelyAtRandom}
use Rattle.dg_open.specs.Shapes.{Sign, plain_rule, negated, access_rule, Shape, topic_line, clause}
use Rattle.dg_reader.specs.Tokens.{Tok, word, dict, object, var, anon, at, open_round, close_round, open_square, close_square, open_brace, close_brace, bar, star, tilde, are_digits, digits_number, word_parts, is_choice}

-- ---- keywords

-- A parenthesis that is no query, without a value in it.
pub data Bare : Type 0 where
  now_word : Bare
  if_word : Bare
  then_word : Bare
  elseif_word : Bare
  else_word : Bare
  endif_word : Bare
  or_word : Bare
  exhaust_word : Bare
  stoppable_word : Bare
  select_word : Bare
  end_word : Mode → Bare

-- A parenthesis that is no query.
pub data Keyword : Type 0 where
  bare : Bare → Keyword
  collect_word : Value → Keyword
  accumulate_word : Value → Keyword
  into_word : Value → Keyword

-- The words that end a choosing of this kind.
abbrev pub end_words : Mode → List (List ℕ)
end_words Stopping = codes "stopping" ∷ []
end_words Cycling = codes "cycling" ∷ []
end_words AtRandom = codes "at" ∷ codes "random" ∷ []
end_words PurelyAtRandom = codes "purely" ∷ codes "at" ∷ codes "random" ∷ []
end_words ThenAtRandom = codes "then" ∷ codes "at" ∷ codes "random" ∷ []
end_words ThenPurelyAtRandom = codes "then" ∷ codes "purely" ∷ codes "at" ∷ codes "random" ∷ []

-- The words of a keyword.
abbrev pub keyword_words : Bare → List (List ℕ)
keyword_words now_word = codes "now" ∷ []
keyword_words if_word = codes "if" ∷ []
keyword_words then_word = codes "then" ∷ []
keyword_words elseif_word = codes "elseif" ∷ []
keyword_words else_word = codes "else" ∷ []
keyword_words endif_word = codes "endif" ∷ []
keyword_words or_word = codes "or" ∷ []
keyword_words exhaust_word = codes "exhaust" ∷ []
keyword_words stoppable_word = codes "stoppable" ∷ []
keyword_words select_word = codes "select" ∷ []
keyword_words (end_word mode) = end_words mode

-- The keywords without a value.
abbrev pub bare_keywords : List Bare
bare_keywords = now_word ∷ if_word ∷ then_word ∷ elseif_word ∷ else_word ∷ endif_word ∷ or_word ∷ exhaust_word ∷
    stoppable_word ∷ select_word ∷ end_word Stopping ∷ end_word Cycling ∷ end_word AtRandom ∷ end_word PurelyAtRandom ∷
    end_word ThenAtRandom ∷ end_word ThenPurelyAtRandom ∷ []

-- Whether these parts are exactly these words.
abbrev pub are_words : Parts → List (List ℕ) → Bool
are_words no_parts [] = true
are_words no_parts (w ∷ ws) = false
are_words (part p ps) [] = false
are_words (part (part_word u) ps) (w ∷ ws) = are_words ps ws && bytes_eq u w
are_words (part (part_value v) ps) (w ∷ ws) = false

-- The first of these keywords whose words these parts are.
abbrev pub keyword_among : Parts → List Bare → Option Keyword
keyword_among ps [] = None
keyword_among ps (k ∷ ks) = if are_words ps (keyword_words k) then Some (bare k) else keyword_among ps ks

-- Whether a value is a query of a head.
abbrev pub is_query : Value → Bool
is_query (nested ps) = true
is_query v = false

-- The keyword of a word and a value.
abbrev pub keyword_with : List ℕ → Value → Option Keyword
keyword_with w v =
    if is_query v
    then None
    else if bytes_eq w (codes "collect") then Some (collect_word v) else if bytes_eq w (codes "accumulate") then Some (accumulate_word v)
    else if bytes_eq w (codes "into") then Some (into_word v) else None

-- The keyword that a parenthesis with exactly these parts is.
abbrev pub keyword_of : Parts → Option Keyword
keyword_of (part (part_word w) (part (part_value v) no_parts)) = keyword_with w v
keyword_of ps = keyword_among ps bare_keywords

-- These are parts of a query: one at least, and no keyword.
abbrev pub IsQuery : Parts → Type 0
IsQuery no_parts = ⊥
IsQuery (part p ps) = keyword_of (part p ps) ≡ None

-- ---- tokens

-- What is said of the tokens that follow.
abbrev pub Follow : Type 1
Follow = List Tok → Type 0

-- One token, of which something is said, stands at the front.
abbrev pub OneAt : (Tok → Type 0) → Follow → Follow
OneAt P K [] = ⊥
OneAt P K (t ∷ ts) = P t × K ts

-- This token stands at the front.
abbrev pub TokenAt : Tok → Follow → Follow
TokenAt t K = OneAt (λ u. u ≡ t) K

-- A form stands there, and something besides holds.
abbrev pub Where : Type 0 → Follow → Follow
Where C F ts = C × F ts

-- These words stand there.
abbrev pub WordsAt : List (List ℕ) → Follow → Follow
WordsAt [] K = K
WordsAt (w ∷ ws) K = TokenAt (word w) (WordsAt ws K)

-- A keyword stands there.
abbrev pub KeywordAt : Bare → Follow → Follow
KeywordAt k K = TokenAt open_round (WordsAt (keyword_words k) (TokenAt close_round K))

-- A parenthesis with these parts stands there, and is a query.
abbrev pub Parenthesis : Parts → (Follow → Follow) → Follow → Follow
Parenthesis ps Inside K = Where (IsQuery ps) (TokenAt open_round (Inside (TokenAt close_round K)))

-- A parenthesis of a word and a value stands there.
abbrev pub WordAndValue : List ℕ → (Follow → Follow) → Follow → Follow
WordAndValue w Inside K = TokenAt open_round (TokenAt (word w) (Inside (TokenAt close_round K)))

-- ---- values

-- Where a value stands: in a head or in a query of it, in which lists have choices of words or not; in a query; in a list; behind the bar of one; in a body.
pub data Place : Type 0 where
  of_head : Bool → Place
  of_nested : Bool → Place
  of_query : Place
  of_list : Bool → Place
  behind_bar : Bool → Place
  printed : Place

-- Whether the lists that stand there have choices of words.
abbrev pub has_choices : Place → Bool
has_choices (of_head c) = c
has_choices (of_nested c) = c
has_choices of_query = false
has_choices (of_list c) = c
has_choices (behind_bar c) = c
has_choices printed = false

-- A query may be a value there: in a head alone.
abbrev pub TakesQuery : Place → Type 0
TakesQuery (of_head c) = Unit {0}
TakesQuery p = ⊥

-- A word of digits spells this number.
abbrev pub SpellsNumber : ℕ → Tok → Type 0
SpellsNumber n (word w) = (are_digits w ≡ true) × (digits_number w ≡ Some n)
SpellsNumber n t = ⊥

-- A word that isn't a choice, where choices may stand.
abbrev pub IsWhole : Bool → List ℕ → Type 0
IsWhole true w = is_choice w ≡ false
IsWhole false w = Unit {0}

-- A dictionary word in a list: bare or behind an `@`.
abbrev pub SpellsElement : Bool → List ℕ → Tok → Type 0
SpellsElement choices w (word u) = (u ≡ w) × (are_digits u ≡ false) × IsWhole choices u
SpellsElement choices w (dict u) = u ≡ w
SpellsElement choices w t = ⊥

-- A dictionary word.
abbrev pub SpellsWord : Place → List ℕ → Tok → Type 0
SpellsWord (of_list choices) w t = SpellsElement choices w t
SpellsWord p w t = t ≡ dict w

-- A choice of these words, in a list where choices may stand.
abbrev pub SpellsChoice : Place → List (List ℕ) → Tok → Type 0
SpellsChoice (of_list true) ws (word u) = (are_digits u ≡ false) × (is_choice u ≡ true) × (word_parts u ≡ ws)
SpellsChoice p ws t = ⊥

-- A value that a body prints.
abbrev pub IsPrinted : Value → Type 0
IsPrinted (dict_word w) = Unit {0}
IsPrinted (object_name w) = Unit {0}
IsPrinted anonymous = Unit {0}
IsPrinted (variable w) = Unit {0}
IsPrinted (plain_list vs) = Unit {0}
IsPrinted (tailed_list vs v) = Unit {0}
IsPrinted v = ⊥

-- One element at least.
abbrev pub HasElement : Values → Type 0
HasElement no_values = ⊥
HasElement (value v vs) = Unit {0}

-- One arm at least.
abbrev pub HasArm : Arms → Type 0
HasArm no_arms = ⊥
HasArm (arm c b as') = Unit {0}

-- One change and no more.
abbrev pub IsOneChange : Changes → Type 0
IsOneChange (change ps set no_changes) = Unit {0}
IsOneChange cs = ⊥

-- The sign before a change.
abbrev pub ChangeSignAt : Bool → Follow → Follow
ChangeSignAt true K = K
ChangeSignAt false K = TokenAt tilde K

-- ---- forms

abbrev mutual
  pub PartAt : Place → Part → Follow → Follow
  PartAt p (part_word w) K = Where (are_digits w ≡ false) (TokenAt (word w) K)
  PartAt p (part_value v) K = ValueAt p v K

  pub PartsAt : Place → Parts → Follow → Follow
  PartsAt p no_parts K = K
  PartsAt p (part q ps) K = PartAt p q (PartsAt p ps K)

  pub ValueAt : Place → Value → Follow → Follow
  ValueAt p (num n) K = OneAt (SpellsNumber n) K
  ValueAt p (dict_word w) K = OneAt (SpellsWord p w) K
  ValueAt p (object_name w) K = TokenAt (object w) K
  ValueAt p current_topic K = TokenAt star K
  ValueAt p anonymous K = TokenAt anon K
  ValueAt p (variable w) K = TokenAt (var w) K
  ValueAt p (plain_list vs) K = TokenAt open_square (ElementsAt (has_choices p) vs (TokenAt close_square K))
  ValueAt p (tailed_list vs v) K = Where (HasElement vs)
      (TokenAt open_square (ElementsAt (has_choices p) vs (TokenAt bar (ValueAt (behind_bar (has_choices p)) v (TokenAt close_square K)))))
  ValueAt p (closure b) K = TokenAt open_brace (BodyAt b (TokenAt close_brace K))
  ValueAt p (nested ps) K = Where (TakesQuery p) (Parenthesis ps (λ F. PartsAt (of_nested (has_choices p)) ps F) K)
  ValueAt p (word_choice ws) K = OneAt (SpellsChoice p ws) K

  pub ElementsAt : Bool → Values → Follow → Follow
  ElementsAt choices no_values K = K
  ElementsAt choices (value v vs) K = ValueAt (of_list choices) v (ElementsAt choices vs K)

  pub StmtAt : Stmt → Follow → Follow
  StmtAt (text w) K = TokenAt (word w) K
  StmtAt (print v) K = Where (IsPrinted v) (ValueAt printed v K)
  StmtAt (ask ps) K = Parenthesis ps (λ F. PartsAt of_query ps F) K
  StmtAt (ask_all ps) K = TokenAt star (Parenthesis ps (λ F. PartsAt of_query ps F) K)
  StmtAt (ask_not ps) K = TokenAt tilde (Parenthesis ps (λ F. PartsAt of_query ps F) K)
  StmtAt (group b) K = TokenAt open_brace (BodyAt b (TokenAt close_brace K))
  StmtAt (not_group b) K = TokenAt tilde (TokenAt open_brace (BodyAt b (TokenAt close_brace K)))
  StmtAt (now cs) K = KeywordAt now_word (λ ts. Where (IsOneChange cs) (ChangesAt cs K) ts ⊎ TokenAt open_brace (ChangesAt cs (TokenAt close_brace K)) ts)
  StmtAt (choice as') K = Where (HasArm as') (ArmsAt if_word as' (KeywordAt endif_word K))
  StmtAt (choice_else as' b) K = Where (HasArm as') (ArmsAt if_word as' (KeywordAt else_word (BodyAt b (KeywordAt endif_word K))))
  StmtAt (exhaust s) K = KeywordAt exhaust_word (StmtAt s K)
  StmtAt (stoppable s) K = KeywordAt stoppable_word (StmtAt s K)
  StmtAt (collect v b into) K = WordAndValue (codes "collect") (λ F. ValueAt of_query v F)
      (BodyAt b (WordAndValue (codes "into") (λ F. ValueAt of_query into F) K))
  StmtAt (accumulate v b into) K = WordAndValue (codes "accumulate") (λ F. ValueAt of_query v F)
      (BodyAt b (WordAndValue (codes "into") (λ F. ValueAt of_query into F) K))
  StmtAt (select mode b) K = KeywordAt select_word (BodyAt b (KeywordAt (end_word mode) K))
  StmtAt (first_answer b) K = λ ts. ⊥

  pub StmtsAt : Stmts → Follow → Follow
  StmtsAt no_stmts K = K
  StmtsAt (stmt s ss) K = StmtAt s (StmtsAt ss K)

  pub BodyAt : Body → Follow → Follow
  BodyAt no_branches K = λ ts. ⊥
  BodyAt (branch ss b) K = StmtsAt ss (BranchesAt b K)

  -- the branches behind the first
  pub BranchesAt : Body → Follow → Follow
  BranchesAt no_branches K = K
  BranchesAt (branch ss b) K = KeywordAt or_word (StmtsAt ss (BranchesAt b K))

  -- the conditions, of which the first stands behind this keyword
  pub ArmsAt : Bare → Arms → Follow → Follow
  ArmsAt k no_arms K = K
  ArmsAt k (arm c b as') K = KeywordAt k (BodyAt c (KeywordAt then_word (BodyAt b (ArmsAt elseif_word as' K))))

  pub ChangesAt : Changes → Follow → Follow
  ChangesAt no_changes K = K
  ChangesAt (change ps set cs) K = ChangeSignAt set (Parenthesis ps (λ F. PartsAt of_query ps F) (ChangesAt cs K))

-- ---- items

-- Whether a head declares a global variable: whether its first words are these.
abbrev pub is_declaration : Parts → Bool
is_declaration (part (part_word w) (part (part_word u) ps)) = bytes_eq w (codes "global") && bytes_eq u (codes "variable")
is_declaration ps = false

-- Where the values of a head stand: choices of words are no matter of declarations.
abbrev pub head_place : Parts → Place
head_place ps = of_head (not (is_declaration ps))

-- The sign before a head.
abbrev pub SignAt : Sign → Follow → Follow
SignAt plain_rule K = K
SignAt negated K = TokenAt tilde K
SignAt access_rule K = TokenAt at K

-- A whole item stands there.
abbrev pub ShapeAt : Shape → Follow → Follow
ShapeAt (topic_line n) K = TokenAt (object n) K
ShapeAt (clause sign ps b) K = SignAt sign (Parenthesis ps (λ F. PartsAt (head_place ps) ps F) (BodyAt b K))

-- No token is left.
abbrev pub IsEnd : Follow
IsEnd ts = ts ≡ []

-- These tokens, all of them, are this item; the first of them stands in the first column.
pub record InItem (in_column : Bool) (ts : List Tok) (shape : Shape) : Type 0 where
  pub column : in_column ≡ true
  pub whole : ShapeAt shape IsEnd ts

-- These tokens are an item.
pub record HasShape (in_column : Bool) (ts : List Tok) : Type 0 where
  pub shape : Shape
  pub item : InItem in_column ts shape

-- Some tokens behind these lead to an item, and with none there is none.
pub record IsUnclosed (in_column : Bool) (ts : List Tok) : Type 0 where
  pub rest : List Tok
  pub later : HasShape in_column (ts ++ rest)
  pub none_yet : HasShape in_column ts → ⊥

-- No tokens behind these lead to an item.
abbrev pub IsUnexpected : Bool → List Tok → Type 0
IsUnexpected in_column ts = (rest : List Tok) → HasShape in_column (ts ++ rest) → ⊥

-- The token of this number is the first at which no item goes on.
pub record IsUnexpectedAt (in_column : Bool) (ts : List Tok) (index : ℕ) : Type 0 where
  pub within : index < length ts
  pub here : IsUnexpected in_column (take (index + 1) ts)
  pub first : (before : ℕ) → before < index → IsUnexpected in_column (take (before + 1) ts) → ⊥

-- Each list of tokens is an item, begins one, or does neither, and it is one item at most.
pub record IsDecided (in_column : Bool) (ts : List Tok) : Type 0 where
  pub which : HasShape in_column ts ⊎ (IsUnclosed in_column ts ⊎ IsUnexpected in_column ts)
  pub one : (a b : Shape) → InItem in_column ts a → InItem in_column ts b → a ≡ b
