-- The keywords of the code. The proofs alone rest on it.
use Rattle.std.specs.Prelude.{◌≡◌, ◌∷◌, [], ℕ, List, Bool, false, Option, Some, None, map, codes, if◌then◌else◌}
use Rattle.std.specs.Str.{bytes_eq}
use Rattle.dg_base.specs.Tree as tree
use Rattle.dg_base.specs.TreeView.{part_view}
use Rattle.dg_base.specs.declared.tree.Part.{Part}
use Rattle.dg_reader.specs.Grammar as grammar
use Rattle.dg_reader.specs.Grammar.{keyword_of, is_query}
use Rattle.dg_reader.specs.inside.Frames.{keyword_view}
use Rattle.dg_reader.specs.declared.keyword.Valued.{Valued}
use Rattle.dg_reader.specs.declared.keyword.Valued.TheVariants.{Collect, Accumulate, Into}
use Rattle.dg_reader.specs.declared.keyword.Closed.{Closed}
use Rattle.dg_reader.specs.declared.keyword.Closed.TheVariants as closed

-- whether a part is this word
abbrev pub is_word : tree.Part → List ℕ → Bool
is_word (tree.part_word u) w = bytes_eq u w
is_word (tree.part_value v) w = false

abbrev pub valued_view : Valued → tree.Value → grammar.Keyword
valued_view Collect v = grammar.collect_word v
valued_view Accumulate v = grammar.accumulate_word v
valued_view Into v = grammar.into_word v

-- The keyword with a value that a word begins.
abbrev pub valued_word : List ℕ → Option Valued
valued_word w = if bytes_eq w (codes "collect") then Some Collect else if bytes_eq w (codes "accumulate") then Some Accumulate
    else if bytes_eq w (codes "into") then Some Into else None

-- The keyword with a value that these parts are.
abbrev pub valued_in : List tree.Part → Option Valued
valued_in (tree.part_word w ∷ tree.part_value v ∷ []) = if is_query v then None else valued_word w
valued_in ps = None

-- The value that these parts end with.
abbrev pub last_value : List tree.Part → Option tree.Value
last_value [] = None
last_value (tree.part_value v ∷ []) = Some v
last_value (tree.part_word w ∷ []) = None
last_value (p ∷ q ∷ ps) = last_value (q ∷ ps)

-- These parts are this keyword with a value.
pub record IsValued (ps : List tree.Part) (k : Valued) : Type 0 where
  pub value : tree.Value
  pub last : last_value ps ≡ Some value
  pub says : keyword_of (tree.parts_of ps) ≡ Some (valued_view k value)

-- What a parenthesis with these parts is.
abbrev pub IsClosed : Closed → List Part → Type 0
IsClosed (closed.Query qs) ps = (qs ≡ ps) × (keyword_of (tree.parts_of (map part_view ps)) ≡ None)
IsClosed (closed.Keyword k) ps = keyword_of (tree.parts_of (map part_view ps)) ≡ Some (keyword_view k)
