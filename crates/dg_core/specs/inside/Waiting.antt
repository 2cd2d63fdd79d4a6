-- What is left of the closures of a rule while their rows are made. The proofs alone rest on it.
use Rattle.std.specs.Prelude.{◌≡◌, ℕ, ◌+◌, List, [], ◌∷◌, ◌++◌, false, map, get_or}
use Rattle.dg_base.specs.Mentions.{of_body}
use Rattle.dg_base.specs.Tree.{Parts, Body, Said}
use Rattle.dg_base.specs.TreeView.{body_view}
use Rattle.dg_base.specs.declared.program.ClosureBody.{ClosureBody}
use Rattle.dg_scopes.specs.Closures.{Layout, variables_in}
use Rattle.dg_scopes.specs.inside.View.{layout_view}
use Rattle.dg_core.specs.Bodies.{in_branches}
use Rattle.dg_core.specs.Core.{rows_in, closures_of}
use Rattle.dg_core.specs.Goals.{Scope, count_selects}
use Rattle.dg_core.specs.Rows.{size, selects_within, layout_at, Home, row_with, captured_in, rows, closures_in_rule, closure_rows}
use Rattle.dg_core.specs.inside.View.{scope_view}
use Rattle.dg_core.specs.declared.rows.Home.{Home as CodeHome}
use Rattle.dg_core.specs.declared.rows.Waiting.{Waiting as CodeWaiting}
use Rattle.dg_core.specs.declared.rows.Kept.{Kept}

-- A closure that waits: its body, its place, and the numbers of what it captures.
pub record Waiting : Type 0 where
  pub body : Body
  pub place : ℕ
  pub captured : List ℕ

-- The closure of this body in something with these variables, by the place of this number.
abbrev pub waiting_at : List Layout → List (List ℕ) → List ℕ → ℕ → Body → Waiting
waiting_at ls vars ps i b = let p = get_or ps i 0 in record { body = b; place = p; captured = captured_in vars (layout_at ls p) }

-- The closures of these bodies, by the places from this one on.
abbrev pub waiting_from : List Layout → List (List ℕ) → List ℕ → ℕ → List Body → List Waiting
waiting_from ls vars ps i [] = []
waiting_from ls vars ps i (b ∷ bs) = waiting_at ls vars ps i b ∷ waiting_from ls vars ps (i + 1) bs

-- The rows that come of closures that wait, so many selects standing before.
abbrev pub pending : Home → ℕ → List Waiting → List ClosureBody
pending home n [] = []
pending home n (w ∷ ws) =
    let l = layout_at home.layouts w.place in
    let inner = in_branches w.body in
    let m = n + count_selects (of_body false w.body) in
    row_with home w.captured n l w.body ∷
    (rows home (variables_in l) l.places 0 m inner ++ pending home (m + selects_within inner) ws)

-- How many rows are left to make, and how many selects stand in them.
abbrev pub left_of : List Waiting → ℕ
left_of [] = 0
left_of (w ∷ ws) = size (in_branches w.body) + 1 + left_of ws

abbrev pub selects_left : List Waiting → ℕ
selects_left [] = 0
selects_left (w ∷ ws) = count_selects (of_body false w.body) + selects_within (in_branches w.body) + selects_left ws

-- ---- as the code holds them

abbrev pub home_view : CodeHome → Home
home_view home = record { around = scope_view home.around.now; layouts = map layout_view home.layouts.now; first = home.first }

abbrev pub waiting_view : CodeWaiting → Waiting
waiting_view w = record { body = body_view w.body.now; place = w.place; captured = w.captured }

-- Those that wait, the last of them first.
abbrev pub stack_of : List CodeWaiting → List Waiting
stack_of [] = []
stack_of (w ∷ ws) = stack_of ws ++ waiting_view w ∷ []

-- What one closure fewer that waits comes to: its row is made, and those in it wait.
pub record IsNext (home : Home) (w : Waiting) (n : ℕ) (old : List Waiting) (rs : List ClosureBody) (m : ℕ) (new : List Waiting)
    (rows : List ClosureBody) : Type 0 where
  pub made : rows ++ pending home m new ≡ rs ++ pending home n (w ∷ old)
  pub sites : m + selects_left new ≡ n + selects_left (w ∷ old)
  pub fewer : left_of new + 1 ≡ left_of (w ∷ old)

-- ---- the rules whose closures wait

-- What its closures are made in.
abbrev pub home_of : Scope → Kept → Home
home_of around kept = record { around = around; layouts = map layout_view kept.layouts.items; first = kept.first }

-- The rows of the closures of rules, so many selects standing before those in them.
abbrev pub rows_kept : Scope → ℕ → List Kept → List ClosureBody
rows_kept around n [] = []
rows_kept around n (k ∷ ks) = pending (home_of around k) n (stack_of k.left) ++ rows_kept around (n + selects_left (stack_of k.left)) ks

-- The selects in them.
abbrev pub selects_kept : List Kept → ℕ
selects_kept [] = 0
selects_kept (k ∷ ks) = selects_left (stack_of k.left) + selects_kept ks

-- The closures of a rule wait, so many standing in the items before.
pub record Waits (around : Scope) (first : ℕ) (ps : Parts) (b : Body) (kept : Kept) : Type 0 where
  pub rows : (n : ℕ) → pending (home_of around kept) n (stack_of kept.left) ≡ closure_rows around first n ps b
  pub selects : selects_left (stack_of kept.left) ≡ selects_within (closures_in_rule ps b)

-- The rules whose closures wait, with that of an item, before which so many closures stand.
pub record Keeps (around : Scope) (first : ℕ) (said : Said) (old new : List Kept) : Type 0 where
  pub rows : (n : ℕ) → rows_kept around n new ≡
      rows_kept around n old ++ rows_in around (record { selects = n + selects_kept old; closures = first }) said
  pub selects : selects_kept new ≡ selects_kept old + selects_within (closures_of said)
