-- The tree in which access rules are put in, or why it is refused: hold it against docs/LANGUAGE.md, "Access rules" and "Limits", and docs/REFUSALS.md.
use Rattle.std.specs.Prelude.{◌≡◌, ◌⊎◌, ℕ, ◌||◌, List, [], ◌∷◌, ◌++◌, Option, Some, None, Result, Ok, Err, if◌then◌else◌}
use Rattle.dg_base.specs.Tree.{Item}
use Rattle.dg_base.specs.declared.refusal.Kind.{Kind}
use Rattle.dg_base.specs.declared.refusal.Kind.TheVariants.{AccessLoop, BadNow, TooMany}
use Rattle.dg_base.specs.declared.refusal.Refusal.{Refusal}
use Rattle.dg_scopes.specs.Counts.{are_large, are_over}
use Rattle.dg_plain.specs.Items.{plain_items}
use Rattle.dg_items.specs.Expanded.{access_rules, put_item, put_items, are_bad}
use Rattle.dg_access.specs.Loops.{first_looping}
use Rattle.dg_put.specs.Put.{Access}

-- Why what an item becomes is refused, behind what became of the items before it: a count passes its number, or a head or a change stands where none may.
abbrev pub cause_of : List Access → List Item → List Item → Option Kind
cause_of rules before new = if are_large new || are_over (before ++ new) then Some TooMany else if are_bad rules new then Some BadNow else None

-- A refusal of this kind on this line, or else this one.
abbrev pub refused_or : ℕ → Option Kind → Option Refusal → Option Refusal
refused_or line (Some kind) rest = Some (record { kind = kind; line = line })
refused_or line None rest = rest

-- The refusal of the first item that is refused, behind what became of the items before it.
abbrev pub first_refused : List Access → List Item → List Item → Option Refusal
first_refused rules before [] = None
first_refused rules before (i ∷ is) =
    refused_or i.line (cause_of rules before (put_item rules i)) (first_refused rules (before ++ put_item rules i) is)

-- The items with these access rules put in, or the refusal of the first that is refused.
abbrev pub IsPut : List Access → List Item → Result (List Item) Refusal → Type 0
IsPut rules is (Ok new) = (first_refused rules [] is ≡ None) × (new ≡ put_items rules is)
IsPut rules is (Err r) = first_refused rules [] is ≡ Some r

-- The items with access rules put in, or why they are refused: the first whose access rule loops or is repeated, or else the
-- first of which too much or a wrong change comes.
abbrev pub IsExpanded : List Item → Result (List Item) Refusal → Type 0
IsExpanded is (Ok new) = (first_looping (access_rules is) [] is ≡ None) × IsPut (access_rules is) is (Ok new)
IsExpanded is (Err r) = ((i : Item) × (first_looping (access_rules is) [] is ≡ Some i) × (r ≡ record { kind = AccessLoop; line = i.line }))
    ⊎ ((first_looping (access_rules is) [] is ≡ None) × IsPut (access_rules is) is (Err r))

-- The items of a source with plain heads and access rules put in, or why they are refused.
abbrev pub IsRewritten : List Item → Result (List Item) Refusal → Type 0
IsRewritten is = IsExpanded (plain_items None is)
