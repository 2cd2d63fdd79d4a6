use Rattle.std.proofs.Common.{◌≡◌, Option, ℕ, List, [], map, sym, ◌∙◌, ap}
use Rattle.std.specs.Option.{option_map}
use Rattle.std.proofs.lemmas.Result.{IfOk-weaker}
use Rattle.dg_base.specs.Tree.{Item}
use Rattle.dg_base.specs.TreeView.{item_view}
use Rattle.dg_access.specs.Loops as spec
use Rattle.dg_items.specs.Expanded.{access_rules}
use Rattle.dg_put.specs.Put.{Access}
use Rattle.dg_put.specs.inside.Putting.{access_view}
use Rattle.dg_access.specs.inside.Reached.{rows_of}
use Rattle.dg_access.specs.inside.Rows.{asked_by, all_rows, first_numbered, first_rows, firsts, pooled_from}
use Rattle.dg_access.proofs.RowLemmas.{first_are, numbered}
use Rattle.dg_access.proofs.loops.first_looping.Goals as goal

same_rows : (all : List Access) (is : List Item) (rows : List (List ℕ)) → all ≡ access_rules is → rows ≡ first_rows all is → rows ≡ all_rows all
same_rows all is rows e f = f ∙ first_are all is ∙ ap (λ (l : List Access). map (asked_by all) l) (sym e)

pub first_numbered-requires-clause-rows : goal.first_numbered-requires-clause-rows
first_numbered-requires-clause-rows c =
    let all = map access_view c.args.rules.all.now in
    ap rows_of c.as_slice-3.ensures.value ∙ same_rows all (map item_view c.args.items.now) _ c.requires c.in_ok-rows.ensures

pub first_numbered-requires-clause-pooled : goal.first_numbered-requires-clause-pooled
first_numbered-requires-clause-pooled c =
    let all = map access_view c.args.rules.all.now in
    let numbers = c.as_slice.ensures.value ∙ c.in_ok-firsts.ensures in
    let rows = ap rows_of c.as_slice-2.ensures.value ∙ same_rows all (map item_view c.args.items.now) _ c.requires c.in_ok-rows.ensures in
    ap rows_of c.as_slice-4.ensures.value ∙ c.in_ok-pooled.ensures
    ∙ ap (λ (ns : List ℕ). pooled_from 0 ns ns (rows_of c.as_slice-2.result.now)) numbers
    ∙ ap (λ (m : List (List ℕ)). pooled_from 0 (firsts all all) (firsts all all) m) rows

pub returns : goal.returns
returns c =
    let all = map access_view c.args.rules.all.now in
    let is = map item_view c.args.items.now in
    IfOk-weaker c.first_numbered.result (λ (line : Option ℕ). line ≡ first_numbered all 0 is) (λ (line : Option ℕ). line ≡ option_map (λ (i : Item). i.line) (spec.first_looping all [] is))
    (λ line e. e ∙ numbered all [] is c.requires) c.first_numbered.ensures
