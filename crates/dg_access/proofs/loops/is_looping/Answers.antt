use Rattle.std.proofs.Common.{rules, ◌≡◌, ◌<◌, ◌≤◌, ◌||◌, Bool, true, false, List, ℕ, get_or, length, map, nat_lt, take, refl, sym, ◌∙◌, ap, subst, lt-ltb, ltb-true, arith}
use Rattle.std.proofs.lemmas.Bool.{or_left}
use Rattle.dg_base.specs.Heads.{name_of}
use Rattle.dg_base.specs.Tree.{parts_of}
use Rattle.dg_base.specs.TreeView.{part_view}
use Rattle.dg_access.specs.Loops.{reaches}
use Rattle.dg_put.specs.declared.access.Access.{Access as CodeAccess}
use Rattle.dg_put.specs.inside.Putting.{access_view}
use Rattle.dg_access.specs.inside.Reached.{IsReached, is_set, row_at}
use Rattle.dg_access.specs.inside.Rows.{all_pooled}
use Rattle.dg_put.specs.inside.Firsts.{first_of, is_among}
use Rattle.dg_put.proofs.ChainLemmas.{among_first}
use Rattle.dg_access.proofs.RowLemmas.{itself_here, looping_here}
use Rattle.dg_access.proofs.loops.is_looping.Goals as goal

named : (rs : List CodeAccess) (k : ℕ) (d : CodeAccess) (first : ℕ) → d ≡ get_or rs k d
    → first ≡ first_of (map access_view rs) (name_of (parts_of (map part_view (get_or rs k d).head.now)))
    → first ≡ first_of (map access_view rs) d.name.now
named rs k d first is e = e ∙ sym (ap (λ (x : CodeAccess). first_of (map access_view rs) (name_of (parts_of (map part_view x.head.now)))) is)
    ∙ sym (ap (first_of (map access_view rs)) d.named)

others : (rs : List CodeAccess) (k : ℕ) (d : CodeAccess) (first : ℕ) → k < length rs → first ≡ first_of (map access_view rs) d.name.now
    → is_among (map access_view (take k rs)) d.name.now ≡ nat_lt first k
others rs k d first h e = among_first rs k d.name.now (omega (arith, h)) ∙ ap (λ (n : ℕ). nat_lt n k) (sym e)

le_test : (k n : ℕ) → k ≤ n → nat_lt n k ≡ false
le_test k n h = no (nat_lt n k) refl
  where
    no : (b : Bool) → nat_lt n k ≡ b → nat_lt n k ≡ false
    no true e = absurd (omega (arith, h, ltb-true n k e))
    no false e = e

pub returns-then-first-number : goal.returns-then-first-number
returns-then-first-number c =
    let rs = c.args.rules.all.now in
    let all = map access_view rs in
    let k = c.args.number in
    let d = c.index-rules-number.result in
    let first = c.first_of-first.result in
    let is = named rs k d first c.index-rules-number.is c.first_of-first.ensures in
    let within : k < length rs = search rules in
    let other = others rs k d first within is ∙ lt-ltb first k c.if-first-number.true in
    sym (looping_here rs k d within c.index-rules-number.is
    ∙ or_left (is_among (map access_view (take k rs)) d.name.now) (reaches all (access_view d) d.name.now) other)

pub returns : goal.returns
returns c =
    let rs = c.args.rules.all.now in
    let all = map access_view rs in
    let k = c.args.number in
    let d = c.index-rules-number.result in
    let first = c.first_of-first.result in
    let is = named rs k d first c.index-rules-number.is c.first_of-first.ensures in
    let seen = c.in_ok-seen.seen.items in
    let within : k < length rs = search rules in
    let none = others rs k d first within is ∙ le_test k first c.if-first-number.false in
    let row = c.row_at.ensures ∙ ap (λ (rows : List (List ℕ)). row_at rows k) c.requires.rows in
    let found = subst (λ (rows : List (List ℕ)). IsReached rows c.row_at.result.now seen) c.requires.pooled c.in_ok-seen.ensures in
    let given = subst (λ (l : List ℕ). IsReached (all_pooled all) l seen) row found in
    c.is_set.ensures
    ∙ ap (λ (l : List Bool). is_set l first) c.as_slice.ensures.value
    ∙ ap (is_set seen) is
    ∙ itself_here rs k d seen within c.index-rules-number.is given
    ∙ sym (looping_here rs k d within c.index-rules-number.is ∙ ap (λ (b : Bool). b || reaches all (access_view d) d.name.now) none)
