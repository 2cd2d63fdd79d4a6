-- The box of a closure has what it has captured in a row.
use Rattle.std.proofs.Common.{◌≡◌, ℕ, suc, ◌+◌, ◌<◌, ◌≤◌, length, refl, sym, ◌∙◌, subst, arith}
use Rattle.dg_meaning.specs.Copies.{values_of}
use Rattle.dg_meaning.specs.ValueCells.{count_of}
use Rattle.dg_meaning.specs.Values.{Closure, Node, Values, NoMore, More}
use Rattle.dg_rt.specs.Frames.{InCells, ClosureIn, Captured}
use Rattle.dg_rt.specs.Shapes.{Shape, Cell, Shows, boxed, closure_in, AllShow, no_more, one_more}

count_is : (vs : Values) → count_of vs ≡ length (values_of vs)
count_is NoMore = refl
count_is (More v vs) = let h = count_is vs in omega arith

all_in : {sh : Shape} {k : ℕ} {vs : Values} → AllShow sh k vs → InCells sh k (values_of vs)
all_in (no_more k) = tt
all_in {sh} (one_more {v = v} k x at s a) = (at.fixed, subst (λ (y : ℕ). Shows sh y v) (sym at.is) s, all_in a)

all_low : {sh : Shape} {k : ℕ} {vs : Values} → sh.top ≤ 10000 → k ≤ 10000 → AllShow sh k vs → k + count_of vs ≤ 10000
all_low top low (no_more k) = omega arith
all_low top low (one_more k x at s a) = let lt = at.fixed.0 in let rest = all_low top (omega arith) a in omega arith

pub closure_box : {sh : Shape} {w place : ℕ} {vs : Values} → sh.top ≤ 10000 → Shows sh w (Node (Closure place) vs) → ClosureIn sh w (values_of vs)
closure_box {sh} {vs = vs} top (boxed k header lt box at (closure_in _ place small told few one all)) =
    let size = count_is vs in
    let low = all_low top (omega arith) all in
    record { at = k; word_is = refl; within = omega arith; count = subst (Cell sh (k + 1)) size one; values = all_in all }

-- so a frame that names it has them
pub captured_by : {sh : Shape} {w place : ℕ} {vs : Values} → sh.top ≤ 10000 → Shows sh w (Node (Closure place) vs) → Captured sh w (values_of vs)
captured_by {sh} {w} {vs = vs} top s =
    let c = closure_box top s in
    let is = c.word_is in
    let next : w ≡ suc (49151 + c.at) = omega arith in
    subst (λ (x : ℕ). Captured sh x (values_of vs)) (sym next) (subst (λ (x : ℕ). ClosureIn sh x (values_of vs)) next c)

-- they are as many as the shape tells, and few
pub captured_few : {sh : Shape} {w place : ℕ} {vs : Values} → Shows sh w (Node (Closure place) vs) → (length (values_of vs) ≡ sh.captures place) × (sh.captures place < 256)
captured_few {vs = vs} (boxed k header lt box at (closure_in _ place small told few one all)) = (sym (count_is vs) ∙ told, few)
