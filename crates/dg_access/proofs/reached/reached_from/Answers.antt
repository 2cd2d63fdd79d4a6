use Rattle.std.proofs.Common.{rules, ap, ◌∙◌, List, ℕ, ◌≡◌, ◌<◌, ◌≤◌, false, length, replicate}
use Rattle.std.proofs.lemmas.List.{length-map}
use Rattle.dg_access.specs.inside.Reached.{all_noted, reached_view, rows_of}
use Rattle.dg_access.proofs.ReachedLemmas.{all_gone, started, stepped}
use Rattle.dg_access.proofs.reached.reached_from.Goals as goal

pub loop-at-init : goal.loop-at-init
loop-at-init c =
    let many : length c.args.rows.now ≡ length (rows_of c.args.rows.now) = search (rules, length-map) in
    let made : c.in_ok-vec.field-0.items ≡ replicate (length c.args.rows.now) false = search rules in
    started (rows_of c.args.rows.now) c.args.start.now (length c.args.rows.now) c.in_ok-vec.field-0.items c.new.result.items (reached_view c.note_all.new.reached) made many c.new.ensures.items c.in_ok-note_all.ensures

pub loop-at-preserved : goal.loop-at-preserved
loop-at-preserved c =
    let within : c.loop-at.at < length c.loop-at.reached.found.items = search rules in
    let rows = rows_of c.args.rows.now in
    let old = reached_view c.loop-at.reached in
    stepped rows c.args.start.now c.loop-at.at c.index-place.result.now old (reached_view c.note_all-in-loop-at.new.reached) within c.index-place.ensures
    (c.in_ok-note_all-2.ensures ∙ ap (λ (l : List ℕ). all_noted l old) c.row_at.ensures) c.loop-at.invariant

pub returns : goal.returns
returns c =
    let all : length (rows_of c.args.rows.now) ≤ c.loop-at.at = search (rules, length-map) in
    all_gone (rows_of c.args.rows.now) c.args.start.now c.loop-at.at (reached_view c.loop-at.reached) all c.loop-at.invariant
