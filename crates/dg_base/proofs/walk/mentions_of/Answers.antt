use Rattle.std.proofs.Common.{rules, ◌≡◌, ◌∷◌, ◌++◌, [], List, sym, ◌∙◌, ap, arith}
use Rattle.dg_base.specs.TreeView.{said_view}
use Rattle.dg_base.specs.Mentions.{of_said}
use Rattle.dg_base.specs.Walk.{Met, seen, things_at, left_of, total}
use Rattle.dg_base.specs.declared.mentions.Work.{Work}
use Rattle.dg_base.proofs.MentionLemmas.{things_walk}
use Rattle.dg_base.proofs.WalkLemmas.{append_nil, left_append, total_append}
use Rattle.dg_base.proofs.walk.mentions_of.Goals as goal

pub loop-work-preserved : goal.loop-work-preserved
loop-work-preserved c =
    c.in_ok-look_at.ensures.walk
    ∙ ap (λ (l : List Met). seen c.loop-work.found.items ++ l) (sym (ap left_of c.in-Some.ensures.items ∙ left_append c.pop.new.self.items (c.in-Some.work ∷ [])))
    ∙ c.loop-work.invariant

pub loop-work-smaller : goal.loop-work-smaller
loop-work-smaller c =
    let taken = c.in_ok-look_at.ensures.size in
    let popped = ap total c.in-Some.ensures.items ∙ total_append c.pop.new.self.items (c.in-Some.work ∷ []) in
    omega (arith, taken, popped)

pub returns-clause-things : goal.returns-clause-things
returns-clause-things c =
    let none : c.loop-work.left.items ≡ [] = search rules in
    ap things_at (sym (append_nil (seen c.loop-work.found.items)) ∙ ap (λ (ws : List Work). seen c.loop-work.found.items ++ left_of ws) (sym none) ∙ c.loop-work.invariant)
    ∙ things_walk (of_said (said_view c.args.said.now))
