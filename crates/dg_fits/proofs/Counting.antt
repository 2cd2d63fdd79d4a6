-- What the goals, rules and closures of a program may take is at most 23 of 25 parts of what they count.
use Rattle.std.proofs.Common.{◌≡◌, ℕ, suc, ◌+◌, ◌*◌, ◌≤◌, List, [], ◌∷◌, length, refl, ap, arith}
use Rattle.std.proofs.lemmas.List.{length-replicate}
use Rattle.std.specs.List.{slice_get}
use Rattle.std.proofs.lemmas.List.{length-replicate}
use Rattle.dg_base.specs.declared.program.ClosureBody.{ClosureBody}
use Rattle.dg_base.specs.declared.program.CoreProgram.{CoreProgram}
use Rattle.dg_base.specs.declared.program.Goal.{Goal, out-Goal}
use Rattle.dg_base.specs.declared.program.Goal.TheOpen as form
use Rattle.dg_base.specs.declared.program.Pred.{Pred}
use Rattle.dg_base.specs.declared.program.Rule.{Rule}
use Rattle.dg_base.specs.Goals.{all_goals_of, terms_held}
use Rattle.dg_meaning.specs.Cells.{captured_count}
use Rattle.dg_meaning.specs.Moves.{rules_of}
use Rattle.dg_mid.specs.declared.code.BodyCode.{BodyCode}
use Rattle.dg_mid.specs.declared.code.RuleCode.{RuleCode}
use Rattle.dg_mid.specs.declared.code.Code.{Code}
use Rattle.dg_mid.specs.Code.{codes_of}
use Rattle.dg_mid.specs.Codes.{Codes, RulesStand, BodyStands}
use Rattle.dg_mid.specs.Weights.{lists_in, own_weight, ways_weight, goal_weight, goals_weight, body_weight, rules_weight, preds_weight, closures_weight, blocks_weight, IsLight}
use Rattle.dg_emit.specs.Numbers.{rules_count}
use Rattle.dg_fits.specs.Once.{in_terms, in_goals, in_body, in_rules, in_preds, in_closures, StandOnce}
use Rattle.dg_fits.specs.Sizes.{names_size, terms_size, text_size, lists_held, goal_size, goals_size, body_size, rules_size, preds_size, closures_size, story_size}
use Rattle.dg_fits.specs.inside.Bytes.{bytes}
use Rattle.dg_fits.proofs.Terms.{terms_count}

-- how many rules predicates have
abbrev pub rule_count : List Pred → ℕ
rule_count [] = 0
rule_count (pred ∷ preds) = length pred.rules + rule_count preds

module _ (p : CoreProgram) (captured : (c : ℕ) → captured_count (slice_get p.closures c) ≤ 64) where
  -- ## Goals

  -- the lists of a goal have room for 8 more each, and for what chooses from them
  own_counts : (layer : form.Goal-F Goal) → 25 * (own_weight (bytes p) layer + 56 * length (lists_held layer)) ≤ 23 * (100 + text_size layer + terms_size (terms_held layer) + 100 * length (lists_held layer)) + 1025 * in_terms (terms_held layer)
  own_counts (form.Text name) = omega arith
  own_counts (form.Select site mode lists) = omega (arith, length-replicate {A = List Goal} (length lists) [])
  own_counts layer = omega (arith, terms_count p captured (terms_held layer))

  ways_count : (lists : List (List Goal)) → ways_weight (bytes p) lists ≡ 56 * length lists
  ways_count [] = refl
  ways_count (goals ∷ lists) = omega (arith, ways_count lists)

  lists_alike : (layer : form.Goal-F Goal) → length (lists_in layer) ≡ length (lists_held layer)
  lists_alike (form.Either lists) = refl
  lists_alike (form.Once goals) = refl
  lists_alike (form.Not goals) = refl
  lists_alike (form.If a b c) = refl
  lists_alike (form.Exhaust goals) = refl
  lists_alike (form.Collect x goals y) = refl
  lists_alike (form.Accumulate x goals y) = refl
  lists_alike (form.Stoppable goals) = refl
  lists_alike (form.Select site mode lists) = refl
  lists_alike layer = refl

  goal_counts : (layer : form.Goal-F Goal) → 25 * goal_weight (bytes p) layer ≤ 23 * goal_size layer + 1025 * in_terms (terms_held layer)
  goal_counts layer = omega (arith, own_counts layer, ways_count (lists_in layer), lists_alike layer)

  goals_count : (gs : List Goal) → 25 * goals_weight (bytes p) gs ≤ 23 * goals_size gs + 1025 * in_goals gs
  goals_count [] = omega arith
  goals_count (g ∷ gs) = omega (arith, goal_counts (out-Goal g), goals_count gs)

  body_counts : (gs : List Goal) → 25 * body_weight (bytes p) gs ≤ 23 * body_size gs + 1025 * in_body gs
  body_counts gs = goals_count (all_goals_of gs)

  -- ## Rules and closures

  rules_count_so : (rs : List Rule) → 25 * (rules_weight (bytes p) rs + 32 * length rs) ≤ 23 * rules_size rs + 1025 * in_rules rs
  rules_count_so [] = omega arith
  rules_count_so (r ∷ rs) = omega (arith, terms_count p captured r.head, body_counts r.body, rules_count_so rs)

  preds_count : (ps : List Pred) → 25 * (preds_weight (bytes p) ps + 32 * rule_count ps) ≤ 23 * preds_size ps + 1025 * in_preds ps
  preds_count [] = omega arith
  preds_count (q ∷ ps) = omega (arith, rules_count_so q.rules, preds_count ps)

  -- of what a closure counts there is left what the term takes more that it is
  closures_count : (cs : List ClosureBody) → 25 * (closures_weight (bytes p) cs + 32 * length cs) + 1025 * length cs ≤ 23 * closures_size cs + 1025 * in_closures cs
  closures_count [] = omega arith
  closures_count (c ∷ cs) = omega (arith, body_counts c.body, closures_count cs)

-- ## How many there are

as_many : (code : Code) (cs : List RuleCode) (rs : List Rule) → RulesStand code cs rs → length cs ≡ length rs
as_many code [] [] h = refl
as_many code (c ∷ cs) (r ∷ rs) h = ap suc (as_many code cs rs h.1)
as_many code [] (r ∷ rs) h = absurd h
as_many code (c ∷ cs) [] h = absurd h

all_many : (cs : List (List RuleCode)) (ps : List Pred) → ((n : ℕ) → length (codes_of (slice_get cs n)) ≡ length (rules_of (slice_get ps n))) → rules_count cs ≡ rule_count ps
all_many [] [] h = refl
all_many [] (p ∷ ps) h = omega (arith, h 0, all_many [] ps (λ n. h (suc n)))
all_many (c ∷ cs) [] h = omega (arith, h 0, all_many cs [] (λ n. h (suc n)))
all_many (c ∷ cs) (p ∷ ps) h = omega (arith, h 0, all_many cs ps (λ n. h (suc n)))

pub rules_many : (program : CoreProgram) (code : Code) → Codes program code → rules_count code.preds ≡ rule_count program.preds
rules_many program code codes =
    all_many code.preds program.preds (λ n. as_many code (codes_of (slice_get code.preds n)) (rules_of (slice_get program.preds n)) (codes.rules n))

bodies_alike : (code : Code) (cs : List BodyCode) (bs : List ClosureBody) → ((n : ℕ) → BodyStands code (slice_get cs n) (slice_get bs n)) → length cs ≡ length bs
bodies_alike code [] [] h = refl
bodies_alike code [] (b ∷ bs) h = absurd (h 0)
bodies_alike code (c ∷ cs) [] h = absurd (h 0)
bodies_alike code (c ∷ cs) (b ∷ bs) h = ap suc (bodies_alike code cs bs (λ n. h (suc n)))

pub closures_many : (program : CoreProgram) (code : Code) → Codes program code → length code.closures ≡ length program.closures
closures_many program code codes = bodies_alike code code.closures program.closures codes.bodies

-- ## The whole

-- what a program counts suffices for its code, its rules and its closures, and the names of its objects count beside them
pub counted : (program : CoreProgram) (code : Code) → ((c : ℕ) → captured_count (slice_get program.closures c) ≤ 64) → StandOnce program → Codes program code → IsLight (bytes program) program code →
    25 * (blocks_weight (bytes program) code.blocks + 32 * rules_count code.preds + 32 * length code.closures) + 23 * names_size program.objects ≤ 23 * (100 + story_size program)
counted program code captured once codes light =
    let w = bytes program in
    let l : blocks_weight w code.blocks ≤ 92 + preds_weight w program.preds + closures_weight w program.closures = omega (arith, light) in
    omega (arith, once, preds_count program captured program.preds, closures_count program captured program.closures, rules_many program code codes, closures_many program code codes)
