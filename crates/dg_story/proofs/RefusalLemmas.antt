-- What follows where a program isn't refused.
use Rattle.std.proofs.Common.{◌≡◌, ◌*◌, ◌≤◌, List, [], ◌∷◌, length, Some, None, Bool, true, false, refl, arith}
use Rattle.std.proofs.Common.{rules}
use Rattle.std.specs.Prelude.{nat_lt, if◌then◌else◌}
use Rattle.std.proofs.lemmas.Bool.{ltb-false}
use Rattle.dg_base.specs.declared.program.Rule.{Rule}
use Rattle.dg_base.specs.declared.program.Pred.{Pred}
use Rattle.dg_base.specs.declared.program.CoreProgram.{CoreProgram}
use Rattle.dg_fits.specs.Sizes.{world_size, words_size, rules_size, preds_size, story_size}
use Rattle.dg_story.specs.declared.refusal.BuildRefusal.TheVariants.{WorldTooLarge, WordsTooLarge, StoryTooLarge}
use Rattle.dg_story.specs.Refusals.{build_refusal}
use Rattle.dg_story.specs.Built.{rule_count}

-- No refusal's test holds.
record NoneHolds (b c d : Bool) : Type 0 where
  world : b ≡ false
  words : c ≡ false
  whole : d ≡ false

none_holds : (b c d : Bool) → (if b then Some WorldTooLarge else (if c then Some WordsTooLarge else (if d then Some StoryTooLarge else None))) ≡ None → NoneHolds b c d
none_holds false false false e = record { world = refl; words = refl; whole = refl }
none_holds false false true e = absurd (search rules)
none_holds false true d e = absurd (search rules)
none_holds true c d e = absurd (search rules)

module _ (p : CoreProgram) (e : build_refusal p ≡ None) where
  none : NoneHolds (nat_lt 8000 (world_size p)) (nat_lt 20000 (words_size p.words)) (nat_lt 440000 (story_size p))
  none = none_holds (nat_lt 8000 (world_size p)) (nat_lt 20000 (words_size p.words)) (nat_lt 440000 (story_size p)) e

  -- The sizes are within theirs.
  pub world_fits : world_size p ≤ 8000
  world_fits = ltb-false 8000 (world_size p) none.world

  pub words_fit : words_size p.words ≤ 20000
  words_fit = ltb-false 20000 (words_size p.words) none.words

  pub story_fits : story_size p ≤ 440000
  story_fits = ltb-false 440000 (story_size p) none.whole

  rules_least : (rs : List Rule) → 100 * length rs ≤ rules_size rs
  rules_least [] = omega arith
  rules_least (r ∷ rs) = omega (arith, rules_least rs)

  preds_least : (ps : List Pred) → 100 * rule_count ps ≤ preds_size ps
  preds_least [] = omega arith
  preds_least (q ∷ qs) = omega (arith, rules_least q.rules, preds_least qs)

  -- There are few rules.
  pub rules_few : rule_count p.preds ≤ 65535
  rules_few = omega (arith, story_fits, preds_least p.preds)
