-- The selects of a sound program's code are those of the program.
use Rattle.std.proofs.Common.{◌≡◌, ℕ, zero, suc, ◌<◌, ◌≤◌, inl, inr, List, [], ◌∷◌, ◌++◌, length, refl, sym, ap, ◌∙◌, subst, arith}
use Rattle.std.specs.Prelude.{Bool, true, ◌&&◌, ◌==◌, Contains, nat_lt, if◌then◌else◌}
use Rattle.std.specs.List.{All, flat_map, slice_get}
use Rattle.std.proofs.Math.Dec.{eqb}
use Rattle.std.proofs.lemmas.Bool.{cases_eq, eqb-true, eq-eqb, ne_eqb, ltb-true, lt-ltb, and_parts, cond-true, cond-false}
use Rattle.std.proofs.lemmas.List.{length-replicate}
use Rattle.dg_base.specs.declared.program.ClosureBody.{ClosureBody}
use Rattle.dg_base.specs.declared.program.CoreProgram.{CoreProgram}
use Rattle.dg_base.specs.declared.program.Goal.{Goal, out-Goal}
use Rattle.dg_base.specs.declared.program.Goal.TheOpen as form
use Rattle.dg_base.specs.declared.program.Mode.{Mode}
use Rattle.dg_base.specs.declared.program.Mode.TheVariants.{Stopping, Cycling, PurelyAtRandom, AtRandom, ThenAtRandom, ThenPurelyAtRandom}
use Rattle.dg_base.specs.declared.program.Pred.{Pred}
use Rattle.dg_base.specs.declared.program.Rule.{Rule}
use Rattle.dg_base.specs.Goals.{all_goals_of}
use Rattle.dg_base.specs.Sound.{IsGoalOf, IsRuleOf, IsPredOf, IsClosureOf, FitsProgram, closure_vars, all_goals, SameSite, IsSound}
use Rattle.dg_mid.specs.declared.code.Block.{Block}
use Rattle.dg_mid.specs.declared.code.Op.{Op}
use Rattle.dg_mid.specs.declared.code.Op.TheVariants as op
use Rattle.dg_mid.specs.Code.{ops_of}
use Rattle.dg_mid.specs.Passing.{Tests, GoalPasses, GoalsPass, RulesPass, PredsPass, ClosuresPass, ProgramPasses, OpPasses, OpsPass}
use Rattle.dg_mid.proofs.Passing.{code_passes}
use Rattle.dg_turn.specs.Told.{Site}
use Rattle.dg_turn.specs.Sites.{sites_of_op, sites_of_ops, sites_of, AreSites}
use Rattle.dg_laid.specs.Goals.{SitesSuit}

-- ## Modes as numbers

abbrev code_of : Mode → ℕ
code_of Stopping = 0
code_of Cycling = 1
code_of PurelyAtRandom = 2
code_of AtRandom = 3
code_of ThenAtRandom = 4
code_of ThenPurelyAtRandom = 5

abbrev mode_of : ℕ → Mode
mode_of zero = Stopping
mode_of (suc zero) = Cycling
mode_of (suc (suc zero)) = PurelyAtRandom
mode_of (suc (suc (suc zero))) = AtRandom
mode_of (suc (suc (suc (suc zero)))) = ThenAtRandom
mode_of n = ThenPurelyAtRandom

mode_is : (mode : Mode) → mode_of (code_of mode) ≡ mode
mode_is Stopping = refl
mode_is Cycling = refl
mode_is PurelyAtRandom = refl
mode_is AtRandom = refl
mode_is ThenAtRandom = refl
mode_is ThenPurelyAtRandom = refl

-- ## What a program says of a site

-- What a goal says of one, or another one.
abbrev profiled : form.Goal-F Goal → ℕ → ℕ × ℕ → ℕ × ℕ
profiled (form.Select n mode lists) site other = if n == site then (code_of mode, length lists) else other
profiled layer site other = other

-- What the first select of it says: its mode, and how many branches it has.
abbrev profile : List Goal → ℕ → ℕ × ℕ
profile [] site = (0, 0)
profile (g ∷ gs) site = profiled (out-Goal g) site (profile gs site)

module _ (site : ℕ) (mode : Mode) (lists : List (List Goal)) where
  abbrev says : ℕ × ℕ
  says = (code_of mode, length lists)

  -- by the first goal, and where it is another one
  by_first : (layer : form.Goal-F Goal) (other : ℕ × ℕ) → SameSite layer (form.Select site mode lists) → ((layer ≡ form.Select site mode lists → ⊥) → other ≡ says) → profiled layer site other ≡ says
  by_first (form.Select n mode' lists') other same rest = elim (cases_eq n site) [
    | inl e ↦ cond-true (n == site) (code_of mode', length lists') other (eq-eqb n site e) ∙ (let q = same e in rw (q.0, q.1) refl)
    | inr ne ↦ cond-false (n == site) (code_of mode', length lists') other (ne_eqb n site ne) ∙ rest (λ e. ne (let r : n ≡ site = cc in r))
  ]
  by_first layer other same rest = rest (λ e. (cc))

  profile_is : (gs : List Goal) (g : Goal) → Contains gs g → out-Goal g ≡ form.Select site mode lists → ((x : Goal) → Contains gs x → SameSite (out-Goal x) (form.Select site mode lists)) → profile gs site ≡ says
  profile_is [] g c e same = absurd (let lt = c.1 in omega arith)
  profile_is (x ∷ gs) g c e same =
      by_first (out-Goal x) (profile gs site) (same x (0, (omega arith), refl))
      (λ other. profile_is gs g (behind c other) e (λ y cy. (let lt = cy.1 in same y (suc cy.0, (omega arith), cy.2))))
    where
      behind : Contains (x ∷ gs) g → (out-Goal x ≡ form.Select site mode lists → ⊥) → Contains gs g
      behind (zero, lt, is) other = absurd (other (ap out-Goal is ∙ e))
      behind (suc k, lt, is) other = (k, (omega arith), is)

-- ## Tests that pass

both : {a b : Bool} → a ≡ true → b ≡ true → (a && b) ≡ true
both {b = b} e f = ap (λ (x : Bool). x && b) e ∙ f

rest_of : {A : Type 0} (P : A → Type 0) (x : A) (xs : List A) → All P (x ∷ xs) → All P xs
rest_of P x xs h k d lt = h (suc k) d (omega (arith, lt))

module _ (program : CoreProgram) where
  abbrev told : ℕ → ℕ × ℕ
  told site = profile (all_goals program) site

  -- a select is as the first of its site
  abbrev agrees_with : ℕ → Mode → ℕ → Bool
  agrees_with site mode n = eqb (told site).0 (code_of mode) && eqb (told site).1 n

  abbrev agrees : form.Goal-F Goal → Bool
  agrees (form.Select site mode lists) = agrees_with site mode (length lists)
  agrees layer = true

  -- its site is one of the program, and it has so many branches
  abbrev within : ℕ → ℕ → Bool
  within site n = nat_lt site program.sites && (nat_lt 0 n && nat_lt n 501)

  abbrev passes : form.Goal-F Goal → Bool
  passes (form.Select site mode lists) = agrees_with site mode (length lists) && within site (length lists)
  passes layer = true

  abbrev tests : Tests
  tests = record { goal = passes; head = λ vars head. true; gathers = true }

  abbrev all_agree : List Goal → Bool
  all_agree [] = true
  all_agree (g ∷ gs) = agrees (out-Goal g) && all_agree gs

  agree_both : (xs ys : List Goal) → all_agree (xs ++ ys) ≡ true → (all_agree xs ≡ true) × (all_agree ys ≡ true)
  agree_both [] ys e = (refl, e)
  agree_both (x ∷ xs) ys e =
      let k = and_parts (agrees (out-Goal x)) (all_agree (xs ++ ys)) e in
      let more = agree_both xs ys k.1 in (both k.0 more.0, more.1)

  -- ## The program

  module _ (sound : IsSound program) where
    agree_by : (layer : form.Goal-F Goal) (g : Goal) → Contains (all_goals program) g → out-Goal g ≡ layer → agrees layer ≡ true
    agree_by (form.Select site mode lists) g c e =
        let is = profile_is site mode lists (all_goals program) g c e (λ x cx. subst (SameSite (out-Goal x)) e (sound.sites x g cx c)) in
        both (eq-eqb (told site).0 (code_of mode) (ap (λ (q : ℕ × ℕ). q.0) is)) (eq-eqb (told site).1 (length lists) (ap (λ (q : ℕ × ℕ). q.1) is))
    agree_by layer g c e = refl

    goals_agree : (gs : List Goal) → ((g : Goal) → Contains gs g → Contains (all_goals program) g) → all_agree gs ≡ true
    goals_agree [] sub = refl
    goals_agree (g ∷ gs) sub =
        both (agree_by (out-Goal g) g (sub g (0, (omega arith), refl)) refl)
        (goals_agree gs (λ x c. (let lt = c.1 in sub x (suc c.0, (omega arith), c.2))))

  goal_passes : (layer : form.Goal-F Goal) → agrees layer ≡ true → FitsProgram program layer → GoalPasses tests layer
  goal_passes (form.Select site mode lists) h fits =
      let n = length lists in
      let some = fits.1 in
      let few = fits.2 in
      subst (λ (k : ℕ). (agrees_with site mode k && within site k) ≡ true) (sym (length-replicate n []))
      (both h (both (lt-ltb site program.sites fits.0) (both (lt-ltb 0 n (omega arith)) (lt-ltb n 501 (omega arith)))))
  goal_passes (form.Either lists) h fits = tt
  goal_passes (form.Once goals) h fits = tt
  goal_passes (form.Not goals) h fits = tt
  goal_passes (form.If test first other) h fits = tt
  goal_passes (form.Exhaust goals) h fits = tt
  goal_passes (form.Stoppable goals) h fits = tt
  goal_passes form.Forever h fits = tt
  goal_passes (form.Collect a goals b) h fits = (refl, refl)
  goal_passes (form.Accumulate a goals b) h fits = (refl, refl)
  goal_passes layer h fits = refl

  goals_pass : (vars : ℕ) (gs : List Goal) → all_agree gs ≡ true → All (IsGoalOf program vars) gs → GoalsPass tests gs
  goals_pass vars [] h a = tt
  goals_pass vars (g ∷ gs) h a =
      let k = and_parts (agrees (out-Goal g)) (all_agree gs) h in
      let is : IsGoalOf program vars g = a 0 g (omega arith) in
      (goal_passes (out-Goal g) k.0 is.fits, goals_pass vars gs k.1 (rest_of (IsGoalOf program vars) g gs a))

  abbrev rule_goals : Rule → List Goal
  rule_goals rule = all_goals_of rule.body

  abbrev pred_goals : Pred → List Goal
  pred_goals pred = flat_map rule_goals pred.rules

  abbrev closure_goals : ClosureBody → List Goal
  closure_goals closure = all_goals_of closure.body

  rules_pass : (rs : List Rule) → all_agree (flat_map rule_goals rs) ≡ true → All (IsRuleOf program) rs → RulesPass tests rs
  rules_pass [] h a = tt
  rules_pass (r ∷ rs) h a =
      let k = agree_both (rule_goals r) (flat_map rule_goals rs) h in
      let is : IsRuleOf program r = a 0 r (omega arith) in
      (refl, goals_pass r.vars (rule_goals r) k.0 is.body, rules_pass rs k.1 (rest_of (IsRuleOf program) r rs a))

  preds_pass : (ps : List Pred) → all_agree (flat_map pred_goals ps) ≡ true → All (IsPredOf program) ps → PredsPass tests ps
  preds_pass [] h a = tt
  preds_pass (p ∷ ps) h a =
      let k = agree_both (pred_goals p) (flat_map pred_goals ps) h in
      let is : IsPredOf program p = a 0 p (omega arith) in
      (rules_pass p.rules k.0 is.rules, preds_pass ps k.1 (rest_of (IsPredOf program) p ps a))

  closures_pass : (cs : List ClosureBody) → all_agree (flat_map closure_goals cs) ≡ true → All (IsClosureOf program) cs → ClosuresPass tests cs
  closures_pass [] h a = tt
  closures_pass (c ∷ cs) h a =
      let k = agree_both (closure_goals c) (flat_map closure_goals cs) h in
      let is : IsClosureOf program c = a 0 c (omega arith) in
      (goals_pass (closure_vars c) (closure_goals c) k.0 is.body, closures_pass cs k.1 (rest_of (IsClosureOf program) c cs a))

  program_passes : IsSound program → ProgramPasses tests program
  program_passes sound =
      let k = agree_both (flat_map pred_goals program.preds) (flat_map closure_goals program.closures) (goals_agree sound (all_goals program) (λ g c. c)) in
      record { entry = refl; preds = preds_pass program.preds k.0 sound.preds; closures = closures_pass program.closures k.1 sound.closures }

  -- ## The code

  -- what is known of a select
  record Known (s : Site) : Type 0 where
    site : s.number < program.sites
    some : 1 ≤ s.branches
    few : s.branches ≤ 500
    mode : (told s.number).0 ≡ code_of s.mode
    branches : (told s.number).1 ≡ s.branches

  known_by : (s : Site) → (agrees_with s.number s.mode s.branches && within s.number s.branches) ≡ true → Known s
  known_by s e =
      let h = and_parts (agrees_with s.number s.mode s.branches) (within s.number s.branches) e in
      let a = and_parts (eqb (told s.number).0 (code_of s.mode)) (eqb (told s.number).1 s.branches) h.0 in
      let w = and_parts (nat_lt s.number program.sites) (nat_lt 0 s.branches && nat_lt s.branches 501) h.1 in
      let n = and_parts (nat_lt 0 s.branches) (nat_lt s.branches 501) w.1 in
      let some = ltb-true 0 s.branches n.0 in
      let few = ltb-true s.branches 501 n.1 in
      record {
        site = ltb-true s.number program.sites w.0;
        some = omega arith;
        few = omega arith;
        mode = eqb-true (told s.number).0 (code_of s.mode) a.0;
        branches = eqb-true (told s.number).1 s.branches a.1;
      }

  abbrev AllKnown : List Site → Type 0
  AllKnown [] = Unit {0}
  AllKnown (s ∷ ss) = Known s × AllKnown ss

  known_both : (xs ys : List Site) → AllKnown xs → AllKnown ys → AllKnown (xs ++ ys)
  known_both [] ys h k = k
  known_both (x ∷ xs) ys h k = (h.0, known_both xs ys h.1 k)

  known_at : (ss : List Site) (s : Site) → AllKnown ss → Contains ss s → Known s
  known_at [] s h c = absurd (let lt = c.1 in omega arith)
  known_at (x ∷ ss) s h (zero, lt, is) = subst Known is h.0
  known_at (x ∷ ss) s h (suc k, lt, is) = known_at ss s h.1 (k, (omega arith), is)

  op_known : (x : Op) → OpPasses tests x → AllKnown (sites_of_op x)
  op_known (op.Select site mode blocks next) h =
      let n = length blocks in
      (known_by (record { number = site; mode = mode; branches = n }) (subst (λ (k : ℕ). (agrees_with site mode k && within site k) ≡ true) (length-replicate n []) h), tt)
  op_known x h = tt

  ops_known : (ops : List Op) → OpsPass tests ops → AllKnown (sites_of_ops ops)
  ops_known [] h = tt
  ops_known (x ∷ ops) h = known_both (sites_of_op x) (sites_of_ops ops) (op_known x h.0) (ops_known ops h.1)

  blocks_known : (blocks : List Block) → ((b : ℕ) → OpsPass tests (ops_of (slice_get blocks b))) → AllKnown (sites_of blocks)
  blocks_known [] h = tt
  blocks_known (block ∷ blocks) h = known_both (sites_of_ops block.ops) (sites_of blocks) (ops_known block.ops (h 0)) (blocks_known blocks (λ b. h (suc b)))

  are_sites : (ss : List Site) → AllKnown ss → AreSites program ss
  are_sites ss h = record {
    alike = λ a b ca cb e. alike a b (known_at ss a h ca) (known_at ss b h cb) e;
    known = λ s c. (known_at ss s h c).site;
    some = λ s c. (known_at ss s h c).some;
    few = λ s c. (known_at ss s h c).few;
  }
    where
      alike : (a b : Site) → Known a → Known b → a.number ≡ b.number → (a.mode ≡ b.mode) × (a.branches ≡ b.branches)
      alike a b ka kb e =
          let codes : code_of a.mode ≡ code_of b.mode = sym ka.mode ∙ ap (λ (n : ℕ). (told n).0) e ∙ kb.mode in
          (sym (mode_is a.mode) ∙ ap mode_of codes ∙ mode_is b.mode, sym ka.branches ∙ ap (λ (n : ℕ). (told n).1) e ∙ kb.branches)

pub sites_suit : SitesSuit
sites_suit program code sound light =
    are_sites program (sites_of code.blocks) (blocks_known program code.blocks (code_passes (tests program) program code light (program_passes program sound)))
