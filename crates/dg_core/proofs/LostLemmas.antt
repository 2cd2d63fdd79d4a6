-- A sound program stays sound where predicates have lost rules and places start otherwise.
use Rattle.std.proofs.Common.{◌≡◌, ◌≤◌, ◌⊎◌, inl, inr, ℕ, zero, suc, List, [], ◌∷◌, ◌++◌, Option, Some, None, length, refl, sym, ap, subst, arith}
use Rattle.std.specs.Prelude.{slice_get}
use Rattle.std.specs.List.{All, Contains, flat_map}
use Rattle.std.proofs.lemmas.List.{append-nil}
use Rattle.std.proofs.lemmas.List.Elements.{All-nil, All-cons, All-append, All-head, All-tail, All-weaker, All-contains, Contains-append_left, Contains-append_right}
use Rattle.dg_base.specs.Goals.{all_goals_of}
use Rattle.dg_base.specs.Sound.{IsName, IsSound, FitsHeads, FitsProgram, IsGoalOf, IsRuleOf, IsClosureOf, IsPredOf, IsEntry, all_goals}
use Rattle.dg_base.specs.declared.program.ClosureBody.{ClosureBody}
use Rattle.dg_base.specs.declared.program.CoreProgram.{CoreProgram as Core}
use Rattle.dg_base.specs.declared.program.Goal.{Goal, out-Goal}
use Rattle.dg_base.specs.declared.program.Goal.TheOpen as form
use Rattle.dg_base.specs.declared.program.Place.{Place}
use Rattle.dg_base.specs.declared.program.Pred.{Pred}
use Rattle.dg_base.specs.declared.program.Rule.{Rule}
use Rattle.dg_meaning.specs.Few.{AsksFew, AllAskFew, HeadsAreFew}
use Rattle.dg_core.specs.inside.Fewer.{HasLost, HaveLost, with_parts, Replace}
use Rattle.dg_core.proofs.MemberLemmas.{first_there}

-- what holds of each rule of a predicate holds of those that it has kept
kept : (P : Rule → Type 0) (p q : Pred) → HasLost p q → All P p.rules → All P q.rules
kept P p q l h = here l.rules
  where
    here : (q.rules ≡ p.rules) ⊎ (q.rules ≡ []) → All P q.rules
    here (inl e) = subst (All P) (sym e) h
    here (inr e) = subst (All P) (sym e) (All-nil P)

pub none_lost : (ps : List Pred) → HaveLost ps ps
none_lost [] = tt
none_lost (p ∷ ps) = (record { name = refl; rules = inl refl }, none_lost ps)

lost_length : (ps qs : List Pred) → HaveLost ps qs → length qs ≡ length ps
lost_length [] [] l = refl
lost_length [] (q ∷ qs) l = absurd l
lost_length (p ∷ ps) [] l = absurd l
lost_length (p ∷ ps) (q ∷ qs) l = omega (arith, lost_length ps qs l.1)

-- what holds of each rule holds of each that is left
pub rules_kept : (P : Rule → Type 0) (ps qs : List Pred) → HaveLost ps qs → All (λ (p : Pred). All P p.rules) ps → All (λ (q : Pred). All P q.rules) qs
rules_kept P [] [] l h = All-nil (λ (q : Pred). All P q.rules)
rules_kept P [] (q ∷ qs) l h = absurd l
rules_kept P (p ∷ ps) [] l h = absurd l
rules_kept P (p ∷ ps) (q ∷ qs) l h =
    let Each = λ (x : Pred). All P x.rules in
    All-cons Each q qs (kept P p q l.0 (All-head Each p ps h)) (rules_kept P ps qs l.1 (All-tail Each p ps h))

names_kept : (ps qs : List Pred) → HaveLost ps qs → All (λ (p : Pred). IsName p.name) ps → All (λ (q : Pred). IsName q.name) qs
names_kept [] [] l h = All-nil (λ (q : Pred). IsName q.name)
names_kept [] (q ∷ qs) l h = absurd l
names_kept (p ∷ ps) [] l h = absurd l
names_kept (p ∷ ps) (q ∷ qs) l h =
    let Each = λ (x : Pred). IsName x.name in
    All-cons Each q qs (subst IsName (sym l.0.name) (All-head Each p ps h)) (names_kept ps qs l.1 (All-tail Each p ps h))

-- the predicate of a number fits what it has fitted
heads_fit : (args k : ℕ) (ps qs : List Pred) → HaveLost ps qs → FitsHeads args (slice_get ps k) → FitsHeads args (slice_get qs k)
heads_fit args k [] [] l h = h
heads_fit args k [] (q ∷ qs) l h = absurd l
heads_fit args k (p ∷ ps) [] l h = absurd l
heads_fit args zero (p ∷ ps) (q ∷ qs) l h = kept (λ (r : Rule). length r.head ≡ args) p q l.0 h
heads_fit args (suc k) (p ∷ ps) (q ∷ qs) l h = heads_fit args k ps qs l.1 h

entry_kept : (k : ℕ) (ps qs : List Pred) → HaveLost ps qs → IsEntry (slice_get ps k) → IsEntry (slice_get qs k)
entry_kept k [] [] l h = h
entry_kept k [] (q ∷ qs) l h = absurd l
entry_kept k (p ∷ ps) [] l h = absurd l
entry_kept zero (p ∷ ps) (q ∷ qs) l h = kept (λ (r : Rule). r.head ≡ []) p q l.0 h
entry_kept (suc k) (p ∷ ps) (q ∷ qs) l h = entry_kept k ps qs l.1 h

-- ---- goals

abbrev goals_in : List Pred → List Goal
goals_in ps = flat_map (λ (p : Pred). flat_map (λ (r : Rule). all_goals_of r.body) p.rules) ps

abbrev pub Has : List Goal → Goal → Type 0
Has gs a = Contains gs a

pub all_had : (gs hs : List Goal) → All (Has (gs ++ hs)) gs
all_had [] hs = All-nil (Has ([] ++ hs))
all_had (g ∷ gs) hs = All-cons (Has (g ∷ (gs ++ hs))) g gs (first_there g (gs ++ hs)) (All-weaker (Has (gs ++ hs)) (Has (g ∷ (gs ++ hs))) (λ a h. Contains-append_right (g ∷ []) (gs ++ hs) a h) gs (all_had gs hs))

pub had_behind : (gs hs xs : List Goal) → All (Has hs) xs → All (Has (gs ++ hs)) xs
had_behind gs hs xs h = All-weaker (Has hs) (Has (gs ++ hs)) (λ a k. Contains-append_right gs hs a k) xs h

pub had_before : (gs hs xs : List Goal) → All (Has gs) xs → All (Has (gs ++ hs)) xs
had_before gs hs xs h = All-weaker (Has gs) (Has (gs ++ hs)) (λ a k. Contains-append_left gs hs a k) xs h

pub all_there : (gs hs : List Goal) → All (Has (gs ++ hs)) hs
all_there gs hs = had_behind gs hs hs (subst (λ (xs : List Goal). All (Has xs) hs) (append-nil hs) (all_had hs []))

abbrev pub rule_goals : List Rule → List Goal
rule_goals rs = flat_map (λ (r : Rule). all_goals_of r.body) rs

pred_had : (p q : Pred) (hs : List Goal) → HasLost p q → All (Has (rule_goals p.rules ++ hs)) (rule_goals q.rules)
pred_had p q hs l = here l.rules
  where
    here : (q.rules ≡ p.rules) ⊎ (q.rules ≡ []) → All (Has (rule_goals p.rules ++ hs)) (rule_goals q.rules)
    here (inl e) = subst (λ (rs : List Rule). All (Has (rule_goals p.rules ++ hs)) (rule_goals rs)) (sym e) (all_had (rule_goals p.rules) hs)
    here (inr e) = subst (λ (rs : List Rule). All (Has (rule_goals p.rules ++ hs)) (rule_goals rs)) (sym e) (All-nil (Has (rule_goals p.rules ++ hs)))

goals_had : (ps qs : List Pred) → HaveLost ps qs → All (Has (goals_in ps)) (goals_in qs)
goals_had [] [] l = All-nil (Has [])
goals_had [] (q ∷ qs) l = absurd l
goals_had (p ∷ ps) [] l = absurd l
goals_had (p ∷ ps) (q ∷ qs) l =
    let all = goals_in (p ∷ ps) in
    All-append (Has all) (rule_goals q.rules) (goals_in qs) (pred_had p q (goals_in ps) l.0) (had_behind (rule_goals p.rules) (goals_in ps) (goals_in qs) (goals_had ps qs l.1))

-- ---- the program

module _ (p : Core) (preds : List Pred) (places : List Place) (lost : HaveLost p.preds preds) (new : Replace p preds places) where
  abbrev q : Core
  q = with_parts p preds places

  form_fits : (layer : form.Goal-F Goal) → FitsProgram p layer → FitsProgram q layer
  form_fits (form.Ask pred args many) h = heads_fit (length args) pred p.preds preds lost h
  form_fits (form.Holds place args many) h = new.fit place (length args) h
  form_fits (form.Now place args set) h = new.fit place (length args) h
  form_fits (form.Text name) h = h
  form_fits (form.Either lists) h = h
  form_fits (form.Select site mode lists) h = h
  form_fits layer h = tt

  goal_fits : (vars : ℕ) (g : Goal) → IsGoalOf p vars g → IsGoalOf q vars g
  goal_fits vars g h = record { fits = form_fits (out-Goal g) h.fits; terms = h.terms }

  rule_fits : (r : Rule) → IsRuleOf p r → IsRuleOf q r
  rule_fits r h = record { few = h.few; head = h.head; body = All-weaker (IsGoalOf p r.vars) (IsGoalOf q r.vars) (goal_fits r.vars) (all_goals_of r.body) h.body }

  closure_fits : (c : ClosureBody) → IsClosureOf p c → IsClosureOf q c
  closure_fits c h = record {
    few = h.few;
    parameter = h.parameter;
    body = All-weaker (IsGoalOf p _) (IsGoalOf q _) (goal_fits _) (all_goals_of c.body) h.body;
  }

  pred_fits : (ps : List Pred) → All (λ (x : Pred). IsName x.name) ps → All (λ (x : Pred). All (IsRuleOf p) x.rules) ps → All (IsPredOf q) ps
  pred_fits [] n h = All-nil (IsPredOf q)
  pred_fits (x ∷ ps) n h =
      let here : IsPredOf q x = record {
        name = All-head (λ (y : Pred). IsName y.name) x ps n;
        rules = All-weaker (IsRuleOf p) (IsRuleOf q) rule_fits x.rules (All-head (λ (y : Pred). All (IsRuleOf p) y.rules) x ps h);
      } in
      All-cons (IsPredOf q) x ps here (pred_fits ps (All-tail (λ (y : Pred). IsName y.name) x ps n) (All-tail (λ (y : Pred). All (IsRuleOf p) y.rules) x ps h))

  goals_there : All (Has (all_goals p)) (all_goals q)
  goals_there =
      let closures = flat_map (λ (c : ClosureBody). all_goals_of c.body) p.closures in
      All-append (Has (all_goals p)) (goals_in preds) closures (had_before (goals_in p.preds) closures (goals_in preds) (goals_had p.preds preds lost)) (all_there (goals_in p.preds) closures)

  pub stays_sound : IsSound p → IsSound q
  stays_sound h =
      let names = names_kept p.preds preds lost (All-weaker (IsPredOf p) (λ (x : Pred). IsName x.name) (λ x k. k.name) p.preds h.preds) in
      let rules = rules_kept (IsRuleOf p) p.preds preds lost (All-weaker (IsPredOf p) (λ (x : Pred). All (IsRuleOf p) x.rules) (λ x k. k.rules) p.preds h.preds) in
      record {
        preds = pred_fits preds names rules;
        closures = All-weaker (IsClosureOf p) (IsClosureOf q) closure_fits p.closures h.closures;
        places = new.sound;
        parent = new.parent;
        objects = h.objects;
        words = h.words;
        words_differ = h.words_differ;
        sites = λ a b i j. h.sites a b (All-contains (Has (all_goals p)) (all_goals q) a goals_there i) (All-contains (Has (all_goals p)) (all_goals q) b goals_there j);
        entry = entry_kept p.entry p.preds preds lost h.entry;
        few_preds = omega (arith, lost_length p.preds preds lost, h.few_preds);
        few_closures = h.few_closures;
        few_places = new.few;
        few_objects = h.few_objects;
        few_words = h.few_words;
      }

-- ---- few terms

pub asks_kept : (n : ℕ) (p : Core) (preds : List Pred) (places : List Place) → HaveLost p.preds preds → AllAskFew n p → AllAskFew n (with_parts p preds places)
asks_kept n p preds places l h = record { preds = rules_kept (λ (r : Rule). All (AsksFew n) (all_goals_of r.body)) p.preds preds l h.preds; closures = h.closures }

pub heads_kept : (n : ℕ) (p : Core) (preds : List Pred) (places : List Place) → HaveLost p.preds preds → HeadsAreFew n p → HeadsAreFew n (with_parts p preds places)
heads_kept n p preds places l h = rules_kept (λ (r : Rule). length r.head ≤ n) p.preds preds l h
