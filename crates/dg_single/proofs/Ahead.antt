-- Steps that pass a mark at most once, and what goals lead to in front of them.
use Rattle.std.proofs.Common.{◌≡◌, ◌≢◌, ℕ, zero, suc, ◌+◌, ◌⊎◌, inl, inr, List, [], ◌∷◌, ◌++◌, Option, Some, None, Bool, true, false, refl, sym, ap, ◌∙◌, length, map}
use Rattle.std.specs.Prelude.{slice_get, get_or, ◌&&◌, ◌||◌}
use Rattle.dg_base.specs.declared.program.Goal.{Goal, Goal-F, out-Goal}
use Rattle.dg_base.specs.declared.program.Goal.TheOpen.{Text, Print as Print-Form, Gap, GapN, Equal, Ask, Holds, Now, Query, Either, Once, Not, If, Just, Fail, Stop, Quit, Forever, Exhaust, Collect, Accumulate, Stoppable, Select, Arith, Compare, Random, Test, IsObject, Input, SplitWord, JoinWords}
use Rattle.dg_base.specs.declared.program.Rule.{Rule}
use Rattle.dg_base.specs.declared.program.Pred.{Pred}
use Rattle.dg_meaning.specs.Values.{Value, value_of}
use Rattle.dg_meaning.specs.World.{Game, World, worked}
use Rattle.dg_meaning.specs.Path.{Step, Do, Answers, Cut, Refuse, Back, Keep, Leave, Registers, Path, Branch, Goes, Tests, Unifies, Ends, Fails, Stops, Effect, Acts, Offers}
use Rattle.dg_base.specs.Goals.{option_terms}
use Rattle.dg_meaning.specs.Substitutions.{walk, resolved}
use Rattle.dg_meaning.specs.Facts.{kinds_of}
use Rattle.dg_meaning.specs.Numbers.{of_numbers, calculated, thrown}
use Rattle.dg_meaning.specs.Words.{letters_in_word, joined_letters}
use Rattle.dg_meaning.specs.Choosing.{die}
use Rattle.dg_meaning.specs.Moves.{goals_at, enter_if, is_excluded, call_cells, unless_excluded, first_alone, vars_of, rule_branch, rule_branches, rules_of, path_at, selects, gives_number, spaces, change_place, throws, splits, joins, takes_line, looked_up, whole_looks, effect}
use Rattle.dg_meaning.specs.inside.OneAnswer.{IsFree}
use Rattle.dg_single.specs.Plain.{is_just, is_cut_goal, is_plain_form, is_plain, has_just, has_cut, are_plain, rules_fit}
use Rattle.dg_meaning.specs.Sets.{is_in_set}
use Rattle.dg_single.specs.inside.Left.{all_plain, inside_plain}
use Rattle.dg_single.proofs.SetLemmas.{and_left, and_right, or_cases}
use Rattle.dg_single.specs.Singles.{IsClosed}
use Rattle.dg_single.proofs.Shapes.{Grown, PathFits, AllFit, ActFits, EffectFits, free_goals, quiet_fits, spaces_quiet, place_quiet, number_quiet, throws_quiet, splits_quiet, joins_quiet, line_quiet, preds_fit, place_fits, asked_fits, query_fits, effect_fits}

-- ## Seals

-- the goal cuts to the tag c
abbrev pub seals : Goal-F Goal → ℕ → ℕ → Type 0
seals Just t c = c ≡ t
seals Fail t c = c ≡ t
seals x t c = ⊥

-- before the mark of q a cut to the tag c is passed
abbrev pub SealedBy : ℕ → ℕ → List Step → Type 0
SealedBy q c [] = ⊥
SealedBy q c (Do x env t ∷ s) = seals (out-Goal x) t c ⊎ SealedBy q c s
SealedBy q c (Answers p ∷ s) = (p ≢ q) × SealedBy q c s
SealedBy q c (Cut t ∷ s) = (c ≡ t) ⊎ SealedBy q c s
SealedBy q c (Leave t o ∷ s) = (c ≡ t) ⊎ SealedBy q c s
SealedBy q c (x ∷ s) = ⊥

abbrev pub Sealed : ℕ → List Step → Type 0
Sealed q s = (c : ℕ) × SealedBy q c s

-- The mark of q is ahead, with these steps behind it and this as the innermost stoppable part there; each goal before it is plain, or sealed by what comes behind it.
abbrev pub Ahead : ℕ → List Bool → List Step → Option ℕ → Option ℕ → List Step → Type 0
Ahead q S rest o0 o [] = ⊥
Ahead q S rest o0 o (Do x env t ∷ s) = ((is_plain S x ≡ true) ⊎ Sealed q s) × Ahead q S rest o0 o s
Ahead q S rest o0 o (Answers p ∷ s) = ((p ≡ q) × (s ≡ rest) × (o ≡ o0)) ⊎ ((p ≢ q) × Ahead q S rest o0 o s)
Ahead q S rest o0 o (Cut t ∷ s) = Ahead q S rest o0 o s
Ahead q S rest o0 o (Leave t outer ∷ s) = Ahead q S rest o0 outer s
Ahead q S rest o0 o (x ∷ s) = ⊥

seals_just : (x : Goal-F Goal) (t : ℕ) → is_just x ≡ true → seals x t t
seals_just Just t h = refl
seals_just _ t h = absurd (cc (h))

seals_cut : (x : Goal-F Goal) (t : ℕ) → is_cut_goal x ≡ true → seals x t t
seals_cut Just t h = refl
seals_cut Fail t h = refl
seals_cut _ t h = absurd (cc (h))

goals_sealed : (q c : ℕ) (env : List Value) (t : ℕ) (gs : List Goal) (b : List Step) → SealedBy q c b → SealedBy q c (goals_at env t gs ++ b)
goals_sealed q c env t [] b h = h
goals_sealed q c env t (x ∷ gs) b h = inr (goals_sealed q c env t gs b h)

just_seals : (q : ℕ) (env : List Value) (t : ℕ) (gs : List Goal) (b : List Step) → has_just gs ≡ true → SealedBy q t (goals_at env t gs ++ b)
just_seals q env t [] b h = absurd (cc (h))
just_seals q env t (x ∷ gs) b h = elim (or_cases (is_just (out-Goal x)) (has_just gs) h) [ inl e ↦ inl (seals_just (out-Goal x) t e) | inr e ↦ inr (just_seals q env t gs b e) ]

cut_seals : (q : ℕ) (env : List Value) (t : ℕ) (gs : List Goal) (b : List Step) → has_cut gs ≡ true → SealedBy q t (goals_at env t gs ++ b)
cut_seals q env t [] b h = absurd (cc (h))
cut_seals q env t (x ∷ gs) b h = elim (or_cases (is_cut_goal (out-Goal x)) (has_cut gs) h) [ inl e ↦ inl (seals_cut (out-Goal x) t e) | inr e ↦ inr (cut_seals q env t gs b e) ]

module _ (q : ℕ) (S : List Bool) (rest : List Step) (o0 : Option ℕ) where
  -- a plain body in front
  list_ahead : (o : Option ℕ) (env : List Value) (t : ℕ) (gs : List Goal) (b : List Step) → are_plain S gs ≡ true → Ahead q S rest o0 o b → Ahead q S rest o0 o (goals_at env t gs ++ b)
  list_ahead o env t [] b h k = k
  list_ahead o env t (x ∷ gs) b h k = (
    elim (or_cases (has_just gs) (is_plain S x) (and_right (are_plain S gs) (has_just gs || is_plain S x) h)) [ inl e ↦ inr (t, just_seals q env t gs b e) | inr e ↦ inl e ],
    list_ahead o env t gs b (and_left (are_plain S gs) (has_just gs || is_plain S x) h) k,
  )

  -- a kind of steps: those ahead of which the mark is, with each seal that is wanted
  abbrev pub Wants : (ℕ → Type 0) → Option ℕ → List Step → Type 0
  Wants Q o s = Ahead q S rest o0 o s × ((c : ℕ) → Q c → SealedBy q c s)

  -- behind a seal any goal may stand
  abbrev pub Under : ℕ → (ℕ → Type 0) → Option ℕ → List Step → Type 0
  Under c0 Q o s = Wants Q o s × SealedBy q c0 s

  under_grown : (c0 : ℕ) (Q : ℕ → Type 0) → Grown q (Under c0 Q)
  under_grown c0 Q = record {
    does = λ o x env t s h. (((inr (c0, h.1), h.0.0), λ c w. inr (h.0.1 c w)), inr h.1);
    tells = λ o p s ne h. ((inr (ne, h.0.0), λ c w. (ne, h.0.1 c w)), (ne, h.1));
    cuts = λ o t s h. ((h.0.0, λ c w. inr (h.0.1 c w)), inr h.1);
    leaves = λ o t s h. ((h.0.0, λ c w. inr (h.0.1 c w)), inr h.1);
  }

  -- ## Branches

  abbrev pub PathOk : (ℕ → Type 0) → Path → List Branch → Type 0
  PathOk Q path others = IsFree q path.steps ⊎ (Wants Q path.registers.stoppable path.steps × (Sealed q path.steps ⊎ (others ≡ [])))

  -- each branch has no mark ahead, or the mark and each wanted seal, and is sealed where others are behind it
  abbrev pub BranchesOk : (ℕ → Type 0) → List Branch → Type 0
  BranchesOk Q [] = Unit {0}
  BranchesOk Q (b ∷ bs) = PathOk Q (path_at b) bs × BranchesOk Q bs

  abbrev pub EffectOk : (ℕ → Type 0) → Registers → Effect → Type 0
  EffectOk Q r (Acts a) = ActFits (Wants Q) r a
  EffectOk Q r (Offers k bs w) = BranchesOk Q bs

  under_path : (c0 : ℕ) (Q : ℕ → Type 0) (path : Path) (others : List Branch) → PathFits q (Under c0 Q) path → PathOk Q path others
  under_path c0 Q path others (inl h) = inl h
  under_path c0 Q path others (inr h) = inr (h.0, inl (c0, h.1))

  under_all : (c0 : ℕ) (Q : ℕ → Type 0) (bs : List Branch) → AllFit q (Under c0 Q) bs → BranchesOk Q bs
  under_all c0 Q [] h = tt
  under_all c0 Q (b ∷ bs) h = (under_path c0 Q (path_at b) bs h.0, under_all c0 Q bs h.1)

  under_effect : (c0 : ℕ) (Q : ℕ → Type 0) (r : Registers) (e : Effect) → EffectFits q (Under c0 Q) r e → EffectOk Q r e
  under_effect c0 Q r (Acts (Goes next w)) h = h.0
  under_effect c0 Q r (Acts (Tests passed w)) h = tt
  under_effect c0 Q r (Acts (Unifies made es w)) h = h
  under_effect c0 Q r (Acts (Ends e w)) h = tt
  under_effect c0 Q r (Acts (Fails w)) h = tt
  under_effect c0 Q r (Acts (Stops w)) h = tt
  under_effect c0 Q r (Offers k bs w) h = under_all c0 Q bs h

  if_ok : (Q : ℕ → Type 0) (b : Bool) (path : Path) (work : ℕ) (others : List Branch) → PathOk Q path others → PathOk Q (path_at (enter_if b path work)) others
  if_ok Q true path work others h = h
  if_ok Q false path work others h = inl tt

  unless_ok : (Q : ℕ → Type 0) (b : Bool) (r : Registers) (work : ℕ) (x : Branch) (others : List Branch) → PathOk Q (path_at x) others → PathOk Q (path_at (unless_excluded b r work x)) others
  unless_ok Q true r work x others h = inl tt
  unless_ok Q false r work x others h = h

  all_plain_at : (lists : List (List Goal)) (k : ℕ) → all_plain S lists ≡ true → are_plain S (get_or lists k []) ≡ true
  all_plain_at [] k h = refl
  all_plain_at (gs ∷ lists) zero h = and_left (are_plain S gs) (all_plain S lists) h
  all_plain_at (gs ∷ lists) (suc k) h = all_plain_at lists k (and_right (are_plain S gs) (all_plain S lists) h)

  module _ (g : Game) (none : slice_get g.program.preds q ≡ None) (closed : IsClosed g.program.preds S) (Q : ℕ → Type 0) (env : List Value) (t : ℕ) (steps : List Step) (r : Registers) (ahead : Ahead q S rest o0 r.stoppable steps) (wants : (c : ℕ) → Q c → SealedBy q c steps) where
    here : Wants Q r.stoppable steps
    here = (ahead, wants)

    -- the first answer alone is sealed by its own cut
    only : Under r.next_tag Q r.stoppable (first_alone false r.next_tag steps)
    only = ((ahead, λ c w. inr (wants c w)), inl refl)

    rule_ok : (pred : ℕ) → pred ≢ q → (args : List Value) (heap : ℕ) (rule : Rule) (others : List Branch) → are_plain S rule.body ≡ true → (has_cut rule.body ≡ true) ⊎ (others ≡ []) → PathOk Q (path_at (rule_branch g pred args true steps r heap rule)) others
    rule_ok pred ne args heap rule others plain last =
        let e = vars_of rule r in
        let l = goals_at e r.next_tag rule.body ++ Answers pred ∷ steps in
        unless_ok Q (is_excluded args r rule) r _ _ others (if_ok Q _ _ _ others (inr (
          (list_ahead r.stoppable e r.next_tag rule.body (Answers pred ∷ steps) plain (inr (ne, ahead)), λ c w. goals_sealed q c e r.next_tag rule.body (Answers pred ∷ steps) (ne, wants c w)),
          elim last [ inl cuts ↦ inl (r.next_tag, cut_seals q e r.next_tag rule.body (Answers pred ∷ steps) cuts) | inr e ↦ inr e ],
        )))

    rules_ok : (pred : ℕ) → pred ≢ q → (args : List Value) (rules : List Rule) → rules_fit S rules ≡ true → BranchesOk Q (rule_branches g pred args true steps r rules)
    rules_ok pred ne args [] h = tt
    rules_ok pred ne args (rule ∷ []) h =
        let first = and_left (are_plain S rule.body && (true || has_cut rule.body)) true h in
        (rule_ok pred ne args (call_cells args r []) rule [] (and_left (are_plain S rule.body) true first) (inr refl), tt)
    rules_ok pred ne args (rule ∷ r2 ∷ rules) h =
        let first = and_left (are_plain S rule.body && (false || has_cut rule.body)) (rules_fit S (r2 ∷ rules)) h in (
          rule_ok pred ne args (call_cells args r (r2 ∷ rules)) rule _ (and_left (are_plain S rule.body) (has_cut rule.body) first) (inl (and_right (are_plain S rule.body) (has_cut rule.body) first)),
          rules_ok pred ne args (r2 ∷ rules) (and_right (are_plain S rule.body && (false || has_cut rule.body)) (rules_fit S (r2 ∷ rules)) h),
        )

    preds_ok : (pred : ℕ) (o : Option Pred) → slice_get g.program.preds pred ≡ o → (args : List Value) → is_in_set S pred ≡ true → BranchesOk Q (rule_branches g pred args true steps r (rules_of o))
    preds_ok pred None e args h = tt
    preds_ok pred (Some p) e args h = rules_ok pred (λ is. let s : Some p ≡ None = sym e ∙ ap (slice_get g.program.preds) is ∙ none in absurd (cc (s))) args p.rules (closed pred p e h)

    body : (gs : List Goal) → are_plain S gs ≡ true → Wants Q r.stoppable (goals_at env t gs ++ steps)
    body gs h = (list_ahead r.stoppable env t gs steps h ahead, λ c w. goals_sealed q c env t gs steps (wants c w))

    -- a body that is sealed by a cut behind it
    sealed_body : (gs : List Goal) (o : Option ℕ) (l : List Step) (c0 : ℕ) → Under c0 Q o l → Wants Q o (goals_at env t gs ++ l) × Sealed q (goals_at env t gs ++ l)
    sealed_body [] o l c0 h = (h.0, (c0, h.1))
    sealed_body (x ∷ gs) o l c0 h = let rec = sealed_body gs o l c0 h in (((inr rec.1, rec.0.0), λ c w. inr (rec.0.1 c w)), (rec.1.0, inr rec.1.1))

    pub plain_ok : (x : Goal-F Goal) (w : World) → is_plain_form S x ≡ true → inside_plain S x ≡ true → EffectOk Q r (effect g x env t steps r w)
    plain_ok (Ask pred args true) w h k = preds_ok pred (slice_get g.program.preds pred) refl (map (value_of g.program env) args) h
    plain_ok (Ask pred args false) w h k = under_all r.next_tag Q _ (preds_fit g q none (Under r.next_tag Q) (under_grown r.next_tag Q) steps r pred (slice_get g.program.preds pred) refl (map (value_of g.program env) args) false only)
    plain_ok (Holds place args true) w h k = absurd (cc (h))
    plain_ok (Holds place args false) w h k = under_effect r.next_tag Q r _ (place_fits g q none (Under r.next_tag Q) (under_grown r.next_tag Q) steps r place (slice_get (kinds_of g.program) place) (map (value_of g.program env) args) false w only)
    plain_ok (IsObject a true) w h k = absurd (cc (h))
    plain_ok (IsObject a false) w h k = under_effect r.next_tag Q r _ (asked_fits g q none (Under r.next_tag Q) (under_grown r.next_tag Q) steps r None (value_of g.program env a ∷ []) false w only)
    plain_ok (Query a b true) w h k = absurd (cc (h))
    plain_ok (Query a b false) w h k = under_effect r.next_tag Q r _ (query_fits g q none (Under r.next_tag Q) (under_grown r.next_tag Q) steps r (walk r.bound (value_of g.program env a)) (map (value_of g.program env) (option_terms b)) false _ only)
    plain_ok (Either lists) w h k = absurd (cc (h))
    plain_ok Forever w h k = absurd (cc (h))
    plain_ok (Select site mode lists) w h k = body (get_or lists (selects g site mode (length lists) w).branch []) (all_plain_at lists (selects g site mode (length lists) w).branch k)
    plain_ok (Once gs) w h k = let b = sealed_body gs r.stoppable (Cut r.next_tag ∷ steps) r.next_tag only in (inr (b.0, inl b.1), tt)
    plain_ok (Not gs) w h k = (inl (free_goals q env t gs (Refuse r.next_tag ∷ []) tt), (inr (here, inr refl), tt))
    plain_ok (If test first other) w h k =
        let f = body first (and_left (are_plain S first) (are_plain S other) k) in
        let b = sealed_body test r.stoppable (Cut r.next_tag ∷ (goals_at env t first ++ steps)) r.next_tag ((f.0, λ c w. inr (f.1 c w)), inl refl) in
        (inr (b.0, inl b.1), (inr (body other (and_right (are_plain S first) (are_plain S other) k), inr refl), tt))
    plain_ok (Exhaust gs) w h k = (inl (free_goals q env t gs (Back ∷ []) tt), (inr (here, inr refl), tt))
    plain_ok (Collect x gs into) w h k = (inl (free_goals q env t gs (Keep r.next_tag x env ∷ []) tt), (inr (here, inr refl), tt))
    plain_ok (Accumulate x gs into) w h k = (inl (free_goals q env t gs (Keep r.next_tag x env ∷ []) tt), (inr (here, inr refl), tt))
    plain_ok (Stoppable gs) w h k =
        let b = sealed_body gs (Some r.next_tag) (Leave r.next_tag r.stoppable ∷ steps) r.next_tag ((ahead, λ c w. inr (wants c w)), inl refl) in
        (inr (b.0, inl b.1), (inr (here, inr refl), tt))
    plain_ok Just w h k = (ahead, λ c w. inr (wants c w))
    plain_ok (Text name) w h k = here
    plain_ok (Print-Form a) w h k = here
    plain_ok (Gap kind) w h k = here
    plain_ok (GapN a) w h k = quiet_fits (Wants Q) steps r here (spaces (walk r.bound (value_of g.program env a)) steps _) (spaces_quiet steps r (walk r.bound (value_of g.program env a)) _)
    plain_ok (Equal a b) w h k = refl
    plain_ok (Now place args sets) w h k =
        let kind = slice_get (kinds_of g.program) place in
        quiet_fits (Wants Q) steps r here (change_place g place kind (map (value_of g.program env) args) sets steps r w) (place_quiet steps r g place kind (map (value_of g.program env) args) sets w)
    plain_ok (Arith op a b c) w h k =
        let v = value_of g.program env a in
        let u = value_of g.program env b in
        let n = of_numbers (calculated op) (walk r.bound v) (walk r.bound u) in
        let w' = worked (looked_up r v + looked_up r u) w in
        quiet_fits (Wants Q) steps r here (gives_number n (value_of g.program env c) r w') (number_quiet steps r n (value_of g.program env c) w')
    plain_ok (Compare op a b) w h k = tt
    plain_ok (Random a b c) w h k =
        let v = value_of g.program env a in
        let u = value_of g.program env b in
        let n = of_numbers (thrown (die g.dice w.dice)) (walk r.bound v) (walk r.bound u) in
        let w' = worked (looked_up r v + looked_up r u) w in
        quiet_fits (Wants Q) steps r here (throws n (value_of g.program env c) r w') (throws_quiet steps r n (value_of g.program env c) w')
    plain_ok (SplitWord a b) w h k =
        let letters = letters_in_word g.program.words (walk r.bound (value_of g.program env a)) in
        let w' = worked (looked_up r (value_of g.program env a)) w in
        quiet_fits (Wants Q) steps r here (splits g letters (value_of g.program env b) r w') (splits_quiet steps r g letters (value_of g.program env b) w')
    plain_ok (JoinWords a b) w h k =
        let letters = joined_letters g.program.words (resolved r.bound (value_of g.program env a)) in
        let w' = worked (whole_looks r (value_of g.program env a)) w in
        quiet_fits (Wants Q) steps r here (joins g letters (value_of g.program env b) r w') (joins_quiet steps r g letters (value_of g.program env b) w')
    plain_ok (Input a) w h k = quiet_fits (Wants Q) steps r here (takes_line g w.typed (value_of g.program env a) r w) (line_quiet steps r g w.typed (value_of g.program env a) w)
    plain_ok (Test kind a) w h k = tt
    plain_ok Fail w h k = tt
    plain_ok Stop w h k = tt
    plain_ok Quit w h k = tt

    -- any goal, behind which a seal stands
    pub sealed_ok : (c0 : ℕ) → SealedBy q c0 steps → (x : Goal-F Goal) (w : World) → EffectOk Q r (effect g x env t steps r w)
    sealed_ok c0 seal x w = under_effect c0 Q r _ (effect_fits g q none (Under c0 Q) (under_grown c0 Q) env t steps r ((ahead, wants), seal) x w)
