-- A search that has the mark ahead passes it at most once.
use Rattle.std.proofs.Common.{◌≡◌, ℕ, zero, suc, ◌+◌, ◌<◌, ◌≤◌, ◌⊎◌, inl, inr, List, [], ◌∷◌, ◌++◌, Option, Some, None, Bool, true, false, refl, sym, ap, ◌∙◌, subst, arith}
use Rattle.std.specs.Prelude.{slice_get, eqb, nat_lt}
use Rattle.std.proofs.lemmas.Bool.{cond_both, eqb-true, eq-eqb, ne_eqb}
use Rattle.dg_base.specs.declared.program.Goal.{Goal, Goal-F, out-Goal}
use Rattle.dg_base.specs.declared.program.Goal.TheOpen.{Just, Fail}
use Rattle.dg_base.specs.Goals.{terms_held}
use Rattle.dg_meaning.specs.Values.{Value}
use Rattle.dg_meaning.specs.World.{Game, World, Answered, noted, worked}
use Rattle.dg_meaning.specs.Cells.{writing}
use Rattle.dg_meaning.specs.Path.{Step, Do, Answers, Cut, Refuse, Back, Keep, Leave, Registers, Path, Result, Failing, CutFail, StopTo, End, Answer, Branch, Enter, Clash, TakeOut, Finds, ChoiceKind, Plain, Rules, Shield, Gathers, Move, GoesOn, FailsAt, EndsAt, StopsAt, Outcome, Effect, Acts, Offers}
use Rattle.dg_meaning.specs.Moves.{path_of, begun, path_at, begins, effect, outcome_of, behind_terms, move}
use Rattle.dg_meaning.specs.Search.{Search, answer, cut_result, cut_first, branches_cut, later, retried, leave, catches, after_branch, after_move, begin, choose, choose_first, after_goal, take_goal, go, nowhere, search_to}
use Rattle.dg_meaning.specs.inside.Context.{Around, InBranch, InCut, Older, Holds, Shielded, StopIn, StepsIn, PathIn, BranchIn, BranchesIn}
use Rattle.dg_meaning.specs.inside.Keeps.{world_at, world_of}
use Rattle.dg_meaning.specs.inside.OneAnswer.{passes, IsFree}
use Rattle.dg_meaning.proofs.Bindings.{binds_along}
use Rattle.dg_meaning.proofs.Context.{holds_older, shield_older}
use Rattle.dg_meaning.proofs.Stays.{passes_append}
use Rattle.dg_meaning.proofs.Tags.{MoveIn, OutcomeIn, move_in, begin_in}
use Rattle.dg_single.specs.Plain.{is_plain_form}
use Rattle.dg_single.specs.inside.Left.{inside_plain}
use Rattle.dg_single.specs.Singles.{IsClosed}
use Rattle.dg_single.proofs.PlainLemmas.{plain_out}
use Rattle.dg_single.proofs.SetLemmas.{and_left, and_right}
use Rattle.dg_single.proofs.Cold.{Same, exhausted_same, retried_same, leave_same, begins_same, taken_same, answered_same, MoveFits, act_fits, begins_fits, IsCold, begin_cold, go_cold, search_cold}
use Rattle.dg_single.proofs.Scope.{ResultIn, IsScoped, caught_held, branches_cut_in, later_never, begin_scoped, go_scoped, search_scoped}
use Rattle.dg_single.proofs.Ahead.{seals, SealedBy, Sealed, Ahead, Wants, PathOk, BranchesOk, EffectOk, plain_ok, sealed_ok}

abbrev pub ResultSealed : ℕ → Result → Type 0
ResultSealed c Failing = ⊥
ResultSealed c (CutFail v) = v ≤ c
ResultSealed c r = Unit {0}

pub record IsBehind (ctx0 ctx : List Around) : Type 0 where
  pub front : List Around
  pub is : ctx ≡ front ++ ctx0

older_behind : (t : ℕ) (front ctx0 : List Around) → Older t (front ++ ctx0) → Older t ctx0
older_behind t [] ctx0 h = h
older_behind t (InBranch k u bs ∷ front) ctx0 h = older_behind t front ctx0 h.1
older_behind t (InCut u ∷ front) ctx0 h = older_behind t front ctx0 h

sealed_held : (q c : ℕ) (ctx : List Around) (s : List Step) → StepsIn ctx s → SealedBy q c s → Holds ctx c
sealed_held q c ctx (Do x env t ∷ s) h (inl e) = subst (Holds ctx) (sym (seals_tag (out-Goal x) t c e)) h.0
  where
    seals_tag : (x : Goal-F Goal) (t c : ℕ) → seals x t c → c ≡ t
    seals_tag Just t c e = e
    seals_tag Fail t c e = e
    seals_tag _ t c e = absurd e
sealed_held q c ctx (Do x env t ∷ s) h (inr k) = sealed_held q c ctx s h.1 k
sealed_held q c ctx (Answers p ∷ s) h k = sealed_held q c ctx s h k.1
sealed_held q c ctx (Cut t ∷ s) h (inl e) = subst (Holds ctx) (sym e) h.0
sealed_held q c ctx (Cut t ∷ s) h (inr k) = sealed_held q c ctx s h.1 k
sealed_held q c ctx (Leave t o ∷ s) h (inl e) = subst (Holds ctx) (sym e) h.0
sealed_held q c ctx (Leave t o ∷ s) h (inr k) = sealed_held q c ctx s h.1.1 k
sealed_held q c ctx [] h k = absurd k
sealed_held q c ctx (Refuse t ∷ s) h k = absurd k
sealed_held q c ctx (Back ∷ s) h k = absurd k
sealed_held q c ctx (Keep t x env ∷ s) h k = absurd k

answered_one : (q p : ℕ) (w : World) → p ≡ q → passes q (noted (Answered p) w).events ≡ suc (passes q w.events)
answered_one q p w e = let one = cond_both (eqb p q) 1 0 (λ k. k + 0 ≡ 1) (λ e'. refl) (λ e'. let yes' = eq-eqb p q e in absurd (cc (yes', e'))) in omega (arith, passes_append q w.events (Answered p ∷ []), one)

module _ (g : Game) (q : ℕ) (none : slice_get g.program.preds q ≡ None) (S : List Bool) (closed : IsClosed g.program.preds S) (rest : List Step) (free : IsFree q rest) (ctx0 : List Around) (o0 : Option ℕ) (rest_in : StepsIn ctx0 rest) (stop0 : StopIn ctx0 o0) where
  abbrev pub StopsOld : Result → Type 0
  StopsOld (StopTo x c) = Shielded ctx0 x
  StopsOld r = Unit {0}

  abbrev pub After : (ℕ → Type 0) → Result → Type 0
  After Q r = ((c : ℕ) → Q c → ResultSealed c r) × StopsOld r

  -- the mark wasn't passed, or once, and then nothing comes back over a wanted seal
  abbrev pub Res : (ℕ → Type 0) → World → Answer → Type 0
  Res Q w a = Same q w a.world ⊎ ((passes q a.world.events ≡ suc (passes q w.events)) × After Q a.result)

  abbrev pub Mine : List Step → ℕ → Type 0
  Mine steps c = SealedBy q c steps

  abbrev pub IsHot : Search → Type 0
  IsHot s = (ctx : List Around) (n : ℕ) (path : Path) (w : World) → IsBehind ctx0 ctx → PathIn ctx path → Ahead q S rest o0 path.registers.stoppable path.steps → Res (Mine path.steps) w (s n path w)

  res_from : (Q : ℕ → Type 0) (w v : World) (a : Answer) → Same q w v → Res Q v a → Res Q w a
  res_from Q w v a e (inl h) = inl (h ∙ e)
  res_from Q w v a e (inr h) = inr (h.0 ∙ ap suc e, h.1)

  -- what a branch comes to
  abbrev pub BranchRes : (ℕ → Type 0) → World → World → Result → List Branch → Type 0
  BranchRes Q u w r bs = Same q u w ⊎ ((passes q w.events ≡ suc (passes q u.events)) × After Q r × (((c : ℕ) × ResultSealed c r) ⊎ (bs ≡ [])))

  after_hot : (Q : ℕ → Type 0) (k : ChoiceKind) (t : ℕ) (bs : List Branch) (n : ℕ) (u w : World) (r : Result) (next : ℕ → World → Answer) (stopped : Option ℕ → ℕ → World → Answer) → ((c : ℕ) → Q c → c < t) → ((x : ℕ) → Shielded ctx0 x → catches k t x ≡ false) → BranchRes Q u w r bs → Res Q w (next n w) → (bs ≡ [] → Same q w (next n w).world × ((next n w).result ≡ Failing)) → ((x : ℕ) (c : Option ℕ) → r ≡ StopTo x c → catches k t x ≡ true → Res Q w (stopped c n w)) → Res Q u (after_branch k t n w r next stopped)
  after_hot Q k t bs n u w Failing next stopped lt old (inl e) hn hl hs = res_from Q u w (next n w) e hn
  after_hot Q k t bs n u w Failing next stopped lt old (inr h) hn hl hs =
      elim h.2 [
        | inl c ↦ absurd c.1
        | inr e ↦ let l = hl e in inr (l.0 ∙ h.0, subst (After Q) (sym l.1) h.1)
      ]
  after_hot Q k t bs n u w (CutFail v) next stopped lt old (inl e) hn hl hs = inl (leave_same q k t w ∙ e)
  after_hot Q k t bs n u w (CutFail v) next stopped lt old (inr h) hn hl hs =
      inr (
        leave_same q k t w ∙ h.0,
        cond_both (eqb v t) Failing (CutFail v) (After Q) (λ e. (λ c wanted. let is = eqb-true v t e in absurd (omega (arith, is, h.1.0 c wanted, lt c wanted)), tt)) (λ e. h.1),
      )
  after_hot Q k t bs n u w (StopTo x c) next stopped lt old (inl e) hn hl hs =
      cond_both (catches k t x) (stopped c n w) (answer n (leave k t w) (StopTo x c)) (λ (a : Answer). Res Q u a) (λ y. res_from Q u w (stopped c n w) e (hs x c refl y)) (λ y. inl (leave_same q k t w ∙ e))
  after_hot Q k t bs n u w (StopTo x c) next stopped lt old (inr h) hn hl hs =
      cond_both (catches k t x) (stopped c n w) (answer n (leave k t w) (StopTo x c)) (λ (a : Answer). Res Q u a) (λ y. let no' = old x h.1.1 in absurd (cc (y, no'))) (λ y. inr (leave_same q k t w ∙ h.0, h.1))
  after_hot Q k t bs n u w (End e') next stopped lt old (inl e) hn hl hs = inl (leave_same q k t w ∙ e)
  after_hot Q k t bs n u w (End e') next stopped lt old (inr h) hn hl hs = inr (leave_same q k t w ∙ h.0, h.1)

  path_cut_ok : (Q : ℕ → Type 0) (t : ℕ) (c : Option ℕ) (path : Path) (others : List Branch) → PathOk q S rest o0 Q path others → PathOk q S rest o0 Q (record path { steps = cut_first t c path.steps }) (branches_cut t c others)
  path_cut_ok Q t None path others (inl h) = inl h
  path_cut_ok Q t None path others (inr h) = inr (h.0, elim h.1 [ inl s ↦ inl s | inr e ↦ inr (ap (branches_cut t None) e) ])
  path_cut_ok Q t (Some c) path others (inl h) =
      inl (cond_both (nat_lt c t) (Cut c ∷ path.steps) path.steps (IsFree q) (λ e. h) (λ e. h))
  path_cut_ok Q t (Some c) path others (inr h) =
      let last : (Sealed q path.steps) ⊎ (branches_cut t (Some c) others ≡ []) = elim h.1 [ inl s ↦ inl s | inr e ↦ inr (ap (branches_cut t (Some c)) e) ] in
      inr (cond_both (nat_lt c t) (Cut c ∷ path.steps) path.steps (λ l. Wants q S rest o0 Q path.registers.stoppable l × (Sealed q l ⊎ (branches_cut t (Some c) others ≡ [])))
      (λ e. ((h.0.0, λ x wanted. inr (h.0.1 x wanted)), elim last [ inl s ↦ inl (s.0, inr s.1) | inr z ↦ inr z ])) (λ e. (h.0, last)))

  cut_ok : (Q : ℕ → Type 0) (t : ℕ) (c : Option ℕ) (bs : List Branch) → BranchesOk q S rest o0 Q bs → BranchesOk q S rest o0 Q (branches_cut t c bs)
  cut_ok Q t c [] h = tt
  cut_ok Q t c (Enter path work ∷ bs) h = (path_cut_ok Q t c path bs h.0, cut_ok Q t c bs h.1)
  cut_ok Q t c (Clash r work ∷ bs) h = (inl tt, cut_ok Q t c bs h.1)
  cut_ok Q t c (TakeOut u whole into path ∷ bs) h = (path_cut_ok Q t c path bs h.0, cut_ok Q t c bs h.1)
  cut_ok Q t c (Finds place o args path ∷ bs) h = (path_cut_ok Q t c path bs h.0, cut_ok Q t c bs h.1)

  one_more : (k : ChoiceKind) (t : ℕ) (bs : List Branch) (ctx : List Around) → IsBehind ctx0 ctx → IsBehind ctx0 (InBranch k t bs ∷ ctx)
  one_more k t bs ctx b = record { front = InBranch k t bs ∷ b.front; is = ap (λ l. InBranch k t bs ∷ l) b.is }

  old_parts : (k : ChoiceKind) (t : ℕ) (ctx : List Around) → IsBehind ctx0 ctx → Older t ctx → (x : ℕ) → Shielded ctx0 x → catches k t x ≡ false
  old_parts Plain t ctx b older x h = refl
  old_parts (Rules p) t ctx b older x h = refl
  old_parts Gathers t ctx b older x h = refl
  old_parts Shield t ctx b older x h = let lt = shield_older x t ctx0 (older_behind t b.front ctx0 (subst (Older t) b.is older)) h in ne_eqb x t (λ e. omega (arith, lt, e))

  module _ (s : Search) (hot : IsHot s) (cold : IsCold q s) (scoped : IsScoped s) where
    move_hot : (Q : ℕ → Type 0) (ctx : List Around) (n : ℕ) (m : Move) → IsBehind ctx0 ctx → MoveIn ctx m → MoveFits (Wants q S rest o0 Q) m → Res Q (world_at m) (after_move s n m)
    move_hot Q ctx n (GoesOn path w) b h f =
        elim (hot ctx n path w b h f.0) [ inl e ↦ inl e | inr r ↦ inr (r.0, ((λ c wanted. r.1.0 c (f.1 c wanted)), r.1.1)) ]
    move_hot Q ctx n (FailsAt w) b h f = inl refl
    move_hot Q ctx n (EndsAt e w) b h f = inl refl
    move_hot Q ctx n (StopsAt t w) b h f = inl refl

    -- a branch, with its own seal
    begin_hot : (Q : ℕ → Type 0) (ctx : List Around) (x : Branch) (others : List Branch) (n : ℕ) (u : World) → IsBehind ctx0 ctx → BranchIn ctx x → PathOk q S rest o0 Q (path_at x) others → (let a = begin s x n u in BranchRes Q u a.world a.result others)
    begin_hot Q ctx x others n u b h (inl f) = inl (begin_cold q s cold x n u f)
    begin_hot Q ctx x others n u b h (inr f) =
        let a = begin s x n u in
        let own = move_hot (Mine (path_at x).steps) ctx n (begins x u) b (begin_in ctx x u h) (begins_fits (Wants q S rest o0 (Mine (path_at x).steps)) x u (f.0.0, λ c wanted. wanted)) in
        elim (res_from (Mine (path_at x).steps) u (world_at (begins x u)) a (begins_same q x u) own) [
          | inl e ↦ inl e
          | inr r ↦ inr (r.0, ((λ c wanted. r.1.0 c (f.0.1 c wanted)), r.1.1), elim f.1 [ inl z ↦ inl (z.0, r.1.0 z.0 z.1) | inr e ↦ inr e ])
        ]

    choose_hot : (Q : ℕ → Type 0) (j : ChoiceKind) (t : ℕ) (ctx : List Around) (bs : List Branch) (n : ℕ) (w : World) → IsBehind ctx0 ctx → ((x : ℕ) → catches j t x ≡ false) → ((c : ℕ) → Q c → c < t) → BranchesIn (InBranch Plain t [] ∷ ctx) bs → BranchesOk q S rest o0 Q bs → Res Q w (choose s j t bs n w)
    choose_hot Q j t ctx [] n w b never lt h ok = inl (exhausted_same q j w)
    choose_hot Q j t ctx (x ∷ bs) n w b never lt h ok =
        let u = retried j w in
        let a = begin s x n u in
        res_from Q w u (choose s j t (x ∷ bs) n w) (retried_same q j w)
        (after_hot Q j t bs a.left u a.world a.result (choose s j t bs) (λ c. choose s j t bs) lt (λ y z. never y) (begin_hot Q (InBranch Plain t [] ∷ ctx) x bs n u (one_more Plain t [] ctx b) h.0 ok.0)
        (choose_hot Q j t ctx bs a.left a.world b never lt h.1 ok.1) (none_left j t bs a.left a.world) (λ y c e caught. let no' = never y in absurd (cc (caught, no'))))
      where
        none_left : (j : ChoiceKind) (t : ℕ) (bs : List Branch) (n : ℕ) (w : World) → bs ≡ [] → Same q w (choose s j t bs n w).world × ((choose s j t bs n w).result ≡ Failing)
        none_left j t [] n w e = (exhausted_same q j w, refl)
        none_left j t (x ∷ bs) n w e = absurd (cc (e))

    first_hot : (Q : ℕ → Type 0) (k : ChoiceKind) (t : ℕ) (ctx : List Around) (x : Branch) (bs : List Branch) (n : ℕ) (w : World) → IsBehind ctx0 ctx → Older t ctx → ((c : ℕ) → Q c → c < t) → BranchIn (InBranch k t bs ∷ ctx) x → BranchesIn (InBranch Plain t [] ∷ ctx) bs → BranchesOk q S rest o0 Q (x ∷ bs) → Res Q w (choose_first s k t x bs n w)
    first_hot Q k t ctx x bs n w b older lt hx h ok =
        let a = begin s x n w in
        let j = later k in
        after_hot Q k t bs a.left w a.world a.result (choose s j t bs) (λ c. choose s j t (branches_cut t c bs)) lt (old_parts k t ctx b older) (begin_hot Q (InBranch k t bs ∷ ctx) x bs n w (one_more k t bs ctx b) hx ok.0)
        (choose_hot Q j t ctx bs a.left a.world b (later_never k t) lt h ok.1) (none_left j t bs a.left a.world)
        (λ y c e caught. let held = caught_held k t bs ctx y c caught (subst (ResultIn (InBranch k t bs ∷ ctx)) e (begin_scoped s scoped (InBranch k t bs ∷ ctx) x n w hx)) in
        choose_hot Q j t ctx (branches_cut t c bs) a.left a.world b (later_never k t) lt (branches_cut_in (InBranch Plain t [] ∷ ctx) t c bs held h) (cut_ok Q t c bs ok.1))
      where
        none_left : (j : ChoiceKind) (t : ℕ) (bs : List Branch) (n : ℕ) (w : World) → bs ≡ [] → Same q w (choose s j t bs n w).world × ((choose s j t bs n w).result ≡ Failing)
        none_left j t [] n w e = (exhausted_same q j w, refl)
        none_left j t (x ∷ bs) n w e = absurd (cc (e))

    outcome_hot : (Q : ℕ → Type 0) (ctx : List Around) (n : ℕ) (steps : List Step) (r : Registers) (e : Effect) → IsBehind ctx0 ctx → ((c : ℕ) → Q c → Holds ctx c) → Wants q S rest o0 Q r.stoppable steps → OutcomeIn ctx (outcome_of steps r e) → EffectOk q S rest o0 Q r e → Res Q (world_of (outcome_of steps r e)) (after_goal s n (outcome_of steps r e))
    outcome_hot Q ctx n steps r (Acts a) b held here h ok = move_hot Q ctx n _ b h (act_fits (Wants q S rest o0 Q) steps r here a ok)
    outcome_hot Q ctx n steps r (Offers k [] w) b held here h ok = inl refl
    outcome_hot Q ctx n steps r (Offers k (x ∷ bs) w) b held here h ok = first_hot Q k r.next_tag ctx x bs n w b h.0 (λ c wanted. holds_older c r.next_tag ctx h.0 (held c wanted)) h.1 h.2 ok

    layer_hot : (ctx : List Around) (n : ℕ) (y : Goal-F Goal) (env : List Value) (t : ℕ) (steps : List Step) (r : Registers) (w : World) → IsBehind ctx0 ctx → Holds ctx t → StepsIn ctx steps → Ahead q S rest o0 r.stoppable steps → ((is_plain_form S y ≡ true) × (inside_plain S y ≡ true)) ⊎ Sealed q steps → OutcomeIn ctx (move g y env t steps r w) → Res (λ c. seals y t c ⊎ SealedBy q c steps) (world_of (move g y env t steps r w)) (after_goal s n (move g y env t steps r w))
    layer_hot ctx n Just env t steps r w b ht hs ahead guard h =
        move_hot (λ c. seals Just t c ⊎ SealedBy q c steps) ctx n (GoesOn (path_of (Cut t ∷ steps) (behind_terms g Just r)) (begun (behind_terms g Just r) (writing (terms_held Just)) w)) b h (ahead, λ c wanted. wanted)
    layer_hot ctx n Fail env t steps r w b ht hs ahead guard h = inl refl
    layer_hot ctx n y env t steps r w b ht hs ahead guard h =
        let r' = behind_terms g y r in
        let v = begun r' (writing (terms_held y)) w in
        let wants : (c : ℕ) → (seals y t c ⊎ SealedBy q c steps) → SealedBy q c steps = λ c wanted. elim wanted [ inl z ↦ absurd z | inr k ↦ k ] in
        outcome_hot (λ c. seals y t c ⊎ SealedBy q c steps) ctx n steps r' (effect g y env t steps r' v) b (λ c wanted. sealed_held q c ctx steps hs (wants c wanted)) (ahead, wants) h
        (elim guard [
          | inl p ↦ plain_ok q S rest o0 g none closed (λ c. seals y t c ⊎ SealedBy q c steps) env t steps r' ahead wants y v p.0 p.1
          | inr z ↦ sealed_ok q S rest o0 g none closed (λ c. seals y t c ⊎ SealedBy q c steps) env t steps r' ahead wants z.0 z.1 y v
        ])

    take_hot : (Q : ℕ → Type 0) (n : ℕ) (m : Outcome) (w : World) → Same q w (world_of m) → ((k : ℕ) → Res Q (world_of m) (after_goal s k m)) → Res Q w (take_goal s n m w)
    take_hot Q zero m w e h = inl refl
    take_hot Q (suc n) m w e h = res_from Q w (world_of m) (after_goal s n m) e (h n)

    cut_after : (t : ℕ) (steps : List Step) (r : Result) → After (Mine steps) r → After (λ c. (c ≡ t) ⊎ SealedBy q c steps) (cut_result t r)
    cut_after t steps Failing h = ((λ c wanted. elim wanted [ inl e ↦ omega (arith, e) | inr k ↦ absurd (h.0 c k) ]), tt)
    cut_after t steps (CutFail u) h = ((λ c wanted. elim wanted [ inl e ↦ omega (arith, e) | inr k ↦ omega (arith, h.0 c k) ]), tt)
    cut_after t steps (StopTo x None) h = ((λ c wanted. tt), h.1)
    cut_after t steps (StopTo x (Some d)) h = ((λ c wanted. tt), h.1)
    cut_after t steps (End e) h = ((λ c wanted. tt), tt)

    pub go_hot : (ctx : List Around) (n : ℕ) (steps : List Step) (r : Registers) (w : World) → IsBehind ctx0 ctx → PathIn ctx (path_of steps r) → Ahead q S rest o0 r.stoppable steps → Res (Mine steps) w (go g s n steps r w)
    go_hot ctx n [] r w b h a = absurd a
    go_hot ctx n (Do x env t ∷ steps) r w b h a =
        let guard : ((is_plain_form S (out-Goal x) ≡ true) × (inside_plain S (out-Goal x) ≡ true)) ⊎ Sealed q steps = elim a.0 [ inl e ↦ (let p = sym (plain_out S x) ∙ e in inl (and_left (is_plain_form S (out-Goal x)) (inside_plain S (out-Goal x)) p, and_right (is_plain_form S (out-Goal x)) (inside_plain S (out-Goal x)) p)) | inr z ↦ inr z ] in
        take_hot (Mine (Do x env t ∷ steps)) n (move g (out-Goal x) env t steps r (worked 1 w)) w (taken_same q g x env t steps r w)
        (λ k. layer_hot ctx k (out-Goal x) env t steps r (worked 1 w) b h.steps.0 h.steps.1 a.1 guard (move_in g x ctx env t steps r (worked 1 w) h))
    go_hot ctx n (Answers p ∷ steps) r w b h (inl here) =
        let v = noted (Answered p) w in
        let path0 : PathIn ctx0 (path_of steps r) = record {
          steps = subst (StepsIn ctx0) (sym here.1) rest_in;
          stop = subst (StopIn ctx0) (sym here.2) stop0;
          newer = older_behind r.next_tag b.front ctx0 (subst (Older r.next_tag) b.is h.newer);
          bound = binds_along.passes (Answers p) steps r r.stoppable h.bound;
        } in
        inr (
          go_cold g q none s cold n steps r v (subst (IsFree q) (sym here.1) free) ∙ answered_one q p w here.0,
          ((λ c wanted. absurd (wanted.0 here.0)), stops_old (go g s n steps r v).result (go_scoped s scoped g ctx0 n steps r v path0)),
        )
      where
        stops_old : (r : Result) → ResultIn ctx0 r → StopsOld r
        stops_old Failing h = tt
        stops_old (CutFail u) h = tt
        stops_old (StopTo x c) h = h.0
        stops_old (End e) h = tt
    go_hot ctx n (Answers p ∷ steps) r w b h (inr a) =
        elim (res_from (Mine steps) w (noted (Answered p) w) (go g s n steps r (noted (Answered p) w)) (answered_same q p w a.0)
        (go_hot ctx n steps r (noted (Answered p) w) b (record { steps = h.steps; stop = h.stop; newer = h.newer; bound = binds_along.passes (Answers p) steps r r.stoppable h.bound }) a.1)) [
          | inl e ↦ inl e
          | inr z ↦ inr (z.0, ((λ c wanted. z.1.0 c wanted.1), z.1.1))
        ]
    go_hot ctx n (Cut t ∷ steps) r w b h a =
        elim (go_hot ctx n steps r w b (record { steps = h.steps.1; stop = h.stop; newer = h.newer; bound = binds_along.passes (Cut t) steps r r.stoppable h.bound }) a) [ inl e ↦ inl e | inr z ↦ inr (z.0, cut_after t steps (go g s n steps r w).result z.1) ]
    go_hot ctx n (Leave t outer ∷ steps) r w b h a =
        let r' = record r { stoppable = outer } in
        elim (go_hot ctx n steps r' w b (record { steps = h.steps.1.1; stop = h.steps.1.0; newer = h.newer; bound = binds_along.passes (Leave t outer) steps r outer h.bound }) a) [ inl e ↦ inl e | inr z ↦ inr (z.0, cut_after t steps (go g s n steps r' w).result z.1) ]
    go_hot ctx n (Refuse t ∷ steps) r w b h a = absurd a
    go_hot ctx n (Back ∷ steps) r w b h a = absurd a
    go_hot ctx n (Keep t x env ∷ steps) r w b h a = absurd a

  nowhere_hot : IsHot nowhere
  nowhere_hot ctx n path w b h a = inl refl

  nowhere_cold : IsCold q nowhere
  nowhere_cold n path w h = refl

  nowhere_scoped : IsScoped nowhere
  nowhere_scoped ctx n path w h = tt

  pub search_hot : (k : ℕ) → IsHot (search_to g k)
  search_hot zero ctx n path w b h a = go_hot nowhere nowhere_hot nowhere_cold nowhere_scoped ctx n path.steps path.registers w b h a
  search_hot (suc k) ctx n path w b h a = go_hot (search_to g k) (search_hot k) (search_cold g q none k) (search_scoped g k) ctx n path.steps path.registers w b h a
