-- A rule is entered in a store.
use Rattle.std.proofs.Common.{◌≡◌, ℕ, ◌+◌, ◌-◌, ◌<◌, ◌≤◌, List, [], ◌++◌, Bool, sym, ap, ◌∙◌, subst, arith, length, map, take, drop, length-append}
use Rattle.std.specs.Prelude.{Result as Answer, Ok, Err, MatchResult}
use Rattle.std.specs.List.{All, zip}
use Rattle.std.proofs.Math.Seq.{drop-append_seam}
use Rattle.dg_base.specs.declared.program.Rule.{Rule}
use Rattle.dg_base.specs.declared.program.CoreProgram.{CoreProgram}
use Rattle.dg_meaning.specs.Values.{Value, value_of}
use Rattle.dg_meaning.specs.Unify.{Unified, solve}
use Rattle.dg_meaning.specs.Cells.{cells}
use Rattle.dg_meaning.specs.Moves.{new_vars}
use Rattle.dg_unify.specs.Store.{State, Store, told, Holds, Kept, Charged, Does, UnifyFull, Follows, trail_of}
use Rattle.dg_unify.specs.declared.bindings.Ref.{Ref}
use Rattle.dg_unify.specs.declared.bindings.Full.{Full}
use Rattle.dg_unify.specs.declared.bindings.Full.TheVariants as full
use Rattle.dg_choices.specs.declared.frames.Env.{Env}
use Rattle.dg_interp.specs.inside.Frames.{stretch, values_in, EndsBy}
use Rattle.dg_interp.specs.inside.Rules.{matched_in, EntersRule, RuleFull}
use Rattle.dg_terms.specs.Terms.{Overflows, Written, MadeVars}
use Rattle.dg_unify.proofs.StoreLemmas.{kept_on, all_hold, all_told}
use Rattle.dg_interp.proofs.Stores.{stretch_holds, values_kept, take_all, hold_front, front_same}
use Rattle.dg_interp.proofs.Links.{stretch_same}

-- Refs of new variables were put behind some others
pub vars_are_made : (n : ℕ) (refs behind vars : List Ref) (s t : Store) → (made : MadeVars n s t refs behind) → vars ≡ take (length behind - length refs) (drop (length refs) behind) → vars ≡ made.appended.made
vars_are_made n refs behind vars s t made e =
    let m : length behind - length refs ≡ length made.appended.made = omega (arith, ap length made.appended.is ∙ length-append refs made.appended.made) in
    e ∙ ap (λ k. take k (drop (length refs) behind)) m ∙ ap (λ l. take (length made.appended.made) (drop (length refs) l)) made.appended.is
    ∙ ap (take (length made.appended.made)) (drop-append_seam refs made.appended.made) ∙ take_all made.appended.made

pub vars_hold : (n : ℕ) (refs behind vars : List Ref) (s t : Store) → MadeVars n s t refs behind → vars ≡ take (length behind - length refs) (drop (length refs) behind) → All (Holds t) vars
vars_hold n refs behind vars s t made e = subst (All (Holds t)) (sym (vars_are_made n refs behind vars s t made e)) made.appended.hold

pub vars_more : (n : ℕ) (refs behind : List Ref) (s t : Store) → MadeVars n s t refs behind → length refs ≤ length behind
vars_more n refs behind s t made = omega (arith, ap length made.appended.is ∙ length-append refs made.appended.made)

module _ (program : CoreProgram) (rule : Rule) (refs behind vars before head : List Ref) (env : Env) (s s1 s2 s3 : Store) (hold : All (Holds s) refs) (ends : EndsBy (length refs) env)
    (charged : Charged 6 s s1) (k1 : Kept s s1) (made : MadeVars rule.vars s1 s2 refs behind) (k2 : Kept s1 s2) (vars_are : vars ≡ take (length behind - length refs) (drop (length refs) behind))
    (written : Written (cells program rule.head) (map (value_of program (map (told s2) vars)) rule.head) s2 s3 before head) (empty : before ≡ []) (k3 : Kept s2 s3) where
  abbrev all : State
  all = record s.state { vars = s.state.vars + rule.vars; heap = s.state.heap + 6 + rule.vars + cells program rule.head }

  state_is : s3.state ≡ all
  state_is =
      written.charged.state ∙ ap (λ (t : State). record t { heap = t.heap + cells program rule.head }) made.state
      ∙ ap (λ (t : State). record t { vars = t.vars + rule.vars; heap = t.heap + rule.vars + cells program rule.head }) charged.state

  kept : Kept s s3
  kept = kept_on s s1 s3 k1 (kept_on s1 s2 s3 k2 k3)

  front : take (length refs) behind ≡ take (length refs) refs
  front = front_same refs made.appended.made behind made.appended.is

  pub args_hold : All (Holds s3) (stretch behind env)
  args_hold = subst (All (Holds s3)) (sym (stretch_same (length refs) refs behind env ends front)) (all_hold s s3 (stretch refs env) kept (stretch_holds s refs env hold))

  head_made : written.appended.made ≡ head
  head_made = sym (written.appended.is ∙ ap (λ l. l ++ written.appended.made) empty)

  pub head_hold : All (Holds s3) head
  head_hold = subst (All (Holds s3)) head_made written.appended.hold

  args_are : map (told s3) (stretch behind env) ≡ values_in s refs env
  args_are = values_kept (length refs) s s3 refs behind kept (hold_front s refs hold) front env ends

  made_are : vars ≡ made.appended.made
  made_are = vars_are_made rule.vars refs behind vars s1 s2 made vars_are

  vars_told : map (told s2) vars ≡ new_vars rule.vars s.state.vars
  vars_told = ap (map (told s2)) made_are ∙ made.appended.values ∙ ap (λ (t : State). new_vars rule.vars t.vars) charged.state

  head_are : map (told s3) head ≡ map (value_of program (new_vars rule.vars s.state.vars)) rule.head
  head_are = ap (map (told s3)) (sym head_made) ∙ written.appended.values ∙ ap (λ vs. map (value_of program vs) rule.head) vars_told

  meant : solve s3.state.subst (zip (map (told s3) (stretch behind env)) (map (told s3) head)) ≡ matched_in program rule (values_in s refs env) s
  meant =
      ap (λ (t : State). solve t.subst (zip (map (told s3) (stretch behind env)) (map (told s3) head))) state_is
      ∙ ap (λ vs. solve s.state.subst (zip vs (map (told s3) head))) args_are
      ∙ ap (λ vs. solve s.state.subst (zip (values_in s refs env) vs)) head_are

  pub rule_entered : (s4 : Store) (found : Bool) → Kept s3 s4 → Does s3 s4 (solve s3.state.subst (zip (map (told s3) (stretch behind env)) (map (told s3) head))) found → EntersRule program rule (values_in s refs env) s s4 refs behind found
  rule_entered s4 found k4 does = record {
    appended = record {
      made = made.appended.made;
      is = made.appended.is;
      hold = all_hold s2 s4 made.appended.made (kept_on s2 s3 s4 k3 k4) made.appended.hold;
      values = all_told s2 s4 made.appended.made (kept_on s2 s3 s4 k3 k4) made.appended.hold ∙ made.appended.values ∙ ap (λ (t : State). new_vars rule.vars t.vars) charged.state;
    };
    agrees = does.agrees ∙ ap (λ (u : Unified). u.agrees) meant;
    subst = does.subst ∙ ap (λ (u : Unified). u.subst) meant;
    vars = does.binds.vars ∙ ap (λ (t : State). t.vars) state_is;
    since = does.binds.since ∙ ap (λ (t : State). t.since) state_is;
    heap = does.binds.heap ∙ ap (λ (t : State). t.heap) state_is ∙ omega arith;
    trail = trail_is;
  } where
    trail_is : s4.state.trail + trail_of s.state.since s.state.subst ≡ s.state.trail + trail_of s.state.since (matched_in program rule (values_in s refs env) s).subst
    trail_is =
        ap (λ (t : State). s4.state.trail + trail_of t.since t.subst) (sym state_is)
        ∙ does.binds.trail
        ∙ ap (λ (t : State). t.trail + trail_of t.since s4.state.subst) state_is
        ∙ ap (λ S. s.state.trail + trail_of s.state.since S) (does.subst ∙ ap (λ (u : Unified). u.subst) meant)

  pub rule_full : (e : Full) → UnifyFull s3 (solve s3.state.subst (zip (map (told s3) (stretch behind env)) (map (told s3) head))) e → RuleFull program rule (values_in s refs env) s e
  rule_full full.Heap h = absurd h
  rule_full full.Trail h = subst (λ (u : Unified). s.trail_limit + trail_of s.state.since s.state.subst < s.state.trail + trail_of s.state.since u.subst) meant
      (subst (λ (t : State). s.trail_limit + trail_of t.since t.subst < t.trail + trail_of t.since (solve s3.state.subst (zip (map (told s3) (stretch behind env)) (map (told s3) head))).subst) state_is
      (subst (λ n. n + trail_of s3.state.since s3.state.subst < s3.state.trail + trail_of s3.state.since (solve s3.state.subst (zip (map (told s3) (stretch behind env)) (map (told s3) head))).subst) kept.trail_limit h))
  rule_full full.OutOfMemory h = tt

  pub rule_does : (s4 : Store) (r : Answer Bool Full) → Kept s3 s4 → Follows s3 s4 (solve s3.state.subst (zip (map (told s3) (stretch behind env)) (map (told s3) head))) r → MatchResult r (λ found. EntersRule program rule (values_in s refs env) s s4 refs behind found) (RuleFull program rule (values_in s refs env) s)
  rule_does s4 (Ok found) k4 h = rule_entered s4 found k4 h
  rule_does s4 (Err e) k4 h = rule_full e h.cause

-- its head takes more than is left
pub head_full : (program : CoreProgram) (rule : Rule) (args : List Value) (refs behind : List Ref) (s s1 s2 : Store) (e : Full) → Charged 6 s s1 → Kept s s1 → MadeVars rule.vars s1 s2 refs behind → Kept s1 s2 → Overflows (cells program rule.head) s2 e → RuleFull program rule args s e
head_full program rule args refs behind s s1 s2 full.Heap charged k1 made k2 h =
    let heap : s2.state.heap ≡ s.state.heap + 6 + rule.vars = ap (λ (t : State). t.heap) made.state ∙ ap (λ (t : State). t.heap + rule.vars) charged.state in
    let limit : s2.heap_limit ≡ s.heap_limit = k2.heap_limit ∙ k1.heap_limit in
    omega (arith, h, heap, limit)
head_full program rule args refs behind s s1 s2 full.Trail charged k1 made k2 h = absurd h
head_full program rule args refs behind s s1 s2 full.OutOfMemory charged k1 made k2 h = tt
