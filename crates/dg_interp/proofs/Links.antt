-- Laws of linked frames and open choices.
use Rattle.std.proofs.Common.{◌≡◌, ℕ, zero, suc, ◌+◌, ◌-◌, ◌<◌, ◌≤◌, inl, inr, List, [], ◌∷◌, ◌++◌, Option, Some, None, refl, sym, ap, ◌∙◌, subst, arith, length, map, take, drop, length-append, length-take}
use Rattle.std.specs.List.{All}
use Rattle.std.specs.Prelude.{min, eqb, nat_lt, slice_get, if◌then◌else◌}
use Rattle.std.proofs.lemmas.Bool.{cond_both, cond-true, cond-false, cases_lt, eq-eqb, ne_eqb, ltb-true, ltb-false, lt-ltb, le-ltb}
use Rattle.std.proofs.lemmas.List.{drop-take}
use Rattle.dg_meaning.specs.Values.{Value, value_of_var}
use Rattle.dg_meaning.specs.World.{Game}
use Rattle.dg_meaning.specs.Path.{Step, Registers, TakeOut as TakeOutBranch}
use Rattle.dg_meaning.specs.Moves.{path_of, inside, enter, list_branches, rule_branches}
use Rattle.dg_meaning.specs.inside.Context.{Live, Way as WayOn, cut_to}
use Rattle.dg_unify.specs.Store.{Store, Saved, Holds, told}
use Rattle.dg_unify.specs.declared.bindings.Ref.{Ref}
use Rattle.dg_choices.specs.declared.frames.Env.{Env}
use Rattle.dg_choices.specs.declared.frames.Frame.{Frame}
use Rattle.dg_choices.specs.declared.frames.Left.{Left}
use Rattle.dg_choices.specs.declared.frames.Left.TheVariants.{Rules, Lists, Ways, Way, Behind, TakeOut, Things}
use Rattle.dg_choices.specs.declared.frames.Choice.{Choice}
use Rattle.dg_interp.specs.inside.Frames.{stretch, values_in, frame_steps, found_steps, steps_below, steps_behind, steps_at, kind_of, whole_of, branches_of, cut_if, lives_of, with_way, ways_of, IsNoPart, IsOrdinary, IsChoice, AreChoices, EndsBy, IsFrame, AreFrames, IsLeft, IsNoted, StandOn, GoBackTo, floor_of, left_in, all_left}
use Rattle.dg_choices.specs.inside.Cutting.{cut_of, noting, waits_in, left_by, with_older, older_than}
use Rattle.dg_meaning.specs.Facts.{kinds_of}
use Rattle.dg_lasting.specs.Finding.{counted}
use Rattle.dg_meaning.specs.inside.Finding.{may_find}
use Rattle.dg_interp.specs.inside.Trying.{trial_branches}

-- ## Stretches

take_of_take : (n m : ℕ) (xs : List Ref) → m ≤ n → take m (take n xs) ≡ take m xs
take_of_take n zero xs h = refl
take_of_take zero (suc m) xs h = absurd (omega arith)
take_of_take (suc n) (suc m) [] h = refl
take_of_take (suc n) (suc m) (x ∷ xs) h = ap (λ l. x ∷ l) (take_of_take n m xs (omega arith))

stretch_here : (xs : List Ref) (i n : ℕ) → take n (drop i xs) ≡ drop i (take (i + n) xs)
stretch_here xs i n = sym (drop-take i n xs)

-- a stretch is that of the Refs up to where it ends
pub stretch_same : (n : ℕ) (xs ys : List Ref) (env : Env) → EndsBy n env → take n ys ≡ take n xs → stretch ys env ≡ stretch xs env
stretch_same n xs ys env ends same =
    stretch_here ys env.from env.len
    ∙ ap (drop env.from) (sym (take_of_take n (env.from + env.len) ys ends) ∙ ap (take (env.from + env.len)) same ∙ take_of_take n (env.from + env.len) xs ends)
    ∙ sym (stretch_here xs env.from env.len)

-- ## Frames

get_append : (fs gs : List Frame) (k : ℕ) → k < length fs → slice_get (fs ++ gs) k ≡ slice_get fs k
get_append [] gs k h = absurd (omega arith)
get_append (f ∷ fs) gs zero h = refl
get_append (f ∷ fs) gs (suc k) h = get_append fs gs k (omega arith)

get_end : (fs : List Frame) (f : Frame) → slice_get (fs ++ f ∷ []) (length fs) ≡ Some f
get_end [] f = refl
get_end (g ∷ fs) f = get_end fs f

get_take : (fs : List Frame) (h k : ℕ) → k < h → slice_get (take h fs) k ≡ slice_get fs k
get_take [] zero k lt = refl
get_take [] (suc h) k lt = refl
get_take (f ∷ fs) zero k lt = absurd (omega arith)
get_take (f ∷ fs) (suc h) zero lt = refl
get_take (f ∷ fs) (suc h) (suc k) lt = get_take fs h k (omega arith)

-- the first n frames are the same
abbrev pub SameTo : ℕ → List Frame → List Frame → Type 0
SameTo n fs gs = (i : ℕ) → i < n → slice_get gs i ≡ slice_get fs i

pub same_here : (n : ℕ) (fs : List Frame) → SameTo n fs fs
same_here n fs i h = refl

pub same_append : (fs : List Frame) (f : Frame) → SameTo (length fs) fs (fs ++ f ∷ [])
same_append fs f i h = get_append fs (f ∷ []) i h

pub same_take : (fs : List Frame) (h : ℕ) → SameTo h fs (take h fs)
same_take fs h i lt = get_take fs h i lt

pub same_fewer : (m n : ℕ) (fs gs : List Frame) → m ≤ n → SameTo n fs gs → SameTo m fs gs
same_fewer m n fs gs le h i lt = h i (omega arith)

-- values that are the same up to so many Refs
abbrev pub SameBy : ℕ → (Env → List Value) → (Env → List Value) → Type 0
SameBy n vs us = (env : Env) → EndsBy n env → us env ≡ vs env

found_same : (m n : ℕ) (vs us : Env → List Value) (o : Option Frame) (d e : ℕ → List Step) → SameBy n vs us → ((f : Frame) → o ≡ Some f → EndsBy n f.env) → ((k : ℕ) → d k ≡ e k) → found_steps us o d ≡ found_steps vs o e
found_same m n vs us None d e same ends h = refl
found_same m n vs us (Some f) d e same ends h =
    ap (λ v. frame_steps v f.goals.now f.tag f.mark (d f.behind)) (same f.env (ends f refl)) ∙ ap (frame_steps (vs f.env) f.goals.now f.tag f.mark) (h f.behind)

-- the values of the first frames are among so many Refs
abbrev pub EndBy : ℕ → ℕ → List Frame → Type 0
EndBy height n fs = (k : ℕ) (f : Frame) → k < height → slice_get fs k ≡ Some f → EndsBy n f.env

below_same : (m : ℕ) (vs us : Env → List Value) (fs gs : List Frame) (n k : ℕ) → SameBy m vs us → EndBy n m fs → SameTo n fs gs → steps_below us gs n k ≡ steps_below vs fs n k
unfolding steps_below
below_same m vs us fs gs zero k same ends h = refl
below_same m vs us fs gs (suc n) k same ends h =
    let inner : (j : ℕ) → steps_below us gs n j ≡ steps_below vs fs n j = λ j. below_same m vs us fs gs n j same (λ i f lt e. ends i f (omega arith) e) (λ i lt. h i (omega arith)) in
    let here = ap (λ o. found_steps us o (steps_below us gs n)) (h n (omega arith)) ∙ found_same n m vs us (slice_get fs n) (steps_below us gs n) (steps_below vs fs n) same (λ f e. ends n f (omega arith) e) inner in
    ap (λ x. if eqb k (suc n) then x else steps_below us gs n k) here
    ∙ ap (λ x. if eqb k (suc n) then found_steps vs (slice_get fs n) (steps_below vs fs n) else x) (inner k)

pub frames_end : (height n : ℕ) (fs : List Frame) → AreFrames height n fs → EndBy height n fs
frames_end height n fs h k f lt e = (h k f lt e).env

pub behind_same : (m : ℕ) (vs us : Env → List Value) (fs gs : List Frame) (n k : ℕ) → k ≤ n → SameBy m vs us → AreFrames n m fs → SameTo n fs gs → steps_behind us gs k ≡ steps_behind vs fs k
behind_same m vs us fs gs n k le same are h = below_same m vs us fs gs k k same (λ i f lt e. (are i f (omega arith) e).env) (λ i lt. h i (omega arith))

pub at_same : (m : ℕ) (vs us : Env → List Value) (fs gs : List Frame) (n : ℕ) (f : Frame) → IsFrame n m f → SameBy m vs us → AreFrames n m fs → SameTo n fs gs → steps_at us gs f ≡ steps_at vs fs f
at_same m vs us fs gs n f is same are h =
    ap (λ v. frame_steps v f.goals.now f.tag f.mark (steps_behind us gs f.behind)) (same f.env is.env)
    ∙ ap (frame_steps (vs f.env) f.goals.now f.tag f.mark) (behind_same m vs us fs gs n f.behind is.older same are h)

below_more : (vs : Env → List Value) (fs : List Frame) (n k : ℕ) → k ≤ n → steps_below vs fs n k ≡ steps_below vs fs k k
unfolding steps_below
below_more vs fs zero k le = let e : k ≡ 0 = omega arith in subst (λ i. steps_below vs fs 0 i ≡ steps_below vs fs i i) (sym e) refl
below_more vs fs (suc n) k le =
    elim (cases_lt n k) [
      | inl lt ↦ let e : suc n ≡ k = omega arith in subst (λ i. steps_below vs fs i k ≡ steps_below vs fs k k) (sym e) refl
      | inr ge ↦ cond-false (eqb k (suc n)) (found_steps vs (slice_get fs n) (steps_below vs fs n)) (steps_below vs fs n k) (ne_eqb k (suc n) (λ e. omega arith)) ∙ below_more vs fs n k ge
    ]

pub behind_frame : (vs : Env → List Value) (fs : List Frame) (k : ℕ) (f : Frame) → slice_get fs k ≡ Some f → f.behind ≤ k → steps_behind vs fs (suc k) ≡ steps_at vs fs f
unfolding steps_below
behind_frame vs fs k f h le =
    cond-true (eqb (suc k) (suc k)) (found_steps vs (slice_get fs k) (steps_below vs fs k)) (steps_below vs fs k (suc k)) (eq-eqb (suc k) (suc k) refl)
    ∙ ap (λ o. found_steps vs o (steps_below vs fs k)) h
    ∙ ap (frame_steps (vs f.env) f.goals.now f.tag f.mark) (below_more vs fs k f.behind le)

pub behind_end : (vs : Env → List Value) (fs : List Frame) → steps_behind vs fs 0 ≡ []
unfolding steps_below
behind_end vs fs = refl

pub same_values : (m : ℕ) (vs : Env → List Value) → SameBy m vs vs
same_values m vs env h = refl

pub behind_new : (m : ℕ) (vs : Env → List Value) (fs : List Frame) (f : Frame) → AreFrames (length fs) m fs → f.behind ≤ length fs → steps_behind vs (fs ++ f ∷ []) (length fs + 1) ≡ steps_at vs fs f
behind_new m vs fs f are le =
    let e : length fs + 1 ≡ suc (length fs) = omega arith in
    ap (steps_behind vs (fs ++ f ∷ [])) e
    ∙ behind_frame vs (fs ++ f ∷ []) (length fs) f (get_end fs f) le
    ∙ ap (frame_steps (vs f.env) f.goals.now f.tag f.mark) (behind_same m vs vs fs (fs ++ f ∷ []) (length fs) f.behind le (same_values m vs) are (same_append fs f))

pub frame_raise : (k j m n : ℕ) (f : Frame) → k ≤ j → m ≤ n → IsFrame k m f → IsFrame j n f
frame_raise k j m n f le le' h = record { runnable = h.runnable; older = omega (arith, h.older); env = omega (arith, h.env) }

pub frames_raise : (height m n : ℕ) (fs : List Frame) → m ≤ n → AreFrames height m fs → AreFrames height n fs
frames_raise height m n fs le h k f lt e = frame_raise k k m n f (omega arith) le (h k f lt e)

pub frames_same : (height n m : ℕ) (fs gs : List Frame) → height ≤ n → SameTo n fs gs → AreFrames height m fs → AreFrames height m gs
frames_same height n m fs gs le same h k f lt e = h k f lt (sym (same k (omega arith)) ∙ e)

pub frames_append : (n : ℕ) (fs : List Frame) (f : Frame) → AreFrames (length fs) n fs → IsFrame (length fs) n f → AreFrames (length (fs ++ f ∷ [])) n (fs ++ f ∷ [])
frames_append n fs f h new k g lt e =
    elim (cases_lt k (length fs)) [
      | inl less ↦ h k g less (sym (get_append fs (f ∷ []) k less) ∙ e)
      | inr ge ↦
          let q : length fs ≡ k = omega (arith, length-append fs (f ∷ []), lt) in
          let last : slice_get (fs ++ f ∷ []) k ≡ Some f = ap (slice_get (fs ++ f ∷ [])) (sym q) ∙ get_end fs f in
          let same : f ≡ g = cc in
          subst (λ i. IsFrame i n g) q (subst (IsFrame (length fs) n) same new)
    ]

pub frames_take : (n height : ℕ) (fs : List Frame) → height ≤ length fs → AreFrames height n fs → AreFrames (length (take height fs)) n (take height fs)
frames_take n height fs le h k f lt e =
    let less : k < height = omega (arith, length-take height fs, lt) in
    h k f less (sym (get_take fs height k less) ∙ e)

-- ## Choices

pub left_raise : (h k m n : ℕ) (left : Left) → h ≤ k → m ≤ n → IsLeft h m left → IsLeft k n left
left_raise h k m n (Rules query args rules) le le' s = (s.0, omega (arith, s.1))
left_raise h k m n (Lists env tag lists) le le' s = (s.0, omega (arith, s.1))
left_raise h k m n (Ways first other) le le' s = (frame_raise h k m n first le le' s.0, frame_raise h k m n other le le' s.1)
left_raise h k m n (Way frame) le le' s = frame_raise h k m n frame le le' s
left_raise h k m n (Behind frame cut) le le' s = frame_raise h k m n frame le le' s
left_raise h k m n (TakeOut whole into frame) le le' s = (frame_raise h k m n frame le le' s.0, omega (arith, s.1))
left_raise h k m n (Things trial args) le le' s = (omega (arith, s.0), s.1)

pub stand_raise : (fs : List Frame) (h k m n t u : ℕ) (os : List Choice) → h ≤ k → m ≤ n → t ≤ u → StandOn fs h m t os → StandOn fs k n u os
stand_raise fs h k m n t u [] le le' le'' s = tt
stand_raise fs h k m n t u (o ∷ os) le le' le'' s = (omega (arith, s.0), omega (arith, s.1), omega (arith, s.2), s.3, s.4, s.5)

pub stand_same : (fs gs : List Frame) (h m t : ℕ) (os : List Choice) → SameTo h fs gs → StandOn fs h m t os → StandOn gs h m t os
stand_same fs gs h m t [] same s = tt
stand_same fs gs h m t (o ∷ os) same s =
    (s.0, s.1, s.2, s.3, frames_same o.height h o.refs fs gs s.0 same s.4, stand_same fs gs o.height o.refs o.tag os (same_fewer o.height h fs gs s.0 same) s.5)

pub values_same : (n : ℕ) (s : Store) (xs ys : List Ref) → take n ys ≡ take n xs → SameBy n (values_in s xs) (values_in s ys)
values_same n s xs ys same env ends = ap (map (told s)) (stretch_same n xs ys env ends same)

pub branches_same : (g : Game) (h m : ℕ) (vs us : Env → List Value) (fs gs : List Frame) (left : Left) (r : Registers) → IsLeft h m left → AreFrames h m fs → SameBy m vs us → SameTo h fs gs → branches_of g us gs h left r ≡ branches_of g vs fs h left r
branches_same g h m vs us fs gs (Rules query args rules) r is are same to =
    ap (λ v. rule_branches g query.pred v query.many (steps_behind us gs h) r rules.now) (same args is.1)
    ∙ ap (λ s. rule_branches g query.pred (vs args) query.many s r rules.now) (behind_same m vs us fs gs h h (omega arith) same are to)
branches_same g h m vs us fs gs (Lists env tag lists) r is are same to =
    ap (λ v. list_branches v tag (steps_behind us gs h) r lists.now) (same env is.1)
    ∙ ap (λ s. list_branches (vs env) tag s r lists.now) (behind_same m vs us fs gs h h (omega arith) same are to)
branches_same g h m vs us fs gs (Ways first other) r is are same to =
    ap (λ s. enter 10 0 r s ∷ enter 0 0 r (steps_at us gs other) ∷ []) (at_same m vs us fs gs h first is.0 same are to)
    ∙ ap (λ s. enter 10 0 r (steps_at vs fs first) ∷ enter 0 0 r s ∷ []) (at_same m vs us fs gs h other is.1 same are to)
branches_same g h m vs us fs gs (Way frame) r is are same to = ap (λ s. enter 0 0 r s ∷ []) (at_same m vs us fs gs h frame is same are to)
branches_same g h m vs us fs gs (Behind frame cut) r is are same to = ap (λ s. enter 0 0 r s ∷ []) (at_same m vs us fs gs h frame is same are to)
branches_same g h m vs us fs gs (TakeOut whole into frame) r is are same to =
    ap (λ v. TakeOutBranch r.next_tag (whole_of whole) (value_of_var v 0) (path_of (steps_at us gs frame) (inside 0 r)) ∷ []) (same into is.1)
    ∙ ap (λ s. TakeOutBranch r.next_tag (whole_of whole) (value_of_var (vs into) 0) (path_of s (inside 0 r)) ∷ []) (at_same m vs us fs gs h frame is.0 same are to)
branches_same g h m vs us fs gs (Things trial args) r is are same to =
    let may = may_find (kinds_of g.program) trial.place in
    let os = counted trial.from (trial.end - trial.from) in
    ap (λ v. trial_branches may trial.place v trial.many (steps_behind us gs h) r os) (same args is.0)
    ∙ ap (λ s. trial_branches may trial.place (vs args) trial.many s r os) (behind_same m vs us fs gs h h (omega arith) same are to)

choice_same : (g : Game) (xs ys : List Ref) (fs gs : List Frame) (h m t : ℕ) (o : Choice) (os : List Choice) (s : Saved) (ws : List WayOn) (c : Live) → take m ys ≡ take m xs → SameTo h fs gs → StandOn fs h m t (o ∷ os) → IsChoice g xs fs o s ws c → IsChoice g ys gs o s ws c
choice_same g xs ys fs gs h m t o os s ws c refs to st k =
    let few : take o.refs ys ≡ take o.refs xs = sym (take_of_take m o.refs ys st.1) ∙ ap (take o.refs) refs ∙ take_of_take m o.refs xs st.1 in
    record {
      registers = k.registers;
      agrees = k.agrees;
      hold = subst (All (Holds s.store)) (sym few) k.hold;
      place = k.place;
      tag_at = k.tag_at;
      stop = k.stop;
      kind = k.kind;
      tag = k.tag;
      others = k.others ∙ sym (branches_same g o.height o.refs (values_in s.store xs) (values_in s.store ys) fs gs o.left k.registers st.3.0 st.4 (values_same o.refs s.store xs ys few) (same_fewer o.height h fs gs st.0 to));
      height = k.height;
      ways_on = k.ways_on;
    }

-- the choices stay the same where the frames and Refs that they stand on do
pub choices_same : (g : Game) (xs ys : List Ref) (fs gs : List Frame) (h m t : ℕ) (os : List Choice) (ms : List Saved) (cs : List Live) → take m ys ≡ take m xs → SameTo h fs gs → StandOn fs h m t os → AreChoices g xs fs os ms cs → AreChoices g ys gs os ms cs
choices_same g xs ys fs gs h m t [] [] [] refs to st k = tt
choices_same g xs ys fs gs h m t [] [] (c ∷ cs) refs to st k = absurd k
choices_same g xs ys fs gs h m t [] (s ∷ ms) cs refs to st k = absurd k
choices_same g xs ys fs gs h m t (o ∷ os) [] cs refs to st k = absurd k
choices_same g xs ys fs gs h m t (o ∷ os) (s ∷ ms) [] refs to st k = absurd k
choices_same g xs ys fs gs h m t (o ∷ os) (s ∷ ms) (c ∷ cs) refs to st k = (
  choice_same g xs ys fs gs h m t o os s (ways_of os cs) c refs to st k.0,
  choices_same g xs ys fs gs o.height o.refs o.tag os ms cs (sym (take_of_take m o.refs ys st.1) ∙ ap (take o.refs) refs ∙ take_of_take m o.refs xs st.1) (same_fewer o.height h fs gs st.0 to) st.5 k.1,
)

pub back_same : (xs ys : List Ref) (fs : List Frame) (h m t heap trail : ℕ) (os : List Choice) (ms : List Saved) → take m ys ≡ take m xs → StandOn fs h m t os → GoBackTo xs heap trail os ms → GoBackTo ys heap trail os ms
back_same xs ys fs h m t heap trail [] [] refs st k = tt
back_same xs ys fs h m t heap trail [] (s ∷ ms) refs st k = absurd k
back_same xs ys fs h m t heap trail (o ∷ os) [] refs st k = absurd k
back_same xs ys fs h m t heap trail (o ∷ os) (s ∷ ms) refs st k =
    let few : take o.refs ys ≡ take o.refs xs = sym (take_of_take m o.refs ys st.1) ∙ ap (take o.refs) refs ∙ take_of_take m o.refs xs st.1 in
    (k.0, subst (All (Holds s.store)) (sym few) k.1, k.2, k.3, back_same xs ys fs o.height o.refs o.tag heap trail os ms few st.5 k.4)

-- ## Cuts

left_in_case : (P : Option Choice → Type 0) (t : ℕ) (o : Choice) (left : Left) → ((frame : Frame) (cut : Option ℕ) → left ≡ Behind frame cut → P (Some (record o { left = Behind frame (noting t cut) }))) → (IsNoPart left → P None) → P (waits_in t o left)
left_in_case P t o (Rules query args rules) waits gone = gone tt
left_in_case P t o (Lists env tag lists) waits gone = gone tt
left_in_case P t o (Ways first other) waits gone = gone tt
left_in_case P t o (Way frame) waits gone = gone tt
left_in_case P t o (Behind frame cut) waits gone = waits frame cut refl
left_in_case P t o (TakeOut whole into frame) waits gone = gone tt
left_in_case P t o (Things trial args) waits gone = gone tt

-- what is left of a choice, case by case: it is older, or the cut waits in it, or it is gone
pub left_cases : (P : Option Choice → Type 0) (t : ℕ) (o : Choice) → (o.tag < t → P (Some o)) → ((frame : Frame) (cut : Option ℕ) → t ≤ o.tag → o.left ≡ Behind frame cut → P (Some (record o { left = Behind frame (noting t cut) }))) → (t ≤ o.tag → IsNoPart o.left → P None) → P (left_by t o)
left_cases P t o older waits gone =
    cond_both (nat_lt o.tag t) (Some o) (waits_in t o o.left) P (λ e. older (ltb-true o.tag t e))
    (λ e. let ge : t ≤ o.tag = ltb-false o.tag t e in left_in_case P t o o.left (λ frame cut is. waits frame cut ge is) (λ plain. gone ge plain))

-- what begins a choice is no way on behind a part
pub no_part : (left : Left) → IsOrdinary left → IsNoPart left
no_part (Rules query args rules) h = tt
no_part (Lists env tag lists) h = tt
no_part (Ways first other) h = tt
no_part (Way frame) h = tt
no_part (Behind frame cut) h = absurd h
no_part (TakeOut whole into frame) h = absurd h
no_part (Things trial args) h = tt

pub plain_cut : (left : Left) → IsNoPart left → cut_of left ≡ None
plain_cut (Rules query args rules) h = refl
plain_cut (Lists env tag lists) h = refl
plain_cut (Ways first other) h = refl
plain_cut (Way frame) h = refl
plain_cut (Behind frame cut) h = absurd h
plain_cut (TakeOut whole into frame) h = refl
plain_cut (Things trial args) h = refl

pub plain_way : (left : Left) (c : Live) (ws : List WayOn) → IsNoPart left → with_way left c ws ≡ ws
plain_way (Rules query args rules) c ws h = refl
plain_way (Lists env tag lists) c ws h = refl
plain_way (Ways first other) c ws h = refl
plain_way (Way frame) c ws h = refl
plain_way (Behind frame cut) c ws h = absurd h
plain_way (TakeOut whole into frame) c ws h = refl
plain_way (Things trial args) c ws h = refl

-- of what stands in step with choices, what stands with those that a cut leaves
abbrev pub with_rest : {A : Type 0} → Option Choice → List A → List A → List A
with_rest None all rest = rest
with_rest (Some o) all rest = all

abbrev pub rest_older : {A : Type 0} → ℕ → List Choice → List A → List A
rest_older t [] xs = xs
rest_older t (o ∷ os) [] = []
rest_older t (o ∷ os) (x ∷ xs) = with_rest (left_by t o) (x ∷ xs) (rest_older t os xs)

choice_noted : (g : Game) (refs : List Ref) (fs : List Frame) (o : Choice) (m : Saved) (ws : List WayOn) (c : Live) (t : ℕ) (frame : Frame) (cut : Option ℕ) → o.left ≡ Behind frame cut → IsChoice g refs fs o m ws c → IsChoice g refs fs (record o { left = Behind frame (noting t cut) }) m ws c
choice_noted g refs fs o m ws c t frame cut is k = record {
  registers = k.registers;
  agrees = k.agrees;
  hold = k.hold;
  place = k.place;
  tag_at = k.tag_at;
  stop = k.stop;
  kind = k.kind ∙ ap kind_of is;
  tag = k.tag;
  others = k.others ∙ ap (λ l. branches_of g (values_in m.store refs) fs o.height l k.registers) is;
  height = k.height;
  ways_on = k.ways_on;
}

pub choices_cut : (g : Game) (t : ℕ) (refs : List Ref) (fs : List Frame) (os : List Choice) (ms : List Saved) (cs : List Live) → AreChoices g refs fs os ms cs → AreChoices g refs fs (older_than t os) (rest_older t os ms) (rest_older t os cs)
choices_cut g t refs fs [] [] [] h = tt
choices_cut g t refs fs [] [] (c ∷ cs) h = absurd h
choices_cut g t refs fs [] (m ∷ ms) cs h = absurd h
choices_cut g t refs fs (o ∷ os) [] cs h = absurd h
choices_cut g t refs fs (o ∷ os) (m ∷ ms) [] h = absurd h
choices_cut g t refs fs (o ∷ os) (m ∷ ms) (c ∷ cs) h =
    left_cases (λ x. AreChoices g refs fs (with_older x os (older_than t os)) (with_rest x (m ∷ ms) (rest_older t os ms)) (with_rest x (c ∷ cs) (rest_older t os cs))) t o
    (λ less. h) (λ frame cut ge is. (choice_noted g refs fs o m (ways_of os cs) c t frame cut is h.0, h.1)) (λ ge plain. choices_cut g t refs fs os ms cs h.1)

cut_younger : (t u : ℕ) (cs : List Live) → t ≤ u → cut_to t (cut_to u cs) ≡ cut_to t cs
cut_younger t u [] le = refl
cut_younger t u (c ∷ cs) le =
    cond_both (nat_lt c.tag u) (c ∷ cs) (cut_to u cs) (λ l. cut_to t l ≡ cut_to t (c ∷ cs)) (λ e. refl)
    (λ e. cut_younger t u cs le ∙ sym (cond-false (nat_lt c.tag t) (c ∷ cs) (cut_to t cs) (le-ltb c.tag t (omega (arith, le, ltb-false c.tag u e)))))

pub cut_older : (t u : ℕ) (cs : List Live) → u ≤ t → cut_to t (cut_to u cs) ≡ cut_to u cs
cut_older t u [] le = refl
cut_older t u (c ∷ cs) le =
    cond_both (nat_lt c.tag u) (c ∷ cs) (cut_to u cs) (λ l. cut_to t l ≡ l)
    (λ e. cond-true (nat_lt c.tag t) (c ∷ cs) (cut_to t cs) (lt-ltb c.tag t (omega (arith, le, ltb-true c.tag u e)))) (λ e. cut_older t u cs le)

-- of two cuts the older one counts
pub cut_twice : (t u : ℕ) (cs : List Live) → cut_to t (cut_to u cs) ≡ cut_to (min u t) cs
cut_twice t u cs =
    elim (cases_lt t u) [
      | inl lt ↦ let e : min u t ≡ t = omega arith in cut_younger t u cs (omega arith) ∙ ap (λ k. cut_to k cs) (sym e)
      | inr ge ↦ let e : min u t ≡ u = omega arith in cut_older t u cs ge ∙ ap (λ k. cut_to k cs) (sym e)
    ]

cut_noted : (t : ℕ) (cut : Option ℕ) (cs : List Live) → cut_if (noting t cut) cs ≡ cut_to t (cut_if cut cs)
cut_noted t None cs = refl
cut_noted t (Some u) cs = sym (cut_twice t u cs)

older_stays : (t : ℕ) (cut : Option ℕ) (c : Live) (cs : List Live) → c.tag < t → cut_to t (cut_if cut (c ∷ cs)) ≡ cut_if cut (c ∷ cs)
older_stays t None c cs less = cond-true (nat_lt c.tag t) (c ∷ cs) (cut_to t cs) (lt-ltb c.tag t less)
older_stays t (Some u) c cs less =
    cond_both (nat_lt c.tag u) (c ∷ cs) (cut_to u cs) (λ l. cut_to t l ≡ l) (λ e. cond-true (nat_lt c.tag t) (c ∷ cs) (cut_to t cs) (lt-ltb c.tag t less)) (λ e. cut_older t u cs (omega (arith, less, ltb-false c.tag u e)))

pub cut_gone : (t : ℕ) (c : Live) (cs : List Live) → t ≤ c.tag → cut_to t (c ∷ cs) ≡ cut_to t cs
cut_gone t c cs ge = cond-false (nat_lt c.tag t) (c ∷ cs) (cut_to t cs) (le-ltb c.tag t ge)

-- the choices that are left are those of the meaning
pub lives_cut : (g : Game) (t : ℕ) (refs : List Ref) (fs : List Frame) (os : List Choice) (ms : List Saved) (cs : List Live) → AreChoices g refs fs os ms cs → lives_of (older_than t os) (rest_older t os cs) ≡ cut_to t (lives_of os cs)
lives_cut g t refs fs [] ms cs h = refl
lives_cut g t refs fs (o ∷ os) [] cs h = absurd h
lives_cut g t refs fs (o ∷ os) (m ∷ ms) [] h = absurd h
lives_cut g t refs fs (o ∷ os) (m ∷ ms) (c ∷ cs) h =
    let before = cut_to t (cut_if (cut_of o.left) (c ∷ lives_of os cs)) in
    left_cases (λ x. lives_of (with_older x os (older_than t os)) (with_rest x (c ∷ cs) (rest_older t os cs)) ≡ before) t o
    (λ less. sym (older_stays t (cut_of o.left) c (lives_of os cs) (omega (arith, less, h.0.tag))))
    (λ frame cut ge is. cut_noted t cut (c ∷ lives_of os cs) ∙ ap (λ l. cut_to t (cut_if (cut_of l) (c ∷ lives_of os cs))) (sym is))
    (λ ge plain. lives_cut g t refs fs os ms cs h.1 ∙ sym (ap (λ k. cut_to t (cut_if k (c ∷ lives_of os cs))) (plain_cut o.left plain) ∙ cut_gone t c (lives_of os cs) (omega (arith, ge, h.0.tag))))

-- and all ways on are kept
pub ways_cut : (g : Game) (t : ℕ) (refs : List Ref) (fs : List Frame) (os : List Choice) (ms : List Saved) (cs : List Live) → AreChoices g refs fs os ms cs → ways_of (older_than t os) (rest_older t os cs) ≡ ways_of os cs
ways_cut g t refs fs [] ms cs h = refl
ways_cut g t refs fs (o ∷ os) [] cs h = absurd h
ways_cut g t refs fs (o ∷ os) (m ∷ ms) [] h = absurd h
ways_cut g t refs fs (o ∷ os) (m ∷ ms) (c ∷ cs) h =
    left_cases (λ x. ways_of (with_older x os (older_than t os)) (with_rest x (c ∷ cs) (rest_older t os cs)) ≡ with_way o.left c (ways_of os cs)) t o
    (λ less. refl) (λ frame cut ge is. ap (λ l. with_way l c (ways_of os cs)) (sym is)) (λ ge plain. ways_cut g t refs fs os ms cs h.1 ∙ sym (plain_way o.left c (ways_of os cs) plain))

pub back_cut : (t : ℕ) (refs : List Ref) (heap trail : ℕ) (os : List Choice) (ms : List Saved) → GoBackTo refs heap trail os ms → GoBackTo refs heap trail (older_than t os) (rest_older t os ms)
back_cut t refs heap trail [] ms h = h
back_cut t refs heap trail (o ∷ os) [] h = absurd h
back_cut t refs heap trail (o ∷ os) (m ∷ ms) h =
    left_cases (λ x. GoBackTo refs heap trail (with_older x os (older_than t os)) (with_rest x (m ∷ ms) (rest_older t os ms))) t o (λ less. h) (λ frame cut ge is. h) (λ ge plain. back_cut t refs heap trail os ms h.4)

-- what holds of places holds of those that a cut leaves, where the newest may be forgotten
pub keeps_cut : (P : List Saved → Type 0) → ((m : Saved) (ms : List Saved) → P (m ∷ ms) → P ms) → P [] → (t : ℕ) (os : List Choice) (ms : List Saved) → P ms → P (rest_older t os ms)
keeps_cut P drops none t [] ms h = h
keeps_cut P drops none t (o ∷ os) [] h = none
keeps_cut P drops none t (o ∷ os) (m ∷ ms) h = left_cases (λ x. P (with_rest x (m ∷ ms) (rest_older t os ms))) t o (λ less. h) (λ frame cut ge is. h) (λ ge plain. keeps_cut P drops none t os ms (drops m ms h))

noted_since : (tag t : ℕ) (cut : Option ℕ) → t ≤ tag → IsNoted tag (noting t cut)
noted_since tag t None le = le
noted_since tag t (Some u) le = omega (arith, le)

pub stand_cut : (fs : List Frame) (t h m u : ℕ) (os : List Choice) → StandOn fs h m u os → StandOn fs h m u (older_than t os)
stand_cut fs t h m u [] s = tt
stand_cut fs t h m u (o ∷ os) s =
    left_cases (λ x. StandOn fs h m u (with_older x os (older_than t os))) t o (λ less. s)
    (λ frame cut ge is. (s.0, s.1, s.2, (subst (IsLeft o.height o.refs) is s.3.0, refl, noted_since o.tag t cut ge), s.4, s.5))
    (λ ge plain. stand_cut fs t h m u os (stand_raise fs o.height h o.refs m o.tag u os s.0 s.1 s.2 s.5))

pub cut_fewer : (t : ℕ) (os : List Choice) → all_left (older_than t os) ≤ all_left os
cut_fewer t [] = omega arith
cut_fewer t (o ∷ os) =
    left_cases (λ x. all_left (with_older x os (older_than t os)) ≤ 1 + left_in o.left + all_left os) t o (λ less. omega arith)
    (λ frame cut ge is. let one : left_in o.left ≡ 1 = ap left_in is in omega (arith, one)) (λ ge plain. omega (arith, cut_fewer t os))

pub stand_floor : (fs : List Frame) (h k m t : ℕ) (os : List Choice) → floor_of os ≤ k → StandOn fs h m t os → StandOn fs k m t os
stand_floor fs h k m t [] le s = tt
stand_floor fs h k m t (o ∷ os) le s = (omega arith, s.1, s.2, s.3, s.4, s.5)

pub floor_within : (fs : List Frame) (h m t : ℕ) (os : List Choice) → StandOn fs h m t os → floor_of os ≤ h
floor_within fs h m t [] s = omega arith
floor_within fs h m t (o ∷ os) s = omega (arith, s.0)
