-- Stoppable parts are entered, left and stopped.
use Rattle.std.proofs.Common.{◌≡◌, ℕ, zero, suc, ◌<◌, ◌≤◌, List, [], ◌∷◌, ◌++◌, Some, None, inl, inr, refl, sym, ap, ◌∙◌, subst, arith, length, reverse, vec_capacity}
use Rattle.std.specs.Prelude.{eqb, nat_lt}
use Rattle.std.specs.Borrow.{Bor}
use Rattle.std.proofs.lemmas.Bool.{cond-true, cond-false, cases_lt, lt-ltb, le-ltb, eq-eqb, ne_eqb}
use Rattle.std.proofs.lemmas.List.{reverse-append, reverse-reverse, length-reverse, length-append}
use Rattle.dg_base.specs.declared.run.Limits.{Limits}
use Rattle.dg_meaning.specs.World.{Game}
use Rattle.dg_mid.specs.declared.code.Op.{Op}
use Rattle.dg_mid.specs.declared.code.Code.{Code}
use Rattle.dg_mid.specs.Code.{block_at}
use Rattle.dg_mid.specs.State.{Stop, Mid, Choice as ChoiceOf, Goes as GoesOf, Runs as RunsOf, cut_choices, stop_to}
use Rattle.dg_mid.specs.Step.{setting, more, stopped, stops, stops_at, leaves}
use Rattle.dg_mid.specs.Heights.{AgreeAll, StopsNamed, PlacesNamed, MidOrdered}
use Rattle.dg_mid.specs.Stops.{choice_of, choices_of}
use Rattle.dg_machine.specs.declared.now.Inner.{Inner}
use Rattle.dg_machine.specs.declared.now.Choice.{Choice}
use Rattle.dg_machine.specs.declared.now.Way.{Way}
use Rattle.dg_machine.specs.declared.now.Way.TheVariants.{Goes, Takes, Calls, Tries}
use Rattle.dg_machine.specs.declared.now.Now.TheVariants.{Runs, Fails}
use Rattle.dg_machine.specs.declared.memory.Memory.{Memory}
use Rattle.dg_machine.specs.Links.{named, below}
use Rattle.dg_machine.specs.Built.{IsBuilt}
use Rattle.dg_machine.specs.Stops.{tags_of, Among}
use Rattle.dg_unify.specs.Store.{Saved}
use Rattle.dg_unify.specs.declared.bindings.Ref.{Ref}
use Rattle.dg_arena.specs.Held.{meaning_of}
use Rattle.dg_machine.specs.declared.now.Frame.{Frame}
use Rattle.dg_machine.specs.Layout.{WayAt, ChoicesAt, Holds, Roomy, CanRestore, WentBack}
use Rattle.dg_machine.specs.Standing.{CodeIs, Falls, Around, HasLasting, StandsWith}
use Rattle.dg_lasting.specs.Lasting.{Closes}
use Rattle.dg_lasting.specs.declared.lasting.Lasting.{Lasting}
use Rattle.dg_machine.proofs.Lasting.{closed_back}
use Rattle.dg_machine.proofs.StopLemmas.{named_in_front, tags_length, choices_length, among_same, among_tail}
use Rattle.dg_machine.proofs.Cuts.{FirstBelow, among_cut, below_first, back_to}
use Rattle.dg_machine.proofs.Opens.{named_end, roomy}
use Rattle.dg_machine.proofs.Backs.{dropped_roomy}
use Rattle.dg_machine.proofs.Hands.{some_inner, no_inner, cut_left, at_most_one}
use Rattle.dg_machine.proofs.Leads.{was_cut}
use Rattle.dg_machine.proofs.Leaving.{block_is}

-- ## Which part is open

turned : {A : Type 0} (x : A) (xs : List A) → reverse (x ∷ xs) ≡ reverse xs ++ x ∷ []
turned x xs = reverse-append (x ∷ []) xs

-- what is named behind a list is what stands behind it
pub record IsLast {A : Type 0} (xs : List A) (x : A) (n : ℕ) (y : A) : Type 0 where
  pub same : y ≡ x
  pub place : n ≡ suc (length xs)

named_last : {A : Type 0} (xs : List A) (x : A) (n : ℕ) (y : A) → length xs < n → named (xs ++ x ∷ []) n ≡ Some y → IsLast xs x n y
named_last xs x zero y lt e = absurd (omega (arith, lt))
named_last [] x (suc zero) y lt e = record { same = cc; place = refl }
named_last [] x (suc (suc n)) y lt e = absurd (cc)
named_last (z ∷ xs) x (suc zero) y lt e = absurd (omega (arith, lt))
named_last (z ∷ xs) x (suc (suc n)) y lt e =
    let h = named_last xs x (suc n) y (omega (arith, lt)) e in
    let place = h.place in
    record { same = h.same; place = omega (arith, place) }

-- a stoppable part that is kept, those within it, and those around it
pub record KeptStop (points : List Choice) (means : List ChoiceOf) (n : ℕ) (k : Choice) (ss : List Stop) : Type 0 where
  pub within : List Stop
  pub part : Stop
  pub around : List Stop
  pub is : ss ≡ within ++ part ∷ around
  pub tag : named (tags_of ss) n ≡ Some part.place.tag
  pub others : List Choice
  pub among : Among points means (k ∷ others) (choice_of part around ∷ choices_of around)

kept_at : (points : List Choice) (means : List ChoiceOf) (ks : List Choice) (n : ℕ) (k : Choice) (ss : List Stop) → named (reverse ks) n ≡ Some k → Among points means ks (choices_of ss) → KeptStop points means n k ss
kept_at points means [] zero k ss e h = absurd (cc)
kept_at points means [] (suc n) k ss e h = absurd (cc)
kept_at points means (x ∷ ks) n k [] e h = absurd (let same = among_same points means (x ∷ ks) [] h in omega (arith, same))
kept_at points means (x ∷ ks) n k (s ∷ ss) e h =
    let there : named (reverse ks ++ x ∷ []) n ≡ Some k = ap (λ l. named l n) (sym (turned x ks)) ∙ e in
    let left = among_tail points means x ks (choice_of s ss) (choices_of ss) h in
    let many : length (reverse ks) ≡ length (tags_of ss) = length-reverse ks ∙ among_same points means ks (choices_of ss) left ∙ choices_length ss ∙ sym (tags_length ss) in
    elim (cases_lt (length (reverse ks)) n) [
      | inl lt ↦
          let last = named_last (reverse ks) x n k lt there in
          let place : n ≡ suc (length (tags_of ss)) = last.place ∙ ap suc many in
          record {
            within = [];
            part = s;
            around = ss;
            is = refl;
            tag = named_end (tags_of ss) (tags_of (s ∷ ss)) n s.place.tag refl (place ∙ omega (arith, length-append (tags_of ss) (s.place.tag ∷ [])));
            others = ks;
            among = subst (λ y. Among points means (y ∷ ks) (choice_of s ss ∷ choices_of ss)) (sym last.same) h;
          }
      | inr ge ↦
          let x' = kept_at points means ks n k ss (sym (named_in_front (reverse ks) (x ∷ []) n ge) ∙ there) left in
          record {
            within = s ∷ x'.within;
            part = x'.part;
            around = x'.around;
            is = ap (λ l. s ∷ l) x'.is;
            tag = named_in_front (tags_of ss) (s.place.tag ∷ []) n (omega (arith, ge, many)) ∙ x'.tag;
            others = x'.others;
            among = x'.among;
          }
    ]

-- the part of a tag is found, since those within it have greater tags
tag_less : (t h : ℕ) (cs : List ChoiceOf) (within : List Stop) (s : Stop) (around : List Stop) → StopsNamed t h cs (within ++ s ∷ around) → s.place.tag < t
tag_less t h cs [] s around n = n.1
tag_less t h cs (x ∷ within) s around n = let lt = tag_less x.place.tag x.place.height cs within s around n.5 in omega (arith, lt, n.1)

stop_found : (t h : ℕ) (cs : List ChoiceOf) (within : List Stop) (s : Stop) (around : List Stop) → StopsNamed t h cs (within ++ s ∷ around) → stop_to s.place.tag (within ++ s ∷ around) ≡ Some (s, around)
stop_found t h cs [] s around n = cond-true (eqb s.place.tag s.place.tag) (Some (s, around)) (stop_to s.place.tag around) (eq-eqb s.place.tag s.place.tag refl)
stop_found t h cs (x ∷ within) s around n =
    let lt = tag_less x.place.tag x.place.height cs within s around n.5 in
    cond-false (eqb x.place.tag s.place.tag) (Some (x, within ++ s ∷ around)) (stop_to s.place.tag (within ++ s ∷ around)) (ne_eqb x.place.tag s.place.tag (λ e. omega (arith, lt, e)))
    ∙ stop_found x.place.tag x.place.height cs within s around n.5

stop_agrees : (t h : ℕ) (cs : List ChoiceOf) (within : List Stop) (s : Stop) (around : List Stop) → StopsNamed t h cs (within ++ s ∷ around) → AgreeAll cs s.place
stop_agrees t h cs [] s around n = n.0.agrees
stop_agrees t h cs (x ∷ within) s around n = stop_agrees x.place.tag x.place.height cs within s around n.5

-- the part that is open, as memory keeps it
pub open_part_is : (code : Code) (l : Limits) (m : Mid) (r : Memory) (k : Choice) (h : Holds code l r m) → named r.stops.items r.stop ≡ Some k → KeptStop h.0.choices_are.points h.0.choices_are.means r.stop k m.stops
open_part_is code l m r k h is =
    let x = h.0.choices_are in
    kept_at x.points x.means (reverse r.stops.items) r.stop k m.stops (ap (λ l. named l r.stop) (reverse-reverse r.stops.items) ∙ is) x.stops_in

none_named : {A : Type 0} (xs : List A) (n : ℕ) → named xs n ≡ None → n ≤ length xs → n ≡ 0
none_named xs zero e le = refl
none_named [] (suc n) e le = absurd (omega (arith, le))
none_named (x ∷ xs) (suc zero) e le = absurd (cc)
none_named (x ∷ xs) (suc (suc n)) e le = let none = none_named xs (suc n) e (omega (arith, le)) in absurd (omega (arith, none))

-- or none is
pub none_is_open : (code : Code) (l : Limits) (m : Mid) (r : Memory) → Holds code l r m → named r.stops.items r.stop ≡ None → m.stop ≡ None
none_is_open code l m r h is =
    let x = h.0.choices_are in
    let many = among_same x.points x.means (reverse r.stops.items) (choices_of m.stops) x.stops_in in
    let within = h.0.stop_is.within in
    let zero_is = none_named r.stops.items r.stop is (omega (arith, within, many, length-reverse r.stops.items, choices_length m.stops, tags_length m.stops)) in
    sym h.0.stop_is.is ∙ ap (λ n. named (tags_of m.stops) n) zero_is

-- ## A stop

-- some of what choices stand for is left where they are cut
below_in : (ps : List Choice) (qs : List ChoiceOf) (to : ℕ) (ks : List Choice) (cs : List ChoiceOf) → Among ps qs ks cs → (ds : List ChoiceOf) × Among ps qs (below to ks) ds
below_in ps qs to [] cs h = (cs, h)
below_in ps qs to (k ∷ ks) [] h = absurd (let same = among_same ps qs (k ∷ ks) [] h in omega (arith, same))
below_in ps qs to (k ∷ ks) (c ∷ cs) h =
    elim (cases_lt k.mark.heap to) [
      | inl lt ↦ (c ∷ cs, subst (λ l. Among ps qs l (c ∷ cs)) (sym (cond-true (nat_lt k.mark.heap to) (k ∷ ks) (below to ks) (lt-ltb k.mark.heap to lt))) h)
      | inr ge ↦
          let x = below_in ps qs to ks cs (among_tail ps qs k ks c cs h) in
          (x.0, subst (λ l. Among ps qs l x.0) (sym (cond-false (nat_lt k.mark.heap to) (k ∷ ks) (below to ks) (le-ltb k.mark.heap to ge))) x.1)
    ]

height_in : (code : Code) (xs : List Frame) (is : List Inner) (rs : List Ref) (ts : List Choice) (ms : List Saved) (ps : List Choice) (qs : List ChoiceOf) (k : Choice) (ks : List Choice) (c : ChoiceOf) (cs : List ChoiceOf) → ChoicesAt code xs is rs ts ms ps qs → Among ps qs (k ∷ ks) (c ∷ cs) → c.place.height ≡ k.mark.heap
height_in code xs is rs ts (m ∷ ms) (p ∷ ps) (q ∷ qs) k ks c cs at (inl x) = ap (λ (y : ChoiceOf). y.place.height) x.1 ∙ at.0.height ∙ ap (λ (y : Choice). y.mark.heap) (sym x.0)
height_in code xs is rs ts (m ∷ ms) (p ∷ ps) (q ∷ qs) k ks c cs at (inr x) = let o = at.0 in height_in code o.frames_then o.inners_then o.refs_then o.stops_then ms ps qs k ks c cs o.older_are.0 x
height_in code xs is rs ts ms [] [] k ks c cs at x = absurd x
height_in code xs is rs ts ms [] (q ∷ qs) k ks c cs at x = absurd x
height_in code xs is rs ts ms (p ∷ ps) [] k ks c cs at x = absurd x
height_in code xs is rs ts [] (p ∷ ps) (q ∷ qs) k ks c cs at x = absurd at

module _ (code : Code) (l : Limits) (m : Mid) (r mid : Memory) (k : Choice) (h : Holds code l r m) (is : named r.stops.items r.stop ≡ Some k)
    (left : reverse mid.choices.items ≡ below k.mark.heap (reverse r.choices.items)) (same : mid ≡ record r { choices = mid.choices }) where
  kept : KeptStop h.0.choices_are.points h.0.choices_are.means r.stop k m.stops
  kept = open_part_is code l m r k h is

  -- memory may go back to the part, with any choices that are left
  may_go : (part : Stop) (around : List Stop) (others : List Choice) (ds : List ChoiceOf) → Among h.0.choices_are.points h.0.choices_are.means (k ∷ others) (choice_of part around ∷ choices_of around) → Among h.0.choices_are.points h.0.choices_are.means (below k.mark.heap (reverse r.choices.items)) ds → CanRestore code mid k (choice_of part around) ds
  may_go part around others ds among left_in =
      let x = h.0.choices_are in
      let js = reverse mid.choices.items in
      let left_in' = subst (λ ks. Among x.points x.means ks ds) (sym left) left_in in
      let first = subst (FirstBelow k.mark.heap) (sym left) (below_first k.mark.heap (reverse r.choices.items)) in
      let at = back_to code r.frames.items r.inners.items r.kept.items r.stops.items r.arena k.mark.heap h.0.saves x.points x.means k others (choice_of part around) (choices_of around) js ds refl first h.0.stand x.are among left_in' in
      subst (λ y. CanRestore code y k (choice_of part around) ds) (sym same) at

  pub may_stop : (c : ChoiceOf) × (ds : List ChoiceOf) × CanRestore code mid k c ds
  may_stop =
      let x = h.0.choices_are in
      let some = below_in x.points x.means k.mark.heap (reverse r.choices.items) m.choices x.choices_in in
      (choice_of kept.part kept.around, some.0, may_go kept.part kept.around kept.others some.0 kept.among some.1)

  pub cut_roomy : vec_capacity mid.choices ≡ vec_capacity r.choices → Roomy l mid
  cut_roomy capacity = subst (Roomy l) (sym same) (dropped_roomy l r mid (roomy code l m r h) capacity)

  module _ (g : Game) (o : MidOrdered m) (new : Memory) (out out' : Lasting) (w : Around out g l m) (closes : Closes new.gathered out out') (back : (c : ChoiceOf) (ds : List ChoiceOf) → CanRestore code mid k c ds → WentBack code l (Some k.way) new (more 0 m) (c ∷ ds)) where
    ordered : StopsNamed m.next_tag m.state.heap m.choices (kept.within ++ kept.part ∷ kept.around)
    ordered = subst (StopsNamed m.next_tag m.state.heap m.choices) kept.is o.named.stops_are

    went : WentBack code l (Some k.way) new (more 0 m) (choice_of kept.part kept.around ∷ cut_choices kept.part.place m.choices)
    went =
        let x = h.0.choices_are in
        let height = height_in code r.frames.items r.inners.items r.kept.items r.stops.items h.0.saves x.points x.means k kept.others (choice_of kept.part kept.around) (choices_of kept.around) x.are kept.among in
        let agrees = stop_agrees m.next_tag m.state.heap m.choices kept.within kept.part kept.around ordered in
        let left_in = among_cut code r.frames.items r.inners.items r.kept.items r.stops.items kept.part.place k.mark.heap h.0.saves x.points x.means (reverse r.choices.items) m.choices height agrees x.are x.choices_in in
        back (choice_of kept.part kept.around) (cut_choices kept.part.place m.choices) (may_go kept.part kept.around kept.others (cut_choices kept.part.place m.choices) kept.among left_in)

    leads : stops (setting g code l) m.stop (more 0 m) ≡ RunsOf (stopped (setting g code l) kept.part kept.around (more 0 m))
    leads =
        let stop : m.stop ≡ Some kept.part.place.tag = sym h.0.stop_is.is ∙ kept.tag in
        let found : stop_to kept.part.place.tag m.stops ≡ Some (kept.part, kept.around) = ap (stop_to kept.part.place.tag) kept.is ∙ stop_found m.next_tag m.state.heap m.choices kept.within kept.part kept.around ordered in
        ap (λ t. stops (setting g code l) t (more 0 m)) stop ∙ ap (λ x. stops_at (setting g code l) x (more 0 m)) found

    closed : HasLasting out' g l (RunsOf (stopped (setting g code l) kept.part kept.around (more 0 m)))
    closed = closed_back code g l k.way new out out' (more 0 m) (choice_of kept.part kept.around ∷ cut_choices kept.part.place m.choices) went closes w

    -- it goes on behind the part
    pub stops_to : (b : ℕ) (ops : Bor (List Op)) → IsBuilt code → k.way ≡ Goes b → ops.now ≡ block_at code b → StandsWith code g l new (Runs ops) out' (stops (setting g code l) m.stop (more 0 m))
    stops_to b ops built goes at =
        let block : kept.part.block ≡ b = subst (λ w. WayAt code (meaning_of new.arena) new.args.items w (GoesOf kept.part.block)) goes went.0 in
        subst (StandsWith code g l new (Runs ops) out') (sym leads)
        (record { stands = (block_is code b ops.now (stopped (setting g code l) kept.part kept.around (more 0 m)) built at (ap (block_at code) block), went.1); lasting = closed })

    goes_at : (w : Way) (b : ℕ) → WayAt code (meaning_of new.arena) new.args.items w (GoesOf b) → (n : ℕ) × (w ≡ Goes n)
    goes_at (Goes n) b at = (n, refl)
    goes_at (Takes n) b at = absurd at
    goes_at (Calls c pred count) b at = absurd at
    goes_at (Tries c from end) b at = absurd at

    pub stops_else : ((b : ℕ) → k.way ≡ Goes b → ⊥) → StandsWith code g l new Fails out' (stops (setting g code l) m.stop (more 0 m))
    stops_else other = let x = goes_at k.way kept.part.block went.0 in absurd (other x.0 x.1)

-- ## A part is left

pub left_part : (code : Code) (g : Game) (l : Limits) (m : Mid) (inner : Inner) (r mid : Memory) (ops rest : Bor (List Op)) → MidOrdered m → Holds code l r m → named r.inners.items r.inner ≡ Some inner → reverse mid.choices.items ≡ below inner.height (reverse r.choices.items) →
    vec_capacity mid.choices ≡ vec_capacity r.choices → length mid.choices.items ≤ length r.choices.items → mid ≡ record r { choices = mid.choices } → CodeIs rest.now m → Falls code l r (Runs ops) (record mid { inner = inner.around; stop = inner.stop }) (Runs rest) (leaves m.inner m)
left_part code g l m inner r mid ops rest o h is left capacity fewer same at =
    let x = some_inner (meaning_of r.arena) (tags_of m.stops) r.inners.items r.inner inner m.inner is h.0.inner_are in
    let named_all : PlacesNamed m.next_tag m.state.heap m.choices (x.innermost ∷ x.around) = subst (PlacesNamed m.next_tag m.state.heap m.choices) x.is o.named.inner_are in
    let out : Holds code l (record r { inner = inner.around; stop = inner.stop }) (record m { inner = x.around; stop = x.innermost.outer }) = (
      record {
        saves = h.0.saves;
        stand = h.0.stand;
        state_is = h.0.state_is;
        limits = h.0.limits;
        frames_are = h.0.frames_are;
        inner_are = x.around_is;
        stop_is = x.outer;
        choices_are = h.0.choices_are;
        room = let y = h.0.room in record { frames_fit = y.frames_fit; inners_fit = y.inners_fit; choices_fit = y.choices_fit; stops_fit = y.stops_fit; frames_few = y.frames_few; inners_few = y.inners_few; choices_few = y.choices_few; stops_few = y.stops_few; refs = y.refs };
      },
      h.1,
    ) in
    let held = was_cut code l (record m { inner = x.around; stop = x.innermost.outer }) x.innermost inner.height (record r { inner = inner.around; stop = inner.stop }) (record mid { inner = inner.around; stop = inner.stop }) out x.height named_all.0.agrees left capacity fewer (ap (λ (y : Memory). record y { inner = inner.around; stop = inner.stop }) same) in
    let jumps = at_most_one rest.now in
    let less = cut_left inner.height r.choices.items mid.choices.items left in
    let frame : mid.frame ≡ r.frame = ap (λ (y : Memory). y.frame) same in
    let older = x.older in
    subst (λ ps. Falls code l r (Runs ops) (record mid { inner = inner.around; stop = inner.stop }) (Runs rest) (leaves ps m)) (sym x.is) (record { stands = (at, held); falls = omega (arith, jumps, less, frame, older) })

pub not_left : (code : Code) (g : Game) (l : Limits) (m : Mid) (r : Memory) (ops : Bor (List Op)) → Holds code l r m → named r.inners.items r.inner ≡ None → Falls code l r (Runs ops) r Fails (leaves m.inner m)
not_left code g l m r ops h is = subst (λ ps. Falls code l r (Runs ops) r Fails (leaves ps m)) (sym (no_inner (meaning_of r.arena) (tags_of m.stops) r.inners.items r.inner m.inner is h.0.inner_are)) (record { stands = h; falls = omega arith })
