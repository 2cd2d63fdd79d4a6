-- Where a machine is within a query of a single predicate.
use Rattle.std.proofs.Common.{◌≡◌, ℕ, ◌+◌, ◌<◌, ◌≤◌, ◌⊎◌, inl, inr, List, [], ◌∷◌, Bool, true, false, refl, sym, ap, ◌∙◌, subst, arith, length}
use Rattle.std.specs.Prelude.{nat_lt}
use Rattle.std.proofs.lemmas.Bool.{cond_both, ltb-true, ltb-false}
use Rattle.dg_base.specs.declared.program.Goal.{Goal}
use Rattle.dg_base.specs.declared.program.Term.{Term}
use Rattle.dg_base.specs.declared.run.Limits.{Limits}
use Rattle.dg_meaning.specs.World.{Game}
use Rattle.dg_single.specs.Plain.{has_cut, are_plain}
use Rattle.dg_single.specs.Singles.{IsClosed}
use Rattle.dg_mid.specs.declared.code.Op.{Op}
use Rattle.dg_mid.specs.declared.code.Op.TheVariants as op
use Rattle.dg_mid.specs.declared.code.Gathered.{Gathered}
use Rattle.dg_mid.specs.declared.code.RuleCode.{RuleCode}
use Rattle.dg_mid.specs.declared.code.Code.{Code}
use Rattle.dg_mid.specs.Code.{block_at}
use Rattle.dg_mid.specs.Codes.{End, Returns, found_goals, found_end, Stands, Others, Codes}
use Rattle.dg_mid.specs.Reads.{AreBelow}
use Rattle.dg_mid.specs.State.{Place, Frame, Call, Find, Way, Goes, Takes, Calls, Tries, Stop, Choice, Mid, Status, Runs, Enters, Resumes, Fails, Ended, cut_of, cut_choices}
use Rattle.dg_mid.specs.Step.{new_choice}
use Rattle.dg_mid.proofs.Rest.{Next, goals_next, end_next, first_next, Sealed, Ahead, Left, cut_older, cut_newer, cut_lower, cut_higher, ahead_up, left_into, left_cut}

-- a query of a single predicate, in code that stands for the program of a game: the set, how many choices were opened, which are open, and how many
-- frames stay behind it
pub record Query : Type 0 where
  pub game : Game
  pub code : Code
  pub limits : Limits
  pub codes : Codes game.program code
  pub set : List Bool
  pub closed : IsClosed game.program.preds set
  pub tag : ℕ
  pub choices : List Choice
  pub older : AreBelow tag choices
  pub depth : ℕ

module _ (code : Code) (S : List Bool) (t0 : ℕ) (cs0 : List Choice) (depth : ℕ) where
  -- ## Code

  -- code stands for this rest, in a rule that cuts to a tag and in these inner constructs
  pub record Hand (behind : List Next → Type 0) (ops : List Op) (t : ℕ) (inner : List Place) (K : List Next) : Type 0 where
    pub goals : List Goal
    pub end : End
    pub rest : List Next
    pub low : t0 ≤ t
    pub stands : Stands code ops goals end
    pub below : behind rest
    pub is : K ≡ goals_next t goals (end_next end t inner rest)

  -- behind the answer of a rule comes the answer of the query, or a block
  abbrev pub Reached : (List Next → Type 0) → ℕ → ℕ → List Place → List Frame → List Next → Type 0
  Reached behind next t inner fs K = ((length fs ≡ depth) × (K ≡ [])) ⊎ Hand behind (block_at code next) t inner K

  -- what comes behind the rules of some frames
  abbrev pub Behind : List Frame → List Next → Type 0
  Behind [] K = ⊥
  Behind (f ∷ fs) K = (J : List Next) × Reached (Behind fs) f.next (cut_of fs).tag f.inner fs J × (K ≡ first_next f.many f.cut.tag J)

  -- the code at hand, with what is left
  pub record AtHand (u : ℕ) (ops : List Op) (fs : List Frame) (inner : List Place) (cs : List Choice) : Type 0 where
    pub rest : List Next
    pub hand : Hand (Behind fs) ops (cut_of fs).tag inner rest
    pub ahead : Ahead S t0 cs0 u rest
    pub left : Left S t0 cs0 u rest cs

  -- ## Rules

  -- a rule's code begins with its entering, and then stands for its body
  pub record RuleAt (ops : List Op) : Type 0 where
    pub vars : ℕ
    pub head : List Term
    pub after : List Op
    pub body : List Goal
    pub is : ops ≡ op.Enter vars head ∷ after
    pub stands : Stands code after body Returns

  -- the body is plain, and cuts where it isn't the last; or a seal comes behind it
  abbrev pub BodyOk : ℕ → List Next → List Goal → List RuleCode → Type 0
  BodyOk u K body others = ((are_plain S body ≡ true) × ((others ≡ []) ⊎ (has_cut body ≡ true))) ⊎ Sealed S t0 cs0 u K

  pub record RuleOk (u : ℕ) (K : List Next) (r : RuleCode) (others : List RuleCode) : Type 0 where
    pub rule : RuleAt (block_at code r.block)
    pub body : BodyOk u K rule.body others

  abbrev pub RulesOk : ℕ → List Next → List RuleCode → Type 0
  RulesOk u K [] = Unit {0}
  RulesOk u K (r ∷ rs) = RuleOk u K r rs × RulesOk u K rs

  -- a call that may enter these rules
  pub record CallAt (u : ℕ) (call : Call) (rules : List RuleCode) (fs : List Frame) (inner : List Place) (cs : List Choice) : Type 0 where
    pub rest : List Next
    pub below : Reached (Behind fs) call.next (cut_of fs).tag inner fs rest
    pub cut : call.cut.tag ≡ u
    pub ahead : Ahead S t0 cs0 u (first_next call.many call.cut.tag rest)
    pub left : Left S t0 cs0 u (first_next call.many call.cut.tag rest) cs
    pub rules_are : RulesOk u (first_next call.many call.cut.tag rest) rules

  -- ## Choices

  -- lists between (or) that are left
  pub record ListsAt (u : ℕ) (b : ℕ) (fs : List Frame) (inner : List Place) (cs : List Choice) : Type 0 where
    pub lists : List (List Goal)
    pub goals : List Goal
    pub end : End
    pub rest : List Next
    pub others : Others code b lists goals end
    pub below : Behind fs rest
    pub low : t0 ≤ (cut_of fs).tag
    pub high : (cut_of fs).tag ≤ u
    pub ahead : Ahead S t0 cs0 u (goals_next (cut_of fs).tag goals (end_next end (cut_of fs).tag inner rest))
    pub left : Left S t0 cs0 u (goals_next (cut_of fs).tag goals (end_next end (cut_of fs).tag inner rest)) cs
    pub seal : Sealed S t0 cs0 u (goals_next (cut_of fs).tag goals (end_next end (cut_of fs).tag inner rest))

  -- a gathering is taken out
  pub record OutAt (u : ℕ) (ops : List Op) (fs : List Frame) (inner : List Place) (cs : List Choice) : Type 0 where
    pub whole : Gathered
    pub into : Term
    pub after : List Op
    pub is : ops ≡ op.TakeOut whole into ∷ after
    pub behind : AtHand u after fs inner cs

  -- objects that are left
  pub record TriesAt (u : ℕ) (f : Find) (fs : List Frame) (inner : List Place) (cs : List Choice) : Type 0 where
    pub goals : List Goal
    pub end : End
    pub rest : List Next
    pub stands : Stands code (block_at code f.next) (found_goals f.many goals) (found_end f.many goals end)
    pub low : t0 ≤ (cut_of fs).tag
    pub below : Behind fs rest
    pub ahead : Ahead S t0 cs0 u (goals_next (cut_of fs).tag goals (end_next end (cut_of fs).tag inner rest))
    pub left : Left S t0 cs0 u (goals_next (cut_of fs).tag goals (end_next end (cut_of fs).tag inner rest)) cs
    pub seal : f.many ≡ true → Sealed S t0 cs0 u (goals_next (cut_of fs).tag goals (end_next end (cut_of fs).tag inner rest))

  -- what a choice goes on with, within the older ones
  abbrev pub WayAt : ℕ → Way → List Frame → List Place → List Choice → Type 0
  WayAt u (Goes b) fs inner cs = AtHand u (block_at code b) fs inner cs ⊎ ListsAt u b fs inner cs
  WayAt u (Takes b into) fs inner cs = OutAt u (block_at code b) fs inner cs
  WayAt u (Calls call rules) fs inner cs = CallAt u call rules fs inner cs
  WayAt u (Tries f os) fs inner cs = TriesAt u f fs inner cs

  -- a stoppable part that was opened within the query
  pub record PartAt (s : Stop) (cs : List Choice) : Type 0 where
    pub from : t0 ≤ s.place.tag
    pub hand : AtHand (s.place.tag + 1) (block_at code s.block) s.frames s.inner (cut_choices s.place cs)

  abbrev pub PartsAt : ℕ → List Choice → List Stop → Type 0
  PartsAt u cs [] = Unit {0}
  PartsAt u cs (s ∷ ss) = (s.place.tag < u) × ((s.place.tag < t0) ⊎ PartAt s cs) × PartsAt s.place.tag cs ss

  -- choices that were opened within the query, and those before it
  pub data Kept : List Choice → Type 0 where
    base : (cs : List Choice) → cs ≡ cs0 → Kept cs
    more : (c : Choice) (cs : List Choice) → t0 ≤ c.place.tag → WayAt c.place.tag c.way c.frames c.inner cs → PartsAt c.place.tag cs c.stops → Kept cs → Kept (c ∷ cs)

  -- ## A machine

  pub record WithinAt (u : ℕ) (cs : List Choice) (ss : List Stop) : Type 0 where
    pub from : t0 ≤ u
    pub kept : Kept cs
    pub parts : PartsAt u cs ss

  abbrev pub Within : Mid → Type 0
  Within m = WithinAt m.next_tag m.choices m.stops

  -- a rule is entered
  pub record EntersAt (call : Call) (u : ℕ) (ops : List Op) (fs : List Frame) (inner : List Place) (cs : List Choice) : Type 0 where
    pub rest : List Next
    pub below : Reached (Behind fs) call.next (cut_of fs).tag inner fs rest
    pub rule : RuleAt ops
    pub low : t0 ≤ call.cut.tag
    pub ahead : Ahead S t0 cs0 u (goals_next call.cut.tag rule.body (first_next call.many call.cut.tag rest))
    pub left : Left S t0 cs0 u (goals_next call.cut.tag rule.body (first_next call.many call.cut.tag rest)) cs

  abbrev pub InQuery : Status → Type 0
  InQuery (Runs m) = AtHand m.next_tag m.ops m.frames m.inner m.choices × Within m
  InQuery (Enters call m) = EntersAt call m.next_tag m.ops m.frames m.inner m.choices × Within m
  InQuery (Resumes way m) = WayAt m.next_tag way m.frames m.inner m.choices × Within m
  InQuery (Fails m) = Within m
  InQuery (Ended e) = Unit {0}

  -- ## Its parts

  -- frames within the query are more than those behind it
  pub deeper : (fs : List Frame) (K : List Next) → Behind fs K → depth < length fs
  deeper [] K h = absurd h
  deeper (f ∷ fs) K h = elim h.1 [ inl x ↦ let e = x.0 in omega (arith, e) | inr x ↦ let k = deeper fs x.rest x.below in omega (arith, k) ]

  pub parts_up : (u v : ℕ) (cs : List Choice) (ss : List Stop) → u ≤ v → PartsAt u cs ss → PartsAt v cs ss
  parts_up u v cs [] le h = tt
  parts_up u v cs (s ∷ ss) le h = let x = h.0 in (omega (arith, x, le), h.1, h.2)

  part_push : (s : Stop) (n : Choice) (cs : List Choice) → s.place.tag ≤ n.place.tag → (s.place.tag < t0) ⊎ PartAt s cs → (s.place.tag < t0) ⊎ PartAt s (n ∷ cs)
  part_push s n cs le (inl h) = inl h
  part_push s n cs le (inr h) = inr (record { from = h.from; hand = subst (AtHand (s.place.tag + 1) (block_at code s.block) s.frames s.inner) (sym (cut_newer s.place n cs le)) h.hand })

  pub parts_push : (u : ℕ) (n : Choice) (cs : List Choice) (ss : List Stop) → u ≤ n.place.tag → PartsAt u cs ss → PartsAt u (n ∷ cs) ss
  parts_push u n cs [] le h = tt
  parts_push u n cs (s ∷ ss) le h = let x = h.0 in (h.0, part_push s n cs (omega (arith, x, le)) h.1, parts_push s.place.tag n cs ss (omega (arith, x, le)) h.2)

  pub raised : (u : ℕ) (cs : List Choice) (ss : List Stop) → WithinAt u cs ss → WithinAt (u + 1) cs ss
  raised u cs ss w = let x = w.from in record { from = omega (arith, x); kept = w.kept; parts = parts_up u (u + 1) cs ss (omega arith) w.parts }

  pub hand_up : (u : ℕ) (ops : List Op) (fs : List Frame) (inner : List Place) (cs : List Choice) → AtHand u ops fs inner cs → AtHand (u + 1) ops fs inner cs
  hand_up u ops fs inner cs h = record { rest = h.rest; hand = h.hand; ahead = ahead_up S t0 cs0 u (u + 1) h.rest (omega arith) h.ahead; left = left_into S t0 cs0 u (u + 1) h.rest h.rest cs (omega arith) (λ c s. s) h.left }

  -- a choice opens
  pub opened : (way : Way) (m : Mid) → Within m → WayAt m.next_tag way m.frames m.inner m.choices → WithinAt (m.next_tag + 1) (new_choice way m ∷ m.choices) m.stops
  opened way m w h =
      let x = w.from in
      record {
        from = omega (arith, x);
        kept = more (new_choice way m) m.choices w.from h w.parts w.kept;
        parts = parts_up m.next_tag (m.next_tag + 1) (new_choice way m ∷ m.choices) m.stops (omega arith) (parts_push m.next_tag (new_choice way m) m.choices m.stops (omega arith) w.parts);
      }

  module _ (below : AreBelow t0 cs0) where
    kept_cut : (p : Place) (cs : List Choice) → t0 ≤ p.tag → Kept cs → Kept (cut_choices p cs)
    kept_cut p cs le (base cs' e) = base (cut_choices p cs) (ap (cut_choices p) e ∙ cut_older t0 p cs0 below le)
    kept_cut p cs le (more c cs' a w s k) = cond_both (nat_lt c.place.tag p.tag) (c ∷ cs') (cut_choices p cs') Kept (λ e. more c cs' a w s k) (λ e. kept_cut p cs' le k)

    -- the same code, with choices that are cut within the query
    pub hand_cut : (u : ℕ) (ops : List Op) (fs : List Frame) (inner : List Place) (cs : List Choice) (p : Place) → t0 ≤ p.tag → AtHand u ops fs inner cs → AtHand u ops fs inner (cut_choices p cs)
    hand_cut u ops fs inner cs p le h = record { rest = h.rest; hand = h.hand; ahead = h.ahead; left = left_cut S t0 cs0 below u h.rest cs p le h.left }

    part_cut : (s : Stop) (p : Place) (cs : List Choice) → t0 ≤ p.tag → (b : Bool) → nat_lt p.tag s.place.tag ≡ b → PartAt s cs → PartAt s (cut_choices p cs)
    part_cut s p cs le true e h =
        let k = ltb-true p.tag s.place.tag e in
        let at = AtHand (s.place.tag + 1) (block_at code s.block) s.frames s.inner in
        let lower = cut_lower p s.place cs (omega (arith, k)) in
        let higher = cut_higher p s.place cs (omega (arith, k)) in
        record { from = h.from; hand = subst at (lower ∙ sym higher) (hand_cut (s.place.tag + 1) (block_at code s.block) s.frames s.inner (cut_choices s.place cs) p le h.hand) }
    part_cut s p cs le false e h =
        let k = ltb-false p.tag s.place.tag e in
        let at = AtHand (s.place.tag + 1) (block_at code s.block) s.frames s.inner in
        record { from = h.from; hand = subst at (sym (cut_lower s.place p cs k)) h.hand }

    one_cut : (s : Stop) (p : Place) (cs : List Choice) → t0 ≤ p.tag → (s.place.tag < t0) ⊎ PartAt s cs → (s.place.tag < t0) ⊎ PartAt s (cut_choices p cs)
    one_cut s p cs le (inl h) = inl h
    one_cut s p cs le (inr h) = inr (part_cut s p cs le (nat_lt p.tag s.place.tag) refl h)

    parts_cut : (u : ℕ) (p : Place) (cs : List Choice) (ss : List Stop) → t0 ≤ p.tag → PartsAt u cs ss → PartsAt u (cut_choices p cs) ss
    parts_cut u p cs [] le h = tt
    parts_cut u p cs (s ∷ ss) le h = (h.0, one_cut s p cs le h.1, parts_cut s.place.tag p cs ss le h.2)

    pub within_cut : (u : ℕ) (p : Place) (cs : List Choice) (ss : List Stop) → t0 ≤ p.tag → WithinAt u cs ss → WithinAt u (cut_choices p cs) ss
    within_cut u p cs ss le w = record { from = w.from; kept = kept_cut p cs le w.kept; parts = parts_cut u p cs ss le w.parts }

    -- the newest choice is gone back to
    pub newest : (c : Choice) (cs : List Choice) → t0 ≤ c.place.tag → Kept (c ∷ cs) → WayAt c.place.tag c.way c.frames c.inner cs × PartsAt c.place.tag cs c.stops × Kept cs
    newest c cs le (base cs' e) = let lt : c.place.tag < t0 = subst (AreBelow t0) (sym e) below in absurd (omega (arith, le, lt))
    newest c cs le (more c' cs' a w s k) = (w, s, k)

    -- a part that was opened within the query is stopped
    part_there : (s : Stop) (cs : List Choice) → t0 ≤ s.place.tag → (s.place.tag < t0) ⊎ PartAt s cs → AtHand (s.place.tag + 1) (block_at code s.block) s.frames s.inner (cut_choices s.place cs)
    part_there s cs le (inl lt) = absurd (omega (arith, le, lt))
    part_there s cs le (inr h) = h.hand

    pub stops_there : (u : ℕ) (s : Stop) (ss : List Stop) (cs : List Choice) → t0 ≤ s.place.tag → Kept cs → PartsAt u cs (s ∷ ss) →
        AtHand (s.place.tag + 1) (block_at code s.block) s.frames s.inner (cut_choices s.place cs) × WithinAt (s.place.tag + 1) (cut_choices s.place cs) ss
    stops_there u s ss cs le k h = (
      part_there s cs le h.1,
      record { from = omega (arith, le); kept = kept_cut s.place cs le k; parts = parts_up s.place.tag (s.place.tag + 1) (cut_choices s.place cs) ss (omega arith) (parts_cut s.place.tag s.place cs ss le h.2) },
    )
