-- The marks of rules are where their routines stand.
use Rattle.std.proofs.Common.{◌⊎◌, inl, inr, ◌≡◌, ℕ, zero, suc, ◌+◌, ◌-◌, ◌*◌, ◌≤◌, ◌<◌, List, [], ◌∷◌, ◌++◌, length, map, drop, get_or, Some, Bool, refl, sym, ap, ◌∙◌, subst, arith, append_assoc, length-append}
use Rattle.std.specs.List.{slice_get}
use Rattle.std.proofs.Math.ListN.{drop_of_length-le}
use Rattle.std.proofs.lemmas.List.{append-nil, drop_more}
use Rattle.std.proofs.lemmas.Option.{same_Some}
use Rattle.dg_base.specs.declared.program.CoreProgram.{CoreProgram}
use Rattle.dg_base.specs.declared.program.Pred.{Pred}
use Rattle.dg_base.specs.declared.program.Rule.{Rule}
use Rattle.dg_meaning.specs.Moves.{rules_of}
use Rattle.dg_mid.specs.declared.code.Code.{Code}
use Rattle.dg_mid.specs.declared.code.RuleCode.{RuleCode}
use Rattle.dg_mid.specs.Code.{codes_of, rules_at}
use Rattle.dg_mid.specs.Codes.{Codes, RulesStand}
use Rattle.z_asm.specs.Assembled.{AreApart, ArePlaces}
use Rattle.z_asm.specs.Layout.{code_size}
use Rattle.z_asm.specs.Story as image
use Rattle.z_lang.specs.declared.act.Routine.{Routine}
use Rattle.z_list.specs.declared.mark.Mark.{Mark}
use Rattle.z_list.specs.Listing.{AreMarks}
use Rattle.z_story.specs.declared.building.Parts.{Parts}
use Rattle.z_story.specs.Parts.{routine_code, image_of}
use Rattle.z_story.specs.Does.{packed_at}
use Rattle.dg_rt.specs.RunTime.{runtime}
use Rattle.dg_turn.specs.Names.{objects_routines}
use Rattle.dg_emit.specs.declared.numbers.Numbers.{Numbers}
use Rattle.dg_emit.specs.Numbers.{numbers_from, rules_count, behind_blocks, number_behind}
use Rattle.dg_emit.specs.Bodies.{bodies_routines}
use Rattle.dg_emit.specs.Code.{rule_routine, rules_routines, preds_routines, blocks_routines, code_routines}
use Rattle.dg_emit.specs.Story.{first_number, story_routines}
use Rattle.dg_story.specs.Built.{story_parts, rule_count}
use Rattle.dg_story.specs.Marks.{names_from, rule_names, mark_name, IsMarked, HasMarks}
use Rattle.dg_story.specs.inside.Marked.{marks_at}
use Rattle.dg_story.proofs.Numbered.{code_has}

-- ## Names

pub names_kept : (rules places : List (ℕ × ℕ)) → length rules ≤ length places → map mark_name (marks_at rules places) ≡ rules
names_kept [] places h = refl
names_kept (r ∷ rules) [] h = absurd (omega arith)
names_kept (r ∷ rules) (p ∷ places) h = ap (λ (l : List (ℕ × ℕ)). r ∷ l) (names_kept rules places (omega arith))

-- what a mark of these has of the lists
record IsOf (rules places : List (ℕ × ℕ)) (k : ℕ) (m : Mark) : Type 0 where
  rule : slice_get rules k ≡ Some (mark_name m)
  place : slice_get places k ≡ Some (m.from, m.to)

mark_is : (rules places : List (ℕ × ℕ)) (k : ℕ) (m : Mark) → slice_get (marks_at rules places) k ≡ Some m → IsOf rules places k m
mark_is [] places k m e = absurd (cc)
mark_is (r ∷ rules) [] k m e = absurd (cc)
mark_is (r ∷ rules) (p ∷ places) zero m e = subst (IsOf (r ∷ rules) (p ∷ places) 0) (same_Some _ m e) (record { rule = refl; place = refl })
mark_is (r ∷ rules) (p ∷ places) (suc k) m e = let h = mark_is rules places k m e in record { rule = h.rule; place = h.place }

-- ## Places

apart_sooner : (at later end : ℕ) (places : List (ℕ × ℕ)) → at ≤ later → AreApart later end places → AreApart at end places
apart_sooner at later end [] h a = omega arith
apart_sooner at later end (p ∷ places) h a = (omega (arith, a.0), a.1, a.2)

apart_within : (at end : ℕ) (places : List (ℕ × ℕ)) → AreApart at end places → at ≤ end
apart_within at end [] a = a
apart_within at end (p ∷ places) a = let h = apart_within p.1 end places a.2 in omega (arith, a.0, a.1)

apart_behind : (at end n : ℕ) (places : List (ℕ × ℕ)) → AreApart at end places → AreApart at end (drop n places)
apart_behind at end zero places a = a
apart_behind at end (suc n) [] a = a
apart_behind at end (suc n) (p ∷ places) a = apart_behind at end n places (apart_sooner at p.1 end places (omega (arith, a.0, a.1)) a.2)

marks_apart : (at end : ℕ) (rules places : List (ℕ × ℕ)) → AreApart at end places → AreMarks at end (marks_at rules places)
marks_apart at end [] places a = apart_within at end places a
marks_apart at end (r ∷ rules) [] a = a
marks_apart at end (r ∷ rules) (p ∷ places) a = (a.0, a.1, marks_apart p.1 end rules places a.2)

-- ## Rules of code

abbrev code_names : ℕ → List (List RuleCode) → List (ℕ × ℕ)
code_names number [] = []
code_names number (rules ∷ preds) = names_from number 0 (length rules) ++ code_names (number + 1) preds

as_many : (code : Code) (cs : List RuleCode) (rs : List Rule) → RulesStand code cs rs → length cs ≡ length rs
as_many code [] [] h = refl
as_many code [] (r ∷ rs) h = absurd h
as_many code (c ∷ cs) [] h = absurd h
as_many code (c ∷ cs) (r ∷ rs) h = ap suc (as_many code cs rs h.1)

abbrev AsMany : List (List RuleCode) → List Pred → Type 0
AsMany cs ps = (k : ℕ) → length (codes_of (slice_get cs k)) ≡ length (rules_of (slice_get ps k))

same_names : (n : ℕ) (cs : List (List RuleCode)) (ps : List Pred) → AsMany cs ps → code_names n cs ≡ rule_names n ps
same_names n [] [] h = refl
same_names n [] (p ∷ ps) h =
    same_names (n + 1) [] ps (λ k. h (suc k)) ∙ ap (λ (count : ℕ). names_from n 0 count ++ rule_names (n + 1) ps) (h 0)
same_names n (c ∷ cs) [] h =
    ap (λ (count : ℕ). names_from n 0 count ++ code_names (n + 1) cs) (h 0) ∙ same_names (n + 1) cs [] (λ k. h (suc k))
same_names n (c ∷ cs) (p ∷ ps) h =
    ap (λ (count : ℕ). names_from n 0 count ++ code_names (n + 1) cs) (h 0)
    ∙ ap (λ (l : List (ℕ × ℕ)). names_from n 0 (length p.rules) ++ l) (same_names (n + 1) cs ps (λ k. h (suc k)))

-- The rules of code have the names of the program's.
pub names_are : (program : CoreProgram) (code : Code) → Codes program code → code_names 0 code.preds ≡ rule_names 0 program.preds
names_are program code codes = same_names 0 code.preds program.preds (λ k. as_many code (rules_at code k) (rules_of (slice_get program.preds k)) (codes.rules k))

-- ## Marks as they are made

-- one more rule of a predicate
pub rule_next : (olds news all : List (ℕ × ℕ)) (pred rule count : ℕ) → rule < count → olds ++ names_from pred rule (count - rule) ≡ all → news ≡ olds ++ (pred, rule) ∷ [] →
    news ++ names_from pred (rule + 1) (count - (rule + 1)) ≡ all
rule_next olds news all pred rule count lt e n =
    let one : count - rule ≡ suc (count - (rule + 1)) = omega arith in
    ap (λ (l : List (ℕ × ℕ)). l ++ names_from pred (rule + 1) (count - (rule + 1))) n
    ∙ append_assoc olds ((pred, rule) ∷ []) (names_from pred (rule + 1) (count - (rule + 1)))
    ∙ ap (λ (k : ℕ). olds ++ names_from pred rule k) (sym one)
    ∙ e

pub no_rule_left : (olds all : List (ℕ × ℕ)) (pred rule count : ℕ) → count ≤ rule → olds ++ names_from pred rule (count - rule) ≡ all → olds ≡ all
no_rule_left olds all pred rule count le e =
    let none : count - rule ≡ 0 = omega arith in
    sym (append-nil olds) ∙ ap (λ (k : ℕ). olds ++ names_from pred rule k) (sym none) ∙ e

-- a predicate has no more rules than all have
pub rules_of_one : (preds : List Pred) (k : ℕ) (pred : Pred) → k < length preds → pred ≡ get_or preds k pred → length pred.rules ≤ rule_count preds
rules_of_one [] k pred lt e = absurd (omega arith)
rules_of_one (p ∷ preds) zero pred lt e = let same = ap (λ (q : Pred). length q.rules) e in omega arith
rules_of_one (p ∷ preds) (suc k) pred lt e = let h = rules_of_one preds k pred (omega arith) e in omega arith

-- the rules of one more predicate
pub pred_next : (olds news all : List (ℕ × ℕ)) (preds : List Pred) (k : ℕ) (pred : Pred) → k < length preds → pred ≡ get_or preds k pred → olds ++ rule_names k (drop k preds) ≡ all →
    news ≡ olds ++ names_from k 0 (length pred.rules) → news ++ rule_names (k + 1) (drop (k + 1) preds) ≡ all
pred_next olds news all preds k pred lt is e n =
    let next : drop k preds ≡ get_or preds k pred ∷ drop (k + 1) preds = drop_more preds k pred lt in
    ap (λ (l : List (ℕ × ℕ)). l ++ rule_names (k + 1) (drop (k + 1) preds)) n
    ∙ append_assoc olds (names_from k 0 (length pred.rules)) (rule_names (k + 1) (drop (k + 1) preds))
    ∙ ap (λ (q : Pred). olds ++ (names_from k 0 (length q.rules) ++ rule_names (k + 1) (drop (k + 1) preds))) is
    ∙ ap (λ (l : List Pred). olds ++ rule_names k l) (sym next)
    ∙ e

pub no_pred_left : (olds all : List (ℕ × ℕ)) (preds : List Pred) (k : ℕ) → length preds ≤ k → olds ++ rule_names k (drop k preds) ≡ all → olds ≡ all
no_pred_left olds all preds k le e =
    sym (append-nil olds) ∙ ap (λ (l : List Pred). olds ++ rule_names k l) (sym (drop_of_length-le preds le)) ∙ e

-- one more mark
pub mark_next : (olds news all : List Mark) (rules places : List (ℕ × ℕ)) (k : ℕ) (rule place : ℕ × ℕ) → k < length rules → k < length places → rule ≡ get_or rules k rule → place ≡ get_or places k place →
    olds ++ marks_at (drop k rules) (drop k places) ≡ all → news ≡ olds ++ record { from = place.0; to = place.1; pred = rule.0; rule = rule.1 } ∷ [] → news ++ marks_at (drop (k + 1) rules) (drop (k + 1) places) ≡ all
mark_next olds news all rules places k rule place a b is at e n =
    let more = marks_at (drop (k + 1) rules) (drop (k + 1) places) in
    let first : drop k rules ≡ rule ∷ drop (k + 1) rules = drop_more rules k rule a ∙ ap (λ (x : ℕ × ℕ). x ∷ drop (k + 1) rules) (sym is) in
    let second : drop k places ≡ place ∷ drop (k + 1) places = drop_more places k place b ∙ ap (λ (x : ℕ × ℕ). x ∷ drop (k + 1) places) (sym at) in
    ap (λ (l : List Mark). l ++ more) n
    ∙ append_assoc olds (record { from = place.0; to = place.1; pred = rule.0; rule = rule.1 } ∷ []) more
    ∙ ap (λ (l : List (ℕ × ℕ)). olds ++ marks_at l (place ∷ drop (k + 1) places)) (sym first)
    ∙ ap (λ (l : List (ℕ × ℕ)). olds ++ marks_at (drop k rules) l) (sym second)
    ∙ e

pub no_mark_left : (olds all : List Mark) (rules places : List (ℕ × ℕ)) (k : ℕ) → length rules ≤ k → olds ++ marks_at (drop k rules) (drop k places) ≡ all → olds ≡ all
no_mark_left olds all rules places k le e =
    sym (append-nil olds) ∙ ap (λ (l : List (ℕ × ℕ)). olds ++ marks_at l (drop k places)) (sym (drop_of_length-le rules le)) ∙ e

-- ## Names of code

names_long : (pred rule count : ℕ) → length (names_from pred rule count) ≡ count
names_long pred rule zero = refl
names_long pred rule (suc count) = ap suc (names_long pred (rule + 1) count)

module _ (code : Code) (numbers : Numbers) where
  rules_long : (n : ℕ) (rules : List RuleCode) → length (rules_routines code numbers n rules) ≡ length rules
  rules_long n [] = refl
  rules_long n (r ∷ rules) = ap suc (rules_long (n + 1) rules)

  -- There are as many routines of rules as names.
  preds_long : (b n : ℕ) (preds : List (List RuleCode)) → length (preds_routines code numbers n preds) ≡ length (code_names b preds)
  preds_long b n [] = refl
  preds_long b n (rules ∷ preds) =
      omega (
        arith,
        length-append (rules_routines code numbers n rules) (preds_routines code numbers (n + length rules) preds),
        rules_long n rules,
        length-append (names_from b 0 (length rules)) (code_names (b + 1) preds),
        names_long b 0 (length rules),
        preds_long (b + 1) (n + length rules) preds,
      )

  -- A name is that of a rule among these, whose routine is this one of all.
  record IsNamed (all : List Routine) (number k : ℕ) (name : ℕ × ℕ) (pred rule : ℕ) (rules : List RuleCode) : Type 0 where
    place : ℕ
    pred_is : name.0 ≡ pred
    rule_is : name.1 ≡ rule + place
    found : RuleCode
    others : List RuleCode
    here : drop place rules ≡ found ∷ others
    stands : slice_get all k ≡ Some (rule_routine code numbers number found others)

  -- Or it is one of those behind them.
  record IsBehind (names : List (ℕ × ℕ)) (all behind : List Routine) (count k : ℕ) (name : ℕ × ℕ) : Type 0 where
    left : ℕ
    is : k ≡ count + left
    named : slice_get names left ≡ Some name
    same : slice_get all k ≡ slice_get behind left

  abbrev Either : (n pred rule : ℕ) → List RuleCode → List (ℕ × ℕ) → List Routine → ℕ → ℕ × ℕ → Type 0
  Either n pred rule rules names behind k name =
      IsNamed (rules_routines code numbers n rules ++ behind) (n + k) k name pred rule rules
      ⊎ IsBehind names (rules_routines code numbers n rules ++ behind) behind (length rules) k name

  named_at : (n pred rule : ℕ) (rules : List RuleCode) (names : List (ℕ × ℕ)) (behind : List Routine) (k : ℕ) (name : ℕ × ℕ) →
      slice_get (names_from pred rule (length rules) ++ names) k ≡ Some name → Either n pred rule rules names behind k name
  named_at n pred rule [] names behind k name e = inr (record { left = k; is = omega arith; named = e; same = refl })
  named_at n pred rule (r ∷ rules) names behind zero name e =
      let same : (pred, rule) ≡ name = same_Some (pred, rule) name e in
      let number : n ≡ n + 0 = omega arith in
      let first : rule ≡ rule + 0 = omega arith in
      inl (record {
        place = 0;
        pred_is = ap (λ (x : ℕ × ℕ). x.0) (sym same);
        rule_is = ap (λ (x : ℕ × ℕ). x.1) (sym same) ∙ first;
        found = r;
        others = rules;
        here = refl;
        stands = ap (λ (j : ℕ). Some (rule_routine code numbers j r rules)) number;
      })
  named_at n pred rule (r ∷ rules) names behind (suc k) name e = later (named_at (n + 1) pred (rule + 1) rules names behind k name e)
    where
      later : Either (n + 1) pred (rule + 1) rules names behind k name → Either n pred rule (r ∷ rules) names behind (suc k) name
      later (inl w) =
          let number : n + 1 + k ≡ n + suc k = omega arith in
          let next : rule + 1 + w.place ≡ rule + suc w.place = omega arith in
          inl (record {
            place = suc w.place;
            pred_is = w.pred_is;
            rule_is = w.rule_is ∙ next;
            found = w.found;
            others = w.others;
            here = w.here;
            stands = w.stands ∙ ap (λ (j : ℕ). Some (rule_routine code numbers j w.found w.others)) number;
          })
      later (inr w) =
          let is : suc k ≡ length (r ∷ rules) + w.left = omega (arith, w.is) in
          inr (record { left = w.left; is = is; named = w.named; same = w.same })

  -- The routine of a name.
  record IsAmong (preds : List (List RuleCode)) (all : List Routine) (base number k : ℕ) (name : ℕ × ℕ) : Type 0 where
    place : ℕ
    pred_is : name.0 ≡ base + place
    found : RuleCode
    others : List RuleCode
    here : drop name.1 (codes_of (slice_get preds place)) ≡ found ∷ others
    stands : slice_get all k ≡ Some (rule_routine code numbers number found others)

  among : (n base : ℕ) (preds : List (List RuleCode)) (rest : List Routine) (k : ℕ) (name : ℕ × ℕ) → slice_get (code_names base preds) k ≡ Some name →
      IsAmong preds (preds_routines code numbers n preds ++ rest) base (n + k) k name
  among n base [] rest k name e = absurd (cc)
  among n base (rules ∷ preds) rest k name e =
      subst (λ (all : List Routine). IsAmong (rules ∷ preds) all base (n + k) k name) (sym (append_assoc (rules_routines code numbers n rules) behind rest))
      (one_of (λ left h. among (n + length rules) (base + 1) preds rest left name h) (named_at n base 0 rules (code_names (base + 1) preds) (behind ++ rest) k name e))
    where
      behind : List Routine
      behind = preds_routines code numbers (n + length rules) preds

      one_of : ((left : ℕ) → slice_get (code_names (base + 1) preds) left ≡ Some name → IsAmong preds (behind ++ rest) (base + 1) (n + length rules + left) left name) →
          Either n base 0 rules (code_names (base + 1) preds) (behind ++ rest) k name →
          IsAmong (rules ∷ preds) (rules_routines code numbers n rules ++ (behind ++ rest)) base (n + k) k name
      one_of more (inl w) =
          let at : name.1 ≡ w.place = omega (arith, w.rule_is) in
          let first : base ≡ base + 0 = omega arith in
          record {
            place = 0;
            pred_is = w.pred_is ∙ first;
            found = w.found;
            others = w.others;
            here = ap (λ (i : ℕ). drop i rules) at ∙ w.here;
            stands = w.stands;
          }
      one_of more (inr w) =
          let h = more w.left w.named in
          let number : n + length rules + w.left ≡ n + k = omega (arith, w.is) in
          let next : base + 1 + h.place ≡ base + suc h.place = omega arith in
          record {
            place = suc h.place;
            pred_is = h.pred_is ∙ next;
            found = h.found;
            others = h.others;
            here = h.here;
            stands = w.same ∙ (h.stands ∙ ap (λ (j : ℕ). Some (rule_routine code numbers j h.found h.others)) number);
          }

-- ## The marks of a story

module _ (program : CoreProgram) (code : Code) (keeps : Bool) (codes : Codes program code) (places : List (ℕ × ℕ)) where
  abbrev parts : Parts
  parts = story_parts program code keeps

  abbrev numbers : Numbers
  numbers = numbers_from first_number code

  abbrev rest : List Routine
  rest =
      blocks_routines program numbers (first_number + rules_count code.preds) code.blocks
      ++ (bodies_routines numbers (length code.closures) (behind_blocks first_number code) 0 code.closures
      ++ objects_routines (number_behind first_number code) program.objects)

  abbrev names : List (ℕ × ℕ)
  names = rule_names 0 program.preds

  mapped : (rs : List Routine) (k : ℕ) (r : Routine) → slice_get rs k ≡ Some r → slice_get (map routine_code rs) k ≡ Some (routine_code r)
  mapped [] k r e = absurd (cc)
  mapped (x ∷ rs) zero r e = ap (λ (y : Routine). Some (routine_code y)) (same_Some x r e)
  mapped (x ∷ rs) (suc k) r e = mapped rs k r e

  map_long : (rs : List Routine) → length (map routine_code rs) ≡ length rs
  map_long [] = refl
  map_long (x ∷ rs) = ap suc (map_long rs)

  dropped : (n k : ℕ) (xs : List (ℕ × ℕ)) → slice_get (drop n xs) k ≡ slice_get xs (n + k)
  dropped zero k xs = let e : k ≡ 0 + k = omega arith in ap (slice_get xs) e
  dropped (suc n) k [] = refl
  dropped (suc n) k (x ∷ xs) = let e : suc (n + k) ≡ suc n + k = omega arith in dropped n k xs ∙ ap (slice_get (x ∷ xs)) e

  drop_long : (n : ℕ) (xs : List (ℕ × ℕ)) → n ≤ length xs → n + length (drop n xs) ≡ length xs
  drop_long zero xs h = omega arith
  drop_long (suc n) [] h = absurd (omega arith)
  drop_long (suc n) (x ∷ xs) h = let r = drop_long n xs (omega arith) in omega arith

  module _ (are : ArePlaces (image_of parts) places) where
    -- There is a place for each rule.
    pub enough : first_number + length names ≤ length places
    enough =
        let count = are.count ∙ map_long (story_routines program code keeps) in
        let long = preds_long code numbers 0 first_number code.preds in
        let same = ap length (names_are program code codes) in
        omega (arith, length-append runtime (code_routines program first_number code), length-append (preds_routines code numbers first_number code.preds) rest)

    pub enough_left : length names ≤ length (drop first_number places)
    enough_left = let h = enough in omega (arith, drop_long first_number places (omega arith))

    marked : (k : ℕ) (m : Mark) → slice_get (marks_at names (drop first_number places)) k ≡ Some m → IsMarked code parts (first_number + k) m
    marked k m e =
        let of = mark_is names (drop first_number places) k m e in
        let named : slice_get (code_names 0 code.preds) k ≡ Some (mark_name m) = ap (λ (l : List (ℕ × ℕ)). slice_get l k) (names_are program code codes) ∙ of.rule in
        let h = among code numbers first_number 0 code.preds rest k (mark_name m) named in
        let pred : h.place ≡ m.pred = omega (arith, h.pred_is) in
        let routine = rule_routine code numbers (first_number + k) h.found h.others in
        let stands : slice_get (story_routines program code keeps) (first_number + k) ≡ Some routine = code_has program code keeps k routine h.stands in
        let there = are.each (first_number + k) (routine_code routine) (mapped (story_routines program code keeps) (first_number + k) routine stands) in
        let both = same_Some (m.from, m.to) (8 * packed_at parts (first_number + k), 8 * packed_at parts (first_number + k) + code_size (routine_code routine))
        (sym of.place ∙ (dropped first_number k places ∙ there)) in
        record {
          rule = h.found;
          others = h.others;
          here = ap (λ (i : ℕ). drop m.rule (rules_at code i)) (sym pred) ∙ h.here;
          routine = routine;
          is = refl;
          stands = stands;
          from = ap (λ (x : ℕ × ℕ). x.0) both;
          to = ap (λ (x : ℕ × ℕ). x.1) both ∙ ap (λ (n : ℕ). n + code_size (routine_code routine)) (sym (ap (λ (x : ℕ × ℕ). x.0) both));
        }

    -- The marks of the rules are where their routines stand.
    pub has_marks : (story : List ℕ) → story ≡ image.story_of (image_of parts) → HasMarks program code parts story (marks_at names (drop first_number places))
    has_marks story e = record {
      names = names_kept names (drop first_number places) enough_left;
      each = marked;
      apart = marks_apart 0 (length story) names (drop first_number places)
          (subst (λ (l : List ℕ). AreApart 0 (length l) (drop first_number places)) (sym e)
          (apart_behind 0 (length (image.story_of (image_of parts))) first_number places are.apart));
    }
