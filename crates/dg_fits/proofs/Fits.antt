-- The routines of a story can be assembled.
use Rattle.std.specs.Prelude.{take, nat_lt, map, if◌then◌else◌}
use Rattle.std.specs.Str.{chars}
use Rattle.std.proofs.Common.{◌≡◌, ℕ, zero, suc, ◌+◌, ◌*◌, ◌/◌, ◌<◌, ◌≤◌, inl, List, [], ◌∷◌, ◌++◌, length, drop, Option, Some, None, Bool, true, false, refl, arith, length-drop}
use Rattle.std.specs.List.{slice_get}
use Rattle.std.proofs.lemmas.List.{length-take-le}
use Rattle.dg_base.specs.declared.program.ArithOp.{ArithOp}
use Rattle.dg_base.specs.declared.program.ArithOp.TheVariants as arith_op
use Rattle.dg_base.specs.declared.program.CompareOp.TheVariants as compare
use Rattle.dg_base.specs.declared.program.CoreProgram.{CoreProgram}
use Rattle.dg_base.specs.declared.program.PlaceKind.{PlaceKind}
use Rattle.dg_base.specs.declared.program.PlaceKind.TheVariants.{Flag, ObjectFlag, ObjectVar, Parent, Global}
use Rattle.dg_base.specs.declared.program.Term.{Term, out-Term}
use Rattle.dg_base.specs.declared.program.TestKind.{TestKind}
use Rattle.dg_base.specs.declared.program.TestKind.TheVariants as test
use Rattle.dg_base.specs.declared.program.GapKind.TheVariants as kinds
use Rattle.dg_base.specs.Goals.{option_terms}
use Rattle.dg_base.specs.Sound.{IsName}
use Rattle.dg_meaning.specs.Cells.{nodes_of, cells}
use Rattle.dg_meaning.specs.Facts.{kinds_of}
use Rattle.dg_meaning.specs.Render.{opens, last_of}
use Rattle.dg_meaning.specs.Selection.{label_at}
use Rattle.dg_meaning.specs.Values.{Label, Num, Word, Object, Nil, Pair, Closure, Unknown}
use Rattle.dg_mid.specs.declared.code.Action.TheVariants as action
use Rattle.dg_mid.specs.declared.code.Gathered.{Gathered}
use Rattle.dg_mid.specs.declared.code.Gathered.TheVariants as gathered
use Rattle.dg_mid.specs.declared.code.Op.{Op}
use Rattle.dg_mid.specs.declared.code.Op.TheVariants as op
use Rattle.dg_mid.specs.declared.code.Block.{Block}
use Rattle.dg_mid.specs.declared.code.BodyCode.{BodyCode}
use Rattle.dg_mid.specs.declared.code.RuleCode.{RuleCode}
use Rattle.dg_mid.specs.declared.code.Code.{Code}
use Rattle.dg_mid.specs.Code.{block_at, label_of}
use Rattle.z_code.specs.declared.target.LOp.{LOp}
use Rattle.z_code.specs.Open.{Counts}
use Rattle.z_lang.specs.declared.act.Act.{Act}
use Rattle.z_lang.specs.declared.act.Act.TheVariants as acts
use Rattle.z_lang.specs.declared.act.Args.{Args}
use Rattle.z_lang.specs.declared.act.Args.TheVariants as args
use Rattle.z_lang.specs.declared.act.Atom.{Atom}
use Rattle.z_lang.specs.declared.act.Atom.TheVariants as atoms
use Rattle.z_lang.specs.declared.act.Routine.{Routine}
use Rattle.z_lang.specs.Bodies.{FitsAtom, AreFit, FitArgs}
use Rattle.z_lang.specs.Code.{ops_of_acts}
use Rattle.z_lang.specs.Sizes.{body_bytes}
use Rattle.dg_rt.specs.Cells.{at_cell}
use Rattle.dg_rt.specs.Fits.{IsFit, AllFit}
use Rattle.dg_rt.specs.Gaps.{last_word}
use Rattle.dg_rt.specs.Conditions.{test_number}
use Rattle.dg_rt.specs.Arithmetic.{arith_number}
use Rattle.dg_rt.specs.Rules.{key_word}
use Rattle.dg_rt.specs.RunTime.{runtime, routine_of}
use Rattle.dg_rt.specs.declared.numbers.TheConstants.{MATCH, TAKE, TAIL_CALL, FAIL, DONE, ASK_SPACES, IF_LESS, THROW, IF_SET, OPEN, OPEN_GATHERING, PRINT_VALUE, READ_KEPT, SPELL, SPLIT, MADE, JOIN}
use Rattle.dg_rt.specs.declared.registers.TheConstants.{ARGS, BACK, CLASH, INNER, LAST, WORD}
use Rattle.dg_rt.proofs.Straight.{AreStraight, straight_append, straight_fits}
use Rattle.dg_turn.specs.Told.{found_acts, rule_acts, KeyFits}
use Rattle.dg_turn.specs.Lies.{bit_of}
use Rattle.dg_turn.specs.Terms.{terms_acts}
use Rattle.dg_turn.specs.Turns.{HEAD, above, are_new, matchers, unifying_acts, match_acts, last_acts, enter_routine, goto_routine}
use Rattle.dg_turn.specs.Queries.{some_of, ask_acts}
use Rattle.dg_turn.specs.Bodies.{CALLED, look_acts, body_routine, fork_routine}
use Rattle.dg_turn.specs.Operating.{deciding_routine, making_routine}
use Rattle.dg_turn.specs.Gatherings.{taker}
use Rattle.dg_turn.specs.Texts.{say, text_acts, text_routine, gap_routine}
use Rattle.dg_turn.specs.Typing.{read_acts}
use Rattle.dg_turn.specs.Wording.{word_routine}
use Rattle.dg_turn.specs.World.{words_at, changer, changer_args}
use Rattle.dg_turn.specs.Tries.{OBJECT_TRIED, Sought, AnyObject, Flagged, Valued, sought_at, sought_terms, look_acts as looked_acts, tried_acts, landing_acts, try_acts, tries_by}
use Rattle.dg_turn.specs.Seeking.{seek_acts, find_acts}
use Rattle.dg_emit.specs.declared.numbers.Numbers.{Numbers}
use Rattle.dg_emit.specs.Numbers.{routines_of_op, routines_of_ops, blocks_size, rules_count, first_of, first_rule, block_number, pred_number}
use Rattle.dg_emit.specs.Bodies.{bodies_routines}
use Rattle.dg_emit.specs.Code.{op_routines, ops_routines, blocks_routines, parameters_of, rules_routines, preds_routines, TermsFit, OpFits, OpsFit, BlocksFit, RulesFit, PredsFit}
use Rattle.dg_emit.specs.Sites.{site_address}
use Rattle.dg_emit.specs.World.{WorldFits, change_routine}
use Rattle.dg_emit.specs.Finds.{find_of, kind_at, query_of, tries_of, tries_for}
use Rattle.dg_emit.proofs.Fronts.{words_small, bytes_small}
use Rattle.dg_fits.proofs.Names.{AreSmall, chars_small}
use Rattle.dg_fits.proofs.Terms.{num_bytes}
use Rattle.dg_fits.proofs.SelectRoutine.{select_fits}
use Rattle.dg_fits.proofs.Straight.{capped_few, terms_straight}
use Rattle.dg_fits.proofs.Below.{AreBelow, two_each, two_is, first_below, rule_below}

pub fits_append : (c : Counts) (xs ys : List Routine) → AllFit c xs → AllFit c ys → AllFit c (xs ++ ys)
fits_append c [] ys f g = g
fits_append c (x ∷ xs) ys f g = (f.0, fits_append c xs ys f.1 g)

-- an instruction of few variables, which begins a rule
abbrev pub EntersFew : Op → Type 0
EntersFew (op.Enter vars head) = vars ≤ 65
EntersFew x = Unit {0}

abbrev pub AllEnterFew : List Op → Type 0
AllEnterFew [] = Unit {0}
AllEnterFew (x ∷ ops) = EntersFew x × AllEnterFew ops

abbrev pub BlocksEnterFew : List Block → Type 0
BlocksEnterFew [] = Unit {0}
BlocksEnterFew (block ∷ blocks) = AllEnterFew block.ops × BlocksEnterFew blocks

-- bodies of few variables
abbrev pub OwnFew : List BodyCode → Type 0
OwnFew [] = Unit {0}
OwnFew (body ∷ bodies) = (body.own < 65536) × OwnFew bodies

bit_small : (b : Bool) → bit_of b < 65536
bit_small true = omega arith
bit_small false = omega arith

some_small : (ts : List Term) → some_of ts < 65536
some_small [] = omega arith
some_small (t ∷ ts) = omega arith

last_small : (last : Option ℕ) → last_word last < 65536
last_small None = omega arith
last_small (Some c) = by_opening (opens c)
  where
    by_opening : (b : Bool) → (if b then 1 else 2) < 65536
    by_opening true = omega arith
    by_opening false = omega arith

option_few : (b : Option Term) → length (option_terms b) ≤ 1
option_few None = omega arith
option_few (Some t) = omega arith

module _ (c : Counts) (many : 1 + length runtime ≤ c.routines) where
  matches_straight : (v x n : ℕ) → v + n ≤ 255 → x + n ≤ 255 → AreStraight c (match_acts v x n)
  matches_straight v x zero le le' = tt
  matches_straight v x (suc n) le le' = ((tt, omega arith, (omega arith, omega arith)), matches_straight (suc v) (suc x) n (omega arith) (omega arith))

  matcher_below : (g : Bool) → (if g then TAKE else MATCH) < c.routines
  matcher_below true = omega arith
  matcher_below false = omega arith

  unifies_straight : (v x n : ℕ) (head : List Term) → v + length head ≤ 255 → x + length head ≤ 255 → AreStraight c (unifying_acts v x (matchers n head))
  unifies_straight v x n [] le le' = tt
  unifies_straight v x n (t ∷ ts) le le' = ((tt, matcher_below (are_new n (nodes_of (t ∷ []))), (omega arith, omega arith)), unifies_straight (suc v) (suc x) (above n (nodes_of (t ∷ []))) ts (omega arith) (omega arith))

  last_straight : (behind : ℕ) → behind < c.routines → AreStraight c (last_acts behind)
  last_straight behind lt = ((omega arith, omega arith, lt), (omega arith, tt))

  goto_fits : (next : ℕ) → next < c.routines → IsFit c (goto_routine next)
  goto_fits next lt = straight_fits c (goto_routine next) (omega arith) (lt, tt)

  asks_straight : (behind : Atom) (ask : Bool) (ts : List Term) (rules : ℕ) → FitsAtom c behind → rules < c.routines → AreStraight c (ask_acts behind ask ts rules)
  asks_straight behind ask ts rules fits lt = ((tt, omega arith, (fits, bit_small ask, some_small ts)), (lt, tt))

  looks_straight : (b : Option Term) (ask : Bool) (find : ℕ) → find < c.routines → AreStraight c (look_acts b ask find)
  looks_straight b ask find lt =
      let few = option_few b in (
        (omega arith, bit_small ask),
        ((omega arith, omega arith), ((omega arith, omega arith, omega arith), ((omega arith, omega arith, omega arith), (lt, tt)))),
      )

  -- a routine that writes terms first
  written_fits : (p : CoreProgram) (v : ℕ) (ts : List Term) (rest : List Act) → v ≤ 64 → TermsFit p ts → AreStraight c rest → IsFit c (routine_of 0 (terms_acts p v ts ++ rest))
  written_fits p v ts rest le fits straight =
      let few = fits.0 in
      straight_fits c (routine_of 0 (terms_acts p v ts ++ rest)) (omega arith)
      (straight_append c (terms_acts p v ts) rest (terms_straight c many p v ts (omega arith) fits.1) straight)

  enter_fits : (p : CoreProgram) (vars : ℕ) (head : List Term) (behind : ℕ) → vars ≤ 65 → TermsFit p head → behind < c.routines → IsFit c (enter_routine p vars head behind)
  enter_fits p vars head behind le fits lt =
      let few = fits.0 in
      let matches = unifying_acts ARGS HEAD (matchers 0 head) in
      straight_fits c (enter_routine p vars head behind) (omega arith) (
        (tt, omega arith, (omega arith, omega (arith, capped_few c many (cells p head)))),
        straight_append c (terms_acts p HEAD head) (matches ++ last_acts behind) (terms_straight c many p HEAD head (omega arith) fits.1)
            (straight_append c matches (last_acts behind) (unifies_straight ARGS HEAD 0 head (omega arith) (omega arith)) (last_straight behind lt)),
      )

  test_below : (kind : TestKind) → test_number kind < c.routines
  test_below test.Number = omega arith
  test_below test.Word = omega arith
  test_below test.UnknownWord = omega arith
  test_below kind = omega arith

  arith_below : (f : ArithOp) → arith_number f < c.routines
  arith_below arith_op.Plus = omega arith
  arith_below f = omega arith

  compare_fits : (p : CoreProgram) (a b : Term) (given : Args) → TermsFit p (a ∷ b ∷ []) → FitArgs c given → IsFit c (deciding_routine p (a ∷ b ∷ []) IF_LESS given)
  compare_fits p a b given fits are =
      written_fits p ARGS (a ∷ b ∷ []) (acts.Call (Some WORD) (atoms.Routine IF_LESS) given ∷ acts.Return (atoms.Var WORD) ∷ []) (omega arith) fits
      ((omega arith, omega arith, are), (omega arith, tt))

  making_fits : (p : CoreProgram) (maker : ℕ) (a b d : Term) (behind : ℕ) → maker < c.routines → behind < c.routines → TermsFit p (a ∷ b ∷ d ∷ []) → IsFit c (making_routine p maker a b d behind)
  making_fits p maker a b d behind mk lt fits =
      written_fits p ARGS (a ∷ b ∷ d ∷ [])
      (acts.Call (Some WORD) (atoms.Routine maker) (args.Two (atoms.Var ARGS) (atoms.Var (ARGS + 1))) ∷ (match_acts (ARGS + 2) WORD 1 ++ last_acts behind)) (omega arith) fits
      ((omega arith, mk, (omega arith, omega arith)), ((tt, omega arith, (omega arith, omega arith)), last_straight behind lt))

  wording_fits : (p : CoreProgram) (maker : ℕ) (a b : Term) (behind : ℕ) → maker < c.routines → behind < c.routines → TermsFit p (a ∷ b ∷ []) → IsFit c (word_routine p maker a b behind)
  wording_fits p maker a b behind mk lt fits =
      written_fits p ARGS (a ∷ b ∷ [])
      (acts.Call (Some WORD) (atoms.Routine maker) (args.One (atoms.Var ARGS)) ∷ acts.Call (Some WORD) (atoms.Routine MADE) (args.One (atoms.Var WORD)) ∷ (match_acts (ARGS + 1) WORD 1 ++ last_acts behind)) (omega arith) fits
      ((omega arith, mk, omega arith), ((omega arith, omega arith, omega arith), ((tt, omega arith, (omega arith, omega arith)), last_straight behind lt)))

  -- a change of the world
  changer_below : (kind : PlaceKind) (sets : Bool) → changer kind sets < c.routines
  changer_below Flag sets = omega arith
  changer_below ObjectFlag true = omega arith
  changer_below ObjectFlag false = omega arith
  changer_below ObjectVar true = omega arith
  changer_below ObjectVar false = omega arith
  changer_below Parent true = omega arith
  changer_below Parent false = omega arith
  changer_below Global true = omega arith
  changer_below Global false = omega arith

  changes_fit : (p : CoreProgram) → WorldFits p → (kind : PlaceKind) (place : ℕ) (sets : Bool) (behind : ℕ) → behind < c.routines → FitArgs c (changer_args p kind place sets behind)
  changes_fit p world Flag place true behind lt = (words_small p world place, omega arith, lt)
  changes_fit p world Flag place false behind lt = (words_small p world place, omega arith, lt)
  changes_fit p world ObjectFlag place sets behind lt = (bytes_small p world place, omega (arith, world.few), lt)
  changes_fit p world ObjectVar place sets behind lt = (words_small p world place, omega (arith, world.few), lt)
  changes_fit p world Parent place sets behind lt = (words_small p world place, omega (arith, world.few), lt)
  changes_fit p world Global place sets behind lt = (words_small p world place, omega (arith, world.few), lt)

  change_fits : (p : CoreProgram) (place : ℕ) (o : Option PlaceKind) (ts : List Term) (sets : Bool) (behind : ℕ) → TermsFit p ts → WorldFits p → behind < c.routines → IsFit c (change_routine p place o ts sets behind)
  change_fits p place None ts sets behind fits world lt = goto_fits FAIL (omega arith)
  change_fits p place (Some kind) ts sets behind fits world lt =
      written_fits p ARGS ts (acts.Call (Some WORD) (atoms.Routine (changer kind sets)) (changer_args p kind place sets behind) ∷ acts.Return (atoms.Var WORD) ∷ []) (omega arith) fits
      ((omega arith, changer_below kind sets, changes_fit p world kind place sets behind lt), (omega arith, tt))

  says_straight : (cs : List ℕ) → AreSmall cs → AreStraight c (map say cs)
  says_straight [] small = tt
  says_straight (x ∷ cs) small = (small.0, says_straight cs small.1)

  texts_straight : (cs : List ℕ) → AreSmall cs → AreStraight c (text_acts cs)
  texts_straight [] small = tt
  texts_straight (x ∷ cs) small = ((tt, omega arith, small.0), ((tt, omega arith, small.0), says_straight cs small.1))

  text_fits : (text : List ℕ) (behind : ℕ) → behind < c.routines → IsName text → IsFit c (text_routine (chars text) behind)
  text_fits text behind lt is =
      let cs = chars text in
      straight_fits c (text_routine cs behind) (omega arith)
      (straight_append c (text_acts cs) (acts.Copy LAST (atoms.Num (last_word (last_of None cs))) ∷ acts.Return (atoms.Routine behind) ∷ []) (texts_straight cs (chars_small text is))
      ((omega arith, last_small (last_of None cs)), (lt, tt)))

  line_fits : (behind : ℕ) → behind < c.routines → IsFit c (gap_routine kinds.Line behind)
  line_fits behind lt = record {
    few = omega arith;
    short = λ l has. omega arith;
    fit = (((omega arith, omega arith, tt), inl refl), ((omega arith, omega arith), ((λ h. h), ((omega arith, omega arith), (lt, tt)))));
  }

  -- a query of objects, and the objects that it tries
  seeks_straight : (tries : ℕ) → tries < c.routines → AreStraight c (seek_acts tries)
  seeks_straight tries lt = ((omega arith, omega arith, (omega arith, lt)), (omega arith, tt))

  find_straight : (p : CoreProgram) (s : Sought) (behind tries : ℕ) → WorldFits p → behind < c.routines → tries < c.routines → AreStraight c (find_acts p s behind tries)
  find_straight p AnyObject behind tries world lt lt' = ((omega arith, omega arith, (omega arith, lt)), seeks_straight tries lt')
  find_straight p (Flagged place) behind tries world lt lt' =
      ((omega arith, omega arith, (bytes_small p world place, omega (arith, world.few), lt)), seeks_straight tries lt')
  find_straight p (Valued place) behind tries world lt lt' = (
    (omega arith, omega arith, (omega arith, lt')),
    (
      (omega arith, omega arith, (words_small p world place, omega (arith, world.few))),
      ((tt, omega arith, (omega arith, omega arith)), ((omega arith, omega arith, (lt, omega arith)), (omega arith, tt))),
    ),
  )

  found_fits : (p : CoreProgram) (o : Option Sought) (ts : List Term) (behind tries : ℕ) → WorldFits p → TermsFit p ts → behind < c.routines → tries < c.routines → IsFit c (find_of p o ts behind tries)
  found_fits p None ts behind tries world fits lt lt' = goto_fits FAIL (omega arith)
  found_fits p (Some s) ts behind tries world fits lt lt' = written_fits p ARGS ts (find_acts p s behind tries) (omega arith) fits (find_straight p s behind tries world lt lt')

  -- or one of a global variable
  query_fits : (p : CoreProgram) (place : Option ℕ) (o : Option PlaceKind) (t : Term) (ts : List Term) (behind tries : ℕ) → WorldFits p → TermsFit p (t ∷ ts) → behind < c.routines → tries < c.routines → IsFit c (query_of p o place (t ∷ ts) behind tries)
  query_fits p (Some place) (Some Global) t [] behind tries world fits lt lt' =
      written_fits p ARGS (t ∷ []) (acts.Call (Some WORD) (atoms.Routine READ_KEPT) (args.One (atoms.Num (at_cell (words_at p place)))) ∷ (match_acts ARGS WORD 1 ++ last_acts behind)) (omega arith) fits
      ((omega arith, omega arith, words_small p world place), ((tt, omega arith, (omega arith, omega arith)), last_straight behind lt))
  query_fits p (Some place) (Some Global) t (u ∷ ts) behind tries world fits lt lt' = found_fits p (sought_at p (Some place)) (t ∷ u ∷ ts) behind tries world fits lt lt'
  query_fits p (Some place) (Some Flag) t ts behind tries world fits lt lt' = found_fits p (sought_at p (Some place)) (t ∷ ts) behind tries world fits lt lt'
  query_fits p (Some place) (Some ObjectFlag) t ts behind tries world fits lt lt' = found_fits p (sought_at p (Some place)) (t ∷ ts) behind tries world fits lt lt'
  query_fits p (Some place) (Some ObjectVar) t ts behind tries world fits lt lt' = found_fits p (sought_at p (Some place)) (t ∷ ts) behind tries world fits lt lt'
  query_fits p (Some place) (Some Parent) t ts behind tries world fits lt lt' = found_fits p (sought_at p (Some place)) (t ∷ ts) behind tries world fits lt lt'
  query_fits p (Some place) None t ts behind tries world fits lt lt' = found_fits p (sought_at p (Some place)) (t ∷ ts) behind tries world fits lt lt'
  query_fits p None None t ts behind tries world fits lt lt' = found_fits p (sought_at p None) (t ∷ ts) behind tries world fits lt lt'
  query_fits p None (Some Global) t ts behind tries world fits lt lt' = found_fits p (sought_at p None) (t ∷ ts) behind tries world fits lt lt'
  query_fits p None (Some Flag) t ts behind tries world fits lt lt' = found_fits p (sought_at p None) (t ∷ ts) behind tries world fits lt lt'
  query_fits p None (Some ObjectFlag) t ts behind tries world fits lt lt' = found_fits p (sought_at p None) (t ∷ ts) behind tries world fits lt lt'
  query_fits p None (Some ObjectVar) t ts behind tries world fits lt lt' = found_fits p (sought_at p None) (t ∷ ts) behind tries world fits lt lt'
  query_fits p None (Some Parent) t ts behind tries world fits lt lt' = found_fits p (sought_at p None) (t ∷ ts) behind tries world fits lt lt'

  looked_straight : (p : CoreProgram) (s : Sought) → WorldFits p → AreStraight c (looked_acts p s)
  looked_straight p AnyObject world = tt
  looked_straight p (Flagged place) world = ((omega arith, omega arith, bytes_small p world place), tt)
  looked_straight p (Valued place) world = ((omega arith, omega arith, words_small p world place), tt)

  tried_straight : (v x n : ℕ) → v + n ≤ 255 → x + n ≤ 255 → AreStraight c (tried_acts v x n)
  tried_straight v x zero le le' = tt
  tried_straight v x (suc n) le le' = ((tt, omega arith, (omega arith, omega arith)), tried_straight (suc v) (suc x) n (omega arith) (omega arith))

  landing_straight : (many : Bool) (next : ℕ) → next < c.routines → AreStraight c (landing_acts many next)
  landing_straight true next lt = ((omega arith, omega arith, lt), (omega arith, tt))
  landing_straight false next lt = ((omega arith, omega arith, lt), (omega arith, tt))

  sought_few : (s : Sought) → sought_terms s ≤ 2
  sought_few AnyObject = omega arith
  sought_few (Flagged place) = omega arith
  sought_few (Valued place) = omega arith

  tries_fit : (p : CoreProgram) (objects : ℕ) (s : Sought) (ask : Bool) (next : ℕ) → WorldFits p → objects ≤ 4096 → next < c.routines → IsFit c (routine_of 0 (tries_by p objects s ask next))
  tries_fit p zero s ask next world few lt = straight_fits c _ (omega arith) (omega arith, tt)
  tries_fit p (suc n) s ask next world few lt =
      let short = sought_few s in
      straight_fits c (routine_of 0 (try_acts p (suc n) s ask next)) (omega arith) (
        (omega arith, omega arith, (omega arith, omega arith)),
        straight_append c (looked_acts p s) (tried_acts ARGS OBJECT_TRIED (sought_terms s) ++ landing_acts ask next) (looked_straight p s world)
            (straight_append c (tried_acts ARGS OBJECT_TRIED (sought_terms s)) (landing_acts ask next) (tried_straight ARGS OBJECT_TRIED (sought_terms s) (omega arith) (omega arith))
            (landing_straight ask next lt)),
      )

  tried_fits : (p : CoreProgram) (o : Option Sought) (ask : Bool) (next : ℕ) → WorldFits p → next < c.routines → IsFit c (tries_of p o ask next)
  tried_fits p None ask next world lt = goto_fits FAIL (omega arith)
  tried_fits p (Some s) ask next world lt = tries_fit p (length p.objects) s ask next world (omega (arith, world.few)) lt

  tries_for_fits : (p : CoreProgram) (o : Option Sought) (k : Option Label) (ask : Bool) (next : ℕ) → WorldFits p → next < c.routines → IsFit c (tries_for p o k ask next)
  tries_for_fits p o None ask next world lt = tried_fits p o ask next world lt
  tries_for_fits p o (Some f) ask next world lt = goto_fits FAIL (omega arith)

  -- ## Instructions

  taker_below : (whole : Gathered) → taker whole < c.routines
  taker_below gathered.List = omega arith
  taker_below gathered.Sum = omega arith

  op_fit : (p : CoreProgram) (numbers : Numbers) (number behind : ℕ) (x : Op) → AreBelow numbers c.routines → number + routines_of_op x ≤ c.routines → behind < c.routines → OpFits p x → EntersFew x → AllFit c (op_routines p numbers number behind x)
  op_fit p numbers number behind op.Return below le lt fits few = tt
  op_fit p numbers number behind (op.Do action.Stop) below le lt fits few = tt
  op_fit p numbers number behind (op.Keep a) below le lt fits few = tt
  op_fit p numbers number behind (op.Select site mode blocks next) below le lt fits few =
      (select_fits c many (block_number numbers) below.block (site_address p numbers.sites site) mode blocks (block_number numbers next) (omega arith) fits.few (below.block next), tt)
  op_fit p numbers number behind (op.Do action.Just) below le lt fits few =
      (straight_fits c _ (omega arith) ((omega arith, omega arith, omega arith), ((tt, omega arith, omega arith), (lt, tt))), tt)
  op_fit p numbers number behind (op.Do (action.Text text)) below le lt fits few = (text_fits text behind lt fits, tt)
  op_fit p numbers number behind (op.Do (action.Gap kinds.NoSpace)) below le lt fits few = (straight_fits c _ (omega arith) ((omega arith, omega arith), (lt, tt)), tt)
  op_fit p numbers number behind (op.Do (action.Gap kinds.Space)) below le lt fits few = (straight_fits c _ (omega arith) ((omega arith, omega arith), (lt, tt)), tt)
  op_fit p numbers number behind (op.Do (action.Gap kinds.Line)) below le lt fits few = (line_fits behind lt, tt)
  op_fit p numbers number behind (op.Do (action.Gap kinds.Par)) below le lt fits few =
      (straight_fits c _ (omega arith) ((omega arith, omega arith), ((omega arith, omega arith), (lt, tt))), tt)
  op_fit p numbers number behind (op.Do (action.Gap kinds.Upper)) below le lt fits few = (straight_fits c _ (omega arith) ((omega arith, omega arith), (lt, tt)), tt)
  op_fit p numbers number behind (op.Do (action.GapN a)) below le lt fits few = (
    written_fits p ARGS (a ∷ []) (acts.Call (Some WORD) (atoms.Routine ASK_SPACES) (args.Two (atoms.Var ARGS) (atoms.Routine behind)) ∷ acts.Return (atoms.Var WORD) ∷ []) (omega arith) fits
        ((omega arith, omega arith, (omega arith, lt)), (omega arith, tt)),
    tt,
  )
  op_fit p numbers number behind (op.Do (action.Print a)) below le lt fits few = (
    written_fits p ARGS (a ∷ []) (acts.Call None (atoms.Routine PRINT_VALUE) (args.Three (atoms.Var ARGS) (atoms.Routine SPELL) (atoms.Routine numbers.objects)) ∷ acts.Return (atoms.Routine behind) ∷ []) (omega arith) fits
        ((tt, omega arith, (omega arith, omega arith, below.objects)), (lt, tt)),
    tt,
  )
  op_fit p numbers number behind (op.Do action.Quit) below le lt fits few = (goto_fits DONE (omega arith), tt)
  op_fit p numbers number behind (op.Do (action.Test kind a)) below le lt fits few = (
    written_fits p ARGS (a ∷ []) (acts.Call (Some WORD) (atoms.Routine (test_number kind)) (args.Two (atoms.Var ARGS) (atoms.Routine behind)) ∷ acts.Return (atoms.Var WORD) ∷ []) (omega arith) fits
        ((omega arith, test_below kind, (omega arith, lt)), (omega arith, tt)),
    tt,
  )
  op_fit p numbers number behind (op.Do (action.Compare compare.Less a b)) below le lt fits few =
      (compare_fits p a b (args.Three (atoms.Var ARGS) (atoms.Var (ARGS + 1)) (atoms.Routine behind)) fits (omega arith, omega arith, lt), tt)
  op_fit p numbers number behind (op.Do (action.Compare compare.Greater a b)) below le lt fits few =
      (compare_fits p a b (args.Three (atoms.Var (ARGS + 1)) (atoms.Var ARGS) (atoms.Routine behind)) fits (omega arith, omega arith, lt), tt)
  op_fit p numbers number behind (op.Do (action.Arith f a b d)) below le lt fits few = (making_fits p (arith_number f) a b d behind (arith_below f) lt fits, tt)
  op_fit p numbers number behind (op.Do (action.Random a b d)) below le lt fits few = (making_fits p THROW a b d behind (omega arith) lt fits, tt)
  op_fit p numbers number behind (op.Do (action.Equal a b)) below le lt fits few = (
    written_fits p ARGS (a ∷ b ∷ []) (acts.Copy CLASH (atoms.Num 0) ∷ (match_acts ARGS (ARGS + 1) 1 ++ last_acts behind)) (omega arith) fits
        ((omega arith, omega arith), ((tt, omega arith, (omega arith, omega arith)), last_straight behind lt)),
    tt,
  )
  op_fit p numbers number behind (op.Do (action.Now place ts sets)) below le lt fits few = (change_fits p place (slice_get (kinds_of p) place) ts sets behind fits.0 (fits.1).world lt, tt)
  op_fit p numbers number behind (op.Do (action.Input a)) below le lt fits few = (
    written_fits p ARGS (a ∷ []) (read_acts ++ (match_acts ARGS WORD 1 ++ last_acts behind)) (omega arith) fits
        ((omega arith, omega arith, tt), ((omega arith, omega arith, omega arith), ((omega arith, omega arith, omega arith), ((tt, omega arith, tt), ((omega arith, omega arith), ((tt, omega arith, (omega arith, omega arith)), last_straight behind lt)))))),
    tt,
  )
  op_fit p numbers number behind (op.Do (action.SplitWord a b)) below le lt fits few = (wording_fits p SPLIT a b behind (omega arith) lt fits, tt)
  op_fit p numbers number behind (op.Do (action.JoinWords a b)) below le lt fits few = (wording_fits p JOIN a b behind (omega arith) lt fits, tt)
  op_fit p numbers number behind (op.Find (Some place) [] ask next) below le lt fits few = (
    written_fits p ARGS [] (acts.Call (Some WORD) (atoms.Routine IF_SET) (args.Two (atoms.Num (at_cell (words_at p place))) (atoms.Routine behind)) ∷ acts.Return (atoms.Var WORD) ∷ []) (omega arith) (omega arith, tt)
        ((omega arith, omega arith, (words_small p fits.world place, lt)), (omega arith, tt)),
    tt,
  )
  op_fit p numbers number behind (op.Find place (t ∷ ts) ask next) below le lt fits few = (
    query_fits p place (kind_at p place) t ts behind (number + 1) fits.1 fits.0 lt (omega arith),
    (tries_for_fits p (sought_at p place) (label_at (out-Term t)) ask (block_number numbers next) fits.1 (below.block next), tt),
  )
  op_fit p numbers number behind (op.Ask pred terms ask next) below le lt fits few = (
    written_fits p ARGS terms (ask_acts (atoms.Routine (block_number numbers next)) ask terms (pred_number numbers pred)) (omega arith) fits
        (asks_straight (atoms.Routine (block_number numbers next)) ask terms (pred_number numbers pred) (below.block next) (below.pred pred)),
    tt,
  )
  op_fit p numbers number behind (op.LastAsk pred terms ask) below le lt fits few = (
    written_fits p ARGS terms
        (acts.Call (Some WORD) (atoms.Routine TAIL_CALL) (args.One (atoms.Routine (block_number numbers 0))) ∷ ask_acts (atoms.Var WORD) ask terms (pred_number numbers pred)) (omega arith) fits
        ((omega arith, omega arith, below.block 0), asks_straight (atoms.Var WORD) ask terms (pred_number numbers pred) (omega arith) (below.pred pred)),
    tt,
  )
  op_fit p numbers number behind (op.Query a b ask next) below le lt fits few = (
    written_fits p CALLED (a ∷ option_terms b) (acts.Copy BACK (atoms.Routine (block_number numbers next)) ∷ look_acts b ask numbers.find) (omega arith) fits
        ((omega arith, below.block next), looks_straight b ask numbers.find below.find),
    tt,
  )
  op_fit p numbers number behind (op.LastQuery a b ask) below le lt fits few = (
    written_fits p CALLED (a ∷ option_terms b)
        (acts.Call (Some BACK) (atoms.Routine TAIL_CALL) (args.One (atoms.Routine (block_number numbers 0))) ∷ look_acts b ask numbers.find) (omega arith) fits
        ((omega arith, omega arith, below.block 0), looks_straight b ask numbers.find below.find),
    tt,
  )
  op_fit p numbers number behind (op.Enter vars head) below le lt fits few = (enter_fits p vars head behind few fits lt, tt)
  op_fit p numbers number behind op.Take below le lt fits few = (goto_fits behind lt, tt)
  op_fit p numbers number behind (op.Goto block) below le lt fits few = (goto_fits (block_number numbers block) (below.block block), tt)
  op_fit p numbers number behind (op.Branch alt) below le lt fits few =
      (straight_fits c _ (omega arith) ((tt, omega arith, (below.block alt, omega arith, omega arith)), (lt, tt)), tt)
  op_fit p numbers number behind (op.Retry alt) below le lt fits few =
      (straight_fits c _ (omega arith) ((tt, omega arith, (below.block alt, omega arith, omega arith)), (lt, tt)), tt)
  op_fit p numbers number behind (op.Try alt) below le lt fits few =
      (straight_fits c _ (omega arith) ((omega arith, omega arith, (below.block alt, omega arith, omega arith)), (lt, tt)), tt)
  op_fit p numbers number behind (op.Shield alt) below le lt fits few =
      (straight_fits c _ (omega arith) ((omega arith, omega arith, (below.block alt, omega arith, omega arith)), ((omega arith, omega arith), (lt, tt))), tt)
  op_fit p numbers number behind op.Once below le lt fits few = (straight_fits c _ (omega arith) ((tt, omega arith, tt), (lt, tt)), tt)
  op_fit p numbers number behind op.Commit below le lt fits few = (straight_fits c _ (omega arith) ((tt, omega arith, tt), (lt, tt)), tt)
  op_fit p numbers number behind op.Refuse below le lt fits few = (straight_fits c _ (omega arith) ((tt, omega arith, tt), (omega arith, tt)), tt)
  op_fit p numbers number behind (op.Collect a b alt) below le lt fits few = (
    written_fits p ARGS (a ∷ b ∷ [])
        (acts.Call None (atoms.Routine OPEN_GATHERING) args.Zero
        ∷ acts.Call (Some INNER) (atoms.Routine OPEN) (args.Three (atoms.Routine (block_number numbers alt)) (atoms.Var (ARGS + 1)) (atoms.Var ARGS))
        ∷ acts.Return (atoms.Routine behind) ∷ []) (omega arith) fits
        ((tt, omega arith, tt), ((omega arith, omega arith, (below.block alt, omega arith, omega arith)), (lt, tt))),
    tt,
  )
  op_fit p numbers number behind (op.TakeOut whole into) below le lt fits few =
      (straight_fits c _ (omega arith) ((omega arith, taker_below whole, tt), ((omega arith, omega arith), ((tt, omega arith, (omega arith, omega arith)), last_straight behind lt))), tt)
  op_fit p numbers number behind op.Leave below le lt fits few =
      (straight_fits c _ (omega arith) ((omega arith, omega arith, omega arith), ((tt, omega arith, tt), (lt, tt))), tt)
  op_fit p numbers number behind op.Done below le lt fits few = (goto_fits DONE (omega arith), tt)
  op_fit p numbers number behind x below le lt fits few = (goto_fits FAIL (omega arith), tt)

  ops_fit : (p : CoreProgram) (numbers : Numbers) (k : ℕ) (ops : List Op) → AreBelow numbers c.routines → k + routines_of_ops ops ≤ c.routines → OpsFit p ops → AllEnterFew ops → AllFit c (ops_routines p numbers k ops)
  ops_fit p numbers k [] below le fits few = (goto_fits FAIL (omega arith), tt)
  ops_fit p numbers k (x ∷ ops) below le fits few =
      let behind = k + routines_of_op x in
      fits_append c (op_routines p numbers k (first_of behind ops) x) (ops_routines p numbers behind ops)
      (op_fit p numbers k (first_of behind ops) x below (omega arith) (first_below c.routines many behind ops (omega arith)) fits.0 few.0)
      (ops_fit p numbers behind ops below (omega arith) fits.1 few.1)

  pub blocks_fit : (p : CoreProgram) (numbers : Numbers) (k : ℕ) (blocks : List Block) → AreBelow numbers c.routines → k + blocks_size blocks ≤ c.routines → BlocksFit p blocks → BlocksEnterFew blocks → AllFit c (blocks_routines p numbers k blocks)
  blocks_fit p numbers k [] below le fits few = tt
  blocks_fit p numbers k (block ∷ blocks) below le fits few =
      fits_append c (ops_routines p numbers k block.ops) (blocks_routines p numbers (k + routines_of_ops block.ops) blocks)
      (ops_fit p numbers k block.ops below (omega arith) fits.0 few.0) (blocks_fit p numbers (k + routines_of_ops block.ops) blocks below (omega arith) fits.1 few.1)

  -- ## Rules

  key_small : (f : Label) → KeyFits (Some f) → key_word f < 65536
  key_small (Num n) fits = omega arith
  key_small (Word n) fits = omega arith
  key_small (Object n) fits = omega arith
  key_small (Closure place) fits = omega arith
  key_small (Unknown spelling) fits = absurd fits
  key_small Nil fits = omega arith
  key_small Pair fits = omega arith

  found_fit : (all : List LOp) (n enter self next : ℕ) → n ≤ 12 → enter < c.routines → self < c.routines → next < c.routines → AreFit c all (found_acts n enter self next)
  found_fit all n enter self next le e s t = ((omega arith, omega arith), ((omega arith, omega arith, (e, s, t)), (omega arith, tt)))

  rule_fits : (key : Option Label) (n enter self next : ℕ) → KeyFits key → n ≤ 12 → enter < c.routines → self < c.routines → next < c.routines → IsFit c (routine_of 1 (rule_acts key n enter self next))
  rule_fits None n enter self next fits le e s t = record {
    few = omega arith;
    short = λ l has. absurd has;
    fit = found_fit (ops_of_acts (found_acts n enter self next)) n enter self next le e s t;
  }
  rule_fits (Some f) n enter self next fits le e s t = record {
    few = omega arith;
    short = λ l has. omega (arith, num_bytes (nat_lt n 256), num_bytes (nat_lt (key_word f) 256));
    fit = (
      ((omega arith, omega arith, key_small f fits), inl refl),
      (t, ((λ h. h), found_fit (ops_of_acts (rule_acts (Some f) n enter self next)) n enter self next le e s t)),
    );
  }

  rules_fit : (code : Code) (numbers : Numbers) (k : ℕ) (rules : List RuleCode) → AreBelow numbers c.routines → k + length rules ≤ c.routines → RulesFit code rules → AllFit c (rules_routines code numbers k rules)
  rules_fit code numbers k [] below le fits = tt
  rules_fit code numbers k (rule ∷ rules) below le fits = (
    rule_fits (label_of rule.key) (parameters_of (block_at code rule.block)) (block_number numbers rule.block) k (first_rule (k + 1) rules) fits.0 fits.1 (below.block rule.block) (omega arith)
        (rule_below c.routines many (k + 1) rules (omega arith)),
    rules_fit code numbers (k + 1) rules below (omega arith) fits.2,
  )

  pub preds_fit : (code : Code) (numbers : Numbers) (k : ℕ) (preds : List (List RuleCode)) → AreBelow numbers c.routines → k + rules_count preds ≤ c.routines → PredsFit code preds → AllFit c (preds_routines code numbers k preds)
  preds_fit code numbers k [] below le fits = tt
  preds_fit code numbers k (rules ∷ preds) below le fits =
      fits_append c (rules_routines code numbers k rules) (preds_routines code numbers (k + length rules) preds) (rules_fit code numbers k rules below (omega arith) fits.0)
      (preds_fit code numbers (k + length rules) preds below (omega arith) fits.1)

  -- ## Bodies of closures

  fork_fits : (place left right : ℕ) → place < 16384 → left < c.routines → right < c.routines → IsFit c (fork_routine place left right)
  fork_fits place left right few l r = record {
    few = omega arith;
    short = λ l has. omega (arith, num_bytes (nat_lt (49152 + place) 256));
    fit = (((omega arith, omega arith, tt), inl refl), (r, ((λ h. h), (l, tt))));
  }

  body_fits : (place own block : ℕ) → place < 16384 → own < 65536 → block < c.routines → IsFit c (body_routine place own block)
  body_fits place own block few o b = straight_fits c (body_routine place own block) (omega arith) ((omega arith, omega arith, (omega arith, o, b)), (omega arith, tt))

  own_take : (n : ℕ) (bodies : List BodyCode) → OwnFew bodies → OwnFew (take n bodies)
  own_take zero bodies few = tt
  own_take (suc n) [] few = tt
  own_take (suc n) (body ∷ bodies) few = (few.0, own_take n bodies few.1)

  own_drop : (n : ℕ) (bodies : List BodyCode) → OwnFew bodies → OwnFew (drop n bodies)
  own_drop zero bodies few = few
  own_drop (suc n) [] few = tt
  own_drop (suc n) (body ∷ bodies) few = own_drop n bodies few.1

  pub bodies_fit : (numbers : Numbers) (halvings number place : ℕ) (bodies : List BodyCode) →
      AreBelow numbers c.routines → number + two_each (length bodies) ≤ c.routines → place + length bodies ≤ 16384 → OwnFew bodies → AllFit c (bodies_routines numbers halvings number place bodies)
  bodies_fit numbers halvings number place [] below le few own = tt
  bodies_fit numbers halvings number place (body ∷ []) below le few own =
      (body_fits place body.own (block_number numbers body.block) (omega arith) own.0 (below.block body.block), tt)
  bodies_fit numbers zero number place (a ∷ b ∷ bodies) below le few own = tt
  bodies_fit numbers (suc halvings) number place (a ∷ b ∷ bodies) below le few own =
      let all : List BodyCode = a ∷ b ∷ bodies in
      let half : ℕ = length all / 2 in
      let first : length (take half all) ≡ half = length-take-le half all (omega arith) in
      let second : length (drop half all) + half ≡ length all = omega (arith, length-drop half all) in
      let one = two_is (length (take half all)) (omega arith) in
      let two = two_is (length (drop half all)) (omega arith) in (
        fork_fits (place + half) (number + 1) (number + 2 * half) (omega arith) (omega arith) (omega arith),
        fits_append c
            (bodies_routines numbers halvings (number + 1) place (take half all)) (bodies_routines numbers halvings (number + 2 * half) (place + half) (drop half all))
            (bodies_fit numbers halvings (number + 1) place (take half all) below (omega arith) (omega arith) (own_take half all own))
            (bodies_fit numbers halvings (number + 2 * half) (place + half) (drop half all) below (omega arith) (omega arith) (own_drop half all own)),
      )
