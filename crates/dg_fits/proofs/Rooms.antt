-- How much room the routines of code take.
use Rattle.std.specs.Prelude.{nat_lt, take, map}
use Rattle.std.specs.Str.{chars}
use Rattle.std.proofs.Common.{◌≡◌, ℕ, zero, suc, ◌+◌, ◌*◌, ◌/◌, ◌≤◌, inl, inr, List, [], ◌∷◌, ◌++◌, length, drop, Option, Some, None, Bool, true, false, refl, sym, ◌∙◌, ap, arith, length-drop}
use Rattle.std.specs.List.{slice_get}
use Rattle.std.proofs.lemmas.List.{length-take-le, length-map, length-replicate}
use Rattle.dg_base.specs.declared.program.CompareOp.{CompareOp}
use Rattle.dg_base.specs.declared.program.CompareOp.TheVariants as compare
use Rattle.dg_base.specs.declared.program.CoreProgram.{CoreProgram}
use Rattle.dg_base.specs.declared.program.PlaceKind.{PlaceKind}
use Rattle.dg_base.specs.declared.program.PlaceKind.TheVariants.{Flag, ObjectFlag, ObjectVar, Parent, Global}
use Rattle.dg_base.specs.declared.program.Goal.{Goal}
use Rattle.dg_base.specs.declared.program.Term.{Term, out-Term}
use Rattle.dg_base.specs.declared.program.Term.TheOpen as term
use Rattle.dg_base.specs.declared.program.GapKind.TheVariants as kinds
use Rattle.dg_base.specs.Goals.{option_terms}
use Rattle.dg_base.specs.Sound.{IsName}
use Rattle.dg_meaning.specs.Cells.{nodes_of, cells}
use Rattle.dg_meaning.specs.Facts.{kinds_of}
use Rattle.dg_meaning.specs.Render.{characters, last_of}
use Rattle.dg_meaning.specs.Selection.{label_at}
use Rattle.dg_meaning.specs.Values.{Label}
use Rattle.dg_mid.specs.declared.code.Action.TheVariants as action
use Rattle.dg_mid.specs.declared.code.Gathered.TheVariants as gathered
use Rattle.dg_mid.specs.declared.code.Op.{Op}
use Rattle.dg_mid.specs.declared.code.Op.TheVariants as op
use Rattle.dg_mid.specs.declared.code.Block.{Block}
use Rattle.dg_mid.specs.declared.code.BodyCode.{BodyCode}
use Rattle.dg_mid.specs.declared.code.RuleCode.{RuleCode}
use Rattle.dg_mid.specs.declared.code.Code.{Code}
use Rattle.dg_mid.specs.Code.{block_at, label_of}
use Rattle.dg_mid.specs.Weights.{terms_weight, op_weight, ops_weight, blocks_weight}
use Rattle.z_lang.specs.declared.act.Act.{Act}
use Rattle.z_lang.specs.declared.act.Act.TheVariants as acts
use Rattle.z_lang.specs.declared.act.Args.TheVariants as args
use Rattle.z_lang.specs.declared.act.Atom.TheVariants as atoms
use Rattle.z_lang.specs.declared.act.Routine.{Routine}
use Rattle.z_lang.specs.Sizes.{args_bytes, body_bytes}
use Rattle.dg_rt.specs.Cells.{at_cell}
use Rattle.dg_rt.specs.Gaps.{last_word}
use Rattle.dg_rt.specs.Conditions.{test_number}
use Rattle.dg_rt.specs.Arithmetic.{arith_number}
use Rattle.dg_rt.specs.Rules.{key_word}
use Rattle.dg_turn.specs.Told.{rule_acts}
use Rattle.dg_turn.specs.Lies.{bit_of}
use Rattle.dg_turn.specs.Terms.{capped, terms_acts}
use Rattle.dg_turn.specs.Turns.{HEAD, above, matchers, unifying_acts, match_acts, last_acts, enter_routine}
use Rattle.dg_turn.specs.Queries.{some_of, ask_acts}
use Rattle.dg_turn.specs.Bodies.{CALLED, look_acts, body_routine, fork_routine}
use Rattle.dg_rt.specs.declared.numbers.TheConstants.{TAIL_CALL, ASK_SPACES, IF_LESS, THROW, IF_SET, OPEN, OPEN_GATHERING, PRINT_VALUE, READ_KEPT, SPELL, SPLIT, MADE, JOIN}
use Rattle.dg_rt.specs.declared.registers.TheConstants.{ARGS, BACK, CLASH, INNER, LAST, WORD}
use Rattle.dg_rt.specs.RunTime.{routine_of}
use Rattle.dg_turn.specs.Operating.{compared_args, making_routine}
use Rattle.dg_turn.specs.Names.{objects_routines}
use Rattle.dg_turn.specs.Texts.{say, text_acts, text_routine}
use Rattle.dg_turn.specs.Typing.{read_acts}
use Rattle.dg_turn.specs.Wording.{word_routine}
use Rattle.dg_turn.specs.Globals.{global_routine}
use Rattle.dg_turn.specs.World.{words_at, bytes_at, flag_word, changer, changer_args}
use Rattle.dg_emit.specs.declared.numbers.Numbers.{Numbers}
use Rattle.dg_emit.specs.Numbers.{routines_of_op, routines_of_ops, blocks_size, bodies_size, rules_count, first_of, first_rule, behind_blocks, number_behind, numbers_from, block_number, pred_number}
use Rattle.dg_emit.specs.Bodies.{bodies_routines}
use Rattle.dg_turn.specs.Tries.{OBJECT_TRIED, Sought, AnyObject, Flagged, Valued, sought_by, sought_at, sought_terms, look_acts as looked_acts, tried_acts, landing_acts, tries_by, tries_routine}
use Rattle.dg_turn.specs.Seeking.{find_acts, find_routine}
use Rattle.dg_emit.specs.Finds.{find_of, query_of, tries_for, FindFits, GlobalFits, QueryFits}
use Rattle.dg_emit.specs.Code.{op_routines, ops_routines, blocks_routines, parameters_of, rules_routines, preds_routines, code_routines, OpFits, OpsFit, BlocksFit}
use Rattle.dg_emit.specs.Sites.{site_address}
use Rattle.dg_emit.specs.World.{change_routine}
use Rattle.dg_fits.specs.inside.Bytes.{room, rooms, bytes}
use Rattle.dg_emit.proofs.Left.{nodes_next}
use Rattle.dg_fits.proofs.Names.{chars_few}
use Rattle.dg_fits.proofs.SelectRoutine.{select_few}
use Rattle.dg_fits.proofs.Terms.{bytes_append, num_bytes, spare_at, first_spare, terms_room}

-- ## Room

pub rooms_append : (xs ys : List Routine) → rooms (xs ++ ys) ≡ rooms xs + rooms ys
rooms_append [] ys = omega arith
rooms_append (x ∷ xs) ys = omega (arith, rooms_append xs ys)

-- ## Acts

matches_few : (v x n : ℕ) → body_bytes (match_acts v x n) ≤ 6 * n
matches_few v x zero = omega arith
matches_few v x (suc n) = omega (arith, matches_few (suc v) (suc x) n)

unifies_few : (v x n : ℕ) (head : List Term) → body_bytes (unifying_acts v x (matchers n head)) ≤ 6 * length head
unifies_few v x n [] = omega arith
unifies_few v x n (t ∷ ts) = omega (arith, unifies_few (suc v) (suc x) (above n (nodes_of (t ∷ []))) ts)

-- what comes behind the arguments of a query
asks_few : (behind : ℕ) (many : Bool) (ts : List Term) (rules : ℕ) → body_bytes (ask_acts (atoms.Routine behind) many ts rules) ≤ 13
asks_few behind many ts rules = omega (arith, num_bytes (nat_lt (bit_of many) 256), num_bytes (nat_lt (some_of ts) 256))

looks_few : (b : Option Term) (many : Bool) (find : ℕ) → body_bytes (look_acts b many find) ≤ 25
looks_few b many find = omega (arith, num_bytes (nat_lt (bit_of many) 256), num_bytes (nat_lt (length (option_terms b)) 256))

compared_few : (f : CompareOp) (behind : ℕ) → args_bytes (compared_args f behind) ≤ 4
compared_few compare.Less behind = omega arith
compared_few compare.Greater behind = omega arith

says_few : (cs : List ℕ) → body_bytes (map say cs) ≤ 5 * length cs
says_few [] = omega arith
says_few (c ∷ cs) = omega (arith, num_bytes (nat_lt c 256), says_few cs)

texts_few : (cs : List ℕ) → body_bytes (text_acts cs) ≤ 12 + 5 * length cs
texts_few [] = omega arith
texts_few (c ∷ cs) = omega (arith, num_bytes (nat_lt c 256), says_few cs)

-- ## Rules

rule_room : (key : Option Label) (n enter self next : ℕ) → room (routine_of 1 (rule_acts key n enter self next)) ≤ 32
rule_room None n enter self next = omega (arith, num_bytes (nat_lt n 256))
rule_room (Some f) n enter self next = omega (arith, num_bytes (nat_lt n 256), num_bytes (nat_lt (key_word f) 256))

rules_room : (code : Code) (numbers : Numbers) (k : ℕ) (rules : List RuleCode) → rooms (rules_routines code numbers k rules) ≤ 32 * length rules
rules_room code numbers k [] = omega arith
rules_room code numbers k (rule ∷ rules) =
    omega (
      arith,
      rule_room (label_of rule.key) (parameters_of (block_at code rule.block)) (block_number numbers rule.block) k (first_rule (k + 1) rules),
      rules_room code numbers (k + 1) rules,
    )

pub preds_room : (code : Code) (numbers : Numbers) (k : ℕ) (preds : List (List RuleCode)) → rooms (preds_routines code numbers k preds) ≤ 32 * rules_count preds
preds_room code numbers k [] = omega arith
preds_room code numbers k (rules ∷ preds) =
    omega (
      arith,
      rooms_append (rules_routines code numbers k rules) (preds_routines code numbers (k + length rules) preds),
      rules_room code numbers k rules,
      preds_room code numbers (k + length rules) preds,
    )

-- ## Bodies of closures

body_room : (place own block : ℕ) → room (body_routine place own block) ≤ 16
body_room place own block = omega (arith, num_bytes (nat_lt (49152 + place) 256), num_bytes (nat_lt own 256))

fork_room : (place left right : ℕ) → room (fork_routine place left right) ≤ 16
fork_room place left right = omega (arith, num_bytes (nat_lt (49152 + place) 256))

-- a fork less than there are bodies
abbrev spare : List BodyCode → ℕ
spare [] = 0
spare (body ∷ bodies) = 16

spare_some : (bodies : List BodyCode) → 1 ≤ length bodies → spare bodies ≡ 16
spare_some [] some = absurd (omega arith)
spare_some (body ∷ bodies) some = refl

all_room : (numbers : Numbers) (halvings number place : ℕ) (bodies : List BodyCode) →
    rooms (bodies_routines numbers halvings number place bodies) + spare bodies ≤ 32 * length bodies
all_room numbers halvings number place [] = omega arith
all_room numbers halvings number place (body ∷ []) =
    omega (arith, body_room place body.own (block_number numbers body.block))
all_room numbers zero number place (a ∷ b ∷ bodies) = omega arith
all_room numbers (suc halvings) number place (a ∷ b ∷ bodies) =
    let all : List BodyCode = a ∷ b ∷ bodies in
    let half : ℕ = length all / 2 in
    let halves : 1 ≤ half × half + 1 ≤ length all = (omega arith, omega arith) in
    let first : length (take half all) ≡ half = length-take-le half all (omega arith) in
    let second : length (drop half all) + half ≡ length all = omega (arith, length-drop half all) in
    omega (
      arith,
      fork_room (place + half) (number + 1) (number + 2 * half),
      rooms_append
          (bodies_routines numbers halvings (number + 1) place (take half all)) (bodies_routines numbers halvings (number + 2 * half) (place + half) (drop half all)),
      all_room numbers halvings (number + 1) place (take half all),
      all_room numbers halvings (number + 2 * half) (place + half) (drop half all),
      spare_some (take half all) (omega arith),
      spare_some (drop half all) (omega arith),
    )

bodies_room : (numbers : Numbers) (halvings number place : ℕ) (bodies : List BodyCode) →
    rooms (bodies_routines numbers halvings number place bodies) ≤ 32 * length bodies
bodies_room numbers halvings number place bodies = omega (arith, all_room numbers halvings number place bodies)

-- ## Instructions

module _ (p : CoreProgram) where
  -- a routine that writes terms first: what comes behind them may take 38 bytes, and 6 a term, within `own`
  pub written_room : (v : ℕ) (ts : List Term) (rest : List Act) (n : ℕ) → body_bytes rest ≤ n + 6 * length ts → room (routine_of 0 (terms_acts p v ts ++ rest)) ≤ 14 + n + terms_weight (bytes p) ts
  written_room v ts rest n few = omega (arith, bytes_append (terms_acts p v ts) rest, terms_room p v ts)

  enter_room : (vars : ℕ) (head : List Term) (behind : ℕ) → room (enter_routine p vars head behind) ≤ 31 + terms_weight (bytes p) head
  enter_room vars head behind =
      let matches = unifying_acts ARGS HEAD (matchers 0 head) in
      omega (
        arith,
        num_bytes (nat_lt vars 256),
        num_bytes (nat_lt (capped (cells p head)) 256),
        bytes_append (terms_acts p HEAD head) (matches ++ last_acts behind),
        bytes_append matches (last_acts behind),
        unifies_few ARGS HEAD 0 head,
        terms_room p HEAD head,
      )

  text_room : (text : List ℕ) (behind : ℕ) → IsName text → room (text_routine (chars text) behind) ≤ 30 + 5 * characters text
  text_room text behind is =
      let rest = acts.Copy LAST (atoms.Num (last_word (last_of None (chars text)))) ∷ acts.Return (atoms.Routine behind) ∷ [] in
      omega (
        arith,
        bytes_append (text_acts (chars text)) rest,
        texts_few (chars text),
        chars_few text is,
        num_bytes (nat_lt (last_word (last_of None (chars text))) 256),
      )

  making_room : (maker : ℕ) (a b c : Term) (behind : ℕ) → room (making_routine p maker a b c behind) ≤ 36 + terms_weight (bytes p) (a ∷ b ∷ c ∷ [])
  making_room maker a b c behind =
      let rest =
      acts.Call (Some WORD) (atoms.Routine maker) (args.Two (atoms.Var ARGS) (atoms.Var (ARGS + 1))) ∷ (match_acts (ARGS + 2) WORD 1 ++ last_acts behind) in
      omega (arith, written_room ARGS (a ∷ b ∷ c ∷ []) rest 22 (omega arith))

  wording_room : (maker : ℕ) (a b : Term) (behind : ℕ) → room (word_routine p maker a b behind) ≤ 48 + terms_weight (bytes p) (a ∷ b ∷ [])
  wording_room maker a b behind =
      let rest =
      acts.Call (Some WORD) (atoms.Routine maker) (args.One (atoms.Var ARGS)) ∷ acts.Call (Some WORD) (atoms.Routine MADE) (args.One (atoms.Var WORD))
      ∷ (match_acts (ARGS + 1) WORD 1 ++ last_acts behind) in
      omega (arith, written_room ARGS (a ∷ b ∷ []) rest 34 (omega arith))

  given_few : (kind : PlaceKind) (place : ℕ) (sets : Bool) (behind : ℕ) → args_bytes (changer_args p kind place sets behind) ≤ 6
  given_few Flag place sets behind = omega (arith, num_bytes (nat_lt (at_cell (words_at p place)) 256), num_bytes (nat_lt (flag_word sets) 256))
  given_few ObjectFlag place sets behind = omega (arith, num_bytes (nat_lt (64 + bytes_at p place) 256), num_bytes (nat_lt (length p.objects) 256))
  given_few ObjectVar place sets behind = omega (arith, num_bytes (nat_lt (at_cell (words_at p place)) 256), num_bytes (nat_lt (length p.objects) 256))
  given_few Parent place sets behind = omega (arith, num_bytes (nat_lt (at_cell (words_at p place)) 256), num_bytes (nat_lt (length p.objects) 256))
  given_few Global place sets behind = omega (arith, num_bytes (nat_lt (at_cell (words_at p place)) 256), num_bytes (nat_lt (length p.objects) 256))

  change_room : (place : ℕ) (o : Option PlaceKind) (ts : List Term) (sets : Bool) (behind : ℕ) → room (change_routine p place o ts sets behind) ≤ 30 + terms_weight (bytes p) ts
  change_room place None ts sets behind = omega arith
  change_room place (Some kind) ts sets behind =
      let rest = acts.Call (Some WORD) (atoms.Routine (changer kind sets)) (changer_args p kind place sets behind) ∷ acts.Return (atoms.Var WORD) ∷ [] in
      omega (arith, written_room ARGS ts rest 14 (omega (arith, given_few kind place sets behind)))

  -- a query of objects, and the objects that it tries
  find_few : (s : Sought) (behind tries : ℕ) → body_bytes (find_acts p s behind tries) ≤ 7 + 14 * sought_terms s
  find_few AnyObject behind tries = omega arith
  find_few (Flagged place) behind tries = omega (arith, num_bytes (nat_lt (64 + bytes_at p place) 256), num_bytes (nat_lt (length p.objects) 256))
  find_few (Valued place) behind tries = omega (arith, num_bytes (nat_lt (at_cell (words_at p place)) 256), num_bytes (nat_lt (length p.objects) 256))

  -- a variable that is the first term leaves what it has to spare
  found_room : (s : Sought) (ts : List Term) (behind tries : ℕ) → length ts ≡ sought_terms s →
      room (find_routine p s ts behind tries) + first_spare (nodes_of ts) ≤ 21 + 8 * sought_terms s + terms_weight (bytes p) ts
  found_room s ts behind tries many =
      omega (
        arith,
        bytes_append (terms_acts p ARGS ts) (find_acts p s behind tries),
        terms_room p ARGS ts,
        find_few s behind tries,
      )

  looked_few : (s : Sought) → body_bytes (looked_acts p s) ≤ 7
  looked_few AnyObject = omega arith
  looked_few (Flagged place) = omega (arith, num_bytes (nat_lt (64 + bytes_at p place) 256))
  looked_few (Valued place) = omega (arith, num_bytes (nat_lt (at_cell (words_at p place)) 256))

  tried_few : (v x n : ℕ) → body_bytes (tried_acts v x n) ≤ 6 * n
  tried_few v x zero = omega arith
  tried_few v x (suc n) = omega (arith, tried_few (suc v) (suc x) n)

  landing_few : (many : Bool) (next : ℕ) → body_bytes (landing_acts many next) ≤ 9
  landing_few true next = omega arith
  landing_few false next = omega arith

  tried_by : (objects : ℕ) (s : Sought) (many : Bool) (next : ℕ) → body_bytes (tries_by p objects s many next) ≤ 25 + 6 * sought_terms s
  tried_by zero s many next = omega arith
  tried_by (suc n) s many next =
      let tried = tried_acts ARGS OBJECT_TRIED (sought_terms s) in
      omega (
        arith,
        num_bytes (nat_lt (suc n) 256),
        num_bytes (nat_lt (sought_terms s) 256),
        bytes_append (looked_acts p s) (tried ++ landing_acts many next),
        bytes_append tried (landing_acts many next),
        looked_few s,
        tried_few ARGS OBJECT_TRIED (sought_terms s),
        landing_few many next,
      )

  tried_room : (s : Sought) (many : Bool) (next : ℕ) → room (tries_routine p s many next) ≤ 24 + 8 * sought_terms s
  tried_room AnyObject many next = omega (arith, tried_by (length p.objects) AnyObject many next)
  tried_room (Flagged place) many next = omega (arith, tried_by (length p.objects) (Flagged place) many next)
  tried_room (Valued place) many next = omega (arith, tried_by (length p.objects) (Valued place) many next)

  sought_few : (s : Sought) → sought_terms s ≤ 2
  sought_few AnyObject = omega arith
  sought_few (Flagged place) = omega arith
  sought_few (Valued place) = omega arith

  -- for a variable its spare bytes suffice, and for other first terms no objects are tried
  tries_room : (s : Sought) (x : term.Term-F Term) (many : Bool) (next : ℕ) → room (tries_for p (Some s) (label_at x) many next) + 8 * sought_terms s ≤ 31 + spare_at x
  tries_room s (term.Var n) many next = omega (arith, tried_room s many next, sought_few s)
  tries_room s (term.Num n) many next = omega (arith, sought_few s)
  tries_room s (term.Word n) many next = omega (arith, sought_few s)
  tries_room s (term.Object n) many next = omega (arith, sought_few s)
  tries_room s term.Nil many next = omega (arith, sought_few s)
  tries_room s (term.Pair head tail) many next = omega (arith, sought_few s)
  tries_room s (term.Closure c) many next = omega (arith, sought_few s)

  none_room : (o : Option Label) (many : Bool) (next : ℕ) → room (tries_for p None o many next) ≡ 8
  none_room None many next = refl
  none_room (Some f) many next = refl

  -- both together
  finding_room : (place : Option ℕ) (t : Term) (ts : List Term) (many : Bool) (behind tries next : ℕ) → FindFits p place (length (t ∷ ts)) →
      room (find_of p (sought_at p place) (t ∷ ts) behind tries) + room (tries_for p (sought_at p place) (label_at (out-Term t)) many next) ≤ 52 + terms_weight (bytes p) (t ∷ ts)
  finding_room place t ts many behind tries next f =
      let found = ap (λ (s : Option Sought). room (find_of p s (t ∷ ts) behind tries)) f.sought_is in
      let tried = ap (λ (s : Option Sought). room (tries_for p s (label_at (out-Term t)) many next)) f.sought_is in
      let first = ap first_spare (nodes_next t ts) in
      omega (arith, found_room f.sought (t ∷ ts) behind tries f.fits, tries_room f.sought (out-Term t) many next, first)

  -- a query of a global variable
  global_room : (place : ℕ) (t : Term) (behind : ℕ) → room (global_routine p place t behind) ≤ 36 + terms_weight (bytes p) (t ∷ [])
  global_room place t behind =
      let at = at_cell (words_at p place) in
      let rest = acts.Call (Some WORD) (atoms.Routine READ_KEPT) (args.One (atoms.Num at)) ∷ (match_acts ARGS WORD 1 ++ last_acts behind) in
      omega (arith, written_room ARGS (t ∷ []) rest 22 (omega (arith, num_bytes (nat_lt at 256))))

  asks_global : (place n : ℕ) → GlobalFits p (Some place) n → slice_get (kinds_of p) place ≡ Some Global
  asks_global place n g = let same : place ≡ g.at = cc g.place_is in ap (slice_get (kinds_of p)) same ∙ g.kind_is

  -- one of no global variable is of objects
  asks_objects : (place n : ℕ) (o : Option PlaceKind) → slice_get (kinds_of p) place ≡ o → (o ≡ Some Global → ⊥) → QueryFits p (Some place) n → FindFits p (Some place) n
  asks_objects place n o is other (inl f) = f
  asks_objects place n o is other (inr g) = absurd (other (sym is ∙ asks_global place n g))

  query_room : (place : ℕ) (o : Option PlaceKind) (t : Term) (ts : List Term) (many : Bool) (behind tries next : ℕ) → slice_get (kinds_of p) place ≡ o → QueryFits p (Some place) (length (t ∷ ts)) →
      room (query_of p o (Some place) (t ∷ ts) behind tries) + room (tries_for p (sought_at p (Some place)) (label_at (out-Term t)) many next) ≤ 52 + terms_weight (bytes p) (t ∷ ts)
  query_room place (Some Global) t [] many behind tries next is fits =
      let tried = ap (λ (o : Option PlaceKind). room (tries_for p (sought_by place o) (label_at (out-Term t)) many next)) is in
      omega (arith, global_room place t behind, none_room (label_at (out-Term t)) many next)
  query_room place (Some Global) t (u ∷ ts) many behind tries next is (inl f) =
      let none : None ≡ Some f.sought = sym (ap (sought_by place) is) ∙ f.sought_is in absurd (cc none)
  query_room place (Some Global) t (u ∷ ts) many behind tries next is (inr g) = let one = g.fits in absurd (omega arith)
  query_room place (Some Flag) t ts many behind tries next is fits =
      finding_room (Some place) t ts many behind tries next (asks_objects place (length (t ∷ ts)) (Some Flag) is (λ e. cc e) fits)
  query_room place (Some ObjectFlag) t ts many behind tries next is fits =
      finding_room (Some place) t ts many behind tries next (asks_objects place (length (t ∷ ts)) (Some ObjectFlag) is (λ e. cc e) fits)
  query_room place (Some ObjectVar) t ts many behind tries next is fits =
      finding_room (Some place) t ts many behind tries next (asks_objects place (length (t ∷ ts)) (Some ObjectVar) is (λ e. cc e) fits)
  query_room place (Some Parent) t ts many behind tries next is fits =
      finding_room (Some place) t ts many behind tries next (asks_objects place (length (t ∷ ts)) (Some Parent) is (λ e. cc e) fits)
  query_room place None t ts many behind tries next is fits =
      finding_room (Some place) t ts many behind tries next (asks_objects place (length (t ∷ ts)) None is (λ e. cc e) fits)

  -- one without a place is of objects
  any_asks : (n : ℕ) → QueryFits p None n → FindFits p None n
  any_asks n (inl f) = f
  any_asks n (inr g) = absurd (cc g.place_is)

  -- an instruction takes no more room than it weighs
  op_room : (numbers : Numbers) (number behind : ℕ) (x : Op) → OpFits p x → rooms (op_routines p numbers number behind x) ≤ op_weight (bytes p) x
  op_room numbers number behind (op.Select site mode blocks next) fits =
      let branches = map (block_number numbers) blocks in
      let n = length blocks in
      omega (arith, select_few (site_address p numbers.sites site) mode branches (block_number numbers next), length-map blocks (block_number numbers), length-replicate {A = List Goal} n [])
  op_room numbers number behind (op.Do (action.Test kind a)) fits =
      let rest = acts.Call (Some WORD) (atoms.Routine (test_number kind)) (args.Two (atoms.Var ARGS) (atoms.Routine behind)) ∷ acts.Return (atoms.Var WORD) ∷ [] in
      omega (arith, written_room ARGS (a ∷ []) rest 10 (omega arith))
  op_room numbers number behind (op.Do (action.Compare f a b)) fits =
      let rest = acts.Call (Some WORD) (atoms.Routine IF_LESS) (compared_args f behind) ∷ acts.Return (atoms.Var WORD) ∷ [] in
      omega (arith, written_room ARGS (a ∷ b ∷ []) rest 11 (omega (arith, compared_few f behind)))
  op_room numbers number behind (op.Do (action.Arith f a b c)) fits = omega (arith, making_room (arith_number f) a b c behind)
  op_room numbers number behind (op.Do (action.Random a b c)) fits = omega (arith, making_room THROW a b c behind)
  op_room numbers number behind (op.Do (action.Equal a b)) fits =
      omega (
        arith,
        written_room ARGS (a ∷ b ∷ []) (acts.Copy CLASH (atoms.Num 0) ∷ (match_acts ARGS (ARGS + 1) 1 ++ last_acts behind)) 19 (omega arith),
      )
  op_room numbers number behind (op.Do (action.Print a)) fits =
      let rest = acts.Call None (atoms.Routine PRINT_VALUE) (args.Three (atoms.Var ARGS) (atoms.Routine SPELL) (atoms.Routine numbers.objects)) ∷ acts.Return (atoms.Routine behind) ∷ [] in
      omega (arith, written_room ARGS (a ∷ []) rest 12 (omega arith))
  op_room numbers number behind (op.Do (action.Text text)) fits = omega (arith, text_room text behind fits)
  op_room numbers number behind (op.Do (action.Gap kinds.NoSpace)) fits = omega arith
  op_room numbers number behind (op.Do (action.Gap kinds.Space)) fits = omega arith
  op_room numbers number behind (op.Do (action.Gap kinds.Line)) fits = omega arith
  op_room numbers number behind (op.Do (action.Gap kinds.Par)) fits = omega arith
  op_room numbers number behind (op.Do (action.Gap kinds.Upper)) fits = omega arith
  op_room numbers number behind (op.Do (action.GapN a)) fits =
      let rest = acts.Call (Some WORD) (atoms.Routine ASK_SPACES) (args.Two (atoms.Var ARGS) (atoms.Routine behind)) ∷ acts.Return (atoms.Var WORD) ∷ [] in
      omega (arith, written_room ARGS (a ∷ []) rest 10 (omega arith))
  op_room numbers number behind (op.Do (action.Now place ts sets)) fits = omega (arith, change_room place (slice_get (kinds_of p) place) ts sets behind)
  op_room numbers number behind (op.Do (action.Input a)) fits = omega (arith, written_room ARGS (a ∷ []) (read_acts ++ (match_acts ARGS WORD 1 ++ last_acts behind)) 34 (omega arith))
  op_room numbers number behind (op.Do (action.SplitWord a b)) fits = omega (arith, wording_room SPLIT a b behind)
  op_room numbers number behind (op.Do (action.JoinWords a b)) fits = omega (arith, wording_room JOIN a b behind)
  op_room numbers number behind (op.Find (Some place) [] many next) fits =
      let at = at_cell (words_at p place) in
      let rest = acts.Call (Some WORD) (atoms.Routine IF_SET) (args.Two (atoms.Num at) (atoms.Routine behind)) ∷ acts.Return (atoms.Var WORD) ∷ [] in
      omega (arith, written_room ARGS [] rest 12 (omega (arith, num_bytes (nat_lt at 256))))
  op_room numbers number behind (op.Find None (t ∷ []) many next) fits =
      omega (arith, finding_room None t [] many behind (number + 1) (block_number numbers next) (any_asks 1 fits.2))
  op_room numbers number behind (op.Find None (t ∷ u ∷ ts) many next) fits =
      let f = any_asks (length (t ∷ u ∷ ts)) fits.2 in
      let same : AnyObject ≡ f.sought = cc f.sought_is in
      absurd (omega (arith, ap sought_terms same, f.fits))
  op_room numbers number behind (op.Find (Some place) (t ∷ ts) many next) fits =
      omega (arith, query_room place (slice_get (kinds_of p) place) t ts many behind (number + 1) (block_number numbers next) refl fits.2)
  op_room numbers number behind (op.Ask pred terms many next) fits =
      let rest = ask_acts (atoms.Routine (block_number numbers next)) many terms (pred_number numbers pred) in
      let few = asks_few (block_number numbers next) many terms (pred_number numbers pred) in
      omega (arith, written_room ARGS terms rest 13 (omega arith))
  op_room numbers number behind (op.LastAsk pred terms many) fits =
      let rest = acts.Call (Some WORD) (atoms.Routine TAIL_CALL) (args.One (atoms.Routine (block_number numbers 0))) ∷ ask_acts (atoms.Var WORD) many terms (pred_number numbers pred) in
      omega (
        arith,
        written_room ARGS terms rest 19 (omega (arith, num_bytes (nat_lt (bit_of many) 256), num_bytes (nat_lt (some_of terms) 256))),
      )
  op_room numbers number behind (op.Query a b many next) fits =
      let rest = acts.Copy BACK (atoms.Routine (block_number numbers next)) ∷ look_acts b many numbers.find in
      omega (arith, written_room CALLED (a ∷ option_terms b) rest 30 (omega (arith, looks_few b many numbers.find)))
  op_room numbers number behind (op.LastQuery a b many) fits =
      let rest = acts.Call (Some BACK) (atoms.Routine TAIL_CALL) (args.One (atoms.Routine (block_number numbers 0))) ∷ look_acts b many numbers.find in
      omega (arith, written_room CALLED (a ∷ option_terms b) rest 32 (omega (arith, looks_few b many numbers.find)))
  op_room numbers number behind (op.Collect a b alt) fits =
      let rest =
      acts.Call None (atoms.Routine OPEN_GATHERING) args.Zero
      ∷ acts.Call (Some INNER) (atoms.Routine OPEN) (args.Three (atoms.Routine (block_number numbers alt)) (atoms.Var (ARGS + 1)) (atoms.Var ARGS)) ∷ acts.Return (atoms.Routine behind) ∷ [] in
      omega (arith, written_room ARGS (a ∷ b ∷ []) rest 10 (omega arith))
  op_room numbers number behind (op.TakeOut gathered.List into) fits = omega arith
  op_room numbers number behind (op.TakeOut gathered.Sum into) fits = omega arith
  op_room numbers number behind (op.Enter vars head) fits = omega (arith, enter_room vars head behind)
  op_room numbers number behind x fits = omega arith

  ops_room : (numbers : Numbers) (k : ℕ) (ops : List Op) → OpsFit p ops → rooms (ops_routines p numbers k ops) ≤ 8 + ops_weight (bytes p) ops
  ops_room numbers k [] fits = omega arith
  ops_room numbers k (x ∷ ops) fits =
      let behind = k + routines_of_op x in
      omega (
        arith,
        rooms_append (op_routines p numbers k (first_of behind ops) x) (ops_routines p numbers behind ops),
        op_room numbers k (first_of behind ops) x fits.0,
        ops_room numbers behind ops fits.1,
      )

  blocks_room : (numbers : Numbers) (k : ℕ) (blocks : List Block) → BlocksFit p blocks → rooms (blocks_routines p numbers k blocks) ≤ blocks_weight (bytes p) blocks
  blocks_room numbers k [] fits = omega arith
  blocks_room numbers k (block ∷ blocks) fits =
      let behind = k + routines_of_ops block.ops in
      omega (
        arith,
        rooms_append (ops_routines p numbers k block.ops) (blocks_routines p numbers behind blocks),
        ops_room numbers k block.ops fits.0,
        blocks_room numbers behind blocks fits.1,
      )

  -- so much room do the routines of code take
  pub code_room : (first : ℕ) (code : Code) → BlocksFit p code.blocks →
      rooms (code_routines p first code) ≤ blocks_weight (bytes p) code.blocks + 32 * rules_count code.preds + 32 * length code.closures + rooms (objects_routines (number_behind first code) p.objects)
  code_room first code fits =
      let numbers = numbers_from first code in
      let rules = preds_routines code numbers first code.preds in
      let blocks = blocks_routines p numbers (first + rules_count code.preds) code.blocks in
      let bodies = bodies_routines numbers (length code.closures) (behind_blocks first code) 0 code.closures in
      let objects = objects_routines (number_behind first code) p.objects in
      omega (
        arith,
        rooms_append rules (blocks ++ (bodies ++ objects)),
        rooms_append blocks (bodies ++ objects),
        rooms_append bodies objects,
        preds_room code numbers first code.preds,
        blocks_room numbers (first + rules_count code.preds) code.blocks fits,
        bodies_room numbers (length code.closures) (behind_blocks first code) 0 code.closures,
      )

-- ## Numbers

op_many : (p : CoreProgram) (x : Op) → 8 * routines_of_op x ≤ op_weight (bytes p) x
op_many p op.Return = omega arith
op_many p (op.Do action.Stop) = omega arith
op_many p (op.Keep a) = omega arith
op_many p (op.Find place [] many next) = omega arith
op_many p (op.Find None (t ∷ []) many next) = omega arith
op_many p (op.Find None (t ∷ u ∷ ts) many next) = omega arith
op_many p (op.Find (Some place) (t ∷ ts) many next) = omega arith
op_many p x = omega arith

ops_many : (p : CoreProgram) (ops : List Op) → 8 * routines_of_ops ops ≤ 8 + ops_weight (bytes p) ops
ops_many p [] = omega arith
ops_many p (x ∷ ops) = omega (arith, op_many p x, ops_many p ops)

blocks_many : (p : CoreProgram) (blocks : List Block) → 8 * blocks_size blocks ≤ blocks_weight (bytes p) blocks
blocks_many p [] = omega arith
blocks_many p (block ∷ blocks) = omega (arith, ops_many p block.ops, blocks_many p blocks)

bodies_many : (bodies : List BodyCode) → bodies_size bodies ≤ 2 * length bodies
bodies_many [] = omega arith
bodies_many (body ∷ bodies) = omega arith

-- so many numbers does code take
pub code_many : (p : CoreProgram) (first : ℕ) (code : Code) →
    8 * number_behind first code ≤ 8 * first + blocks_weight (bytes p) code.blocks + 32 * rules_count code.preds + 32 * length code.closures
code_many p first code = omega (arith, blocks_many p code.blocks, bodies_many code.closures)
