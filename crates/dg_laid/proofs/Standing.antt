-- Routines that lie in a story in the order of their numbers stand for its code.
use Rattle.std.proofs.Common.{⊎_elim, inl, inr, Bool, ◌≡◌, ◌≢◌, ℕ, zero, suc, ◌+◌, ◌-◌, ◌%◌, ◌≤◌, List, [], ◌∷◌, ◌++◌, length, Option, Some, None, refl, sym, ap, ◌∙◌, subst, arith}
use Rattle.std.specs.Prelude.{Contains, map, get_or}
use Rattle.std.proofs.Math.ListN.{get_or-map}
use Rattle.std.proofs.lemmas.List.{length-map}
use Rattle.std.specs.List.{slice_get}
use Rattle.dg_base.specs.declared.program.Mode.{Mode}
use Rattle.dg_base.specs.declared.program.PlaceKind.{PlaceKind}
use Rattle.dg_base.specs.declared.program.PlaceKind.TheVariants.{Flag, ObjectFlag, ObjectVar, Parent, Global}
use Rattle.dg_base.specs.declared.program.Term.{Term}
use Rattle.dg_meaning.specs.Facts.{kinds_of}
use Rattle.dg_meaning.specs.Cells.{nodes_of}
use Rattle.dg_meaning.specs.Values.{Label}
use Rattle.dg_mid.specs.declared.code.Action.TheVariants as action
use Rattle.dg_mid.specs.declared.code.Block.{Block}
use Rattle.dg_mid.specs.declared.code.Code.{Code}
use Rattle.dg_mid.specs.declared.code.Op.{Op}
use Rattle.dg_mid.specs.declared.code.Op.TheVariants as op
use Rattle.dg_mid.specs.declared.code.RuleCode.{RuleCode}
use Rattle.dg_mid.specs.Calls.{EntersWith, AllEnterWith}
use Rattle.dg_mid.specs.Code.{ops_of, block_at, codes_of, rules_at, label_of, first_label}
use Rattle.z_lang.specs.Standing.{StandsAt}
use Rattle.z_lang.specs.declared.act.Routine.{Routine}
use Rattle.dg_rt.specs.declared.numbers.TheConstants.{FAIL, LEAVE, NONE, SPELL, UNSTOP, WALK, KEEP_VALUE}
use Rattle.dg_rt.specs.Prints.{Spells}
use Rattle.dg_rt.specs.Words.{HasWords}
use Rattle.dg_rt.proofs.WordSpelled.{spell_works}
use Rattle.dg_rt.specs.Cells.{at_cell}
use Rattle.dg_rt.specs.RunTime.{runtime, routine_of}
use Rattle.dg_turn.specs.Told.{Site, Telling, RulesAt, rule_acts}
use Rattle.dg_turn.specs.Plays.{Playing}
use Rattle.dg_turn.specs.Choices.{branch_routine, try_routine, once_routine}
use Rattle.dg_turn.specs.Leaving.{just_routine}
use Rattle.dg_turn.specs.Gatherings.{collect_routine, take_routine}
use Rattle.dg_turn.specs.Names.{objects_routines}
use Rattle.dg_turn.specs.Prints.{print_routine}
use Rattle.dg_turn.proofs.ObjectPrinted.{names_spell}
use Rattle.dg_turn.specs.Operating.{test_routine, compare_routine, arith_routine, random_routine}
use Rattle.dg_turn.specs.Stopping.{shield_routine, leave_routine}
use Rattle.dg_turn.specs.Terms.{AreNodes}
use Rattle.dg_turn.specs.Texts.{text_routine, gap_routine, gap_n_routine}
use Rattle.dg_turn.specs.Turns.{enter_routine, equal_routine, goto_routine, commit_routine}
use Rattle.dg_turn.specs.Typing.{HasTables, input_routine}
use Rattle.dg_turn.specs.Wording.{split_routine, join_routine}
use Rattle.dg_turn.specs.Sites.{select_of, sites_of, numbers_of, site_at, select_routine}
use Rattle.dg_turn.specs.World.{HasWorld, now_routine, holds_routine}
use Rattle.dg_turn.proofs.Sites.{site_placed, numbers_long}
use Rattle.dg_emit.specs.declared.numbers.Numbers.{Numbers}
use Rattle.dg_emit.specs.Numbers.{first_of, first_rule, rules_count, blocks_size, behind_blocks, number_behind, bodies_size, block_starts, pred_starts, numbers_from, number_or, block_number, pred_number}
use Rattle.dg_emit.specs.Bodies.{bodies_routines}
use Rattle.dg_emit.specs.Code.{parameters_of, ops_routines, blocks_routines, rules_routines, preds_routines, code_routines, OpsFit, BlocksFit, RulesFit, PredsFit, CodeFits}
use Rattle.dg_emit.specs.Sites.{site_address}
use Rattle.dg_emit.specs.World.{change_routine, ChangeFits}
use Rattle.dg_emit.proofs.Names.{name_chars}
use Rattle.dg_turn.specs.Tries.{Sought, sought_by, sought_at}
use Rattle.dg_emit.specs.Finds.{find_of, tries_for, kind_at, query_of, FindFits, GlobalFits}
use Rattle.dg_chain.specs.Routines.{GoesOn, Opens, Writes, FindsObjects, FindsGlobal, RulesFrom, FindsAll, OpsAt}
use Rattle.dg_chain.specs.Selects.{SelectsAt}
use Rattle.dg_laid.specs.Laid.{CodeIsLaid, OpsCall, BlockSuits, BodiesAreFew, BlocksStand}
use Rattle.dg_laid.proofs.Lying.{preds_length, blocks_length, LieAt, lie_at, lie_front, lie_behind, those_lie, RulesLie, rules_lie, OpsLie, ops_lie, no_pred, no_block}
use Rattle.dg_laid.proofs.Finding.{bodies_found, bodies_length}
use Rattle.dg_laid.proofs.Sites.{OpsReach, ops_reach, block_sites}

-- what fits of all, of one
rules_fit_at : (code : Code) (preds : List (List RuleCode)) (pred : ℕ) (rules : List RuleCode) → slice_get preds pred ≡ Some rules → PredsFit code preds → RulesFit code rules
rules_fit_at code [] pred rules e h = absurd (cc)
rules_fit_at code (rs ∷ preds) zero rules e h = let same : rs ≡ rules = cc in subst (RulesFit code) same h.0
rules_fit_at code (rs ∷ preds) (suc pred) rules e h = rules_fit_at code preds pred rules e h.1

module _ (t : Telling) (plays : Playing t) (world : HasWorld t) (tables : HasTables t) (has_words : HasWords t.p t.story t.program.words) (first : ℕ) (code : Code) (laid : CodeIsLaid t first code) (fits : CodeFits t.program code)
    (suits : (b : ℕ) → BlockSuits code b) (few : BodiesAreFew code.closures) where
  abbrev numbers : Numbers
  numbers = numbers_from first code

  abbrev at : ℕ → ℕ
  at k = t.p.names.routine k

  abbrev of_rules : List Routine
  of_rules = preds_routines code numbers first code.preds

  abbrev of_blocks : List Routine
  of_blocks = blocks_routines t.program numbers (first + rules_count code.preds) code.blocks

  abbrev of_bodies : List Routine
  of_bodies = bodies_routines numbers (length code.closures) (behind_blocks first code) 0 code.closures

  abbrev of_objects : List Routine
  of_objects = objects_routines (number_behind first code) t.program.objects

  all_lie : LieAt t.p first (of_rules ++ (of_blocks ++ (of_bodies ++ of_objects)))
  all_lie = lie_at t.p first (code_routines t.program first code) laid.has

  rules_all_lie : LieAt t.p first of_rules
  rules_all_lie = lie_front t.p first of_rules (of_blocks ++ (of_bodies ++ of_objects)) all_lie

  behind_rules_lie : LieAt t.p (first + rules_count code.preds) (of_blocks ++ (of_bodies ++ of_objects))
  behind_rules_lie = lie_behind t.p first (rules_count code.preds) of_rules (of_blocks ++ (of_bodies ++ of_objects)) (preds_length code numbers first code.preds) all_lie

  blocks_all_lie : LieAt t.p (first + rules_count code.preds) of_blocks
  blocks_all_lie = lie_front t.p (first + rules_count code.preds) of_blocks (of_bodies ++ of_objects) behind_rules_lie

  behind_blocks_lie : LieAt t.p (behind_blocks first code) (of_bodies ++ of_objects)
  behind_blocks_lie =
      lie_behind t.p (first + rules_count code.preds) (blocks_size code.blocks) of_blocks (of_bodies ++ of_objects)
      (blocks_length t.program numbers (first + rules_count code.preds) code.blocks) behind_rules_lie

  bodies_all_lie : LieAt t.p (behind_blocks first code) of_bodies
  bodies_all_lie = lie_front t.p (behind_blocks first code) of_bodies of_objects behind_blocks_lie

  objects_lie : LieAt t.p (number_behind first code) of_objects
  objects_lie =
      lie_behind t.p (behind_blocks first code) (bodies_size code.closures) of_bodies of_objects
      (bodies_length numbers (length code.closures) (behind_blocks first code) 0 code.closures (omega arith)) behind_blocks_lie

  -- words and objects are spelled
  all_spelled : Spells t.p t.story t.program (at SPELL) (at numbers.objects)
  all_spelled = record {
    words_are = spell_works t.p plays.has t.story t.program.words has_words;
    objects_are = names_spell t.p plays.has t.story (number_behind first code) t.program.objects fits.3.1 fits.3.0 (those_lie t.p (number_behind first code) of_objects objects_lie);
  }

  -- a block is where its first routine is
  to_block : (b : ℕ) → at (block_number numbers b) ≡ t.at_block b
  to_block b = sym (laid.blocks b)

  -- ## Rules

  rules_stand : (arguments number : ℕ) (rules : List RuleCode) → arguments ≤ 12 → LieAt t.p number (rules_routines code numbers number rules) → RulesFit code rules →
      AllEnterWith arguments code rules → RulesAt t arguments (first_rule number rules) rules
  rules_stand arguments number [] short lie fit enters = refl
  rules_stand arguments number (r ∷ rules) short lie fit enters =
      let w : EntersWith arguments (block_at code r.block) = enters.0 in
      let count : parameters_of (block_at code r.block) ≡ arguments = ap parameters_of w.is ∙ w.fits in
      record {
        few = short;
        enter = block_number numbers r.block;
        next = first_rule (number + 1) rules;
        is = lie.0 ∙ ap (λ (n : ℕ). Some (routine_of 1 (rule_acts (label_of r.key) n (block_number numbers r.block) number (first_rule (number + 1) rules)))) count;
        enter_is = to_block r.block;
        fits = fit.0;
        behind = rules_stand arguments (number + 1) rules short lie.1 fit.2 enters.1;
      }

  rules_from : (arguments pred : ℕ) → arguments ≤ 12 → AllEnterWith arguments code (rules_at code pred) → RulesFrom t code arguments (pred_number numbers pred) pred
  rules_from arguments pred short enters = record { short = short; rules_are = by (slice_get code.preds pred) refl }
    where
      by : (o : Option (List RuleCode)) → slice_get code.preds pred ≡ o → RulesAt t arguments (pred_number numbers pred) (rules_at code pred)
      by None e =
          let none : pred_number numbers pred ≡ NONE = ap (number_or NONE) (no_pred first code.preds pred e) in
          subst (λ (rs : List RuleCode). RulesAt t arguments (pred_number numbers pred) rs) (sym (ap codes_of e)) none
      by (Some rules) e =
          let there : RulesLie t.p code numbers (slice_get (pred_starts first code.preds) pred) rules = rules_lie t.p code numbers first code.preds pred rules e rules_all_lie in
          let these : rules_at code pred ≡ rules = ap codes_of e in
          let number : pred_number numbers pred ≡ first_rule there.start rules = ap (number_or NONE) there.told_is in
          let stand : RulesAt t arguments (first_rule there.start rules) rules =
          rules_stand arguments there.start rules short there.lie (rules_fit_at code code.preds pred rules e fits.1) (subst (AllEnterWith arguments code) these enters) in
          subst (RulesAt t arguments (pred_number numbers pred)) (sym these) (subst (λ (n : ℕ). RulesAt t arguments n rules) (sym number) stand)

  all_found : FindsAll t code numbers.find
  all_found = record { depth = 14; few = omega arith; finds = bodies_found t numbers to_block (behind_blocks first code) code.closures fits.2 few bodies_all_lie }

  -- ## Instructions

  goes : (routine : ℕ → Routine) (n : ℕ) (ops : List Op) → t.p.routine_at (at n) ≡ Some (routine (first_of (n + 1) ops)) → OpsAt t code (at (first_of (n + 1) ops)) ops → GoesOn (λ y. OpsAt t code y ops) t (at n) routine
  goes routine n ops is next = record { behind = first_of (n + 1) ops; is = is; next = next }

  opens : (routine : ℕ → ℕ → Routine) (alt n : ℕ) (ops : List Op) → t.p.routine_at (at n) ≡ Some (routine (block_number numbers alt) (first_of (n + 1) ops)) → OpsAt t code (at (first_of (n + 1) ops)) ops →
      Opens (λ y. OpsAt t code y ops) t (at n) routine alt
  opens routine alt n ops is next = record { alt = block_number numbers alt; alt_is = to_block alt; goes = goes (routine (block_number numbers alt)) n ops is next }

  writes : (ts : List Term) (routine : ℕ → Routine) (n : ℕ) (ops : List Op) → t.p.routine_at (at n) ≡ Some (routine (first_of (n + 1) ops)) → OpsAt t code (at (first_of (n + 1) ops)) ops →
      AreNodes t.program (nodes_of ts) → Writes (λ y. OpsAt t code y ops) t (at n) ts routine
  writes ts routine n ops is next nodes = record { goes = goes routine n ops is next; nodes = nodes }

  selects : (n site : ℕ) (mode : Mode) (blocks : List ℕ) (next : ℕ) → t.p.routine_at (at n) ≡ Some (select_routine (site_address t.program numbers.sites site) mode (map (block_number numbers) blocks) (block_number numbers next)) →
      Contains (sites_of code.blocks) (select_of site mode blocks) → SelectsAt t (at n) site mode blocks next
  selects n site mode blocks next is known =
      let here = subst (λ (l : List Site). Contains l (select_of site mode blocks)) (sym laid.sites) known in
      let place = site_placed t.sites (select_of site mode blocks) here in
      let few_places = place.few in
      let long = numbers_long t.sites in
      let near = laid.has_sites.near in
      let address = at_cell (site_at t.program (numbers_of t.sites) site) in
      let same : site_address t.program numbers.sites site ≡ address = ap (λ (l : List Site). site_address t.program (numbers_of l) site) (sym laid.sites) ∙ (let small : address % 65536 ≡ address = omega arith in small) in
      let branches = map (block_number numbers) blocks in
      record {
        branches = branches;
        other = block_number numbers next;
        is = is ∙ ap (λ (x : ℕ). Some (select_routine x mode branches (block_number numbers next))) same;
        all = length-map blocks (block_number numbers);
        each = λ i. ap at (get_or-map (block_number numbers) blocks i next) ∙ to_block (get_or blocks i next);
        known = here;
        sites = laid.has_sites;
      }

  -- A query with terms has two routines.
  behind_two : (n : ℕ) (known tried : Routine) (ops : List Op) → LieAt t.p n (known ∷ tried ∷ ops_routines t.program numbers (n + 2) ops) → LieAt t.p (n + 2) (ops_routines t.program numbers (n + 2) ops)
  behind_two n known tried ops lie = lie_behind t.p n 2 (known ∷ tried ∷ []) (ops_routines t.program numbers (n + 2) ops) refl lie

  by_kind : (k : Option PlaceKind) (pl : ℕ) (ts : List Term) (behind tries : ℕ) (s : Sought) → sought_by pl k ≡ Some s → query_of t.program k (Some pl) ts behind tries ≡ find_of t.program (sought_at t.program (Some pl)) ts behind tries
  by_kind None pl ts behind tries s e = refl
  by_kind (Some Flag) pl ts behind tries s e = refl
  by_kind (Some ObjectFlag) pl ts behind tries s e = refl
  by_kind (Some ObjectVar) pl ts behind tries s e = refl
  by_kind (Some Parent) pl ts behind tries s e = refl
  by_kind (Some Global) pl ts behind tries s e = absurd (cc)

  of_sought : (place : Option ℕ) (ts : List Term) (behind tries : ℕ) (s : Sought) → sought_at t.program place ≡ Some s → query_of t.program (kind_at t.program place) place ts behind tries ≡ find_of t.program (Some s) ts behind tries
  of_sought None ts behind tries s e = ap (λ (o : Option Sought). find_of t.program o ts behind tries) e
  of_sought (Some pl) ts behind tries s e = by_kind (slice_get (kinds_of t.program) pl) pl ts behind tries s e ∙ ap (λ (o : Option Sought). find_of t.program o ts behind tries) e

  abbrev Queried : ℕ → Option ℕ → List Term → Bool → ℕ → List Op → Type 0
  Queried n place ts many next ops =
      LieAt t.p n (query_of t.program (kind_at t.program place) place ts (first_of (n + 2) ops) (n + 1) ∷ tries_for t.program (sought_at t.program place) (first_label ts) many (block_number numbers next) ∷ ops_routines t.program numbers (n + 2) ops)

  objects : (n : ℕ) (place : Option ℕ) (ts : List Term) (many : Bool) (next : ℕ) (ops : List Op) → Queried n place ts many next ops → OpsAt t code (at (first_of (n + 2) ops)) ops → FindFits t.program place (length ts) → AreNodes t.program (nodes_of ts) →
      FindsObjects (λ y. OpsAt t code y ops) t (at n) place ts many next
  objects n place ts many next ops lie there f nodes =
      let behind : ℕ = first_of (n + 2) ops in
      let known : Routine = query_of t.program (kind_at t.program place) place ts behind (n + 1) in
      let tried : Option Sought → Option Label → Routine = λ s k. tries_for t.program s k many (block_number numbers next) in
      let rest : List Routine = ops_routines t.program numbers (n + 2) ops in
      let own : Routine = tried (sought_at t.program place) (first_label ts) in
      let two : LieAt t.p (n + 1) (own ∷ rest) = lie_behind t.p n 1 (known ∷ []) (own ∷ rest) refl lie in
      record {
        sought = f.sought;
        sought_is = f.sought_is;
        fits = f.fits;
        world = world;
        block = block_number numbers next;
        block_is = to_block next;
        tries = n + 1;
        tries_is = λ first. two.0 ∙ ap (λ (s : Option Sought). Some (tried s (first_label ts))) f.sought_is ∙ ap (λ (k : Option Label). Some (tried (Some f.sought) k)) first;
        writes = record {
          goes = record { behind = behind; is = lie.0 ∙ ap (λ (r : Routine). Some r) (of_sought place ts behind (n + 1) f.sought f.sought_is); next = there };
          nodes = nodes;
        };
      }

  global : (n place : ℕ) (a : Term) (many : Bool) (next : ℕ) (ops : List Op) → Queried n (Some place) (a ∷ []) many next ops → OpsAt t code (at (first_of (n + 2) ops)) ops → GlobalFits t.program (Some place) 1 → AreNodes t.program (nodes_of (a ∷ [])) →
      FindsGlobal (λ y. OpsAt t code y ops) t (at n) place a
  global n place a many next ops lie there g nodes =
      let behind : ℕ = first_of (n + 2) ops in
      let same : Some place ≡ Some g.at = g.place_is in
      let is : slice_get (kinds_of t.program) place ≡ Some Global = (let q : place ≡ g.at = cc in ap (λ (i : ℕ). slice_get (kinds_of t.program) i) q ∙ g.kind_is) in
      record {
        kind_is = is;
        world = world;
        captures = laid.told;
        writes = record {
          goes = record { behind = behind; is = lie.0 ∙ ap (λ (k : Option PlaceKind). Some (query_of t.program k (Some place) (a ∷ []) behind (n + 1))) is; next = there };
          nodes = nodes;
        };
      }

  ops_stand : (n : ℕ) (ops : List Op) → LieAt t.p n (ops_routines t.program numbers n ops) → OpsReach code ops → OpsFit t.program ops →
      OpsAt t code (at (first_of n ops)) ops
  ops_stand n [] lie calls fit = tt
  ops_stand n (op.Do action.Just ∷ ops) lie calls fit = goes just_routine n ops lie.0 (ops_stand (n + 1) ops lie.1 calls.1 fit.1)
  ops_stand n (op.Do action.Fail ∷ ops) lie calls fit = lie.0
  ops_stand n (op.Do action.Stop ∷ ops) lie calls fit = refl
  ops_stand n (op.Do action.Quit ∷ ops) lie calls fit = lie.0
  ops_stand n (op.Do (action.Text text) ∷ ops) lie calls fit =
      let is : t.p.routine_at (at n) ≡ Some (text_routine fit.0.characters (first_of (n + 1) ops)) = lie.0 ∙ ap (λ (cs : List ℕ). Some (text_routine cs (first_of (n + 1) ops))) (name_chars text fit.0) in
      record { name = fit.0; goes = goes (text_routine fit.0.characters) n ops is (ops_stand (n + 1) ops lie.1 calls.1 fit.1) }
  ops_stand n (op.Do (action.Gap kind) ∷ ops) lie calls fit = goes (gap_routine kind) n ops lie.0 (ops_stand (n + 1) ops lie.1 calls.1 fit.1)
  ops_stand n (op.Do (action.GapN a) ∷ ops) lie calls fit = record { goes = goes (gap_n_routine t.program a) n ops lie.0 (ops_stand (n + 1) ops lie.1 calls.1 fit.1); nodes = fit.0.1 }
  ops_stand n (op.Do (action.Equal a b) ∷ ops) lie calls fit = record { goes = goes (equal_routine t.program a b) n ops lie.0 (ops_stand (n + 1) ops lie.1 calls.1 fit.1); nodes = fit.0.1 }
  ops_stand n (op.Do (action.Test kind a) ∷ ops) lie calls fit = writes (a ∷ []) (test_routine t.program kind a) n ops lie.0 (ops_stand (n + 1) ops lie.1 calls.1 fit.1) fit.0.1
  ops_stand n (op.Do (action.Compare f a b) ∷ ops) lie calls fit = writes (a ∷ b ∷ []) (compare_routine t.program f a b) n ops lie.0 (ops_stand (n + 1) ops lie.1 calls.1 fit.1) fit.0.1
  ops_stand n (op.Do (action.Arith f a b c) ∷ ops) lie calls fit = writes (a ∷ b ∷ c ∷ []) (arith_routine t.program f a b c) n ops lie.0 (ops_stand (n + 1) ops lie.1 calls.1 fit.1) fit.0.1
  ops_stand n (op.Do (action.Random a b c) ∷ ops) lie calls fit = writes (a ∷ b ∷ c ∷ []) (random_routine t.program a b c) n ops lie.0 (ops_stand (n + 1) ops lie.1 calls.1 fit.1) fit.0.1
  ops_stand n (op.Do (action.Now place args sets) ∷ ops) lie calls fit =
      let f : ChangeFits t.program place (length args) = fit.0.1 in
      let behind : ℕ = first_of (n + 1) ops in
      let is : t.p.routine_at (at n) ≡ Some (now_routine t.program f.kind place args sets behind) = lie.0 ∙ ap (λ (k : Option PlaceKind). Some (change_routine t.program place k args sets behind)) f.kind_is in
      record { kind = f.kind; kind_is = f.kind_is; fits = f.fits; world = world; writes = writes args (now_routine t.program f.kind place args sets) n ops is (ops_stand (n + 1) ops lie.1 calls.1 fit.1) fit.0.0.1 }
  ops_stand n (op.Do (action.Input a) ∷ ops) lie calls fit = record { goes = goes (input_routine t.program a) n ops lie.0 (ops_stand (n + 1) ops lie.1 calls.1 fit.1); nodes = fit.0.1; tables = tables }
  ops_stand n (op.Do (action.SplitWord a b) ∷ ops) lie calls fit = record {
    writes = writes (a ∷ b ∷ []) (split_routine t.program a b) n ops lie.0 (ops_stand (n + 1) ops lie.1 calls.1 fit.1) fit.0.1;
    tables = tables;
  }
  ops_stand n (op.Do (action.JoinWords a b) ∷ ops) lie calls fit = record {
    writes = writes (a ∷ b ∷ []) (join_routine t.program a b) n ops lie.0 (ops_stand (n + 1) ops lie.1 calls.1 fit.1) fit.0.1;
    tables = tables;
  }
  ops_stand n (op.Do (action.Print a) ∷ ops) lie calls fit = record {
    words = SPELL;
    objects = numbers.objects;
    goes = goes (print_routine t.program a SPELL numbers.objects) n ops lie.0 (ops_stand (n + 1) ops lie.1 calls.1 fit.1);
    nodes = fit.0.1;
    spells = all_spelled;
  }
  ops_stand n (op.Find (Some place) [] many next ∷ ops) lie calls fit =
      record { kind_is = (fit.0).kind_is; world = world; goes = goes (holds_routine t.program place) n ops lie.0 (ops_stand (n + 1) ops lie.1 calls.1 fit.1) }
  ops_stand n (op.Find None (a ∷ ts) many next ∷ ops) lie calls fit =
      ⊎_elim (λ f. objects n None (a ∷ ts) many next ops lie (ops_stand (n + 2) ops (behind_two n _ _ ops lie) calls.1 fit.1) f fit.0.0.1)
      (λ g. absurd (let none = g.place_is in cc)) fit.0.2
  ops_stand n (op.Find (Some place) (a ∷ []) many next ∷ ops) lie calls fit =
      let there = ops_stand (n + 2) ops (behind_two n _ _ ops lie) calls.1 fit.1 in
      ⊎_elim (λ f. inl (objects n (Some place) (a ∷ []) many next ops lie there f fit.0.0.1)) (λ g. inr (global n place a many next ops lie there g fit.0.0.1)) fit.0.2
  ops_stand n (op.Find (Some place) (a ∷ b ∷ ts) many next ∷ ops) lie calls fit =
      ⊎_elim (λ f. objects n (Some place) (a ∷ b ∷ ts) many next ops lie (ops_stand (n + 2) ops (behind_two n _ _ ops lie) calls.1 fit.1) f fit.0.0.1)
      (λ g. absurd (let one = g.fits in omega arith)) fit.0.2
  ops_stand n (op.Ask pred terms many next ∷ ops) lie calls fit = record {
    behind = block_number numbers next;
    number = pred_number numbers pred;
    is = lie.0;
    goes = to_block next;
    rules = rules_from (length terms) pred fit.0.0 calls.0;
    nodes = fit.0.1;
  }
  ops_stand n (op.LastAsk pred terms many ∷ ops) lie calls fit = record {
    end = block_number numbers 0;
    number = pred_number numbers pred;
    is = lie.0;
    end_is = to_block 0;
    rules = rules_from (length terms) pred fit.0.0 calls.0;
    nodes = fit.0.1;
  }
  ops_stand n (op.Query a b many next ∷ ops) lie calls fit =
      record { behind = block_number numbers next; find = numbers.find; is = lie.0; goes = to_block next; all = all_found; nodes = fit.0.1 }
  ops_stand n (op.LastQuery a b many ∷ ops) lie calls fit =
      record { end = block_number numbers 0; find = numbers.find; is = lie.0; end_is = to_block 0; all = all_found; nodes = fit.0.1 }
  ops_stand n (op.Select site mode blocks next ∷ ops) lie calls fit = selects n site mode blocks next lie.0 calls.0
  ops_stand n (op.Take ∷ ops) lie calls fit = goes goto_routine n ops lie.0 (ops_stand (n + 1) ops lie.1 calls.1 fit.1)
  ops_stand n (op.Branch alt ∷ ops) lie calls fit = opens branch_routine alt n ops lie.0 (ops_stand (n + 1) ops lie.1 calls.1 fit.1)
  ops_stand n (op.Once ∷ ops) lie calls fit = goes once_routine n ops lie.0 (ops_stand (n + 1) ops lie.1 calls.1 fit.1)
  ops_stand n (op.Try alt ∷ ops) lie calls fit = opens try_routine alt n ops lie.0 (ops_stand (n + 1) ops lie.1 calls.1 fit.1)
  ops_stand n (op.Shield alt ∷ ops) lie calls fit = opens shield_routine alt n ops lie.0 (ops_stand (n + 1) ops lie.1 calls.1 fit.1)
  ops_stand n (op.Retry alt ∷ ops) lie calls fit = opens branch_routine alt n ops lie.0 (ops_stand (n + 1) ops lie.1 calls.1 fit.1)
  ops_stand n (op.Collect a b alt ∷ ops) lie calls fit =
      record { alt = block_number numbers alt; alt_is = to_block alt; goes = goes (collect_routine t.program a b (block_number numbers alt)) n ops lie.0 (ops_stand (n + 1) ops lie.1 calls.1 fit.1); nodes = fit.0.1 }
  ops_stand n (op.TakeOut whole into ∷ ops) lie calls fit = record { goes = goes (take_routine whole) n ops lie.0 (ops_stand (n + 1) ops lie.1 calls.1 fit.1); told = laid.told }
  ops_stand n (op.Keep a ∷ ops) lie calls fit = refl
  ops_stand n (op.Commit ∷ ops) lie calls fit = goes commit_routine n ops lie.0 (ops_stand (n + 1) ops lie.1 calls.1 fit.1)
  ops_stand n (op.Refuse ∷ ops) lie calls fit = lie.0
  ops_stand n (op.Leave ∷ ops) lie calls fit = goes leave_routine n ops lie.0 (ops_stand (n + 1) ops lie.1 calls.1 fit.1)
  ops_stand n (op.Back ∷ ops) lie calls fit = lie.0
  ops_stand n (op.Return ∷ ops) lie calls fit = refl
  ops_stand n (op.Goto b ∷ ops) lie calls fit = record { next = block_number numbers b; is = lie.0; next_is = to_block b }
  ops_stand n (op.Enter vars head ∷ ops) lie calls fit =
      record { goes = goes (enter_routine t.program vars head) n ops lie.0 (ops_stand (n + 1) ops lie.1 calls.1 fit.1); few_vars = calls.0; short = fit.0.0; nodes = fit.0.1 }
  ops_stand n (op.Done ∷ ops) lie calls fit = lie.0
  ops_stand n (op.Find None [] many next ∷ ops) lie calls fit = absurd fit.0

  -- ## Blocks

  blocks_fit_at : (blocks : List Block) (b : ℕ) (block : Block) → slice_get blocks b ≡ Some block → BlocksFit t.program blocks → OpsFit t.program block.ops
  blocks_fit_at [] b block e h = absurd (cc)
  blocks_fit_at (x ∷ blocks) zero block e h = let same : x ≡ block = cc in subst (λ (y : Block). OpsFit t.program y.ops) same h.0
  blocks_fit_at (x ∷ blocks) (suc b) block e h = blocks_fit_at blocks b block e h.1

  each_stands : (b : ℕ) (o : Option Block) → slice_get code.blocks b ≡ o → OpsAt t code (t.at_block b) (block_at code b)
  each_stands b None e = subst (OpsAt t code (t.at_block b)) (sym (ap ops_of e)) tt
  each_stands b (Some block) e =
      let there : OpsLie t.p t.program numbers (slice_get (block_starts (first + rules_count code.preds) code.blocks) b) block.ops =
      ops_lie t.p t.program numbers (first + rules_count code.preds) code.blocks b block e blocks_all_lie in
      let these : block_at code b ≡ block.ops = ap ops_of e in
      let number : block_number numbers b ≡ first_of there.start block.ops = ap (number_or FAIL) there.told_is in
      let stand : OpsAt t code (at (first_of there.start block.ops)) block.ops =
      ops_stand there.start block.ops there.lie (ops_reach code block.ops (block_sites code.blocks b block e) (subst (OpsCall code) these (suits b))) (blocks_fit_at code.blocks b block e fits.0) in
      subst (OpsAt t code (t.at_block b)) (sym these) (subst (λ (x : ℕ). OpsAt t code x block.ops) (sym (laid.blocks b ∙ ap at number)) stand)

  -- ## Addresses

  -- where a routine stands isn't 0
  stands_some : (x : ℕ) (r : Routine) → t.p.routine_at x ≡ Some r → x ≢ 0
  stands_some x r e = let s : StandsAt t.p t.story x r = plays.stands.each x r e in s.some

  of_run_time : (k : ℕ) (r : Routine) → slice_get runtime k ≡ Some r → at (WALK + k) ≢ 0
  of_run_time k r e = stands_some (at (WALK + k)) r (plays.has.each k r e)

  first_some : (n : ℕ) (ops : List Op) → LieAt t.p n (ops_routines t.program numbers n ops) → at (first_of n ops) ≢ 0
  first_some n [] lie = stands_some (at n) _ lie.0
  first_some n (op.Return ∷ ops) lie = of_run_time (LEAVE - WALK) _ refl
  first_some n (op.Do action.Stop ∷ ops) lie = of_run_time (UNSTOP - WALK) _ refl
  first_some n (op.Keep a ∷ ops) lie = of_run_time (KEEP_VALUE - WALK) _ refl
  first_some n (op.Find place [] many next ∷ ops) lie = stands_some (at n) _ lie.0
  first_some n (op.Find place (a ∷ ts) many next ∷ ops) lie = stands_some (at n) _ lie.0
  first_some n (x ∷ ops) lie = stands_some (at n) _ lie.0

  block_some : (b : ℕ) (o : Option Block) → slice_get code.blocks b ≡ o → t.at_block b ≢ 0
  block_some b None e =
      let number : block_number numbers b ≡ FAIL = ap (number_or FAIL) (no_block (first + rules_count code.preds) code.blocks b e) in
      subst (λ (x : ℕ). x ≢ 0) (sym (laid.blocks b ∙ ap at number)) (of_run_time (FAIL - WALK) _ refl)
  block_some b (Some block) e =
      let there : OpsLie t.p t.program numbers (slice_get (block_starts (first + rules_count code.preds) code.blocks) b) block.ops =
      ops_lie t.p t.program numbers (first + rules_count code.preds) code.blocks b block e blocks_all_lie in
      let number : block_number numbers b ≡ first_of there.start block.ops = ap (number_or FAIL) there.told_is in
      subst (λ (x : ℕ). x ≢ 0) (sym (laid.blocks b ∙ ap at number)) (first_some there.start block.ops there.lie)

pub blocks_stand : BlocksStand
blocks_stand t plays world tables words first code laid fits suits few keys = record {
  world = world;
  each = λ b. each_stands t plays world tables words first code laid fits suits few b (slice_get code.blocks b) refl;
  some = λ b. block_some t plays world tables words first code laid fits suits few b (slice_get code.blocks b) refl;
  few = keys;
}
