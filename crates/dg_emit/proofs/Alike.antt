-- Routines depend on a program by its outline.
use Rattle.std.proofs.Common.{⊎_elim, inl, inr, ◌≡◌, ◌≤◌, ◌<◌, ℕ, zero, suc, ◌+◌, ◌*◌, Bool, List, [], ◌∷◌, ◌++◌, length, map, Option, Some, None, refl, sym, ap, ◌∙◌, subst}
use Rattle.std.specs.List.{All, slice_get, sum_by}
use Rattle.dg_base.specs.Sound.{IsName}
use Rattle.std.proofs.Math.Path.{fun_ext}
use Rattle.dg_base.specs.declared.program.ClosureBody.{ClosureBody}
use Rattle.dg_base.specs.declared.program.CoreProgram.{CoreProgram}
use Rattle.dg_base.specs.declared.program.PlaceKind.{PlaceKind}
use Rattle.dg_base.specs.declared.program.PlaceKind.TheVariants.{Flag, ObjectFlag, ObjectVar, Parent, Global}
use Rattle.dg_base.specs.declared.program.Term.{Term, out-Term}
use Rattle.dg_base.specs.declared.program.Term.TheOpen as term
use Rattle.dg_base.specs.Goals.{option_terms}
use Rattle.dg_meaning.specs.Cells.{captured_count, node_cells, nodes_of, cells}
use Rattle.dg_meaning.specs.Facts.{kinds_of}
use Rattle.dg_meaning.specs.Values.{Label}
use Rattle.dg_mid.specs.Code.{first_label}
use Rattle.dg_mid.specs.declared.code.Action.TheVariants as action
use Rattle.dg_mid.specs.declared.code.Block.{Block}
use Rattle.dg_mid.specs.declared.code.Code.{Code}
use Rattle.dg_mid.specs.declared.code.Op.{Op}
use Rattle.dg_mid.specs.declared.code.Op.TheVariants as op
use Rattle.z_lang.specs.declared.act.Act.{Act}
use Rattle.z_lang.specs.declared.act.Act.TheVariants as acts
use Rattle.z_lang.specs.declared.act.Args.{Args}
use Rattle.z_lang.specs.declared.act.Args.TheVariants as args
use Rattle.z_lang.specs.declared.act.Atom.TheVariants as atoms
use Rattle.z_lang.specs.declared.act.Routine.{Routine}
use Rattle.dg_rt.specs.declared.numbers.TheConstants.{ENTER}
use Rattle.dg_rt.specs.declared.registers.TheConstants.{ARGS}
use Rattle.dg_rt.specs.RunTime.{routine_of}
use Rattle.dg_turn.specs.Told.{count_told}
use Rattle.dg_turn.specs.Terms.{word_act, words_acts, captured_of, closure_acts, node_acts, nodes_acts, capped, terms_acts, AreCaptured, IsNode, AreNodes}
use Rattle.dg_turn.specs.Turns.{HEAD, matchers, unifying_acts, last_acts, head_acts}
use Rattle.dg_turn.specs.Bodies.{CALLED}
use Rattle.dg_turn.specs.Operating.{deciding_routine}
use Rattle.dg_turn.specs.World.{world_at, all_words, all_bytes, changer, changer_args}
use Rattle.dg_turn.specs.Names.{objects_routines}
use Rattle.dg_emit.specs.declared.numbers.Numbers.{Numbers}
use Rattle.dg_emit.specs.Numbers.{routines_of_op, first_of, rules_count, behind_blocks, number_behind, numbers_from, block_number, routines_of_ops}
use Rattle.dg_emit.specs.Code.{op_routine, op_routines, ops_routines, blocks_routines, preds_routines, code_routines, TermsFit, OpFits, OpsFit, BlocksFit}
use Rattle.dg_emit.specs.Bodies.{bodies_routines}
use Rattle.dg_turn.specs.Tries.{Sought, AnyObject, Flagged, Valued, sought_by, sought_at, tries_by}
use Rattle.dg_emit.specs.Finds.{find_of, kind_at, query_of, tries_of, tries_for, FindFits, QueryFits}
use Rattle.dg_emit.specs.World.{change_routine, WorldFits, ChangeFits, FlagFits}
use Rattle.dg_emit.specs.Outline.{SameOutline, RoutinesAlike}

-- ## Lists of closures

both_same : (ps qs : List ClosureBody) → map (λ (c : ClosureBody). c.captured) ps ≡ map (λ (c : ClosureBody). c.captured) qs → (n : ℕ) → (captured_of (slice_get ps n) ≡ captured_of (slice_get qs n)) × (count_told (slice_get ps n) ≡ count_told (slice_get qs n))
both_same ps qs e n = (by_list ps n ∙ ap (λ (l : List (List ℕ)). got (slice_get l n)) e ∙ sym (by_list qs n), by_count ps n ∙ ap (λ (l : List (List ℕ)). many (slice_get l n)) e ∙ sym (by_count qs n))
  where
    got : Option (List ℕ) → List ℕ
    got None = []
    got (Some vs) = vs

    many : Option (List ℕ) → ℕ
    many None = 256
    many (Some vs) = length vs

    by_list : (cs : List ClosureBody) (k : ℕ) → captured_of (slice_get cs k) ≡ got (slice_get (map (λ (c : ClosureBody). c.captured) cs) k)
    by_list [] k = refl
    by_list (c ∷ cs) zero = refl
    by_list (c ∷ cs) (suc k) = by_list cs k

    by_count : (cs : List ClosureBody) (k : ℕ) → count_told (slice_get cs k) ≡ many (slice_get (map (λ (c : ClosureBody). c.captured) cs) k)
    by_count [] k = refl
    by_count (c ∷ cs) zero = refl
    by_count (c ∷ cs) (suc k) = by_count cs k

pub same_captures : (ps qs : List ClosureBody) → map (λ (c : ClosureBody). c.captured) ps ≡ map (λ (c : ClosureBody). c.captured) qs → (n : ℕ) → captured_of (slice_get ps n) ≡ captured_of (slice_get qs n)
same_captures ps qs e n = (both_same ps qs e n).0

pub same_told : (ps qs : List ClosureBody) → map (λ (c : ClosureBody). c.captured) ps ≡ map (λ (c : ClosureBody). c.captured) qs → (n : ℕ) → count_told (slice_get ps n) ≡ count_told (slice_get qs n)
same_told ps qs e n = (both_same ps qs e n).1

count_is : (o : Option ClosureBody) → captured_count o ≡ length (captured_of o)
count_is None = refl
count_is (Some c) = refl

module _ (p q : CoreProgram) (same : SameOutline p q) where
  -- ## Cells

  many_same : length p.objects ≡ length q.objects
  many_same = ap (λ (names : List (List ℕ)). length names) same.objects

  captured_same : (c : ℕ) → captured_count (slice_get p.closures c) ≡ captured_count (slice_get q.closures c)
  captured_same c = count_is (slice_get p.closures c) ∙ ap (λ (l : List ℕ). length l) (same.captures c) ∙ sym (count_is (slice_get q.closures c))

  node_same : (x : term.Term-F Term) → node_cells p x ≡ node_cells q x
  node_same (term.Pair head tail) = refl
  node_same (term.Closure c) =
      ap (λ (n : ℕ). 3 + n) (captured_same c)
  node_same (term.Num n) = refl
  node_same (term.Word n) = refl
  node_same (term.Object n) = refl
  node_same (term.Var n) = refl
  node_same term.Nil = refl

  cells_same : (ts : List Term) → cells p ts ≡ cells q ts
  cells_same ts = ap (λ (f : Term → ℕ). sum_by f (nodes_of ts)) (fun_ext (λ (x : Term). node_same (out-Term x)))

  -- ## Acts

  words_same : (v o : ℕ) (ts : List Term) → words_acts p v o ts ≡ words_acts q v o ts
  words_same v o [] = refl
  words_same v o (t ∷ ts) = ap (λ (n : ℕ). word_act v o (out-Term t) ∷ words_acts p (suc v) (o + n) ts) (cells_same (t ∷ [])) ∙ ap (λ (l : List Act). word_act v o (out-Term t) ∷ l) (words_same (suc v) (o + cells q (t ∷ [])) ts)

  node_acts_same : (o : ℕ) (x : term.Term-F Term) → node_acts p o x ≡ node_acts q o x
  node_acts_same o (term.Pair head tail) = rw (cells_same (head ∷ [])) refl
  node_acts_same o (term.Closure c) = ap (closure_acts o c) (same.captures c)
  node_acts_same o (term.Num n) = refl
  node_acts_same o (term.Word n) = refl
  node_acts_same o (term.Object n) = refl
  node_acts_same o (term.Var n) = refl
  node_acts_same o term.Nil = refl

  nodes_same : (o : ℕ) (xs : List Term) → nodes_acts p o xs ≡ nodes_acts q o xs
  nodes_same o [] = refl
  nodes_same o (x ∷ xs) =
      ap (λ (l : List Act). l ++ nodes_acts p (o + node_cells p (out-Term x)) xs) (node_acts_same o (out-Term x))
      ∙ ap (λ (n : ℕ). node_acts q o (out-Term x) ++ nodes_acts p (o + n) xs) (node_same (out-Term x))
      ∙ ap (λ (l : List Act). node_acts q o (out-Term x) ++ l) (nodes_same (o + node_cells q (out-Term x)) xs)

  terms_same : (v : ℕ) (ts : List Term) → terms_acts p v ts ≡ terms_acts q v ts
  terms_same v ts = rw (cells_same ts, nodes_same 0 (nodes_of ts), words_same v 0 ts) refl

  -- ## Routines

  place_same : (place : ℕ) (ts : List Term) (sets : Bool) (behind : ℕ) (o : Option PlaceKind) → change_routine p place o ts sets behind ≡ change_routine q place o ts sets behind
  place_same place ts sets behind None = refl
  place_same place ts sets behind (Some kind) = ap (λ (l : List Act). routine_of 0 (l ++ (acts.Call (Some 52) (atoms.Routine (changer kind sets)) (changer_args p kind place sets behind) ∷ acts.Return (atoms.Var 52) ∷ []))) (terms_same ARGS ts)
      ∙ ap (λ (given : Args). deciding_routine q ts (changer kind sets) given) (given_same kind)
    where
      given_same : (k : PlaceKind) → changer_args p k place sets behind ≡ changer_args q k place sets behind
      given_same Flag = rw (same.kinds, many_same) refl
      given_same ObjectFlag = rw (same.kinds, many_same) refl
      given_same ObjectVar = rw (same.kinds, many_same) refl
      given_same Parent = rw (same.kinds, many_same) refl
      given_same Global = rw (same.kinds, many_same) refl

  change_same : (place : ℕ) (ts : List Term) (sets : Bool) (behind : ℕ) → change_routine p place (slice_get (kinds_of p) place) ts sets behind ≡ change_routine q place (slice_get (kinds_of q) place) ts sets behind
  change_same place ts sets behind =
      place_same place ts sets behind (slice_get (kinds_of p) place) ∙ ap (λ (l : List PlaceKind). change_routine q place (slice_get l place) ts sets behind) same.kinds

  op_same : (numbers : Numbers) (behind : ℕ) (x : Op) → op_routine p numbers behind x ≡ op_routine q numbers behind x
  op_same numbers behind (op.Do action.Just) = refl
  op_same numbers behind (op.Do (action.GapN a)) = rw (terms_same ARGS (a ∷ [])) refl
  op_same numbers behind (op.Do (action.Test kind a)) = rw (terms_same ARGS (a ∷ [])) refl
  op_same numbers behind (op.Do (action.Compare f a b)) = rw (terms_same ARGS (a ∷ b ∷ [])) refl
  op_same numbers behind (op.Do (action.Arith f a b c)) = rw (terms_same ARGS (a ∷ b ∷ c ∷ [])) refl
  op_same numbers behind (op.Do (action.Random a b c)) = rw (terms_same ARGS (a ∷ b ∷ c ∷ [])) refl
  op_same numbers behind (op.Do (action.Equal a b)) = rw (terms_same ARGS (a ∷ b ∷ [])) refl
  op_same numbers behind (op.Do (action.Now place args sets)) = change_same place args sets behind
  op_same numbers behind (op.Do (action.Input a)) = rw (terms_same ARGS (a ∷ [])) refl
  op_same numbers behind (op.Do (action.SplitWord a b)) = rw (terms_same ARGS (a ∷ b ∷ [])) refl
  op_same numbers behind (op.Do (action.JoinWords a b)) = rw (terms_same ARGS (a ∷ b ∷ [])) refl
  op_same numbers behind (op.Do (action.Print a)) = rw (terms_same ARGS (a ∷ [])) refl
  op_same numbers behind (op.Do other) = refl
  op_same numbers behind (op.Find (Some place) [] many next) = rw (same.kinds, many_same) refl
  op_same numbers behind (op.Select site mode blocks next) = rw (same.kinds, many_same) refl
  op_same numbers behind (op.Ask pred terms many next) = rw (terms_same ARGS terms) refl
  op_same numbers behind (op.LastAsk pred terms many) = rw (terms_same ARGS terms) refl
  op_same numbers behind (op.Query a b many next) = rw (terms_same CALLED (a ∷ option_terms b)) refl
  op_same numbers behind (op.LastQuery a b many) = rw (terms_same CALLED (a ∷ option_terms b)) refl
  op_same numbers behind (op.Collect a b alt) = rw (terms_same ARGS (a ∷ b ∷ [])) refl
  op_same numbers behind (op.Enter vars head) =
      ap (λ (n : ℕ). routine_of 0 (acts.Call None (atoms.Routine ENTER) (args.Two (atoms.Num vars) (atoms.Num (capped n))) ∷ head_acts p head behind)) (cells_same head)
      ∙ ap (λ (l : List Act). routine_of 0 (acts.Call None (atoms.Routine ENTER) (args.Two (atoms.Num vars) (atoms.Num (capped (cells q head)))) ∷ (l ++ (unifying_acts ARGS HEAD (matchers 0 head) ++ last_acts behind)))) (terms_same HEAD head)
  op_same numbers behind other = refl

  find_same : (s : Option Sought) (ts : List Term) (behind tries : ℕ) → find_of p s ts behind tries ≡ find_of q s ts behind tries
  find_same None ts behind tries = refl
  find_same (Some AnyObject) ts behind tries = rw (terms_same ARGS ts) refl
  find_same (Some (Flagged place)) ts behind tries = rw (terms_same ARGS ts, same.kinds, many_same) refl
  find_same (Some (Valued place)) ts behind tries = rw (terms_same ARGS ts, same.kinds, many_same) refl

  tries_alike : (n : ℕ) (s : Sought) (many : Bool) (next : ℕ) → tries_by p n s many next ≡ tries_by q n s many next
  tries_alike zero s many next = refl
  tries_alike (suc n) AnyObject many next = refl
  tries_alike (suc n) (Flagged place) many next = rw (same.kinds, many_same) refl
  tries_alike (suc n) (Valued place) many next = rw (same.kinds, many_same) refl

  tries_same : (s : Option Sought) (many : Bool) (next : ℕ) → tries_of p s many next ≡ tries_of q s many next
  tries_same None many next = refl
  tries_same (Some s) many next = ap (routine_of 0) (tries_alike (length p.objects) s many next ∙ ap (λ (n : ℕ). tries_by q n s many next) many_same)

  tries_alike_for : (s : Option Sought) (k : Option Label) (many : Bool) (next : ℕ) → tries_for p s k many next ≡ tries_for q s k many next
  tries_alike_for s None many next = tries_same s many next
  tries_alike_for s (Some f) many next = refl

  sought_same : (place : Option ℕ) → sought_at p place ≡ sought_at q place
  sought_same None = refl
  sought_same (Some place) = ap (λ (l : List PlaceKind). sought_by place (slice_get l place)) same.kinds

  kinds_alike : (place : Option ℕ) → kind_at p place ≡ kind_at q place
  kinds_alike None = refl
  kinds_alike (Some place) = ap (λ (l : List PlaceKind). slice_get l place) same.kinds

  by_sought : (place : Option ℕ) (ts : List Term) (behind tries : ℕ) → find_of p (sought_at p place) ts behind tries ≡ find_of q (sought_at q place) ts behind tries
  by_sought place ts behind tries = ap (λ (s : Option Sought). find_of p s ts behind tries) (sought_same place) ∙ find_same (sought_at q place) ts behind tries

  query_same : (k : Option PlaceKind) (place : Option ℕ) (ts : List Term) (behind tries : ℕ) → query_of p k place ts behind tries ≡ query_of q k place ts behind tries
  query_same None place ts behind tries = by_sought place ts behind tries
  query_same (Some Flag) place ts behind tries = by_sought place ts behind tries
  query_same (Some ObjectFlag) place ts behind tries = by_sought place ts behind tries
  query_same (Some ObjectVar) place ts behind tries = by_sought place ts behind tries
  query_same (Some Parent) place ts behind tries = by_sought place ts behind tries
  query_same (Some Global) None ts behind tries = by_sought None ts behind tries
  query_same (Some Global) (Some place) [] behind tries = by_sought (Some place) [] behind tries
  query_same (Some Global) (Some place) (a ∷ []) behind tries = rw (terms_same ARGS (a ∷ []), same.kinds, many_same) refl
  query_same (Some Global) (Some place) (a ∷ b ∷ ts) behind tries = by_sought (Some place) (a ∷ b ∷ ts) behind tries

  own_same : (numbers : Numbers) (number behind : ℕ) (x : Op) → op_routines p numbers number behind x ≡ op_routines q numbers number behind x
  own_same numbers number behind op.Return = refl
  own_same numbers number behind (op.Do action.Stop) = refl
  own_same numbers number behind (op.Keep a) = refl
  own_same numbers number behind (op.Find place (t ∷ ts) many next) =
      let to : ℕ = block_number numbers next in
      let k : Option Label = first_label (t ∷ ts) in
      ap (λ (o : Option PlaceKind). query_of p o place (t ∷ ts) behind (number + 1) ∷ tries_for p (sought_at p place) k many to ∷ []) (kinds_alike place)
      ∙ ap (λ (r : Routine). r ∷ tries_for p (sought_at p place) k many to ∷ []) (query_same (kind_at q place) place (t ∷ ts) behind (number + 1))
      ∙ ap (λ (s : Option Sought). query_of q (kind_at q place) place (t ∷ ts) behind (number + 1) ∷ tries_for p s k many to ∷ []) (sought_same place)
      ∙ ap (λ (r : Routine). query_of q (kind_at q place) place (t ∷ ts) behind (number + 1) ∷ r ∷ []) (tries_alike_for (sought_at q place) k many to)
  own_same numbers number behind x = ap (λ (r : Routine). r ∷ []) (op_same numbers behind x)

  ops_same : (numbers : Numbers) (number : ℕ) (ops : List Op) → ops_routines p numbers number ops ≡ ops_routines q numbers number ops
  ops_same numbers number [] = refl
  ops_same numbers number (x ∷ ops) =
      let behind : ℕ = number + routines_of_op x in
      ap (λ (l : List Routine). l ++ ops_routines p numbers behind ops) (own_same numbers number (first_of behind ops) x)
      ∙ ap (λ (l : List Routine). op_routines q numbers number (first_of behind ops) x ++ l) (ops_same numbers behind ops)

  blocks_same : (numbers : Numbers) (number : ℕ) (blocks : List Block) → blocks_routines p numbers number blocks ≡ blocks_routines q numbers number blocks
  blocks_same numbers number [] = refl
  blocks_same numbers number (b ∷ blocks) =
      ap (λ (l : List Routine). l ++ blocks_routines p numbers (number + routines_of_ops b.ops) blocks) (ops_same numbers number b.ops)
      ∙ ap (λ (l : List Routine). ops_routines q numbers number b.ops ++ l) (blocks_same numbers (number + routines_of_ops b.ops) blocks)

  all_same : (first : ℕ) (code : Code) → code_routines p first code ≡ code_routines q first code
  all_same first code =
      let numbers : Numbers = numbers_from first code in
      let bodies : List Routine = bodies_routines numbers (length code.closures) (behind_blocks first code) 0 code.closures in
      let named : objects_routines (number_behind first code) p.objects ≡ objects_routines (number_behind first code) q.objects = ap (objects_routines (number_behind first code)) same.objects in
      ap (λ (l : List Routine). preds_routines code numbers first code.preds ++ (l ++ (bodies ++ objects_routines (number_behind first code) p.objects))) (blocks_same numbers (first + rules_count code.preds) code.blocks)
      ∙ ap (λ (l : List Routine). preds_routines code numbers first code.preds ++ (blocks_routines q numbers (first + rules_count code.preds) code.blocks ++ (bodies ++ l))) named

  -- ## Terms of a story

  node_fits : (x : term.Term-F Term) → IsNode p x → IsNode q x
  node_fits (term.Pair head tail) is = is
  node_fits (term.Closure c) is = (is.0, subst (λ (l : List ℕ). length l ≤ 64) (same.captures c) is.1, subst AreCaptured (same.captures c) is.2, subst (λ (n : ℕ). n < 256) (same.told c) is.3)
  node_fits (term.Num n) is = is
  node_fits (term.Word n) is = is
  node_fits (term.Object n) is = is
  node_fits (term.Var n) is = is
  node_fits term.Nil is = is

  nodes_fit : (xs : List Term) → AreNodes p xs → AreNodes q xs
  nodes_fit [] are = tt
  nodes_fit (x ∷ xs) are = (node_fits (out-Term x) are.0, nodes_fit xs are.1)

  terms_fit : (ts : List Term) → TermsFit p ts → TermsFit q ts
  terms_fit ts fits = (fits.0, nodes_fit (nodes_of ts) fits.1)

  world_fits : WorldFits p → WorldFits q
  world_fits w =
      record { few = subst (λ (n : ℕ). n ≤ 4096) many_same w.few; room = subst (λ (n : ℕ). 64 + 2 * (world_at + all_words n (kinds_of q)) + all_bytes n (kinds_of q) < 65536) many_same (subst (λ (l : List PlaceKind). 64 + 2 * (world_at + all_words (length p.objects) l) + all_bytes (length p.objects) l < 65536) same.kinds w.room) }

  kind_same : (place : ℕ) (kind : PlaceKind) → slice_get (kinds_of p) place ≡ Some kind → slice_get (kinds_of q) place ≡ Some kind
  kind_same place kind e = ap (λ (l : List PlaceKind). slice_get l place) (sym same.kinds) ∙ e

  change_fits : (place n : ℕ) → ChangeFits p place n → ChangeFits q place n
  change_fits place n f = record { kind = f.kind; kind_is = kind_same place f.kind f.kind_is; fits = f.fits; world = world_fits f.world }

  flag_fits : (place : ℕ) → FlagFits p place → FlagFits q place
  flag_fits place f = record { kind_is = kind_same place Flag f.kind_is; world = world_fits f.world }

  find_fits : (place : Option ℕ) (n : ℕ) → FindFits p place n → FindFits q place n
  find_fits place n f = record { sought = f.sought; sought_is = sym (sought_same place) ∙ f.sought_is; fits = f.fits; world = world_fits f.world }

  query_fits : (place : Option ℕ) (n : ℕ) → QueryFits p place n → QueryFits q place n
  query_fits place n h = ⊎_elim (λ f. inl (find_fits place n f)) (λ g. inr (record { at = g.at; place_is = g.place_is; kind_is = kind_same g.at Global g.kind_is; fits = g.fits })) h

  op_fits : (x : Op) → OpFits p x → OpFits q x
  op_fits (op.Do (action.Equal a b)) fits = terms_fit (a ∷ b ∷ []) fits
  op_fits (op.Do (action.Print a)) fits = terms_fit (a ∷ []) fits
  op_fits (op.Do (action.GapN a)) fits = terms_fit (a ∷ []) fits
  op_fits (op.Do (action.Test kind a)) fits = terms_fit (a ∷ []) fits
  op_fits (op.Do (action.Compare f a b)) fits = terms_fit (a ∷ b ∷ []) fits
  op_fits (op.Do (action.Arith f a b c)) fits = terms_fit (a ∷ b ∷ c ∷ []) fits
  op_fits (op.Do (action.Random a b c)) fits = terms_fit (a ∷ b ∷ c ∷ []) fits
  op_fits (op.Do (action.Now place args sets)) fits = (terms_fit args fits.0, change_fits place (length args) fits.1)
  op_fits (op.Do (action.Input a)) fits = terms_fit (a ∷ []) fits
  op_fits (op.Do (action.SplitWord a b)) fits = terms_fit (a ∷ b ∷ []) fits
  op_fits (op.Do (action.JoinWords a b)) fits = terms_fit (a ∷ b ∷ []) fits
  op_fits (op.Do other) fits = fits
  op_fits (op.Find (Some place) [] many next) fits = flag_fits place fits
  op_fits (op.Find place (t ∷ ts) many next) fits = (terms_fit (t ∷ ts) fits.0, world_fits fits.1, query_fits place (length (t ∷ ts)) fits.2)
  op_fits (op.Select site mode blocks next) fits = record { few = fits.few; world = world_fits fits.world }
  op_fits (op.Ask pred terms many next) fits = terms_fit terms fits
  op_fits (op.LastAsk pred terms many) fits = terms_fit terms fits
  op_fits (op.Query a b many next) fits = terms_fit (a ∷ option_terms b) fits
  op_fits (op.LastQuery a b many) fits = terms_fit (a ∷ option_terms b) fits
  op_fits (op.Collect a b alt) fits = terms_fit (a ∷ b ∷ []) fits
  op_fits (op.Enter vars head) fits = terms_fit head fits
  op_fits other fits = fits

  ops_fit : (ops : List Op) → OpsFit p ops → OpsFit q ops
  ops_fit [] fits = tt
  ops_fit (x ∷ ops) fits = (op_fits x fits.0, ops_fit ops fits.1)

  blocks_fit : (blocks : List Block) → BlocksFit p blocks → BlocksFit q blocks
  blocks_fit [] fits = tt
  blocks_fit (b ∷ blocks) fits = (ops_fit b.ops fits.0, blocks_fit blocks fits.1)

pub routines_alike : RoutinesAlike
routines_alike = record {
  routines = all_same;
  fits = λ p q same code fits. (blocks_fit p q same code.blocks fits.0, fits.1, fits.2, subst (λ (ns : List (List ℕ)). (length ns ≤ 4096) × All IsName ns) same.objects fits.3);
}
