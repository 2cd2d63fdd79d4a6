-- Each closure of a source stands in one term at most.
use Rattle.std.proofs.Common.{◌≡◌, ◌≤◌, ℕ, List, [], ◌∷◌, ◌++◌, Bool, true, false, Result, Ok, refl, sym, subst, arith}
use Rattle.std.specs.Prelude.{if◌then◌else◌}
use Rattle.dg_base.specs.Mentions.{mentioned, names_in}
use Rattle.dg_base.specs.Names.{prelude_names}
use Rattle.dg_base.specs.Tree.{Item}
use Rattle.dg_base.specs.declared.program.CoreProgram.{CoreProgram as Core}
use Rattle.dg_base.specs.declared.refusal.Refusal.{Refusal}
use Rattle.dg_names.specs.Named.{firsts, predicate_in}
use Rattle.dg_core.specs.Core.{outer_scope, behind_rules, entry_name}
use Rattle.dg_core.specs.Places.{is_among, place_names}
use Rattle.dg_compile.specs.Source.{Then, refused, given, all_names, with_prelude, Compiles}
use Rattle.dg_fits.specs.Once.{StandOnce}
use Rattle.dg_lower.specs.Lowered.{core_of, with_entry}
use Rattle.dg_once.proofs.Preds.{times, once, once_more, preds_few, rows_few}
use Rattle.dg_once.proofs.Starts.{places_none}

-- each predicate stands once, that of the entry too
names_once : (source : List Item) (name : List ℕ) → times name (with_entry (all_names source)).preds ≤ 1
names_once source name = by_test (is_among entry_name (all_names source).preds) refl
  where
    own : List (List ℕ)
    own = names_in predicate_in (mentioned source) ++ prelude_names

    by_test : (b : Bool) → is_among entry_name (firsts own) ≡ b → times name (if b then firsts own else firsts own ++ entry_name ∷ []) ≤ 1
    by_test true q = once name own
    by_test false q = once_more name entry_name (firsts own) q (once name own)

core_once : (source items : List Item) → StandOnce (core_of (with_entry (all_names source)) items)
core_once source items =
    let names = with_entry (all_names source) in
    let around = outer_scope names items in
    omega (
      arith,
      preds_few around items (place_names items) names.preds (names_once source),
      rows_few around (behind_rules items) items,
      places_none names items (place_names items),
    )

-- an answer behind a step that gave something
record Gave {A B : Type 0} (P : Result A Refusal → Type 0) (Q : A → Result B Refusal → Type 0) (b : B) : Type 0 where
  from : A
  is : P (Ok from)
  next : Q from (Ok b)

gave : {A B : Type 0} (P : Result A Refusal → Type 0) (Q : A → Result B Refusal → Type 0) (b : B) → Then P Q (Ok b) → Gave P Q b
gave P Q b (refused r h e) = absurd (cc e)
gave P Q b (given a h k) = record { from = a; is = h; next = k }

pub compiled_once : (source : List ℕ) (p : Core) → Compiles source (Ok p) → StandOnce p
compiled_once source p h =
    let tokens = gave _ _ p h in
    let items = gave _ _ p tokens.next in
    let named = gave _ _ p items.next in
    let rewritten = gave _ _ p named.next in
    subst StandOnce (sym (rewritten.next).3) (core_once items.from (with_prelude rewritten.from))
