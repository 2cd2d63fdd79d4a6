-- What starts set in a program that isn't refused.
use Rattle.std.proofs.Common.{◌≡◌, ℕ, ◌<◌, ◌≤◌, List, [], ◌∷◌, ◌++◌, length, Some, None, sym, ◌∙◌, subst, arith}
use Rattle.std.specs.Prelude.{All}
use Rattle.std.specs.List.{slice_get}
use Rattle.std.proofs.lemmas.List.{append-nil}
use Rattle.std.proofs.lemmas.List.Elements.{All-head}
use Rattle.dg_base.specs.declared.program.CoreProgram.{CoreProgram}
use Rattle.dg_base.specs.declared.program.PlaceKind.{PlaceKind}
use Rattle.dg_base.specs.declared.program.PlaceKind.TheVariants.{Global}
use Rattle.dg_base.specs.declared.program.Term.{Term, out-Term}
use Rattle.dg_base.specs.declared.program.Term.TheOpen as term
use Rattle.dg_base.specs.Sound.{IsNodeOf, IsTermOf, IsStartOf, IsSound}
use Rattle.dg_base.specs.Terms.{nodes}
use Rattle.dg_meaning.specs.Cells.{nodes_of}
use Rattle.dg_meaning.specs.Facts.{value_at, kinds_of, start_facts}
use Rattle.dg_meaning.specs.Values.{Value}
use Rattle.dg_turn.specs.Told.{told_count}
use Rattle.dg_turn.specs.World.{all_words}
use Rattle.dg_turn.specs.Starts.{StartTerms}
use Rattle.dg_turn.specs.Terms.{IsTerm}
use Rattle.dg_turn.proofs.Starting.{starts_fit}
use Rattle.dg_emit.specs.inside.Left.{parts_of}
use Rattle.dg_emit.proofs.Left.{nodes_next}
use Rattle.dg_fits.proofs.Suits.{words_many, objects_many, world_counted}
use Rattle.dg_story.specs.Refusals.{build_refusal}
use Rattle.dg_story.specs.inside.World.{term_word, AllAreSmall}
use Rattle.dg_story.proofs.RefusalLemmas.{world_fits, words_fit}
use Rattle.dg_story.specs.inside.Keeping.{KeepsWords}
use Rattle.dg_story.proofs.KeptValues.{IsKept, IsFine, KeepsFine, starts_fine}
use Rattle.dg_story.proofs.Rows.{StartsFit, keeps_words}

module _ (p : CoreProgram) (sound : IsSound p) (e : build_refusal p ≡ None) where
  objects_few : length p.objects ≤ 4000
  objects_few = omega (arith, objects_many (length p.objects) p.places sound.parent, world_fits p e)

  words_few : length p.words ≤ 8191
  words_few = omega (arith, words_many p.words, words_fit p e)

  node_is : (x : term.Term-F Term) → IsNodeOf p 0 x → IsTerm x
  node_is (term.Num n) h = omega arith
  node_is (term.Word n) h = omega (arith, words_few)
  node_is (term.Object n) h = omega (arith, objects_few)
  node_is (term.Var n) h = absurd (omega arith)
  node_is (term.Pair head tail) h = tt
  node_is (term.Closure c) h = tt
  node_is term.Nil h = tt

  abbrev OfNode : Term → Type 0
  OfNode x = IsNodeOf p 0 (out-Term x)

  -- the first node of a term is the term
  term_is : (t : Term) → IsTermOf p 0 t → IsTerm (out-Term t)
  term_is t h =
      let rest = nodes_of (parts_of (out-Term t) ++ []) in
      let same : nodes t ≡ t ∷ rest = sym (append-nil (nodes t)) ∙ nodes_next t [] in
      node_is (out-Term t) (All-head OfNode t rest (subst (λ (l : List Term). All OfNode l) same h))

  start_terms : StartTerms p.places
  start_terms = λ i d lt. λ k f below. (let start : IsStartOf p _ _ = (sound.places i d lt).starts k f below in term_is _ start.value)

  -- Words of starts are words.
  word_small : (x : term.Term-F Term) → IsTerm x → term_word x < 65536
  word_small (term.Num n) h = omega arith
  word_small (term.Word n) h = omega arith
  word_small (term.Object n) h = omega arith
  word_small (term.Var n) h = omega arith
  word_small (term.Pair head tail) h = omega arith
  word_small (term.Closure c) h = omega arith
  word_small term.Nil h = omega arith

  pub all_small : AllAreSmall p.places
  all_small = λ i d lt. λ k f below. word_small _ (start_terms i d lt k f below)

  -- ## What global variables start with

  nodes_kept : (start : ℕ × Term) → IsStartOf p Global start → All IsKept (nodes start.1)
  nodes_kept start h = λ k d lt. (node_is _ (h.value k d lt), h.fits.1 k d lt)

  kept_by : (kind : PlaceKind) (start : ℕ × Term) → IsStartOf p kind start → kind ≡ Global → All IsKept (nodes start.1)
  kept_by kind start h global = nodes_kept start (subst (λ (k : PlaceKind). IsStartOf p k start) global h)

  keep_nodes : All (KeepsFine (told_count p)) p.places
  keep_nodes = λ i d lt. λ global. λ k f below. kept_by _ _ ((sound.places i d lt).starts k f below) global

  -- It is formed, and its words are words.
  globals_fine : (place : ℕ) → slice_get (kinds_of p) place ≡ Some Global → (v : Value) → value_at (start_facts p.places) place 0 ≡ Some v → IsFine (told_count p) v
  globals_fine place e v q = starts_fine (told_count p) p.places keep_nodes place e v q

  pub starts_so : StartsFit p
  starts_so = record {
    fits = starts_fit p sound start_terms;
    small = omega (arith, world_counted (length p.objects) p.places, world_fits p e);
    few = omega (arith, objects_few);
    fine = globals_fine;
  }

  -- There is room for the words of places.
  pub room_so : all_words (length p.objects) (kinds_of p) ≤ 4000
  room_so = let room = starts_so.small in omega arith

  pub words_so : KeepsWords p
  words_so = keeps_words p starts_so
