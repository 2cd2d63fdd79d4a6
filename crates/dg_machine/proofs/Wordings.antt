-- What making a value and unifying it comes to, and which letters are read.
use Rattle.std.proofs.Common.{◌≡◌, ℕ, ◌+◌, ◌-◌, List, Some, refl, sym, ap, ◌∙◌, subst, arith}
use Rattle.dg_base.specs.declared.program.CoreProgram.{CoreProgram}
use Rattle.dg_base.specs.declared.run.Ending.TheVariants.{HeapLimit}
use Rattle.dg_base.specs.declared.run.Limits.{Limits}
use Rattle.dg_meaning.specs.Copies.{copy_cells}
use Rattle.dg_meaning.specs.Moves.{gives}
use Rattle.dg_meaning.specs.Substitutions.{walk, resolved}
use Rattle.dg_meaning.specs.Unify.{Unified}
use Rattle.dg_meaning.specs.inside.Unify.{unify}
use Rattle.dg_meaning.specs.Values.{Value}
use Rattle.dg_meaning.specs.Words.{letters_in_word, joined_letters}
use Rattle.dg_meaning.specs.World.{Game, World}
use Rattle.dg_arena.specs.Held.{meaning_of}
use Rattle.dg_arena.specs.declared.arena.Arena.{Arena}
use Rattle.dg_unify.specs.Store.{State, Store, Kept, told}
use Rattle.dg_unify.specs.declared.bindings.Ref.{Ref}
use Rattle.dg_unify.specs.declared.bindings.Full.{Full}
use Rattle.dg_unify.specs.declared.bindings.Full.TheVariants as full
use Rattle.dg_unify.proofs.StoreLemmas.{told_is, walked_to}
use Rattle.dg_texts.specs.Printing.{value_at}
use Rattle.dg_texts.specs.Spelling.{TooMany}
use Rattle.dg_mid.specs.declared.code.Code.{Code}
use Rattle.dg_mid.specs.Actions.{registers_of}
use Rattle.dg_mid.specs.Reads.{lasting_of}
use Rattle.dg_mid.specs.State.{Mid, Status, Runs as RunsOf}
use Rattle.dg_mid.specs.Step.{Setting, setting, more, bound, charged, done, unified}
use Rattle.dg_machine.specs.declared.memory.Memory.{Memory}
use Rattle.dg_machine.specs.declared.now.Now.{Now}
use Rattle.dg_machine.specs.declared.now.Now.TheVariants.{Ended}
use Rattle.dg_machine.specs.Layout.{Holds, Lacks}
use Rattle.dg_machine.specs.Standing.{Stands}
use Rattle.dg_machine.proofs.Leads.{charged_led, full_stands}
use Rattle.dg_machine.proofs.Opens.{roomy, roomy_on}

-- ## A value that is made

-- cells that are too many for the store of a machine are too many for its limits
pub made_lacks : (code : Code) (l : Limits) (m : Mid) (r : Memory) (a : Arena) (n : ℕ) → Holds code l r m → Kept (meaning_of r.arena) (meaning_of a) → (e : Full) → TooMany n (meaning_of r.arena) e → Lacks n l m.state.heap (record r { arena = a })
made_lacks code l m r a n h kept full.Heap over =
    let limit = h.0.limits.heap in
    let heap = ap (λ (s : State). s.heap) h.0.state_is in
    record { over = omega (arith, over, limit, heap); roomy = roomy_on l r a (roomy code l m r h) kept }
made_lacks code l m r a n h kept full.Trail over = absurd over
made_lacks code l m r a n h kept full.OutOfMemory over = absurd (cc over)

module _ (code : Code) (g : Game) (l : Limits) (m : Mid) (u v : Value) (w : World) where
  abbrev set_g : Setting
  set_g = setting g code l

  abbrev n_g : ℕ
  n_g = copy_cells v

  abbrev agreed_g : Unified
  agreed_g = unify m.state.subst u v

  abbrev with_heap : ℕ → Mid
  with_heap k = record m { lasting = lasting_of w; state = record m.state { heap = m.state.heap + k } }

  -- the machine with the value made
  abbrev pub made_g : Mid
  made_g = with_heap n_g

  abbrev next_g : ℕ → Status
  next_g k = unified set_g agreed_g (with_heap k) (RunsOf (bound agreed_g (with_heap k)))

  gives_is : done set_g (gives u v (registers_of m) w) m ≡ charged set_g n_g m (next_g n_g)
  gives_is = let e : m.state.heap + n_g - m.state.heap ≡ n_g = omega arith in ap (λ k. charged set_g k m (next_g k)) e

  pub gives_over : (old new : Memory) → Holds code l old m → Lacks n_g l m.state.heap new → Stands code l new (Ended HeapLimit) (done set_g (gives u v (registers_of m) w) m)
  gives_over old new h lacks = subst (Stands code l new (Ended HeapLimit)) (sym gives_is) (full_stands code g l n_g m (next_g n_g) old new h lacks)

  pub gives_led : (mid new : Memory) (now : Now) → Holds code l mid (more n_g m) → Stands code l new now (next_g n_g) → Stands code l new now (done set_g (gives u v (registers_of m) w) m)
  gives_led mid new now held stands = subst (Stands code l new now) (sym gives_is) (charged_led code g l n_g m (more n_g m) (next_g n_g) mid new now held refl stands)

-- ## Letters that are read

module _ (ws : List (List ℕ)) (p : CoreProgram) (s : Store) (m : Mid) (r : Ref) (u : Value) (e : ws ≡ p.words) (state : s.state ≡ m.state) (is : s.value r ≡ Some u) where
  pub word_letters : letters_in_word ws (walked_to s r) ≡ letters_in_word p.words (walk m.state.subst u)
  word_letters =
      ap (λ l. letters_in_word l (walked_to s r)) e
      ∙ ap (λ (x : State). letters_in_word p.words (walk x.subst (told s r))) state
      ∙ ap (λ x. letters_in_word p.words (walk m.state.subst x)) (told_is s r u is)

  pub list_letters : joined_letters ws (value_at s r) ≡ joined_letters p.words (resolved m.state.subst u)
  list_letters =
      ap (λ l. joined_letters l (value_at s r)) e
      ∙ ap (λ (x : State). joined_letters p.words (resolved x.subst (told s r))) state
      ∙ ap (λ x. joined_letters p.words (resolved m.state.subst x)) (told_is s r u is)
