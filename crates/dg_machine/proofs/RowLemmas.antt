-- Variables in a row.
use Rattle.std.proofs.Common.{◌≡◌, ℕ, zero, suc, ◌+◌, ◌<◌, ◌≤◌, List, [], None, refl, sym, ap, ◌∙◌, subst, arith, length}
use Rattle.dg_meaning.specs.Moves.{new_vars}
use Rattle.dg_base.specs.declared.run.Limits.{Limits}
use Rattle.dg_unify.specs.Store.{State, Store, Saved, Kept, Charged}
use Rattle.dg_arena.specs.declared.arena.Arena.{Arena}
use Rattle.dg_arena.specs.Held.{meaning_of, saves_of}
use Rattle.dg_arena.specs.Rows.{VarsAt, MadeVars}
use Rattle.dg_mid.specs.declared.code.Code.{Code}
use Rattle.dg_mid.specs.State.{Mid}
use Rattle.dg_machine.specs.declared.memory.Memory.{Memory}
use Rattle.dg_machine.specs.declared.now.Row.{Row}
use Rattle.dg_machine.specs.Refs.{ValuesAt, RowAt, MadeRow, Keeps}
use Rattle.dg_unify.proofs.StoreLemmas.{kept_on}
use Rattle.dg_machine.specs.Layout.{Holds, HasRoom, Lacks, MadeRule, made_state, HasFrameRoom, heap_in}
use Rattle.dg_machine.proofs.TermLemmas.{plain_row}
use Rattle.dg_machine.proofs.Opens.{roomy, roomy_on, on_arena, refs_on}

pub new_vars_length : (n v : ℕ) → length (new_vars n v) ≡ n
new_vars_length zero v = refl
new_vars_length (suc n) v = ap suc (new_vars_length n (suc v))

-- what a row of the store has
vars_values : (s : Store) (at n k : ℕ) → VarsAt s at n k → ValuesAt s at (new_vars k n)
vars_values s at n zero h = tt
vars_values s at n (suc k) h = (h.0, vars_values s (suc at) (suc n) k h.1)

pub row_none : (s : Store) (row : Row) → row.closure ≡ None → row.captured ≡ 0 → row.count ≡ 0 → MadeRow 0 s s row
row_none s row none captured e =
    let heap : s.state.heap ≡ s.state.heap + 0 = omega arith in
    let vars : s.state.vars ≡ s.state.vars + 0 = omega arith in
    record { state = ap (λ k. record s.state { heap = k }) heap ∙ ap (λ k. record s.state { vars = k; heap = s.state.heap + 0 }) vars; row_is = plain_row s row [] none captured tt (sym e) }

pub row_made : (n : ℕ) (s t : Store) (row : Row) → MadeVars n s t row.first → row.closure ≡ None → row.captured ≡ 0 → row.count ≡ n → MadeRow n s t row
row_made n s t row x none captured e = record {
  state = x.state;
  row_is = plain_row t row (new_vars n s.state.vars) none captured (vars_values t row.first s.state.vars n x.values) (new_vars_length n s.state.vars ∙ sym e);
}

-- ## A rule

pub ruled : (code : Code) (l : Limits) (m : Mid) (n : ℕ) (row : Row) (r : Memory) (a b : Arena) → Holds code l r m → Kept (meaning_of r.arena) (meaning_of a) → ((ms : List Saved) → saves_of r.arena ms → saves_of a ms) → Charged 6 (meaning_of r.arena) (meaning_of a) →
    Keeps a b → MadeRow n (meaning_of a) (meaning_of b) row → MadeRule code l n m (record r { arena = b }) row
ruled code l m n row r a b h kept saved charged keeps made =
    let first : (meaning_of a).state ≡ record m.state { heap = m.state.heap + 6 } = charged.state ∙ ap (λ (s : State). record s { heap = s.heap + 6 }) h.0.state_is in
    let heap : m.state.heap + 6 + n ≡ m.state.heap + (6 + n) = omega arith in
    let state : (meaning_of b).state ≡ made_state n m.state = made.state ∙ ap (λ (s : State). record s { vars = s.vars + n; heap = s.heap + n }) first ∙ ap (λ k. record m.state { vars = m.state.vars + n; heap = k }) heap in
    let vars : (meaning_of a).state.vars ≡ m.state.vars = ap (λ (s : State). s.vars) first in
    let stays = on_arena code l m (record m.state { heap = m.state.heap + 6 }) r a h kept saved first (omega arith) in
    record {
      held = on_arena code l (record m { state = record m.state { heap = m.state.heap + 6 } }) (made_state n m.state) (record r { arena = a }) b stays keeps.kept keeps.saved state (omega arith);
      row_is = subst (λ k. RowAt (meaning_of b) row (new_vars n k)) vars made.row_is;
    }

pub rule_room : (n : ℕ) (row : Row) (r : Memory) (a b : Arena) → HasRoom r → Kept (meaning_of r.arena) (meaning_of a) → Charged 6 (meaning_of r.arena) (meaning_of a) → Kept (meaning_of a) (meaning_of b) → MadeRow n (meaning_of a) (meaning_of b) row → HasRoom (record r { arena = b }) × HasFrameRoom (record r { arena = b })
rule_room n row r a b h kept charged kept' made =
    let heap : (meaning_of a).state.heap ≡ heap_in r + 6 = ap (λ (s : State). s.heap) charged.state in
    let heap' : (meaning_of b).state.heap ≡ (meaning_of a).state.heap + n = ap (λ (s : State). s.heap) made.state in
    let limit = kept.heap_limit in
    let limit' = kept'.heap_limit in (
      record {
        frames_fit = omega (arith, limit, limit', h.frames_fit);
        inners_fit = omega (arith, limit, limit', h.inners_fit);
        choices_fit = omega (arith, limit, limit', h.choices_fit);
        stops_fit = omega (arith, limit, limit', h.stops_fit);
        frames_few = omega (arith, heap, heap', h.frames_few);
        inners_few = omega (arith, heap, heap', h.inners_few);
        choices_few = omega (arith, heap, heap', h.choices_few);
        stops_few = omega (arith, heap, heap', h.stops_few);
        refs = refs_on r b h (kept_on (meaning_of r.arena) (meaning_of a) (meaning_of b) kept kept') (omega (arith, heap, heap'));
      },
      omega (arith, heap, heap', h.frames_few),
    )

pub rule_lacks : (code : Code) (l : Limits) (m : Mid) (n : ℕ) (r : Memory) (a b : Arena) → Holds code l r m → Kept (meaning_of r.arena) (meaning_of a) → Charged 6 (meaning_of r.arena) (meaning_of a) → Kept (meaning_of a) (meaning_of b) → (meaning_of a).heap_limit < (meaning_of a).state.heap + n → Lacks (6 + n) l m.state.heap (record r { arena = b })
rule_lacks code l m n r a b h kept charged kept' over =
    let heap : (meaning_of a).state.heap ≡ heap_in r + 6 = ap (λ (s : State). s.heap) charged.state in
    let state : heap_in r ≡ m.state.heap = ap (λ (s : State). s.heap) h.0.state_is in
    let limit = h.0.limits.heap in
    let limit' = kept.heap_limit in
    record { over = omega (arith, over, heap, state, limit, limit'); roomy = roomy_on l (record r { arena = a }) b (roomy_on l r a (roomy code l m r h) kept) kept' }

pub lacks_more : (l : Limits) (n k heap : ℕ) (r : Memory) → n ≤ k → Lacks n l heap r → Lacks k l heap r
lacks_more l n k heap r le x = let over = x.over in record { over = omega (arith, over, le); roomy = x.roomy }
